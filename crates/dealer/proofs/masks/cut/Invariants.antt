use Rattle.std.proofs.Common.{◌≡◌, ◌%◌, ℕ, map, take}
use Rattle.hy_bits.specs.Words.{modulus}
use Rattle.dealer.proofs.masks.cut.Given as goal

abbrev pub invariant-loop-place : goal.invariant-loop-place
invariant-loop-place l = take l.place l.out ≡ map (λ (u : ℕ). u % modulus l.fn.w) (take l.place l.words)
