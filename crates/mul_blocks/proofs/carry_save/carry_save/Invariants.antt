use Rattle.std.proofs.Common.{◌≡◌, ℕ, ◌+◌, ◌*◌, false, ◌∷◌, length, take}
use Rattle.hy_bits.specs.Bits.{sum_bit, next_carry, bitwise_three}
use Rattle.gate_net.specs.Spelled.{values, AllWithin}
use Rattle.gate_net.proofs.ListLaws.{Progress}
use Rattle.mul_blocks.proofs.carry_save.carry_save.Given as goal

abbrev pub invariant-loop-place : goal.invariant-loop-place
invariant-loop-place l =
    Progress l.fn.net l.net (5 * l.place) l.place l.sums.items (λ bits. bitwise_three sum_bit (take l.place (values l.fn.net bits l.x)) (take l.place (values l.fn.net bits l.y)) (take l.place (values l.fn.net bits l.z)))
    × Progress l.fn.net l.net (5 * l.place) l.place l.carries.items (λ bits. false ∷ bitwise_three next_carry (take l.place (values l.fn.net bits l.x)) (take l.place (values l.fn.net bits l.y)) (take l.place (values l.fn.net bits l.z)))
    × ((d : ℕ) → AllWithin l.fn.net d l.x → AllWithin l.fn.net d l.y → AllWithin l.fn.net d l.z → AllWithin l.net (d + 1) l.sums.items × AllWithin l.net (d + 1) l.carries.items)
    × (length l.sums.items ≡ l.place)
    × (length l.carries.items ≡ l.place + 1)
