-- Guards of which one or the other holds.
use Rattle.std.proofs.Common.{◌≡◌, ℕ, zero, suc, ◌≤◌, sym, ap, ◌∙◌, arith}
use Rattle.exec_state.specs.Leave.{either_guard}

pub either_zero : (y : ℕ) → either_guard 0 y ≡ y
either_zero y = omega arith

pub either_none : (x : ℕ) → either_guard x 0 ≡ x
either_none x = omega arith

either_one : (y : ℕ) → either_guard 1 y ≡ 1
either_one y = omega arith

pub either_assoc : (x y z : ℕ) → x ≤ 1 → either_guard (either_guard x y) z ≡ either_guard x (either_guard y z)
either_assoc zero y z h = ap (λ n. either_guard n z) (either_zero y) ∙ sym (either_zero (either_guard y z))
either_assoc (suc zero) y z h = ap (λ n. either_guard n z) (either_one y) ∙ either_one z ∙ sym (either_one (either_guard y z))
either_assoc (suc (suc x)) y z h = absurd (omega arith)

pub either_bit : (x y : ℕ) → x ≤ 1 → y ≤ 1 → either_guard x y ≤ 1
either_bit zero y hx hy = omega arith
either_bit (suc zero) y hx hy = omega arith
either_bit (suc (suc x)) y hx hy = absurd (omega arith)
