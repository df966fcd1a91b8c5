use Rattle.std.proofs.Common.{◌≡◌, ℕ, ◌*◌, ◌<◌, get_or, length}
use Rattle.gate_rewrite.proofs.copying.first_wires.Given as goal

abbrev pub invariant-loop-wire : goal.invariant-loop-wire
invariant-loop-wire l =
    (length l.wires.items ≡ l.wire)
    × ((k : ℕ) → k < l.wire → get_or l.wires.items k (record { code = 0 }) ≡ record { code = 2 * k })
