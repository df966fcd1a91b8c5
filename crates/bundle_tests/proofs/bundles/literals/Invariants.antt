use Rattle.std.proofs.Common.{◌≡◌, ◌*◌, ◌<◌, length}
use Rattle.std.specs.List.{All}
use Rattle.gate_net.specs.declared.literal.Lit.{Lit}
use Rattle.bundle_tests.proofs.bundles.literals.Given as goal

abbrev pub invariant-loop-code : goal.invariant-loop-code
invariant-loop-code t l = All (λ (lit : Lit). lit.code < 2 * l.fn.wires) l.lits.items × (length l.lits.items ≡ l.code-index)
