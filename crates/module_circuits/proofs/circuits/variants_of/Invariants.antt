use Rattle.std.proofs.Common.{◌≡◌, ◌≤◌, length, take}
use Rattle.std.specs.List.{sum_by}
use Rattle.gate_net.specs.Shape.{gate_limit}
use Rattle.bundle_core.specs.declared.parts.Variant.{Variant}
use Rattle.module_circuits.specs.Sums.{AreCircuits, module_size}
use Rattle.module_circuits.proofs.circuits.variants_of.Given as goal

abbrev pub invariant-loop-part : goal.invariant-loop-part
invariant-loop-part l =
    AreCircuits l.graph l.list l.variants.items
    × (length l.variants.items ≡ l.part-index)
    × (l.used.compact ≡ sum_by (λ (v : Variant). length v.compact.gates) l.variants.items)
    × (l.used.shallow ≡ sum_by (λ (v : Variant). length v.shallow.gates) l.variants.items)
    × (l.used.compact ≤ gate_limit)
    × (l.used.shallow ≤ gate_limit)
    × (l.used.compact ≤ sum_by (module_size l.graph) (take l.part-index l.list))
    × (l.used.shallow ≤ sum_by (module_size l.graph) (take l.part-index l.list))
