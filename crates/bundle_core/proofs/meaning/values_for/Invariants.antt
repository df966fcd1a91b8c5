use Rattle.std.proofs.Common.{◌≤◌, take}
use Rattle.std.specs.List.{All}
use Rattle.bundle_core.specs.Room.{ring_variables}
use Rattle.bundle_core.specs.declared.parts.Variant.{Variant}
use Rattle.bundle_core.proofs.meaning.values_for.Given as goal

abbrev pub invariant-loop-variant : goal.invariant-loop-variant
invariant-loop-variant l = All (λ (v : Variant). ring_variables v.ring ≤ l.most) (take l.variant-index l.variants)
