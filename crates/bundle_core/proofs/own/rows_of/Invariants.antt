use Rattle.std.proofs.Common.{◌≡◌, map, take}
use Rattle.bundle_core.specs.Costs.{own_costs}
use Rattle.bundle_core.proofs.own.rows_of.Given as goal

abbrev pub invariant-loop-variant : goal.invariant-loop-variant
invariant-loop-variant l = l.rows.items ≡ map (own_costs l.table) (take l.variant-index l.variants)
