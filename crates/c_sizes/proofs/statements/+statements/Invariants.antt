use Rattle.std.proofs.Common.{◌≡◌, map, take}
use Rattle.c_meaning.specs.SizeFolds.{all_sized}
use Rattle.c_sizes.specs.Totals.{totals_of}
use Rattle.c_sizes.specs.Views.{declared_as, size_of_item, size_of_statement, size_of_section}
use Rattle.c_sizes.proofs.statements.+statements.Given as goal

-- the parts so far
abbrev pub invariant-items_size-loop-item : goal.invariant-items_size-loop-item
invariant-items_size-loop-item l = l.total ≡ totals_of (all_sized (map (size_of_item (declared_as l.m)) (take l.item-index l.items)) l.counters)

abbrev pub invariant-statements_size-loop-statement : goal.invariant-statements_size-loop-statement
invariant-statements_size-loop-statement l = l.total ≡ totals_of (all_sized (map (size_of_statement (declared_as l.m)) (take l.statement-index l.list)) l.counters)

abbrev pub invariant-sections_size-loop-section : goal.invariant-sections_size-loop-section
invariant-sections_size-loop-section l = l.total ≡ totals_of (all_sized (map (size_of_section (declared_as l.m)) (take l.section-index l.sections)) l.counters)
