use Rattle.std.proofs.Common.{◌≡◌, map, drop}
use Rattle.c_meaning.specs.Uses.{all_of, assigned_in}
use Rattle.c_uses.specs.Marks.{marked, assigned_by_item, assigned_by_section}
use Rattle.c_uses.proofs.uses.+assignments.Given as goal

-- the elements that are left give the marks of all
abbrev pub invariant-mark_items-loop-item : goal.invariant-mark_items-loop-item
invariant-mark_items-loop-item l = marked l.marks (all_of (map assigned_by_item (drop l.item-index l.items))) ≡ marked l.fn.marks (all_of (map assigned_by_item l.items))

abbrev pub invariant-mark_statements-loop-statement : goal.invariant-mark_statements-loop-statement
invariant-mark_statements-loop-statement l = marked l.marks (all_of (map assigned_in (drop l.statement-index l.list))) ≡ marked l.fn.marks (all_of (map assigned_in l.list))

abbrev pub invariant-mark_sections-loop-section : goal.invariant-mark_sections-loop-section
invariant-mark_sections-loop-section l = marked l.marks (all_of (map assigned_by_section (drop l.section-index l.sections))) ≡ marked l.fn.marks (all_of (map assigned_by_section l.sections))
