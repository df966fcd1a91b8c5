use Rattle.std.proofs.Common.{◌≡◌, drop}
use Rattle.std.specs.List.{flat_map}
use Rattle.c_meaning.specs.Uses.{declarator_takes}
use Rattle.c_uses.specs.Marks.{marked}
use Rattle.c_uses.proofs.taken.mark_declarators.Given as goal

abbrev pub invariant-loop-declared : goal.invariant-loop-declared
invariant-loop-declared l = marked l.marks (flat_map declarator_takes (drop l.declared-index l.list)) ≡ marked l.fn.marks (flat_map declarator_takes l.list)
