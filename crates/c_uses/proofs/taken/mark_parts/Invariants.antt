use Rattle.std.proofs.Common.{◌≡◌, drop}
use Rattle.std.specs.List.{flat_map}
use Rattle.c_meaning.specs.Uses.{taken_where}
use Rattle.c_uses.specs.Marks.{marked}
use Rattle.c_uses.proofs.taken.mark_parts.Given as goal

abbrev pub invariant-loop-part : goal.invariant-loop-part
invariant-loop-part l = marked l.marks (flat_map (λ part. taken_where part.value) (drop l.part-index l.parts)) ≡ marked l.fn.marks (flat_map (λ part. taken_where part.value) l.parts)
