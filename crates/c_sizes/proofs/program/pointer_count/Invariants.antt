use Rattle.std.proofs.Common.{◌≡◌, ◌≤◌, take}
use Rattle.c_meaning.specs.SizeFolds.{pointer_count}
use Rattle.c_sizes.proofs.program.pointer_count.Given as goal

-- the objects so far
abbrev pub invariant-loop-object : goal.invariant-loop-object
invariant-loop-object l = record {
  count : l.count ≡ pointer_count (take l.object-index l.objects);
  few : l.count ≤ l.object-index;
}
