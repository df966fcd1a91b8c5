use Rattle.std.proofs.Common.{◌≡◌, map, take}
use Rattle.c_meaning.specs.Programs as programs
use Rattle.c_state.specs.Views.{stored_as}
use Rattle.c_plain.proofs.entry.start_objects.Given as goal

-- the objects so far
abbrev pub invariant-loop-object : goal.invariant-loop-object
invariant-loop-object l = map stored_as l.made.items ≡ map programs.start_object (take l.object-index l.objects)
