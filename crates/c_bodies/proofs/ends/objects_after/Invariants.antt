-- What is left of a list gives what the whole gives.
use Rattle.std.proofs.Common.{◌≡◌, map, drop}
use Rattle.c_typing.specs.Walks.{along}
use Rattle.c_bodies.specs.Statements.{object_after}
use Rattle.c_bodies.proofs.ends.objects_after.Given as goal

abbrev pub invariant-loop-next : goal.invariant-loop-next
invariant-loop-next l = along (map (object_after l.of) (drop l.next-index l.list)) l.all l.env ≡ along (map (object_after l.of) l.list) l.initial.all l.initial.env
