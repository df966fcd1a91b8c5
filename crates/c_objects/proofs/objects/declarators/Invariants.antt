-- What is left of a list gives what the whole gives.
use Rattle.std.proofs.Common.{◌≡◌, map, drop}
use Rattle.c_typing.specs.Walks.{along}
use Rattle.c_objects.specs.Objects.{declarator_after}
use Rattle.c_objects.proofs.objects.declarators.Given as goal

abbrev pub invariant-loop-next : goal.invariant-loop-next
invariant-loop-next l = along (map (declarator_after l.storage l.of) (drop l.next-index l.list)) l.all l.env ≡ along (map (declarator_after l.storage l.of) l.list) l.initial.all l.initial.env
