-- What is left of a list gives what the whole gives.
use Rattle.std.proofs.Common.{◌≡◌, map, drop}
use Rattle.c_typing.specs.Walks.{along}
use Rattle.c_objects.specs.Initializers.{values_of}
use Rattle.c_objects.proofs.values.+values.Given as goal

abbrev pub invariant-add_all-loop-next : goal.invariant-add_all-loop-next
invariant-add_all-loop-next l =
    along (map (values_of l.storage) (drop l.next-index l.parts)) l.all.items l.env ≡ along (map (values_of l.storage) l.parts) l.initial.all.items l.initial.env
