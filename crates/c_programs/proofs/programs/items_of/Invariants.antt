-- What is left of a list gives what the whole gives.
use Rattle.std.proofs.Common.{◌≡◌, map, drop}
use Rattle.c_typing.specs.Walks.{along}
use Rattle.c_programs.specs.Programs.{item_walk}
use Rattle.c_programs.proofs.programs.items_of.Given as goal

abbrev pub invariant-loop-next : goal.invariant-loop-next
invariant-loop-next l = along (map (item_walk l.bound) (drop l.next-index l.items)) l.ports l.env ≡ along (map (item_walk l.bound) l.items) l.initial.ports l.initial.env
