-- What is left of a list gives what the whole gives.
use Rattle.std.proofs.Common.{◌≡◌, map, drop}
use Rattle.c_typing.specs.Walks.{along}
use Rattle.c_programs.specs.Parameters.{parameter_of}
use Rattle.c_programs.proofs.parameters.parameters_of.Given as goal

abbrev pub invariant-loop-next : goal.invariant-loop-next
invariant-loop-next l = along (map (parameter_of l.is_entry) (drop l.next-index l.list)) l.head l.env ≡ along (map (parameter_of l.is_entry) l.list) l.initial.head l.initial.env
