use Rattle.std.proofs.Common.{◌≡◌, map, take}
use Rattle.c_meaning.specs.Types.{struct_cells}
use Rattle.place_start.specs.Starts.{argument_of}
use Rattle.place_start.proofs.arguments.arguments_of.Given as goal

-- the arguments so far
abbrev pub invariant-loop-parameter : goal.invariant-loop-parameter
invariant-loop-parameter l = l.made.items ≡ map (argument_of (struct_cells l.structs) l.objects) (take l.parameter-index l.params)
