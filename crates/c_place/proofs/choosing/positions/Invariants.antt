use Rattle.std.proofs.Common.{take}
use Rattle.c_place.specs.Aims.{places_of}
use Rattle.c_place.specs.Choices.{IsTableOf}
use Rattle.c_place.proofs.choosing.positions.Given as goal

abbrev pub invariant-loop-number : goal.invariant-loop-number
invariant-loop-number l = IsTableOf (places_of (take l.number l.list)) l.table.entries
