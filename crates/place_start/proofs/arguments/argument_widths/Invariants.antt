use Rattle.std.proofs.Common.{◌≡◌, ◌++◌, drop}
use Rattle.std.specs.List.{flat_map}
use Rattle.place_start.specs.Starts.{words_widths}
use Rattle.place_start.proofs.arguments.argument_widths.Given as goal

-- the widths so far, and those that are left
abbrev pub invariant-loop-argument : goal.invariant-loop-argument
invariant-loop-argument l =
    l.widths.items ++ flat_map (words_widths l.structs l.objects) (drop l.argument-index l.arguments) ≡ flat_map (words_widths l.structs l.objects) l.arguments
