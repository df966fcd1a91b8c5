-- What is left of a list gives what the whole gives.
use Rattle.std.proofs.Common.{◌≡◌, map, drop}
use Rattle.c_objects.specs.Initializers.{filling_of, parts_filled}
use Rattle.c_objects.proofs.filling.+fill.Given as goal

abbrev pub invariant-fill_parts-loop-part : goal.invariant-fill_parts-loop-part
invariant-fill_parts-loop-part l =
    (l.number ≡ l.part-index)
    × (parts_filled l.place l.env.structs l.ctype l.number (map (filling_of l.place) (drop l.part-index l.parts)) l.all l.env
    ≡ parts_filled l.place l.env.structs l.ctype 0 (map (filling_of l.place) l.parts) l.fn.filled l.env)
