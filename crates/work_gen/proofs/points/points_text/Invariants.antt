use Rattle.std.proofs.Common.{◌≡◌, ◌++◌, map}
use Rattle.std.specs.Prelude.{codes}
use Rattle.std.specs.List.{range_with_len}
use Rattle.std.specs.String.{string_bytes}
use Rattle.work_gen.specs.Texts.{point_text, separated}
use Rattle.work_gen.proofs.points.points_text.Given as goal

abbrev pub invariant-loop-i : goal.invariant-loop-i
invariant-loop-i l = string_bytes l.text ≡ codes "{\"INPUT_A_p\":[" ++ separated (map (point_text l.fn.number) (range_with_len 0 l.i))
