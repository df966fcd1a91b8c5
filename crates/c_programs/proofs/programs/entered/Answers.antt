-- An entry that stands, by the shape of its result.
use Rattle.std.proofs.Common.{List, rules, ap, ◌∙◌}
use Rattle.c_meaning.specs.declared.types.StructType.{StructType}
use Rattle.c_meaning.specs.Types.{shape_of, struct_shapes}
use Rattle.c_programs.proofs.Endings.{entered_is}
use Rattle.c_programs.proofs.programs.entered.Goals as goal

pub returns : goal.returns
returns c =
    entered_is c.args.end c.args.env c.args.env.main_function c.args.ports c.in-Some-Some.main c.in-Some-Some.ports c.in-Some.function.now c.in_ok-shape.shape c.shaped.result
    (first_of (cc, search rules)) (first_of (cc, search rules)) (first_of (cc, search rules))
    (c.in_ok-shape.ensures ∙ ap (λ (structs : List StructType). shape_of (struct_shapes structs) c.in-Some.function.now.result) c.as_slice.ensures) c.shaped.ensures
