use Rattle.std.proofs.Common.{rules, arith, sym, ◌∙◌, ◌≡◌, Some, slice_get}
use Rattle.c_shapes.proofs.Depths.{all_depths, depths, struct_depth, member_depth, before_is_less}
use Rattle.c_shapes.proofs.ShapeLaws.{shape_at, nothing_at, nothing_after}
use Rattle.c_shapes.proofs.shapes.+shapes.Goals as goal

pub numbered-struct_shape-requires : goal.numbered-struct_shape-requires
numbered-struct_shape-requires t c =
    omega (arith, c.decreases, before_is_less (all_depths c.args.structs.now) c.args.below c.args.number (depths c.in-Some.found.now.members) (omega (arith, c.if-number-below.false)) (struct_depth c.args.structs.now c.args.number c.in-Some.found.now (search rules)))

pub struct_shape-shape_below-requires : goal.struct_shape-shape_below-requires
struct_shape-shape_below-requires t c =
    omega (arith, c.decreases, member_depth c.args.of.now.members c.loop-member.member-index c.member-item.result (search rules) (search rules))

pub numbered-returns-in-Some : goal.numbered-returns-in-Some
numbered-returns-in-Some t c =
    rw (shape_at c.args.structs.now c.args.below c.args.number c.in-Some.found.now (omega (arith, c.if-number-below.false)) (search rules)) c.struct_shape.ensures

pub numbered-returns-in-None : goal.numbered-returns-in-None
numbered-returns-in-None t c =
    sym (nothing_at c.args.structs.now c.args.below c.args.number (search rules))
