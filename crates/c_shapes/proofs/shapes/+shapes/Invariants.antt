use Rattle.std.proofs.Common.{◌≡◌, ◌+◌, ◌*◌, take, drop}
use Rattle.c_meaning.specs.Types.{struct_shapes, fields_of}
use Rattle.c_shapes.proofs.Depths.{depth, depths, all_depths}
use Rattle.c_shapes.proofs.ShapeLaws.{fields_after}
use Rattle.c_shapes.proofs.shapes.+shapes.Given as goal

abbrev pub decreases-shape_below : goal.decreases-shape_below
decreases-shape_below l = l.below * (all_depths l.structs.now + 3) + (depth l.ctype.now + 1)

abbrev pub decreases-numbered : goal.decreases-numbered
decreases-numbered l = l.below * (all_depths l.structs.now + 3)

abbrev pub decreases-struct_shape : goal.decreases-struct_shape
decreases-struct_shape l = l.below * (all_depths l.structs.now + 3) + (depths l.of.now.members + 2)

abbrev pub invariant-struct_shape-loop-member : goal.invariant-struct_shape-loop-member
invariant-struct_shape-loop-member l =
    fields_after l.fields (fields_of (take l.below (struct_shapes l.structs)) (drop l.member-index l.of.members))
    ≡ fields_of (take l.below (struct_shapes l.structs)) l.of.members
