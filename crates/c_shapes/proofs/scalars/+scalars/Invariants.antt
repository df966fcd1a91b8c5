use Rattle.std.proofs.Common.{◌≡◌, ◌+◌, ◌-◌, ◌*◌, ◌++◌, take, drop}
use Rattle.c_meaning.specs.Types.{repeated, scalars_of, struct_scalars, member_scalars}
use Rattle.c_shapes.proofs.Depths.{depth, depths, all_depths}
use Rattle.c_shapes.proofs.scalars.+scalars.Given as goal

abbrev pub decreases-add_scalars : goal.decreases-add_scalars
decreases-add_scalars l = l.below * (2 * all_depths l.structs.now + 3) + (2 * depth l.ctype.now + 1)

abbrev pub decreases-add_repeated : goal.decreases-add_repeated
decreases-add_repeated l = l.below * (2 * all_depths l.structs.now + 3) + (2 * depth l.element.now + 2)

abbrev pub decreases-add_numbered : goal.decreases-add_numbered
decreases-add_numbered l = l.below * (2 * all_depths l.structs.now + 3)

abbrev pub decreases-add_members : goal.decreases-add_members
decreases-add_members l = l.below * (2 * all_depths l.structs.now + 3) + (2 * depths l.of.now.members + 2)

abbrev pub invariant-add_repeated-loop-done : goal.invariant-add_repeated-loop-done
invariant-add_repeated-loop-done l =
    l.scalars ++ repeated (l.count - l.done) (scalars_of (take l.below (struct_scalars l.structs)) l.element)
    ≡ l.initial.scalars ++ repeated l.count (scalars_of (take l.below (struct_scalars l.structs)) l.element)

abbrev pub invariant-add_members-loop-member : goal.invariant-add_members-loop-member
invariant-add_members-loop-member l =
    l.scalars ++ member_scalars (take l.below (struct_scalars l.structs)) (drop l.member-index l.of.members)
    ≡ l.initial.scalars ++ member_scalars (take l.below (struct_scalars l.structs)) l.of.members
