use Rattle.std.proofs.Common.{rules, arith, sym, ap, subst, ◌∙◌, ◌≡◌, ◌*◌, ◌++◌, List, Some, slice_get}
use Rattle.hy_bits.specs.declared.scalar.Scalar.{Scalar}
use Rattle.c_shapes.proofs.Depths.{all_depths, depths, struct_depth, member_depth, before_is_less}
use Rattle.c_shapes.proofs.ScalarLaws.{scalars_at, nothing_at, one_more}
use Rattle.c_meaning.specs.Types.{scalars_of, struct_scalars}
use Rattle.c_shapes.proofs.scalars.+scalars.Goals as goal

pub add_members-add_scalars-requires : goal.add_members-add_scalars-requires
add_members-add_scalars-requires t c =
    omega (arith, c.decreases, member_depth c.args.of.now.members c.loop-member.member-index c.member-item.result (search rules) (search rules))

pub add_numbered-add_members-requires : goal.add_numbered-add_members-requires
add_numbered-add_members-requires t c =
    omega (
      arith,
      c.decreases,
      struct_depth c.args.structs.now c.args.number c.in-Some.found.now (search rules),
      before_is_less (2 * all_depths c.args.structs.now) c.args.below c.args.number (2 * depths c.in-Some.found.now.members) (omega (arith, c.if-number-below.false)) (omega (arith, struct_depth c.args.structs.now c.args.number c.in-Some.found.now (search rules))),
    )

pub add_numbered-returns-in-Some : goal.add_numbered-returns-in-Some
add_numbered-returns-in-Some t c =
    rw (scalars_at c.args.structs.now c.args.below c.args.number c.in-Some.found.now (omega (arith, c.if-number-below.false)) (search rules)) c.add_members.ensures

pub add_numbered-returns-in-None : goal.add_numbered-returns-in-None
add_numbered-returns-in-None t c =
    rw (nothing_at c.args.structs.now c.args.below c.args.number (search rules)) (search rules)
