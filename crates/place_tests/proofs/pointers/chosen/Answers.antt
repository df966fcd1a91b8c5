use Rattle.hy_bits.specs.declared.width.Width.TheVariants.{W1, W64}
use Rattle.word_nodes.proofs.NodeLaws.{Extends-then, Stands-later}
use Rattle.c_place.proofs.BoardLaws.{IsPointer-later}
use Rattle.place_tests.proofs.FixtureLaws.{Stands-grown}
use Rattle.place_tests.proofs.pointers.chosen.Goals as goal

pub pointer-requires-3-clause-index : goal.pointer-requires-3-clause-index
pointer-requires-3-clause-index g c =
    Stands-later c.in_ok-bits.ensures.extends W64 _ (Stands-grown _ _ _ _ c.in_ok-d.ensures.grows W64 _ (Stands-grown _ _ _ _ c.in_ok-c.ensures.grows W64 _ (Stands-grown _ _ _ _ c.in_ok-j.ensures.grows W64 _ c.in_ok-i.ensures.stands)))

pub choose-requires-clause-condition : goal.choose-requires-clause-condition
choose-requires-clause-condition g c = Stands-later c.in_ok-bits.ensures.extends W1 _ (Stands-grown _ _ _ _ c.in_ok-d.ensures.grows W1 _ c.in_ok-c.ensures.stands)

pub choose-requires-2-clause-condition : goal.choose-requires-2-clause-condition
choose-requires-2-clause-condition g c = Stands-later c.in_ok-first.ensures.extends W1 _ (Stands-later c.in_ok-bits.ensures.extends W1 _ c.in_ok-d.ensures.stands)

pub choose-requires-2-clause-second : goal.choose-requires-2-clause-second
choose-requires-2-clause-second g c = IsPointer-later c.in_ok-first.ensures.extends _ c.in_ok-null.ensures.pointer

pub same-requires-clause-second : goal.same-requires-clause-second
same-requires-clause-second g c = IsPointer-later (Extends-then _ _ _ _ c.in_ok-first.ensures.extends c.in_ok-second.ensures.extends) _ c.in_ok-a.ensures.pointer

pub same-requires-2-clause-first : goal.same-requires-2-clause-first
same-requires-2-clause-first g c = IsPointer-later c.in_ok-is_a.ensures.extends _ c.in_ok-second.ensures.pointer

pub same-requires-2-clause-second : goal.same-requires-2-clause-second
same-requires-2-clause-second g c =
    IsPointer-later (Extends-then _ _ _ _ (Extends-then _ _ _ _ c.in_ok-first.ensures.extends c.in_ok-second.ensures.extends) c.in_ok-is_a.ensures.extends) _ c.in_ok-b.ensures.pointer

pub same-requires-3-clause-first : goal.same-requires-3-clause-first
same-requires-3-clause-first g c = IsPointer-later (Extends-then _ _ _ _ c.in_ok-is_a.ensures.extends c.in_ok-is_b.ensures.extends) _ c.in_ok-second.ensures.pointer

pub same-requires-3-clause-second : goal.same-requires-3-clause-second
same-requires-3-clause-second g c =
    IsPointer-later (Extends-then _ _ _ _ (Extends-then _ _ _ _ (Extends-then _ _ _ _ c.in_ok-first.ensures.extends c.in_ok-second.ensures.extends) c.in_ok-is_a.ensures.extends) c.in_ok-is_b.ensures.extends) _ c.in_ok-null.ensures.pointer
