use Rattle.std.proofs.Common.{◌+◌, ◌*◌, ◌^◌, ◌≤◌, ◌<◌, arith}
use Rattle.hy_bits.specs.declared.width.Width.TheVariants.{W64}
use Rattle.word_nodes.proofs.NodeLaws.{Extends-then, Stands-later}
use Rattle.c_place.specs.declared.targets.Target.{Target}
use Rattle.c_place.proofs.BoardLaws.{IsPointer-later}
use Rattle.place_tests.proofs.FixtureLaws.{All-one, Stands-grown}
use Rattle.place_tests.proofs.pointers.second_cell.Goals as goal

pub pointer-requires-3-clause-index : goal.pointer-requires-3-clause-index
pointer-requires-3-clause-index g c = Stands-later c.in_ok-bits.ensures.extends W64 _ (Stands-grown _ _ _ _ c.in_ok-j.ensures.grows W64 _ c.in_ok-i.ensures.stands)

pub part_pointer-requires-clause-within : goal.part_pointer-requires-clause-within
part_pointer-requires-clause-within g c = rw c.in_ok-row.ensures.list (All-one (λ (t : Target). 1 + 1 * 1 ≤ t.size) _ (omega arith))

pub part_pointer-requires-clause-cells : goal.part_pointer-requires-clause-cells
part_pointer-requires-clause-cells g c = rw c.in_ok-row.ensures.list (All-one (λ (t : Target). t.first + t.length * t.size < 2 ^ 32) _ (omega arith))

pub same-requires-clause-second : goal.same-requires-clause-second
same-requires-clause-second g c = IsPointer-later c.in_ok-part.ensures.extends _ c.in_ok-cell.ensures.pointer

pub same-requires-2-clause-first : goal.same-requires-2-clause-first
same-requires-2-clause-first g c = IsPointer-later c.in_ok-is_cell.ensures.extends _ c.in_ok-part.ensures.pointer

pub same-requires-2-clause-second : goal.same-requires-2-clause-second
same-requires-2-clause-second g c = IsPointer-later (Extends-then _ _ _ _ c.in_ok-part.ensures.extends c.in_ok-is_cell.ensures.extends) _ c.in_ok-null.ensures.pointer
