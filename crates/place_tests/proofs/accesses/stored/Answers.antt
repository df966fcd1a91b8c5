use Rattle.std.proofs.Common.{◌<◌, length, ◌∙◌}
use Rattle.hy_bits.specs.declared.width.Width.TheVariants.{W1, W32, W64}
use Rattle.word_graph.specs.declared.entry.Node.{Node}
use Rattle.word_nodes.proofs.NodeLaws.{Stands-later}
use Rattle.c_place.proofs.BoardLaws.{IsPointer-later}
use Rattle.place_tests.proofs.FixtureLaws.{Stands-grown, AreTruths-later, All-one, elements-lie, elements-read, whole-lies, whole-reads}
use Rattle.place_tests.proofs.accesses.stored.Goals as goal

pub pointer-requires-clause-truths : goal.pointer-requires-clause-truths
pointer-requires-clause-truths g c = AreTruths-later c.in_ok-cells.ensures.extends _ _ (AreTruths-later (c.in_ok-origin.ensures.extends 0) _ _ c.in_ok-bits.ensures.truths)

pub pointer-requires-clause-index : goal.pointer-requires-clause-index
pointer-requires-clause-index g c =
    Stands-later c.in_ok-cells.ensures.extends W64 _ (Stands-later (c.in_ok-origin.ensures.extends 0) W64 _ (Stands-later c.in_ok-bits.ensures.extends W64 _
    (Stands-grown _ _ _ _ c.in_ok-v.ensures.grows W64 _ (Stands-grown _ _ _ _ c.in_ok-g.ensures.grows W64 _ c.in_ok-i.ensures.stands))))

pub pointer-requires-2-clause-truths : goal.pointer-requires-2-clause-truths
pointer-requires-2-clause-truths g c = AreTruths-later c.in_ok-cells.ensures.extends _ _ (AreTruths-later (c.in_ok-origin.ensures.extends 0) _ _ c.in_ok-bits.ensures.truths)

pub pointer-requires-2-clause-index : goal.pointer-requires-2-clause-index
pointer-requires-2-clause-index g c = Stands-later c.in_ok-cells.ensures.extends W64 _ c.in_ok-origin.ensures.stands

pub store-requires-clause-within : goal.store-requires-clause-within
store-requires-clause-within g c = elements-lie _ c.in_ok-cells.ensures.layout _ _ _ c.in_ok-element.ensures.list

pub store-requires-clause-guard : goal.store-requires-clause-guard
store-requires-clause-guard g c =
    Stands-later c.in_ok-cells.ensures.extends W1 _ (Stands-later (c.in_ok-origin.ensures.extends 0) W1 _ (Stands-later c.in_ok-bits.ensures.extends W1 _ (Stands-grown _ _ _ _ c.in_ok-v.ensures.grows W1 _ c.in_ok-g.ensures.stands)))

pub store-requires-clause-stand : goal.store-requires-clause-stand
store-requires-clause-stand g c =
    let v = Stands-later c.in_ok-cells.ensures.extends W32 _ (Stands-later (c.in_ok-origin.ensures.extends 0) W32 _ (Stands-later c.in_ok-bits.ensures.extends W32 _ c.in_ok-v.ensures.stands)) in
    All-one (λ (n : Node). n.index < length c.make_cells.new.graph) c.in_ok-v.v v.within

pub store-requires-clause-widths : goal.store-requires-clause-widths
store-requires-clause-widths g c =
    let v = Stands-later c.in_ok-cells.ensures.extends W32 _ (Stands-later (c.in_ok-origin.ensures.extends 0) W32 _ (Stands-later c.in_ok-bits.ensures.extends W32 _ c.in_ok-v.ensures.stands)) in
    rw v.width (elements-read _ c.in_ok-cells.ensures.layout _ _ _ c.in_ok-element.ensures.list)

pub load-requires-clause-pointer : goal.load-requires-clause-pointer
load-requires-clause-pointer g c = IsPointer-later c.in_ok-store.ensures.extends _ c.in_ok-whole.ensures.pointer

pub load-requires-clause-within : goal.load-requires-clause-within
load-requires-clause-within g c = whole-lies _ (c.in_ok-store.ensures.layout ∙ c.in_ok-cells.ensures.layout) _ _ _ c.in_ok-whole.ensures.list

pub load-requires-clause-widths : goal.load-requires-clause-widths
load-requires-clause-widths g c = whole-reads _ (c.in_ok-store.ensures.layout ∙ c.in_ok-cells.ensures.layout) _ _ _ c.in_ok-whole.ensures.list
