use Rattle.std.proofs.Common.{◌≡◌, ℕ, List, ◌+◌, ◌-◌, ◌==◌, length, take, drop, if◌then◌else◌, ap, ◌∙◌, arith}
use Rattle.std.proofs.lemmas.List.{length-map}
use Rattle.word_nodes.specs.Nodes.{worth, worths}
use Rattle.word_nodes.proofs.NodeLaws.{AllStand-length, AllStand-later, worths-later}
use Rattle.c_place.specs.Accesses.{placed}
use Rattle.c_place.proofs.PlaceLaws.{map-placed, AllStand-placed, placed-chosen, worths-slice}
use Rattle.c_place.proofs.storing.store_where.Goals as goal

pub select-requires-clause-others : goal.select-requires-clause-others
select-requires-clause-others c =
    let same : length c.args.values.now ≡ length c.args.widths.now = AllStand-length _ _ _ c.requires.values in
    let count : c.args.at + length c.args.values.now - c.args.at ≡ length c.args.widths.now = omega (arith, same) in
    rw (count, c.deref.ensures.value) c.requires.others

pub place-requires : goal.place-requires
place-requires c =
    rw c.deref-2.ensures.value
    (omega (arith, AllStand-length _ _ _ c.in_ok-chosen.ensures.stands, AllStand-length _ _ _ c.requires.values, c.requires.room))

pub returns-clause-stands : goal.returns-clause-stands
returns-clause-stands c = λ ws h g.
    let many : length c.in_ok-chosen.chosen.items ≡ length c.args.widths.now = AllStand-length _ _ _ c.in_ok-chosen.ensures.stands in
    let all = AllStand-length _ _ _ h in
    rw (c.place.ensures, c.deref-2.ensures.value)
    (AllStand-placed _ ws c.args.cells.now.items c.args.at c.in_ok-chosen.chosen.items
    (AllStand-later c.in_ok-chosen.ensures.extends ws c.args.cells.now.items h)
    (rw (many, g) c.in_ok-chosen.ensures.stands)
    (omega (arith, many, all, AllStand-length _ _ _ c.requires.values, c.requires.room)))

pub returns-clause-value : goal.returns-clause-value
returns-clause-value c = λ ins ws fit h.
    let old = c.args.graph.now in
    let new = c.select.new.graph in
    let same : length c.args.values.now ≡ length c.args.widths.now = AllStand-length _ _ _ c.requires.values in
    let count : c.args.at + length c.args.values.now - c.args.at ≡ length c.args.widths.now = omega (arith, same) in
    let chosen : worths new ins c.in_ok-chosen.chosen.items ≡ (if worth old ins c.args.c == 1 then worths old ins c.args.values.now else take (length c.args.widths.now) (drop c.args.at (worths old ins c.args.cells.now.items))) =
    rw (← worths-slice old ins c.args.cells.now.items c.args.at (length c.args.widths.now)) (rw (count, c.deref.ensures.value) at (c.in_ok-chosen.ensures.value ins fit)) in
    ap (worths new ins) (c.place.ensures ∙ ap (placed c.args.cells.now.items c.args.at) c.deref-2.ensures.value)
    ∙ map-placed (worth new ins) c.args.cells.now.items c.args.at c.in_ok-chosen.chosen.items
    ∙ ap (λ (xs : List ℕ). placed xs c.args.at (worths new ins c.in_ok-chosen.chosen.items)) (worths-later c.in_ok-chosen.ensures.extends ins ws c.args.cells.now.items h)
    ∙ ap (placed (worths old ins c.args.cells.now.items) c.args.at) chosen
    ∙ placed-chosen (worth old ins c.args.c == 1) (worths old ins c.args.cells.now.items) (worths old ins c.args.values.now) c.args.at (length c.args.widths.now)
    (omega (arith, length-map c.args.cells.now.items (worth old ins), same, c.requires.room))
