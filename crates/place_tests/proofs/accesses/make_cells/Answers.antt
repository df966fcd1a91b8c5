use Rattle.std.proofs.Common.{◌≡◌, List, [], ◌∷◌, ◌++◌, sym, ap, ◌∙◌, subst}
use Rattle.std.specs.List.{All}
use Rattle.hy_bits.specs.declared.width.Width.TheVariants.{W1, W8, W16, W32, W64}
use Rattle.word_nodes.proofs.NodeLaws.{Extends-then}
use Rattle.c_place.specs.declared.cells.Board.{Board}
use Rattle.c_place.specs.declared.cells.Held.{Held}
use Rattle.c_place.specs.declared.cells.Held.TheVariants as held
use Rattle.c_place.specs.Boards.{HeldFits, layout}
use Rattle.c_place.proofs.BoardLaws.{IsZero-later, within-stand}
use Rattle.place_tests.specs.Boards.{five_words}
use Rattle.place_tests.proofs.FixtureLaws.{All-one}
use Rattle.place_tests.proofs.accesses.make_cells.Goals as goal

pub returns-in_err-nodes-clause-extends : goal.returns-in_err-nodes-clause-extends
returns-in_err-nodes-clause-extends c = Extends-then _ _ _ _ c.in_ok-zeros.ensures.extends c.in_err-nodes.ensures.extends

pub returns-in_err-push-clause-extends : goal.returns-in_err-push-clause-extends
returns-in_err-push-clause-extends c = Extends-then _ _ _ _ c.in_ok-zeros.ensures.extends c.in_ok-nodes.ensures.extends

pub returns-clause-extends : goal.returns-clause-extends
returns-clause-extends c = Extends-then _ _ _ _ c.in_ok-zeros.ensures.extends c.in_ok-nodes.ensures.extends

pub returns-clause-board : goal.returns-clause-board
returns-clause-board c =
    let new = c.make_words.new.graph in
    let f = c.in_ok-nodes.ensures.extends in
    let z = c.in_ok-zeros.ensures.zeros in
    let board : Board = record { zeros = c.in_ok-zeros.zeros; objects = c.push.new.self } in
    let items : c.push.new.self.items ≡ held.Words c.in_ok-nodes.nodes ∷ [] = c.in_ok-push.ensures.items ∙ ap (λ (xs : List Held). xs ++ held.Words c.in_ok-nodes.nodes ∷ []) c.new-objects.ensures.items in
    rw c.of.ensures
    (record {
      objects =
          subst (λ (hs : List Held). All (HeldFits new (layout new board)) hs) (sym items)
          (All-one (HeldFits new (layout new board)) (held.Words c.in_ok-nodes.nodes) (within-stand new five_words c.in_ok-nodes.nodes.items c.in_ok-nodes.ensures.words));
      w1 = IsZero-later f W1 _ z.w1;
      w8 = IsZero-later f W8 _ z.w8;
      w16 = IsZero-later f W16 _ z.w16;
      w32 = IsZero-later f W32 _ z.w32;
      w64 = IsZero-later f W64 _ z.w64;
    })
