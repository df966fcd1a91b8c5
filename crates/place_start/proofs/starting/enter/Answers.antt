use Rattle.std.proofs.Common.{ℕ, ◌+◌, List, None, take, drop, get_or, map, subst, refl, sym, ap, ◌∙◌}
use Rattle.std.proofs.lemmas.List.{drop_all, drop_more}
use Rattle.c_meaning.specs.declared.values.Cell.{Cell}
use Rattle.word_graph.specs.declared.entry.Node.{Node}
use Rattle.word_nodes.specs.Nodes.{worths}
use Rattle.word_nodes.proofs.NodeLaws.{Extends-inputs}
use Rattle.c_place.specs.Boards.{HeldFits, Layout, cells_held, held_layout}
use Rattle.c_place.proofs.BoardLaws.{HeldFits-later, cells-later, layouts-later}
use Rattle.place_start.specs.declared.arguments.Argument.{Argument}
use Rattle.place_start.specs.Begins.{IsEntered}
use Rattle.place_start.specs.Starts.{with_arguments}
use Rattle.place_start.proofs.StepLaws.{AreZeros-later, IsOne-made, argument-within, entered-fits, entered-held, entered-layout, enters-later, enters-next, worths-drop, worths-kept}
use Rattle.place_start.proofs.starting.enter.Goals as goal

pub loop-argument-init : goal.loop-argument-init
loop-argument-init c =
    let f = c.in_ok-one.ensures.extends 0 in
    let l = map (held_layout c.args.graph.now) c.args.held.now.items in
    record {
      layout = layouts-later f l c.args.held.now.items c.requires.held;
      fits = λ k d h. HeldFits-later f l (get_or c.args.held.now.items k d) (c.requires.held k d h);
      enters = enters-later f l c.args.arguments.now c.args.words.now c.requires.arguments;
      value = λ ins fit. refl;
    }

pub enter_one-requires-clause-object : goal.enter_one-requires-clause-object
enter_one-requires-clause-object c =
    let i = c.loop-argument.invariant in
    let d : Argument = record { parameter = 0; object = 0; cells = 0; points_to = None } in
    (argument-within _ _ c.loop-argument.held.items _ _ i.layout (enters-next _ _ c.args.arguments.now _ c.loop-argument.argument-index d c.loop-argument-test.true i.enters).0).0

pub enter_one-requires-clause-parameter : goal.enter_one-requires-clause-parameter
enter_one-requires-clause-parameter c =
    let i = c.loop-argument.invariant in
    let d : Argument = record { parameter = 0; object = 0; cells = 0; points_to = None } in
    (argument-within _ _ c.loop-argument.held.items _ _ i.layout (enters-next _ _ c.args.arguments.now _ c.loop-argument.argument-index d c.loop-argument-test.true i.enters).0).1

pub loop-argument-preserved : goal.loop-argument-preserved
loop-argument-preserved c =
    let i = c.loop-argument.invariant in
    let f = c.in_ok-one.ensures.extends 0 in
    let d : Argument = record { parameter = 0; object = 0; cells = 0; points_to = None } in
    let args = c.args.arguments.now in
    let a = get_or args c.loop-argument.argument-index d in
    let rest = c.loop-argument.rest.now in
    let l = map (held_layout c.args.graph.now) c.args.held.now.items in
    let g = c.constant.new.graph in
    let old = c.loop-argument.held.items in
    let new = c.enter_one.new.held.items in
    let next = enters-next g l args rest c.loop-argument.argument-index d c.loop-argument-test.true i.enters in
    let z = AreZeros-later f c.args.zeros c.requires.zeros in
    let o = IsOne-made f c.in_ok-one.one c.in_ok-one.ensures.stands c.in_ok-one.ensures.value in
    let is : IsEntered a (take a.cells rest) c.in_ok-one.one c.args.zeros old new =
    subst (λ (ns : List Node). IsEntered a ns c.in_ok-one.one c.args.zeros old new) c.split.ensures.first c.in_ok-enter_one.ensures.objects in
    record {
      layout = entered-layout g l a rest c.in_ok-one.one c.args.zeros old new z o i.layout i.fits next.0 is;
      fits = entered-fits g l a rest c.in_ok-one.one c.args.zeros old new z o i.layout i.fits next.0 is;
      enters = rw c.split.ensures.rest next.1;
      value = λ ins fit.
          let left = drop (c.loop-argument.argument-index + 1) args in
          rw c.split.ensures.rest
          (ap (λ (ws : List ℕ). with_arguments left ws (map (cells_held g ins) new)) (worths-drop g ins rest a.cells)
          ∙ ap (λ (hs : List (List Cell)). with_arguments left (drop a.cells (worths g ins rest)) hs) (entered-held g l a rest c.in_ok-one.one c.args.zeros old new z o i.layout i.fits next.0 is ins fit)
          ∙ sym (ap (λ (bs : List Argument). with_arguments bs (worths g ins rest) (map (cells_held g ins) old)) (drop_more args c.loop-argument.argument-index d c.loop-argument-test.true))
          ∙ i.value ins fit);
    }

pub returns-clause-fits : goal.returns-clause-fits
returns-clause-fits c = λ k d h. subst (λ (l : Layout). HeldFits c.constant.new.graph l (get_or c.loop-argument.held.items k d)) (sym c.loop-argument.invariant.layout) (c.loop-argument.invariant.fits k d h)

pub returns-clause-value : goal.returns-clause-value
returns-clause-value c = λ ins fit.
    let i = c.loop-argument.invariant in
    let f = c.in_ok-one.ensures.extends 0 in
    let l = map (held_layout c.args.graph.now) c.args.held.now.items in
    let g = c.constant.new.graph in
    let args = c.args.arguments.now in
    sym (ap (λ (bs : List Argument). with_arguments bs (worths g ins c.loop-argument.rest.now) (map (cells_held g ins) c.loop-argument.held.items)) (drop_all c.loop-argument.argument-index args c.loop-argument-test.false))
    ∙ i.value ins (Extends-inputs f ins fit)
    ∙ ap (λ (ws : List ℕ). with_arguments args ws (map (cells_held g ins) c.args.held.now.items)) (worths-kept f ins c.args.words.now c.requires.stand)
    ∙ ap (λ (hs : List (List Cell)). with_arguments args (worths c.args.graph.now ins c.args.words.now) hs) (cells-later f l ins c.args.held.now.items c.requires.held)
