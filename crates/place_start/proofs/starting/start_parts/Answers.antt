use Rattle.std.proofs.Common.{◌≡◌, ℕ, List, ◌+◌, ◌≤◌, length, map, take, get_or, subst, sym, ap, ◌∙◌, arith}
use Rattle.std.specs.List.{All}
use Rattle.word_graph.specs.declared.entry.Node.{Node}
use Rattle.word_graph.proofs.GrowthLaws.{Grows-then, Grows-within}
use Rattle.word_nodes.specs.Nodes.{AllStand, worths}
use Rattle.word_nodes.proofs.NodeLaws.{AllStand-later, Extends-inputs, Extends-inputs_before, Extends-then, worths-later}
use Rattle.c_meaning.specs.declared.values.Cell.{Cell}
use Rattle.c_place.specs.Boards.{HeldFits, Layout, cells_held, held_layout}
use Rattle.c_place.proofs.BoardLaws.{within-stand}
use Rattle.place_start.specs.declared.arguments.Argument.{Argument}
use Rattle.place_start.specs.Begins.{Enters}
use Rattle.place_start.specs.Starts.{main_arguments, main_widths, object_layout, program_layout, start_held, with_arguments}
use Rattle.place_start.proofs.StepLaws.{AreZeros-later, grown-of}
use Rattle.place_start.proofs.TypedLaws.{program-enters, program-starts, program-words}
use Rattle.place_start.proofs.starting.start_parts.Goals as goal

pub returns-in_err-main-clause-grows : goal.returns-in_err-main-clause-grows
returns-in_err-main-clause-grows c = Grows-within _ _ _ _ _ _ c.in_err-main.ensures.grows (omega arith) (omega arith)

pub returns-in_err-zeros-clause-grows : goal.returns-in_err-zeros-clause-grows
returns-in_err-zeros-clause-grows c =
    Grows-within _ _ _ _ _ _ (Grows-then _ _ _ _ _ _ _ c.in_ok-main.ensures.grows (grown-of c.in_err-zeros.ensures.extends 5 c.in_err-zeros.ensures.nodes c.in_err-zeros.ensures.gates)) (omega arith) (omega arith)

pub start_objects-requires : goal.start_objects-requires
start_objects-requires c = rw (c.as_slice-structs.ensures, c.as_slice-objects.ensures) (program-starts c.args.parts.now c.requires)

pub enter-requires-clause-zeros : goal.enter-requires-clause-zeros
enter-requires-clause-zeros c = AreZeros-later c.in_ok-held.ensures.extends c.in_ok-zeros.zeros c.in_ok-zeros.ensures.zeros

pub enter-requires-clause-stand : goal.enter-requires-clause-stand
enter-requires-clause-stand c =
    rw c.as_slice-words.ensures.value
    (within-stand _ (main_widths c.args.parts.now) c.in_ok-main.main.words.items
    (AllStand-later c.in_ok-held.ensures.extends _ _ (AllStand-later c.in_ok-zeros.ensures.extends _ _ c.in_ok-main.ensures.stand)))

pub enter-requires-clause-arguments : goal.enter-requires-clause-arguments
enter-requires-clause-arguments c =
    let g = c.start_objects.new.graph in
    let lay : map (held_layout g) c.in_ok-held.held.items ≡ program_layout c.args.parts.now = rw (c.as_slice-structs.ensures, c.as_slice-objects.ensures) at c.in_ok-held.ensures.layout in
    let stand = AllStand-later c.in_ok-held.ensures.extends _ _ (AllStand-later c.in_ok-zeros.ensures.extends _ _ c.in_ok-main.ensures.stand) in
    rw (c.as_slice-words.ensures.value, c.as_slice-arguments.ensures.value, c.in_ok-main.ensures.arguments)
    (subst (λ (l : Layout). Enters g l (main_arguments c.args.parts.now) c.in_ok-main.main.words.items) (sym lay) (program-enters c.args.parts.now c.requires g c.in_ok-main.main.words.items stand))

pub returns-clause-board : goal.returns-clause-board
returns-clause-board c =
    let z = AreZeros-later c.in_ok-enter.ensures.extends c.in_ok-zeros.zeros (AreZeros-later c.in_ok-held.ensures.extends c.in_ok-zeros.zeros c.in_ok-zeros.ensures.zeros) in
    rw c.of.ensures
    (record {
      objects = c.in_ok-enter.ensures.fits;
      w1 = z.w1;
      w8 = z.w8;
      w16 = z.w16;
      w32 = z.w32;
      w64 = z.w64;
    })

pub returns-clause-objects : goal.returns-clause-objects
returns-clause-objects c = λ ins fit.
    let m = c.in_ok-main.ensures in
    let p = c.args.parts.now in
    let f1 = c.in_ok-zeros.ensures.extends in
    let f2 = c.in_ok-held.ensures.extends in
    let two = Extends-inputs_before c.in_ok-enter.ensures.extends ins fit in
    let one = Extends-inputs_before f2 ins two in
    let g = c.start_objects.new.graph in
    let as' = main_arguments p in
    let hs = map (cells_held g ins) c.in_ok-held.held.items in
    let begun : hs ≡ map start_held p.objects = rw c.as_slice-objects.ensures at (c.in_ok-held.ensures.value ins one) in
    rw c.of.ensures
    (c.in_ok-enter.ensures.value ins two
    ∙ ap (λ (bs : List Argument). with_arguments bs (worths g ins c.as_slice-words.result.now) hs) (c.as_slice-arguments.ensures.value ∙ m.arguments)
    ∙ ap (λ (ns : List Node). with_arguments as' (worths g ins ns) hs) c.as_slice-words.ensures.value
    ∙ ap (λ (ws : List ℕ). with_arguments as' ws hs) (worths-later (Extends-then _ _ _ _ f1 f2) ins (main_widths p) c.in_ok-main.main.words.items m.stand ∙ m.value ins (Extends-inputs_before f1 ins one))
    ∙ ap (λ (cs : List (List Cell)). with_arguments as' (take (length (main_widths p)) ins) cs) begun
    ∙ program-words p c.requires ins (map start_held p.objects))

pub returns-clause-there : goal.returns-clause-there
returns-clause-there c = λ ins fit.
    c.in_ok-main.ensures.there ins (Extends-inputs_before c.in_ok-zeros.ensures.extends ins (Extends-inputs_before c.in_ok-held.ensures.extends ins (Extends-inputs_before c.in_ok-enter.ensures.extends ins fit)))

pub returns-clause-fit : goal.returns-clause-fit
returns-clause-fit c = λ ins fit has.
    Extends-inputs c.in_ok-enter.ensures.extends ins (Extends-inputs c.in_ok-held.ensures.extends ins (Extends-inputs c.in_ok-zeros.ensures.extends ins (c.in_ok-main.ensures.fit ins fit has)))
