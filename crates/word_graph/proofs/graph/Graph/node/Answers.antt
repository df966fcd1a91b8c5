use Rattle.std.proofs.Common.{List, subst}
use Rattle.word_graph.specs.declared.entry.Entry.{Entry}
use Rattle.word_graph.specs.Shape.{IsGraph}
use Rattle.word_graph.specs.Term.{called_term}
use Rattle.word_graph.proofs.NodeLaws.{Takes-fits, known_place, made_term, SharesOrAdds-grown, made-width, made-value, made-stands}
use Rattle.word_graph.proofs.GrowthLaws.{SharesOrAdds-grows, SharesOrAdds-grows_in, Grows-none, GrowsIn-none}
use Rattle.word_graph.proofs.graph.Graph.node.Goals as goal

pub reduced-requires-clause-fits : goal.reduced-requires-clause-fits
reduced-requires-clause-fits c =
    rw (c.of_call-term.ensures, c.deref.ensures.value, c.self.view_is) (Takes-fits c.args.self.now c.args.op c.args.width c.args.args.now c.args.number c.requires)

pub found_or_made-requires-clause-fits : goal.found_or_made-requires-clause-fits
found_or_made-requires-clause-fits c =
    let graph : IsGraph c.args.self.now = subst (λ (es : List Entry). IsGraph es) c.self.view_is c.self.invariant.0 in
    let outcome = rw (c.of_call-term.ensures, c.deref.ensures.value, c.self.view_is) at c.in-Makes.ensures in
    let made = made_term c.args.self.now (called_term c.args.op c.args.width c.args.args.now c.args.number) c.in-Makes.made graph (Takes-fits c.args.self.now c.args.op c.args.width c.args.args.now c.args.number c.requires) outcome in
    made.fits

pub found_or_made-requires-clause-live : goal.found_or_made-requires-clause-live
found_or_made-requires-clause-live c =
    let graph : IsGraph c.args.self.now = subst (λ (es : List Entry). IsGraph es) c.self.view_is c.self.invariant.0 in
    let outcome = rw (c.of_call-term.ensures, c.deref.ensures.value, c.self.view_is) at c.in-Makes.ensures in
    let made = made_term c.args.self.now (called_term c.args.op c.args.width c.args.args.now c.args.number) c.in-Makes.made graph (Takes-fits c.args.self.now c.args.op c.args.width c.args.args.now c.args.number c.requires) outcome in
    made.live

pub returns-in-Known-clause-stands : goal.returns-in-Known-clause-stands
returns-in-Known-clause-stands c =
    let graph : IsGraph c.args.self.now = subst (λ (es : List Entry). IsGraph es) c.self.view_is c.self.invariant.0 in
    let outcome = rw (c.of_call-term.ensures, c.deref.ensures.value, c.self.view_is) at c.in-Known.ensures in
    let known = known_place c.args.self.now (called_term c.args.op c.args.width c.args.args.now c.args.number) c.in-Known.index graph (Takes-fits c.args.self.now c.args.op c.args.width c.args.args.now c.args.number c.requires) outcome in
    known.stands

pub returns-in-Known-clause-width : goal.returns-in-Known-clause-width
returns-in-Known-clause-width c =
    let graph : IsGraph c.args.self.now = subst (λ (es : List Entry). IsGraph es) c.self.view_is c.self.invariant.0 in
    let outcome = rw (c.of_call-term.ensures, c.deref.ensures.value, c.self.view_is) at c.in-Known.ensures in
    let known = known_place c.args.self.now (called_term c.args.op c.args.width c.args.args.now c.args.number) c.in-Known.index graph (Takes-fits c.args.self.now c.args.op c.args.width c.args.args.now c.args.number c.requires) outcome in
    known.width

pub returns-in-Known-clause-value : goal.returns-in-Known-clause-value
returns-in-Known-clause-value c =
    let graph : IsGraph c.args.self.now = subst (λ (es : List Entry). IsGraph es) c.self.view_is c.self.invariant.0 in
    let outcome = rw (c.of_call-term.ensures, c.deref.ensures.value, c.self.view_is) at c.in-Known.ensures in
    let known = known_place c.args.self.now (called_term c.args.op c.args.width c.args.args.now c.args.number) c.in-Known.index graph (Takes-fits c.args.self.now c.args.op c.args.width c.args.args.now c.args.number c.requires) outcome in
    known.same

pub returns-in_ok-node-in-Makes-clause-stands : goal.returns-in_ok-node-in-Makes-clause-stands
returns-in_ok-node-in-Makes-clause-stands c =
    made-stands c.found_or_made.new.self c.in-Makes.made c.in_ok-node-in-Makes.node.index c.in_ok-node-in-Makes.ensures.answer

pub returns-in_ok-node-in-Makes-clause-width : goal.returns-in_ok-node-in-Makes-clause-width
returns-in_ok-node-in-Makes-clause-width c =
    let graph : IsGraph c.args.self.now = subst (λ (es : List Entry). IsGraph es) c.self.view_is c.self.invariant.0 in
    let outcome = rw (c.of_call-term.ensures, c.deref.ensures.value, c.self.view_is) at c.in-Makes.ensures in
    let made = made_term c.args.self.now (called_term c.args.op c.args.width c.args.args.now c.args.number) c.in-Makes.made graph (Takes-fits c.args.self.now c.args.op c.args.width c.args.args.now c.args.number c.requires) outcome in
    made-width c.args.self.now c.found_or_made.new.self (called_term c.args.op c.args.width c.args.args.now c.args.number) c.in-Makes.made c.in_ok-node-in-Makes.node.index made c.in_ok-node-in-Makes.ensures.answer

pub returns-in_ok-node-in-Makes-clause-value : goal.returns-in_ok-node-in-Makes-clause-value
returns-in_ok-node-in-Makes-clause-value c =
    let graph : IsGraph c.args.self.now = subst (λ (es : List Entry). IsGraph es) c.self.view_is c.self.invariant.0 in
    let outcome = rw (c.of_call-term.ensures, c.deref.ensures.value, c.self.view_is) at c.in-Makes.ensures in
    let made = made_term c.args.self.now (called_term c.args.op c.args.width c.args.args.now c.args.number) c.in-Makes.made graph (Takes-fits c.args.self.now c.args.op c.args.width c.args.args.now c.args.number c.requires) outcome in
    let grown = SharesOrAdds-grown c.args.self.now c.found_or_made.new.self c.in-Makes.made c.args.region c.in_ok-node-in-Makes.ensures.list in
    made-value c.args.self.now c.found_or_made.new.self grown.0 (called_term c.args.op c.args.width c.args.args.now c.args.number) c.in-Makes.made c.in_ok-node-in-Makes.node.index c.in_ok-node-in-Makes.ensures.graph grown.1 made c.in_ok-node-in-Makes.ensures.answer

pub returns-in_ok-node-in-Makes-clause-grows : goal.returns-in_ok-node-in-Makes-clause-grows
returns-in_ok-node-in-Makes-clause-grows c =
    let graph : IsGraph c.args.self.now = subst (λ (es : List Entry). IsGraph es) c.self.view_is c.self.invariant.0 in
    let outcome = rw (c.of_call-term.ensures, c.deref.ensures.value, c.self.view_is) at c.in-Makes.ensures in
    let made = made_term c.args.self.now (called_term c.args.op c.args.width c.args.args.now c.args.number) c.in-Makes.made graph (Takes-fits c.args.self.now c.args.op c.args.width c.args.args.now c.args.number c.requires) outcome in
    SharesOrAdds-grows c.args.self.now c.found_or_made.new.self (called_term c.args.op c.args.width c.args.args.now c.args.number) c.in-Makes.made c.args.region made c.in_ok-node-in-Makes.ensures.list

pub returns-in_err-node-in-Makes-clause-grows : goal.returns-in_err-node-in-Makes-clause-grows
returns-in_err-node-in-Makes-clause-grows c = rw c.in_err-node-in-Makes.ensures.err (Grows-none c.args.self.now 1 _)

pub returns-in-Known-clause-made : goal.returns-in-Known-clause-made
returns-in-Known-clause-made c = λ other. GrowsIn-none c.args.region c.args.self.now 1 _

pub returns-in_err-node-in-Makes-clause-made : goal.returns-in_err-node-in-Makes-clause-made
returns-in_err-node-in-Makes-clause-made c = λ other. rw c.in_err-node-in-Makes.ensures.err (GrowsIn-none c.args.region c.args.self.now 1 _)

pub returns-in_ok-node-in-Makes-clause-made : goal.returns-in_ok-node-in-Makes-clause-made
returns-in_ok-node-in-Makes-clause-made c =
    let graph : IsGraph c.args.self.now = subst (λ (es : List Entry). IsGraph es) c.self.view_is c.self.invariant.0 in
    let outcome = rw (c.of_call-term.ensures, c.deref.ensures.value, c.self.view_is) at c.in-Makes.ensures in
    let made = made_term c.args.self.now (called_term c.args.op c.args.width c.args.args.now c.args.number) c.in-Makes.made graph (Takes-fits c.args.self.now c.args.op c.args.width c.args.args.now c.args.number c.requires) outcome in
    λ other. SharesOrAdds-grows_in c.args.self.now c.found_or_made.new.self (called_term c.args.op c.args.width c.args.args.now c.args.number) c.in-Makes.made c.args.region made other c.in_ok-node-in-Makes.ensures.list
