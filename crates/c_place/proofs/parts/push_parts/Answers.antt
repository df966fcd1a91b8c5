use Rattle.std.proofs.Common.{◌+◌, ◌*◌, ℕ, refl, sym, ap, ◌∙◌, arith}
use Rattle.std.proofs.lemmas.List.Elements.{All-push}
use Rattle.word_graph.proofs.RunLaws.{value-constant}
use Rattle.word_nodes.proofs.NodeLaws.{worth-bit}
use Rattle.c_place.specs.declared.targets.Place.{Place}
use Rattle.c_place.specs.declared.targets.Target.{Target}
use Rattle.c_place.specs.Aims.{aim, aims}
use Rattle.c_place.specs.Boards.{LiesIn}
use Rattle.c_place.proofs.ChoiceLaws.{seen-same}
use Rattle.c_place.proofs.PartLaws.{element_aim, part-only, part-outside, part-lies, part-grown}
use Rattle.c_place.proofs.parts.push_parts.Goals as goal

pub returns-in_ok-push-in-Some-clause-there : goal.returns-in_ok-push-in-Some-clause-there
returns-in_ok-push-in-Some-clause-there c = λ ins fit.
    let g = c.args.graph.now in
    let target = c.args.target.now in
    let part = c.args.part in
    let a = aim g ins target in
    let v = value-constant g ins c.entries-entries.ensures.graph target.index.index c.in-Some.k (sym c.constant_of.ensures ∙ c.in-Some.is) in
    let place : Place = record { object = target.object; first = target.first + c.in-Some.k * target.size + part.offset; size = part.size; length = part.count } in
    let e = ap (aim g ins) c.part_target.ensures ∙ seen-same place a.guard a.guard _ _ refl (c.requires.zero ins fit) ∙ ap (λ (n : ℕ). element_aim part.offset part.size part.count a a.guard n) (sym v) in
    (part-grown g ins a part.offset part.size part.count c.args.list.now.items c.push.new.self.items c.part_target.result c.in_ok-push-in-Some.ensures.items
    (part-only a part.offset part.size part.count (aims g ins c.args.list.now.items) (aim g ins c.part_target.result)
    (worth-bit g ins target.guard c.entries-entries.ensures.graph fit c.requires.target.guard) (omega (arith, v, c.if-k-target.true)) e)).there

pub returns-in_ok-push-in-Some-clause-among : goal.returns-in_ok-push-in-Some-clause-among
returns-in_ok-push-in-Some-clause-among c = λ ins fit.
    let g = c.args.graph.now in
    let target = c.args.target.now in
    let part = c.args.part in
    let a = aim g ins target in
    let v = value-constant g ins c.entries-entries.ensures.graph target.index.index c.in-Some.k (sym c.constant_of.ensures ∙ c.in-Some.is) in
    let place : Place = record { object = target.object; first = target.first + c.in-Some.k * target.size + part.offset; size = part.size; length = part.count } in
    let e = ap (aim g ins) c.part_target.ensures ∙ seen-same place a.guard a.guard _ _ refl (c.requires.zero ins fit) ∙ ap (λ (n : ℕ). element_aim part.offset part.size part.count a a.guard n) (sym v) in
    (part-grown g ins a part.offset part.size part.count c.args.list.now.items c.push.new.self.items c.part_target.result c.in_ok-push-in-Some.ensures.items
    (part-only a part.offset part.size part.count (aims g ins c.args.list.now.items) (aim g ins c.part_target.result)
    (worth-bit g ins target.guard c.entries-entries.ensures.graph fit c.requires.target.guard) (omega (arith, v, c.if-k-target.true)) e)).among

pub returns-in_ok-push-in-Some-clause-lies : goal.returns-in_ok-push-in-Some-clause-lies
returns-in_ok-push-in-Some-clause-lies c = λ l lies h.
    let is = c.part_target.ensures in
    let part = c.args.part in
    rw c.in_ok-push-in-Some.ensures.items
    (All-push (LiesIn l) c.args.list.now.items c.part_target.result h
    (part-lies l c.args.target.now c.part_target.result part.offset part.size part.count c.in-Some.k lies c.requires.within c.if-k-target.true
    (ap (λ (t : Target). t.object) is) (ap (λ (t : Target). t.first) is) (ap (λ (t : Target). t.size) is) (ap (λ (t : Target). t.length) is)))

pub returns-else-k-target-clause-there : goal.returns-else-k-target-clause-there
returns-else-k-target-clause-there c = λ ins fit.
    let g = c.args.graph.now in
    let target = c.args.target.now in
    let part = c.args.part in
    let v = value-constant g ins c.entries-entries.ensures.graph target.index.index c.in-Some.k (sym c.constant_of.ensures ∙ c.in-Some.is) in
    (part-outside (aim g ins target) part.offset part.size part.count (aims g ins c.args.list.now.items) (omega (arith, v, c.if-k-target.false))).there
