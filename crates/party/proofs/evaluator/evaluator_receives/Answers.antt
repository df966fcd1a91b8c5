use Rattle.std.proofs.Common.{◌≡◌, ℕ, List, [], true, false, take, drop, refl, sym, subst}
use Rattle.hy_bits.specs.Words.{bits}
use Rattle.hy_bits.specs.declared.turns.Role.TheVariants.{P0, P1}
use Rattle.share_core.specs.declared.instr.InstrKind.{InstrKind}
use Rattle.share_core.specs.Conversions.{answer_label, answer_sent, own_label}
use Rattle.share_core.specs.Garbled.{wire}
use Rattle.share_core.specs.Machine.{View, rule, targets, written}
use Rattle.share_core.specs.Sizes.{sent}
use Rattle.party.specs.Steps.{view}
use Rattle.party.proofs.Listed.{joined_same, pair_same, put_same}
use Rattle.party.proofs.evaluator.evaluator_receives.Goals as goal

pub returns-in-AnswerIn : goal.returns-in-AnswerIn
returns-in-AnswerIn c = λ own.
    let i = c.args.instr.now in
    let half = c.args.half.now.words in
    let items = c.args.inbox.now.items in
    let v : View = view P1 [] c.args.codes.now c.args.slots.now c.args.offset c.args.chosen own (λ k. half) in
    let payload : List ℕ = take (answer_sent false i.width) (drop 5 items) in
    subst (λ (kind : InstrKind). c.put_wires.new.slots ≡ written c.args.slots.now (targets kind i v) ((rule kind i v).made (take (sent kind i.width P0) (drop 5 items)))) (sym c.in-AnswerIn.is)
    (put_same c.args.slots.now c.put_wires.new.slots (bits i.width) (bits i.width) _ (wire c.answer_labels_other-wires.result.b.list) (answer_label P1 false i.width c.args.chosen half payload) refl c.answer_labels_other-wires.ensures.b c.put_wires.ensures)

pub returns-in-AnswerSharesA : goal.returns-in-AnswerSharesA
returns-in-AnswerSharesA c = λ own.
    let i = c.args.instr.now in
    let half = c.args.half.now.words in
    let items = c.args.inbox.now.items in
    let v : View = view P1 [] c.args.codes.now c.args.slots.now c.args.offset c.args.chosen own (λ k. half) in
    let payload : List ℕ = take (answer_sent true i.width) (drop 5 items) in
    let wires = c.answer_labels_other-wires-in-AnswerSharesA in
    subst (λ (kind : InstrKind). c.put_pair.new.slots ≡ written c.args.slots.now (targets kind i v) ((rule kind i v).made (take (sent kind i.width P0) (drop 5 items)))) (sym c.in-AnswerSharesA.is)
    (pair_same c.args.slots.now c.put_pair.new.slots (bits i.width) _ (wire wires.result.a.list) (wire wires.result.b.list) (own_label P1 true half payload) (answer_label P1 true i.width c.args.chosen half payload) wires.ensures.a wires.ensures.b c.put_pair.ensures)

pub returns-in-AnswerSharesB : goal.returns-in-AnswerSharesB
returns-in-AnswerSharesB c = λ own.
    let i = c.args.instr.now in
    let half = c.args.half.now.words in
    let items = c.args.inbox.now.items in
    let v : View = view P1 [] c.args.codes.now c.args.slots.now c.args.offset c.args.chosen own (λ k. half) in
    let payload : List ℕ = take (answer_sent true i.width) (drop 5 items) in
    let wires = c.answer_labels_other-wires-in-AnswerSharesB in
    subst (λ (kind : InstrKind). c.put_joined.new.slots ≡ written c.args.slots.now (targets kind i v) ((rule kind i v).made (take (sent kind i.width P0) (drop 5 items)))) (sym c.in-AnswerSharesB.is)
    (joined_same c.args.slots.now c.put_joined.new.slots (bits i.width) _ (wire wires.result.a.list) (wire wires.result.b.list) (own_label P1 true half payload) (answer_label P1 true i.width c.args.chosen half payload) wires.ensures.a wires.ensures.b c.put_joined.ensures)

pub returns-in-Carries : goal.returns-in-Carries
returns-in-Carries c = λ own.
    let i = c.args.instr.now in
    let half = c.args.half.now.words in
    let items = c.args.inbox.now.items in
    let v : View = view P1 [] c.args.codes.now c.args.slots.now c.args.offset c.args.chosen own (λ k. half) in
    subst (λ (kind : InstrKind). c.carries_other.new.slots ≡ written c.args.slots.now (targets kind i v) ((rule kind i v).made (take (sent kind i.width P0) (drop 5 items)))) (sym c.in-Carries.is)
    c.carries_other.ensures
