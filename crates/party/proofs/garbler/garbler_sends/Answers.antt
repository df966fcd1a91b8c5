use Rattle.std.proofs.Common.{◌≡◌, [], true, false, refl, sym, subst}
use Rattle.hy_bits.specs.Words.{bits}
use Rattle.hy_bits.specs.declared.turns.Role.TheVariants.{P0}
use Rattle.share_core.specs.declared.instr.InstrKind.{InstrKind}
use Rattle.share_core.specs.Conversions.{answer_label, own_label}
use Rattle.share_core.specs.Garbled.{wire}
use Rattle.share_core.specs.Machine.{View, rule, targets, written}
use Rattle.party.specs.Steps.{view}
use Rattle.party.proofs.Listed.{joined_same, pair_same, put_same}
use Rattle.party.proofs.garbler.garbler_sends.Goals as goal

pub returns-in-AnswerIn-clause-slots : goal.returns-in-AnswerIn-clause-slots
returns-in-AnswerIn-clause-slots c =
    let i = c.args.instr.now in
    let half = c.args.half.now.words in
    let v : View = view P0 [] c.args.codes.now c.args.slots.now c.args.offset c.args.chosen c.args.own (λ k. half) in
    subst (λ (kind : InstrKind). c.put_wires.new.slots ≡ written c.args.slots.now (targets kind i v) ((rule kind i v).made [])) (sym c.in-AnswerIn.is)
    (put_same c.args.slots.now c.put_wires.new.slots (bits i.width) (bits i.width) _ (wire c.answer_labels_own-wires.result.b.list) (answer_label P0 false i.width 0 half []) refl c.answer_labels_own-wires.ensures.b c.put_wires.ensures)

pub returns-in-AnswerSharesA-clause-slots : goal.returns-in-AnswerSharesA-clause-slots
returns-in-AnswerSharesA-clause-slots c =
    let i = c.args.instr.now in
    let half = c.args.half.now.words in
    let v : View = view P0 [] c.args.codes.now c.args.slots.now c.args.offset c.args.chosen c.args.own (λ k. half) in
    let wires = c.answer_labels_own-wires-in-AnswerSharesA in
    subst (λ (kind : InstrKind). c.put_pair.new.slots ≡ written c.args.slots.now (targets kind i v) ((rule kind i v).made [])) (sym c.in-AnswerSharesA.is)
    (pair_same c.args.slots.now c.put_pair.new.slots (bits i.width) _ (wire wires.result.a.list) (wire wires.result.b.list) (own_label P0 true half []) (answer_label P0 true i.width 0 half []) wires.ensures.a wires.ensures.b c.put_pair.ensures)

pub returns-in-AnswerSharesB-clause-slots : goal.returns-in-AnswerSharesB-clause-slots
returns-in-AnswerSharesB-clause-slots c =
    let i = c.args.instr.now in
    let half = c.args.half.now.words in
    let v : View = view P0 [] c.args.codes.now c.args.slots.now c.args.offset c.args.chosen c.args.own (λ k. half) in
    let wires = c.answer_labels_own-wires-in-AnswerSharesB in
    subst (λ (kind : InstrKind). c.put_joined.new.slots ≡ written c.args.slots.now (targets kind i v) ((rule kind i v).made [])) (sym c.in-AnswerSharesB.is)
    (joined_same c.args.slots.now c.put_joined.new.slots (bits i.width) _ (wire wires.result.a.list) (wire wires.result.b.list) (own_label P0 true half []) (answer_label P0 true i.width 0 half []) wires.ensures.a wires.ensures.b c.put_joined.ensures)
