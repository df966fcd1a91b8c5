use Rattle.std.proofs.Common.{[]}
use Rattle.hy_bits.specs.Words.{bits}
use Rattle.hy_bits.specs.declared.turns.Role.TheVariants.{P0}
use Rattle.share_core.specs.Garbled.{input_label, wire}
use Rattle.party.proofs.Listed.{put_same}
use Rattle.party.proofs.inputs.own_y.Goals as goal

pub returns-clause-slots : goal.returns-clause-slots
returns-clause-slots c =
    put_same c.args.slots.now c.put_labels.new.slots c.bits-count.result (bits c.args.instr.now.width) _ (wire c.input_labels-labels.result.list) (input_label P0 c.args.half.now.words []) c.bits-count.ensures c.input_labels-labels.ensures.labels c.put_labels.ensures
