use Rattle.std.proofs.Common.{[], get_or, ◌∙◌}
use Rattle.std.proofs.lemmas.List.{get_or_default}
use Rattle.hy_bits.specs.declared.op.Op.TheVariants.{In}
use Rattle.hy_bits.specs.declared.width.Width.TheVariants.{W1}
use Rattle.word_graph.specs.declared.entry.Entry.{Entry}
use Rattle.share_plan.proofs.InputLaws.{nodes-more}
use Rattle.share_plan.proofs.inputs.note_inputs.Goals as goal

abbrev nothing : Entry
nothing = record { op = In; width = W1; args = []; number = 0; region = 0 }

pub loop-place-preserved : goal.loop-place-preserved
loop-place-preserved c = record {
  size = c.note_input.ensures.size ∙ c.loop-place.invariant.size;
  nodes = nodes-more c.args.entries.now c.loop-place.place c.in_ok-count.field-0 (get_or c.args.entries.now c.loop-place.place nothing) c.loop-place.nodes c.note_input.new.nodes c.loop-place-test.true (get_or_default c.args.entries.now c.loop-place.place nothing (get_or c.args.entries.now c.loop-place.place nothing) c.loop-place-test.true) c.in_ok-count.ensures c.note_input.ensures.size c.loop-place.invariant.nodes c.note_input.ensures.each;
}
