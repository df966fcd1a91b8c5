use Rattle.std.proofs.Common.{◌∙◌, ap, arith, length}
use Rattle.std.proofs.lemmas.List.{length_push}
use Rattle.gate_rewrite.proofs.CopyLaws.{codes-push}
use Rattle.gate_rewrite.proofs.copying.first_wires.Goals as goal

pub loop-wire-preserved : goal.loop-wire-preserved
loop-wire-preserved c = (
  ap length c.in_ok-push.ensures.items ∙ length_push c.loop-wire.wires.items _ ∙ omega (arith, c.loop-wire.invariant.0),
  codes-push c.loop-wire.wires.items c.push.new.self.items c.loop-wire.wire c.loop-wire.invariant.0 c.loop-wire.invariant.1 c.in_ok-push.ensures.items,
)
