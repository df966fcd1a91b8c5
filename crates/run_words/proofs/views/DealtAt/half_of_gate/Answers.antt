use Rattle.std.proofs.Common.{arith, ap, ◌∙◌}
use Rattle.share_core.specs.Dealing.{drawn}
use Rattle.run_words.proofs.Gates.{drawn_gate, gate_half_is}
use Rattle.run_words.proofs.views.DealtAt.half_of_gate.Goals as goal

pub half_at-requires : goal.half_at-requires
half_at-requires c =
    omega (arith, ap (λ kind. drawn kind c.args.gate.now.width) c.gate_kind-kind.ensures ∙ drawn_gate c.args.self.now.instr.kind c.args.gate.now.width, c.gate_place-at.ensures.whole)

pub returns : goal.returns
returns c = gate_half_is _ _ _ _ _ _ _ _ _ c.gate_kind-kind.ensures c.gate_place-at.ensures.place c.half_at.ensures
