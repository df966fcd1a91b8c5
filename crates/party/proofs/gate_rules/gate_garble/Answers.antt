use Rattle.std.proofs.Common.{◌∙◌}
use Rattle.hy_bits.specs.declared.turns.Role.TheVariants.{P0}
use Rattle.share_core.specs.Machine.{View}
use Rattle.party.specs.Steps.{view}
use Rattle.party.proofs.LevelSteps.{and_kind, product_kind}
use Rattle.party.proofs.gate_rules.gate_garble.Goals as goal

pub returns-in-MulA-clause-share : goal.returns-in-MulA-clause-share
returns-in-MulA-clause-share g c = λ gates codes chosen own.
    let v : View = view P0 gates codes c.args.slots.now c.args.offset chosen own (λ k. (g.H.Halves.meant c.args.halves.now P0 k).words) in
    c.gate_alone.ensures gates codes chosen own ∙ product_kind v c.args.number c.args.gate.now c.in-MulA.is

pub returns-in-AndB-clause-share : goal.returns-in-AndB-clause-share
returns-in-AndB-clause-share g c = λ gates codes chosen own.
    let v : View = view P0 gates codes c.args.slots.now c.args.offset chosen own (λ k. (g.H.Halves.meant c.args.halves.now P0 k).words) in
    c.gate_alone-in-AndB.ensures gates codes chosen own ∙ and_kind v c.args.number c.args.gate.now c.in-AndB.is
