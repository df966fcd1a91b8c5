use Rattle.std.proofs.Common.{ℕ, List, ◌∙◌, ap, take, replicate}
use Rattle.std.proofs.lemmas.List.{take-replicate}
use Rattle.hy_bits.specs.declared.turns.Role.TheVariants.{P0}
use Rattle.share_core.specs.Machine.{View, gate_share}
use Rattle.party.specs.Steps.{view}
use Rattle.party.proofs.gate_rules.gate_alone.Goals as goal

pub returns : goal.returns
returns g c = λ gates codes chosen own.
    let gate = c.args.gate.now in
    let v : View = view P0 gates codes c.args.slots.now c.args.offset chosen own (λ k. (g.H.Halves.meant c.args.halves.now P0 k).words) in
    c.gate_finish.ensures gates codes chosen own
    ∙ ap (λ (piece : List ℕ). gate_share v c.args.number gate piece gate.kind) (ap (λ (n : ℕ). take n (replicate 16 0)) c.sent.ensures.value ∙ take-replicate _ 16 0 c.requires)
