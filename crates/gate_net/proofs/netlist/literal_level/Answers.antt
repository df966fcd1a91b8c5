use Rattle.std.proofs.Common.{◌≡◌, ℕ, ◌∷◌, ◌-◌, ◌/◌, get_or, sym, ap, ◌∙◌, arith}
use Rattle.std.proofs.lemmas.Grind.{common_steps}
use Rattle.gate_net.proofs.FoldLaws.{reading-level}
use Rattle.gate_net.proofs.netlist.literal_level.Goals as goal

pub returns-then-wire-eq0-clause-value : goal.returns-then-wire-eq0-clause-value
returns-then-wire-eq0-clause-value c =
    sym (reading-level (0 ∷ c.args.variables.now) c.args.l ∙ ap (λ (w : ℕ). get_or (0 ∷ c.args.variables.now) w 0) c.if-wire-eq0.true)

pub returns-else-wire-eq0-clause-value : goal.returns-else-wire-eq0-clause-value
returns-else-wire-eq0-clause-value c =
    let tail : get_or c.args.variables.now (c.args.l.code / 2 - 1) 0 ≡ get_or (0 ∷ c.args.variables.now) (c.args.l.code / 2) 0 = grind (arith, common_steps) in
    tail ∙ sym (reading-level (0 ∷ c.args.variables.now) c.args.l)
