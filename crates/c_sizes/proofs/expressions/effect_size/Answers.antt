use Rattle.std.proofs.Common.{◌∙◌, ℕ, sym, ap}
use Rattle.c_meaning.specs.declared.statements.TypedEffect.{TypedEffect}
use Rattle.c_meaning.specs.Sizes.{gates_alone}
use Rattle.c_meaning.specs.SizeFolds.{effect_size}
use Rattle.c_sizes.specs.declared.totals.Totals.{Totals}
use Rattle.c_sizes.specs.Totals.{totals_of, joined, repeated}
use Rattle.c_sizes.specs.Views.{measure_as}
use Rattle.c_sizes.proofs.Saturation.{called_as, repeated_totals}
use Rattle.c_sizes.proofs.expressions.effect_size.Goals as goal

pub returns-in-Assignment : goal.returns-in-Assignment
returns-in-Assignment c =
    c.plus.ensures ∙ ap (λ (t : Totals). joined t c.moved_size.result) c.plus-sides.ensures
    ∙ called_as _ _ _ _ _ _ _ c.locate.ensures.total c.measure.ensures.total c.moved_size.ensures (sym (ap (λ (e : TypedEffect). effect_size (measure_as c.args.m.now) e c.args.counters.now) c.in-Assignment.is))

pub returns-in-Compound : goal.returns-in-Compound
returns-in-Compound c =
    c.plus-in-Compound.ensures ∙ ap (λ (t : Totals). joined t c.gates_alone.result) c.plus-sides-in-Compound.ensures
    ∙ called_as _ _ _ _ _ _ _ c.locate-in-Compound.ensures.total c.measure-in-Compound.ensures.total (c.gates_alone.ensures ∙ ap (λ (n : ℕ). totals_of (gates_alone n)) c.integer_gates.ensures) (sym (ap (λ (e : TypedEffect). effect_size (measure_as c.args.m.now) e c.args.counters.now) c.in-Compound.is))

pub returns-in-Advance : goal.returns-in-Advance
returns-in-Advance c =
    c.plus-in-Advance.ensures ∙ ap (λ (t : Totals). joined t c.times.result) c.plus-sides-in-Advance.ensures
    ∙ called_as _ _ _ _ _ _ _ c.locate-in-Advance.ensures.total c.measure-in-Advance.ensures.total (c.times.ensures ∙ ap (repeated 2) c.access.ensures ∙ repeated_totals 2 _) (sym (ap (λ (e : TypedEffect). effect_size (measure_as c.args.m.now) e c.args.counters.now) c.in-Advance.is))
