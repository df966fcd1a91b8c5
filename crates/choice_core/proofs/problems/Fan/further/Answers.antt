use Rattle.std.proofs.Common.{◌||◌, Bool, cond, sym, ap, ◌∙◌}
use Rattle.choice_core.specs.declared.sharings.Sharing.TheVariants.{Arithmetic, Boolean, Yao}
use Rattle.choice_core.specs.Choices.{same_sharing}
use Rattle.choice_core.specs.Problems.{price_of}
use Rattle.choice_core.specs.Bound.{further_from}
use Rattle.choice_core.proofs.problems.Fan.further.Goals as goal

pub returns-in_default : goal.returns-in_default
unfolding further_from
returns-in_default c Arithmetic = ap (further_from c.args.self.now c.args.prefix.now Arithmetic) (sym c.in_default.is ∙ c.sharing_at.ensures)
returns-in_default c Boolean = ap (further_from c.args.self.now c.args.prefix.now Boolean) (sym c.in_default.is ∙ c.sharing_at.ensures)
returns-in_default c Yao = ap (further_from c.args.self.now c.args.prefix.now Yao) (sym c.in_default.is ∙ c.sharing_at.ensures)

pub returns : goal.returns
unfolding further_from
returns c Arithmetic =
    c.price_unless.ensures ∙ ap (λ (b : Bool). cond (b || same_sharing Arithmetic c.in-Some.from) 0 (price_of c.args.self.now c.in-Some.from Arithmetic)) (c.reached.ensures Arithmetic)
    ∙ ap (further_from c.args.self.now c.args.prefix.now Arithmetic) (sym c.in-Some.is ∙ c.sharing_at.ensures)
returns c Boolean =
    c.price_unless-2.ensures ∙ ap (λ (b : Bool). cond (b || same_sharing Boolean c.in-Some.from) 0 (price_of c.args.self.now c.in-Some.from Boolean)) (c.reached.ensures Boolean)
    ∙ ap (further_from c.args.self.now c.args.prefix.now Boolean) (sym c.in-Some.is ∙ c.sharing_at.ensures)
returns c Yao =
    c.price_unless-3.ensures ∙ ap (λ (b : Bool). cond (b || same_sharing Yao c.in-Some.from) 0 (price_of c.args.self.now c.in-Some.from Yao)) (c.reached.ensures Yao)
    ∙ ap (further_from c.args.self.now c.args.prefix.now Yao) (sym c.in-Some.is ∙ c.sharing_at.ensures)
