use Rattle.std.proofs.Common.{sym, ap, ◌∙◌, ◌++◌, ◌∷◌, [], ℕ}
use Rattle.std.proofs.lemmas.List.{append-nil}
use Rattle.share_core.specs.Machine.{listed}
use Rattle.share_plan.proofs.CodeLaws.{codes-more}
use Rattle.share_plan.proofs.words.add_codes.Goals as goal

pub loop-offset-init : goal.loop-offset-init
unfolding listed
loop-offset-init c = sym (append-nil c.args.out.now.items)

pub loop-offset-preserved : goal.loop-offset-preserved
loop-offset-preserved c =
    codes-more c.args.codes.now c.args.place c.loop-offset.offset c.args.out.now.items c.loop-offset.out.items c.push.new.self.items c.loop-offset.invariant
    (c.in_ok-push.ensures.items ∙ ap (λ (code : ℕ). c.loop-offset.out.items ++ code ∷ []) c.code_at.ensures)
