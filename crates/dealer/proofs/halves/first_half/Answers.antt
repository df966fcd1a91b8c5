use Rattle.std.proofs.Common.{sym, ap, ◌∙◌}
use Rattle.share_core.specs.Instructions.{half_of}
use Rattle.dealer.proofs.Nothing.{nothing_first}
use Rattle.dealer.proofs.halves.first_half.Goals as goal

pub returns-in_default : goal.returns-in_default
returns-in_default c =
    λ chosen. c.half_with-in_default.ensures ∙ ap half_of (sym (nothing_first c.args.kind c.args.w chosen c.args.words.now c.in_default.not-Offset c.in_default.not-InAP0 c.in_default.not-InBP0 c.in_default.not-InYP0 c.in_default.not-AnswerIn c.in_default.not-AnswerSharesA c.in_default.not-AnswerSharesB c.in_default.not-AnswerToA c.in_default.not-MulA c.in_default.not-AndB))
