use Rattle.std.proofs.Common.{sym, ap, ◌∙◌}
use Rattle.share_core.specs.Instructions.{half_of}
use Rattle.dealer.proofs.Nothing.{nothing_second}
use Rattle.dealer.proofs.halves.second_half.Goals as goal

pub returns-in_default : goal.returns-in_default
returns-in_default c =
    c.half_with.ensures ∙ ap half_of (sym (nothing_second c.args.kind c.args.w c.args.chosen c.args.words.now c.in_default.not-InAP1 c.in_default.not-InBP1 c.in_default.not-ChooseIn c.in_default.not-ChooseA c.in_default.not-ChooseB c.in_default.not-AnswerIn c.in_default.not-AnswerSharesA c.in_default.not-AnswerSharesB c.in_default.not-AnswerToA c.in_default.not-MulA c.in_default.not-AndB))

pub returns-in-MulA : goal.returns-in-MulA
returns-in-MulA c = rw c.in-MulA.is c.triple_half.ensures
