use Rattle.std.proofs.Common.{sym, ◌∙◌}
use Rattle.choice_check.proofs.Later.{whole_is, not_later}
use Rattle.choice_check.proofs.closing.is_whole.Goals as goal

pub returns-then-is_later : goal.returns-then-is_later
returns-then-is_later c = not_later c.args.prefix.now c.args.choices.now (sym c.is_later.ensures ∙ c.if-is_later.true)

pub returns : goal.returns
returns c = whole_is c.args.prefix.now c.args.choices.now c.is_later-2.result c.if-prefix-choices.false (sym c.is_later.ensures ∙ c.if-is_later.false) c.is_later-2.ensures
