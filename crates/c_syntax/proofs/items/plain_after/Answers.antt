use Rattle.std.proofs.Common.{sym, subst, ◌∙◌}
use Rattle.c_decl.specs.Bare.{tag_of}
use Rattle.c_reader.specs.Outcome.{Gives}
use Rattle.c_syntax.proofs.Reading.{plain_item, plain_other, plain_tag}
use Rattle.c_syntax.proofs.items.plain_after.Goals as goal

pub returns-then-not-sees_mark : goal.returns-then-not-sees_mark
returns-then-not-sees_mark c = subst (λ a. Gives a c.item_of.result c.item_of.new.cursor) (sym (plain_item c.args.rules.size c.args.rules.left c.args.specs (tag_of c.args.specs) c.args.cursor.now (sym c.sees_mark.ensures ∙ c.if-not-sees_mark.true))) c.item_of.ensures

pub returns-in-Ok : goal.returns-in-Ok
returns-in-Ok c = subst (λ a. Gives a c.tag_alone.result c.tag_alone.new.cursor) (sym (plain_tag c.args.rules.size c.args.rules.left c.args.specs (tag_of c.args.specs) c.in-Ok.tag c.args.cursor.now c.in-Ok.ensures (sym c.sees_mark.ensures ∙ c.if-not-sees_mark.false))) c.tag_alone.ensures

pub returns-in-Err : goal.returns-in-Err
returns-in-Err c = subst (λ a. Gives a c.item_of-in-Err.result c.item_of-in-Err.new.cursor) (sym (plain_other c.args.rules.size c.args.rules.left c.args.specs c.in-Err.specs (tag_of c.args.specs) c.args.cursor.now c.in-Err.ensures.0 c.in-Err.ensures.1)) c.item_of-in-Err.ensures
