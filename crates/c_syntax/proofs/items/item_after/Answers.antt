use Rattle.std.proofs.Common.{sym, subst, ◌∙◌}
use Rattle.c_reader.specs.Outcome.{Gives}
use Rattle.c_syntax.proofs.Reading.{item_function, item_pointer, item_objects}
use Rattle.c_syntax.proofs.items.item_after.Goals as goal
use Rattle.c_syntax.proofs.items.item_after.Goals.{then-is_some-via-then-is_some, then-is_some-via-else-is_some+then-not-sees_mark}

pub returns-then-is_some : goal.returns-then-is_some
returns-then-is_some c =
    subst (λ a. Gives a c.objects_after.result c.objects_after.new.cursor)
    (sym (elim c.then-is_some.branch [
      | then-is_some-via-then-is_some w ↦ item_pointer c.args.rules.size c.args.rules.left c.args.fixed c.args.specs c.args.pointer c.args.name c.args.cursor.now (sym c.is_some.ensures ∙ w.if-is_some.true)
      | then-is_some-via-else-is_some+then-not-sees_mark w ↦ item_objects c.args.rules.size c.args.rules.left c.args.fixed c.args.specs c.args.pointer c.args.name c.args.cursor.now (sym w.sees_mark.ensures ∙ w.if-not-sees_mark.true)
    ]))
    c.objects_after.ensures

pub returns : goal.returns
returns c =
    subst (λ a. Gives a c.function_after.result c.function_after.new.cursor)
    (sym (item_function c.args.rules.size c.args.rules.left c.args.fixed c.words_of-words.result c.args.specs c.args.pointer c.args.name c.args.cursor.now (sym c.is_some.ensures ∙ c.if-is_some.false) (sym c.sees_mark.ensures ∙ c.if-not-sees_mark.false) c.words_of-words.ensures))
    c.function_after.ensures
