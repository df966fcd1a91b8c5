use Rattle.std.proofs.Common.{sym, subst, ◌∙◌}
use Rattle.c_reader.specs.Outcome.{Gives}
use Rattle.c_reader.proofs.Tokening.{sees_first}
use Rattle.c_statement.specs.Levels.{read_statement}
use Rattle.c_statement.specs.Starts.{starts_loop}
use Rattle.c_statement.proofs.Reading.{statement_loop, statement_simple}
use Rattle.c_statement.proofs.inner.Inner.statement.Goals as goal

pub returns-then-starts_loop : goal.returns-then-starts_loop
returns-then-starts_loop g c =
    subst (λ a. Gives a c.loop_statement.result c.loop_statement.new.cursor)
    (sym (statement_loop c.args.self.now.rules.size c.args.self.now.rules.left (read_statement c.args.self.now.rules.size c.args.self.now.rules.left) c.args.cursor.now
    (sym c.sees_mark.ensures ∙ c.if-sees_mark.false) (sym c.sees_mark-2.ensures ∙ c.if-sees_mark-2.false) (sym c.sees_word.ensures ∙ c.if-sees_word.false) (sym c.sees_word-else-sees_word.ensures ∙ c.if-sees_word-2.false)
    (sym c.sees_word-else-sees_word-2.ensures ∙ c.if-sees_word-3.false) (sym c.sees_word-else-sees_word-3.ensures ∙ c.if-sees_word-4.false) (sym c.sees_word-else-sees_word-4.ensures ∙ c.if-sees_word-5.false)
    (sees_first starts_loop _ _ _ c.peek.ensures ∙ sym c.starts_loop.ensures ∙ c.if-starts_loop.true)))
    c.loop_statement.ensures

pub returns-else-starts_loop : goal.returns-else-starts_loop
returns-else-starts_loop g c =
    subst (λ a. Gives a c.simple_statement.result c.simple_statement.new.cursor)
    (sym (statement_simple c.args.self.now.rules.size c.args.self.now.rules.left (read_statement c.args.self.now.rules.size c.args.self.now.rules.left) c.args.cursor.now
    (sym c.sees_mark.ensures ∙ c.if-sees_mark.false) (sym c.sees_mark-2.ensures ∙ c.if-sees_mark-2.false) (sym c.sees_word.ensures ∙ c.if-sees_word.false) (sym c.sees_word-else-sees_word.ensures ∙ c.if-sees_word-2.false)
    (sym c.sees_word-else-sees_word-2.ensures ∙ c.if-sees_word-3.false) (sym c.sees_word-else-sees_word-3.ensures ∙ c.if-sees_word-4.false) (sym c.sees_word-else-sees_word-4.ensures ∙ c.if-sees_word-5.false)
    (sees_first starts_loop _ _ _ c.peek.ensures ∙ sym c.starts_loop.ensures ∙ c.if-starts_loop.false)))
    c.simple_statement.ensures
