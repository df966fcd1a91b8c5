use Rattle.std.proofs.Common.{sym, subst, ap, ◌∙◌}
use Rattle.c_reader.specs.Outcome.{Gives}
use Rattle.c_reader.specs.Reading.{good}
use Rattle.c_statement.specs.Levels.{read_statement}
use Rattle.c_statement.proofs.Reading.{otherwise_open, otherwise_else, otherwise_none}
use Rattle.c_statement.proofs.inner.Inner.otherwise.Goals as goal

pub returns-in_ok-without_else : goal.returns-in_ok-without_else
returns-in_ok-without_else g c =
    otherwise_open c.args.self.now.rules.left (read_statement c.args.self.now.rules.size c.args.self.now.rules.left) c.args.place c.args.condition c.args.then c.args.cursor.now (sym c.is_open.ensures ∙ c.if-is_open.true)
    ∙ ap (λ s. good s c.args.cursor.now) (sym c.in_ok-without_else.ensures)

pub returns-then-sees_word : goal.returns-then-sees_word
returns-then-sees_word g c =
    subst (λ a. Gives a c.other_part.result c.other_part.new.cursor)
    (sym (otherwise_else c.args.self.now.rules.left (read_statement c.args.self.now.rules.size c.args.self.now.rules.left) c.args.place c.args.condition c.args.then c.args.cursor.now (sym c.is_open.ensures ∙ c.if-is_open.false) (sym c.sees_word.ensures ∙ c.if-sees_word.true)))
    c.other_part.ensures

pub returns-in_ok-without_else-2 : goal.returns-in_ok-without_else-2
returns-in_ok-without_else-2 g c =
    otherwise_none c.args.self.now.rules.left (read_statement c.args.self.now.rules.size c.args.self.now.rules.left) c.args.place c.args.condition c.args.then c.args.cursor.now (sym c.is_open.ensures ∙ c.if-is_open.false) (sym c.sees_word.ensures ∙ c.if-sees_word.false)
    ∙ ap (λ s. good s c.args.cursor.now) (sym c.in_ok-without_else-2.ensures)
