use Rattle.std.proofs.Common.{sym, ◌∙◌}
use Rattle.c_syntax.proofs.Reading.{program_ends, program_goes_on}
use Rattle.c_syntax.proofs.items.program.Goals as goal

pub returns-then-sees_kind : goal.returns-then-sees_kind
unfolding Rattle.c_syntax.specs.Items.read_program
returns-then-sees_kind c = program_ends _ c.args.rules.left _ c.items.new.cursor _ _ c.in_ok-items.ensures c.requires (sym c.sees_kind.ensures ∙ c.if-sees_kind.true) c.peek.ensures

pub returns-else-sees_kind : goal.returns-else-sees_kind
unfolding Rattle.c_syntax.specs.Items.read_program
returns-else-sees_kind c = (λ is. program_goes_on _ c.args.rules.left _ c.items.new.cursor c.in_ok-items.ensures (sym c.sees_kind.ensures ∙ c.if-sees_kind.false), λ is. absurd (cc))
