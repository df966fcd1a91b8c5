use Rattle.std.proofs.Common.{◌∙◌}
use Rattle.c_grammar.proofs.Agreeing.{sees_agrees}
use Rattle.c_grammar.proofs.spelling.sees_agreeing.Goals as goal

pub returns : goal.returns
returns c = c.is_some.ensures ∙ sees_agrees _ _ _ _ _ c.peek.ensures c.agreeing.ensures
