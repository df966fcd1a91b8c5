use Rattle.std.proofs.Common.{◌∙◌, sym}
use Rattle.c_reader.proofs.Tokening.{sees_first}
use Rattle.c_grammar.proofs.tokens.sees_prefix.Goals as goal

pub returns : goal.returns
returns c = c.is_prefix.ensures ∙ sym (sees_first _ _ _ _ c.peek.ensures)
