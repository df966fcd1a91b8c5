use Rattle.std.proofs.Common.{◌∙◌, sym}
use Rattle.c_reader.proofs.Tokening.{sees_first}
use Rattle.c_grammar.proofs.tokens.sees_type.Goals as goal

pub returns : goal.returns
returns c = c.starts_type.ensures ∙ sym (sees_first _ _ _ _ c.peek.ensures)
