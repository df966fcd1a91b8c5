use Rattle.std.proofs.Common.{ℕ, List, map, Bor, ap, ◌∙◌}
use Rattle.c_tree.specs.declared.token.TokenKind.TheVariants.{Word}
use Rattle.c_tree.specs.declared.expressions.TypeWord.{TypeWord}
use Rattle.c_grammar.specs.Tokens.{type_word_of}
use Rattle.c_reader.specs.Tokens.{found_of}
use Rattle.c_grammar.proofs.tables.type_word_of.Goals as goal

pub returns : goal.returns
unfolding type_word_of
returns c = c.found_of.ensures ∙ ap (λ (es : List (Bor (List ℕ) × TypeWord)). found_of Word (map (λ e. (e.0.now, e.1)) es) c.args.token.now) c.as_slice.ensures
