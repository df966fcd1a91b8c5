use Rattle.std.proofs.Common.{ℕ, List, map, Bor, ap, ◌∙◌}
use Rattle.c_tree.specs.declared.token.TokenKind.TheVariants.{Mark}
use Rattle.c_tree.specs.declared.expressions.BinaryOperator.{BinaryOperator}
use Rattle.c_grammar.specs.Tokens.{operator_of}
use Rattle.c_reader.specs.Tokens.{found_of}
use Rattle.c_grammar.proofs.tables.operator_of.Goals as goal

pub returns : goal.returns
unfolding operator_of
returns c = c.found_of.ensures ∙ ap (λ (es : List (Bor (List ℕ) × BinaryOperator)). found_of Mark (map (λ e. (e.0.now, e.1)) es) c.args.token.now) c.as_slice.ensures
