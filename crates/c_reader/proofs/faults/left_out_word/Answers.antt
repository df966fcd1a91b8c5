use Rattle.std.proofs.Common.{ℕ, List, map, Bor, ap, ◌∙◌}
use Rattle.c_tree.specs.declared.token.TokenKind.TheVariants.{Word}
use Rattle.c_reader.specs.Tokens.{found_of}
use Rattle.c_reader.proofs.faults.left_out_word.Goals as goal

pub returns : goal.returns
returns c = c.found_of.ensures ∙ ap (λ (es : List (Bor (List ℕ) × Unit {0})). found_of Word (map (λ e. (e.0.now, e.1)) es) c.args.token.now) c.as_slice.ensures
