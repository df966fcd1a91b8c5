-- What the tokens of expressions and types are read as, and that none of them is the end.
use Rattle.std.proofs.Common.{◌≡◌, ℕ, Bool, true, false, if◌then◌else◌, Option, Some, None, is_some, unwrap_or, List, refl, sym, ap}
use Rattle.c_tree.specs.declared.token.Token.{Token}
use Rattle.hy_bits.specs.declared.scalar.Scalar.{Scalar}
use Rattle.c_tree.specs.TokenLists.{is_end_kind}
use Rattle.c_tree.specs.declared.token.TokenKind.{TokenKind}
use Rattle.c_tree.specs.declared.token.TokenKind.TheVariants.{Word, Name, TypeName, Integer, Character, Str, Mark, Bound, End}
use Rattle.c_tree.specs.declared.expressions.BinaryOperator.{BinaryOperator}
use Rattle.c_tree.specs.declared.expressions.BinaryOperator.TheVariants as operator
use Rattle.c_tree.specs.declared.expressions.UnaryOperator.{UnaryOperator}
use Rattle.c_tree.specs.declared.expressions.UnaryOperator.TheVariants as prefix
use Rattle.c_tree.specs.declared.expressions.Literal.{Literal}
use Rattle.c_tree.specs.declared.expressions.Literal.TheVariants as literal
use Rattle.c_tree.specs.declared.expressions.TypeWord.{TypeWord}
use Rattle.c_tree.specs.declared.expressions.TypeWord.TheVariants as words
use Rattle.c_grammar.specs.Types.{word_at}
use Rattle.c_grammar.specs.Tokens.{prefixes, operators, type_words, prefix_of, operator_of, type_word_of, literal_by, is_prefix, is_type_word, is_literal, is_operator, is_at_level, prefix_at, literal_at, literal_of, operator_at}
use Rattle.c_reader.proofs.Tokening.{found_only}
use Rattle.c_reader.specs.Outcome.{is_end}

pub prefix_at_is : (t : Token) (v : UnaryOperator) → prefix_of t ≡ Some v → prefix_at t ≡ (t.place, v)
prefix_at_is t v e = ap (λ o. (t.place, unwrap_or o prefix.Plus)) e

pub literal_at_is : (t : Token) (v : Literal) → literal_of t ≡ Some v → literal_at t ≡ (t.place, v)
literal_at_is t v e = ap (λ o. (t.place, unwrap_or o literal.True)) e

pub type_word_at_is : (t : Token) (v : TypeWord) → type_word_of t ≡ Some v → word_at t ≡ (t.place, v)
type_word_at_is t v e = ap (λ o. (t.place, unwrap_or o words.Void)) e

pub operator_at_is : (t : Token) (v : BinaryOperator) → operator_of t ≡ Some v → operator_at t ≡ (t.place, v)
operator_at_is t v e = ap (λ o. (t.place, unwrap_or o operator.Add)) e

pub prefix_only : (t : Token) → is_prefix t ≡ true → is_end t ≡ false
unfolding prefix_of
prefix_only t e = found_only Mark prefixes refl t e

at_level_some : (level : ℕ) (o : Option BinaryOperator) → is_at_level level o ≡ true → is_some o ≡ true
at_level_some level None e = absurd (cc)
at_level_some level (Some o) e = refl

of_level_is : (b : Bool) (o : Option BinaryOperator) (v : BinaryOperator) → Some v ≡ (if b then o else None) → (b ≡ true) × (o ≡ Some v)
of_level_is true o v e = (refl, sym e)
of_level_is false o v e = absurd (cc)

of_level_none : (level : ℕ) (o : Option BinaryOperator) (b : Bool) → is_at_level level o ≡ b → None ≡ (if b then o else None) → b ≡ false
of_level_none level None true h e = absurd (cc)
of_level_none level (Some o) true h e = absurd (cc)
of_level_none level o false h e = refl

pub level_fits : (level : ℕ) (t : Token) (v : BinaryOperator) → Some v ≡ (if is_operator level t then operator_of t else None) → true ≡ is_operator level t
level_fits level t v e = sym (of_level_is _ _ v e).0

pub level_is : (level : ℕ) (t : Token) (v : BinaryOperator) → Some v ≡ (if is_operator level t then operator_of t else None) → operator_of t ≡ Some v
level_is level t v e = (of_level_is (is_operator level t) (operator_of t) v e).1

pub level_misses : (level : ℕ) (t : Token) → None ≡ (if is_operator level t then operator_of t else None) → is_operator level t ≡ false
level_misses level t e = of_level_none level (operator_of t) (is_operator level t) refl e

pub operator_only : (t : Token) → is_some (operator_of t) ≡ true → is_end t ≡ false
unfolding operator_of
operator_only t e = found_only Mark operators refl t e

pub operator_level_only : (level : ℕ) (t : Token) → is_operator level t ≡ true → is_end t ≡ false
operator_level_only level t e = operator_only t (at_level_some level (operator_of t) e)

pub type_word_only : (t : Token) → is_type_word t ≡ true → is_end t ≡ false
unfolding type_word_of
type_word_only t e = found_only Word type_words refl t e

literal_by_only : (k : TokenKind) (text : List ℕ) (scalar : Scalar) (n : ℕ) → is_some (literal_by k text scalar n) ≡ true → is_end_kind k ≡ false
unfolding literal_by
literal_by_only Word text scalar n e = refl
literal_by_only Name text scalar n e = refl
literal_by_only TypeName text scalar n e = refl
literal_by_only Integer text scalar n e = refl
literal_by_only Character text scalar n e = refl
literal_by_only Str text scalar n e = refl
literal_by_only Mark text scalar n e = refl
literal_by_only Bound text scalar n e = refl
literal_by_only End text scalar n e = absurd (cc)

pub literal_only : (t : Token) → is_literal t ≡ true → is_end t ≡ false
literal_only t e = literal_by_only t.kind t.text t.scalar t.number e
