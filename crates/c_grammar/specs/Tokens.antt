-- Which tokens begin or go on with what, and what single tokens are read as.
use Rattle.std.specs.Prelude.{ℕ, Bool, false, ◌&&◌, ◌||◌, ◌==◌, nat_le, List, [], ◌∷◌, Option, Some, None, is_some, codes, unwrap_or}
use Rattle.hy_bits.specs.declared.scalar.Scalar.{Scalar}
use Rattle.c_tree.specs.declared.token.Place.{Place}
use Rattle.c_tree.specs.declared.token.Token.{Token}
use Rattle.c_tree.specs.declared.token.TokenKind.{TokenKind}
use Rattle.c_tree.specs.declared.token.TokenKind.TheVariants.{Word, Name, TypeName, Integer, Character, Str, Mark, Bound, End}
use Rattle.c_tree.specs.declared.expressions.Literal.{Literal}
use Rattle.c_tree.specs.declared.expressions.Literal.TheVariants as literal
use Rattle.c_tree.specs.declared.expressions.BinaryOperator.{BinaryOperator}
use Rattle.c_tree.specs.declared.expressions.BinaryOperator.TheVariants as operator
use Rattle.c_tree.specs.declared.expressions.UnaryOperator.{UnaryOperator}
use Rattle.c_tree.specs.declared.expressions.UnaryOperator.TheVariants as prefix
use Rattle.c_tree.specs.declared.expressions.TypeWord.{TypeWord}
use Rattle.c_tree.specs.declared.expressions.TypeWord.TheVariants as words
use Rattle.c_tree.specs.Operators.{level_of}
use Rattle.c_reader.specs.Tokens.{kind_number, found_in, found_of, spelled_by, found_by}

abbrev pub operators : List (List ℕ × BinaryOperator)
operators =
    (codes "||", operator.LogicalOr) ∷ (codes "&&", operator.LogicalAnd) ∷ (codes "|", operator.Or) ∷ (codes "^", operator.Xor) ∷ (codes "&", operator.And)
    ∷ (codes "==", operator.Equal) ∷ (codes "!=", operator.Unequal) ∷ (codes "<", operator.Less) ∷ (codes ">", operator.Greater)
    ∷ (codes "<=", operator.LessOrEqual) ∷ (codes ">=", operator.GreaterOrEqual) ∷ (codes "<<", operator.ShiftLeft) ∷ (codes ">>", operator.ShiftRight)
    ∷ (codes "+", operator.Add) ∷ (codes "-", operator.Subtract) ∷ (codes "*", operator.Multiply) ∷ (codes "/", operator.Divide) ∷ (codes "%", operator.Remainder) ∷ []

unfoldable pub operator_of : Token → Option BinaryOperator
operator_of token = found_of Mark operators token

abbrev pub prefixes : List (List ℕ × UnaryOperator)
prefixes =
    (codes "+", prefix.Plus) ∷ (codes "-", prefix.Minus) ∷ (codes "~", prefix.Complement) ∷ (codes "!", prefix.Not) ∷ (codes "*", prefix.Indirection) ∷ (codes "&", prefix.Address) ∷ []

unfoldable pub prefix_of : Token → Option UnaryOperator
prefix_of token = found_of Mark prefixes token

abbrev pub type_words : List (List ℕ × TypeWord)
type_words =
    (codes "void", words.Void) ∷ (codes "_Bool", words.Underscored) ∷ (codes "bool", words.Bool) ∷ (codes "char", words.Char) ∷ (codes "signed", words.Signed)
    ∷ (codes "unsigned", words.Unsigned) ∷ (codes "short", words.Short) ∷ (codes "int", words.Int) ∷ (codes "long", words.Long)
    ∷ (codes "int8_t", words.Int8) ∷ (codes "int16_t", words.Int16) ∷ (codes "int32_t", words.Int32) ∷ (codes "int64_t", words.Int64)
    ∷ (codes "uint8_t", words.Uint8) ∷ (codes "uint16_t", words.Uint16) ∷ (codes "uint32_t", words.Uint32) ∷ (codes "uint64_t", words.Uint64) ∷ []

unfoldable pub type_word_of : Token → Option TypeWord
type_word_of token = found_of Word type_words token

abbrev pub literal_words : List (List ℕ × Literal)
literal_words = (codes "true", literal.True) ∷ (codes "false", literal.False) ∷ []

-- a literal: an integer or a character by its kind, true and false by their words
unfoldable pub literal_by : TokenKind → List ℕ → Scalar → ℕ → Option Literal
literal_by Word text scalar number = found_in literal_words text
literal_by Name text scalar number = None
literal_by TypeName text scalar number = None
literal_by Integer text scalar number = Some (literal.Integer scalar number)
literal_by Character text scalar number = Some (literal.Character scalar number)
literal_by Str text scalar number = None
literal_by Mark text scalar number = None
literal_by Bound text scalar number = None
literal_by End text scalar number = None

abbrev pub literal_of : Token → Option Literal
literal_of token = literal_by token.kind token.text token.scalar token.number

abbrev pub is_prefix : Token → Bool
is_prefix token = is_some (prefix_of token)

abbrev pub prefix_at : Token → Place × UnaryOperator
prefix_at token = (token.place, unwrap_or (prefix_of token) prefix.Plus)

abbrev pub is_literal : Token → Bool
is_literal token = is_some (literal_of token)

abbrev pub literal_at : Token → Place × Literal
literal_at token = (token.place, unwrap_or (literal_of token) literal.True)

-- an operator of this level
abbrev pub is_at_level : ℕ → Option BinaryOperator → Bool
is_at_level level None = false
is_at_level level (Some o) = level_of o == level

abbrev pub is_operator : ℕ → Token → Bool
is_operator level token = is_at_level level (operator_of token)

abbrev pub operator_at : Token → Place × BinaryOperator
operator_at token = (token.place, unwrap_or (operator_of token) operator.Add)

abbrev pub is_type_word : Token → Bool
is_type_word token = is_some (type_word_of token)

-- an index or a member follows
unfoldable pub suffix_by : TokenKind → List ℕ → Bool
suffix_by k t = spelled_by Mark (codes "[") k t || spelled_by Mark (codes ".") k t || spelled_by Mark (codes "->") k t

abbrev pub is_suffix : Token → Bool
is_suffix token = suffix_by token.kind token.text

-- the spelling of a type begins
unfoldable pub type_by : TokenKind → List ℕ → Bool
type_by k t =
    spelled_by Word (codes "const") k t || is_some (found_by Word type_words k t) || spelled_by Word (codes "struct") k t || spelled_by Word (codes "enum") k t
    || (kind_number k == kind_number TypeName)

abbrev pub starts_type : Token → Bool
starts_type token = type_by token.kind token.text

-- an expression begins
unfoldable pub expr_by : TokenKind → List ℕ → Bool
expr_by k t =
    (kind_number k == kind_number Name) || (kind_number k == kind_number Integer) || (kind_number k == kind_number Character)
    || spelled_by Word (codes "true") k t || spelled_by Word (codes "false") k t || spelled_by Mark (codes "(") k t || is_some (found_by Mark prefixes k t)

abbrev pub starts_expr : Token → Bool
starts_expr token = expr_by token.kind token.text

abbrev pub is_from_level : ℕ → Option BinaryOperator → Bool
is_from_level level None = false
is_from_level level (Some o) = nat_le level (level_of o)

-- an expression that binds so strongly goes on
unfoldable pub goes_by : ℕ → TokenKind → List ℕ → Bool
goes_by level k t = suffix_by k t || spelled_by Mark (codes "(") k t || is_from_level level (found_by Mark operators k t) || (level == 0 && spelled_by Mark (codes "?") k t)

abbrev pub goes_on : ℕ → Token → Bool
goes_on level token = goes_by level token.kind token.text

-- the spelling of a type goes on
unfoldable pub type_goes_by : TokenKind → List ℕ → Bool
type_goes_by k t = spelled_by Word (codes "const") k t || is_some (found_by Word type_words k t) || spelled_by Mark (codes "{") k t

abbrev pub type_goes_on : Token → Bool
type_goes_on token = type_goes_by token.kind token.text
