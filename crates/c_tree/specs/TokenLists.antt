-- What is so of each token, and of each list of tokens.
use Rattle.std.specs.Prelude.{◌≡◌, ℕ, ◌<◌, ◌^◌, Bool, true, false, ◌&&◌, nat_lt, nat_le, List, [], ◌∷◌, length}
use Rattle.hy_bits.specs.Words.{modulus}
use Rattle.hy_bits.specs.Scalar.{scalar_width}
use Rattle.c_tree.specs.Names.{is_name}
use Rattle.c_tree.specs.declared.token.Token.{Token}
use Rattle.c_tree.specs.declared.token.TokenKind.{TokenKind}
use Rattle.c_tree.specs.declared.token.TokenKind.TheVariants.{Word, Name, TypeName, Integer, Character, Str, Mark, Bound, End}

-- the greatest number of a bound
abbrev pub greatest_bound : ℕ
greatest_bound = 2 ^ 20

-- a token that isn't the last of its list: a name's text is a name, a literal's number is a word of its scalar, and a bound's is
-- at most 2^20
abbrev pub is_inner_of : TokenKind → Token → Bool
is_inner_of Word token = true
is_inner_of Name token = is_name token.text
is_inner_of TypeName token = is_name token.text
is_inner_of Integer token = nat_lt token.number (modulus (scalar_width token.scalar))
is_inner_of Character token = nat_lt token.number (modulus (scalar_width token.scalar))
is_inner_of Str token = true
is_inner_of Mark token = true
is_inner_of Bound token = nat_le token.number greatest_bound
is_inner_of End token = false

abbrev pub is_inner : Token → Bool
is_inner token = is_inner_of token.kind token

abbrev pub is_end_kind : TokenKind → Bool
is_end_kind Word = false
is_end_kind Name = false
is_end_kind TypeName = false
is_end_kind Integer = false
is_end_kind Character = false
is_end_kind Str = false
is_end_kind Mark = false
is_end_kind Bound = false
is_end_kind End = true

-- inner tokens, and after them the end
abbrev pub is_closed : List Token → Bool
is_closed [] = false
is_closed (token ∷ []) = is_end_kind token.kind
is_closed (token ∷ next ∷ rest) = is_inner token && is_closed (next ∷ rest)

-- the tokens of a text: fewer than 2^32, the last of which, and no other, is the end
pub record IsTokenList (tokens : List Token) : Type 0 where
  pub closed : is_closed tokens ≡ true
  pub few : length tokens < 2 ^ 32
