-- The sources that are run: a function that returns the sum of its two parameters and of literals, each any number of
-- times (C11 6.9.1, cut down):
--   unsigned mpc_main(unsigned INPUT_A.., unsigned INPUT_B..) { return T + T + .. ; }
use Rattle.std.specs.Prelude.{ℕ, ◌%◌, ◌^◌, Bool, true, false, ◌&&◌, List, [], ◌∷◌, sum_by, Option, None, Some, Result, Ok, Err, if◌then◌else◌, nat_eq, nat_lt, codes}
use Rattle.std.specs.List.{starts_with}
use Rattle.std.specs.Option.{option_and_then, option_map}
use Rattle.std.specs.Str.{bytes_eq}
use Rattle.hy_bits.specs.declared.scalar.Scalar.{Scalar}
use Rattle.hy_bits.specs.declared.scalar.Scalar.TheVariants.{B1, S8, U8, S16, U16, S32, U32, S64, U64}
use Rattle.c_tree.specs.declared.token.Token.{Token}
use Rattle.c_tree.specs.declared.token.TokenKind.{TokenKind}
use Rattle.c_tree.specs.declared.token.TokenKind.TheVariants.{Word, Name, TypeName, Integer, Character, Str, Mark, Bound, End}
use Rattle.c_lex.specs.Lexing.{tokens_of}
use Rattle.hycc_top.specs.declared.source.Term.{Term}
use Rattle.hycc_top.specs.declared.source.Term.TheVariants.{A, B, Literal}

-- what a source says: the names of the two parameters, and the terms of the sum
pub record Summed : Type 0 where
  pub a : List ℕ
  pub b : List ℕ
  pub terms : List Term

-- the tokens behind a token of this text
abbrev pub expect : List ℕ → List Token → Option (List Token)
expect text [] = None
expect text (token ∷ rest) = if bytes_eq token.text text then Some rest else None

-- a name that begins so, and the tokens behind it
abbrev pub name_with : List ℕ → List Token → Option (List ℕ × List Token)
name_with prefix [] = None
name_with prefix (token ∷ rest) = if starts_with nat_eq token.text prefix then Some (token.text, rest) else None

-- `unsigned`, a name that begins so, and the tokens behind them
abbrev pub parameter : List ℕ → List Token → Option (List ℕ × List Token)
parameter prefix tokens = option_and_then (name_with prefix) (expect (codes "unsigned") tokens)

-- `unsigned mpc_main (`
abbrev pub opening : List Token → Option (List Token)
opening tokens = option_and_then (expect (codes "(")) (option_and_then (expect (codes "mpc_main")) (expect (codes "unsigned") tokens))

-- `) { return`
abbrev pub body_opening : List Token → Option (List Token)
body_opening tokens = option_and_then (expect (codes "return")) (option_and_then (expect (codes "{")) (expect (codes ")") tokens))

abbrev pub is_integer : TokenKind → Bool
is_integer Word = false
is_integer Name = false
is_integer TypeName = false
is_integer Integer = true
is_integer Character = false
is_integer Str = false
is_integer Mark = false
is_integer Bound = false
is_integer End = false

abbrev pub is_end : TokenKind → Bool
is_end Word = false
is_end Name = false
is_end TypeName = false
is_end Integer = false
is_end Character = false
is_end Str = false
is_end Mark = false
is_end Bound = false
is_end End = true

-- the type int
abbrev pub is_int : Scalar → Bool
is_int B1 = false
is_int S8 = false
is_int U8 = false
is_int S16 = false
is_int U16 = false
is_int S32 = true
is_int U32 = false
is_int S64 = false
is_int U64 = false

-- a literal of type int, whose value is below 2^31
abbrev pub literal : Token → Option Term
literal token = if is_integer token.kind && is_int token.scalar && nat_lt token.number (2 ^ 31) then Some (Literal token.number) else None

-- one term: the first parameter's name, the second's, or a literal
abbrev pub term_of : List ℕ → List ℕ → Token → Option Term
term_of a b token =
    if bytes_eq token.text a then Some A
    else if bytes_eq token.text b then Some B
    else literal token

-- `}` and the end of the text
abbrev pub closes : List Token → Bool
closes [] = false
closes (token ∷ []) = false
closes (token ∷ end ∷ []) = bytes_eq token.text (codes "}") && is_end end.kind
closes (token ∷ next ∷ third ∷ rest) = false

-- the terms of `T + T + .. ; }`
abbrev pub terms_of : List ℕ → List ℕ → List Token → Option (List Term)
terms_of a b [] = None
terms_of a b (token ∷ []) = None
terms_of a b (token ∷ next ∷ rest) =
    if bytes_eq next.text (codes "+")
    then option_and_then (λ term. option_map (λ terms. term ∷ terms) (terms_of a b rest)) (term_of a b token)
    else if bytes_eq next.text (codes ";") && closes rest then option_map (λ term. term ∷ []) (term_of a b token) else None

-- the names of the parameters, and the tokens behind `return`
pub record Head : Type 0 where
  pub a : List ℕ
  pub b : List ℕ
  pub body : List Token

abbrev pub head_of : List Token → Option Head
head_of tokens =
    option_and_then (λ first.
    option_and_then (λ second. option_map (λ body. record { a = first.0; b = second.0; body = body }) (body_opening second.1))
    (option_and_then (parameter (codes "INPUT_B")) (expect (codes ",") first.1)))
    (option_and_then (parameter (codes "INPUT_A")) (opening tokens))

-- what the tokens of a whole source say
abbrev pub sum_of : List Token → Option Summed
sum_of tokens = option_and_then (λ head. option_map (λ terms. record { a = head.a; b = head.b; terms = terms }) (terms_of head.a head.b head.body)) (head_of tokens)

abbrev pub said : {E : Type 0} → Result (List Token) E → Option Summed
said (Ok tokens) = sum_of tokens
said (Err fault) = None

-- what the bytes of a source say
abbrev pub source_of : List ℕ → Option Summed
source_of bytes = said (tokens_of bytes)

-- the sum in C (C11 6.2.5, 6.5.6): unsigned arithmetic modulo 2^32
abbrev pub term_value : ℕ → ℕ → Term → ℕ
term_value x y A = x
term_value x y B = y
term_value x y (Literal number) = number

abbrev pub sum_in_c : List Term → ℕ → ℕ → ℕ
sum_in_c terms x y = sum_by (term_value x y) terms % 2 ^ 32
