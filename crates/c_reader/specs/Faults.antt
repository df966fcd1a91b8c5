-- Which faults of syntax name a construct of C that is left out here, and which say only that something else was expected.
use Rattle.std.specs.Prelude.{◌≡◌, ℕ, ◌-◌, Bool, true, false, ◌&&◌, ◌||◌, not, ◌==◌, List, [], ◌∷◌, ◌++◌, length, count_by, Option, Some, None, cond, nat_lt, slice_get, Result, is_some, if◌then◌else◌, codes, IfOk}
use Rattle.hy_bits.specs.declared.memory.Memory.{Memory}
use Rattle.c_tree.specs.declared.token.Token.{Token}
use Rattle.c_tree.specs.declared.token.TokenKind.TheVariants.{Word, Name, Str, Mark}
use Rattle.c_reader.specs.declared.samples.Sample.{Sample}
use Rattle.c_reader.specs.declared.samples.Sample.TheVariants as sample
use Rattle.c_reader.specs.Samples.{sample_of}
use Rattle.c_reader.specs.Tokens.{is_kind, is_mark, is_word, found_of}

-- ---- tokens that name a construct wherever they are faulty

abbrev pub left_out_words : List (List ℕ × Unit {0})
left_out_words =
    (codes "goto", tt) ∷ (codes "union", tt) ∷ (codes "float", tt) ∷ (codes "double", tt) ∷ (codes "volatile", tt) ∷ (codes "restrict", tt) ∷ (codes "register", tt)
    ∷ (codes "auto", tt) ∷ (codes "extern", tt) ∷ (codes "sizeof", tt) ∷ (codes "typedef", tt) ∷ (codes "static", tt) ∷ (codes "inline", tt) ∷ (codes "_Alignas", tt)
    ∷ (codes "_Alignof", tt) ∷ (codes "_Atomic", tt) ∷ (codes "_Complex", tt) ∷ (codes "_Generic", tt) ∷ (codes "_Imaginary", tt) ∷ (codes "_Noreturn", tt)
    ∷ (codes "_Static_assert", tt) ∷ (codes "_Thread_local", tt) ∷ []

-- the comma, steps and assignments among them
abbrev pub left_out_marks : List (List ℕ × Unit {0})
left_out_marks =
    (codes "...", tt) ∷ (codes ",", tt) ∷ (codes "++", tt) ∷ (codes "--", tt) ∷ (codes ":", tt) ∷ (codes "*", tt) ∷ (codes ".", tt) ∷ (codes "{", tt) ∷ (codes "=", tt)
    ∷ (codes "*=", tt) ∷ (codes "/=", tt) ∷ (codes "%=", tt) ∷ (codes "+=", tt) ∷ (codes "-=", tt) ∷ (codes "<<=", tt) ∷ (codes ">>=", tt) ∷ (codes "&=", tt)
    ∷ (codes "^=", tt) ∷ (codes "|=", tt) ∷ []

unfoldable pub is_left_out : Token → Bool
is_left_out token = is_kind Str token || is_some (found_of Word left_out_words token) || is_some (found_of Mark left_out_marks token)

-- the word that names it: that of a string is its quote
abbrev pub named_word : Token → List ℕ
named_word token = if is_kind Str token then codes "\"" else token.text

-- ---- what stands before

-- the token that has so many after it
unfoldable pub back : ℕ → List Token → Option Token
back count tokens = cond (nat_lt count (length tokens)) (slice_get tokens (length tokens - 1 - count)) None

abbrev pub passes : (Token → Bool) → Option Token → Bool
passes test None = false
passes test (Some token) = test token

-- a pointer and the name that it declares
unfoldable pub ends_with_pointer : List Token → Bool
ends_with_pointer tokens =
    passes (is_kind Name) (back 0 tokens) && (passes (is_mark (codes "*")) (back 1 tokens) || (passes (is_word (codes "const")) (back 1 tokens) && passes (is_mark (codes "*")) (back 2 tokens)))

-- after these a name is a member's or a tag's
unfoldable pub names_other : Token → Bool
names_other token = is_mark (codes ".") token || is_mark (codes "->") token || is_word (codes "struct") token || is_word (codes "enum") token

-- braces are closed
unfoldable pub is_balanced : List Token → Bool
is_balanced tokens = count_by (is_mark (codes "{")) tokens == count_by (is_mark (codes "}")) tokens

-- ---- what could stand in its place

-- the test says whether it is so
pub record Tells (b : Bool) (P : Type 0) : Type 0 where
  pub yes_ : b ≡ true → P
  pub no_ : b ≡ false → P → ⊥

-- whether something begins with the tokens before and each sample
abbrev pub AreAsked : (List Token → Type 0) → List Token → (Sample → Bool) → Type 0
AreAsked Begins before can = (s : Sample) → Tells (can s) (Begins (before ++ sample_of s ∷ []))

-- a name could stand there that is neither a member's nor a tag's, so a declared one; or a pointer's name is just declared
unfoldable pub is_name_place : (Sample → Bool) → List Token → Bool
is_name_place can before = ends_with_pointer before || (not (passes names_other (back 0 before)) && can sample.Name)

-- an initialiser could stand there: a number could, and a list in braces, but no statement
unfoldable pub is_initialiser_place : (Sample → Bool) → Bool
is_initialiser_place can = can sample.Number && can sample.Brace && not (can sample.Semicolon)

-- the head of a function ends there: a bracket closes outside of all braces, and a block could follow
unfoldable pub is_head_end : (Sample → Bool) → List Token → Bool
is_head_end can before = passes (is_mark (codes ")")) (back 0 before) && is_balanced before && can sample.Brace

-- the faulty token after these names a construct that is left out: it does so anywhere; or it is a bracket in the place of a
-- declared name or after a pointer's, a square bracket in the place of an initialiser, or the end of a prototype
unfoldable pub names_construct : (Sample → Bool) → List Token → Token → Bool
names_construct can before token =
    if is_left_out token then true else
    (if is_mark (codes "(") token then is_name_place can before else
    (if is_mark (codes "[") token then is_initialiser_place can else
    (if is_mark (codes ";") token then is_head_end can before else false)))

-- what a function value that is asked answers
pub record AsksBy (can : Sample → Bool) (post : Sample → Result Bool Memory → Type 0) : Type 0 where
  pub tells : (s : Sample) (r : Result Bool Memory) → post s r → IfOk r (λ b. b ≡ can s)
