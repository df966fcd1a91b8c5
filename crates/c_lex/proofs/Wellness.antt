-- What the lines of a text make is as the tokens of a list must be, and within the room.
use Rattle.std.proofs.Common.{◌≡◌, ℕ, zero, suc, ◌+◌, ◌-◌, ◌≤◌, ◌^◌, List, [], ◌∷◌, ◌++◌, length, drop, Bool, true, false, not, ◌&&◌, ◌||◌, nat_lt, nat_le, if◌then◌else◌, Option, None, Some, Result, Ok, Err, IfSome, IfOk, refl, ap, ◌∙◌, arith, length-append, codes, is_none}
use Rattle.std.proofs.lemmas.Bool.Decides.{nat_tests}
use Rattle.std.specs.List.{list_all}
use Rattle.std.specs.Str.{bytes_eq}
use Rattle.hy_bits.specs.Decimal.{number_of}
use Rattle.hy_bits.specs.declared.scalar.Scalar.TheVariants.{S32}
use Rattle.c_tree.specs.TokenLists.{is_inner_of, is_inner, is_end_kind, is_closed, greatest_bound, IsTokenList}
use Rattle.c_tree.specs.declared.token.Place.{Place}
use Rattle.c_tree.specs.declared.token.Token.{Token}
use Rattle.c_tree.specs.declared.token.TokenKind.{TokenKind}
use Rattle.c_tree.specs.declared.token.TokenKind.TheVariants.{Word, Name, TypeName, Integer, Character, Str, Mark, Bound, End}
use Rattle.c_scan.specs.declared.piece.Piece.{Piece}
use Rattle.c_scan.specs.declared.piece.Piece.TheVariants as piece
use Rattle.c_scan.specs.Good.{is_good}
use Rattle.c_scan.proofs.Bools.{and_left, and_right, and_both}
use Rattle.c_lex.specs.declared.fault.LexFault.{LexFault}
use Rattle.c_lex.specs.Names.{is_name_kind, is_noted, Macro, list_of}
use Rattle.c_lex.specs.Lines.{first_with, lines_of}
use Rattle.c_lex.specs.Macros.{moved, itself_or, stands_for, ahead, replaced, names_of, first_fault}
use Rattle.c_lex.specs.Directives.{Read, nothing_read, begins, is_header, opens_at_once, no_directive, with_list, defined, define, with_bound, with_number, bound, unless_fault, pragma, directive, with_tokens, plain, step, and_then, steps}
use Rattle.c_lex.specs.Typedefs.{role_of, named}
use Rattle.c_lex.specs.Scopes.{Scope, outermost, is_type, following, scoped}
use Rattle.c_lex.proofs.Declarations.{named-scoped}

all_append : {A : Type 0} (p : A → Bool) (xs ys : List A) → list_all p xs ≡ true → list_all p ys ≡ true → list_all p (xs ++ ys) ≡ true
all_append p [] ys left right = right
all_append p (x ∷ xs) ys left right = and_both _ _ (and_left _ _ left) (all_append p xs ys (and_right _ _ left) right)

-- ---- macros

-- the tokens of a list are inner ones, and so are those of all macros
abbrev pub all_inner : List Token → Bool
all_inner tokens = list_all is_inner tokens

abbrev pub lists_inner : List Macro → Bool
lists_inner macros = list_all (λ m. all_inner m.tokens) macros

moved-inner_of : (kind : TokenKind) (token : Token) (at : Place) → is_inner_of kind (record token { place = at }) ≡ is_inner_of kind token
moved-inner_of Word token at = refl
moved-inner_of Name token at = refl
moved-inner_of TypeName token at = refl
moved-inner_of Integer token at = refl
moved-inner_of Character token at = refl
moved-inner_of Str token at = refl
moved-inner_of Mark token at = refl
moved-inner_of Bound token at = refl
moved-inner_of End token at = refl

moved-inner : (at : Place) (tokens : List Token) → all_inner tokens ≡ true → all_inner (moved at tokens) ≡ true
moved-inner at [] all = refl
moved-inner at (token ∷ tokens) all = and_both _ _ (moved-inner_of token.kind token at ∙ and_left _ _ all) (moved-inner at tokens (and_right _ _ all))

found-inner : (test : Bool) (tokens : List Token) (rest : Option (List Token)) → all_inner tokens ≡ true → IfSome rest (λ ts. all_inner ts ≡ true) → IfSome (if test then Some tokens else rest) (λ ts. all_inner ts ≡ true)
found-inner true tokens rest here later = here
found-inner false tokens rest here later = later

list-inner : (macros : List Macro) (name : List ℕ) → lists_inner macros ≡ true → IfSome (list_of macros name) (λ ts. all_inner ts ≡ true)
list-inner [] name all = tt
list-inner (first ∷ rest) name all = found-inner (bytes_eq name first.name) first.tokens (list_of rest name) (and_left _ _ all) (list-inner rest name (and_right _ _ all))

itself-inner : (token : Token) (found : Option (List Token)) → is_inner token ≡ true → IfSome found (λ ts. all_inner ts ≡ true) → all_inner (itself_or token found) ≡ true
itself-inner token None inner all = and_both _ _ inner refl
itself-inner token (Some tokens) inner all = moved-inner token.place tokens all

stands-inner : (macros : List Macro) (token : Token) (test : Bool) → lists_inner macros ≡ true → is_inner token ≡ true → all_inner (if test then itself_or token (list_of macros token.text) else token ∷ []) ≡ true
stands-inner macros token true all inner = itself-inner token _ inner (list-inner macros token.text all)
stands-inner macros token false all inner = and_both _ _ inner refl

-- ---- lines

-- tokens that were found are inner ones, and not more than there is room for
abbrev pub Found : ℕ → Result (List Token) LexFault → Type 0
Found room found = IfOk found (λ ts. (all_inner ts ≡ true) × (length ts ≤ room))

ahead-found : (room : ℕ) (tokens : List Token) (more : Result (List Token) LexFault) → all_inner tokens ≡ true → length tokens ≤ room → Found (room - length tokens) more → Found room (ahead tokens more)
ahead-found room tokens (Ok rest) inner within found = (all_append is_inner tokens rest inner found.0, omega (arith, length-append tokens rest, found.1))
ahead-found room tokens (Err fault) inner within found = tt

room-found : (room : ℕ) (tokens : List Token) (fault : LexFault) (more : Result (List Token) LexFault) (test : Bool) → nat_lt room (length tokens) ≡ test → all_inner tokens ≡ true → Found (room - length tokens) more → Found room (if test then Err fault else ahead tokens more)
room-found room tokens fault more true is inner found = tt
room-found room tokens fault more false is inner found = ahead-found room tokens more inner (grind (arith, nat_tests)) found

replaced-found : (macros : List Macro) (room : ℕ) (pieces : List Piece) → lists_inner macros ≡ true → list_all is_good pieces ≡ true → Found room (replaced macros room pieces)
replaced-found macros room [] all good = (refl, omega arith)
replaced-found macros room (piece.Line ∷ rest) all good = replaced-found macros room rest all good
replaced-found macros room (piece.Token token ∷ rest) all good =
    room-found room (stands_for macros token) _ _ _ refl (stands-inner macros token (is_name_kind token.kind) all (and_left _ _ good)) (replaced-found macros (room - length (stands_for macros token)) rest all (and_right _ _ good))
replaced-found macros room (piece.Hash at ∷ rest) all good = tt
replaced-found macros room (piece.BadByte at ∷ rest) all good = tt
replaced-found macros room (piece.BadLiteral at ∷ rest) all good = tt

-- what has been read is well
pub record Well (read : Read) : Type 0 where
  pub made : all_inner read.made ≡ true
  pub lists : lists_inner read.macros ≡ true
  pub room : length read.made + read.room ≤ 2 ^ 20

abbrev pub WellOk : Result Read LexFault → Type 0
WellOk found = IfOk found Well

either : (test : Bool) (x y : Result Read LexFault) → (test ≡ true → WellOk x) → (test ≡ false → WellOk y) → WellOk (if test then x else y)
either true x y p q = p refl
either false x y p q = q refl

list-well : (read : Read) (name : List ℕ) (names : List (List ℕ)) (found : Result (List Token) LexFault) → Well read → Found read.room found → WellOk (with_list read name names found)
list-well read name names (Ok tokens) well found = record { made = well.made; lists = all_append (λ (m : Macro). all_inner m.tokens) read.macros _ well.lists (and_both _ _ found.0 refl); room = omega (arith, well.room, found.1) }
list-well read name names (Err fault) well found = tt

tokens-well : (read : Read) (names : List (List ℕ)) (found : Result (List Token) LexFault) → Well read → Found read.room found → WellOk (with_tokens read names found)
tokens-well read names (Ok tokens) well found = record { made = all_append is_inner read.made tokens well.made found.0; lists = well.lists; room = omega (arith, well.room, found.1, length-append read.made tokens) }
tokens-well read names (Err fault) well found = tt

define-well : (read : Read) (at : Place) (line : List Piece) → Well read → list_all is_good line ≡ true → WellOk (define read at line)
define-well read at [] well good = tt
define-well read at (piece.Line ∷ list) well good = tt
define-well read at (piece.Token name ∷ list) well good =
    either (is_name_kind name.kind && not (opens_at_once name list) && is_none (list_of read.macros name.text)) (defined read name list) (no_directive at)
    (λ h. either (is_noted read.seen name.text || is_noted (names_of list) name.text) _ (with_list read name.text (names_of list) (replaced read.macros read.room list)) (λ h. tt)
    (λ h. list-well read name.text (names_of list) (replaced read.macros read.room list) well (replaced-found read.macros read.room list well.lists (and_right _ _ good))))
    (λ h. tt)
define-well read at (piece.Hash place ∷ list) well good = tt
define-well read at (piece.BadByte place ∷ list) well good = tt
define-well read at (piece.BadLiteral place ∷ list) well good = tt

with_bound-well : (read : Read) (at : Place) (text : List ℕ) (number room : ℕ) → Well read → room ≡ read.room → nat_le number greatest_bound ≡ true → WellOk (with_bound read at text number room)
with_bound-well read at text number zero well is small = tt
with_bound-well read at text number (suc room) well is small = record { made = all_append is_inner read.made _ well.made (and_both _ _ small refl); lists = well.lists; room = omega (arith, well.room, is, length-append read.made (record { kind = Bound; text = text; number = number; scalar = S32; place = at } ∷ [])) }

with_number-well : (read : Read) (at : Place) (text : List ℕ) (found : Option ℕ) → Well read → WellOk (with_number read at text found)
with_number-well read at text None well = tt
with_number-well read at text (Some number) well = either (nat_le number greatest_bound) (with_bound read at text number read.room) (no_directive at) (λ small. with_bound-well read at text number read.room well refl small) (λ h. tt)

bound-well : (read : Read) (at : Place) (line : List Piece) → Well read → WellOk (bound read at line)
bound-well read at [] well = tt
bound-well read at (piece.Line ∷ rest) well = tt
bound-well read at (piece.Token token ∷ []) well = with_number-well read at token.text (number_of token.text) well
bound-well read at (piece.Token token ∷ next ∷ rest) well = tt
bound-well read at (piece.Hash place ∷ rest) well = tt
bound-well read at (piece.BadByte place ∷ rest) well = tt
bound-well read at (piece.BadLiteral place ∷ rest) well = tt

unless-well : (read : Read) (found : Option LexFault) → Well read → WellOk (unless_fault read found)
unless-well read None well = well
unless-well read (Some fault) well = tt

pragma-well : (read : Read) (at : Place) (line : List Piece) → Well read → WellOk (pragma read at line)
pragma-well read at line well =
    either (begins (codes "bound") line) (bound read at (drop 1 line)) (unless_fault read (first_fault line)) (λ h. bound-well read at (drop 1 line) well) (λ h. unless-well read (first_fault line) well)

directive-well : (read : Read) (at : Place) (line : List Piece) → Well read → list_all is_good line ≡ true → WellOk (directive read at line)
directive-well read at [] well good = well
directive-well read at (first ∷ rest) well good =
    either (begins (codes "include") (first ∷ rest)) (if is_header rest then Ok read else no_directive at) _ (λ h. either (is_header rest) (Ok read) (no_directive at) (λ h. well) (λ h. tt))
    (λ h. either (begins (codes "define") (first ∷ rest)) (define read at rest) _ (λ h. define-well read at rest well (and_right _ _ good))
    (λ h. either (begins (codes "pragma") (first ∷ rest)) (pragma read at rest) (no_directive at) (λ h. pragma-well read at rest well) (λ h. tt)))

plain-well : (read : Read) (line : List Piece) → Well read → list_all is_good line ≡ true → WellOk (plain read line)
plain-well read line well good = tokens-well read (names_of line) (replaced read.macros read.room line) well (replaced-found read.macros read.room line well.lists good)

step-well : (read : Read) (line : List Piece) → Well read → list_all is_good line ≡ true → WellOk (step read line)
step-well read [] well good = well
step-well read (piece.Hash at ∷ rest) well good = directive-well read at rest well good
step-well read (piece.Line ∷ rest) well good = plain-well read (piece.Line ∷ rest) well good
step-well read (piece.Token token ∷ rest) well good = plain-well read (piece.Token token ∷ rest) well good
step-well read (piece.BadByte at ∷ rest) well good = plain-well read (piece.BadByte at ∷ rest) well good
step-well read (piece.BadLiteral at ∷ rest) well good = plain-well read (piece.BadLiteral at ∷ rest) well good

then-well : (found : Result Read LexFault) (rest : Read → Result Read LexFault) → WellOk found → ((read : Read) → Well read → WellOk (rest read)) → WellOk (and_then found rest)
then-well (Ok read) rest well each = each read well
then-well (Err fault) rest well each = tt

abbrev pub lines_good : List (List Piece) → Bool
lines_good lines = list_all (λ line. list_all is_good line) lines

steps-well : (read : Read) (lines : List (List Piece)) → Well read → lines_good lines ≡ true → WellOk (steps read lines)
steps-well read [] well good = well
steps-well read (line ∷ lines) well good = then-well (step read line) (λ after. steps after lines) (step-well read line well (and_left _ _ good)) (λ after well. steps-well after lines well (and_right _ _ good))

first-good : (first : Piece) (lines : List (List Piece)) → is_good first ≡ true → lines_good lines ≡ true → lines_good (first_with first lines) ≡ true
first-good first [] good all = and_both _ _ (and_both _ _ good refl) refl
first-good first (line ∷ lines) good all = and_both _ _ (and_both _ _ good (and_left _ _ all)) (and_right _ _ all)

lines-good : (pieces : List Piece) → list_all is_good pieces ≡ true → lines_good (lines_of pieces) ≡ true
lines-good [] good = refl
lines-good (piece.Line ∷ rest) good = lines-good rest good
lines-good (piece.Token token ∷ rest) good = first-good (piece.Token token) (lines_of rest) (and_left _ _ good) (lines-good rest (and_right _ _ good))
lines-good (piece.Hash at ∷ rest) good = first-good (piece.Hash at) (lines_of rest) refl (lines-good rest good)
lines-good (piece.BadByte at ∷ rest) good = first-good (piece.BadByte at) (lines_of rest) refl (lines-good rest good)
lines-good (piece.BadLiteral at ∷ rest) good = first-good (piece.BadLiteral at) (lines_of rest) refl (lines-good rest good)

-- the lines of good pieces make what is well
pub pieces-well : (pieces : List Piece) → list_all is_good pieces ≡ true → WellOk (steps nothing_read (lines_of pieces))
pieces-well pieces good = steps-well nothing_read (lines_of pieces) (record { made = refl; lists = refl; room = omega arith }) (lines-good pieces good)

-- ---- names of types

typed-inner_of : (kind : TokenKind) (token : Token) → is_name_kind kind ≡ true → is_inner_of kind token ≡ true → is_inner_of TypeName (record token { kind = TypeName }) ≡ true
typed-inner_of Word token is inner = absurd (cc)
typed-inner_of Name token is inner = inner
typed-inner_of TypeName token is inner = absurd (cc)
typed-inner_of Integer token is inner = absurd (cc)
typed-inner_of Character token is inner = absurd (cc)
typed-inner_of Str token is inner = absurd (cc)
typed-inner_of Mark token is inner = absurd (cc)
typed-inner_of Bound token is inner = absurd (cc)
typed-inner_of End token is inner = absurd (cc)

typed-inner : (token : Token) (test : Bool) → (test ≡ true → is_name_kind token.kind ≡ true) → is_inner token ≡ true → is_inner (if test then record token { kind = TypeName } else token) ≡ true
typed-inner token true name inner = typed-inner_of token.kind token (name refl) inner
typed-inner token false name inner = inner

scoped-inner : (scope : Scope) (tokens : List Token) → all_inner tokens ≡ true → all_inner (scoped scope tokens) ≡ true
scoped-inner scope [] all = refl
scoped-inner scope (token ∷ rest) all = and_both _ _ (typed-inner token (is_type scope token) (λ h. and_left _ _ h) (and_left _ _ all)) (scoped-inner (following scope (role_of token) token) rest (and_right _ _ all))

named-inner : (tokens : List Token) → all_inner tokens ≡ true → all_inner (named tokens) ≡ true
named-inner tokens all = ap all_inner (named-scoped tokens) ∙ scoped-inner outermost tokens all

scoped-length : (scope : Scope) (tokens : List Token) → length (scoped scope tokens) ≡ length tokens
scoped-length scope [] = refl
scoped-length scope (token ∷ rest) = ap suc (scoped-length (following scope (role_of token) token) rest)

named-length : (tokens : List Token) → length (named tokens) ≡ length tokens
named-length tokens = ap length (named-scoped tokens) ∙ scoped-length outermost tokens

-- ---- the end

closed-end : (tokens : List Token) (end : Token) → all_inner tokens ≡ true → is_end_kind end.kind ≡ true → is_closed (tokens ++ end ∷ []) ≡ true
closed-end [] end all is = is
closed-end (token ∷ []) end all is = and_both _ _ (and_left _ _ all) is
closed-end (token ∷ next ∷ rest) end all is = and_both _ _ (and_left _ _ all) (closed-end (next ∷ rest) end (and_right _ _ all) is)

-- inner tokens with the names of types, and the end, are a list of tokens
pub named-closed : (tokens : List Token) (end : Token) → all_inner tokens ≡ true → length tokens ≤ 2 ^ 20 → is_end_kind end.kind ≡ true → IsTokenList (named tokens ++ end ∷ [])
named-closed tokens end all few is = record {
  closed = closed-end (named tokens) end (named-inner tokens all) is;
  few = omega (arith, length-append (named tokens) (end ∷ []), named-length tokens);
}

-- what the lines of good pieces have made is well
pub well_of : (pieces : List Piece) (read : Read) → list_all is_good pieces ≡ true → steps nothing_read (lines_of pieces) ≡ Ok read → Well read
well_of pieces read good is = let well = pieces-well pieces good in rw is at well
