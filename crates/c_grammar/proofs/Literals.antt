-- The reader of literals.
use Rattle.std.proofs.Common.{◌≡◌, ℕ, ◌+◌, if◌then◌else◌, Bool, true, false, List, [], Option, Some, None, is_some, unwrap_or, refl, sym, ap, ◌∙◌, subst, codes}
use Rattle.std.specs.Str.{bytes_eq}
use Rattle.c_tree.specs.Pieces.{Piece, IsWanted, StandsAt, want_of}
use Rattle.c_tree.specs.declared.token.Place.{Place}
use Rattle.c_tree.specs.declared.token.Token.{Token}
use Rattle.c_tree.specs.declared.token.TokenKind.{TokenKind}
use Rattle.c_tree.specs.declared.token.TokenKind.TheVariants.{Word, Name, TypeName, Integer, Character, Str, Mark, Bound, End}
use Rattle.c_tree.specs.declared.expressions.Literal.{Literal}
use Rattle.c_tree.specs.declared.expressions.Literal.TheVariants as literal
use Rattle.c_reader.specs.Reading.{take_as}
use Rattle.c_reader.specs.Tokens.{found_in}
use Rattle.c_grammar.specs.Tokens.{literal_words, literal_by, literal_of, literal_at, is_literal}
use Rattle.c_reader.proofs.Reader.{Reads}
use Rattle.c_reader.proofs.Taking.{Single, take_reads}
use Rattle.c_reader.proofs.Spelt.{AreUnder, found_text}

-- ---- literals

literal_is : (value : Literal) (w : Token) → IsWanted (want_of value) w → literal_of w ≡ Some value
unfolding IsWanted literal_by found_in
literal_is (literal.Integer scalar number) w wanted =
    ap (λ k. literal_by k w.text w.scalar w.number) wanted.0 ∙ ap (λ s. Some (literal.Integer s w.number)) wanted.1 ∙ ap (λ n. Some (literal.Integer scalar n)) wanted.2
literal_is (literal.Character scalar number) w wanted =
    ap (λ k. literal_by k w.text w.scalar w.number) wanted.0 ∙ ap (λ s. Some (literal.Character s w.number)) wanted.1 ∙ ap (λ n. Some (literal.Character scalar n)) wanted.2
literal_is literal.True w wanted = ap (λ k. literal_by k w.text w.scalar w.number) wanted.0 ∙ ap (found_in literal_words) wanted.1
literal_is literal.False w wanted = ap (λ k. literal_by k w.text w.scalar w.number) wanted.0 ∙ ap (found_in literal_words) wanted.1

word_of_literal : Literal → List ℕ
word_of_literal (literal.Integer scalar number) = []
word_of_literal (literal.Character scalar number) = []
word_of_literal literal.True = codes "true"
word_of_literal literal.False = codes "false"

is_plain_word : Literal → Bool
is_plain_word (literal.Integer scalar number) = false
is_plain_word (literal.Character scalar number) = false
is_plain_word literal.True = true
is_plain_word literal.False = true

plain_word : (text : List ℕ) (value : Literal) (b c : Bool) → bytes_eq text (codes "true") ≡ b → bytes_eq text (codes "false") ≡ c → found_in literal_words text ≡ Some value → is_plain_word value ≡ true
unfolding found_in is_plain_word
plain_word text value true c is other h =
    let e : found_in literal_words text ≡ Some literal.True = ap (λ u. if u then Some literal.True else (if bytes_eq text (codes "false") then Some literal.False else None)) is in
    let same : literal.True ≡ value = cc in
    ap is_plain_word (sym same)
plain_word text value false true is other h =
    let e : found_in literal_words text ≡ Some literal.False =
    ap (λ u. if u then Some literal.True else (if bytes_eq text (codes "false") then Some literal.False else None)) is ∙ ap (λ u. if u then Some literal.False else None) other in
    let same : literal.False ≡ value = cc in
    ap is_plain_word (sym same)
plain_word text value false false is other h =
    let e : found_in literal_words text ≡ None =
    ap (λ u. if u then Some literal.True else (if bytes_eq text (codes "false") then Some literal.False else None)) is ∙ ap (λ u. if u then Some literal.False else None) other in
    absurd (cc)

not_plain : false ≡ true → ⊥
not_plain h = cc

literal_word : (w : Token) (value : Literal) → w.kind ≡ Word → found_in literal_words w.text ≡ Some value → IsWanted (want_of value) w
unfolding IsWanted AreUnder word_of_literal is_plain_word
literal_word w (literal.Integer scalar number) k h = absurd (not_plain (plain_word w.text (literal.Integer scalar number) (bytes_eq w.text (codes "true")) (bytes_eq w.text (codes "false")) refl refl h))
literal_word w (literal.Character scalar number) k h = absurd (not_plain (plain_word w.text (literal.Character scalar number) (bytes_eq w.text (codes "true")) (bytes_eq w.text (codes "false")) refl refl h))
literal_word w literal.True k h = (k, found_text word_of_literal literal_words w.text literal.True (refl, (refl, tt)) h)
literal_word w literal.False k h = (k, found_text word_of_literal literal_words w.text literal.False (refl, (refl, tt)) h)

literal_wanted : (w : Token) (value : Literal) (k : TokenKind) → w.kind ≡ k → literal_by k w.text w.scalar w.number ≡ Some value → IsWanted (want_of value) w
unfolding IsWanted literal_by
literal_wanted w value Word k h = literal_word w value k h
literal_wanted w value Name k h = absurd (cc)
literal_wanted w value TypeName k h = absurd (cc)
literal_wanted w value Integer k h = let same : literal.Integer w.scalar w.number ≡ value = cc in subst (λ v. IsWanted (want_of v) w) same (k, refl, refl)
literal_wanted w value Character k h = let same : literal.Character w.scalar w.number ≡ value = cc in subst (λ v. IsWanted (want_of v) w) same (k, refl, refl)
literal_wanted w value Str k h = absurd (cc)
literal_wanted w value Mark k h = absurd (cc)
literal_wanted w value Bound k h = absurd (cc)
literal_wanted w value End k h = absurd (cc)

abbrev pub literal_piece : ℕ → Place × Literal → Piece
literal_piece n found = record { nesting = n; place = Some found.0; want = want_of found.1 }

literal_some : (w : Token) (found : Option Literal) → literal_of w ≡ found → is_some found ≡ true → IsWanted (want_of (unwrap_or found literal.True)) w
literal_some w None is some = absurd (cc)
literal_some w (Some value) is some = literal_wanted w value w.kind refl is

pub literal_reads : (most size : ℕ) (Stops : List Token → Type 0) (n left : ℕ) → n + left ≡ most + 1 → Reads (Single (literal_piece n)) most size Stops (take_as is_literal literal_at left)
unfolding StandsAt
literal_reads most size Stops n left level =
    take_reads is_literal literal_at most size (literal_piece n) (record { line = 0; column = 0 }, literal.True)
    (λ found w takes.
    let is : literal_of w ≡ Some found.1 = literal_is found.1 w takes.0 in
    (ap is_some is, ap (λ p. (p, unwrap_or (literal_of w) literal.True)) takes.1 ∙ ap (λ u. (found.0, unwrap_or u literal.True)) is))
    (λ w is. (literal_some w (literal_of w) refl is, refl))
    left (λ u. level) Stops
