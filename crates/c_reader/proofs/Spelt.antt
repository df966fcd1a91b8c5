-- What tests of tokens say of tokens that pieces want, and the other way round.
use Rattle.std.proofs.Common.{◌≡◌, ℕ, ◌+◌, if◌then◌else◌, Bool, true, false, ◌&&◌, ◌==◌, List, [], ◌∷◌, Option, Some, None, is_some, unwrap_or, refl, sym, ap, ◌∙◌, subst, codes}
use Rattle.std.specs.Str.{bytes_eq}
use Rattle.c_tree.specs.Pieces.{Piece, spelled, IsWanted, StandsAt}
use Rattle.c_tree.specs.declared.token.Place.{Place}
use Rattle.c_tree.specs.declared.token.Token.{Token}
use Rattle.c_tree.specs.declared.token.TokenKind.{TokenKind}
use Rattle.c_tree.specs.declared.token.TokenKind.TheVariants.{Word, Name, TypeName, Integer, Character, Str, Mark, Bound, End}
use Rattle.std.proofs.lemmas.Slice.Eq.{bytes_eq-Decides}
use Rattle.c_tree.specs.declared.expressions.Identifier.{Identifier}
use Rattle.c_reader.specs.Reading.{take_as}
use Rattle.c_reader.specs.Tokens.{kind_number, is_kind, is_spelled, named_of, found_in, found_of}
use Rattle.c_reader.proofs.Reader.{Reads}
use Rattle.c_reader.proofs.Taking.{Single, take_reads}

-- a test by kind and text alone
pub by_text : (test : TokenKind → List ℕ → Bool) (kind : TokenKind) (text : List ℕ) (b : Bool) (w : Token) → w.kind ≡ kind → w.text ≡ text → test kind text ≡ b → test w.kind w.text ≡ b
by_text test kind text b w k t is = subst (λ u. test u w.text ≡ b) (sym k) (subst (λ u. test kind u ≡ b) (sym t) is)

pub same_kind : (k l : TokenKind) → (kind_number k == kind_number l) ≡ true → k ≡ l
same_kind Word Word h = refl
same_kind Name Name h = refl
same_kind TypeName TypeName h = refl
same_kind Integer Integer h = refl
same_kind Character Character h = refl
same_kind Str Str h = refl
same_kind Mark Mark h = refl
same_kind Bound Bound h = refl
same_kind End End h = refl
same_kind k l h = absurd (cc)

both_true : (a b : Bool) → (a && b) ≡ true → (a ≡ true) × (b ≡ true)
both_true true b h = (refl, h)
both_true false b h = absurd (cc)

pub kind_is : (kind : TokenKind) (w : Token) → is_kind kind w ≡ true → w.kind ≡ kind
unfolding is_kind
kind_is kind w h = same_kind w.kind kind h

pub spelled_is : (kind : TokenKind) (text : List ℕ) (w : Token) → is_spelled kind text w ≡ true → (w.kind ≡ kind) × (w.text ≡ text)
unfolding is_spelled
spelled_is kind text w h =
    let parts = both_true (is_kind kind w) (bytes_eq w.text text) h in
    (kind_is kind w parts.0, (bytes_eq-Decides w.text text).0 parts.1)

same_number : (k : TokenKind) → (kind_number k == kind_number k) ≡ true
same_number Word = refl
same_number Name = refl
same_number TypeName = refl
same_number Integer = refl
same_number Character = refl
same_number Str = refl
same_number Mark = refl
same_number Bound = refl
same_number End = refl

pub kind_yes : (kind : TokenKind) (w : Token) → w.kind ≡ kind → is_kind kind w ≡ true
unfolding is_kind
kind_yes kind w k = ap (λ u. kind_number u == kind_number kind) k ∙ same_number kind

pub spelled_yes : (kind : TokenKind) (text : List ℕ) (w : Token) → w.kind ≡ kind → w.text ≡ text → is_spelled kind text w ≡ true
unfolding is_spelled
spelled_yes kind text w k t = ap (λ u. u && bytes_eq w.text text) (kind_yes kind w k) ∙ (bytes_eq-Decides w.text text).1 t

-- a piece of a kind and a text, at any place or at one
abbrev pub spelt : TokenKind → List ℕ → ℕ → Unit {0} → Piece
spelt kind text n = λ u. record { nesting = n; place = None; want = spelled kind text }

abbrev pub spelt_at : TokenKind → List ℕ → ℕ → Place → Piece
spelt_at kind text n = λ place. record { nesting = n; place = Some place; want = spelled kind text }

abbrev pub named : TokenKind → ℕ → Identifier → Piece
named kind n = λ name. record { nesting = n; place = Some name.place; want = spelled kind name.text }

module _ (most size : ℕ) (Stops : List Token → Type 0) where
  pub spelt_reads : (kind : TokenKind) (text : List ℕ) (n left : ℕ) → n + left ≡ most + 1 → Reads (Single (spelt kind text n)) most size Stops (take_as (is_spelled kind text) (λ token. tt) left)
  unfolding IsWanted StandsAt
  spelt_reads kind text n left level =
      take_reads (is_spelled kind text) (λ token. tt) most size (spelt kind text n) tt
      (λ u w takes. (spelled_yes kind text w takes.0.0 takes.0.1, refl))
      (λ w is. (spelled_is kind text w is, tt))
      left (λ u. level) Stops

  pub spelt_at_reads : (kind : TokenKind) (text : List ℕ) (n left : ℕ) → n + left ≡ most + 1 → Reads (Single (spelt_at kind text n)) most size Stops (take_as (is_spelled kind text) (λ token. token.place) left)
  unfolding IsWanted StandsAt
  spelt_at_reads kind text n left level =
      take_reads (is_spelled kind text) (λ token. token.place) most size (spelt_at kind text n) (record { line = 0; column = 0 })
      (λ place w takes. (spelled_yes kind text w takes.0.0 takes.0.1, takes.1))
      (λ w is. (spelled_is kind text w is, refl))
      left (λ u. level) Stops

  pub named_reads : (kind : TokenKind) (n left : ℕ) → n + left ≡ most + 1 → Reads (Single (named kind n)) most size Stops (take_as (is_kind kind) named_of left)
  unfolding IsWanted StandsAt
  named_reads kind n left level =
      take_reads (is_kind kind) named_of most size (named kind n) (record { place = record { line = 0; column = 0 }; text = [] })
      (λ name w takes. (kind_yes kind w takes.0.0, ap (λ t. record { place = w.place; text = t }) takes.0.1 ∙ ap (λ p. record { place = p; text = name.text }) takes.1))
      (λ w is. ((kind_is kind w is, refl), refl))
      left (λ u. level) Stops

-- each entry of a table stands under its own text
unfoldable pub AreUnder : {A : Type 0} → (A → List ℕ) → List (List ℕ × A) → Type 0
AreUnder text_of [] = Unit {0}
AreUnder text_of (entry ∷ entries) = (entry.0 ≡ text_of entry.1) × AreUnder text_of entries

-- what a table finds has the text that was looked for
found_step : {A : Type 0} (text_of : A → List ℕ) (entry : List ℕ × A) (entries : List (List ℕ × A)) (text : List ℕ) (a : A) (b : Bool) → bytes_eq text entry.0 ≡ b → entry.0 ≡ text_of entry.1 → (found_in entries text ≡ Some a → text ≡ text_of a) → (if b then Some entry.1 else found_in entries text) ≡ Some a → text ≡ text_of a
found_step text_of entry entries text a true is under next h =
    let same : entry.1 ≡ a = cc in
    (bytes_eq-Decides text entry.0).0 is ∙ under ∙ ap text_of same
found_step text_of entry entries text a false is under next h = next h

pub found_text : {A : Type 0} (text_of : A → List ℕ) (entries : List (List ℕ × A)) (text : List ℕ) (a : A) → AreUnder text_of entries → found_in entries text ≡ Some a → text ≡ text_of a
unfolding AreUnder found_in
found_text text_of [] text a under h = absurd (cc)
found_text text_of (entry ∷ entries) text a under h = found_step text_of entry entries text a (bytes_eq text entry.0) refl under.0 (found_text text_of entries text a under.1) h

found_kind : {A : Type 0} (kind : TokenKind) (text_of : A → List ℕ) (entries : List (List ℕ × A)) (w : Token) (a : A) (b : Bool) → is_kind kind w ≡ b → AreUnder text_of entries → (if b then found_in entries w.text else None) ≡ Some a → (w.kind ≡ kind) × (w.text ≡ text_of a)
found_kind kind text_of entries w a true is under h = (kind_is kind w is, found_text text_of entries w.text a under h)
found_kind kind text_of entries w a false is under h = absurd (cc)

pub found_is : {A : Type 0} (kind : TokenKind) (text_of : A → List ℕ) (entries : List (List ℕ × A)) (w : Token) (a : A) → AreUnder text_of entries → found_of kind entries w ≡ Some a → (w.kind ≡ kind) × (w.text ≡ text_of a)
unfolding found_of
found_is kind text_of entries w a under h = found_kind kind text_of entries w a (is_kind kind w) refl under h

pub found_yes : {A : Type 0} (kind : TokenKind) (entries : List (List ℕ × A)) (w : Token) (text : List ℕ) (a : A) → w.kind ≡ kind → w.text ≡ text → found_in entries text ≡ Some a → found_of kind entries w ≡ Some a
unfolding found_of
found_yes kind entries w text a k t h = ap (λ b. if b then found_in entries w.text else None) (kind_yes kind w k) ∙ ap (found_in entries) t ∙ h

-- a reader of a token of a table, with its place
module _ {A : Type 0} (most size : ℕ) (Stops : List Token → Type 0) (kind : TokenKind) (text_of : A → List ℕ) (entries : List (List ℕ × A)) (default : A)
    (under : AreUnder text_of entries) (all : (a : A) → found_in entries (text_of a) ≡ Some a) where
  abbrev pub table_at : Token → Place × A
  table_at token = (token.place, unwrap_or (found_of kind entries token) default)

  abbrev pub table_piece : ℕ → Place × A → Piece
  table_piece n found = record { nesting = n; place = Some found.0; want = spelled kind (text_of found.1) }

  table_some : (w : Token) (found : Option A) → found_of kind entries w ≡ found → is_some found ≡ true → (w.kind ≡ kind) × (w.text ≡ text_of (unwrap_or found default))
  table_some w None is some = absurd (cc)
  table_some w (Some a) is some = found_is kind text_of entries w a under is

  pub table_reads : (n left : ℕ) → n + left ≡ most + 1 → Reads (Single (table_piece n)) most size Stops (take_as (λ token. is_some (found_of kind entries token)) table_at left)
  unfolding IsWanted StandsAt
  table_reads n left level =
      take_reads (λ token. is_some (found_of kind entries token)) table_at most size (table_piece n) (record { line = 0; column = 0 }, default)
      (λ found w takes.
      let is : found_of kind entries w ≡ Some found.1 = found_yes kind entries w (text_of found.1) found.1 takes.0.0 takes.0.1 (all found.1) in
      (ap is_some is, ap (λ p. (p, unwrap_or (found_of kind entries w) default)) takes.1 ∙ ap (λ u. (found.0, unwrap_or u default)) is))
      (λ w is. (table_some w (found_of kind entries w) refl is, refl))
      left (λ u. level) Stops
