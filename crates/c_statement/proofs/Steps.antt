-- Readers one after another, each with a tree that it could read, where some are known to read only under a condition.
use Rattle.std.proofs.Common.{◌≡◌, ◌<◌, ℕ, zero, suc, ◌+◌, Bool, true, List, ◌++◌, refl, arith}
use Rattle.c_tree.specs.Pieces.{Piece, Takes, IsWanted, StandsAt, Fits}
use Rattle.c_tree.specs.declared.token.Place.{Place}
use Rattle.c_tree.specs.declared.token.Token.{Token}
use Rattle.c_tree.specs.declared.token.TokenKind.{TokenKind}
use Rattle.c_reader.specs.Reading.{Reader, ◌>>=◌, give, take_as}
use Rattle.c_reader.specs.Tokens.{is_spelled}
use Rattle.c_reader.proofs.Reader.{Language}
use Rattle.c_reader.proofs.Binding.{Both}
use Rattle.c_reader.proofs.Giving.{Given, give_reads}
use Rattle.c_reader.proofs.Taking.{Single, take_reads}
use Rattle.c_reader.proofs.Beginning.{Begins, begins_both, begins_single, SomeOf, some_both, some_single, some_given}
use Rattle.c_reader.proofs.Spelt.{by_text, spelled_yes, spelled_is, spelt, spelt_at}
use Rattle.c_decl.proofs.Refusing.{take_bind}
use Rattle.c_statement.proofs.ByTree.{ReadsBy, by_reads, by_where, bind_by}

abbrev pub Anything : {A : Type 0} → A → List Token → Type 0
Anything tree rest = Unit {0}

-- what is known of a reader: that there is a tree to be read, and, under the condition, that trees are read
pub record Step (most size : ℕ) (When : Type 0) {C : Type 0} (L : Language C) (Stops : C → List Token → Type 0) (read : Reader C) : Type 0 where
  pub by : When → ReadsBy L most size Stops read
  pub some : SomeOf L

module _ (most size : ℕ) (When : Type 0) {A C : Type 0} where
  -- a reader and what follows it
  pub then_ : (L : Language A) (K : A → Language C) (StopsA : A → List Token → Type 0) (Stops : C → List Token → Type 0) (f : Reader A) (g : A → Reader C)
      → Step most size When L StopsA f → ((a : A) → Step most size When (K a) Stops (g a))
      → ((a : A) (ps : List Piece) (c : C) (qs : List Piece) (ys rest : List Token) → L a ps → K a c qs → Fits qs ys → Stops c rest → StopsA a (ys ++ rest))
      → Step most size When (Both L K) Stops (f >>= g)
  then_ L K StopsA Stops f g F G stops = record {
    by = λ when. bind_by L K most size StopsA Stops f g (F.by when) (λ a. (G a).by when) (λ a ps is. (G a).some) stops;
    some = some_both L K F.some (λ a. (G a).some);
  }

module _ (most size : ℕ) {C : Type 0} (Stops : C → List Token → Type 0) where
  pub given : (When : Type 0) (c : C) → Step most size When (Given c) Stops (give c)
  given When c = record { by = λ when. by_where (λ tree ps rest is stop. tt) (by_reads (give_reads c most size (λ ts. Unit {0}))); some = some_given c }

  module _ {A : Type 0} (test : Token → Bool) (value : Token → A) (piece : A → Piece) (some : A)
      (is : (a : A) (w : Token) → Takes (piece a) w → (test w ≡ true) × (value w ≡ a))
      (takes : (w : Token) → test w ≡ true → Takes (piece (value w)) w) where
    -- a token and what follows it
    pub token_then : (When : Type 0) (left : ℕ) → ((a : A) → (piece a).nesting + left ≡ most + 1) → (K : A → Language C) (g : A → Reader C)
        → ((a : A) → Step most size When (K a) Stops (g a)) → Step most size When (Both (Single piece) K) Stops (take_as test value left >>= g)
    token_then When left level K g G = record {
      by = λ when. bind_by (Single piece) K most size Anything Stops (take_as test value left) g (by_reads (take_reads test value most size piece some is takes left level (λ ts. Unit {0}))) (λ a. (G a).by when) (λ a ps s. (G a).some) (λ a ps c qs ys rest s k fits stop. tt);
      some = some_both (Single piece) K (some_single piece some) (λ a. (G a).some);
    }

    -- what follows has to be known only where a level is left: at none the token is too deep
    deep_by : (left : ℕ) → ((a : A) → (piece a).nesting + left ≡ most + 1) → (K : A → Language C) (g : A → Reader C)
        → ((a : A) → Step most size (0 < left) (K a) Stops (g a)) → ReadsBy (Both (Single piece) K) most size Stops (take_as test value left >>= g)
    deep_by zero level K g G = by_where (λ tree ps rest b stop. tt) (by_reads (take_bind test value most size piece some is takes K (λ ts. Unit {0}) g (λ a. (G a).some) zero level (λ positive. absurd (omega (arith, positive)))))
    deep_by (suc left) level K g G = (token_then (0 < suc left) (suc left) level K g G).by (omega arith)

    pub deep_then : (left : ℕ) → ((a : A) → (piece a).nesting + left ≡ most + 1) → (K : A → Language C) (g : A → Reader C)
        → ((a : A) → Step most size (0 < left) (K a) Stops (g a)) → Step most size (Unit {0}) (Both (Single piece) K) Stops (take_as test value left >>= g)
    deep_then left level K g G = record { by = λ u. deep_by left level K g G; some = some_both (Single piece) K (some_single piece some) (λ a. (G a).some) }

  -- a mark or a word, and a mark or a word with its place
  module _ (kind : TokenKind) (text : List ℕ) (n left : ℕ) (level : n + left ≡ most + 1) where
    spelt_is : (u : Unit {0}) (w : Token) → Takes (spelt kind text n u) w → (is_spelled kind text w ≡ true) × (tt ≡ u)
    unfolding IsWanted StandsAt
    spelt_is u w t = (spelled_yes kind text w t.0.0 t.0.1, refl)

    spelt_takes : (w : Token) → is_spelled kind text w ≡ true → Takes (spelt kind text n tt) w
    unfolding IsWanted StandsAt
    spelt_takes w is = (spelled_is kind text w is, tt)

    placed_is : (place : Place) (w : Token) → Takes (spelt_at kind text n place) w → (is_spelled kind text w ≡ true) × (w.place ≡ place)
    unfolding IsWanted StandsAt
    placed_is place w t = (spelled_yes kind text w t.0.0 t.0.1, t.1)

    placed_takes : (w : Token) → is_spelled kind text w ≡ true → Takes (spelt_at kind text n w.place) w
    unfolding IsWanted StandsAt
    placed_takes w is = (spelled_is kind text w is, refl)

    pub spelt_then : (When : Type 0) (K : Unit {0} → Language C) (g : Unit {0} → Reader C) → ((u : Unit {0}) → Step most size When (K u) Stops (g u))
        → Step most size When (Both (Single (spelt kind text n)) K) Stops (take_as (is_spelled kind text) (λ token. tt) left >>= g)
    spelt_then When K g G = token_then (is_spelled kind text) (λ token. tt) (spelt kind text n) tt spelt_is spelt_takes When left (λ u. level) K g G

    pub placed_then : (When : Type 0) (K : Place → Language C) (g : Place → Reader C) → ((place : Place) → Step most size When (K place) Stops (g place))
        → Step most size When (Both (Single (spelt_at kind text n)) K) Stops (take_as (is_spelled kind text) (λ token. token.place) left >>= g)
    placed_then When K g G = token_then (is_spelled kind text) (λ token. token.place) (spelt_at kind text n) (record { line = 0; column = 0 }) placed_is placed_takes When left (λ u. level) K g G

    pub placed_deep : (K : Place → Language C) (g : Place → Reader C) → ((place : Place) → Step most size (0 < left) (K place) Stops (g place))
        → Step most size (Unit {0}) (Both (Single (spelt_at kind text n)) K) Stops (take_as (is_spelled kind text) (λ token. token.place) left >>= g)
    placed_deep K g G = deep_then (is_spelled kind text) (λ token. token.place) (spelt_at kind text n) (record { line = 0; column = 0 }) placed_is placed_takes left (λ u. level) K g G

-- what languages begin with
pub begins_spelt : {C : Type 0} (kind : TokenKind) (text : List ℕ) (n : ℕ) (K : Unit {0} → Language C) (by : TokenKind → List ℕ → Bool) (b : Bool) → by kind text ≡ b → Begins (Both (Single (spelt kind text n)) K) (λ w. by w.kind w.text) b
unfolding IsWanted
begins_spelt kind text n K by b is = begins_both _ _ (λ w. by w.kind w.text) b (begins_single (spelt kind text n) (λ w. by w.kind w.text) b (λ u w takes. by_text by kind text b w takes.0.0 takes.0.1 is))

pub begins_placed : {C : Type 0} (kind : TokenKind) (text : List ℕ) (n : ℕ) (K : Place → Language C) (by : TokenKind → List ℕ → Bool) (b : Bool) → by kind text ≡ b → Begins (Both (Single (spelt_at kind text n)) K) (λ w. by w.kind w.text) b
unfolding IsWanted
begins_placed kind text n K by b is = begins_both _ _ (λ w. by w.kind w.text) b (begins_single (spelt_at kind text n) (λ w. by w.kind w.text) b (λ u w takes. by_text by kind text b w takes.0.0 takes.0.1 is))

pub begins_is : {C : Type 0} (kind : TokenKind) (text : List ℕ) (n : ℕ) (K : Unit {0} → Language C) → Begins (Both (Single (spelt kind text n)) K) (is_spelled kind text) true
unfolding IsWanted
begins_is kind text n K = begins_both _ _ (is_spelled kind text) true (begins_single (spelt kind text n) (is_spelled kind text) true (λ u w takes. spelled_yes kind text w takes.0.0 takes.0.1))

pub begins_is_at : {C : Type 0} (kind : TokenKind) (text : List ℕ) (n : ℕ) (K : Place → Language C) → Begins (Both (Single (spelt_at kind text n)) K) (is_spelled kind text) true
unfolding IsWanted
begins_is_at kind text n K = begins_both _ _ (is_spelled kind text) true (begins_single (spelt_at kind text n) (is_spelled kind text) true (λ u w takes. spelled_yes kind text w takes.0.0 takes.0.1))
