-- A reader of a token and of what follows it, which is nested more deeply: where no level is left the token is too deep, so that
-- nothing has to be known of how what follows would be read there.
use Rattle.std.proofs.Common.{◌≡◌, ◌<◌, ℕ, zero, suc, ◌+◌, Bool, true, false, List, [], ◌∷◌, ◌++◌, refl, ap, ◌∙◌, arith}
use Rattle.c_tree.specs.Pieces.{Piece, IsWanted, StandsAt, Takes}
use Rattle.c_tree.specs.declared.token.Place.{Place}
use Rattle.c_tree.specs.declared.token.TokenKind.{TokenKind}
use Rattle.c_tree.specs.declared.token.Token.{Token}
use Rattle.c_reader.specs.Reading.{Reader, ◌>>=◌, after, take_as, taken}
use Rattle.c_reader.specs.Tokens.{is_spelled}
use Rattle.c_reader.proofs.Reader.{Language, Reads}
use Rattle.c_reader.proofs.Binding.{Both, bind_reads}
use Rattle.c_reader.proofs.Giving.{reads_same}
use Rattle.c_reader.proofs.Taking.{Single, take_reads}
use Rattle.c_reader.proofs.Beginning.{SomeOf}
use Rattle.c_reader.proofs.Joining.{in_both, in_single}
use Rattle.c_reader.proofs.Spelt.{spelled_is, spelled_yes, spelt_at}
use Rattle.c_grammar.proofs.Levels.{Opening, Leading, refused_reads}

module _ {A C : Type 0} (test : Token → Bool) (value : Token → A) (most size : ℕ) (piece : A → Piece) (some : A)
    (is : (a : A) (w : Token) → Takes (piece a) w → (test w ≡ true) × (value w ≡ a))
    (takes : (w : Token) → test w ≡ true → Takes (piece (value w)) w)
    (K : A → Language C) (Stops : List Token → Type 0) (g : A → Reader C) (some_following : (a : A) → SomeOf (K a)) where
  -- what follows never runs
  stays : (c : C) (b : Bool) (w : Token) (r : List Token) → taken b c 0 w r ≡ after (taken b (value w) 0 w r) g
  unfolding taken
  stays c true w r = refl
  stays c false w r = refl

  refused : (c : C) (ts : List Token) → take_as test (λ w. c) 0 ts ≡ (take_as test value 0 >>= g) ts
  unfolding take_as
  refused c [] = refl
  refused c (w ∷ r) = stays c (test w) w r

  opens : ((a : A) → (piece a).nesting + 0 ≡ most + 1) → (w : Token) → test w ≡ true → Opening (Both (Single piece) K) most w
  opens level w fit =
      let a = value w in
      let following = some_following a in
      record { tree = following.0; piece = piece a; missing = following.1.0; spelled_ = in_both (Single piece) K following.0 (piece a ∷ []) following.1.0 a (in_single piece a) following.1.1; takes = takes w fit; deep = omega (arith, level a) }

  leads : ((a : A) → (piece a).nesting + 0 ≡ most + 1) → (tree : C) (ps : List Piece) → Both (Single piece) K tree ps → Leading test most ps
  leads level tree ps b =
      record { piece = piece b.first; following = b.pieces2; is = b.whole ∙ ap (λ u. u ++ b.pieces2) b.left.one; tells = λ w t. (is b.first w t).0; deep = omega (arith, level b.first) }

  -- the readers of what follows are asked for only where a level is left
  pub take_bind : (left : ℕ) → ((a : A) → (piece a).nesting + left ≡ most + 1) → (0 < left → (a : A) → Reads (K a) most size Stops (g a)) → Reads (Both (Single piece) K) most size Stops (take_as test value left >>= g)
  take_bind zero level G =
      let following = some_following some in
      reads_same (take_as test value 0 >>= g) (refused following.0)
      (refused_reads (Both (Single piece) K) test (λ w. following.0) most size Stops (following.0, ((piece some ∷ []) ++ following.1.0, in_both (Single piece) K following.0 (piece some ∷ []) following.1.0 some (in_single piece some) following.1.1)) (opens level) (leads level))
  take_bind (suc left) level G =
      bind_reads (Single piece) K most size (λ ts. Unit {0}) Stops (take_as test value (suc left)) g (take_reads test value most size piece some is takes (suc left) level (λ ts. Unit {0})) (G (omega arith))
      (λ a ps s. some_following a)
      (λ a c qs ys rest k fits stop. tt)

-- the same of a token of one kind and text, whose place is kept
pub spelt_at_bind : {C : Type 0} (most size : ℕ) (kind : TokenKind) (text : List ℕ) (n left : ℕ) → n + left ≡ most + 1 → (K : Place → Language C) (Stops : List Token → Type 0) (g : Place → Reader C) → ((place : Place) → SomeOf (K place))
    → (0 < left → (place : Place) → Reads (K place) most size Stops (g place)) → Reads (Both (Single (spelt_at kind text n)) K) most size Stops (take_as (is_spelled kind text) (λ token. token.place) left >>= g)
unfolding IsWanted StandsAt
spelt_at_bind most size kind text n left level K Stops g some_following G =
    take_bind (is_spelled kind text) (λ token. token.place) most size (spelt_at kind text n) (record { line = 0; column = 0 })
    (λ place w takes. (spelled_yes kind text w takes.0.0 takes.0.1, takes.1))
    (λ w is. (spelled_is kind text w is, refl))
    K Stops g some_following left (λ place. level) G
