-- The reader of a declaration's pointer: each is read, and what is read is one.
use Rattle.std.proofs.Common.{append_assoc, ◌≡◌, ℕ, ◌+◌, Bool, true, false, ◌||◌, List, [], ◌∷◌, ◌++◌, Option, Some, None, option_map, refl, sym, ap, ◌∙◌, subst, codes}
use Rattle.c_tree.specs.Pieces.{Piece, IsWanted, Fits, word_at, optional}
use Rattle.c_tree.specs.Declarations.{wants_of_pointer}
use Rattle.c_tree.specs.declared.token.Place.{Place}
use Rattle.c_tree.specs.declared.token.Token.{Token}
use Rattle.c_tree.specs.declared.token.TokenKind.{TokenKind}
use Rattle.c_tree.specs.declared.token.TokenKind.TheVariants.{Mark, Word}
use Rattle.c_tree.specs.declared.statements.Pointer.{Pointer}
use Rattle.c_reader.specs.Reading.{◌>>=◌, give}
use Rattle.c_reader.specs.Tokens.{is_mark, is_word, is_spelled, is_kind, spelled_by, read_word_at}
use Rattle.c_reader.proofs.Reader.{Language, Of, Reads}
use Rattle.c_reader.proofs.Binding.{Both, bind_reads, fits_part}
use Rattle.c_reader.proofs.Giving.{Given, give_reads, reads_as}
use Rattle.c_reader.proofs.Taking.{Single}
use Rattle.c_reader.proofs.Choosing.{FirstIs, Either, this, that, choose_reads}
use Rattle.c_reader.proofs.Repeating.{given_stops}
use Rattle.c_reader.proofs.Beginning.{Begins, begins_both, begins_single, SomeOf}
use Rattle.c_reader.proofs.Joining.{in_both, in_single, in_given, onto, join2}
use Rattle.c_reader.proofs.Spelt.{by_text, spelt_at, spelt_at_reads}
use Rattle.c_grammar.proofs.Suffixes.{Any}
use Rattle.c_reader.proofs.Truths.{or_left, or_right}
use Rattle.c_decl.specs.Declarations.{read_constant, read_star, read_pointer}

-- any pointer, or none
abbrev pub PointerAt : ℕ → Language (Option Pointer)
PointerAt n = Of (λ p. true) (λ p. wants_of_pointer p n)

-- a pointer goes on
unfoldable pub pointer_goes_by : TokenKind → List ℕ → Bool
pointer_goes_by k t = spelled_by Mark (codes "*") k t || spelled_by Word (codes "const") k t

-- the next token is neither a star nor const
abbrev pub StopsPointer : List Token → Type 0
StopsPointer = FirstIs (λ w. pointer_goes_by w.kind w.text) false

no_star : (ts : List Token) → StopsPointer ts → FirstIs (is_mark (codes "*")) false ts
unfolding FirstIs pointer_goes_by spelled_by is_spelled is_kind
no_star [] stop = refl
no_star (w ∷ rest) stop = or_left (spelled_by Mark (codes "*") w.kind w.text) (spelled_by Word (codes "const") w.kind w.text) stop

no_const : (ts : List Token) → StopsPointer ts → FirstIs (is_word (codes "const")) false ts
unfolding FirstIs pointer_goes_by spelled_by is_spelled is_kind
no_const [] stop = refl
no_const (w ∷ rest) stop = or_right (spelled_by Mark (codes "*") w.kind w.text) (spelled_by Word (codes "const") w.kind w.text) stop

module _ (n : ℕ) where
  -- ---- the const of a pointer

  abbrev constant_wants : Option Place → List Piece
  constant_wants constant = optional (option_map (λ place. word_at place (codes "const")) constant) n

  abbrev HereL : Language (Option Place)
  HereL = Both (Single (spelt_at Word (codes "const") n)) (λ place. Given (Some place))

  abbrev ConstantL : Language (Option Place)
  ConstantL = Either HereL (Given None)

  constant_to : (constant : Option Place) (ps : List Piece) → ConstantL constant ps → ps ≡ constant_wants constant
  constant_to constant ps (this b) = onto b.whole b.left.one b.right.none ∙ ap constant_wants (sym b.right.tree_is)
  constant_to constant ps (that g) = g.none ∙ ap constant_wants (sym g.tree_is)

  constant_from : (constant : Option Place) → ConstantL constant (constant_wants constant)
  constant_from None = that (in_given None)
  constant_from (Some place) = this (in_both _ _ _ _ _ place (in_single (spelt_at Word (codes "const") n) place) (in_given (Some place)))

  here_begins : (by : TokenKind → List ℕ → Bool) (b : Bool) → by Word (codes "const") ≡ b → Begins HereL (λ w. by w.kind w.text) b
  unfolding IsWanted
  here_begins by b is = begins_both _ _ (λ w. by w.kind w.text) b (begins_single (spelt_at Word (codes "const") n) (λ w. by w.kind w.text) b (λ place w takes. by_text by Word (codes "const") b w takes.0.0 takes.0.1 is))

  -- ---- whole pointers

  abbrev StarL : Language (Option Pointer)
  StarL = Both (Single (spelt_at Mark (codes "*") n)) (λ place. Both ConstantL (λ constant. Given (Some (record { place = place; constant = constant }))))

  abbrev PointerL : Language (Option Pointer)
  PointerL = Either StarL (Given None)

  star_to : (p : Option Pointer) (ps : List Piece) → StarL p ps → PointerAt n p ps
  unfolding wants_of_pointer
  star_to p ps b =
      record {
        grammar = refl;
        wants = onto b.whole b.left.one (onto b.right.whole (constant_to b.right.first b.right.pieces1 b.right.left) b.right.right.none) ∙ join2 (spelt_at Mark (codes "*") n b.first ∷ []) (constant_wants b.right.first) ∙ ap (λ u. wants_of_pointer u n) (sym b.right.right.tree_is);
      }

  pointer_to : (p : Option Pointer) (ps : List Piece) → PointerL p ps → PointerAt n p ps
  unfolding wants_of_pointer
  pointer_to p ps (this b) = star_to p ps b
  pointer_to p ps (that g) = record { grammar = refl; wants = g.none ∙ ap (λ u. wants_of_pointer u n) (sym g.tree_is) }

  pointer_from : (p : Option Pointer) (ps : List Piece) → PointerAt n p ps → PointerL p ps
  unfolding wants_of_pointer
  pointer_from None ps is = that (record { tree_is = refl; none = is.wants })
  pointer_from (Some p) ps is =
      this (subst (λ u. StarL (Some p) u) (join2 (spelt_at Mark (codes "*") n p.place ∷ []) (constant_wants p.constant) ∙ sym is.wants)
      (in_both _ _ _ _ _ p.place (in_single (spelt_at Mark (codes "*") n) p.place) (in_both _ _ _ _ _ p.constant (constant_from p.constant) (in_given (Some p)))))

  pub some_pointer : SomeOf (PointerAt n)
  unfolding wants_of_pointer
  some_pointer = (None, ([], record { grammar = refl; wants = refl }))

  star_begins : (by : TokenKind → List ℕ → Bool) (b : Bool) → by Mark (codes "*") ≡ b → Begins StarL (λ w. by w.kind w.text) b
  unfolding IsWanted
  star_begins by b is = begins_both _ _ (λ w. by w.kind w.text) b (begins_single (spelt_at Mark (codes "*") n) (λ w. by w.kind w.text) b (λ place w takes. by_text by Mark (codes "*") b w takes.0.0 takes.0.1 is))

  pointer_first : (by : TokenKind → List ℕ → Bool) (b : Bool) → by Mark (codes "*") ≡ b → (p : Option Pointer) (ps : List Piece) (ys rest : List Token) → PointerL p ps → Fits ps ys → FirstIs (λ w. by w.kind w.text) b rest → FirstIs (λ w. by w.kind w.text) b (ys ++ rest)
  pointer_first by b star p ps ys rest (this is) fits following = star_begins by b star p ps ys rest is fits
  pointer_first by b star p ps ys rest (that is) fits following = given_stops None p ps ys rest (FirstIs (λ w. by w.kind w.text) b) is fits following

  -- what a test says of the first token of a pointer and of what follows it, where there may be none
  pub pointed_begins : {C : Type 0} (K : Option Pointer → Language C) (by : TokenKind → List ℕ → Bool) (b : Bool) → by Mark (codes "*") ≡ b → ((p : Option Pointer) → Begins (K p) (λ w. by w.kind w.text) b) → Begins (Both (PointerAt n) K) (λ w. by w.kind w.text) b
  pointed_begins K by b star following c ps front rest both fits =
      let parted = fits_part both.pieces1 both.pieces2 front (subst (λ u. Fits u front) both.whole fits) in
      subst (λ u. FirstIs (λ w. by w.kind w.text) b u) (sym (ap (λ u. u ++ rest) parted.whole ∙ append_assoc parted.front parted.following rest))
      (pointer_first by b star both.first both.pieces1 parted.front (parted.following ++ rest) (pointer_from both.first both.pieces1 both.left) parted.left (following both.first c both.pieces2 parted.following rest both.right parted.right))

-- ---- the readers

module _ (most size n left : ℕ) (level : n + left ≡ most + 1) where
  constant_read : Reads (ConstantL n) most size StopsPointer (read_constant left)
  unfolding read_constant spelled_by is_spelled is_kind
  constant_read =
      choose_reads (HereL n) (Given None) most size StopsPointer (is_word (codes "const")) (read_word_at (codes "const") left >>= λ place. give (Some place)) (give None)
      (bind_reads _ _ most size Any StopsPointer _ _ (spelt_at_reads most size Any Word (codes "const") n left level) (λ place. give_reads (Some place) most size StopsPointer)
      (λ place ps is. (Some place, ([], in_given (Some place))))
      (λ place c qs ys rest is fits stop. tt))
      (give_reads None most size StopsPointer)
      (λ c ps front rest is fits stop. here_begins n (spelled_by Word (codes "const")) true refl c ps front rest is fits)
      (λ c ps front rest is fits stop. given_stops None c ps front rest (FirstIs (is_word (codes "const")) false) is fits (no_const rest stop))

  given_following : (place : Place) (constant : Option Place) → SomeOf {A = Option Pointer} (Given (Some (record { place = place; constant = constant })))
  given_following place constant = (Some (record { place = place; constant = constant }), ([], in_given (Some (record { place = place; constant = constant }))))

  star_read : Reads (StarL n) most size StopsPointer (read_star left)
  unfolding read_star
  star_read =
      bind_reads _ _ most size Any StopsPointer _ _ (spelt_at_reads most size Any Mark (codes "*") n left level)
      (λ place. bind_reads _ _ most size StopsPointer StopsPointer _ _ constant_read (λ constant. give_reads (Some (record { place = place; constant = constant })) most size StopsPointer)
      (λ constant ps is. given_following place constant)
      (λ constant c qs ys rest is fits stop. given_stops (Some (record { place = place; constant = constant })) c qs ys rest StopsPointer is fits stop))
      (λ place ps is. (Some (record { place = place; constant = None }), ([] ++ [], in_both _ _ _ _ _ None (that (in_given None)) (in_given (Some (record { place = place; constant = None }))))))
      (λ place c qs ys rest is fits stop. tt)

  pub pointer_reads : Reads (PointerAt n) most size StopsPointer (read_pointer left)
  unfolding read_pointer spelled_by is_spelled is_kind
  pointer_reads =
      reads_as (pointer_to n) (pointer_from n)
      (choose_reads (StarL n) (Given None) most size StopsPointer (is_mark (codes "*")) (read_star left) (give None) star_read (give_reads None most size StopsPointer)
      (λ p ps front rest is fits stop. star_begins n (spelled_by Mark (codes "*")) true refl p ps front rest is fits)
      (λ p ps front rest is fits stop. given_stops None p ps front rest (FirstIs (is_mark (codes "*")) false) is fits (no_star rest stop)))
