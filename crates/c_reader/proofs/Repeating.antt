-- Readers of lists.
use Rattle.std.proofs.Common.{◌≡◌, ◌≤◌, ◌<◌, ℕ, zero, suc, Bool, true, false, List, [], ◌∷◌, ◌++◌, length, refl, sym, ap, ◌∙◌, subst, arith}
use Rattle.std.proofs.lemmas.List.{append-nil, append_assoc, length-append}
use Rattle.c_tree.specs.Pieces.{Piece, Fits}
use Rattle.c_tree.specs.declared.token.Token.{Token}
use Rattle.c_reader.specs.Reading.{Reader, ◌>>=◌, give, many}
use Rattle.c_reader.proofs.Reader.{Language, Reads}
use Rattle.c_reader.proofs.Binding.{Both, bind_reads, fits_part}
use Rattle.c_reader.proofs.Giving.{Given, give_reads, reads_within}
use Rattle.c_reader.proofs.Choosing.{FirstIs, Either, this, that, choose_reads}

-- lists of so many trees at most, with the pieces of one after another
unfoldable pub UpTo : {A : Type 0} → Language A → ℕ → Language (List A)
UpTo L zero = Given []
UpTo L (suc n) = Either (Both L (λ a. Both (UpTo L n) (λ others. Given (a ∷ others)))) (Given [])

-- lists of trees, with the pieces of one after another
unfoldable pub Several : {A : Type 0} → Language A → Language (List A)
Several L [] pieces = pieces ≡ []
Several L (a ∷ others) pieces = (first : List Piece) × ((rest : List Piece) × (L a first × Several L others rest × (pieces ≡ first ++ rest)))

pub given_stops : {A : Type 0} (value tree : A) (qs : List Piece) (ys rest : List Token) (P : List Token → Type 0) → Given value tree qs → Fits qs ys → P rest → P (ys ++ rest)
unfolding Fits
given_stops value tree qs [] rest P is fits stop = stop
given_stops value tree [] (y ∷ ys) rest P is fits stop = absurd fits
given_stops value tree (q ∷ qs) (y ∷ ys) rest P is fits stop = absurd (cc)

module _ {A : Type 0} (L : Language A) (most size : ℕ) (StopsA Stops : List Token → Type 0) (test : Token → Bool) (read : Reader A) (F : Reads L most size StopsA read)
    (begins : (a : A) (ps : List Piece) (front rest : List Token) → L a ps → Fits ps front → FirstIs test true (front ++ rest))
    (goes_on : (ts : List Token) → FirstIs test true ts → StopsA ts)
    (ends : (ts : List Token) → Stops ts → StopsA ts)
    (stops : (ts : List Token) → Stops ts → FirstIs test false ts) where
  no_tree : (n : ℕ) → UpTo L n [] []
  unfolding UpTo
  no_tree zero = record { tree_is = refl; none = refl }
  no_tree (suc n) = that (record { tree_is = refl; none = refl })

  both_begins : {C : Type 0} {K : A → Language C} (c : C) (ps : List Piece) (front rest : List Token) → Both L K c ps → Fits ps front → FirstIs test true (front ++ rest)
  both_begins c ps front rest both fits =
      let parted = fits_part both.pieces1 both.pieces2 front (subst (λ u. Fits u front) both.whole fits) in
      subst (λ u. FirstIs test true u) (sym (ap (λ u. u ++ rest) parted.whole ∙ append_assoc parted.front parted.following rest))
      (begins both.first both.pieces1 parted.front (parted.following ++ rest) both.left parted.left)

  upto_stops_at : (n : ℕ) (trees : List A) (ps : List Piece) (ys rest : List Token) → Either (Both L (λ a. Both (UpTo L n) (λ others. Given (a ∷ others)))) (Given []) trees ps → Fits ps ys → Stops rest → StopsA (ys ++ rest)
  upto_stops_at n trees ps ys rest (this both) fits stop = goes_on (ys ++ rest) (both_begins trees ps ys rest both fits)
  upto_stops_at n trees ps ys rest (that is) fits stop = given_stops [] trees ps ys rest StopsA is fits (ends rest stop)

  upto_stops : (n : ℕ) (trees : List A) (ps : List Piece) (ys rest : List Token) → UpTo L n trees ps → Fits ps ys → Stops rest → StopsA (ys ++ rest)
  unfolding UpTo
  upto_stops zero trees ps ys rest is fits stop = given_stops [] trees ps ys rest StopsA is fits (ends rest stop)
  upto_stops (suc n) trees ps ys rest is fits stop = upto_stops_at n trees ps ys rest is fits stop

  rest_stops : (n : ℕ) (a : A) (trees : List A) (ps : List Piece) (ys rest : List Token) → Both (UpTo L n) (λ others. Given (a ∷ others)) trees ps → Fits ps ys → Stops rest → StopsA (ys ++ rest)
  rest_stops n a trees ps ys rest both fits stop =
      let e : ps ≡ both.pieces1 = both.whole ∙ ap (λ u. both.pieces1 ++ u) both.right.none ∙ append-nil both.pieces1 in
      upto_stops n both.first both.pieces1 ys rest both.left (subst (λ u. Fits u ys) e fits) stop

  pub many_upto : (n : ℕ) → Reads (UpTo L n) most size Stops (many n test read)
  unfolding UpTo many
  many_upto zero = give_reads [] most size Stops
  many_upto (suc n) =
      choose_reads (Both L (λ a. Both (UpTo L n) (λ others. Given (a ∷ others)))) (Given []) most size Stops test (read >>= λ a. many n test read >>= λ rest. give (a ∷ rest)) (give [])
      (bind_reads L (λ a. Both (UpTo L n) (λ others. Given (a ∷ others))) most size StopsA Stops read (λ a. many n test read >>= λ rest. give (a ∷ rest)) F
      (λ a. bind_reads (UpTo L n) (λ others. Given (a ∷ others)) most size Stops Stops (many n test read) (λ rest. give (a ∷ rest)) (many_upto n) (λ others. give_reads (a ∷ others) most size Stops)
      (λ others ps is. (a ∷ others, ([], record { tree_is = refl; none = refl })))
      (λ others c qs ys rest is fits stop. given_stops (a ∷ others) c qs ys rest Stops is fits stop))
      (λ a ps is. (a ∷ [], ([], record { first = []; pieces1 = []; pieces2 = []; left = no_tree n; right = record { tree_is = refl; none = refl }; whole = refl })))
      (λ a c qs ys rest is fits stop. rest_stops n a c qs ys rest is fits stop))
      (give_reads [] most size Stops)
      (λ trees ps front rest is fits stop. both_begins trees ps front rest is fits)
      (λ trees ps front rest is fits stop. given_stops [] trees ps front rest (λ ts. FirstIs test false ts) is fits (stops rest stop))

  several_step : (n : ℕ) → ((trees : List A) (ps : List Piece) → UpTo L n trees ps → Several L trees ps) → (trees : List A) (ps : List Piece)
      → Either (Both L (λ a. Both (UpTo L n) (λ others. Given (a ∷ others)))) (Given []) trees ps → Several L trees ps
  unfolding Several
  several_step n inner trees ps (this both) =
      let e : trees ≡ both.first ∷ both.right.first = both.right.right.tree_is in
      let same : both.pieces2 ≡ both.right.pieces1 = both.right.whole ∙ ap (λ u. both.right.pieces1 ++ u) both.right.right.none ∙ append-nil both.right.pieces1 in
      subst (λ u. Several L u ps) (sym e)
      (both.pieces1, (both.pieces2, (both.left, subst (λ u. Several L both.right.first u) (sym same) (inner both.right.first both.right.pieces1 both.right.left), both.whole)))
  several_step n inner trees ps (that is) = subst (λ u. Several L u ps) (sym is.tree_is) is.none

  several_of : (n : ℕ) (trees : List A) (ps : List Piece) → UpTo L n trees ps → Several L trees ps
  unfolding UpTo Several
  several_of zero trees ps is = subst (λ u. Several L u ps) (sym is.tree_is) is.none
  several_of (suc n) trees ps is = several_step n (several_of n) trees ps is

  upto_of : (n : ℕ) (trees : List A) (ps : List Piece) → Several L trees ps → length trees ≤ n → UpTo L n trees ps
  unfolding UpTo Several
  upto_of zero [] ps is few = record { tree_is = refl; none = is }
  upto_of zero (a ∷ trees) ps is few = absurd (omega (arith, few))
  upto_of (suc n) [] ps is few = that (record { tree_is = refl; none = is })
  upto_of (suc n) (a ∷ trees) ps is few =
      this (record {
        first = a;
        pieces1 = is.0;
        pieces2 = is.1.0;
        left = is.1.1.0;
        right = record { first = trees; pieces1 = is.1.0; pieces2 = []; left = upto_of n trees is.1.0 is.1.1.1 (omega (arith, few)); right = record { tree_is = refl; none = refl }; whole = sym (append-nil is.1.0) };
        whole = is.1.1.2;
      })

  no_more_trees : ((a : A) (ps : List Piece) → L a ps → 0 < length ps) → (trees : List A) (ps : List Piece) → Several L trees ps → length trees ≤ length ps
  unfolding Several
  no_more_trees some [] ps is = omega arith
  no_more_trees some (a ∷ trees) ps is =
      omega (arith, some a is.0 is.1.1.0, no_more_trees some trees is.1.0 is.1.1.1, ap length is.1.1.2, length-append is.0 is.1.0)

  -- a reader of lists, in lists of at most so many tokens
  pub many_reads : ((a : A) (ps : List Piece) → L a ps → 0 < length ps) → Reads (Several L) most size Stops (many size test read)
  many_reads some =
      reads_within (λ trees ps is. several_of size trees ps is) (λ trees ps is few. upto_of size trees ps is (omega (arith, no_more_trees some trees ps is, few))) (many_upto size)

-- what stands after what precedes a list: a tree of it, or what is after the list
pub several_stops : {A : Type 0} (L : Language A) (test : Token → Bool) (StopsA Stops : List Token → Type 0)
    → ((a : A) (ps : List Piece) (front rest : List Token) → L a ps → Fits ps front → FirstIs test true (front ++ rest)) → ((ts : List Token) → FirstIs test true ts → StopsA ts) → ((ts : List Token) → Stops ts → StopsA ts)
    → (trees : List A) (ps : List Piece) (ys rest : List Token) → Several L trees ps → Fits ps ys → Stops rest → StopsA (ys ++ rest)
unfolding Several Fits
several_stops L test StopsA Stops begins goes_on ends [] ps [] rest is fits stop = ends rest stop
several_stops L test StopsA Stops begins goes_on ends [] [] (y ∷ ys) rest is fits stop = absurd fits
several_stops L test StopsA Stops begins goes_on ends [] (p ∷ ps) (y ∷ ys) rest is fits stop = absurd (cc)
several_stops L test StopsA Stops begins goes_on ends (a ∷ trees) ps ys rest is fits stop =
    let parted = fits_part is.0 is.1.0 ys (subst (λ u. Fits u ys) is.1.1.2 fits) in
    goes_on (ys ++ rest) (subst (λ u. FirstIs test true u) (sym (ap (λ u. u ++ rest) parted.whole ∙ append_assoc parted.front parted.following rest)) (begins a is.0 parted.front (parted.following ++ rest) is.1.1.0 parted.left))

-- the same with what is made of the list
pub several_given_stops : {A C : Type 0} (L : Language A) (make : List A → C) (test : Token → Bool) (StopsA Stops : List Token → Type 0)
    → ((a : A) (ps : List Piece) (front rest : List Token) → L a ps → Fits ps front → FirstIs test true (front ++ rest)) → ((ts : List Token) → FirstIs test true ts → StopsA ts) → ((ts : List Token) → Stops ts → StopsA ts)
    → (c : C) (ps : List Piece) (ys rest : List Token) → Both (Several L) (λ trees. Given (make trees)) c ps → Fits ps ys → Stops rest → StopsA (ys ++ rest)
several_given_stops L make test StopsA Stops begins goes_on ends c ps ys rest both fits stop =
    let e : ps ≡ both.pieces1 = both.whole ∙ ap (λ u. both.pieces1 ++ u) both.right.none ∙ append-nil both.pieces1 in
    several_stops L test StopsA Stops begins goes_on ends both.first both.pieces1 ys rest both.left (subst (λ u. Fits u ys) e fits) stop

pub some_list : {A C : Type 0} (L : Language A) (make : List A → C) → (c : C) × ((ps : List Piece) × Both (Several L) (λ trees. Given (make trees)) c ps)
unfolding Several
some_list L make = (make [], ([], record { first = []; pieces1 = []; pieces2 = []; left = refl; right = record { tree_is = refl; none = refl }; whole = refl }))
