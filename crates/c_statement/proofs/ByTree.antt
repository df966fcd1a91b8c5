-- Readers of trees of which each has its own condition on what may stand after it.
use Rattle.std.proofs.Common.{◌≡◌, ◌≤◌, inl, inr, ℕ, Bool, true, false, ◌&&◌, List, [], ◌∷◌, ◌++◌, length, refl, sym, ap, ◌∙◌, subst, arith, if◌then◌else◌}
use Rattle.std.proofs.lemmas.List.{append_assoc}
use Rattle.c_tree.specs.Pieces.{Piece, Fits}
use Rattle.c_tree.specs.declared.token.Token.{Token}
use Rattle.c_reader.specs.Depths.{AreWithin}
use Rattle.c_reader.specs.Reading.{Answer, Reader, ◌>>=◌, after, choose}
use Rattle.c_reader.specs.Reading as reading
use Rattle.c_reader.proofs.Reader.{Language, Found, Reads}
use Rattle.c_reader.proofs.Giving.{reads_as, reads_where, reads_same}
use Rattle.c_reader.proofs.Binding.{Both, fits_part, within_append, deep_first, deep_second, shorter, bind_reads}
use Rattle.c_reader.proofs.Choosing.{Either, this, that, FirstIs, choose_reads}

abbrev pub Never : List Token → Type 0
Never rest = ⊥

-- what a reader reads, and that each tree is read where what is after it stops that tree
pub record ReadsBy {A : Type 0} (L : Language A) (most size : ℕ) (Stops : A → List Token → Type 0) (read : Reader A) : Type 0 where
  pub weak : Reads L most size Never read
  pub all_by : (tree : A) (pieces : List Piece) (front rest : List Token) → L tree pieces → Fits pieces front → Stops tree rest → length (front ++ rest) ≤ size → Found read most tree pieces front rest

pub by_reads : {A : Type 0} {L : Language A} {most size : ℕ} {Stops : List Token → Type 0} {read : Reader A} → Reads L most size Stops read → ReadsBy L most size (λ tree. Stops) read
by_reads R = record { weak = reads_where (λ rest stop. absurd stop) R; all_by = R.all }

-- one condition that serves all trees
pub reads_by : {A : Type 0} {L : Language A} {most size : ℕ} {Stops : A → List Token → Type 0} (Same : List Token → Type 0) {read : Reader A}
    → ((tree : A) (rest : List Token) → Same rest → Stops tree rest) → ReadsBy L most size Stops read → Reads L most size Same read
reads_by Same less R = record {
  good = R.weak.good;
  bad = R.weak.bad;
  deep = R.weak.deep;
  all = λ tree ps front rest is fits stop small. R.all_by tree ps front rest is fits (less tree rest stop) small;
  local_good = R.weak.local_good;
  local_bad = R.weak.local_bad;
  local_deep = R.weak.local_deep;
}

pub by_where : {A : Type 0} {L : Language A} {most size : ℕ} {Stops Other : A → List Token → Type 0} {read : Reader A}
    → ((tree : A) (ps : List Piece) (rest : List Token) → L tree ps → Other tree rest → Stops tree rest) → ReadsBy L most size Stops read → ReadsBy L most size Other read
by_where less R = record {
  weak = R.weak;
  all_by = λ tree ps front rest is fits stop small. R.all_by tree ps front rest is fits (less tree ps rest is stop) small;
}

pub by_as : {A : Type 0} {L M : Language A} {most size : ℕ} {Stops : A → List Token → Type 0} {read : Reader A}
    → ((a : A) (ps : List Piece) → L a ps → M a ps) → ((a : A) (ps : List Piece) → M a ps → L a ps) → ReadsBy L most size Stops read → ReadsBy M most size Stops read
by_as to from R = record {
  weak = reads_as to from R.weak;
  all_by = λ tree ps front rest is fits stop small. R.all_by tree ps front rest (from tree ps is) fits stop small;
}

-- ---- one after another

module _ {A C : Type 0} (L : Language A) (K : A → Language C) (most size : ℕ) (StopsA : A → List Token → Type 0) (Stops : C → List Token → Type 0) (f : Reader A) (g : A → Reader C)
    (F : ReadsBy L most size StopsA f) (G : (a : A) → ReadsBy (K a) most size Stops (g a)) where
  found_following : (a : A) (c : C) (ps qs : List Piece) (xs ys rest : List Token) → Fits ps xs → AreWithin most ps → f (xs ++ (ys ++ rest)) ≡ reading.good a (ys ++ rest) → Found (g a) most c qs ys rest → Found (f >>= g) most c (ps ++ qs) (xs ++ ys) rest
  found_following a c ps qs xs ys rest fits s h (inl y) = inl (ap (f >>= g) (append_assoc xs ys rest) ∙ ap (λ u. after u g) h ∙ y.0, within_append most ps qs s y.1)
  found_following a c ps qs xs ys rest fits s h (inr y) =
      inr (record { left = y.left; is = ap (f >>= g) (append_assoc xs ys rest) ∙ ap (λ u. after u g) h ∙ y.is; place = deep_second most ps qs xs ys rest y.left fits s y.place })

  found_both : (a : A) (c : C) (ps qs : List Piece) (xs ys rest : List Token) → Fits ps xs → Found f most a ps xs (ys ++ rest) → Found (g a) most c qs ys rest → Found (f >>= g) most c (ps ++ qs) (xs ++ ys) rest
  found_both a c ps qs xs ys rest fits (inl x) y = found_following a c ps qs xs ys rest fits x.1 x.0 y
  found_both a c ps qs xs ys rest fits (inr x) y =
      inr (record { left = x.left; is = ap (f >>= g) (append_assoc xs ys rest) ∙ ap (λ u. after u g) x.is; place = deep_first most ps qs xs ys rest x.left x.place })

  abbrev pub StopsFirst : Type 0
  StopsFirst = (a : A) (ps : List Piece) (c : C) (qs : List Piece) (ys rest : List Token) → L a ps → K a c qs → Fits qs ys → Stops c rest → StopsA a (ys ++ rest)

  all_both : StopsFirst → (c : C) (ps : List Piece) (front rest : List Token) → Both L K c ps → Fits ps front → Stops c rest → length (front ++ rest) ≤ size → Found (f >>= g) most c ps front rest
  all_both stops c ps front rest both fits stop small =
      let fits' : Fits (both.pieces1 ++ both.pieces2) front = subst (λ u. Fits u front) both.whole fits in
      let parted = fits_part both.pieces1 both.pieces2 front fits' in
      let size' : length (parted.front ++ (parted.following ++ rest)) ≤ size = subst (λ u. length u ≤ size) (ap (λ u. u ++ rest) parted.whole ∙ append_assoc parted.front parted.following rest) small in
      let stop1 = stops both.first both.pieces1 c both.pieces2 parted.following rest both.left both.right parted.right stop in
      let found1 = F.all_by both.first both.pieces1 parted.front (parted.following ++ rest) both.left parted.left stop1 size' in
      let small2 : length (parted.following ++ rest) ≤ size = omega (arith, shorter parted.front (parted.following ++ rest), size') in
      let found2 = (G both.first).all_by c both.pieces2 parted.following rest both.right parted.right stop small2 in
      subst (λ u. Found (f >>= g) most c u front rest) (sym both.whole)
      (subst (λ u. Found (f >>= g) most c (both.pieces1 ++ both.pieces2) u rest) (sym parted.whole)
      (found_both both.first c both.pieces1 both.pieces2 parted.front parted.following rest parted.left found1 found2))

  pub bind_by : ((a : A) (ps : List Piece) → L a ps → (c : C) × ((qs : List Piece) × K a c qs)) → StopsFirst → ReadsBy (Both L K) most size Stops (f >>= g)
  bind_by some stops = record {
    weak = bind_reads L K most size Never Never f g F.weak (λ a. (G a).weak) some (λ a c qs ys rest is fits stop. absurd stop);
    all_by = all_both stops;
  }

-- ---- by the first token

first_of : (Token → Bool) → List Token → Bool
first_of test [] = false
first_of test (token ∷ rest) = test token

first_as : (test : Token → Bool) (b : Bool) (tokens : List Token) → FirstIs test b tokens → first_of test tokens ≡ b
unfolding FirstIs first_of
first_as test b [] h = sym h
first_as test b (token ∷ rest) h = h

chosen : {A : Type 0} (test : Token → Bool) (f g : Reader A) (b : Bool) (ts : List Token) → first_of test ts ≡ b → choose test f g ts ≡ (if b then f ts else g ts)
unfolding choose first_of
chosen test f g true [] is = absurd (cc)
chosen test f g false [] is = refl
chosen test f g b (w ∷ r) is = ap (λ c. if c then f (w ∷ r) else g (w ∷ r)) is

found_as : {A : Type 0} (most : ℕ) (read other : Reader A) (tree : A) (ps : List Piece) (front rest : List Token) → other (front ++ rest) ≡ read (front ++ rest) → Found read most tree ps front rest → Found other most tree ps front rest
found_as most read other tree ps front rest e (inl h) = inl (e ∙ h.0, h.1)
found_as most read other tree ps front rest e (inr h) = inr (record { left = h.left; is = e ∙ h.is; place = h.place })

module _ {A : Type 0} (L M : Language A) (most size : ℕ) (Stops : A → List Token → Type 0) (test : Token → Bool) (f g : Reader A) (F : ReadsBy L most size Stops f) (G : ReadsBy M most size Stops g) where
  all_either : ((a : A) (ps : List Piece) (front rest : List Token) → L a ps → Fits ps front → Stops a rest → FirstIs test true (front ++ rest))
      → ((a : A) (ps : List Piece) (front rest : List Token) → M a ps → Fits ps front → Stops a rest → FirstIs test false (front ++ rest))
      → (tree : A) (ps : List Piece) (front rest : List Token) → Either L M tree ps → Fits ps front → Stops tree rest → length (front ++ rest) ≤ size → Found (choose test f g) most tree ps front rest
  all_either here there tree ps front rest (this x) fits stop small =
      found_as most f (choose test f g) tree ps front rest (chosen test f g true (front ++ rest) (first_as test true (front ++ rest) (here tree ps front rest x fits stop))) (F.all_by tree ps front rest x fits stop small)
  all_either here there tree ps front rest (that x) fits stop small =
      found_as most g (choose test f g) tree ps front rest (chosen test f g false (front ++ rest) (first_as test false (front ++ rest) (there tree ps front rest x fits stop))) (G.all_by tree ps front rest x fits stop small)

  pub choose_by : ((a : A) (ps : List Piece) (front rest : List Token) → L a ps → Fits ps front → Stops a rest → FirstIs test true (front ++ rest))
      → ((a : A) (ps : List Piece) (front rest : List Token) → M a ps → Fits ps front → Stops a rest → FirstIs test false (front ++ rest))
      → ReadsBy (Either L M) most size Stops (choose test f g)
  choose_by here there = record {
    weak = choose_reads L M most size Never test f g F.weak G.weak (λ a ps front rest is fits stop. absurd stop) (λ a ps front rest is fits stop. absurd stop);
    all_by = all_either here there;
  }

-- ---- by a condition and the first token

pub by_same : {A : Type 0} {L : Language A} {most size : ℕ} {Stops : A → List Token → Type 0} {read : Reader A} (other : Reader A) → ((ts : List Token) → read ts ≡ other ts) → ReadsBy L most size Stops read → ReadsBy L most size Stops other
by_same {most = most} {read = read} other same R = record {
  weak = reads_same other same R.weak;
  all_by = λ tree ps front rest is fits stop small. found_as most read other tree ps front rest (sym (same (front ++ rest))) (R.all_by tree ps front rest is fits stop small);
}

-- the trees of a language where a condition holds
pub record OnlyIf {A : Type 0} (b : Bool) (L : Language A) (tree : A) (pieces : List Piece) : Type 0 where
  pub holds : b ≡ true
  pub is : L tree pieces

module _ {A : Type 0} (L M : Language A) (most size : ℕ) (Stops : A → List Token → Type 0) (test : Token → Bool) (f g : Reader A) (F : ReadsBy L most size Stops f) (G : ReadsBy M most size Stops g)
    (here : (a : A) (ps : List Piece) (front rest : List Token) → L a ps → Fits ps front → Stops a rest → FirstIs test true (front ++ rest)) where
  only_to : (b : Bool) (tree : A) (ps : List Piece) → Either L M tree ps → b ≡ true → Either (OnlyIf b L) M tree ps
  only_to b tree ps (this x) h = this (record { holds = h; is = x })
  only_to b tree ps (that x) h = that x

  only_from : (b : Bool) (tree : A) (ps : List Piece) → Either (OnlyIf b L) M tree ps → Either L M tree ps
  only_from b tree ps (this x) = this x.is
  only_from b tree ps (that x) = that x

  never_from : (tree : A) (ps : List Piece) → Either (OnlyIf false L) M tree ps → M tree ps
  never_from tree ps (this x) = absurd (let h : false ≡ true = x.holds in cc)
  never_from tree ps (that x) = x

  skipped : (ts : List Token) → g ts ≡ choose (λ w. false && test w) f g ts
  unfolding choose
  skipped [] = refl
  skipped (w ∷ r) = refl

  pub choose_if_by : (b : Bool) → ((a : A) (ps : List Piece) (front rest : List Token) → M a ps → Fits ps front → Stops a rest → FirstIs (λ w. b && test w) false (front ++ rest))
      → ReadsBy (Either (OnlyIf b L) M) most size Stops (choose (λ w. b && test w) f g)
  choose_if_by true there = by_as (λ tree ps x. only_to true tree ps x refl) (only_from true) (choose_by L M most size Stops test f g F G here there)
  choose_if_by false there = by_same (choose (λ w. false && test w) f g) skipped (by_as (λ tree ps x. that x) never_from G)
