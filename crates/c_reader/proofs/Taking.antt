-- Readers of one token.
use Rattle.std.proofs.Common.{◌≡◌, inl, inr, ℕ, zero, suc, ◌+◌, Bool, true, false, List, [], ◌∷◌, ◌++◌, length, refl, sym, ap, ◌∙◌, subst, arith}
use Rattle.std.proofs.lemmas.List.{append_cancel_right}
use Rattle.c_tree.specs.Pieces.{Piece, Takes, Fits}
use Rattle.c_tree.specs.declared.token.Token.{Token}
use Rattle.c_reader.specs.Depths.{AreWithin}
use Rattle.c_reader.specs.Reading.{Answer, Reader, take_as, taken}
use Rattle.c_reader.specs.Reading as reading
use Rattle.c_reader.proofs.Giving.{reads_as}
use Rattle.c_reader.proofs.Reader.{Good, Bad, Deep, Found, Reads}

-- the piece of a value alone
pub record Single {A : Type 0} (piece : A → Piece) (tree : A) (pieces : List Piece) : Type 0 where
  pub one : pieces ≡ piece tree ∷ []

-- the same of some values
pub record SingleIn {A : Type 0} (In : A → Type 0) (piece : A → Piece) (tree : A) (pieces : List Piece) : Type 0 where
  pub within : In tree
  pub one : pieces ≡ piece tree ∷ []

module _ {A : Type 0} (In : A → Type 0) (test : Token → Bool) (value : Token → A) (most size : ℕ) (piece : A → Piece) (some : A) (some_in : In some)
    (is : (a : A) (w : Token) → In a → Takes (piece a) w → (test w ≡ true) × (value w ≡ a))
    (takes : (w : Token) → test w ≡ true → Takes (piece (value w)) w)
    (within : (w : Token) → test w ≡ true → In (value w)) where
  taken_good : (left : ℕ) → ((a : A) → (piece a).nesting + left ≡ most + 1) → (b : Bool) (w : Token) (r : List Token) → test w ≡ b → (tree : A) (rest : List Token) → taken b (value w) left w r ≡ reading.good tree rest → Good (SingleIn In piece) most (w ∷ r) tree rest
  unfolding taken Fits AreWithin
  taken_good left level false w r fit tree rest h = absurd (cc)
  taken_good zero level true w r fit tree rest h = absurd (cc)
  taken_good (suc left) level true w r fit tree rest h =
      let same : value w ≡ tree = cc in
      let t : Takes (piece (value w)) w = takes w fit in
      record {
        pieces = piece tree ∷ [];
        front = w ∷ [];
        spelled = record { within = subst In same (within w fit); one = refl };
        fits = (subst (λ a. Takes (piece a) w) same t, tt);
        shallow = (omega (arith, level tree), tt);
        whole = cc;
      }

  take_good : (left : ℕ) → ((a : A) → (piece a).nesting + left ≡ most + 1) → (ts : List Token) (tree : A) (rest : List Token) → take_as test value left ts ≡ reading.good tree rest → Good (SingleIn In piece) most ts tree rest
  unfolding take_as
  take_good left level [] tree rest h = absurd (cc)
  take_good left level (w ∷ r) tree rest h = taken_good left level (test w) w r refl tree rest h

  single_bad : (ts rest : List Token) → ts ≡ rest → Bad (SingleIn In piece) most ts rest
  unfolding Fits AreWithin
  single_bad ts rest h = record { tree = some; pieces = []; missing = piece some ∷ []; front = []; spelled = record { within = some_in; one = refl }; fits = tt; shallow = tt; whole = h }

  taken_bad : (left : ℕ) (b : Bool) (w : Token) (r rest : List Token) → taken b (value w) left w r ≡ reading.bad rest → w ∷ r ≡ rest
  unfolding taken
  taken_bad left false w r rest h = cc
  taken_bad zero true w r rest h = absurd (cc)
  taken_bad (suc left) true w r rest h = absurd (cc)

  take_bad : (left : ℕ) (ts rest : List Token) → take_as test value left ts ≡ reading.bad rest → ts ≡ rest
  unfolding take_as
  take_bad left [] rest h = cc
  take_bad left (w ∷ r) rest h = taken_bad left (test w) w r rest h

  taken_deep : (left : ℕ) → ((a : A) → (piece a).nesting + left ≡ most + 1) → (b : Bool) (w : Token) (r : List Token) → test w ≡ b → (rest : List Token) → taken b (value w) left w r ≡ reading.deep rest → Deep (SingleIn In piece) most (w ∷ r) rest
  unfolding taken Fits AreWithin
  taken_deep left level false w r fit rest h = absurd (cc)
  taken_deep zero level true w r fit rest h =
      let same : w ∷ r ≡ rest = cc in
      record {
        tree = value w;
        pieces = [];
        piece = piece (value w);
        missing = [];
        front = [];
        token = w;
        following = r;
        spelled = record { within = within w fit; one = refl };
        fits = tt;
        takes = takes w fit;
        shallow = tt;
        deep = omega (arith, level (value w));
        first = sym same;
        whole = same;
      }
  taken_deep (suc left) level true w r fit rest h = absurd (cc)

  take_deep : (left : ℕ) → ((a : A) → (piece a).nesting + left ≡ most + 1) → (ts rest : List Token) → take_as test value left ts ≡ reading.deep rest → Deep (SingleIn In piece) most ts rest
  unfolding take_as
  take_deep left level [] rest h = absurd (cc)
  take_deep left level (w ∷ r) rest h = taken_deep left level (test w) w r refl rest h

  taken_found : (left : ℕ) → ((a : A) → (piece a).nesting + left ≡ most + 1) → (tree : A) (w : Token) (rest : List Token) → (test w ≡ true) × (value w ≡ tree) → Found (take_as test value left) most tree (piece tree ∷ []) (w ∷ []) rest
  unfolding take_as taken Fits AreWithin
  taken_found zero level tree w rest fit =
      inr (record {
        left = w ∷ rest;
        is = ap (λ b. taken b (value w) zero w rest) fit.0;
        place = record { before = []; piece = piece tree; missing = []; taken = []; token = w; following = []; parts = refl; fits = tt; shallow = tt; deep = omega (arith, level tree); whole = refl; is_left = refl };
      })
  taken_found (suc left) level tree w rest fit =
      inl (ap (λ b. taken b (value w) (suc left) w rest) fit.0 ∙ ap (λ a. reading.good a rest) fit.1, (omega (arith, level tree), tt))

  take_all : (left : ℕ) → ((a : A) → (piece a).nesting + left ≡ most + 1) → (tree : A) (ps : List Piece) (front rest : List Token) → In tree → ps ≡ piece tree ∷ [] → Fits ps front → Found (take_as test value left) most tree ps front rest
  unfolding Fits
  take_all left level tree [] front rest inside one fits = absurd (cc)
  take_all left level tree (p ∷ ps) [] rest inside one fits = absurd fits
  take_all left level tree (p ∷ []) (w ∷ []) rest inside one fits =
      let same : p ≡ piece tree = cc in
      subst (λ q. Found (take_as test value left) most tree (q ∷ []) (w ∷ []) rest) (sym same) (taken_found left level tree w rest (is tree w inside (subst (λ q. Takes q w) same fits.0)))
  take_all left level tree (p ∷ []) (w ∷ v ∷ ws) rest inside one fits = absurd fits.1
  take_all left level tree (p ∷ q ∷ ps) (w ∷ ws) rest inside one fits = absurd (cc)

  taken_through : (left : ℕ) (b : Bool) (w : Token) (r : List Token) (tree : A) (rest : List Token) → taken b (value w) left w r ≡ reading.good tree rest → (r ≡ rest) × ((other : List Token) → taken b (value w) left w other ≡ reading.good tree other)
  unfolding taken
  taken_through left false w r tree rest h = absurd (cc)
  taken_through zero true w r tree rest h = absurd (cc)
  taken_through (suc left) true w r tree rest h = let same : value w ≡ tree = cc in (cc, λ other. ap (λ a. reading.good a other) same)

  take_local_good : (left : ℕ) (front : List Token) (w : Token) (r other : List Token) (tree : A) → take_as test value left (front ++ w ∷ r) ≡ reading.good tree (w ∷ r) → take_as test value left (front ++ w ∷ other) ≡ reading.good tree (w ∷ other)
  unfolding take_as
  take_local_good left [] w r other tree h = let e : r ≡ w ∷ r = (taken_through left (test w) w r tree (w ∷ r) h).0 in absurd (omega (arith, ap length e))
  take_local_good left (x ∷ []) w r other tree h = (taken_through left (test x) x (w ∷ r) tree (w ∷ r) h).1 (w ∷ other)
  take_local_good left (x ∷ y ∷ front) w r other tree h =
      let e : y ∷ front ++ w ∷ r ≡ w ∷ r = (taken_through left (test x) x (y ∷ front ++ w ∷ r) tree (w ∷ r) h).0 in
      let none : y ∷ front ≡ [] = append_cancel_right (y ∷ front) [] (w ∷ r) e in
      absurd (cc)

  taken_bad_through : (left : ℕ) (b : Bool) (w : Token) (r rest other : List Token) → taken b (value w) left w r ≡ reading.bad rest → taken b (value w) left w other ≡ reading.bad (w ∷ other)
  unfolding taken
  taken_bad_through left false w r rest other h = refl
  taken_bad_through zero true w r rest other h = absurd (cc)
  taken_bad_through (suc left) true w r rest other h = absurd (cc)

  take_local_bad : (left : ℕ) (front : List Token) (w : Token) (r other : List Token) → take_as test value left (front ++ w ∷ r) ≡ reading.bad (w ∷ r) → take_as test value left (front ++ w ∷ other) ≡ reading.bad (w ∷ other)
  unfolding take_as
  take_local_bad left [] w r other h = taken_bad_through left (test w) w r (w ∷ r) other h
  take_local_bad left (x ∷ front) w r other h =
      let e : x ∷ front ++ w ∷ r ≡ w ∷ r = take_bad left (x ∷ front ++ w ∷ r) (w ∷ r) h in
      let none : x ∷ front ≡ [] = append_cancel_right (x ∷ front) [] (w ∷ r) e in
      absurd (cc)

  taken_deep_is : (left : ℕ) (b : Bool) (w : Token) (r rest : List Token) → taken b (value w) left w r ≡ reading.deep rest → w ∷ r ≡ rest
  unfolding taken
  taken_deep_is left false w r rest h = absurd (cc)
  taken_deep_is zero true w r rest h = cc
  taken_deep_is (suc left) true w r rest h = absurd (cc)

  taken_deep_through : (left : ℕ) (b : Bool) (w : Token) (r rest other : List Token) → taken b (value w) left w r ≡ reading.deep rest → taken b (value w) left w other ≡ reading.deep (w ∷ other)
  unfolding taken
  taken_deep_through left false w r rest other h = absurd (cc)
  taken_deep_through zero true w r rest other h = refl
  taken_deep_through (suc left) true w r rest other h = absurd (cc)

  take_local_deep : (left : ℕ) (front : List Token) (w : Token) (r other : List Token) → take_as test value left (front ++ w ∷ r) ≡ reading.deep (w ∷ r) → take_as test value left (front ++ w ∷ other) ≡ reading.deep (w ∷ other)
  unfolding take_as
  take_local_deep left [] w r other h = taken_deep_through left (test w) w r (w ∷ r) other h
  take_local_deep left (x ∷ front) w r other h =
      let e : x ∷ front ++ w ∷ r ≡ w ∷ r = taken_deep_is left (test x) x (front ++ w ∷ r) (w ∷ r) h in
      let none : x ∷ front ≡ [] = append_cancel_right (x ∷ front) [] (w ∷ r) e in
      absurd (cc)

  -- a reader of one token of some, which has the language of the values' pieces, nested so deeply that one level more than is left is too deep
  pub take_in_reads : (left : ℕ) → ((a : A) → (piece a).nesting + left ≡ most + 1) → (Stops : List Token → Type 0) → Reads (SingleIn In piece) most size Stops (take_as test value left)
  take_in_reads left level Stops = record {
    good = take_good left level;
    bad = λ ts rest h. single_bad ts rest (take_bad left ts rest h);
    deep = take_deep left level;
    all = λ tree ps front rest one fits stop small. take_all left level tree ps front rest one.within one.one fits;
    local_good = take_local_good left;
    local_bad = take_local_bad left;
    local_deep = take_local_deep left;
  }

-- the same where each value has its token
pub take_reads : {A : Type 0} (test : Token → Bool) (value : Token → A) (most size : ℕ) (piece : A → Piece) (some : A)
    (is : (a : A) (w : Token) → Takes (piece a) w → (test w ≡ true) × (value w ≡ a))
    (takes : (w : Token) → test w ≡ true → Takes (piece (value w)) w)
    (left : ℕ) → ((a : A) → (piece a).nesting + left ≡ most + 1) → (Stops : List Token → Type 0) → Reads (Single piece) most size Stops (take_as test value left)
take_reads test value most size piece some is takes left level Stops =
    reads_as (λ a ps s. record { one = s.one }) (λ a ps s. record { within = tt; one = s.one })
    (take_in_reads (λ a. Unit {0}) test value most size piece some tt (λ a w inside t. is a w t) takes (λ w t. tt) left level Stops)
