-- Readers one after another.
use Rattle.std.proofs.Common.{◌≡◌, ◌≤◌, inl, inr, ℕ, List, [], ◌∷◌, ◌++◌, length, refl, sym, ap, ◌∙◌, subst, arith}
use Rattle.std.proofs.lemmas.List.{append_assoc, append_cancel_right}
use Rattle.c_tree.specs.Pieces.{Piece, Fits}
use Rattle.c_tree.specs.declared.token.Token.{Token}
use Rattle.c_reader.specs.Depths.{AreWithin}
use Rattle.c_reader.specs.Reading.{Answer, Reader, ◌>>=◌, after}
use Rattle.c_reader.specs.Reading as reading
use Rattle.c_reader.proofs.Reader.{Language, Good, Bad, Deep, TooDeep, Found, Reads}

-- the pieces of a first tree, and then those of what follows it
pub record Both {A C : Type 0} (L : Language A) (K : A → Language C) (tree : C) (pieces : List Piece) : Type 0 where
  pub first : A
  pub pieces1 : List Piece
  pub pieces2 : List Piece
  pub left : L first pieces1
  pub right : K first tree pieces2
  pub whole : pieces ≡ pieces1 ++ pieces2

pub fits_append : (ps qs : List Piece) (xs ys : List Token) → Fits ps xs → Fits qs ys → Fits (ps ++ qs) (xs ++ ys)
unfolding Fits
fits_append [] qs [] ys f g = g
fits_append [] qs (x ∷ xs) ys f g = absurd f
fits_append (p ∷ ps) qs [] ys f g = absurd f
fits_append (p ∷ ps) qs (x ∷ xs) ys f g = (f.0, fits_append ps qs xs ys f.1 g)

-- tokens that fit two lists of pieces one after another are two lists
pub record Parted (ps qs : List Piece) (tokens : List Token) : Type 0 where
  pub front : List Token
  pub following : List Token
  pub left : Fits ps front
  pub right : Fits qs following
  pub whole : tokens ≡ front ++ following

pub fits_part : (ps qs : List Piece) (tokens : List Token) → Fits (ps ++ qs) tokens → Parted ps qs tokens
unfolding Fits
fits_part [] qs tokens f = record { front = []; following = tokens; left = tt; right = f; whole = refl }
fits_part (p ∷ ps) qs [] f = absurd f
fits_part (p ∷ ps) qs (x ∷ xs) f =
    let rest = fits_part ps qs xs f.1 in
    record { front = x ∷ rest.front; following = rest.following; left = (f.0, rest.left); right = rest.right; whole = ap (λ ts. x ∷ ts) rest.whole }

pub within_append : (most : ℕ) (ps qs : List Piece) → AreWithin most ps → AreWithin most qs → AreWithin most (ps ++ qs)
unfolding AreWithin
within_append most [] qs s t = t
within_append most (p ∷ ps) qs s t = (s.0, within_append most ps qs s.1 t)

pub within_left : (most : ℕ) (ps qs : List Piece) → AreWithin most (ps ++ qs) → AreWithin most ps
unfolding AreWithin
within_left most [] qs s = tt
within_left most (p ∷ ps) qs s = (s.0, within_left most ps qs s.1)

pub within_right : (most : ℕ) (ps qs : List Piece) → AreWithin most (ps ++ qs) → AreWithin most qs
unfolding AreWithin
within_right most [] qs s = s
within_right most (p ∷ ps) qs s = within_right most ps qs s.1

-- a tree whose first token that is nested too deeply was come to is nested too deeply
pub not_within : (most : ℕ) (ps : List Piece) (front rest left : List Token) → TooDeep most ps front rest left → AreWithin most ps → ⊥
unfolding AreWithin
not_within most ps front rest left d s = let more = within_right most d.before (d.piece ∷ d.missing) (subst (AreWithin most) d.parts s) in omega (arith, d.deep, more.0)

-- the same place where another tree follows, and where another comes before
pub deep_first : (most : ℕ) (ps qs : List Piece) (xs ys rest left : List Token) → TooDeep most ps xs (ys ++ rest) left → TooDeep most (ps ++ qs) (xs ++ ys) rest left
deep_first most ps qs xs ys rest left d = record {
  before = d.before;
  piece = d.piece;
  missing = d.missing ++ qs;
  taken = d.taken;
  token = d.token;
  following = d.following ++ ys;
  parts = ap (λ u. u ++ qs) d.parts ∙ append_assoc d.before (d.piece ∷ d.missing) qs;
  fits = d.fits;
  shallow = d.shallow;
  deep = d.deep;
  whole = ap (λ u. u ++ ys) d.whole ∙ append_assoc d.taken (d.token ∷ d.following) ys;
  is_left = d.is_left ∙ ap (λ u. d.token ∷ u) (sym (append_assoc d.following ys rest));
}

pub deep_second : (most : ℕ) (ps qs : List Piece) (xs ys rest left : List Token) → Fits ps xs → AreWithin most ps → TooDeep most qs ys rest left → TooDeep most (ps ++ qs) (xs ++ ys) rest left
deep_second most ps qs xs ys rest left fits s d = record {
  before = ps ++ d.before;
  piece = d.piece;
  missing = d.missing;
  taken = xs ++ d.taken;
  token = d.token;
  following = d.following;
  parts = ap (λ u. ps ++ u) d.parts ∙ sym (append_assoc ps d.before (d.piece ∷ d.missing));
  fits = fits_append ps d.before xs d.taken fits d.fits;
  shallow = within_append most ps d.before s d.shallow;
  deep = d.deep;
  whole = ap (λ u. xs ++ u) d.whole ∙ sym (append_assoc xs d.taken (d.token ∷ d.following));
  is_left = d.is_left;
}

pub shorter : (xs ys : List Token) → length ys ≤ length (xs ++ ys)
shorter [] ys = omega arith
shorter (x ∷ xs) ys = omega (arith, shorter xs ys)

-- what is read doesn't depend on what stands after a token that is left
pub local_through : {A : Type 0} {L : Language A} {most size : ℕ} {Stops : List Token → Type 0} {f : Reader A} → Reads L most size Stops f → (xs ys : List Token) (w : Token) (r other : List Token) (a : A)
    → f (xs ++ (ys ++ w ∷ r)) ≡ reading.good a (ys ++ w ∷ r) → f (xs ++ (ys ++ w ∷ other)) ≡ reading.good a (ys ++ w ∷ other)
local_through F xs [] w r other a h = F.local_good xs w r other a h
local_through F xs (y ∷ ys) w r other a h = F.local_good xs y (ys ++ w ∷ r) (ys ++ w ∷ other) a h

module _ {A C : Type 0} (L : Language A) (K : A → Language C) (most size : ℕ) (StopsA Stops : List Token → Type 0) (f : Reader A) (g : A → Reader C)
    (F : Reads L most size StopsA f) (G : (a : A) → Reads (K a) most size Stops (g a)) where
  bind_good_at : (ts : List Token) (c : C) (rest : List Token) (answer : Answer A) → f ts ≡ answer → after answer g ≡ reading.good c rest → Good (Both L K) most ts c rest
  bind_good_at ts c rest (reading.good a r) is h =
      let x = F.good ts a r is in
      let y = (G a).good r c rest h in
      record {
        pieces = x.pieces ++ y.pieces;
        front = x.front ++ y.front;
        spelled = record { first = a; pieces1 = x.pieces; pieces2 = y.pieces; left = x.spelled; right = y.spelled; whole = refl };
        fits = fits_append x.pieces y.pieces x.front y.front x.fits y.fits;
        shallow = within_append most x.pieces y.pieces x.shallow y.shallow;
        whole = x.whole ∙ ap (λ u. x.front ++ u) y.whole ∙ sym (append_assoc x.front y.front rest);
      }
  bind_good_at ts c rest (reading.bad r) is h = absurd (cc)
  bind_good_at ts c rest (reading.deep r) is h = absurd (cc)

  bind_bad_at : ((a : A) (ps : List Piece) → L a ps → (c : C) × ((qs : List Piece) × K a c qs)) → (ts : List Token) (rest : List Token) (answer : Answer A) → f ts ≡ answer → after answer g ≡ reading.bad rest → Bad (Both L K) most ts rest
  bind_bad_at some ts rest (reading.good a r) is h =
      let x = F.good ts a r is in
      let y = (G a).bad r rest h in
      record {
        tree = y.tree;
        pieces = x.pieces ++ y.pieces;
        missing = y.missing;
        front = x.front ++ y.front;
        spelled = record { first = a; pieces1 = x.pieces; pieces2 = y.pieces ++ y.missing; left = x.spelled; right = y.spelled; whole = append_assoc x.pieces y.pieces y.missing };
        fits = fits_append x.pieces y.pieces x.front y.front x.fits y.fits;
        shallow = within_append most x.pieces y.pieces x.shallow y.shallow;
        whole = x.whole ∙ ap (λ u. x.front ++ u) y.whole ∙ sym (append_assoc x.front y.front rest);
      }
  bind_bad_at some ts rest (reading.bad r) is h =
      let x = F.bad ts r is in
      let z = some x.tree (x.pieces ++ x.missing) x.spelled in
      let same : r ≡ rest = cc in
      record {
        tree = z.0;
        pieces = x.pieces;
        missing = x.missing ++ z.1.0;
        front = x.front;
        spelled = record { first = x.tree; pieces1 = x.pieces ++ x.missing; pieces2 = z.1.0; left = x.spelled; right = z.1.1; whole = sym (append_assoc x.pieces x.missing z.1.0) };
        fits = x.fits;
        shallow = x.shallow;
        whole = x.whole ∙ ap (λ u. x.front ++ u) same;
      }
  bind_bad_at some ts rest (reading.deep r) is h = absurd (cc)

  bind_deep_at : ((a : A) (ps : List Piece) → L a ps → (c : C) × ((qs : List Piece) × K a c qs)) → (ts : List Token) (rest : List Token) (answer : Answer A) → f ts ≡ answer → after answer g ≡ reading.deep rest → Deep (Both L K) most ts rest
  bind_deep_at some ts rest (reading.good a r) is h =
      let x = F.good ts a r is in
      let y = (G a).deep r rest h in
      record {
        tree = y.tree;
        pieces = x.pieces ++ y.pieces;
        piece = y.piece;
        missing = y.missing;
        front = x.front ++ y.front;
        token = y.token;
        following = y.following;
        spelled = record { first = a; pieces1 = x.pieces; pieces2 = y.pieces ++ y.piece ∷ y.missing; left = x.spelled; right = y.spelled; whole = append_assoc x.pieces y.pieces (y.piece ∷ y.missing) };
        fits = fits_append x.pieces y.pieces x.front y.front x.fits y.fits;
        takes = y.takes;
        shallow = within_append most x.pieces y.pieces x.shallow y.shallow;
        deep = y.deep;
        first = y.first;
        whole = x.whole ∙ ap (λ u. x.front ++ u) y.whole ∙ sym (append_assoc x.front y.front rest);
      }
  bind_deep_at some ts rest (reading.deep r) is h =
      let x = F.deep ts r is in
      let z = some x.tree (x.pieces ++ x.piece ∷ x.missing) x.spelled in
      let same : r ≡ rest = cc in
      record {
        tree = z.0;
        pieces = x.pieces;
        piece = x.piece;
        missing = x.missing ++ z.1.0;
        front = x.front;
        token = x.token;
        following = x.following;
        spelled = record { first = x.tree; pieces1 = x.pieces ++ x.piece ∷ x.missing; pieces2 = z.1.0; left = x.spelled; right = z.1.1; whole = sym (append_assoc x.pieces (x.piece ∷ x.missing) z.1.0) };
        fits = x.fits;
        takes = x.takes;
        shallow = x.shallow;
        deep = x.deep;
        first = sym same ∙ x.first;
        whole = x.whole ∙ ap (λ u. x.front ++ u) same;
      }
  bind_deep_at some ts rest (reading.bad r) is h = absurd (cc)

  -- what follows a first tree, where it was read
  bind_found : (a : A) (c : C) (ps qs : List Piece) (xs ys rest : List Token) → Fits ps xs → AreWithin most ps → f (xs ++ (ys ++ rest)) ≡ reading.good a (ys ++ rest) → Found (g a) most c qs ys rest → Found (f >>= g) most c (ps ++ qs) (xs ++ ys) rest
  bind_found a c ps qs xs ys rest fits s h (inl y) = inl (ap (f >>= g) (append_assoc xs ys rest) ∙ ap (λ u. after u g) h ∙ y.0, within_append most ps qs s y.1)
  bind_found a c ps qs xs ys rest fits s h (inr y) =
      inr (record { left = y.left; is = ap (f >>= g) (append_assoc xs ys rest) ∙ ap (λ u. after u g) h ∙ y.is; place = deep_second most ps qs xs ys rest y.left fits s y.place })

  bind_deeply : (a : A) (c : C) (ps qs : List Piece) (xs ys rest : List Token) → Fits ps xs → Found f most a ps xs (ys ++ rest) → Found (g a) most c qs ys rest → Found (f >>= g) most c (ps ++ qs) (xs ++ ys) rest
  bind_deeply a c ps qs xs ys rest fits (inl x) y = bind_found a c ps qs xs ys rest fits x.1 x.0 y
  bind_deeply a c ps qs xs ys rest fits (inr x) y =
      inr (record { left = x.left; is = ap (f >>= g) (append_assoc xs ys rest) ∙ ap (λ u. after u g) x.is; place = deep_first most ps qs xs ys rest x.left x.place })

  bind_all : ((a : A) (c : C) (qs : List Piece) (ys rest : List Token) → K a c qs → Fits qs ys → Stops rest → StopsA (ys ++ rest))
      → (c : C) (ps : List Piece) (front rest : List Token) → Both L K c ps → Fits ps front → Stops rest → length (front ++ rest) ≤ size → Found (f >>= g) most c ps front rest
  bind_all stops c ps front rest both fits stop small =
      let fits' : Fits (both.pieces1 ++ both.pieces2) front = subst (λ u. Fits u front) both.whole fits in
      let parted = fits_part both.pieces1 both.pieces2 front fits' in
      let size' : length (parted.front ++ (parted.following ++ rest)) ≤ size = subst (λ u. length u ≤ size) (ap (λ u. u ++ rest) parted.whole ∙ append_assoc parted.front parted.following rest) small in
      let stop1 = stops both.first c both.pieces2 parted.following rest both.right parted.right stop in
      let found1 = F.all both.first both.pieces1 parted.front (parted.following ++ rest) both.left parted.left stop1 size' in
      let small2 : length (parted.following ++ rest) ≤ size = omega (arith, shorter parted.front (parted.following ++ rest), size') in
      let found2 = (G both.first).all c both.pieces2 parted.following rest both.right parted.right stop small2 in
      subst (λ u. Found (f >>= g) most c u front rest) (sym both.whole)
      (subst (λ u. Found (f >>= g) most c (both.pieces1 ++ both.pieces2) u rest) (sym parted.whole)
      (bind_deeply both.first c both.pieces1 both.pieces2 parted.front parted.following rest parted.left found1 found2))

  bind_local_good_at : (front : List Token) (w : Token) (r other : List Token) (c : C) (answer : Answer A) → f (front ++ w ∷ r) ≡ answer → after answer g ≡ reading.good c (w ∷ r) → (f >>= g) (front ++ w ∷ other) ≡ reading.good c (w ∷ other)
  bind_local_good_at front w r other c (reading.good a r1) is h =
      let x = F.good (front ++ w ∷ r) a r1 is in
      let y = (G a).good r1 c (w ∷ r) h in
      let whole : front ++ w ∷ r ≡ x.front ++ (y.front ++ w ∷ r) = x.whole ∙ ap (λ u. x.front ++ u) y.whole in
      let e : front ≡ x.front ++ y.front = append_cancel_right front (x.front ++ y.front) (w ∷ r) (whole ∙ sym (append_assoc x.front y.front (w ∷ r))) in
      let f1 : f (x.front ++ (y.front ++ w ∷ r)) ≡ reading.good a (y.front ++ w ∷ r) = ap f (sym whole) ∙ is ∙ ap (λ u. reading.good a u) y.whole in
      let g1 : g a (y.front ++ w ∷ r) ≡ reading.good c (w ∷ r) = ap (g a) (sym y.whole) ∙ h in
      ap (f >>= g) (ap (λ u. u ++ w ∷ other) e ∙ append_assoc x.front y.front (w ∷ other))
      ∙ ap (λ u. after u g) (local_through F x.front y.front w r other a f1) ∙ (G a).local_good y.front w r other c g1
  bind_local_good_at front w r other c (reading.bad r1) is h = absurd (cc)
  bind_local_good_at front w r other c (reading.deep r1) is h = absurd (cc)

  bind_local_bad_at : (front : List Token) (w : Token) (r other : List Token) (answer : Answer A) → f (front ++ w ∷ r) ≡ answer → after answer g ≡ reading.bad (w ∷ r) → (f >>= g) (front ++ w ∷ other) ≡ reading.bad (w ∷ other)
  bind_local_bad_at front w r other (reading.good a r1) is h =
      let x = F.good (front ++ w ∷ r) a r1 is in
      let y = (G a).bad r1 (w ∷ r) h in
      let whole : front ++ w ∷ r ≡ x.front ++ (y.front ++ w ∷ r) = x.whole ∙ ap (λ u. x.front ++ u) y.whole in
      let e : front ≡ x.front ++ y.front = append_cancel_right front (x.front ++ y.front) (w ∷ r) (whole ∙ sym (append_assoc x.front y.front (w ∷ r))) in
      let f1 : f (x.front ++ (y.front ++ w ∷ r)) ≡ reading.good a (y.front ++ w ∷ r) = ap f (sym whole) ∙ is ∙ ap (λ u. reading.good a u) y.whole in
      let g1 : g a (y.front ++ w ∷ r) ≡ reading.bad (w ∷ r) = ap (g a) (sym y.whole) ∙ h in
      ap (f >>= g) (ap (λ u. u ++ w ∷ other) e ∙ append_assoc x.front y.front (w ∷ other))
      ∙ ap (λ u. after u g) (local_through F x.front y.front w r other a f1) ∙ (G a).local_bad y.front w r other g1
  bind_local_bad_at front w r other (reading.bad r1) is h =
      let same : r1 ≡ w ∷ r = cc in
      ap (λ u. after u g) (F.local_bad front w r other (is ∙ ap (λ u. reading.bad u) same))
  bind_local_bad_at front w r other (reading.deep r1) is h = absurd (cc)

  bind_local_deep_at : (front : List Token) (w : Token) (r other : List Token) (answer : Answer A) → f (front ++ w ∷ r) ≡ answer → after answer g ≡ reading.deep (w ∷ r) → (f >>= g) (front ++ w ∷ other) ≡ reading.deep (w ∷ other)
  bind_local_deep_at front w r other (reading.good a r1) is h =
      let x = F.good (front ++ w ∷ r) a r1 is in
      let y = (G a).deep r1 (w ∷ r) h in
      let whole : front ++ w ∷ r ≡ x.front ++ (y.front ++ w ∷ r) = x.whole ∙ ap (λ u. x.front ++ u) y.whole in
      let e : front ≡ x.front ++ y.front = append_cancel_right front (x.front ++ y.front) (w ∷ r) (whole ∙ sym (append_assoc x.front y.front (w ∷ r))) in
      let f1 : f (x.front ++ (y.front ++ w ∷ r)) ≡ reading.good a (y.front ++ w ∷ r) = ap f (sym whole) ∙ is ∙ ap (λ u. reading.good a u) y.whole in
      let g1 : g a (y.front ++ w ∷ r) ≡ reading.deep (w ∷ r) = ap (g a) (sym y.whole) ∙ h in
      ap (f >>= g) (ap (λ u. u ++ w ∷ other) e ∙ append_assoc x.front y.front (w ∷ other))
      ∙ ap (λ u. after u g) (local_through F x.front y.front w r other a f1) ∙ (G a).local_deep y.front w r other g1
  bind_local_deep_at front w r other (reading.deep r1) is h =
      let same : r1 ≡ w ∷ r = cc in
      ap (λ u. after u g) (F.local_deep front w r other (is ∙ ap (λ u. reading.deep u) same))
  bind_local_deep_at front w r other (reading.bad r1) is h = absurd (cc)

  -- a reader of a first tree and then of what follows it; each first tree has something that can follow it, and it stops there
  pub bind_reads : (some : (a : A) (ps : List Piece) → L a ps → (c : C) × ((qs : List Piece) × K a c qs))
      → (stops : (a : A) (c : C) (qs : List Piece) (ys rest : List Token) → K a c qs → Fits qs ys → Stops rest → StopsA (ys ++ rest))
      → Reads (Both L K) most size Stops (f >>= g)
  bind_reads some stops = record {
    good = λ ts c rest h. bind_good_at ts c rest (f ts) refl h;
    bad = λ ts rest h. bind_bad_at some ts rest (f ts) refl h;
    deep = λ ts rest h. bind_deep_at some ts rest (f ts) refl h;
    all = bind_all stops;
    local_good = λ front w r other c h. bind_local_good_at front w r other c (f (front ++ w ∷ r)) refl h;
    local_bad = λ front w r other h. bind_local_bad_at front w r other (f (front ++ w ∷ r)) refl h;
    local_deep = λ front w r other h. bind_local_deep_at front w r other (f (front ++ w ∷ r)) refl h;
  }
