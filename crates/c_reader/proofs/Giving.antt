-- Readers of no token and of one, readers by the first token, and the same language in other words.
use Rattle.std.proofs.Common.{◌≡◌, ◌≤◌, inl, inr, ℕ, List, [], ◌∷◌, ◌++◌, length, refl, sym, ap, ◌∙◌, subst, arith}
use Rattle.std.proofs.lemmas.List.{append_cancel_right}
use Rattle.c_tree.specs.Pieces.{Piece, Fits}
use Rattle.c_tree.specs.declared.token.Token.{Token}
use Rattle.c_reader.specs.Depths.{AreWithin}
use Rattle.c_reader.specs.Reading.{Answer, Reader, ◌>>=◌, after, give, take_as, taken, choose}
use Rattle.c_reader.specs.Reading as reading
use Rattle.c_reader.proofs.Reader.{Language, Found, Reads}

-- this tree alone, without a piece
pub record Given {A : Type 0} (value : A) (tree : A) (pieces : List Piece) : Type 0 where
  pub tree_is : tree ≡ value
  pub none : pieces ≡ []

no_front : (front : List Token) (w : Token) (r : List Token) → front ++ w ∷ r ≡ w ∷ r → front ≡ []
no_front front w r h = append_cancel_right front [] (w ∷ r) h

given_all : {A : Type 0} (value : A) (most : ℕ) (tree : A) (ps : List Piece) (front rest : List Token) → Given value tree ps → Fits ps front → Found (give value) most tree ps front rest
unfolding Fits AreWithin
given_all value most tree ps [] rest is fits = inl (ap (λ u. reading.good u rest) (sym is.tree_is), subst (AreWithin most) (sym is.none) tt)
given_all value most tree [] (x ∷ xs) rest is fits = absurd fits
given_all value most tree (p ∷ ps) (x ∷ xs) rest is fits = absurd (cc)

pub give_reads : {A : Type 0} (value : A) (most size : ℕ) (Stops : List Token → Type 0) → Reads (Given value) most size Stops (give value)
unfolding Fits AreWithin
give_reads value most size Stops = record {
  good = λ ts tree rest h. record { pieces = []; front = []; spelled = record { tree_is = cc; none = refl }; fits = tt; shallow = tt; whole = cc };
  bad = λ ts rest h. absurd (cc);
  deep = λ ts rest h. absurd (cc);
  all = λ tree ps front rest is fits stop small. given_all value most tree ps front rest is fits;
  local_good = λ front w r other tree h.
      let e : front ≡ [] = no_front front w r (cc) in
      let t : value ≡ tree = cc in
      ap (λ u. reading.good value (u ++ w ∷ other)) e ∙ ap (λ u. reading.good u (w ∷ other)) t;
  local_bad = λ front w r other h. absurd (cc);
  local_deep = λ front w r other h. absurd (cc);
}

pub fits_length : (ps : List Piece) (ts : List Token) → Fits ps ts → length ps ≡ length ts
unfolding Fits
fits_length [] [] fits = refl
fits_length [] (x ∷ xs) fits = absurd fits
fits_length (p ∷ ps) [] fits = absurd fits
fits_length (p ∷ ps) (x ∷ xs) fits = omega (arith, fits_length ps xs fits.1)

longer : (xs ys : List Token) → length xs ≤ length (xs ++ ys)
longer [] ys = omega arith
longer (x ∷ xs) ys = omega (arith, longer xs ys)

-- two languages that are the same
pub reads_as : {A : Type 0} {L M : Language A} {most size : ℕ} {Stops : List Token → Type 0} {read : Reader A}
    → ((a : A) (ps : List Piece) → L a ps → M a ps) → ((a : A) (ps : List Piece) → M a ps → L a ps) → Reads L most size Stops read → Reads M most size Stops read
reads_as to from R = record {
  good = λ ts tree rest h. let x = R.good ts tree rest h in record { pieces = x.pieces; front = x.front; spelled = to tree x.pieces x.spelled; fits = x.fits; shallow = x.shallow; whole = x.whole };
  bad = λ ts rest h. let x = R.bad ts rest h in record { tree = x.tree; pieces = x.pieces; missing = x.missing; front = x.front; spelled = to x.tree (x.pieces ++ x.missing) x.spelled; fits = x.fits; shallow = x.shallow; whole = x.whole };
  deep = λ ts rest h. let x = R.deep ts rest h in record { tree = x.tree; pieces = x.pieces; piece = x.piece; missing = x.missing; front = x.front; token = x.token; following = x.following; spelled = to x.tree (x.pieces ++ x.piece ∷ x.missing) x.spelled; fits = x.fits; takes = x.takes; shallow = x.shallow; deep = x.deep; first = x.first; whole = x.whole };
  all = λ tree ps front rest is fits stop small. R.all tree ps front rest (from tree ps is) fits stop small;
  local_good = R.local_good;
  local_bad = R.local_bad;
  local_deep = R.local_deep;
}

-- the same, where the second language is that of the first for no more pieces than there are tokens
pub reads_within : {A : Type 0} {L M : Language A} {most size : ℕ} {Stops : List Token → Type 0} {read : Reader A}
    → ((a : A) (ps : List Piece) → L a ps → M a ps) → ((a : A) (ps : List Piece) → M a ps → length ps ≤ size → L a ps) → Reads L most size Stops read → Reads M most size Stops read
reads_within {size = size} to from R = record {
  good = λ ts tree rest h. let x = R.good ts tree rest h in record { pieces = x.pieces; front = x.front; spelled = to tree x.pieces x.spelled; fits = x.fits; shallow = x.shallow; whole = x.whole };
  bad = λ ts rest h. let x = R.bad ts rest h in record { tree = x.tree; pieces = x.pieces; missing = x.missing; front = x.front; spelled = to x.tree (x.pieces ++ x.missing) x.spelled; fits = x.fits; shallow = x.shallow; whole = x.whole };
  deep = λ ts rest h. let x = R.deep ts rest h in record { tree = x.tree; pieces = x.pieces; piece = x.piece; missing = x.missing; front = x.front; token = x.token; following = x.following; spelled = to x.tree (x.pieces ++ x.piece ∷ x.missing) x.spelled; fits = x.fits; takes = x.takes; shallow = x.shallow; deep = x.deep; first = x.first; whole = x.whole };
  all = λ tree ps front rest is fits stop small. R.all tree ps front rest (from tree ps is (omega (arith, fits_length ps front fits, longer front rest, small))) fits stop small;
  local_good = R.local_good;
  local_bad = R.local_bad;
  local_deep = R.local_deep;
}

-- a stop that asks for more
pub reads_where : {A : Type 0} {L : Language A} {most size : ℕ} {Stops Other : List Token → Type 0} {read : Reader A}
    → ((rest : List Token) → Other rest → Stops rest) → Reads L most size Stops read → Reads L most size Other read
reads_where less R = record {
  good = R.good;
  bad = R.bad;
  deep = R.deep;
  all = λ tree ps front rest is fits stop small. R.all tree ps front rest is fits (less rest stop) small;
  local_good = R.local_good;
  local_bad = R.local_bad;
  local_deep = R.local_deep;
}

same_found : {A : Type 0} (most : ℕ) (read other : Reader A) (tree : A) (ps : List Piece) (front rest : List Token) → read (front ++ rest) ≡ other (front ++ rest) → Found read most tree ps front rest → Found other most tree ps front rest
same_found most read other tree ps front rest same (inl h) = inl (sym same ∙ h.0, h.1)
same_found most read other tree ps front rest same (inr h) = inr (record { left = h.left; is = sym same ∙ h.is; place = h.place })

-- readers that answer alike
pub reads_same : {A : Type 0} {L : Language A} {most size : ℕ} {Stops : List Token → Type 0} {read : Reader A} (other : Reader A) → ((ts : List Token) → read ts ≡ other ts) → Reads L most size Stops read → Reads L most size Stops other
reads_same {most = most} {read = read} other same R = record {
  good = λ ts tree rest h. R.good ts tree rest (same ts ∙ h);
  bad = λ ts rest h. R.bad ts rest (same ts ∙ h);
  deep = λ ts rest h. R.deep ts rest (same ts ∙ h);
  all = λ tree ps front rest is fits stop small. same_found most read other tree ps front rest (same (front ++ rest)) (R.all tree ps front rest is fits stop small);
  local_good = λ front w r others tree h. sym (same (front ++ w ∷ others)) ∙ R.local_good front w r others tree (same (front ++ w ∷ r) ∙ h);
  local_bad = λ front w r others h. sym (same (front ++ w ∷ others)) ∙ R.local_bad front w r others (same (front ++ w ∷ r) ∙ h);
  local_deep = λ front w r others h. sym (same (front ++ w ∷ others)) ∙ R.local_deep front w r others (same (front ++ w ∷ r) ∙ h);
}
