-- What a reader answers, in terms of the trees that begin with some tokens: no tree begins with the tokens up to and with a fault; and
-- which tokens could stand in its place is told by what is read where they do.
use Rattle.std.proofs.Common.{◌≡◌, ◌≤◌, ◌<◌, ◌⊎◌, inl, inr, ℕ, zero, suc, ◌+◌, List, [], ◌∷◌, ◌++◌, length, Option, Some, None, refl, sym, ap, ◌∙◌, subst, arith}
use Rattle.std.proofs.lemmas.List.{append_assoc, length-append}
use Rattle.hy_bits.specs.declared.scalar.Scalar.TheVariants.{S32}
use Rattle.c_tree.specs.Pieces.{Piece, Want, spelled, valued, bounded, IsWanted, StandsAt, Takes, Fits}
use Rattle.c_tree.specs.declared.token.Place.{Place}
use Rattle.c_tree.specs.declared.token.Token.{Token}
use Rattle.c_tree.specs.declared.token.TokenKind.TheVariants.{Bound}
use Rattle.c_reader.specs.Reading.{Answer, Reader}
use Rattle.c_reader.specs.Reading as reading
use Rattle.c_reader.proofs.Binding.{fits_append}
use Rattle.c_reader.specs.Firsts.{BeginsOf}
use Rattle.c_reader.proofs.Reader.{Language, Bad, Deep, Found, Reads}
use Rattle.c_reader.proofs.Shrinking.{Like}

-- ---- each list of pieces has tokens that fit

some_place : Option Place → Place
some_place None = record { line = 0; column = 0 }
some_place (Some place) = place

token_for : Want → Place → Token
token_for (spelled kind text) place = record { kind = kind; text = text; number = 0; scalar = S32; place = place }
token_for (valued kind scalar number) place = record { kind = kind; text = []; number = number; scalar = scalar; place = place }
token_for (bounded number) place = record { kind = Bound; text = []; number = number; scalar = S32; place = place }

token_wanted : (want : Want) (place : Place) → IsWanted want (token_for want place)
unfolding IsWanted token_for
token_wanted (spelled kind text) place = (refl, refl)
token_wanted (valued kind scalar number) place = (refl, refl, refl)
token_wanted (bounded number) place = (refl, refl)

token_placed : (want : Want) (place : Place) → (token_for want place).place ≡ place
unfolding token_for
token_placed (spelled kind text) place = refl
token_placed (valued kind scalar number) place = refl
token_placed (bounded number) place = refl

token_stands : (want : Want) (place : Option Place) → StandsAt place (token_for want (some_place place))
unfolding StandsAt some_place
token_stands want None = tt
token_stands want (Some place) = token_placed want place

pub tokens_for : (ps : List Piece) → (ts : List Token) × Fits ps ts
unfolding Fits
tokens_for [] = ([], tt)
tokens_for (p ∷ ps) = let rest = tokens_for ps in (token_for p.want (some_place p.place) ∷ rest.0, ((token_wanted p.want (some_place p.place), token_stands p.want p.place), rest.1))

-- ---- parts of lists

same_tail : {B : Type 0} (x y : B) (xs ys : List B) → x ∷ xs ≡ y ∷ ys → xs ≡ ys
same_tail x y xs ys h = cc

pub same_head : {B : Type 0} (x y : B) (xs ys : List B) → x ∷ xs ≡ y ∷ ys → x ≡ y
same_head x y xs ys h = cc

-- of two ways to part a list, one that is cut later goes on from the other
pub longer : {B : Type 0} (ks ls xs ys : List B) → xs ++ ys ≡ ks ++ ls → length ks ≤ length xs → (more : List B) × (xs ≡ ks ++ more)
longer [] ls xs ys h low = (xs, refl)
longer (k ∷ ks) ls [] ys h low = absurd (omega (arith, low))
longer (k ∷ ks) ls (x ∷ xs) ys h low =
    let rest = longer ks ls xs ys (same_tail x k (xs ++ ys) (ks ++ ls) h) (omega (arith, low)) in
    (rest.0, ap (λ u. u ∷ xs) (same_head x k (xs ++ ys) (ks ++ ls) h) ∙ ap (λ u. k ∷ u) rest.1)

pub record Shorter {B : Type 0} (ks ls xs ys : List B) : Type 0 where
  pub next : B
  pub more : List B
  pub ks_is : ks ≡ xs ++ next ∷ more
  pub ys_is : ys ≡ next ∷ (more ++ ls)

pub shorter_ : {B : Type 0} (ks ls xs ys : List B) → xs ++ ys ≡ ks ++ ls → length xs < length ks → Shorter ks ls xs ys
shorter_ [] ls xs ys h less = absurd (omega (arith, less))
shorter_ (k ∷ ks) ls [] ys h less = record { next = k; more = ks; ks_is = refl; ys_is = h }
shorter_ (k ∷ ks) ls (x ∷ xs) ys h less =
    let rest = shorter_ ks ls xs ys (same_tail x k (xs ++ ys) (ks ++ ls) h) (omega (arith, less)) in
    record { next = rest.next; more = rest.more; ks_is = ap (λ u. k ∷ u) rest.ks_is ∙ ap (λ u. u ∷ (xs ++ rest.next ∷ rest.more)) (sym (same_head x k (xs ++ ys) (ks ++ ls) h)); ys_is = rest.ys_is }

record Cut (ps : List Piece) (xs : List Token) : Type 0 where
  pub front : List Piece
  pub rest : List Piece
  pub whole : ps ≡ front ++ rest
  pub fits : Fits front xs

-- pieces that fit a list's front
cut : (ps : List Piece) (xs ys : List Token) → Fits ps (xs ++ ys) → Cut ps xs
unfolding Fits
cut ps [] ys fits = record { front = []; rest = ps; whole = refl; fits = tt }
cut [] (x ∷ xs) ys fits = absurd fits
cut (p ∷ ps) (x ∷ xs) ys fits = let c = cut ps xs ys fits.1 in record { front = p ∷ c.front; rest = c.rest; whole = ap (λ u. p ∷ u) c.whole; fits = (fits.0, c.fits) }

one_fits : (p : Piece) (w : Token) → Takes p w → Fits (p ∷ []) (w ∷ [])
unfolding Fits
one_fits p w takes = (takes, tt)

apart : (n : ℕ) → (n ≡ 2 → ⊥) → (n < 2) ⊎ (2 < n)
apart zero differs = inl (omega arith)
apart (suc zero) differs = inl (omega arith)
apart (suc (suc zero)) differs = absurd (differs refl)
apart (suc (suc (suc n))) differs = inr (omega arith)

up_to : (n : ℕ) → (n < 3) ⊎ (2 < n)
up_to zero = inl (omega arith)
up_to (suc zero) = inl (omega arith)
up_to (suc (suc zero)) = inl (omega arith)
up_to (suc (suc (suc n))) = inr (omega arith)

-- ---- trees that begin with some tokens

module _ {A : Type 0} (L : Language A) where
  -- a tree begins with the first of the tokens that it begins with
  pub begins_less : (xs ys : List Token) → BeginsOf L (xs ++ ys) → BeginsOf L xs
  begins_less xs ys b =
      let c = cut b.pieces xs ys b.fits in
      record { tree = b.tree; pieces = c.front; missing = c.rest ++ b.missing; spelled_ = subst (λ u. L b.tree u) (ap (λ u. u ++ b.missing) c.whole ∙ append_assoc c.front c.rest b.missing) b.spelled_; fits = c.fits }

  one_fault : (answer : Answer A) (xs ys : List Token) → answer ≡ reading.bad xs → answer ≡ reading.bad ys → xs ≡ ys
  one_fault answer xs ys left right = cc

  pub fault_or_deep : (answer : Answer A) (xs ys : List Token) → answer ≡ reading.bad xs → answer ≡ reading.deep ys → ⊥
  fault_or_deep answer xs ys left right = cc

  pub fault_or_good : (answer : Answer A) (xs ys : List Token) (a : A) → answer ≡ reading.bad xs → answer ≡ reading.good a ys → ⊥
  fault_or_good answer xs ys a left right = cc

  not_found : (most : ℕ) (read : Reader A) (ts rest : List Token) (a : A) (ps : List Piece) (front stop : List Token) → read ts ≡ reading.bad rest → ts ≡ front ++ stop → Found read most a ps front stop → ⊥
  not_found most read ts rest a ps front stop h is (inl found) = fault_or_good (read ts) rest stop a h (ap read is ∙ found.0)
  not_found most read ts rest a ps front stop h is (inr found) = fault_or_deep (read ts) rest found.left h (ap read is ∙ found.is)

  two_goods : (answer : Answer A) (xs ys : List Token) (a b : A) → answer ≡ reading.good a xs → answer ≡ reading.good b ys → xs ≡ ys
  two_goods answer xs ys a b left right = cc

  good_or_deep : (answer : Answer A) (xs ys : List Token) (a : A) → answer ≡ reading.good a xs → answer ≡ reading.deep ys → ⊥
  good_or_deep answer xs ys a left right = cc

  -- a tree that is read stops where it does
  not_longer : (most : ℕ) (read : Reader A) (ts rest : List Token) (a b : A) (ps : List Piece) (front stop : List Token) → read ts ≡ reading.good a rest → ts ≡ front ++ stop → length stop < length rest → Found read most b ps front stop → ⊥
  not_longer most read ts rest a b ps front stop h is less (inl found) = omega (arith, less, ap length (two_goods (read ts) rest stop a b h (ap read is ∙ found.0)))
  not_longer most read ts rest a b ps front stop h is less (inr found) = good_or_deep (read ts) rest found.left a h (ap read is ∙ found.is)

  module _ (most : ℕ) (Stops : List Token → Type 0) (read : ℕ → Reader A) (R : (size : ℕ) → Reads L most size Stops (read size)) (like : (k s t : ℕ) → k ≤ s → k ≤ t → Like k 0 (read s) (read t)) (stop : List Token) (stops : Stops stop) where
    none_by : (size : ℕ) (before following : List Token) (w : Token) (b : BeginsOf L (before ++ w ∷ [])) (more : List Token) → Fits b.missing more → length ((before ++ w ∷ []) ++ more ++ stop) ≤ size → read size (before ++ w ∷ following) ≡ reading.bad (w ∷ following) → ⊥
    none_by size before following w b more fits small h =
        let whole : Fits (b.pieces ++ b.missing) ((before ++ w ∷ []) ++ more) = fits_append b.pieces b.missing (before ++ w ∷ []) more b.fits fits in
        let same : (before ++ w ∷ []) ++ more ++ stop ≡ before ++ w ∷ (more ++ stop) = ap (λ u. u ++ stop) (append_assoc before (w ∷ []) more) ∙ append_assoc before (w ∷ more) stop in
        not_found most (read size) ((before ++ w ∷ []) ++ more ++ stop) (w ∷ (more ++ stop)) b.tree (b.pieces ++ b.missing) ((before ++ w ∷ []) ++ more) stop (ap (read size) same ∙ (R size).local_bad before w following (more ++ stop) h) refl
        ((R size).all b.tree (b.pieces ++ b.missing) ((before ++ w ∷ []) ++ more) stop b.spelled_ whole stops small)

    -- no tree begins with the tokens up to and with the fault: readers of longer lists answer alike
    pub none_begins : (size : ℕ) (before following : List Token) (w : Token) → length (before ++ w ∷ following) ≤ size → read size (before ++ w ∷ following) ≡ reading.bad (w ∷ following) → BeginsOf L (before ++ w ∷ []) → ⊥
    none_begins size before following w small h b =
        let more = tokens_for b.missing in
        let big = size + length ((before ++ w ∷ []) ++ more.0 ++ stop) in
        none_by big before following w b more.0 more.1 (omega arith) (sym ((like size size big (omega arith) (omega arith)).same (before ++ w ∷ following) small) ∙ h)

    -- nor with more tokens than a tree that was read, where one begins with them
    good_by : (size : ℕ) (before following : List Token) (w : Token) (a : A) (b : BeginsOf L (before ++ w ∷ [])) (more : List Token) → Fits b.missing more → length ((before ++ w ∷ []) ++ more ++ stop) ≤ size → read size (before ++ w ∷ following) ≡ reading.good a (w ∷ following) → ⊥
    good_by size before following w a b more fits small h =
        let whole : Fits (b.pieces ++ b.missing) ((before ++ w ∷ []) ++ more) = fits_append b.pieces b.missing (before ++ w ∷ []) more b.fits fits in
        let same : (before ++ w ∷ []) ++ more ++ stop ≡ before ++ w ∷ (more ++ stop) = ap (λ u. u ++ stop) (append_assoc before (w ∷ []) more) ∙ append_assoc before (w ∷ more) stop in
        not_longer most (read size) ((before ++ w ∷ []) ++ more ++ stop) (w ∷ (more ++ stop)) a b.tree (b.pieces ++ b.missing) ((before ++ w ∷ []) ++ more) stop (ap (read size) same ∙ (R size).local_good before w following (more ++ stop) a h) refl (omega (arith, length-append more stop))
        ((R size).all b.tree (b.pieces ++ b.missing) ((before ++ w ∷ []) ++ more) stop b.spelled_ whole stops small)

    pub none_longer : (size : ℕ) (before following : List Token) (w : Token) (a : A) → length (before ++ w ∷ following) ≤ size → read size (before ++ w ∷ following) ≡ reading.good a (w ∷ following) → BeginsOf L (before ++ w ∷ []) → ⊥
    none_longer size before following w a small h b =
        let more = tokens_for b.missing in
        let big = size + length ((before ++ w ∷ []) ++ more.0 ++ stop) in
        good_by big before following w a b more.0 more.1 (omega arith) (sym ((like size size big (omega arith) (omega arith)).same (before ++ w ∷ following) small) ∙ h)

    -- ---- what could stand in the place of a fault

    module _ (size : ℕ) (before following : List Token) (w : Token) (fault : read size (before ++ w ∷ following) ≡ reading.bad (w ∷ following)) (v e : Token) where
      abbrev list : List Token
      list = before ++ v ∷ e ∷ []

      list_is : list ≡ (before ++ v ∷ []) ++ e ∷ []
      list_is = sym (append_assoc before (v ∷ []) (e ∷ []))

      -- some tree begins with tokens that go on from those before
      from_longer : (xs ys : List Token) → xs ++ ys ≡ list → length ys < 2 → BeginsOf L xs → BeginsOf L (before ++ v ∷ [])
      from_longer xs ys h less b =
          let l : (more : List Token) × (xs ≡ (before ++ v ∷ []) ++ more) =
          longer (before ++ v ∷ []) (e ∷ []) xs ys (h ∙ list_is) (omega (arith, less, length-append before (v ∷ []), length-append xs ys, length-append before (v ∷ e ∷ []), ap length h)) in
          begins_less (before ++ v ∷ []) l.0 (subst (BeginsOf L) l.1 b)

      -- nothing else is found before the fault
      never_bad : (xs ys : List Token) → xs ++ ys ≡ list → 2 < length ys → read size list ≡ reading.bad ys → ⊥
      never_bad xs ys h more bad =
          let s = shorter_ before (v ∷ e ∷ []) xs ys h (omega (arith, more, length-append xs ys, length-append before (v ∷ e ∷ []), ap length h)) in
          let here : read size (xs ++ s.next ∷ (s.more ++ v ∷ e ∷ [])) ≡ reading.bad (s.next ∷ (s.more ++ v ∷ e ∷ [])) = ap (λ u. read size (xs ++ u)) (sym s.ys_is) ∙ ap (read size) h ∙ bad ∙ ap (λ u. reading.bad u) s.ys_is in
          let there : read size (xs ++ s.next ∷ (s.more ++ w ∷ following)) ≡ reading.bad (s.next ∷ (s.more ++ w ∷ following)) = (R size).local_bad xs s.next (s.more ++ v ∷ e ∷ []) (s.more ++ w ∷ following) here in
          let same : before ++ w ∷ following ≡ xs ++ s.next ∷ (s.more ++ w ∷ following) = ap (λ u. u ++ w ∷ following) s.ks_is ∙ append_assoc xs (s.next ∷ s.more) (w ∷ following) in
          let rests : s.next ∷ (s.more ++ w ∷ following) ≡ w ∷ following = one_fault (read size (before ++ w ∷ following)) (s.next ∷ (s.more ++ w ∷ following)) (w ∷ following) (ap (read size) same ∙ there) fault in
          omega (arith, ap length rests, length-append s.more (w ∷ following))

      never_deep : (xs ys : List Token) → xs ++ ys ≡ list → 2 < length ys → read size list ≡ reading.deep ys → ⊥
      never_deep xs ys h more deep =
          let s = shorter_ before (v ∷ e ∷ []) xs ys h (omega (arith, more, length-append xs ys, length-append before (v ∷ e ∷ []), ap length h)) in
          let here : read size (xs ++ s.next ∷ (s.more ++ v ∷ e ∷ [])) ≡ reading.deep (s.next ∷ (s.more ++ v ∷ e ∷ [])) = ap (λ u. read size (xs ++ u)) (sym s.ys_is) ∙ ap (read size) h ∙ deep ∙ ap (λ u. reading.deep u) s.ys_is in
          let there : read size (xs ++ s.next ∷ (s.more ++ w ∷ following)) ≡ reading.deep (s.next ∷ (s.more ++ w ∷ following)) = (R size).local_deep xs s.next (s.more ++ v ∷ e ∷ []) (s.more ++ w ∷ following) here in
          let same : before ++ w ∷ following ≡ xs ++ s.next ∷ (s.more ++ w ∷ following) = ap (λ u. u ++ w ∷ following) s.ks_is ∙ append_assoc xs (s.next ∷ s.more) (w ∷ following) in
          fault_or_deep (read size (before ++ w ∷ following)) (w ∷ following) (s.next ∷ (s.more ++ w ∷ following)) fault (ap (read size) same ∙ there)

      bad_at : (rest : List Token) → (length rest < 2) ⊎ (2 < length rest) → read size list ≡ reading.bad rest → Bad L most list rest → BeginsOf L (before ++ v ∷ [])
      bad_at rest (inl less) h b = from_longer b.front rest (sym b.whole) less (record { tree = b.tree; pieces = b.pieces; missing = b.missing; spelled_ = b.spelled; fits = b.fits })
      bad_at rest (inr more) h b = absurd (never_bad b.front rest (sym b.whole) more h)

      pub can_bad : (rest : List Token) → (length rest ≡ 2 → ⊥) → read size list ≡ reading.bad rest → BeginsOf L (before ++ v ∷ [])
      can_bad rest differs h = bad_at rest (apart (length rest) differs) h ((R size).bad list rest h)

      begins_deep : (rest : List Token) (d : Deep L most list rest) → BeginsOf L (d.front ++ d.token ∷ [])
      begins_deep rest d = record {
        tree = d.tree;
        pieces = d.pieces ++ d.piece ∷ [];
        missing = d.missing;
        spelled_ = subst (λ u. L d.tree u) (sym (append_assoc d.pieces (d.piece ∷ []) d.missing)) d.spelled;
        fits = fits_append d.pieces (d.piece ∷ []) d.front (d.token ∷ []) d.fits (one_fits d.piece d.token d.takes);
      }

      deep_at : (rest : List Token) → (length rest < 3) ⊎ (2 < length rest) → read size list ≡ reading.deep rest → Deep L most list rest → BeginsOf L (before ++ v ∷ [])
      deep_at rest (inl less) h d =
          from_longer (d.front ++ d.token ∷ []) d.following (append_assoc d.front (d.token ∷ []) d.following ∙ ap (λ u. d.front ++ u) (sym d.first) ∙ sym d.whole) (omega (arith, less, ap length d.first)) (begins_deep rest d)
      deep_at rest (inr more) h d = absurd (never_deep d.front rest (sym d.whole) more h)

      pub can_deep : (rest : List Token) → read size list ≡ reading.deep rest → BeginsOf L (before ++ v ∷ [])
      can_deep rest h = deep_at rest (up_to (length rest)) h ((R size).deep list rest h)
