-- Limits of nesting: one that holds of a tree; a list of tokens spells one tree at most, however deeply it is nested; and trees that begin
-- with the same tokens nest these alike.
use Rattle.std.proofs.Common.{◌≡◌, ◌≤◌, ◌<◌, ◌⊎◌, inl, inr, ℕ, zero, suc, ◌+◌, List, [], ◌∷◌, ◌++◌, length, refl, sym, ap, ◌∙◌, subst, arith}
use Rattle.std.proofs.lemmas.List.{append_assoc, length-append}
use Rattle.c_tree.specs.Pieces.{Piece, Fits}
use Rattle.c_tree.specs.declared.token.Token.{Token}
use Rattle.c_reader.specs.Depths.{AreWithin}
use Rattle.c_reader.specs.Firsts.{BeginsOf}
use Rattle.c_reader.specs.Reading.{Answer, Reader}
use Rattle.c_reader.specs.Reading as reading
use Rattle.c_reader.proofs.Reader.{Language, Found, Reads}
use Rattle.c_reader.proofs.Binding.{fits_append, not_within, within_left, within_right}
use Rattle.c_reader.proofs.Giving.{fits_length}
use Rattle.c_reader.proofs.Probing.{tokens_for, same_head, longer, shorter_}

-- ---- a limit that holds of a tree

pub limit_of : List Piece → ℕ
limit_of [] = 0
limit_of (piece ∷ pieces) = piece.nesting + limit_of pieces

pub within_more : (a b : ℕ) → a ≤ b → (pieces : List Piece) → AreWithin a pieces → AreWithin b pieces
unfolding AreWithin
within_more a b low [] s = tt
within_more a b low (p ∷ ps) s = (omega (arith, low, s.0), within_more a b low ps s.1)

pub within_limit : (pieces : List Piece) → AreWithin (limit_of pieces) pieces
unfolding AreWithin limit_of
within_limit [] = tt
within_limit (p ∷ ps) = (omega arith, within_more (limit_of ps) (p.nesting + limit_of ps) (omega arith) ps (within_limit ps))

-- ---- one tree

pub found_good : {A : Type 0} (read : Reader A) (most : ℕ) (tree : A) (ps : List Piece) (tokens rest : List Token) → AreWithin most ps → Found read most tree ps tokens rest → read (tokens ++ rest) ≡ reading.good tree rest
found_good read most tree ps tokens rest s (inl h) = h.0
found_good read most tree ps tokens rest s (inr h) = absurd (not_within most ps tokens rest h.left h.place s)

pub one_of : {A : Type 0} {L : Language A} {most size : ℕ} {Stops : List Token → Type 0} {read : Reader A} → Reads L most size Stops read → (rest : List Token) → Stops rest → (a b : A) (ps qs : List Piece) (tokens : List Token)
    → L a ps → L b qs → Fits ps tokens → Fits qs tokens → AreWithin most ps → AreWithin most qs → length (tokens ++ rest) ≤ size → a ≡ b
one_of {most = most} {read = read} R rest stop a b ps qs tokens left right fits_left fits_right s t small =
    let h = found_good read most a ps tokens rest s (R.all a ps tokens rest left fits_left stop small) in
    let g = found_good read most b qs tokens rest t (R.all b qs tokens rest right fits_right stop small) in
    cc

-- ---- nested alike

raised : (m n : ℕ) → (m ≤ n) ⊎ (n < m) → (suc m ≤ suc n) ⊎ (suc n < suc m)
raised m n (inl low) = inl (omega (arith, low))
raised m n (inr less) = inr (omega (arith, less))

compared : (m n : ℕ) → (m ≤ n) ⊎ (n < m)
compared zero n = inl (omega arith)
compared (suc m) zero = inr (omega arith)
compared (suc m) (suc n) = raised m n (compared m n)

two_deeps : {A : Type 0} (answer : Answer A) (xs ys : List Token) → answer ≡ reading.deep xs → answer ≡ reading.deep ys → xs ≡ ys
two_deeps answer xs ys left right = cc

good_or_deep : {A : Type 0} (answer : Answer A) (a : A) (xs ys : List Token) → answer ≡ reading.good a xs → answer ≡ reading.deep ys → ⊥
good_or_deep answer a xs ys left right = cc

-- a piece among those within a limit
within_at : (most : ℕ) (before more : List Piece) (piece : Piece) → AreWithin most (before ++ piece ∷ more) → most < piece.nesting → ⊥
unfolding AreWithin
within_at most before more piece s deep = let h = within_right most before (piece ∷ more) s in omega (arith, h.0, deep)

module _ {A : Type 0} (L : Language A) (most size : ℕ) (Stops : List Token → Type 0) (read : Reader A) (R : Reads L most size Stops read) (stop : List Token) (stops : Stops stop) where
  -- a tree in which none of the tokens is nested too deeply isn't found to be too deep at one of them
  not_here : (tokens more : List Token) (a : BeginsOf L tokens) → AreWithin most a.pieces → (taken between : List Token) (x : Token) → tokens ≡ taken ++ x ∷ between
      → read ((tokens ++ more) ++ stop) ≡ reading.deep (x ∷ (between ++ (more ++ stop))) → Found read most a.tree (a.pieces ++ a.missing) (tokens ++ more) stop → ⊥
  not_here tokens more a s taken between x is h (inl found) = good_or_deep (read ((tokens ++ more) ++ stop)) a.tree stop (x ∷ (between ++ (more ++ stop))) found.0 h
  not_here tokens more a s taken between x is h (inr found) =
      let e = found.place in
      let same : e.token ∷ (e.following ++ stop) ≡ x ∷ (between ++ (more ++ stop)) = sym e.is_left ∙ two_deeps (read ((tokens ++ more) ++ stop)) found.left (x ∷ (between ++ (more ++ stop))) found.is h in
      let left : length e.following + length stop ≡ length between + (length more + length stop) = omega (arith, ap length same, length-append e.following stop, length-append between (more ++ stop), length-append more stop) in
      let some : length tokens ≡ length taken + suc (length between) = omega (arith, ap length is, length-append taken (x ∷ between)) in
      let all : length tokens + length more ≡ length e.taken + suc (length e.following) = omega (arith, ap length e.whole, length-append tokens more, length-append e.taken (e.token ∷ e.following)) in
      let less : length e.before < length a.pieces = omega (arith, left, some, all, fits_length e.before e.taken e.fits, fits_length a.pieces tokens a.fits) in
      let p = shorter_ a.pieces a.missing e.before (e.piece ∷ e.missing) (sym e.parts) less in
      let next_is : e.piece ≡ p.next = same_head e.piece p.next e.missing (p.more ++ a.missing) p.ys_is in
      within_at most e.before p.more p.next (subst (AreWithin most) p.ks_is s) (subst (λ q. most < q.nesting) next_is e.deep)

  -- two trees that begin with the tokens, and tokens that complete each
  module _ (tokens more_a more_b : List Token) (a b : BeginsOf L tokens) (fits_a : Fits a.missing more_a) (enough : length ((tokens ++ more_a) ++ stop) ≤ size) (s : AreWithin most a.pieces) where
    found_a : Found read most a.tree (a.pieces ++ a.missing) (tokens ++ more_a) stop
    found_a = R.all a.tree (a.pieces ++ a.missing) (tokens ++ more_a) stop a.spelled_ (fits_append a.pieces a.missing tokens more_a a.fits fits_a) stops enough

    -- the second isn't found to be too deep at one of the tokens
    not_there : (taken following : List Token) (token : Token) → tokens ++ more_b ≡ taken ++ token ∷ following → length taken < length tokens → read ((tokens ++ more_b) ++ stop) ≡ reading.deep (token ∷ (following ++ stop)) → ⊥
    not_there taken following token whole less h =
        let p = shorter_ tokens more_b taken (token ∷ following) (sym whole) less in
        let list_b : (tokens ++ more_b) ++ stop ≡ taken ++ p.next ∷ (p.more ++ (more_b ++ stop)) =
        append_assoc tokens more_b stop ∙ ap (λ u. u ++ (more_b ++ stop)) p.ks_is ∙ append_assoc taken (p.next ∷ p.more) (more_b ++ stop) in
        let left_b : token ∷ (following ++ stop) ≡ p.next ∷ (p.more ++ (more_b ++ stop)) = ap (λ u. u ++ stop) p.ys_is ∙ ap (λ u. p.next ∷ u) (append_assoc p.more more_b stop) in
        let here : read (taken ++ p.next ∷ (p.more ++ (more_b ++ stop))) ≡ reading.deep (p.next ∷ (p.more ++ (more_b ++ stop))) = ap read (sym list_b) ∙ h ∙ ap (λ u. reading.deep u) left_b in
        let list_a : (tokens ++ more_a) ++ stop ≡ taken ++ p.next ∷ (p.more ++ (more_a ++ stop)) =
        append_assoc tokens more_a stop ∙ ap (λ u. u ++ (more_a ++ stop)) p.ks_is ∙ append_assoc taken (p.next ∷ p.more) (more_a ++ stop) in
        let there : read ((tokens ++ more_a) ++ stop) ≡ reading.deep (p.next ∷ (p.more ++ (more_a ++ stop))) = ap read list_a ∙ R.local_deep taken p.next (p.more ++ (more_b ++ stop)) (p.more ++ (more_a ++ stop)) here in
        not_here tokens more_a a s taken p.more p.next p.ks_is there found_a

    within_by : (before missing : List Piece) (piece : Piece) (taken following : List Token) (token : Token) → Fits before taken → b.pieces ++ b.missing ≡ before ++ piece ∷ missing → AreWithin most before → tokens ++ more_b ≡ taken ++ token ∷ following
        → read ((tokens ++ more_b) ++ stop) ≡ reading.deep (token ∷ (following ++ stop)) → (length b.pieces ≤ length before) ⊎ (length before < length b.pieces) → AreWithin most b.pieces
    within_by before missing piece taken following token fits parts shallow whole h (inl low) =
        let p = longer b.pieces b.missing before (piece ∷ missing) (sym parts) low in within_left most b.pieces p.0 (subst (AreWithin most) p.1 shallow)
    within_by before missing piece taken following token fits parts shallow whole h (inr less) =
        absurd (not_there taken following token whole (omega (arith, less, fits_length before taken fits, fits_length b.pieces tokens b.fits)) h)

    pub within_too : Found read most b.tree (b.pieces ++ b.missing) (tokens ++ more_b) stop → AreWithin most b.pieces
    within_too (inl found) = within_left most b.pieces b.missing found.1
    within_too (inr found) =
        let d = found.place in
        within_by d.before d.missing d.piece d.taken d.following d.token d.fits d.parts d.shallow d.whole (found.is ∙ ap (λ u. reading.deep u) d.is_left) (compared (length b.pieces) (length d.before))

-- trees that begin with the same tokens nest these alike: where none is nested more deeply than a limit in one, none is in another
pub nested_alike : {A : Type 0} (L : Language A) (most : ℕ) (Stops : List Token → Type 0) (read : ℕ → Reader A) → ((size : ℕ) → Reads L most size Stops (read size)) → (stop : List Token) → Stops stop
    → (tokens : List Token) (a b : BeginsOf L tokens) → AreWithin most a.pieces → AreWithin most b.pieces
nested_alike L most Stops read R stop stops tokens a b s =
    let x = tokens_for a.missing in
    let y = tokens_for b.missing in
    let size = length ((tokens ++ x.0) ++ stop) + length ((tokens ++ y.0) ++ stop) in
    within_too L most size Stops (read size) (R size) stop stops tokens x.0 y.0 a b x.1 (omega arith) s
    ((R size).all b.tree (b.pieces ++ b.missing) (tokens ++ y.0) stop b.spelled_ (fits_append b.pieces b.missing tokens y.0 b.fits y.1) stops (omega arith))
