-- Two ways to part a list at a token, and tokens with an end after them.
use Rattle.std.proofs.Common.{◌≡◌, ◌<◌, ℕ, zero, suc, ◌-◌, true, List, [], ◌∷◌, ◌++◌, length, take, drop, refl, sym, ap, ◌∙◌, arith}
use Rattle.std.proofs.Math.Seq.{take-append_seam, drop-append_seam}
use Rattle.std.proofs.lemmas.List.{length-append}
use Rattle.c_tree.specs.TokenLists.{is_closed, is_inner}
use Rattle.c_tree.specs.declared.token.Token.{Token}
use Rattle.c_reader.specs.Samples.{sample_of, end_token}
use Rattle.c_reader.specs.declared.samples.Sample.{Sample}
use Rattle.c_reader.specs.declared.samples.Sample.TheVariants as sample
use Rattle.c_reader.proofs.Truths.{and_left, and_right, and_both}

-- ---- two ways to part a list at a token

pub data Parting (xs ys : List Token) (x y : Token) (more rest : List Token) : Type 0 where
  earlier : (between : List Token) → ys ≡ xs ++ x ∷ between → more ≡ between ++ y ∷ rest → Parting xs ys x y more rest
  same : xs ≡ ys → x ≡ y → more ≡ rest → Parting xs ys x y more rest
  later : (between : List Token) → xs ≡ ys ++ y ∷ between → rest ≡ between ++ x ∷ more → Parting xs ys x y more rest

same_tail : (x y : Token) (xs ys : List Token) → x ∷ xs ≡ y ∷ ys → xs ≡ ys
same_tail x y xs ys h = cc

same_head : (x y : Token) (xs ys : List Token) → x ∷ xs ≡ y ∷ ys → x ≡ y
same_head x y xs ys h = cc

onward : (a b : Token) (xs ys : List Token) → a ≡ b → xs ≡ ys → a ∷ xs ≡ b ∷ ys
onward a b xs ys h g = cc

further : (a b : Token) (xs ys : List Token) (x y : Token) (more rest : List Token) → a ≡ b → Parting xs ys x y more rest → Parting (a ∷ xs) (b ∷ ys) x y more rest
further a b xs ys x y more rest e (earlier between is tail) = earlier between (onward b a ys (xs ++ x ∷ between) (sym e) is) tail
further a b xs ys x y more rest e (same is first tail) = same (onward a b xs ys e is) first tail
further a b xs ys x y more rest e (later between is tail) = later between (onward a b xs (ys ++ y ∷ between) e is) tail

pub parting : (xs ys : List Token) (x y : Token) (more rest : List Token) → xs ++ x ∷ more ≡ ys ++ y ∷ rest → Parting xs ys x y more rest
parting [] [] x y more rest h = same refl (same_head x y more rest h) (same_tail x y more rest h)
parting [] (b ∷ ys) x y more rest h = earlier ys (ap (λ u. u ∷ ys) (sym (same_head x b more (ys ++ y ∷ rest) h))) (same_tail x b more (ys ++ y ∷ rest) h)
parting (a ∷ xs) [] x y more rest h = later xs (ap (λ u. u ∷ xs) (same_head a y (xs ++ x ∷ more) rest h)) (sym (same_tail a y (xs ++ x ∷ more) rest h))
parting (a ∷ xs) (b ∷ ys) x y more rest h =
    further a b xs ys x y more rest (same_head a b (xs ++ x ∷ more) (ys ++ y ∷ rest) h) (parting xs ys x y more rest (same_tail a b (xs ++ x ∷ more) (ys ++ y ∷ rest) h))

-- ---- parts by their lengths

-- the front of a list and the rest, by how much is after the front
pub front_is : (ts front rest : List Token) → ts ≡ front ++ rest → take (length ts - length rest) ts ≡ front
front_is ts front rest whole =
    let short : length ts - length rest ≡ length front = omega (arith, ap length whole, length-append front rest) in
    ap (λ n. take n ts) short ∙ ap (λ u. take (length front) u) whole ∙ take-append_seam front rest

pub following_is : (ts front rest : List Token) → ts ≡ front ++ rest → drop (length ts - length rest) ts ≡ rest
following_is ts front rest whole =
    let short : length ts - length rest ≡ length front = omega (arith, ap length whole, length-append front rest) in
    ap (λ n. drop n ts) short ∙ ap (λ u. drop (length front) u) whole ∙ drop-append_seam front rest

-- ---- tokens with an end after them

-- the front of a closed list, and an end after it
pub front_closed : (xs : List Token) (w : Token) (ys : List Token) → is_closed (xs ++ w ∷ ys) ≡ true → is_closed (xs ++ end_token ∷ []) ≡ true
front_closed [] w ys closed = refl
front_closed (x ∷ []) w ys closed = and_both (is_inner x) true (and_left (is_inner x) (is_closed (w ∷ ys)) closed) refl
front_closed (x ∷ y ∷ xs) w ys closed =
    and_both (is_inner x) (is_closed (y ∷ xs ++ end_token ∷ [])) (and_left (is_inner x) (is_closed (y ∷ xs ++ w ∷ ys)) closed) (front_closed (y ∷ xs) w ys (and_right (is_inner x) (is_closed (y ∷ xs ++ w ∷ ys)) closed))

pub run_closed : (xs rest : List Token) → is_closed (xs ++ rest) ≡ true → 0 < length rest → is_closed (xs ++ end_token ∷ []) ≡ true
run_closed xs [] closed some = absurd (omega (arith, some))
run_closed xs (w ∷ ys) closed some = front_closed xs w ys closed

-- the rest of a closed list, where one is left
pub drop_closed : (n : ℕ) (ts : List Token) → is_closed ts ≡ true → n < length ts → is_closed (drop n ts) ≡ true
drop_closed zero ts closed some = closed
drop_closed (suc n) [] closed some = absurd (omega (arith, some))
drop_closed (suc n) (x ∷ []) closed some = absurd (omega (arith, some))
drop_closed (suc n) (x ∷ y ∷ ts) closed some = drop_closed n (y ∷ ts) (and_right (is_inner x) (is_closed (y ∷ ts)) closed) (omega (arith, some))

-- a token more before the end
more_closed : (xs : List Token) (v : Token) → is_inner v ≡ true → is_closed (xs ++ end_token ∷ []) ≡ true → is_closed (xs ++ v ∷ end_token ∷ []) ≡ true
more_closed [] v inner closed = and_both (is_inner v) true inner refl
more_closed (x ∷ []) v inner closed = and_both (is_inner x) (is_closed (v ∷ end_token ∷ [])) (and_left (is_inner x) true closed) (and_both (is_inner v) true inner refl)
more_closed (x ∷ y ∷ xs) v inner closed =
    and_both (is_inner x) (is_closed (y ∷ xs ++ v ∷ end_token ∷ [])) (and_left (is_inner x) (is_closed (y ∷ xs ++ end_token ∷ [])) closed) (more_closed (y ∷ xs) v inner (and_right (is_inner x) (is_closed (y ∷ xs ++ end_token ∷ [])) closed))

sample_inner : (s : Sample) → is_inner (sample_of s) ≡ true
sample_inner sample.Name = refl
sample_inner sample.Number = refl
sample_inner sample.Brace = refl
sample_inner sample.Semicolon = refl

pub probe_closed : (before : List Token) (s : Sample) → is_closed (before ++ end_token ∷ []) ≡ true → is_closed (before ++ sample_of s ∷ end_token ∷ []) ≡ true
probe_closed before s closed = more_closed before (sample_of s) (sample_inner s) closed
