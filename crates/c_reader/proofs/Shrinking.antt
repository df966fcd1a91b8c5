-- Readers that answer alike on short lists, and by how much they shorten them: what reads a list of trees by turns answers alike
-- however many turns it has, as long as they are no fewer than the tokens.
use Rattle.std.proofs.Common.{◌≡◌, ◌≤◌, ℕ, zero, suc, ◌+◌, Bool, true, false, List, [], ◌∷◌, length, refl, sym, ap, ◌∙◌, arith, if◌then◌else◌}
use Rattle.c_tree.specs.declared.token.Token.{Token}
use Rattle.c_reader.specs.Reading.{Answer, Reader, ◌>>=◌, after, give, take_as, taken, choose, many}
use Rattle.c_reader.specs.Reading as reading

-- on lists of at most k tokens the two readers answer alike, and what is read has d tokens at least
pub record Like {A : Type 0} (k d : ℕ) (f g : Reader A) : Type 0 where
  pub same : (ts : List Token) → length ts ≤ k → f ts ≡ g ts
  pub shrinks : (ts : List Token) (a : A) (rest : List Token) → length ts ≤ k → f ts ≡ reading.good a rest → length rest + d ≤ length ts

pub like_give : {A : Type 0} (k : ℕ) (a : A) → Like k 0 (give a) (give a)
like_give k a = record {
  same = λ ts short. refl;
  shrinks = λ ts b rest short h. let e : ts ≡ rest = cc in omega (arith, ap length e);
}

abbrev pub too_deep : {A : Type 0} → Reader A
too_deep ts = reading.deep ts

pub like_deep : {A : Type 0} (k d : ℕ) → Like {A = A} k d too_deep too_deep
like_deep k d = record { same = λ ts short. refl; shrinks = λ ts b rest short h. absurd (cc) }

taken_shorter : {A : Type 0} (value : A) (left : ℕ) (b : Bool) (w : Token) (r : List Token) (a : A) (rest : List Token) → taken b value left w r ≡ reading.good a rest → length rest + 1 ≤ length (w ∷ r)
unfolding taken
taken_shorter value left false w r a rest h = absurd (cc)
taken_shorter value zero true w r a rest h = absurd (cc)
taken_shorter value (suc left) true w r a rest h = let e : r ≡ rest = cc in omega (arith, ap length e)

take_shorter : {A : Type 0} (test : Token → Bool) (value : Token → A) (left : ℕ) (ts : List Token) (a : A) (rest : List Token) → take_as test value left ts ≡ reading.good a rest → length rest + 1 ≤ length ts
unfolding take_as
take_shorter test value left [] a rest h = absurd (cc)
take_shorter test value left (w ∷ r) a rest h = taken_shorter (value w) left (test w) w r a rest h

pub like_take : {A : Type 0} (k : ℕ) (test : Token → Bool) (value : Token → A) (left : ℕ) → Like k 1 (take_as test value left) (take_as test value left)
like_take k test value left = record { same = λ ts short. refl; shrinks = λ ts a rest short h. take_shorter test value left ts a rest h }

pub like_less : {A : Type 0} (k j d e : ℕ) (f g : Reader A) → j ≤ k → e ≤ d → Like k d f g → Like j e f g
like_less k j d e f g fewer less L = record {
  same = λ ts short. L.same ts (omega (arith, short, fewer));
  shrinks = λ ts a rest short h. omega (arith, less, L.shrinks ts a rest (omega (arith, short, fewer)) h);
}

module _ {A C : Type 0} (k j d e : ℕ) (f f' : Reader A) (g g' : A → Reader C) (F : Like k d f f') (G : (a : A) → Like j e (g a) (g' a)) (room : k ≤ j + d) where
  bind_same : (ts : List Token) → length ts ≤ k → (answer : Answer A) → f ts ≡ answer → after (f ts) g ≡ after (f' ts) g'
  bind_same ts short (reading.good a rest) is =
      ap (λ u. after u g) is ∙ (G a).same rest (omega (arith, room, short, F.shrinks ts a rest short is)) ∙ sym (ap (λ u. after u g') (sym (F.same ts short) ∙ is))
  bind_same ts short (reading.bad rest) is = ap (λ u. after u g) is ∙ sym (ap (λ u. after u g') (sym (F.same ts short) ∙ is))
  bind_same ts short (reading.deep rest) is = ap (λ u. after u g) is ∙ sym (ap (λ u. after u g') (sym (F.same ts short) ∙ is))

  bind_shrinks : (ts : List Token) (c : C) (rest : List Token) → length ts ≤ k → (answer : Answer A) → f ts ≡ answer → after answer g ≡ reading.good c rest → length rest + (d + e) ≤ length ts
  bind_shrinks ts c rest short (reading.good a r) is h =
      let first = F.shrinks ts a r short is in
      omega (arith, first, (G a).shrinks r c rest (omega (arith, room, short, first)) h)
  bind_shrinks ts c rest short (reading.bad r) is h = absurd (cc)
  bind_shrinks ts c rest short (reading.deep r) is h = absurd (cc)

  pub like_bind : Like k (d + e) (f >>= g) (f' >>= g')
  like_bind = record { same = λ ts short. bind_same ts short (f ts) refl; shrinks = λ ts c rest short h. bind_shrinks ts c rest short (f ts) refl h }

-- the usual ways to follow one another
pub then_some : {A C : Type 0} (k : ℕ) (f f' : Reader A) (g g' : A → Reader C) → Like k 1 f f' → ((a : A) → Like k 0 (g a) (g' a)) → Like k 1 (f >>= g) (f' >>= g')
then_some k f f' g g' F G = like_bind k k 1 0 f f' g g' F G (omega arith)

pub then_any : {A C : Type 0} (k : ℕ) (f f' : Reader A) (g g' : A → Reader C) → Like k 0 f f' → ((a : A) → Like k 0 (g a) (g' a)) → Like k 0 (f >>= g) (f' >>= g')
then_any k f f' g g' F G = like_bind k k 0 0 f f' g g' F G (omega arith)

pub then_last : {A C : Type 0} (k : ℕ) (f f' : Reader A) (g g' : A → Reader C) → Like k 0 f f' → ((a : A) → Like k 1 (g a) (g' a)) → Like k 1 (f >>= g) (f' >>= g')
then_last k f f' g g' F G = like_bind k k 0 1 f f' g g' F G (omega arith)

pub like_any : {A : Type 0} (k : ℕ) (f f' : Reader A) → Like k 1 f f' → Like k 0 f f'
like_any k f f' L = like_less k k 1 0 f f' (omega arith) (omega arith) L

-- ---- by the first token

module _ {A : Type 0} (k d : ℕ) (test : Token → Bool) (f f' g g' : Reader A) (F : Like k d f f') (G : Like k d g g') where
  choose_same : (ts : List Token) → length ts ≤ k → choose test f g ts ≡ choose test f' g' ts
  unfolding choose
  choose_same [] short = G.same [] short
  choose_same (w ∷ r) short = ap (λ u. if test w then u else g (w ∷ r)) (F.same (w ∷ r) short) ∙ ap (λ u. if test w then f' (w ∷ r) else u) (G.same (w ∷ r) short)

  chosen_shrinks : (b : Bool) (w : Token) (r : List Token) (a : A) (rest : List Token) → length (w ∷ r) ≤ k → (if b then f (w ∷ r) else g (w ∷ r)) ≡ reading.good a rest → length rest + d ≤ length (w ∷ r)
  chosen_shrinks true w r a rest short h = F.shrinks (w ∷ r) a rest short h
  chosen_shrinks false w r a rest short h = G.shrinks (w ∷ r) a rest short h

  choose_shrinks : (ts : List Token) (a : A) (rest : List Token) → length ts ≤ k → choose test f g ts ≡ reading.good a rest → length rest + d ≤ length ts
  unfolding choose
  choose_shrinks [] a rest short h = G.shrinks [] a rest short h
  choose_shrinks (w ∷ r) a rest short h = chosen_shrinks (test w) w r a rest short h

  pub like_choose : Like k d (choose test f g) (choose test f' g')
  like_choose = record { same = choose_same; shrinks = choose_shrinks }

none_same : {A : Type 0} (f g : Reader A) (a : A) → f [] ≡ reading.good a [] → g [] ≡ reading.good a [] → (ts : List Token) → length ts ≤ 0 → f ts ≡ g ts
none_same f g a left right [] short = left ∙ sym right
none_same f g a left right (w ∷ r) short = absurd (omega (arith, short))

none_shorter : {A : Type 0} (f : Reader A) (a : A) → f [] ≡ reading.good a [] → (ts : List Token) (b : A) (rest : List Token) → length ts ≤ 0 → f ts ≡ reading.good b rest → length rest + 0 ≤ length ts
none_shorter f a left [] b rest short h = let e : [] ≡ rest = cc in omega (arith, ap length (sym e))
none_shorter f a left (w ∷ r) b rest short h = absurd (omega (arith, short))

-- an empty list has no turn, however many there may be
pub like_none : {A : Type 0} (f g : Reader A) (a : A) → f [] ≡ reading.good a [] → g [] ≡ reading.good a [] → Like 0 0 f g
like_none f g a left right = record { same = none_same f g a left right; shrinks = none_shorter f a left }

-- ---- as long as a first token is there

module _ {A : Type 0} (k : ℕ) (test : Token → Bool) (f f' : Reader A) (F : Like k 1 f f') where
  many_none : (size : ℕ) (g : Reader A) → many size test g [] ≡ reading.good [] []
  unfolding many choose
  many_none zero g = refl
  many_none (suc size) g = refl

  pub like_many : (m s t : ℕ) → m ≤ k → m ≤ s → m ≤ t → Like m 0 (many s test f) (many t test f')
  unfolding many
  like_many zero s t low enough also = like_none (many s test f) (many t test f') [] (many_none s f) (many_none t f')
  like_many (suc m) zero t low enough also = absurd (omega (arith, enough))
  like_many (suc m) (suc s) zero low enough also = absurd (omega (arith, also))
  like_many (suc m) (suc s) (suc t) low enough also =
      like_choose (suc m) 0 test _ _ _ _
      (like_less (suc m) (suc m) 1 0 _ _ (omega arith) (omega arith)
      (like_bind (suc m) m 1 0 f f' _ _ (like_less k (suc m) 1 1 f f' low (omega arith) F)
      (λ a. like_bind m m 0 0 _ _ _ _ (like_many m s t (omega (arith, low)) (omega (arith, enough)) (omega (arith, also))) (λ rest. like_give m (a ∷ rest)) (omega arith)) (omega arith)))
      (like_give (suc m) [])
