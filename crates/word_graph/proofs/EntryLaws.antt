-- Laws of lists of entries: what stands at a place fits what is before it, and what an entry more keeps.
use Rattle.std.proofs.Common.{◌≡◌, ◌⊎◌, inl, inr, ℕ, zero, suc, ◌+◌, ◌<◌, ◌≤◌, Bool, true, false, ◌&&◌, ◌||◌, List, [], ◌∷◌, ◌++◌, get_or, take, length, nat_lt, Option, Some, None, is_some, slice_get, unwrap_or, refl, sym, ap, ◌∙◌, subst, arith, append_assoc}
use Rattle.std.proofs.lemmas.Option.{slice_get_within, get_or_from_slice_get, slice_get-get_or}
use Rattle.std.proofs.lemmas.List.{append-nil, length_push, length-map, map-append, get_or-take, length-take-le}
use Rattle.std.proofs.lemmas.List.Folds.{list_all_at}
use Rattle.std.specs.Bool.{Decides}
use Rattle.std.specs.List.{All, list_all, list_any, position, Contains}
use Rattle.std.proofs.lemmas.List.Quantifiers.{position-Some}
use Rattle.hy_bits.specs.declared.op.Op.{Op}
use Rattle.hy_bits.specs.declared.op.Op.TheVariants.{In, Const, Sel}
use Rattle.hy_bits.specs.declared.width.Width.{Width}
use Rattle.hy_bits.specs.Op.{IsTakenBy}
use Rattle.hy_bits.specs.Words.{IsWord}
use Rattle.word_graph.specs.declared.entry.Entry.{Entry}
use Rattle.word_graph.specs.declared.entry.Term.{Term}
use Rattle.word_graph.specs.Term.{taken_by, arity, NumberFits, argument, entry_of, region_of, term_of, terms_of, width_at}
use Rattle.word_graph.specs.Size.{size_after, term_size}
use Rattle.word_graph.specs.Shape.{FitsAfter, IsEntryAfter, AreEntries, IsGraph, constant_entry, constant_at, has_constants_only, node_limit}
use Rattle.word_graph.proofs.OpLaws.{constant_word-some, IsTakenBy-fits}

-- ---- lists

module _ {X : Type 0} where
  -- what stands at a place is an element
  pub Contains-slice_get : (xs : List X) (k : ℕ) (x : X) → slice_get xs k ≡ Some x → Contains xs x
  Contains-slice_get xs k x e = (k, slice_get_within xs k x e, get_or_from_slice_get xs k x x e)

  slice_get-left : (xs : List X) (y : X) (k : ℕ) → k < length xs → slice_get (xs ++ y ∷ []) k ≡ slice_get xs k
  slice_get-left [] y k h = absurd (omega arith)
  slice_get-left (x ∷ xs) y zero h = refl
  slice_get-left (x ∷ xs) y (suc k) h = slice_get-left xs y k (omega arith)

  pub slice_get-push : (xs : List X) (x : X) → slice_get (xs ++ x ∷ []) (length xs) ≡ Some x
  slice_get-push [] x = refl
  slice_get-push (y ∷ xs) x = slice_get-push xs x

-- ---- what stands at a place

pub arity-three : (op : Op) → arity op ≤ 3
arity-three Sel = omega arith
arity-three _ = omega arith

pub AreEntries-at : (before es : List Entry) (k : ℕ) (e : Entry) → AreEntries before es → slice_get es k ≡ Some e → IsEntryAfter (before ++ take k es) e
AreEntries-at before [] k e h s = absurd (cc)
AreEntries-at before (x ∷ es) zero e h s =
    let same : x ≡ e = cc in
    subst (λ (v : Entry). IsEntryAfter (before ++ []) v) same (rw append-nil h.0)
AreEntries-at before (x ∷ es) (suc k) e h s = rw append_assoc at (AreEntries-at (before ++ x ∷ []) es k e h.1 s)

pub AreEntries-push : (before es : List Entry) (e : Entry) → AreEntries before es → IsEntryAfter (before ++ es) e → AreEntries before (es ++ e ∷ [])
AreEntries-push before [] e h g = (rw append-nil at g, tt)
AreEntries-push before (x ∷ es) e h g = (h.0, AreEntries-push (before ++ x ∷ []) es e h.1 (rw append_assoc g))

pub AreEntries-take : (before es : List Entry) (n : ℕ) → AreEntries before es → AreEntries before (take n es)
AreEntries-take before [] zero h = tt
AreEntries-take before [] (suc n) h = tt
AreEntries-take before (e ∷ es) zero h = tt
AreEntries-take before (e ∷ es) (suc n) h = (h.0, AreEntries-take (before ++ e ∷ []) es n h.1)

-- what an entry takes stands before it
pub taken_by-earlier : (es : List Entry) (k : ℕ) (e : Entry) → IsGraph es → slice_get es k ≡ Some e → All (λ a. a < k) (taken_by e)
taken_by-earlier es k e graph s j d within =
    let entry = AreEntries-at [] es k e graph.entries s in
    let few : length (take (arity e.op) e.args) ≡ arity e.op = length-take-le (arity e.op) e.args (omega (arith, entry.fits.three, arity-three e.op)) in
    let used : argument (term_of e) j < length (take k es) = entry.fits.used j (omega arith) in
    let same : get_or (take (arity e.op) e.args) j d ≡ argument (term_of e) j =
    get_or-take (arity e.op) e.args j d (omega arith) ∙ get_or-default e.args j d 0 (omega (arith, entry.fits.three, arity-three e.op)) in
    rw same (omega (arith, length-take-le k es (omega (arith, slice_get_within es k e s))))
  where
    get_or-default : (xs : List ℕ) (i c d : ℕ) → i < length xs → get_or xs i c ≡ get_or xs i d
    get_or-default [] i c d h = absurd (omega arith)
    get_or-default (x ∷ xs) zero c d h = refl
    get_or-default (x ∷ xs) (suc i) c d h = get_or-default xs i c d (omega arith)

-- the width at a place
pub width_at-get : (es : List Entry) (k : ℕ) (e : Entry) → slice_get es k ≡ Some e → width_at es k ≡ e.width
width_at-get [] k e s = absurd (cc)
width_at-get (x ∷ es) zero e s = let same : x ≡ e = cc in ap (λ (v : Entry). v.width) same
width_at-get (x ∷ es) (suc k) e s = width_at-get es k e s

pub width_at-take : (es : List Entry) (n k : ℕ) → k < length (take n es) → width_at es k ≡ width_at (take n es) k
width_at-take [] zero k h = absurd (omega arith)
width_at-take [] (suc n) k h = absurd (omega arith)
width_at-take (e ∷ es) zero k h = absurd (omega arith)
width_at-take (e ∷ es) (suc n) zero h = refl
width_at-take (e ∷ es) (suc n) (suc k) h = width_at-take es n k (omega arith)

-- the term at a place
pub terms_of-get : (es : List Entry) (k : ℕ) (e : Entry) → slice_get es k ≡ Some e → slice_get (terms_of es) k ≡ Some (term_of e)
terms_of-get [] k e s = absurd (cc)
terms_of-get (x ∷ es) zero e s = let same : x ≡ e = cc in ap (λ (v : Entry). Some (term_of v)) same
terms_of-get (x ∷ es) (suc k) e s = terms_of-get es k e s

-- the entry of a term
pub entry_at-term : (es : List Entry) (k : ℕ) (t : Term) → slice_get (terms_of es) k ≡ Some t → (e : Entry) × (slice_get es k ≡ Some e) × (term_of e ≡ t)
entry_at-term [] k t s = absurd (cc)
entry_at-term (x ∷ es) zero t s = let same : term_of x ≡ t = cc in (x, refl, same)
entry_at-term (x ∷ es) (suc k) t s = entry_at-term es k t s

-- ---- constants

constant_entry-some : (o : Option Entry) (n : ℕ) → constant_entry o ≡ Some n → (e : Entry) × (o ≡ Some e) × (e.op ≡ Const) × (e.number ≡ n)
constant_entry-some None n h = absurd (cc)
constant_entry-some (Some e) n h = let p = constant_word-some e.op e.number n h in (e, refl, p.0, p.1)

-- a constant is an entry that is one
pub constant_at-some : (es : List Entry) (k n : ℕ) → constant_at es k ≡ Some n → (e : Entry) × (slice_get es k ≡ Some e) × (e.op ≡ Const) × (e.number ≡ n)
constant_at-some es k n h = constant_entry-some (slice_get es k) n h

-- its number is a word of its width
pub constant_at-word : (es : List Entry) (k n : ℕ) → IsGraph es → constant_at es k ≡ Some n → IsWord (width_at es k) n
constant_at-word es k n g h =
    let c = constant_at-some es k n h in
    let entry = AreEntries-at [] es k c.0 g.entries c.1 in
    let number : IsWord c.0.width c.0.number = subst (λ (op : Op). NumberFits op c.0.width c.0.number) c.2 entry.fits.number in
    let of_width : IsWord c.0.width n = subst (λ (m : ℕ). IsWord c.0.width m) c.3 number in
    subst (λ (w : Width). IsWord w n) (sym (width_at-get es k c.0 c.1)) of_width

bool_cases : (b : Bool) → (b ≡ true) ⊎ (b ≡ false)
bool_cases true = inl refl
bool_cases false = inr refl

-- where a term has constants alone, each argument that it takes is one
pub has_constants_only-at : (es : List Entry) (t : Term) (k : ℕ) → length t.args ≡ 3 → has_constants_only es t ≡ true → k < arity t.op → (n : ℕ) × (constant_at es (argument t k) ≡ Some n)
has_constants_only-at es t k three h within =
    let passes : ℕ → Bool = λ (x : ℕ). is_some (constant_at es x) in
    let long : k < length (take (arity t.op) t.args) = omega (arith, arity-three t.op, length-take-le (arity t.op) t.args) in
    elim (bool_cases (passes (get_or (take (arity t.op) t.args) k 0))) [
      | inl is ↦
          let here : is_some (constant_at es (argument t k)) ≡ true = rw get_or-take at is in
          from_test (constant_at es (argument t k)) here
      | inr is ↦
          let none : list_all passes (take (arity t.op) t.args) ≡ false = list_all_at passes (take (arity t.op) t.args) k 0 long is in
          absurd (never (nat_lt 0 (arity t.op)) (list_all passes (take (arity t.op) t.args)) none h)
    ]
  where
    from_test : (o : Option ℕ) → is_some o ≡ true → (n : ℕ) × (o ≡ Some n)
    from_test None e = absurd (cc)
    from_test (Some n) e = (n, refl)

    never : (a b : Bool) → b ≡ false → (a && b) ≡ true → ⊥
    never true true p q = cc
    never true false p q = cc
    never false b p q = cc

-- and it takes some
pub has_constants_only-some : (es : List Entry) (t : Term) → has_constants_only es t ≡ true → arity t.op ≡ 0 → ⊥
has_constants_only-some es t h none = no (nat_lt 0 (arity t.op)) (list_all (λ (x : ℕ). is_some (constant_at es x)) (take (arity t.op) t.args)) (ap (λ (n : ℕ). nat_lt 0 n) none) h
  where
    no : (a b : Bool) → a ≡ false → (a && b) ≡ true → ⊥
    no true b p q = cc
    no false b p q = cc

-- so the operation takes them
pub constant_value-taken : (es : List Entry) (t : Term) → IsGraph es → FitsAfter es t → has_constants_only es t ≡ true →
    IsTakenBy t.op t.width (width_at es (argument t 0)) (unwrap_or (constant_at es (argument t 0)) 0) (unwrap_or (constant_at es (argument t 1)) 0) (unwrap_or (constant_at es (argument t 2)) 0)
constant_value-taken es t g f h =
    let word : (k : ℕ) → k < arity t.op → IsWord (width_at es (argument t k)) (unwrap_or (constant_at es (argument t k)) 0) =
    λ k within.
    let c = has_constants_only-at es t k f.three h within in
    rw c.1 (constant_at-word es (argument t k) c.0 g c.1) in
    IsTakenBy-fits t.op t.width (width_at es (argument t 0)) (width_at es (argument t 1)) (width_at es (argument t 2)) _ _ _ f.widths
    (λ none. absurd (has_constants_only-some es t h none)) (word 0) (word 1) (word 2)

-- ---- an entry more

pub region_of-twice : (op : Op) (region : ℕ) → region_of op (region_of op region) ≡ region_of op region
region_of-twice In region = refl
region_of-twice Const region = refl
region_of-twice _ region = refl

pub terms_of-push : (es : List Entry) (e : Entry) → terms_of (es ++ e ∷ []) ≡ terms_of es ++ term_of e ∷ []
terms_of-push es e = map-append term_of es (e ∷ [])

-- the entry of a term that is live and stands nowhere keeps a graph one
pub IsGraph-push : (es : List Entry) (t : Term) (region : ℕ) → IsGraph es → FitsAfter es t → has_constants_only es t ≡ false → ¬ Contains (terms_of es) t → length es < node_limit → IsGraph (es ++ entry_of t region ∷ [])
IsGraph-push es t region g f live absent room = record {
  entries = AreEntries-push [] es (entry_of t region) g.entries (record { fits = f; region = region_of-twice t.op region; live = live });
  distinct = λ i j less within same.
      let long : length (terms_of es) ≡ length es = length-map es term_of in
      let last : length (es ++ entry_of t region ∷ []) ≡ length es + 1 = length_push es (entry_of t region) in
      let terms = terms_of-push es (entry_of t region) in
      let left : slice_get (terms_of es ++ t ∷ []) i ≡ slice_get (terms_of es) i = slice_get-left (terms_of es) t i (omega arith) in
      elim (below_or_last j (length es) (omega arith)) [
        | inl below ↦
            let right : slice_get (terms_of es ++ t ∷ []) j ≡ slice_get (terms_of es) j = slice_get-left (terms_of es) t j (omega arith) in
            let both = rw terms at same in
            g.distinct i j less below (sym left ∙ both ∙ right)
        | inr at ↦
            let right : slice_get (terms_of es ++ t ∷ []) j ≡ Some t = ap (λ (k : ℕ). slice_get (terms_of es ++ t ∷ []) k) (at ∙ sym long) ∙ slice_get-push (terms_of es) t in
            let both = rw terms at same in
            absent (Contains-slice_get (terms_of es) i t (sym left ∙ both ∙ right))
      ];
  limit = omega (arith, length_push es (entry_of t region));
}
  where
    below_or_last : (j n : ℕ) → j < n + 1 → (j < n) ⊎ (j ≡ n)
    below_or_last j n h = grind arith

-- ---- sizes

pub size_after-push : (before es : List Entry) (e : Entry) → size_after before (es ++ e ∷ []) ≡ size_after before es + term_size (before ++ es) (term_of e)
size_after-push before [] e = rw append-nil (omega arith)
size_after-push before (x ∷ es) e =
    let rest = rw append_assoc at (size_after-push (before ++ x ∷ []) es e) in
    omega arith

-- ---- the set of terms beside the list

module _ (test : Term → Bool) (t : Term) (decides : (u : Term) → Decides (test u) (t ≡ u)) where
  -- what is found at a place stands there
  pub position-found : (ts : List Term) (k : ℕ) → position test ts ≡ Some k → slice_get ts k ≡ Some t
  position-found ts k e =
      let p = position-Some test ts k t e in
      let same : t ≡ get_or ts k t = (decides (get_or ts k t)).0 p.1 in
      slice_get-get_or ts k t p.0 ∙ ap (λ (u : Term). Some u) (sym same)

  -- what no element passes stands nowhere
  pub list_any-missed : (ts : List Term) → list_any test ts ≡ false → ¬ Contains ts t
  list_any-missed [] none (k, within, e) = absurd (omega arith)
  list_any-missed (u ∷ ts) none (zero, within, e) =
      let yes_here : test u ≡ true = (decides u).1 (sym e) in
      absurd (or_first (test u) (list_any test ts) none yes_here)
    where
      or_first : (a b : Bool) → (a || b) ≡ false → a ≡ true → ⊥
      or_first true b p q = cc
      or_first false b p q = cc
  list_any-missed (u ∷ ts) none (suc k, within, e) = list_any-missed ts (or_second (test u) (list_any test ts) none) (k, omega arith, e)
    where
      or_second : (a b : Bool) → (a || b) ≡ false → b ≡ false
      or_second true b p = absurd (cc)
      or_second false b p = p
