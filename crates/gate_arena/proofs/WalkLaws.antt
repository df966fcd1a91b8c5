-- Laws of the walk: each step leaves the same way to go.
use Rattle.std.proofs.Common.{◌≡◌, ◌≢◌, ◌⊎◌, inl, inr, ℕ, zero, suc, ◌+◌, ◌-◌, ◌*◌, ◌<◌, ◌≤◌, Bool, true, false, ◌||◌, cond, eqb, List, [], ◌∷◌, ◌++◌, Option, Some, None, Result, Ok, Err, get_or, take, length, replicate, set, slice_get, refl, sym, ap, ◌∙◌, subst, arith, length-append}
use Rattle.std.specs.Prelude.{nat_lt}
use Rattle.std.specs.Result.{OnOk}
use Rattle.std.specs.List.{Contains, IsDistinct, list_any, position_or_len, AllByRecursion}
use Rattle.std.proofs.lemmas.Bool.{cases_eq, eqb-true, eq-eqb, le-ltb, lt-ltb, ltb-false}
use Rattle.std.proofs.lemmas.List.Sums.{fails_before_first, position_or_len_is}
use Rattle.std.proofs.lemmas.Option.{slice_get_within, slice_get-get_or, get_or_from_slice_get}
use Rattle.std.proofs.lemmas.List.{get_or_append_left, get_or_push, get_or-replicate, get_or-set_same, get_or-set_other, length_push, length-replicate, take_all, take_more}
use Rattle.std.proofs.lemmas.List.Elements.{Contains-append_cases, Contains-append_left, Contains-append_right}
use Rattle.std.proofs.lemmas.List.Quantifiers.{position-Some}
use Rattle.std.proofs.lemmas.Map.Steps.{length-le_from_distinct_below}
use Rattle.gate_net.specs.declared.literal.Lit.{Lit}
use Rattle.gate_net.specs.declared.literal.Gate.{Gate}
use Rattle.gate_net.specs.Literal.{wire_of}
use Rattle.gate_net.specs.Circuit.{Circuit}
use Rattle.gate_arena.specs.Wiring.{left_of, right_of}
use Rattle.gate_arena.specs.Paths.{DependsOn, Ends, IsAcyclic, Takes, itself, through}
use Rattle.gate_arena.specs.Order.{IsDone, Visits, VisitsAll, done, fresh}
use Rattle.gate_arena.specs.Inside.{AreNumbers, AreOnce, Finishes, IsAtRest, IsOnWay, IsWayDown, OpenGate, OpenInput, Walked, distance, number_of}
use Rattle.gate_arena.proofs.PathLaws.{no_cycle}

-- ---- lists without repetition

pub Contains-push : (xs : List ℕ) (x : ℕ) → Contains (xs ++ x ∷ []) x
Contains-push xs x = Contains-append_right xs (x ∷ []) x (0, omega arith, refl)

pub push-cases : (xs : List ℕ) (x y : ℕ) → Contains (xs ++ x ∷ []) y → Contains xs y ⊎ (y ≡ x)
push-cases xs x y c = elim (Contains-append_cases xs (x ∷ []) y c) [ inl old ↦ inl old | inr new ↦ inr (only new) ]
  where
    only : Contains (x ∷ []) y → y ≡ x
    only (zero, h, e) = sym e
    only (suc k, h, e) = absurd (omega arith)

contains_tail : (x : ℕ) (xs : List ℕ) (y : ℕ) → Contains xs y → Contains (x ∷ xs) y
contains_tail x xs y (k, h, e) = (suc k, omega arith, e)

contains_cases : (x : ℕ) (xs : List ℕ) (y : ℕ) → Contains (x ∷ xs) y → (y ≡ x) ⊎ Contains xs y
contains_cases x xs y (zero, h, e) = inl (sym e)
contains_cases x xs y (suc k, h, e) = inr (k, omega arith, e)

pub AreOnce-push : (xs : List ℕ) (y : ℕ) → AreOnce xs → ¬ Contains xs y → AreOnce (xs ++ y ∷ [])
AreOnce-push [] y once away = (λ c. absurd (omega (arith, c.1)), tt)
AreOnce-push (x ∷ xs) y once away =
    (λ c. elim (push-cases xs y x c) [ inl old ↦ once.0 old | inr same ↦ away (0, omega arith, same) ], AreOnce-push xs y once.1 (λ c. away (contains_tail x xs y c)))

pub AreOnce-front : (xs : List ℕ) (y : ℕ) → AreOnce (xs ++ y ∷ []) → AreOnce xs × ¬ Contains xs y
AreOnce-front [] y once = (tt, λ c. absurd (omega (arith, c.1)))
AreOnce-front (x ∷ xs) y once =
    let rest = AreOnce-front xs y once.1 in
    ((λ c. once.0 (Contains-append_left xs (y ∷ []) x c), rest.0), λ c. elim (contains_cases x xs y c) [ inl same ↦ once.0 (subst (Contains (xs ++ y ∷ [])) same (Contains-push xs y)) | inr more ↦ rest.1 more ])

AreOnce-append : (xs ys : List ℕ) → AreOnce xs → AreOnce ys → ((k : ℕ) → Contains xs k → ¬ Contains ys k) → AreOnce (xs ++ ys)
AreOnce-append [] ys once more apart = more
AreOnce-append (x ∷ xs) ys once more apart =
    (λ c. elim (Contains-append_cases xs ys x c) [ inl first ↦ once.0 first | inr second ↦ apart x (0, omega arith, refl) second ], AreOnce-append xs ys once.1 more (λ k c. apart k (contains_tail x xs k c)))

differs : (a b : ℕ) → a ≢ b → eqb a b ≡ false
differs a b apart = by (eqb a b) refl
  where
    by : (c : Bool) → eqb a b ≡ c → c ≡ false
    by true e = absurd (apart (eqb-true a b e))
    by false e = refl

-- as std says it
IsDistinct-once : (xs : List ℕ) → AreOnce xs → IsDistinct eqb xs
unfolding IsDistinct
IsDistinct-once [] once = tt
IsDistinct-once (x ∷ xs) once = (all xs once.0, IsDistinct-once xs once.1)
  where
    all : (ys : List ℕ) → ¬ Contains ys x → AllByRecursion (λ y. eqb x y ≡ false) ys
    all [] away = tt
    all (y ∷ ys) away = (differs x y (λ e. away (0, omega arith, sym e)), all ys (λ c. away (contains_tail y ys x c)))

-- so many numbers are below a number, where each comes once
pub once-short : (xs : List ℕ) (n : ℕ) → AreOnce xs → ((k : ℕ) → Contains xs k → k < n) → length xs ≤ n
once-short xs n once low = length-le_from_distinct_below xs n (IsDistinct-once xs once) (λ k found. low k (from_any xs k found))
  where
    from_any : (ys : List ℕ) (k : ℕ) → list_any (eqb k) ys ≡ true → Contains ys k
    from_any [] k e = absurd (cc)
    from_any (y ∷ ys) k e = by (eqb k y) refl e (from_any ys k)
      where
        by : (b : Bool) → eqb k y ≡ b → (b || list_any (eqb k) ys) ≡ true → (list_any (eqb k) ys ≡ true → Contains ys k) → Contains (y ∷ ys) k
        by true same f rest = (0, omega arith, sym (eqb-true k y same))
        by false same f rest = contains_tail y ys k (rest f)

-- ---- numbers

-- what is read at a place where something stands
within : (numbers : List (Option ℕ)) (k i : ℕ) → get_or numbers k None ≡ Some i → k < length numbers
within [] k i e = absurd (none k e)
  where
    none : (j : ℕ) → get_or [] j None ≡ Some i → ⊥
    none zero f = cc
    none (suc j) f = cc
within (x ∷ numbers) zero i e = omega arith
within (x ∷ numbers) (suc k) i e = omega (arith, within numbers k i e)

pub AreNumbers-nil : (count : ℕ) (numbers : List (Option ℕ)) → numbers ≡ replicate count None → AreNumbers [] numbers
AreNumbers-nil count numbers e = record {
  right = λ k i f.
      let inside : k < count = omega (arith, within numbers k i f, ap length e, length-replicate {A = Option ℕ} count None) in
      absurd (clash (sym f ∙ ap (λ (xs : List (Option ℕ)). get_or xs k None) e ∙ get_or-replicate count k None None inside));
  all = λ i h. absurd (omega arith);
}
  where
    clash : {i : ℕ} → Some i ≡ None → ⊥
    clash f = cc

pub get_or-any : (xs : List ℕ) (k a b : ℕ) → k < length xs → get_or xs k a ≡ get_or xs k b
get_or-any [] k a b h = absurd (omega arith)
get_or-any (x ∷ xs) zero a b h = refl
get_or-any (x ∷ xs) (suc k) a b h = get_or-any xs k a b (omega arith)

-- a gate is ended
pub AreNumbers-end : (order more : List ℕ) (numbers : List (Option ℕ)) (place number : ℕ) → AreNumbers order numbers → place < length numbers → ¬ Contains order place → number ≡ length order → more ≡ order ++ place ∷ [] →
    AreNumbers more (set numbers place (Some number))
AreNumbers-end order more numbers place number are low free is pushed = rw (pushed, is) (record {
  right = λ k i e. elim (cases_eq k place) [
    | inl same ↦
        let here : get_or (set numbers place (Some (length order))) k None ≡ Some (length order) = rw same (get_or-set_same numbers place (Some (length order)) None low) in
        let last : length order ≡ i = some_same (sym here ∙ e) in
        (omega (arith, length_push order place), ap (λ (j : ℕ). get_or (order ++ place ∷ []) j 0) (sym last) ∙ get_or_push order place 0 (length order) refl ∙ sym same)
    | inr apart ↦
        let old = are.right k i (sym (get_or-set_other numbers place k (Some (length order)) None apart) ∙ e) in
        (omega (arith, old.0, length_push order place), get_or_append_left order (place ∷ []) 0 i old.0 ∙ old.1)
  ];
  all = λ i h. elim (cases_eq i (length order)) [
    | inl last ↦
        let there : get_or (order ++ place ∷ []) i 0 ≡ place = get_or_push order place 0 i (sym last) in
        rw (there, last) (get_or-set_same numbers place (Some (length order)) None low)
    | inr earlier ↦
        let inside : i < length order = omega (arith, h, length_push order place) in
        let there : get_or (order ++ place ∷ []) i 0 ≡ get_or order i 0 = get_or_append_left order (place ∷ []) 0 i inside in
        let apart : get_or order i 0 ≢ place = λ e. free (i, inside, get_or-any order i place 0 inside ∙ e) in
        rw there (get_or-set_other numbers place (get_or order i 0) (Some (length order)) None apart ∙ are.all i inside)
  ];
})
  where
    some_same : {a b : ℕ} → Some a ≡ Some b → a ≡ b
    some_same f = cc

-- where a gate stands first in the order
pub number_of-at : (order : List ℕ) (k i : ℕ) → i < length order → get_or order i 0 ≡ k → ((j : ℕ) → j < i → get_or order j 0 ≢ k) → number_of order k ≡ Some i
number_of-at order k i h here first =
    let place = position_or_len_is (λ (p : ℕ). eqb k p) order i 0 (omega arith) (λ j g. differs k (get_or order j 0) (λ e. first j g (sym e))) (λ g. eq-eqb k (get_or order i 0) (sym here)) in
    rw (place, lt-ltb i (length order) h) refl

pub number_of-none : (order : List ℕ) (k : ℕ) → ¬ Contains order k → number_of order k ≡ None
number_of-none order k away =
    let place = position_or_len_is (λ (p : ℕ). eqb k p) order (length order) 0 (omega arith) (λ j g. differs k (get_or order j 0) (λ e. away (j, g, get_or-any order j k 0 g ∙ sym e))) (λ g. absurd (omega arith)) in
    rw (place, le-ltb (length order) (length order) (omega arith)) refl

-- a gate with a number has been ended, and one without has not
pub number_of-ended : (order : List ℕ) (k i : ℕ) → number_of order k ≡ Some i → Contains order k
number_of-ended order k i e =
    let p = position-Some (λ (p : ℕ). eqb k p) order i k e in
    (i, p.0, sym (eqb-true k (get_or order i k) p.1))

pub number_of-open : (order : List ℕ) (k : ℕ) → number_of order k ≡ None → ¬ Contains order k
number_of-open order k none c = by (nat_lt (position_or_len (λ (p : ℕ). eqb k p) order) (length order)) refl none
  where
    here : eqb k (get_or order c.0 k) ≡ true
    here = eq-eqb k (get_or order c.0 k) (sym c.2)

    clash : {b : Bool} → b ≡ true → b ≡ false → ⊥
    clash e f = true_false (sym e ∙ f)
      where
        true_false : true ≡ false → ⊥
        true_false g = cc

    by : (b : Bool) → nat_lt (position_or_len (λ (p : ℕ). eqb k p) order) (length order) ≡ b → cond b (Some (position_or_len (λ (p : ℕ). eqb k p) order)) None ≡ None → ⊥
    by true e f = cc
    by false e f = clash here (fails_before_first (λ (p : ℕ). eqb k p) order c.0 k (omega (arith, ltb-false (position_or_len (λ (p : ℕ). eqb k p) order) (length order) e, c.1)))

-- the numbers are those of the order
pub number_of-read : (order : List ℕ) (numbers : List (Option ℕ)) (k : ℕ) → AreNumbers order numbers → get_or numbers k None ≡ number_of order k
number_of-read order numbers k are = by (get_or numbers k None) refl
  where
    clash : {i : ℕ} → None ≡ Some i → ⊥
    clash f = cc

    some_same : {a b : ℕ} → Some a ≡ Some b → a ≡ b
    some_same f = cc

    by : (o : Option ℕ) → get_or numbers k None ≡ o → o ≡ number_of order k
    by None e = sym (number_of-none order k (λ c.
        let there : get_or order c.0 0 ≡ k = get_or-any order c.0 0 k c.1 ∙ c.2 in
        clash (sym e ∙ ap (λ (j : ℕ). get_or numbers j None) (sym there) ∙ are.all c.0 c.1)))
    by (Some i) e =
        let r = are.right k i e in
        sym (number_of-at order k i r.0 r.1 (λ j g there.
        let also : get_or numbers k None ≡ Some j = ap (λ (p : ℕ). get_or numbers p None) (sym there) ∙ are.all j (omega (arith, r.0)) in
        let same : i ≡ j = some_same (sym e ∙ also) in
        absurd (omega arith)))

-- a number is that of one of so many gates
pub number_of-low : (order : List ℕ) (count k i : ℕ) → AreOnce order → ((j : ℕ) → Contains order j → j < count) → number_of order k ≡ Some i → i < count
number_of-low order count k i once low e = omega (arith, (position-Some (λ (p : ℕ). eqb k p) order i k e).0, once-short order count once low)

-- ---- visits

module _ (n : Circuit) where
  pub IsDone-more : (order more : List ℕ) (wire : ℕ) → ((k : ℕ) → Contains order k → Contains more k) → IsDone n order wire → IsDone n more wire
  IsDone-more order more wire keeps (inl low) = inl low
  IsDone-more order more wire keeps (inr (k, here, c)) = inr (k, here, keeps k c)

  -- what has been ended stays ended
  pub visits-keeps : (before : List ℕ) (wire : ℕ) (after : List ℕ) → Visits n before wire after → (k : ℕ) → Contains before k → Contains after k
  visits-keeps _ _ _ (done before wire after is e) k c = subst (λ (xs : List ℕ). Contains xs k) (sym e) c
  visits-keeps _ _ _ (fresh before wire after place gate middle last here stands free left right e) k c =
      subst (λ (xs : List ℕ). Contains xs k) (sym e)
      (Contains-append_left last (place ∷ []) k (visits-keeps middle (wire_of (right_of gate)) last right k (visits-keeps before (wire_of (left_of gate)) middle left k c)))

  -- the wire is done
  pub visits-done : (before : List ℕ) (wire : ℕ) (after : List ℕ) → Visits n before wire after → IsDone n after wire
  visits-done _ _ _ (done before wire after is e) = subst (λ (xs : List ℕ). IsDone n xs wire) (sym e) is
  visits-done _ _ _ (fresh before wire after place gate middle last here stands free left right e) = inr (place, here, subst (λ (xs : List ℕ). Contains xs place) (sym e) (Contains-push last place))

  -- only what it depends on has been ended
  pub visits-new : (before : List ℕ) (wire : ℕ) (after : List ℕ) → Visits n before wire after → (k : ℕ) → Contains after k → Contains before k ⊎ DependsOn n (1 + n.ins + k) wire
  visits-new _ _ _ (done before wire after is e) k c = inl (subst (λ (xs : List ℕ). Contains xs k) e c)
  visits-new _ _ _ (fresh before wire after place gate middle last here stands free left right e) k c =
      elim (push-cases last place k (subst (λ (xs : List ℕ). Contains xs k) e c)) [
        | inr same ↦ inr (itself wire (here ∙ ap (λ (p : ℕ). 1 + n.ins + p) (sym same)))
        | inl in_last ↦ elim (visits-new middle (wire_of (right_of gate)) last right k in_last) [
          | inr below ↦ inr (through wire (wire_of (right_of gate)) (record { place = place; gate = gate; here = here; stands = stands; takes = inr refl }) below)
          | inl in_middle ↦ elim (visits-new before (wire_of (left_of gate)) middle left k in_middle) [
            | inr below ↦ inr (through wire (wire_of (left_of gate)) (record { place = place; gate = gate; here = here; stands = stands; takes = inl refl }) below)
            | inl old ↦ inl old
          ]
        ]
      ]

  -- a wire that is done is not visited again
  pub visits-skip : (before : List ℕ) (wire : ℕ) (after : List ℕ) → Visits n before wire after → IsDone n before wire → after ≡ before
  visits-skip _ _ _ (done before wire after is e) _ = e
  visits-skip _ _ _ (fresh before wire after place gate middle last here stands free left right e) (inl low) = absurd (omega arith)
  visits-skip _ _ _ (fresh before wire after place gate middle last here stands free left right e) (inr (k, at, c)) =
      let same : k ≡ place = omega arith in
      absurd (free (subst (Contains before) same c))

  -- a gate that has not been ended: its inputs are visited, and then it is ended
  record Entered (before : List ℕ) (place : ℕ) (gate : Gate) (after : List ℕ) : Type 0 where
    middle : List ℕ
    last : List ℕ
    left : Visits n before (wire_of (left_of gate)) middle
    right : Visits n middle (wire_of (right_of gate)) last
    ended : after ≡ last ++ place ∷ []

  entered : (before : List ℕ) (wire : ℕ) (after : List ℕ) → Visits n before wire after → (place : ℕ) (gate : Gate) → wire ≡ 1 + n.ins + place → slice_get n.gates place ≡ Some gate → ¬ Contains before place → Entered before place gate after
  entered _ _ _ (done before wire after (inl low) e) place gate here stands free = absurd (omega arith)
  entered _ _ _ (done before wire after (inr (k, at, c)) e) place gate here stands free =
      let same : k ≡ place = omega arith in
      absurd (free (subst (Contains before) same c))
  entered _ _ _ (fresh before wire after k other middle last at stood free2 left right e) place gate here stands free =
      let same : k ≡ place = omega arith in
      let is : other ≡ gate = some_gate (sym stood ∙ ap (slice_get n.gates) same ∙ stands) in
      record {
        middle = middle;
        last = last;
        left = subst (λ (g : Gate). Visits n before (wire_of (left_of g)) middle) is left;
        right = subst (λ (g : Gate). Visits n middle (wire_of (right_of g)) last) is right;
        ended = e ∙ ap (λ (p : ℕ). last ++ p ∷ []) same;
      }
    where
      some_gate : {g h : Gate} → Some g ≡ Some h → g ≡ h
      some_gate f = cc

  -- ---- one order

  pub visits-one : (before : List ℕ) (wire : ℕ) (after other : List ℕ) → Visits n before wire after → Visits n before wire other → after ≡ other
  visits-one _ _ _ other (done before wire after is e) v = e ∙ sym (visits-skip before wire other v is)
  visits-one _ _ _ other (fresh before wire after place gate middle last here stands free left right e) v =
      let u = entered before wire other v place gate here stands free in
      let same_middle : middle ≡ u.middle = visits-one before (wire_of (left_of gate)) middle u.middle left u.left in
      let same_last : last ≡ u.last = visits-one middle (wire_of (right_of gate)) last u.last right (subst (λ (xs : List ℕ). Visits n xs (wire_of (right_of gate)) u.last) (sym same_middle) u.right) in
      e ∙ ap (λ (xs : List ℕ). xs ++ place ∷ []) same_last ∙ sym u.ended

  -- visits to the same wires end the same gates in the same order
  pub visits_all-one : (ls : List Lit) (before after other : List ℕ) → VisitsAll n before ls after → VisitsAll n before ls other → after ≡ other
  visits_all-one [] before after other e f = e ∙ sym f
  visits_all-one (l ∷ ls) before after other (middle, v, rest) (middle2, u, rest2) =
      let same : middle2 ≡ middle = visits-one before (wire_of l) middle2 middle u v in
      visits_all-one ls middle after other rest (subst (λ (xs : List ℕ). VisitsAll n xs ls other) same rest2)

  -- ---- one step

  module _ (order : List ℕ) (w : ℕ) (gate : Gate) (stands : slice_get n.gates w ≡ Some gate) (free : ¬ Contains order w) (ending : Ends n (1 + n.ins + w)) where
    takes_left : (x : ℕ) → wire_of (left_of gate) ≡ x → Takes n (1 + n.ins + w) x
    takes_left x e = record { place = w; gate = gate; here = refl; stands = stands; takes = inl e }

    takes_right : (x : ℕ) → wire_of (right_of gate) ≡ x → Takes n (1 + n.ins + w) x
    takes_right x e = record { place = w; gate = gate; here = refl; stands = stands; takes = inr e }

    pub open-taken : (a : ℕ) → OpenInput n order gate (Some a) → Takes n (1 + n.ins + w) (1 + n.ins + a)
    open-taken a (inl left) = takes_left (1 + n.ins + a) left.0
    open-taken a (inr (is, right)) = takes_right (1 + n.ins + a) right.0

    pub open-low : (a : ℕ) → OpenInput n order gate (Some a) → (a < length n.gates) × ¬ Contains order a
    open-low a (inl left) = (left.1, left.2)
    open-low a (inr (is, right)) = (right.1, right.2)

    -- a visit to an input does not end the gate
    still_free : (a : ℕ) → Takes n (1 + n.ins + w) (1 + n.ins + a) → (after : List ℕ) → Visits n order (1 + n.ins + a) after → ¬ Contains after w
    still_free a takes after v c = elim (visits-new order (1 + n.ins + a) after v w c) [
      | inl old ↦ free old
      | inr below ↦ no_cycle n (1 + n.ins + w) ending (1 + n.ins + a) takes below
    ]

    -- first the input and then the gate is a visit to the gate
    pub descend : (a : ℕ) → OpenInput n order gate (Some a) → (middle after : List ℕ) → Visits n order (1 + n.ins + a) middle → Visits n middle (1 + n.ins + w) after → Visits n order (1 + n.ins + w) after
    descend a input middle after v u = by input (entered middle (1 + n.ins + w) after u w gate refl stands (still_free a (open-taken a input) middle v))
      where
        by : OpenInput n order gate (Some a) → Entered middle w gate after → Visits n order (1 + n.ins + w) after
        by (inl left) e =
            let is_done : IsDone n middle (wire_of (left_of gate)) = subst (IsDone n middle) (sym left.0) (visits-done order (1 + n.ins + a) middle v) in
            let skip : e.middle ≡ middle = visits-skip middle (wire_of (left_of gate)) e.middle e.left is_done in
            fresh order (1 + n.ins + w) after w gate middle e.last refl stands free
            (subst (λ (x : ℕ). Visits n order x middle) (sym left.0) v)
            (subst (λ (xs : List ℕ). Visits n xs (wire_of (right_of gate)) e.last) skip e.right)
            e.ended
        by (inr (is, right)) e =
            let skip : e.middle ≡ middle = visits-skip middle (wire_of (left_of gate)) e.middle e.left (IsDone-more order middle (wire_of (left_of gate)) (visits-keeps order (1 + n.ins + a) middle v) is) in
            let is_done : IsDone n middle (wire_of (right_of gate)) = subst (IsDone n middle) (sym right.0) (visits-done order (1 + n.ins + a) middle v) in
            let skip2 : e.last ≡ middle = visits-skip middle (wire_of (right_of gate)) e.last (subst (λ (xs : List ℕ). Visits n xs (wire_of (right_of gate)) e.last) skip e.right) is_done in
            fresh order (1 + n.ins + w) after w gate order middle refl stands free
            (done order (wire_of (left_of gate)) order is refl)
            (subst (λ (x : ℕ). Visits n order x middle) (sym right.0) v)
            (e.ended ∙ ap (λ (xs : List ℕ). xs ++ w ∷ []) skip2)

    -- a gate whose inputs are done is ended
    pub ends-here : OpenInput n order gate None → Visits n order (1 + n.ins + w) (order ++ w ∷ [])
    ends-here both =
        fresh order (1 + n.ins + w) (order ++ w ∷ []) w gate order order refl stands free
        (done order (wire_of (left_of gate)) order both.0 refl)
        (done order (wire_of (right_of gate)) order both.1 refl)
        refl

  -- ---- what is left of a walk

  -- the last gate on the way is visited first
  record First (order stack : List ℕ) (k : ℕ) (after : List ℕ) : Type 0 where
    middle : List ℕ
    visits : Visits n order (1 + n.ins + k) middle
    rest : Finishes n middle stack after

  finishes-out : (stack order : List ℕ) (k : ℕ) (after : List ℕ) → Finishes n order (stack ++ k ∷ []) after → First order stack k after
  finishes-out [] order k after (middle, e, v) = record { middle = after; visits = subst (λ (xs : List ℕ). Visits n xs (1 + n.ins + k) after) e v; rest = refl }
  finishes-out (j ∷ stack) order k after (middle, f, v) =
      let first = finishes-out stack order k middle f in
      record { middle = first.middle; visits = first.visits; rest = (middle, first.rest, v) }

  finishes-in : (stack order : List ℕ) (k : ℕ) (middle after : List ℕ) → Visits n order (1 + n.ins + k) middle → Finishes n middle stack after → Finishes n order (stack ++ k ∷ []) after
  finishes-in [] order k middle after v e = (order, refl, subst (λ (xs : List ℕ). Visits n order (1 + n.ins + k) xs) (sym e) v)
  finishes-in (j ∷ stack) order k middle after v (last, f, u) = (last, finishes-in stack order k middle last v f, u)

  -- the way down, and one gate more
  IsWayDown-push : (stack : List ℕ) (w a : ℕ) → IsWayDown n (stack ++ w ∷ []) → Takes n (1 + n.ins + w) (1 + n.ins + a) → IsWayDown n ((stack ++ w ∷ []) ++ a ∷ [])
  IsWayDown-push [] w a way t = (t, tt)
  IsWayDown-push (k ∷ []) w a way t = (way.0, (t, tt))
  IsWayDown-push (k ∷ j ∷ stack) w a way t = (way.0, IsWayDown-push (j ∷ stack) w a way.1 t)

  IsWayDown-front : (stack : List ℕ) (w : ℕ) → IsWayDown n (stack ++ w ∷ []) → IsWayDown n stack
  IsWayDown-front [] w way = tt
  IsWayDown-front (k ∷ []) w way = tt
  IsWayDown-front (k ∷ j ∷ stack) w way = (way.0, IsWayDown-front (j ∷ stack) w way.1)

  -- each gate on the way depends on the last
  way-depends : (stack : List ℕ) (w : ℕ) → IsWayDown n (stack ++ w ∷ []) → (k : ℕ) → Contains (stack ++ w ∷ []) k → DependsOn n (1 + n.ins + w) (1 + n.ins + k)
  way-depends [] w way k c = elim (push-cases [] w k c) [ inl none ↦ absurd (omega (arith, none.1)) | inr same ↦ itself (1 + n.ins + k) (ap (λ (p : ℕ). 1 + n.ins + p) same) ]
  way-depends (j ∷ []) w way k c = elim (contains_cases j (w ∷ []) k c) [
    | inl same ↦ through (1 + n.ins + k) (1 + n.ins + w) (subst (λ (p : ℕ). Takes n (1 + n.ins + p) (1 + n.ins + w)) (sym same) way.0) (itself (1 + n.ins + w) refl)
    | inr more ↦ way-depends [] w tt k more
  ]
  way-depends (j ∷ i ∷ stack) w way k c = elim (contains_cases j (i ∷ (stack ++ w ∷ [])) k c) [
    | inl same ↦
        through (1 + n.ins + k) (1 + n.ins + i) (subst (λ (p : ℕ). Takes n (1 + n.ins + p) (1 + n.ins + i)) (sym same) way.0) (way-depends (i ∷ stack) w way.1 i (0, omega arith, refl))
    | inr more ↦ way-depends (i ∷ stack) w way.1 k more
  ]

  -- ---- the steps

  module _ (acyclic : IsAcyclic n) (begun : List ℕ) (wire count : ℕ) (order stack : List ℕ) (w : ℕ) (gate : Gate) (stands : slice_get n.gates w ≡ Some gate)
      (on : IsOnWay n begun wire (record { count = count; order = order; stack = stack ++ w ∷ [] })) where
    here_free : ¬ Contains order w
    here_free = (on.ahead w (Contains-push stack w)).1

    pub IsOnWay-enter : (a : ℕ) → OpenInput n order gate (Some a) → IsOnWay n begun wire (record { count = count; order = order; stack = (stack ++ w ∷ []) ++ a ∷ [] })
    IsOnWay-enter a input =
        let takes = open-taken order w gate stands here_free (acyclic (1 + n.ins + w)) a input in
        let low = open-low order w gate stands here_free (acyclic (1 + n.ins + w)) a input in
        let new_ : ¬ Contains (stack ++ w ∷ []) a = λ c. no_cycle n (1 + n.ins + w) (acyclic (1 + n.ins + w)) (1 + n.ins + a) takes (way-depends stack w on.way a c) in
        record {
          count = on.count;
          finishes = λ after f.
              let first = finishes-out (stack ++ w ∷ []) order a after f in
              let second = finishes-out stack first.middle w after first.rest in
              on.finishes after (finishes-in stack order w second.middle after (descend order w gate stands here_free (acyclic (1 + n.ins + w)) a input first.middle second.middle first.visits second.visits) second.rest);
          way = IsWayDown-push stack w a on.way takes;
          ahead = λ k c. elim (push-cases (stack ++ w ∷ []) a k c) [ inl old ↦ on.ahead k old | inr same ↦ subst (λ (p : ℕ). (p < length n.gates) × ¬ Contains order p) (sym same) low ];
          once = AreOnce-push (stack ++ w ∷ []) a on.once new_;
          order_once = on.order_once;
          order_low = on.order_low;
        }

    pub IsOnWay-end : OpenInput n order gate None → IsOnWay n begun wire (record { count = count; order = order ++ w ∷ []; stack = stack })
    IsOnWay-end both =
        let front = AreOnce-front stack w on.once in
        record {
          count = on.count;
          finishes = λ after f. on.finishes after (finishes-in stack order w (order ++ w ∷ []) after (ends-here order w gate stands here_free (acyclic (1 + n.ins + w)) both) f);
          way = IsWayDown-front stack w on.way;
          ahead = λ k c.
              let was = on.ahead k (Contains-append_left stack (w ∷ []) k c) in
              (was.0, λ d. elim (push-cases order w k d) [ inl old ↦ was.1 old | inr same ↦ front.1 (subst (Contains stack) same c) ]);
          once = front.0;
          order_once = AreOnce-push order w on.order_once here_free;
          order_low = λ k c. elim (push-cases order w k c) [ inl old ↦ on.order_low k old | inr same ↦ subst (λ (p : ℕ). p < length n.gates) (sym same) (on.ahead w (Contains-push stack w)).0 ];
        }

-- ---- the steps of the code

-- the place of a gate that has been ended
pub place-low : (order items : List ℕ) (count i : ℕ) → items ≡ order → ((k : ℕ) → Contains order k → k < count) → i < length items → get_or items i 0 < count
place-low order items count i same low h = low (get_or items i 0) (subst (λ (xs : List ℕ). Contains xs (get_or items i 0)) same (i, h, get_or-any items i (get_or items i 0) 0 h))

pub on_ok : {T E : Type 0} (r : Result T E) (P Q : Type 0) → OnOk r P → (P → Q) → OnOk r Q
on_ok (Ok x) P Q h f = f h
on_ok (Err e) P Q h f = tt

-- the last element and those before it
last-split : (xs : List ℕ) (x : ℕ) → slice_get xs (length xs - 1) ≡ Some x → xs ≡ take (length xs - 1) xs ++ x ∷ []
last-split xs x e =
    let h : length xs - 1 < length xs = slice_get_within xs (length xs - 1) x e in
    let long : length xs - 1 + 1 ≡ length xs = omega arith in
    sym (take_all (length xs) xs (omega arith))
    ∙ ap (λ (n : ℕ). take n xs) (sym long)
    ∙ take_more xs (length xs - 1) x h
    ∙ ap (λ (y : ℕ). take (length xs - 1) xs ++ y ∷ []) (get_or_from_slice_get xs (length xs - 1) x x e)

pub last-in : (xs : List ℕ) (k x : ℕ) → slice_get xs k ≡ Some x → Contains xs x
last-in xs k x e = (k, slice_get_within xs k x e, get_or_from_slice_get xs k x x e)

pub none-last : (xs : List ℕ) → slice_get xs (length xs - 1) ≡ None → xs ≡ []
none-last [] e = refl
none-last (x ∷ xs) e =
    let here : slice_get (x ∷ xs) (length (x ∷ xs) - 1) ≡ Some (get_or (x ∷ xs) (length (x ∷ xs) - 1) 0) = slice_get-get_or (x ∷ xs) (length (x ∷ xs) - 1) 0 (omega arith) in
    absurd (clash (sym e ∙ here))
  where
    clash : {i : ℕ} → None ≡ Some i → ⊥
    clash f = cc

module _ (n : Circuit) where
  -- the gate at a place that is read
  pub gate-stands : (items : List Gate) (place count : ℕ) (d : Gate) → items ≡ n.gates → place < count → count ≡ length n.gates → slice_get n.gates place ≡ Some (get_or items place d)
  gate-stands items place count d same h long = slice_get-get_or n.gates place d (omega (arith, long)) ∙ ap (λ (gs : List Gate). Some (get_or gs place d)) (sym same)

  module _ (acyclic : IsAcyclic n) (old : Walked) (place : ℕ) (gate : Gate) (stands : slice_get n.gates place ≡ Some gate) (last : slice_get old.stack (length old.stack - 1) ≡ Some place) where
    abbrev before : List ℕ
    before = take (length old.stack - 1) old.stack

    split : old ≡ record { count = old.count; order = old.order; stack = before ++ place ∷ [] }
    split = ap (λ (xs : List ℕ). let w : Walked = record { count = old.count; order = old.order; stack = xs } in w) (last-split old.stack place last)

    -- down to an input
    pub way-enter : (a : ℕ) (new_ : Walked) → OpenInput n old.order gate (Some a) → new_ ≡ record { count = old.count; order = old.order; stack = old.stack ++ a ∷ [] } → (begun : List ℕ) (wire : ℕ) → IsOnWay n begun wire old → IsOnWay n begun wire new_
    way-enter a new_ input is begun wire on =
        let next = IsOnWay-enter n acyclic begun wire old.count old.order before place gate stands (subst (IsOnWay n begun wire) split on) a input in
        subst (IsOnWay n begun wire)
        (ap (λ (xs : List ℕ). let w : Walked = record { count = old.count; order = old.order; stack = xs ++ a ∷ [] } in w) (sym (last-split old.stack place last)) ∙ sym is)
        next

    -- the end of the gate
    pub way-end : (new_ : Walked) → OpenInput n old.order gate None → new_ ≡ record { count = old.count; order = old.order ++ place ∷ []; stack = before } → (begun : List ℕ) (wire : ℕ) → IsOnWay n begun wire old → IsOnWay n begun wire new_
    way-end new_ both is begun wire on = subst (IsOnWay n begun wire) (sym is) (IsOnWay-end n acyclic begun wire old.count old.order before place gate stands (subst (IsOnWay n begun wire) split on) both)

  -- a walk to a gate begins
  pub way-begins : (old new_ : Walked) (wire place : ℕ) → IsAtRest n old → OpenGate n old.order wire (Some place) → new_ ≡ record { count = old.count; order = old.order; stack = old.stack ++ place ∷ [] } → IsOnWay n old.order wire new_
  way-begins old new_ wire place rest open_ is =
      let empty : new_ ≡ record { count = old.count; order = old.order; stack = place ∷ [] } =
      is ∙ ap (λ (xs : List ℕ). let w : Walked = record { count = old.count; order = old.order; stack = xs ++ place ∷ [] } in w) rest.empty in
      subst (IsOnWay n old.order wire) (sym empty) (record {
        count = rest.count;
        finishes = λ after f. subst (λ (x : ℕ). Visits n old.order x after) (sym open_.0) (subst (λ (xs : List ℕ). Visits n xs (1 + n.ins + place) after) f.1 f.2);
        way = tt;
        ahead = λ k c. elim (contains_cases place [] k c) [ inl same ↦ subst (λ (p : ℕ). (p < length n.gates) × ¬ Contains old.order p) (sym same) (open_.1, open_.2) | inr none ↦ absurd (omega (arith, none.1)) ];
        once = (λ c. absurd (omega (arith, c.1)), tt);
        order_once = rest.order_once;
        order_low = rest.order_low;
      })

  -- there is no way to a wire that is done
  pub way-none : (old new_ : Walked) (wire : ℕ) → IsAtRest n old → OpenGate n old.order wire None → new_ ≡ old → IsOnWay n old.order wire new_
  way-none old new_ wire rest is_done same =
      let empty : new_ ≡ record { count = old.count; order = old.order; stack = [] } = same ∙ ap (λ (xs : List ℕ). let w : Walked = record { count = old.count; order = old.order; stack = xs } in w) rest.empty in
      subst (IsOnWay n old.order wire) (sym empty) (record {
        count = rest.count;
        finishes = λ after e. done old.order wire after is_done e;
        way = tt;
        ahead = λ k c. absurd (omega (arith, c.1));
        once = tt;
        order_once = rest.order_once;
        order_low = rest.order_low;
      })

  module _ (begun : List ℕ) (wire : ℕ) (w : Walked) (on : IsOnWay n begun wire w) where
    -- the gates on the way and those that have been ended are different ones
    together : length w.order + length w.stack ≤ length n.gates
    together =
        omega (
          arith,
          length-append w.order w.stack,
          once-short (w.order ++ w.stack) (length n.gates) (AreOnce-append w.order w.stack on.order_once on.once (λ k c d. (on.ahead k d).1 c))
              (λ k c. elim (Contains-append_cases w.order w.stack k c) [ inl ended ↦ on.order_low k ended | inr ahead_ ↦ (on.ahead k ahead_).0 ]),
        )

    -- so a walk comes to its end
    pub way-smaller : (old : Walked) → distance old < distance w → 2 * length n.gates - distance w < 2 * length n.gates - distance old
    way-smaller old further = omega (arith, together, further)

    -- at its end the wire has been visited
    pub way-done : w.stack ≡ [] → Visits n begun wire w.order
    way-done empty = on.finishes w.order (subst (λ (xs : List ℕ). Finishes n w.order xs w.order) (sym empty) refl)

    pub way-rest : w.stack ≡ [] → IsAtRest n w
    way-rest empty = record { count = on.count; empty = empty; order_once = on.order_once; order_low = on.order_low }

  -- one wire more is visited
  visits-all-more : (before : List ℕ) (ls : List Lit) (l : Lit) (middle after : List ℕ) → VisitsAll n before ls middle → Visits n middle (wire_of l) after → VisitsAll n before (ls ++ l ∷ []) after
  visits-all-more before [] l middle after e v = (after, subst (λ (xs : List ℕ). Visits n xs (wire_of l) after) e v, refl)
  visits-all-more before (k ∷ ls) l middle after (first, u, rest) v = (first, u, visits-all-more first ls l middle after rest v)

  pub visits-next : (outs : List Lit) (i : ℕ) (d : Lit) (middle after : List ℕ) (wire : ℕ) → i < length outs → VisitsAll n [] (take i outs) middle → wire ≡ wire_of (get_or outs i d) → Visits n middle wire after → VisitsAll n [] (take (i + 1) outs) after
  visits-next outs i d middle after wire h all is v =
      subst (λ (ls : List Lit). VisitsAll n [] ls after) (sym (take_more outs i d h)) (visits-all-more [] (take i outs) (get_or outs i d) middle after all (subst (λ (x : ℕ). Visits n middle x after) is v))
