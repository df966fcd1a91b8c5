-- Laws of the outputs' chains: after every step each wire's chain has the outputs that hold it.
use Rattle.std.proofs.Common.{◌≡◌, ◌≢◌, ◌⊎◌, inl, inr, ℕ, zero, suc, ◌+◌, ◌<◌, ◌≤◌, Bool, true, false, cond, eqb, List, [], ◌∷◌, ◌++◌, Option, Some, None, get_or, take, length, map, set, replicate, slice_get, refl, sym, ap, ◌∙◌, subst, arith, length-set}
use Rattle.std.specs.List.{All, Contains, filter}
use Rattle.std.specs.Option.{option_map}
use Rattle.std.proofs.lemmas.Bool.{cases_eq, eqb-true, eq-eqb}
use Rattle.std.proofs.lemmas.Option.{slice_get_within, slice_get-get_or, get_or_from_slice_get}
use Rattle.std.proofs.lemmas.List.{get_or-set_same, get_or-set_other, get_or_append_left, get_or_push, get_or-replicate, get_or-take, length_push, length-replicate, length-take-le, take_all, take_more}
use Rattle.std.proofs.Math.Seq.{map-set_same}
use Rattle.gate_net.specs.declared.literal.Lit.{Lit}
use Rattle.gate_net.specs.Literal.{wire_of}
use Rattle.gate_arena.specs.Change.{moved, replaced_lit}
use Rattle.gate_arena.specs.Inside.{AreChained, AreOnce, IsChainOf, IsPath, wire_of_out}
use Rattle.gate_arena.proofs.MirrorLaws.{replaced_lit-moved, replaced_lit-other, slice_get-left, slice_get-push, slice_get-set_other, slice_get-set_same, wire_of-moved}

-- ---- paths

Contains-tail : (x : ℕ) (xs : List ℕ) (y : ℕ) → Contains xs y → Contains (x ∷ xs) y
Contains-tail x xs y (k, h, e) = (suc k, omega arith, e)

Contains-cases : (x : ℕ) (xs : List ℕ) (y : ℕ) → Contains (x ∷ xs) y → (y ≡ x) ⊎ Contains xs y
Contains-cases x xs y (zero, h, e) = inl (sym e)
Contains-cases x xs y (suc k, h, e) = inr (k, omega arith, e)

-- what is written elsewhere does not change a path
IsPath-set : (next : List (Option ℕ)) (i : ℕ) (t start : Option ℕ) (xs : List ℕ) → ¬ Contains xs i → IsPath next start xs → IsPath (set next i t) start xs
IsPath-set next i t None [] away path = tt
IsPath-set next i t None (x ∷ xs) away path = path
IsPath-set next i t (Some j) [] away path = path
IsPath-set next i t (Some j) (x ∷ xs) away path =
    let apart : x ≢ i = λ e. away (0, omega arith, e) in
    let same : get_or (set next i t) x None ≡ get_or next x None = get_or-set_other next i x t None apart in
    (path.0, rw same (IsPath-set next i t (get_or next x None) xs (λ c. away (Contains-tail x xs i c)) path.1))

-- nor does a place more
IsPath-push : (next : List (Option ℕ)) (t start : Option ℕ) (xs : List ℕ) → ((i : ℕ) → Contains xs i → i < length next) → IsPath next start xs → IsPath (next ++ t ∷ []) start xs
IsPath-push next t None [] low path = tt
IsPath-push next t None (x ∷ xs) low path = path
IsPath-push next t (Some j) [] low path = path
IsPath-push next t (Some j) (x ∷ xs) low path =
    let within : x < length next = low x (0, omega arith, refl) in
    let same : get_or (next ++ t ∷ []) x None ≡ get_or next x None = get_or_append_left next (t ∷ []) None x within in
    (path.0, rw same (IsPath-push next t (get_or next x None) xs (λ i c. low i (Contains-tail x xs i c)) path.1))

-- ---- the wires of outputs

some_same : {v u : ℕ} → Some v ≡ Some u → v ≡ u
some_same f = cc

wire_of_out-within : (lits : List Lit) (i wire : ℕ) → wire_of_out lits i ≡ Some wire → i < length lits
wire_of_out-within lits i wire e = by (slice_get lits i) refl e
  where
    by : (o : Option Lit) → slice_get lits i ≡ o → option_map wire_of o ≡ Some wire → i < length lits
    by None s f = absurd (cc)
    by (Some l) s f = slice_get_within lits i l s

-- ---- no outputs and new outputs

-- no outputs
pub AreChained-nil : (wires : ℕ) (first : List (Option ℕ)) → first ≡ replicate wires None → AreChained [] first []
AreChained-nil wires first e = record {
  one_for_each = refl;
  stand = λ i w h. absurd (omega (arith, wire_of_out-within [] i w h));
  chain = λ w h. record {
    places = [];
    path =
        let none : get_or first w None ≡ None = rw e (get_or-replicate wires w None None (omega (arith, ap length e, length-replicate {A = Option ℕ} wires None, h))) in
        rw none tt;
    once = tt;
    only = λ i c. absurd (omega (arith, c.1));
    all = λ i s. absurd (omega (arith, wire_of_out-within [] i w s));
  };
}

-- an output more
module _ (lits : List Lit) (first next : List (Option ℕ)) (c : AreChained lits first next) (l : Lit) (i : ℕ) (at_end : i ≡ length lits) (within : wire_of l < length first) where
  abbrev grown : List (Option ℕ)
  grown = next ++ get_or first (wire_of l) None ∷ []

  keeps : (j : ℕ) → j < length lits → wire_of_out (lits ++ l ∷ []) j ≡ wire_of_out lits j
  keeps j h = ap (option_map wire_of) (slice_get-left lits l j h)

  here : wire_of_out (lits ++ l ∷ []) i ≡ Some (wire_of l)
  here = ap (option_map wire_of) (slice_get-push lits l i at_end)

  low : (w : ℕ) (h : w < length first) (j : ℕ) → Contains (c.chain w h).places j → j < length lits
  low w h j p = wire_of_out-within lits j w ((c.chain w h).only j p)

  grown-path : (w : ℕ) (h : w < length first) → IsPath grown (get_or first w None) (c.chain w h).places
  grown-path w h = IsPath-push next (get_or first (wire_of l) None) (get_or first w None) (c.chain w h).places (λ j p. omega (arith, low w h j p, c.one_for_each)) (c.chain w h).path

  -- an output that stands holds a wire now as before
  before : (j w : ℕ) → j ≢ i → wire_of_out (lits ++ l ∷ []) j ≡ Some w → wire_of_out lits j ≡ Some w
  before j w apart e = sym (keeps j (omega (arith, wire_of_out-within (lits ++ l ∷ []) j w e, length_push lits l))) ∙ e

  own : IsChainOf (lits ++ l ∷ []) grown (wire_of l) (Some i)
  own = record {
    places = i ∷ (c.chain (wire_of l) within).places;
    path =
        let follows : get_or grown i None ≡ get_or first (wire_of l) None = get_or_push next (get_or first (wire_of l) None) None i (omega (arith, c.one_for_each)) in
        (refl, rw follows (grown-path (wire_of l) within));
    once = (λ p. absurd (omega (arith, low (wire_of l) within i p)), (c.chain (wire_of l) within).once);
    only = λ j p. elim (Contains-cases i (c.chain (wire_of l) within).places j p) [
      | inl same ↦ ap (wire_of_out (lits ++ l ∷ [])) same ∙ here
      | inr old ↦ keeps j (low (wire_of l) within j old) ∙ (c.chain (wire_of l) within).only j old
    ];
    all = λ j e. elim (cases_eq j i) [
      | inl same ↦ (0, omega arith, sym same)
      | inr apart ↦ Contains-tail i (c.chain (wire_of l) within).places j ((c.chain (wire_of l) within).all j (before j (wire_of l) apart e))
    ];
  }

  other : (w : ℕ) (h : w < length first) → w ≢ wire_of l → IsChainOf (lits ++ l ∷ []) grown w (get_or first w None)
  other w h away = record {
    places = (c.chain w h).places;
    path = grown-path w h;
    once = (c.chain w h).once;
    only = λ j p. keeps j (low w h j p) ∙ (c.chain w h).only j p;
    all = λ j e. elim (cases_eq j i) [
      | inl same ↦ absurd (away (some_same (sym e ∙ ap (wire_of_out (lits ++ l ∷ [])) same ∙ here)))
      | inr apart ↦ (c.chain w h).all j (before j w apart e)
    ];
  }

  AreChained-push : AreChained (lits ++ l ∷ []) (set first (wire_of l) (Some i)) grown
  AreChained-push = record {
    one_for_each = length_push next (get_or first (wire_of l) None) ∙ omega (arith, c.one_for_each, length_push lits l);
    stand = λ j w e. elim (cases_eq j i) [
      | inl same ↦
          let is : wire_of l ≡ w = some_same (sym here ∙ ap (wire_of_out (lits ++ l ∷ [])) (sym same) ∙ e) in
          omega (arith, length-set first (wire_of l) (Some i))
      | inr apart ↦ omega (arith, c.stand j w (before j w apart e), length-set first (wire_of l) (Some i))
    ];
    chain = λ w h.
        let inside : w < length first = omega (arith, h, length-set first (wire_of l) (Some i)) in
        elim (cases_eq w (wire_of l)) [
          | inl same ↦
              let start : get_or (set first (wire_of l) (Some i)) w None ≡ Some i = rw same (get_or-set_same first (wire_of l) (Some i) None within) in
              rw start (subst (λ (v : ℕ). IsChainOf (lits ++ l ∷ []) grown v (Some i)) (sym same) own)
          | inr away ↦
              let start : get_or (set first (wire_of l) (Some i)) w None ≡ get_or first w None = get_or-set_other first (wire_of l) w (Some i) None away in
              rw start (other w inside away)
        ];
  }

-- the same over the outputs of a list
pub AreChained-next : (lits : List Lit) (first next : List (Option ℕ)) (i wire : ℕ) (d : Lit) (head : Option ℕ) (pushed : List (Option ℕ)) → i < length lits → wire ≡ wire_of (get_or lits i d) → wire < length first →
    AreChained (take i lits) first next → head ≡ get_or first wire None → pushed ≡ next ++ head ∷ [] → AreChained (take (i + 1) lits) (set first wire (Some i)) pushed
AreChained-next lits first next i wire d head pushed h is within c head_is pushed_is =
    rw (pushed_is, head_is, is, take_more lits i d h)
    (AreChained-push (take i lits) first next c (get_or lits i d) i (sym (length-take-le i lits (omega arith))) (subst (λ (w : ℕ). w < length first) is within))

-- ---- wires that no output holds

-- a wire more
pub AreChained-wire : (lits : List Lit) (first next : List (Option ℕ)) → AreChained lits first next → AreChained lits (first ++ None ∷ []) next
AreChained-wire lits first next c = record {
  one_for_each = c.one_for_each;
  stand = λ i w e. omega (arith, c.stand i w e, length_push first None);
  chain = λ w h. elim (cases_eq w (length first)) [
    | inl last ↦
        let start : get_or (first ++ None ∷ []) w None ≡ None = get_or_push first None None w (sym last) in
        rw start (record { places = []; path = tt; once = tt; only = λ i p. absurd (omega (arith, p.1)); all = λ i e. absurd (omega (arith, c.stand i w e)) })
    | inr apart ↦
        let inside : w < length first = omega (arith, h, length_push first None) in
        let start : get_or (first ++ None ∷ []) w None ≡ get_or first w None = get_or_append_left first (None ∷ []) None w inside in
        rw start (c.chain w inside)
  ];
}

-- a wire fewer
pub AreChained-drop : (lits : List Lit) (first next : List (Option ℕ)) (n : ℕ) → n + 1 ≡ length first → All (λ l. wire_of l + 1 < length first) lits → AreChained lits first next → AreChained lits (take n first) next
AreChained-drop lits first next n long low c = record {
  one_for_each = c.one_for_each;
  stand = λ i w e. omega (arith, holds i w e, length-take-le n first (omega arith));
  chain = λ w h.
      let inside : w < n = omega (arith, h, length-take-le n first (omega arith)) in
      let start : get_or (take n first) w None ≡ get_or first w None = get_or-take n first w None inside in
      rw start (c.chain w (omega arith));
}
  where
    holds : (i w : ℕ) → wire_of_out lits i ≡ Some w → w < n
    holds i w e = by (slice_get lits i) refl e
      where
        by : (o : Option Lit) → slice_get lits i ≡ o → option_map wire_of o ≡ Some w → w < n
        by None s f = absurd (cc)
        by (Some l) s f =
            let is : get_or lits i l ≡ l = get_or_from_slice_get lits i l l s in
            let same : wire_of l ≡ w = cc in
            omega (arith, low i l (slice_get_within lits i l s), ap wire_of is, same)

-- ---- an output that is moved

module _ (lits : List Lit) (first next : List (Option ℕ)) (c : AreChained lits first next) (wire : ℕ) (by : Lit) (i : ℕ) (apart : wire_of by ≢ wire) (within : wire < length first) (by_within : wire_of by < length first)
    (front : get_or first wire None ≡ Some i) where
  abbrev target : ℕ
  target = wire_of by

  own_chain : IsChainOf lits next wire (Some i)
  own_chain = subst (IsChainOf lits next wire) front (c.chain wire within)

  -- the places after the first
  record Rest : Type 0 where
    tail : List ℕ
    path : IsPath next (get_or next i None) tail
    whole : own_chain.places ≡ i ∷ tail

  rest : Rest
  rest = from own_chain.places own_chain.path refl
    where
      from : (places : List ℕ) → IsPath next (Some i) places → own_chain.places ≡ places → Rest
      from [] path e = absurd path
      from (x ∷ xs) path e = record { tail = xs; path = subst (λ (k : ℕ). IsPath next (get_or next k None) xs) (sym path.0) path.1; whole = e ∙ ap (λ (k : ℕ). k ∷ xs) (sym path.0) }

  held : wire_of_out lits i ≡ Some wire
  held = own_chain.only i (rw rest.whole (0, omega arith, refl))

  in_lits : i < length lits
  in_lits = wire_of_out-within lits i wire held

  own_once : ¬ Contains rest.tail i × AreOnce rest.tail
  own_once = subst AreOnce rest.whole own_chain.once

  module _ (l : Lit) (l_wire : wire_of l ≡ target) where
    abbrev lits_after : List Lit
    lits_after = set lits i l

    abbrev next_after : List (Option ℕ)
    next_after = set next i (get_or first target None)

    abbrev first_after : List (Option ℕ)
    first_after = set (set first wire (get_or next i None)) target (Some i)

    now : wire_of_out lits_after i ≡ Some target
    now = ap (option_map wire_of) (slice_get-set_same lits i l in_lits) ∙ ap (λ (w : ℕ). Some w) l_wire

    stays : (j : ℕ) → j ≢ i → wire_of_out lits_after j ≡ wire_of_out lits j
    stays j away = ap (option_map wire_of) (slice_get-set_other lits i j l away)

    -- the chain of the wire
    from_wire : IsChainOf lits_after next_after wire (get_or next i None)
    from_wire = record {
      places = rest.tail;
      path = IsPath-set next i (get_or first target None) (get_or next i None) rest.tail own_once.0 rest.path;
      once = own_once.1;
      only = λ j p.
          let away : j ≢ i = λ e. own_once.0 (subst (Contains rest.tail) e p) in
          stays j away ∙ own_chain.only j (rw rest.whole (Contains-tail i rest.tail j p));
      all = λ j e. elim (cases_eq j i) [
        | inl same ↦ absurd (apart (some_same (sym now ∙ ap (wire_of_out lits_after) (sym same) ∙ e)))
        | inr away ↦ elim (Contains-cases i rest.tail j (subst (λ (ps : List ℕ). Contains ps j) rest.whole (own_chain.all j (sym (stays j away) ∙ e)))) [
          | inl same ↦ absurd (away same)
          | inr more ↦ more
        ]
      ];
    }

    -- a place of another wire's chain is another
    away_from : (w : ℕ) (h : w < length first) → w ≢ wire → ¬ Contains (c.chain w h).places i
    away_from w h other p = other (some_same (sym ((c.chain w h).only i p) ∙ held))

    -- the chain of `by`
    to_wire : IsChainOf lits_after next_after target (Some i)
    to_wire =
        let t = c.chain target by_within in
        record {
          places = i ∷ t.places;
          path =
              let follows : get_or next_after i None ≡ get_or first target None = get_or-set_same next i (get_or first target None) None (omega (arith, in_lits, c.one_for_each)) in
              (refl, rw follows (IsPath-set next i (get_or first target None) (get_or first target None) t.places (away_from target by_within apart) t.path));
          once = (away_from target by_within apart, t.once);
          only = λ j p. elim (Contains-cases i t.places j p) [
            | inl same ↦ ap (wire_of_out lits_after) same ∙ now
            | inr old ↦ stays j (λ e. away_from target by_within apart (subst (Contains t.places) e old)) ∙ t.only j old
          ];
          all = λ j e. elim (cases_eq j i) [
            | inl same ↦ (0, omega arith, sym same)
            | inr away ↦ Contains-tail i t.places j (t.all j (sym (stays j away) ∙ e))
          ];
        }

    other_wire : (w : ℕ) (h : w < length first) → w ≢ wire → w ≢ target → IsChainOf lits_after next_after w (get_or first w None)
    other_wire w h not_wire not_target =
        let o = c.chain w h in
        record {
          places = o.places;
          path = IsPath-set next i (get_or first target None) (get_or first w None) o.places (away_from w h not_wire) o.path;
          once = o.once;
          only = λ j p. stays j (λ e. away_from w h not_wire (subst (Contains o.places) e p)) ∙ o.only j p;
          all = λ j e. elim (cases_eq j i) [
            | inl same ↦ absurd (not_target (some_same (sym e ∙ ap (wire_of_out lits_after) same ∙ now)))
            | inr away ↦ o.all j (sym (stays j away) ∙ e)
          ];
        }

    long : length first_after ≡ length first
    long = length-set (set first wire (get_or next i None)) target (Some i) ∙ length-set first wire (get_or next i None)

    AreChained-after : AreChained lits_after first_after next_after
    AreChained-after = record {
      one_for_each = length-set next i (get_or first target None) ∙ c.one_for_each ∙ sym (length-set lits i l);
      stand = λ j w e. elim (cases_eq j i) [
        | inl same ↦
            let is : target ≡ w = some_same (sym now ∙ ap (wire_of_out lits_after) (sym same) ∙ e) in
            omega (arith, long)
        | inr away ↦ omega (arith, long, c.stand j w (sym (stays j away) ∙ e))
      ];
      chain = λ w h.
          let inside : w < length first = omega (arith, h, long) in
          elim (cases_eq w target) [
            | inl same ↦
                let start : get_or first_after w None ≡ Some i = rw same (get_or-set_same (set first wire (get_or next i None)) target (Some i) None (omega (arith, length-set first wire (get_or next i None)))) in
                rw start (subst (λ (v : ℕ). IsChainOf lits_after next_after v (Some i)) (sym same) to_wire)
            | inr not_target ↦
                let one : get_or first_after w None ≡ get_or (set first wire (get_or next i None)) w None = get_or-set_other (set first wire (get_or next i None)) target w (Some i) None not_target in
                elim (cases_eq w wire) [
                  | inl same ↦
                      let start : get_or first_after w None ≡ get_or next i None = one ∙ ap (λ (v : ℕ). get_or (set first wire (get_or next i None)) v None) same ∙ get_or-set_same first wire (get_or next i None) None within in
                      rw start (subst (λ (v : ℕ). IsChainOf lits_after next_after v (get_or next i None)) (sym same) from_wire)
                  | inr not_wire ↦
                      let start : get_or first_after w None ≡ get_or first w None = one ∙ get_or-set_other first wire w (get_or next i None) None not_wire in
                      rw start (other_wire w inside not_wire not_target)
                ]
          ];
    }

-- one that passes no more is counted no more
length-filter-set : (p : Lit → Bool) (xs : List Lit) (i : ℕ) (y d : Lit) → i < length xs → p (get_or xs i d) ≡ true → p y ≡ false → length (filter p (set xs i y)) < length (filter p xs)
length-filter-set p [] i y d h yes_ no_ = absurd (omega arith)
length-filter-set p (x ∷ xs) zero y d h yes_ no_ = rw (yes_, no_) (omega arith)
length-filter-set p (x ∷ xs) (suc i) y d h yes_ no_ = by (p x) (length-filter-set p xs i y d (omega arith) yes_ no_)
  where
    by : (b : Bool) → length (filter p (set xs i y)) < length (filter p xs) → length (cond b (x ∷ filter p (set xs i y)) (filter p (set xs i y))) < length (cond b (x ∷ filter p xs) (filter p xs))
    by true e = omega arith
    by false e = e

-- where no output holds a wire, nothing is replaced
replaced-none : (wire : ℕ) (by : Lit) (lits : List Lit) → ((i : ℕ) → wire_of_out lits i ≡ Some wire → ⊥) → map (replaced_lit wire by) lits ≡ lits
replaced-none wire by [] none = refl
replaced-none wire by (l ∷ ls) none =
    ap (λ (x : Lit). x ∷ map (replaced_lit wire by) ls) (replaced_lit-other wire by l (λ e. none 0 (ap (λ (w : ℕ). Some w) e)))
    ∙ ap (λ (xs : List Lit). l ∷ xs) (replaced-none wire by ls (λ i e. none (suc i) e))

-- what is read within a list, with any default
pub read : {A : Type 0} (xs : List A) (k : ℕ) (d x : A) → k < length xs → x ≡ get_or xs k x → x ≡ get_or xs k d
read xs k d x h e = e ∙ any xs k x d h
  where
    any : {B : Type 0} (ys : List B) (i : ℕ) (a b : B) → i < length ys → get_or ys i a ≡ get_or ys i b
    any [] i a b g = absurd (omega arith)
    any (y ∷ ys) zero a b g = refl
    any (y ∷ ys) (suc i) a b g = any ys i a b (omega arith)

-- ---- the steps of the code

-- the first output of a wire is moved, where the parts are given by equations
module _ (lits : List Lit) (first next : List (Option ℕ)) (c : AreChained lits first next) (wire to : ℕ) (by : Lit) (i : ℕ) (stands : wire < length first) (apart : wire_of by ≢ wire) (by_stands : wire_of by < length first)
    (front : get_or first wire None ≡ Some i) (to_is : to ≡ wire_of by) where
  pub first-within : i < length lits
  first-within = in_lits lits first next c wire by i apart stands by_stands front

  module _ (d l : Lit) (l_is : l ≡ moved by (get_or lits i d)) where
    l_wire : wire_of l ≡ wire_of by
    l_wire = ap wire_of l_is ∙ wire_of-moved by (get_or lits i d)

    was_wire : wire_of (get_or lits i d) ≡ wire
    was_wire =
        let here : slice_get lits i ≡ Some (get_or lits i d) = slice_get-get_or lits i d first-within in
        some_same (sym (ap (option_map wire_of) here) ∙ held lits first next c wire by i apart stands by_stands front)

    pub AreChained-moved : (after_i head : Option ℕ) → after_i ≡ get_or next i None → head ≡ get_or (set first wire after_i) to None →
        AreChained (set lits i l) (set (set first wire after_i) to (Some i)) (set next i head)
    AreChained-moved after_i head after_is head_is =
        let head_was : head ≡ get_or first (wire_of by) None = head_is ∙ ap (λ (t : ℕ). get_or (set first wire after_i) t None) to_is ∙ get_or-set_other first wire (wire_of by) after_i None apart in
        rw (head_was, after_is, to_is) (AreChained-after lits first next c wire by i apart stands by_stands front l l_wire)

    pub replaced-moved : map (replaced_lit wire by) (set lits i l) ≡ map (replaced_lit wire by) lits
    replaced-moved = map-set_same (replaced_lit wire by) lits i l d (ap (replaced_lit wire by) l_is ∙ replaced_lit-moved wire by (get_or lits i d) apart was_wire)

    pub fewer-moved : length (filter (λ (m : Lit). eqb (wire_of m) wire) (set lits i l)) < length (filter (λ (m : Lit). eqb (wire_of m) wire) lits)
    fewer-moved =
        length-filter-set (λ (m : Lit). eqb (wire_of m) wire) lits i l d first-within (eq-eqb (wire_of (get_or lits i d)) wire was_wire) (differs (eqb (wire_of l) wire) refl)
      where
        differs : (b : Bool) → eqb (wire_of l) wire ≡ b → b ≡ false
        differs true e = absurd (apart (sym l_wire ∙ eqb-true (wire_of l) wire e))
        differs false e = refl

-- a wire with no first output
pub none-left : (lits : List Lit) (first next : List (Option ℕ)) → AreChained lits first next → (wire : ℕ) (by : Lit) → wire < length first → get_or first wire None ≡ None → map (replaced_lit wire by) lits ≡ lits
none-left lits first next c wire by within none = replaced-none wire by lits (λ i e. empty (c.chain wire within).places (subst (λ (o : Option ℕ). IsPath next o (c.chain wire within).places) none (c.chain wire within).path) i ((c.chain wire within).all i e))
  where
    empty : (places : List ℕ) → IsPath next None places → (i : ℕ) → Contains places i → ⊥
    empty [] path i p = omega (arith, p.1)
    empty (x ∷ xs) path i p = absurd path

-- the steps of a move as the code reads and writes them
module _ (lits : List Lit) (first next : List (Option ℕ)) (c : AreChained lits first next) (wire to : ℕ) (by : Lit) (i : ℕ) (stands : wire < length first) (apart : wire_of by ≢ wire) (by_stands : wire_of by < length first)
    (to_is : to ≡ wire_of by) (found : Option ℕ) (found_is : found ≡ get_or first wire found) (some : found ≡ Some i) where
  front : get_or first wire None ≡ Some i
  front = sym (read first wire None found stands found_is) ∙ some

  pub step-within : i < length lits
  step-within = first-within lits first next c wire to by i stands apart by_stands front to_is

  module _ (d l : Lit) (d_is : d ≡ get_or lits i d) (l_is : l ≡ moved by d) where
    pub step-chained : (following head : Option ℕ) → following ≡ get_or next i following → head ≡ get_or (set first wire following) to head →
        AreChained (set lits i l) (set (set first wire following) to (Some i)) (set next i head)
    step-chained following head following_is head_is =
        AreChained-moved lits first next c wire to by i stands apart by_stands front to_is d l (l_is ∙ ap (moved by) d_is) following head
        (read next i None following (omega (arith, step-within, c.one_for_each)) following_is)
        (read (set first wire following) to None head (omega (arith, length-set first wire following, to_is)) head_is)

    pub step-lits : map (replaced_lit wire by) (set lits i l) ≡ map (replaced_lit wire by) lits
    step-lits = replaced-moved lits first next c wire to by i stands apart by_stands front to_is d l (l_is ∙ ap (moved by) d_is)

    pub step-fewer : length (filter (λ (m : Lit). eqb (wire_of m) wire) (set lits i l)) < length (filter (λ (m : Lit). eqb (wire_of m) wire) lits)
    step-fewer = fewer-moved lits first next c wire to by i stands apart by_stands front to_is d l (l_is ∙ ap (moved by) d_is)

-- where nothing is found
pub step-none : (lits : List Lit) (first next : List (Option ℕ)) → AreChained lits first next → (wire : ℕ) (by : Lit) → wire < length first → (found : Option ℕ) → found ≡ get_or first wire found → found ≡ None → map (replaced_lit wire by) lits ≡ lits
step-none lits first next c wire by stands found found_is none = none-left lits first next c wire by stands (sym (read first wire None found stands found_is) ∙ none)

-- all outputs of a list
pub AreChained-all : (items lits : List Lit) (first next : List (Option ℕ)) (i : ℕ) → items ≡ lits → length items ≤ i → AreChained (take i items) first next → AreChained lits first next
AreChained-all items lits first next i same past c = subst (λ (ls : List Lit). AreChained ls first next) (take_all i items past ∙ same) c

-- the wire of an output that stands
pub low-wire : (items lits : List Lit) (wires i : ℕ) (d : Lit) (wire : ℕ) {known : ℕ} → items ≡ lits → i < length items → All (λ l. wire_of l < wires) lits → wire ≡ wire_of (get_or items i d) → known ≡ wires → wire < known
low-wire items lits wires i d wire same h low is known_is =
    let here : wire_of (get_or lits i d) < wires = low i d (omega (arith, ap length same)) in
    omega (arith, here, is, known_is, ap (λ (ls : List Lit). wire_of (get_or ls i d)) same)
