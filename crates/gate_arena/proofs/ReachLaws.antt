-- The order of a walk has exactly the places of the gates that reach an output, each once.
use Rattle.std.proofs.Common.{◌≡◌, ◌≢◌, ◌⊎◌, inl, inr, ℕ, zero, suc, ◌+◌, ◌<◌, List, [], ◌∷◌, Some, length, get_or, take, slice_get, refl, sym, ap, ◌∙◌, subst, arith}
use Rattle.std.specs.List.{Contains}
use Rattle.std.proofs.lemmas.Option.{slice_get_within}
use Rattle.gate_net.specs.declared.literal.Lit.{Lit}
use Rattle.gate_net.specs.declared.literal.Gate.{Gate}
use Rattle.gate_net.specs.Literal.{wire_of}
use Rattle.gate_net.specs.Circuit.{Circuit}
use Rattle.gate_arena.specs.Inside.{AreOnce}
use Rattle.gate_arena.specs.Order.{IsDone, IsWalk, Visits, VisitsAll, done, fresh}
use Rattle.gate_arena.specs.Paths.{DependsOn, IsAcyclic, IsReachedOrder, ReachesOutput, itself, through}
use Rattle.gate_arena.specs.Wiring.{left_of, right_of}
use Rattle.gate_arena.proofs.NetLaws.{IsClosed, IsClosed-walk}
use Rattle.gate_arena.proofs.PathLaws.{no_cycle}
use Rattle.gate_arena.proofs.WalkLaws.{AreOnce-push, IsDone-more, get_or-any, visits-done, visits-keeps, visits-new}

module _ (n : Circuit) where
  -- ---- visits to several wires

  visits_all-keeps : (ls : List Lit) (before after : List ℕ) → VisitsAll n before ls after → (k : ℕ) → Contains before k → Contains after k
  visits_all-keeps [] before after e k c = subst (λ (xs : List ℕ). Contains xs k) (sym e) c
  visits_all-keeps (l ∷ ls) before after (middle, v, rest) k c = visits_all-keeps ls middle after rest k (visits-keeps n before (wire_of l) middle v k c)

  pub visits_all-done : (ls : List Lit) (before after : List ℕ) → VisitsAll n before ls after → (l : Lit) → Contains ls l → IsDone n after (wire_of l)
  visits_all-done [] before after e l (k, h, is) = absurd (omega arith)
  visits_all-done (x ∷ ls) before after (middle, v, rest) l (zero, h, is) =
      IsDone-more n middle after (wire_of l) (visits_all-keeps ls middle after rest) (subst (λ (y : Lit). IsDone n middle (wire_of y)) is (visits-done n before (wire_of x) middle v))
  visits_all-done (x ∷ ls) before after (middle, v, rest) l (suc k, h, is) = visits_all-done ls middle after rest l (k, omega arith, is)

  visits_all-new : (ls : List Lit) (before after : List ℕ) → VisitsAll n before ls after → (k : ℕ) → Contains after k → Contains before k ⊎ ((l : Lit) × Contains ls l × DependsOn n (1 + n.ins + k) (wire_of l))
  visits_all-new [] before after e k c = inl (subst (λ (xs : List ℕ). Contains xs k) e c)
  visits_all-new (x ∷ ls) before after (middle, v, rest) k c = elim (visits_all-new ls middle after rest k c) [
    | inr later ↦ inr (later.0, (suc later.1.0, omega (arith, later.1.1), later.1.2), later.2)
    | inl in_middle ↦ elim (visits-new n before (wire_of x) middle v k in_middle) [
      | inl old ↦ inl old
      | inr below ↦ inr (x, (0, omega arith, refl), below)
    ]
  ]

  -- ---- each place comes once

  visits-once : IsAcyclic n → (before : List ℕ) (wire : ℕ) (after : List ℕ) → Visits n before wire after → AreOnce before → AreOnce after
  visits-once acyclic _ _ _ (done before wire after is e) once = subst AreOnce (sym e) once
  visits-once acyclic _ _ _ (fresh before wire after place gate middle last here stands free left right e) once =
      let first = visits-once acyclic before (wire_of (left_of gate)) middle left once in
      let second = visits-once acyclic middle (wire_of (right_of gate)) last right first in
      let cycle_left : DependsOn n (1 + n.ins + place) (wire_of (left_of gate)) → ⊥ = λ d.
      no_cycle n wire (acyclic wire) (wire_of (left_of gate)) (record { place = place; gate = gate; here = here; stands = stands; takes = inl refl }) (subst (λ (w : ℕ). DependsOn n w (wire_of (left_of gate))) (sym here) d) in
      let cycle_right : DependsOn n (1 + n.ins + place) (wire_of (right_of gate)) → ⊥ = λ d.
      no_cycle n wire (acyclic wire) (wire_of (right_of gate)) (record { place = place; gate = gate; here = here; stands = stands; takes = inr refl }) (subst (λ (w : ℕ). DependsOn n w (wire_of (right_of gate))) (sym here) d) in
      let absent : Contains last place → ⊥ = λ c. elim (visits-new n middle (wire_of (right_of gate)) last right place c) [
        | inr below ↦ cycle_right below
        | inl in_middle ↦ elim (visits-new n before (wire_of (left_of gate)) middle left place in_middle) [
          | inr below ↦ cycle_left below
          | inl old ↦ free old
        ]
      ] in
      subst AreOnce (sym e) (AreOnce-push last place second absent)

  pub visits_all-once : IsAcyclic n → (ls : List Lit) (before after : List ℕ) → VisitsAll n before ls after → AreOnce before → AreOnce after
  visits_all-once acyclic [] before after e once = subst AreOnce (sym e) once
  visits_all-once acyclic (l ∷ ls) before after (middle, v, rest) once = visits_all-once acyclic ls middle after rest (visits-once acyclic before (wire_of l) middle v once)

  -- ---- what a wire that has been ended depends on has been ended

  take-contains : (i : ℕ) (xs : List ℕ) (k : ℕ) → Contains (take i xs) k → Contains xs k
  take-contains zero xs k (j, h, e) = absurd (omega arith)
  take-contains (suc i) [] k (j, h, e) = absurd (omega arith)
  take-contains (suc i) (x ∷ xs) k (zero, h, e) = (0, omega arith, e)
  take-contains (suc i) (x ∷ xs) k (suc j, h, e) = let r = take-contains i xs k (j, omega arith, e) in (suc r.0, omega (arith, r.1), r.2)

  same_gate : {g h : Gate} {o p : _} → o ≡ Some g → p ≡ Some h → o ≡ p → g ≡ h
  same_gate a b c = cc

  pub done-below : (order : List ℕ) → IsClosed n order → (v wire : ℕ) → DependsOn n v wire → IsDone n order wire → IsDone n order v
  done-below order closed v _ (itself wire e) is = subst (IsDone n order) e is
  done-below order closed v _ (through wire x t d) (inl low) = absurd (omega (arith, t.here))
  done-below order closed v _ (through wire x t d) (inr (k, here, c)) =
      let at = closed.each c.0 c.1 in
      let there : get_or order c.0 0 ≡ t.place = get_or-any order c.0 0 k c.1 ∙ c.2 ∙ place_same in
      let gates : at.gate ≡ t.gate = same_gate at.stands t.stands (ap (slice_get n.gates) there) in
      done-below order closed v x d (input (subst (λ (g : Gate). IsDone n (take c.0 order) (wire_of (left_of g))) gates at.left) (subst (λ (g : Gate). IsDone n (take c.0 order) (wire_of (right_of g))) gates at.right) t.takes)
    where
      place_same : k ≡ t.place
      place_same = omega (arith, here, t.here)

      input : IsDone n (take c.0 order) (wire_of (left_of t.gate)) → IsDone n (take c.0 order) (wire_of (right_of t.gate)) → (wire_of (left_of t.gate) ≡ x) ⊎ (wire_of (right_of t.gate) ≡ x) → IsDone n order x
      input l r (inl e) = subst (IsDone n order) e (IsDone-more n (take c.0 order) order (wire_of (left_of t.gate)) (take-contains c.0 order) l)
      input l r (inr e) = subst (IsDone n order) e (IsDone-more n (take c.0 order) order (wire_of (right_of t.gate)) (take-contains c.0 order) r)

-- no two places are one
once-places : (xs : List ℕ) → AreOnce xs → (i j : ℕ) → i < j → j < length xs → get_or xs i 0 ≢ get_or xs j 0
once-places [] once i j less within e = omega arith
once-places (x ∷ xs) once zero zero less within e = omega arith
once-places (x ∷ xs) once zero (suc j) less within e = once.0 (j, omega arith, get_or-any xs j x 0 (omega arith) ∙ sym e)
once-places (x ∷ xs) once (suc i) zero less within e = omega arith
once-places (x ∷ xs) once (suc i) (suc j) less within e = once-places xs once.1 i j (omega arith) (omega arith) e

pub IsReachedOrder-walk : (n : Circuit) (order : List ℕ) → IsAcyclic n → IsWalk n order → IsReachedOrder n order
IsReachedOrder-walk n order acyclic walk =
    let closed = IsClosed-walk n order walk in
    record {
      all = λ place reach within. gate_done place (done-below n order closed (1 + n.ins + place) (wire_of reach.out) reach.depends (visits_all-done n n.outs [] order walk reach.out reach.among));
      only = λ place c. (low place c, reached place (visits_all-new n n.outs [] order walk place c));
      once = once-places order (visits_all-once n acyclic n.outs [] order walk tt);
    }
  where
    gate_done : (place : ℕ) → IsDone n order (1 + n.ins + place) → Contains order place
    gate_done place (inl small) = absurd (omega arith)
    gate_done place (inr (k, here, c)) = let same : k ≡ place = omega arith in subst (Contains order) same c

    low : (place : ℕ) → Contains order place → place < length n.gates
    low place c =
        let closed = IsClosed-walk n order walk in
        let at = closed.each c.0 c.1 in
        let there : get_or order c.0 0 ≡ place = get_or-any order c.0 0 place c.1 ∙ c.2 in
        slice_get_within n.gates place at.gate (subst (λ (k : ℕ). slice_get n.gates k ≡ Some at.gate) there at.stands)

    reached : (place : ℕ) → Contains [] place ⊎ ((l : Lit) × Contains n.outs l × DependsOn n (1 + n.ins + place) (wire_of l)) → ReachesOutput n (1 + n.ins + place)
    reached place (inl c) = absurd (omega (arith, c.1))
    reached place (inr found) = record { out = found.0; among = found.1; depends = found.2 }
