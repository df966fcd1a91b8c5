-- Laws of levels: each wire has one at most, and what calls make of them.
use Rattle.std.proofs.Common.{◌≡◌, ◌≢◌, inl, inr, ℕ, ◌≤◌, Some, slice_get, refl, sym, ap, ◌∙◌, subst, arith}
use Rattle.std.proofs.lemmas.Bool.{cases_eq}
use Rattle.std.proofs.lemmas.Option.{slice_get_within, slice_get-map}
use Rattle.std.specs.Prelude.{option_map}
use Rattle.gate_net.specs.declared.literal.Lit.{Lit}
use Rattle.gate_net.specs.declared.literal.Gate.{Gate}
use Rattle.gate_net.specs.declared.literal.Gate.TheVariants.{And, Xor}
use Rattle.gate_net.specs.Literal.{wire_of}
use Rattle.gate_net.specs.Circuit.{Circuit, with_gate}
use Rattle.gate_arena.specs.Change.{replaced, replaced_gate}
use Rattle.gate_arena.specs.Levels.{HasLevel, inner, level_of_gate, outer}
use Rattle.gate_arena.specs.Paths.{DependsOn, Takes, itself, through}
use Rattle.gate_arena.specs.Wiring.{left_of, right_of}
use Rattle.gate_arena.proofs.MirrorLaws.{replaced_lit-here, replaced_lit-other, slice_get-left, wire_of-moved}
use Rattle.gate_arena.proofs.PathLaws.{left_of-replaced, right_of-replaced}

same_gate : {g h : Gate} → Some g ≡ Some h → g ≡ h
same_gate e = cc

gate-levels : (g : Gate) (a b c d : ℕ) → a ≡ c → b ≡ d → level_of_gate g a b ≡ level_of_gate g c d
gate-levels g a b c d p q = ap (λ (x : ℕ). level_of_gate g x b) p ∙ ap (λ (y : ℕ). level_of_gate g c y) q

-- a wire has one level at most
pub HasLevel-one : (n : Circuit) (wire c d : ℕ) → HasLevel n wire c → HasLevel n wire d → c ≡ d
HasLevel-one n _ c d (outer wire _ low e) (outer _ _ low2 f) = e ∙ sym f
HasLevel-one n _ c d (outer wire _ low e) (inner _ _ place gate l r here s left right f) = absurd (omega (arith, low, here))
HasLevel-one n _ c d (inner wire _ place gate l r here s left right e) (outer _ _ low f) = absurd (omega (arith, low, here))
HasLevel-one n _ c d (inner wire _ place gate l r here s left right e) (inner _ _ place2 gate2 l2 r2 here2 s2 left2 right2 f) =
    let places : place ≡ place2 = omega (arith, here, here2) in
    let gates : gate2 ≡ gate = same_gate (sym s2 ∙ ap (slice_get n.gates) (sym places) ∙ s) in
    let lefts : l ≡ l2 = HasLevel-one n (wire_of (left_of gate)) l l2 left (subst (λ (g : Gate). HasLevel n (wire_of (left_of g)) l2) gates left2) in
    let rights : r ≡ r2 = HasLevel-one n (wire_of (right_of gate)) r r2 right (subst (λ (g : Gate). HasLevel n (wire_of (right_of g)) r2) gates right2) in
    e ∙ gate-levels gate l r l2 r2 lefts rights ∙ ap (λ (g : Gate). level_of_gate g l2 r2) (sym gates) ∙ sym f

-- a gate more keeps the levels
pub HasLevel-with_gate : (n : Circuit) (g : Gate) (wire d : ℕ) → HasLevel n wire d → HasLevel (with_gate n g) wire d
HasLevel-with_gate n g _ _ (outer wire d low e) = outer wire d low e
HasLevel-with_gate n g _ _ (inner wire d place gate l r here s left right e) =
    inner wire d place gate l r here (slice_get-left n.gates g place (slice_get_within n.gates place gate s) ∙ s)
    (HasLevel-with_gate n g (wire_of (left_of gate)) l left) (HasLevel-with_gate n g (wire_of (right_of gate)) r right) e

-- ---- a replacement by a literal of no greater level raises no level

level-kind : (v : ℕ) (by : Lit) (g : Gate) (a b : ℕ) → level_of_gate (replaced_gate v by g) a b ≡ level_of_gate g a b
level-kind v by (And x y) a b = refl
level-kind v by (Xor x y) a b = refl

level-rises : (g : Gate) (a b c d : ℕ) → a ≤ c → b ≤ d → level_of_gate g a b ≤ level_of_gate g c d
level-rises (And x y) a b c d p q = omega (arith, p, q)
level-rises (Xor x y) a b c d p q = omega (arith, p, q)

module _ (n : Circuit) (v : ℕ) (by : Lit) where
  stands-replaced : (place : ℕ) (gate : Gate) → slice_get n.gates place ≡ Some gate → slice_get (replaced v by n).gates place ≡ Some (replaced_gate v by gate)
  stands-replaced place gate s = slice_get-map (replaced_gate v by) n.gates place ∙ ap (option_map (replaced_gate v by)) s

  left-wire : (g : Gate) → (wire_of (left_of g) ≢ v) → wire_of (left_of (replaced_gate v by g)) ≡ wire_of (left_of g)
  left-wire g away = ap wire_of (left_of-replaced v by g ∙ replaced_lit-other v by (left_of g) away)

  right-wire : (g : Gate) → (wire_of (right_of g) ≢ v) → wire_of (right_of (replaced_gate v by g)) ≡ wire_of (right_of g)
  right-wire g away = ap wire_of (right_of-replaced v by g ∙ replaced_lit-other v by (right_of g) away)

  left-by : (g : Gate) → (wire_of (left_of g) ≡ v) → wire_of (left_of (replaced_gate v by g)) ≡ wire_of by
  left-by g here = ap wire_of (left_of-replaced v by g ∙ replaced_lit-here v by (left_of g) here) ∙ wire_of-moved by (left_of g)

  right-by : (g : Gate) → (wire_of (right_of g) ≡ v) → wire_of (right_of (replaced_gate v by g)) ≡ wire_of by
  right-by g here = ap wire_of (right_of-replaced v by g ∙ replaced_lit-here v by (right_of g) here) ∙ wire_of-moved by (right_of g)

  -- what does not depend on the wire keeps its level
  free-level : (wire d : ℕ) → HasLevel n wire d → ¬ DependsOn n v wire → HasLevel (replaced v by n) wire d
  free-level _ _ (outer wire d low e) free = outer wire d low e
  free-level _ _ (inner wire d place gate l r here s left right e) free =
      let take_left : Takes n wire (wire_of (left_of gate)) = record { place = place; gate = gate; here = here; stands = s; takes = inl refl } in
      let take_right : Takes n wire (wire_of (right_of gate)) = record { place = place; gate = gate; here = here; stands = s; takes = inr refl } in
      let free_left : ¬ DependsOn n v (wire_of (left_of gate)) = λ dep. free (through wire (wire_of (left_of gate)) take_left dep) in
      let free_right : ¬ DependsOn n v (wire_of (right_of gate)) = λ dep. free (through wire (wire_of (right_of gate)) take_right dep) in
      let new_left = free-level (wire_of (left_of gate)) l left free_left in
      let new_right = free-level (wire_of (right_of gate)) r right free_right in
      inner wire d place (replaced_gate v by gate) l r here (stands-replaced place gate s)
      (subst (λ (w : ℕ). HasLevel (replaced v by n) w l) (sym (left-wire gate (λ same. free_left (itself (wire_of (left_of gate)) same)))) new_left)
      (subst (λ (w : ℕ). HasLevel (replaced v by n) w r) (sym (right-wire gate (λ same. free_right (itself (wire_of (right_of gate)) same)))) new_right)
      (e ∙ sym (level-kind v by gate l r))

  pub HasLevel-replaced : (x y : ℕ) → HasLevel n v x → HasLevel n (wire_of by) y → y ≤ x → ¬ DependsOn n v (wire_of by) → (wire d : ℕ) → HasLevel n wire d → (c : ℕ) × (c ≤ d) × HasLevel (replaced v by n) wire c
  HasLevel-replaced x y of_v of_by le free _ _ (outer wire d low e) = (d, omega arith, outer wire d low e)
  HasLevel-replaced x y of_v of_by le free _ _ (inner wire d place gate l r here s left right e) =
      let new_left = input (wire_of (left_of gate)) l left (wire_of (left_of (replaced_gate v by gate))) (left-wire gate) (left-by gate) (HasLevel-replaced x y of_v of_by le free (wire_of (left_of gate)) l left) in
      let new_right = input (wire_of (right_of gate)) r right (wire_of (right_of (replaced_gate v by gate))) (right-wire gate) (right-by gate) (HasLevel-replaced x y of_v of_by le free (wire_of (right_of gate)) r right) in (
        level_of_gate gate new_left.0 new_right.0,
        omega (arith, e, level-rises gate new_left.0 new_right.0 l r new_left.1 new_right.1),
        inner wire (level_of_gate gate new_left.0 new_right.0) place (replaced_gate v by gate) new_left.0 new_right.0 here (stands-replaced place gate s) new_left.2 new_right.2 (sym (level-kind v by gate new_left.0 new_right.0)),
      )
    where
      input : (w k : ℕ) → HasLevel n w k → (u : ℕ) → (w ≢ v → u ≡ w) → (w ≡ v → u ≡ wire_of by) → (c : ℕ) × (c ≤ k) × HasLevel (replaced v by n) w c → (c : ℕ) × (c ≤ k) × HasLevel (replaced v by n) u c
      input w k level u kept given rest = elim (cases_eq w v) [
        | inl same ↦
            let levels : k ≡ x = HasLevel-one n v k x (subst (λ (z : ℕ). HasLevel n z k) same level) of_v in
            (y, omega (arith, le, levels), subst (λ (z : ℕ). HasLevel (replaced v by n) z y) (sym (given same)) (free-level (wire_of by) y of_by free))
        | inr away ↦ (rest.0, rest.1, subst (λ (z : ℕ). HasLevel (replaced v by n) z rest.0) (sym (kept away)) rest.2)
      ]
