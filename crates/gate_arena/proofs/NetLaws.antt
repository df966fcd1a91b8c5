-- Laws of the net in the order of the walk: it is a circuit, and its outputs have their values.
use Rattle.std.proofs.Common.{◌≡◌, ◌≢◌, inl, inr, ℕ, zero, suc, ◌+◌, ◌-◌, ◌*◌, ◌/◌, ◌%◌, ◌<◌, ◌≤◌, max, Bool, true, false, not, ◌&&◌, cond, eqb, List, [], ◌∷◌, ◌++◌, Option, Some, Result, Ok, Err, get_or, take, length, map, slice_get, refl, sym, ap, ◌∙◌, subst, arith, add-one, add-zero}
use Rattle.std.specs.Prelude.{nat_le, nat_lt, unwrap_or}
use Rattle.std.specs.Result.{IfOk}
use Rattle.std.specs.List.{Contains}
use Rattle.std.proofs.lemmas.Bool.{cases_eq, le-leb, leb-true}
use Rattle.std.proofs.lemmas.Option.{slice_get-get_or, get_or_from_slice_get}
use Rattle.std.proofs.lemmas.List.{get_or_append_left, get_or_push, get_or-map, get_or-take, length_push, length-map, length-take-le, take_all, take_more, take-append-le}
use Rattle.gate_net.specs.declared.literal.Lit.{Lit}
use Rattle.gate_net.specs.declared.literal.Gate.{Gate}
use Rattle.gate_net.specs.declared.literal.Gate.TheVariants.{And, Xor}
use Rattle.gate_net.specs.Literal.{and_gate, plain_xor_gate, wire_of}
use Rattle.gate_net.specs.Circuit.{Circuit}
use Rattle.gate_net.specs.Meaning.{as_bits, value, wires, xor}
use Rattle.hy_links.specs.Arena.{max_nodes}
use Rattle.gate_net.specs.Shape.{AreOrdered, IsCircuit, UsesBelow, variable_limit}
use Rattle.gate_net.proofs.MeaningLaws.{get_or-wires-zero}
use Rattle.gate_arena.specs.Wiring.{left_of, right_of}
use Rattle.gate_arena.specs.Values.{Carries, HasValue, KeepsOutputs, bit_of, bit_of_gate, constant, given, made}
use Rattle.gate_arena.specs.Order.{IsDone, IsWalk, Visits, VisitsAll, done, fresh, new_gate, new_gate_at, new_lit, new_wire, ordered_net}
use Rattle.gate_arena.specs.Inside.{AreOnce, IsAtRest, Walked, number_of}
use Rattle.gate_arena.proofs.ValueLaws.{bit_of-twice, gate-bit, input-bit, value-bit}
use Rattle.gate_arena.proofs.WalkLaws.{IsDone-more, get_or-any, number_of-at, once-short, push-cases, visits-done, visits-keeps}

-- ---- the order of a walk

-- the inputs of the gate at a place of the order have been ended before it
pub record IsClosedAt (n : Circuit) (order : List ℕ) (i : ℕ) : Type 0 where
  pub gate : Gate
  pub stands : slice_get n.gates (get_or order i 0) ≡ Some gate
  pub left : IsDone n (take i order) (wire_of (left_of gate))
  pub right : IsDone n (take i order) (wire_of (right_of gate))

pub record IsClosed (n : Circuit) (order : List ℕ) : Type 0 where
  pub each : (i : ℕ) → i < length order → IsClosedAt n order i

module _ (n : Circuit) where
  closed-push : (order : List ℕ) (place : ℕ) (gate : Gate) → IsClosed n order → slice_get n.gates place ≡ Some gate → IsDone n order (wire_of (left_of gate)) → IsDone n order (wire_of (right_of gate)) → IsClosed n (order ++ place ∷ [])
  closed-push order place gate closed stands left right = record {
    each = λ i h. elim (cases_eq i (length order)) [
      | inl last ↦
          let there : get_or (order ++ place ∷ []) i 0 ≡ place = get_or_push order place 0 i (sym last) in
          let before : take i (order ++ place ∷ []) ≡ order = take-append-le i order (place ∷ []) (omega arith) ∙ take_all i order (omega arith) in
          record { gate = gate; stands = ap (slice_get n.gates) there ∙ stands; left = subst (λ (xs : List ℕ). IsDone n xs (wire_of (left_of gate))) (sym before) left; right = subst (λ (xs : List ℕ). IsDone n xs (wire_of (right_of gate))) (sym before) right }
      | inr apart ↦
          let inside : i < length order = omega (arith, h, length_push order place) in
          let old = closed.each i inside in
          let there : get_or (order ++ place ∷ []) i 0 ≡ get_or order i 0 = get_or_append_left order (place ∷ []) 0 i inside in
          let before : take i (order ++ place ∷ []) ≡ take i order = take-append-le i order (place ∷ []) (omega arith) in
          record {
            gate = old.gate;
            stands = ap (slice_get n.gates) there ∙ old.stands;
            left = subst (λ (xs : List ℕ). IsDone n xs (wire_of (left_of old.gate))) (sym before) old.left;
            right = subst (λ (xs : List ℕ). IsDone n xs (wire_of (right_of old.gate))) (sym before) old.right;
          }
    ];
  }

  closed-visits : (before : List ℕ) (wire : ℕ) (after : List ℕ) → Visits n before wire after → IsClosed n before → IsClosed n after
  closed-visits _ _ _ (done before wire after is e) closed = subst (IsClosed n) (sym e) closed
  closed-visits _ _ _ (fresh before wire after place gate middle last here stands free left right e) closed =
      let closed_last = closed-visits middle (wire_of (right_of gate)) last right (closed-visits before (wire_of (left_of gate)) middle left closed) in
      let left_done = IsDone-more n middle last (wire_of (left_of gate)) (visits-keeps n middle (wire_of (right_of gate)) last right) (visits-done n before (wire_of (left_of gate)) middle left) in
      subst (IsClosed n) (sym e) (closed-push last place gate closed_last stands left_done (visits-done n middle (wire_of (right_of gate)) last right))

  closed-all : (ls : List Lit) (before after : List ℕ) → VisitsAll n before ls after → IsClosed n before → IsClosed n after
  closed-all [] before after e closed = subst (IsClosed n) (sym e) closed
  closed-all (l ∷ ls) before after (middle, v, rest) closed = closed-all ls middle after rest (closed-visits before (wire_of l) middle v closed)

  keeps-all : (ls : List Lit) (before after : List ℕ) → VisitsAll n before ls after → (k : ℕ) → Contains before k → Contains after k
  keeps-all [] before after e k c = subst (λ (xs : List ℕ). Contains xs k) (sym e) c
  keeps-all (l ∷ ls) before after (middle, v, rest) k c = keeps-all ls middle after rest k (visits-keeps n before (wire_of l) middle v k c)

  -- the wires of all outputs are done
  done-all : (ls : List Lit) (before after : List ℕ) → VisitsAll n before ls after → (i : ℕ) (d : Lit) → i < length ls → IsDone n after (wire_of (get_or ls i d))
  done-all [] before after e i d h = absurd (omega arith)
  done-all (l ∷ ls) before after (middle, v, rest) zero d h = IsDone-more n middle after (wire_of l) (keeps-all ls middle after rest) (visits-done n before (wire_of l) middle v)
  done-all (l ∷ ls) before after (middle, v, rest) (suc i) d h = done-all ls middle after rest i d (omega arith)

-- ---- new numbers

once-apart : (xs : List ℕ) (j i : ℕ) → AreOnce xs → j < i → i < length xs → get_or xs j 0 ≢ get_or xs i 0
once-apart [] j i once less h e = absurd (omega arith)
once-apart (x ∷ xs) zero zero once less h e = absurd (omega arith)
once-apart (x ∷ xs) zero (suc i) once less h e = once.0 (i, omega arith, get_or-any xs i x 0 (omega arith) ∙ sym e)
once-apart (x ∷ xs) (suc j) zero once less h e = absurd (omega arith)
once-apart (x ∷ xs) (suc j) (suc i) once less h e = once-apart xs j i once.1 (omega arith) (omega arith) e

and_gate-uses : (wires : ℕ) (a b : Lit) → a.code < 2 * wires → b.code < 2 * wires → UsesBelow wires (and_gate a b)
and_gate-uses wires a b h g = on (nat_lt a.code b.code)
  where
    on : (less : Bool) → UsesBelow wires (cond less (And a b) (And b a))
    on true = (h, g)
    on false = (g, h)

xor_gate-uses : (wires : ℕ) (a b : Lit) → a.code < 2 * wires → b.code < 2 * wires → UsesBelow wires (plain_xor_gate a b)
xor_gate-uses wires a b h g = on (nat_lt a.code b.code)
  where
    on : (less : Bool) → UsesBelow wires (cond less (Xor a b) (Xor b a))
    on true = (h, g)
    on false = (g, h)

AreOrdered-by : (w : ℕ) (gs : List Gate) → ((i : ℕ) → i < length gs → UsesBelow (w + i) (get_or gs i (And (record { code = 0 }) (record { code = 0 })))) → AreOrdered w gs
AreOrdered-by w [] each = tt
AreOrdered-by w (g ∷ gs) each = (
  subst (λ (v : ℕ). UsesBelow v g) (add-zero w) (each 0 (omega arith)),
  AreOrdered-by (suc w) gs (λ i h.
      let place : w + suc i ≡ suc w + i = omega arith in
      subst (λ (v : ℕ). UsesBelow v (get_or gs i (And (record { code = 0 }) (record { code = 0 })))) place (each (suc i) (omega arith))),
)

module _ (n : Circuit) (order : List ℕ) (closed : IsClosed n order) (once : AreOnce order) where
  -- the wires of the constant and of inputs stay
  pub new_wire-low : (w : ℕ) → w ≤ n.ins → new_wire n order w ≡ w
  new_wire-low w h = rw (le-leb w n.ins h) refl

  -- a gate's wire is that of its place
  pub new_wire-gate : (i k : ℕ) → i < length order → get_or order i 0 ≡ k → new_wire n order (1 + n.ins + k) ≡ 1 + n.ins + i
  new_wire-gate i k h here =
      let number : number_of order k ≡ Some i = number_of-at order k i h here (λ j less e. once-apart order j i once less h (e ∙ sym here)) in
      let place : 1 + n.ins + k - (1 + n.ins) ≡ k = omega arith in
      on (nat_le (1 + n.ins + k) n.ins) refl
      ∙ ap (λ (p : ℕ). 1 + n.ins + unwrap_or (number_of order p) 0) place
      ∙ ap (λ (o : Option ℕ). 1 + n.ins + unwrap_or o 0) number
    where
      on : (b : Bool) → nat_le (1 + n.ins + k) n.ins ≡ b → cond b (1 + n.ins + k) (1 + n.ins + unwrap_or (number_of order (1 + n.ins + k - (1 + n.ins))) 0) ≡ 1 + n.ins + unwrap_or (number_of order (1 + n.ins + k - (1 + n.ins))) 0
      on true e = absurd (omega (arith, leb-true (1 + n.ins + k) n.ins e))
      on false e = refl

  -- where a gate has been ended
  place-in : (i k : ℕ) → i ≤ length order → Contains (take i order) k → (j : ℕ) × (j < i) × (get_or order j 0 ≡ k)
  place-in i k h (j, less, here) =
      let low : j < i = omega (arith, less, length-take-le i order h) in
      (j, low, get_or-any order j 0 k (omega arith) ∙ sym (get_or-take i order j k low) ∙ here)

  -- the new wire of one that is done before a place is below the wire of that place
  new_wire-done : (i w : ℕ) → i ≤ length order → IsDone n (take i order) w → new_wire n order w < 1 + n.ins + i
  new_wire-done i w h (inl low) = omega (arith, new_wire-low w low)
  new_wire-done i w h (inr (k, here, c)) =
      let p = place-in i k h c in
      omega (arith, ap (new_wire n order) here ∙ new_wire-gate p.0 k (omega (arith, p.1)) p.2, p.1)

  pub wire-new : (l : Lit) → wire_of (new_lit n order l) ≡ new_wire n order (wire_of l)
  wire-new l = halved (new_wire n order (wire_of l)) (l.code % 2) (omega arith)
    where
      halved : (x p : ℕ) → p < 2 → (2 * x + p) / 2 ≡ x
      halved x p h = omega arith

  pub parity-new : (l : Lit) → (new_lit n order l).code % 2 ≡ l.code % 2
  parity-new l = left_over (new_wire n order (wire_of l)) (l.code % 2) (omega arith)
    where
      left_over : (x p : ℕ) → p < 2 → (2 * x + p) % 2 ≡ p
      left_over x p h = omega arith

  new_lit-done : (i : ℕ) (l : Lit) → i ≤ length order → IsDone n (take i order) (wire_of l) → (new_lit n order l).code < 2 * (1 + n.ins + i)
  new_lit-done i l h is = omega (arith, wire-new l, new_wire-done i (wire_of l) h is)

  -- the gate at a place of the order
  abbrev pub no_gate : Gate
  no_gate = And (record { code = 0 }) (record { code = 0 })

  new_gate-at : (i : ℕ) (h : i < length order) → new_gate_at n order (get_or order i 0) ≡ new_gate n order (closed.each i h).gate
  new_gate-at i h = ap (new_gate n order) (get_or_from_slice_get n.gates (get_or order i 0) (closed.each i h).gate no_gate (closed.each i h).stands)

  new_gate-uses : (i : ℕ) (g : Gate) → i ≤ length order → IsDone n (take i order) (wire_of (left_of g)) → IsDone n (take i order) (wire_of (right_of g)) → UsesBelow (1 + n.ins + i) (new_gate n order g)
  new_gate-uses i (And a b) h left right = and_gate-uses (1 + n.ins + i) (new_lit n order a) (new_lit n order b) (new_lit-done i a h left) (new_lit-done i b h right)
  new_gate-uses i (Xor a b) h left right = xor_gate-uses (1 + n.ins + i) (new_lit n order a) (new_lit n order b) (new_lit-done i a h left) (new_lit-done i b h right)

  pub long : length (map (new_gate_at n order) order) ≡ length order
  long = length-map order (new_gate_at n order)

  pub gate-there : (i : ℕ) (h : i < length order) → get_or (map (new_gate_at n order) order) i no_gate ≡ new_gate n order (closed.each i h).gate
  gate-there i h = get_or-map (new_gate_at n order) order i 0 no_gate h ∙ new_gate-at i h

  pub ordered : AreOrdered (1 + n.ins) (map (new_gate_at n order) order)
  ordered = AreOrdered-by (1 + n.ins) (map (new_gate_at n order) order) (λ i h.
      let inside : i < length order = omega (arith, h, long) in
      let c = closed.each i inside in
      subst (UsesBelow (1 + n.ins + i)) (sym (gate-there i inside)) (new_gate-uses i c.gate (omega arith) c.left c.right))

  module _ (walk : IsWalk n order) where
    out-done : (i : ℕ) (d : Lit) → i < length n.outs → IsDone n order (wire_of (get_or n.outs i d))
    out-done i d h = done-all n n.outs [] order walk i d h

    out-there : (i : ℕ) (d : Lit) → i < length n.outs → get_or (map (new_lit n order) n.outs) i d ≡ new_lit n order (get_or n.outs i d)
    out-there i d h = get_or-map (new_lit n order) n.outs i d d h

    whole : take (length order) order ≡ order
    whole = take_all (length order) order (omega arith)

    pub IsCircuit-ordered : n.ins ≤ variable_limit → n.budget ≤ variable_limit → length order ≤ variable_limit → IsCircuit (ordered_net n order)
    IsCircuit-ordered few low short = record {
      ordered = ordered;
      outs = λ i d h.
          let inside : i < length n.outs = omega (arith, h, length-map n.outs (new_lit n order)) in
          let is_done : IsDone n (take (length order) order) (wire_of (get_or n.outs i d)) = subst (λ (xs : List ℕ). IsDone n xs (wire_of (get_or n.outs i d))) (sym whole) (out-done i d inside) in
          omega (arith, ap (λ (l : Lit). l.code) (out-there i d inside), new_lit-done (length order) (get_or n.outs i d) (omega arith) is_done, long);
      gates = omega (arith, long);
      ins_limit = few;
      budget_limit = omega arith;
    }

    -- ---- values

    module _ (bits : List Bool) where
      abbrev net : Circuit
      net = ordered_net n order

      abbrev ws : List Bool
      ws = wires as_bits bits net

      -- the bit of a place
      abbrev lit_bit : Lit → Bool
      lit_bit l = bit_of l (get_or ws (wire_of l) false)

      lit_bit-new : (l : Lit) → lit_bit (new_lit n order l) ≡ bit_of l (get_or ws (new_wire n order (wire_of l)) false)
      lit_bit-new l =
          ap (λ (w : ℕ). bit_of (new_lit n order l) (get_or ws w false)) (wire-new l)
          ∙ ap (λ (p : ℕ). cond (eqb p 1) (not (get_or ws (new_wire n order (wire_of l)) false)) (get_or ws (new_wire n order (wire_of l)) false)) (parity-new l)

      -- the bit of a gate of the net
      abbrev of_gate : Gate → Bool
      of_gate g = bit_of_gate g (get_or ws (wire_of (left_of g)) false) (get_or ws (wire_of (right_of g)) false)

      -- a gate makes the same of its inputs in either order
      gate_bit-new : (g : Gate) →
          bit_of_gate (new_gate n order g) (get_or ws (wire_of (left_of (new_gate n order g))) false) (get_or ws (wire_of (right_of (new_gate n order g))) false)
          ≡ bit_of_gate g (get_or ws (new_wire n order (wire_of (left_of g))) false) (get_or ws (new_wire n order (wire_of (right_of g))) false)
      gate_bit-new (And a b) = on (nat_lt (new_lit n order a).code (new_lit n order b).code) ∙ ap (λ (x : Bool). x && lit_bit (new_lit n order b)) (lit_bit-new a) ∙ ap (λ (y : Bool). bit_of a (get_or ws (new_wire n order (wire_of a)) false) && y) (lit_bit-new b)
        where
          and-turned : (x y : Bool) → (y && x) ≡ (x && y)
          and-turned true true = refl
          and-turned true false = refl
          and-turned false true = refl
          and-turned false false = refl

          on : (less : Bool) → of_gate (cond less (And (new_lit n order a) (new_lit n order b)) (And (new_lit n order b) (new_lit n order a))) ≡ (lit_bit (new_lit n order a) && lit_bit (new_lit n order b))
          on true = refl
          on false = and-turned (lit_bit (new_lit n order a)) (lit_bit (new_lit n order b))
      gate_bit-new (Xor a b) = on (nat_lt (new_lit n order a).code (new_lit n order b).code) ∙ ap (λ (x : Bool). xor x (lit_bit (new_lit n order b))) (lit_bit-new a) ∙ ap (λ (y : Bool). xor (bit_of a (get_or ws (new_wire n order (wire_of a)) false)) y) (lit_bit-new b)
        where
          xor-turned : (x y : Bool) → xor y x ≡ xor x y
          xor-turned true true = refl
          xor-turned true false = refl
          xor-turned false true = refl
          xor-turned false false = refl

          on : (less : Bool) → of_gate (cond less (Xor (new_lit n order a) (new_lit n order b)) (Xor (new_lit n order b) (new_lit n order a))) ≡ xor (lit_bit (new_lit n order a)) (lit_bit (new_lit n order b))
          on true = refl
          on false = xor-turned (lit_bit (new_lit n order a)) (lit_bit (new_lit n order b))

      -- the constant and the inputs
      carries-low : (w : ℕ) → w ≤ n.ins → Carries n bits w (get_or ws (new_wire n order w) false)
      carries-low w h = subst (λ (v : ℕ). Carries n bits w (get_or ws v false)) (sym (new_wire-low w h)) (by w h)
        where
          by : (v : ℕ) → v ≤ n.ins → Carries n bits v (get_or ws v false)
          by zero g = constant 0 (get_or ws 0 false) refl (get_or-wires-zero as_bits bits net false)
          by (suc i) g =
              let here : suc i ≡ 1 + i = omega arith in
              given (suc i) (get_or ws (suc i) false) i (omega arith) here (ap (λ (v : ℕ). get_or ws v false) here ∙ input-bit net bits ordered i (omega arith))

      -- what has been ended carries in the net what it carries here
      carries-upto : (i : ℕ) → i ≤ length order → (w : ℕ) → IsDone n (take i order) w → Carries n bits w (get_or ws (new_wire n order w) false)
      carries-upto i h w (inl low) = carries-low w low
      carries-upto zero h w (inr (k, here, c)) = absurd (omega (arith, c.1, length-take-le 0 order (omega arith)))
      carries-upto (suc i) h w (inr (k, here, c)) = elim (push-cases (take i order) (get_or order i 0) k (subst (λ (xs : List ℕ). Contains xs k) next c)) [
        | inl earlier ↦ carries-upto i (omega arith) w (inr (k, here, earlier))
        | inr same ↦
            let inside : i < length order = omega arith in
            let at = closed.each i inside in
            let stands : slice_get n.gates k ≡ Some at.gate = ap (slice_get n.gates) same ∙ at.stands in
            let place : new_wire n order w ≡ 1 + n.ins + i = ap (new_wire n order) here ∙ new_wire-gate i k inside (sym same) in
            let there : slice_get net.gates i ≡ Some (new_gate n order at.gate) = slice_get-get_or net.gates i no_gate (omega (arith, long)) ∙ ap (λ (g : Gate). Some g) (gate-there i inside) in
            made w (get_or ws (new_wire n order w) false) k at.gate (get_or ws (new_wire n order (wire_of (left_of at.gate))) false) (get_or ws (new_wire n order (wire_of (right_of at.gate))) false) here stands
            (carries-upto i (omega arith) (wire_of (left_of at.gate)) at.left)
            (carries-upto i (omega arith) (wire_of (right_of at.gate)) at.right)
            (ap (λ (v : ℕ). get_or ws v false) place ∙ gate-bit net bits ordered i (new_gate n order at.gate) there ∙ gate_bit-new at.gate)
      ]
        where
          next : take (suc i) order ≡ take i order ++ get_or order i 0 ∷ []
          next = ap (λ (m : ℕ). take m order) (sym (add-one i)) ∙ take_more order i 0 (omega arith)

      value-new : (l : Lit) → IsDone n order (wire_of l) → HasValue n bits l (value net bits (new_lit n order l))
      value-new l is_done =
          let carried = carries-upto (length order) (omega arith) (wire_of l) (subst (λ (xs : List ℕ). IsDone n xs (wire_of l)) (sym whole) is_done) in
          let is : get_or ws (new_wire n order (wire_of l)) false ≡ bit_of l (value net bits (new_lit n order l)) =
          sym (bit_of-twice l (get_or ws (new_wire n order (wire_of l)) false)) ∙ ap (bit_of l) (sym (value-bit net bits ordered (new_lit n order l) ∙ lit_bit-new l)) in
          subst (Carries n bits (wire_of l)) is carried

    -- the outputs keep their values
    pub KeepsOutputs-ordered : KeepsOutputs n (ordered_net n order)
    KeepsOutputs-ordered bits i d h =
        subst (λ (l : Lit). HasValue n bits (get_or n.outs i d) (value (ordered_net n order) bits l)) (sym (out-there i d h)) (value-new bits (get_or n.outs i d) (out-done i d h))

-- ---- the parts of the net

pub IsClosed-walk : (n : Circuit) (order : List ℕ) → IsWalk n order → IsClosed n order
IsClosed-walk n order walk = closed-all n n.outs [] order walk (record { each = λ i h. absurd (omega arith) })

pub order-short : (n : Circuit) (w : Walked) → IsAtRest n w → length w.order ≤ length n.gates
order-short n w rest = once-short w.order (length n.gates) rest.order_once rest.order_low

pub made-net : (n : Circuit) (order : List ℕ) (ins : ℕ) (gates : List Gate) (outs : List Lit) (budget len : ℕ) → ins ≡ n.ins → gates ≡ map (new_gate_at n order) order → outs ≡ map (new_lit n order) n.outs → budget ≡ max n.budget len → len ≡ length gates →
    record { ins = ins; gates = gates; outs = outs; budget = budget } ≡ ordered_net n order
made-net n order ins gates outs budget len e f g h k =
    let same : len ≡ length order = k ∙ ap length f ∙ length-map order (new_gate_at n order) in
    ap (λ (i : ℕ). let m : Circuit = record { ins = i; gates = gates; outs = outs; budget = budget } in m) e
    ∙ ap (λ (gs : List Gate). let m : Circuit = record { ins = n.ins; gates = gs; outs = outs; budget = budget } in m) f
    ∙ ap (λ (ls : List Lit). let m : Circuit = record { ins = n.ins; gates = map (new_gate_at n order) order; outs = ls; budget = budget } in m) g
    ∙ ap (λ (b : ℕ). let m : Circuit = record { ins = n.ins; gates = map (new_gate_at n order) order; outs = map (new_lit n order) n.outs; budget = b } in m) (h ∙ ap (max n.budget) same)

-- where it was made of what the walk gave
module _ (n : Circuit) (w : Walked) (walk : IsWalk n w.order) (rest : IsAtRest n w) (limits : (n.ins ≤ variable_limit) × (n.budget ≤ variable_limit) × (length n.gates ≤ max_nodes)) (m : Circuit) (same : m ≡ ordered_net n w.order) where
  pub IsCircuit-made : IsCircuit m
  IsCircuit-made =
      subst IsCircuit (sym same)
      (IsCircuit-ordered n w.order (IsClosed-walk n w.order walk) rest.order_once walk limits.0 limits.1 (omega (arith, order-short n w rest, limits.2)))

  pub KeepsOutputs-made : KeepsOutputs n m
  KeepsOutputs-made = subst (KeepsOutputs n) (sym same) (KeepsOutputs-ordered n w.order (IsClosed-walk n w.order walk) rest.order_once walk)

pub if_ok : {T E : Type 0} (r : Result T E) (P Q : T → Type 0) → IfOk r P → ((x : T) → P x → Q x) → IfOk r Q
if_ok (Ok x) P Q h f = f x h
if_ok (Err e) P Q h f = tt
