-- Laws of depths: the one pass over the gates gives the most products of two variables on a path, and no other list follows its recursion.
use Rattle.std.proofs.Common.{◌≡◌, ◌⊎◌, inl, inr, ℕ, zero, suc, ◌+◌, ◌-◌, ◌<◌, ◌≤◌, max, List, [], ◌∷◌, ◌++◌, get_or, take, drop, length, replicate, Some, slice_get, refl, sym, ap, ◌∙◌, arith}
use Rattle.std.specs.Prelude.{if◌then◌else◌}
use Rattle.std.proofs.lemmas.Bool.{cases_lt}
use Rattle.std.proofs.lemmas.List.{ext_get_or, get_or_append_left, get_or-replicate, length-append, length-map, length-replicate, length-take-le, length_push, take-append-drop}
use Rattle.std.proofs.lemmas.Option.{slice_get-get_or, slice_get_within}
use Rattle.hy_bits.specs.declared.op.Op.{Op}
use Rattle.hy_bits.specs.declared.op.Op.TheVariants.{Add, Sub, Mul, Neg, Trunc}
use Rattle.hy_bits.specs.declared.width.Width.{Width}
use Rattle.hy_bits.specs.declared.width.Width.TheVariants.{W1}
use Rattle.ring_net.specs.declared.ring.RingArg.{RingArg}
use Rattle.ring_net.specs.declared.ring.RingArg.TheVariants.{Var, Number}
use Rattle.ring_net.specs.declared.ring.RingGate.{RingGate}
use Rattle.ring_net.specs.Ring.{Ring, IsRing, FitsAfter, FitsArg, FitsCut, FitsOperation, argument, depth_at, depths_after, depths_of, gate_depth, multiplies}
use Rattle.ring_net.specs.Paths.{AreGreatest, AreStepwise, EndsPath, at_gate, at_input, onward}
use Rattle.ring_net.proofs.RingLaws.{AreGates-at, gate_widths}

-- ---- what a gate takes stands before it

-- the variables among the arguments are below n
record TakesBelow (n : ℕ) (g : RingGate) : Type 0 where
  first : (x : ℕ) → argument g 0 ≡ Var x → x < n
  second : (x : ℕ) → argument g 1 ≡ Var x → x < n

arg-below : (widths : List Width) (w : Width) (a : RingArg) → FitsArg widths w a → (x : ℕ) → a ≡ Var x → x < length widths
arg-below widths w (Var k) f x e = let same : k ≡ x = cc in omega (arith, f.0)
arg-below widths w (Number n) f x e = absurd (cc)

cut-below : (widths : List Width) (w : Width) (a : RingArg) → FitsCut widths w a → (x : ℕ) → a ≡ Var x → x < length widths
cut-below widths w (Var k) f x e = let same : k ≡ x = cc in omega (arith, f.0)
cut-below widths w (Number n) f x e = absurd f

none-below : (n : ℕ) (a : RingArg) → a ≡ Number 0 → (x : ℕ) → a ≡ Var x → x < n
none-below n a z x e = absurd (cc)

first-below : (widths : List Width) (op : Op) (w : Width) (a b : RingArg) → FitsOperation widths op w a b → (x : ℕ) → a ≡ Var x → x < length widths
first-below widths Add w a b f = arg-below widths w a f.0
first-below widths Sub w a b f = arg-below widths w a f.0
first-below widths Mul w a b f = arg-below widths w a f.0
first-below widths Neg w a b f = arg-below widths w a f.0
first-below widths Trunc w a b f = cut-below widths w a f.0
first-below widths _ w a b f = absurd f

second-below : (widths : List Width) (op : Op) (w : Width) (a b : RingArg) → FitsOperation widths op w a b → (x : ℕ) → b ≡ Var x → x < length widths
second-below widths Add w a b f = arg-below widths w b f.1
second-below widths Sub w a b f = arg-below widths w b f.1
second-below widths Mul w a b f = arg-below widths w b f.1
second-below widths Neg w a b f = none-below (length widths) b f.1
second-below widths Trunc w a b f = none-below (length widths) b f.1
second-below widths _ w a b f = absurd f

TakesBelow-fits : (widths : List Width) (n : ℕ) (g : RingGate) → FitsAfter widths g → length widths ≡ n → TakesBelow n g
TakesBelow-fits widths n g f long = record {
  first = λ x e. let low : x < length widths = first-below widths g.op g.width (argument g 0) (argument g 1) f.operation x e in omega arith;
  second = λ x e. let low : x < length widths = second-below widths g.op g.width (argument g 0) (argument g 1) f.operation x e in omega arith;
}

takes-earlier : (r : Ring) → IsRing r → (place : ℕ) (g : RingGate) → slice_get r.gates place ≡ Some g → TakesBelow (length r.ins + place) g
takes-earlier r ring place g stands =
    let within : place < length r.gates = slice_get_within r.gates place g stands in
    let long : length (r.ins ++ gate_widths (take place r.gates)) ≡ length r.ins + place =
    simp (length-append, length-map) (ap (λ (n : ℕ). length r.ins + n) (length-take-le place r.gates (omega arith))) in
    TakesBelow-fits (r.ins ++ gate_widths (take place r.gates)) (length r.ins + place) g (AreGates-at r.ins r.gates place g ring.gates stands) long

-- ---- the recursion

-- lists that agree below what a gate takes give it one depth
arg-agrees : (ds es : List ℕ) (n : ℕ) (a : RingArg) → ((x : ℕ) → a ≡ Var x → x < n) → ((k : ℕ) → k < n → get_or ds k 0 ≡ get_or es k 0) → depth_at ds a ≡ depth_at es a
arg-agrees ds es n (Var k) low same = same k (low k refl)
arg-agrees ds es n (Number m) low same = refl

gate-agrees : (ds es : List ℕ) (n : ℕ) (g : RingGate) → TakesBelow n g → ((k : ℕ) → k < n → get_or ds k 0 ≡ get_or es k 0) → gate_depth ds g ≡ gate_depth es g
gate-agrees ds es n g low same =
    let first : depth_at ds (argument g 0) ≡ depth_at es (argument g 0) = arg-agrees ds es n (argument g 0) low.first same in
    let second : depth_at ds (argument g 1) ≡ depth_at es (argument g 1) = arg-agrees ds es n (argument g 1) low.second same in
    rw (first, second) refl

length-depths_after : (ds : List ℕ) (gs : List RingGate) → length (depths_after ds gs) ≡ length ds + length gs
unfolding depths_after
length-depths_after ds [] = omega arith
length-depths_after ds (g ∷ gs) = length-depths_after (ds ++ gate_depth ds g ∷ []) gs ∙ omega (arith, length_push ds (gate_depth ds g))

depths_after-before : (ds : List ℕ) (gs : List RingGate) (k : ℕ) → k < length ds → get_or (depths_after ds gs) k 0 ≡ get_or ds k 0
unfolding depths_after
depths_after-before ds [] k low = refl
depths_after-before ds (g ∷ gs) k low = depths_after-before (ds ++ gate_depth ds g ∷ []) gs k (omega (arith, length_push ds (gate_depth ds g))) ∙ get_or_append_left ds (gate_depth ds g ∷ []) 0 k low

depths_after-append : (ds : List ℕ) (xs ys : List RingGate) → depths_after ds (xs ++ ys) ≡ depths_after (depths_after ds xs) ys
unfolding depths_after
depths_after-append ds [] ys = refl
depths_after-append ds (x ∷ xs) ys = depths_after-append (ds ++ gate_depth ds x ∷ []) xs ys

depths_after-at : (ds : List ℕ) (gs : List RingGate) (k : ℕ) (g : RingGate) → slice_get gs k ≡ Some g → get_or (depths_after ds gs) (length ds + k) 0 ≡ gate_depth (depths_after ds (take k gs)) g
unfolding depths_after
depths_after-at ds [] k g s = absurd (cc)
depths_after-at ds (x ∷ gs) zero g s =
    let same : x ≡ g = cc in
    depths_after-before (ds ++ gate_depth ds x ∷ []) gs (length ds + 0) (omega (arith, length_push ds (gate_depth ds x))) ∙ pushed ds (gate_depth ds x) ∙ ap (gate_depth ds) same
  where
    pushed : (xs : List ℕ) (y : ℕ) → get_or (xs ++ y ∷ []) (length xs + 0) 0 ≡ y
    pushed [] y = refl
    pushed (z ∷ xs) y = let e : suc (length xs) + 0 ≡ suc (length xs + 0) = omega arith in rw e (pushed xs y)
depths_after-at ds (x ∷ gs) (suc k) g s =
    let place : length ds + suc k ≡ length (ds ++ gate_depth ds x ∷ []) + k = omega (arith, length_push ds (gate_depth ds x)) in
    ap (λ (i : ℕ). get_or (depths_after (ds ++ gate_depth ds x ∷ []) gs) i 0) place ∙ depths_after-at (ds ++ gate_depth ds x ∷ []) gs k g s

prefix-agrees : (ds : List ℕ) (gs : List RingGate) (n k : ℕ) → n ≤ length gs → k < length ds + n → get_or (depths_after ds (take n gs)) k 0 ≡ get_or (depths_after ds gs) k 0
prefix-agrees ds gs n k within low =
    let long : length (depths_after ds (take n gs)) ≡ length ds + n = length-depths_after ds (take n gs) ∙ ap (λ (m : ℕ). length ds + m) (length-take-le n gs within) in
    sym (depths_after-before (depths_after ds (take n gs)) (drop n gs) k (omega arith))
    ∙ ap (λ (l : List ℕ). get_or l k 0) (sym (depths_after-append ds (take n gs) (drop n gs)) ∙ ap (depths_after ds) (take-append-drop n gs))

module _ (r : Ring) (ring : IsRing r) where
  zeros : List ℕ
  zeros = replicate (length r.ins) 0

  long-zeros : length zeros ≡ length r.ins
  unfolding zeros
  long-zeros = length-replicate {A = ℕ} (length r.ins) 0

  pub AreStepwise-depths : AreStepwise r (depths_of r)
  unfolding zeros
  AreStepwise-depths = record {
    one_for_each = length-depths_after zeros r.gates ∙ omega (arith, long-zeros);
    inputs = λ v low. depths_after-before zeros r.gates v (omega (arith, long-zeros)) ∙ get_or-replicate {A = ℕ} (length r.ins) v 0 0 low;
    gates = λ place g stands.
        let within : place < length r.gates = slice_get_within r.gates place g stands in
        let here : length r.ins + place ≡ length zeros + place = omega (arith, long-zeros) in
        ap (λ (i : ℕ). get_or (depths_after zeros r.gates) i 0) here ∙ depths_after-at zeros r.gates place g stands
        ∙ gate-agrees (depths_after zeros (take place r.gates)) (depths_after zeros r.gates) (length r.ins + place) g (takes-earlier r ring place g stands)
        (λ k low. prefix-agrees zeros r.gates place k (omega arith) (omega (arith, long-zeros)));
  }

  -- ---- no other list follows it

  default : RingGate
  default = record { op = Add; width = W1; args = [] }

  -- a variable is an input or a gate's
  gate-at : (v : ℕ) → length r.ins ≤ v → v < length r.ins + length r.gates → slice_get r.gates (v - length r.ins) ≡ Some (get_or r.gates (v - length r.ins) default)
  gate-at v high low = slice_get-get_or r.gates (v - length r.ins) default (omega arith)

  stepwise-agree : (ds es : List ℕ) → AreStepwise r ds → AreStepwise r es → (n v : ℕ) → v < n → v < length r.ins + length r.gates → get_or ds v 0 ≡ get_or es v 0
  stepwise-agree ds es d e zero v below low = absurd (omega arith)
  stepwise-agree ds es d e (suc n) v below low = by (λ k h. stepwise-agree ds es d e n k (omega arith) (omega arith)) (cases_lt v (length r.ins))
    where
      by : ((k : ℕ) → k < v → get_or ds k 0 ≡ get_or es k 0) → (v < length r.ins) ⊎ (length r.ins ≤ v) → get_or ds v 0 ≡ get_or es v 0
      by earlier (inl input) = d.inputs v input ∙ sym (e.inputs v input)
      by earlier (inr gate) =
          let place : ℕ = v - length r.ins in
          let g : RingGate = get_or r.gates place default in
          let here : length r.ins + place ≡ v = omega arith in
          let stands : slice_get r.gates place ≡ Some g = gate-at v gate low in
          ap (λ (i : ℕ). get_or ds i 0) (sym here) ∙ d.gates place g stands
          ∙ gate-agrees ds es (length r.ins + place) g (takes-earlier r ring place g stands) (λ k h. earlier k (omega arith))
          ∙ sym (e.gates place g stands) ∙ ap (λ (i : ℕ). get_or es i 0) here

  pub AreStepwise-one : (ds : List ℕ) → AreStepwise r ds → ds ≡ depths_of r
  AreStepwise-one ds d =
      let e : AreStepwise r (depths_of r) = AreStepwise-depths in
      ext_get_or 0 ds (depths_of r) (d.one_for_each ∙ sym e.one_for_each) (λ i low. stepwise-agree ds (depths_of r) d e (suc i) i (omega arith) (omega (arith, d.one_for_each)))

  -- ---- paths

  module _ (ds : List ℕ) (step : AreStepwise r ds) where
    -- some path to a gate has its depth, where one to each of its variables has
    path-to-gate : (v place : ℕ) (g : RingGate) → v ≡ length r.ins + place → slice_get r.gates place ≡ Some g → ((x : ℕ) → x < v → EndsPath r x (get_or ds x 0)) →
        ((x : ℕ) → argument g 0 ≡ Var x → x < v) → ((x : ℕ) → argument g 1 ≡ Var x → x < v) → (own : ℕ) → own ≡ (if multiplies g then 1 else 0) → (a b : RingArg) → argument g 0 ≡ a → argument g 1 ≡ b →
        get_or ds v 0 ≡ max (depth_at ds a) (depth_at ds b) + own → EndsPath r v (get_or ds v 0)
    path-to-gate v place g here stands earlier low_a low_b own is (Number m) (Number n) ea eb sum = at_gate v (get_or ds v 0) place g here stands (let e : get_or ds v 0 ≡ own = omega (arith, sum) in e ∙ is)
    path-to-gate v place g here stands earlier low_a low_b own is (Var x) (Number n) ea eb sum =
        onward v (get_or ds v 0) place g x (get_or ds x 0) here stands (inl ea) (earlier x (low_a x ea)) (let e : get_or ds v 0 ≡ get_or ds x 0 + own = omega (arith, sum) in e ∙ ap (λ (k : ℕ). get_or ds x 0 + k) is)
    path-to-gate v place g here stands earlier low_a low_b own is (Number m) (Var y) ea eb sum =
        onward v (get_or ds v 0) place g y (get_or ds y 0) here stands (inr eb) (earlier y (low_b y eb)) (let e : get_or ds v 0 ≡ get_or ds y 0 + own = omega (arith, sum) in e ∙ ap (λ (k : ℕ). get_or ds y 0 + k) is)
    path-to-gate v place g here stands earlier low_a low_b own is (Var x) (Var y) ea eb sum = by (cases_lt (get_or ds y 0) (get_or ds x 0))
      where
        by : (get_or ds y 0 < get_or ds x 0) ⊎ (get_or ds x 0 ≤ get_or ds y 0) → EndsPath r v (get_or ds v 0)
        by (inr h) = onward v (get_or ds v 0) place g y (get_or ds y 0) here stands (inr eb) (earlier y (low_b y eb)) (let e : get_or ds v 0 ≡ get_or ds y 0 + own = omega (arith, sum, h) in e ∙ ap (λ (k : ℕ). get_or ds y 0 + k) is)
        by (inl h) = onward v (get_or ds v 0) place g x (get_or ds x 0) here stands (inl ea) (earlier x (low_a x ea)) (let e : get_or ds v 0 ≡ get_or ds x 0 + own = omega (arith, sum, h) in e ∙ ap (λ (k : ℕ). get_or ds x 0 + k) is)

    path-to : (n v : ℕ) → v < n → v < length r.ins + length r.gates → EndsPath r v (get_or ds v 0)
    path-to zero v below low = absurd (omega arith)
    path-to (suc n) v below low = by (λ x h. path-to n x (omega arith) (omega arith)) (cases_lt v (length r.ins))
      where
        by : ((x : ℕ) → x < v → EndsPath r x (get_or ds x 0)) → (v < length r.ins) ⊎ (length r.ins ≤ v) → EndsPath r v (get_or ds v 0)
        by earlier (inl input) = at_input v (get_or ds v 0) input (step.inputs v input)
        by earlier (inr gate) =
            let place : ℕ = v - length r.ins in
            let g : RingGate = get_or r.gates place default in
            let here : v ≡ length r.ins + place = omega arith in
            let stands : slice_get r.gates place ≡ Some g = gate-at v gate low in
            let takes : TakesBelow (length r.ins + place) g = takes-earlier r ring place g stands in
            path-to-gate v place g here stands earlier
            (λ x e. let h : x < length r.ins + place = takes.first x e in omega arith) (λ x e. let h : x < length r.ins + place = takes.second x e in omega arith)
            (if multiplies g then 1 else 0) refl (argument g 0) (argument g 1) refl refl (ap (λ (i : ℕ). get_or ds i 0) here ∙ step.gates place g stands)

    -- no path to a variable has more
    rises : (v place : ℕ) (g : RingGate) → v ≡ length r.ins + place → slice_get r.gates place ≡ Some g → get_or ds v 0 ≡ gate_depth ds g
    rises v place g here stands = ap (λ (i : ℕ). get_or ds i 0) here ∙ step.gates place g stands

    paths-below : (v count : ℕ) → EndsPath r v count → count ≤ get_or ds v 0
    paths-below _ _ (at_input v count low is) = omega arith
    paths-below _ _ (at_gate v count place g here stands is) = omega (arith, rises v place g here stands, is)
    paths-below _ _ (onward v count place g x before here stands takes path is) =
        let earlier : before ≤ get_or ds x 0 = paths-below x before path in
        by (get_or ds x 0) earlier takes refl
      where
        by : (m : ℕ) → before ≤ m → (argument g 0 ≡ Var x) ⊎ (argument g 1 ≡ Var x) → get_or ds x 0 ≡ m → count ≤ get_or ds v 0
        by m low (inl e) same = let d : depth_at ds (argument g 0) ≡ m = ap (depth_at ds) e ∙ same in omega (arith, rises v place g here stands, is, d)
        by m low (inr e) same = let d : depth_at ds (argument g 1) ≡ m = ap (depth_at ds) e ∙ same in omega (arith, rises v place g here stands, is, d)

  pub AreGreatest-depths : AreGreatest r (depths_of r)
  AreGreatest-depths =
      let step : AreStepwise r (depths_of r) = AreStepwise-depths in
      record {
        one_for_each = step.one_for_each;
        reached = λ v low. path-to (depths_of r) step (suc v) v (omega arith) (omega (arith, step.one_for_each));
        most = paths-below (depths_of r) step;
      }
