-- Laws of ring circuits: what gates take, what variables carry, and the steps of the loops over gates.
use Rattle.std.proofs.Common.{◌≡◌, ◌⊎◌, inl, inr, ℕ, zero, suc, ◌+◌, ◌<◌, ◌≤◌, Bool, true, false, List, [], ◌∷◌, ◌++◌, get_or, set, take, drop, length, map, replicate, Some, slice_get, refl, sym, ap, ◌∙◌, subst, arith, append_assoc}
use Rattle.std.specs.Prelude.{if◌then◌else◌}
use Rattle.std.specs.List.{All}
use Rattle.std.proofs.lemmas.List.{append-nil, take-append-drop, take_more, take_more_set, take_all, take_at, get_or_append_left, length-map, length-replicate, get_or-replicate, map-append}
use Rattle.std.proofs.lemmas.List.Elements.{All-push}
use Rattle.std.proofs.lemmas.Option.{slice_get-get_or}
use Rattle.std.proofs.Math.ListN.{get_or-map}
use Rattle.hy_bits.specs.declared.op.Op.{Op}
use Rattle.hy_bits.specs.declared.op.Op.TheVariants.{Add, Sub, Mul, Neg, Trunc}
use Rattle.hy_bits.specs.declared.width.Width.{Width}
use Rattle.hy_bits.specs.declared.width.Width.TheVariants.{W1}
use Rattle.hy_bits.specs.Op.{IsTakenBy, op_value}
use Rattle.hy_bits.specs.Words.{IsWord}
use Rattle.hy_bits.proofs.WordLaws.{op_value-word}
use Rattle.word_graph.specs.Meaning.{Word, word_at}
use Rattle.ring_net.specs.declared.ring.RingArg.{RingArg}
use Rattle.ring_net.specs.declared.ring.RingArg.TheVariants.{Var, Number}
use Rattle.ring_net.specs.declared.ring.RingGate.{RingGate}
use Rattle.ring_net.specs.Ring.{Ring, IsRing, AreGates, AreWordsOf, FitsAfter, FitsArg, FitsCut, FitsOperation, arg_value, arg_word, argument, depth_at, depths_after, first_width, gate_depth, gate_word, inputs_of, multiplies, run, width_for, width_of, values}

-- the widths of gates
abbrev pub gate_widths : List RingGate → List Width
gate_widths gs = map (λ (g : RingGate). g.width) gs

-- ---- lists of gates

pub run-push : (ws : List Word) (gs : List RingGate) (g : RingGate) → run ws (gs ++ g ∷ []) ≡ run ws gs ++ gate_word (run ws gs) g ∷ []
unfolding run
run-push ws [] g = refl
run-push ws (x ∷ gs) g = run-push (ws ++ gate_word ws x ∷ []) gs g

pub AreGates-at : (widths : List Width) (gs : List RingGate) (k : ℕ) (g : RingGate) → AreGates widths gs → slice_get gs k ≡ Some g → FitsAfter (widths ++ gate_widths (take k gs)) g
AreGates-at widths [] k g h s = absurd (cc)
AreGates-at widths (x ∷ gs) zero g h s =
    let same : x ≡ g = cc in
    subst (λ (v : RingGate). FitsAfter (widths ++ []) v) same (rw append-nil h.0)
AreGates-at widths (x ∷ gs) (suc k) g h s = rw append_assoc at (AreGates-at (widths ++ x.width ∷ []) gs k g h.1 s)

pub AreGates-push : (widths : List Width) (gs : List RingGate) (g : RingGate) → AreGates widths gs → FitsAfter (widths ++ gate_widths gs) g → AreGates widths (gs ++ g ∷ [])
AreGates-push widths [] g h f = (rw append-nil at f, tt)
AreGates-push widths (x ∷ gs) g h f = (h.0, AreGates-push (widths ++ x.width ∷ []) gs g h.1 (rw append_assoc f))

-- ---- what variables carry

-- these variables carry words of these widths
pub record Carries (widths : List Width) (ws : List Word) : Type 0 where
  pub same : map (λ (w : Word). w.width) ws ≡ widths
  pub fit : All (λ (w : Word). IsWord w.width w.value) ws

pub Carries-length : (widths : List Width) (ws : List Word) → Carries widths ws → length ws ≡ length widths
Carries-length widths ws c = sym (length-map ws (λ (w : Word). w.width)) ∙ ap length c.same

pub Carries-width : (widths : List Width) (ws : List Word) (k : ℕ) → Carries widths ws → (word_at ws k).width ≡ width_of widths k
Carries-width widths ws k c = sym (get_or-map (λ (w : Word). w.width) ws k (record { width = W1; value = 0 })) ∙ ap (λ (l : List Width). get_or l k W1) c.same

Carries-word : (widths : List Width) (ws : List Word) (k : ℕ) → Carries widths ws → k < length widths → IsWord (width_of widths k) (word_at ws k).value
Carries-word widths ws k c h = subst (λ (w : Width). IsWord w (word_at ws k).value) (Carries-width widths ws k c) (c.fit k _ (omega (arith, Carries-length widths ws c)))

module _ (widths : List Width) (ws : List Word) (c : Carries widths ws) where
  -- an argument that fits is a word of the width
  arg-word : (w : Width) (a : RingArg) → FitsArg widths w a → IsWord w (arg_word ws w a).value
  arg-word w (Var k) f = subst (λ (v : Width). IsWord v (word_at ws k).value) f.1 (Carries-word widths ws k c f.0)
  arg-word w (Number n) f = f

  cut-word : (w : Width) (a : RingArg) → FitsCut widths w a → IsWord (width_for widths w a) (arg_word ws w a).value
  cut-word w (Var k) f = Carries-word widths ws k c f.0
  cut-word w (Number n) f = absurd f

  pub arg-width : (w : Width) (a : RingArg) → (arg_word ws w a).width ≡ width_for widths w a
  arg-width w (Var k) = Carries-width widths ws k c
  arg-width w (Number n) = refl

  operation-taken : (op : Op) (w : Width) (a b : RingArg) → FitsOperation widths op w a b → IsTakenBy op w (width_for widths w a) (arg_word ws w a).value (arg_word ws w b).value 0
  operation-taken Add w a b f = (arg-word w a f.0, arg-word w b f.1)
  operation-taken Sub w a b f = (arg-word w a f.0, arg-word w b f.1)
  operation-taken Mul w a b f = (arg-word w a f.0, arg-word w b f.1)
  operation-taken Neg w a b f = arg-word w a f.0
  operation-taken Trunc w a b f = cut-word w a f.0
  operation-taken _ w a b f = absurd f

  pub gate-taken : (g : RingGate) → FitsAfter widths g → IsTakenBy g.op g.width (first_width widths g) (arg_word ws g.width (argument g 0)).value (arg_word ws g.width (argument g 1)).value 0
  gate-taken g f = operation-taken g.op g.width (argument g 0) (argument g 1) f.operation

  pub Carries-gate : (g : RingGate) → FitsAfter widths g → Carries (widths ++ g.width ∷ []) (ws ++ gate_word ws g ∷ [])
  Carries-gate g f = record {
    same = map-append (λ (w : Word). w.width) ws (gate_word ws g ∷ []) ∙ ap (λ (l : List Width). l ++ g.width ∷ []) c.same;
    fit = All-push (λ (w : Word). IsWord w.width w.value) ws (gate_word ws g) c.fit
        (rw (arg-width g.width (argument g 0)) (op_value-word g.op g.width (first_width widths g) (arg_word ws g.width (argument g 0)).value (arg_word ws g.width (argument g 1)).value 0 (gate-taken g f)));
  }

pub Carries-run : (widths : List Width) (ws : List Word) (gs : List RingGate) → AreGates widths gs → Carries widths ws → Carries (widths ++ gate_widths gs) (run ws gs)
unfolding run
Carries-run widths ws [] h c = rw append-nil c
Carries-run widths ws (g ∷ gs) h c = rw append_assoc at (Carries-run (widths ++ g.width ∷ []) (ws ++ gate_word ws g ∷ []) gs h.1 (Carries-gate widths ws c g h.0))

pub Carries-inputs : (widths : List Width) (xs : List ℕ) → AreWordsOf widths xs → Carries widths (inputs_of widths xs)
Carries-inputs [] [] h = record { same = refl; fit = λ k d within. absurd (omega arith) }
Carries-inputs [] (x ∷ xs) h = absurd h
Carries-inputs (w ∷ widths) [] h = absurd h
Carries-inputs (w ∷ widths) (x ∷ xs) h =
    let rest = Carries-inputs widths xs h.1 in
    record { same = ap (λ (l : List Width). w ∷ l) rest.same; fit = first w x h.0 (inputs_of widths xs) rest.fit }
  where
    first : (v : Width) (y : ℕ) → IsWord v y → (ws : List Word) → All (λ (u : Word). IsWord u.width u.value) ws → All (λ (u : Word). IsWord u.width u.value) (record { width = v; value = y } ∷ ws)
    first v y word ws rest zero d within = word
    first v y word ws rest (suc k) d within = rest k d (omega arith)

pub inputs-values : (widths : List Width) (xs : List ℕ) → AreWordsOf widths xs → map (λ (w : Word). w.value) (inputs_of widths xs) ≡ xs
inputs-values [] [] h = refl
inputs-values [] (x ∷ xs) h = absurd h
inputs-values (w ∷ widths) [] h = absurd h
inputs-values (w ∷ widths) (x ∷ xs) h = ap (λ (l : List ℕ). x ∷ l) (inputs-values widths xs h.1)

pub inputs-length : (widths : List Width) (xs : List ℕ) → AreWordsOf widths xs → length xs ≡ length widths
inputs-length [] [] h = refl
inputs-length [] (x ∷ xs) h = absurd h
inputs-length (w ∷ widths) [] h = absurd h
inputs-length (w ∷ widths) (x ∷ xs) h = ap suc (inputs-length widths xs h.1)

-- ---- loops over gates

-- the values of variables
abbrev pub carried : List Word → List ℕ
carried ws = map (λ (w : Word). w.value) ws

carried-at : (ws : List Word) (k : ℕ) → get_or (carried ws) k 0 ≡ (word_at ws k).value
carried-at ws k = get_or-map (λ (w : Word). w.value) ws k (record { width = W1; value = 0 })

arg_value-carried : (ws : List Word) (w : Width) (a : RingArg) → arg_value (carried ws) a ≡ (arg_word ws w a).value
arg_value-carried ws w (Var k) = carried-at ws k
arg_value-carried ws w (Number n) = refl

width_of-append : (widths more : List Width) (k : ℕ) → k < length widths → width_of (widths ++ more) k ≡ width_of widths k
width_of-append widths more k h = get_or_append_left widths more W1 k h

arg_width-append : (widths more : List Width) (w : Width) (a : RingArg) → FitsArg widths w a → width_for (widths ++ more) w a ≡ width_for widths w a
arg_width-append widths more w (Var k) f = width_of-append widths more k f.0
arg_width-append widths more w (Number n) f = refl

cut_width-append : (widths more : List Width) (w : Width) (a : RingArg) → FitsCut widths w a → width_for (widths ++ more) w a ≡ width_for widths w a
cut_width-append widths more w (Var k) f = width_of-append widths more k f.0
cut_width-append widths more w (Number n) f = absurd f

operation_width-append : (widths more : List Width) (op : Op) (w : Width) (a b : RingArg) → FitsOperation widths op w a b → width_for (widths ++ more) w a ≡ width_for widths w a
operation_width-append widths more Add w a b f = arg_width-append widths more w a f.0
operation_width-append widths more Sub w a b f = arg_width-append widths more w a f.0
operation_width-append widths more Mul w a b f = arg_width-append widths more w a f.0
operation_width-append widths more Neg w a b f = arg_width-append widths more w a f.0
operation_width-append widths more Trunc w a b f = cut_width-append widths more w a f.0
operation_width-append widths more _ w a b f = absurd f

AreGates-take : (widths : List Width) (gs : List RingGate) (n : ℕ) → AreGates widths gs → AreGates widths (take n gs)
AreGates-take widths [] zero h = tt
AreGates-take widths [] (suc n) h = tt
AreGates-take widths (g ∷ gs) zero h = tt
AreGates-take widths (g ∷ gs) (suc n) h = (h.0, AreGates-take (widths ++ g.width ∷ []) gs n h.1)

take-append-split : (gs : List RingGate) (i : ℕ) → gate_widths gs ≡ gate_widths (take i gs) ++ gate_widths (drop i gs)
take-append-split gs i = ap gate_widths (sym (take-append-drop i gs)) ∙ map-append (λ (g : RingGate). g.width) (take i gs) (drop i gs)

module _ (r : Ring) (xs : List ℕ) (ring : IsRing r) (inputs : AreWordsOf r.ins xs) (i : ℕ) (d : RingGate) (within : i < length r.gates) where
  carries_before : Carries (r.ins ++ gate_widths (take i r.gates)) (run (inputs_of r.ins xs) (take i r.gates))
  carries_before = Carries-run r.ins (inputs_of r.ins xs) (take i r.gates) (AreGates-take r.ins r.gates i ring.gates) (Carries-inputs r.ins xs inputs)

  fits_here : FitsAfter (r.ins ++ gate_widths (take i r.gates)) (get_or r.gates i d)
  fits_here = AreGates-at r.ins r.gates i (get_or r.gates i d) ring.gates (slice_get-get_or r.gates i d within)

  -- the width of the first argument is the same over all variables
  width_here : first_width (r.ins ++ gate_widths r.gates) (get_or r.gates i d) ≡ first_width (r.ins ++ gate_widths (take i r.gates)) (get_or r.gates i d)
  width_here =
      ap (λ (l : List Width). first_width l (get_or r.gates i d)) (ap (λ (l : List Width). r.ins ++ l) (take-append-split r.gates i) ∙ sym (append_assoc r.ins (gate_widths (take i r.gates)) (gate_widths (drop i r.gates))))
      ∙ operation_width-append (r.ins ++ gate_widths (take i r.gates)) (gate_widths (drop i r.gates)) (get_or r.gates i d).op (get_or r.gates i d).width (argument (get_or r.gates i d) 0) (argument (get_or r.gates i d) 1) fits_here.operation

  pub value-taken : (vs : List ℕ) (from : Width) → vs ≡ carried (run (inputs_of r.ins xs) (take i r.gates)) → from ≡ first_width (r.ins ++ gate_widths r.gates) (get_or r.gates i d) →
      IsTakenBy (get_or r.gates i d).op (get_or r.gates i d).width from (arg_value vs (argument (get_or r.gates i d) 0)) (arg_value vs (argument (get_or r.gates i d) 1)) 0
  value-taken vs from inv is =
      let ws : List Word = run (inputs_of r.ins xs) (take i r.gates) in
      let g : RingGate = get_or r.gates i d in
      rw (inv, is, width_here, arg_value-carried ws g.width (argument g 0), arg_value-carried ws g.width (argument g 1)) (gate-taken (r.ins ++ gate_widths (take i r.gates)) ws carries_before g fits_here)

  pub values-more : (m : ℕ) (buffer : List ℕ) (from : Width) (v : ℕ) → m + i < length buffer → take (m + i) buffer ≡ carried (run (inputs_of r.ins xs) (take i r.gates)) →
      from ≡ first_width (r.ins ++ gate_widths r.gates) (get_or r.gates i d) →
      v ≡ op_value (get_or r.gates i d).op (get_or r.gates i d).width from (arg_value (take (m + i) buffer) (argument (get_or r.gates i d) 0)) (arg_value (take (m + i) buffer) (argument (get_or r.gates i d) 1)) 0 →
      take (m + (i + 1)) (set buffer (m + i) v) ≡ carried (run (inputs_of r.ins xs) (take (i + 1) r.gates))
  values-more m buffer from v room inv is made =
      let ws : List Word = run (inputs_of r.ins xs) (take i r.gates) in
      let g : RingGate = get_or r.gates i d in
      let place : m + (i + 1) ≡ m + i + 1 = omega arith in
      let value_is : v ≡ (gate_word ws g).value =
      made ∙ rw (inv, is, width_here, arg_value-carried ws g.width (argument g 0), arg_value-carried ws g.width (argument g 1))
      (ap (λ (w : Width). op_value g.op g.width w (arg_word ws g.width (argument g 0)).value (arg_word ws g.width (argument g 1)).value 0) (sym (arg-width (r.ins ++ gate_widths (take i r.gates)) ws carries_before g.width (argument g 0)))) in
      ap (λ (k : ℕ). take k (set buffer (m + i) v)) place
      ∙ take_more_set buffer (m + i) v room
      ∙ rw (inv, value_is) refl
      ∙ sym (map-append (λ (w : Word). w.value) ws (gate_word ws g ∷ []))
      ∙ ap carried (sym (run-push (inputs_of r.ins xs) (take i r.gates) g) ∙ ap (run (inputs_of r.ins xs)) (sym (take_more r.gates i d within)))

pub values-init : (r : Ring) (xs copy rest : List ℕ) → AreWordsOf r.ins xs → copy ≡ xs → take (length xs + 0) (copy ++ rest) ≡ carried (run (inputs_of r.ins xs) (take 0 r.gates))
unfolding run
values-init r xs copy rest inputs e = take_at copy rest (length xs + 0) (omega (arith, ap length e)) ∙ e ∙ sym (inputs-values r.ins xs inputs)

pub values-done : (r : Ring) (xs buffer : List ℕ) (m i : ℕ) → length buffer ≤ m + i → length r.gates ≤ i → take (m + i) buffer ≡ carried (run (inputs_of r.ins xs) (take i r.gates)) → buffer ≡ values r xs
values-done r xs buffer m i full all inv = sym (take_all (m + i) buffer full) ∙ inv ∙ ap (λ (gs : List RingGate). carried (run (inputs_of r.ins xs) gs)) (take_all i r.gates all)

-- ---- depths

depths_after-push : (depths : List ℕ) (gs : List RingGate) (g : RingGate) → depths_after depths (gs ++ g ∷ []) ≡ depths_after depths gs ++ gate_depth (depths_after depths gs) g ∷ []
unfolding depths_after
depths_after-push depths [] g = refl
depths_after-push depths (x ∷ gs) g = depths_after-push (depths ++ gate_depth depths x ∷ []) gs g

pub depths-more : (start depths more : List ℕ) (gates : List RingGate) (i : ℕ) (d : RingGate) (n : ℕ) → i < length gates → depths ≡ depths_after start (take i gates) →
    n ≡ gate_depth depths (get_or gates i d) → more ≡ depths ++ n ∷ [] → more ≡ depths_after start (take (i + 1) gates)
depths-more start depths more gates i d n within inv is made =
    made ∙ rw (is, inv) (sym (depths_after-push start (take i gates) (get_or gates i d)) ∙ ap (depths_after start) (sym (take_more gates i d within)))

depth_at-low : (depths : List ℕ) (n : ℕ) (a : RingArg) → All (λ x. x ≤ n) depths → depth_at depths a ≤ n
depth_at-low depths n (Number m) low = omega arith
depth_at-low depths n (Var k) low = by (get_cases depths k)
  where
    get_cases : (xs : List ℕ) (j : ℕ) → (j < length xs) ⊎ (get_or xs j 0 ≡ 0)
    get_cases [] j = inr refl
    get_cases (x ∷ xs) zero = inl (omega arith)
    get_cases (x ∷ xs) (suc j) = elim (get_cases xs j) [ inl h ↦ inl (omega arith) | inr e ↦ inr e ]

    by : (k < length depths) ⊎ (get_or depths k 0 ≡ 0) → get_or depths k 0 ≤ n
    by (inl h) = low k 0 h
    by (inr e) = omega arith

pub depths-low : (depths more : List ℕ) (gates : List RingGate) (i : ℕ) (d : RingGate) (n : ℕ) → All (λ x. x ≤ i) depths → n ≡ gate_depth depths (get_or gates i d) → more ≡ depths ++ n ∷ [] → All (λ x. x ≤ i + 1) more
depths-low depths more gates i d n low is made =
    let g : RingGate = get_or gates i d in
    let first : depth_at depths (argument g 0) ≤ i = depth_at-low depths i (argument g 0) low in
    let second : depth_at depths (argument g 1) ≤ i = depth_at-low depths i (argument g 1) low in
    let one : (if multiplies g then 1 else 0) ≤ 1 = at_most (multiplies g) in
    rw made (All-push (λ (x : ℕ). x ≤ i + 1) depths n (λ k d h. omega (arith, low k d h)) (omega (arith, is, first, second, one)))
  where
    at_most : (b : Bool) → (if b then 1 else 0) ≤ 1
    at_most true = omega arith
    at_most false = omega arith

pub zeros-low : (n : ℕ) → All (λ x. x ≤ 0) (replicate {A = ℕ} n 0)
zeros-low n k d h = rw (get_or-replicate {A = ℕ} n k 0 d (omega (arith, length-replicate {A = ℕ} n 0))) (omega arith)
