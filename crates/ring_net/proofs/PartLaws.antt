-- Laws of parts: their circuits are circuits, and compute what the graph does.
use Rattle.std.proofs.Common.{◌≡◌, ◌≢◌, ℕ, zero, suc, ◌+◌, ◌<◌, ◌≤◌, Bool, true, false, ◌&&◌, cond, eqb, List, [], ◌∷◌, ◌++◌, Option, Some, None, is_some, get_or, take, drop, length, map, slice_get, refl, sym, ap, ◌∙◌, subst, arith, append_assoc, length-append, add-one}
use Rattle.std.specs.Prelude.{nat_lt}
use Rattle.std.specs.List.{All, Contains, list_all, list_any}
use Rattle.std.proofs.lemmas.Bool.{eqb-true, eq-eqb, lt-ltb}
use Rattle.std.proofs.lemmas.Option.{slice_get-get_or}
use Rattle.std.proofs.lemmas.List.{append-nil, take_all, take_more, get_or_append_left, get_or-append-add, take-append-drop, length-map, length-take-le, map-append}
use Rattle.std.proofs.lemmas.List.Sums.{position_or_len_is}
use Rattle.hy_bits.specs.declared.op.Op.{Op}
use Rattle.hy_bits.specs.declared.op.Op.TheVariants.{Add, Sub, Mul, Neg, Trunc}
use Rattle.hy_bits.specs.declared.width.Width.{Width}
use Rattle.hy_bits.specs.declared.width.Width.TheVariants.{W1}
use Rattle.hy_bits.specs.Op.{op_value}
use Rattle.hy_bits.specs.Words.{IsWord, bits}
use Rattle.word_graph.specs.declared.entry.Entry.{Entry}
use Rattle.word_graph.specs.Term.{WidthsFit, arity, width_at}
use Rattle.word_graph.specs.Meaning.{InputsFit, Word, first_operand, value, word_at, words}
use Rattle.word_graph.specs.Shape.{IsEntryAfter, IsGraph, constant_at, constant_entry}
use Rattle.word_graph.proofs.EntryLaws.{AreEntries-at, constant_at-word, width_at-get, width_at-take}
use Rattle.word_graph.proofs.RunLaws.{Carries-width, carries, value-constant, value-entry}
use Rattle.ring_net.specs.declared.ring.RingGate.{RingGate}
use Rattle.ring_net.specs.Ring.{AreGates, FitsAfter, FitsArg, FitsCut, FitsOperation, IsRing, Ring, arg_word, gate_word, inputs_of, outputs, run}
use Rattle.module_split.specs.Steps.{IsDistinct}
use Rattle.ring_net.specs.Part.{IsOver, IsPart, IsRingOperation, arg_for, arg_of, gate_at, gate_for, gate_of_entry, second_for, variable_of}
use Rattle.ring_net.proofs.RingLaws.{AreGates-push, gate_widths, run-push}

-- ---- elements of lists

get_or_any : (xs : List ℕ) (k a b : ℕ) → k < length xs → get_or xs k a ≡ get_or xs k b
get_or_any [] k a b h = absurd (omega arith)
get_or_any (x ∷ xs) zero a b h = refl
get_or_any (x ∷ xs) (suc k) a b h = get_or_any xs k a b (omega arith)

map-at : {A B : Type 0} (f : A → B) (xs : List A) (k : ℕ) (a : A) (d : B) → k < length xs → get_or xs k a ≡ a → get_or (map f xs) k d ≡ f a
map-at f [] k a d h e = absurd (omega arith)
map-at f (x ∷ xs) zero a d h e = ap f e
map-at f (x ∷ xs) (suc k) a d h e = map-at f xs k a d (omega arith) e

entry-take : (es : List Entry) (n k : ℕ) → k < length (take n es) → slice_get es k ≡ slice_get (take n es) k
entry-take [] zero k h = absurd (omega arith)
entry-take [] (suc n) k h = absurd (omega arith)
entry-take (e ∷ es) zero k h = absurd (omega arith)
entry-take (e ∷ es) (suc n) zero h = refl
entry-take (e ∷ es) (suc n) (suc k) h = entry-take es n k (omega arith)

word-equal : (u v : Word) → u.width ≡ v.width → u.value ≡ v.value → u ≡ v
word-equal u v w n = ap (λ (x : Width). record { width = x; value = u.value }) w ∙ ap (λ (m : ℕ). record { width = v.width; value = m }) n

-- ---- places and variables

not_among : (k : ℕ) (xs : List ℕ) → ((j : ℕ) → j < length xs → get_or xs j 0 ≢ k) → list_any (λ p. eqb k p) xs ≡ false
not_among k [] apart = refl
not_among k (x ∷ xs) apart = rw (differs k x (λ e. apart 0 (omega arith) (sym e)), not_among k xs (λ j h. apart (suc j) (omega arith))) refl
  where
    differs : (a b : ℕ) → (a ≡ b → ⊥) → eqb a b ≡ false
    differs a b apart2 = by (eqb a b) refl
      where
        by : (c : Bool) → eqb a b ≡ c → eqb a b ≡ false
        by true e = absurd (apart2 (eqb-true a b e))
        by false e = e

kept : (xs ys : List ℕ) (b : Bool) → b ≡ false → cond b xs ys ≡ ys
kept xs ys true e = absurd (cc)
kept xs ys false e = refl

-- one place more
pub places-more : (old more keys new : List ℕ) (i d : ℕ) → i < length more → IsDistinct (old ++ more) → keys ≡ old ++ take i more →
    new ≡ cond (list_any (λ p. eqb (get_or more i d) p) keys) keys (keys ++ get_or more i d ∷ []) → new ≡ old ++ take (i + 1) more
places-more old more keys new i d within distinct inv made =
    made
    ∙ kept keys (keys ++ get_or more i d ∷ []) (list_any (λ p. eqb (get_or more i d) p) keys) (rw inv (not_among (get_or more i d) (old ++ take i more) apart))
    ∙ rw (inv, append_assoc old (take i more) (get_or more i d ∷ [])) (ap (λ (l : List ℕ). old ++ l) (sym (take_more more i d within)))
  where
    apart : (j : ℕ) → j < length (old ++ take i more) → get_or (old ++ take i more) j 0 ≢ get_or more i d
    apart j h same =
        let few : length (take i more) ≡ i = length-take-le i more (omega arith) in
        let long : length (old ++ take i more) ≡ length old + i = omega (arith, length-append old (take i more)) in
        let all : length (old ++ more) ≡ length old + length more = length-append old more in
        let split : old ++ more ≡ (old ++ take i more) ++ drop i more = ap (λ (l : List ℕ). old ++ l) (sym (take-append-drop i more)) ∙ sym (append_assoc old (take i more) (drop i more)) in
        let left : get_or (old ++ more) j 0 ≡ get_or (old ++ take i more) j 0 = ap (λ (l : List ℕ). get_or l j 0) split ∙ get_or_append_left (old ++ take i more) (drop i more) 0 j h in
        let right : get_or (old ++ more) (length old + i) 0 ≡ get_or more i d = get_or-append-add old more i 0 ∙ get_or_any more i 0 d within in
        distinct j (length old + i) (omega arith) (omega arith) (left ∙ same ∙ sym right)

-- the variable of a place is where it stands
pub variable_of-at : (places : List ℕ) (i k : ℕ) → IsDistinct places → i < length places → get_or places i 0 ≡ k → variable_of places k ≡ i
variable_of-at places i k distinct within at =
    let first = position_or_len_is (λ (p : ℕ). eqb k p) places i 0 (omega arith)
    (λ j h. differs k (get_or places j 0) (λ e. distinct j i h within (sym e ∙ sym at)))
    (λ h. eq-eqb k (get_or places i 0) (sym at)) in
    rw (first, lt-ltb i (length places) within) refl
  where
    differs : (a b : ℕ) → (a ≡ b → ⊥) → eqb a b ≡ false
    differs a b apart2 = by (eqb a b) refl
      where
        by : (c : Bool) → eqb a b ≡ c → eqb a b ≡ false
        by true e = absurd (apart2 (eqb-true a b e))
        by false e = e

-- the variable of one of the first places
found : (places prefix rest : List ℕ) (a : ℕ) → IsDistinct places → places ≡ prefix ++ rest → Contains prefix a → (variable_of places a < length prefix) × (get_or prefix (variable_of places a) a ≡ a)
found places prefix rest a distinct split c =
    let at : get_or places c.0 0 ≡ a = ap (λ (l : List ℕ). get_or l c.0 0) split ∙ get_or_append_left prefix rest 0 c.0 c.1 ∙ get_or_any prefix c.0 0 a c.1 ∙ c.2 in
    let within : c.0 < length places = omega (arith, ap length split, length-append prefix rest, c.1) in
    let is : variable_of places a ≡ c.0 = variable_of-at places c.0 a distinct within at in
    (omega (arith, is, c.1), ap (λ (k : ℕ). get_or prefix k a) is ∙ c.2)

-- ---- the gate of a node

-- an operation that takes one argument, which is live, takes no constant
one_live : (es : List Entry) (args : List ℕ) → length args ≡ 3 → list_all (λ a. is_some (constant_at es a)) (take 1 args) ≡ false → constant_at es (get_or args 0 0) ≡ None
one_live es [] l h = absurd (omega arith)
one_live es (x ∷ xs) l h = by (constant_at es x) refl
  where
    by : (o : Option ℕ) → constant_at es x ≡ o → constant_at es x ≡ None
    by (Some n) e = absurd (cc)
    by None e = e

module _ (es : List Entry) (graph : IsGraph es) (places prefix rest : List ℕ) (distinct : IsDistinct places) (split : places ≡ prefix ++ rest) where
  arg-fits : (w : Width) (a : ℕ) → (constant_at es a ≡ None → Contains prefix a) → width_at es a ≡ w → FitsArg (map (width_at es) prefix) w (arg_of es places a)
  arg-fits w a known same = by (constant_at es a) refl
    where
      by : (o : Option ℕ) → constant_at es a ≡ o → FitsArg (map (width_at es) prefix) w (arg_for o (variable_of places a))
      by (Some n) e = subst (λ (v : Width). IsWord v n) same (constant_at-word es a n graph e)
      by None e =
          let f = found places prefix rest a distinct split (known e) in
          (omega (arith, length-map prefix (width_at es), f.0), map-at (width_at es) prefix (variable_of places a) a W1 f.0 f.1 ∙ same)

  cut-fits : (w : Width) (a : ℕ) → constant_at es a ≡ None → Contains prefix a → bits w < bits (width_at es a) → FitsCut (map (width_at es) prefix) w (arg_of es places a)
  cut-fits w a none c wider =
      let f = found places prefix rest a distinct split c in
      subst (λ (o : Option ℕ). FitsCut (map (width_at es) prefix) w (arg_for o (variable_of places a))) (sym none) (
        omega (arith, length-map prefix (width_at es), f.0),
        subst (λ (v : Width). bits w < bits v) (sym (map-at (width_at es) prefix (variable_of places a) a W1 f.0 f.1)) wider,
      )

  arg-value : (inputs : List ℕ) (w : Width) (a : ℕ) → (constant_at es a ≡ None → Contains prefix a) → (arg_word (map (word_at (words es inputs)) prefix) w (arg_of es places a)).value ≡ value es inputs a
  arg-value inputs w a known = by (constant_at es a) refl
    where
      by : (o : Option ℕ) → constant_at es a ≡ o → (arg_word (map (word_at (words es inputs)) prefix) w (arg_for o (variable_of places a))).value ≡ value es inputs a
      by (Some n) e = sym (value-constant es inputs graph a n e)
      by None e =
          let f = found places prefix rest a distinct split (known e) in
          ap (λ (u : Word). u.value) (map-at (word_at (words es inputs)) prefix (variable_of places a) a (record { width = W1; value = 0 }) f.0 f.1)

  module _ (k : ℕ) (e : Entry) (s : slice_get es k ≡ Some e) (over : IsOver es prefix e) where
    after : IsEntryAfter (take k es) e
    after = AreEntries-at [] es k e graph.entries s

    argument-width : (j : ℕ) → j < arity e.op → width_at es (get_or e.args j 0) ≡ width_at (take k es) (get_or e.args j 0)
    argument-width j h = width_at-take es k (get_or e.args j 0) (after.fits.used j h)

    widths-fit : (op : Op) → e.op ≡ op → WidthsFit op e.width (width_at (take k es) (get_or e.args 0 0)) (width_at (take k es) (get_or e.args 1 0)) (width_at (take k es) (get_or e.args 2 0))
    widths-fit op is = subst (λ (o : Op). WidthsFit o e.width (width_at (take k es) (get_or e.args 0 0)) (width_at (take k es) (get_or e.args 1 0)) (width_at (take k es) (get_or e.args 2 0))) is after.fits.widths

    fits-at : (j : ℕ) → j < arity e.op → width_at (take k es) (get_or e.args j 0) ≡ e.width → FitsArg (map (width_at es) prefix) e.width (arg_of es places (get_or e.args j 0))
    fits-at j h same = arg-fits e.width (get_or e.args j 0) (over.known j h) (argument-width j h ∙ same)

    two : arity e.op ≡ 2 → (width_at (take k es) (get_or e.args 0 0) ≡ e.width) × (width_at (take k es) (get_or e.args 1 0) ≡ e.width) →
        FitsArg (map (width_at es) prefix) e.width (arg_of es places (get_or e.args 0 0)) × FitsArg (map (width_at es) prefix) e.width (arg_of es places (get_or e.args 1 0))
    two n f = (fits-at 0 (omega arith) f.0, fits-at 1 (omega arith) f.1)

    operation-fits : (op : Op) → e.op ≡ op → FitsOperation (map (width_at es) prefix) op e.width (arg_of es places (get_or e.args 0 0)) (second_for op (arg_of es places (get_or e.args 1 0)))
    operation-fits Add is = two (ap arity is) (widths-fit Add is)
    operation-fits Sub is = two (ap arity is) (widths-fit Sub is)
    operation-fits Mul is = two (ap arity is) (widths-fit Mul is)
    operation-fits Neg is = let n : arity e.op ≡ 1 = ap arity is in (fits-at 0 (omega arith) (widths-fit Neg is), refl)
    operation-fits Trunc is =
        let n : arity e.op ≡ 1 = ap arity is in
        let one : 0 < arity e.op = omega arith in
        let live : list_all (λ a. is_some (constant_at (take k es) a)) (take 1 e.args) ≡ false =
        subst (λ (m : ℕ). (nat_lt 0 m && list_all (λ a. is_some (constant_at (take k es) a)) (take m e.args)) ≡ false) n after.live in
        let none : constant_at es (get_or e.args 0 0) ≡ None = ap constant_entry (entry-take es k (get_or e.args 0 0) (after.fits.used 0 one)) ∙ one_live (take k es) e.args after.fits.three live in
        (cut-fits e.width (get_or e.args 0 0) none (over.known 0 one none) (subst (λ (v : Width). bits e.width < bits v) (sym (argument-width 0 one)) (widths-fit Trunc is)), refl)
    operation-fits _ is = absurd (subst IsRingOperation is over.operation)

    gate-fits : FitsAfter (map (width_at es) prefix) (gate_for es places e)
    gate-fits = record { wide = over.wide; operation = operation-fits e.op refl }

    computed : (inputs : List ℕ) (from from2 : Width) (op : Op) → e.op ≡ op →
        op_value op e.width from (arg_word (map (word_at (words es inputs)) prefix) e.width (arg_of es places (get_or e.args 0 0))).value (arg_word (map (word_at (words es inputs)) prefix) e.width (second_for op (arg_of es places (get_or e.args 1 0)))).value 0
        ≡ op_value op e.width from2 (first_operand op (get_or inputs e.number 0) e.number (value es inputs (get_or e.args 0 0))) (value es inputs (get_or e.args 1 0)) (value es inputs (get_or e.args 2 0))
    computed inputs from from2 op is = by op is
      where
        v : (j : ℕ) → j < arity e.op → (arg_word (map (word_at (words es inputs)) prefix) e.width (arg_of es places (get_or e.args j 0))).value ≡ value es inputs (get_or e.args j 0)
        v j h = arg-value inputs e.width (get_or e.args j 0) (over.known j h)

        by : (o : Op) → e.op ≡ o →
            op_value o e.width from (arg_word (map (word_at (words es inputs)) prefix) e.width (arg_of es places (get_or e.args 0 0))).value (arg_word (map (word_at (words es inputs)) prefix) e.width (second_for o (arg_of es places (get_or e.args 1 0)))).value 0
            ≡ op_value o e.width from2 (first_operand o (get_or inputs e.number 0) e.number (value es inputs (get_or e.args 0 0))) (value es inputs (get_or e.args 1 0)) (value es inputs (get_or e.args 2 0))
        by Add i = let n : arity e.op ≡ 2 = ap arity i in rw (v 0 (omega arith), v 1 (omega arith)) refl
        by Sub i = let n : arity e.op ≡ 2 = ap arity i in rw (v 0 (omega arith), v 1 (omega arith)) refl
        by Mul i = let n : arity e.op ≡ 2 = ap arity i in rw (v 0 (omega arith), v 1 (omega arith)) refl
        by Neg i = let n : arity e.op ≡ 1 = ap arity i in rw (v 0 (omega arith)) refl
        by Trunc i = let n : arity e.op ≡ 1 = ap arity i in rw (v 0 (omega arith)) refl
        by _ i = absurd (subst IsRingOperation i over.operation)

    gate-computes : (inputs : List ℕ) → InputsFit es inputs → gate_word (map (word_at (words es inputs)) prefix) (gate_for es places e) ≡ word_at (words es inputs) k
    gate-computes inputs fit =
        word-equal (gate_word (map (word_at (words es inputs)) prefix) (gate_for es places e)) (word_at (words es inputs) k)
        (sym (Carries-width es (words es inputs) k (carries es inputs graph fit) ∙ width_at-get es k e s))
        (computed inputs (arg_word (map (word_at (words es inputs)) prefix) e.width (arg_of es places (get_or e.args 0 0))).width (word_at (words es inputs) (get_or e.args 0 0)).width e.op refl ∙ sym (value-entry es inputs graph k e s))

-- the gate of an entry is that of its place
pub gate_at-entry : (es entries : List Entry) (places : List ℕ) (k : ℕ) (d : Entry) → entries ≡ es → k < length es → gate_for es places (get_or entries k d) ≡ gate_at es places k
gate_at-entry es entries places k d is h = rw is (ap (gate_of_entry es places) (sym (slice_get-get_or es k d h)))

-- ---- a part

-- the words of nodes, as inputs
inputs_of-words : (es : List Entry) (inputs : List ℕ) (ks : List ℕ) → IsGraph es → InputsFit es inputs → inputs_of (map (width_at es) ks) (map (value es inputs) ks) ≡ map (word_at (words es inputs)) ks
inputs_of-words es inputs [] graph fit = refl
inputs_of-words es inputs (k ∷ ks) graph fit =
    ap (λ (w : Word). w ∷ inputs_of (map (width_at es) ks) (map (value es inputs) ks))
    (word-equal (record { width = width_at es k; value = value es inputs k }) (word_at (words es inputs) k) (sym (Carries-width es (words es inputs) k (carries es inputs graph fit))) refl)
    ∙ ap (λ (l : List Word). word_at (words es inputs) k ∷ l) (inputs_of-words es inputs ks graph fit)

no_entry : Entry
no_entry = record { op = Add; width = W1; args = []; number = 0; region = 0 }

module _ (es : List Entry) (nodes ins outs : List ℕ) (part : IsPart es nodes ins outs) (graph : IsGraph es) where
  -- the gates
  abbrev pub gates : List RingGate
  gates = map (gate_at es (ins ++ nodes)) nodes

  split-at : (i : ℕ) → ins ++ nodes ≡ (ins ++ take i nodes) ++ drop i nodes
  split-at i = ap (λ (l : List ℕ). ins ++ l) (sym (take-append-drop i nodes)) ∙ sym (append_assoc ins (take i nodes) (drop i nodes))

  places-next : (i : ℕ) → i < length nodes → ins ++ take (i + 1) nodes ≡ (ins ++ take i nodes) ++ get_or nodes i 0 ∷ []
  places-next i h = ap (λ (l : List ℕ). ins ++ l) (take_more nodes i 0 h) ∙ sym (append_assoc ins (take i nodes) (get_or nodes i 0 ∷ []))

  module _ (i : ℕ) (h : i < length nodes) where
    stands : get_or nodes i 0 < length es
    stands = subst (λ (k : ℕ). k < length es) (get_or-append-add ins nodes i 0) (part.stand (length ins + i) 0 (omega (arith, length-append ins nodes)))

    abbrev entry : Entry
    entry = get_or es (get_or nodes i 0) no_entry

    entry-at : slice_get es (get_or nodes i 0) ≡ Some entry
    entry-at = slice_get-get_or es (get_or nodes i 0) no_entry stands

    over : IsOver es (ins ++ take i nodes) entry
    over = part.over i entry h entry-at

    abbrev gate : RingGate
    gate = gate_for es (ins ++ nodes) entry

    gates-next : take (i + 1) gates ≡ take i gates ++ gate ∷ []
    gates-next =
        take_more gates i gate (omega (arith, length-map nodes (gate_at es (ins ++ nodes))))
        ∙ ap (λ (g : RingGate). take i gates ++ g ∷ [])
        (map-at (gate_at es (ins ++ nodes)) nodes i (get_or nodes i 0) gate h (get_or_any nodes i (get_or nodes i 0) 0 h) ∙ ap (gate_of_entry es (ins ++ nodes)) entry-at)

    gate-after : FitsAfter (map (width_at es) (ins ++ take i nodes)) gate
    gate-after = gate-fits es graph (ins ++ nodes) (ins ++ take i nodes) (drop i nodes) part.distinct (split-at i) (get_or nodes i 0) entry entry-at over

    widths-next : map (width_at es) ins ++ gate_widths (take i gates) ≡ map (width_at es) (ins ++ take i nodes) →
        map (width_at es) ins ++ gate_widths (take (i + 1) gates) ≡ map (width_at es) (ins ++ take (i + 1) nodes)
    widths-next before =
        ap (λ (gs : List RingGate). map (width_at es) ins ++ gate_widths gs) gates-next
        ∙ ap (λ (l : List Width). map (width_at es) ins ++ l) (map-append (λ (g : RingGate). g.width) (take i gates) (gate ∷ []))
        ∙ sym (append_assoc (map (width_at es) ins) (gate_widths (take i gates)) (gate.width ∷ []))
        ∙ ap (λ (l : List Width). l ++ gate.width ∷ []) before
        ∙ ap (λ (w : Width). map (width_at es) (ins ++ take i nodes) ++ w ∷ []) (sym (width_at-get es (get_or nodes i 0) entry entry-at))
        ∙ sym (map-append (width_at es) (ins ++ take i nodes) (get_or nodes i 0 ∷ []))
        ∙ ap (map (width_at es)) (sym (places-next i h))

    are-next : map (width_at es) ins ++ gate_widths (take i gates) ≡ map (width_at es) (ins ++ take i nodes) → AreGates (map (width_at es) ins) (take i gates) →
        AreGates (map (width_at es) ins) (take (i + 1) gates)
    are-next before are = rw gates-next (AreGates-push (map (width_at es) ins) (take i gates) gate are (rw before gate-after))

    run-next : (inputs : List ℕ) → InputsFit es inputs → (start : List Word) → run start (take i gates) ≡ map (word_at (words es inputs)) (ins ++ take i nodes) →
        run start (take (i + 1) gates) ≡ map (word_at (words es inputs)) (ins ++ take (i + 1) nodes)
    run-next inputs fit start before =
        ap (run start) gates-next
        ∙ run-push start (take i gates) gate
        ∙ ap (λ (ws : List Word). ws ++ gate_word ws gate ∷ []) before
        ∙ ap (λ (w : Word). map (word_at (words es inputs)) (ins ++ take i nodes) ++ w ∷ [])
        (gate-computes es graph (ins ++ nodes) (ins ++ take i nodes) (drop i nodes) part.distinct (split-at i) (get_or nodes i 0) entry entry-at over inputs fit)
        ∙ sym (map-append (word_at (words es inputs)) (ins ++ take i nodes) (get_or nodes i 0 ∷ []))
        ∙ ap (map (word_at (words es inputs))) (sym (places-next i h))

  widths-upto : (i : ℕ) → i ≤ length nodes → map (width_at es) ins ++ gate_widths (take i gates) ≡ map (width_at es) (ins ++ take i nodes)
  widths-upto zero h = append-nil (map (width_at es) ins) ∙ ap (map (width_at es)) (sym (append-nil ins))
  widths-upto (suc i) h = subst (λ (n : ℕ). map (width_at es) ins ++ gate_widths (take n gates) ≡ map (width_at es) (ins ++ take n nodes)) (add-one i) (widths-next i (omega arith) (widths-upto i (omega arith)))

  are-upto : (i : ℕ) → i ≤ length nodes → AreGates (map (width_at es) ins) (take i gates)
  are-upto zero h = tt
  are-upto (suc i) h = subst (λ (n : ℕ). AreGates (map (width_at es) ins) (take n gates)) (add-one i) (are-next i (omega arith) (widths-upto i (omega arith)) (are-upto i (omega arith)))

  run-upto : (inputs : List ℕ) → InputsFit es inputs → (i : ℕ) → i ≤ length nodes →
      run (inputs_of (map (width_at es) ins) (map (value es inputs) ins)) (take i gates) ≡ map (word_at (words es inputs)) (ins ++ take i nodes)
  unfolding run
  run-upto inputs fit zero h = inputs_of-words es inputs ins graph fit ∙ ap (map (word_at (words es inputs))) (sym (append-nil ins))
  run-upto inputs fit (suc i) h =
      subst (λ (n : ℕ). run (inputs_of (map (width_at es) ins) (map (value es inputs) ins)) (take n gates) ≡ map (word_at (words es inputs)) (ins ++ take n nodes)) (add-one i)
      (run-next i (omega arith) inputs fit (inputs_of (map (width_at es) ins) (map (value es inputs) ins)) (run-upto inputs fit i (omega arith)))

  -- the outputs' variables carry their words
  outs-words : (ws : List Word) (os : List ℕ) → All (Contains (ins ++ nodes)) os → map (word_at (map (word_at ws) (ins ++ nodes))) (map (variable_of (ins ++ nodes)) os) ≡ map (word_at ws) os
  outs-words ws [] among = refl
  outs-words ws (o ∷ os) among =
      let f = found (ins ++ nodes) (ins ++ nodes) [] o part.distinct (sym (append-nil (ins ++ nodes))) (among 0 o (omega arith)) in
      ap (λ (w : Word). w ∷ map (word_at (map (word_at ws) (ins ++ nodes))) (map (variable_of (ins ++ nodes)) os))
      (map-at (word_at ws) (ins ++ nodes) (variable_of (ins ++ nodes) o) o (record { width = W1; value = 0 }) f.0 f.1)
      ∙ ap (λ (l : List Word). word_at ws o ∷ l) (outs-words ws os (λ j d within. among (suc j) d (omega arith)))

  outs-stand : (os : List ℕ) → All (Contains (ins ++ nodes)) os → (m : ℕ) → m ≡ length (ins ++ nodes) → All (λ k. k < m) (map (variable_of (ins ++ nodes)) os)
  outs-stand [] among m is k d within = absurd (omega arith)
  outs-stand (o ∷ os) among m is zero d within = omega (arith, is, (found (ins ++ nodes) (ins ++ nodes) [] o part.distinct (sym (append-nil (ins ++ nodes))) (among 0 o (omega arith))).0)
  outs-stand (o ∷ os) among m is (suc k) d within = outs-stand os (λ j e inside. among (suc j) e (omega arith)) m is k d (omega arith)

  abbrev pub ring : Ring
  ring = record { ins = map (width_at es) ins; gates = gates; outs = map (variable_of (ins ++ nodes)) outs }

  pub part-ring : IsRing ring
  part-ring = record {
    gates = rw (take_all (length nodes) gates (omega (arith, length-map nodes (gate_at es (ins ++ nodes))))) at (are-upto (length nodes) (omega arith));
    outs = outs-stand outs part.among (length (map (width_at es) ins) + length gates)
        (omega (arith, length-map ins (width_at es), length-map nodes (gate_at es (ins ++ nodes)), length-append ins nodes));
    limit = omega (arith, length-map nodes (gate_at es (ins ++ nodes)), length-append ins nodes, part.few);
  }

  pub part-outputs : (inputs : List ℕ) → InputsFit es inputs → outputs ring (map (value es inputs) ins) ≡ map (word_at (words es inputs)) outs
  part-outputs inputs fit =
      let all : run (inputs_of (map (width_at es) ins) (map (value es inputs) ins)) gates ≡ map (word_at (words es inputs)) (ins ++ nodes) =
      ap (run (inputs_of (map (width_at es) ins) (map (value es inputs) ins))) (sym (take_all (length nodes) gates (omega (arith, length-map nodes (gate_at es (ins ++ nodes))))))
      ∙ run-upto inputs fit (length nodes) (omega arith)
      ∙ ap (λ (l : List ℕ). map (word_at (words es inputs)) (ins ++ l)) (take_all (length nodes) nodes (omega arith)) in
      ap (λ (ws : List Word). map (word_at ws) (map (variable_of (ins ++ nodes)) outs)) all ∙ outs-words (words es inputs) outs part.among

  -- the circuit made of such lists
  module _ (keys : List ℕ) (widths : List Width) (made : List RingGate) (variables : List ℕ) (places : keys ≡ ins ++ nodes) (w : widths ≡ map (width_at es) ins) (g : made ≡ map (gate_at es keys) nodes)
      (v : variables ≡ map (variable_of keys) outs) where
    is_ring : record { ins = widths; gates = made; outs = variables } ≡ ring
    is_ring =
        ap (λ (l : List Width). record { ins = l; gates = made; outs = variables }) w
        ∙ ap (λ (l : List RingGate). record { ins = map (width_at es) ins; gates = l; outs = variables }) (g ∙ ap (λ (l : List ℕ). map (gate_at es l) nodes) places)
        ∙ ap (λ (l : List ℕ). record { ins = map (width_at es) ins; gates = gates; outs = l }) (v ∙ ap (λ (l : List ℕ). map (variable_of l) outs) places)

    pub made-ring : IsRing (record { ins = widths; gates = made; outs = variables })
    made-ring = subst IsRing (sym is_ring) part-ring

    pub made-outputs : (inputs : List ℕ) → InputsFit es inputs → outputs (record { ins = widths; gates = made; outs = variables }) (map (value es inputs) ins) ≡ map (word_at (words es inputs)) outs
    made-outputs inputs fit = ap (λ (r : Ring). outputs r (map (value es inputs) ins)) is_ring ∙ part-outputs inputs fit

-- the nodes of a part stand
pub nodes-stand : (ins nodes : List ℕ) (n : ℕ) → All (λ k. k < n) (ins ++ nodes) → All (λ k. k < n) nodes
nodes-stand ins nodes n stand k d h = subst (λ (x : ℕ). x < n) (get_or-append-add ins nodes k d) (stand (length ins + k) d (omega (arith, length-append ins nodes)))
