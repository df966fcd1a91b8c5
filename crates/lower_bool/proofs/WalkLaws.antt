-- Laws of the walk over the nodes of a part: where rows stand, and that each node's row stays what it is.
use Rattle.std.proofs.Common.{◌≡◌, ◌⊎◌, inl, inr, ℕ, zero, suc, ◌+◌, ◌-◌, ◌*◌, ◌<◌, ◌≤◌, Bool, true, false, not, cond, eqb, List, [], ◌∷◌, ◌++◌, Option, Some, None, is_some, get_or, take, drop, length, map, slice_get, refl, sym, ap, ◌∙◌, subst, arith, append_assoc, length-append}
use Rattle.std.specs.Prelude.{IfErr, Result, unwrap_or}
use Rattle.std.specs.List.{All, Contains, flat_map, list_any, position_or_len, range_with_len, sum_by}
use Rattle.std.proofs.Math.Nat.{mod-eq_of_lt}
use Rattle.std.proofs.Math.Seq.{take-append_seam, drop-append-add}
use Rattle.std.proofs.lemmas.Bool.{eqb-true, eq-eqb, lt-ltb}
use Rattle.std.proofs.lemmas.List.{append-nil, get_or_append_left, get_or-append-add, get_or_push, length-map, length-take-le, length_push, take-append-drop, take_more}
use Rattle.std.proofs.lemmas.List.FromFn.{length-range_with_len, map-range_with_len_more}
use Rattle.std.proofs.lemmas.List.Sums.{sum_by-cons, sum_by_more_le}
use Rattle.std.proofs.lemmas.Grind.{flat_map-append}
use Rattle.std.proofs.lemmas.Map.Views.{Contains-from_any}
use Rattle.hy_bits.specs.declared.op.Op.{Op}
use Rattle.hy_bits.specs.declared.op.Op.TheVariants.{In, Const}
use Rattle.hy_bits.specs.Bits.{bit, low_bits, number}
use Rattle.hy_bits.specs.Op.{op_value}
use Rattle.hy_bits.specs.Words.{bits}
use Rattle.hy_bits.proofs.BitLaws.{length-low_bits, number-low_bits}
use Rattle.word_graph.specs.declared.entry.Entry.{Entry}
use Rattle.word_graph.specs.Meaning.{InputsFit, value, word_at, words}
use Rattle.word_graph.specs.Shape.{IsEntryAfter, IsGraph, constant_at}
use Rattle.word_graph.specs.Size.{entry_size, size_at}
use Rattle.word_graph.specs.Term.{argument, arity, taken_by, term_of, width_at}
use Rattle.word_graph.proofs.EntryLaws.{AreEntries-at, arity-three, constant_at-word, width_at-get, width_at-take}
use Rattle.word_graph.proofs.OpLaws.{first_operand-argument, op_value-used}
use Rattle.word_graph.proofs.RunLaws.{Carries-width, carries, value-constant, value-entry, value-word}
use Rattle.module_split.specs.Modules.{IsPiece, is_inner_op}
use Rattle.module_split.specs.Steps.{IsDistinct}
use Rattle.gate_net.specs.declared.literal.Lit.{Lit}
use Rattle.gate_net.specs.declared.netlist.Form.{Form}
use Rattle.gate_net.specs.declared.netlist.Form.TheVariants.{Shallow}
use Rattle.gate_net.specs.declared.netlist.GateFault.{GateFault}
use Rattle.gate_net.specs.Circuit.{Circuit}
use Rattle.gate_net.specs.Growth.{Grows, StopsWithin}
use Rattle.gate_net.specs.Spelled.{AllStand, AllWithin, constants_of, spelled, variables_from}
use Rattle.gate_net.proofs.ListLaws.{AllStand-Grows, AllWithin-Grows, values-Grows}
use Rattle.gate_net.proofs.SpelledLaws.{AllStand-constants, AllStand-inputs, AllWithin-constants, AllWithin-inputs, spelled-constants, values-inputs}
use Rattle.lower_bool.specs.declared.call.Call.{Call}
use Rattle.lower_bool.specs.Operations.{AreOperands, IsAnswer, RowsStand, RowsWithin, and_limit, call_ands, call_size, call_stated, row_at}
use Rattle.lower_bool.specs.Parts.{bits_at, bits_of_nodes, node_bits}
use Rattle.lower_bool.specs.Stated.{EndsWithin, HaveDepths, depth_at, stated_at, stated_entry}
use Rattle.lower_bool.specs.Stated.EndsPath.{onward, starts}
use Rattle.lower_bool.specs.Walk.{AreInputs, AreLowered, HoldWords, IsKnown, IsLowered, Part, ands_limit_at, call_of, operand_for, operand_row, place_of, row_of_node}
use Rattle.lower_bool.proofs.OperationLaws.{AllWithin-le, bits_few}

-- ---- where a node stands among the keys

abbrev first_of : ℕ → List ℕ → ℕ
first_of k keys = position_or_len (λ p. eqb k p) keys

first-of : (k : ℕ) (keys : List ℕ) (j : ℕ) → j < length keys → get_or keys j k ≡ k → (first_of k keys < length keys) × (get_or keys (first_of k keys) 0 ≡ k)
first-of k [] j h at = absurd (omega arith)
first-of k (x ∷ xs) zero h at = by (eqb k x) (eq-eqb k x (sym at))
  where
    by : (b : Bool) → b ≡ true → (cond (not b) (1 + first_of k xs) 0 < suc (length xs)) × (get_or (x ∷ xs) (cond (not b) (1 + first_of k xs) 0) 0 ≡ k)
    by true e = (omega arith, at)
    by false e = absurd (cc)
first-of k (x ∷ xs) (suc j) h at = by (eqb k x) refl (first-of k xs j (omega arith) at)
  where
    by : (b : Bool) → eqb k x ≡ b → (first_of k xs < length xs) × (get_or xs (first_of k xs) 0 ≡ k) → (cond (not b) (1 + first_of k xs) 0 < suc (length xs)) × (get_or (x ∷ xs) (cond (not b) (1 + first_of k xs) 0) 0 ≡ k)
    by true e r = (omega arith, sym (eqb-true k x e))
    by false e r =
        let next : 1 + first_of k xs ≡ suc (first_of k xs) = omega arith in
        (omega (arith, r.0), ap (λ (i : ℕ). get_or (x ∷ xs) i 0) next ∙ r.1)

pub place-found : (keys : List ℕ) (k : ℕ) → Contains keys k → (place_of keys k < length keys) × (get_or keys (place_of keys k) 0 ≡ k)
place-found keys k c =
    let r = first-of k keys c.0 c.1 c.2 in
    let is : place_of keys k ≡ first_of k keys = rw (lt-ltb (first_of k keys) (length keys) r.0) refl in
    (omega (arith, is, r.0), ap (λ (i : ℕ). get_or keys i 0) is ∙ r.1)

get_or_any : (xs : List ℕ) (k a b : ℕ) → k < length xs → get_or xs k a ≡ get_or xs k b
get_or_any [] k a b h = absurd (omega arith)
get_or_any (x ∷ xs) zero a b h = refl
get_or_any (x ∷ xs) (suc k) a b h = get_or_any xs k a b (omega arith)

-- one key more, which is new
pub keys-more : (old more keys new : List ℕ) (i d : ℕ) → i < length more → IsDistinct (old ++ more) → keys ≡ old ++ take i more →
    new ≡ cond (list_any (λ p. eqb (get_or more i d) p) keys) keys (keys ++ get_or more i d ∷ []) → new ≡ keys ++ get_or more i d ∷ []
keys-more old more keys new i d within distinct inv made = made ∙ by (list_any (λ p. eqb (get_or more i d) p) keys) refl
  where
    apart : Contains (old ++ take i more) (get_or more i d) → ⊥
    apart c =
        let few : length (take i more) ≡ i = length-take-le i more (omega arith) in
        let long : length (old ++ take i more) ≡ length old + i = omega (arith, length-append old (take i more)) in
        let all : length (old ++ more) ≡ length old + length more = length-append old more in
        let split : old ++ more ≡ (old ++ take i more) ++ drop i more = ap (λ (l : List ℕ). old ++ l) (sym (take-append-drop i more)) ∙ sym (append_assoc old (take i more) (drop i more)) in
        let left : get_or (old ++ more) c.0 0 ≡ get_or more i d = ap (λ (l : List ℕ). get_or l c.0 0) split ∙ get_or_append_left (old ++ take i more) (drop i more) 0 c.0 c.1 ∙ get_or_any (old ++ take i more) c.0 0 (get_or more i d) c.1 ∙ c.2 in
        let right : get_or (old ++ more) (length old + i) 0 ≡ get_or more i d = get_or-append-add old more i 0 ∙ get_or_any more i 0 d within in
        distinct c.0 (length old + i) (omega (arith, c.1)) (omega arith) (left ∙ sym right)

    by : (b : Bool) → list_any (λ p. eqb (get_or more i d) p) keys ≡ b → cond b keys (keys ++ get_or more i d ∷ []) ≡ keys ++ get_or more i d ∷ []
    by true e = absurd (apart (subst (λ (l : List ℕ). Contains l (get_or more i d)) inv (Contains-from_any {eq = eqb} (λ x y h. eqb-true x y h) (get_or more i d) keys e)))
    by false e = refl

-- ---- rows as the circuit grows

pub IsLowered-Grows : (p : Part) {m n : Circuit} {g a : ℕ} (k : ℕ) (ls : List Lit) → Grows m n g a → IsLowered p m k ls → IsLowered p n k ls
IsLowered-Grows p {m} k ls grows l = record {
  stand = AllStand-Grows grows ls l.stand;
  count = l.count;
  spells = λ inputs fit. ap number (values-Grows grows (bits_of_nodes p.entries inputs p.ins) ls l.stand) ∙ l.spells inputs fit;
  depth = λ shallow depths d within. AllWithin-Grows grows d ls l.stand (l.depth shallow depths d within);
}

before_or_last : (i n : ℕ) → i < n + 1 → (i < n) ⊎ (n ≡ i)
before_or_last i n h = grind arith

-- one row more
pub AreLowered-push : (p : Part) {m n : Circuit} {g a : ℕ} (keys keys' : List ℕ) (rows rows' : List (List Lit)) (k : ℕ) (ls : List Lit) → keys' ≡ keys ++ k ∷ [] → rows' ≡ rows ++ ls ∷ [] →
    Grows m n g a → AreLowered p m keys rows → IsLowered p n k ls → AreLowered p n keys' rows'
AreLowered-push p {m} {n} keys keys' rows rows' k ls is_keys is_rows grows l here = record {
  count = ap length is_rows ∙ length_push rows ls ∙ ap (λ (j : ℕ). j + 1) l.count ∙ sym (length_push keys k) ∙ sym (ap length is_keys);
  each = λ i h. rw (is_keys, is_rows) (each i (omega (arith, h, ap length is_keys, length_push keys k)));
}
  where
    each : (i : ℕ) → i < length keys + 1 → IsLowered p n (get_or (keys ++ k ∷ []) i 0) (row_at (rows ++ ls ∷ []) i)
    each i h = elim (before_or_last i (length keys) h) [
      | inl before ↦
          rw (get_or_append_left keys (k ∷ []) 0 i before, get_or_append_left rows (ls ∷ []) [] i (omega (arith, l.count))) (IsLowered-Grows p (get_or keys i 0) (row_at rows i) grows (l.each i before))
      | inr last ↦
          rw (get_or_push keys k 0 i last, get_or_push rows ls [] i (l.count ∙ last)) here
    ]

-- ---- operands

pub inner-takes : (op : Op) → is_inner_op op ≡ true → 0 < arity op
inner-takes In h = absurd (cc)
inner-takes Const h = absurd (cc)
inner-takes _ h = omega arith

module _ (es : List Entry) (n : Circuit) (keys : List ℕ) (rows : List (List Lit)) (k : ℕ) (known : constant_at es k ≡ None → Contains keys k) where
  operand-stand : HoldWords es n keys rows → AllStand n (operand_row es keys rows k)
  operand-stand held = by (constant_at es k) refl
    where
      by : (o : Option ℕ) → constant_at es k ≡ o → AllStand n (operand_for o (width_at es k) (row_of_node keys rows k))
      by (Some v) e = AllStand-constants n (low_bits (bits (width_at es k)) v)
      by None e = held.stand (place_of keys k) (place-found keys k (known e)).0

  operand-count : HoldWords es n keys rows → length (operand_row es keys rows k) ≡ bits_at es k
  operand-count held = by (constant_at es k) refl
    where
      by : (o : Option ℕ) → constant_at es k ≡ o → length (operand_for o (width_at es k) (row_of_node keys rows k)) ≡ bits_at es k
      by (Some v) e = length-map (low_bits (bits (width_at es k)) v) (λ b. record { code = bit b }) ∙ length-low_bits (bits (width_at es k)) v
      by None e = let f = place-found keys k (known e) in held.counts (place_of keys k) f.0 ∙ ap (bits_at es) f.1

  module _ (p : Part) (same : p.entries ≡ es) (graph : IsGraph es) (l : AreLowered p n keys rows) where
    operand-spells : (inputs : List ℕ) → InputsFit es inputs → spelled n (bits_of_nodes es inputs p.ins) (operand_row es keys rows k) ≡ value es inputs k
    operand-spells inputs fit = by (constant_at es k) refl
      where
        by : (o : Option ℕ) → constant_at es k ≡ o → spelled n (bits_of_nodes es inputs p.ins) (operand_for o (width_at es k) (row_of_node keys rows k)) ≡ value es inputs k
        by (Some v) e =
            spelled-constants n (bits_of_nodes es inputs p.ins) (bits (width_at es k)) v
            ∙ mod-eq_of_lt (constant_at-word es k v graph e)
            ∙ sym (value-constant es inputs graph k v e)
        by None e =
            let f = place-found keys k (known e) in
            let row = l.each (place_of keys k) f.0 in
            let spells = subst (λ (entries : List Entry). (xs : List ℕ) → InputsFit entries xs → spelled n (bits_of_nodes entries xs p.ins) (row_of_node keys rows k) ≡ value entries xs (get_or keys (place_of keys k) 0)) same row.spells in
            spells inputs fit ∙ ap (value es inputs) f.1

    operand-within : p.form ≡ Shallow → HaveDepths es p.nodes → (d : ℕ) → (constant_at es k ≡ None → EndsWithin es p.nodes k d) → AllWithin n d (operand_row es keys rows k)
    operand-within shallow depths d within = by (constant_at es k) refl
      where
        by : (o : Option ℕ) → constant_at es k ≡ o → AllWithin n d (operand_for o (width_at es k) (row_of_node keys rows k))
        by (Some v) e = AllWithin-le n 0 d (constants_of (low_bits (bits (width_at es k)) v)) (omega arith) (AllWithin-constants n (low_bits (bits (width_at es k)) v))
        by None e =
            let f = place-found keys k (known e) in
            let row = l.each (place_of keys k) f.0 in
            let depth = subst (λ (entries : List Entry). HaveDepths entries p.nodes → (b : ℕ) → EndsWithin entries p.nodes (get_or keys (place_of keys k) 0) b → AllWithin n b (row_of_node keys rows k)) same (row.depth shallow) in
            depth depths d (subst (λ (j : ℕ). EndsWithin es p.nodes j d) (sym f.1) (within e))

rows-at : (f : ℕ → List Lit) (xs : List ℕ) (i n : ℕ) → i < n → n ≤ length xs → row_at (map f (take n xs)) i ≡ f (get_or xs i 0)
rows-at f [] i n h few = absurd (omega arith)
rows-at f (x ∷ xs) i zero h few = absurd (omega arith)
rows-at f (x ∷ xs) zero (suc n) h few = refl
rows-at f (x ∷ xs) (suc i) (suc n) h few = rows-at f xs i n (omega arith) (omega arith)

rows-past : (f : ℕ → List Lit) (xs : List ℕ) (i n : ℕ) → n ≤ i → row_at (map f (take n xs)) i ≡ []
rows-past f [] i zero h = refl
rows-past f [] i (suc n) h = refl
rows-past f (x ∷ xs) i zero h = refl
rows-past f (x ∷ xs) zero (suc n) h = absurd (omega arith)
rows-past f (x ∷ xs) (suc i) (suc n) h = rows-past f xs i n (omega arith)

one_of : (i n : ℕ) → (i < n) ⊎ (n ≤ i)
one_of i n = grind arith

-- ---- the word of a node

module _ (es : List Entry) (graph : IsGraph es) (keys : List ℕ) (rows : List (List Lit)) (k : ℕ) (e : Entry) (here : slice_get es k ≡ Some e) (inner : is_inner_op e.op ≡ true)
    (known : (i : ℕ) → i < arity e.op → constant_at es (argument (term_of e) i) ≡ None → Contains keys (argument (term_of e) i)) where
  abbrev operands : List (List Lit)
  operands = map (operand_row es keys rows) (taken_by e)

  after : IsEntryAfter (take k es) e
  after = AreEntries-at [] es k e graph.entries here

  operand-at : (i : ℕ) → i < arity e.op → row_at operands i ≡ operand_row es keys rows (argument (term_of e) i)
  operand-at i h = rows-at (operand_row es keys rows) e.args i (arity e.op) h (omega (arith, after.fits.three, arity-three e.op))

  operand-past : (i : ℕ) → arity e.op ≤ i → row_at operands i ≡ []
  operand-past i h = rows-past (operand_row es keys rows) e.args i (arity e.op) h

  argument-width : (i : ℕ) → width_at (take k es) (argument (term_of e) i) ≡ width_at es (argument (term_of e) i)
  argument-width i = elim (one_of i (arity e.op)) [
    | inl used ↦ sym (width_at-take es k (argument (term_of e) i) (after.fits.used i used))
    | inr past ↦
        let first : argument (term_of e) 0 < length (take k es) = after.fits.used 0 (inner-takes e.op inner) in
        let none : argument (term_of e) i ≡ 0 = after.fits.unused i past in
        sym (width_at-take es k (argument (term_of e) i) (omega arith))
  ]

  abbrev call : Call
  call = call_of es e

  pub operands-words : (n : Circuit) → HoldWords es n keys rows → AreOperands call operands
  operands-words n held = record {
    third = width_at es (argument (term_of e) 2);
    fits = rw (argument-width 0, argument-width 1, argument-width 2) at after.fits.widths;
    first_word = λ h. ap length (operand-at 0 h) ∙ operand-count es n keys rows (argument (term_of e) 0) (known 0 h) held;
    second_word = λ h. ap length (operand-at 1 h) ∙ operand-count es n keys rows (argument (term_of e) 1) (known 1 h) held;
    third_word = λ h. ap length (operand-at 2 h) ∙ operand-count es n keys rows (argument (term_of e) 2) (known 2 h) held;
  }

  pub operands-stand : (n : Circuit) → HoldWords es n keys rows → RowsStand n operands
  operands-stand n held i = elim (one_of i (arity e.op)) [
    | inl used ↦ rw (operand-at i used) (operand-stand es n keys rows (argument (term_of e) i) (known i used) held)
    | inr past ↦ rw (operand-past i past) (λ j d h. absurd (omega arith))
  ]

  module _ (p : Part) (same : p.entries ≡ es) (old new : Circuit) (l : AreLowered p old keys rows) (answer : List Lit) (a : IsAnswer p.form call old new operands answer) (among : Contains p.nodes k) where
    node-count : length answer ≡ bits_at es k
    node-count = a.count ∙ ap bits (sym (width_at-get es k e here))

    node-spells : (inputs : List ℕ) → InputsFit es inputs → spelled new (bits_of_nodes es inputs p.ins) answer ≡ value es inputs k
    node-spells inputs fit =
        let xs : List Bool = bits_of_nodes es inputs p.ins in
        let operand : (i : ℕ) → i < arity e.op → spelled old xs (row_at operands i) ≡ value es inputs (argument (term_of e) i) =
        λ i h. ap (spelled old xs) (operand-at i h) ∙ operand-spells es old keys rows (argument (term_of e) i) (known i h) p same graph l inputs fit in
        a.spells xs
        ∙ ap (λ (v : ℕ). op_value e.op e.width (width_at es (argument (term_of e) 0)) v (spelled old xs (row_at operands 1)) (spelled old xs (row_at operands 2)))
        (operand 0 (inner-takes e.op inner) ∙ sym (first_operand-argument e.op (get_or inputs e.number 0) e.number (value es inputs (argument (term_of e) 0)) (inner-takes e.op inner)))
        ∙ op_value-used e.op e.width (width_at es (argument (term_of e) 0)) (word_at (words es inputs) (argument (term_of e) 0)).width _ _ (value es inputs (argument (term_of e) 1)) _ (value es inputs (argument (term_of e) 2))
        (λ h. sym (Carries-width es (words es inputs) (argument (term_of e) 0) (carries es inputs graph fit))) (operand 1) (operand 2)
        ∙ sym (value-entry es inputs graph k e here)

    some_depth : (o : Option ℕ) → is_some o ≡ true → (s : ℕ) × (o ≡ Some s)
    some_depth (Some s) h = (s, refl)
    some_depth None h = absurd (cc)

    node-depth : p.form ≡ Shallow → HaveDepths es p.nodes → (d : ℕ) → EndsWithin es p.nodes k d → AllWithin new d answer
    node-depth shallow depths d within =
        let has : is_some (stated_at es k).depth ≡ true = subst (λ (j : ℕ). is_some (stated_at es j).depth ≡ true) among.2 (depths among.0 k among.1) in
        let s = some_depth (stated_at es k).depth has in
        let is : depth_at es k ≡ s.0 = ap (λ (o : Option ℕ). unwrap_or o 0) s.1 in
        let stated_is : (call_stated call).depth ≡ Some s.0 = ap (λ (o : Option Entry). (stated_entry es o).depth) (sym here) ∙ s.1 in
        let least : s.0 ≤ d = omega (arith, within (depth_at es k) (starts k (depth_at es k) among refl), is) in
        let low : RowsWithin old (d - s.0) operands = λ i. elim (one_of i (arity e.op)) [
          | inl used ↦
              rw (operand-at i used) (operand-within es old keys rows (argument (term_of e) i) (known i used) p same graph l shallow depths (d - s.0) (λ none sum path.
              omega (arith, is, within (sum + depth_at es k) (onward k (sum + depth_at es k) (argument (term_of e) i) sum among (e, i, here, used, refl) path refl))))
          | inr past ↦ rw (operand-past i past) (λ j x h. absurd (omega arith))
        ] in
        AllWithin-le new (d - s.0 + s.0) d answer (omega (arith, least)) (a.depth shallow s.0 (d - s.0) stated_is low)

    pub node-lowered : IsLowered p new k answer
    node-lowered = subst (λ (entries : List Entry). IsLowered (record p { entries = entries }) new k answer) (sym same) (record { stand = a.stand; count = node-count; spells = node-spells; depth = node-depth })

-- ---- inputs

length-node_bits : (es : List Entry) (inputs : List ℕ) (k : ℕ) → length (node_bits es inputs k) ≡ bits_at es k
length-node_bits es inputs k = length-low_bits (bits_at es k) (value es inputs k)

pub length-nodes : (es : List Entry) (inputs ks : List ℕ) → length (bits_of_nodes es inputs ks) ≡ sum_by (bits_at es) ks
length-nodes es inputs [] = refl
length-nodes es inputs (k ∷ ks) =
    omega (arith, length-append (node_bits es inputs k) (bits_of_nodes es inputs ks), length-node_bits es inputs k, length-nodes es inputs ks, sum_by-cons (bits_at es) k ks)

piece : {X : Type 0} (f : ℕ → List X) (xs : List ℕ) (i : ℕ) → i < length xs → take (length (f (get_or xs i 0))) (drop (length (flat_map f (take i xs))) (flat_map f xs)) ≡ f (get_or xs i 0)
piece f [] i h = absurd (omega arith)
piece f (x ∷ xs) zero h = take-append_seam (f x) (flat_map f xs)
piece f (x ∷ xs) (suc i) h =
    ap (λ (n : ℕ). take (length (f (get_or xs i 0))) (drop n (f x ++ flat_map f xs))) (length-append (f x) (flat_map f (take i xs)))
    ∙ ap (take (length (f (get_or xs i 0)))) (drop-append-add (f x) (flat_map f xs) (length (flat_map f (take i xs))))
    ∙ piece f xs i (omega arith)

module _ (es : List Entry) (graph : IsGraph es) (p : Part) (same : p.entries ≡ es) (n : Circuit) (rows : List (List Lit)) (inputs_are : n.ins ≡ sum_by (bits_at es) p.ins)
    (stand : All (λ k. k < length es) p.ins) (r : AreInputs es p.ins (length p.ins) rows) where
  module _ (i : ℕ) (h : i < length p.ins) where
    abbrev key : ℕ
    key = get_or p.ins i 0

    abbrev first : ℕ
    first = sum_by (bits_at es) (take i p.ins)

    within : first + bits_at es key ≤ n.ins
    within = omega (arith, inputs_are, sum_by_more_le (bits_at es) p.ins i 0 h)

    input-spells : (xs : List ℕ) → InputsFit es xs → spelled n (bits_of_nodes es xs p.ins) (variables_from first (bits_at es key)) ≡ value es xs key
    input-spells xs fit =
        let long : length (bits_of_nodes es xs p.ins) ≡ n.ins = length-nodes es xs p.ins ∙ sym inputs_are in
        let part : take (bits_at es key) (drop first (bits_of_nodes es xs p.ins)) ≡ node_bits es xs key =
        ap (λ (a : ℕ). take a (drop first (bits_of_nodes es xs p.ins))) (sym (length-node_bits es xs key))
        ∙ ap (λ (a : ℕ). take (length (node_bits es xs key)) (drop a (bits_of_nodes es xs p.ins))) (sym (length-nodes es xs (take i p.ins)))
        ∙ piece (node_bits es xs) p.ins i h in
        ap number (values-inputs n (bits_of_nodes es xs p.ins) first (bits_at es key) within long ∙ part)
        ∙ number-low_bits (bits_at es key) (value es xs key)
        ∙ mod-eq_of_lt (value-word es xs graph fit key (stand i 0 h))

    abbrev plain : Part
    plain = record p { entries = es }

    input-lowered : IsLowered plain n key (variables_from first (bits_at es key))
    input-lowered = record {
      stand = AllStand-inputs n first (bits_at es key) within;
      count = length-map (range_with_len first (bits_at es key)) (λ v. record { code = 2 * v + 2 }) ∙ length-range_with_len first (bits_at es key);
      spells = input-spells;
      depth = λ shallow depths d ends. AllWithin-le n 0 d (variables_from first (bits_at es key)) (omega arith) (AllWithin-inputs n first (bits_at es key) within);
    }

  pub inputs-lowered : AreLowered p n p.ins rows
  inputs-lowered = subst (λ (entries : List Entry). AreLowered (record p { entries = entries }) n p.ins rows) (sym same) (record {
    count = r.count;
    each = λ i h. rw (r.each i h) (input-lowered i h);
  })

-- one input word more
pub AreInputs-push : (es : List Entry) (ins : List ℕ) (i : ℕ) (rows rows' : List (List Lit)) (row : List Lit) → AreInputs es ins i rows → rows' ≡ rows ++ row ∷ [] →
    row ≡ variables_from (sum_by (bits_at es) (take i ins)) (bits_at es (get_or ins i 0)) → AreInputs es ins (i + 1) rows'
AreInputs-push es ins i rows rows' row r is made = record {
  count = ap length is ∙ length_push rows row ∙ ap (λ (j : ℕ). j + 1) r.count;
  each = λ j h. rw is (at j h);
}
  where
    at : (j : ℕ) → j < i + 1 → row_at (rows ++ row ∷ []) j ≡ variables_from (sum_by (bits_at es) (take j ins)) (bits_at es (get_or ins j 0))
    at j h = elim (before_or_last j i h) [
      | inl before ↦ get_or_append_left rows (row ∷ []) [] j (omega (arith, r.count)) ∙ r.each j before
      | inr last ↦ get_or_push rows row [] j (r.count ∙ last) ∙ made ∙ ap (λ (m : ℕ). variables_from (sum_by (bits_at es) (take m ins)) (bits_at es (get_or ins m 0))) last
    ]

-- ---- one place more of lists

pub variables-more : (first i : ℕ) (l : Lit) → l.code ≡ 2 * (first + i) + 2 → variables_from first i ++ l ∷ [] ≡ variables_from first (i + 1)
variables-more first i l is =
    ap (λ (n : ℕ). variables_from first i ++ record { code = n } ∷ []) is
    ∙ sym (map-range_with_len_more (λ v. let x : Lit = record { code = 2 * v + 2 } in x) first i (first + i) (omega arith))

pub flat_map-more : {X : Type 0} (f : ℕ → List X) (xs : List ℕ) (i d : ℕ) → i < length xs → flat_map f (take (i + 1) xs) ≡ flat_map f (take i xs) ++ f (get_or xs i d)
flat_map-more f xs i d h =
    ap (flat_map f) (take_more xs i d h)
    ∙ flat_map-append f (take i xs) (get_or xs i d ∷ [])
    ∙ ap (λ (l : List _). flat_map f (take i xs) ++ l) (append-nil (f (get_or xs i d)))

pub sums-few : (es : List Entry) (ks : List ℕ) → sum_by (bits_at es) ks ≤ 64 * length ks
sums-few es [] = omega arith
sums-few es (k ∷ ks) = omega (arith, sum_by-cons (bits_at es) k ks, bits_few (width_at es k), sums-few es ks)

-- ---- the operation of a node

entry-here : (es : List Entry) (k : ℕ) (e d : Entry) → slice_get es k ≡ Some e → get_or es k d ≡ e
entry-here [] zero e d h = absurd (cc)
entry-here [] (suc k) e d h = absurd (cc)
entry-here (x ∷ es) zero e d h = cc
entry-here (x ∷ es) (suc k) e d h = entry-here es k e d h

module _ (es : List Entry) (graph : IsGraph es) (keys : List ℕ) (rows : List (List Lit)) (k : ℕ) (at : IsKnown es keys k) (entries : List Entry) (value_is : entries ≡ es) (d : Entry) (c : Call) (made : c ≡ call_of entries (get_or entries k d))
    (ops : List (List Lit)) (items : ops ≡ map (operand_row es keys rows) (taken_by (get_or entries k d))) where
  same-entry : get_or entries k d ≡ at.entry
  same-entry = ap (λ (l : List Entry). get_or l k d) value_is ∙ entry-here es k at.entry d at.here

  call-is : c ≡ call_of es at.entry
  call-is = made ∙ ap (λ (l : List Entry). call_of l (get_or entries k d)) value_is ∙ ap (call_of es) same-entry

  ops-are : ops ≡ map (operand_row es keys rows) (taken_by at.entry)
  ops-are = items ∙ ap (λ (x : Entry). map (operand_row es keys rows) (taken_by x)) same-entry

  pub node-stand : (n : Circuit) → HoldWords es n keys rows → RowsStand n ops
  node-stand n held = subst (RowsStand n) (sym ops-are) (operands-stand es graph keys rows k at.entry at.here at.inner at.known n held)

  pub node-words : (n : Circuit) → HoldWords es n keys rows → AreOperands c ops
  node-words n held =
      subst (λ (x : Call). AreOperands x ops) (sym call-is)
      (subst (AreOperands (call_of es at.entry)) (sym ops-are) (operands-words es graph keys rows k at.entry at.here at.inner at.known n held))

  node-size : call_size c ≡ size_at es k
  node-size = ap call_size call-is ∙ ap (entry_size es) (sym at.here)

  node-ands : (form : Form) → call_ands form c ≡ ands_limit_at form es k
  node-ands form = ap (call_ands form) call-is ∙ ap (λ (o : Option Entry). and_limit form (stated_entry es o).ands (entry_size es o)) (sym at.here)

  pub node-grows : (form : Form) (old new : Circuit) → Grows old new (call_size c) (call_ands form c) → Grows old new (size_at es k) (ands_limit_at form es k)
  node-grows form old new g = subst (λ (a : ℕ). Grows old new (size_at es k) a) (node-ands form) (subst (λ (s : ℕ). Grows old new s (call_ands form c)) node-size g)

  pub node-stops : {T : Type 0} (res : Result T GateFault) (old new : Circuit) → IfErr res (StopsWithin old new (call_size c)) → IfErr res (StopsWithin old new (size_at es k))
  node-stops res old new h = subst (λ (s : ℕ). IfErr res (StopsWithin old new s)) node-size h

  pub node-answer : (form : Form) (old new : Circuit) (answer : List Lit) → IsAnswer form c old new ops answer → (p : Part) → p.entries ≡ es → p.form ≡ form → Contains p.nodes k → AreLowered p old keys rows → IsLowered p new k answer
  node-answer form old new answer a p same is among l =
      node-lowered es graph keys rows k at.entry at.here at.inner at.known p same old new l answer
      (subst (λ (f : Form). IsAnswer f (call_of es at.entry) old new (map (operand_row es keys rows) (taken_by at.entry)) answer) (sym is)
      (subst (λ (x : Call). IsAnswer form x old new (map (operand_row es keys rows) (taken_by at.entry)) answer) call-is
      (subst (λ (x : List (List Lit)). IsAnswer form c old new x answer) ops-are a))) among

-- ---- the nodes of a part

pub keys-next : (ins nodes keys keys' : List ℕ) (i d : ℕ) → i < length nodes → keys ≡ ins ++ take i nodes → keys' ≡ keys ++ get_or nodes i d ∷ [] → keys' ≡ ins ++ take (i + 1) nodes
keys-next ins nodes keys keys' i d h places made =
    made ∙ ap (λ (l : List ℕ). l ++ get_or nodes i d ∷ []) places ∙ append_assoc ins (take i nodes) (get_or nodes i d ∷ []) ∙ ap (λ (l : List ℕ). ins ++ l) (sym (take_more nodes i d h))

pub among-nodes : (nodes : List ℕ) (i d : ℕ) → i < length nodes → Contains nodes (get_or nodes i d)
among-nodes nodes i d h = (i, h, get_or_any nodes i (get_or nodes i d) d h)

-- a part without outputs, and what it takes
pub piece-inner : (es : List Entry) (nodes ins outs keys : List ℕ) → IsPiece es nodes ins outs → keys ≡ ins → IsPiece es nodes keys []
piece-inner es nodes ins outs keys piece is =
    subst (λ (l : List ℕ). IsPiece es nodes l []) (sym is) (record { known = piece.known; distinct = piece.distinct; stand = piece.stand; among = λ k d h. absurd (omega arith); few = piece.few; inner = piece.inner })

pub distinct-left : (xs ys : List ℕ) → IsDistinct (xs ++ ys) → IsDistinct xs
distinct-left xs ys distinct i j before h same =
    distinct i j before (omega (arith, length-append xs ys)) (get_or_append_left xs ys 0 i (omega arith) ∙ same ∙ sym (get_or_append_left xs ys 0 j h))

pub stand-left : (n : ℕ) (xs ys : List ℕ) → All (λ k. k < n) (xs ++ ys) → All (λ k. k < n) xs
stand-left n xs ys stand k d h = subst (λ (x : ℕ). x < n) (get_or_append_left xs ys d k h) (stand k d (omega (arith, length-append xs ys)))
