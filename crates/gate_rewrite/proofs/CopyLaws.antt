-- Laws of a circuit copied gate by gate.
use Rattle.std.proofs.Common.{◌≡◌, ◌⊎◌, inl, inr, ℕ, zero, suc, ◌+◌, ◌*◌, ◌%◌, ◌<◌, ◌≤◌, max, Bool, true, false, not, ◌&&◌, cond, eqb, List, [], ◌∷◌, ◌++◌, get_or, length, map, take, refl, sym, ap, ◌∙◌, subst, arith}
use Rattle.std.specs.List.{All, Contains, fold}
use Rattle.std.proofs.lemmas.Bool.{cases_lt}
use Rattle.std.proofs.lemmas.Grind.{common_steps}
use Rattle.std.proofs.lemmas.List.{ext_get_or, get_or_append_left, get_or_push, length-map, length-take-le, length_push, map_push, take_all, take_more}
use Rattle.std.proofs.lemmas.List.Elements.{All-push, Contains-get_or}
use Rattle.gate_net.specs.declared.literal.Lit.{Lit}
use Rattle.gate_net.specs.declared.literal.Gate.{Gate}
use Rattle.gate_net.specs.declared.literal.Gate.TheVariants.{And, Xor}
use Rattle.gate_net.specs.Literal.{complement_of, wire_of}
use Rattle.gate_net.specs.Circuit.{Circuit, Stands}
use Rattle.gate_net.specs.Growth.{Grows}
use Rattle.gate_net.specs.Meaning.{Reading, and_count, as_bits, as_levels, depth_of, gate_reading, level, reading, run, start, value, wires, xor}
use Rattle.gate_net.specs.Shape.{IsCircuit, IsNormal}
use Rattle.gate_net.specs.Spelled.{AllStand, values}
use Rattle.gate_net.proofs.GrowthLaws.{Grows-length, Grows-level}
use Rattle.gate_net.proofs.ListLaws.{AllStand-Grows, equal_two, get_or-values, values-Grows}
use Rattle.gate_net.proofs.MeaningLaws.{Stands-complement, length-run, length-start, level-complement, reading-even, run-more, value-complement}
use Rattle.gate_steps.specs.Steps.{HaveEqualOutputs}
use Rattle.gate_rewrite.specs.Copies.{AreAtMost, Copies, literal_of}

abbrev z : Lit
z = record { code = 0 }

-- ---- a literal over the literals that stand for wires

pub Stands-literal : (n : Circuit) (ws : List Lit) (l : Lit) → AllStand n ws → l.code < 2 * length ws → Stands n (literal_of ws l)
Stands-literal n ws l stand low = on (eqb (l.code % 2) 1) (get_or ws (wire_of l) z) (stand (wire_of l) z (omega arith))
  where
    on : (odd : Bool) (w : Lit) → Stands n w → Stands n (cond odd (complement_of w) w)
    on true w h = Stands-complement n w h
    on false w h = h

pub literal-value : (n : Circuit) (bits : List Bool) (ws : List Lit) (l : Lit) → l.code < 2 * length ws → value n bits (literal_of ws l) ≡ reading as_bits (values n bits ws) l
unfolding reading
literal-value n bits ws l low =
    let is : get_or (values n bits ws) (wire_of l) false ≡ value n bits (get_or ws (wire_of l) z) = get_or-values n bits ws (wire_of l) z false (omega arith) in
    on (eqb (l.code % 2) 1) (get_or ws (wire_of l) z) ∙ ap (λ (x : Bool). cond (eqb (l.code % 2) 1) (not x) x) (sym is)
  where
    on : (odd : Bool) (w : Lit) → value n bits (cond odd (complement_of w) w) ≡ cond odd (not (value n bits w)) (value n bits w)
    on true w = value-complement n bits w
    on false w = refl

pub literal-level : (n : Circuit) (ws : List Lit) (levels : List ℕ) (l : Lit) → l.code < 2 * length ws → AreAtMost n ws levels → level n (literal_of ws l) ≤ reading as_levels levels l
unfolding reading
literal-level n ws levels l low most = on (eqb (l.code % 2) 1) (get_or ws (wire_of l) z) (get_or levels (wire_of l) 0) (most (wire_of l) (omega arith))
  where
    on : (odd : Bool) (w : Lit) (d : ℕ) → level n w ≤ d → level n (cond odd (complement_of w) w) ≤ cond odd d d
    on true w d h = omega (arith, level-complement n w)
    on false w d h = h

-- ---- a gate over them

module _ (n m : Circuit) (ws : List Lit) (a b la lb r : Lit) (left : la ≡ literal_of ws a) (right : lb ≡ literal_of ws b) (low_a : a.code < 2 * length ws) (low_b : b.code < 2 * length ws) where
  pub and-value : (bits : List Bool) → value m bits r ≡ (value n bits la && value n bits lb) → value m bits r ≡ gate_reading as_bits (values n bits ws) (And a b)
  unfolding gate_reading
  and-value bits is = is ∙ equal_two (λ x y. x && y) (ap (value n bits) left ∙ literal-value n bits ws a low_a) (ap (value n bits) right ∙ literal-value n bits ws b low_b)

  pub xor-value : (bits : List Bool) → value m bits r ≡ xor (value n bits la) (value n bits lb) → value m bits r ≡ gate_reading as_bits (values n bits ws) (Xor a b)
  unfolding gate_reading
  xor-value bits is = is ∙ equal_two xor (ap (value n bits) left ∙ literal-value n bits ws a low_a) (ap (value n bits) right ∙ literal-value n bits ws b low_b)

  pub and-level : (levels : List ℕ) → AreAtMost n ws levels → level m r ≤ 1 + max (level n la) (level n lb) → level m r ≤ gate_reading as_levels levels (And a b)
  unfolding gate_reading
  and-level levels most is = omega (arith, ap (level n) left, ap (level n) right, literal-level n ws levels a low_a most, literal-level n ws levels b low_b most)

  pub xor-level : (levels : List ℕ) → AreAtMost n ws levels → level m r ≤ max (level n la) (level n lb) → level m r ≤ gate_reading as_levels levels (Xor a b)
  unfolding gate_reading
  xor-level levels most is = omega (arith, ap (level n) left, ap (level n) right, literal-level n ws levels a low_a most, literal-level n ws levels b low_b most)

-- ---- the first wires

pub codes-push : (ws more : List Lit) (n : ℕ) → length ws ≡ n → ((k : ℕ) → k < n → get_or ws k z ≡ record { code = 2 * k }) → more ≡ ws ++ (let l : Lit = record { code = 2 * n } in l) ∷ [] → (k : ℕ) → k < n + 1 → get_or more k z ≡ record { code = 2 * k }
codes-push ws more n long codes is k low =
    ap (λ (l : List Lit). get_or l k z) is ∙ by (cases_lt k n)
  where
    by : (k < n) ⊎ (n ≤ k) → get_or (ws ++ (let l : Lit = record { code = 2 * n } in l) ∷ []) k z ≡ record { code = 2 * k }
    by (inl h) = get_or_append_left ws _ z k (omega arith) ∙ codes k h
    by (inr h) = let same : k ≡ n = omega arith in get_or_push ws _ z k (long ∙ sym same) ∙ ap (λ (j : ℕ). let l : Lit = record { code = 2 * j } in l) (sym same)

-- what the constant and the inputs carry in a circuit with no gates
first-reading : {A : Type 0} (r : Reading A) (xs : List A) (n : Circuit) (k : ℕ) (l : Lit) → n.gates ≡ [] → l.code ≡ 2 * k → reading r (wires r xs n) l ≡ get_or (start r n.ins xs) k r.constant
unfolding wires run
first-reading r xs n k l none is =
    let wire : wire_of l ≡ k = omega arith in
    ap (λ (gs : List Gate). reading r (run r (start r n.ins xs) gs) l) none
    ∙ reading-even r (start r n.ins xs) l (omega arith)
    ∙ ap (λ (w : ℕ). get_or (start r n.ins xs) w r.constant) wire

module _ (old new : Circuit) (ws : List Lit) (ins : new.ins ≡ old.ins) (none : new.gates ≡ []) (long : length ws ≡ 1 + old.ins) (codes : (k : ℕ) → k < 1 + old.ins → get_or ws k z ≡ record { code = 2 * k }) where
  start-stand : AllStand new ws
  start-stand k d low =
      let same : get_or ws k d ≡ get_or ws k z = any ws k d low in
      let code : (get_or ws k z).code ≡ 2 * k = ap (λ (l : Lit). l.code) (codes k (omega arith)) in
      subst (Stands new) (sym same) (omega (arith, code))
    where
      any : (xs : List Lit) (j : ℕ) (e : Lit) → j < length xs → get_or xs j e ≡ get_or xs j z
      any [] j e h = absurd (omega arith)
      any (x ∷ xs) zero e h = refl
      any (x ∷ xs) (suc j) e h = any xs j e (omega arith)

  start-values : (bits : List Bool) → values new bits ws ≡ start as_bits old.ins bits
  unfolding value
  start-values bits =
      ext_get_or false (values new bits ws) (start as_bits old.ins bits) (length-map ws (value new bits) ∙ long ∙ sym (length-start as_bits old.ins bits))
      (λ k low.
      let inside : k < length ws = omega (arith, length-map ws (value new bits)) in
      get_or-values new bits ws k z false inside
      ∙ first-reading as_bits bits new k (get_or ws k z) none (ap (λ (l : Lit). l.code) (codes k (omega arith)))
      ∙ ap (λ (i : ℕ). get_or (start as_bits i bits) k false) ins)

  start-levels : AreAtMost new ws (start as_levels old.ins [])
  unfolding level
  start-levels k low =
      let is : level new (get_or ws k z) ≡ get_or (start as_levels old.ins []) k 0 =
      first-reading as_levels [] new k (get_or ws k z) none (ap (λ (l : Lit). l.code) (codes k (omega arith))) ∙ ap (λ (i : ℕ). get_or (start as_levels i []) k 0) ins in
      omega (arith, is)

  pub Copies-start : new.budget ≡ old.budget → Copies old new 0 ws
  unfolding run
  Copies-start budget = record {
    ins = ins;
    budget = budget;
    one_for_each = omega arith;
    stand = start-stand;
    few = omega (arith, ap length none);
    few_ands = omega (arith, ap and_count none);
    normal = subst IsNormal (sym none) (record { each = λ k d h. absurd (omega arith); distinct = λ i j less h. absurd (omega arith) });
    bits = start-values;
    levels = start-levels;
  }

-- ---- one gate more

and_count-append : (gs hs : List Gate) → and_count (gs ++ hs) ≡ and_count gs + and_count hs
and_count-append gs hs = grind (arith, common_steps)

module _ (old new m : Circuit) (i : ℕ) (ws more : List Lit) (r : Lit) (d : Gate) (within : i < length old.gates) (p : Copies old new i ws) (q : Grows new m 1 (and_count (get_or old.gates i d ∷ []))) (is : more ≡ ws ++ r ∷ []) where
  abbrev g : Gate
  g = get_or old.gates i d

  abbrev before : List ℕ
  before = run as_levels (start as_levels old.ins []) (take i old.gates)

  long-before : length before ≡ length ws
  long-before = length-run as_levels (start as_levels old.ins []) (take i old.gates) ∙ omega (arith, length-start as_levels old.ins [], length-take-le i old.gates (omega arith), p.one_for_each)

  more-levels : level m r ≤ gate_reading as_levels before g → AreAtMost m (ws ++ r ∷ []) (run as_levels (start as_levels old.ins []) (take (i + 1) old.gates))
  more-levels low k h = rw (run-more as_levels (start as_levels old.ins []) old.gates i d within) (by (cases_lt k (length ws)))
    where
      by : (k < length ws) ⊎ (length ws ≤ k) → level m (get_or (ws ++ r ∷ []) k z) ≤ get_or (before ++ gate_reading as_levels before g ∷ []) k 0
      by (inl earlier) =
          let left : get_or (ws ++ r ∷ []) k z ≡ get_or ws k z = get_or_append_left ws (r ∷ []) z k earlier in
          let right : get_or (before ++ gate_reading as_levels before g ∷ []) k 0 ≡ get_or before k 0 = get_or_append_left before (gate_reading as_levels before g ∷ []) 0 k (omega (arith, long-before)) in
          let kept : level m (get_or ws k z) ≡ level new (get_or ws k z) = Grows-level q (get_or ws k z) (p.stand k z earlier) in
          omega (arith, ap (level m) left, right, kept, p.levels k earlier)
      by (inr last) =
          let here : k ≡ length ws = omega (arith, h, length_push ws r) in
          let left : get_or (ws ++ r ∷ []) k z ≡ r = get_or_push ws r z k (sym here) in
          let right : get_or (before ++ gate_reading as_levels before g ∷ []) k 0 ≡ gate_reading as_levels before g = get_or_push before (gate_reading as_levels before g) 0 k (long-before ∙ sym here) in
          omega (arith, ap (level m) left, right, low)

  pub Copies-more : Stands m r → (IsNormal new.gates → IsNormal m.gates) → ((bits : List Bool) → value m bits r ≡ gate_reading as_bits (values new bits ws) g) → ((levels : List ℕ) → AreAtMost new ws levels → level m r ≤ gate_reading as_levels levels g) → Copies old m (i + 1) more
  Copies-more stands keeps bit low = subst (Copies old m (i + 1)) (sym is) (record {
    ins = q.same_ins ∙ p.ins;
    budget = q.same_budget ∙ p.budget;
    one_for_each = omega (arith, length_push ws r, p.one_for_each);
    stand = All-push (Stands m) ws r (AllStand-Grows q ws p.stand) stands;
    few = omega (arith, p.few, (Grows-length q).1);
    few_ands =
        let all : and_count m.gates ≡ and_count new.gates + and_count q.added = ap and_count q.appended ∙ and_count-append new.gates q.added in
        let next : and_count (take (i + 1) old.gates) ≡ and_count (take i old.gates) + and_count (g ∷ []) = ap and_count (take_more old.gates i d within) ∙ and_count-append (take i old.gates) (g ∷ []) in
        omega (arith, all, next, p.few_ands, q.few_ands);
    normal = keeps p.normal;
    bits = λ bits.
        map_push (value m bits) ws r
        ∙ ap (λ (xs : List Bool). xs ++ value m bits r ∷ []) (values-Grows q bits ws p.stand ∙ p.bits bits)
        ∙ ap (λ (x : Bool). run as_bits (start as_bits old.ins bits) (take i old.gates) ++ x ∷ []) (bit bits ∙ ap (λ (xs : List Bool). gate_reading as_bits xs g) (p.bits bits))
        ∙ sym (run-more as_bits (start as_bits old.ins bits) old.gates i d within);
    levels = more-levels (low before p.levels);
  })

-- ---- the outputs

-- mapped twice
map-two : {A B C : Type 0} (f : B → C) (g : A → B) (h : A → C) (xs : List A) → ((x : A) → Contains xs x → f (g x) ≡ h x) → map f (map g xs) ≡ map h xs
map-two f g h [] same = refl
map-two f g h (x ∷ xs) same =
    let e = same x (0, omega arith, refl) in
    let rest = map-two f g h xs (λ y c. same y (suc c.0, omega (arith, c.1), c.2)) in
    cc

-- the greatest of mapped numbers
pub fold-two : {A B : Type 0} (f : B → ℕ) (g : A → B) (h : A → ℕ) (xs : List A) (a b : ℕ) → a ≤ b → ((x : A) → Contains xs x → f (g x) ≤ h x) → fold max a (map f (map g xs)) ≤ fold max b (map h xs)
fold-two f g h [] a b low same = low
fold-two f g h (x ∷ xs) a b low same =
    let first : f (g x) ≤ h x = same x (0, omega arith, refl) in
    fold-two f g h xs (max a (f (g x))) (max b (h x)) (omega arith) (λ y c. same y (suc c.0, omega (arith, c.1), c.2))

same-value : (n : Circuit) (outs : List Lit) (bits : List Bool) (l : Lit) → value (record n { outs = outs }) bits l ≡ value n bits l
unfolding value wires
same-value n outs bits l = refl

same-level : (n : Circuit) (outs : List Lit) (l : Lit) → level (record n { outs = outs }) l ≡ level n l
unfolding level wires
same-level n outs l = refl

module _ (old copy : Circuit) (i : ℕ) (ws outs : List Lit) (circuit : IsCircuit old) (all : length old.gates ≤ i) (p : Copies old copy i ws) (is : outs ≡ map (literal_of ws) old.outs) where
  whole : take i old.gates ≡ old.gates
  whole = take_all i old.gates all

  low-out : (l : Lit) → Contains old.outs l → l.code < 2 * length ws
  low-out l c =
      let stands : Stands old l = subst (Stands old) c.2 (circuit.outs c.0 l c.1) in
      omega (arith, p.one_for_each)

  pub outs-low : All (λ l. l.code < 2 * length ws) old.outs
  outs-low k d h = low-out (get_or old.outs k d) (Contains-get_or old.outs k d h)

  abbrev made : Circuit
  made = record copy { outs = outs }

  out-value : (bits : List Bool) (l : Lit) → Contains old.outs l → value made bits (literal_of ws l) ≡ value old bits l
  unfolding value wires
  out-value bits l c =
      same-value copy outs bits (literal_of ws l)
      ∙ literal-value copy bits ws l (low-out l c)
      ∙ ap (λ (xs : List Bool). reading as_bits xs l) (p.bits bits ∙ ap (run as_bits (start as_bits old.ins bits)) whole)

  pub equal-copied : HaveEqualOutputs old made
  equal-copied bits = ap (values made bits) is ∙ map-two (value made bits) (literal_of ws) (value old bits) old.outs (out-value bits)

  out-level : (l : Lit) → Contains old.outs l → level made (literal_of ws l) ≤ level old l
  unfolding level wires
  out-level l c =
      let kept : level made (literal_of ws l) ≡ level copy (literal_of ws l) = same-level copy outs (literal_of ws l) in
      let low : level copy (literal_of ws l) ≤ reading as_levels (run as_levels (start as_levels old.ins []) (take i old.gates)) l = literal-level copy ws _ l (low-out l c) p.levels in
      let same : reading as_levels (run as_levels (start as_levels old.ins []) (take i old.gates)) l ≡ level old l = ap (λ (gs : List Gate). reading as_levels (run as_levels (start as_levels old.ins []) gs) l) whole in
      omega (arith, kept, low, same)

  pub depth-copied : depth_of made ≤ depth_of old
  depth-copied =
      let same : depth_of made ≡ fold max 0 (map (level made) (map (literal_of ws) old.outs)) = ap (λ (ls : List Lit). fold max 0 (map (level made) ls)) is in
      omega (arith, same, fold-two (level made) (literal_of ws) (level old) old.outs 0 0 (omega arith) out-level)

  pub outs-stand : AllStand copy outs
  outs-stand = subst (AllStand copy) (sym is) (λ k d h.
      let inside : k < length old.outs = omega (arith, length-map old.outs (literal_of ws)) in
      all-literal old.outs outs-low k d inside)
    where
      all-literal : (ls : List Lit) → All (λ l. l.code < 2 * length ws) ls → (k : ℕ) (d : Lit) → k < length ls → Stands copy (get_or (map (literal_of ws) ls) k d)
      all-literal [] low k d h = absurd (omega arith)
      all-literal (l ∷ ls) low zero d h = Stands-literal copy ws l p.stand (low 0 l (omega arith))
      all-literal (l ∷ ls) low (suc k) d h = all-literal ls (λ j e h2. low (suc j) e (omega arith)) k d (omega arith)
