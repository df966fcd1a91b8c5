-- Laws of the uses: the lists of links are the places that hold each wire, after every step.
use Rattle.std.proofs.Common.{◌≡◌, ◌≢◌, ◌⊎◌, inl, inr, ℕ, zero, suc, ◌+◌, ◌*◌, ◌/◌, ◌%◌, ◌<◌, ◌≤◌, Bool, true, false, not, cond, eqb, List, [], ◌∷◌, ◌++◌, Option, Some, None, get_or, length, map, set, nat_lt, slice_get, refl, sym, ap, ◌∙◌, subst, arith, length-set, add-zero, ◌-◌}
use Rattle.std.specs.List.{All, Contains}
use Rattle.std.specs.Option.{IfSome, MatchOption, option_map}
use Rattle.std.proofs.lemmas.Bool.{cases_eq, ltb-true, lt-ltb, eqb-true, eq-eqb}
use Rattle.std.proofs.lemmas.Bool.Decides.{nat_tests}
use Rattle.std.proofs.lemmas.Option.{slice_get_within, slice_get-get_or, slice_get_read, get_or_from_slice_get}
use Rattle.std.proofs.lemmas.List.{get_or-set_same, get_or-set_other, length_push, length-map}
use Rattle.std.proofs.lemmas.List.Elements.{All-push}
use Rattle.std.proofs.Math.Seq.{map-set_same}
use Rattle.hy_links.specs.declared.Link.{Link}
use Rattle.hy_links.specs.Arena.{Arena, chain, IsLinkedOnce, Stands, link_after, same_link, without}
use Rattle.hy_links.proofs.Chains.{Contains-without, Contains-from_without, chain-without, chain-make, not_Stands-make, walk_stands}
use Rattle.gate_net.specs.declared.literal.Lit.{Lit}
use Rattle.gate_net.specs.declared.literal.Gate.{Gate}
use Rattle.gate_net.specs.declared.literal.Gate.TheVariants.{And, Xor}
use Rattle.gate_net.specs.Literal.{complement_of, wire_of}
use Rattle.gate_net.specs.Shape.{UsesBelow}
use Rattle.gate_net.proofs.MeaningLaws.{even_or_odd}
use Rattle.gate_arena.specs.Wiring.{AreUses, input_of, left_of, right_of, wire_at}
use Rattle.gate_arena.specs.Change.{moved, replaced_gate, replaced_lit}
use Rattle.gate_arena.specs.Inside.{IsMirror, with_input}

-- ---- links

link_same : (x y : Link) → x.node ≡ y.node → x.side ≡ y.side → x ≡ y
link_same x y node side =
    let first : Link = record { node = y.node; side = x.side } in
    let one : x ≡ first = ap (λ (n : ℕ). let l : Link = record { node = n; side = x.side } in l) node in
    let two : first ≡ y = ap (λ (s : ℕ). let l : Link = record { node = y.node; side = s } in l) side in
    one ∙ two

cases_link : (x y : Link) → (x ≡ y) ⊎ (x ≢ y)
cases_link x y = elim (cases_eq x.node y.node) [
  | inl node ↦ elim (cases_eq x.side y.side) [ inl side ↦ inl (link_same x y node side) | inr apart ↦ inr (λ e. apart (ap (λ (l : Link). l.side) e)) ]
  | inr apart ↦ inr (λ e. apart (ap (λ (l : Link). l.node) e))
]

contains_cons : (y : Link) (ys : List Link) (x : Link) → Contains ys x → Contains (y ∷ ys) x
contains_cons y ys x (k, within, is) = (suc k, omega arith, is)

contains_cases : (y : Link) (ys : List Link) (x : Link) → Contains (y ∷ ys) x → (x ≡ y) ⊎ Contains ys x
contains_cases y ys x (zero, within, is) = inl (sym is)
contains_cases y ys x (suc k, within, is) = inr (k, omega arith, is)

same_link_true : (x y : Link) → x ≡ y → same_link x y ≡ true
same_link_true x y e = let node : x.node ≡ y.node = ap (λ (l : Link). l.node) e in
    let side : x.side ≡ y.side = ap (λ (l : Link). l.side) e in
    grind (arith, nat_tests)

same_link_false : (x y : Link) → x ≢ y → same_link x y ≡ false
same_link_false x y apart = from_test (same_link x y) refl
  where
    from_test : (b : Bool) → same_link x y ≡ b → b ≡ false
    from_test true h = absurd (apart (link_same x y (grind (arith, nat_tests)) (grind (arith, nat_tests))))
    from_test false h = refl

-- ---- lists after a push

module _ (chains : List (List Link)) (list : ℕ) (link : Link) (within : list < length chains) where
  -- the link stands first in the list
  push-here : get_or (set chains list (link ∷ get_or chains list [])) list [] ≡ link ∷ get_or chains list []
  push-here = get_or-set_same chains list (link ∷ get_or chains list []) [] within

  push-other : (w : ℕ) → w ≢ list → get_or (set chains list (link ∷ get_or chains list [])) w [] ≡ get_or chains w []
  push-other w apart = get_or-set_other chains list w (link ∷ get_or chains list []) [] apart

  -- what stood stands
  push-keeps : (w : ℕ) (z : Link) → Contains (get_or chains w []) z → Contains (get_or (set chains list (link ∷ get_or chains list [])) w []) z
  push-keeps w z c = elim (cases_eq w list) [
    | inl same ↦
        let here : get_or (set chains list (link ∷ get_or chains list [])) w [] ≡ link ∷ get_or chains w [] = rw same push-here in
        rw here (contains_cons link (get_or chains w []) z c)
    | inr apart ↦ rw (push-other w apart) c
  ]

  push-adds : Contains (get_or (set chains list (link ∷ get_or chains list [])) list []) link
  push-adds = rw push-here (0, omega arith, refl)

  -- nothing else comes
  push-cases : (w : ℕ) (z : Link) → Contains (get_or (set chains list (link ∷ get_or chains list [])) w []) z → (z ≡ link) ⊎ Contains (get_or chains w []) z
  push-cases w z c = elim (cases_eq w list) [
    | inl same ↦
        let here : get_or (set chains list (link ∷ get_or chains list [])) w [] ≡ link ∷ get_or chains w [] = rw same push-here in
        contains_cases link (get_or chains w []) z (subst (λ (l : List Link). Contains l z) here c)
    | inr apart ↦ inr (subst (λ (l : List Link). Contains l z) (push-other w apart) c)
  ]

-- a list is shorter without one of its links
length-without : (x : Link) (xs : List Link) → length (without x xs) ≤ length xs
length-without x [] = omega arith
length-without x (y ∷ ys) = by (not (same_link y x)) (length-without x ys)
  where
    by : (b : Bool) → length (without x ys) ≤ length ys → length (cond b (y ∷ without x ys) (without x ys)) ≤ length (y ∷ ys)
    by true h = omega arith
    by false h = omega arith

-- ---- literals

-- the wire of the other literal is the same
pub wire_of-complement : (l : Lit) → wire_of (complement_of l) ≡ wire_of l
wire_of-complement l = elim (even_or_odd l.code) [
  | inl e ↦
      let after : (l.code + 1) / 2 ≡ l.code / 2 = omega arith in
      ap (λ (p : ℕ). cond (eqb p 1) (l.code - 1) (l.code + 1) / 2) e ∙ after
  | inr e ↦
      let after : (l.code - 1) / 2 ≡ l.code / 2 = omega arith in
      ap (λ (p : ℕ). cond (eqb p 1) (l.code - 1) (l.code + 1) / 2) e ∙ after
]

pub wire_of-moved : (by l : Lit) → wire_of (moved by l) ≡ wire_of by
wire_of-moved by l = on (eqb (l.code % 2) 1)
  where
    on : (b : Bool) → wire_of (cond b (complement_of by) by) ≡ wire_of by
    on true = wire_of-complement by
    on false = refl

-- a literal of another wire stays
pub replaced_lit-other : (wire : ℕ) (by l : Lit) → wire_of l ≢ wire → replaced_lit wire by l ≡ l
replaced_lit-other wire by l apart = on (eqb (wire_of l) wire) refl
  where
    on : (b : Bool) → eqb (wire_of l) wire ≡ b → cond b (moved by l) l ≡ l
    on true e = absurd (apart (eqb-true (wire_of l) wire e))
    on false e = refl

pub replaced_lit-here : (wire : ℕ) (by l : Lit) → wire_of l ≡ wire → replaced_lit wire by l ≡ moved by l
replaced_lit-here wire by l here = ap (λ (b : Bool). cond b (moved by l) l) (eq-eqb (wire_of l) wire here)

-- what was moved is not moved again
pub replaced_lit-moved : (wire : ℕ) (by l : Lit) → wire_of by ≢ wire → wire_of l ≡ wire → replaced_lit wire by (moved by l) ≡ replaced_lit wire by l
replaced_lit-moved wire by l apart here = replaced_lit-other wire by (moved by l) (λ e. apart (sym (wire_of-moved by l) ∙ e)) ∙ sym (replaced_lit-here wire by l here)

-- ---- gates

module _ (wire : ℕ) (by : Lit) (apart : wire_of by ≢ wire) where
  replaced_gate-moved : (g : Gate) (side : ℕ) → wire_of (input_of g side) ≡ wire → replaced_gate wire by (with_input g side (moved by (input_of g side))) ≡ replaced_gate wire by g
  replaced_gate-moved (And a b) side here = on (eqb side 0) here
    where
      on : (s : Bool) → wire_of (cond s a b) ≡ wire → replaced_gate wire by (cond s (And (moved by (cond s a b)) b) (And a (moved by (cond s a b)))) ≡ And (replaced_lit wire by a) (replaced_lit wire by b)
      on true h = ap (λ (l : Lit). And l (replaced_lit wire by b)) (replaced_lit-moved wire by a apart h)
      on false h = ap (λ (l : Lit). And (replaced_lit wire by a) l) (replaced_lit-moved wire by b apart h)
  replaced_gate-moved (Xor a b) side here = on (eqb side 0) here
    where
      on : (s : Bool) → wire_of (cond s a b) ≡ wire → replaced_gate wire by (cond s (Xor (moved by (cond s a b)) b) (Xor a (moved by (cond s a b)))) ≡ Xor (replaced_lit wire by a) (replaced_lit wire by b)
      on true h = ap (λ (l : Lit). Xor l (replaced_lit wire by b)) (replaced_lit-moved wire by a apart h)
      on false h = ap (λ (l : Lit). Xor (replaced_lit wire by a) l) (replaced_lit-moved wire by b apart h)

pub replaced_gate-other : (wire : ℕ) (by : Lit) (g : Gate) → wire_of (left_of g) ≢ wire → wire_of (right_of g) ≢ wire → replaced_gate wire by g ≡ g
replaced_gate-other wire by (And a b) left right = ap (λ (l : Lit). And l (replaced_lit wire by b)) (replaced_lit-other wire by a left) ∙ ap (And a) (replaced_lit-other wire by b right)
replaced_gate-other wire by (Xor a b) left right = ap (λ (l : Lit). Xor l (replaced_lit wire by b)) (replaced_lit-other wire by a left) ∙ ap (Xor a) (replaced_lit-other wire by b right)

-- the input is written, and the other one stays
with_input-here : (g : Gate) (side : ℕ) (l : Lit) → input_of (with_input g side l) side ≡ l
with_input-here (And a b) side l = on (eqb side 0)
  where
    on : (s : Bool) → cond s (left_of (cond s (And l b) (And a l))) (right_of (cond s (And l b) (And a l))) ≡ l
    on true = refl
    on false = refl
with_input-here (Xor a b) side l = on (eqb side 0)
  where
    on : (s : Bool) → cond s (left_of (cond s (Xor l b) (Xor a l))) (right_of (cond s (Xor l b) (Xor a l))) ≡ l
    on true = refl
    on false = refl

with_input-other : (g : Gate) (side other : ℕ) (l : Lit) → side < 2 → other < 2 → other ≢ side → input_of (with_input g side l) other ≡ input_of g other
with_input-other (And a b) zero zero l h k apart = absurd (apart refl)
with_input-other (And a b) zero (suc zero) l h k apart = refl
with_input-other (And a b) (suc zero) zero l h k apart = refl
with_input-other (And a b) (suc zero) (suc zero) l h k apart = absurd (apart refl)
with_input-other (Xor a b) zero zero l h k apart = absurd (apart refl)
with_input-other (Xor a b) zero (suc zero) l h k apart = refl
with_input-other (Xor a b) (suc zero) zero l h k apart = refl
with_input-other (Xor a b) (suc zero) (suc zero) l h k apart = absurd (apart refl)
with_input-other g (suc (suc side)) other l h k apart = absurd (omega arith)
with_input-other g side (suc (suc other)) l h k apart = absurd (omega arith)

with_input-within : (wires : ℕ) (g : Gate) (side : ℕ) (l : Lit) → UsesBelow wires g → l.code < 2 * wires → UsesBelow wires (with_input g side l)
with_input-within wires (And a b) side l u h = on (eqb side 0)
  where
    on : (s : Bool) → UsesBelow wires (cond s (And l b) (And a l))
    on true = (h, u.1)
    on false = (u.0, h)
with_input-within wires (Xor a b) side l u h = on (eqb side 0)
  where
    on : (s : Bool) → UsesBelow wires (cond s (Xor l b) (Xor a l))
    on true = (h, u.1)
    on false = (u.0, h)

pub UsesBelow-more : (v w : ℕ) (g : Gate) → v ≤ w → UsesBelow v g → UsesBelow w g
UsesBelow-more v w (And a b) h u = (omega (arith, u.0), omega (arith, u.1))
UsesBelow-more v w (Xor a b) h u = (omega (arith, u.0), omega (arith, u.1))

-- ---- the wire at a place

-- the parts of a place that holds a wire
pub record IsPlace (gates : List Gate) (link : Link) (wire : ℕ) : Type 0 where
  pub side : link.side < 2
  pub gate : Gate
  pub here : slice_get gates link.node ≡ Some gate
  pub holds : wire_of (input_of gate link.side) ≡ wire

pub wire_at-parts : (gates : List Gate) (link : Link) (wire : ℕ) → wire_at gates link ≡ Some wire → IsPlace gates link wire
wire_at-parts gates link wire e = on (nat_lt link.side 2) refl e
  where
    at : (o : Option Gate) → slice_get gates link.node ≡ o → link.side < 2 → option_map (λ (g : Gate). wire_of (input_of g link.side)) o ≡ Some wire → IsPlace gates link wire
    at None s h f = absurd (cc)
    at (Some g) s h f = record { side = h; gate = g; here = s; holds = cc }

    on : (b : Bool) → nat_lt link.side 2 ≡ b → cond b (option_map (λ (g : Gate). wire_of (input_of g link.side)) (slice_get gates link.node)) None ≡ Some wire → IsPlace gates link wire
    on true h f = at (slice_get gates link.node) refl (ltb-true link.side 2 h) f
    on false h f = absurd (cc)

pub wire_at-is : (gates : List Gate) (link : Link) (gate : Gate) → link.side < 2 → slice_get gates link.node ≡ Some gate → wire_at gates link ≡ Some (wire_of (input_of gate link.side))
wire_at-is gates link gate h s = rw (lt-ltb link.side 2 h, s) refl

pub slice_get-set_same : {A : Type 0} (xs : List A) (i : ℕ) (x : A) → i < length xs → slice_get (set xs i x) i ≡ Some x
slice_get-set_same [] i x h = absurd (omega arith)
slice_get-set_same (y ∷ ys) zero x h = refl
slice_get-set_same (y ∷ ys) (suc i) x h = slice_get-set_same ys i x (omega arith)

pub slice_get-set_other : {A : Type 0} (xs : List A) (i j : ℕ) (x : A) → j ≢ i → slice_get (set xs i x) j ≡ slice_get xs j
slice_get-set_other [] zero j x h = refl
slice_get-set_other [] (suc i) j x h = refl
slice_get-set_other (y ∷ ys) zero zero x h = absurd (h refl)
slice_get-set_other (y ∷ ys) zero (suc j) x h = refl
slice_get-set_other (y ∷ ys) (suc i) zero x h = refl
slice_get-set_other (y ∷ ys) (suc i) (suc j) x h = slice_get-set_other ys i j x (λ e. h (ap suc e))

pub slice_get-left : {A : Type 0} (xs : List A) (y : A) (k : ℕ) → k < length xs → slice_get (xs ++ y ∷ []) k ≡ slice_get xs k
slice_get-left [] y k h = absurd (omega arith)
slice_get-left (x ∷ xs) y zero h = refl
slice_get-left (x ∷ xs) y (suc k) h = slice_get-left xs y k (omega arith)

pub slice_get-push : {A : Type 0} (xs : List A) (x : A) (k : ℕ) → k ≡ length xs → slice_get (xs ++ x ∷ []) k ≡ Some x
slice_get-push [] x zero e = refl
slice_get-push [] x (suc k) e = absurd (omega arith)
slice_get-push (y ∷ xs) x zero e = absurd (omega arith)
slice_get-push (y ∷ xs) x (suc k) e = slice_get-push xs x k (omega arith)

-- the gate that is read at a place
pub gate-read : (gates : List Gate) (link : Link) (wire : ℕ) (gate : Gate) → wire_at gates link ≡ Some wire → gate ≡ get_or gates link.node gate → slice_get gates link.node ≡ Some gate
gate-read gates link wire gate e is =
    let p = wire_at-parts gates link wire e in
    slice_get_read gates (length gates) link.node gate refl (slice_get_within gates link.node p.gate p.here) is

-- ---- the uses of a wire

-- the lists of an arena that mirrors the gates are the uses
pub AreUses-of : (gates : List Gate) (a : Arena) → IsMirror gates a → IsLinkedOnce a → (wire : ℕ) → AreUses gates wire (chain a wire)
AreUses-of gates a m once wire = record {
  all = λ link e. m.all link wire e;
  only = λ link c.
      let made = once.made wire link c in
      let gate : Gate = get_or gates link.node (And (record { code = 0 }) (record { code = 0 })) in
      let here : slice_get gates link.node ≡ Some gate = slice_get-get_or gates link.node (And (record { code = 0 }) (record { code = 0 })) (omega (arith, made.0, m.nodes)) in
      let is : wire_at gates link ≡ Some (wire_of (input_of gate link.side)) = wire_at-is gates link gate (m.sides link wire c) here in
      let same : wire_of (input_of gate link.side) ≡ wire = once.in_one_list (wire_of (input_of gate link.side)) wire link (m.all link (wire_of (input_of gate link.side)) is) c in
      is ∙ ap (λ (w : ℕ). Some w) same;
  once = once.there_once wire;
}

-- what a walk meets is a place that holds the wire
pub walked-place : (gates : List Gate) (wire : ℕ) (after result : Option Link) (links : List Link) → AreUses gates wire links →
    MatchOption after (result ≡ slice_get links 0) (λ link. result ≡ link_after link links) → IfSome result (λ link. wire_at gates link ≡ Some wire)
walked-place gates wire after None links uses walked = tt
walked-place gates wire after (Some link) links uses walked = uses.only link (walk_stands after (Some link) links walked link refl)

-- where no place holds a wire, nothing is replaced
pub replaced-unused : (wire : ℕ) (by : Lit) (gates all : List Gate) (i : ℕ) → ((k : ℕ) (g : Gate) → slice_get gates k ≡ Some g → slice_get all (i + k) ≡ Some g) →
    ((link : Link) → wire_at all link ≡ Some wire → ⊥) → map (replaced_gate wire by) gates ≡ gates
replaced-unused wire by [] all i part unused = refl
replaced-unused wire by (g ∷ gates) all i part unused =
    let here : slice_get all i ≡ Some g = ap (slice_get all) (sym (add-zero i)) ∙ part 0 g refl in
    let apart : (side : ℕ) → side < 2 → wire_of (input_of g side) ≢ wire = λ side h e. unused (record { node = i; side = side }) (wire_at-is all (record { node = i; side = side }) g h here ∙ ap (λ (w : ℕ). Some w) e) in
    ap (λ (x : Gate). x ∷ map (replaced_gate wire by) gates) (replaced_gate-other wire by g (apart 0 (omega arith)) (apart 1 (omega arith)))
    ∙ ap (λ (xs : List Gate). g ∷ xs) (replaced-unused wire by gates all (suc i) (λ k h s. ap (slice_get all) (omega arith) ∙ part (suc k) h s) unused)

-- ---- a place that is moved

module _ (gates : List Gate) (a : Arena) (m : IsMirror gates a) (once : IsLinkedOnce a) (wire : ℕ) (link : Link) (by : Lit) (place : wire_at gates link ≡ Some wire) (apart : wire_of by ≢ wire)
    (stands : wire_of by < a.lists + length gates) where
  abbrev taken : List (List Link)
  taken = map (without link) a.chains

  -- the lists after the link went from one to the other
  abbrev pub after : Arena
  after = record { lists = a.lists; nodes = a.nodes; chains = set taken (wire_of by) (link ∷ get_or taken (wire_of by) []) }

  -- the gate after its input was written
  abbrev pub written : Gate → Gate
  written gate = with_input gate link.side (moved by (input_of gate link.side))

  in_taken : wire_of by < length taken
  in_taken = omega (arith, length-map a.chains (without link), once.one_for_each, m.nodes)

  module _ (gate : Gate) (here : slice_get gates link.node ≡ Some gate) where
    part : IsPlace gates link wire
    part = wire_at-parts gates link wire place

    node_in : link.node < length gates
    node_in = slice_get_within gates link.node gate here

    holds : wire_of (input_of gate link.side) ≡ wire
    holds = let same : gate ≡ part.gate = by_some (sym here ∙ part.here) in ap (λ (g : Gate). wire_of (input_of g link.side)) same ∙ part.holds
      where
        by_some : {g h : Gate} → Some g ≡ Some h → g ≡ h
        by_some e = cc

    keeps : (z : Link) (w : ℕ) → z ≢ link → Contains (chain a w) z → Contains (chain after w) z
    keeps z w other c =
        push-keeps taken (wire_of by) link in_taken w z
        (subst (λ (l : List Link). Contains l z) (sym (chain-without a.chains link w)) (Contains-without link (chain a w) z other c))

    all-after : (z : Link) (w : ℕ) → wire_at (set gates link.node (written gate)) z ≡ Some w → Contains (chain after w) z
    all-after z w e = elim (cases_link z link) [
      | inl same ↦
          let now : wire_at (set gates link.node (written gate)) link ≡ Some (wire_of (input_of (written gate) link.side)) =
          wire_at-is (set gates link.node (written gate)) link (written gate) part.side (slice_get-set_same gates link.node (written gate) node_in) in
          let is : wire_of by ≡ w =
          sym (wire_of-moved by (input_of gate link.side)) ∙ ap wire_of (sym (with_input-here gate link.side (moved by (input_of gate link.side))))
          ∙ some_same (sym now ∙ ap (wire_at (set gates link.node (written gate))) (sym same) ∙ e) in
          subst (λ (l : Link). Contains (chain after w) l) (sym same) (subst (λ (v : ℕ). Contains (chain after v) link) is (push-adds taken (wire_of by) link in_taken))
      | inr other ↦ keeps z w other (m.all z w (before other (wire_at-parts (set gates link.node (written gate)) z w e)))
    ]
      where
        some_same : {v u : ℕ} → Some v ≡ Some u → v ≡ u
        some_same f = cc

        before : z ≢ link → IsPlace (set gates link.node (written gate)) z w → wire_at gates z ≡ Some w
        before other p = elim (cases_eq z.node link.node) [
          | inr away ↦
              wire_at-is gates z p.gate p.side (sym (slice_get-set_other gates link.node z.node (written gate) away) ∙ p.here) ∙ ap (λ (v : ℕ). Some v) p.holds
          | inl same ↦
              let sides : z.side ≢ link.side = λ s. other (link_same z link same s) in
              let is : p.gate ≡ written gate = gate_same (sym p.here ∙ ap (slice_get (set gates link.node (written gate))) same ∙ slice_get-set_same gates link.node (written gate) node_in) in
              let input : input_of p.gate z.side ≡ input_of gate z.side = ap (λ (g : Gate). input_of g z.side) is ∙ with_input-other gate link.side z.side (moved by (input_of gate link.side)) part.side p.side sides in
              wire_at-is gates z gate p.side (ap (slice_get gates) same ∙ here) ∙ ap (λ (l : Lit). Some (wire_of l)) (sym input) ∙ ap (λ (v : ℕ). Some v) p.holds
        ]
          where
            gate_same : {g h : Gate} → Some g ≡ Some h → g ≡ h
            gate_same f = cc

    sides-after : (z : Link) (w : ℕ) → Contains (chain after w) z → z.side < 2
    sides-after z w c = elim (push-cases taken (wire_of by) link in_taken w z c) [
      | inl same ↦ omega (arith, part.side, ap (λ (l : Link). l.side) same)
      | inr old ↦ m.sides z w (Contains-from_without link (chain a w) z (subst (λ (l : List Link). Contains l z) (chain-without a.chains link w) old))
    ]

    pub IsMirror-after : IsMirror (set gates link.node (written gate)) after
    IsMirror-after = record {
      nodes = m.nodes ∙ sym (length-set gates link.node (written gate));
      within = λ k d h.
          let long : length (set gates link.node (written gate)) ≡ length gates = length-set gates link.node (written gate) in
          let low : (moved by (input_of gate link.side)).code < 2 * (a.lists + length gates) = omega (arith, wire_of-moved by (input_of gate link.side), stands) in
          subst (λ (n : ℕ). UsesBelow (a.lists + n) (get_or (set gates link.node (written gate)) k d)) (sym long) (elim (cases_eq k link.node) [
            | inl same ↦
                let now : get_or (set gates link.node (written gate)) k d ≡ written gate = rw same (get_or-set_same gates link.node (written gate) d node_in) in
                let old : get_or gates link.node d ≡ gate = get_or_from_slice_get gates link.node gate d here in
                rw now (with_input-within (a.lists + length gates) gate link.side (moved by (input_of gate link.side)) (subst (UsesBelow (a.lists + length gates)) old (m.within link.node d node_in)) low)
            | inr away ↦
                let now : get_or (set gates link.node (written gate)) k d ≡ get_or gates k d = get_or-set_other gates link.node k (written gate) d away in
                rw now (m.within k d (omega arith))
          ]);
      all = all-after;
      sides = sides-after;
    }

    pub replaced-after : map (replaced_gate wire by) (set gates link.node (written gate)) ≡ map (replaced_gate wire by) gates
    replaced-after =
        map-set_same (replaced_gate wire by) gates link.node (written gate) gate
        (replaced_gate-moved wire by apart gate link.side holds ∙ ap (replaced_gate wire by) (sym (get_or_from_slice_get gates link.node gate gate here)))

  -- the list of the wire is shorter
  pub fewer-after : length (chain after wire) < length (chain a wire)
  fewer-after =
      let now : chain after wire ≡ without link (chain a wire) = push-other taken (wire_of by) link in_taken wire (λ e. apart (sym e)) ∙ chain-without a.chains link wire in
      omega (arith, ap length now, less (chain a wire) (m.all link wire place))
    where
      less : (xs : List Link) → Contains xs link → length (without link xs) < length xs
      less [] (k, within, is) = absurd (omega arith)
      less (x ∷ xs) c = elim (cases_link x link) [
        | inl same ↦
            let passes : same_link x link ≡ true = same_link_true x link same in
            rw passes (omega (arith, length-without link xs))
        | inr apart_ ↦
            let fails : same_link x link ≡ false = same_link_false x link apart_ in
            rw fails (elim (contains_cases x xs link c) [ inl e ↦ absurd (apart_ (sym e)) | inr more ↦ omega (arith, less xs more) ])
      ]

-- the same where the parts are given by equations
module _ (gates : List Gate) (a b c : Arena) (m : IsMirror gates a) (once : IsLinkedOnce a) (wire to : ℕ) (link : Link) (by : Lit) (place : wire_at gates link ≡ Some wire) (apart : wire_of by ≢ wire)
    (stands : wire_of by < a.lists + length gates) (to_is : to ≡ wire_of by) (unlinked : b ≡ record { lists = a.lists; nodes = a.nodes; chains = map (without link) a.chains })
    (linked : c ≡ record { lists = b.lists; nodes = b.nodes; chains = set b.chains to (link ∷ get_or b.chains to []) }) where
  is_after : c ≡ after gates a m once wire link by place apart stands
  is_after = rw (linked, unlinked, to_is) refl

  pub fewer-moved : length (chain c wire) < length (chain a wire)
  fewer-moved = rw is_after (fewer-after gates a m once wire link by place apart stands)

  module _ (gate made : Gate) (here : slice_get gates link.node ≡ Some gate) (made_is : made ≡ with_input gate link.side (moved by (input_of gate link.side))) where
    pub IsMirror-moved : IsMirror (set gates link.node made) c
    IsMirror-moved = rw (is_after, made_is) (IsMirror-after gates a m once wire link by place apart stands gate here)

    pub replaced-moved : map (replaced_gate wire by) (set gates link.node made) ≡ map (replaced_gate wire by) gates
    replaced-moved = rw made_is (replaced-after gates a m once wire link by place apart stands gate here)

-- ---- a new gate

module _ (a b c : Arena) (node list : ℕ) (list_in : list < a.lists + a.nodes) (once : IsLinkedOnce a) (node_is : node ≡ a.nodes) (made : b ≡ record { lists = a.lists; nodes = a.nodes + 1; chains = a.chains ++ [] ∷ [] })
    (linked : c ≡ record { lists = b.lists; nodes = b.nodes; chains = set b.chains list (record { node = node; side = 0 } ∷ get_or b.chains list []) }) where
  -- a list of the arena is one after a node was made
  list_within : list < length b.chains
  list_within = omega (arith, ap (λ (x : Arena). length x.chains) made, length_push a.chains [], once.one_for_each)

  pub free-push : ¬ Stands c (record { node = node; side = 1 })
  free-push (l, there) =
      elim (push-cases b.chains list (record { node = node; side = 0 }) list_within l (record { node = node; side = 1 }) (subst (λ (x : Arena). Contains (chain x l) (record { node = node; side = 1 })) linked there)) [
        | inl same ↦ absurd (omega (arith, ap (λ (x : Link). x.side) same))
        | inr old ↦
            not_Stands-make a 1 once (
              l,
              subst (λ (x : Arena). Contains (chain x l) (record { node = a.nodes; side = 1 })) made
                  (subst (λ (n : ℕ). Contains (chain b l) (record { node = n; side = 1 })) node_is old),
            )
      ]

module _ (gates : List Gate) (a : Arena) (g : Gate) (m : IsMirror gates a) (once : IsLinkedOnce a) (within : UsesBelow (a.lists + length gates) g) where
  abbrev first : Link
  first = record { node = a.nodes; side = 0 }

  abbrev second : Link
  second = record { node = a.nodes; side = 1 }

  abbrev grown : List (List Link)
  grown = a.chains ++ [] ∷ []

  abbrev left_added : List (List Link)
  left_added = set grown (wire_of (left_of g)) (first ∷ get_or grown (wire_of (left_of g)) [])

  abbrev added : Arena
  added = record { lists = a.lists; nodes = a.nodes + 1; chains = set left_added (wire_of (right_of g)) (second ∷ get_or left_added (wire_of (right_of g)) []) }

  grown-long : length grown ≡ a.lists + a.nodes + 1
  grown-long = omega (arith, length_push a.chains [], once.one_for_each)

  left_in : wire_of (left_of g) < length grown
  left_in = omega (arith, grown-long, low g within, m.nodes)
    where
      low : (h : Gate) → UsesBelow (a.lists + length gates) h → wire_of (left_of h) < a.lists + length gates
      low (And x y) u = omega (arith, u.0)
      low (Xor x y) u = omega (arith, u.0)

  right_in : wire_of (right_of g) < length left_added
  right_in = omega (arith, grown-long, low g within, m.nodes, length-set grown (wire_of (left_of g)) (first ∷ get_or grown (wire_of (left_of g)) []))
    where
      low : (h : Gate) → UsesBelow (a.lists + length gates) h → wire_of (right_of h) < a.lists + length gates
      low (And x y) u = omega (arith, u.1)
      low (Xor x y) u = omega (arith, u.1)

  keeps-added : (z : Link) (w : ℕ) → Contains (get_or grown w []) z → Contains (chain added w) z
  keeps-added z w c = push-keeps left_added (wire_of (right_of g)) second right_in w z (push-keeps grown (wire_of (left_of g)) first left_in w z c)

  all-added : (z : Link) (w : ℕ) → wire_at (gates ++ g ∷ []) z ≡ Some w → Contains (chain added w) z
  all-added z w e = elim (cases_eq z.node (length gates)) [
    | inl new ↦
        let node : z.node ≡ a.nodes = omega (arith, m.nodes) in
        let is : part.gate ≡ g = gate_same (sym part.here ∙ slice_get-push gates g z.node new) in
        let holds : wire_of (input_of g z.side) ≡ w = ap (λ (h : Gate). wire_of (input_of h z.side)) (sym is) ∙ part.holds in
        elim (zero_or_one z.side part.side) [
          | inl left ↦
              let same : first ≡ z = link_same first z (sym node) (sym left) in
              let wire : wire_of (left_of g) ≡ w = ap (λ (s : ℕ). wire_of (input_of g s)) (sym left) ∙ holds in
              subst (λ (x : Link). Contains (chain added w) x) same
              (push-keeps left_added (wire_of (right_of g)) second right_in w first
              (subst (λ (v : ℕ). Contains (get_or left_added v []) first) wire (push-adds grown (wire_of (left_of g)) first left_in)))
          | inr right ↦
              let same : second ≡ z = link_same second z (sym node) (sym right) in
              let wire : wire_of (right_of g) ≡ w = ap (λ (s : ℕ). wire_of (input_of g s)) (sym right) ∙ holds in
              subst (λ (x : Link). Contains (chain added w) x) same
              (subst (λ (v : ℕ). Contains (chain added v) second) wire (push-adds left_added (wire_of (right_of g)) second right_in))
        ]
    | inr old ↦
        let inside : z.node < length gates = omega (arith, slice_get_within (gates ++ g ∷ []) z.node part.gate part.here, length_push gates g) in
        let before : wire_at gates z ≡ Some w = wire_at-is gates z part.gate part.side (sym (slice_get-left gates g z.node inside) ∙ part.here) ∙ ap (λ (v : ℕ). Some v) part.holds in
        keeps-added z w (subst (λ (l : List Link). Contains l z) (sym (chain-make a.chains w)) (m.all z w before))
  ]
    where
      part : IsPlace (gates ++ g ∷ []) z w
      part = wire_at-parts (gates ++ g ∷ []) z w e

      gate_same : {x y : Gate} → Some x ≡ Some y → x ≡ y
      gate_same f = cc

      zero_or_one : (s : ℕ) → s < 2 → (s ≡ 0) ⊎ (s ≡ 1)
      zero_or_one zero h = inl refl
      zero_or_one (suc zero) h = inr refl
      zero_or_one (suc (suc s)) h = absurd (omega arith)

  IsMirror-added : IsMirror (gates ++ g ∷ []) added
  IsMirror-added = record {
    nodes = omega (arith, m.nodes, length_push gates g);
    within =
        subst (λ (n : ℕ). All (UsesBelow n) (gates ++ g ∷ [])) (omega (arith, length_push gates g))
        (All-push (UsesBelow (a.lists + length gates + 1)) gates g (λ k d h. UsesBelow-more (a.lists + length gates) (a.lists + length gates + 1) (get_or gates k d) (omega arith) (m.within k d h))
        (UsesBelow-more (a.lists + length gates) (a.lists + length gates + 1) g (omega arith) within));
    all = all-added;
    sides = λ z w c. elim (push-cases left_added (wire_of (right_of g)) second right_in w z c) [
      | inl same ↦ omega (arith, ap (λ (x : Link). x.side) same)
      | inr more ↦ elim (push-cases grown (wire_of (left_of g)) first left_in w z more) [
        | inl same ↦ omega (arith, ap (λ (x : Link). x.side) same)
        | inr old ↦ m.sides z w (subst (λ (l : List Link). Contains l z) (chain-make a.chains w) old)
      ]
    ];
  }

pub IsMirror-push : (gates more : List Gate) (a b c d : Arena) (g : Gate) (node left right : ℕ) → IsMirror gates a → IsLinkedOnce a → UsesBelow (a.lists + length gates) g → more ≡ gates ++ g ∷ [] → node ≡ a.nodes →
    left ≡ wire_of (left_of g) → right ≡ wire_of (right_of g) → b ≡ record { lists = a.lists; nodes = a.nodes + 1; chains = a.chains ++ [] ∷ [] } →
    c ≡ record { lists = b.lists; nodes = b.nodes; chains = set b.chains left (record { node = node; side = 0 } ∷ get_or b.chains left []) } →
    d ≡ record { lists = c.lists; nodes = c.nodes; chains = set c.chains right (record { node = node; side = 1 } ∷ get_or c.chains right []) } → IsMirror more d
IsMirror-push gates more a b c d g node left right m once within pushed node_is left_is right_is made first_linked second_linked =
    rw (pushed, second_linked, first_linked, made, node_is, left_is, right_is) (IsMirror-added gates a g m once within)

-- the list of a new gate's left input
pub low-left : (gates : List Gate) (a : Arena) (g : Gate) (left : ℕ) → IsMirror gates a → UsesBelow (a.lists + length gates) g → left ≡ wire_of (left_of g) → left < a.lists + a.nodes
low-left gates a (And x y) left m u e = omega (arith, u.0, m.nodes, e)
low-left gates a (Xor x y) left m u e = omega (arith, u.0, m.nodes, e)

-- ---- the end of a replacement

-- where a walk finds no place that holds the wire
pub replaced-done : (wire : ℕ) (by : Lit) (gates : List Gate) (links : List Link) → AreUses gates wire links → slice_get links 0 ≡ None → map (replaced_gate wire by) gates ≡ gates
replaced-done wire by gates links uses none = replaced-unused wire by gates gates 0 (λ k g s. ap (slice_get gates) (omega arith) ∙ s) (λ link e. empty links none (uses.all link e))
  where
    empty : (xs : List Link) {link : Link} → slice_get xs 0 ≡ None → Contains xs link → ⊥
    empty [] n c = omega (arith, c.1)
    empty (x ∷ xs) n c = cc
