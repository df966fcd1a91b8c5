-- Places and what is written for them: reading, writing and joining.
use Rattle.std.proofs.Common.{◌≡◌, ◌≢◌, ℕ, zero, suc, ◌+◌, ◌*◌, ◌<◌, Bool, true, false, cond, nat_lt, List, [], ◌∷◌, ◌++◌, length, set, Option, Some, None, sym, ◌∙◌, ap, refl, inl, inr, ◌⊎◌, arith, length-set}
use Rattle.std.specs.List.{slice_get}
use Rattle.std.specs.Option.{option_map}
use Rattle.std.proofs.lemmas.Bool.{cases_eq, cases_lt}
use Rattle.std.proofs.lemmas.Bool.Decides.{nat_tests}
use Rattle.std.proofs.lemmas.Option.{slice_get_within}
use Rattle.hy_links.specs.declared.Link.{Link}
use Rattle.hy_links.specs.declared.ring.Place.{Place}
use Rattle.hy_links.specs.declared.ring.Place.TheVariants.{Head, Link as At}
use Rattle.hy_links.specs.declared.ring.Neighbours.{Neighbours}
use Rattle.hy_links.specs.declared.ring.Rings.{Rings}
use Rattle.hy_links.specs.Arena.{same_link}
use Rattle.hy_links.specs.Ring.{neighbours_at, HasPlace, after_of, before_of, Replaces, Joins, alone}

-- where a link's neighbours stand among those of all links
abbrev pub slot : Link → ℕ
slot x = 3 * x.node + x.side

pub link_same : (x y : Link) → x.node ≡ y.node → x.side ≡ y.side → x ≡ y
link_same x y node side =
    let first : Link = record { node = y.node; side = x.side } in
    let one : x ≡ first = ap (λ (n : ℕ). let l : Link = record { node = n; side = x.side } in l) node in
    let two : first ≡ y = ap (λ (s : ℕ). let l : Link = record { node = y.node; side = s } in l) side in
    one ∙ two

pub link_same_from_slot : (x y : Link) → x.side < 3 → y.side < 3 → slot x ≡ slot y → x ≡ y
link_same_from_slot x y x_side y_side same = link_same x y (omega arith) (omega arith)

pub cases_link : (x y : Link) → (x ≡ y) ⊎ (x ≢ y)
cases_link x y = elim (cases_eq x.node y.node) [
  | inl node ↦ elim (cases_eq x.side y.side) [ inl side ↦ inl (link_same x y node side) | inr apart ↦ inr (λ e. apart (ap (λ (l : Link). l.side) e)) ]
  | inr apart ↦ inr (λ e. apart (ap (λ (l : Link). l.node) e))
]

pub same_link_true : (x y : Link) → x ≡ y → same_link x y ≡ true
same_link_true x y e = let node : x.node ≡ y.node = ap (λ (l : Link). l.node) e in
    let side : x.side ≡ y.side = ap (λ (l : Link). l.side) e in
    grind (arith, nat_tests)

pub link_same_from_test : (x y : Link) → same_link x y ≡ true → x ≡ y
link_same_from_test x y h = link_same x y (grind (arith, nat_tests)) (grind (arith, nat_tests))

pub same_link_false : (x y : Link) → x ≢ y → same_link x y ≡ false
same_link_false x y apart = from_test (same_link x y) refl
  where
    from_test : (b : Bool) → same_link x y ≡ b → b ≡ false
    from_test true h = absurd (apart (link_same_from_test x y h))
    from_test false h = refl

pub cases_place : (p q : Place) → (p ≡ q) ⊎ (p ≢ q)
cases_place (Head i) (Head j) = elim (cases_eq i j) [ inl e ↦ inl (ap Head e) | inr ne ↦ inr (λ e. ne (cc)) ]
cases_place (Head i) (At y) = inr (λ e. cc)
cases_place (At x) (Head j) = inr (λ e. cc)
cases_place (At x) (At y) = elim (cases_link x y) [ inl e ↦ inl (ap At e) | inr ne ↦ inr (λ e. ne (cc)) ]

slice_get-set_same : {A : Type 0} (xs : List A) (i : ℕ) (x : A) → i < length xs → slice_get (set xs i x) i ≡ Some x
slice_get-set_same [] i x h = absurd (omega arith)
slice_get-set_same (y ∷ ys) zero x h = refl
slice_get-set_same (y ∷ ys) (suc i) x h = slice_get-set_same ys i x (omega arith)

slice_get-set_other : {A : Type 0} (xs : List A) (i j : ℕ) (x : A) → j ≢ i → slice_get (set xs i x) j ≡ slice_get xs j
slice_get-set_other [] i j x ne = refl
slice_get-set_other (y ∷ ys) zero zero x ne = absurd (ne refl)
slice_get-set_other (y ∷ ys) zero (suc j) x ne = refl
slice_get-set_other (y ∷ ys) (suc i) zero x ne = refl
slice_get-set_other (y ∷ ys) (suc i) (suc j) x ne = slice_get-set_other ys i j x (λ e. ne (ap suc e))

pub slice_get-push_before : {A : Type 0} (xs : List A) (i : ℕ) (x : A) → i < length xs → slice_get (xs ++ x ∷ []) i ≡ slice_get xs i
slice_get-push_before [] i x h = absurd (omega arith)
slice_get-push_before (y ∷ ys) zero x h = refl
slice_get-push_before (y ∷ ys) (suc i) x h = slice_get-push_before ys i x (omega arith)

pub slice_get-push_at : {A : Type 0} (xs : List A) (i : ℕ) (x : A) → length xs ≡ i → slice_get (xs ++ x ∷ []) i ≡ Some x
slice_get-push_at [] zero x h = refl
slice_get-push_at [] (suc i) x h = absurd (omega arith)
slice_get-push_at (y ∷ ys) zero x h = absurd (omega arith)
slice_get-push_at (y ∷ ys) (suc i) x h = slice_get-push_at ys i x (omega arith)

pub slice_get_some : {A : Type 0} (xs : List A) (i : ℕ) → i < length xs → (x : A) × (slice_get xs i ≡ Some x)
slice_get_some [] i h = absurd (omega arith)
slice_get_some (y ∷ ys) zero h = (y, refl)
slice_get_some (y ∷ ys) (suc i) h = slice_get_some ys i (omega arith)

pub alone_same : (n : Neighbours) (list : ℕ) → n.before ≡ Head list → n.after ≡ Head list → n ≡ alone list
alone_same n list before after =
    let first : Neighbours = record { before = Head list; after = n.after } in
    let one : n ≡ first = ap (λ (p : Place). let m : Neighbours = record { before = p; after = n.after } in m) before in
    let two : first ≡ alone list = ap (λ (p : Place). let m : Neighbours = record { before = Head list; after = p } in m) after in
    one ∙ two

if_some : {A : Type 0} (b : Bool) (o : Option A) (e : A) → cond b o None ≡ Some e → (b ≡ true) × (o ≡ Some e)
if_some true o e h = (refl, h)
if_some false o e h = cc

pub head_within : (r : Rings) (i : ℕ) → HasPlace r (Head i) → i < length r.heads.items
unfolding neighbours_at
head_within r i has = slice_get_within r.heads.items i has.entry has.is

pub link_within : (r : Rings) (x : Link) → HasPlace r (At x) → (x.side < 3) × (slot x < length r.links.items)
unfolding neighbours_at
link_within r x has =
    let parts = if_some (nat_lt x.side 3) (slice_get r.links.items (slot x)) has.entry has.is in
    let side : nat_lt x.side 3 ≡ true = parts.0 in
    (grind (arith, nat_tests), slice_get_within r.links.items (slot x) has.entry parts.1)

pub at_link : (r : Rings) (x : Link) → x.side < 3 → neighbours_at r (At x) ≡ slice_get r.links.items (slot x)
unfolding neighbours_at
at_link r x side = let passes : nat_lt x.side 3 ≡ true = grind (arith, nat_tests) in rw passes refl

pub replaces_head : (old new : Rings) (i : ℕ) (entry : Neighbours) → HasPlace old (Head i) → new.heads.items ≡ set old.heads.items i entry → new.links.items ≡ old.links.items → Replaces old new (Head i) entry
unfolding neighbours_at
replaces_head old new i entry has heads links = record {
  written = rw heads (slice_get-set_same old.heads.items i entry (head_within old i has));
  others = others;
  heads = ap length heads ∙ length-set old.heads.items i entry;
  links = ap length links;
}
  where
    others : (p : Place) → p ≢ Head i → neighbours_at new p ≡ neighbours_at old p
    others (Head j) ne = rw heads (slice_get-set_other old.heads.items i j entry (λ e. ne (ap Head e)))
    others (At x) ne = rw links refl

pub replaces_link : (old new : Rings) (x : Link) (entry : Neighbours) → HasPlace old (At x) → new.heads.items ≡ old.heads.items → new.links.items ≡ set old.links.items (slot x) entry → Replaces old new (At x) entry
unfolding neighbours_at
replaces_link old new x entry has heads links = record {
  written = at_link new x (link_within old x has).0 ∙ rw links (slice_get-set_same old.links.items (slot x) entry (link_within old x has).1);
  others = others;
  heads = ap length heads;
  links = ap length links ∙ length-set old.links.items (slot x) entry;
}
  where
    others : (p : Place) → p ≢ At x → neighbours_at new p ≡ neighbours_at old p
    others (Head j) ne = rw heads refl
    others (At y) ne = elim (cases_lt y.side 3) [
      | inl side ↦ at_link new y side ∙ rw links (slice_get-set_other old.links.items (slot x) (slot y) entry (λ e. ne (ap At (link_same_from_slot y x side (link_within old x has).0 e)))) ∙ sym (at_link old y side)
      | inr past ↦ let fails : nat_lt y.side 3 ≡ false = grind (arith, nat_tests) in rw fails refl
    ]

-- with both writes done, the two places are next to each other
pub joins : (old mid new : Rings) (left right : Place) (at_left at_right : Neighbours) → neighbours_at old left ≡ Some at_left → Replaces old mid left (record { before = at_left.before; after = right }) → neighbours_at mid right ≡ Some at_right → Replaces mid new right (record { before = left; after = at_right.after }) → Joins old new left right
unfolding after_of before_of
joins old mid new left right at_left at_right was_left one was_right two = record {
  edge = record { after = edge_after; before = ap (option_map (λ (n : Neighbours). n.before)) two.written };
  afters = afters;
  befores = befores;
  heads = two.heads ∙ one.heads;
  links = two.links ∙ one.links;
}
  where
    edge_after : after_of new left ≡ Some right
    edge_after = elim (cases_place left right) [
      | inl same ↦ let e : neighbours_at mid right ≡ Some (record { before = at_left.before; after = right }) = ap (neighbours_at mid) (sym same) ∙ one.written in
          let f : at_right.after ≡ right = cc in
          ap (λ (p : Place). option_map (λ (n : Neighbours). n.after) (neighbours_at new p)) same ∙ ap (option_map (λ (n : Neighbours). n.after)) two.written ∙ ap Some f
      | inr apart ↦ ap (option_map (λ (n : Neighbours). n.after)) (two.others left apart ∙ one.written)
    ]

    afters : (p : Place) → p ≢ left → after_of new p ≡ after_of old p
    afters p apart = elim (cases_place p right) [
      | inl same ↦ let e : neighbours_at old p ≡ Some at_right = sym (one.others p apart) ∙ ap (neighbours_at mid) same ∙ was_right in
          let f : neighbours_at new p ≡ Some (record { before = left; after = at_right.after }) = ap (neighbours_at new) same ∙ two.written in
          ap (option_map (λ (n : Neighbours). n.after)) f ∙ sym (ap (option_map (λ (n : Neighbours). n.after)) e)
      | inr other ↦ ap (option_map (λ (n : Neighbours). n.after)) (two.others p other ∙ one.others p apart)
    ]

    befores : (p : Place) → p ≢ right → before_of new p ≡ before_of old p
    befores p apart = elim (cases_place p left) [
      | inl same ↦ let e : neighbours_at new p ≡ Some (record { before = at_left.before; after = right }) = two.others p apart ∙ ap (neighbours_at mid) same ∙ one.written in
          let f : neighbours_at old p ≡ Some at_left = ap (neighbours_at old) same ∙ was_left in
          ap (option_map (λ (n : Neighbours). n.before)) e ∙ sym (ap (option_map (λ (n : Neighbours). n.before)) f)
      | inr other ↦ ap (option_map (λ (n : Neighbours). n.before)) (two.others p apart ∙ one.others p other)
    ]
