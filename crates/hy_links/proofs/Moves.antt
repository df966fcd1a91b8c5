-- What a push, a removal and a move leave of the paths through the rings, by the joins that each makes.
use Rattle.std.proofs.Common.{◌≡◌, ◌≢◌, ℕ, true, false, List, [], ◌∷◌, ◌++◌, Some, sym, ◌∙◌, ap, subst, inl, inr, arith}
use Rattle.std.specs.List.{Contains}
use Rattle.hy_links.specs.declared.Link.{Link}
use Rattle.hy_links.specs.declared.ring.Place.{Place}
use Rattle.hy_links.specs.declared.ring.Place.TheVariants.{Head, Link as At}
use Rattle.hy_links.specs.declared.ring.Rings.{Rings}
use Rattle.hy_links.specs.Arena.{same_link, without}
use Rattle.hy_links.specs.Ring.{after_of, before_of, Edge, Path, Joins}
use Rattle.hy_links.proofs.Places.{cases_link, same_link_true, same_link_false}
use Rattle.hy_links.proofs.Paths.{some_same, first_place, first_edge, path_stays, contains_head, contains_tail}

head_apart : (i j : ℕ) → i ≢ j → Head i ≢ Head j
head_apart i j apart e = apart (cc)

link_not_head : (x : Link) (i : ℕ) → At x ≢ Head i
link_not_head x i e = cc

link_apart : (x y : Link) → x ≢ y → At x ≢ At y
link_apart x y apart e = apart (cc)

apart_from_absent : (xs : List Link) (x : Link) → ¬ Contains xs x → (y : Link) → Contains xs y → At y ≢ At x
apart_from_absent xs x absent y h = link_apart y x (λ e. absent (subst (λ (z : Link). Contains xs z) e h))

first_not_absent : (xs : List Link) (i : ℕ) (x : Link) → ¬ Contains xs x → At x ≢ first_place xs (Head i)
first_not_absent [] i x absent = link_not_head x i
first_not_absent (y ∷ ys) i x absent = link_apart x y (λ e. absent (0, omega arith, sym e))

-- a link that stands nowhere is put between a head and the first place of its ring
module _ (old mid new : Rings) (list : ℕ) (x : Link) (chain : List Link) (first : Place)
    (ring : Path old (Head list) chain (Head list)) (is_first : after_of old (Head list) ≡ Some first) (absent : ¬ Contains chain x)
    (one : Joins old mid (Head list) (At x)) (two : Joins mid new (At x) first) where
  way_in : Edge old (Head list) first
  way_in = let edge = first_edge old (Head list) chain (Head list) ring in
      subst (λ (q : Place). Edge old (Head list) q) (some_same edge.after is_first) edge

  is_first_place : first_place chain (Head list) ≡ first
  is_first_place = some_same (first_edge old (Head list) chain (Head list) ring).after is_first

  first_apart : At x ≢ first
  first_apart e = first_not_absent chain list x absent (e ∙ sym is_first_place)

  edge_stays : (p q : Place) → ((p ≢ Head list) × (p ≢ At x)) → q ≢ At x → Edge old p q → Edge new p q
  edge_stays p q source target edge = record {
    after = two.afters p source.1 ∙ one.afters p source.0 ∙ edge.after;
    before = two.befores q (λ e. source.0 (some_same edge.before (ap (before_of old) e ∙ way_in.before))) ∙ one.befores q target ∙ edge.before;
  }

  links_apart : (xs : List Link) → ¬ Contains xs x → (y : Link) → Contains xs y → ((At y ≢ Head list) × (At y ≢ At x)) × (At y ≢ At x)
  links_apart xs away y h = let ne = apart_from_absent xs x away y h in ((link_not_head y list, ne), ne)

  pub push_others : (i : ℕ) (xs : List Link) → i ≢ list → ¬ Contains xs x → Path old (Head i) xs (Head i) → Path new (Head i) xs (Head i)
  push_others i xs apart away path =
      path_stays old new (λ p. (p ≢ Head list) × (p ≢ At x)) (λ q. q ≢ At x) edge_stays (Head i) xs (Head i)
      (head_apart i list apart, λ e. link_not_head x i (sym e)) (λ e. link_not_head x i (sym e)) (links_apart xs away) path

  after_first : (xs : List Link) → first_place xs (Head list) ≡ first → ¬ Contains xs x → Path old (Head list) xs (Head list) → Path new (At x) xs (Head list)
  unfolding Path
  after_first [] is away path = subst (λ (q : Place). Edge new (At x) q) (sym is) two.edge
  after_first (y ∷ ys) is away path = (
    subst (λ (q : Place). Edge new (At x) q) (sym is) two.edge,
    path_stays old new (λ p. (p ≢ Head list) × (p ≢ At x)) (λ q. q ≢ At x) edge_stays (At y) ys (Head list)
        (links_apart (y ∷ ys) away y (contains_head y ys)).0 (λ e. link_not_head x list (sym e))
        (λ z h. links_apart (y ∷ ys) away z (contains_tail y ys z h)) path.1,
  )

  pub push_front : Path new (Head list) (x ∷ chain) (Head list)
  unfolding Path
  push_front = (
    record { after = two.afters (Head list) (λ e. link_not_head x list (sym e)) ∙ one.edge.after; before = two.befores (At x) first_apart ∙ one.edge.before },
    after_first chain is_first_place absent ring,
  )

-- the two neighbours of a link are joined
module _ (old new : Rings) (x : Link) (p n : Place) (into : Edge old p (At x)) (out : Edge old (At x) n) (one : Joins old new p n) where
  past_stays : (c d : Place) → c ≢ At x → d ≢ At x → Edge old c d → Edge new c d
  past_stays c d source target edge = record {
    after = one.afters c (λ e. target (some_same edge.after (ap (after_of old) e ∙ into.after))) ∙ edge.after;
    before = one.befores d (λ e. source (some_same edge.before (ap (before_of old) e ∙ out.before))) ∙ edge.before;
  }

  pub past : (xs : List Link) (d : Place) → d ≢ At x → ((c : Place) → c ≢ At x → Path old c xs d → Path new c (without x xs) d) × (Path old (At x) xs d → Path new p (without x xs) d)
  unfolding Path
  past [] d target = (λ c source edge. past_stays c d source target edge, λ edge. subst (λ (q : Place). Edge new p q) (some_same out.after edge.after) one.edge)
  past (y ∷ ys) d target =
      let rest = past ys d target in
      elim (cases_link y x) [
        | inl same ↦
            let passes : same_link y x ≡ true = same_link_true y x same in
            rw passes (
              λ c source path. (let is : p ≡ c = some_same into.before (subst (λ (z : Link). before_of old (At z) ≡ Some c) same path.0.before) in
                  subst (λ (q : Place). Path new q (without x ys) d) is (rest.1 (subst (λ (z : Link). Path old (At z) ys d) same path.1))),
              λ path. rest.1 (subst (λ (z : Link). Path old (At z) ys d) same path.1),
            )
        | inr apart ↦
            let fails : same_link y x ≡ false = same_link_false y x apart in
            let ne = link_apart y x apart in
            rw fails (
              λ c source path. (past_stays c (At y) source ne path.0, rest.0 (At y) ne path.1),
              λ path. (subst (λ (q : Place). Edge new p q) (some_same out.after path.0.after) one.edge, rest.0 (At y) ne path.1),
            )
      ]

-- a ring is opened at its head, put in front of another, and its head is closed alone
module _ (old m1 m2 new : Rings) (from to : ℕ) (first last next : Place) (apart : from ≢ to)
    (first_of : Edge old (Head from) first) (last_of : Edge old last (Head from)) (next_of : Edge old (Head to) next)
    (first_link : first ≢ Head from) (next_link : next ≢ Head from)
    (one : Joins old m1 (Head to) first) (two : Joins m1 m2 last next) (three : Joins m2 new (Head from) (Head from)) where
  last_not_from : last ≢ Head from
  last_not_from e = first_link (some_same first_of.after (subst (λ (q : Place). after_of old q ≡ Some (Head from)) e last_of.after))

  last_not_to : last ≢ Head to
  last_not_to e = next_link (some_same next_of.after (subst (λ (q : Place). after_of old q ≡ Some (Head from)) e last_of.after))

  to_not_from : Head to ≢ Head from
  to_not_from = head_apart to from (λ e. apart (sym e))

  other_stays : (c d : Place) → ((c ≢ Head to) × (c ≢ Head from)) → d ≢ Head from → Edge old c d → Edge new c d
  other_stays c d source target edge = record {
    after = three.afters c source.1 ∙ two.afters c (λ e. target (some_same edge.after (ap (after_of old) e ∙ last_of.after))) ∙ one.afters c source.0 ∙ edge.after;
    before = three.befores d target ∙ two.befores d (λ e. source.0 (some_same edge.before (ap (before_of old) e ∙ next_of.before))) ∙ one.befores d (λ e. source.1 (some_same edge.before (ap (before_of old) e ∙ first_of.before))) ∙ edge.before;
  }

  to_first : Edge new (Head to) first
  to_first = record {
    after = three.afters (Head to) to_not_from ∙ two.afters (Head to) (λ e. last_not_to (sym e)) ∙ one.edge.after;
    before = three.befores first first_link ∙ two.befores first (λ e. to_not_from (some_same next_of.before (subst (λ (q : Place). before_of old q ≡ Some (Head from)) e first_of.before))) ∙ one.edge.before;
  }

  last_next : Edge new last next
  last_next = record { after = three.afters last last_not_from ∙ two.edge.after; before = three.befores next next_link ∙ two.edge.before }

  links_free : (xs : List Link) (y : Link) → Contains xs y → ((At y ≢ Head to) × (At y ≢ Head from)) × (At y ≢ Head from)
  links_free xs y h = ((link_not_head y to, link_not_head y from), link_not_head y from)

  stays : (c : Place) (xs : List Link) (d : Place) → ((c ≢ Head to) × (c ≢ Head from)) → d ≢ Head from → Path old c xs d → Path new c xs d
  stays c xs d source target path = path_stays old new (λ q. (q ≢ Head to) × (q ≢ Head from)) (λ q. q ≢ Head from) other_stays c xs d source target (links_free xs) path

  pub move_others : (i : ℕ) (xs : List Link) → i ≢ from → i ≢ to → Path old (Head i) xs (Head i) → Path new (Head i) xs (Head i)
  move_others i xs not_from not_to path = stays (Head i) xs (Head i) (head_apart i to not_to, head_apart i from not_from) (head_apart i from not_from) path

  after_last : (ys : List Link) → Path old (Head to) ys (Head to) → Path new last ys (Head to)
  unfolding Path
  after_last [] path = subst (λ (q : Place). Edge new last q) (some_same next_of.after path.after) last_next
  after_last (y ∷ ys) path = (
    subst (λ (q : Place). Edge new last q) (some_same next_of.after path.0.after) last_next,
    stays (At y) ys (Head to) (link_not_head y to, link_not_head y from) to_not_from path.1,
  )

  joined : (c : Place) (xs ys : List Link) → ((c ≢ Head to) × (c ≢ Head from)) → Path old c xs (Head from) → Path old (Head to) ys (Head to) → Path new c (xs ++ ys) (Head to)
  unfolding Path
  joined c [] ys source path onto = subst (λ (q : Place). Path new q ys (Head to)) (some_same last_of.before path.before) (after_last ys onto)
  joined c (x ∷ xs) ys source path onto =
      (other_stays c (At x) source (link_not_head x from) path.0, joined (At x) xs ys (link_not_head x to, link_not_head x from) path.1 onto)

  pub move_front : (xs ys : List Link) → Path old (Head from) xs (Head from) → Path old (Head to) ys (Head to) → Path new (Head to) (xs ++ ys) (Head to)
  unfolding Path
  move_front [] ys path onto = absurd (first_link (some_same first_of.after path.after))
  move_front (x ∷ xs) ys path onto = (
    subst (λ (q : Place). Edge new (Head to) q) (some_same first_of.after path.0.after) to_first,
    joined (At x) xs ys (link_not_head x to, link_not_head x from) path.1 onto,
  )

  pub move_left : Path new (Head from) [] (Head from)
  unfolding Path
  move_left = three.edge
