-- What the fields of an arena are seen as, and what each call leaves of it.
use Rattle.std.proofs.Common.{◌≡◌, ◌≢◌, ℕ, zero, suc, ◌+◌, ◌*◌, ◌<◌, ◌≤◌, Bool, true, false, eqb, List, [], ◌∷◌, ◌++◌, length, map, get_or, set, replicate, Option, Some, None, Result, Ok, Err, sym, ◌∙◌, ap, subst, refl, inl, inr, arith, get_or-set_other, get_or-set_same, length-set}
use Rattle.std.specs.List.{Contains, IsDistinct, list_any, slice_get}
use Rattle.std.specs.Option.{option_map, MatchOption}
use Rattle.std.specs.Result.{OnErr}
use Rattle.std.proofs.lemmas.Bool.{cases_eq, cases_lt}
use Rattle.std.proofs.lemmas.Bool.Decides.{nat_tests}
use Rattle.std.proofs.lemmas.List.{length_push, length-map, length-replicate, map-id, get_or_past, get_or-map, get_or-replicate, get_or_append_left, get_or_push, set-get_or}
use Rattle.std.proofs.lemmas.Option.{slice_get_within}
use Rattle.std.proofs.lemmas.List.FromFn.{fill_by_all}
use Rattle.std.proofs.lemmas.Map.Steps.{length-le_from_distinct_below}
use Rattle.hy_links.specs.declared.Link.{Link}
use Rattle.hy_links.specs.declared.ring.Place.{Place}
use Rattle.hy_links.specs.declared.ring.Place.TheVariants.{Head, Link as At}
use Rattle.hy_links.specs.declared.ring.Neighbours.{Neighbours}
use Rattle.hy_links.specs.declared.ring.Rings.{Rings}
use Rattle.hy_links.specs.declared.Links.TheInside.{Inside}
use Rattle.hy_links.specs.Arena.{Arena, IsLinkedOnce, link_after, max_lists, max_nodes, same_link, without}
use Rattle.hy_links.specs.Ring.{neighbours_at, HasPlace, after_of, before_of, Edge, Path, Joins, Grows, IsNew, alone}
use Rattle.hy_links.specs.Inside.{followed, chain_of, chains_of, Holds, arena_of, IsSound}
use Rattle.hy_links.proofs.Places.{slot, link_within, link_same_from_slot, link_same_from_test, at_link, slice_get-push_before, slice_get-push_at, slice_get_some, cases_place, cases_link, same_link_true, same_link_false}
use Rattle.hy_links.proofs.Paths.{some_same, has_from_after, ends_at_own, has_source, has_target, first_place, first_edge, path_stays, same_way, way_on, path_distinct}
use Rattle.hy_links.proofs.Moves.{push_others, push_front, past, move_others, move_front, move_left}

-- what is followed from a place of a path to a head is the path's links
followed-path : (r : Rings) (n : ℕ) (p : Place) (xs : List Link) (i : ℕ) → length xs ≤ n → Path r p xs (Head i) → followed r n (after_of r p) ≡ xs
unfolding followed Path
followed-path r n p [] i short path = rw path.after refl
followed-path r zero p (x ∷ xs) i short path = absurd (omega arith)
followed-path r (suc n) p (x ∷ xs) i short path = rw path.0.after (ap (λ (ys : List Link). x ∷ ys) (followed-path r n (At x) xs i (omega arith) path.1))

by_test : (n m k : ℕ) (b : Bool) → eqb n m ≡ b → m < k → (b ≡ false → n < k) → n < k
by_test n m k true h below other = let same : n ≡ m = grind (arith, nat_tests) in omega arith
by_test n m k false h below other = other refl

slots_below : (r : Rings) (p : Place) (xs : List Link) (q : Place) → Path r p xs q → (n : ℕ) → list_any (eqb n) (map slot xs) ≡ true → n < length r.links.items
unfolding Path
slots_below r p [] q path n found = cc
slots_below r p (x ∷ xs) q path n found =
    by_test n (slot x) (length r.links.items) (eqb n (slot x)) refl (link_within r x (has_target r p (At x) path.0)).1
    (λ e. slots_below r (At x) xs q path.1 n (rw e at found))

-- a ring has no more links than there are entries, since no entry comes twice
path_short : (r : Rings) (p : Place) (xs : List Link) (i : ℕ) → Path r p xs (Head i) → length xs ≤ length r.links.items
path_short r p xs i path =
    let bound = length-le_from_distinct_below (map slot xs) (length r.links.items)
    (path_distinct eqb slot r (λ x y has_x has_y same. link_same_from_slot x y (link_within r x has_x).0 (link_within r y has_y).0 (grind (arith, nat_tests))) p xs i path)
    (slots_below r p xs (Head i) path) in
    subst (λ (n : ℕ). n ≤ length r.links.items) (length-map xs slot) bound

-- the lists of a ring are those that hold
pub chains_is : (r : Rings) (chains : List (List Link)) → Holds r chains → chains_of r ≡ chains
unfolding chains_of chain_of
chains_is r chains holds = sym (fill_by_all (chain_of r) chains (length r.heads.items) [] holds.one_for_each (λ k h.
    let path = holds.chained k (omega (arith, holds.one_for_each)) in
    sym (followed-path r (length r.links.items) (Head k) (get_or chains k []) k (path_short r (Head k) (get_or chains k []) k path) path)))

pub arena_is : (a : Inside) (chains : List (List Link)) → Holds a.rings chains → arena_of a ≡ record { lists = a.lists; nodes = a.nodes; chains = chains }
unfolding arena_of
arena_is a chains holds = ap (λ (c : List (List Link)). let v : Arena = record { lists = a.lists; nodes = a.nodes; chains = c } in v) (chains_is a.rings chains holds)

pub sound : (a : Inside) (chains : List (List Link)) → length a.rings.heads.items ≡ a.lists + a.nodes → length a.rings.links.items ≡ 3 * a.nodes → a.lists ≤ max_lists → a.nodes ≤ max_nodes → Holds a.rings chains → IsSound a
sound a chains heads links few_lists few_nodes holds = record {
  heads = heads;
  links = links;
  few_lists = few_lists;
  few_nodes = few_nodes;
  holds = subst (λ (c : List (List Link)). Holds a.rings c) (sym (chains_is a.rings chains holds)) holds;
}

-- what the neighbours that are read say
pub after_is : (r : Rings) (p : Place) (n : Neighbours) → neighbours_at r p ≡ Some n → after_of r p ≡ Some n.after
unfolding after_of
after_is r p n is = ap (option_map (λ (m : Neighbours). m.after)) is

pub before_is : (r : Rings) (p : Place) (n : Neighbours) → neighbours_at r p ≡ Some n → before_of r p ≡ Some n.before
unfolding before_of
before_is r p n is = ap (option_map (λ (m : Neighbours). m.before)) is

-- the place is there still after a join
pub has_kept : (old new : Rings) (left right p : Place) → Joins old new left right → HasPlace old p → HasPlace new p
has_kept old new left right p joins has = elim (cases_place p left) [
  | inl same ↦ subst (λ (q : Place). HasPlace new q) (sym same) (has_source new left right joins.edge)
  | inr apart ↦ has_from_after new p has.entry.after (joins.afters p apart ∙ after_is old p has.entry has.is)
]

pub has_link : (r : Rings) (x : Link) → x.side < 3 → slot x < length r.links.items → HasPlace r (At x)
has_link r x side within = let found = slice_get_some r.links.items (slot x) within in record { entry = found.0; is = at_link r x side ∙ found.1 }

-- a head and the place after it are there, and so are those around a link that stands in a list
pub ring_of : (r : Rings) (chains : List (List Link)) → Holds r chains → (list : ℕ) → list < length chains → Path r (Head list) (get_or chains list []) (Head list)
ring_of r chains holds list within = holds.chained list within

pub has_head : (r : Rings) (chains : List (List Link)) → Holds r chains → (list : ℕ) → list < length chains → HasPlace r (Head list)
has_head r chains holds list within = has_source r (Head list) _ (first_edge r (Head list) (get_or chains list []) (Head list) (holds.chained list within))

pub out_of_head : (r : Rings) (chains : List (List Link)) → Holds r chains → (list : ℕ) → list < length chains → (n : Neighbours) → neighbours_at r (Head list) ≡ Some n → Edge r (Head list) n.after
out_of_head r chains holds list within n is =
    let edge = first_edge r (Head list) (get_or chains list []) (Head list) (holds.chained list within) in
    subst (λ (q : Place). Edge r (Head list) q) (some_same edge.after (after_is r (Head list) n is)) edge

last_edge : (r : Rings) (p : Place) (xs : List Link) (q : Place) → Path r p xs q → (l : Place) × Edge r l q
unfolding Path
last_edge r p [] q path = (p, path)
last_edge r p (x ∷ xs) q path = last_edge r (At x) xs q path.1

pub into_head : (r : Rings) (chains : List (List Link)) → Holds r chains → (list : ℕ) → list < length chains → (n : Neighbours) → neighbours_at r (Head list) ≡ Some n → Edge r n.before (Head list)
into_head r chains holds list within n is =
    let last = last_edge r (Head list) (get_or chains list []) (Head list) (holds.chained list within) in
    subst (λ (q : Place). Edge r q (Head list)) (some_same last.1.before (before_is r (Head list) n is)) last.1

both_edges : (r : Rings) (x : Link) (p : Place) (xs : List Link) (q : Place) → Path r p xs q → Contains xs x → (l n : Place) × Edge r l (At x) × Edge r (At x) n
unfolding Path
both_edges r x p [] q path (k, within, is) = absurd (omega arith)
both_edges r x p (y ∷ ys) q path (zero, within, is) =
    let on = subst (λ (z : Link). Path r (At z) ys q) is path.1 in
    (p, first_place ys q, subst (λ (z : Link). Edge r p (At z)) is path.0, first_edge r (At x) ys q on)
both_edges r x p (y ∷ ys) q path (suc k, within, is) = both_edges r x (At y) ys q path.1 (k, omega arith, is)

pub list_within : (chains : List (List Link)) (list : ℕ) (x : Link) → Contains (get_or chains list []) x → list < length chains
list_within chains list x (k, within, is) = elim (cases_lt list (length chains)) [
  | inl below ↦ below
  | inr past ↦ let none = get_or_past chains list [] past in let bound : k < length {A = Link} [] = rw none at within in absurd (omega arith)
]

pub around : (r : Rings) (chains : List (List Link)) → Holds r chains → (x : Link) → (list : ℕ) × Contains (get_or chains list []) x → (n : Neighbours) → neighbours_at r (At x) ≡ Some n → Edge r n.before (At x) × Edge r (At x) n.after
around r chains holds x (list, contains) n is =
    let found = both_edges r x (Head list) (get_or chains list []) (Head list) (holds.chained list (list_within chains list x contains)) contains in (
      subst (λ (q : Place). Edge r q (At x)) (some_same found.2.before (before_is r (At x) n is)) found.2,
      subst (λ (q : Place). Edge r (At x) q) (some_same found.3.after (after_is r (At x) n is)) found.3,
    )

pub has_standing : (r : Rings) (chains : List (List Link)) → Holds r chains → (x : Link) (list : ℕ) → Contains (get_or chains list []) x → HasPlace r (At x)
has_standing r chains holds x list contains = (way_on r (Head list) (get_or chains list []) (Head list) x (holds.chained list (list_within chains list x contains)) contains).3

-- the lists after one of them was written
holds_set : (old new : Rings) (chains : List (List Link)) (list : ℕ) (xs : List Link) → Holds old chains → length new.heads.items ≡ length old.heads.items → list < length chains → Path new (Head list) xs (Head list) → ((i : ℕ) → i ≢ list → i < length chains → Path new (Head i) (get_or chains i []) (Head i)) → Holds new (set chains list xs)
holds_set old new chains list xs holds heads within ring others = record {
  one_for_each = length-set chains list xs ∙ holds.one_for_each ∙ sym heads;
  chained = λ i h. elim (cases_eq i list) [
    | inl same ↦ rw same (rw (get_or-set_same chains list xs [] within) ring)
    | inr apart ↦ rw (get_or-set_other chains list i xs [] apart) (others i apart (omega (arith, length-set chains list xs)))
  ];
}

pub push_holds : (old mid new : Rings) (chains : List (List Link)) (list : ℕ) (x : Link) (n : Neighbours) → Holds old chains → list < length chains → ¬ ((l : ℕ) × Contains (get_or chains l []) x) → neighbours_at old (Head list) ≡ Some n → Joins old mid (Head list) (At x) → Joins mid new (At x) n.after → Holds new (set chains list (x ∷ get_or chains list []))
push_holds old mid new chains list x n holds within free is one two =
    let ring = holds.chained list within in
    let first = after_is old (Head list) n is in
    let absent : ¬ Contains (get_or chains list []) x = λ h. free (list, h) in
    holds_set old new chains list (x ∷ get_or chains list []) holds (two.heads ∙ one.heads) within
    (push_front old mid new list x (get_or chains list []) n.after ring first absent one two)
    (λ i apart below. push_others old mid new list x (get_or chains list []) n.after ring first absent one two i (get_or chains i []) apart (λ h. free (i, h)) (holds.chained i below))

pub unlink_holds : (old new : Rings) (chains : List (List Link)) (x : Link) (n : Neighbours) → Holds old chains → (list : ℕ) × Contains (get_or chains list []) x → neighbours_at old (At x) ≡ Some n → Joins old new n.before n.after → Holds new (map (without x) chains)
unlink_holds old new chains x n holds stands is one =
    let edges = around old chains holds x stands n is in
    record {
      one_for_each = length-map chains (without x) ∙ holds.one_for_each ∙ sym one.heads;
      chained = λ i h. (
          let below : i < length chains = omega (arith, length-map chains (without x)) in
          rw (get_or-map (without x) chains i [] [] below)
          ((past old new x n.before n.after edges.0 edges.1 one (get_or chains i []) (Head i) (λ e. cc)).0 (Head i) (λ e. cc) (holds.chained i below)));
    }

no_links : (r : Rings) (p : Place) (xs : List Link) (q : Place) (i : ℕ) → Path r p xs q → after_of r p ≡ Some (Head i) → xs ≡ []
unfolding Path
no_links r p [] q i path is = refl
no_links r p (x ∷ xs) q i path is = let same = some_same path.0.after is in absurd (cc)

-- where the list to move is empty, nothing changes
pub move_none : (r : Rings) (chains : List (List Link)) (from to : ℕ) (n : Neighbours) (i : ℕ) → Holds r chains → from < length chains → neighbours_at r (Head from) ≡ Some n → n.after ≡ Head i → set (set chains to (get_or chains from [] ++ get_or chains to [])) from [] ≡ chains
move_none r chains from to n i holds within is after =
    let none = no_links r (Head from) (get_or chains from []) (Head from) i (holds.chained from within) (after_is r (Head from) n is ∙ ap Some after) in
    let one : set chains to (get_or chains from [] ++ get_or chains to []) ≡ chains = rw none (set-get_or chains to []) in
    let two : set chains from [] ≡ chains = ap (set chains from) (sym none) ∙ set-get_or chains from [] in
    rw one two

pub move_holds : (old m1 m2 new : Rings) (chains : List (List Link)) (from to : ℕ) (n m : Neighbours) (x : Link) → Holds old chains → from < length chains → to < length chains → from ≢ to → neighbours_at old (Head from) ≡ Some n → n.after ≡ At x → neighbours_at old (Head to) ≡ Some m → Joins old m1 (Head to) n.after → Joins m1 m2 n.before m.after → Joins m2 new (Head from) (Head from) → Holds new (set (set chains to (get_or chains from [] ++ get_or chains to [])) from [])
move_holds old m1 m2 new chains from to n m x holds has_from has_to apart is_from first_link is_to one two three =
    let first_of = out_of_head old chains holds from has_from n is_from in
    let last_of = into_head old chains holds from has_from n is_from in
    let next_of = out_of_head old chains holds to has_to m is_to in
    let first_apart : n.after ≢ Head from = λ e. cc in
    let next_apart : m.after ≢ Head from = λ e. apart (ends_at_own old (Head to) (get_or chains to []) to from (holds.chained to has_to) (next_of.after ∙ ap Some e)) in
    record {
      one_for_each = length-set (set chains to (get_or chains from [] ++ get_or chains to [])) from [] ∙ length-set chains to (get_or chains from [] ++ get_or chains to []) ∙ holds.one_for_each ∙ sym (three.heads ∙ two.heads ∙ one.heads);
      chained = λ i h. elim (cases_eq i from) [
        | inl same ↦ rw same (rw (get_or-set_same (set chains to (get_or chains from [] ++ get_or chains to [])) from [] [] (omega (arith, length-set chains to (get_or chains from [] ++ get_or chains to []))))
            (move_left old m1 m2 new from to n.after n.before m.after apart first_of last_of next_of first_apart next_apart one two three))
        | inr not_from ↦ rw (get_or-set_other (set chains to (get_or chains from [] ++ get_or chains to [])) from i [] [] not_from) (elim (cases_eq i to) [
          | inl same ↦ rw same (rw (get_or-set_same chains to (get_or chains from [] ++ get_or chains to []) [] has_to)
              (move_front old m1 m2 new from to n.after n.before m.after apart first_of last_of next_of first_apart next_apart one two three (get_or chains from []) (get_or chains to []) (holds.chained from has_from) (holds.chained to has_to)))
          | inr not_to ↦ rw (get_or-set_other chains to i (get_or chains from [] ++ get_or chains to []) [] not_to)
              (move_others old m1 m2 new from to n.after n.before m.after apart first_of last_of next_of first_apart next_apart one two three i (get_or chains i []) not_from not_to
              (holds.chained i (omega (arith, length-set (set chains to (get_or chains from [] ++ get_or chains to [])) from [], length-set chains to (get_or chains from [] ++ get_or chains to [])))))
        ])
      ];
    }

alone_edge : (r : Rings) (i : ℕ) → slice_get r.heads.items i ≡ Some (alone i) → Path r (Head i) [] (Head i)
unfolding Path neighbours_at
alone_edge r i is = record { after = after_is r (Head i) (alone i) is; before = before_is r (Head i) (alone i) is }

pub new_holds : (r : Rings) (n : ℕ) → IsNew r n → Holds r (replicate n [])
new_holds r n made = record {
  one_for_each = length-replicate n [] ∙ sym made.heads;
  chained = λ i h. (
      let below : i < n = omega (arith, length-replicate {A = List Link} n []) in
      rw (get_or-replicate {A = List Link} n i [] [] below) (alone_edge r i (made.each i below)));
}

grown_place : (old new : Rings) → Grows old new → (p : Place) → HasPlace old p → neighbours_at new p ≡ neighbours_at old p
unfolding neighbours_at
grown_place old new grown (Head i) has =
    let below : i < length old.heads.items = slice_get_within old.heads.items i has.entry has.is in
    rw grown.heads (slice_get-push_before old.heads.items i (alone (length old.heads.items)) below)
grown_place old new grown (At x) has =
    let within = link_within old x has in
    at_link new x within.0 ∙ grown.kept (slot x) within.1 ∙ sym (at_link old x within.0)

grown_edge : (old new : Rings) → Grows old new → (p q : Place) → Edge old p q → Edge new p q
unfolding after_of before_of
grown_edge old new grown p q edge = record {
  after = ap (option_map (λ (n : Neighbours). n.after)) (grown_place old new grown p (has_source old p q edge)) ∙ edge.after;
  before = ap (option_map (λ (n : Neighbours). n.before)) (grown_place old new grown q (has_target old p q edge)) ∙ edge.before;
}

pub grow_holds : (old new : Rings) (chains : List (List Link)) → Holds old chains → Grows old new → Holds new (chains ++ [] ∷ [])
grow_holds old new chains holds grown = record {
  one_for_each = length_push chains [] ∙ ap (λ n. n + 1) holds.one_for_each ∙ sym (ap length grown.heads ∙ length_push old.heads.items (alone (length old.heads.items)));
  chained = λ i h. elim (cases_eq i (length chains)) [
    | inl same ↦ rw same (rw (get_or_push chains [] [] (length chains) refl)
        (alone_edge new (length chains) (rw grown.heads (slice_get-push_at old.heads.items (length chains) (alone (length old.heads.items)) (sym holds.one_for_each) ∙ ap (λ (n : ℕ). Some (alone n)) (sym holds.one_for_each)))))
    | inr apart ↦ (
        let below : i < length chains = omega (arith, length_push chains []) in
        rw (get_or_append_left chains ([] ∷ []) [] i below)
        (path_stays old new (λ _. Unit {0}) (λ _. Unit {0}) (λ p q _ _ edge. grown_edge old new grown p q edge) (Head i) (get_or chains i []) (Head i) tt tt (λ _ _. (tt, tt)) (holds.chained i below)))
  ];
}

-- what is walked to from a head and from a link
abbrev pub link_of : Place → Option Link
link_of (Head i) = None
link_of (At x) = Some x

pub walk_first : (r : Rings) (p : Place) (xs : List Link) (i : ℕ) (q : Place) → Path r p xs (Head i) → after_of r p ≡ Some q → link_of q ≡ slice_get xs 0
unfolding Path
walk_first r p [] i q path is = ap link_of (some_same is path.after)
walk_first r p (x ∷ xs) i q path is = ap link_of (some_same is path.0.after)

later : (y : Link) (ys : List Link) (x : Link) → y ≢ x → Contains (y ∷ ys) x → Contains ys x
later y ys x apart (zero, within, is) = absurd (apart is)
later y ys x apart (suc k, within, is) = (k, omega arith, is)

pub walk_after : (r : Rings) (p : Place) (xs : List Link) (i : ℕ) (x : Link) (q : Place) → Path r p xs (Head i) → Contains xs x → after_of r (At x) ≡ Some q → link_of q ≡ link_after x xs
unfolding Path
walk_after r p [] i x q path (k, within, is) after = absurd (omega arith)
walk_after r p (y ∷ ys) i x q path (k, within, is) after = elim (cases_link y x) [
  | inl same ↦ (let passes : same_link y x ≡ true = same_link_true y x same in
      rw passes (walk_first r (At y) ys i q path.1 (rw same after)))
  | inr apart ↦ (let fails : same_link y x ≡ false = same_link_false y x apart in
      rw fails (walk_after r (At y) ys i x q path.1 (later y ys x apart (k, within, is)) after))
]

nil_distinct : IsDistinct same_link []
unfolding IsDistinct
nil_distinct = tt

pub linked_once : (a : Inside) → IsSound a → IsLinkedOnce (arena_of a)
unfolding arena_of
linked_once a sound = record {
  one_for_each = sound.holds.one_for_each ∙ sound.heads;
  made = λ list x h. (let within = link_within a.rings x (has_standing a.rings (chains_of a.rings) sound.holds x list h) in (omega (arith, within.0, within.1, sound.links), within.0));
  in_one_list = λ i j x one two. (
      let chains = chains_of a.rings in
      let first = way_on a.rings (Head i) (get_or chains i []) (Head i) x (sound.holds.chained i (list_within chains i x one)) one in
      let second = way_on a.rings (Head j) (get_or chains j []) (Head j) x (sound.holds.chained j (list_within chains j x two)) two in
      (same_way a.rings (At x) first.0 second.0 i j first.2 second.2).1);
  there_once = λ list. elim (cases_lt list (length (chains_of a.rings))) [
    | inl within ↦ subst (λ (xs : List Link). IsDistinct same_link xs) (map-id (get_or (chains_of a.rings) list []))
        (path_distinct same_link (λ (x : Link). x) a.rings (λ x y has_x has_y same. link_same_from_test x y same) (Head list) (get_or (chains_of a.rings) list []) list (sound.holds.chained list within))
    | inr past ↦ rw (get_or_past (chains_of a.rings) list [] past) nil_distinct
  ];
}

-- what is known of the fields by the value that they are seen as
pub record Seen (a : Inside) (v : Arena) : Type 0 where
  pub lists : a.lists ≡ v.lists
  pub nodes : a.nodes ≡ v.nodes
  pub holds : Holds a.rings v.chains
  pub within : length v.chains ≡ v.lists + v.nodes

pub seen : (a : Inside) (v : Arena) → arena_of a ≡ v → IsSound a → Seen a v
unfolding arena_of
seen a v is sound = record {
  lists = ap (λ (w : Arena). w.lists) is;
  nodes = ap (λ (w : Arena). w.nodes) is;
  holds = subst (λ (c : List (List Link)). Holds a.rings c) (ap (λ (w : Arena). w.chains) is) sound.holds;
  within = sym (ap (λ (w : Arena). length w.chains) is) ∙ sound.holds.one_for_each ∙ sound.heads ∙ ap (λ (w : Arena). w.lists + w.nodes) is;
}

pub kept_sound : (a : Inside) → IsSound a → (new : Rings) → length new.heads.items ≡ length a.rings.heads.items → length new.links.items ≡ length a.rings.links.items → (chains : List (List Link)) → Holds new chains → IsSound (record { lists = a.lists; nodes = a.nodes; rings = new })
kept_sound a old new heads links chains holds = sound (record { lists = a.lists; nodes = a.nodes; rings = new }) chains (heads ∙ old.heads) (links ∙ old.links) old.few_lists old.few_nodes holds

pub shown : (a : Inside) (lists nodes : ℕ) (chains : List (List Link)) → a.lists ≡ lists → a.nodes ≡ nodes → Holds a.rings chains → arena_of a ≡ record { lists = lists; nodes = nodes; chains = chains }
shown a lists nodes chains lists_is nodes_is holds = rw (← lists_is, ← nodes_is) (arena_is a chains holds)

pub same_holds : (old new : Rings) → new.heads.items ≡ old.heads.items → new.links.items ≡ old.links.items → (chains : List (List Link)) → Holds old chains → Holds new chains
unfolding neighbours_at after_of before_of
same_holds old new heads links chains holds = record {
  one_for_each = holds.one_for_each ∙ sym (ap length heads);
  chained = λ i h. path_stays old new (λ _. Unit {0}) (λ _. Unit {0}) same_edge (Head i) (get_or chains i []) (Head i) tt tt (λ _ _. (tt, tt)) (holds.chained i h);
}
  where
    same_place : (p : Place) → neighbours_at new p ≡ neighbours_at old p
    same_place (Head i) = rw heads refl
    same_place (At x) = rw links refl

    same_edge : (p q : Place) → Unit {0} → Unit {0} → Edge old p q → Edge new p q
    same_edge p q _ _ edge = record {
      after = ap (option_map (λ (n : Neighbours). n.after)) (same_place p) ∙ edge.after;
      before = ap (option_map (λ (n : Neighbours). n.before)) (same_place q) ∙ edge.before;
    }

-- where a walk reads
abbrev pub start : ℕ → Option Link → Place
start list None = Head list
start list (Some x) = At x

pub has_start : (r : Rings) (chains : List (List Link)) → Holds r chains → (list : ℕ) → list < length chains → (after : Option Link) → ((x : Link) → after ≡ Some x → Contains (get_or chains list []) x) → HasPlace r (start list after)
has_start r chains holds list within None standing = has_head r chains holds list within
has_start r chains holds list within (Some x) standing = has_standing r chains holds x list (standing x refl)

pub walk_shows : (r : Rings) (chains : List (List Link)) → Holds r chains → (list : ℕ) → list < length chains → (after : Option Link) → ((x : Link) → after ≡ Some x → Contains (get_or chains list []) x) → (n : Neighbours) → neighbours_at r (start list after) ≡ Some n → MatchOption after (link_of n.after ≡ slice_get (get_or chains list []) 0) (λ x. link_of n.after ≡ link_after x (get_or chains list []))
walk_shows r chains holds list within None standing n is = walk_first r (Head list) (get_or chains list []) list n.after (holds.chained list within) (after_is r (Head list) n is)
walk_shows r chains holds list within (Some x) standing n is = walk_after r (Head list) (get_or chains list []) list x n.after (holds.chained list within) (standing x refl) (after_is r (At x) n is)

pub on_err : {T E : Type 0} (r : Result T E) (P : Type 0) → P → OnErr r P
on_err (Ok x) P p = tt
on_err (Err e) P p = p
