-- Laws of the order of modules.
use Rattle.std.proofs.Common.{◌≡◌, ℕ, zero, suc, ◌+◌, ◌<◌, ◌≤◌, Bool, true, false, ◌&&◌, ◌||◌, eqb, cond, List, [], ◌∷◌, ◌++◌, Option, Some, None, filter, get_or, take, length, map, refl, sym, ap, ◌∙◌, arith, add-one}
use Rattle.std.specs.Prelude.{if◌then◌else◌}
use mathlib.Core.Bool.{beq}
use Rattle.std.specs.List.{All, filter_map, flat_map, list_any, position}
use Rattle.std.proofs.lemmas.List.{append-nil, length-map, take_all, take_more}
use Rattle.std.proofs.lemmas.List.Elements.{filter_map-append}
use Rattle.std.proofs.lemmas.Grind.{flat_map-append}
use Rattle.module_split.specs.declared.homes.Group.{Group}
use Rattle.module_split.specs.contracts.homes.GroupPartialEq.TheImpl as impl
use Rattle.module_split.specs.Homes.{IsLowGroup, same_bit}
use Rattle.module_split.specs.Cut.{below, different_after, group_in, is_just, is_of, nodes_of, order_of, same_group}
use Rattle.module_split.specs.Steps.{IsBelow, group_at, layer_number}
use Rattle.module_split.proofs.ListLaws.{below-more}
use Rattle.module_split.proofs.UseLaws.{filter_below-more}

same_bits : (a b : Bool) → beq a b ≡ same_bit a b
same_bits true true = refl
same_bits true false = refl
same_bits false true = refl
same_bits false false = refl

-- the derived comparison of groups is the defined one
pub same : (g h : Group) → impl.eq-value.it g h ≡ same_group g h
same g h = ap (λ (b : Bool). b && (eqb g.layer h.layer && eqb g.region h.region)) (same_bits g.ring h.ring)

pub list_any-same : (g : Group) (hs : List Group) → list_any (impl.eq-value.it g) hs ≡ list_any (same_group g) hs
list_any-same g [] = refl
list_any-same g (h ∷ hs) = ap (λ (b : Bool). b || list_any (impl.eq-value.it g) hs) (same g h) ∙ ap (λ (b : Bool). same_group g h || b) (list_any-same g hs)

pub position-same : (g : Group) (hs : List Group) → position (impl.eq-value.it g) hs ≡ position (same_group g) hs
position-same g hs = ap (λ (p : Group → Bool). position p hs) (λ i. λ h. same g h i)

pub different_after-append : (before gs hs : List Group) → different_after before (gs ++ hs) ≡ different_after (different_after before gs) hs
unfolding different_after
different_after-append before [] hs = refl
different_after-append before (g ∷ gs) hs = different_after-append (if list_any (same_group g) before then before else before ++ g ∷ []) gs hs

-- one group more
pub different_after-more : (before : List Group) (gs : List Group) (g : Group) → different_after before (gs ++ g ∷ []) ≡ (if list_any (same_group g) (different_after before gs) then different_after before gs else different_after before gs ++ g ∷ [])
unfolding different_after
different_after-more before gs g = different_after-append before gs (g ∷ [])

module _ (groups : List (Option Group)) (nodes : List ℕ) (i d : ℕ) (within : i < length nodes) where
  nodes-more : filter_map (group_at groups) (take (i + 1) nodes) ≡ filter_map (group_at groups) (take i nodes) ++ filter_map (group_at groups) (get_or nodes i d ∷ [])
  nodes-more = ap (filter_map (group_at groups)) (take_more nodes i d within) ∙ filter_map-append (group_at groups) (take i nodes) (get_or nodes i d ∷ [])

  -- a node with a group
  pub order-more : (before keys more : List Group) (g : Group) → keys ≡ different_after before (filter_map (group_at groups) (take i nodes)) → group_at groups (get_or nodes i d) ≡ Some g →
      more ≡ cond (list_any (impl.eq-value.it g) keys) keys (keys ++ g ∷ []) → more ≡ different_after before (filter_map (group_at groups) (take (i + 1) nodes))
  order-more before keys more g inv at made =
      let one : filter_map (group_at groups) (get_or nodes i d ∷ []) ≡ g ∷ [] = rw at refl in
      made
      ∙ ap (λ (b : Bool). cond b keys (keys ++ g ∷ [])) (list_any-same g keys)
      ∙ ap (λ (ks : List Group). cond (list_any (same_group g) ks) ks (ks ++ g ∷ [])) inv
      ∙ sym (different_after-more before (filter_map (group_at groups) (take i nodes)) g)
      ∙ ap (different_after before) (sym (nodes-more ∙ ap (λ (gs : List Group). filter_map (group_at groups) (take i nodes) ++ gs) one))

  -- a node with none
  pub order-same : (before keys : List Group) → keys ≡ different_after before (filter_map (group_at groups) (take i nodes)) → group_at groups (get_or nodes i d) ≡ None →
      keys ≡ different_after before (filter_map (group_at groups) (take (i + 1) nodes))
  order-same before keys inv none =
      let nothing : filter_map (group_at groups) (get_or nodes i d ∷ []) ≡ [] = rw none refl in
      inv ∙ ap (different_after before) (sym (nodes-more ∙ ap (λ (gs : List Group). filter_map (group_at groups) (take i nodes) ++ gs) nothing ∙ append-nil (filter_map (group_at groups) (take i nodes))))

-- ---- the nodes of a layer

pub map-at : {A B : Type 0} (f : A → B) (xs : List A) (k : ℕ) (d : A) → get_or (map f xs) k (f d) ≡ f (get_or xs k d)
map-at f [] zero d = refl
map-at f [] (suc k) d = refl
map-at f (x ∷ xs) zero d = refl
map-at f (x ∷ xs) (suc k) d = map-at f xs k d

module _ (layer : ℕ) (groups : List (Option Group)) where
  -- the node at a place is of this layer
  abbrev is_here : ℕ → Bool
  is_here = is_of (map layer_number groups) layer

  -- of the layer's nodes the next is taken exactly where its group is of the layer
  layer-next : (i : ℕ) (o : Option Group) → get_or groups i None ≡ o →
      filter_map (group_at groups) (if is_just (layer_number o) layer then i ∷ [] else []) ≡ filter_map (group_in layer) (o ∷ [])
  layer-next i None at = refl
  layer-next i (Some g) at = by (eqb g.layer layer)
    where
      by : (b : Bool) → filter_map (group_at groups) (if b then i ∷ [] else []) ≡ filter_map (λ (o : Option Group). o) ((if b then Some g else None) ∷ [])
      by true = rw at refl
      by false = refl

  layer-upto : (i : ℕ) → i ≤ length groups → filter_map (group_at groups) (filter is_here (below i)) ≡ filter_map (group_in layer) (take i groups)
  layer-upto zero h = refl
  layer-upto (suc i) h =
      ap (λ (k : ℕ). filter_map (group_at groups) (filter is_here (below k))) (sym (add-one i))
      ∙ ap (filter_map (group_at groups)) (filter_below-more is_here i)
      ∙ filter_map-append (group_at groups) (filter is_here (below i)) (if is_here i then i ∷ [] else [])
      ∙ ap (λ (gs : List Group). gs ++ filter_map (group_at groups) (if is_here i then i ∷ [] else [])) (layer-upto i (omega arith))
      ∙ ap (λ (o : Option ℕ). filter_map (group_in layer) (take i groups) ++ filter_map (group_at groups) (if is_just o layer then i ∷ [] else [])) (map-at layer_number groups i None)
      ∙ ap (λ (gs : List Group). filter_map (group_in layer) (take i groups) ++ gs) (layer-next i (get_or groups i None) refl)
      ∙ sym (filter_map-append (group_in layer) (take i groups) (get_or groups i None ∷ []))
      ∙ ap (filter_map (group_in layer)) (sym (take_more groups i None (omega arith)))
      ∙ ap (λ (k : ℕ). filter_map (group_in layer) (take k groups)) (add-one i)

  -- the groups of the layer's nodes are those of this layer
  pub layer-nodes : filter_map (group_at groups) (nodes_of (map layer_number groups) layer) ≡ filter_map (group_in layer) groups
  layer-nodes =
      ap (λ (n : ℕ). filter_map (group_at groups) (filter is_here (below n))) (length-map groups layer_number)
      ∙ layer-upto (length groups) (omega arith)
      ∙ ap (filter_map (group_in layer)) (take_all (length groups) groups (omega arith))

pub order_of-more : (layers : ℕ) (groups : List (Option Group)) → order_of (layers + 1) groups ≡ different_after (order_of layers groups) (filter_map (group_in layers) groups)
order_of-more layers groups =
    let f : ℕ → List Group = λ (layer : ℕ). filter_map (group_in layer) groups in
    ap (λ (ks : List ℕ). different_after [] (flat_map f ks)) (below-more layers)
    ∙ ap (different_after []) (flat_map-append f (below layers) (layers ∷ []))
    ∙ different_after-append [] (flat_map f (below layers)) (flat_map f (layers ∷ []))
    ∙ ap (different_after (order_of layers groups)) (append-nil (f layers))

-- one layer more
pub order-next : (layer : ℕ) (groups : List (Option Group)) (keys more : List Group) (nodes : List ℕ) → keys ≡ order_of layer groups → nodes ≡ nodes_of (map layer_number groups) layer →
    more ≡ different_after keys (filter_map (group_at groups) nodes) → more ≡ order_of (layer + 1) groups
order-next layer groups keys more nodes inv here made =
    made
    ∙ ap (λ (ks : List ℕ). different_after keys (filter_map (group_at groups) ks)) here
    ∙ ap (different_after keys) (layer-nodes layer groups)
    ∙ ap (λ (gs : List Group). different_after gs (filter_map (group_in layer) groups)) inv
    ∙ sym (order_of-more layer groups)

-- the layers of groups in low layers are low
pub layers-low : (layers : ℕ) (groups : List (Option Group)) → All (IsLowGroup layers) groups → All (IsBelow layers) (map layer_number groups)
layers-low layers [] low k d h = absurd (omega arith)
layers-low layers (o ∷ groups) low zero d h = by o (low 0 o (omega arith))
  where
    by : (p : Option Group) → IsLowGroup layers p → IsBelow layers (layer_number p)
    by None l = tt
    by (Some g) l = l
layers-low layers (o ∷ groups) low (suc k) d h = layers-low layers groups (λ j e within. low (suc j) e (omega arith)) k d (omega arith)
