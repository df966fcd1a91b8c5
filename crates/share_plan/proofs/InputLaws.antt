-- Inputs leaf by leaf, and the nodes of leaves.
use Rattle.std.proofs.Common.{◌≡◌, ℕ, suc, ◌+◌, ◌<◌, Bool, true, false, cond, List, [], ◌∷◌, ◌++◌, Option, None, Some, get_or, length, take, refl, sym, ap, ◌∙◌, arith}
use Rattle.std.specs.List.{fold, position_from}
use Rattle.std.specs.Option.{option_or}
use Rattle.std.proofs.lemmas.List.{take_more, length-take}
use Rattle.std.proofs.lemmas.List.Sums.{count_by_more_no, count_by_more_yes}
use Rattle.hy_bits.specs.declared.turns.Role.{Role}
use Rattle.hy_bits.specs.declared.turns.Role.TheVariants.{P0, P1}
use Rattle.hy_bits.specs.Ports.{is_of, own_number}
use Rattle.word_graph.specs.declared.entry.Entry.{Entry}
use Rattle.module_split.specs.Cut.{below}
use Rattle.choice_core.specs.declared.sharings.Sharing.{Sharing}
use Rattle.choice_core.specs.declared.sharings.Sharing.TheVariants.{Arithmetic, Boolean, Yao}
use Rattle.share_plan.specs.declared.inputs.Owned.{Owned}
use Rattle.share_plan.specs.Held.{Work}
use Rattle.share_plan.specs.Inputs.{input_node, is_input, with_inputs, with_leaf, with_leaf_at}
use Rattle.share_plan.specs.Leaves.{AreInputNodes}
use Rattle.share_plan.specs.Owned.{AreOwned, one_more, owned_by}

-- ---- the first that passes, with one more element

front : (b : Bool) (i : ℕ) (rest more last : Option ℕ) → more ≡ option_or rest last → cond b (Some i) more ≡ option_or (cond b (Some i) rest) last
front true i rest more last e = refl
front false i rest more last e = e

position-append : {A : Type 0} (t : A → Bool) (i : ℕ) (xs : List A) (y : A) → position_from t i (xs ++ y ∷ []) ≡ option_or (position_from t i xs) (cond (t y) (Some (i + length xs)) None)
position-append t i [] y = ap (λ (k : ℕ). cond (t y) (Some k) None) (omega arith)
position-append t i (x ∷ xs) y =
    front (t x) i (position_from t (i + 1) xs) (position_from t (i + 1) (xs ++ y ∷ [])) (cond (t y) (Some (i + length (x ∷ xs))) None)
    (position-append t (i + 1) xs y ∙ ap (λ (k : ℕ). option_or (position_from t (i + 1) xs) (cond (t y) (Some k) None)) (omega arith))

pub nodes-more : (es : List Entry) (i place : ℕ) (e : Entry) (old now : List (Option ℕ)) → i < length es → e ≡ get_or es i e → place ≡ i → length now ≡ length old → AreInputNodes (take i es) old →
    ((leaf : ℕ) → leaf < length old → get_or now leaf None ≡ option_or (get_or old leaf None) (cond (is_input leaf e.op e.number) (Some place) None)) → AreInputNodes (take (i + 1) es) now
nodes-more es i place e old now within is at size before after leaf low =
    after leaf (omega (arith, size)) ∙ ap (λ (o : Option ℕ). option_or o (cond (is_input leaf e.op e.number) (Some place) None)) (before leaf (omega (arith, size)))
    ∙ ap (λ (k : ℕ). option_or (input_node (take i es) leaf) (cond (is_input leaf e.op e.number) (Some k) None)) (at ∙ long)
    ∙ sym (ap (λ (xs : List Entry). input_node xs leaf) (take_more es i e within ∙ ap (λ (x : Entry). take i es ++ x ∷ []) (sym is)) ∙ position-append (λ (x : Entry). is_input leaf x.op x.number) 0 (take i es) e)
  where
    long : i ≡ 0 + length (take i es)
    long = omega (arith, length-take i es)

-- ---- leaves

pub leaf-more : (wanted : Sharing → ℕ → Bool) (es : List Entry) (owners : List Role) (leaf : ℕ) (role : Role) (number : ℕ) (node : Option ℕ) (work next : Work) → role ≡ get_or owners leaf P0 → number ≡ own_number role owners leaf → node ≡ input_node es leaf →
    next ≡ with_leaf_at wanted es role number node work → next ≡ with_leaf wanted es owners work leaf
unfolding with_leaf
leaf-more wanted es owners leaf role number node work next is counted found then =
    then ∙ ap (λ (n : ℕ). with_leaf_at wanted es role n node work) counted ∙ ap (λ (o : Option ℕ). with_leaf_at wanted es role (own_number role owners leaf) o work) found
    ∙ ap (λ (r : Role). with_leaf_at wanted es r (own_number r owners leaf) (input_node es leaf) work) is

count-other : (r : Role) (owners : List Role) (i : ℕ) (role : Role) → i < length owners → role ≡ get_or owners i role → is_of r role ≡ false → own_number r owners (i + 1) ≡ own_number r owners i
count-other r owners i role within is other = count_by_more_no (is_of r) owners i role within (ap (is_of r) (sym is) ∙ other)

count-own : (r : Role) (owners : List Role) (i : ℕ) (role : Role) → i < length owners → role ≡ get_or owners i role → is_of r role ≡ true → own_number r owners (i + 1) ≡ own_number r owners i + 1
count-own r owners i role within is own = count_by_more_yes (is_of r) owners i role within (ap (is_of r) (sym is) ∙ own)

more-of : (r role : Role) (owners : List Role) (i : ℕ) (o : Owned) → i < length owners → role ≡ get_or owners i role → owned_by r o ≡ own_number r owners i → owned_by r (one_more role o) ≡ own_number r owners (i + 1)
more-of P0 P0 owners i o within is before = ap (λ (n : ℕ). n + 1) before ∙ sym (count-own P0 owners i P0 within is refl)
more-of P0 P1 owners i o within is before = before ∙ sym (count-other P0 owners i P1 within is refl)
more-of P1 P0 owners i o within is before = before ∙ sym (count-other P1 owners i P0 within is refl)
more-of P1 P1 owners i o within is before = ap (λ (n : ℕ). n + 1) before ∙ sym (count-own P1 owners i P1 within is refl)

pub owned-more : (owners : List Role) (i : ℕ) (role : Role) (o next : Owned) → i < length owners → role ≡ get_or owners i role → next ≡ one_more role o → AreOwned owners i o → AreOwned owners (i + 1) next
owned-more owners i role o next within is then before r = ap (owned_by r) then ∙ more-of r role owners i o within is (before r)

-- ---- two ways to say what is wanted

position-within : {A : Type 0} (t : A → Bool) (i k : ℕ) (xs : List A) → position_from t i xs ≡ Some k → k < i + length xs
position-within t i k [] e = absurd (cc)
position-within t i k (x ∷ xs) e = here (t x) i k (length xs) (position_from t (i + 1) xs) (λ f. position-within t (i + 1) k xs f) e
  where
    here : (b : Bool) (i k n : ℕ) (o : Option ℕ) → (o ≡ Some k → k < i + 1 + n) → cond b (Some i) o ≡ Some k → k < i + suc n
    here true i k n o later e = let same : i ≡ k = cc in omega arith
    here false i k n o later e = omega (arith, later e)

module _ (one other : Sharing → ℕ → Bool) (es : List Entry) (same : (s : Sharing) (k : ℕ) → k < length es → one s k ≡ other s k) where
  at-node : (role : Role) (number : ℕ) (o : Option ℕ) (work : Work) → ((k : ℕ) → o ≡ Some k → k < length es) → with_leaf_at one es role number o work ≡ with_leaf_at other es role number o work
  at-node role number None work within = refl
  at-node role number (Some node) work within = rw (same Arithmetic node (within node refl), same Boolean node (within node refl), same Yao node (within node refl)) refl

  at-leaf : (owners : List Role) (work : Work) (leaf : ℕ) → with_leaf one es owners work leaf ≡ with_leaf other es owners work leaf
  unfolding with_leaf
  at-leaf owners work leaf =
      at-node (get_or owners leaf P0) (own_number (get_or owners leaf P0) owners leaf) (input_node es leaf) work
      (λ k e. let low : k < 0 + length es = position-within (λ (x : Entry). is_input leaf x.op x.number) 0 k es e in omega (arith, low))

  folds-same : (owners : List Role) (work : Work) (leaves : List ℕ) → fold (with_leaf one es owners) work leaves ≡ fold (with_leaf other es owners) work leaves
  folds-same owners work [] = refl
  folds-same owners work (leaf ∷ leaves) = ap (λ (u : Work). fold (with_leaf one es owners) u leaves) (at-leaf owners work leaf) ∙ folds-same owners (with_leaf other es owners work leaf) leaves

  pub inputs-same : (owners : List Role) (work : Work) → with_inputs one es owners work ≡ with_inputs other es owners work
  inputs-same owners work = folds-same owners work (below (length owners))
