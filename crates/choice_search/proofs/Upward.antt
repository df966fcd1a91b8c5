-- Going up from a node that was split: only the parent may still have a wrong least bound.
use Rattle.std.proofs.Common.{◌≡◌, ◌≢◌, ℕ, ◌<◌, ◌≤◌, List, length, set, get_or, sym, ◌∙◌, ap, subst, inl, inr, arith, length-set, get_or-set_same, get_or-set_other}
use Rattle.std.proofs.lemmas.Bool.{cases_eq}
use Rattle.choice_search.specs.declared.arenas.Node.{Node}
use Rattle.choice_search.specs.Arenas.{node_at, IsChildOf, IsArena, IsLeastBelow, HasLeasts}

-- the least bounds are right but for the parent's, and those that wait have theirs still
pub record IsLifted (nodes : List Node) (initial leasts : List ℕ) (number : ℕ) : Type 0 where
  pub within : number < length nodes
  pub some : 0 < (node_at nodes number).count
  pub size : length leasts ≡ length nodes
  pub right : (i : ℕ) → i < length nodes → 0 < (node_at nodes i).count → (IsChildOf (node_at nodes i) number → ⊥) → IsLeastBelow (node_at nodes i) leasts (get_or leasts i 0)
  pub waiting : (i : ℕ) → i < length nodes → (node_at nodes i).count ≡ 0 → get_or leasts i 0 ≡ get_or initial i 0

-- a number that isn't a child's may change
kept_below : (node : Node) (leasts : List ℕ) (number m least : ℕ) → (IsChildOf node number → ⊥) → IsLeastBelow node leasts least → IsLeastBelow node (set leasts number m) least
kept_below node leasts number m least apart is = record {
  below = λ k child. subst (λ (n : ℕ). least ≤ n) (sym (same k child)) (is.below k child);
  found = (is.found.0, is.found.1, same is.found.0 is.found.1 ∙ is.found.2);
}
  where
    same : (k : ℕ) → IsChildOf node k → get_or (set leasts number m) k 0 ≡ get_or leasts k 0
    same k child = get_or-set_other leasts number k m 0 (λ is. apart (subst (λ (i : ℕ). IsChildOf node i) is child))

pub settled : (nodes : List Node) (initial leasts : List ℕ) (number m : ℕ) → IsArena nodes → length leasts ≡ length nodes → number < length nodes → 0 < (node_at nodes number).count → IsLeastBelow (node_at nodes number) leasts m → ((i : ℕ) → i < length nodes → 0 < (node_at nodes i).count → i ≢ number → IsLeastBelow (node_at nodes i) leasts (get_or leasts i 0)) → ((i : ℕ) → i < length nodes → (node_at nodes i).count ≡ 0 → get_or leasts i 0 ≡ get_or initial i 0) → IsLifted nodes initial (set leasts number m) number
settled nodes initial leasts number m arena size within some least others waiting = record {
  within = within;
  some = some;
  size = length-set leasts number m ∙ size;
  right = right;
  waiting = λ i inside none. get_or-set_other leasts number i m 0 (λ same. omega (arith, some, none, ap (λ (k : ℕ). (node_at nodes k).count) same)) ∙ waiting i inside none;
}
  where
    right : (i : ℕ) → i < length nodes → 0 < (node_at nodes i).count → (IsChildOf (node_at nodes i) number → ⊥) → IsLeastBelow (node_at nodes i) (set leasts number m) (get_or (set leasts number m) i 0)
    right i inside split apart = elim (cases_eq i number) [
      | inl same ↦ (
          let here : get_or (set leasts number m) i 0 ≡ m = ap (λ (k : ℕ). get_or (set leasts number m) k 0) same ∙ get_or-set_same leasts number m 0 (omega (arith, size, within)) in
          subst (λ (n : ℕ). IsLeastBelow (node_at nodes i) (set leasts number m) n) (sym here) (kept_below (node_at nodes i) leasts number m m apart (subst (λ (k : ℕ). IsLeastBelow (node_at nodes k) leasts m) (sym same) least)))
      | inr other ↦ subst (λ (n : ℕ). IsLeastBelow (node_at nodes i) (set leasts number m) n) (sym (get_or-set_other leasts number i m 0 other)) (kept_below (node_at nodes i) leasts number m (get_or leasts i 0) apart (others i inside split other))
    ]

-- one node up
pub others_right : (nodes : List Node) (initial leasts : List ℕ) (number : ℕ) → IsArena nodes → IsLifted nodes initial leasts number → (i : ℕ) → i < length nodes → 0 < (node_at nodes i).count → i ≢ (node_at nodes number).parent → IsLeastBelow (node_at nodes i) leasts (get_or leasts i 0)
others_right nodes initial leasts number arena lifted i inside split apart = lifted.right i inside split (λ child. apart (sym ((arena.split i inside split).parents number child)))

-- at the root all are right
pub all_right : (nodes : List Node) (initial leasts : List ℕ) → IsArena nodes → IsLifted nodes initial leasts 0 → HasLeasts nodes leasts
all_right nodes initial leasts arena lifted i inside split = lifted.right i inside split (λ child. (let after = (arena.split i inside split).after in let low = child.0 in omega (arith, after, low)))
