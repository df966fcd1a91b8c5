-- Marks of lists, one more at a time.
use Rattle.std.proofs.Common.{◌≡◌, ℕ, ◌+◌, ◌<◌, ◌≤◌, ◌==◌, ◌||◌, Bool, true, false, List, [], ◌∷◌, ◌++◌, get_or, map, drop, length, refl, sym, ap, ◌∙◌, arith}
use Rattle.std.proofs.Math.Bool.{or_assoc}
use Rattle.std.proofs.lemmas.Bool.{eqb-true, eq-eqb}
use Rattle.std.proofs.lemmas.List.{drop_all, length-set, get_or-set_other}
use Rattle.std.proofs.lemmas.Grind.{get_or-set_at}
use Rattle.std.specs.Prelude.{slice_set}
use Rattle.std.specs.List.{list_any, flat_map}
use Rattle.std.specs.Option.{option_map}
use Rattle.std.specs.Prelude.{Option, None, Some}
use Rattle.c_meaning.specs.declared.expressions.TypedExpr.{TypedExpr}
use Rattle.c_meaning.specs.declared.statements.TypedStatement.{TypedStatement}
use Rattle.c_meaning.specs.declared.statements.TypedSelection.TheVariants as selection
use Rattle.c_meaning.specs.declared.statements.TypedItem.TheOpen.{TypedSelection-F}
use Rattle.c_meaning.specs.declared.statements.TypedItem.TheFolds.{fold-roll-TypedSelection}
use Rattle.c_meaning.specs.Uses.{Numbers, all_of, option_of, assigned_in, item_assigns, iteration_assigns, selection_assigns, statement_assigns, block_assigns, section_assigns}
use Rattle.c_uses.specs.Marks.{marked, assigned_by_selection}
use Rattle.c_uses.proofs.Lists.{left_at}

pub marked_append : (marks : List Bool) (a b : List ℕ) → marked (marked marks a) b ≡ marked marks (a ++ b)
marked_append marks [] b = refl
marked_append marks (k ∷ ks) b = marked_append (slice_set marks k true) ks b

module _ {A : Type 0} (numbers : A → List ℕ) (xs : List A) where
  -- one more element's numbers
  pub marks_more : (i : ℕ) (x : A) (before after : List Bool) → i < length xs → x ≡ get_or xs i x → after ≡ marked before (numbers x) → marked after (all_of (map numbers (drop (i + 1) xs))) ≡ marked before (all_of (map numbers (drop i xs)))
  marks_more i x before after h is e =
      ap (λ (marks : List Bool). marked marks (all_of (map numbers (drop (i + 1) xs)))) e
      ∙ marked_append before (numbers x) (all_of (map numbers (drop (i + 1) xs)))
      ∙ sym (ap (λ (some : List A). marked before (all_of (map numbers some))) (left_at xs i x h is))

  -- none is left
  pub marks_none : (i : ℕ) (marks : List Bool) → length xs ≤ i → marked marks (all_of (map numbers (drop i xs))) ≡ marks
  marks_none i marks h = ap (λ (some : List A). marked marks (all_of (map numbers some))) (drop_all i xs h)

module _ {A : Type 0} (numbers : A → List ℕ) (xs : List A) where
  -- one more element's numbers, of a list that is flat
  pub flat_more : (i : ℕ) (x : A) (before after : List Bool) → i < length xs → x ≡ get_or xs i x → after ≡ marked before (numbers x) → marked after (flat_map numbers (drop (i + 1) xs)) ≡ marked before (flat_map numbers (drop i xs))
  flat_more i x before after h is e =
      ap (λ (marks : List Bool). marked marks (flat_map numbers (drop (i + 1) xs))) e
      ∙ marked_append before (numbers x) (flat_map numbers (drop (i + 1) xs))
      ∙ sym (ap (λ (some : List A). marked before (flat_map numbers some)) (left_at xs i x h is))

-- ---- what is marked

pub length_marked : (marks : List Bool) (ks : List ℕ) → length (marked marks ks) ≡ length marks
length_marked marks [] = refl
length_marked marks (k ∷ ks) = length_marked (slice_set marks k true) ks ∙ length-set marks k true

or_none : (a : Bool) → a ≡ (a || false)
or_none true = refl
or_none false = refl

or_true : (a b : Bool) → true ≡ (a || true)
or_true true b = refl
or_true false b = refl

set_at : (marks : List Bool) (j k : ℕ) → k < length marks → get_or (slice_set marks j true) k false ≡ (get_or marks k false || k == j)
set_at marks j k h =
    elim (k == j) as (λ b. (k == j) ≡ b → get_or (slice_set marks j true) k false ≡ (get_or marks k false || b)) [
      | true ↦ λ e. let same : k ≡ j = eqb-true k j e in get_or-set_at marks j k true false same (omega arith) ∙ or_true (get_or marks k false) true
      | false ↦ λ e. get_or-set_other marks j k true false (λ same. absurd (let yes : (k == j) ≡ true = eq-eqb k j same in cc)) ∙ or_none (get_or marks k false)
    ] refl

pub marked_at : (marks : List Bool) (ks : List ℕ) (k : ℕ) → k < length marks → get_or (marked marks ks) k false ≡ (get_or marks k false || list_any (λ j. k == j) ks)
marked_at marks [] k h = or_none (get_or marks k false)
marked_at marks (j ∷ ks) k h =
    marked_at (slice_set marks j true) ks k (omega (arith, h, length-set marks j true))
    ∙ ap (λ (b : Bool). b || list_any (λ i. k == i) ks) (set_at marks j k h)
    ∙ or_assoc (get_or marks k false) (k == j) (list_any (λ i. k == i) ks)

-- ---- an `if`, by its parts

pub if_assigns : (tokens : ℕ) (condition : TypedExpr) (consequence : TypedStatement) (otherwise : Option TypedStatement) → assigned_by_selection (selection.If tokens condition consequence otherwise) ≡ assigned_in consequence ++ option_of (option_map assigned_in otherwise)
if_assigns tokens condition consequence None =
    ap assigned_by_selection (sym (selection.rolls-If tokens condition consequence None))
    ∙ fold-roll-TypedSelection Numbers Numbers Numbers Numbers Numbers Numbers item_assigns iteration_assigns selection_assigns statement_assigns block_assigns section_assigns (TypedSelection-F.If tokens condition consequence None)
if_assigns tokens condition consequence (Some otherwise) =
    ap assigned_by_selection (sym (selection.rolls-If tokens condition consequence (Some otherwise)))
    ∙ fold-roll-TypedSelection Numbers Numbers Numbers Numbers Numbers Numbers item_assigns iteration_assigns selection_assigns statement_assigns block_assigns section_assigns (TypedSelection-F.If tokens condition consequence (Some otherwise))
