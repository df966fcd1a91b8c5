-- Operands of "&&" that are left, one more at a time.
use Rattle.std.proofs.Common.{◌≡◌, ℕ, ◌+◌, ◌*◌, ◌<◌, ◌≤◌, Bool, List, ◌∷◌, get_or, length, map, drop, sym, ap, ◌∙◌, subst}
use Rattle.std.proofs.lemmas.List.{drop_more, drop_all}
use Rattle.word_graph.specs.declared.entry.Node.{Node}
use Rattle.word_graph.specs.Meaning.{InputsFit}
use Rattle.word_graph.specs.Shape.{IsGraph}
use Rattle.hy_bits.specs.declared.width.Width.TheVariants.{W1}
use Rattle.word_nodes.specs.Nodes.{IsOfTwo, Stands, worth}
use Rattle.word_nodes.proofs.NodeLaws.{Extends-inputs, Stands-later, worth-later}
use Rattle.c_meaning.specs.State.{State}
use Rattle.c_meaning.specs.Expressions.{Eval, Evaluated, all_hold}
use Rattle.exec_state.specs.Seen.{Picture, IsTruth}
use Rattle.exec_state.specs.Follow.{Follows}
use Rattle.exec_state.specs.Operands.{all_left, holding}
use Rattle.exec_state.proofs.OperandLaws.{all_done, all_first, all_more}
use Rattle.exec_values.proofs.GrowingLaws.{Grows_fit, Grows_worth}
use Rattle.exec_steps.specs.declared.running.Running.{Running}
use Rattle.exec_steps.specs.Running.{Continues, IsRunning, OnlyGrows, shown}
use Rattle.exec_steps.proofs.StepLaws.{shown_later}
use Rattle.c_exec.specs.Expressions.{Completes, FollowsTruth, left_of_all}
use Rattle.c_exec.proofs.Steps.{truth_at}

-- the operand that is evaluated where those before it hold
pub both_more : (regions region : ℕ) (old at mid new : Running) (guard before under holds n : Node) (run : Eval) (operands : List Eval) →
    IsGraph old.graph → IsRunning old → Stands old.graph W1 before →
    OnlyGrows region old at → IsOfTwo (λ x y. x * y) old.graph at.graph guard before under →
    Continues regions at mid → FollowsTruth (holding run) at mid under holds →
    OnlyGrows region mid new → IsOfTwo (λ x y. x * y) mid.graph new.graph before holds n →
    Completes old new guard (left_of_all new n operands) (left_of_all old before (run ∷ operands))
both_more regions region old at mid new guard before under holds n run operands graph is stands first is_under on follows last is_n ins fit d f rest =
    let g = worth old.graph ins guard in
    let c = worth old.graph ins before in
    let e = worth mid.graph ins holds in
    let fit_at = Extends-inputs first.extends ins fit in
    let fit_mid = Grows_fit on.grows ins fit_at in
    let truth = truth_at old.graph ins before graph fit stands in
    let same_before : worth mid.graph ins before ≡ c = Grows_worth on.grows ins before (within first) ∙ worth-later first.extends ins before stands.within in
    let all : worth new.graph ins n ≡ c * e = is_n ins fit_mid ∙ ap (λ (x : ℕ). x * e) same_before in
    let one : Follows (g * c) (shown old ins) (shown mid ins) (IsTruth e) (holding run) =
    subst (λ (x : ℕ). Follows x (shown old ins) (shown mid ins) (IsTruth e) (holding run)) (is_under ins fit)
    (subst (λ (p : Picture). Follows (worth at.graph ins under) p (shown mid ins) (IsTruth e) (holding run)) (shown_later region old at ins is first) (follows ins fit_at)) in
    let two : Follows g (shown mid ins) d (IsTruth f) (all_left (c * e) operands) =
    subst (λ (x : ℕ). Follows g (shown mid ins) d (IsTruth f) (all_left x operands)) all
    (subst (λ (p : Picture). Follows g p d (IsTruth f) (all_left (worth new.graph ins n) operands)) (shown_later region mid new ins on.running last) rest) in
    all_more g (shown old ins) (shown mid ins) d run operands e f c truth.0 truth.1 one two
  where
    within : OnlyGrows region old at → before.index < length at.graph
    within grows = (Stands-later grows.extends W1 before stands).within

module _ {A : Type 0} (operand_run : A → Eval) (xs : List A) (regions : ℕ) (start now : Running) (guard : Node) (whole : List ℕ → State → Evaluated Bool) (on : Continues regions start now) where
  -- one operand more
  pub left_more : (new : Running) (all n : Node) (i : ℕ) (x : A) → Stands start.graph W1 guard → i < length xs → x ≡ get_or xs i x →
      Completes start now guard (left_of_all now all (map operand_run (drop i xs))) whole →
      ((operands : List Eval) → Completes now new guard (left_of_all new n operands) (left_of_all now all (operand_run x ∷ operands))) →
      Completes start new guard (left_of_all new n (map operand_run (drop (i + 1) xs))) whole
  left_more new all n i x stands h is before step ins fit d f rest =
      let same : worth now.graph ins guard ≡ worth start.graph ins guard = Grows_worth on.grows ins guard stands.within in
      let next : drop i xs ≡ x ∷ drop (i + 1) xs = drop_more xs i x h ∙ ap (λ (y : A). y ∷ drop (i + 1) xs) (sym is) in
      let here : Follows (worth now.graph ins guard) (shown now ins) d (IsTruth f) (all_left (worth now.graph ins all) (operand_run x ∷ map operand_run (drop (i + 1) xs))) =
      step (map operand_run (drop (i + 1) xs)) ins (Grows_fit on.grows ins fit) d f
      (subst (λ (g : ℕ). Follows g (shown new ins) d (IsTruth f) (all_left (worth new.graph ins n) (map operand_run (drop (i + 1) xs)))) (sym same) rest) in
      before ins fit d f
      (subst (λ (os : List A). Follows (worth start.graph ins guard) (shown now ins) d (IsTruth f) (all_left (worth now.graph ins all) (map operand_run os))) (sym next)
      (subst (λ (g : ℕ). Follows g (shown now ins) d (IsTruth f) (all_left (worth now.graph ins all) (operand_run x ∷ map operand_run (drop (i + 1) xs)))) same here))

  -- none is left
  pub left_none : (all : Node) (i : ℕ) → IsGraph now.graph → Stands now.graph W1 all → length xs ≤ i →
      Completes start now guard (left_of_all now all (map operand_run (drop i xs))) whole →
      (ins : List ℕ) → InputsFit start.graph ins → Follows (worth start.graph ins guard) (shown start ins) (shown now ins) (IsTruth (worth now.graph ins all)) (whole ins)
  left_none all i graph stands h before ins fit =
      let truth = truth_at now.graph ins all graph (Grows_fit on.grows ins fit) stands in
      before ins fit (shown now ins) (worth now.graph ins all)
      (subst (λ (os : List A). Follows (worth start.graph ins guard) (shown now ins) (shown now ins) (IsTruth (worth now.graph ins all)) (all_left (worth now.graph ins all) (map operand_run os))) (sym (drop_all i xs h))
      (all_done (worth start.graph ins guard) (worth now.graph ins all) (shown now ins) truth.0 truth.1))

-- the first operand
pub left_first : (start now : Running) (guard all : Node) (run : Eval) (operands : List Eval) → FollowsTruth (holding run) start now guard all →
    Completes start now guard (left_of_all now all operands) (λ ins. all_hold (run ∷ operands))
left_first start now guard all run operands follows ins fit d f rest =
    all_first (worth start.graph ins guard) (shown start ins) (shown now ins) d run operands (worth now.graph ins all) f (follows ins fit) rest
