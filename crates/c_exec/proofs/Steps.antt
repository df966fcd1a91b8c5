-- Values and truths that follow meanings, after one more step.
use Rattle.std.proofs.Common.{ℕ, zero, suc, ◌<◌, Bool, true, false, List, refl, arith}
use Rattle.word_graph.specs.declared.entry.Entry.{Entry}
use Rattle.word_graph.specs.declared.entry.Node.{Node}
use Rattle.word_graph.specs.Meaning.{InputsFit}
use Rattle.word_graph.specs.Shape.{IsGraph}
use Rattle.hy_bits.specs.declared.width.Width.TheVariants.{W1}
use Rattle.word_nodes.specs.Nodes.{Stands, worth}
use Rattle.word_nodes.proofs.NodeLaws.{worth-bit}
use Rattle.c_meaning.specs.State.{State}
use Rattle.c_meaning.specs.Expressions.{Eval, Evaluated, Gives, after, of_truth}
use Rattle.exec_state.specs.Seen.{IsTruth}
use Rattle.exec_values.specs.declared.values.WordValue.{WordValue}
use Rattle.exec_values.proofs.GrowingLaws.{Grows_fit}
use Rattle.exec_steps.specs.declared.running.Running.{Running}
use Rattle.exec_steps.specs.Running.{Continues, FollowsValue, Turns, TurnsBack, TurnsTruth, shown}
use Rattle.c_exec.specs.Expressions.{FollowsTruth}

-- a truth is 0 or 1
bit_truth : (c : ℕ) → c < 2 → (b : Bool) × IsTruth c b
bit_truth zero h = (false, refl)
bit_truth (suc zero) h = (true, refl)
bit_truth (suc (suc c)) h = absurd (omega arith)

pub truth_at : (es : List Entry) (ins : List ℕ) (n : Node) → IsGraph es → InputsFit es ins → Stands es W1 n → (b : Bool) × IsTruth (worth es ins n) b
truth_at es ins n graph fit stands = bit_truth (worth es ins n) (worth-bit es ins n graph fit stands)

module _ (regions : ℕ) (old mid new : Running) (guard : Node) (on : Continues regions old mid) where
  pub value_turns : (run : Eval) (f : Eval → Eval) (v r : WordValue) → FollowsValue run old mid guard v → Turns f mid new v r → FollowsValue (f run) old new guard r
  value_turns run f v r follows turns = λ ins fit. turns ins (Grows_fit on.grows ins fit) (worth old.graph ins guard) (shown old ins) run (follows ins fit)

  pub truth_turns : (run : Eval) (f : Eval → State → Evaluated Bool) (v : WordValue) (n : Node) → FollowsValue run old mid guard v → TurnsTruth f mid new v n → FollowsTruth (f run) old new guard n
  truth_turns run f v n follows turns = λ ins fit. turns ins (Grows_fit on.grows ins fit) (worth old.graph ins guard) (shown old ins) run (follows ins fit)

  pub truth_back : (run : State → Evaluated Bool) (n : Node) (r : WordValue) → FollowsTruth run old mid guard n → TurnsBack mid new n r → FollowsValue (λ s. after (run s) (λ b s. Gives (of_truth b) s)) old new guard r
  truth_back run n r follows turns = λ ins fit. turns ins (Grows_fit on.grows ins fit) (worth old.graph ins guard) (shown old ins) run (follows ins fit)
