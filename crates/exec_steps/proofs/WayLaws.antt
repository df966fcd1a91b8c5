-- Statements in order and turns of loops, one more at a time: what is left of them, from what is shown so far, gives what the whole gives.
use Rattle.std.proofs.Common.{◌≡◌, ℕ, suc, ◌+◌, ◌-◌, ◌*◌, ◌≤◌, List, [], ◌∷◌, refl, sym, ap, ◌∙◌, subst, arith}
use Rattle.hy_bits.specs.declared.width.Width.TheVariants.{W1}
use Rattle.word_graph.specs.declared.entry.Entry.{Entry}
use Rattle.word_graph.specs.declared.entry.Node.{Node}
use Rattle.word_graph.specs.Meaning.{InputsFit}
use Rattle.word_graph.specs.Shape.{IsGraph}
use Rattle.word_nodes.specs.Nodes.{IsOfTwo, Stands, worth}
use Rattle.word_nodes.proofs.NodeLaws.{Extends-inputs, Stands-later, worth-bit, worth-later}
use Rattle.c_meaning.specs.Statements.{Exec, Test, in_order, then_run, turns}
use Rattle.exec_state.specs.Seen.{Picture}
use Rattle.exec_state.specs.Leave.{Exits, Runs, either_guard, exit_normal, exits_of_loop, exits_then}
use Rattle.exec_state.proofs.GuardLaws.{either_assoc, either_bit}
use Rattle.exec_state.proofs.LeaveLaws.{exits_first, exits_last, exits_then_assoc, runs_normally, runs_then}
use Rattle.exec_state.proofs.LoopLaws.{goes_round, loop_more}
use Rattle.exec_values.proofs.GrowingLaws.{Grows_fit, Grows_stands, Grows_worth}
use Rattle.exec_steps.specs.declared.running.Running.{Running}
use Rattle.exec_steps.specs.declared.ways.Ways.{Ways}
use Rattle.exec_steps.specs.Running.{Continues, IsRunning, OnlyGrows, shown}
use Rattle.exec_steps.specs.Ways.{FollowsRun, FollowsTest, LeadsOut, LeadsRound, WaysStand, exits_at}
use Rattle.exec_steps.proofs.StepLaws.{shown_later}

-- ---- guards while a graph grows

pub ways_later : (regions : ℕ) (old new : Running) (ins : List ℕ) (w : Ways) → Continues regions old new → WaysStand old.graph w → exits_at new.graph ins w ≡ exits_at old.graph ins w
ways_later regions old new ins w on stands =
    rw (Grows_worth on.grows ins w.normal stands.normal.within, Grows_worth on.grows ins w.breaks stands.breaks.within, Grows_worth on.grows ins w.continues stands.continues.within, Grows_worth on.grows ins w.returns stands.returns.within) refl

bit_at : (es : List Entry) (ins : List ℕ) (n : Node) → IsGraph es → InputsFit es ins → Stands es W1 n → worth es ins n ≤ 1
bit_at es ins n graph fit stands = omega (arith, worth-bit es ins n graph fit stands)

-- ---- statements in order

pub items_first : (region : ℕ) (old now : Running) (guard : Node) (w : Ways) (whole : Exec) → IsRunning old → OnlyGrows region old now →
    ((ins : List ℕ) → InputsFit old.graph ins → exits_at now.graph ins w ≡ exit_normal (worth old.graph ins guard)) → LeadsOut old now guard w whole whole
items_first region old now guard w whole is grows exits ins fit d y runs =
    let same = exits ins fit in
    subst (λ (x : Exits). Runs (worth old.graph ins guard) (shown old ins) d x whole) (sym (ap (λ (x : Exits). exits_then x y) same ∙ exits_first (worth old.graph ins guard) y))
    (subst (λ (p : Picture). Runs (worth old.graph ins guard) p d y whole) (shown_later region old now ins is grows)
    (subst (λ (n : ℕ). Runs n (shown now ins) d y whole) (ap (λ (x : Exits). x.normal) same) runs))

module _ (regions region : ℕ) (old now mid new : Running) (guard : Node) (w z v : Ways) (first : Exec) (rest : List Exec) (whole : Exec) where
  -- one statement more
  pub items_more : IsGraph now.graph → Continues regions old now → WaysStand now.graph w → Continues regions now mid → FollowsRun first now mid w.normal z → OnlyGrows region mid new →
      ((ins : List ℕ) → InputsFit mid.graph ins → exits_at new.graph ins v ≡ exits_then (exits_at mid.graph ins w) (exits_at mid.graph ins z)) →
      LeadsOut old now guard w (in_order (first ∷ rest)) whole → LeadsOut old new guard v (in_order rest) whole
  items_more graph before stands on follows grows gathered leads ins fit d y runs =
      let fit_now = Grows_fit before.grows ins fit in
      let fit_mid = Grows_fit on.grows ins fit_now in
      let x = exits_at now.graph ins w in
      let t = exits_at mid.graph ins z in
      let same : exits_at new.graph ins v ≡ exits_then x t = gathered ins fit_mid ∙ ap (λ (e : Exits). exits_then e t) (ways_later regions now mid ins w on stands) in
      let second : Runs t.normal (shown mid ins) d y (in_order rest) =
      subst (λ (n : ℕ). Runs n (shown mid ins) d y (in_order rest)) (ap (λ (e : Exits). e.normal) same)
      (subst (λ (p : Picture). Runs (worth new.graph ins v.normal) p d y (in_order rest)) (shown_later region mid new ins on.running grows) runs) in
      let both : Runs x.normal (shown now ins) d (exits_then t y) (λ s. then_run (first s) (in_order rest)) =
      runs_then x.normal (shown now ins) (shown mid ins) d t y (in_order rest) second first (follows ins fit_now) in
      let assoc : exits_then (exits_then x t) y ≡ exits_then x (exits_then t y) =
      exits_then_assoc x t y (bit_at now.graph ins w.breaks graph fit_now stands.breaks) (bit_at now.graph ins w.continues graph fit_now stands.continues) (bit_at now.graph ins w.returns graph fit_now stands.returns) in
      subst (λ (e : Exits). Runs (worth old.graph ins guard) (shown old ins) d e whole) (sym (ap (λ (e : Exits). exits_then e y) same ∙ assoc)) (leads ins fit d (exits_then t y) both)

-- none is left
pub items_none : (old now : Running) (guard : Node) (w : Ways) (whole : Exec) → LeadsOut old now guard w (in_order []) whole → FollowsRun whole old now guard w
items_none old now guard w whole leads ins fit =
    subst (λ (x : Exits). Runs (worth old.graph ins guard) (shown old ins) (shown now ins) x whole) (exits_last (exits_at now.graph ins w))
    (leads ins fit (shown now ins) (exit_normal (worth now.graph ins w.normal)) (runs_normally (worth now.graph ins w.normal) (shown now ins)))

-- ---- turns of a loop

module _ (regions region : ℕ) (old now tested under body_end round_at stepped new : Running) (guard live condition entered round returns gathered : Node) (x y : Ways) (n : ℕ) (test : Test) (body step whole : Exec) where
  -- one turn more: the test, the guard where it holds, the body, the guard of those that go round, the step, and the guard of those that returned
  pub round_more : IsGraph now.graph → IsGraph body_end.graph → Continues regions old now → Stands now.graph W1 live → Stands now.graph W1 returns →
      Continues regions now tested → FollowsTest test now tested live condition →
      OnlyGrows region tested under → IsOfTwo (λ a b. a * b) tested.graph under.graph live condition entered →
      Continues regions under body_end → FollowsRun body under body_end entered x → WaysStand body_end.graph x →
      OnlyGrows region body_end round_at → IsOfTwo (λ a b. a + b - a * b) body_end.graph round_at.graph x.normal x.continues round → Stands round_at.graph W1 round →
      Continues regions round_at stepped → FollowsRun step round_at stepped round y → ((ins : List ℕ) → InputsFit round_at.graph ins → exits_at stepped.graph ins y ≡ exit_normal (worth round_at.graph ins round)) →
      OnlyGrows region stepped new → ((ins : List ℕ) → InputsFit stepped.graph ins → worth new.graph ins gathered ≡ either_guard (worth stepped.graph ins returns) (worth stepped.graph ins x.returns)) →
      LeadsRound old now guard live returns (turns (suc n) test body step) whole → LeadsRound old new guard round gathered (turns n test body step) whole
  round_more graph graph_end before live_stands returns_stand on_test tests grows_under is_entered on_body runs_body x_stands grows_round is_round round_stands on_step runs_step step_normal grows_new is_gathered leads ins fit d r small rest =
      let fit_now = Grows_fit before.grows ins fit in
      let fit_tested = Grows_fit on_test.grows ins fit_now in
      let fit_under = Extends-inputs grows_under.extends ins fit_tested in
      let fit_end = Grows_fit on_body.grows ins fit_under in
      let fit_round = Extends-inputs grows_round.extends ins fit_end in
      let fit_stepped = Grows_fit on_step.grows ins fit_round in
      let l = worth now.graph ins live in
      let c = worth tested.graph ins condition in
      let e = exits_at body_end.graph ins x in
      let m = goes_round e in
      let q = worth now.graph ins returns in
      -- the guards are those of the numbers
      let live_later : worth tested.graph ins live ≡ l = Grows_worth on_test.grows ins live live_stands.within in
      let entered_is : worth under.graph ins entered ≡ l * c = is_entered ins fit_tested ∙ ap (λ (a : ℕ). a * c) live_later in
      let round_is : worth round_at.graph ins round ≡ m = is_round ins fit_end in
      let round_new : worth new.graph ins round ≡ m = worth-later grows_new.extends ins round (Grows_stands on_step.grows W1 round round_stands).within ∙ Grows_worth on_step.grows ins round round_stands.within ∙ round_is in
      let x_stepped : worth stepped.graph ins x.returns ≡ e.returns = Grows_worth on_step.grows ins x.returns (Stands-later grows_round.extends W1 x.returns x_stands.returns).within ∙ worth-later grows_round.extends ins x.returns x_stands.returns.within in
      let q_stepped : worth stepped.graph ins returns ≡ q =
      let at_tested = Grows_stands on_test.grows W1 returns returns_stand in
      let at_under = Stands-later grows_under.extends W1 returns at_tested in
      let at_end = Grows_stands on_body.grows W1 returns at_under in
      let at_round = Stands-later grows_round.extends W1 returns at_end in
      Grows_worth on_step.grows ins returns at_round.within ∙ worth-later grows_round.extends ins returns at_end.within ∙ Grows_worth on_body.grows ins returns at_under.within
      ∙ worth-later grows_under.extends ins returns at_tested.within ∙ Grows_worth on_test.grows ins returns returns_stand.within in
      let gathered_is : worth new.graph ins gathered ≡ either_guard q e.returns = is_gathered ins fit_stepped ∙ ap (λ (a : ℕ). either_guard a (worth stepped.graph ins x.returns)) q_stepped ∙ ap (λ (a : ℕ). either_guard q a) x_stepped in
      -- the parts of the turn
      let part_body : Runs (l * c) (shown tested ins) (shown body_end ins) e body =
      subst (λ (a : ℕ). Runs a (shown tested ins) (shown body_end ins) e body) entered_is
      (subst (λ (p : Picture). Runs (worth under.graph ins entered) p (shown body_end ins) e body) (shown_later region tested under ins on_test.running grows_under) (runs_body ins fit_under)) in
      let part_step : Runs m (shown body_end ins) (shown stepped ins) (exit_normal m) step =
      subst (λ (a : ℕ). Runs a (shown body_end ins) (shown stepped ins) (exit_normal a) step) round_is
      (subst (λ (p : Picture). Runs (worth round_at.graph ins round) p (shown stepped ins) (exit_normal (worth round_at.graph ins round)) step) (shown_later region body_end round_at ins on_body.running grows_round)
      (subst (λ (a : Exits). Runs (worth round_at.graph ins round) (shown round_at ins) (shown stepped ins) a step) (step_normal ins fit_round) (runs_step ins fit_round))) in
      let part_rest : Runs m (shown stepped ins) d (exits_of_loop m r) (turns n test body step) =
      subst (λ (a : ℕ). Runs a (shown stepped ins) d (exits_of_loop a r) (turns n test body step)) round_new
      (subst (λ (p : Picture). Runs (worth new.graph ins round) p d (exits_of_loop (worth new.graph ins round) r) (turns n test body step)) (shown_later region stepped new ins on_step.running grows_new) rest) in
      let turn = loop_more l c n r (shown now ins) (shown tested ins) (shown body_end ins) (shown stepped ins) d e test body step (tests ins fit_now) part_body part_step part_rest in
      let small_e = bit_at body_end.graph ins x.returns graph_end fit_end x_stands.returns in
      let small_q = bit_at now.graph ins returns graph fit_now returns_stand in
      subst (λ (a : ℕ). Runs (worth old.graph ins guard) (shown old ins) d (exits_of_loop (worth old.graph ins guard) a) whole)
      (sym (ap (λ (a : ℕ). either_guard a r) gathered_is ∙ either_assoc q e.returns r small_q))
      (leads ins fit d (either_guard e.returns r) (either_bit e.returns r small_e small) turn)
