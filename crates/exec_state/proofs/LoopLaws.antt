-- Loops that follow their meanings: what is left of the turns, under the guard that is live, gives what the whole gives.
use Rattle.std.proofs.Common.{◌≡◌, ℕ, zero, suc, ◌*◌, Bool, true, false, if◌then◌else◌, refl, sym, ap, ◌∙◌, subst, arith}
use Rattle.c_meaning.specs.declared.values.Ending.{Ending}
use Rattle.c_meaning.specs.declared.values.Ending.TheVariants as ending
use Rattle.c_meaning.specs.State.{State}
use Rattle.c_meaning.specs.Expressions.{Evaluated, Gives, Past}
use Rattle.c_meaning.specs.Statements.{Exec, Test, ends, continued, then_run, ran_after, turn_ended, after_turn, turns, do_run}
use Rattle.exec_state.specs.Seen.{Picture, Shows, IsTruth}
use Rattle.exec_state.specs.Follow.{Ended, Follows}
use Rattle.exec_state.specs.Leave.{Exits, exit_normal, LeftBy, Left, Runs, either_guard, exits_of_loop}
use Rattle.exec_state.proofs.LeaveLaws.{ran_ended}

-- a loop that isn't entered
pub loop_idle : (a : Picture) (run : Exec) → Runs 0 a a (exits_of_loop 0 0) run
loop_idle a run = (record { idle = λ h. (refl, refl); past = λ h. h }, λ on s shows. absurd (cc))

-- where the test doesn't hold, no turn follows
pub loop_stops : (l c n : ℕ) (a b : Picture) (test : Test) (body step : Exec) → l * c ≡ 0 → Follows l a b (IsTruth c) test → Runs l a b (exits_of_loop l 0) (turns n test body step)
loop_stops l c n a b test body step none first = (
  record { idle = λ h. (first.0.idle h, rw h refl); past = first.0.past },
  stops n,
)
  where
    zero_condition : l ≡ 1 → c ≡ 0
    zero_condition on = let same : l * c ≡ c = rw on (omega arith) in sym same ∙ none

    at_end : l ≡ 1 → (r : Evaluated Bool) → Ended b (IsTruth c) r → Left a b (exits_of_loop l 0) (ran_after r (λ wanted s. if wanted then ends ending.Past s else ends ending.Normal s))
    at_end on (Gives true t) ended = absurd (let z : c ≡ 0 = zero_condition on in let o : c ≡ 1 = ended.1 in omega (arith, z, o))
    at_end on (Gives false t) ended = (ended.0, rw on refl, first.0.returned)
    at_end on (Past t) ended = ended

    before : (next : Exec) → l ≡ 1 → (r : Evaluated Bool) → Ended b (IsTruth c) r → Left a b (exits_of_loop l 0) (ran_after r (λ wanted s. if wanted then after_turn (body s) next else ends ending.Normal s))
    before next on (Gives true t) ended = absurd (let z : c ≡ 0 = zero_condition on in let o : c ≡ 1 = ended.1 in omega (arith, z, o))
    before next on (Gives false t) ended = (ended.0, rw on refl, first.0.returned)
    before next on (Past t) ended = ended

    stops : (n : ℕ) → l ≡ 1 → (s : State) → Shows a s → Left a b (exits_of_loop l 0) (turns n test body step s)
    stops zero on s shows = at_end on (test s) (first.1 on s shows)
    stops (suc m) on s shows = before (λ s. then_run (step s) (turns m test body step)) on (test s) (first.1 on s shows)

-- after the last turn the bound is passed where the test holds
abbrev pub passing : Picture → ℕ → Picture
passing p more = record p { past = either_guard p.past more }

pub loop_passes : (l c : ℕ) (a b : Picture) (test : Test) (body step : Exec) → Follows l a b (IsTruth c) test → Runs l a (passing b (l * c)) (exits_of_loop l 0) (turns zero test body step)
loop_passes l c a b test body step first = (
  record {
    idle = λ h. (same b (l * c) (rw h (omega arith)) ∙ first.0.idle h, rw h refl);
    past = λ h. let one : b.past ≡ 1 = first.0.past h in rw one (omega arith);
  },
  λ on s shows. by_test on (test s) (first.1 on s shows),
)
  where
    same : (p : Picture) (n : ℕ) → n ≡ 0 → passing p n ≡ p
    same p n h = ap (λ k. record p { past = k }) (rw h (omega arith))

    by_test : l ≡ 1 → (r : Evaluated Bool) → Ended b (IsTruth c) r → Left a (passing b (l * c)) (exits_of_loop l 0) (ran_after r (λ wanted s. if wanted then ends ending.Past s else ends ending.Normal s))
    by_test on (Gives true t) ended = let k : b.past ≡ 0 = ended.0.kept in let o : c ≡ 1 = ended.1 in rw (k, on, o) refl
    by_test on (Gives false t) ended =
        let o : c ≡ 0 = ended.1 in
        let still : passing b (l * c) ≡ b = same b (l * c) (rw o (omega arith)) in
        (subst (λ p. Shows p t) (sym still) ended.0, rw on refl, first.0.returned)
    by_test on (Past t) ended = let o : b.past ≡ 1 = ended in rw o (omega arith)

-- ---- a turn

-- the guard under which the step of a turn runs
abbrev pub goes_round : Exits → ℕ
goes_round x = either_guard x.normal x.continues

module _ (l : ℕ) (b m k d : Picture) (x : Exits) (r : ℕ) (step : Exec) (rest : Exec) where
  -- what is left of a turn after its body
  module _ (stepped : Runs (goes_round x) m k (exit_normal (goes_round x)) step) (left : Runs (goes_round x) k d (exits_of_loop (goes_round x) r) rest) where
    -- a run that doesn't go round changes no more
    over : goes_round x ≡ 0 → (d ≡ m) × (r ≡ 0)
    over none =
        let one = stepped.0.idle none in
        let two = left.0.idle none in
        (two.0 ∙ one.0, ap (λ (e : Exits). e.returns) two.1)

    after_step : l ≡ 1 → goes_round x ≡ 1 → x.returns ≡ 0 → m.returned ≡ b.returned → (how : Ending) (t : State) → LeftBy m k (exit_normal (goes_round x)) how t → Left b d (exits_of_loop l (either_guard x.returns r)) (continued how t rest)
    after_step on round none same ending.Normal t ended = by_ending (rest t).ending (rest t).state (left.1 round t ended.0)
      where
        by_ending : (how : Ending) (u : State) → LeftBy k d (exits_of_loop (goes_round x) r) how u → LeftBy b d (exits_of_loop l (either_guard x.returns r)) how u
        by_ending ending.Normal u e =
            let zero : r ≡ 0 = ap (λ (y : Exits). y.returns) e.1 in
            (e.0, rw (on, none, zero) refl, e.2 ∙ ended.2 ∙ same)
        by_ending ending.Break u e = absurd (let one : 0 ≡ 1 = ap (λ (y : Exits). y.breaks) e.1 in cc)
        by_ending ending.Continue u e = absurd (let one : 0 ≡ 1 = ap (λ (y : Exits). y.continues) e.1 in cc)
        by_ending ending.Return u e =
            let one : r ≡ 1 = ap (λ (y : Exits). y.returns) e.1 in
            (e.0, rw (on, none, one) refl, e.2)
        by_ending ending.Past u e = e
    after_step on round none same ending.Break t ended = absurd (let one : 0 ≡ 1 = ap (λ (y : Exits). y.breaks) ended.1 in cc)
    after_step on round none same ending.Continue t ended = absurd (let one : 0 ≡ 1 = ap (λ (y : Exits). y.continues) ended.1 in cc)
    after_step on round none same ending.Return t ended = absurd (let one : 0 ≡ 1 = ap (λ (y : Exits). y.returns) ended.1 in cc)
    after_step on round none same ending.Past t ended = left.0.past ended

    pub turn_left : l ≡ 1 → (how : Ending) (t : State) → LeftBy b m x how t → Left b d (exits_of_loop l (either_guard x.returns r)) (turn_ended how t (λ s. then_run (step s) rest))
    turn_left on ending.Normal t e =
        let round : goes_round x ≡ 1 = rw (e.1) refl in
        after_step on round (ap (λ (y : Exits). y.returns) e.1) e.2 (step t).ending (step t).state (stepped.1 round t e.0)
    turn_left on ending.Continue t e =
        let round : goes_round x ≡ 1 = rw (e.1) refl in
        after_step on round (ap (λ (y : Exits). y.returns) e.1) e.2 (step t).ending (step t).state (stepped.1 round t e.0)
    turn_left on ending.Break t e =
        let none : goes_round x ≡ 0 = rw (e.1) refl in
        let still = over none in
        (subst (λ p. Shows p t) (sym still.0) e.0, rw (on, e.1, still.1) refl, ap (λ (p : Picture). p.returned) still.0 ∙ e.2)
    turn_left on ending.Return t e =
        let none : goes_round x ≡ 0 = rw (e.1) refl in
        let still = over none in
        (subst (λ p. Shows p t) (sym still.0) e.0, rw (on, e.1, still.1) refl, ap (λ (p : Picture). p.returned) still.0 ∙ e.2)
    turn_left on ending.Past t e = left.0.past (stepped.0.past e)

-- one turn more before those that are left
pub loop_more : (l c n r : ℕ) (a b m k d : Picture) (x : Exits) (test : Test) (body step : Exec) →
    Follows l a b (IsTruth c) test → Runs (l * c) b m x body → Runs (goes_round x) m k (exit_normal (goes_round x)) step →
    Runs (goes_round x) k d (exits_of_loop (goes_round x) r) (turns n test body step) →
    Runs l a d (exits_of_loop l (either_guard x.returns r)) (turns (suc n) test body step)
loop_more l c n r a b m k d x test body step tested ran stepped left = (
  record {
    idle = λ h.
        let body_still = ran.0.idle (rw h (omega arith)) in
        let none : goes_round x ≡ 0 = rw (body_still.1) refl in
        let still = over l b m k d x r step (turns n test body step) stepped left none in
        (still.0 ∙ body_still.0 ∙ tested.0.idle h, rw (h, body_still.1, still.1) refl);
    past = λ h. left.0.past (stepped.0.past (ran.0.past (tested.0.past h)));
  },
  λ on s shows. ran_ended l a b d (IsTruth c) (exits_of_loop l (either_guard x.returns r)) (λ wanted s. if wanted then after_turn (body s) (λ s. then_run (step s) (turns n test body step)) else ends ending.Normal s)
      (test s) tested.0.returned (tested.1 on s shows) (λ h. left.0.past (stepped.0.past (ran.0.past h))) (turn on),
)
  where
    turn : l ≡ 1 → (wanted : Bool) (t : State) → Shows b t → IsTruth c wanted → Left b d (exits_of_loop l (either_guard x.returns r)) (if wanted then after_turn (body t) (λ s. then_run (step s) (turns n test body step)) else ends ending.Normal t)
    turn on true t shows is = turn_left l b m k d x r step (turns n test body step) stepped left on (body t).ending (body t).state (ran.1 (rw (on, is) refl) t shows)
    turn on false t shows is =
        let body_still = ran.0.idle (rw (on, is) refl) in
        let none : goes_round x ≡ 0 = rw (body_still.1) refl in
        let still = over l b m k d x r step (turns n test body step) stepped left none in
        let same : d ≡ b = still.0 ∙ body_still.0 in
        (subst (λ p. Shows p t) (sym same) shows, rw (on, body_still.1, still.1) refl, ap (λ (p : Picture). p.returned) same)

-- the first turn of a `do`, before which no test stands
pub do_more : (g n r : ℕ) (a m k d : Picture) (x : Exits) (test : Test) (body : Exec) →
    Runs g a m x body → Runs (goes_round x) m d (exits_of_loop (goes_round x) r) (turns n test body (ends ending.Normal)) →
    Runs g a d (exits_of_loop g (either_guard x.returns r)) (do_run (suc n) body test)
do_more g n r a m k d x test body ran left = (
  record {
    idle = λ h.
        let body_still = ran.0.idle h in
        let none : goes_round x ≡ 0 = rw (body_still.1) refl in
        let still = left.0.idle none in
        let zero : r ≡ 0 = ap (λ (e : Exits). e.returns) still.1 in
        (still.0 ∙ body_still.0, rw (h, body_still.1, zero) refl);
    past = λ h. left.0.past (ran.0.past h);
  },
  λ on s shows. by_ending on (body s).ending (body s).state (ran.1 on s shows),
)
  where
    stays : Runs (goes_round x) m m (exit_normal (goes_round x)) (ends ending.Normal)
    stays = (record { idle = λ h. (refl, ap exit_normal h); past = λ h. h }, λ on s shows. (shows, ap exit_normal on, refl))

    by_ending : g ≡ 1 → (how : Ending) (t : State) → LeftBy a m x how t → Left a d (exits_of_loop g (either_guard x.returns r)) (turn_ended how t (turns n test body (ends ending.Normal)))
    by_ending on ending.Normal t e = turn_left g a m m d x r (ends ending.Normal) (turns n test body (ends ending.Normal)) stays left on ending.Normal t e
    by_ending on ending.Break t e = turn_left g a m m d x r (ends ending.Normal) (turns n test body (ends ending.Normal)) stays left on ending.Break t e
    by_ending on ending.Continue t e = turn_left g a m m d x r (ends ending.Normal) (turns n test body (ends ending.Normal)) stays left on ending.Continue t e
    by_ending on ending.Return t e = turn_left g a m m d x r (ends ending.Normal) (turns n test body (ends ending.Normal)) stays left on ending.Return t e
    by_ending on ending.Past t e = left.0.past e

-- a `do` whose bound is 0
pub do_passes : (g : ℕ) (a : Picture) (test : Test) (body : Exec) → Runs g a (passing a g) (exits_of_loop 0 0) (do_run 0 body test)
do_passes g a test body = (
  record {
    idle = λ h. (ap (λ k. record a { past = k }) (rw h (omega arith)), refl);
    past = λ h. rw h (omega arith);
  },
  λ on s shows. let k : a.past ≡ 0 = shows.kept in rw (k, on) refl,
)
