-- Statements that follow their meanings: in order, under conditions, and turns of loops.
use Rattle.std.proofs.Common.{◌≡◌, ℕ, ◌-◌, ◌*◌, Bool, true, false, if◌then◌else◌, map, refl, sym, ap, ◌∙◌, subst, arith, ◌≤◌}
use Rattle.c_meaning.specs.declared.values.Ending.{Ending}
use Rattle.c_meaning.specs.declared.values.Ending.TheVariants as ending
use Rattle.c_meaning.specs.State.{State}
use Rattle.c_meaning.specs.Expressions.{Eval, Evaluated, Gives, Past, Value, after, holds}
use Rattle.c_meaning.specs.Statements.{Exec, Ran, ends, continued, then_run, ran_after, finally}
use Rattle.exec_state.specs.Seen.{Picture, Shows, IsTruth, seen, seen_objects}
use Rattle.exec_state.specs.Follow.{Ended, Follows}
use Rattle.exec_state.specs.Operands.{holding}
use Rattle.exec_state.specs.Leave.{Exits, no_exit, exit_of, exit_normal, LeftBy, Left, Rests, Runs, exits_then, exits_either, either_guard}
use Rattle.exec_state.proofs.GuardLaws.{either_assoc, either_none, either_zero}

-- ---- the empty statement, and jumps

pub runs_normally : (g : ℕ) (a : Picture) → Runs g a a (exit_normal g) (ends ending.Normal)
runs_normally g a = (
  record { idle = λ h. (refl, ap exit_normal h); past = λ h. h },
  λ on s shows. (shows, ap exit_normal on, refl),
)

pub runs_break : (g : ℕ) (a : Picture) → Runs g a a (record { normal = 0; breaks = g; continues = 0; returns = 0 }) (ends ending.Break)
runs_break g a = (
  record { idle = λ h. (refl, ap (λ n. record { normal = 0; breaks = n; continues = 0; returns = 0 }) h); past = λ h. h },
  λ on s shows. (shows, ap (λ n. record { normal = 0; breaks = n; continues = 0; returns = 0 }) on, refl),
)

pub runs_continue : (g : ℕ) (a : Picture) → Runs g a a (record { normal = 0; breaks = 0; continues = g; returns = 0 }) (ends ending.Continue)
runs_continue g a = (
  record { idle = λ h. (refl, ap (λ n. record { normal = 0; breaks = 0; continues = n; returns = 0 }) h); past = λ h. h },
  λ on s shows. (shows, ap (λ n. record { normal = 0; breaks = 0; continues = n; returns = 0 }) on, refl),
)

-- ---- after evaluations

module _ {A : Type 0} (g : ℕ) (a b c : Picture) (M : A → Type 0) (x : Exits) (next : A → Exec) where
  pub ran_ended : (r : Evaluated A) → b.returned ≡ a.returned → Ended b M r → (b.past ≡ 1 → c.past ≡ 1) → ((u : A) (t : State) → Shows b t → M u → Left b c x (next u t)) → Left a c x (ran_after r next)
  ran_ended (Gives u t) same ended past rest = left (next u t).ending (rest u t ended.0 ended.1)
    where
      left : (how : Ending) → LeftBy b c x how (next u t).state → LeftBy a c x how (next u t).state
      left ending.Normal l = (l.0, l.1, l.2 ∙ same)
      left ending.Break l = (l.0, l.1, l.2 ∙ same)
      left ending.Continue l = (l.0, l.1, l.2 ∙ same)
      left ending.Return l = l
      left ending.Past l = l
  ran_ended (Past t) same ended past rest = past ended

  -- a statement that takes a value
  pub runs_after : (run : State → Evaluated A) → Follows g a b M run → Rests g b c x → ((u : A) → M u → g ≡ 1 → (t : State) → Shows b t → Left b c x (next u t)) → Runs g a c x (λ s. ran_after (run s) next)
  runs_after run first rests rest = (
    record { idle = λ h. ((rests.idle h).0 ∙ first.0.idle h, (rests.idle h).1); past = λ h. rests.past (first.0.past h) },
    λ on s shows. ran_ended (run s) first.0.returned (first.1 on s shows) rests.past (λ u t shown means. rest u means on t shown),
  )

-- ---- statements in order

module _ (g : ℕ) (a b c : Picture) (x y : Exits) where
  rests_then : Rests g a b x → Rests x.normal b c y → Rests g a c (exits_then x y)
  rests_then first second = record {
    idle = λ h.
        let none : x ≡ no_exit = (first.idle h).1 in
        let still = second.idle (ap (λ (e : Exits). e.normal) none) in
        (still.0 ∙ (first.idle h).0, rw (none, still.1) refl);
    past = λ h. second.past (first.past h);
  }

  after_normal : (r : Ran) → x ≡ exit_of ending.Normal → b.returned ≡ a.returned → Left b c y r → Left a c (exits_then x y) r
  after_normal r is same left = by_ending r.ending left
    where
      by_ending : (how : Ending) → LeftBy b c y how r.state → LeftBy a c (exits_then x y) how r.state
      by_ending ending.Normal l = (l.0, rw (is, l.1) refl, l.2 ∙ same)
      by_ending ending.Break l = (l.0, rw (is, l.1) refl, l.2 ∙ same)
      by_ending ending.Continue l = (l.0, rw (is, l.1) refl, l.2 ∙ same)
      by_ending ending.Return l = (l.0, rw (is, l.1) refl, l.2)
      by_ending ending.Past l = l

  -- a jump passes over what follows
  passed : (how : Ending) (t : State) → LeftBy a b x how t → (x.normal ≡ 0 → (c ≡ b) × (y ≡ no_exit)) → x.normal ≡ 0 → LeftBy a c (exits_then x no_exit) how t → LeftBy a c (exits_then x y) how t
  passed how t left idle none jumped = subst (λ (z : Exits). LeftBy a c (exits_then x z) how t) (sym (idle none).1) jumped

  module _ (next : Exec) (second : Runs x.normal b c y next) where
    then_left : (how : Ending) (t : State) → LeftBy a b x how t → Left a c (exits_then x y) (continued how t next)
    then_left ending.Normal t left =
        after_normal (next t) left.1 left.2 (second.1 (ap (λ (e : Exits). e.normal) left.1) t left.0)
    then_left ending.Break t left =
        let still = second.0.idle (ap (λ (e : Exits). e.normal) left.1) in
        (subst (λ p. Shows p t) (sym still.0) left.0, rw (left.1, still.1) refl, ap (λ (p : Picture). p.returned) still.0 ∙ left.2)
    then_left ending.Continue t left =
        let still = second.0.idle (ap (λ (e : Exits). e.normal) left.1) in
        (subst (λ p. Shows p t) (sym still.0) left.0, rw (left.1, still.1) refl, ap (λ (p : Picture). p.returned) still.0 ∙ left.2)
    then_left ending.Return t left =
        let still = second.0.idle (ap (λ (e : Exits). e.normal) left.1) in
        (subst (λ p. Shows p t) (sym still.0) left.0, rw (left.1, still.1) refl, ap (λ (p : Picture). p.returned) still.0 ∙ left.2)
    then_left ending.Past t left = second.0.past left

    pub runs_then : (first : Exec) → Runs g a b x first → Runs g a c (exits_then x y) (λ s. then_run (first s) next)
    runs_then first ran = (rests_then ran.0 second.0, λ on s shows. then_left (first s).ending (first s).state (ran.1 on s shows))

-- ---- changes that aren't seen

-- a change of the state in the end that no word shows, as the end of lives
pub runs_finally : (g : ℕ) (a b : Picture) (x : Exits) (run : Exec) (change : State → State) → ((t : State) → seen_objects (change t) ≡ seen_objects t) → ((t : State) → (change t).returned ≡ t.returned) → Runs g a b x run → Runs g a b x (λ s. finally change (run s))
runs_finally g a b x run change objects returned ran = (ran.0, λ on s shows. left (run s).ending (run s).state (ran.1 on s shows))
  where
    shown : (t : State) → Shows b t → Shows b (change t)
    shown t shows = record { kept = shows.kept; objects = shows.objects ∙ sym (objects t) }

    left : (how : Ending) (t : State) → LeftBy a b x how t → LeftBy a b x how (change t)
    left ending.Normal t l = (shown t l.0, l.1, l.2)
    left ending.Break t l = (shown t l.0, l.1, l.2)
    left ending.Continue t l = (shown t l.0, l.1, l.2)
    left ending.Return t l = (shown t l.0, l.1, l.2 ∙ ap (map seen) (sym (returned t)))
    left ending.Past t l = l

-- ---- conditions

module _ (g c : ℕ) (a b d : Picture) (x y : Exits) (yes no : Exec) where
  -- one of two statements by a truth, each under the guard and its condition
  pub runs_either : (truth : Bool) → IsTruth c truth → Runs (g * c) a b x yes → Runs (g * (1 - c)) b d y no → g ≡ 1 → (s : State) → Shows a s → Left a d (exits_either x y) (if truth then yes s else no s)
  runs_either true is first second on s shows =
      let still = second.0.idle (rw (is, on) refl) in
      left (yes s).ending still (first.1 (rw (is, on) refl) s shows)
    where
      left : (how : Ending) → (d ≡ b) × (y ≡ no_exit) → LeftBy a b x how (yes s).state → LeftBy a d (exits_either x y) how (yes s).state
      left ending.Normal still l = (subst (λ p. Shows p (yes s).state) (sym still.0) l.0, rw (l.1, still.1) refl, ap (λ (p : Picture). p.returned) still.0 ∙ l.2)
      left ending.Break still l = (subst (λ p. Shows p (yes s).state) (sym still.0) l.0, rw (l.1, still.1) refl, ap (λ (p : Picture). p.returned) still.0 ∙ l.2)
      left ending.Continue still l = (subst (λ p. Shows p (yes s).state) (sym still.0) l.0, rw (l.1, still.1) refl, ap (λ (p : Picture). p.returned) still.0 ∙ l.2)
      left ending.Return still l = (subst (λ p. Shows p (yes s).state) (sym still.0) l.0, rw (l.1, still.1) refl, ap (λ (p : Picture). p.returned) still.0 ∙ l.2)
      left ending.Past still l = ap (λ (p : Picture). p.past) still.0 ∙ l
  runs_either false is first second on s shows =
      let still = first.0.idle (rw (is, on) refl) in
      left (no s).ending still (second.1 (rw (is, on) refl) s (subst (λ p. Shows p s) (sym still.0) shows))
    where
      left : (how : Ending) → (b ≡ a) × (x ≡ no_exit) → LeftBy b d y how (no s).state → LeftBy a d (exits_either x y) how (no s).state
      left ending.Normal still l = (l.0, rw (still.1, l.1) refl, l.2 ∙ ap (λ (p : Picture). p.returned) still.0)
      left ending.Break still l = (l.0, rw (still.1, l.1) refl, l.2 ∙ ap (λ (p : Picture). p.returned) still.0)
      left ending.Continue still l = (l.0, rw (still.1, l.1) refl, l.2 ∙ ap (λ (p : Picture). p.returned) still.0)
      left ending.Return still l = (l.0, rw (still.1, l.1) refl, l.2)
      left ending.Past still l = l

  pub rests_either : Rests (g * c) a b x → Rests (g * (1 - c)) b d y → Rests g a d (exits_either x y)
  rests_either first second = record {
    idle = λ h.
        let one = first.idle (rw h (omega arith)) in
        let two = second.idle (rw h (omega arith)) in
        (two.0 ∙ one.0, rw (one.1, two.1) refl);
    past = λ h. second.past (first.past h);
  }

-- the guard of the normal end, where no run jumps, is that of the begin
pub runs_without_jumps : (g : ℕ) (a b : Picture) (x : Exits) (run : Exec) → x.breaks ≡ 0 → x.continues ≡ 0 → x.returns ≡ 0 → Runs g a b x run → Runs g a b (exit_normal g) run
runs_without_jumps g a b x run none no_more never ran = (
  record { idle = λ h. ((ran.0.idle h).0, ap exit_normal h); past = ran.0.past },
  λ on s shows. left on (run s).ending (run s).state (ran.1 on s shows),
)
  where
    left : g ≡ 1 → (how : Ending) (t : State) → LeftBy a b x how t → LeftBy a b (exit_normal g) how t
    left on ending.Normal t l = (l.0, ap exit_normal on, l.2)
    left on ending.Break t l = absurd (cc)
    left on ending.Continue t l = absurd (cc)
    left on ending.Return t l = absurd (cc)
    left on ending.Past t l = l

-- `if`, by the value of its condition
pub runs_if : (g c : ℕ) (a b m d : Picture) (x y : Exits) (condition : Eval) (consequence alternative : Exec) →
    Follows g a b (IsTruth c) (holding condition) → Runs (g * c) b m x consequence → Runs (g * (1 - c)) m d y alternative →
    Runs g a d (exits_either x y) (λ s. ran_after (condition s) (λ v s. if holds v then consequence s else alternative s))
runs_if g c a b m d x y condition consequence alternative tested first second = (whole.0, λ on s shows. subst (Left a d (exits_either x y)) (same (condition s)) (whole.1 on s shows))
  where
    next : Bool → Exec
    next truth s = if truth then consequence s else alternative s

    whole : Runs g a d (exits_either x y) (λ s. ran_after (holding condition s) next)
    whole = runs_after g a b d (IsTruth c) (exits_either x y) next (holding condition) tested (rests_either g c b m d x y consequence alternative first.0 second.0)
        (λ truth is on t shows. runs_either g c b m d x y consequence alternative truth is first second on t shows)

    same : (r : Evaluated Value) → ran_after (after r (λ v s. Gives (holds v) s)) next ≡ ran_after r (λ v s. if holds v then consequence s else alternative s)
    same (Gives v s) = refl
    same (Past s) = refl

-- ---- exits that are gathered

pub exits_then_assoc : (x y z : Exits) → x.breaks ≤ 1 → x.continues ≤ 1 → x.returns ≤ 1 → exits_then (exits_then x y) z ≡ exits_then x (exits_then y z)
exits_then_assoc x y z b c r =
    ap (λ (n : ℕ). record { normal = z.normal; breaks = n; continues = either_guard (either_guard x.continues y.continues) z.continues; returns = either_guard (either_guard x.returns y.returns) z.returns }) (either_assoc x.breaks y.breaks z.breaks b)
    ∙ ap (λ (n : ℕ). record { normal = z.normal; breaks = either_guard x.breaks (either_guard y.breaks z.breaks); continues = n; returns = either_guard (either_guard x.returns y.returns) z.returns }) (either_assoc x.continues y.continues z.continues c)
    ∙ ap (λ (n : ℕ). record { normal = z.normal; breaks = either_guard x.breaks (either_guard y.breaks z.breaks); continues = either_guard x.continues (either_guard y.continues z.continues); returns = n }) (either_assoc x.returns y.returns z.returns r)

pub exits_first : (g : ℕ) (y : Exits) → exits_then (exit_normal g) y ≡ y
exits_first g y =
    ap (λ (n : ℕ). record { normal = y.normal; breaks = n; continues = either_guard 0 y.continues; returns = either_guard 0 y.returns }) (either_zero y.breaks)
    ∙ ap (λ (n : ℕ). record { normal = y.normal; breaks = y.breaks; continues = n; returns = either_guard 0 y.returns }) (either_zero y.continues)
    ∙ ap (λ (n : ℕ). record { normal = y.normal; breaks = y.breaks; continues = y.continues; returns = n }) (either_zero y.returns)

pub exits_last : (x : Exits) → exits_then x (exit_normal x.normal) ≡ x
exits_last x =
    ap (λ (n : ℕ). record { normal = x.normal; breaks = n; continues = either_guard x.continues 0; returns = either_guard x.returns 0 }) (either_none x.breaks)
    ∙ ap (λ (n : ℕ). record { normal = x.normal; breaks = x.breaks; continues = n; returns = either_guard x.returns 0 }) (either_none x.continues)
    ∙ ap (λ (n : ℕ). record { normal = x.normal; breaks = x.breaks; continues = x.continues; returns = n }) (either_none x.returns)
