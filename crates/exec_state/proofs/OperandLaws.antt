-- Lists of operands that follow their meanings: what is left of a list, from what the words hold so far, gives what the whole gives.
use Rattle.std.proofs.Common.{◌≡◌, ℕ, ◌+◌, ◌-◌, ◌*◌, Bool, true, false, if◌then◌else◌, List, [], ◌∷◌, map, refl, sym, ap, ◌∙◌, subst, arith}
use Rattle.c_meaning.specs.declared.values.Cell.{Cell}
use Rattle.c_meaning.specs.State.{State}
use Rattle.c_meaning.specs.Expressions.{Evaluated, Gives, Past, Eval, Value, after, along, all_hold, any_holds, each_value, holds}
use Rattle.exec_state.specs.Seen.{Picture, Shows, IsTruth, IsSeen, AreSeen, seen}
use Rattle.exec_state.specs.Follow.{Ended, Passes, Goes, Follows}
use Rattle.exec_state.specs.Operands.{GoesAlong, all_left, any_left, holding}
use Rattle.exec_state.proofs.FollowLaws.{passes_still, passes_on, passes_where, goes_on, follows_on}

-- ---- "&&"

module _ (g : ℕ) (b m d : Picture) (operand : Eval) (operands : List Eval) (e f : ℕ) where
  all_after : (r : Evaluated Value) → Ended m (IsTruth e) (after r (λ v s. Gives (holds v) s)) → (m.past ≡ 1 → d.past ≡ 1) → ((t : State) → Shows m t → Ended d (IsTruth f) (all_left e operands t)) → Ended d (IsTruth f) (after r (λ v s. if holds v then all_hold operands s else Gives false s))
  all_after (Gives v t) ended past rest = held (holds v) ended.1
    where
      held : (h : Bool) → IsTruth e h → Ended d (IsTruth f) (if h then all_hold operands t else Gives false t)
      held true is = subst (λ n. Ended d (IsTruth f) (all_left n operands t)) is (rest t ended.0)
      held false is = subst (λ n. Ended d (IsTruth f) (all_left n operands t)) is (rest t ended.0)
  all_after (Past t) ended past rest = past ended

  -- the next operand, under the guard where those before hold
  pub all_more : (c : ℕ) (before : Bool) → IsTruth c before → Follows (g * c) b m (IsTruth e) (holding operand) → Follows g m d (IsTruth f) (all_left (c * e) operands) → Follows g b d (IsTruth f) (all_left c (operand ∷ operands))
  all_more c before is first rest = (passes_on g b m d (passes_where g c b m first.0) rest.0, goes before is)
    where
      goes : (h : Bool) → IsTruth c h → Goes g b d (IsTruth f) (all_left c (operand ∷ operands))
      goes true is on s shows =
          let one : c ≡ 1 = is in
          rw one (all_after (operand s) (first.1 (rw (one, on) refl) s shows) rest.0.past (λ t shown. subst (λ n. Ended d (IsTruth f) (all_left n operands t)) (rw one (omega arith)) (rest.1 on t shown)))
      goes false is on s shows =
          let none : c ≡ 0 = is in
          let still : m ≡ b = first.0.idle (rw none (omega arith)) in
          let shown : Shows m s = subst (λ p. Shows p s) (sym still) shows in
          let zero : c * e ≡ 0 = rw none (omega arith) in
          rw none (subst (λ n. Ended d (IsTruth f) (all_left n operands s)) zero (rest.1 on s shown))

-- the first operand
pub all_first : (g : ℕ) (b m d : Picture) (operand : Eval) (operands : List Eval) (e f : ℕ) → Follows g b m (IsTruth e) (holding operand) → Follows g m d (IsTruth f) (all_left e operands) → Follows g b d (IsTruth f) (all_hold (operand ∷ operands))
all_first g b m d operand operands e f first rest =
    let same : g * 1 ≡ g = omega arith in
    let one : 1 * e ≡ e = omega arith in
    all_more g b m d operand operands e f 1 true refl
    (subst (λ n. Follows n b m (IsTruth e) (holding operand)) (sym same) first)
    (subst (λ n. Follows g m d (IsTruth f) (all_left n operands)) (sym one) rest)

pub all_done : (g c : ℕ) (b : Picture) (before : Bool) → IsTruth c before → Follows g b b (IsTruth c) (all_left c [])
all_done g c b before is = (passes_still g b, goes before is)
  where
    goes : (h : Bool) → IsTruth c h → Goes g b b (IsTruth c) (all_left c [])
    goes true is on s shows = let one : c ≡ 1 = is in rw one (shows, refl)
    goes false is on s shows = let none : c ≡ 0 = is in rw none (shows, refl)

-- ---- "||"

module _ (g : ℕ) (b m d : Picture) (operand : Eval) (operands : List Eval) (e f : ℕ) where
  any_after : (r : Evaluated Value) → Ended m (IsTruth e) (after r (λ v s. Gives (holds v) s)) → (m.past ≡ 1 → d.past ≡ 1) → ((t : State) → Shows m t → Ended d (IsTruth f) (any_left e operands t)) → Ended d (IsTruth f) (after r (λ v s. if holds v then Gives true s else any_holds operands s))
  any_after (Gives v t) ended past rest = held (holds v) ended.1
    where
      held : (h : Bool) → IsTruth e h → Ended d (IsTruth f) (if h then Gives true t else any_holds operands t)
      held true is = subst (λ n. Ended d (IsTruth f) (any_left n operands t)) is (rest t ended.0)
      held false is = subst (λ n. Ended d (IsTruth f) (any_left n operands t)) is (rest t ended.0)
  any_after (Past t) ended past rest = past ended

  -- the next operand, under the guard where none before holds
  pub any_more : (c : ℕ) (before : Bool) → IsTruth c before → Follows (g * (1 - c)) b m (IsTruth e) (holding operand) → Follows g m d (IsTruth f) (any_left (c + e - c * e) operands) → Follows g b d (IsTruth f) (any_left c (operand ∷ operands))
  any_more c before is first rest = (passes_on g b m d (passes_where g (1 - c) b m first.0) rest.0, goes before is)
    where
      goes : (h : Bool) → IsTruth c h → Goes g b d (IsTruth f) (any_left c (operand ∷ operands))
      goes true is on s shows =
          let one : c ≡ 1 = is in
          let still : m ≡ b = first.0.idle (rw one (omega arith)) in
          let shown : Shows m s = subst (λ p. Shows p s) (sym still) shows in
          let all : c + e - c * e ≡ 1 = rw one (omega arith) in
          rw one (subst (λ n. Ended d (IsTruth f) (any_left n operands s)) all (rest.1 on s shown))
      goes false is on s shows =
          let none : c ≡ 0 = is in
          rw none (any_after (operand s) (first.1 (rw (none, on) refl) s shows) rest.0.past (λ t shown. subst (λ n. Ended d (IsTruth f) (any_left n operands t)) (rw none (omega arith)) (rest.1 on t shown)))

-- the first operand
pub any_first : (g : ℕ) (b m d : Picture) (operand : Eval) (operands : List Eval) (e f : ℕ) → Follows g b m (IsTruth e) (holding operand) → Follows g m d (IsTruth f) (any_left e operands) → Follows g b d (IsTruth f) (any_holds (operand ∷ operands))
any_first g b m d operand operands e f first rest =
    let same : g * (1 - 0) ≡ g = omega arith in
    let zero : 0 + e - 0 * e ≡ e = omega arith in
    any_more g b m d operand operands e f 0 false refl
    (subst (λ n. Follows n b m (IsTruth e) (holding operand)) (sym same) first)
    (subst (λ n. Follows g m d (IsTruth f) (any_left n operands)) (sym zero) rest)

pub any_done : (g c : ℕ) (b : Picture) (before : Bool) → IsTruth c before → Follows g b b (IsTruth c) (any_left c [])
any_done g c b before is = (passes_still g b, goes before is)
  where
    goes : (h : Bool) → IsTruth c h → Goes g b b (IsTruth c) (any_left c [])
    goes true is on s shows = let one : c ≡ 1 = is in rw one (shows, refl)
    goes false is on s shows = let none : c ≡ 0 = is in rw none (shows, refl)

-- ---- arguments

-- one value more before those that are left
pub each_more : (g : ℕ) (b m d : Picture) (v : List Cell) (vs : List (List Cell)) (argument : Eval) (arguments : List Eval) →
    Follows g b m (IsSeen v) argument → Follows g m d (AreSeen vs) (each_value arguments) → Follows g b d (AreSeen (v ∷ vs)) (each_value (argument ∷ arguments))
each_more g b m d v vs argument arguments first rest =
    follows_on g b m d (IsSeen v) (AreSeen (v ∷ vs)) argument (λ u s. after (each_value arguments s) (λ us s. Gives (u ∷ us) s)) first rest.0
    (λ u is. goes_on g m d d (AreSeen vs) (AreSeen (v ∷ vs)) (each_value arguments) (λ us s. Gives (u ∷ us) s) rest.1 (passes_still g d) (λ us are on t shows. (shows, ap (λ (x : List Cell). x ∷ vs) is ∙ ap (λ (xs : List (List Cell)). map seen u ∷ xs) are)))

pub each_done : (g : ℕ) (b : Picture) → Follows g b b (AreSeen []) (each_value [])
each_done g b = (passes_still g b, λ on s shows. (shows, refl))

-- ---- steps of a chain

pub along_more : (g : ℕ) (b m d : Picture) (v x w : List Cell) (step : Value → Eval) (steps : List (Value → Eval)) →
    Passes g b m → ((u : Value) → IsSeen v u → Goes g b m (IsSeen x) (step u)) → GoesAlong g m d x w steps → GoesAlong g b d v w (step ∷ steps)
along_more g b m d v x w step steps passes first rest =
    (passes_on g b m d passes rest.0, λ u is. goes_on g b m d (IsSeen x) (IsSeen w) (step u) (λ y s. along steps y s) (first u is) rest.0 rest.1)

pub along_done : (g : ℕ) (b : Picture) (v : List Cell) → GoesAlong g b b v v []
along_done g b v = (passes_still g b, λ u is on s shows. (shows, is))
