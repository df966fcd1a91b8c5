-- Bounds of loops are few (C11 6.8.5).
use Rattle.std.proofs.Common.{◌≡◌, ◌≤◌, ℕ, zero, suc, Bool, true, false, if◌then◌else◌, Option, None, Some, refl, arith}
use Rattle.std.proofs.lemmas.Grind.{common_steps}
use Rattle.hy_bits.specs.declared.scalar.Scalar.{Scalar}
use Rattle.c_tree.specs.declared.token.Place.{Place}
use Rattle.c_tree.specs.declared.statements.LoopBound.{LoopBound}
use Rattle.c_meaning.specs.declared.expressions.TypedExpr.{TypedExpr}
use Rattle.c_meaning.specs.declared.statements.TypedEffect.{TypedEffect}
use Rattle.c_meaning.specs.declared.statements.TypedFirst.{TypedFirst}
use Rattle.c_meaning.specs.declared.statements.TypedStep.{TypedStep}
use Rattle.c_meaning.specs.declared.statements.Controlling.{Controlling}
use Rattle.c_meaning.specs.declared.statements.Counter.{Counter}
use Rattle.c_meaning.specs.declared.statements.TypedStatement.{TypedStatement}
use Rattle.c_meaning.specs.Counting.{CountingStep, first_word, is_condition_on, holds_at, counting_step, stepped, turns_within, most_turns}
use Rattle.c_meaning.specs.StatementRules.{most_bound}
use Rattle.c_constants.specs.declared.counting.Count.{Count}
use Rattle.c_constants.specs.Counted.{turns_counted, count_where, counted_by, counted_from, counted_turns}
use Rattle.c_conversions.specs.declared.fault.TypeKind.TheVariants.{NoBound}
use Rattle.c_typing.specs.declared.environment.Environment.{Environment}
use Rattle.c_typing.specs.Walks.{Passes}
use Rattle.c_heads.specs.declared.context.Body.{Body}
use Rattle.c_heads.specs.Loops.{is_kept, step_object, assigns, counter_where, counter_by, counter_in, counter_of, bound_of, bounded}
use Rattle.typing_laws.specs.Passing.{Passing}
use Rattle.expression_laws.specs.Keeping.{Stays}
use Rattle.expression_laws.proofs.Steps.{passing-some}
use Rattle.body_laws.specs.Statements.{is_few_bound}

abbrev pub FewWhere : Option ℕ → Type 0
FewWhere None = Unit {0}
FewWhere (Some n) = n ≤ most_bound

abbrev pub CounterFew : Option Counter → Type 0
CounterFew None = Unit {0}
CounterFew (Some counter) = counter.turns ≤ most_bound

abbrev CountFew : Option Count → Type 0
CountFew None = Unit {0}
CountFew (Some count) = count.turns ≤ most_bound

abbrev AtMost : ℕ → Option ℕ → Type 0
AtMost n None = Unit {0}
AtMost n (Some m) = m ≤ n

one-turn : (n : ℕ) (o : Option ℕ) → AtMost n o → AtMost (suc n) (elim o [ None ↦ None | Some m ↦ Some (suc m) ])
one-turn n None h = tt
one-turn n (Some m) h = omega (arith, h)

if-none : (b : Bool) → AtMost 0 (if b then None else Some 0)
if-none true = tt
if-none false = omega arith

if-more : (n : ℕ) (b : Bool) (o : Option ℕ) → AtMost (suc n) o → AtMost (suc n) (if b then o else Some 0)
if-more n true o h = h
if-more n false o h = omega arith

turns-few : (n : ℕ) (holds : ℕ → Bool) (step : ℕ → ℕ) (w : ℕ) → AtMost n (turns_within n holds step w)
turns-few zero holds step w = if-none (holds w)
turns-few (suc n) holds step w =
    if-more n (holds w) (elim (turns_within n holds step (step w)) [ None ↦ None | Some m ↦ Some (suc m) ]) (one-turn n (turns_within n holds step (step w)) (turns-few n holds step (step w)))

counted-few : (k : ℕ) (condition : TypedExpr) (by : CountingStep) (start : ℕ) → AtMost most_turns (turns_counted k condition by start)
unfolding turns_counted
counted-few k condition by start = turns-few most_turns (holds_at k condition) (stepped by.scalar by.operation by.by) start

count-few : (t : Scalar) (o : Option ℕ) → AtMost most_turns o → CountFew (count_where t o)
count-few t None h = tt
count-few t (Some turns) h = h

by-few : (k : ℕ) (condition : TypedExpr) (start : ℕ) (by : Option CountingStep) → CountFew (counted_by k condition start by)
by-few k condition start None = tt
by-few k condition start (Some by) = count-few by.scalar (turns_counted k condition by start) (counted-few k condition by start)

if-count : (b : Bool) (o : Option Count) → CountFew o → CountFew (if b then o else None)
if-count true o h = h
if-count false o h = tt

from-few : (k : ℕ) (condition : TypedExpr) (step : TypedEffect) (start : Option ℕ) → CountFew (counted_from k condition step start)
from-few k condition step None = tt
from-few k condition step (Some start) = if-count (is_condition_on k condition) (counted_by k condition start (counting_step k step)) (by-few k condition start (counting_step k step))

counter-where-few : (k : ℕ) (o : Option Count) → CountFew o → CounterFew (counter_where k o)
counter-where-few k None h = tt
counter-where-few k (Some count) h = h

if-counter : (b : Bool) (o : Option Counter) → CounterFew o → CounterFew (if b then None else o)
if-counter true o h = tt
if-counter false o h = h

counter-by-few : (k : Option ℕ) (initial : TypedFirst) (condition : Controlling) (step : TypedStep) (body : TypedStatement) → CounterFew (counter_by k initial condition step body)
counter-by-few None initial condition step body = tt
counter-by-few (Some k) initial condition step body =
    if-counter (assigns body k) (counter_where k (counted_turns k initial condition.value step.effect))
    (counter-where-few k (counted_turns k initial condition.value step.effect) (from-few k condition.value step.effect (first_word k initial)))

counter-in-few : (initial : TypedFirst) (condition : Option Controlling) (step : Option TypedStep) (body : TypedStatement) → CounterFew (counter_in initial condition step body)
counter-in-few initial None step body = tt
counter-in-few initial (Some condition) None body = tt
counter-in-few initial (Some condition) (Some step) body = counter-by-few (step_object step.effect) initial condition step body

if-kept : (b : Bool) (o : Option Counter) → CounterFew o → CounterFew (if b then o else None)
if-kept true o h = h
if-kept false o h = tt

pub counter-few : (body : Body) (number : Option ℕ) (initial : TypedFirst) (condition : Option Controlling) (step : Option TypedStep) (s : TypedStatement) → CounterFew (counter_of body number initial condition step s)
counter-few body number initial condition step s = if-kept (is_kept body number) (counter_in initial condition step s) (counter-in-few initial condition step s)

bound-few : (body : Body) (bound : Option LoopBound) (counter : Option Counter) → FewWhere body.bound → is_few_bound bound ≡ true → CounterFew counter → FewWhere (bound_of body bound counter)
bound-few body (Some bound) counter h few c = let n : bound.number ≤ most_bound = grind (arith, common_steps) in n
bound-few body None None h few c = h
bound-few body None (Some counter) h few c = c

abbrev pub FewIn : Environment → ℕ → Type 0
FewIn env n = n ≤ most_bound

some-few : (o : Option ℕ) (n : ℕ) → FewWhere o → o ≡ Some n → n ≤ most_bound
some-few None n h e = absurd (cc)
some-few (Some m) n h e = let same : m ≡ n = cc in omega (arith, same, h)

pub bounded-passing : (place : Place) (body : Body) (bound : Option LoopBound) (counter : Option Counter) (env : Environment) → FewWhere body.bound → is_few_bound bound ≡ true → CounterFew counter
    → Passing (Stays FewIn env) (bounded place body bound counter env)
bounded-passing place body bound counter env h few c =
    passing-some (Stays FewIn env) NoBound place (bound_of body bound counter) (λ n env. Passes n env) env
    (λ n e. (refl, some-few (bound_of body bound counter) n (bound-few body bound counter h few c) e))
