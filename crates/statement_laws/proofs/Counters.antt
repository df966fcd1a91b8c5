-- Loops that count (C11 6.8.5.3): where a loop is given a counter, its head alone gives the object the number of turns, and nothing else changes the
-- object.
use Rattle.std.proofs.Common.{◌≡◌, ◌≤◌, ◌-◌, ◌==◌, ◌&&◌, ◌||◌, ℕ, Bool, true, false, not, nat_le, if◌then◌else◌, Option, None, Some, List, [], ◌∷◌, slice_get, ap, sym, subst, ◌∙◌, refl, arith}
use Rattle.std.proofs.lemmas.Grind.{common_steps}
use Rattle.std.specs.List.{list_any}
use Rattle.hy_bits.specs.declared.scalar.Scalar.{Scalar}
use Rattle.c_meaning.specs.declared.types.CType.{CType}
use Rattle.c_meaning.specs.declared.types.CType.TheVariants as ctype
use Rattle.c_meaning.specs.declared.types.Object.{Object}
use Rattle.c_meaning.specs.declared.operators.IntegerOperation.{IntegerOperation}
use Rattle.c_meaning.specs.declared.expressions.TypedExpr.{TypedExpr}
use Rattle.c_meaning.specs.declared.expressions.Lvalue.{Lvalue}
use Rattle.c_meaning.specs.declared.expressions.ChainStep.{ChainStep}
use Rattle.c_meaning.specs.declared.expressions.LogicalOperand.{LogicalOperand}
use Rattle.c_meaning.specs.declared.expressions.Lvalue.TheOpen.{Lvalue-F}
use Rattle.c_meaning.specs.declared.expressions.Lvalue.TheViews.{out-Lvalue, roll-Lvalue, roll-out-Lvalue}
use Rattle.c_meaning.specs.declared.expressions.Lvalue.TheFolds as M
use Rattle.c_meaning.specs.declared.statements.TypedEffect.{TypedEffect}
use Rattle.c_meaning.specs.declared.statements.TypedEffect.TheVariants as effect
use Rattle.c_meaning.specs.declared.statements.TypedFirst.{TypedFirst}
use Rattle.c_meaning.specs.declared.statements.TypedStep.{TypedStep}
use Rattle.c_meaning.specs.declared.statements.TypedStatement.{TypedStatement}
use Rattle.c_meaning.specs.declared.statements.Controlling.{Controlling}
use Rattle.c_meaning.specs.Constants.{Constant, Variable, Faulty, Word, StepConstant, lvalue_name_rule, constant_rule, step_constant_rule, operand_constant_rule, constant_of, named_object}
use Rattle.c_meaning.specs.Counting.{CountingStep, first_word, is_object, is_additive, is_condition_on, counting_by, counting_step}
use Rattle.c_meaning.specs.TypeRules.{Scope, Designated, ExprType, StepType, object_designated, lvalue_type_rule, expr_type_rule, step_type_rule, operand_type_rule, designated_by}
use Rattle.c_meaning.specs.Rules.{IsOfType}
use Rattle.c_meaning.specs.Uses.{assigned_in}
use Rattle.c_meaning.specs.StatementRules.{Within, EffectFits, StepFits, CounterFits}
use Rattle.c_constants.specs.declared.counting.Count.{Count}
use Rattle.c_constants.specs.Counted.{turns_counted, count_where, counted_by, counted_from, counted_turns, IsUnchanged}
use Rattle.c_constants.proofs.Turns.{counts}
use Rattle.c_typing.specs.declared.environment.Entity.TheVariants as entity
use Rattle.c_typing.specs.declared.environment.Environment.{Environment}
use Rattle.c_heads.specs.declared.context.Body.{Body}
use Rattle.c_heads.specs.Loops.{is_unaddressed, is_kept, step_object, assigns, counter_where, counter_by, counter_in, counter_of}
use Rattle.statement_laws.specs.Final.{Unaddressed, object_stepped, StepsAs}

-- ---- the object that an lvalue names

module _ (scope : Scope) where
  abbrev Named : ℕ → CType → Type 0
  Named k c = (object : Object) × (slice_get scope.objects k ≡ Some object) × (object.ctype ≡ c)

  object-by : (j k : ℕ) (c : CType) (o : Option Object) → slice_get scope.objects j ≡ o → j ≡ k → (object_designated o).ctype ≡ Some c → Named k c
  object-by j k c None e same h = absurd (cc)
  object-by j k c (Some object) e same h = (object, subst (λ (i : ℕ). slice_get scope.objects i ≡ Some object) same e, cc)

  nameless : (k : ℕ) (c : CType) (o : Option ℕ) → o ≡ None → o ≡ Some k → Named k c
  nameless k c o e h = absurd (cc)

  named-by : (y : Lvalue-F Lvalue TypedExpr ChainStep LogicalOperand) (k : ℕ) (c : CType) → named_object (roll-Lvalue y) ≡ Some k → (designated_by scope (roll-Lvalue y)).ctype ≡ Some c → Named k c
  named-by (Lvalue-F.Object place j cells) k c n t =
      let one : ◌≡◌ {A = Option ℕ} (Some j) (Some k) = sym (M.fold-roll-Lvalue (Option ℕ) Constant StepConstant Constant lvalue_name_rule (constant_rule (λ k. None)) step_constant_rule operand_constant_rule (Lvalue-F.Object place j cells)) ∙ n in
      let same : j ≡ k = cc in
      object-by j k c (slice_get scope.objects j) refl same (sym (ap (λ (d : Designated). d.ctype) (M.fold-roll-Lvalue Designated ExprType StepType ExprType (lvalue_type_rule scope) (expr_type_rule scope) step_type_rule operand_type_rule (Lvalue-F.Object place j cells))) ∙ t)
  named-by (Lvalue-F.Indirection place pointer) k c n t = nameless k c (named_object (roll-Lvalue (Lvalue-F.Indirection place pointer))) (M.fold-roll-Lvalue (Option ℕ) Constant StepConstant Constant lvalue_name_rule (constant_rule (λ k. None)) step_constant_rule operand_constant_rule (Lvalue-F.Indirection place pointer)) n
  named-by (Lvalue-F.Subscript place pointer u index) k c n t = nameless k c (named_object (roll-Lvalue (Lvalue-F.Subscript place pointer u index))) (M.fold-roll-Lvalue (Option ℕ) Constant StepConstant Constant lvalue_name_rule (constant_rule (λ k. None)) step_constant_rule operand_constant_rule (Lvalue-F.Subscript place pointer u index)) n
  named-by (Lvalue-F.Member place of member offset cells) k c n t =
      nameless k c (named_object (roll-Lvalue (Lvalue-F.Member place of member offset cells))) (M.fold-roll-Lvalue (Option ℕ) Constant StepConstant Constant lvalue_name_rule (constant_rule (λ k. None)) step_constant_rule operand_constant_rule (Lvalue-F.Member place of member offset cells)) n
  named-by (Lvalue-F.Arrow place pointer member offset cells) k c n t =
      nameless k c (named_object (roll-Lvalue (Lvalue-F.Arrow place pointer member offset cells))) (M.fold-roll-Lvalue (Option ℕ) Constant StepConstant Constant lvalue_name_rule (constant_rule (λ k. None)) step_constant_rule operand_constant_rule (Lvalue-F.Arrow place pointer member offset cells)) n

  -- it is of the type that the lvalue has
  named-typed : (l : Lvalue) (k : ℕ) (c : CType) → named_object l ≡ Some k → IsOfType scope l c → Named k c
  named-typed l k c n t = named-by (out-Lvalue l) k c (ap named_object (roll-out-Lvalue l) ∙ n) (ap (λ (x : Lvalue). (designated_by scope x).ctype) (roll-out-Lvalue l) ∙ t)

-- ---- the type of what a step changes

abbrev StepIs : Scalar → Option CountingStep → Type 0
StepIs t None = Unit {0}
StepIs t (Some by) = by.scalar ≡ t

abbrev CountIs : Scalar → Option Count → Type 0
CountIs t None = Unit {0}
CountIs t (Some count) = count.scalar ≡ t

counting-is : (t : Scalar) (op : IntegerOperation) (c : Constant) → StepIs t (counting_by t op c)
counting-is t op Variable = tt
counting-is t op Faulty = tt
counting-is t op (Word w) = refl

step-if : (t : Scalar) (b : Bool) (o : Option CountingStep) → StepIs t o → StepIs t (if b then o else None)
step-if t true o h = h
step-if t false o h = tt

count-if : (t : Scalar) (b : Bool) (o : Option Count) → CountIs t o → CountIs t (if b then o else None)
count-if t true o h = h
count-if t false o h = tt

where-is : (t u : Scalar) (o : Option ℕ) → t ≡ u → CountIs u (count_where t o)
where-is t u None h = tt
where-is t u (Some turns) h = h

by-is : (t : Scalar) (k : ℕ) (condition : TypedExpr) (start : ℕ) (by : Option CountingStep) → StepIs t by → CountIs t (counted_by k condition start by)
by-is t k condition start None h = tt
by-is t k condition start (Some by) h = where-is by.scalar t (turns_counted k condition by start) h

from-is : (t : Scalar) (k : ℕ) (condition : TypedExpr) (step : TypedEffect) (start : Option ℕ) → StepIs t (counting_step k step) → CountIs t (counted_from k condition step start)
from-is t k condition step None h = tt
from-is t k condition step (Some start) h = count-if t (is_condition_on k condition) (counted_by k condition start (counting_step k step)) (by-is t k condition start (counting_step k step) h)

count-is : (t : Scalar) (o : Option Count) (count : Count) → o ≡ Some count → CountIs t o → count.scalar ≡ t
count-is t None count e h = absurd (cc)
count-is t (Some found) count e h = let same : found ≡ count = cc in subst (λ (c : Count). c.scalar ≡ t) same h

-- ---- numbers in lists

same-test : (j k : ℕ) → (nat_le j k && nat_le k j) ≡ (k == j)
same-test j k = grind (arith, common_steps)

any-same : (k : ℕ) (js : List ℕ) → list_any (λ j. nat_le j k && nat_le k j) js ≡ list_any (λ j. k == j) js
any-same k [] = refl
any-same k (j ∷ js) = ap (λ (b : Bool). b || list_any (λ j. nat_le j k && nat_le k j) js) (same-test j k) ∙ ap (λ (b : Bool). (k == j) || b) (any-same k js)

-- ---- names that are kept

unaddressed : (o : Option Bool) → is_unaddressed o ≡ true → o ≡ Some false
unaddressed None h = absurd (cc)
unaddressed (Some true) h = absurd (cc)
unaddressed (Some false) h = refl

both : (a b : Bool) → (a && b) ≡ true → (a ≡ true) × (b ≡ true)
both true b h = (refl, h)
both false b h = absurd (cc)

kept-is : (body : Body) (number : Option ℕ) → is_kept body number ≡ true → (n : ℕ) × (number ≡ Some n) × (body.base ≤ n) × (slice_get body.addressed (n - body.base) ≡ Some false)
kept-is body None h = absurd (cc)
kept-is body (Some n) h =
    let b = both (nat_le body.base n) (is_unaddressed (slice_get body.addressed (n - body.base))) h in
    let first : nat_le body.base n ≡ true = b.0 in
    let le : body.base ≤ n = grind (arith, common_steps) in
    (n, refl, le, unaddressed (slice_get body.addressed (n - body.base)) b.1)

-- ---- counters

module _ (within : Within) (initial : TypedFirst) (c : Controlling) (step : TypedStep) (s : TypedStatement) where
  counts-where : (k : ℕ) (o : Option Count) → o ≡ counted_turns k initial c.value step.effect → ((count : Count) → o ≡ Some count → IsUnchanged within k count.scalar s)
      → CounterFits within (counter_where k o) initial (Some c) (Some step) s
  counts-where k None e h = tt
  counts-where k (Some count) e h = counts k initial c step (Some count) e within s (h count refl)

  -- the object is an automatic one whose address isn't taken
  abbrev Quiet : ℕ → Type 0
  Quiet k = (list_any (λ j. nat_le j k && nat_le k j) within.taken ≡ false) × ((object : Object) → slice_get within.scope.objects k ≡ Some object → object.start ≡ None)

  module _ (k : ℕ) (t : Scalar) (named : Named within.scope k (ctype.Int t)) (quiet : Quiet k) (is : StepIs t (counting_step k step.effect)) where
    unchanged : assigns s k ≡ false → (count : Count) → counted_turns k initial c.value step.effect ≡ Some count → IsUnchanged within k count.scalar s
    unchanged a count e =
        let same : count.scalar ≡ t = count-is t (counted_turns k initial c.value step.effect) count e (from-is t k c.value step.effect (first_word k initial) is) in
        record {
          object = named.0;
          stands = named.1;
          typed = named.2 ∙ ap ctype.Int (sym same);
          automatic = quiet.1 named.0 named.1;
          assigned = any-same k (assigned_in s) ∙ a;
          taken = quiet.0;
        }

    unassigned : (b : Bool) → assigns s k ≡ b → CounterFits within (if b then None else counter_where k (counted_turns k initial c.value step.effect)) initial (Some c) (Some step) s
    unassigned true a = tt
    unassigned false a = counts-where k (counted_turns k initial c.value step.effect) refl (unchanged a)

  compound-fits : (o : Option ℕ) (t : Scalar) → ((k : ℕ) → o ≡ Some k → Named within.scope k (ctype.Int t) × Quiet k × StepIs t (counting_step k step.effect)) → CounterFits within (counter_by o initial c step s) initial (Some c) (Some step) s
  compound-fits None t h = tt
  compound-fits (Some k) t h = let is = h k refl in unassigned k t is.0 is.1 is.2 (assigns s k) refl

  step-is : (e : TypedEffect) (k : ℕ) (t : Scalar) → step.effect ≡ e → StepIs t (counting_step k e) → StepIs t (counting_step k step.effect)
  step-is e k t same h = subst (λ (x : TypedEffect). StepIs t (counting_step k x)) (sym same) h

  effect-fits : (e : TypedEffect) → step.effect ≡ e → EffectFits within.scope e → ((k : ℕ) → step_object e ≡ Some k → Quiet k) → CounterFits within (counter_by (step_object e) initial c step s) initial (Some c) (Some step) s
  effect-fits (effect.Assignment place target k value) e fits quiet = tt
  effect-fits (effect.Compound form place target t op value) e fits quiet =
      compound-fits (named_object target) t
      (λ k is. (
        named-typed within.scope target k (ctype.Int t) is fits.0.1,
        quiet k is,
        step-is (effect.Compound form place target t op value) k t e
            (step-if t (is_object k target && is_additive op) (counting_by t op (constant_of value)) (counting-is t op (constant_of value))),
      ))
  effect-fits (effect.Advance form place target way t value) e fits quiet = tt
  effect-fits (effect.Call call) e fits quiet = tt

module _ (body : Body) (env : Environment) (within : Within) (still : Unaddressed body env within) (initial : TypedFirst) (s : TypedStatement) where
  counter-in : (number : Option ℕ) (condition : Option Controlling) (step : Option TypedStep) → is_kept body number ≡ true → StepsAs number env step → StepFits within.scope step
      → CounterFits within (counter_in initial condition step s) initial condition step s
  counter-in number None step kept stepped fits = tt
  counter-in number (Some c) None kept stepped fits = tt
  counter-in number (Some c) (Some step) kept stepped fits =
      let n = kept-is body number kept in
      effect-fits within initial c step s step.effect refl fits (λ k is. still n.0 k n.2 (stepped n.0 k n.1 is) n.3)

  counter-if : (number : Option ℕ) (condition : Option Controlling) (step : Option TypedStep) (b : Bool) → is_kept body number ≡ b → StepsAs number env step → StepFits within.scope step
      → CounterFits within (if b then counter_in initial condition step s else None) initial condition step s
  counter-if number condition step true kept stepped fits = counter-in number condition step kept stepped fits
  counter-if number condition step false kept stepped fits = tt

  -- the counter that a loop is given
  pub counter-fits : (number : Option ℕ) (condition : Option Controlling) (step : Option TypedStep) → StepsAs number env step → StepFits within.scope step
      → CounterFits within (counter_of body number initial condition step s) initial condition step s
  counter-fits number condition step stepped fits = counter-if number condition step (is_kept body number) refl stepped fits
