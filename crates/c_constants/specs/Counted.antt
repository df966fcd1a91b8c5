-- The number of turns that the head of a `for` alone gives an object (C11 6.8.5.3), where it gives one: the object begins at a constant, is
-- compared with a constant, and a constant is added to it or subtracted from it.
use Rattle.std.specs.Prelude.{◌≡◌, ℕ, ◌+◌, false, nat_le, ◌&&◌, if◌then◌else◌, Option, None, Some, slice_get}
use Rattle.std.specs.List.{list_any}
use Rattle.hy_bits.specs.declared.scalar.Scalar.{Scalar}
use Rattle.c_meaning.specs.declared.types.CType.TheVariants as ctype
use Rattle.c_meaning.specs.declared.types.Object.{Object}
use Rattle.c_meaning.specs.declared.expressions.TypedExpr.{TypedExpr}
use Rattle.c_meaning.specs.declared.expressions.Lvalue.{Lvalue}
use Rattle.c_meaning.specs.declared.expressions.Lvalue.TheFolds.{fold-Lvalue}
use Rattle.c_meaning.specs.declared.statements.TypedEffect.{TypedEffect}
use Rattle.c_meaning.specs.declared.statements.TypedFirst.{TypedFirst}
use Rattle.c_meaning.specs.declared.statements.TypedStatement.{TypedStatement}
use Rattle.c_meaning.specs.Uses.{assigned_in}
use Rattle.c_meaning.specs.Counting.{Read, Reads, Other, lvalue_read, expr_read, step_read, operand_read, CountingStep, first_word, is_condition_on, holds_at, counting_step, stepped, turns_within, most_turns}
use Rattle.c_meaning.specs.StatementRules.{Within}
use Rattle.c_constants.specs.declared.counting.Count.{Count}
use Rattle.c_constants.specs.declared.counting.Step.{Step}

-- ---- what calls give

abbrev pub as_read : Option ℕ → Read
as_read None = Other
as_read (Some k) = Reads k

-- an lvalue as a read
abbrev pub lvalue_reads : Lvalue → Read
lvalue_reads = fold-Lvalue Read Read Read Read lvalue_read expr_read step_read operand_read

abbrev pub step_as : Step → CountingStep
step_as step = record { scalar = step.scalar; operation = step.operation; by = step.by }

abbrev pub step_where : Option Step → Option CountingStep
step_where None = None
step_where (Some step) = Some (step_as step)

-- ---- the number of turns

-- the turns before those that are left, if their number is known
abbrev pub turns_before : ℕ → Option ℕ → Option ℕ
turns_before before None = None
turns_before before (Some turns) = Some (before + turns)

-- at most 2^20 turns
unfoldable pub turns_counted : ℕ → TypedExpr → CountingStep → ℕ → Option ℕ
turns_counted k condition by start = turns_within most_turns (holds_at k condition) (stepped by.scalar by.operation by.by) start

abbrev pub count_where : Scalar → Option ℕ → Option Count
count_where t None = None
count_where t (Some turns) = Some (record { scalar = t; turns = turns })

abbrev pub counted_by : ℕ → TypedExpr → ℕ → Option CountingStep → Option Count
counted_by k condition start None = None
counted_by k condition start (Some by) = count_where by.scalar (turns_counted k condition by start)

abbrev pub counted_from : ℕ → TypedExpr → TypedEffect → Option ℕ → Option Count
counted_from k condition step None = None
counted_from k condition step (Some start) = if is_condition_on k condition then counted_by k condition start (counting_step k step) else None

-- the turns that the head gives the object, and the type that the object has
abbrev pub counted_turns : ℕ → TypedFirst → TypedExpr → TypedEffect → Option Count
counted_turns k initial condition step = counted_from k condition step (first_word k initial)

-- what else a loop keeps that counts by the object: the object is an automatic one of the type, nothing in the body assigns to it, and its
-- address isn't taken
pub record IsUnchanged (within : Within) (k : ℕ) (t : Scalar) (body : TypedStatement) : Type 0 where
  pub object : Object
  pub stands : slice_get within.scope.objects k ≡ Some object
  pub typed : object.ctype ≡ ctype.Int t
  pub automatic : object.start ≡ None
  pub assigned : list_any (λ j. nat_le j k && nat_le k j) (assigned_in body) ≡ false
  pub taken : list_any (λ j. nat_le j k && nat_le k j) within.taken ≡ false
