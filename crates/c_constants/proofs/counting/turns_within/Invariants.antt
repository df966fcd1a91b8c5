use Rattle.std.proofs.Common.{◌≡◌, ◌-◌}
use Rattle.c_meaning.specs.Counting.{turns_within, holds_at, stepped}
use Rattle.c_constants.specs.Counted.{turns_before}
use Rattle.c_constants.proofs.counting.turns_within.Given as goal

-- the turns so far and those that are left are all turns
abbrev pub invariant-loop-turns : goal.invariant-loop-turns
invariant-loop-turns l =
    turns_before l.turns (turns_within (l.most - l.turns) (holds_at l.object l.condition) (stepped l.step.scalar l.step.operation l.step.by) l.word)
    ≡ turns_within l.most (holds_at l.object l.condition) (stepped l.step.scalar l.step.operation l.step.by) l.start
