use denote.Text.{Utf8}
use denote.Shadow.{shadow}
use Rattle.syntax_tests.proofs.rows.texts_have_these_trees_or_faults.Given as goal

-- lines are left to come and to end, and the head of the present section is text
abbrev pub invariant-loop-line : goal.invariant-loop-line
invariant-loop-line g l =
    (goal.iterator-loop-line g).can_next l.line-iterator
    × (goal.iterator-loop-line g).is_finite l.line-iterator
    × shadow (Utf8 l.head)
