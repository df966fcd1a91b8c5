use Rattle.std.proofs.Common.{◌≡◌, drop, map}
use Rattle.c_meaning.specs.Expressions.{World}
use Rattle.c_meaning.specs.Statements as statements
use Rattle.c_meaning.specs.StatementFolds.{section_runs}
use Rattle.c_plain.specs.Views.{wanted_label}
use Rattle.c_plain.proofs.calls.sections_from.Given as goal

-- no section so far has the label
abbrev pub invariant-loop-number : goal.invariant-loop-number
invariant-loop-number l = (world : World) →
    statements.sections_from (wanted_label l.word) (map (section_runs world) (drop l.number l.sections))
    ≡ statements.sections_from (wanted_label l.word) (map (section_runs world) l.sections)
