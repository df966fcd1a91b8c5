use Rattle.std.proofs.Common.{◌≡◌, ◌-◌}
use Rattle.c_reader.specs.Reading.{Reader, many}
use Rattle.c_reader.specs.Closures.{PartsBy}
use Rattle.c_reader.specs.Tokens.{is_mark}
use Rattle.c_reader.specs.Lists.{separated_by}
use Rattle.c_reader.proofs.Gathering.{gathered}
use Rattle.c_reader.proofs.Separating.{next_part}
use Rattle.c_reader.proofs.lists.separated_by.Given as goal

abbrev pub invariant-loop-turn : goal.invariant-loop-turn
invariant-loop-turn g l =
    (part : Reader g.row.T.Denot) → PartsBy part (goal.R-post g l.read)
    → separated_by l.fn.size l.fn.text l.fn.left part l.fn.cursor ≡ gathered l.found (many (l.size - l._turn) (is_mark l.text) (next_part l.fn.size l.text l.left part) l.cursor)
