use Rattle.std.proofs.Common.{◌≡◌, ◌-◌, Bool}
use Rattle.c_tree.specs.declared.token.Token.{Token}
use Rattle.c_reader.specs.Reading.{Reader, many}
use Rattle.c_reader.specs.Closures.{TestsBy, PartsBy}
use Rattle.c_reader.proofs.Gathering.{gathered}
use Rattle.c_reader.proofs.lists.many_after.Given as goal

abbrev pub invariant-loop-turn : goal.invariant-loop-turn
invariant-loop-turn g l =
    (test : Token → Bool) (part : Reader g.row.T.Denot) → TestsBy test (goal.G-post g l.goes_on) → PartsBy part (goal.R-post g l.read)
    → gathered l.fn.found (many l.fn.size test part l.fn.cursor) ≡ gathered l.found (many (l.size - l._turn) test part l.cursor)
