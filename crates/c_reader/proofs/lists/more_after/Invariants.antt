use Rattle.std.proofs.Common.{◌≡◌, ◌-◌, Bool}
use Rattle.c_tree.specs.declared.token.Token.{Token}
use Rattle.c_reader.specs.Reading.{Reader}
use Rattle.c_reader.specs.Closures.{TestsBy, PartsBy}
use Rattle.c_reader.specs.Lists.{read_more}
use Rattle.c_reader.proofs.Separating.{gathered_more}
use Rattle.c_reader.proofs.lists.more_after.Given as goal

abbrev pub invariant-loop-turn : goal.invariant-loop-turn
invariant-loop-turn g l =
    (test : Token → Bool) (part : Reader g.row.T.Denot) → TestsBy test (goal.G-post g l.starts) → PartsBy part (goal.R-post g l.read)
    → gathered_more l.fn.found (read_more l.fn.size l.fn.text test l.fn.left part l.fn.cursor) ≡ gathered_more l.found (read_more (l.size - l._turn) l.text test l.left part l.cursor)
