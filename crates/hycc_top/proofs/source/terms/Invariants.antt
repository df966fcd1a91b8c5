use Rattle.std.proofs.Common.{◌≡◌, length}
use Rattle.hycc_top.specs.Source.{terms_of}
use Rattle.hycc_top.proofs.Terms.{joined}
use Rattle.hycc_top.proofs.source.terms.Given as goal

abbrev pub invariant-loop-tokens : goal.invariant-loop-tokens
invariant-loop-tokens l = terms_of l.head.a.now l.head.b.now l.head.body.now ≡ joined l.terms.items (terms_of l.head.a.now l.head.b.now l.tokens)

abbrev pub decreases-loop-tokens : goal.decreases-loop-tokens
decreases-loop-tokens l = length l.tokens
