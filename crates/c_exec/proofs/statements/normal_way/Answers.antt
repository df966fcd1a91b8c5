use Rattle.std.proofs.Common.{refl}
use Rattle.word_nodes.proofs.NodeLaws.{worth-later}
use Rattle.c_exec.proofs.statements.normal_way.Goals as goal

pub returns-clause-value : goal.returns-clause-value
returns-clause-value c = λ ins fit. rw (worth-later c.in_ok-none.ensures.grows.extends ins c.args.guard c.requires.guard.within, c.in_ok-none.ensures.value ins fit) refl
