use Rattle.hy_links.proofs.Chains.{not_Stands-make}
use Rattle.circuit_tests.proofs.links.push_new.Goals as goal

pub push-requires-clause-free : goal.push-requires-clause-free
push-requires-clause-free c = rw (c.in_ok-make.ensures.ok, c.in_ok-make.ensures.number) (not_Stands-make c.args.links.now 0 c.is_linked_once.ensures)
