use Rattle.std.proofs.Common.{None}
use Rattle.hy_links.specs.Arena.{chain}
use Rattle.hy_links.proofs.Chains.{not_Stands-without, walk_stands}
use Rattle.circuit_tests.proofs.links.shift.Goals as goal

pub unlink-requires : goal.unlink-requires
unlink-requires c = (c.args.from, walk_stands None _ (chain c.args.links.now c.args.from) c.walk.ensures c.in_ok-link.link c.in_ok-link.was)

pub push-requires-clause-link_made : goal.push-requires-clause-link_made
push-requires-clause-link_made c = rw c.unlink.ensures (c.is_linked_once.ensures.made c.args.from c.in_ok-link.link (walk_stands None _ (chain c.args.links.now c.args.from) c.walk.ensures c.in_ok-link.link c.in_ok-link.was))

pub push-requires-clause-free : goal.push-requires-clause-free
push-requires-clause-free c = rw c.unlink.ensures (not_Stands-without c.args.links.now c.in_ok-link.link)
