use Rattle.hy_links.specs.Arena.{chain}
use Rattle.hy_links.proofs.Chains.{walk_stands}
use Rattle.circuit_tests.proofs.links.has_all_downwards.Goals as goal

pub loop-node-preserved : goal.loop-node-preserved
loop-node-preserved c = walk_stands c.loop-node.current c.walk-current.result (chain c.args.links.now c.args.list) c.walk-current.ensures
