use Rattle.ring_net.proofs.ModuleLaws.{IsPart-of-module}
use Rattle.ring_net.proofs.part.ring_of.Goals as goal

pub ring_of_part-requires : goal.ring_of_part-requires
ring_of_part-requires c = IsPart-of-module c.args.graph.now c.args.nodes.now c.args.ins.now c.args.outs.now c.entries-size.ensures.graph c.requires
