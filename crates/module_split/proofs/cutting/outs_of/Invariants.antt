use Rattle.std.proofs.Common.{◌≡◌, filter, take}
use Rattle.module_split.specs.Steps.{is_out}
use Rattle.module_split.proofs.cutting.outs_of.Given as goal

abbrev pub invariant-loop-node : goal.invariant-loop-node
invariant-loop-node l = l.outs.items ≡ filter (is_out l.wanted l.users l.numbers l.number) (take l.node-index l.nodes)
