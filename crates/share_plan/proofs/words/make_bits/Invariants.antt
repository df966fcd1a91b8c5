use Rattle.std.proofs.Common.{◌≡◌, take}
use Rattle.std.specs.List.{fold}
use Rattle.share_plan.specs.Modules.{hold_bits}
use Rattle.share_plan.proofs.words.make_bits.Given as goal

abbrev pub invariant-loop-node : goal.invariant-loop-node
invariant-loop-node l = (l.next, l.held) ≡ fold (hold_bits l.entries l.sharing) (l.initial.next, l.initial.held) (take l.node-index l.nodes)
