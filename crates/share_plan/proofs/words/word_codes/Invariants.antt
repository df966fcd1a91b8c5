use Rattle.std.proofs.Common.{◌≡◌, take}
use Rattle.share_plan.specs.Modules.{word_codes}
use Rattle.share_plan.proofs.words.word_codes.Given as goal

abbrev pub invariant-loop-node : goal.invariant-loop-node
invariant-loop-node l = l.out.items ≡ word_codes l.held (take l.node-index l.nodes)
