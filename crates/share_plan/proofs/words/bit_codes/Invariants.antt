use Rattle.std.proofs.Common.{◌≡◌, take}
use Rattle.share_plan.specs.Modules.{bit_codes}
use Rattle.share_plan.proofs.words.bit_codes.Given as goal

abbrev pub invariant-loop-node : goal.invariant-loop-node
invariant-loop-node l = l.out.items ≡ bit_codes l.entries l.sharing (record { script = l.fn.script; held = l.held }) (take l.node-index l.nodes)
