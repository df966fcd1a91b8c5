use Rattle.std.proofs.Common.{◌≡◌, take}
use Rattle.std.specs.List.{fold}
use Rattle.share_plan.specs.Held.{Work}
use Rattle.share_plan.specs.Modules.{with_word}
use Rattle.share_plan.proofs.words.take_words.Given as goal

abbrev pub invariant-loop-node : goal.invariant-loop-node
invariant-loop-node l =
    let now : Work = record { script = l.script; held = l.held } in
    let before : Work = record { script = l.initial.script; held = l.initial.held } in
    now ≡ fold (with_word l.entries l.to) before (take l.node-index l.nodes)
