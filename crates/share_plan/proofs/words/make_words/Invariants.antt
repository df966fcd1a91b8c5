use Rattle.std.proofs.Common.{◌≡◌, take}
use Rattle.std.specs.List.{fold}
use Rattle.share_plan.specs.Modules.{hold_word}
use Rattle.share_plan.proofs.words.make_words.Given as goal

abbrev pub invariant-loop-number : goal.invariant-loop-number
invariant-loop-number l = (l.number, l.held) ≡ fold (hold_word l.codes) (0, l.initial.held) (take l.number l.nodes)
