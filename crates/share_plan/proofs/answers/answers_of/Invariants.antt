use Rattle.std.proofs.Common.{◌≡◌, [], take}
use Rattle.std.specs.List.{fold}
use Rattle.share_plan.specs.Answers.{openings_in, with_answer}
use Rattle.share_plan.proofs.answers.answers_of.Given as goal

abbrev pub invariant-loop-node : goal.invariant-loop-node
invariant-loop-node l = record {
  answers : l.answers.items ≡ fold (with_answer l.entries) [] (take l.node-index l.results);
  next : l.next ≡ openings_in l.answers.items;
}
