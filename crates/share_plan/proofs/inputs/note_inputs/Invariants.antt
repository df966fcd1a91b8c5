use Rattle.std.proofs.Common.{◌≡◌, length, take}
use Rattle.share_plan.specs.Leaves.{AreInputNodes}
use Rattle.share_plan.proofs.inputs.note_inputs.Given as goal

abbrev pub invariant-loop-place : goal.invariant-loop-place
invariant-loop-place l = record {
  size : length l.nodes ≡ length l.initial.nodes;
  nodes : AreInputNodes (take l.place l.entries) l.nodes;
}
