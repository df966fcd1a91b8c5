use Rattle.std.proofs.Common.{◌≡◌, ◌-◌, ◌≤◌, ◌++◌}
use Rattle.word_queue.specs.Ring.{spare}
use Rattle.dealer.specs.Drawing.{left, taken}
use Rattle.pair_run.proofs.halves.draw.Given as goal

abbrev pub invariant-loop-i : goal.invariant-loop-i
invariant-loop-i g l = record {
  words : l.words.items ≡ l.fn.words.items ++ taken l.i (g.R.Rng.stream l.fn.dealer.source);
  source : g.R.Rng.stream l.dealer.source ≡ left l.i (g.R.Rng.stream l.fn.dealer.source);
  room : l.words.room ≡ l.fn.words.room;
  fits : l.fn.count - l.i ≤ spare l.words;
}
