use Rattle.std.proofs.Common.{◌≡◌, take}
use Rattle.dealer.specs.Drawing.{left, taken}
use Rattle.dealer.proofs.dealer.Dealer.fill.Given as goal

abbrev pub invariant-loop-word : goal.invariant-loop-word
invariant-loop-word g l = record {
  words : take l.word-index l.words ≡ taken l.word-index (g.R.Rng.stream l.fn.self.source);
  source : g.R.Rng.stream l.self.source ≡ left l.word-index (g.R.Rng.stream l.fn.self.source);
  offset : l.self.offset ≡ l.fn.self.offset;
  chosen : l.self.chosen ≡ l.fn.self.chosen;
}
