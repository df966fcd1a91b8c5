use Rattle.std.proofs.Common.{◌≡◌, ◌<◌, length, refl, sym, ap, ◌∙◌, arith}
use Rattle.rand_core.specs.Stream.{Stream, next_u64}
use Rattle.dealer.specs.Drawing.{left}
use Rattle.dealer.proofs.Steps.{drawn_more, left_one_more, none_left, none_taken}
use Rattle.dealer.proofs.dealer.Dealer.fill.Goals as goal

pub loop-word-init : goal.loop-word-init
loop-word-init g c = record {
  words = sym (none_taken (g.R.Rng.stream c.args.self.now.source));
  source = sym (none_left (g.R.Rng.stream c.args.self.now.source));
  offset = refl;
  chosen = refl;
}

pub loop-word-preserved : goal.loop-word-preserved
loop-word-preserved g c =
    let inside : c.loop-word.word-index < length c.loop-word.words = omega arith in
    let word : c.draw.result ≡ (next_u64 (left c.loop-word.word-index (g.R.Rng.stream c.args.self.now.source))).0 =
    c.draw.ensures.word ∙ ap (λ (s : Stream). (next_u64 s).0) c.loop-word.invariant.source in
    record {
      words = drawn_more c.loop-word.word-index (g.R.Rng.stream c.args.self.now.source) c.loop-word.words c.draw.result inside word c.loop-word.invariant.words;
      source = c.draw.ensures.source ∙ ap (λ (s : Stream). (next_u64 s).1) c.loop-word.invariant.source ∙ left_one_more c.loop-word.word-index (g.R.Rng.stream c.args.self.now.source);
      offset = c.draw.ensures.offset ∙ c.loop-word.invariant.offset;
      chosen = c.draw.ensures.chosen ∙ c.loop-word.invariant.chosen;
    }
