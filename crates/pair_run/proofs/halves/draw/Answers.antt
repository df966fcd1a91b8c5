use Rattle.std.proofs.Common.{◌≡◌, ◌++◌, ◌∷◌, [], ℕ, List, length, refl, sym, ap, ap₂, ◌∙◌, add-one, append_assoc, append-nil, arith, length-append}
use Rattle.rand_core.specs.Stream.{Stream, next_u64}
use Rattle.dealer.specs.Drawing.{left, taken}
use Rattle.pair_run.proofs.Drawing.{left_one_more, none_left, none_taken, taken-more}
use Rattle.pair_run.proofs.halves.draw.Goals as goal

pub loop-i-init : goal.loop-i-init
loop-i-init g c = record {
  words = sym (append-nil c.args.words.now.items) ∙ ap (λ (xs : List ℕ). c.args.words.now.items ++ xs) (sym (none_taken (g.R.Rng.stream c.args.dealer.now.source)));
  source = sym (none_left (g.R.Rng.stream c.args.dealer.now.source));
  room = refl;
  fits = omega (arith, c.requires);
}

pub draw_one-requires : goal.draw_one-requires
draw_one-requires g c = omega (arith, c.loop-i.invariant.fits)

pub loop-i-preserved : goal.loop-i-preserved
loop-i-preserved g c =
    let s0 : Stream = g.R.Rng.stream c.args.dealer.now.source in
    record {
      words =
          c.draw_one.ensures.words
          ∙ ap₂ (λ (xs : List ℕ) (s : Stream). xs ++ (next_u64 s).0 ∷ []) c.loop-i.invariant.words c.loop-i.invariant.source
          ∙ append_assoc c.args.words.now.items (taken c.loop-i.i s0) ((next_u64 (left c.loop-i.i s0)).0 ∷ [])
          ∙ ap (λ (xs : List ℕ). c.args.words.now.items ++ xs) (sym (taken-more c.loop-i.i s0) ∙ ap (λ (k : ℕ). taken k s0) (sym (add-one c.loop-i.i)));
      source = c.draw_one.ensures.source ∙ ap (λ (s : Stream). (next_u64 s).1) c.loop-i.invariant.source ∙ left_one_more c.loop-i.i s0;
      room = c.draw_one.ensures.room ∙ c.loop-i.invariant.room;
      fits = omega (arith, c.loop-i.invariant.fits, c.draw_one.ensures.room, ap length c.draw_one.ensures.words, length-append c.loop-i.words.items ((next_u64 (g.R.Rng.stream c.loop-i.dealer.source)).0 ∷ []));
    }

pub returns : goal.returns
returns g c =
    let s0 : Stream = g.R.Rng.stream c.args.dealer.now.source in
    let end : c.loop-i.i ≡ c.args.count = omega arith in
    record {
      words = c.loop-i.invariant.words ∙ ap (λ (k : ℕ). c.args.words.now.items ++ taken k s0) end;
      source = c.loop-i.invariant.source ∙ ap (λ (k : ℕ). left k s0) end;
      room = c.loop-i.invariant.room;
    }
