use Rattle.std.proofs.Common.{◌∙◌, sym, arith}
use Rattle.std.proofs.lemmas.List.Elements.{All-push}
use Rattle.module_split.specs.Homes.{IsLow, homes_after}
use Rattle.module_split.proofs.HomeLaws.{homes_of-more, All-IsLow-more}
use Rattle.module_split.proofs.homes.homes_of.Goals as goal

pub loop-entry-init : goal.loop-entry-init
unfolding homes_after
loop-entry-init c = record { value = c.new-homes.ensures.items; low = rw c.new-homes.ensures.items (λ k d h. absurd (omega arith)) }

pub loop-entry-preserved : goal.loop-entry-preserved
loop-entry-preserved c =
    record {
      value = c.in_ok-push.ensures.items ∙ rw (c.home_of-home.ensures.value, c.deref.ensures.value, c.loop-entry.invariant.value) (sym (homes_of-more c.args.layers c.args.entries.now c.loop-entry.entry-index _ c.loop-entry-test.true));
      low = rw c.in_ok-push.ensures.items (All-push (IsLow c.args.layers) c.loop-entry.homes.items c.home_of-home.result c.loop-entry.invariant.low c.home_of-home.ensures.low);
    }

pub home_of-home-requires-clause-low : goal.home_of-home-requires-clause-low
home_of-home-requires-clause-low c = rw c.deref.ensures.value (All-IsLow-more c.args.layers c.loop-entry.homes.items c.requires.few c.loop-entry.invariant.low)
