use Rattle.std.proofs.Common.{◌*◌, ◌^◌, ◌<◌, ℕ, List, length, map, refl, ap, ◌∙◌, arith}
use Rattle.std.specs.List.{All}
use Rattle.std.specs.List.Sorted.{IsSortedByKey}
use Rattle.std.specs.Ordering.{nat_cmp}
use Rattle.std.specs.Cmp.Lexicographic.{slice_cmp}
use Rattle.std.proofs.lemmas.List.{take_all}
use Rattle.std.proofs.lemmas.List.Sorted.{All-permutation, length_permutation}
use Rattle.bundle_core.specs.Fans.{fan_by, list_at, lists_by}
use Rattle.bundle_core.proofs.FanLaws.{fans-all, fans-sorted, low-more, one-prices, used-more}
use Rattle.bundle_core.proofs.fans.fans_from.Goals as goal

pub bounds-entries-place : goal.bounds-entries-place
bounds-entries-place c =
    let stand : All (λ (k : ℕ). k < length c.args.entries.now) c.deref-place-items.result.now =
    rw c.deref-place-items.ensures.value (All-permutation (λ (k : ℕ). k < length c.args.entries.now) c.args.outs.now c.in_ok-sorted.sorted.items c.in_ok-sorted.ensures.permutation c.requires.stand) in
    stand c.loop-place.place-index 0 c.loop-place-test.true

pub add_used-requires-clause-left : goal.add_used-requires-clause-left
add_used-requires-clause-left c =
    let low : c.loop-place.place-index * 2 ^ 32 < 2 ^ 63 =
    omega (arith, c.loop-place-test.true, c.requires.few, length_permutation c.args.outs.now c.in_ok-sorted.sorted.items c.in_ok-sorted.ensures.permutation, ap length c.deref-place-items.ensures.value) in
    fans-all (c.loop-place.place-index * 2 ^ 32) (2 ^ 63) c.loop-place.fans.items low c.loop-place.invariant.low

pub loop-place-preserved : goal.loop-place-preserved
loop-place-preserved c =
    let stand : All (λ (k : ℕ). k < length c.args.entries.now) c.deref-place-items.result.now =
    rw c.deref-place-items.ensures.value (All-permutation (λ (k : ℕ). k < length c.args.entries.now) c.args.outs.now c.in_ok-sorted.sorted.items c.in_ok-sorted.ensures.permutation c.requires.stand) in
    let up : IsSortedByKey (list_at c.args.users.now) (slice_cmp nat_cmp) c.deref-place-items.result.now = rw c.deref-place-items.ensures.value c.in_ok-sorted.ensures.sorted in
    record {
      same = used-more c.args.table.now c.args.entries.now (list_at c.args.users.now) c.args.from c.deref-place-items.result.now c.loop-place.place-index 0 _ _ c.loop-place.fans.items c.add_used.new.fans.items c.loop-place-test.true up c.users_at.ensures (c.word_prices-prices.ensures.is ∙ one-prices c.args.table.now c.args.entries.now _ _ _ (stand c.loop-place.place-index 0 c.loop-place-test.true) refl) c.loop-place.invariant.same c.in_ok-add_used.ensures;
      low = low-more c.loop-place.place-index c.args.from _ _ c.loop-place.fans.items c.add_used.new.fans.items c.loop-place.invariant.low c.word_prices-prices.ensures.low c.in_ok-add_used.ensures;
    }

pub returns : goal.returns
returns c =
    c.loop-place.invariant.same
    ∙ ap (λ (ks : List ℕ). map (fan_by c.args.table.now c.args.entries.now (list_at c.args.users.now) c.args.from ks) (lists_by (list_at c.args.users.now) ks)) (take_all c.loop-place.place-index c.deref-place-items.result.now c.loop-place-test.false ∙ c.deref-place-items.ensures.value)
    ∙ fans-sorted c.args.table.now c.args.entries.now (list_at c.args.users.now) c.args.from c.args.outs.now c.in_ok-sorted.sorted.items c.in_ok-sorted.ensures.permutation
