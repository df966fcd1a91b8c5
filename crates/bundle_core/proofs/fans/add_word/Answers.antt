use Rattle.std.proofs.Common.{◌≡◌, length, sym, ◌∙◌, rules}
use Rattle.bundle_core.proofs.FanLaws.{more-last, more-new}
use Rattle.bundle_core.proofs.fans.add_word.Goals as goal

pub returns-then-ends_at : goal.returns-then-ends_at
returns-then-ends_at c =
    let count : c.len-last.result ≡ length c.args.fans.now.items = search rules in
    let ends = rw c.deref.ensures.value at c.if-ends_at.ensures in
    more-last c.args.from c.args.to.now c.args.prices.now c.plus-fan.result c.args.fans.now.items c.len-last.result _ c.index_mut-fan.result.now count (sym ends) c.index_mut-fan.ensures.value c.plus-fan.ensures

pub returns-in_ok-push : goal.returns-in_ok-push
returns-in_ok-push c =
    let ends = rw c.deref.ensures.value at c.if-ends_at.ensures in
    c.in_ok-push.ensures.items ∙ rw (c.new-to.ensures, c.in_ok-from_slice.ensures.items) (more-new c.args.from c.args.to.now c.args.prices.now c.args.fans.now.items (sym ends))
