use Rattle.std.proofs.Common.{◌<◌, ℕ, length, sym, ◌∙◌, subst}
use Rattle.std.specs.List.{All}
use Rattle.module_split.specs.declared.module.Module.{Module}
use Rattle.bundle_core.specs.Fans.{list_at}
use Rattle.bundle_core.proofs.FanLaws.{fans-end, fans-keyed, fans-more, users-agree}
use Rattle.bundle_core.proofs.fans.fans_of.Goals as goal

pub loop-number-preserved : goal.loop-number-preserved
loop-number-preserved c =
    let low : All (λ (k : ℕ). k < length c.args.entries.now) c.index-list-number.result.outs =
    subst (λ (m : Module). All (λ (k : ℕ). k < length c.args.entries.now) m.outs) (sym c.index-list-number.is) (c.requires.outs c.loop-number.number c.index-list-number.result c.loop-number-test.true) in
    let agree = users-agree c.args.list.now (length c.args.entries.now) c.in_ok-users.users.items c.index-list-number.result.outs c.in_ok-users.ensures low in
    let made = rw (c.deref.ensures.value, c.as_slice-outs.ensures) at c.in_ok-own.ensures in
    fans-more c.args.table.now c.args.entries.now c.args.list.now c.loop-number.number c.index-list-number.result c.loop-number.fans.items c.in_ok-own.own.items c.append.new.self.items c.loop-number-test.true c.index-list-number.is c.loop-number.invariant
    (made ∙ fans-keyed c.args.table.now c.args.entries.now c.args.list.now (list_at c.in_ok-users.users.items) c.loop-number.number c.index-list-number.result.outs agree)
    c.in_ok-append.ensures.items

pub returns : goal.returns
returns c = c.loop-number.invariant ∙ fans-end c.args.table.now c.args.entries.now c.args.list.now c.loop-number.number c.loop-number-test.false
