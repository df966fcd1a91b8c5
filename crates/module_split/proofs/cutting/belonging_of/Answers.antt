use Rattle.std.proofs.Common.{arith}
use Rattle.module_split.proofs.CutLaws.{IsBelonging-made, length-groups}
use Rattle.module_split.proofs.cutting.belonging_of.Goals as goal

pub order_of-requires-clause-limit : goal.order_of-requires-clause-limit
order_of-requires-clause-limit c =
    rw c.deref-2.ensures.value
    (omega (arith, length-groups c.args.entries.now c.args.layers c.in_ok-homes.homes.items c.in_ok-groups.groups.items c.in_ok-homes.ensures.homes (rw c.deref.ensures.value at c.in_ok-groups.ensures.groups)))

pub returns : goal.returns
returns c =
    IsBelonging-made c.args.entries.now c.args.layers c.in_ok-groups.groups.items _ c.requires.limit c.requires.few c.in_ok-homes.ensures.homes
    (rw c.deref.ensures.value at c.in_ok-groups.ensures.groups)
    (rw c.deref-2.ensures.value at c.in_ok-order.ensures)
    (rw c.deref-3.ensures.value at c.in_ok-numbers.ensures)
