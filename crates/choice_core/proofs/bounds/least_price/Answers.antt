use Rattle.std.proofs.Common.{refl, arith, length}
use Rattle.choice_core.specs.Bound.{least_price}
use Rattle.choice_core.proofs.Steps.{first_next}
use Rattle.choice_core.proofs.bounds.least_price.Goals as goal

pub bounds-rows-fan : goal.bounds-rows-fan
bounds-rows-fan c = let first = first_next c.args.fan.now.from (length c.args.rows.now) c.args.fan.now.to c.requires.some c.requires.ascends in omega (arith, first.1, first.2)

pub bounds-rows-as_slice : goal.bounds-rows-as_slice
bounds-rows-as_slice c =
    let first = first_next c.args.fan.now.from (length c.args.rows.now) c.args.fan.now.to c.requires.some c.requires.ascends in
    rw c.as_slice.ensures first.2

pub returns : goal.returns
unfolding least_price
returns c =
    let h1 = rw c.as_slice.ensures at c.least_from.ensures in
    let h2 = rw c.as_slice.ensures at c.least_from-2.ensures in
    let h3 = rw c.as_slice.ensures at c.least_from-3.ensures in
    let h4 = rw c.as_slice.ensures at c.least_from-4.ensures in
    rw (c.unwrap_or.ensures, c.least.ensures, h1, h2, h3, h4) refl
