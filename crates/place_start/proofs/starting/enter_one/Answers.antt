use Rattle.std.proofs.Common.{refl}
use Rattle.c_place.specs.declared.cells.Held.TheVariants as held
use Rattle.place_start.proofs.starting.enter_one.Goals as goal

pub returns-in_ok-push-in-Some-clause-objects : goal.returns-in_ok-push-in-Some-clause-objects
returns-in_ok-push-in-Some-clause-objects c =
    (held.Words c.in_ok-from_slice.field-0, c.in_ok-from_slice.ensures.items, rw c.in-Some.is (record { null = c.args.zeros.w1; list = c.push.new.self }, refl, rw c.new-list.ensures.items at c.in_ok-push-in-Some.ensures.items, refl))

pub returns-in-None-clause-objects : goal.returns-in-None-clause-objects
returns-in-None-clause-objects c = (held.Words c.in_ok-from_slice.field-0, c.in_ok-from_slice.ensures.items, rw c.in-None.is refl)
