use Rattle.std.proofs.Common.{◌<◌, ◌∙◌, arith, rules, length, ap, List, get_or}
use Rattle.std.specs.List.{filter}
use Rattle.choice_core.specs.declared.problems.Fan.{Fan}
use Rattle.choice_core.specs.Problems.{touches}
use Rattle.choice_core.proofs.Growth.{touched_length, touched_within, touched_item}
use Rattle.choice_core.proofs.Touched.{numbers_at}
use Rattle.choice_core.proofs.problems.Problem.touching_fan.Goals as goal

pub bounds-numbers-place : goal.bounds-numbers-place
bounds-numbers-place c =
    let p = c.self.inside.costs in
    let number = rw (← c.self.view_is) at c.requires.number in
    let place = rw (← c.self.view_is) at c.requires.place in
    let touching = numbers_at p c.self.inside.touching c.self.inside.following c.self.invariant c.args.number c.as_slice.result.now c.index-as_slice-number.result c.as_slice-numbers.result.now number c.as_slice.ensures c.index-as_slice-number.is c.as_slice-numbers.ensures in
    let size = touched_length p.fans (filter (λ f. touches f c.args.number) p.fans) c.as_slice-numbers.result.now touching in
    omega (arith, size, place)

pub offset_bounds-numbers-place : goal.offset_bounds-numbers-place
offset_bounds-numbers-place c =
    let p = c.self.inside.costs in
    let number = rw (← c.self.view_is) at c.requires.number in
    let place = rw (← c.self.view_is) at c.requires.place in
    let touching = numbers_at p c.self.inside.touching c.self.inside.following c.self.invariant c.args.number c.as_slice.result.now c.index-as_slice-number.result c.as_slice-numbers.result.now number c.as_slice.ensures c.index-as_slice-number.is c.as_slice-numbers.ensures in
    let size = touched_length p.fans (filter (λ f. touches f c.args.number) p.fans) c.as_slice-numbers.result.now touching in
    let below : c.args.place < length c.as_slice-numbers.result.now = omega (arith, size, place) in
    search rules

pub bounds-as_slice-numbers : goal.bounds-as_slice-numbers
bounds-as_slice-numbers c =
    let p = c.self.inside.costs in
    let number = rw (← c.self.view_is) at c.requires.number in
    let place = rw (← c.self.view_is) at c.requires.place in
    let touching = numbers_at p c.self.inside.touching c.self.inside.following c.self.invariant c.args.number c.as_slice.result.now c.index-as_slice-number.result c.as_slice-numbers.result.now number c.as_slice.ensures c.index-as_slice-number.is c.as_slice-numbers.ensures in
    let size = touched_length p.fans (filter (λ f. touches f c.args.number) p.fans) c.as_slice-numbers.result.now touching in
    let inside : c.args.place < length c.as_slice-numbers.result.now = omega (arith, size, place) in
    let within = touched_within p.fans c.args.number c.as_slice-numbers.result.now touching c.args.place inside in
    omega (arith, within, ap length c.as_slice-2.ensures)

pub returns : goal.returns
returns c =
    let p = c.self.inside.costs in
    let number = rw (← c.self.view_is) at c.requires.number in
    let place = rw (← c.self.view_is) at c.requires.place in
    let touching = numbers_at p c.self.inside.touching c.self.inside.following c.self.invariant c.args.number c.as_slice.result.now c.index-as_slice-number.result c.as_slice-numbers.result.now number c.as_slice.ensures c.index-as_slice-number.is c.as_slice-numbers.ensures in
    let size = touched_length p.fans (filter (λ f. touches f c.args.number) p.fans) c.as_slice-numbers.result.now touching in
    let inside : c.args.place < length c.as_slice-numbers.result.now = omega (arith, size, place) in
    let read = c.index-as_slice-numbers.is ∙ ap (λ (fans : List Fan). get_or fans (get_or c.as_slice-numbers.result.now c.args.place 0) c.index-as_slice-numbers.result) c.as_slice-2.ensures in
    rw (← c.self.view_is) ((touched_item p.fans c.args.number c.as_slice-numbers.result.now touching c.args.place inside c.index-as_slice-numbers.result read).1)
