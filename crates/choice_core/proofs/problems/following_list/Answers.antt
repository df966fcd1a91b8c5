use Rattle.std.proofs.Common.{◌∙◌, ◌+◌, sym, arith, length, length-set, get_or, refl}
use Rattle.std.specs.List.{filter}
use Rattle.choice_core.specs.Problems.{touches}
use Rattle.choice_core.proofs.Growth.{next_within, touched_within, touched_item}
use Rattle.choice_core.proofs.Followed.{fan_at, marked_none, marked_idle, marked_more}
use Rattle.choice_core.proofs.problems.following_list.Goals as goal
use Rattle.choice_core.proofs.problems.following_list.Goals.{in-Some+in_ok-add_once, in_default}

pub loop-place-init : goal.loop-place-init
loop-place-init c = record {
  size = refl;
  marked = rw (c.new-list.ensures, c.new.ensures.items) (marked_none c.args.number c.args.marks.now c.requires.marks);
}

pub bounds-fans-place : goal.bounds-fans-place
bounds-fans-place c = touched_within c.args.fans.now c.args.number c.args.touching.now c.requires.touching c.loop-place.place-index c.loop-place-test.true

pub add_once-requires-clause-within : goal.add_once-requires-clause-within
add_once-requires-clause-within c =
    let within = touched_within c.args.fans.now c.args.number c.args.touching.now c.requires.touching c.loop-place.place-index c.loop-place-test.true in
    let fan = fan_at (length c.args.marks.now) c.args.fans.now c.requires.fans (get_or c.args.touching.now c.loop-place.place-index 0) c.index-fans-place.result within c.index-fans-place.is in
    let below = next_within (c.args.number + 1) c.index-fans-place.result.to c.index-fans-place.result.from (length c.args.marks.now) c.in-Some.next fan.ascends (sym c.in-Some.ensures.is) in
    omega (arith, below.1, c.loop-place.invariant.size)

pub loop-place-preserved : goal.loop-place-preserved
loop-place-preserved c =
    let fans = filter (λ f. touches f c.args.number) c.args.fans.now in
    let item = c.index-fans-place.result in
    let marked = c.loop-place.invariant.marked in
    let size = c.loop-place.invariant.size in
    let read = touched_item c.args.fans.now c.args.number c.args.touching.now c.requires.touching c.loop-place.place-index c.loop-place-test.true item c.index-fans-place.is in
    let within = touched_within c.args.fans.now c.args.number c.args.touching.now c.requires.touching c.loop-place.place-index c.loop-place-test.true in
    let fan = fan_at (length c.args.marks.now) c.args.fans.now c.requires.fans (get_or c.args.touching.now c.loop-place.place-index 0) item within c.index-fans-place.is in
    elim c.match-next_from.branch [
      | in-Some+in_ok-add_once w ↦ (
          let below = next_within (c.args.number + 1) item.to item.from (length c.args.marks.now) w.in-Some.next fan.ascends (sym w.in-Some.ensures.is) in
          let more = marked_more c.args.number fans c.loop-place.place-index item c.loop-place.marks c.loop-place.list w.add_once.new.list w.in-Some.next read.0 read.1 (sym w.in-Some.ensures.is) (omega (arith, below.1, size)) marked w.in_ok-add_once.ensures.list in
          rw (w.marks-is, w.list-is, w.in_ok-add_once.ensures.marks) (record { size = length-set _ _ _ ∙ size; marked = more }))
      | in_default w ↦ rw (w.marks-is, w.list-is) (record { size = size; marked = marked_idle c.args.number fans c.loop-place.place-index item c.loop-place.marks c.loop-place.list read.0 read.1 (sym c.next_from.ensures.is ∙ w.in_default.is) marked })
    ]
