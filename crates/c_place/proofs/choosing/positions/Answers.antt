use Rattle.std.proofs.Common.{◌∙◌}
use Rattle.indexmap.proofs.CallerLemmas.{insert_entry-new}
use Rattle.c_place.specs.contracts.targets.PlacePartialEq.TheImpl as impl
use Rattle.c_place.proofs.TargetLaws.{no_target}
use Rattle.c_place.proofs.TableLaws.{none_from_test, place-again, table-new, table-again}
use Rattle.c_place.proofs.choosing.positions.Goals as goal
use Rattle.c_place.proofs.choosing.positions.Goals.{then-not-contains_key+in_ok-insert, else-not-contains_key}

pub loop-number-preserved : goal.loop-number-preserved
loop-number-preserved c = elim c.if-not-contains_key.branch [
  | then-not-contains_key+in_ok-insert w ↦
      let none = none_from_test _ c.contains_key.result c.contains_key.ensures w.if-not-contains_key.true in
      let entries = w.in_ok-insert.ensures.entries ∙ insert_entry-new (impl.eq-value.it) c.loop-number.table _ c.loop-number.number none in
      rw w.table-is (table-new c.args.list.now c.loop-number.table.entries _ c.loop-number.number no_target c.place-place.result c.loop-number-test.true c.place-place.ensures c.loop-number.invariant entries)
  | else-not-contains_key w ↦
      let here = place-again _ _ c.loop-number.table.entries c.contains_key.result c.loop-number.invariant c.contains_key.ensures w.if-not-contains_key.false in
      rw w.table-is (table-again c.args.list.now c.loop-number.table.entries c.loop-number.number no_target c.place-place.result c.loop-number-test.true c.place-place.ensures here c.loop-number.invariant)
]
