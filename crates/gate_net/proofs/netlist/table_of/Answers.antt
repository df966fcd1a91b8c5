use Rattle.std.proofs.Common.{◌≡◌, ℕ, Some, None, take, List, refl, ◌∙◌, rules, Bool, Option, is_some, true, false}
use Rattle.std.specs.Bool.{Decides}
use Rattle.std.specs.List.{Contains}
use Rattle.std.specs.Map.{lookup}
use Rattle.gate_net.specs.declared.literal.Gate.{Gate}
use Rattle.gate_net.specs.contracts.literal.GatePartialEq.TheImpl as impl
use Rattle.gate_net.specs.Shape.{IsTableOf}
use Rattle.gate_net.proofs.TableLaws.{IsTableOf-found, Contains-slice_get}
use Rattle.indexmap.proofs.CallerLemmas.{insert_entry-new}
use Rattle.gate_net.proofs.LoopLaws.{table-new, table-again}
use Rattle.gate_net.proofs.netlist.table_of.Goals as goal
use Rattle.gate_net.proofs.netlist.table_of.Goals.{then-not-contains_key+in_ok-insert, else-not-contains_key}

none_from_test : (o : Option ℕ) (b : Bool) → b ≡ is_some o → b ≡ false → o ≡ None
none_from_test None b e f = refl
none_from_test (Some k) b e f = absurd (cc)

some_from_test : (o : Option ℕ) (b : Bool) → b ≡ is_some o → b ≡ true → (k : ℕ) × (o ≡ Some k)
some_from_test None b e f = absurd (cc)
some_from_test (Some k) b e f = (k, refl)

decides : (gate g : Gate) → Decides (impl.eq-value.it gate g) (gate ≡ g)
decides gate g = search rules

again : (gate : Gate) (gates : List Gate) (entries : List (Gate × ℕ)) (b : Bool) → IsTableOf gates entries → b ≡ is_some (lookup (impl.eq-value.it gate) entries) → b ≡ true → Contains gates gate
again gate gates entries b t e f =
    let s = some_from_test (lookup (impl.eq-value.it gate) entries) b e f in
    Contains-slice_get gates s.0 gate (IsTableOf-found (impl.eq-value.it gate) gate (decides gate) gates entries s.0 t s.1)

pub loop-place-preserved : goal.loop-place-preserved
loop-place-preserved c = elim c.if-not-contains_key.branch [
  | then-not-contains_key+in_ok-insert w ↦
      let none = none_from_test _ c.contains_key.result c.contains_key.ensures w.if-not-contains_key.true in
      let entries = w.in_ok-insert.ensures.entries ∙ insert_entry-new (impl.eq-value.it) c.loop-place.table _ c.loop-place.place none in
      rw w.table-is (table-new c.args.gates.now c.loop-place.table.entries _ c.loop-place.place _ c.loop-place-test.true c.loop-place.invariant entries)
  | else-not-contains_key w ↦
      let here = again _ (take c.loop-place.place c.args.gates.now) c.loop-place.table.entries c.contains_key.result c.loop-place.invariant c.contains_key.ensures w.if-not-contains_key.false in
      rw w.table-is (table-again c.args.gates.now c.loop-place.table.entries c.loop-place.place _ c.loop-place-test.true here c.loop-place.invariant)
]
