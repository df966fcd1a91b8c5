use Rattle.std.proofs.Common.{◌≡◌, ℕ, ◌+◌, ◌<◌, Some, length, slice_get, List, inl, inr, refl, sym, ◌∙◌, arith, rules, None}
use Rattle.std.specs.Bool.{Decides}
use Rattle.std.specs.List.{Contains}
use Rattle.std.specs.Map.{lookup}
use Rattle.gate_net.specs.declared.literal.Gate.{Gate}
use Rattle.gate_net.specs.contracts.literal.GatePartialEq.TheImpl as impl
use Rattle.gate_net.specs.Shape.{IsTableOf}
use Rattle.gate_net.proofs.TableLaws.{IsTableOf-found, IsTableOf-missed, IsTableOf-push, Contains-slice_get, slice_get-within, slice_get-push}
use Rattle.gate_net.proofs.CircuitLaws.{IsCircuit-with_gate}
use Rattle.indexmap.proofs.CallerLemmas.{insert_entry-new}
use Rattle.gate_net.proofs.netlist.Net.shared.Goals as goal

decides : (gate g : Gate) → Decides (impl.eq-value.it gate g) (gate ≡ g)
decides gate g = search rules

found : (gate : Gate) (gates : List Gate) (entries : List (Gate × ℕ)) (k : ℕ) → IsTableOf gates entries → lookup (impl.eq-value.it gate) entries ≡ Some k → slice_get gates k ≡ Some gate
found gate = IsTableOf-found (impl.eq-value.it gate) gate (decides gate)

missed : (gate : Gate) (gates : List Gate) (entries : List (Gate × ℕ)) → IsTableOf gates entries → lookup (impl.eq-value.it gate) entries ≡ None → ¬ Contains gates gate
missed gate = IsTableOf-missed (impl.eq-value.it gate) gate (decides gate)

pub overflow_add-self-inside : goal.overflow_add-self-inside
overflow_add-self-inside c =
    let at = found c.args.gate c.self.inside.gates.items c.self.inside.table.entries c.in-Some.place.now c.self.invariant.1 (sym c.in-Some.ensures.value) in
    let within = slice_get-within c.self.inside.gates.items c.in-Some.place.now c.args.gate at in
    let few : c.self.inside.ins + c.in-Some.place.now < 2147483647 = omega (arith, c.self.invariant.0.gates, c.self.invariant.0.ins_limit, c.self.invariant.0.budget_limit) in
    omega arith

pub of_variable-requires : goal.of_variable-requires
of_variable-requires c =
    let at = found c.args.gate c.self.inside.gates.items c.self.inside.table.entries c.in-Some.place.now c.self.invariant.1 (sym c.in-Some.ensures.value) in
    let within = slice_get-within c.self.inside.gates.items c.in-Some.place.now c.args.gate at in
    omega (arith, c.self.invariant.0.gates, c.self.invariant.0.ins_limit, c.self.invariant.0.budget_limit)

pub returns-in-Some-clause-gates : goal.returns-in-Some-clause-gates
returns-in-Some-clause-gates c =
    let at = found c.args.gate c.self.inside.gates.items c.self.inside.table.entries c.in-Some.place.now c.self.invariant.1 (sym c.in-Some.ensures.value) in
    rw (← c.self.view_is) (inl (Contains-slice_get c.self.inside.gates.items c.in-Some.place.now c.args.gate at, refl))

pub returns-in-Some-clause-answer : goal.returns-in-Some-clause-answer
returns-in-Some-clause-answer c =
    let at = found c.args.gate c.self.inside.gates.items c.self.inside.table.entries c.in-Some.place.now c.self.invariant.1 (sym c.in-Some.ensures.value) in
    rw (← c.self.view_is) (c.in-Some.place.now, at, c.of_variable.ensures)

pub returns-in-Some-clause-limit : goal.returns-in-Some-clause-limit
returns-in-Some-clause-limit c =
    let at = found c.args.gate c.self.inside.gates.items c.self.inside.table.entries c.in-Some.place.now c.self.invariant.1 (sym c.in-Some.ensures.value) in
    rw (← c.self.view_is) (λ p. p.0 (Contains-slice_get c.self.inside.gates.items c.in-Some.place.now c.args.gate at))

pub returns-then-place-self-clause-limit : goal.returns-then-place-self-clause-limit
returns-then-place-self-clause-limit c =
    let absent = missed c.args.gate c.self.inside.gates.items c.self.inside.table.entries c.self.invariant.1 (sym c.in_default.ensures.value) in
    let full : length c.self.inside.gates.items ≡ c.self.inside.budget = search rules in
    rw (← c.self.view_is) ((absent, full), refl)

pub invariant_of-self-in-Ok : goal.invariant_of-self-in-Ok
invariant_of-self-in-Ok c =
    let ordered = rw (← c.self.view_is) at c.requires in
    let room : length c.self.inside.gates.items < c.self.inside.budget = search rules in
    let circuit = IsCircuit-with_gate (record { ins = c.self.inside.ins; gates = c.self.inside.gates.items; outs = c.self.inside.outs.items; budget = c.self.inside.budget }) c.args.gate c.self.invariant.0 ordered room in
    let entries = c.in-Ok.ensures.entries ∙ insert_entry-new (impl.eq-value.it) c.self.inside.table c.args.gate c.len-place.result (sym c.in_default.ensures.value) in
    let place : c.len-place.result ≡ length c.self.inside.gates.items = search rules in
    rw (c.in_ok-push.ensures.items, entries) (circuit, IsTableOf-push c.self.inside.gates.items c.self.inside.table.entries c.args.gate c.len-place.result place c.self.invariant.1)

pub returns-in-Ok-clause-gates : goal.returns-in-Ok-clause-gates
returns-in-Ok-clause-gates c =
    let absent = missed c.args.gate c.self.inside.gates.items c.self.inside.table.entries c.self.invariant.1 (sym c.in_default.ensures.value) in
    rw (← c.self.view_is, c.in_ok-push.ensures.items) (inr (absent, refl))

pub returns-in-Ok-clause-answer : goal.returns-in-Ok-clause-answer
returns-in-Ok-clause-answer c =
    let place : c.len-place.result ≡ length c.self.inside.gates.items = search rules in
    rw c.in_ok-push.ensures.items (length c.self.inside.gates.items, slice_get-push c.self.inside.gates.items c.args.gate, omega (arith, c.of_variable-in-Ok.ensures))

pub returns-in-Ok-clause-circuit : goal.returns-in-Ok-clause-circuit
returns-in-Ok-clause-circuit c =
    let ordered = rw (← c.self.view_is) at c.requires in
    let room : length c.self.inside.gates.items < c.self.inside.budget = search rules in
    let circuit = IsCircuit-with_gate (record { ins = c.self.inside.ins; gates = c.self.inside.gates.items; outs = c.self.inside.outs.items; budget = c.self.inside.budget }) c.args.gate c.self.invariant.0 ordered room in
    rw c.in_ok-push.ensures.items circuit
