use Rattle.std.proofs.Common.{◌≡◌, length, length-append, refl, ap, ◌∙◌, arith}
use Rattle.std.specs.List.{sum_by}
use Rattle.gate_net.specs.Circuit.{Circuit}
use Rattle.lower_bool.specs.Parts.{bits_at}
use Rattle.lower_bool.specs.Walk.{Part}
use Rattle.lower_bool.proofs.PartLaws.{among-keys, finished-ands, finished-computes, finished-depth, outputs-stand}
use Rattle.lower_bool.proofs.WalkLaws.{distinct-left, inputs-lowered, piece-inner, stand-left, sums-few}
use Rattle.lower_bool.proofs.lowering.raw_part.Goals as goal

pub new-net-requires-clause-few_ins : goal.new-net-requires-clause-few_ins
new-net-requires-clause-few_ins c = omega (arith, c.input_count.ensures, sums-few c.args.graph.now c.args.ins.now, c.requires.piece.few, length-append c.args.ins.now c.args.nodes.now)

pub add_inputs-requires-clause-distinct : goal.add_inputs-requires-clause-distinct
add_inputs-requires-clause-distinct c = distinct-left c.args.ins.now c.args.nodes.now c.requires.piece.distinct

pub add_nodes-requires-clause-piece : goal.add_nodes-requires-clause-piece
add_nodes-requires-clause-piece c = piece-inner c.args.graph.now c.args.nodes.now c.args.ins.now c.args.outs.now c.add_inputs.new.places.keys c.requires.piece c.in_ok-add_inputs.ensures.places

pub add_nodes-requires-clause-lowered : goal.add_nodes-requires-clause-lowered
add_nodes-requires-clause-lowered c =
    let p : Part = record { entries = c.args.graph.now; nodes = c.args.nodes.now; ins = c.args.ins.now; form = c.args.form } in
    let ins : c.new-net.result.ins ≡ sum_by (bits_at c.args.graph.now) c.args.ins.now = ap (λ (m : Circuit). m.ins) c.new-net.ensures ∙ c.input_count.ensures in
    rw c.in_ok-add_inputs.ensures.places (inputs-lowered c.args.graph.now c.requires.graph p refl c.new-net.result c.add_inputs.new.rows ins (stand-left (length c.args.graph.now) c.args.ins.now c.args.nodes.now c.requires.piece.stand) c.in_ok-add_inputs.ensures.rows)

pub set_outs-requires : goal.set_outs-requires
set_outs-requires c = rw c.in_ok-outputs.ensures.items (outputs-stand (record { entries = c.args.graph.now; nodes = c.args.nodes.now; ins = c.add_inputs.new.places.keys; form = c.args.form }) c.add_nodes.new.net c.add_nodes.new.places.keys c.add_nodes.new.rows c.in_ok-add_nodes.ensures.lowered c.args.outs.now (among-keys c.add_inputs.new.places.keys c.args.nodes.now c.add_nodes.new.places.keys c.args.outs.now c.in_ok-add_nodes.ensures.places c.requires.piece.among))

pub returns-clause-computes : goal.returns-clause-computes
returns-clause-computes c =
    rw c.set_outs.ensures (rw c.in_ok-add_inputs.ensures.places at (finished-computes (record { entries = c.args.graph.now; nodes = c.args.nodes.now; ins = c.add_inputs.new.places.keys; form = c.args.form }) c.add_nodes.new.net c.add_nodes.new.places.keys c.add_nodes.new.rows c.in_ok-add_nodes.ensures.lowered c.args.outs.now (among-keys c.add_inputs.new.places.keys c.args.nodes.now c.add_nodes.new.places.keys c.args.outs.now c.in_ok-add_nodes.ensures.places c.requires.piece.among) c.in_ok-outputs.outputs.items c.in_ok-outputs.ensures.items))

pub returns-clause-ands : goal.returns-clause-ands
returns-clause-ands c = λ compact.
    rw c.set_outs.ensures (finished-ands c.args.graph.now c.args.nodes.now c.args.form c.new-net.result c.add_nodes.new.net _ (ap (λ (m : Circuit). m.gates) c.new-net.ensures) c.add_nodes.ensures.grows compact)

pub returns-clause-depth : goal.returns-clause-depth
returns-clause-depth c = λ shallow.
    rw c.set_outs.ensures (finished-depth (record { entries = c.args.graph.now; nodes = c.args.nodes.now; ins = c.add_inputs.new.places.keys; form = c.args.form }) c.add_nodes.new.net c.add_nodes.new.places.keys c.add_nodes.new.rows c.in_ok-add_nodes.ensures.lowered c.args.outs.now (among-keys c.add_inputs.new.places.keys c.args.nodes.now c.add_nodes.new.places.keys c.args.outs.now c.in_ok-add_nodes.ensures.places c.requires.piece.among) c.in_ok-outputs.outputs.items c.in_ok-outputs.ensures.items shallow)
