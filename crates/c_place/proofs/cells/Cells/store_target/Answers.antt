use Rattle.std.proofs.Common.{ℕ, List, map, set, ap, ◌∙◌}
use Rattle.c_meaning.specs.declared.values.Cell.{Cell}
use Rattle.c_meaning.specs.declared.values.Cell.TheVariants as cell
use Rattle.word_nodes.specs.Nodes.{AllStand, worths}
use Rattle.word_nodes.proofs.NodeLaws.{Extends-then, Extends-inputs, worth-later, worths-later, AllStand-later}
use Rattle.c_place.specs.Boards.{objects_held, nodes_of}
use Rattle.c_place.specs.Accesses.{cell_at}
use Rattle.c_place.proofs.ReadLaws.{held-cells}
use Rattle.c_place.proofs.TargetLaws.{target-stands, target-room}
use Rattle.c_place.proofs.BoardLaws.{changed-layout, changed-board, changed-objects, objects-chosen, hits-same, cells-worths}
use Rattle.c_place.proofs.PointerLaws.{pointers-kept}
use Rattle.c_place.proofs.cells.Cells.store_target.Goals as goal

pub store_hits-requires-clause-values : goal.store_hits-requires-clause-values
store_hits-requires-clause-values c = AllStand-later c.in_ok-there.ensures.extends _ _ c.requires.values

pub store_hits-requires-clause-room : goal.store_hits-requires-clause-room
store_hits-requires-clause-room c = rw c.take_nodes-cells.ensures.nodes (target-room _ _ c.requires.board c.args.target.now c.requires.lies)

pub store_hits-requires-clause-cells : goal.store_hits-requires-clause-cells
store_hits-requires-clause-cells c = (
  c.requires.lies.0,
  rw c.take_nodes-cells.ensures.nodes (AllStand-later c.in_ok-there.ensures.extends c.requires.lies.0 _ (target-stands _ _ c.requires.board c.args.target.now c.requires.lies)),
  λ k h. rw c.requires.lies.1 at (c.requires.reads.1 k h),
)

pub returns-in_err-store_hits-clause-extends : goal.returns-in_err-store_hits-clause-extends
returns-in_err-store_hits-clause-extends c = Extends-then _ _ _ _ c.in_ok-there.ensures.extends c.in_err-store_hits.ensures.extends

pub returns-clause-extends : goal.returns-clause-extends
returns-clause-extends c = Extends-then _ _ _ _ c.in_ok-there.ensures.extends c.in_ok-store_hits.ensures.extends

pub returns-clause-board : goal.returns-clause-board
returns-clause-board c =
    let lies = c.requires.lies in
    let cells : AllStand c.conjunction.new.graph lies.0 c.take_nodes-cells.result.items = rw c.take_nodes-cells.ensures.nodes (AllStand-later c.in_ok-there.ensures.extends lies.0 _ (target-stands _ _ c.requires.board c.args.target.now lies)) in
    changed-board (Extends-then _ _ _ _ c.in_ok-there.ensures.extends c.in_ok-store_hits.ensures.extends) c.args.self.now c.put_nodes.new.self c.requires.board c.args.target.now.object lies.0 lies.1
    c.take_nodes-cells.ensures.object.0 c.store_hits.new.cells
    (c.in_ok-store_hits.ensures.stands lies.0 cells (λ k h. rw lies.1 at (c.requires.reads.1 k h)))
    (c.put_nodes.ensures.zeros ∙ c.take_nodes-cells.ensures.zeros)
    (rw c.take_nodes-cells.ensures.object.1 at c.put_nodes.ensures.objects)

pub returns-clause-layout : goal.returns-clause-layout
returns-clause-layout c =
    let lies = c.requires.lies in
    let cells : AllStand c.conjunction.new.graph lies.0 c.take_nodes-cells.result.items = rw c.take_nodes-cells.ensures.nodes (AllStand-later c.in_ok-there.ensures.extends lies.0 _ (target-stands _ _ c.requires.board c.args.target.now lies)) in
    changed-layout (Extends-then _ _ _ _ c.in_ok-there.ensures.extends c.in_ok-store_hits.ensures.extends) c.args.self.now c.put_nodes.new.self c.requires.board c.args.target.now.object lies.0 lies.1
    c.take_nodes-cells.ensures.object.0 c.store_hits.new.cells
    (c.in_ok-store_hits.ensures.stands lies.0 cells (λ k h. rw lies.1 at (c.requires.reads.1 k h)))
    (c.put_nodes.ensures.zeros ∙ c.take_nodes-cells.ensures.zeros)
    (rw c.take_nodes-cells.ensures.object.1 at c.put_nodes.ensures.objects)

pub returns-clause-objects : goal.returns-clause-objects
returns-clause-objects c = λ ins fit.
    let lies = c.requires.lies in
    let one = c.in_ok-there.ensures.extends in
    let nodes = nodes_of c.args.self.now c.args.target.now.object in
    let stand = target-stands _ _ c.requires.board c.args.target.now lies in
    let cells : AllStand c.conjunction.new.graph lies.0 c.take_nodes-cells.result.items = rw c.take_nodes-cells.ensures.nodes (AllStand-later one lies.0 _ stand) in
    let objects = objects_held c.args.graph.now ins c.args.self.now in
    changed-objects (Extends-then _ _ _ _ one c.in_ok-store_hits.ensures.extends) c.args.self.now c.put_nodes.new.self c.requires.board c.args.target.now.object lies.0 lies.1
    c.take_nodes-cells.ensures.object.0 c.store_hits.new.cells
    (c.in_ok-store_hits.ensures.stands lies.0 cells (λ k h. rw lies.1 at (c.requires.reads.1 k h)))
    (c.put_nodes.ensures.zeros ∙ c.take_nodes-cells.ensures.zeros)
    (rw c.take_nodes-cells.ensures.object.1 at c.put_nodes.ensures.objects) ins
    ∙ ap (λ (x : List Cell). set objects c.args.target.now.object x)
    (cells-worths c.store_hits.new.graph ins c.store_hits.new.cells.items
    ∙ ap (map (λ (w : ℕ). cell.Int w))
    ((rw c.take_nodes-cells.ensures.nodes at (c.in_ok-store_hits.ensures.value ins (Extends-inputs one ins fit)))
    ∙ hits-same _ _ _ _ c.args.target.now.length _ _ _ _ (cell_at c.args.target.now c.args.offset)
    (c.in_ok-there.ensures.value ins fit)
    (worth-later one ins c.args.target.now.index c.requires.target.index.within)
    (worths-later one ins lies.0 nodes stand)
    (worths-later one ins c.args.widths.now c.args.values.now c.requires.values)))
    ∙ objects-chosen _ objects c.args.target.now.object (worths c.args.graph.now ins nodes) (worths c.args.graph.now ins c.args.values.now) _
    (held-cells c.args.graph.now ins c.args.self.now.objects.items c.args.target.now.object lies.0 lies.1 ∙ cells-worths c.args.graph.now ins nodes)

pub returns-clause-pointers : goal.returns-clause-pointers
returns-clause-pointers c =
    pointers-kept c.args.graph.now c.args.self.now.objects.items c.put_nodes.new.self.objects.items c.args.target.now.object c.requires.lies.0 c.take_nodes-cells.ensures.object.0 c.store_hits.new.cells
    c.requires.lies.1 (rw c.take_nodes-cells.ensures.object.1 at c.put_nodes.ensures.objects)
