use Rattle.std.proofs.Common.{◌==◌, List, slice_get, ap, ◌∙◌}
use Rattle.word_nodes.specs.Nodes.{worth}
use Rattle.c_place.specs.declared.cells.Held.{Held}
use Rattle.c_place.specs.declared.cells.Held.TheVariants as held
use Rattle.c_place.specs.Aims.{address}
use Rattle.c_place.specs.Boards.{layout, list_in}
use Rattle.c_place.proofs.PointerLaws.{pointer-within, board-pointer, lies-through, get-set-other, pointed-targets, pointed-layout, pointed-board, pointed-objects}
use Rattle.c_place.proofs.cells.Cells.set_pointer.Goals as goal

pub choose-requires-clause-second : goal.choose-requires-clause-second
choose-requires-clause-second c = (board-pointer c.args.graph.now c.args.self.now c.args.object c.pointer-before.result.now c.requires.board c.pointer-before.ensures).0

pub put_pointer-requires : goal.put_pointer-requires
put_pointer-requires c = pointer-within c.args.self.now.objects.items c.args.object c.pointer-before.result.now c.pointer-before.ensures

pub returns-clause-board : goal.returns-clause-board
returns-clause-board c =
    let old = board-pointer c.args.graph.now c.args.self.now c.args.object c.pointer-before.result.now c.requires.board c.pointer-before.ensures in
    pointed-board c.in_ok-targets.ensures.extends c.args.self.now c.put_pointer.new.self c.requires.board c.args.object c.pointer-before.result.now c.in_ok-targets.targets
    c.pointer-before.ensures c.put_pointer.ensures.objects c.in_ok-targets.ensures.pointer
    (lies-through (layout c.args.graph.now c.args.self.now) c.args.to.now.list.items c.pointer-before.result.now.list.items c.in_ok-targets.targets.list.items c.requires.within old.1 c.in_ok-targets.ensures.places)
    c.put_pointer.ensures.zeros

pub returns-clause-layout : goal.returns-clause-layout
returns-clause-layout c =
    pointed-layout c.in_ok-targets.ensures.extends c.args.self.now c.put_pointer.new.self c.requires.board c.args.object c.pointer-before.result.now c.in_ok-targets.targets
    c.pointer-before.ensures c.put_pointer.ensures.objects

pub returns-clause-objects : goal.returns-clause-objects
returns-clause-objects c = λ ins fit.
    pointed-objects c.in_ok-targets.ensures.extends c.args.self.now c.put_pointer.new.self c.requires.board c.args.object c.pointer-before.result.now c.in_ok-targets.targets
    c.pointer-before.ensures c.put_pointer.ensures.objects ins (worth c.args.graph.now ins c.args.guard == 1) (address c.args.graph.now ins c.args.to.now) (c.in_ok-targets.ensures.value ins fit)

pub returns-clause-places : goal.returns-clause-places
returns-clause-places c =
    let now = pointed-targets c.in_ok-targets.ensures.extends c.args.self.now c.put_pointer.new.self c.requires.board c.args.object c.pointer-before.result.now c.in_ok-targets.targets
    c.pointer-before.ensures c.put_pointer.ensures.objects in
    rw (now, ap list_in c.pointer-before.ensures) c.in_ok-targets.ensures.places

pub returns-clause-apart : goal.returns-clause-apart
returns-clause-apart c =
    let now = pointed-targets c.in_ok-targets.ensures.extends c.args.self.now c.put_pointer.new.self c.requires.board c.args.object c.pointer-before.result.now c.in_ok-targets.targets
    c.pointer-before.ensures c.put_pointer.ensures.objects in
    rw (now, ap list_in c.pointer-before.ensures) c.in_ok-targets.ensures.apart

pub returns-clause-others : goal.returns-clause-others
returns-clause-others c = λ k apart.
    ap (λ (hs : List Held). slice_get hs k) c.put_pointer.ensures.objects ∙ get-set-other c.args.self.now.objects.items c.args.object k (held.Pointer c.in_ok-targets.targets) apart
