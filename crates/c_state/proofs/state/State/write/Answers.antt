use Rattle.std.proofs.Common.{◌<◌, ap, List, arith, length}
use Rattle.c_meaning.specs.declared.values.Cell.{Cell}
use Rattle.c_meaning.specs.State as meaning
use Rattle.c_state.specs.Views.{cells_in}
use Rattle.c_state.proofs.Objects.{object_changed}
use Rattle.c_state.proofs.state.State.write.Goals as goal

pub returns-then-object-len : goal.returns-then-object-len
returns-then-object-len c =
    let h : c.args.object < length c.args.self.now.objects.items = omega (arith, c.if-object-len.true, c.len.ensures) in
    ap (λ (objects : List meaning.Stored). let s : meaning.State = record { objects = objects; returned = cells_in c.args.self.now.returned; undefined = c.args.self.now.undefined } in s)
    (object_changed (λ (s : meaning.Stored). let t : meaning.Stored = record { life = s.life; cells = meaning.overwritten s.cells c.args.at (cells_in c.args.value.now) } in t) c.args.self.now.objects.items c.args.object c.index_mut.result.now (record { life = c.index_mut.result.now.life; cells = c.overwrite.new.cells }) h c.index_mut.ensures.value (ap (λ (cells : List Cell). let t : meaning.Stored = record { life = c.index_mut.result.now.life; cells = cells } in t) c.overwrite.ensures))
