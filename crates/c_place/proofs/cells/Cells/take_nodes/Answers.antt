use Rattle.std.proofs.Common.{ap, set}
use Rattle.c_place.specs.declared.cells.Board.{Board}
use Rattle.c_place.proofs.cells.Cells.take_nodes.Goals as goal

pub returns-clause-object : goal.returns-clause-object
returns-clause-object c = (c.replace-held.new.dest, ap (λ (b : Board). set b.objects.items c.args.object c.replace-held.new.dest) c.self.view_is)
