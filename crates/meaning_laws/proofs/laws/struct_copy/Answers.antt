use Rattle.meaning_laws.proofs.Cells.{copy_is_told, copy_has_the_cells}
use Rattle.meaning_laws.proofs.laws.struct_copy.Goals as goal

pub returns : goal.returns
returns c = record { told = copy_is_told; cells = copy_has_the_cells }
