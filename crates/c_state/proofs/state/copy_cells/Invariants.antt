use Rattle.std.proofs.Common.{◌≡◌, ◌-◌, ◌+◌, ◌++◌}
use Rattle.c_meaning.specs.State.{cells_from}
use Rattle.c_state.proofs.state.copy_cells.Given as goal

-- the cells so far, and those that are left
abbrev pub invariant-loop-number : goal.invariant-loop-number
invariant-loop-number l = l.copy.items ++ cells_from (l.count - l.number) (l.at + l.number) l.cells ≡ cells_from l.count l.at l.cells
