use Rattle.std.proofs.Common.{◌≡◌, drop}
use Rattle.c_meaning.specs.State.{overwritten}
use Rattle.c_state.proofs.state.put_all.Given as goal

-- the values that are left give the cells after all of them
abbrev pub invariant-loop-value : goal.invariant-loop-value
invariant-loop-value l = overwritten l.cells.items l.next (drop l.value-index l.values) ≡ overwritten l.fn.cells.items l.fn.at l.values
