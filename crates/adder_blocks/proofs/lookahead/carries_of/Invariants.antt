use Rattle.std.proofs.Common.{◌≡◌, ◌∷◌, map, take}
use Rattle.adder_blocks.proofs.lookahead.carries_of.Given as goal

abbrev pub invariant-loop-cell : goal.invariant-loop-cell
invariant-loop-cell l = l.out.items ≡ l.fn.start ∷ map (λ x. x.generate) (take l.cell-index l.cells)
