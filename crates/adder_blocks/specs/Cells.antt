-- Cells of a look-ahead: what a place of a sum, or several places, do to a carry.
use Rattle.std.specs.Prelude.{ℕ, suc, ◌≤◌, Bool, ◌&&◌, List, [], ◌∷◌}
use Rattle.hy_bits.specs.Bits.{xor, next_carry}
use Rattle.gate_net.specs.Circuit.{Circuit, Stands}
use Rattle.gate_net.specs.Meaning.{value, level}
use Rattle.adder_blocks.specs.declared.lookahead.Cell.{Cell}

-- both literals of the cell stand
abbrev pub CellStands : Circuit → Cell → Type 0
CellStands n x = Stands n x.generate × Stands n x.propagate

-- the cell propagates at level p at most and generates at most one above it
abbrev pub CellWithin : Circuit → ℕ → Cell → Type 0
CellWithin n p x = (level n x.generate ≤ suc p) × (level n x.propagate ≤ p)

-- the carry that the cell makes of a carry
abbrev pub carried : Circuit → List Bool → Bool → Cell → Bool
carried n bits c x = xor (value n bits x.generate) (value n bits x.propagate && c)

-- the carries after each of the cells, the first of which takes the carry c
abbrev pub carries : Circuit → List Bool → List Cell → Bool → List Bool
carries n bits [] c = []
carries n bits (x ∷ xs) c = carried n bits c x ∷ carries n bits xs (carried n bits c x)

-- the carry after all of them
abbrev pub carry_after : Circuit → List Bool → List Cell → Bool → Bool
carry_after n bits [] c = c
carry_after n bits (x ∷ xs) c = carry_after n bits xs (carried n bits c x)

-- the carries out of the places of a sum
abbrev pub carries_out : Bool → List Bool → List Bool → List Bool
carries_out c [] ys = []
carries_out c (x ∷ xs) [] = []
carries_out c (x ∷ xs) (y ∷ ys) = next_carry x y c ∷ carries_out (next_carry x y c) xs ys

-- the carries into them
abbrev pub carries_into : Bool → List Bool → List Bool → List Bool
carries_into c [] ys = []
carries_into c (x ∷ xs) [] = []
carries_into c (x ∷ xs) (y ∷ ys) = c ∷ carries_into (next_carry x y c) xs ys
