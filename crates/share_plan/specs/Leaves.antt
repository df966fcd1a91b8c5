-- How many leaves shapes have, as far as they are counted.
use Rattle.std.specs.Prelude.{◌≡◌, ℕ, ◌<◌, ◌^◌, List, Option, None, get_or, length}
use Rattle.std.specs.List.{flat_map}
use Rattle.hy_bits.specs.declared.scalar.Scalar.{Scalar}
use Rattle.hy_bits.specs.declared.shape.Field as F
use Rattle.hy_bits.specs.Shape.{leaves}
use Rattle.word_graph.specs.declared.entry.Entry.{Entry}
use Rattle.share_plan.specs.Inputs.{input_node}

-- no more are counted
abbrev pub count_limit : ℕ
count_limit = 2 ^ 31

-- the leaves of fields, in order
abbrev pub field_leaves : List F.Field → List Scalar
field_leaves fields = flat_map (λ field. leaves (F.out-Field field).shape) fields

-- for each leaf the node that is its input, as far as the nodes are seen
abbrev pub AreInputNodes : List Entry → List (Option ℕ) → Type 0
AreInputNodes es nodes = (leaf : ℕ) → leaf < length nodes → get_or nodes leaf None ≡ input_node es leaf
