-- Where each node of a graph belongs: its class, its layer and its group.
use Rattle.std.specs.Prelude.{◌==◌, ℕ, ◌+◌, ◌-◌, ◌<◌, max, min, Bool, true, false, ◌&&◌, List, [], ◌∷◌, ◌++◌, Option, Some, None, get_or, map, nat_le, if◌then◌else◌}
use Rattle.std.specs.List.{fold}
use Rattle.hy_bits.specs.declared.op.Op.{Op}
use Rattle.hy_bits.specs.declared.op.Op.TheVariants.{In, Const, Add, Sub, Mul, Neg, Trunc}
use Rattle.hy_bits.specs.Words.{bits}
use Rattle.word_graph.specs.declared.entry.Entry.{Entry}
use Rattle.word_graph.specs.Term.{taken_by}
use Rattle.module_split.specs.declared.homes.Group.{Group}
use Rattle.module_split.specs.declared.homes.Home.{Home}
use Rattle.module_split.specs.declared.homes.Home.TheVariants.{Input, Constant, Inside}

-- both are true or both are false
abbrev pub same_bit : Bool → Bool → Bool
same_bit true b = b
same_bit false true = false
same_bit false false = true

-- the home of the node at a place
abbrev pub home_at : List Home → ℕ → Home
home_at homes k = get_or homes k Constant

-- ---- classes: the arithmetic class has sums, differences, products and negatives, and the cuts of its own nodes and of
-- inputs, all of at least 8 bits. All other nodes are of the Boolean class

-- an input, or a node of the arithmetic class
abbrev pub is_arithmetic : Home → Bool
is_arithmetic Input = true
is_arithmetic Constant = false
is_arithmetic (Inside group) = group.ring

-- an operation of the arithmetic class, where its first argument has this home
abbrev pub is_ring_operation : Op → Home → Bool
is_ring_operation Add first = true
is_ring_operation Sub first = true
is_ring_operation Mul first = true
is_ring_operation Neg first = true
is_ring_operation Trunc first = is_arithmetic first
is_ring_operation _ first = false

abbrev pub is_ring : List Home → Entry → Bool
is_ring homes e = nat_le 8 (bits e.width) && is_ring_operation e.op (home_at homes (get_or e.args 0 0))

-- ---- layers

-- the layer of a node of this class and region over a node of this home: that node's, or one more where its class or
-- its region differs; over an input or a constant the lowest
abbrev pub layer_over : Bool → ℕ → Home → ℕ
layer_over ring region Input = 0
layer_over ring region Constant = 0
layer_over ring region (Inside group) = if same_bit group.ring ring && group.region == region then group.layer else group.layer + 1

-- the greatest of these over the arguments, but at most the last layer
abbrev pub layer_of : ℕ → List Home → Entry → ℕ
layer_of layers homes e = min (layers - 1) (fold max 0 (map (λ k. layer_over (is_ring homes e) e.region (home_at homes k)) (taken_by e)))

-- ---- homes

abbrev pub home_of_operation : Op → Group → Home
home_of_operation In group = Input
home_of_operation Const group = Constant
home_of_operation _ group = Inside group

-- the home of a node over the homes of the nodes before it
abbrev pub home_of : ℕ → List Home → Entry → Home
home_of layers homes e = home_of_operation e.op (record { ring = is_ring homes e; layer = layer_of layers homes e; region = e.region })

-- the homes of all nodes, after further ones
unfoldable pub homes_after : ℕ → List Home → List Entry → List Home
homes_after layers homes [] = homes
homes_after layers homes (e ∷ es) = homes_after layers (homes ++ home_of layers homes e ∷ []) es

abbrev pub homes_of : ℕ → List Entry → List Home
homes_of layers es = homes_after layers [] es

-- ---- groups: the nodes of one layer, class and region, and all nodes of the last layer

abbrev pub group_of : ℕ → Home → Option Group
group_of layers Input = None
group_of layers Constant = None
group_of layers (Inside group) = Some (if group.layer == layers - 1 then record { ring = false; layer = group.layer; region = 0 } else group)

-- the group of each node
abbrev pub groups_of : ℕ → List Entry → List (Option Group)
groups_of layers es = map (group_of layers) (homes_of layers es)

-- the homes lie in layers below this number
abbrev pub IsLow : ℕ → Home → Type 0
IsLow layers Input = Unit {0}
IsLow layers Constant = Unit {0}
IsLow layers (Inside group) = group.layer < layers

-- the same of the group of a node that has one
abbrev pub IsLowGroup : ℕ → Option Group → Type 0
IsLowGroup layers None = Unit {0}
IsLowGroup layers (Some group) = group.layer < layers
