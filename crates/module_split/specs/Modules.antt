-- What is true of each module of a cut, of all of them together, and of their order.
use Rattle.std.specs.Prelude.{◌≡◌, ◌⊎◌, ℕ, ◌*◌, ◌<◌, ◌≤◌, Bool, true, false, List, ◌++◌, Option, Some, None, filter, get_or, length, slice_get, take}
use Rattle.std.specs.List.{All, Contains, sum_by}
use Rattle.hy_bits.specs.declared.op.Op.{Op}
use Rattle.hy_bits.specs.declared.op.Op.TheVariants.{In, Const}
use Rattle.word_graph.specs.declared.entry.Entry.{Entry}
use Rattle.word_graph.specs.declared.entry.Node.{Node}
use Rattle.word_graph.specs.Shape.{constant_at, node_limit}
use Rattle.word_graph.specs.Term.{arity}
use Rattle.module_split.specs.declared.module.Module.{Module}
use Rattle.module_split.specs.Cut.{below, cut_of}
use Rattle.module_split.specs.Steps.{IsDistinct}

-- the most layers of a cut
abbrev pub layer_limit : ℕ
layer_limit = 64

-- the module is one of the cut of a graph for some results, which stand in it, and some number of layers
pub record IsModuleOf (es : List Entry) (part : Module) : Type 0 where
  pub results : List Node
  pub layers : ℕ
  pub some : 0 < layers
  pub few : layers ≤ layer_limit
  pub stand : All (λ node. node.index < length es) results
  pub cut : Contains (cut_of es results layers).list part

-- ---- nodes that lie in modules: all but inputs and constants

abbrev pub is_inner_op : Op → Bool
is_inner_op In = false
is_inner_op Const = false
is_inner_op _ = true

abbrev pub is_inner_entry : Option Entry → Bool
is_inner_entry None = false
is_inner_entry (Some e) = is_inner_op e.op

abbrev pub is_inner : List Entry → ℕ → Bool
is_inner es k = is_inner_entry (slice_get es k)

-- the node at a place is an input
abbrev pub IsInput : List Entry → ℕ → Type 0
IsInput es k = (e : Entry) × (slice_get es k ≡ Some e) × (e.op ≡ In)

-- ---- one module

-- its nodes are over constants, its ins and its own earlier nodes; its ins and its nodes differ and stand in the graph; its outs are
-- among its nodes, and these are no inputs or constants
pub record IsPiece (es : List Entry) (nodes ins outs : List ℕ) : Type 0 where
  pub known : (i k : ℕ) (e : Entry) → i < length nodes → slice_get es (get_or nodes i 0) ≡ Some e → k < arity e.op → constant_at es (get_or e.args k 0) ≡ None → Contains (ins ++ take i nodes) (get_or e.args k 0)
  pub distinct : IsDistinct (ins ++ nodes)
  pub stand : All (λ k. k < length es) (ins ++ nodes)
  pub among : All (Contains nodes) outs
  pub few : length (ins ++ nodes) ≤ 2 * node_limit
  pub inner : All (λ k. is_inner es k ≡ true) nodes

-- ---- all modules of a cut

-- each node that lies in a module lies in exactly one; so a sum over the modules' nodes is one over these nodes
pub record ArePartition (es : List Entry) (list : List Module) : Type 0 where
  pub covers : (k : ℕ) → k < length es → is_inner es k ≡ true → (m : ℕ) × (part : Module) × (slice_get list m ≡ Some part) × Contains part.nodes k
  pub once : (k i j : ℕ) (p q : Module) → slice_get list i ≡ Some p → slice_get list j ≡ Some q → Contains p.nodes k → Contains q.nodes k → i ≡ j
  pub sums : (f : ℕ → ℕ) → sum_by (λ part. sum_by f part.nodes) list ≡ sum_by f (filter (is_inner es) (below (length es)))

-- what a module uses of outside is an input or an out of an earlier module, and a result that lies in a module is an out of it
pub record AreOrdered (es : List Entry) (results : List Node) (list : List Module) : Type 0 where
  pub earlier : (m k : ℕ) (part : Module) → slice_get list m ≡ Some part → Contains part.ins k → IsInput es k ⊎ ((j : ℕ) × (p : Module) × (j < m) × (slice_get list j ≡ Some p) × Contains p.outs k)
  pub last : (node : Node) → Contains results node → is_inner es node.index ≡ true → (m : ℕ) × (part : Module) × (slice_get list m ≡ Some part) × Contains part.outs node.index
