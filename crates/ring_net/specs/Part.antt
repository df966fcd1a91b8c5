-- The part of a graph that a ring circuit computes.
use Rattle.std.specs.Prelude.{◌≡◌, ◌==◌, ℕ, ◌<◌, ◌≤◌, List, [], ◌∷◌, ◌++◌, Option, Some, None, get_or, take, length, slice_get, unwrap_or}
use Rattle.std.specs.List.{All, Contains, position}
use Rattle.hy_bits.specs.declared.op.Op.{Op}
use Rattle.hy_bits.specs.declared.op.Op.TheVariants.{Add, Sub, Mul, Neg, Trunc}
use Rattle.hy_bits.specs.declared.width.Width.TheVariants.{W1}
use Rattle.word_graph.specs.declared.entry.Entry.{Entry}
use Rattle.word_graph.specs.declared.entry.Node.{Node}
use Rattle.hy_bits.specs.Words.{bits}
use Rattle.word_graph.specs.Term.{arity}
use Rattle.word_graph.specs.Shape.{constant_at}
use Rattle.module_split.specs.declared.module.Class.TheVariants.{Arithmetic}
use Rattle.module_split.specs.declared.module.Module.{Module}
use Rattle.module_split.specs.Cut.{cut_of}
use Rattle.module_split.specs.Steps.{IsDistinct}
use Rattle.ring_net.specs.declared.ring.RingArg.{RingArg}
use Rattle.ring_net.specs.declared.ring.RingArg.TheVariants.{Var, Number}
use Rattle.ring_net.specs.declared.ring.RingGate.{RingGate}
use Rattle.ring_net.specs.Ring.{ring_limit}

-- the lists are the nodes, the ins and the outs of one module of the arithmetic class, where the graph is cut for some
-- results into at most some number of layers
pub record IsRingModule (es : List Entry) (nodes ins outs : List ℕ) : Type 0 where
  pub results : List Node
  pub layers : ℕ
  pub part : Module
  pub cut : Contains (cut_of es results layers).list part
  pub ring : part.class ≡ Arithmetic
  pub same_nodes : part.nodes ≡ nodes
  pub same_ins : part.ins ≡ ins
  pub same_outs : part.outs ≡ outs

-- sums, differences, products, negatives and cuts
abbrev pub IsRingOperation : Op → Type 0
IsRingOperation Add = Unit {0}
IsRingOperation Sub = Unit {0}
IsRingOperation Mul = Unit {0}
IsRingOperation Neg = Unit {0}
IsRingOperation Trunc = Unit {0}
IsRingOperation _ = ⊥

-- a node whose operation is of the ring, of at least 8 bits, over constants and these places
pub record IsOver (es : List Entry) (places : List ℕ) (e : Entry) : Type 0 where
  pub operation : IsRingOperation e.op
  pub wide : 8 ≤ bits e.width
  pub known : (k : ℕ) → k < arity e.op → constant_at es (get_or e.args k 0) ≡ None → Contains places (get_or e.args k 0)

-- the places of the graph make a part, as those of each module of the arithmetic class do: `nodes` are over constants, `ins` and earlier ones of them, all of these places
-- differ and stand in the graph, the outputs are among them, and there are not too many
pub record IsPart (es : List Entry) (nodes ins outs : List ℕ) : Type 0 where
  pub over : (i : ℕ) (e : Entry) → i < length nodes → slice_get es (get_or nodes i 0) ≡ Some e → IsOver es (ins ++ take i nodes) e
  pub distinct : IsDistinct (ins ++ nodes)
  pub stand : All (λ k. k < length es) (ins ++ nodes)
  pub among : All (Contains (ins ++ nodes)) outs
  pub few : length (ins ++ nodes) ≤ ring_limit

-- the variable of the node at a place, where the variables are the nodes at these places
abbrev pub variable_of : List ℕ → ℕ → ℕ
variable_of places k = unwrap_or (position (λ p. k == p) places) 0

-- what a gate takes of the node at a place: its number, where it is a constant, and else its variable
abbrev pub arg_for : Option ℕ → ℕ → RingArg
arg_for (Some n) variable = Number n
arg_for None variable = Var variable

abbrev pub arg_of : List Entry → List ℕ → ℕ → RingArg
arg_of es places k = arg_for (constant_at es k) (variable_of places k)

-- the second argument of an operation, where it has one
abbrev pub second_for : Op → RingArg → RingArg
second_for Neg arg = Number 0
second_for Trunc arg = Number 0
second_for _ arg = arg

-- the gate of a node
abbrev pub gate_for : List Entry → List ℕ → Entry → RingGate
gate_for es places e = record { op = e.op; width = e.width; args = arg_of es places (get_or e.args 0 0) ∷ second_for e.op (arg_of es places (get_or e.args 1 0)) ∷ [] }

-- the gate of the node at a place
abbrev pub gate_of_entry : List Entry → List ℕ → Option Entry → RingGate
gate_of_entry es places None = record { op = Add; width = W1; args = [] }
gate_of_entry es places (Some e) = gate_for es places e

abbrev pub gate_at : List Entry → List ℕ → ℕ → RingGate
gate_at es places k = gate_of_entry es places (slice_get es k)
