-- Which parts make a bundle. Each rule speaks of parts that stand before it in the order of the text: layers, ports, result, regions,
-- nodes, results, modules, circuits, table.
use Rattle.std.specs.Prelude.{◌≡◌, ℕ, ◌^◌, ◌<◌, ◌≤◌, true, List, [], ◌∷◌, ◌++◌, Option, None, Some, get_or, length, map}
use Rattle.std.specs.List.{All, list_all, sum_by}
use Rattle.hy_bits.specs.declared.op.Op.{Op}
use Rattle.hy_bits.specs.declared.op.Op.TheVariants.{In, Const}
use Rattle.hy_bits.specs.declared.scalar.Scalar.{Scalar}
use Rattle.hy_bits.specs.declared.shape.Port.{Port}
use Rattle.hy_bits.specs.declared.shape.Shape.{Shape}
use Rattle.hy_bits.specs.declared.width.Width.{Width}
use Rattle.hy_bits.specs.declared.width.Width.TheVariants.{W1}
use Rattle.hy_bits.specs.Scalar.{scalar_width}
use Rattle.hy_bits.specs.Shape.{leaves, leaves_of_ports}
use Rattle.hy_bits.specs.Words.{bits}
use Rattle.word_graph.specs.declared.entry.Entry.{Entry}
use Rattle.word_graph.specs.declared.entry.Node.{Node}
use Rattle.word_graph.specs.Term.{width_at}
use Rattle.module_split.specs.declared.module.Class.{Class}
use Rattle.module_split.specs.declared.module.Class.TheVariants.{Arithmetic, Boolean}
use Rattle.module_split.specs.declared.module.Module.{Module}
use Rattle.module_split.specs.Cut.{cut_of}
use Rattle.module_split.specs.Modules.{layer_limit}
use Rattle.ring_net.specs.declared.ring.RingGate.{RingGate}
use Rattle.ring_net.specs.Ring.{Ring, IsRing, width_of}
use Rattle.gate_net.specs.Circuit.{Circuit}
use Rattle.gate_net.specs.Shape.{IsCircuit, gate_limit}
use Rattle.bundle_core.specs.declared.parts.Parts.{Parts}
use Rattle.bundle_core.specs.declared.parts.Variant.{Variant}
use Rattle.bundle_core.specs.Names.{are_names, is_good_shape}

-- the most words of all inputs, and the most words of a result
abbrev pub leaf_limit : ℕ
leaf_limit = 2 ^ 20

-- the most gates of all ring circuits together
abbrev pub ring_gate_limit : ℕ
ring_gate_limit = 2 ^ 20

-- ---- widths

-- the widths of the nodes at these places
abbrev pub widths_at : List Entry → List ℕ → List Width
widths_at es places = map (width_at es) places

-- how many bits words of these widths have
abbrev pub bits_of_widths : List Width → ℕ
bits_of_widths widths = sum_by bits widths

-- the widths of a result's words: the bound word's, and those of the leaves
abbrev pub result_widths : Shape → List Width
result_widths result = W1 ∷ map scalar_width (leaves result)

-- ---- nodes

-- an input's word is a leaf of the ports, which has the input's width
abbrev pub IsLeaf : List Scalar → Op → Width → ℕ → Type 0
IsLeaf scalars In w number = (number < length scalars) × (get_or (map scalar_width scalars) number W1 ≡ w)
IsLeaf scalars _ w number = Unit {0}

-- the region of a node that shows one is one of these many
abbrev pub HasRegion : ℕ → Op → ℕ → Type 0
HasRegion count In region = Unit {0}
HasRegion count Const region = Unit {0}
HasRegion count _ region = region < count

-- ---- circuits

-- the widths of all variables of a ring circuit
abbrev pub variable_widths : Ring → List Width
variable_widths r = r.ins ++ map (λ (g : RingGate). g.width) r.gates

-- the circuit has inputs and outputs of these widths
pub record FitsRing (from to : List Width) (r : Ring) : Type 0 where
  pub ring : IsRing r
  pub ins : r.ins ≡ from
  pub outs : map (width_of (variable_widths r)) r.outs ≡ to

-- a ring circuit stands exactly where the module is of the arithmetic class
abbrev pub FitsClass : Class → (ins outs : List Width) → Option Ring → Type 0
FitsClass Arithmetic ins outs None = ⊥
FitsClass Arithmetic ins outs (Some ring) = FitsRing ins outs ring
FitsClass Boolean ins outs None = Unit {0}
FitsClass Boolean ins outs (Some ring) = ⊥

-- the circuit has one input for each bit of words of the first widths, and one output for each bit of words of the others
pub record FitsBits (from to : List Width) (n : Circuit) : Type 0 where
  pub circuit : IsCircuit n
  pub ins : n.ins ≡ bits_of_widths from
  pub outs : length n.outs ≡ bits_of_widths to
  pub budget : n.budget ≡ gate_limit

-- the circuits of a module
pub record IsVariant (es : List Entry) (part : Module) (variant : Variant) : Type 0 where
  pub ring : FitsClass part.class (widths_at es part.ins) (widths_at es part.outs) variant.ring
  pub compact : FitsBits (widths_at es part.ins) (widths_at es part.outs) variant.compact
  pub shallow : FitsBits (widths_at es part.ins) (widths_at es part.outs) variant.shallow

-- the circuits of all modules, in order
abbrev pub AreVariants : List Entry → List Module → List Variant → Type 0
AreVariants es [] [] = Unit {0}
AreVariants es [] (variant ∷ variants) = ⊥
AreVariants es (part ∷ parts) [] = ⊥
AreVariants es (part ∷ parts) (variant ∷ variants) = IsVariant es part variant × AreVariants es parts variants

-- how many gates the ring circuit has, if there is one
abbrev pub ring_size : Option Ring → ℕ
ring_size None = 0
ring_size (Some ring) = length ring.gates

-- ---- all parts

-- the parts make a draft, which is a bundle without its choices
pub record IsDraft (b : Parts) : Type 0 where
  -- there is a layer, and there are not too many
  pub layers_some : 0 < b.layers
  pub layers_few : b.layers ≤ layer_limit
  -- the ports have names, each its own, and good shapes, with not too many leaves
  pub port_names : are_names (map (λ port. port.name) b.ports) ≡ true
  pub port_shapes : list_all (λ (port : Port). is_good_shape port.shape) b.ports ≡ true
  pub port_leaves : length (leaves_of_ports b.ports) ≤ leaf_limit
  -- so has the result
  pub result_shape : is_good_shape b.result ≡ true
  pub result_leaves : length (leaves b.result) ≤ leaf_limit
  -- the regions have names, each its own
  pub region_names : are_names b.regions ≡ true
  -- each input is a leaf of the ports, and each region stands
  pub inputs : All (λ (e : Entry). IsLeaf (leaves_of_ports b.ports) e.op e.width e.number) b.graph
  pub regions : All (λ (e : Entry). HasRegion (length b.regions) e.op e.region) b.graph
  -- the results stand, and have the widths of the bound word and of the result's leaves
  pub results_stand : All (λ (node : Node). node.index < length b.graph) b.results
  pub results_widths : map (λ (node : Node). width_at b.graph node.index) b.results ≡ result_widths b.result
  -- the modules and the edges are those of the cut
  pub modules : b.modules ≡ cut_of b.graph b.results b.layers
  -- each module has its circuits, and all circuits of a kind together have not too many gates
  pub variants : AreVariants b.graph b.modules.list b.variants
  pub ring_gates : sum_by (λ (variant : Variant). ring_size variant.ring) b.variants ≤ ring_gate_limit
  pub compact_gates : sum_by (λ (variant : Variant). length variant.compact.gates) b.variants ≤ gate_limit
  pub shallow_gates : sum_by (λ (variant : Variant). length variant.shallow.gates) b.variants ≤ gate_limit
