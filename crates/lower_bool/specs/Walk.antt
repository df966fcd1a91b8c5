-- What has been lowered so far of a part of a graph. Private to the crate.
use Rattle.std.specs.Prelude.{◌≡◌, ◌==◌, ℕ, ◌*◌, ◌<◌, true, List, get_or, length, take, slice_get, Option, Some, None, unwrap_or}
use Rattle.std.specs.List.{Contains, position, sum_by}
use Rattle.hy_bits.specs.declared.width.Width.{Width}
use Rattle.hy_bits.specs.Bits.{low_bits}
use Rattle.hy_bits.specs.Words.{bits}
use Rattle.word_graph.specs.declared.entry.Entry.{Entry}
use Rattle.word_graph.specs.Meaning.{InputsFit, value}
use Rattle.word_graph.specs.Shape.{constant_at, node_limit}
use Rattle.word_graph.specs.Size.{size_at}
use Rattle.word_graph.specs.Term.{argument, arity, term_of, width_at}
use Rattle.module_split.specs.Modules.{is_inner_op}
use Rattle.gate_net.specs.declared.literal.Lit.{Lit}
use Rattle.gate_net.specs.declared.netlist.Form.{Form}
use Rattle.gate_net.specs.declared.netlist.Form.TheVariants.{Shallow}
use Rattle.gate_net.specs.Circuit.{Circuit}
use Rattle.gate_net.specs.Spelled.{AllStand, AllWithin, constants_of, spelled, variables_from}
use Rattle.lower_bool.specs.declared.call.Call.{Call}
use Rattle.lower_bool.specs.Operations.{and_limit, row_at}
use Rattle.lower_bool.specs.Parts.{bits_at, bits_of_nodes}
use Rattle.lower_bool.specs.Stated.{EndsWithin, HaveDepths, stated_at}

-- the part that is lowered: its nodes, and those outside that it takes, in a form
pub record Part : Type 0 where
  pub entries : List Entry
  pub nodes : List ℕ
  pub ins : List ℕ
  pub form : Form

-- the most And gates that are known of the circuit of a node
abbrev pub ands_limit_at : Form → List Entry → ℕ → ℕ
ands_limit_at form es k = and_limit form (stated_at es k).ands (size_at es k)

-- the literals are the word of the node at place k for all inputs that fit, and in the shallow form none is deeper than the paths that
-- end at the node
pub record IsLowered (p : Part) (n : Circuit) (k : ℕ) (ls : List Lit) : Type 0 where
  pub stand : AllStand n ls
  pub count : length ls ≡ bits_at p.entries k
  pub spells : (inputs : List ℕ) → InputsFit p.entries inputs → spelled n (bits_of_nodes p.entries inputs p.ins) ls ≡ value p.entries inputs k
  pub depth : p.form ≡ Shallow → HaveDepths p.entries p.nodes → (d : ℕ) → EndsWithin p.entries p.nodes k d → AllWithin n d ls

-- each row is a word of the width of the node of its number
pub record HoldWords (es : List Entry) (n : Circuit) (keys : List ℕ) (rows : List (List Lit)) : Type 0 where
  pub count : length rows ≡ length keys
  pub stand : (i : ℕ) → i < length keys → AllStand n (row_at rows i)
  pub counts : (i : ℕ) → i < length keys → length (row_at rows i) ≡ bits_at es (get_or keys i 0)

-- each row is the word of the node of its number
pub record AreLowered (p : Part) (n : Circuit) (keys : List ℕ) (rows : List (List Lit)) : Type 0 where
  pub count : length rows ≡ length keys
  pub each : (i : ℕ) → i < length keys → IsLowered p n (get_or keys i 0) (row_at rows i)

-- ---- where nodes stand among the rows

-- the number of the row of a node
abbrev pub place_of : List ℕ → ℕ → ℕ
place_of keys k = unwrap_or (position (λ p. k == p) keys) 0

abbrev pub row_of_node : List ℕ → List (List Lit) → ℕ → List Lit
row_of_node keys rows k = row_at rows (place_of keys k)

-- the word of a node that is taken: a constant's, or its row
abbrev pub operand_for : Option ℕ → Width → List Lit → List Lit
operand_for (Some n) w row = constants_of (low_bits (bits w) n)
operand_for None w row = row

abbrev pub operand_row : List Entry → List ℕ → List (List Lit) → ℕ → List Lit
operand_row es keys rows k = operand_for (constant_at es k) (width_at es k) (row_of_node keys rows k)

-- the operation of a node, with its widths
abbrev pub call_of : List Entry → Entry → Call
call_of es e = record { op = e.op; width = e.width; first = width_at es (argument (term_of e) 0); second = width_at es (argument (term_of e) 1) }

-- the node lies in modules, and what it takes is constant or among these
pub record IsKnown (es : List Entry) (keys : List ℕ) (k : ℕ) : Type 0 where
  pub entry : Entry
  pub here : slice_get es k ≡ Some entry
  pub inner : is_inner_op entry.op ≡ true
  pub known : (i : ℕ) → i < arity entry.op → constant_at es (argument (term_of entry) i) ≡ None → Contains keys (argument (term_of entry) i)

-- the first `done` rows are runs of inputs, one after the other
pub record AreInputs (es : List Entry) (ins : List ℕ) (done : ℕ) (rows : List (List Lit)) : Type 0 where
  pub count : length rows ≡ done
  pub each : (i : ℕ) → i < done → row_at rows i ≡ variables_from (sum_by (bits_at es) (take i ins)) (bits_at es (get_or ins i 0))

-- the most nodes that a part takes of outside
abbrev pub input_limit : ℕ
input_limit = 2 * node_limit
