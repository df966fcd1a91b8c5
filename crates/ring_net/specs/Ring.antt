-- Ring circuits: lists of operations on words, each over earlier variables and numbers.
use Rattle.std.specs.Prelude.{◌≡◌, ◌==◌, ℕ, ◌+◌, ◌^◌, ◌<◌, ◌≤◌, max, Bool, true, false, ◌&&◌, List, [], ◌∷◌, ◌++◌, get_or, length, map, replicate, if◌then◌else◌}
use Rattle.std.specs.List.{All, count_by}
use Rattle.hy_bits.specs.declared.op.Op.{Op}
use Rattle.hy_bits.specs.declared.op.Op.TheVariants.{Add, Sub, Mul, Neg, Trunc}
use Rattle.hy_bits.specs.declared.width.Width.{Width}
use Rattle.hy_bits.specs.declared.width.Width.TheVariants.{W1}
use Rattle.hy_bits.specs.Op.{op_value}
use Rattle.hy_bits.specs.Words.{bits, IsWord}
use Rattle.word_graph.specs.Meaning.{Word, word_at}
use Rattle.ring_net.specs.declared.ring.RingArg.{RingArg}
use Rattle.ring_net.specs.declared.ring.RingArg.TheVariants.{Var, Number}
use Rattle.ring_net.specs.declared.ring.RingGate.{RingGate}

-- what contracts see of a ring circuit: the widths of its inputs, its gates in order, and its outputs, which are variables.
-- The inputs are the first variables, and the gates follow
pub record Ring : Type 0 where
  pub ins : List Width
  pub gates : List RingGate
  pub outs : List ℕ

-- an argument of a gate
abbrev pub argument : RingGate → ℕ → RingArg
argument g k = get_or g.args k (Number 0)

-- ---- which lists are circuits

-- the width of a variable, where the variables have these widths
abbrev pub width_of : List Width → ℕ → Width
width_of widths k = get_or widths k W1

-- a variable or a number of the width
abbrev pub FitsArg : List Width → Width → RingArg → Type 0
FitsArg widths w (Var k) = (k < length widths) × (width_of widths k ≡ w)
FitsArg widths w (Number n) = IsWord w n

-- a variable that is wider
abbrev pub FitsCut : List Width → Width → RingArg → Type 0
FitsCut widths w (Var k) = (k < length widths) × (bits w < bits (width_of widths k))
FitsCut widths w (Number n) = ⊥

-- arguments of an operation of the ring, where the variables before it have these widths
abbrev pub FitsOperation : List Width → Op → Width → RingArg → RingArg → Type 0
FitsOperation widths Add w a b = FitsArg widths w a × FitsArg widths w b
FitsOperation widths Sub w a b = FitsArg widths w a × FitsArg widths w b
FitsOperation widths Mul w a b = FitsArg widths w a × FitsArg widths w b
FitsOperation widths Neg w a b = FitsArg widths w a × (b ≡ Number 0)
FitsOperation widths Trunc w a b = FitsCut widths w a × (b ≡ Number 0)
FitsOperation widths _ w a b = ⊥

-- a gate of at least 8 bits over earlier variables
pub record FitsAfter (widths : List Width) (g : RingGate) : Type 0 where
  pub wide : 8 ≤ bits g.width
  pub operation : FitsOperation widths g.op g.width (argument g 0) (argument g 1)

-- each gate after the variables before it
abbrev pub AreGates : List Width → List RingGate → Type 0
AreGates widths [] = Unit {0}
AreGates widths (g ∷ gs) = FitsAfter widths g × AreGates (widths ++ g.width ∷ []) gs

-- the most gates, and the most places of a part
abbrev pub ring_limit : ℕ
ring_limit = 2 ^ 29

-- a circuit
pub record IsRing (r : Ring) : Type 0 where
  pub gates : AreGates r.ins r.gates
  pub outs : All (λ k. k < length r.ins + length r.gates) r.outs
  pub limit : length r.gates ≤ ring_limit

-- ---- what a circuit computes

-- what an argument of a gate of width w carries, over what the variables carry
abbrev pub arg_word : List Word → Width → RingArg → Word
arg_word ws w (Var k) = word_at ws k
arg_word ws w (Number n) = record { width = w; value = n }

-- what a gate carries: its operation's value
abbrev pub gate_word : List Word → RingGate → Word
gate_word ws g = record {
  width = g.width;
  value = op_value g.op g.width (arg_word ws g.width (argument g 0)).width (arg_word ws g.width (argument g 0)).value (arg_word ws g.width (argument g 1)).value 0;
}

-- what all variables carry, after further gates
unfoldable pub run : List Word → List RingGate → List Word
run ws [] = ws
run ws (g ∷ gs) = run (ws ++ gate_word ws g ∷ []) gs

-- inputs of these widths and values
abbrev pub inputs_of : List Width → List ℕ → List Word
inputs_of [] xs = []
inputs_of (w ∷ widths) [] = []
inputs_of (w ∷ widths) (x ∷ xs) = record { width = w; value = x } ∷ inputs_of widths xs

-- what all variables of a circuit carry, where the inputs are these words
abbrev pub words : Ring → List ℕ → List Word
words r xs = run (inputs_of r.ins xs) r.gates

-- the values of all variables
abbrev pub values : Ring → List ℕ → List ℕ
values r xs = map (λ (w : Word). w.value) (words r xs)

-- the words of the outputs
abbrev pub outputs : Ring → List ℕ → List Word
outputs r xs = map (word_at (words r xs)) r.outs

-- one word for each input, in its width
abbrev pub AreWordsOf : List Width → List ℕ → Type 0
AreWordsOf [] [] = Unit {0}
AreWordsOf [] (x ∷ xs) = ⊥
AreWordsOf (w ∷ widths) [] = ⊥
AreWordsOf (w ∷ widths) (x ∷ xs) = IsWord w x × AreWordsOf widths xs

-- ---- widths and values apart

-- the width of a gate's first argument, where the variables have these widths
abbrev pub width_for : List Width → Width → RingArg → Width
width_for widths w (Var k) = width_of widths k
width_for widths w (Number n) = w

abbrev pub first_width : List Width → RingGate → Width
first_width widths g = width_for widths g.width (argument g 0)

-- the value of an argument, where the variables have these values
abbrev pub arg_value : List ℕ → RingArg → ℕ
arg_value vs (Var k) = get_or vs k 0
arg_value vs (Number n) = n

-- ---- products of two variables

abbrev pub is_variable : RingArg → Bool
is_variable (Var k) = true
is_variable (Number n) = false

abbrev pub is_product : Op → Bool
is_product Mul = true
is_product _ = false

-- a product of two variables
abbrev pub multiplies : RingGate → Bool
multiplies g = is_product g.op && (is_variable (argument g 0) && is_variable (argument g 1))

-- how many of the gates are products of two variables at the width
abbrev pub product_count : Width → List RingGate → ℕ
product_count w gates = count_by (λ g. multiplies g && bits g.width == bits w) gates

-- the depth of an argument, over those of the variables: the most products of two variables on a path to it
abbrev pub depth_at : List ℕ → RingArg → ℕ
depth_at depths (Var k) = get_or depths k 0
depth_at depths (Number n) = 0

-- the depth of a gate, itself counted
abbrev pub gate_depth : List ℕ → RingGate → ℕ
gate_depth depths g = max (depth_at depths (argument g 0)) (depth_at depths (argument g 1)) + (if multiplies g then 1 else 0)

-- the depths of all variables, after further gates
unfoldable pub depths_after : List ℕ → List RingGate → List ℕ
depths_after depths [] = depths
depths_after depths (g ∷ gs) = depths_after (depths ++ gate_depth depths g ∷ []) gs

-- the depths of all variables of a circuit
abbrev pub depths_of : Ring → List ℕ
depths_of r = depths_after (replicate (length r.ins) 0) r.gates

-- the depth of a gate of a circuit: the most products of two variables on a path to it, itself counted
abbrev pub depth_of_gate : Ring → ℕ → ℕ
depth_of_gate r place = get_or (depths_of r) (length r.ins + place) 0
