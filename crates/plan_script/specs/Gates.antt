-- The gates of a module's circuit as instructions. Gate k makes share `base + k`; what its variables are coded as follows from the codes of the
-- circuit's inputs and from that.
use Rattle.std.specs.Prelude.{ℕ, ◌==◌, ◌+◌, ◌-◌, ◌%◌, Bool, true, false, List, [], ◌∷◌, ◌++◌, length, nat_lt, slice_index, if◌then◌else◌}
use Rattle.std.specs.List.{fold}
use Rattle.hy_bits.specs.declared.op.Op.{Op}
use Rattle.hy_bits.specs.declared.op.Op.TheVariants.{Add, Sub, Mul, Neg, Trunc}
use Rattle.hy_bits.specs.declared.width.Width.TheVariants.{W1}
use Rattle.hy_bits.specs.Op.{IsTakenBy, op_value}
use Rattle.ring_net.specs.declared.ring.RingArg.{RingArg}
use Rattle.ring_net.specs.declared.ring.RingArg.TheVariants.{Var, Number}
use Rattle.ring_net.specs.declared.ring.RingGate.{RingGate}
use Rattle.ring_net.specs.Ring.{argument, is_variable}
use Rattle.gate_net.specs.declared.literal.Lit.{Lit}
use Rattle.gate_net.specs.declared.literal.Gate.{Gate}
use Rattle.gate_net.specs.declared.literal.Gate.TheVariants.{And, Xor}
use Rattle.gate_net.specs.Literal.{complement_of, wire_of}
use Rattle.choice_core.specs.declared.sharings.Sharing.{Sharing}
use Rattle.choice_core.specs.declared.sharings.Sharing.TheVariants.{Arithmetic, Boolean, Yao}
use Rattle.share_core.specs.declared.instr.Instr.{Instr}
use Rattle.share_core.specs.declared.instr.InstrKind.{InstrKind}
use Rattle.share_core.specs.declared.instr.InstrKind.TheVariants.{MulA, AndB, AndY, AddA, AddLeft, AddRight, SubA, SubLeft, SubRight, MulLeft, MulRight, NegA, TruncA, Known, XorB, XorY}
use Rattle.plan_script.specs.Script.{instr, share_code}

-- ---- variables and literals

-- the code of a variable: an input's is given, a gate's is that of its share
abbrev pub variable_code : List ℕ → (base : ℕ) → ℕ → ℕ
variable_code ins base v = if nat_lt v (length ins) then slice_index ins v else share_code (base + (v - length ins))

-- the code of a wire: wire 0 is the constant
abbrev pub wire_code : List ℕ → (base : ℕ) → ℕ → ℕ
wire_code ins base wire = if wire == 0 then 0 else variable_code ins base (wire - 1)

-- the code of a literal: of its wire, complemented where it is a complement
unfoldable pub lit_code : List ℕ → (base : ℕ) → Lit → ℕ
lit_code ins base l = if l.code % 2 == 1 then (complement_of (record { code = wire_code ins base (wire_of l) })).code else wire_code ins base (wire_of l)

-- ---- gates of bits, at B or at Y

abbrev pub and_kind : Sharing → InstrKind
and_kind Arithmetic = AndB
and_kind Boolean = AndB
and_kind Yao = AndY

abbrev pub xor_kind : Sharing → InstrKind
xor_kind Arithmetic = XorB
xor_kind Boolean = XorB
xor_kind Yao = XorY

abbrev pub net_instr : Sharing → List ℕ → (base k : ℕ) → Gate → Instr
net_instr sharing ins base k (And a b) = instr (and_kind sharing) W1 (lit_code ins base a) (lit_code ins base b) (base + k) 0
net_instr sharing ins base k (Xor a b) = instr (xor_kind sharing) W1 (lit_code ins base a) (lit_code ins base b) (base + k) 0

-- one more; its place is the number of those before it
unfoldable pub with_net_instr : Sharing → List ℕ → (base : ℕ) → List Instr → Gate → List Instr
with_net_instr sharing ins base instrs gate = instrs ++ net_instr sharing ins base (length instrs) gate ∷ []

abbrev pub net_instrs : Sharing → List ℕ → (base : ℕ) → List Gate → List Instr
net_instrs sharing ins base gates = fold (with_net_instr sharing ins base) [] gates

-- ---- gates of words, at A

abbrev pub arg_code : List ℕ → (base : ℕ) → RingArg → ℕ
arg_code ins base (Var v) = variable_code ins base v
arg_code ins base (Number n) = 0

abbrev pub arg_number : RingArg → ℕ
arg_number (Var v) = 0
arg_number (Number n) = n

-- by which of the arguments are variables: Left and Right say on which side a number is
abbrev pub ring_kind : Op → (first second : Bool) → InstrKind
ring_kind Add true true = AddA
ring_kind Add false true = AddLeft
ring_kind Add true false = AddRight
ring_kind Sub true true = SubA
ring_kind Sub false true = SubLeft
ring_kind Sub true false = SubRight
ring_kind Mul true true = MulA
ring_kind Mul false true = MulLeft
ring_kind Mul true false = MulRight
ring_kind Neg true second = NegA
ring_kind Trunc true second = TruncA
ring_kind _ first second = Known

-- the number among the arguments; of an operation on numbers alone its result
abbrev pub ring_value : RingGate → (first second : Bool) → ℕ
ring_value g true true = 0
ring_value g false true = arg_number (argument g 0)
ring_value g true false = arg_number (argument g 1)
ring_value g false false = op_value g.op g.width g.width (arg_number (argument g 0)) (arg_number (argument g 1)) 0

-- the numbers among the arguments are words that the operation takes
abbrev pub TakesNumbers : RingGate → Type 0
TakesNumbers g = IsTakenBy g.op g.width g.width (arg_number (argument g 0)) (arg_number (argument g 1)) 0

abbrev pub ring_instr : List ℕ → (base k : ℕ) → RingGate → Instr
ring_instr ins base k g =
    instr (ring_kind g.op (is_variable (argument g 0)) (is_variable (argument g 1))) g.width (arg_code ins base (argument g 0)) (arg_code ins base (argument g 1)) (base + k)
    (ring_value g (is_variable (argument g 0)) (is_variable (argument g 1)))

unfoldable pub with_ring_instr : List ℕ → (base : ℕ) → List Instr → RingGate → List Instr
with_ring_instr ins base instrs gate = instrs ++ ring_instr ins base (length instrs) gate ∷ []

abbrev pub ring_instrs : List ℕ → (base : ℕ) → List RingGate → List Instr
ring_instrs ins base gates = fold (with_ring_instr ins base) [] gates
