-- Literals: a wire of a circuit, or its complement. The code is 0 for false, 1 for true, 2 * v + 2 for variable v and 2 * v + 3 for its complement.
use Rattle.std.specs.Prelude.{◌==◌, ◌≢◌, ℕ, ◌+◌, ◌-◌, ◌/◌, ◌%◌, ◌≤◌, nat_lt, if◌then◌else◌}
use Rattle.gate_net.specs.declared.literal.Lit.{Lit}
use Rattle.gate_net.specs.declared.literal.Gate.{Gate}
use Rattle.gate_net.specs.declared.literal.Gate.TheVariants.{And, Xor}

-- the wire of a literal: wire 0 is the constant, and wire v + 1 is variable v
abbrev pub wire_of : Lit → ℕ
wire_of l = l.code / 2

-- the other literal of the same wire
abbrev pub complement_of : Lit → Lit
complement_of l = record { code = if l.code % 2 == 1 then l.code - 1 else l.code + 1 }

-- the literal of the same wire without a complement
abbrev pub plain_of : Lit → Lit
plain_of l = record { code = l.code - l.code % 2 }

-- neither literal is constant, and their variables differ
pub record AreApart (a b : Lit) : Type 0 where
  pub first : 2 ≤ a.code
  pub second : 2 ≤ b.code
  pub variables : wire_of a ≢ wire_of b

-- the gate that an And of two literals wants: inputs ascend by code
abbrev pub and_gate : Lit → Lit → Gate
and_gate a b = if nat_lt a.code b.code then And a b else And b a

-- an Xor whose inputs ascend by code
abbrev pub plain_xor_gate : Lit → Lit → Gate
plain_xor_gate a b = if nat_lt a.code b.code then Xor a b else Xor b a

-- the gate that an Xor of two literals wants: the complements move to the result, and the inputs ascend by code
abbrev pub xor_gate : Lit → Lit → Gate
xor_gate a b = plain_xor_gate (plain_of a) (plain_of b)

-- the inputs of a gate
abbrev pub left_of : Gate → Lit
left_of (And a b) = a
left_of (Xor a b) = a

abbrev pub right_of : Gate → Lit
right_of (And a b) = b
right_of (Xor a b) = b
