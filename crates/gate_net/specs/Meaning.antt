-- What a circuit computes, gate by gate. A reading says what a wire carries: its bit, or its level.
use Rattle.std.specs.Prelude.{◌==◌, ℕ, ◌+◌, ◌%◌, max, Bool, true, false, not, ◌&&◌, List, [], ◌∷◌, ◌++◌, get_or, take, replicate, map, if◌then◌else◌}
use Rattle.std.specs.List.{count_by, fold}
use Rattle.gate_net.specs.declared.literal.Lit.{Lit}
use Rattle.gate_net.specs.declared.literal.Gate.{Gate}
use Rattle.gate_net.specs.declared.literal.Gate.TheVariants.{And, Xor}
use Rattle.gate_net.specs.Literal.{wire_of}
use Rattle.gate_net.specs.Circuit.{Circuit}

-- exclusive or
abbrev pub xor : Bool → Bool → Bool
xor true b = not b
xor false b = b

-- what the constant false carries, and what a complement, an And and an Xor carry
pub record Reading (A : Type 0) : Type 0 where
  pub constant : A
  pub complement : A → A
  pub both : A → A → A
  pub differ : A → A → A

-- each wire carries a bit
abbrev pub as_bits : Reading Bool
as_bits = record { constant = false; complement = not; both = λ x y. x && y; differ = xor }

-- each wire carries its level: the most And gates on a path to it
abbrev pub as_levels : Reading ℕ
as_levels = record { constant = 0; complement = λ x. x; both = λ x y. 1 + max x y; differ = max }

module _ {A : Type 0} (r : Reading A) where
  -- what a literal carries, over what the wires carry
  unfoldable pub reading : List A → Lit → A
  reading ws l =
      let carried = get_or ws (wire_of l) r.constant in
      if l.code % 2 == 1 then r.complement carried else carried

  -- what a gate carries
  unfoldable pub gate_reading : List A → Gate → A
  gate_reading ws (And a b) = r.both (reading ws a) (reading ws b)
  gate_reading ws (Xor a b) = r.differ (reading ws a) (reading ws b)

  -- the wires after further gates, each of which makes the next wire
  unfoldable pub run : List A → List Gate → List A
  run ws [] = ws
  run ws (g ∷ gs) = run (ws ++ gate_reading ws g ∷ []) gs

  -- the constant's wire and those of n inputs; where xs is too short the rest are as the constant
  unfoldable pub start : ℕ → List A → List A
  start n xs = r.constant ∷ take n (xs ++ replicate n r.constant)

  -- all wires of a circuit
  unfoldable pub wires : List A → Circuit → List A
  wires xs n = run (start n.ins xs) n.gates

-- the value of a literal where the inputs are these bits, in order
unfoldable pub value : Circuit → List Bool → Lit → Bool
value n bits l = reading as_bits (wires as_bits bits n) l

-- the level of a literal: the most And gates on a path to it; constants and inputs have 0
unfoldable pub level : Circuit → Lit → ℕ
level n l = reading as_levels (wires as_levels [] n) l

-- the gate is an And
abbrev pub is_and : Gate → Bool
is_and (And a b) = true
is_and (Xor a b) = false

-- how many of the gates are Ands
abbrev pub and_count : List Gate → ℕ
and_count gs = count_by is_and gs

-- the greatest level of an output
abbrev pub depth_of : Circuit → ℕ
depth_of n = fold max 0 (map (level n) n.outs)
