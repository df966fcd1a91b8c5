-- What a replacement leaves.
use Rattle.std.specs.Prelude.{◌==◌, ℕ, ◌%◌, map, if◌then◌else◌}
use Rattle.gate_net.specs.declared.literal.Lit.{Lit}
use Rattle.gate_net.specs.declared.literal.Gate.{Gate}
use Rattle.gate_net.specs.declared.literal.Gate.TheVariants.{And, Xor}
use Rattle.gate_net.specs.Literal.{complement_of, wire_of}
use Rattle.gate_net.specs.Circuit.{Circuit}

-- a place that held l holds `by` now, with the complement of the place kept
abbrev pub moved : Lit → Lit → Lit
moved by l = if l.code % 2 == 1 then complement_of by else by

-- the same where the place held the wire
abbrev pub replaced_lit : ℕ → Lit → Lit → Lit
replaced_lit wire by l = if wire_of l == wire then moved by l else l

abbrev pub replaced_gate : ℕ → Lit → Gate → Gate
replaced_gate wire by (And a b) = And (replaced_lit wire by a) (replaced_lit wire by b)
replaced_gate wire by (Xor a b) = Xor (replaced_lit wire by a) (replaced_lit wire by b)

-- each input place and each output that held the wire holds `by`, and all else stays
abbrev pub replaced : ℕ → Lit → Circuit → Circuit
replaced wire by n = record n { gates = map (replaced_gate wire by) n.gates; outs = map (replaced_lit wire by) n.outs }
