use Rattle.std.proofs.Common.{◌≡◌, ◌+◌, take, false, ◌∷◌, length}
use Rattle.gate_net.specs.Meaning.{as_bits, run, start}
use Rattle.gate_net.proofs.netlist.Net.value.Given as goal

abbrev pub invariant-loop-place : goal.invariant-loop-place
invariant-loop-place l = false ∷ take (length l.ins + l.place) l.buffer ≡ run as_bits (start as_bits l.self.ins l.ins) (take l.place l.gate-items)
