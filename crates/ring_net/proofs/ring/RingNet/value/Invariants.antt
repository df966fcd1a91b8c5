use Rattle.std.proofs.Common.{◌≡◌, ◌+◌, length, take, map}
use Rattle.word_graph.specs.Meaning.{Word}
use Rattle.ring_net.specs.Ring.{inputs_of, run}
use Rattle.ring_net.proofs.ring.RingNet.value.Given as goal

abbrev pub invariant-loop-place : goal.invariant-loop-place
invariant-loop-place l = take (length l.ins + l.place) l.buffer ≡ map (λ (w : Word). w.value) (run (inputs_of l.self.ins l.ins) (take l.place l.gates))
