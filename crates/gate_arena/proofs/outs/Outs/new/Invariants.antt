use Rattle.std.proofs.Common.{◌≡◌, length, take}
use Rattle.gate_arena.specs.Inside.{AreChained}
use Rattle.gate_arena.proofs.outs.Outs.new.Given as goal

abbrev pub invariant-loop-place : goal.invariant-loop-place
invariant-loop-place l = record {
  wires : length l.first.items ≡ l.wires;
  chained : AreChained (take l.place l.lit-items) l.first.items l.next.items;
}
