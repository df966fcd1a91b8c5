use Rattle.std.proofs.Common.{◌≡◌, take}
use Rattle.hy_bits.specs.Ports.{own_of}
use Rattle.pair_run.proofs.inputs.own_words.Given as goal

abbrev pub invariant-loop-place : goal.invariant-loop-place
invariant-loop-place l = l.own.items ≡ own_of l.role (take l.place l.owners) (take l.place l.words)
