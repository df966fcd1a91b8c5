-- What is left of a list gives what the whole gives.
use Rattle.std.proofs.Common.{◌≡◌, map, drop}
use Rattle.c_typing.specs.Walks.{along}
use Rattle.c_heads.specs.Labels.{label_of}
use Rattle.c_heads.proofs.labels.labels_of.Given as goal

abbrev pub invariant-loop-next : goal.invariant-loop-next
invariant-loop-next l = along (map (label_of l.scalar) (drop l.next-index l.list)) l.all l.env ≡ along (map (label_of l.scalar) l.list) l.initial.all l.initial.env
