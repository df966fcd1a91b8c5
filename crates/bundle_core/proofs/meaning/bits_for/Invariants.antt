use Rattle.std.proofs.Common.{take}
use Rattle.std.specs.List.{All}
use Rattle.bundle_core.specs.Room.{FitsBuffer}
use Rattle.bundle_core.proofs.meaning.bits_for.Given as goal

abbrev pub invariant-loop-variant : goal.invariant-loop-variant
invariant-loop-variant l = All (FitsBuffer l.most) (take l.variant-index l.variants)
