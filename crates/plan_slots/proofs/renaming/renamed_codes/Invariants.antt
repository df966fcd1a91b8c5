use Rattle.std.proofs.Common.{◌≡◌, map, take}
use Rattle.plan_slots.specs.Renamed.{renamed_code}
use Rattle.plan_slots.proofs.renaming.renamed_codes.Given as goal

abbrev pub invariant-loop-code : goal.invariant-loop-code
invariant-loop-code l = l.renamed.items ≡ map (renamed_code l.slots) (take l.code-index l.codes)
