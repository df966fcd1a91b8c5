-- What is left of a list does what the whole does.
use Rattle.std.proofs.Common.{◌≡◌, map, drop}
use Rattle.c_addresses.specs.Scans.{in_turn}
use Rattle.c_addresses.specs.Addresses.{scans_init}
use Rattle.c_addresses.proofs.declarations.+inits.Given as goal

abbrev pub invariant-scan_inits-loop-next : goal.invariant-scan_inits-loop-next
invariant-scan_inits-loop-next l = in_turn (map scans_init (drop l.next-index l.list)) l.scan ≡ in_turn (map scans_init l.list) l.initial.scan
