-- What is left of a list does what the whole does.
use Rattle.std.proofs.Common.{◌≡◌, map, drop}
use Rattle.c_addresses.specs.Scans.{in_turn}
use Rattle.c_addresses.specs.Addresses.{scans_parameter}
use Rattle.c_addresses.proofs.functions.scan_list.Given as goal

abbrev pub invariant-loop-next : goal.invariant-loop-next
invariant-loop-next l = in_turn (map scans_parameter (drop l.next-index l.list)) l.scan ≡ in_turn (map scans_parameter l.list) l.initial.scan
