-- What is left of a list does what the whole does.
use Rattle.std.proofs.Common.{◌≡◌, map, drop}
use Rattle.c_addresses.specs.Scans.{in_turn}
use Rattle.c_addresses.specs.Addresses.{scans_item, scans_section, scans_statement}
use Rattle.c_addresses.proofs.statements.+statements.Given as goal

abbrev pub invariant-scan_statements-loop-next : goal.invariant-scan_statements-loop-next
invariant-scan_statements-loop-next l = in_turn (map scans_statement (drop l.next-index l.list)) l.scan ≡ in_turn (map scans_statement l.list) l.initial.scan

abbrev pub invariant-scan_items-loop-next : goal.invariant-scan_items-loop-next
invariant-scan_items-loop-next l = in_turn (map scans_item (drop l.next-index l.list)) l.scan ≡ in_turn (map scans_item l.list) l.initial.scan

abbrev pub invariant-scan_sections-loop-next : goal.invariant-scan_sections-loop-next
invariant-scan_sections-loop-next l = in_turn (map scans_section (drop l.next-index l.list)) l.scan ≡ in_turn (map scans_section l.list) l.initial.scan
