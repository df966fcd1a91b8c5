-- What is left of a list does what the whole does.
use Rattle.std.proofs.Common.{◌≡◌, map, drop}
use Rattle.c_addresses.specs.Scans.{in_turn}
use Rattle.c_addresses.specs.Addresses.{scans_declarator, scans_dimension, scans_enumerator, scans_member, scans_operand, scans_suffix, scans_expr, exprs_in_turn}
use Rattle.c_addresses.proofs.expressions.+scans.Given as goal

abbrev pub invariant-scan_exprs-loop-next : goal.invariant-scan_exprs-loop-next
invariant-scan_exprs-loop-next l = exprs_in_turn (map scans_expr (drop l.next-index l.list)) l.scan ≡ exprs_in_turn (map scans_expr l.list) l.initial.scan

abbrev pub invariant-scan_suffixes-loop-next : goal.invariant-scan_suffixes-loop-next
invariant-scan_suffixes-loop-next l = in_turn (map scans_suffix (drop l.next-index l.list)) l.scan ≡ in_turn (map scans_suffix l.list) l.initial.scan

abbrev pub invariant-scan_operands-loop-next : goal.invariant-scan_operands-loop-next
invariant-scan_operands-loop-next l = in_turn (map scans_operand (drop l.next-index l.list)) l.scan ≡ in_turn (map scans_operand l.list) l.initial.scan

abbrev pub invariant-scan_members-loop-next : goal.invariant-scan_members-loop-next
invariant-scan_members-loop-next l = in_turn (map scans_member (drop l.next-index l.list)) l.scan ≡ in_turn (map scans_member l.list) l.initial.scan

abbrev pub invariant-scan_declarators-loop-next : goal.invariant-scan_declarators-loop-next
invariant-scan_declarators-loop-next l = in_turn (map scans_declarator (drop l.next-index l.list)) l.scan ≡ in_turn (map scans_declarator l.list) l.initial.scan

abbrev pub invariant-scan_dimensions-loop-next : goal.invariant-scan_dimensions-loop-next
invariant-scan_dimensions-loop-next l = in_turn (map scans_dimension (drop l.next-index l.list)) l.scan ≡ in_turn (map scans_dimension l.list) l.initial.scan

abbrev pub invariant-scan_enumerators-loop-next : goal.invariant-scan_enumerators-loop-next
invariant-scan_enumerators-loop-next l = in_turn (map scans_enumerator (drop l.next-index l.list)) l.scan ≡ in_turn (map scans_enumerator l.list) l.initial.scan
