-- A scan of a function by names and scopes alone (C11 6.2.1): which of the names that it declares stand after "&".
use Rattle.std.specs.Prelude.{ℕ, Bool, true, false, Option, None, Some, List, [], ◌∷◌, ◌++◌, length, slice_set}
use Rattle.c_addresses.specs.declared.scan.Scanning.{Scanning}
use Rattle.c_scopes.specs.Scopes.{found, declared, opened_in, closed, outermost}

abbrev pub Scan : Type 0
Scan = Scanning → Scanning

abbrev pub nothing_scanned : Scanning
nothing_scanned = record { names = outermost; addressed = [] }

abbrev pub in_turn : List Scan → Scan
in_turn [] s = s
in_turn (scan ∷ scans) s = in_turn scans (scan s)

abbrev pub where_there : Option Scan → Scan
where_there None s = s
where_there (Some scan) s = scan s

-- one more declaration of the name
abbrev pub declares : List ℕ → Scan
declares name s = record { names = declared name (length s.addressed) s.names; addressed = s.addressed ++ false ∷ [] }

abbrev pub marks : Option ℕ → List Bool → List Bool
marks None addressed = addressed
marks (Some n) addressed = slice_set addressed n true

-- the address of what the name stands for is taken. A name that the function doesn't declare is of no use here
abbrev pub takes : List ℕ → Scan
takes name s = record { names = s.names; addressed = marks (found s.names.bound name) s.addressed }

abbrev pub takes_if : Option (List ℕ) → Scan
takes_if None s = s
takes_if (Some name) s = takes name s

abbrev pub opens : Scan
opens s = record { names = opened_in s.names; addressed = s.addressed }

abbrev pub closes : Scan
closes s = record { names = closed s.names; addressed = s.addressed }

-- in a scope of its own
abbrev pub scoped : Scan → Scan
scoped scan s = closes (scan (opens s))
