-- Rows of literals as parts of one list. Private to the crate.
use Rattle.std.specs.Prelude.{ℕ, ◌-◌, ◌≤◌, List, drop, map, take}
use Rattle.gate_net.specs.declared.literal.Lit.{Lit}
use Rattle.lower_bool.specs.declared.rows.Span.{Span}

-- the span is a part of a list of this length
abbrev pub IsWithin : ℕ → Span → Type 0
IsWithin n s = (s.start ≤ s.end) × (s.end ≤ n)

-- what stands there
abbrev pub row_of : List Lit → Span → List Lit
row_of literals s = take (s.end - s.start) (drop s.start literals)

abbrev pub rows_of : List Lit → List Span → List (List Lit)
rows_of literals spans = map (row_of literals) spans
