-- Sizes that stand still at 2^63, and their sums and products.
use Rattle.std.specs.Prelude.{ℕ, ◌+◌, ◌*◌}
use Rattle.c_meaning.specs.Sizes.{Size}
use Rattle.c_meaning.specs.SizeFolds.{saturated}
use Rattle.c_sizes.specs.declared.totals.Totals.{Totals}

-- the size of a run, each number at most 2^63
unfoldable pub totals_of : Size → Totals
totals_of size = record { visits = saturated size.visits; nodes = saturated size.nodes; gates = saturated size.gates }

unfoldable pub joined : Totals → Totals → Totals
joined a b = record { visits = saturated (a.visits + b.visits); nodes = saturated (a.nodes + b.nodes); gates = saturated (a.gates + b.gates) }

unfoldable pub repeated : ℕ → Totals → Totals
repeated n a = record { visits = saturated (n * a.visits); nodes = saturated (n * a.nodes); gates = saturated (n * a.gates) }

-- turns, with one test more than turns
unfoldable pub looped : Totals → ℕ → Totals → Totals → Totals → Totals
looped turn n test body step = joined (repeated (n + 1) test) (repeated n (joined turn (joined body step)))
