use Rattle.std.proofs.Common.{◌≡◌, ◌+◌, ◌*◌, ◌<◌, length}
use Rattle.std.specs.List.{All}
use Rattle.circuit_tests.proofs.words.two_words.Given as goal

abbrev pub invariant-loop-place : goal.invariant-loop-place
invariant-loop-place l =
    All (λ x. x.code < 2 * (1 + 2 * l.width)) l.first.items
    × All (λ x. x.code < 2 * (1 + 2 * l.width)) l.second.items
    × (length l.first.items ≡ l.place)
    × (length l.second.items ≡ l.place)
