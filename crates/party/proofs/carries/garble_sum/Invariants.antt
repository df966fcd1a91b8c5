use Rattle.std.proofs.Common.{◌≡◌, ◌+◌, ◌*◌, ◌<◌, ◌++◌, ℕ, [], length}
use Rattle.hy_bits.specs.declared.turns.Role.TheVariants.{P0}
use Rattle.share_core.specs.Conversions.{carry_at, carry_rows, sum_label}
use Rattle.share_core.specs.Garbled.{joined, wire}
use Rattle.party.proofs.carries.garble_sum.Given as goal

abbrev pub invariant-loop-i : goal.invariant-loop-i
invariant-loop-i l =
    record {
      sums : (k : ℕ) → k < l.i → wire l.sums.list k ≡ sum_label P0 l.offset l.number (wire l.a.list) (wire l.b.list) [] k;
      carry : l.carry ≡ carry_at P0 l.offset l.number (wire l.a.list) (wire l.b.list) [] l.i;
      items : l.outbox.items ≡ l.fn.outbox.items ++ joined l.i (λ k. carry_rows l.offset (l.number + k) (wire l.a.list k) (wire l.b.list k) (carry_at P0 l.offset l.number (wire l.a.list) (wire l.b.list) [] k));
      room : l.outbox.room ≡ l.fn.outbox.room;
      long : length l.outbox.items ≡ length l.fn.outbox.items + 32 * l.i;
    }
