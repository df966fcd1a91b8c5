use Rattle.std.proofs.Common.{◌≡◌, ◌-◌, ◌*◌, ◌<◌, ℕ, take, drop}
use Rattle.hy_bits.specs.Words.{bits}
use Rattle.hy_bits.specs.declared.turns.Role.TheVariants.{P1}
use Rattle.share_core.specs.Conversions.{carry_at, sum_label}
use Rattle.share_core.specs.Garbled.{wire}
use Rattle.party.proofs.carries.evaluate_sum.Given as goal

abbrev pub invariant-loop-i : goal.invariant-loop-i
invariant-loop-i l =
    record {
      sums : (k : ℕ) → k < l.i → wire l.sums.list k ≡ sum_label P1 l.fn.offset l.number (wire l.a.list) (wire l.b.list) (take (32 * (bits l.fn.w - 1)) (drop 5 l.inbox.items)) k;
      carry : l.carry ≡ carry_at P1 l.fn.offset l.number (wire l.a.list) (wire l.b.list) (take (32 * (bits l.fn.w - 1)) (drop 5 l.inbox.items)) l.i;
    }
