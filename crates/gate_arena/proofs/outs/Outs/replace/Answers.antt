use Rattle.std.proofs.Common.{Bool, ℕ, ap, arith, cond}
use Rattle.gate_arena.proofs.outs.Outs.replace.Goals as goal

pub loop-more-smaller : goal.loop-more-smaller
loop-more-smaller c = omega (arith, c.move_first-more.ensures.fewer, ap {B = ℕ} (λ (b : Bool). cond b 1 0) c.loop-more-test.true)
