use Rattle.std.proofs.Common.{◌≡◌, ◌+◌, ◌-◌, ◌*◌, ◌%◌, ◌^◌, ◌≤◌, ℕ, List, take, drop, refl, sym, ◌∙◌, arith}
use Rattle.hy_bits.specs.Words.{bits}
use Rattle.hy_bits.specs.declared.turns.Role.TheVariants.{P1}
use Rattle.share_core.specs.Garbled.{wire}
use Rattle.party.proofs.Carried.{carry_first, carry_more_P1, sums_more}
use Rattle.party.proofs.LevelSteps.{piece_of}
use Rattle.party.proofs.carries.evaluate_sum.Goals as goal

pub loop-i-init : goal.loop-i-init
loop-i-init c =
    record {
      sums = λ k less. absurd (omega arith);
      carry = sym (carry_first P1 c.args.offset c.args.number (wire c.args.a.now.list) (wire c.args.b.now.list) (take (32 * (bits c.args.w - 1)) (drop 5 c.args.inbox.now.items)));
    }

pub loop-i-preserved : goal.loop-i-preserved
loop-i-preserved c =
    let a = wire c.args.a.now.list in
    let b = wire c.args.b.now.list in
    let i = c.loop-i.i in
    let items = c.args.inbox.now.items in
    let total : ℕ = 32 * (bits c.args.w - 1) in
    let payload : List ℕ = take total (drop 5 items) in
    let within : 32 * i + 32 ≤ total = omega (arith, c.loop-i-test.true, c.bits.ensures) in
    let read : c.as_slice.result.now ≡ take 32 (drop (32 * i) payload) = c.as_slice.ensures ∙ c.copy.ensures ∙ piece_of items total (32 * i) 32 within in
    record {
      sums = sums_more P1 c.args.offset c.args.number i a b payload c.loop-i.carry c.sum_of.result (wire c.loop-i.sums.list) (wire c.set.new.self.list) c.loop-i.invariant.sums c.loop-i.invariant.carry c.sum_of.ensures c.set.ensures.here c.set.ensures.others;
      carry = carry_more_P1 c.args.offset c.args.number i ((c.args.number + i) % 2 ^ 64) a b c.loop-i.carry c.carry_finish-carry.result payload c.as_slice.result.now refl c.loop-i.invariant.carry read c.carry_finish-carry.ensures.value;
    }
