use Rattle.std.proofs.Common.{◌≡◌, ◌+◌, ◌%◌, ◌^◌, ◌++◌, ℕ, List, [], length, refl, sym, ap, ◌∙◌, arith, length-append}
use Rattle.hy_bits.specs.declared.turns.Role.TheVariants.{P0}
use Rattle.share_core.specs.Conversions.{carry_rows}
use Rattle.share_core.specs.Garbled.{label_xor, wire}
use Rattle.share_core.proofs.GarbledLaws.{joined-none, length-and_rows}
use Rattle.std.proofs.lemmas.List.{append-nil}
use Rattle.party.proofs.Carried.{carry_first, carry_more_P0, rows_more, sums_more}
use Rattle.party.proofs.carries.garble_sum.Goals as goal

pub loop-i-init : goal.loop-i-init
loop-i-init c =
    record {
      sums = λ k less. absurd (omega arith);
      carry = sym (carry_first P0 c.args.offset c.args.number (wire c.args.a.now.list) (wire c.args.b.now.list) []);
      items = sym (ap (λ (xs : List ℕ). c.args.outbox.now.items ++ xs) (joined-none _) ∙ append-nil c.args.outbox.now.items);
      room = refl;
      long = omega arith;
    }

pub loop-i-preserved : goal.loop-i-preserved
loop-i-preserved c =
    let a = wire c.args.a.now.list in
    let b = wire c.args.b.now.list in
    let i = c.loop-i.i in
    let inv = c.loop-i.invariant in
    let carry = c.loop-i.carry in
    let gate : ℕ = (c.args.number + i) % 2 ^ 64 in
    let rows : c.as_slice.result.now ≡ carry_rows c.args.offset gate (a i) (b i) carry = c.as_slice.ensures ∙ c.carry_send-carry.ensures.rows in
    record {
      sums = sums_more P0 c.args.offset c.args.number i a b [] carry c.sum_of.result (wire c.loop-i.sums.list) (wire c.set.new.self.list) inv.sums inv.carry c.sum_of.ensures c.set.ensures.here c.set.ensures.others;
      carry = carry_more_P0 c.args.offset c.args.number i gate a b carry c.carry_send-carry.result refl inv.carry c.carry_send-carry.ensures.value;
      items = rows_more c.args.offset c.args.number i gate a b carry c.args.outbox.now.items c.loop-i.outbox.items c.put.new.self.items c.as_slice.result.now refl inv.carry inv.items rows c.put.ensures.items;
      room = c.put.ensures.room ∙ inv.room;
      long = ap length c.put.ensures.items ∙ length-append c.loop-i.outbox.items c.as_slice.result.now
          ∙ omega (arith, inv.long, ap length rows, length-and_rows c.args.offset gate (label_xor (a i) carry) (label_xor (b i) carry));
    }
