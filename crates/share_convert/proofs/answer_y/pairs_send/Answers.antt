use Rattle.std.proofs.Common.{◌+◌, ◌*◌, List, ℕ, ◌++◌, take, sym, ap, ◌∙◌, arith}
use Rattle.share_core.specs.Boolean.{bit_of}
use Rattle.share_core.specs.Conversions.{pair_piece, pair_place}
use Rattle.share_core.specs.Garbled.{dealt_label}
use Rattle.share_core.proofs.ConversionLaws.{length-pair}
use Rattle.share_core.proofs.GarbledLaws.{joined-more, joined-none}
use Rattle.share_convert.proofs.answer_y.pairs_send.Goals as goal

pub loop-i-init : goal.loop-i-init
loop-i-init c = sym (joined-none _)

pub loop-i-preserved : goal.loop-i-preserved
loop-i-preserved c =
    let rest : List ℕ = c.split_at_mut-pair.result.1.now in
    let place : ℕ = pair_place c.args.shares c.loop-i.i in
    let words : List ℕ = c.args.half.now.words in
    joined-more 32 c.loop-i.i (λ k. pair_piece c.args.shares c.args.offset c.args.d c.args.half.now.words k) c.loop-i.out rest (c.split_at_mut-rest.result.0.now ++ (c.pair_send.new.out ++ rest)) (omega arith)
    (length-pair c.args.offset (dealt_label words place) (dealt_label words (place + 2)) (dealt_label words (place + 4)) (bit_of c.args.d c.loop-i.i))
    c.loop-i.invariant
    (ap (λ (bs : List ℕ). bs ++ (c.pair_send.new.out ++ rest)) c.split_at_mut-rest.ensures.front ∙ ap (λ (bs : List ℕ). take (32 * c.loop-i.i) c.loop-i.out ++ (bs ++ rest)) c.pair_send.ensures)
