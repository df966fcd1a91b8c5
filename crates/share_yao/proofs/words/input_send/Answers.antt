use Rattle.std.proofs.Common.{◌≡◌, ◌+◌, ◌*◌, Bool, ◌++◌, take, drop, sym, ap, ◌∙◌, arith}
use Rattle.share_core.specs.declared.labels.Label.{Label}
use Rattle.share_core.specs.Boolean.{bit_of}
use Rattle.share_core.specs.Garbled.{dealt_label, input_piece, label_bytes, label_for}
use Rattle.share_core.proofs.GarbledLaws.{joined-more, joined-none, length-label}
use Rattle.share_yao.proofs.words.input_send.Goals as goal

pub loop-i-init : goal.loop-i-init
loop-i-init c = sym (joined-none _)

pub loop-i-preserved : goal.loop-i-preserved
loop-i-preserved c =
    let label : c.label_for.result ≡ label_for c.args.offset (dealt_label c.args.half.now.words (2 * c.loop-i.i)) (bit_of c.args.x c.loop-i.i) =
    c.label_for.ensures.value ∙ ap (λ (none : Label). label_for c.args.offset none c.bit_of.result) c.dealt_label-zero.ensures.value ∙ ap (λ (b : Bool). label_for c.args.offset (dealt_label c.args.half.now.words (2 * c.loop-i.i)) b) c.bit_of.ensures in
    joined-more 16 c.loop-i.i (λ k. input_piece c.args.offset c.args.x c.args.half.now.words k) c.loop-i.out (drop (16 * c.loop-i.i + 16) c.loop-i.out) c.put_label.new.out (omega arith) (length-label (label_for c.args.offset (dealt_label c.args.half.now.words (2 * c.loop-i.i)) (bit_of c.args.x c.loop-i.i))) c.loop-i.invariant
    (c.put_label.ensures ∙ ap (λ (l : Label). take (16 * c.loop-i.i) c.loop-i.out ++ (label_bytes l ++ drop (16 * c.loop-i.i + 16) c.loop-i.out)) label)
