use Rattle.std.proofs.Common.{◌≡◌, ℕ, List, ◌++◌, length, ◌∙◌, ap, arith}
use Rattle.sha2.specs.Sha256.{sha256}
use Rattle.share_core.specs.Bytes.{bytes}
use Rattle.share_core.specs.Garbled.{hash, label_bytes, label_of}
use Rattle.share_yao.proofs.labels.hash.Goals as goal

pub returns-clause-value : goal.returns-clause-value
unfolding hash
returns-clause-value c =
    let eight : length c.split_at_mut-first.result.1.now ≡ 8 = omega arith in
    let message : c.as_slice.result.now ≡ label_bytes c.args.key ++ bytes 8 c.args.number =
    c.as_slice.ensures ∙ ap (λ (bs : List ℕ). bs ++ c.write_number.new.out) c.write_label.ensures ∙ ap (λ (bs : List ℕ). label_bytes c.args.key ++ bs) (c.write_number.ensures ∙ ap (λ (n : ℕ). bytes n c.args.number) eight) in
    c.read_label.ensures.value ∙ ap label_of (c.digest.ensures ∙ ap sha256 message)
