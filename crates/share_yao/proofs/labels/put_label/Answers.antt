use Rattle.std.proofs.Common.{◌≡◌, ◌+◌, List, ℕ, ◌++◌, take, drop, ◌∙◌, ap}
use Rattle.std.proofs.lemmas.List.{drop-drop}
use Rattle.share_core.specs.Garbled.{label_bytes}
use Rattle.share_yao.proofs.labels.put_label.Goals as goal

pub returns : goal.returns
returns c =
    let after : c.split_at_mut-place.result.1.now ≡ drop (c.args.at + 16) c.args.out.now =
    c.split_at_mut-place.ensures.back ∙ ap (λ (bs : List ℕ). drop 16 bs) c.split_at_mut-rest.ensures.back ∙ drop-drop 16 c.args.at c.args.out.now in
    ap (λ (bs : List ℕ). bs ++ (c.write_label.new.out ++ c.split_at_mut-place.result.1.now)) c.split_at_mut-rest.ensures.front
    ∙ ap (λ (bs : List ℕ). take c.args.at c.args.out.now ++ (bs ++ c.split_at_mut-place.result.1.now)) c.write_label.ensures
    ∙ ap (λ (bs : List ℕ). take c.args.at c.args.out.now ++ (label_bytes c.args.label ++ bs)) after
