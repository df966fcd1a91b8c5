use Rattle.std.proofs.Common.{◌≡◌, ◌∙◌, ◌+◌, ◌≤◌, ℕ, suc, zero, sym, ap, [], ◌∷◌, ◌++◌, map, append_assoc, add-one, arith}
use Rattle.std.specs.Prelude.{codes}
use Rattle.std.specs.List.{range_with_len}
use Rattle.std.specs.String.{string_bytes}
use Rattle.work_gen.specs.Source.{Text}
use Rattle.work_gen.specs.Texts.{point_text, separated}
use Rattle.work_gen.proofs.Joins.{join-next}
use Rattle.work_gen.proofs.points.points_text.Goals as goal

-- the points below i, a comma and the point i are the points below i + 1
next : (head before after : Text) (number i : ℕ) → 1 ≤ i → before ≡ head ++ separated (map (point_text number) (range_with_len 0 i))
    → after ≡ (before ++ 44 ∷ []) ++ point_text number i → after ≡ head ++ separated (map (point_text number) (range_with_len 0 (i + 1)))
next head before after number zero some is grown = absurd (omega arith)
next head before after number (suc i) some is grown =
    let points = separated (map (point_text number) (range_with_len 0 (suc i))) in
    grown ∙ append_assoc before (44 ∷ []) (point_text number (suc i))
    ∙ ap (λ (t : Text). t ++ (44 ∷ point_text number (suc i))) is
    ∙ append_assoc head points (44 ∷ point_text number (suc i))
    ∙ ap (λ (t : Text). head ++ t) (sym (join-next 44 (point_text number) i))
    ∙ ap (λ (n : ℕ). head ++ separated (map (point_text number) (range_with_len 0 n))) (sym (add-one (suc i)))

pub loop-i-preserved : goal.loop-i-preserved
loop-i-preserved c =
    next (codes "{\"INPUT_A_p\":[") (string_bytes c.loop-i.text) (string_bytes c.push_point-in-loop-i.new.text) c.args.number c.loop-i.i (omega arith)
    c.loop-i.invariant
    (c.in_ok-push_point-2.ensures ∙ ap (λ (t : Text). t ++ point_text c.args.number c.loop-i.i) c.in_ok-push_str.ensures.bytes)
