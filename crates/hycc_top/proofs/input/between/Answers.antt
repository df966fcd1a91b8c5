use Rattle.std.proofs.Common.{◌≡◌, [], ◌∷◌, ◌++◌, sym, ap, ◌∙◌}
use Rattle.std.proofs.lemmas.List.{append_cancel_left}
use Rattle.hycc_top.proofs.Inputs.{framed_by, prefix_of, suffix_of}
use Rattle.hycc_top.proofs.input.between.Goals as goal

pub returns-in_default-strip_prefix : goal.returns-in_default-strip_prefix
returns-in_default-strip_prefix c =
    let one = rw c.in-Some.is at (prefix_of c.args.line.now (123 ∷ 34 ∷ []) c.strip_prefix.result c.strip_prefix.ensures.cases) in
    let two = rw c.in_default-strip_prefix.is at (prefix_of c.in-Some.rest.now c.args.name.now c.strip_prefix-2.result c.strip_prefix-2.ensures.cases) in
    λ digits is. two (34 ∷ 58 ∷ (digits ++ 125 ∷ [])) (append_cancel_left (123 ∷ 34 ∷ []) _ _ (sym one ∙ is))

pub returns : goal.returns
returns c =
    let one = rw c.in-Some.is at (prefix_of c.args.line.now (123 ∷ 34 ∷ []) c.strip_prefix.result c.strip_prefix.ensures.cases) in
    let two = rw c.in-Some-strip_prefix.is at (prefix_of c.in-Some.rest.now c.args.name.now c.strip_prefix-2.result c.strip_prefix-2.ensures.cases) in
    let three = rw c.in-Some-strip_prefix-2.is at (prefix_of c.in-Some-strip_prefix.rest.now (34 ∷ 58 ∷ []) c.strip_prefix-3.result c.strip_prefix-3.ensures.cases) in
    let opened : c.args.line.now ≡ 123 ∷ 34 ∷ (c.args.name.now ++ 34 ∷ 58 ∷ c.in-Some-strip_prefix-2.rest.now) = one ∙ ap (λ r. 123 ∷ 34 ∷ r) (two ∙ ap (λ r. c.args.name.now ++ r) three) in
    framed_by c.args.line.now c.args.name.now c.in-Some-strip_prefix-2.rest.now c.strip_suffix.result opened (suffix_of c.in-Some-strip_prefix-2.rest.now (125 ∷ []) c.strip_suffix.result c.strip_suffix.ensures.cases)
