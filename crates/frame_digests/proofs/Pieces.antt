-- One more piece of a list.
use Rattle.std.proofs.Common.{◌≡◌, ℕ, ◌+◌, ◌-◌, ◌≤◌, List, ◌++◌, take, drop, sym, ap, ◌∙◌, append_assoc, arith}
use Rattle.std.proofs.Math.Seq.{take-add}
use Rattle.std.proofs.lemmas.List.{drop-drop}

pub one_more : (m items : List ℕ) (from at size : ℕ) → from ≤ at → (m ++ take (at - from) (drop from items)) ++ take size (drop at items) ≡ m ++ take (at + size - from) (drop from items)
one_more m items from at size le =
    let k : ℕ = at - from in
    let there : at ≡ from + k = omega arith in
    let whole : k + size ≡ at + size - from = omega arith in
    append_assoc m (take k (drop from items)) (take size (drop at items))
    ∙ ap (λ (xs : List ℕ). m ++ xs)
    (ap (λ (xs : List ℕ). take k (drop from items) ++ take size xs) (ap (λ (n : ℕ). drop n items) there ∙ sym (drop-drop k from items))
    ∙ sym (take-add k size (drop from items))
    ∙ ap (λ (n : ℕ). take n (drop from items)) whole)
