-- What a loop has written.
use Rattle.std.proofs.Common.{◌≡◌, ℕ, ◌+◌, ◌-◌, List, ◌++◌, length, take, drop, Option, None, Some, ap, sym, ◌∙◌, append_assoc}
use Rattle.std.proofs.Math.Seq.{take-add}
use Rattle.std.proofs.lemmas.List.{take_rest}
use Rattle.std.specs.Io.KnownBytes.{Appends}

-- two writes, one after the other
pub Appends-both : (old middle new : Option (List ℕ)) (xs ys : List ℕ) → Appends old middle xs → Appends middle new ys → Appends old new (xs ++ ys)
Appends-both None middle new xs ys first second = tt
Appends-both (Some old) None new xs ys first second = absurd first
Appends-both (Some old) (Some middle) None xs ys first second = absurd second
Appends-both (Some old) (Some middle) (Some new) xs ys first second = second ∙ (ap (λ bytes. bytes ++ ys) first ∙ append_assoc old xs ys)

-- what was written, and then the first bytes of the rest
pub take-further : (written count : ℕ) (text : List ℕ) → take written text ++ take count (take (length text - written) (drop written text)) ≡ take (written + count) text
take-further written count text = ap (λ rest. take written text ++ take count rest) (take_rest text written) ∙ sym (take-add written count text)

pub Appends-further : (old middle new : Option (List ℕ)) (written count : ℕ) (text : List ℕ) → Appends old middle (take written text) → Appends middle new (take count (take (length text - written) (drop written text))) → Appends old new (take (written + count) text)
Appends-further old middle new written count text first second = rw (← take-further written count text) (Appends-both old middle new _ _ first second)
