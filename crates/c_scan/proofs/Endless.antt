-- Where no string ends after one quote, none ends after a later one of its line.
use Rattle.std.proofs.Common.{◌≡◌, ℕ, zero, suc, ◌+◌, ◌-◌, ◌<◌, ◌≤◌, List, [], ◌∷◌, drop, take, length, get_or, Bool, true, false, not, ◌&&◌, ◌==◌, cond, if◌then◌else◌, Option, None, Some, refl, subst, arith, ◌∙◌, ap, sym}
use Rattle.std.specs.List.{prefix_len}
use Rattle.std.specs.Option.{option_map}
use Rattle.std.proofs.lemmas.List.{take_rest, get_or-drop, drop-drop}
use Rattle.c_scan.specs.Lengths.{string_length, AreEndless}

-- what a byte tells, before which no newline stands and after which no string ends
step : (newline closes : Bool) (n at : ℕ) (rest : Option ℕ) → (if newline then None else if closes then Some 1 else option_map suc rest) ≡ None → at < cond (not newline) (1 + n) 0 → (rest ≡ None) × (at ≤ n)
step true closes n at rest endless within = absurd (omega arith)
step false true n at rest endless within = absurd (cc)
step false false n at None endless within = (refl, omega arith)
step false false n at (Some count) endless within = absurd (cc)

-- no string ends after a quote that stands before the line's end, where none ends after an earlier one
pub later : (taken : Bool) (text : List ℕ) (at : ℕ) → string_length taken text ≡ None → at < prefix_len (λ b. not (b == 10)) text → get_or text at 0 ≡ 34 → string_length false (drop (suc at) text) ≡ None
later taken [] at endless within quote = absurd (omega arith)
later taken (byte ∷ rest) zero endless within quote =
    let told = step (byte == 10) (byte == 34 && not taken) (prefix_len (λ b. not (b == 10)) rest) 0 (string_length (byte == 92 && not taken) rest) endless within in
    subst (λ (b : ℕ). string_length (b == 92 && not taken) rest ≡ None) quote told.0
later taken (byte ∷ rest) (suc at) endless within quote =
    let told = step (byte == 10) (byte == 34 && not taken) (prefix_len (λ b. not (b == 10)) rest) (suc at) (string_length (byte == 92 && not taken) rest) endless within in
    later (byte == 92 && not taken) rest at told.0 (omega (arith, told.1)) quote

beyond : (newline : Bool) (n at : ℕ) → suc at < cond (not newline) (1 + n) 0 → at < n
beyond true n at within = absurd (omega arith)
beyond false n at within = omega arith

-- the line of a text that begins with a string without an end
pub endless_line : (text : List ℕ) → string_length false (drop 1 text) ≡ None → AreEndless text 0 (prefix_len (λ b. not (b == 10)) text)
endless_line [] endless at from within quote = absurd (omega arith)
endless_line (byte ∷ rest) endless zero from within quote = endless
endless_line (byte ∷ rest) endless (suc at) from within quote = later false rest at endless (beyond (byte == 10) (prefix_len (λ b. not (b == 10)) rest) at within) quote

-- the same for a text that begins at an index of another one
pub endless_at : (text : List ℕ) (index count : ℕ) → AreEndless (take (length text - index) (drop index text)) 0 count → AreEndless text index (index + count)
endless_at text index count endless at from within quote =
    let same : drop index text ≡ take (length text - index) (drop index text) = sym (take_rest text index) in
    let whole : AreEndless (drop index text) 0 count = subst (λ (t : List ℕ). AreEndless t 0 count) (take_rest text index) endless in
    let place : index + (at - index) ≡ at = omega arith in
    let quoted : get_or (drop index text) (at - index) 0 ≡ 34 = get_or-drop index text (at - index) 0 ∙ (ap (λ i. get_or text i 0) place ∙ quote) in
    let further : index + suc (at - index) ≡ suc at = omega arith in
    let following : drop (suc (at - index)) (drop index text) ≡ drop (suc at) text = drop-drop (suc (at - index)) index text ∙ ap (λ i. drop i text) further in
    sym (ap (string_length false) following) ∙ whole (at - index) (omega arith) (omega arith) quoted

-- what is known of a text's later places is known of the first place of its rest
pub endless_here : (text : List ℕ) (index to : ℕ) → index < to → AreEndless text index to → AreEndless (take (length text - index) (drop index text)) 0 1
endless_here text index to within endless =
    subst (λ (t : List ℕ). AreEndless t 0 1) (sym (take_rest text index)) (λ at from below quote.
    let first : at ≡ 0 = omega arith in
    let place : index ≡ index + at = omega arith in
    let further : index + suc at ≡ suc index = omega arith in
    let quoted : get_or text index 0 ≡ 34 = ap (λ i. get_or text i 0) place ∙ (sym (get_or-drop index text at 0) ∙ quote) in
    let following : drop (suc at) (drop index text) ≡ drop (suc index) text = drop-drop (suc at) index text ∙ ap (λ i. drop i text) further in
    ap (string_length false) following ∙ endless index (omega arith) within quoted)
