-- Words that are kept of a source: those of an instruction among them, more drawn, and the first given up.
use Rattle.std.proofs.Common.{◌≡◌, ℕ, ◌+◌, ◌-◌, ◌≤◌, List, ◌++◌, length, take, drop, refl, sym, ap, ◌∙◌, arith}
use lib.Seq.{drop-append_seam, take-append_seam}
use Rattle.rand_core.specs.Stream.{Stream}
use Rattle.dealer.specs.Drawing.{left, taken}
use Rattle.dealer.proofs.StreamLaws.{left-add, length-taken, taken-add}

-- the first d are dropped
pub kept_drop : (d n : ℕ) (source : Stream) → drop d (taken (d + n) source) ≡ taken n (left d source)
kept_drop d n source =
    ap (λ (xs : List ℕ). drop d xs) (taken-add d n source)
    ∙ sym (ap (λ (k : ℕ). drop k (taken d source ++ taken n (left d source))) (length-taken d source))
    ∙ drop-append_seam (taken d source) (taken n (left d source))

-- the first d are taken
pub kept_take : (d n : ℕ) (source : Stream) → take d (taken (d + n) source) ≡ taken d source
kept_take d n source =
    ap (λ (xs : List ℕ). take d xs) (taken-add d n source)
    ∙ sym (ap (λ (k : ℕ). take k (taken d source ++ taken n (left d source))) (length-taken d source))
    ∙ take-append_seam (taken d source) (taken n (left d source))

-- d of them from place `at` on are those that are drawn after as many more
pub kept_read : (base at d total : ℕ) (source : Stream) → at + d ≤ total → take d (drop at (taken total (left base source))) ≡ taken d (left (base + at) source)
kept_read base at d total source le =
    let rest : ℕ = total - (at + d) in
    let whole : total ≡ at + (d + rest) = omega arith in
    ap (λ (n : ℕ). take d (drop at (taken n (left base source)))) whole
    ∙ ap (λ (xs : List ℕ). take d xs) (kept_drop at (d + rest) (left base source))
    ∙ kept_take d rest (left at (left base source))
    ∙ ap (taken d) (sym (left-add base at source))
