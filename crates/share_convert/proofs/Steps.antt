-- What the loops over the bits of a word need beside the laws of conversions.
use Rattle.std.proofs.Common.{◌≡◌, ℕ, ◌+◌, ◌%◌, sym, ap, ◌∙◌}
use Rattle.std.proofs.Math.Nat.{mod-add-mod, add-mod-mod, zero-mod}
use Rattle.share_core.specs.Conversions.{sum_over}
use Rattle.share_core.proofs.ConversionLaws.{sum_over-none, sum_over-more}

pub no_sum : (m : ℕ) (f : ℕ → ℕ) → 0 ≡ sum_over 0 f % m
no_sum m f = sym (ap (λ (u : ℕ). u % m) (sum_over-none f) ∙ zero-mod m)

-- one part more
pub sum_more : (m n s u : ℕ) (f : ℕ → ℕ) → s ≡ sum_over n f % m → u % m ≡ f n % m → (s + u) % m ≡ sum_over (n + 1) f % m
sum_more m n s u f so_far part =
    ap (λ (t : ℕ). (t + u) % m) so_far
    ∙ mod-add-mod (sum_over n f) m u
    ∙ sym (add-mod-mod (sum_over n f) u m)
    ∙ ap (λ (t : ℕ). (sum_over n f + t) % m) part
    ∙ add-mod-mod (sum_over n f) (f n) m
    ∙ ap (λ (t : ℕ). t % m) (sym (sum_over-more n f))
