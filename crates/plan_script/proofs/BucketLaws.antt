-- Places of gates by depth: with one gate more, and with none.
use Rattle.std.proofs.Common.{◌≡◌, ◌≢◌, ◌==◌, ℕ, suc, zero, ◌+◌, ◌<◌, Bool, true, false, List, [], ◌∷◌, ◌++◌, filter, length, replicate, slice_index, slice_set, if◌then◌else◌, refl, sym, ap, ◌∙◌, arith}
use Rattle.std.proofs.lemmas.List.{append-nil, get_or-set_other, get_or-set_same, length-set}
use Rattle.module_split.specs.Cut.{below}
use Rattle.module_split.proofs.UseLaws.{filter_below-more}
use Rattle.plan_script.specs.Buckets.{AreBuckets, bucket_at}

is-same : (a b : ℕ) → (a == b) ≡ true → a ≡ b
is-same a b e = grind arith

is-other : (a b : ℕ) → (a == b) ≡ false → b ≢ a
is-other a b e p = absurd (grind arith)

module _ (depths : List ℕ) (n d e : ℕ) (old new : List (List ℕ)) where
  bucket-more : (t : Bool) → (d == e) ≡ t → d ≡ slice_index depths n → d < length old → bucket_at old e ≡ filter (λ k. slice_index depths k == e) (below n) → new ≡ slice_set old d (bucket_at old d ++ n ∷ []) →
      bucket_at new e ≡ filter (λ k. slice_index depths k == e) (below (n + 1))
  bucket-more true h is within so puts =
      let same : d ≡ e = is-same d e h in
      ap (λ (bs : List (List ℕ)). bucket_at bs e) puts ∙ ap (bucket_at (slice_set old d (bucket_at old d ++ n ∷ []))) (sym same) ∙ get_or-set_same old d (bucket_at old d ++ n ∷ []) [] within
      ∙ ap (λ (k : ℕ). bucket_at old k ++ n ∷ []) same ∙ ap (λ (ks : List ℕ). ks ++ n ∷ []) so
      ∙ sym (filter_below-more (λ k. slice_index depths k == e) n ∙ ap (λ (b : Bool). filter (λ k. slice_index depths k == e) (below n) ++ (if b then n ∷ [] else [])) (ap (λ (x : ℕ). x == e) (sym is) ∙ h))
  bucket-more false h is within so puts =
      ap (λ (bs : List (List ℕ)). bucket_at bs e) puts ∙ get_or-set_other old d e (bucket_at old d ++ n ∷ []) [] (is-other d e h) ∙ so
      ∙ sym (filter_below-more (λ k. slice_index depths k == e) n ∙ ap (λ (b : Bool). filter (λ k. slice_index depths k == e) (below n) ++ (if b then n ∷ [] else [])) (ap (λ (x : ℕ). x == e) (sym is) ∙ h) ∙ append-nil (filter (λ k. slice_index depths k == e) (below n)))

pub buckets-more : (depths : List ℕ) (n count : ℕ) (old new : List (List ℕ)) → slice_index depths n < count → AreBuckets depths n count old → new ≡ slice_set old (slice_index depths n) (bucket_at old (slice_index depths n) ++ n ∷ []) → AreBuckets depths (n + 1) count new
buckets-more depths n count old new low are puts = record {
  size = ap length puts ∙ length-set old (slice_index depths n) _ ∙ are.size;
  each = λ e within. bucket-more depths n (slice_index depths n) e old new (slice_index depths n == e) refl refl (omega (arith, are.size)) (are.each e within) puts;
}

none-at : (count e : ℕ) → bucket_at (replicate count []) e ≡ []
none-at zero e = refl
none-at (suc count) zero = refl
none-at (suc count) (suc e) = none-at count e

pub buckets-none : (depths : List ℕ) (count : ℕ) (buckets : List (List ℕ)) → buckets ≡ replicate count [] → AreBuckets depths 0 (length buckets) buckets
buckets-none depths count buckets is = record { size = refl; each = λ e within. ap (λ (bs : List (List ℕ)). bucket_at bs e) is ∙ none-at count e }
