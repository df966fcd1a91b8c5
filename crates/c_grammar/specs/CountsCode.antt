-- The counts of words as data.
use Rattle.std.specs.Prelude.{ℕ, refl}
use Rattle.std.specs.Coded.{Coded, code_by, coded×, coded_ℕ}
use Rattle.c_tree.specs.TypeWords.{Counts}

abbrev pub counts_code : Coded Counts
counts_code =
    code_by (ℕ × (ℕ × (ℕ × (ℕ × (ℕ × ℕ))))) (coded× coded_ℕ (coded× coded_ℕ (coded× coded_ℕ (coded× coded_ℕ (coded× coded_ℕ coded_ℕ)))))
    (λ c. (c.alone, (c.char, (c.sign, (c.short, (c.int, c.long))))))
    (λ p. record { alone = p.0; char = p.1.0; sign = p.1.1.0; short = p.1.1.1.0; int = p.1.1.1.1.0; long = p.1.1.1.1.1 }) (λ _. refl)
