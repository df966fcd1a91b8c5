-- What runs of inputs and constants carry.
use Rattle.std.proofs.Common.{◌≡◌, ℕ, zero, suc, ◌+◌, ◌*◌, ◌%◌, ◌^◌, ◌<◌, ◌≤◌, Bool, true, false, List, [], ◌∷◌, length, get_or, map, take, drop, refl, sym, ap, ◌∙◌, arith}
use Rattle.std.specs.List.{All, range_with_len}
use Rattle.std.proofs.lemmas.List.{drop_more}
use Rattle.hy_bits.specs.Bits.{bit, number, low_bits}
use Rattle.hy_bits.proofs.BitLaws.{number-low_bits}
use Rattle.gate_net.specs.declared.literal.Lit.{Lit}
use Rattle.gate_net.specs.Circuit.{Circuit, Stands}
use Rattle.gate_net.specs.Meaning.{value, level}
use Rattle.gate_net.specs.Spelled.{values, spelled, AllStand, AllWithin, variables_from, constants_of}
use Rattle.gate_net.proofs.ListLaws.{All-cons}
use Rattle.gate_net.proofs.MeaningLaws.{value-input, level-input, value-false, value-true, level-constant}

module _ (n : Circuit) where
  -- a run of inputs stands, at level 0, and carries the input bits from there on
  pub AllStand-inputs : (first count : ℕ) → first + count ≤ n.ins → AllStand n (variables_from first count)
  AllStand-inputs first zero within = λ k d h. absurd (omega arith)
  AllStand-inputs first (suc count) within =
      All-cons (Stands n) (record { code = 2 * first + 2 }) (variables_from (first + 1) count) (omega arith) (AllStand-inputs (first + 1) count (omega arith))

  pub AllWithin-inputs : (first count : ℕ) → first + count ≤ n.ins → AllWithin n 0 (variables_from first count)
  AllWithin-inputs first zero within = λ k d h. absurd (omega arith)
  AllWithin-inputs first (suc count) within =
      All-cons (λ l. level n l ≤ 0) (record { code = 2 * first + 2 }) (variables_from (first + 1) count) (omega (arith, level-input n first (record { code = 2 * first + 2 }) (omega arith) refl)) (AllWithin-inputs (first + 1) count (omega arith))

  pub values-inputs : (bits : List Bool) (first count : ℕ) → first + count ≤ n.ins → length bits ≡ n.ins → values n bits (variables_from first count) ≡ take count (drop first bits)
  values-inputs bits first zero within long = refl
  values-inputs bits first (suc count) within long =
      let here : value n bits (record { code = 2 * first + 2 }) ≡ get_or bits first false = value-input n bits first (record { code = 2 * first + 2 }) (omega arith) refl in
      let rest = values-inputs bits (first + 1) count (omega arith) long in
      let one : drop first bits ≡ get_or bits first false ∷ drop (first + 1) bits = drop_more bits first false (omega arith) in
      rw one (ap (λ b. b ∷ values n bits (variables_from (first + 1) count)) here ∙ ap (λ bs. get_or bits first false ∷ bs) rest)

  -- constants stand, at level 0, and carry themselves
  pub AllStand-constants : (bs : List Bool) → AllStand n (constants_of bs)
  AllStand-constants [] = λ k d h. absurd (omega arith)
  AllStand-constants (true ∷ bs) = All-cons (Stands n) (record { code = 1 }) (constants_of bs) (omega arith) (AllStand-constants bs)
  AllStand-constants (false ∷ bs) = All-cons (Stands n) (record { code = 0 }) (constants_of bs) (omega arith) (AllStand-constants bs)

  pub AllWithin-constants : (bs : List Bool) → AllWithin n 0 (constants_of bs)
  AllWithin-constants [] = λ k d h. absurd (omega arith)
  AllWithin-constants (true ∷ bs) = All-cons (λ l. level n l ≤ 0) (record { code = 1 }) (constants_of bs) (omega (arith, level-constant n (record { code = 1 }) (omega arith))) (AllWithin-constants bs)
  AllWithin-constants (false ∷ bs) = All-cons (λ l. level n l ≤ 0) (record { code = 0 }) (constants_of bs) (omega (arith, level-constant n (record { code = 0 }) (omega arith))) (AllWithin-constants bs)

  pub values-constants : (bits bs : List Bool) → values n bits (constants_of bs) ≡ bs
  values-constants bits [] = refl
  values-constants bits (true ∷ bs) = ap (λ b. b ∷ values n bits (constants_of bs)) (value-true n bits (record { code = 1 }) refl) ∙ ap (λ xs. true ∷ xs) (values-constants bits bs)
  values-constants bits (false ∷ bs) = ap (λ b. b ∷ values n bits (constants_of bs)) (value-false n bits (record { code = 0 }) refl) ∙ ap (λ xs. false ∷ xs) (values-constants bits bs)

  -- the constants of a word spell it
  pub spelled-constants : (bits : List Bool) (w a : ℕ) → spelled n bits (constants_of (low_bits w a)) ≡ a % 2 ^ w
  spelled-constants bits w a = ap number (values-constants bits (low_bits w a)) ∙ number-low_bits w a
