use Rattle.std.proofs.Common.{◌≡◌, ℕ, ◌+◌, ◌-◌, ◌*◌, ◌%◌, ◌^◌, ◌≤◌, Bool, List, ◌++◌, length, take, replicate, refl, ap, ◌∙◌, arith, rules}
use Rattle.std.proofs.lemmas.List.{map-append, length-map, length-replicate}
use Rattle.std.proofs.lemmas.List.Elements.{All-append}
use Rattle.hy_bits.specs.Bits.{bit, number}
use Rattle.hy_bits.proofs.BitLaws.{number-append, number-zeros, number-row}
use Rattle.gate_net.specs.declared.literal.Lit.{Lit}
use Rattle.gate_net.specs.Circuit.{Circuit}
use Rattle.gate_net.specs.Meaning.{value, level}
use Rattle.gate_net.proofs.MeaningLaws.{level-constant}
use Rattle.gate_net.specs.Spelled.{values, spelled}
use Rattle.gate_net.proofs.ListLaws.{values-zeros, AllWithin-replicate}
use Rattle.adder_blocks.proofs.TreeLaws.{All-take, spelled-take}
use Rattle.mul_blocks.specs.Rows.{row_bits}
use Rattle.mul_blocks.proofs.ModLaws.{placed-mod}
use Rattle.mul_blocks.proofs.carry_save.placed_row.Goals as goal

-- zeros below the lowest literals' row
placed : (n m : Circuit) (bits : List Bool) (word high : List Lit) (digit l : Lit) (place rest : ℕ) → l.code ≡ 0 → values m bits high ≡ row_bits (value n bits digit) (values n bits (take rest word)) → place + rest ≡ length word → spelled m bits (replicate place l ++ high) ≡ (spelled n bits word * (2 ^ place * bit (value n bits digit))) % 2 ^ length word
placed n m bits word high digit l place rest e carried whole =
    let zeros : number (values m bits (replicate place l)) ≡ 0 = ap number (values-zeros m bits place l e) ∙ number-zeros place in
    let long : length (values m bits (replicate place l)) ≡ place = length-map (replicate place l) (value m bits) ∙ length-replicate place l in
    let row : number (values m bits high) ≡ bit (value n bits digit) * (spelled n bits word % 2 ^ rest) =
    ap number carried
    ∙ number-row (value n bits digit) (values n bits (take rest word))
    ∙ ap (λ (u : ℕ). bit (value n bits digit) * u) (spelled-take n bits word rest) in
    ap number (map-append (value m bits) (replicate place l) high)
    ∙ number-append (values m bits (replicate place l)) (values m bits high)
    ∙ ap (λ (u : ℕ). u + 2 ^ length (values m bits (replicate place l)) * number (values m bits high)) zeros
    ∙ ap (λ (j : ℕ). 0 + 2 ^ j * number (values m bits high)) long
    ∙ ap (λ (u : ℕ). 0 + 2 ^ place * u) row
    ∙ omega arith
    ∙ placed-mod (spelled n bits word) place rest (length word) (value n bits digit) whole

pub returns-clause-value : goal.returns-clause-value
returns-clause-value c = λ bits.
    let zeros : c.in_ok-out.out.items ≡ replicate c.args.place (record { code = 0 }) = search rules in
    rw (c.in_ok-extend_from_slice.ensures.items, zeros, c.deref.ensures.value)
    (placed c.args.net.now c.row.new.net bits c.args.word.now c.in_ok-high.high.items c.args.digit (record { code = 0 }) c.args.place (length c.args.word.now - c.args.place) refl (c.in_ok-high.ensures.value bits) (omega (arith, c.requires.within)))

pub returns-clause-level : goal.returns-clause-level
returns-clause-level c = λ d low digit.
    let zeros : c.in_ok-out.out.items ≡ replicate c.args.place (record { code = 0 }) = search rules in
    let m = c.row.new.net in
    rw (c.in_ok-extend_from_slice.ensures.items, zeros, c.deref.ensures.value)
    (All-append (λ l. level c.row.new.net l ≤ d + 1) (replicate c.args.place (record { code = 0 })) c.in_ok-high.high.items
    (AllWithin-replicate m (d + 1) c.args.place (record { code = 0 }) (omega (arith, level-constant m (record { code = 0 }) (omega arith))))
    (c.in_ok-high.ensures.level d (All-take (λ l. level c.args.net.now l ≤ d) _ c.args.word.now low) digit))
