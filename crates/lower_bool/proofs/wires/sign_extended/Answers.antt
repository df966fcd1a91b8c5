use Rattle.std.proofs.Common.{◌≡◌, ◌+◌, ◌-◌, ◌<◌, List, [], ◌∷◌, ◌++◌, length, get_or, take, sym, ◌∙◌, arith}
use Rattle.std.proofs.lemmas.List.{take_all, take_more}
use Rattle.gate_net.specs.declared.literal.Lit.{Lit}
use Rattle.hy_bits.specs.declared.op.Op.TheVariants.{SignExt}
use Rattle.lower_bool.specs.Operations.{row_at}
use Rattle.lower_bool.proofs.OperationLaws.{bits_pos, first-row, if_ok}
use Rattle.lower_bool.proofs.PlaceLaws.{sign-answer}
use Rattle.lower_bool.proofs.wires.sign_extended.Goals as goal

split_top : (ls : List Lit) (d : Lit) → 0 < length ls → ls ≡ take (length ls - 1) ls ++ get_or ls (length ls - 1) d ∷ []
split_top ls d h =
    let whole : length ls - 1 + 1 ≡ length ls = omega arith in
    sym (take_all (length ls - 1 + 1) ls (omega arith)) ∙ take_more ls (length ls - 1) d (omega arith)

pub returns-clause-answer : goal.returns-clause-answer
returns-clause-answer c =
    let long = first-row c.args.call c.args.rows.now SignExt c.requires.op c.requires.words (omega arith) in
    let some : 0 < length (row_at c.args.rows.now 0) = omega (arith, long, bits_pos c.args.call.first) in
    if_ok c.extended.result _ _ (rw c.get-low.ensures at c.extended.ensures.items) (λ r made.
    sign-answer c.args.call c.args.rows.now c.requires.words r.items c.requires.op (take (length (row_at c.args.rows.now 0) - 1) (row_at c.args.rows.now 0)) (get_or (row_at c.args.rows.now 0) (length (row_at c.args.rows.now 0) - 1) (record { code = 0 }))
    (split_top (row_at c.args.rows.now 0) (record { code = 0 }) some) made)
