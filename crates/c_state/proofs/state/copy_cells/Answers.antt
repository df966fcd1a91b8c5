use Rattle.std.proofs.Common.{rules, ◌≡◌, ◌+◌, ◌-◌, ◌++◌, ◌∷◌, [], ◌∙◌, ap, List}
use Rattle.c_meaning.specs.declared.values.Cell.{Cell}
use Rattle.c_meaning.specs.State.{cells_from}
use Rattle.c_state.proofs.Objects.{copied_more}
use Rattle.c_state.proofs.state.copy_cells.Goals as goal

pub loop-number-preserved : goal.loop-number-preserved
loop-number-preserved c =
    let pushed : c.push.new.self.items ≡ c.loop-number.copy.items ++ c.cell_at.result ∷ [] = search rules in
    let n = c.loop-number.number in
    ap (λ (copy : List Cell). copy ++ cells_from (c.args.count - (n + 1)) (c.args.at + (n + 1)) c.args.cells.now) pushed
    ∙ copied_more c.args.cells.now c.loop-number.copy.items c.args.count n c.args.at c.cell_at.result c.loop-number-test.true (search rules)
    ∙ c.loop-number.invariant
