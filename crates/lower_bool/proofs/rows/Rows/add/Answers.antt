use Rattle.std.proofs.Common.{List, [], ◌∷◌, ◌++◌, ap, ◌∙◌, rules}
use Rattle.lower_bool.specs.Rows.{rows_of}
use Rattle.lower_bool.proofs.RowLaws.{rows-push}
use Rattle.lower_bool.proofs.rows.Rows.add.Goals as goal

pub returns-clause-added : goal.returns-clause-added
returns-clause-added c =
    ap (rows_of c.extend_from_slice.new.self.items) c.in_ok-push.ensures.items
    ∙ rows-push c.self.inside.literals.items c.args.row.now c.extend_from_slice.new.self.items c.self.inside.spans.items c.len-start.result c.len-end.result c.self.invariant c.in_ok-extend_from_slice.ensures.items (search rules) (search rules)
    ∙ ap (λ (rows : List _). rows ++ c.args.row.now ∷ []) c.self.view_is
