use Rattle.std.proofs.Common.{◌≡◌, ◌==◌, [], ◌∷◌, ◌++◌, sym, ap, ◌∙◌}
use Rattle.std.specs.Bool.{then_some}
use Rattle.c_grammar.specs.Levels.{readers_at}
use Rattle.c_reader.specs.Samples.{end_token}
use Rattle.c_expr.proofs.Returning.{all_of_good, all_of_bad, all_of_deep}
use Rattle.c_expr.proofs.run.alone.Goals as goal

pub returns-in-Ok : goal.returns-in-Ok
returns-in-Ok c =
    let cursor = c.new-cursor.ensures in
    let tail = c.as_slice.ensures in
    let last = c.in_ok-end.ensures in
    let list : c.args.tokens.now ++ end_token ∷ [] ≡ c.new-cursor.result = cc in
    c.then_some.ensures ∙ ap (λ n. then_some (n == 1) c.in-Ok.found) c.left.ensures.count ∙ sym (all_of_good _ _ _ (ap (readers_at c.args.size c.args.left).expr list ∙ c.in-Ok.ensures))

pub returns-in-Err-Bad : goal.returns-in-Err-Bad
returns-in-Err-Bad c =
    let cursor = c.new-cursor.ensures in
    let tail = c.as_slice.ensures in
    let last = c.in_ok-end.ensures in
    let list : c.args.tokens.now ++ end_token ∷ [] ≡ c.new-cursor.result = cc in
    sym (all_of_bad _ _ (ap (readers_at c.args.size c.args.left).expr list ∙ c.in-Err-Bad.ensures.0 c.in-Err-Bad.field-0-is))

pub returns-in-Err-Deep : goal.returns-in-Err-Deep
returns-in-Err-Deep c =
    let cursor = c.new-cursor.ensures in
    let tail = c.as_slice.ensures in
    let last = c.in_ok-end.ensures in
    let list : c.args.tokens.now ++ end_token ∷ [] ≡ c.new-cursor.result = cc in
    sym (all_of_deep _ _ (ap (readers_at c.args.size c.args.left).expr list ∙ c.in-Err-Deep.ensures.1 c.in-Err-Deep.field-0-is))
