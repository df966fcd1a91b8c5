use Rattle.std.proofs.Common.{◌∙◌, sym}
use Rattle.std.proofs.lemmas.Bool.{eq-eqb}
use Rattle.c_constants.proofs.Turns.{declared_found}
use Rattle.c_constants.proofs.counting.declared_word.Goals as goal

pub returns-then-declared-object : goal.returns-then-declared-object
returns-then-declared-object c =
    c.parts_word.ensures
    ∙ sym (declared_found c.args.object c.args.list.now c.loop-declared.declared-index c.declared-item.result c.loop-declared-test.true c.declared-item.is (eq-eqb _ _ c.if-declared-object.true))
    ∙ c.loop-declared.invariant
