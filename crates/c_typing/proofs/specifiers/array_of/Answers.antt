use Rattle.std.proofs.Common.{ℕ, List, ap, sym, ◌∙◌}
use Rattle.c_meaning.specs.declared.types.CType.{CType}
use Rattle.c_meaning.specs.declared.types.CType.TheVariants as ctype
use Rattle.c_typing.specs.Specifiers.{array_of}
use Rattle.c_typing.proofs.ArrayLaws.{array_last}
use Rattle.c_typing.proofs.specifiers.array_of.Goals as goal

pub loop-count-preserved : goal.loop-count-preserved
loop-count-preserved c =
    ap (λ (to : CType). array_of c.pop.new.self.items (ctype.Array c.in-Some.count to)) c.in_ok-new.ensures
    ∙ sym (array_last c.pop.new.self.items c.in-Some.count c.loop-count.ctype)
    ∙ ap (λ (counts : List ℕ). array_of counts c.loop-count.ctype) (sym c.in-Some.ensures.items)
    ∙ c.loop-count.invariant
