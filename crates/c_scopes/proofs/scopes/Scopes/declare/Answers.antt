use Rattle.std.proofs.Common.{List, [], ◌∷◌, ◌++◌, sym, subst, arith, length}
use Rattle.std.proofs.lemmas.List.{length-append}
use Rattle.c_scopes.specs.Hiding.{Declarations, Told}
use Rattle.c_scopes.specs.Bindings.{AreBound, AreOpened}
use Rattle.c_scopes.proofs.BindingLaws.{are_bound_declared, opened_more, either_way}
use Rattle.c_scopes.proofs.scopes.Scopes.declare.Goals as goal

pub invariant_of-self-2 : goal.invariant_of-self-2
invariant_of-self-2 c =
    let opened = subst (λ (told : List Told). AreOpened 0 c.self.inside.opened.items (length told)) (sym c.in_ok-id.ensures.told) c.self.invariant.1 in
    let t : Told = record { id = c.in_ok-id.id; number = c.args.number } in
    either_way (λ (d : Declarations). AreBound c.id_of.new.names d × AreOpened 0 c.self.inside.opened.items (length d.told)) c.declare.result
    c.id_of.new.hiding c.declare.new.self (record { names = c.id_of.new.hiding.names; told = c.id_of.new.hiding.told ++ t ∷ [] })
    c.declare.ensures.added c.declare.ensures.kept (
      are_bound_declared c.id_of.new.names c.id_of.new.hiding t c.in_ok-id.ensures.id.0 c.in_ok-id.ensures.bound,
      opened_more 0 (length c.id_of.new.hiding.told) (length (c.id_of.new.hiding.told ++ t ∷ [])) c.self.inside.opened.items (omega (arith, length-append c.id_of.new.hiding.told (t ∷ []))) opened,
    )
    (c.in_ok-id.ensures.bound, opened)
