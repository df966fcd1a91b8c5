use Rattle.std.proofs.Common.{◌+◌, ℕ, List, ◌∙◌, sym, ap, subst}
use Rattle.c_scopes.specs.Bindings.{bound_by, AreBound}
use Rattle.c_scopes.specs.Hiding.{Declarations}
use Rattle.c_scopes.proofs.BindingLaws.{position_name, new_name, bound-added, are_bound_added, name_added}
use Rattle.c_scopes.proofs.scopes.id_of.Goals as goal

pub returns-in-Some-clause-id : goal.returns-in-Some-clause-id
returns-in-Some-clause-id c = position_name c.args.names.now c.args.name.now c.in-Some.id (sym c.in-Some.ensures)

pub returns-clause-same : goal.returns-clause-same
returns-clause-same c =
    ap (λ (names : List (List ℕ)). bound_by names c.args.hiding.now.told) (c.in_ok-note.ensures.noted ∙ new_name c.args.names.now c.args.name.now (sym c.in_default.ensures))
    ∙ bound-added c.args.names.now c.args.name.now c.args.hiding.now.told c.requires.within

pub returns-clause-bound : goal.returns-clause-bound
returns-clause-bound c =
    let added = new_name c.args.names.now c.args.name.now (sym c.in_default.ensures) in
    let d : Declarations = record { names = c.args.hiding.now.names + 1; told = c.args.hiding.now.told } in
    subst (λ (e : Declarations). AreBound c.note.new.self e) (sym c.in_ok-add_name.ensures.added)
    (subst (λ (names : List (List ℕ)). AreBound names d) (sym (c.in_ok-note.ensures.noted ∙ added))
    (are_bound_added c.args.names.now c.args.name.now c.args.hiding.now (sym c.in_default.ensures) c.requires))

pub returns-clause-id : goal.returns-clause-id
returns-clause-id c =
    rw (c.in_ok-note.ensures.noted, new_name c.args.names.now c.args.name.now (sym c.in_default.ensures))
    (name_added c.args.names.now c.args.name.now c.len-id.result c.len-id.ensures)
