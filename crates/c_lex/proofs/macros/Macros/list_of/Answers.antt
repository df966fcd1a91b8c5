use Rattle.std.proofs.Common.{ap, ◌∙◌, Vec, Global}
use Rattle.std.specs.Option.{option_map}
use Rattle.c_tree.specs.declared.token.Token.{Token}
use Rattle.c_lex.proofs.Tables.{macros-list}
use Rattle.c_lex.proofs.macros.Macros.list_of.Goals as goal

pub returns-in_err-list : goal.returns-in_err-list
returns-in_err-list c = rw (← c.self.view_is, c.from_residual.ensures) (ap (option_map (λ (v : Vec Token Global). v.items)) c.in_err-list.ensures.value ∙ macros-list c.self.inside.table.entries c.args.name.now)

pub returns : goal.returns
returns c = rw (← c.self.view_is, c.as_slice.ensures.value) (ap (option_map (λ (v : Vec Token Global). v.items)) c.in_ok-list.ensures.value ∙ macros-list c.self.inside.table.entries c.args.name.now)
