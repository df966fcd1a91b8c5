-- Members of one type, by the type that is walked first.
use Rattle.std.proofs.Common.{◌≡◌, ℕ, map, ap, ◌∙◌}
use Rattle.c_tree.specs.declared.expressions.StructDeclaration.{StructDeclaration}
use Rattle.c_tree.specs.declared.expressions.Expr.TheViews.{out-StructDeclaration}
use Rattle.c_tree.specs.declared.expressions.Expr.TheFolds.{fold_out-StructDeclaration}
use Rattle.c_meaning.specs.declared.types.CType.{CType}
use Rattle.c_typing.specs.declared.environment.Environment.{Environment}
use Rattle.c_typing.specs.declared.structs.Members.{Members}
use Rattle.c_typing.specs.Walks.{Checked, Passes, Walk, after, along}
use Rattle.c_typing.specs.Expressions.{ExprWalk, OperandWalk}
use Rattle.c_expressions.specs.Typing.{SuffixWalk, TagWalk, SpecsWalk, EnumeratorWalk, MembersWalk, DeclaratorWalk, expr_rule, suffix_rule, tag_rule, spelling_rule, dimension_rule, enumerator_rule, operand_rule, specs_rule, member_rule, declarator_rule, types_member, types_specs, types_declarator, member_type}

pub member_is : (d : StructDeclaration) (members : Members) (env env' : Environment) (c : CType) → member_type (types_specs (out-StructDeclaration d).specs) env ≡ Passes c env'
    → types_member d members env ≡ along (map (λ name. name c) (map types_declarator (out-StructDeclaration d).names)) members env'
member_is d members env env' c is =
    ap (λ (w : MembersWalk). w members env)
    (fold_out-StructDeclaration ExprWalk SuffixWalk TagWalk SpecsWalk (Walk ℕ) EnumeratorWalk OperandWalk SpecsWalk MembersWalk DeclaratorWalk
    expr_rule suffix_rule tag_rule spelling_rule dimension_rule enumerator_rule operand_rule specs_rule member_rule declarator_rule d)
    ∙ ap (λ (r : Checked CType). after r (λ c env. along (map (λ name. name c) (map types_declarator (out-StructDeclaration d).names)) members env)) is
