use Rattle.std.proofs.Common.{List, [], ◌∷◌, ◌++◌, ◌+◌, map, drop, ap, sym, subst, ◌∙◌}
use Rattle.c_tree.specs.declared.expressions.Expr.{Expr}
use Rattle.c_tree.specs.declared.expressions.StructDeclarator.{StructDeclarator}
use Rattle.c_typing.specs.declared.values.TypedValue.{TypedValue}
use Rattle.c_typing.specs.Walks.{Walk, each}
use Rattle.c_typing.specs.Expressions.{valued}
use Rattle.c_expressions.specs.Typing.{types_expr, types_declarator}
use Rattle.c_expressions.proofs.Running.{each_after, each_passes, each_done, map_both}
use Rattle.c_expressions.proofs.Members.{member_is}
use Rattle.c_typing.specs.Walks.{Tells, Checked, along}
use Rattle.c_typing.specs.declared.structs.Members.{Members}
use Rattle.c_expressions.proofs.+typing.Goals as goal

pub expressions::each_value-loop-argument-preserved : goal.expressions::each_value-loop-argument-preserved
expressions::each_value-loop-argument-preserved t c =
    ap (λ (values : List TypedValue). each_after values (each (map valued (map types_expr (drop (c.loop-argument.argument-index + 1) c.args.arguments.now))) c.value_of.new.env)) c.in_ok-push_back.ensures.items
    ∙ ap (λ (walks : List (Walk TypedValue)). each_after (c.loop-argument.values.items ++ c.in_ok-value_of.field-0 ∷ []) (each walks c.value_of.new.env)) (map_both types_expr valued (drop (c.loop-argument.argument-index + 1) c.args.arguments.now))
    ∙ each_passes (λ (e : Expr). valued (types_expr e)) c.args.arguments.now c.loop-argument.argument-index c.argument-item.result c.loop-argument.env c.loop-argument.values.items c.loop-argument-test.true c.argument-item.is
    c.in_ok-value_of.field-0 c.value_of.new.env _
    (ap (λ (walks : List (Walk TypedValue)). each_after c.loop-argument.values.items (each walks c.loop-argument.env)) (sym (map_both types_expr valued (drop c.loop-argument.argument-index c.args.arguments.now))) ∙ c.loop-argument.invariant)
    c.in_ok-value_of.ensures

pub expressions::each_value-returns : goal.expressions::each_value-returns
expressions::each_value-returns t c =
    each_done (λ (e : Expr). valued (types_expr e)) c.args.arguments.now c.loop-argument.argument-index c.loop-argument.env c.loop-argument.values.items _ c.loop-argument-test.false
    (ap (λ (walks : List (Walk TypedValue)). each_after c.loop-argument.values.items (each walks c.loop-argument.env)) (sym (map_both types_expr valued (drop c.loop-argument.argument-index c.args.arguments.now))) ∙ c.loop-argument.invariant)

pub types::member-returns : goal.types::member-returns
types::member-returns t c =
    subst (λ (checked : Checked Members). Tells c.along_declarators.result c.along_declarators.new.env checked)
    (sym (member_is c.args.declaration.now c.args.members c.args.env.now c.member_type.new.env c.in_ok-ctype.ctype c.in_ok-ctype.ensures))
    (subst (λ (names : List StructDeclarator). Tells c.along_declarators.result c.along_declarators.new.env (along (map (λ name. name c.in_ok-ctype.ctype) (map types_declarator names)) c.args.members c.member_type.new.env)) c.as_slice.ensures c.along_declarators.ensures)
