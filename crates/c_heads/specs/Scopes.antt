-- The scopes of blocks and of statements, and tags that stand alone in them.
use Rattle.std.specs.Prelude.{Option, None, Some}
use Rattle.c_tree.specs.declared.expressions.TagSpecifier.{TagSpecifier}
use Rattle.c_tree.specs.declared.expressions.Expr.TheOpen.{TagSpecifier-F}
use Rattle.c_tree.specs.declared.expressions.Expr.TheViews.{out-TagSpecifier}
use Rattle.c_scopes.specs.Scopes.{opened_in, closed}
use Rattle.c_typing.specs.declared.environment.Environment.{Environment}
use Rattle.c_typing.specs.Walks.{Passes, Walk, after}
use Rattle.c_typing.specs.Specifiers.{struct_alone}
use Rattle.c_expressions.specs.Typing.{types_tag}

-- ---- scopes of blocks (C11 6.2.1p4, 6.8.4p3, 6.8.5p5)

abbrev pub within : Environment → Environment
within env = record env { names = opened_in env.names; tag_names = opened_in env.tag_names }

abbrev pub outside : Environment → Environment
outside env = record env { names = closed env.names; tag_names = closed env.tag_names }

abbrev pub scoped : {A : Type 0} → Walk A → Walk A
scoped walk env = after (walk (within env)) (λ a env. Passes a (outside env))

-- ---- tags

-- C11 6.7.2.3p7: "struct s;" declares the tag in its scope; anything else is as in other places
abbrev pub layer_tag_alone : {A B C D E F G H I J : Type 0} → TagSpecifier → TagSpecifier-F A B C D E F G H I J → Walk (Unit {0})
layer_tag_alone tag (TagSpecifier-F.Struct place (Some name) None) env = struct_alone name env
layer_tag_alone tag other env = after ((types_tag tag).walk env) (λ c env. Passes tt env)

abbrev pub tag_alone : TagSpecifier → Walk (Unit {0})
tag_alone tag = layer_tag_alone tag (out-TagSpecifier tag)
