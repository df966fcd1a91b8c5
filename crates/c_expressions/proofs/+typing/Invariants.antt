-- What is left of a list gives what the whole gives.
use Rattle.std.proofs.Common.{◌≡◌, map, drop}
use Rattle.c_typing.specs.Walks.{Passes, after, along, each}
use Rattle.c_typing.specs.declared.values.Typing.TheVariants.{Gives}
use Rattle.c_typing.specs.Expressions.{valued}
use Rattle.c_expressions.specs.Typing.{chained, types_expr, types_suffix, types_operand, types_member, types_declarator, types_dimension, types_enumerator}
use Rattle.c_expressions.proofs.Running.{each_after}
use Rattle.c_expressions.proofs.+typing.Given as goal

abbrev pub invariant-expressions::along_suffixes-loop-next : goal.invariant-expressions::along_suffixes-loop-next
invariant-expressions::along_suffixes-loop-next l = along (map types_suffix (drop l.next-index l.suffixes)) l.typing l.env ≡ along (map types_suffix l.suffixes) l.initial.typing l.initial.env

abbrev pub invariant-expressions::chain-loop-next : goal.invariant-expressions::chain-loop-next
invariant-expressions::chain-loop-next l =
    after (along (map types_operand (drop l.next-index l.operands)) l.left l.env) (λ left env. Passes (Gives left.value) env)
    ≡ chained l.fn.first (map types_operand l.operands) l.fn.env

abbrev pub invariant-expressions::each_value-loop-argument : goal.invariant-expressions::each_value-loop-argument
invariant-expressions::each_value-loop-argument l = each_after l.values.items (each (map valued (map types_expr (drop l.argument-index l.arguments))) l.env) ≡ each (map valued (map types_expr l.arguments)) l.initial.env

abbrev pub invariant-types::along_members-loop-next : goal.invariant-types::along_members-loop-next
invariant-types::along_members-loop-next l = along (map types_member (drop l.next-index l.declarations)) l.all l.env ≡ along (map types_member l.declarations) l.initial.all l.initial.env

abbrev pub invariant-types::along_declarators-loop-next : goal.invariant-types::along_declarators-loop-next
invariant-types::along_declarators-loop-next l = along (map (λ name. name l.ctype) (map types_declarator (drop l.next-index l.names))) l.all l.env ≡ along (map (λ name. name l.ctype) (map types_declarator l.names)) l.initial.all l.initial.env

abbrev pub invariant-types::along_enumerators-loop-next : goal.invariant-types::along_enumerators-loop-next
invariant-types::along_enumerators-loop-next l = along (map types_enumerator (drop l.next-index l.constants)) l.word l.env ≡ along (map types_enumerator l.constants) l.initial.word l.initial.env

abbrev pub invariant-types::dimensions-loop-of : goal.invariant-types::dimensions-loop-of
invariant-types::dimensions-loop-of l = each_after l.counts.items (each (map types_dimension (drop l.of-index l.list)) l.env) ≡ each (map types_dimension l.list) l.initial.env
