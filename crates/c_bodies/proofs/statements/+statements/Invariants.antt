-- What is left of a list gives what the whole gives.
use Rattle.std.proofs.Common.{◌≡◌, map, drop}
use Rattle.c_typing.specs.Walks.{along}
use Rattle.c_bodies.specs.Statements.{types_section, types_statement, types_item, statement_after}
use Rattle.c_bodies.proofs.statements.+statements.Given as goal

abbrev pub invariant-sections_of-loop-next : goal.invariant-sections_of-loop-next
invariant-sections_of-loop-next l =
    along (map (λ section. section l.around l.scalar) (map (types_section l.body) (drop l.next-index l.list))) l.all l.env
    ≡ along (map (λ section. section l.around l.scalar) (map (types_section l.body) l.list)) l.initial.all l.initial.env

abbrev pub invariant-statements_of-loop-next : goal.invariant-statements_of-loop-next
invariant-statements_of-loop-next l =
    along (map (statement_after l.around) (map (types_statement l.body) (drop l.next-index l.list))) l.all l.env
    ≡ along (map (statement_after l.around) (map (types_statement l.body) l.list)) l.initial.all l.initial.env

abbrev pub invariant-items_of-loop-next : goal.invariant-items_of-loop-next
invariant-items_of-loop-next l =
    along (map (λ part. part l.around) (map (types_item l.body) (drop l.next-index l.list))) l.all l.env
    ≡ along (map (λ part. part l.around) (map (types_item l.body) l.list)) l.initial.all l.initial.env
