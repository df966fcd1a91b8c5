use Rattle.std.proofs.Common.{◌≡◌, ◌≤◌, ◌+◌, ◌*◌, ◌-◌}
use Rattle.c_reader.specs.Reading.{good, many}
use Rattle.c_grammar.specs.Tokens.{is_operator}
use Rattle.c_grammar.specs.Expressions.{binary_levels, read_chain}
use Rattle.c_grammar.specs.Levels.{readers_at}
use Rattle.c_reader.proofs.Gathering.{gathered}
use Rattle.c_operand.proofs.Chaining.{operand_reader}
use Rattle.c_operand.proofs.grammar.Grammar.+chains.Given as goal

abbrev pub decreases-chain : goal.decreases-chain
decreases-chain g l = 3 * l.above

abbrev pub decreases-next_level : goal.decreases-next_level
decreases-next_level g l = 3 * l.below + 2

abbrev pub decreases-operands : goal.decreases-operands
decreases-operands g l = 3 * l.below + 1

abbrev pub invariant-chain-loop-below : goal.invariant-chain-loop-below
invariant-chain-loop-below g l =
    (l.below ≤ l.above) × (read_chain l.below l.self.size l.self.left (readers_at l.self.size (l.self.left - 1)) l.fn.cursor ≡ good l.chain l.cursor)

abbrev pub invariant-operands-loop-turn : goal.invariant-operands-loop-turn
invariant-operands-loop-turn g l =
    many l.self.size (is_operator (binary_levels - l.below)) (operand_reader l.below l.self.size l.self.left (readers_at l.self.size (l.self.left - 1))) l.fn.cursor
    ≡ gathered l.rest (many (l._turn-end - l._turn) (is_operator (binary_levels - l.below)) (operand_reader l.below l.self.size l.self.left (readers_at l.self.size (l.self.left - 1))) l.cursor)
