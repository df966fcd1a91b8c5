use Rattle.std.proofs.Common.{◌+◌, ◌<◌, length, ap, ◌∙◌, arith, rules}
use Rattle.std.specs.List.{All}
use Rattle.gate_net.proofs.GrowthLaws.{Grows-trans, Grows-then}
use Rattle.adder_blocks.specs.Cells.{CellStands, CellWithin, carried, carry_after}
use Rattle.adder_blocks.proofs.CellLaws.{CellStands-Grows, CellWithin-Grows, All-CellStands-Grows, All-CellWithin-Grows, carried-Grows, carry_after-Grows, carry_after-parts}
use Rattle.adder_blocks.proofs.TreeLaws.{halve, All-take, All-drop}
use Rattle.adder_blocks.proofs.lookahead.+joined.Goals as goal

pub joined-requires-2 : goal.joined-requires-2
joined-requires-2 t c =
    let shorter : length c.split_at.result.1.now < length c.args.cells.now = omega (arith, c.split_at.ensures.back_len, c.requires.some) in
    let stand : All (CellStands c.args.net.now) c.split_at.result.1.now = rw c.split_at.ensures.back (All-drop (CellStands c.args.net.now) _ c.args.cells.now c.requires.stand) in
    (search rules, (All-CellStands-Grows c.in_ok-first.ensures.grows c.split_at.result.1.now stand, omega (arith, c.split_at.ensures.back_len, c.requires.some)))

pub compose-requires-clause-second : goal.compose-requires-clause-second
compose-requires-clause-second t c = CellStands-Grows c.in_ok-second.ensures.grows c.in_ok-first.first c.in_ok-first.ensures.stands

pub returns-in_err-both-clause-grows : goal.returns-in_err-both-clause-grows
returns-in_err-both-clause-grows t c = Grows-then (Grows-trans c.in_ok-first.ensures.grows c.in_ok-second.ensures.grows) c.in_err-both.ensures.grows
    (omega (arith, c.split_at.ensures.back_len, c.split_at.ensures.front_len, c.requires.some)) (omega (arith, c.split_at.ensures.back_len, c.split_at.ensures.front_len, c.requires.some))

pub returns-clause-grows : goal.returns-clause-grows
returns-clause-grows t c = Grows-then (Grows-trans c.in_ok-first.ensures.grows c.in_ok-second.ensures.grows) c.in_ok-both.ensures.grows
    (omega (arith, c.split_at.ensures.back_len, c.split_at.ensures.front_len, c.requires.some)) (omega (arith, c.split_at.ensures.back_len, c.split_at.ensures.front_len, c.requires.some))

pub returns-clause-value : goal.returns-clause-value
returns-clause-value t c = λ bits s.
    let n = c.args.net.now in
    let high : All (CellStands n) c.split_at.result.1.now = rw c.split_at.ensures.back (All-drop (CellStands n) _ c.args.cells.now c.requires.stand) in
    c.in_ok-both.ensures.value bits s
    ∙ ap (λ u. carried c.joined-2.new.net bits u c.in_ok-second.second) (carried-Grows c.in_ok-second.ensures.grows bits s c.in_ok-first.first c.in_ok-first.ensures.stands ∙ c.in_ok-first.ensures.value bits s)
    ∙ c.in_ok-second.ensures.value bits (carry_after n bits c.split_at.result.0.now s)
    ∙ carry_after-Grows c.in_ok-first.ensures.grows bits (carry_after n bits c.split_at.result.0.now s) c.split_at.result.1.now high
    ∙ carry_after-parts n bits c.args.cells.now c.split_at.result.0.now c.split_at.result.1.now _ s c.split_at.ensures.front c.split_at.ensures.back

pub returns-clause-level : goal.returns-clause-level
returns-clause-level t c = λ p k short low.
    let n = c.args.net.now in
    let h = halve (length c.args.cells.now) k short (omega (arith, c.requires.some, c.if-cells-eq1.false)) in
    let high : All (CellStands n) c.split_at.result.1.now = rw c.split_at.ensures.back (All-drop (CellStands n) _ c.args.cells.now c.requires.stand) in
    let first = c.in_ok-first.ensures.level p h.0 (omega (arith, c.split_at.ensures.front_len, h.2)) (rw c.split_at.ensures.front (All-take (CellWithin n p) _ c.args.cells.now low)) in
    let second = c.in_ok-second.ensures.level p h.0 (omega (arith, c.split_at.ensures.back_len, h.3)) (All-CellWithin-Grows c.in_ok-first.ensures.grows p c.split_at.result.1.now high (rw c.split_at.ensures.back (All-drop (CellWithin n p) _ c.args.cells.now low))) in
    let both = c.in_ok-both.ensures.level (p + h.0) second (CellWithin-Grows c.in_ok-second.ensures.grows (p + h.0) c.in_ok-first.first c.in_ok-first.ensures.stands first) in
    (omega (arith, both.0, h.1), omega (arith, both.1, h.1))
