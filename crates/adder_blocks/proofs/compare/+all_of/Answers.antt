use Rattle.std.proofs.Common.{◌<◌, ◌≤◌, ◌&&◌, length, ap, ◌∙◌, arith, rules}
use Rattle.gate_net.specs.Circuit.{Stands}
use Rattle.gate_net.specs.Meaning.{level}
use Rattle.gate_net.proofs.GrowthLaws.{Grows-value, Grows-level, Grows-trans, Grows-then}
use Rattle.gate_net.specs.Spelled.{AllStand}
use Rattle.gate_net.proofs.ListLaws.{AllWithin-Grows, values-Grows, AllStand-Grows, equal_two}
use Rattle.std.specs.List.{list_all}
use Rattle.adder_blocks.proofs.TreeLaws.{halve, all_of-split, All-take, All-drop}
use Rattle.adder_blocks.proofs.compare.+all_of.Goals as goal

pub all_of-requires-2 : goal.all_of-requires-2
all_of-requires-2 t c =
    let shorter : length c.split_at.result.1.now < length c.args.ls.now = omega (arith, c.split_at.ensures.back_len, c.requires.some) in
    let stand : AllStand c.args.net.now c.split_at.result.1.now = rw c.split_at.ensures.back (All-drop (Stands c.args.net.now) _ c.args.ls.now c.requires.stand) in
    (search rules, (AllStand-Grows c.in_ok-first.ensures.grows c.split_at.result.1.now stand, omega (arith, c.split_at.ensures.back_len, c.requires.some)))

pub returns-in_err-both-clause-grows : goal.returns-in_err-both-clause-grows
returns-in_err-both-clause-grows t c = Grows-then (Grows-trans c.in_ok-first.ensures.grows c.in_ok-second.ensures.grows) c.in_err-both.ensures.grows
    (omega (arith, c.split_at.ensures.back_len, c.split_at.ensures.front_len, c.requires.some)) (omega (arith, c.split_at.ensures.back_len, c.split_at.ensures.front_len, c.requires.some))

pub returns-clause-grows : goal.returns-clause-grows
returns-clause-grows t c = Grows-then (Grows-trans c.in_ok-first.ensures.grows c.in_ok-second.ensures.grows) c.in_ok-both.ensures.grows
    (omega (arith, c.split_at.ensures.back_len, c.split_at.ensures.front_len, c.requires.some)) (omega (arith, c.split_at.ensures.back_len, c.split_at.ensures.front_len, c.requires.some))

pub returns-clause-value : goal.returns-clause-value
returns-clause-value t c = λ bits.
    let n = c.args.net.now in
    let high : AllStand n c.split_at.result.1.now = rw c.split_at.ensures.back (All-drop (Stands c.args.net.now) _ c.args.ls.now c.requires.stand) in
    c.in_ok-both.ensures.value bits
    ∙ equal_two (λ x y. x && y)
    (Grows-value c.in_ok-second.ensures.grows bits c.in_ok-first.first c.in_ok-first.ensures.stands ∙ c.in_ok-first.ensures.value bits)
    (c.in_ok-second.ensures.value bits ∙ ap (list_all (λ b. b)) (values-Grows c.in_ok-first.ensures.grows bits c.split_at.result.1.now high))
    ∙ all_of-split n bits c.args.ls.now c.split_at.result.0.now c.split_at.result.1.now _ c.split_at.ensures.front c.split_at.ensures.back

pub returns-clause-level : goal.returns-clause-level
returns-clause-level t c = λ d k short low.
    let n = c.args.net.now in
    let h = halve (length c.args.ls.now) k short (omega (arith, c.requires.some, c.if-ls-eq1.false)) in
    let first = c.in_ok-first.ensures.level d h.0 (omega (arith, c.split_at.ensures.front_len, h.2)) (rw c.split_at.ensures.front (All-take (λ l. level c.args.net.now l ≤ d) _ c.args.ls.now low)) in
    let second = c.in_ok-second.ensures.level d h.0 (omega (arith, c.split_at.ensures.back_len, h.3)) (AllWithin-Grows c.in_ok-first.ensures.grows d c.split_at.result.1.now (rw c.split_at.ensures.back (All-drop (Stands c.args.net.now) _ c.args.ls.now c.requires.stand)) (rw c.split_at.ensures.back (All-drop (λ l. level c.args.net.now l ≤ d) _ c.args.ls.now low))) in
    omega (arith, first, second, h.1, c.in_ok-both.ensures.level, Grows-level c.in_ok-second.ensures.grows c.in_ok-first.first c.in_ok-first.ensures.stands)
