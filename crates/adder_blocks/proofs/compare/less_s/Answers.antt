use Rattle.std.proofs.Common.{sym, ◌∙◌, arith}
use Rattle.adder_blocks.proofs.TopLaws.{AllStand-top, length-top, less-top}
use Rattle.adder_blocks.proofs.TopLaws.{AllWithin-top}
use Rattle.adder_blocks.proofs.compare.less_s.Goals as goal

pub less_u-requires-clause-first : goal.less_u-requires-clause-first
less_u-requires-clause-first c = rw c.deref.ensures.value (AllStand-top c.args.net.now c.args.a.now c.in_ok-first.first.items c.in_ok-first.ensures c.requires.first)

pub less_u-requires-clause-second : goal.less_u-requires-clause-second
less_u-requires-clause-second c = rw c.deref-2.ensures.value (AllStand-top c.args.net.now c.args.b.now c.in_ok-second.second.items c.in_ok-second.ensures c.requires.second)

pub less_u-requires-clause-same_length : goal.less_u-requires-clause-same_length
less_u-requires-clause-same_length c = rw (c.deref.ensures.value, c.deref-2.ensures.value) (length-top c.args.a.now c.in_ok-first.first.items c.in_ok-first.ensures ∙ c.requires.same_length ∙ sym (length-top c.args.b.now c.in_ok-second.second.items c.in_ok-second.ensures))

pub returns-clause-value : goal.returns-clause-value
returns-clause-value c = λ bits.
    let known = rw (c.deref.ensures.value, c.deref-2.ensures.value) at (c.in_ok-less.ensures.value bits) in
    known ∙ less-top c.args.net.now bits c.args.a.now c.args.b.now c.in_ok-first.first.items c.in_ok-second.second.items c.in_ok-first.ensures c.in_ok-second.ensures c.requires.same_length

pub less_u-requires-clause-some : goal.less_u-requires-clause-some
less_u-requires-clause-some c = rw c.deref.ensures.value (omega (arith, c.requires.some, length-top c.args.a.now c.in_ok-first.first.items c.in_ok-first.ensures))

pub returns-clause-depth : goal.returns-clause-depth
returns-clause-depth c = λ shallow d k small low high.
    c.in_ok-less.ensures.depth shallow d k
    (rw c.deref.ensures.value (omega (arith, small, length-top c.args.a.now c.in_ok-first.first.items c.in_ok-first.ensures)))
    (rw c.deref.ensures.value (AllWithin-top c.args.net.now d c.args.a.now c.in_ok-first.first.items c.in_ok-first.ensures low))
    (rw c.deref-2.ensures.value (AllWithin-top c.args.net.now d c.args.b.now c.in_ok-second.second.items c.in_ok-second.ensures high))
