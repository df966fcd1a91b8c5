use Rattle.std.proofs.Common.{◌≡◌, ◌+◌, ◌<◌, ◌∷◌, [], ◌++◌, ◌∙◌, ℕ, get_or, sym, ap, length, take, List, arith}
use Rattle.std.proofs.lemmas.List.{take_more_set, length_push}
use Rattle.choice_core.specs.declared.sharings.Choice.{Choice}
use Rattle.choice_search.specs.Arenas.{node_at, prefix_at}
use Rattle.choice_search.proofs.Prefixes.{child_longer, down_root, down_more, down_end, whole_waits}
use Rattle.choice_search.proofs.finding.find.Goals as goal

pub loop-depth-init : goal.loop-depth-init
loop-depth-init c = (c.requires.search.1.arena.some, λ prefixes search. (down_root c.args.problem.now prefixes c.args.nodes.now c.args.leasts.now search, sym search.stand.root, ap length search.stand.root))

pub returns-then-node-eq0-clause-first : goal.returns-then-node-eq0-clause-first
returns-then-node-eq0-clause-first c = λ prefixes search. (
    let i = c.loop-depth.invariant.1 prefixes search in
    (down_end c.args.problem.now prefixes c.args.nodes.now c.args.leasts.now search c.loop-depth.number i.0 c.if-node-eq0.true, i.1))

pub loop-depth-preserved : goal.loop-depth-preserved
loop-depth-preserved c =
    let p = c.args.problem.now in
    let nodes = c.args.nodes.now in
    let leasts = c.args.leasts.now in
    let number = c.loop-depth.number in
    let child = c.first_child-number.result in
    let apart = c.if-node-eq0.false in
    let some : 0 < (node_at nodes number).count = omega (arith, apart) in
    let first = c.first_child-number.ensures in
    let there = c.requires.search in
    let down = down_more p there.0 nodes leasts there.1 (get_or leasts 0 0) number child (c.loop-depth.invariant.1 there.0 there.1).0 some first.child first.least first.first in (
      down.within,
      λ prefixes search. (
          let i = c.loop-depth.invariant.1 prefixes search in
          let longer = child_longer p prefixes nodes search.arena search.stand number child i.0.within some first.child in
          let size = i.2 in
          let test = c.loop-depth-test.true in
          let own = ap length c.own-count.ensures in
          let kept = c.loop-depth.auto.path in
          let long = c.requires.size in
          let within : c.loop-depth.depth < length c.loop-depth.path = omega (arith, test, own, kept, long) in (
            down_more p prefixes nodes leasts search (get_or leasts 0 0) number child i.0 some first.child first.least first.first,
            take_more_set c.loop-depth.path c.loop-depth.depth (node_at nodes child).choice within ∙ ap (λ (q : List Choice). q ++ (node_at nodes child).choice ∷ []) i.1 ∙ sym longer,
            ap length longer ∙ length_push (prefix_at prefixes number) (node_at nodes child).choice ∙ ap (λ n. n + 1) size,
          )),
    )

pub returns-clause-first : goal.returns-clause-first
returns-clause-first c = λ prefixes search. (
    let i = c.loop-depth.invariant.1 prefixes search in
    let size = i.2 in
    let past = c.loop-depth-test.false in
    let own = ap length c.own-count.ensures in
    let end : length c.own-count.result.now ≡ c.loop-depth.depth = (let low = c.loop-depth.auto.depth-end in omega (arith, past, low)) in
    let waits = whole_waits c.args.problem.now prefixes c.args.nodes.now c.args.leasts.now search c.loop-depth.number i.0.within (omega (arith, size, own, end)) in
    (down_end c.args.problem.now prefixes c.args.nodes.now c.args.leasts.now search c.loop-depth.number i.0 waits, ap (λ (n : ℕ). take n c.loop-depth.path) end ∙ i.1))
