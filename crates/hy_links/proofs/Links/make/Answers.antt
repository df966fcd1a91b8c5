use Rattle.std.proofs.Common.{◌+◌, refl, sym, ◌∙◌, ap, length, arith}
use Rattle.std.proofs.lemmas.List.{length_push}
use Rattle.hy_links.proofs.Views.{seen, sound, kept_sound, shown, grow_holds, same_holds, on_err}
use Rattle.hy_links.proofs.Links.make.Goals as goal

pub returns-then-node-eq-MAX_NODES-clause-full : goal.returns-then-node-eq-MAX_NODES-clause-full
returns-then-node-eq-MAX_NODES-clause-full c =
    let s = seen c.self.inside c.args.self.now c.self.view_is c.self.invariant in
    (λ _. sym s.nodes ∙ c.if-node-eq-MAX_NODES.true, λ _. refl)

pub invariant_of-self : goal.invariant_of-self
invariant_of-self c =
    let s = seen c.self.inside c.args.self.now c.self.view_is c.self.invariant in
    kept_sound c.self.inside c.self.invariant c.grow.new.self (ap length c.in_err-grow.ensures.heads_kept) (ap length c.in_err-grow.ensures.links_kept) _
    (same_holds _ _ c.in_err-grow.ensures.heads_kept c.in_err-grow.ensures.links_kept _ s.holds)

pub returns-in_err-grow-clause-full : goal.returns-in_err-grow-clause-full
returns-in_err-grow-clause-full c =
    let s = seen c.self.inside c.args.self.now c.self.view_is c.self.invariant in
    (λ e. absurd (let h = rw e at c.from_residual.ensures.1 in cc), λ e. absurd (omega (arith, s.nodes, e, c.if-node-eq-MAX_NODES.false)))

pub returns-in_err-grow-clause-err : goal.returns-in_err-grow-clause-err
returns-in_err-grow-clause-err c =
    let s = seen c.self.inside c.args.self.now c.self.view_is c.self.invariant in
    on_err c.from_residual.result _ (shown _ _ _ _ s.lists s.nodes (same_holds _ _ c.in_err-grow.ensures.heads_kept c.in_err-grow.ensures.links_kept _ s.holds))

pub invariant_of-self-2 : goal.invariant_of-self-2
invariant_of-self-2 c =
    let s = seen c.self.inside c.args.self.now c.self.view_is c.self.invariant in
    let i = c.self.invariant in
    let g = c.in_ok-grow.ensures.ok in
    sound _ _ (ap length g.heads ∙ length_push _ _ ∙ omega (arith, i.heads)) (g.links ∙ omega (arith, i.links)) i.few_lists (omega (arith, i.few_nodes, c.if-node-eq-MAX_NODES.false)) (grow_holds _ _ _ s.holds g)

pub returns-clause-number : goal.returns-clause-number
returns-clause-number c = (seen c.self.inside c.args.self.now c.self.view_is c.self.invariant).nodes

pub returns-clause-ok : goal.returns-clause-ok
returns-clause-ok c =
    let s = seen c.self.inside c.args.self.now c.self.view_is c.self.invariant in
    shown _ _ _ _ s.lists (ap (λ n. n + 1) s.nodes) (grow_holds _ _ _ s.holds c.in_ok-grow.ensures.ok)

pub returns-clause-full : goal.returns-clause-full
returns-clause-full c =
    let s = seen c.self.inside c.args.self.now c.self.view_is c.self.invariant in
    (λ e. cc, λ e. absurd (omega (arith, s.nodes, e, c.if-node-eq-MAX_NODES.false)))
