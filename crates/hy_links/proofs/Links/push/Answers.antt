use Rattle.std.proofs.Common.{◌∙◌, arith}
use Rattle.hy_links.specs.declared.ring.Place.TheVariants.{Head, Link as At}
use Rattle.hy_links.proofs.Paths.{has_target}
use Rattle.hy_links.proofs.Views.{seen, kept_sound, shown, has_head, has_link, has_kept, out_of_head, push_holds}
use Rattle.hy_links.proofs.Links.push.Goals as goal

pub neighbours-first-requires : goal.neighbours-first-requires
neighbours-first-requires c =
    let s = seen c.self.inside c.args.self.now c.self.view_is c.self.invariant in
    has_head c.self.inside.rings c.args.self.now.chains s.holds c.args.list (omega (arith, c.requires.list_made, s.within))

pub join-requires-clause-has_right : goal.join-requires-clause-has_right
join-requires-clause-has_right c =
    let s = seen c.self.inside c.args.self.now c.self.view_is c.self.invariant in
    has_link c.self.inside.rings c.args.link c.requires.link_made.1 (omega (arith, c.requires.link_made.0, c.requires.link_made.1, s.nodes, c.self.invariant.links))

pub join-requires-2-clause-has_left : goal.join-requires-2-clause-has_left
join-requires-2-clause-has_left c = has_target c.join.new.self (Head c.args.list) (At c.args.link) c.join.ensures.edge

pub join-requires-2-clause-has_right : goal.join-requires-2-clause-has_right
join-requires-2-clause-has_right c =
    let s = seen c.self.inside c.args.self.now c.self.view_is c.self.invariant in
    let out = out_of_head c.self.inside.rings c.args.self.now.chains s.holds c.args.list (omega (arith, c.requires.list_made, s.within)) c.neighbours-first.result c.neighbours-first.ensures in
    has_kept _ _ _ _ _ c.join.ensures (has_target _ _ _ out)

pub invariant_of-self : goal.invariant_of-self
invariant_of-self c =
    let s = seen c.self.inside c.args.self.now c.self.view_is c.self.invariant in
    kept_sound c.self.inside c.self.invariant c.join-2.new.self (c.join-2.ensures.heads ∙ c.join.ensures.heads) (c.join-2.ensures.links ∙ c.join.ensures.links) _
    (push_holds _ _ _ c.args.self.now.chains c.args.list c.args.link c.neighbours-first.result s.holds (omega (arith, c.requires.list_made, s.within)) c.requires.free c.neighbours-first.ensures c.join.ensures c.join-2.ensures)

pub returns : goal.returns
returns c =
    let s = seen c.self.inside c.args.self.now c.self.view_is c.self.invariant in
    shown _ _ _ _ s.lists s.nodes
    (push_holds _ _ _ c.args.self.now.chains c.args.list c.args.link c.neighbours-first.result s.holds (omega (arith, c.requires.list_made, s.within)) c.requires.free c.neighbours-first.ensures c.join.ensures c.join-2.ensures)
