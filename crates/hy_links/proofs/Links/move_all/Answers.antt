use Rattle.std.proofs.Common.{◌∙◌, refl, arith}
use Rattle.hy_links.proofs.Paths.{has_source, has_target}
use Rattle.hy_links.proofs.Views.{seen, kept_sound, shown, has_head, has_kept, out_of_head, into_head, move_holds, move_none}
use Rattle.hy_links.proofs.Links.move_all.Goals as goal

pub neighbours-moved-requires : goal.neighbours-moved-requires
neighbours-moved-requires c =
    let s = seen c.self.inside c.args.self.now c.self.view_is c.self.invariant in
    has_head c.self.inside.rings c.args.self.now.chains s.holds c.args.from (omega (arith, c.requires.from_made, s.within))

pub neighbours-first-requires : goal.neighbours-first-requires
neighbours-first-requires c =
    let s = seen c.self.inside c.args.self.now c.self.view_is c.self.invariant in
    has_head c.self.inside.rings c.args.self.now.chains s.holds c.args.to (omega (arith, c.requires.to_made, s.within))

pub join-requires-clause-has_right : goal.join-requires-clause-has_right
join-requires-clause-has_right c =
    let s = seen c.self.inside c.args.self.now c.self.view_is c.self.invariant in
    has_target _ _ _ (out_of_head c.self.inside.rings c.args.self.now.chains s.holds c.args.from (omega (arith, c.requires.from_made, s.within)) c.neighbours-moved.result c.neighbours-moved.ensures)

pub join-requires-in-Link-clause-has_left : goal.join-requires-in-Link-clause-has_left
join-requires-in-Link-clause-has_left c =
    let s = seen c.self.inside c.args.self.now c.self.view_is c.self.invariant in
    has_kept _ _ _ _ _ c.join.ensures
    (has_source _ _ _ (into_head c.self.inside.rings c.args.self.now.chains s.holds c.args.from (omega (arith, c.requires.from_made, s.within)) c.neighbours-moved.result c.neighbours-moved.ensures))

pub join-requires-in-Link-clause-has_right : goal.join-requires-in-Link-clause-has_right
join-requires-in-Link-clause-has_right c =
    let s = seen c.self.inside c.args.self.now c.self.view_is c.self.invariant in
    has_kept _ _ _ _ _ c.join.ensures
    (has_target _ _ _ (out_of_head c.self.inside.rings c.args.self.now.chains s.holds c.args.to (omega (arith, c.requires.to_made, s.within)) c.neighbours-first.result c.neighbours-first.ensures))

pub join-requires-in-Link-2-clause-has_left : goal.join-requires-in-Link-2-clause-has_left
join-requires-in-Link-2-clause-has_left c =
    let s = seen c.self.inside c.args.self.now c.self.view_is c.self.invariant in
    has_kept _ _ _ _ _ c.join-in-Link.ensures (has_kept _ _ _ _ _ c.join.ensures
    (has_head c.self.inside.rings c.args.self.now.chains s.holds c.args.from (omega (arith, c.requires.from_made, s.within))))

pub join-requires-in-Link-2-clause-has_right : goal.join-requires-in-Link-2-clause-has_right
join-requires-in-Link-2-clause-has_right c = join-requires-in-Link-2-clause-has_left c

pub invariant_of-self : goal.invariant_of-self
invariant_of-self c =
    let s = seen c.self.inside c.args.self.now c.self.view_is c.self.invariant in
    kept_sound c.self.inside c.self.invariant c.join-in-Link-2.new.self
    (c.join-in-Link-2.ensures.heads ∙ c.join-in-Link.ensures.heads ∙ c.join.ensures.heads)
    (c.join-in-Link-2.ensures.links ∙ c.join-in-Link.ensures.links ∙ c.join.ensures.links) _
    (move_holds _ _ _ _ c.args.self.now.chains c.args.from c.args.to c.neighbours-moved.result c.neighbours-first.result c.in-Link.field-0 s.holds
    (omega (arith, c.requires.from_made, s.within)) (omega (arith, c.requires.to_made, s.within)) c.requires.apart
    c.neighbours-moved.ensures c.in-Link.is c.neighbours-first.ensures c.join.ensures c.join-in-Link.ensures c.join-in-Link-2.ensures)

pub returns-in-Link : goal.returns-in-Link
returns-in-Link c =
    let s = seen c.self.inside c.args.self.now c.self.view_is c.self.invariant in
    shown _ _ _ _ s.lists s.nodes
    (move_holds _ _ _ _ c.args.self.now.chains c.args.from c.args.to c.neighbours-moved.result c.neighbours-first.result c.in-Link.field-0 s.holds
    (omega (arith, c.requires.from_made, s.within)) (omega (arith, c.requires.to_made, s.within)) c.requires.apart
    c.neighbours-moved.ensures c.in-Link.is c.neighbours-first.ensures c.join.ensures c.join-in-Link.ensures c.join-in-Link-2.ensures)

pub returns-in_default : goal.returns-in_default
returns-in_default c =
    let s = seen c.self.inside c.args.self.now c.self.view_is c.self.invariant in
    rw (move_none c.self.inside.rings c.args.self.now.chains c.args.from c.args.to c.neighbours-moved.result c.in_default.field-0 s.holds (omega (arith, c.requires.from_made, s.within)) c.neighbours-moved.ensures c.in_default.is) refl
