use Rattle.hy_links.proofs.Paths.{has_source, has_target}
use Rattle.hy_links.proofs.Views.{seen, kept_sound, shown, around, has_standing, unlink_holds}
use Rattle.hy_links.proofs.Links.unlink.Goals as goal

pub neighbours-around-requires : goal.neighbours-around-requires
neighbours-around-requires c =
    let s = seen c.self.inside c.args.self.now c.self.view_is c.self.invariant in
    has_standing c.self.inside.rings c.args.self.now.chains s.holds c.args.link c.requires.0 c.requires.1

pub join-requires-clause-has_left : goal.join-requires-clause-has_left
join-requires-clause-has_left c =
    let s = seen c.self.inside c.args.self.now c.self.view_is c.self.invariant in
    has_source _ _ _ (around c.self.inside.rings c.args.self.now.chains s.holds c.args.link c.requires c.neighbours-around.result c.neighbours-around.ensures).0

pub join-requires-clause-has_right : goal.join-requires-clause-has_right
join-requires-clause-has_right c =
    let s = seen c.self.inside c.args.self.now c.self.view_is c.self.invariant in
    has_target _ _ _ (around c.self.inside.rings c.args.self.now.chains s.holds c.args.link c.requires c.neighbours-around.result c.neighbours-around.ensures).1

pub invariant_of-self : goal.invariant_of-self
invariant_of-self c =
    let s = seen c.self.inside c.args.self.now c.self.view_is c.self.invariant in
    kept_sound c.self.inside c.self.invariant c.join.new.self c.join.ensures.heads c.join.ensures.links _
    (unlink_holds _ _ c.args.self.now.chains c.args.link c.neighbours-around.result s.holds c.requires c.neighbours-around.ensures c.join.ensures)

pub returns : goal.returns
returns c =
    let s = seen c.self.inside c.args.self.now c.self.view_is c.self.invariant in
    shown _ _ _ _ s.lists s.nodes
    (unlink_holds _ _ c.args.self.now.chains c.args.link c.neighbours-around.result s.holds c.requires c.neighbours-around.ensures c.join.ensures)
