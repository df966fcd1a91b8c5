use Rattle.std.proofs.Common.{◌≡◌, ◌∙◌, ap, sym, arith}
use Rattle.hy_links.proofs.Views.{seen, start, has_start, walk_shows}
use Rattle.hy_links.proofs.Links.walk.Goals as goal
use Rattle.hy_links.proofs.Links.walk.Goals.{in-Some, in-None}

pub neighbours-requires : goal.neighbours-requires
neighbours-requires c =
    let s = seen c.self.inside c.args.self.now c.self.view_is c.self.invariant in
    let is : c.match-after.place ≡ start c.args.list c.args.after =
    elim c.match-after.branch [ in-Some w ↦ w.place-is ∙ ap (start c.args.list) (sym w.in-Some.is) | in-None w ↦ w.place-is ∙ ap (start c.args.list) (sym w.in-None.is) ] in
    rw is (has_start c.self.inside.rings c.args.self.now.chains s.holds c.args.list (omega (arith, c.requires.list_made, s.within)) c.args.after c.requires.standing)

pub returns-in-Link : goal.returns-in-Link
returns-in-Link c =
    let s = seen c.self.inside c.args.self.now c.self.view_is c.self.invariant in
    let is : c.match-after.place ≡ start c.args.list c.args.after =
    elim c.match-after.branch [ in-Some w ↦ w.place-is ∙ ap (start c.args.list) (sym w.in-Some.is) | in-None w ↦ w.place-is ∙ ap (start c.args.list) (sym w.in-None.is) ] in
    rw c.in-Link.is at (walk_shows c.self.inside.rings c.args.self.now.chains s.holds c.args.list (omega (arith, c.requires.list_made, s.within)) c.args.after c.requires.standing c.neighbours.result (rw is at c.neighbours.ensures))

pub returns-in-Head : goal.returns-in-Head
returns-in-Head c =
    let s = seen c.self.inside c.args.self.now c.self.view_is c.self.invariant in
    let is : c.match-after.place ≡ start c.args.list c.args.after =
    elim c.match-after.branch [ in-Some w ↦ w.place-is ∙ ap (start c.args.list) (sym w.in-Some.is) | in-None w ↦ w.place-is ∙ ap (start c.args.list) (sym w.in-None.is) ] in
    rw c.in-Head.is at (walk_shows c.self.inside.rings c.args.self.now.chains s.holds c.args.list (omega (arith, c.requires.list_made, s.within)) c.args.after c.requires.standing c.neighbours.result (rw is at c.neighbours.ensures))
