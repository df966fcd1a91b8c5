use Rattle.std.proofs.Common.{refl, rules, ◌∙◌}
use Rattle.std.proofs.lemmas.Option.{slice_get_read}
use Rattle.hy_links.specs.Ring.{neighbours_at}
use Rattle.hy_links.proofs.Places.{head_within, link_within, at_link}
use Rattle.hy_links.proofs.ring.Rings.neighbours.Goals as goal

pub index-requires : goal.index-requires
index-requires c = let within = head_within c.args.self.now c.in-Head.list (rw c.in-Head.is at c.requires) in search rules

pub index_of-requires : goal.index_of-requires
index_of-requires c = (link_within c.args.self.now c.in-Link.link (rw c.in-Link.is at c.requires)).0

pub index-requires-in-Link : goal.index-requires-in-Link
index-requires-in-Link c = let within = link_within c.args.self.now c.in-Link.link (rw c.in-Link.is at c.requires) in rw c.index_of.ensures (search rules)

pub returns-in-Head : goal.returns-in-Head
unfolding neighbours_at
returns-in-Head c = rw c.in-Head.is (slice_get_read _ _ _ _ refl (head_within c.args.self.now c.in-Head.list (rw c.in-Head.is at c.requires)) c.index.ensures)

pub returns-in-Link : goal.returns-in-Link
returns-in-Link c =
    let within = link_within c.args.self.now c.in-Link.link (rw c.in-Link.is at c.requires) in
    rw c.in-Link.is (at_link c.args.self.now c.in-Link.link within.0 ∙ slice_get_read _ _ _ _ refl within.1 (rw c.index_of.ensures at c.index-in-Link.ensures))
