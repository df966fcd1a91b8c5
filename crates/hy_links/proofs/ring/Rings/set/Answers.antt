use Rattle.std.proofs.Common.{refl, rules}
use Rattle.hy_links.proofs.Places.{head_within, link_within, replaces_head, replaces_link}
use Rattle.hy_links.proofs.ring.Rings.set.Goals as goal

pub index_mut-requires : goal.index_mut-requires
index_mut-requires c = let within = head_within c.args.self.now c.in-Head.list (rw c.in-Head.is at c.requires) in search rules

pub index_of-requires : goal.index_of-requires
index_of-requires c = (link_within c.args.self.now c.in-Link.link (rw c.in-Link.is at c.requires)).0

pub index_mut-requires-in-Link : goal.index_mut-requires-in-Link
index_mut-requires-in-Link c = let within = link_within c.args.self.now c.in-Link.link (rw c.in-Link.is at c.requires) in rw c.index_of.ensures (search rules)

pub returns-in-Head : goal.returns-in-Head
returns-in-Head c = rw c.in-Head.is (replaces_head _ _ _ _ (rw c.in-Head.is at c.requires) refl refl)

pub returns-in-Link : goal.returns-in-Link
returns-in-Link c = rw (c.in-Link.is, c.index_of.ensures) (replaces_link _ _ _ _ (rw c.in-Link.is at c.requires) refl refl)
