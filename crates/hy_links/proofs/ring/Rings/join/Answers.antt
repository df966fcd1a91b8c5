use Rattle.hy_links.proofs.Places.{joins}
use Rattle.hy_links.proofs.ring.Rings.join.Goals as goal

pub returns : goal.returns
returns c = joins _ _ _ _ _ _ _ c.neighbours-entry.ensures c.set.ensures c.neighbours-entry-2.ensures c.set-2.ensures
