use Rattle.hy_links.proofs.Views.{linked_once}
use Rattle.hy_links.proofs.Links.is_linked_once.Goals as goal

pub returns : goal.returns
returns c = rw (← c.self.view_is) (linked_once c.self.inside c.self.invariant)
