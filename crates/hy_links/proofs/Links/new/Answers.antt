use Rattle.std.proofs.Common.{arith, refl, ◌∙◌, ap, length, replicate, []}
use Rattle.hy_links.proofs.Views.{new_holds, sound, shown}
use Rattle.hy_links.proofs.Links.new.Goals as goal

pub invariant_of-result : goal.invariant_of-result
invariant_of-result c = sound _ (replicate c.args.lists []) (c.in_ok-rings.ensures.heads ∙ omega arith) (ap length c.in_ok-rings.ensures.links) c.requires (omega arith) (new_holds c.in_ok-rings.rings c.args.lists c.in_ok-rings.ensures)

pub returns-clause-ok : goal.returns-clause-ok
returns-clause-ok c = shown _ c.args.lists 0 (replicate c.args.lists []) refl refl (new_holds c.in_ok-rings.rings c.args.lists c.in_ok-rings.ensures)
