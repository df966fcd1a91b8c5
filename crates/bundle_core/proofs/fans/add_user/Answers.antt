use Rattle.std.proofs.Common.{length, ap, ◌∙◌, arith}
use Rattle.std.proofs.lemmas.List.{length-set}
use Rattle.bundle_core.proofs.UserLaws.{user-more}
use Rattle.bundle_core.proofs.fans.add_user.Goals as goal

pub loop-place-preserved : goal.loop-place-preserved
loop-place-preserved c = record {
  size = ap length c.in_ok-add.ensures ∙ length-set c.loop-place.users _ _ ∙ c.loop-place.invariant.size;
  lists = user-more c.args.users.now c.loop-place.users c.add.new.users c.args.places.now c.loop-place.place-index 0 c.args.number c.requires.distinct c.loop-place-test.true (omega (arith, c.requires.stand c.loop-place.place-index 0 c.loop-place-test.true, c.loop-place.invariant.size)) c.loop-place.invariant.lists c.in_ok-add.ensures;
}
