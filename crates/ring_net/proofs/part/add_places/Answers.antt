use Rattle.ring_net.proofs.PartLaws.{places-more}
use Rattle.ring_net.proofs.part.add_places.Goals as goal

-- src/part.rt:20:5
pub loop-place-preserved : goal.loop-place-preserved
loop-place-preserved c = places-more c.args.places.now.keys c.args.more.now c.loop-place.places.keys c.insert.new.self.keys c.loop-place.place-index 0 c.loop-place-test.true c.requires c.loop-place.invariant c.in_ok-insert.ensures.keys
