use Rattle.std.proofs.Common.{ℕ, List, ◌≤◌, subst, arith}
use Rattle.sha2.specs.Hashers.{Holds256}
use Rattle.frame_digests.proofs.Pieces.{one_more}
use Rattle.frame_digests.proofs.digests.feed.Goals as goal

pub loop-at-preserved : goal.loop-at-preserved
loop-at-preserved c =
    let le : c.args.from ≤ c.loop-at.at = c.loop-at.invariant.0 in
    (omega arith, λ m h. subst (λ (xs : List ℕ). Holds256 c.feed_piece.new.hash xs) (one_more m c.args.queue.now.items c.args.from c.loop-at.at c.min-size.result le) (c.feed_piece.ensures _ (c.loop-at.invariant.1 m h)))
