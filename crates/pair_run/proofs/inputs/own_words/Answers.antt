use Rattle.std.proofs.Common.{◌≡◌, ◌<◌, min, length, ◌∙◌, arith}
use Rattle.pair_run.proofs.OwnLaws.{own_more, own_whole}
use Rattle.pair_run.proofs.inputs.own_words.Goals as goal

pub loop-place-preserved : goal.loop-place-preserved
loop-place-preserved c =
    let first : c.loop-place.place < length c.args.owners.now = omega arith in
    let second : c.loop-place.place < length c.args.words.now = omega arith in
    own_more c.args.role c.args.owners.now c.args.words.now c.loop-place.own.items c.add_own.new.own.items c.loop-place.place _ first second c.loop-place.invariant c.in_ok-add_own.ensures

pub returns : goal.returns
returns c =
    let end : c.loop-place.place ≡ min (length c.args.owners.now) (length c.args.words.now) = omega arith in
    c.new.ensures ∙ c.loop-place.invariant ∙ own_whole c.args.role c.args.owners.now c.args.words.now c.loop-place.place end
