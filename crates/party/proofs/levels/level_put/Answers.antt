use Rattle.std.proofs.Common.{◌<◌, length, get_or, refl, arith}
use Rattle.party.proofs.LevelSteps.{no_instr, put_more}
use Rattle.party.proofs.levels.level_put.Goals as goal

pub loop-number-preserved : goal.loop-number-preserved
loop-number-preserved c =
    let gates = c.args.gates.now in
    let i = c.loop-number.number in
    let inside : i < length gates = omega (arith, c.loop-number-test.true) in
    let room : i < length c.args.shares.now = omega (arith, c.loop-number-test.true, c.requires) in
    put_more c.args.slots.now c.loop-number.slots c.put.new.slots gates c.args.shares.now i (get_or gates i no_instr) no_instr inside room refl c.loop-number.invariant c.put.ensures
