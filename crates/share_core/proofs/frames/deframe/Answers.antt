use Rattle.std.proofs.Common.{inl, Err, arith}
use Rattle.std.proofs.lemmas.Grind.{common_steps}
use Rattle.share_core.specs.declared.frames.FrameFault.TheVariants.{Short, Length}
use Rattle.share_core.specs.Frames.{IsAnswer}
use Rattle.share_core.proofs.FrameLaws.{frame-answer}
use Rattle.share_core.proofs.frames.deframe.Goals as goal

pub returns-then-bytes-lt-HEAD-clause-frame : goal.returns-then-bytes-lt-HEAD-clause-frame
returns-then-bytes-lt-HEAD-clause-frame c =
    let is : IsAnswer c.args.bytes.now c.args.kind c.args.wanted (Err Short) = inl (omega arith) in
    frame-answer c.args.bytes.now c.args.kind c.args.wanted (Err Short) (omega arith) is

pub returns-then-read_number-from-clause-frame : goal.returns-then-read_number-from-clause-frame
returns-then-read_number-from-clause-frame c =
    let is : IsAnswer c.args.bytes.now c.args.kind c.args.wanted (Err Length) = grind (arith, common_steps) in
    frame-answer c.args.bytes.now c.args.kind c.args.wanted (Err Length) (omega arith) is

pub returns-then-bytes-wanted-clause-frame : goal.returns-then-bytes-wanted-clause-frame
returns-then-bytes-wanted-clause-frame c =
    let is : IsAnswer c.args.bytes.now c.args.kind c.args.wanted (Err Short) = grind (arith, common_steps) in
    frame-answer c.args.bytes.now c.args.kind c.args.wanted (Err Short) (omega arith) is
