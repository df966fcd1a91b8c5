use Rattle.share_core.proofs.SizeLaws.{message_lengths}
use Rattle.share_core.proofs.law.length_law.Goals as goal

pub returns : goal.returns
returns c = message_lengths
