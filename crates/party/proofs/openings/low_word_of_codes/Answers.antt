use Rattle.std.proofs.Common.{◌∙◌}
use Rattle.share_core.specs.Garbled.{wire}
use Rattle.party.proofs.Listed.{low_word-same}
use Rattle.party.proofs.openings.low_word_of_codes.Goals as goal

pub returns : goal.returns
returns c = c.low_bits.ensures.value ∙ low_word-same c.args.w (wire c.labels_of_codes-labels.result.list) _ c.labels_of_codes-labels.ensures
