use Rattle.share_core.specs.Garbled.{zero_label}
use Rattle.share_yao.proofs.Steps.{all_equal}
use Rattle.share_yao.proofs.words.Labels.zero.Goals as goal

pub returns : goal.returns
returns c = λ k. all_equal 64 k zero_label
