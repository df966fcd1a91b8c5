use Rattle.share_core.proofs.MachineLaws.{machines_choose, machines_compute, machines_open, payloads_have_lengths}
use Rattle.share_core.proofs.ResultLaws.{dealt_agree, dealt_are_words, level_halves_agree, level_halves_are_words, made_are_labels, payloads_are_short, targets_match}
use Rattle.share_core.proofs.law.machine_law.Goals as goal

pub returns-clause-compute : goal.returns-clause-compute
returns-clause-compute c = machines_compute

pub returns-clause-open : goal.returns-clause-open
returns-clause-open c = machines_open

pub returns-clause-choose : goal.returns-clause-choose
returns-clause-choose c = machines_choose

pub returns-clause-lengths : goal.returns-clause-lengths
returns-clause-lengths c = payloads_have_lengths

pub returns-clause-short : goal.returns-clause-short
returns-clause-short c = payloads_are_short

pub returns-clause-targets : goal.returns-clause-targets
returns-clause-targets c = targets_match

pub returns-clause-labels : goal.returns-clause-labels
returns-clause-labels c = made_are_labels

pub returns-clause-halves : goal.returns-clause-halves
returns-clause-halves c = dealt_agree

pub returns-clause-words : goal.returns-clause-words
returns-clause-words c = dealt_are_words

pub returns-clause-level_halves : goal.returns-clause-level_halves
returns-clause-level_halves c = level_halves_agree

pub returns-clause-level_words : goal.returns-clause-level_words
returns-clause-level_words c = level_halves_are_words
