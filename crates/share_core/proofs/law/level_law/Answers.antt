use Rattle.share_core.proofs.LevelLaws.{half_of_gate, level_is_short, message_by_last, message_has_length, piece_of_gate, shares_by_last, sum_by_last}
use Rattle.share_core.proofs.law.level_law.Goals as goal

pub returns-clause-message_by_last : goal.returns-clause-message_by_last
returns-clause-message_by_last c = message_by_last

pub returns-clause-shares_by_last : goal.returns-clause-shares_by_last
returns-clause-shares_by_last c = shares_by_last

pub returns-clause-sum_by_last : goal.returns-clause-sum_by_last
returns-clause-sum_by_last c = sum_by_last

pub returns-clause-half : goal.returns-clause-half
returns-clause-half c = half_of_gate

pub returns-clause-length : goal.returns-clause-length
returns-clause-length c = message_has_length

pub returns-clause-piece : goal.returns-clause-piece
returns-clause-piece c = piece_of_gate

pub returns-clause-short : goal.returns-clause-short
returns-clause-short c = level_is_short
