use Rattle.share_core.proofs.ConversionLaws.{transfer_opens, own_opens, sum_opens_Y, b2y, a2y, a2b, b2a, y2a, answers_agree}
use Rattle.share_core.proofs.law.conversion_law.Goals as goal

pub returns-clause-transfer : goal.returns-clause-transfer
returns-clause-transfer c = transfer_opens

pub returns-clause-own : goal.returns-clause-own
returns-clause-own c = own_opens

pub returns-clause-sum : goal.returns-clause-sum
returns-clause-sum c = sum_opens_Y

pub returns-clause-b_to_y : goal.returns-clause-b_to_y
returns-clause-b_to_y c = b2y

pub returns-clause-a_to_y : goal.returns-clause-a_to_y
returns-clause-a_to_y c = a2y

pub returns-clause-a_to_b : goal.returns-clause-a_to_b
returns-clause-a_to_b c = a2b

pub returns-clause-b_to_a : goal.returns-clause-b_to_a
returns-clause-b_to_a c = b2a

pub returns-clause-y_to_a : goal.returns-clause-y_to_a
returns-clause-y_to_a c = y2a

pub returns-clause-dealt : goal.returns-clause-dealt
returns-clause-dealt c = answers_agree
