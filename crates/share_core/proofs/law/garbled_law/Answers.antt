use Rattle.share_core.proofs.GarbledLaws.{and_opens_Y, xor_opens_Y, input_opens_Y, low_bits_stand, codes_open_Y, offset_is_dealt}
use Rattle.share_core.proofs.law.garbled_law.Goals as goal

pub returns-clause-and : goal.returns-clause-and
returns-clause-and c = and_opens_Y

pub returns-clause-xor : goal.returns-clause-xor
returns-clause-xor c = xor_opens_Y

pub returns-clause-input : goal.returns-clause-input
returns-clause-input c = input_opens_Y

pub returns-clause-bits : goal.returns-clause-bits
returns-clause-bits c = low_bits_stand

pub returns-clause-codes : goal.returns-clause-codes
returns-clause-codes c = codes_open_Y

pub returns-clause-offset : goal.returns-clause-offset
returns-clause-offset c = offset_is_dealt
