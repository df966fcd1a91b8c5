use Rattle.share_core.proofs.BooleanLaws.{instr_opens_B, dealt_halves_agree_B, codes_open_B}
use Rattle.share_core.proofs.law.boolean_law.Goals as goal

pub returns-clause-opens : goal.returns-clause-opens
returns-clause-opens c = instr_opens_B

pub returns-clause-dealt : goal.returns-clause-dealt
returns-clause-dealt c = dealt_halves_agree_B

pub returns-clause-codes : goal.returns-clause-codes
returns-clause-codes c = codes_open_B
