use Rattle.share_core.proofs.InstructionLaws.{instr_opens, dealt_halves_agree}
use Rattle.share_core.proofs.law.instr_law.Goals as goal

pub returns-clause-opens : goal.returns-clause-opens
returns-clause-opens c = instr_opens

pub returns-clause-dealt : goal.returns-clause-dealt
returns-clause-dealt c = dealt_halves_agree
