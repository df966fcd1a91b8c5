use Rattle.std.proofs.Common.{List, length, sym, ap, ◌∙◌}
use Rattle.hy_bits.specs.declared.turns.Role as Role
use Rattle.share_core.specs.declared.instr.Instr.{Instr}
use Rattle.share_core.specs.Levels.{gates_of, level_message, summed}
use Rattle.share_core.specs.Machine.{gate_message}
use Rattle.share_core.specs.Instructions.{has_frame}
use Rattle.share_core.specs.Sizes.{sent}
use Rattle.party.specs.Gates.{gate_sent}
use Rattle.party.proofs.LevelSteps.{length-level}
use Rattle.party.proofs.Senders.{level_rule_message, single_length}
use Rattle.party.proofs.halves.own_length.Goals as goal

pub returns-then-is_level-clause-value : goal.returns-then-is_level-clause-value
returns-then-is_level-clause-value c = λ v role gates sends.
    let i : Instr = c.args.instr.now in
    ap length (level_rule_message i v (sym c.is_level.ensures ∙ c.if-is_level.true))
    ∙ ap (λ (gs : List Instr). length (level_message (λ k gate. gate_message v k gate gate.kind) 0 gs)) (ap (gates_of i) gates ∙ sym c.gates_of.ensures.gates)
    ∙ length-level v c.gates_of.result.now
    ∙ ap (λ (r : Role.Role). summed (λ gate. gate_sent gate.kind gate.width r) c.gates_of.result.now) role
    ∙ sym c.message_length.ensures.value

pub returns-else-is_level-clause-value : goal.returns-else-is_level-clause-value
returns-else-is_level-clause-value c = λ v role gates sends.
    let i : Instr = c.args.instr.now in
    single_length i v (sym c.is_level.ensures ∙ c.if-is_level.false) (ap (λ (r : Role.Role). has_frame i.kind r) role ∙ sends)
    ∙ ap (λ (r : Role.Role). sent i.kind i.width r) role
    ∙ sym c.sent.ensures.value
