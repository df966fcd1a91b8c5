use Rattle.std.proofs.Common.{Err}
use Rattle.std.proofs.lemmas.Result.{err_from_is_err_and}
use Rattle.gate_net.specs.Literal.{plain_xor_gate}
use Rattle.gate_net.proofs.AnswerLaws.{LimitIff-equivalent, IsOutputOf-stands, made_xor-value, made_xor-level, folded_xor-value, folded_xor-level, SharesOrAdds-normal, plain_xor_gate-normal}
use Rattle.gate_net.proofs.netlist.Net.xor_plain.Goals as goal

pub returns-in_err-made-in-None-clause-limit : goal.returns-in_err-made-in-None-clause-limit
returns-in_err-made-in-None-clause-limit c =
    let p = err_from_is_err_and c.from_residual.result c.from_residual.ensures.1 in
    let limit = rw c.ordered_xor.ensures at c.in_err-made-in-None.ensures.limit in
    rw (p.1, p.2) (LimitIff-equivalent (Err c.in_err-made-in-None.field-0.0) c.args.self.now.budget _ _
    (λ h. (record { apart = c.in-None.ensures.gate; absent = h.0 }, h.1))
    (λ h. (h.0.absent, h.1))
    limit)

pub returns-in-Some-clause-value : goal.returns-in-Some-clause-value
returns-in-Some-clause-value c = folded_xor-value c.args.self.now c.args.a c.args.b c.in-Some.folded c.in-Some.ensures.folded

pub returns-in-Some-clause-level : goal.returns-in-Some-clause-level
returns-in-Some-clause-level c = folded_xor-level c.args.self.now c.args.a c.args.b c.in-Some.folded c.in-Some.ensures.folded

pub returns-in_ok-made-in-None-clause-stands : goal.returns-in_ok-made-in-None-clause-stands
returns-in_ok-made-in-None-clause-stands c = IsOutputOf-stands c.shared.new.self c.ordered_xor.result c.in_ok-made-in-None.made c.in_ok-made-in-None.ensures.answer

pub returns-in_ok-made-in-None-clause-value : goal.returns-in_ok-made-in-None-clause-value
returns-in_ok-made-in-None-clause-value c =
    let gates = rw c.ordered_xor.ensures at c.in_ok-made-in-None.ensures.gates in
    let answer = rw c.ordered_xor.ensures at c.in_ok-made-in-None.ensures.answer in
    made_xor-value c.args.self.now c.shared.new.self c.args.a c.args.b c.in_ok-made-in-None.made c.requires.left c.requires.right c.in_ok-made-in-None.ensures.circuit gates answer

pub returns-in_ok-made-in-None-clause-level : goal.returns-in_ok-made-in-None-clause-level
returns-in_ok-made-in-None-clause-level c =
    let gates = rw c.ordered_xor.ensures at c.in_ok-made-in-None.ensures.gates in
    let answer = rw c.ordered_xor.ensures at c.in_ok-made-in-None.ensures.answer in
    made_xor-level c.args.self.now c.shared.new.self c.args.a c.args.b c.in_ok-made-in-None.made c.requires.left c.requires.right c.in_ok-made-in-None.ensures.circuit gates answer

pub returns-in_ok-made-in-None-clause-normal : goal.returns-in_ok-made-in-None-clause-normal
returns-in_ok-made-in-None-clause-normal c =
    let gates = rw c.ordered_xor.ensures at c.in_ok-made-in-None.ensures.gates in
    SharesOrAdds-normal c.args.self.now c.shared.new.self (plain_xor_gate c.args.a c.args.b) (plain_xor_gate-normal c.args.a c.args.b c.requires.left_plain c.requires.right_plain c.in-None.ensures.gate) gates
