use Rattle.std.proofs.Common.{◌≡◌, ◌≢◌, not, ap, ◌∙◌, arith, rules, Err}
use Rattle.std.proofs.lemmas.Result.{err_from_is_err_and}
use Rattle.gate_net.proofs.MeaningLaws.{value-complement, level-complement}
use Rattle.gate_net.proofs.AnswerLaws.{same_parity, other_parity, value-xor-same, value-xor-other, level-plain, AddsIfWanted-plain, LimitIff-plain}
use Rattle.gate_net.proofs.netlist.Net.xor.Goals as goal

pub returns-in_err-plain-clause-limit : goal.returns-in_err-plain-clause-limit
returns-in_err-plain-clause-limit c =
    let p = err_from_is_err_and c.from_residual.result c.from_residual.ensures.1 in
    let limit = rw (c.plain.ensures, c.plain-2.ensures) at c.in_err-plain.ensures.limit in
    rw (p.1, p.2) (LimitIff-plain (Err c.in_err-plain.field-0.0) c.args.self.now c.args.a c.args.b c.args.self.now.budget limit)

pub returns-then-is_complement-clause-value : goal.returns-then-is_complement-clause-value
returns-then-is_complement-clause-value c = λ bits.
    let same : c.is_complement.result ≡ c.is_complement-2.result = search rules in
    let parity = same_parity c.is_complement.result c.is_complement-2.result c.args.a.code c.args.b.code c.is_complement.ensures.0 c.is_complement.ensures.1 c.is_complement-2.ensures.0 c.is_complement-2.ensures.1 same in
    let made = rw (c.plain.ensures, c.plain-2.ensures) at (c.in_ok-plain.ensures.value bits) in
    made ∙ value-xor-same c.args.self.now bits c.args.a c.args.b parity

pub returns-then-is_complement-clause-level : goal.returns-then-is_complement-clause-level
returns-then-is_complement-clause-level c =
    let made = rw (c.plain.ensures, c.plain-2.ensures) at c.in_ok-plain.ensures.level in
    omega (arith, made, level-plain c.args.self.now c.args.a, level-plain c.args.self.now c.args.b)

pub returns-then-is_complement-clause-gates : goal.returns-then-is_complement-clause-gates
returns-then-is_complement-clause-gates c =
    AddsIfWanted-plain c.args.self.now c.xor_plain.new.self c.args.a c.args.b (rw (c.plain.ensures, c.plain-2.ensures) at c.in_ok-plain.ensures.gates)

pub returns-else-is_complement-clause-value : goal.returns-else-is_complement-clause-value
returns-else-is_complement-clause-value c = λ bits.
    let apart : c.is_complement.result ≢ c.is_complement-2.result = search rules in
    let parity = other_parity c.is_complement.result c.is_complement-2.result c.args.a.code c.args.b.code c.is_complement.ensures.0 c.is_complement.ensures.1 c.is_complement-2.ensures.0 c.is_complement-2.ensures.1 apart in
    let made = rw (c.plain.ensures, c.plain-2.ensures) at (c.in_ok-plain.ensures.value bits) in
    rw c.complement.ensures (value-complement c.xor_plain.new.self bits c.in_ok-plain.plain)
    ∙ ap not made
    ∙ value-xor-other c.args.self.now bits c.args.a c.args.b parity

pub returns-else-is_complement-clause-level : goal.returns-else-is_complement-clause-level
returns-else-is_complement-clause-level c =
    let made = rw (c.plain.ensures, c.plain-2.ensures) at c.in_ok-plain.ensures.level in
    rw c.complement.ensures (omega (arith, made, level-plain c.args.self.now c.args.a, level-plain c.args.self.now c.args.b, level-complement c.xor_plain.new.self c.in_ok-plain.plain))

pub returns-else-is_complement-clause-gates : goal.returns-else-is_complement-clause-gates
returns-else-is_complement-clause-gates c =
    AddsIfWanted-plain c.args.self.now c.xor_plain.new.self c.args.a c.args.b (rw (c.plain.ensures, c.plain-2.ensures) at c.in_ok-plain.ensures.gates)
