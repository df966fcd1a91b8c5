use Rattle.std.proofs.Common.{◌≡◌, arith, eqb, not}
use Rattle.gate_net.specs.declared.literal.Gate.TheVariants.{Xor}
use Rattle.gate_net.specs.Literal.{wire_of}
use Rattle.gate_rewrite.proofs.RuleLaws.{cancel-left, cancel-right, differ-below-left, differ-below-right}
use Rattle.gate_rewrite.proofs.rules.difference.Goals as goal

pub returns-then-x-variable-clause-below : goal.returns-then-x-variable-clause-below
returns-then-x-variable-clause-below c =
    rw (c.in-Xor.is, c.differ.ensures) (differ-below-right (Xor c.in-Xor.x c.in-Xor.y) (not (eqb c.in-Xor.x.code c.args.p.code)))

pub returns-then-x-variable-clause-value : goal.returns-then-x-variable-clause-value
returns-then-x-variable-clause-value c =
    let same : wire_of c.in-Xor.x ≡ wire_of c.args.p = omega arith in
    rw (c.in-Xor.is, c.differ.ensures) (cancel-left c.in-Xor.x c.in-Xor.y c.args.p same)

pub returns-then-y-variable-clause-below : goal.returns-then-y-variable-clause-below
returns-then-y-variable-clause-below c =
    rw (c.in-Xor.is, c.differ-then-y-variable.ensures) (differ-below-left (Xor c.in-Xor.x c.in-Xor.y) (not (eqb c.in-Xor.y.code c.args.p.code)))

pub returns-then-y-variable-clause-value : goal.returns-then-y-variable-clause-value
returns-then-y-variable-clause-value c =
    let same : wire_of c.in-Xor.y ≡ wire_of c.args.p = omega arith in
    rw (c.in-Xor.is, c.differ-then-y-variable.ensures) (cancel-right c.in-Xor.x c.in-Xor.y c.args.p same)
