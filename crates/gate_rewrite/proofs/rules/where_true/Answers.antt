use Rattle.std.proofs.Common.{◌≡◌, arith, eqb}
use Rattle.gate_net.specs.declared.literal.Gate.TheVariants.{And, Xor}
use Rattle.gate_net.specs.Literal.{wire_of}
use Rattle.gate_rewrite.proofs.RuleLaws.{and-left, and-right, both-below-left, both-below-right, differ-below-left, differ-below-right, xor-left, xor-right}
use Rattle.gate_rewrite.proofs.rules.where_true.Goals as goal

pub returns-then-x-variable-clause-below : goal.returns-then-x-variable-clause-below
returns-then-x-variable-clause-below c =
    rw (c.in-And.is, c.both.ensures) (both-below-right (And c.in-And.x c.in-And.y) (eqb c.in-And.x.code c.args.p.code))

pub returns-then-x-variable-clause-value : goal.returns-then-x-variable-clause-value
returns-then-x-variable-clause-value c =
    let same : wire_of c.in-And.x ≡ wire_of c.args.p = omega arith in
    rw (c.in-And.is, c.both.ensures) (and-left c.in-And.x c.in-And.y c.args.p same)

pub returns-then-y-variable-clause-below : goal.returns-then-y-variable-clause-below
returns-then-y-variable-clause-below c =
    rw (c.in-And.is, c.both-then-y-variable.ensures) (both-below-left (And c.in-And.x c.in-And.y) (eqb c.in-And.y.code c.args.p.code))

pub returns-then-y-variable-clause-value : goal.returns-then-y-variable-clause-value
returns-then-y-variable-clause-value c =
    let same : wire_of c.in-And.y ≡ wire_of c.args.p = omega arith in
    rw (c.in-And.is, c.both-then-y-variable.ensures) (and-right c.in-And.x c.in-And.y c.args.p same)

pub returns-then-x-variable-2-clause-below : goal.returns-then-x-variable-2-clause-below
returns-then-x-variable-2-clause-below c =
    rw (c.in-Xor.is, c.differ.ensures) (differ-below-right (Xor c.in-Xor.x c.in-Xor.y) (eqb c.in-Xor.x.code c.args.p.code))

pub returns-then-x-variable-2-clause-value : goal.returns-then-x-variable-2-clause-value
returns-then-x-variable-2-clause-value c =
    let same : wire_of c.in-Xor.x ≡ wire_of c.args.p = omega arith in
    rw (c.in-Xor.is, c.differ.ensures) (xor-left c.in-Xor.x c.in-Xor.y c.args.p same)

pub returns-then-y-variable-2-clause-below : goal.returns-then-y-variable-2-clause-below
returns-then-y-variable-2-clause-below c =
    rw (c.in-Xor.is, c.differ-then-y-variable-2.ensures) (differ-below-left (Xor c.in-Xor.x c.in-Xor.y) (eqb c.in-Xor.y.code c.args.p.code))

pub returns-then-y-variable-2-clause-value : goal.returns-then-y-variable-2-clause-value
returns-then-y-variable-2-clause-value c =
    let same : wire_of c.in-Xor.y ≡ wire_of c.args.p = omega arith in
    rw (c.in-Xor.is, c.differ-then-y-variable-2.ensures) (xor-right c.in-Xor.x c.in-Xor.y c.args.p same)
