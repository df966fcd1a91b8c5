use Rattle.gate_arena.proofs.NetLaws.{if_ok}
use Rattle.gate_rewrite.proofs.CopyLaws.{and-level, and-value, xor-level, xor-value}
use Rattle.gate_rewrite.proofs.copying.copied_gate.Goals as goal

pub returns-in-And-clause-value : goal.returns-in-And-clause-value
returns-in-And-clause-value c =
    let low = rw c.in-And.is at c.requires.uses in
    rw c.in-And.is (if_ok c.and_below.result _ _ c.and_below.ensures.value (λ r h bits. and-value c.args.net.now c.and_below.new.net c.args.wires.now c.in-And.a c.in-And.b c.literal.result c.literal-in-And.result r c.literal.ensures c.literal-in-And.ensures low.0 low.1 bits (h bits)))

pub returns-in-And-clause-level : goal.returns-in-And-clause-level
returns-in-And-clause-level c =
    let low = rw c.in-And.is at c.requires.uses in
    rw c.in-And.is (if_ok c.and_below.result _ _ c.and_below.ensures.level (λ r h levels most. and-level c.args.net.now c.and_below.new.net c.args.wires.now c.in-And.a c.in-And.b c.literal.result c.literal-in-And.result r c.literal.ensures c.literal-in-And.ensures low.0 low.1 levels most h))

pub returns-in-Xor-clause-value : goal.returns-in-Xor-clause-value
returns-in-Xor-clause-value c =
    let low = rw c.in-Xor.is at c.requires.uses in
    rw c.in-Xor.is (if_ok c.xor_below.result _ _ c.xor_below.ensures.value (λ r h bits. xor-value c.args.net.now c.xor_below.new.net c.args.wires.now c.in-Xor.a c.in-Xor.b c.literal-in-Xor.result c.literal-in-Xor-2.result r c.literal-in-Xor.ensures c.literal-in-Xor-2.ensures low.0 low.1 bits (h bits)))

pub returns-in-Xor-clause-level : goal.returns-in-Xor-clause-level
returns-in-Xor-clause-level c =
    let low = rw c.in-Xor.is at c.requires.uses in
    rw c.in-Xor.is (if_ok c.xor_below.result _ _ c.xor_below.ensures.level (λ r h levels most. xor-level c.args.net.now c.xor_below.new.net c.args.wires.now c.in-Xor.a c.in-Xor.b c.literal-in-Xor.result c.literal-in-Xor-2.result r c.literal-in-Xor.ensures c.literal-in-Xor-2.ensures low.0 low.1 levels most h))
