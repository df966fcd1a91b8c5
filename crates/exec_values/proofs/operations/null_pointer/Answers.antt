use Rattle.std.proofs.Common.{refl, arith}
use Rattle.word_nodes.proofs.NodeLaws.{Extends-inputs_before}
use Rattle.exec_values.proofs.operations.null_pointer.Goals as goal

pub returns-clause-pointer : goal.returns-clause-pointer
returns-clause-pointer c = record {
  null = c.in_ok-null.ensures.stands;
  targets = rw c.new.ensures.items (λ k d h. absurd (omega arith));
  one = λ ins fit. rw (c.new.ensures.items, c.in_ok-null.ensures.value ins (Extends-inputs_before (c.in_ok-null.ensures.extends 0) ins fit)) refl;
}
