use Rattle.std.proofs.Common.{◌*◌, ℕ, length, min, ap, ◌∙◌}
use Rattle.hy_bits.specs.declared.shape.Shape.{Shape}
use Rattle.hy_bits.specs.Shape.{leaves}
use Rattle.share_plan.specs.Leaves.{count_limit}
use Rattle.pair_run.proofs.OwnerLaws.{array-count, struct-count}
use Rattle.pair_run.proofs.owners.+counts.Goals as goal

pub leaf_count-returns-in-Array : goal.leaf_count-returns-in-Array
leaf_count-returns-in-Array t c =
    c.min.ensures ∙ ap (λ (n : ℕ). min (n * c.leaf_count-each.result) count_limit) c.from.ensures
    ∙ array-count c.args.shape.now c.in-Array.element c.in-Array.count c.leaf_count-each.result c.in-Array.is (c.leaf_count-each.ensures ∙ ap (λ (s : Shape). min (length (leaves s)) count_limit) c.get.ensures)

pub leaf_count-returns-in-Struct : goal.leaf_count-returns-in-Struct
leaf_count-returns-in-Struct t c = struct-count c.args.shape.now c.in-Struct.fields c.field_count.result c.in-Struct.is c.field_count.ensures
