-- The parts of the bundle that has no module are a draft.
use Rattle.std.proofs.Common.{◌≡◌, ℕ, zero, suc, ◌+◌, ◌^◌, ◌<◌, ◌≤◌, true, Bool, List, [], ◌∷◌, length, map, refl, sym, ap, ◌∙◌, arith}
use Rattle.std.specs.List.{All, flat_map}
use Rattle.hy_bits.specs.declared.scalar.Scalar.{Scalar}
use Rattle.hy_bits.specs.declared.scalar.Scalar.TheVariants.{U32}
use Rattle.hy_bits.specs.declared.shape.Field.{Field}
use Rattle.hy_bits.specs.declared.shape.Shape.TheVariants as V
use Rattle.hy_bits.specs.declared.shape.Shape.TheOpen.{Shape-F}
use Rattle.hy_bits.specs.declared.shape.Shape.TheFolds.{fold-roll-Shape, fold-Field, fold-roll-Field}
use Rattle.hy_bits.specs.Shape.{FitPorts, leaves, leaves_of_ports, shape_leaves, field_leaves}
use Rattle.hy_bits.proofs.ShapeLaws.{leaves-Scalar}
use Rattle.word_graph.specs.declared.entry.Entry.{Entry}
use Rattle.word_graph.specs.declared.entry.Node.{Node}
use Rattle.module_split.specs.Cut.{cut_of, different_after}
use Rattle.module_split.specs.Homes.{homes_after}
use Rattle.choice_core.specs.declared.problems.Table.{Table}
use Rattle.bundle_core.specs.declared.parts.Variant.{Variant}
use Rattle.bundle_core.specs.Names.{good_field, good_step, is_good_shape}
use Rattle.bundle_core.specs.Parts.{HasRegion, IsDraft, IsLeaf}
use Rattle.bundle_tests.specs.Bundles.{main_region, parts_of}
use Rattle.bundle_tests.specs.Passed.{passed_entries, passed_ports, passed_result, passed_results, word_field}
use Rattle.bundle_tests.proofs.BundleLaws.{each-all, good-Scalar}

-- ---- the result's shape

abbrev fields : List Field
fields = word_field (97 ∷ []) ∷ word_field (98 ∷ []) ∷ []

leaves-field : (name : List ℕ) → fold-Field (List Scalar) (List Scalar) shape_leaves field_leaves (word_field name) ≡ U32 ∷ []
leaves-field name = fold-roll-Field (List Scalar) (List Scalar) shape_leaves field_leaves (record { name = name; shape = V.Scalar U32 }) ∙ leaves-Scalar U32

pub leaves-passed : leaves passed_result ≡ U32 ∷ U32 ∷ []
leaves-passed =
    ap leaves (sym (V.rolls-Struct fields)) ∙ fold-roll-Shape (List Scalar) (List Scalar) shape_leaves field_leaves (Shape-F.Struct fields)
    ∙ rw (leaves-field (97 ∷ []), leaves-field (98 ∷ [])) refl

field-is-good : (name : List ℕ) → fold-Field Bool (List ℕ × Bool) good_step good_field (word_field name) ≡ (name, true)
field-is-good name =
    fold-roll-Field Bool (List ℕ × Bool) good_step good_field (record { name = name; shape = V.Scalar U32 }) ∙ ap (λ (b : Bool). (name, b)) (good-Scalar U32)

good-passed : is_good_shape passed_result ≡ true
good-passed =
    ap is_good_shape (sym (V.rolls-Struct fields)) ∙ fold-roll-Shape Bool (List ℕ × Bool) good_step good_field (Shape-F.Struct fields)
    ∙ rw (field-is-good (97 ∷ []), field-is-good (98 ∷ [])) refl

-- ---- the draft

ports-leaves : leaves_of_ports passed_ports ≡ U32 ∷ []
ports-leaves = rw (leaves-Scalar U32) refl

the-cut : (cut_of passed_entries passed_results 16).list ≡ []
unfolding homes_after different_after
the-cut = refl

pub passed-is : (table : Table) → IsDraft (parts_of passed_entries passed_results passed_ports passed_result (main_region ∷ []) [] table)
passed-is table = record {
  layers_some = omega arith;
  layers_few = omega arith;
  port_names = refl;
  port_shapes = rw (good-Scalar U32) refl;
  port_leaves = omega (arith, ap length ports-leaves);
  result_shape = good-passed;
  result_leaves = omega (arith, ap length leaves-passed);
  region_names = refl;
  inputs = each-all (λ (e : Entry). IsLeaf (leaves_of_ports passed_ports) e.op e.width e.number) passed_entries (rw ports-leaves ((omega arith, refl), (tt, (tt, tt))));
  regions = each-all (λ (e : Entry). HasRegion 1 e.op e.region) passed_entries (tt, (tt, (tt, tt)));
  results_stand = each-all (λ (node : Node). node.index < 3) passed_results (omega arith, (omega arith, (omega arith, tt)));
  results_widths = rw leaves-passed refl;
  modules = refl;
  variants = rw the-cut tt;
  ring_gates = omega arith;
  compact_gates = omega arith;
  shallow_gates = omega arith;
}

-- the word fits
pub passed-fits : (x : ℕ) → x < 2 ^ 32 → FitPorts passed_ports (x ∷ [])
passed-fits x low = rw ports-leaves (low, tt)
