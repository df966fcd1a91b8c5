-- The parts of the bundle of the And of two bits are a draft.
use Rattle.std.proofs.Common.{◌≡◌, ℕ, ◌+◌, ◌<◌, ◌≤◌, List, [], ◌∷◌, length, refl, ap, arith}
use Rattle.hy_bits.specs.declared.scalar.Scalar.TheVariants.{B1}
use Rattle.hy_bits.specs.declared.shape.Shape.TheVariants as V
use Rattle.hy_bits.specs.declared.width.Width.TheVariants.{W1}
use Rattle.hy_bits.specs.Shape.{FitPorts, leaves_of_ports}
use Rattle.hy_bits.proofs.ShapeLaws.{leaves-Scalar}
use Rattle.word_graph.specs.declared.entry.Entry.{Entry}
use Rattle.word_graph.specs.declared.entry.Node.{Node}
use Rattle.module_split.specs.declared.module.Class.TheVariants.{Boolean}
use Rattle.module_split.specs.declared.module.Module.{Module}
use Rattle.module_split.specs.Cut.{cut_of, different_after}
use Rattle.module_split.specs.Homes.{homes_after}
use Rattle.choice_core.specs.declared.problems.Table.{Table}
use Rattle.bundle_core.specs.declared.parts.Variant.{Variant}
use Rattle.bundle_core.specs.Parts.{HasRegion, IsDraft, IsLeaf, IsVariant}
use Rattle.bundle_tests.specs.Bundles.{main_region, parts_of}
use Rattle.bundle_tests.specs.Conjunction.{IsOne, and_entries, and_ports, and_results}
use Rattle.bundle_tests.proofs.BundleLaws.{each-all, fits-bits, good-Scalar}

and-leaves : leaves_of_ports and_ports ≡ B1 ∷ B1 ∷ []
and-leaves = rw (leaves-Scalar B1) refl

and_module : Module
and_module = record { class = Boolean; layer = 0; region = 0; nodes = 3 ∷ []; ins = 0 ∷ 1 ∷ []; outs = 3 ∷ [] }

the-cut : (cut_of and_entries and_results 16).list ≡ and_module ∷ []
unfolding homes_after different_after and_module
the-cut = refl

one-is : (variants : List Variant) → (one : IsOne variants) → IsVariant and_entries and_module one.one
unfolding and_module
one-is variants one = record {
  ring = rw one.ring tt;
  compact = fits-bits (W1 ∷ W1 ∷ []) (W1 ∷ []) 2 1 one.one.compact one.compact refl refl;
  shallow = fits-bits (W1 ∷ W1 ∷ []) (W1 ∷ []) 2 1 one.one.shallow one.shallow refl refl;
}

pub and-is : (variants : List Variant) (table : Table) → IsOne variants → IsDraft (parts_of and_entries and_results and_ports (V.Scalar B1) (main_region ∷ []) variants table)
and-is variants table one = record {
  layers_some = omega arith;
  layers_few = omega arith;
  port_names = refl;
  port_shapes = rw (good-Scalar B1) refl;
  port_leaves = omega (arith, ap length and-leaves);
  result_shape = good-Scalar B1;
  result_leaves = omega (arith, ap length (leaves-Scalar B1));
  region_names = refl;
  inputs = each-all (λ (e : Entry). IsLeaf (leaves_of_ports and_ports) e.op e.width e.number) and_entries (rw and-leaves ((omega arith, refl), ((omega arith, refl), (tt, (tt, tt)))));
  regions = each-all (λ (e : Entry). HasRegion 1 e.op e.region) and_entries (tt, (tt, (tt, (omega arith, tt))));
  results_stand = each-all (λ (node : Node). node.index < 4) and_results (omega arith, (omega arith, tt));
  results_widths = rw (leaves-Scalar B1) refl;
  modules = refl;
  variants = rw (the-cut, one.list) (one-is variants one, tt);
  ring_gates = rw (one.list, one.ring) (omega arith);
  compact_gates = rw one.list (omega (arith, one.compact.few));
  shallow_gates = rw one.list (omega (arith, one.shallow.few));
}

-- both bits fit
pub and-fits : (x y : ℕ) → x < 2 → y < 2 → FitPorts and_ports (x ∷ y ∷ [])
and-fits x y low_x low_y = rw and-leaves (low_x, (low_y, tt))
