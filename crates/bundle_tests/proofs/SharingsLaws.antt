-- The parts of the bundle of three modules are a draft.
use Rattle.std.proofs.Common.{◌≡◌, ℕ, ◌+◌, ◌<◌, ◌≤◌, List, [], ◌∷◌, length, refl, ap, arith}
use Rattle.hy_bits.specs.declared.scalar.Scalar.TheVariants.{U8}
use Rattle.hy_bits.specs.declared.shape.Shape.TheVariants as V
use Rattle.hy_bits.specs.declared.width.Width.TheVariants.{W1, W8}
use Rattle.hy_bits.specs.Shape.{FitPorts, leaves_of_ports}
use Rattle.hy_bits.proofs.ShapeLaws.{leaves-Scalar}
use Rattle.word_graph.specs.declared.entry.Entry.{Entry}
use Rattle.word_graph.specs.declared.entry.Node.{Node}
use Rattle.module_split.specs.declared.module.Module.{Module}
use Rattle.module_split.specs.Cut.{cut_of, different_after}
use Rattle.module_split.specs.Homes.{homes_after}
use Rattle.ring_net.specs.Ring.{FitsAfter, IsRing}
use Rattle.choice_core.specs.declared.problems.Table.{Table}
use Rattle.bundle_core.specs.declared.parts.Variant.{Variant}
use Rattle.bundle_core.specs.Parts.{AreVariants, FitsClass, FitsRing, HasRegion, IsDraft, IsLeaf}
use Rattle.bundle_tests.specs.Bundles.{parts_of}
use Rattle.bundle_tests.specs.Sharings.{AreThree, shared_entries, shared_modules, shared_ports, shared_regions, shared_results, shared_ring}
use Rattle.bundle_tests.proofs.BundleLaws.{each-all, fits-bits, good-Scalar}

shared-leaves : leaves_of_ports shared_ports ≡ U8 ∷ U8 ∷ []
shared-leaves = rw (leaves-Scalar U8) refl

the-cut : (cut_of shared_entries shared_results 16).list ≡ shared_modules
unfolding homes_after different_after
the-cut = refl

pub ring-is : IsRing shared_ring
ring-is = record {
  gates = (record { wide = omega arith; operation = ((omega arith, refl), (omega arith, refl)) }, (record { wide = omega arith; operation = ((omega arith, refl), (omega arith, refl)) }, tt));
  outs = each-all (λ (k : ℕ). k < 4) (2 ∷ 3 ∷ []) (omega arith, (omega arith, tt));
  limit = omega arith;
}

fits-ring : FitsRing (W8 ∷ W8 ∷ []) (W8 ∷ W8 ∷ []) shared_ring
fits-ring = record { ring = ring-is; ins = refl; outs = refl }

all-fit : (variants : List Variant) → AreThree variants → AreVariants shared_entries shared_modules variants
all-fit variants three = rw three.list (
  record {
    ring = rw three.is_first.ring fits-ring;
    compact = fits-bits (W8 ∷ W8 ∷ []) (W8 ∷ W8 ∷ []) 16 16 three.first.compact three.is_first.compact refl refl;
    shallow = fits-bits (W8 ∷ W8 ∷ []) (W8 ∷ W8 ∷ []) 16 16 three.first.shallow three.is_first.shallow refl refl;
  },
  (
    record {
      ring = rw three.is_second.ring tt;
      compact = fits-bits (W8 ∷ W8 ∷ []) (W1 ∷ []) 16 1 three.second.compact three.is_second.compact refl refl;
      shallow = fits-bits (W8 ∷ W8 ∷ []) (W1 ∷ []) 16 1 three.second.shallow three.is_second.shallow refl refl;
    },
    (
      record {
        ring = rw three.is_third.ring tt;
        compact = fits-bits (W8 ∷ W8 ∷ W1 ∷ []) (W8 ∷ []) 17 8 three.third.compact three.is_third.compact refl refl;
        shallow = fits-bits (W8 ∷ W8 ∷ W1 ∷ []) (W8 ∷ []) 17 8 three.third.shallow three.is_third.shallow refl refl;
      },
      tt,
    ),
  ),
)

pub shared-is : (variants : List Variant) (table : Table) → AreThree variants → IsDraft (parts_of shared_entries shared_results shared_ports (V.Scalar U8) shared_regions variants table)
shared-is variants table three = record {
  layers_some = omega arith;
  layers_few = omega arith;
  port_names = refl;
  port_shapes = rw (good-Scalar U8) refl;
  port_leaves = omega (arith, ap length shared-leaves);
  result_shape = good-Scalar U8;
  result_leaves = omega (arith, ap length (leaves-Scalar U8));
  region_names = refl;
  inputs = each-all (λ (e : Entry). IsLeaf (leaves_of_ports shared_ports) e.op e.width e.number) shared_entries (rw shared-leaves ((omega arith, refl), ((omega arith, refl), (tt, (tt, (tt, (tt, tt)))))));
  regions = each-all (λ (e : Entry). HasRegion 2 e.op e.region) shared_entries (tt, (tt, (omega arith, (omega arith, (omega arith, (omega arith, tt))))));
  results_stand = each-all (λ (node : Node). node.index < 6) shared_results (omega arith, (omega arith, tt));
  results_widths = rw (leaves-Scalar U8) refl;
  modules = refl;
  variants = rw the-cut (all-fit variants three);
  ring_gates = rw (three.list, three.is_first.ring, three.is_second.ring, three.is_third.ring) (omega arith);
  compact_gates = rw three.list (omega (arith, three.is_first.compact.few, three.is_second.compact.few, three.is_third.compact.few));
  shallow_gates = rw three.list (omega (arith, three.is_first.shallow.few, three.is_second.shallow.few, three.is_third.shallow.few));
}

-- the words of the tests fit
pub shared-fits : FitPorts shared_ports (183 ∷ 93 ∷ [])
shared-fits = rw shared-leaves (omega arith, (omega arith, tt))
