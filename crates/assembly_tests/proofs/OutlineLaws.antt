-- The outlines that tests write down keep the rules of outlines.
use Rattle.std.proofs.Common.{◌≡◌, ◌≢◌, ℕ, zero, suc, ◌<◌, true, List, [], ◌∷◌, Some, length, slice_get, refl, ap, sym, ◌∙◌, arith}
use Rattle.std.specs.List.{All}
use Rattle.hy_bits.specs.declared.op.Op.{Op}
use Rattle.hy_bits.specs.declared.op.Op.TheVariants.{In, And, Add}
use Rattle.hy_bits.specs.declared.scalar.Scalar.{Scalar}
use Rattle.hy_bits.specs.declared.scalar.Scalar.TheVariants.{B1, U32}
use Rattle.hy_bits.specs.declared.shape.Port.{Port}
use Rattle.hy_bits.specs.declared.shape.Shape.TheVariants as V
use Rattle.hy_bits.specs.declared.shape.Shape.TheOpen.{Shape-F}
use Rattle.hy_bits.specs.declared.shape.Shape.TheFolds.{fold-roll-Shape}
use Rattle.hy_bits.specs.declared.width.Width.{Width}
use Rattle.hy_bits.specs.declared.width.Width.TheVariants.{W1, W32}
use Rattle.hy_bits.specs.Shape.{leaves_of_ports}
use Rattle.hy_bits.proofs.ShapeLaws.{leaves-Scalar}
use Rattle.word_graph.specs.declared.entry.Entry.{Entry}
use Rattle.word_graph.specs.declared.entry.Node.{Node}
use Rattle.choice_core.specs.declared.problems.Table.{Table}
use Rattle.bundle_core.specs.Means.{ReachesResult}
use Rattle.bundle_core.specs.Names.{good_field, good_step, is_good_shape}
use Rattle.bundle_core.specs.Parts.{HasRegion, IsLeaf}
use Rattle.assembly.specs.Outlines.{IsOutline}
use Rattle.assembly_tests.specs.Outlines.{entries_of, main_region, outline_with, two_ports, two_results}

abbrev Each : {X : Type 0} → (X → Type 0) → List X → Type 0
Each P [] = Unit {0}
Each P (x ∷ xs) = P x × Each P xs

each-all : {X : Type 0} (P : X → Type 0) (xs : List X) → Each P xs → All P xs
each-all P [] each i d h = absurd (omega arith)
each-all P (x ∷ xs) each zero d h = each.0
each-all P (x ∷ xs) each (suc i) d h = each-all P xs each.1 i d (omega arith)

good-Scalar : (scalar : Scalar) → is_good_shape (V.Scalar scalar) ≡ true
good-Scalar scalar = ap is_good_shape (sym (V.rolls-Scalar scalar)) ∙ fold-roll-Shape _ (List ℕ × _) good_step good_field (Shape-F.Scalar scalar)

two-leaves : (scalar : Scalar) → leaves_of_ports (two_ports scalar) ≡ scalar ∷ scalar ∷ []
two-leaves scalar = rw (leaves-Scalar scalar) refl

same-op : (x e : Entry) → Some x ≡ Some e → x.op ≡ e.op
same-op x e s = let same : x ≡ e = cc in ap (λ (y : Entry). y.op) same

-- the bound word and the operation are results
reached : (op : Op) (w : Width) (k : ℕ) (e : Entry) → slice_get (entries_of op w) k ≡ Some e → e.op ≢ In → ReachesResult (entries_of op w) two_results k
reached op w zero e s other = absurd (other (sym (same-op _ e s)))
reached op w (suc zero) e s other = absurd (other (sym (same-op _ e s)))
reached op w (suc (suc zero)) e s other = ReachesResult.here 2 (record { index = 2 }) (0, omega arith, refl) refl
reached op w (suc (suc (suc zero))) e s other = ReachesResult.here 3 (record { index = 3 }) (1, omega arith, refl) refl
reached op w (suc (suc (suc (suc k)))) e s other = absurd (cc)

pub and-outline : (table : Table) → IsOutline (outline_with (entries_of And W1) B1 table)
and-outline table = record {
  port_names = refl;
  port_shapes = rw (good-Scalar B1) refl;
  port_leaves = omega (arith, ap length (two-leaves B1));
  result_shape = good-Scalar B1;
  result_leaves = omega (arith, ap length (leaves-Scalar B1));
  region_names = refl;
  inputs = each-all (λ (e : Entry). IsLeaf (leaves_of_ports (two_ports B1)) e.op e.width e.number) (entries_of And W1) (rw (two-leaves B1) ((omega arith, refl), ((omega arith, refl), (tt, (tt, tt)))));
  regions = each-all (λ (e : Entry). HasRegion 1 e.op e.region) (entries_of And W1) (tt, (tt, (tt, (omega arith, tt))));
  results_stand = each-all (λ (node : Node). node.index < 4) two_results (omega arith, (omega arith, tt));
  results_widths = rw (leaves-Scalar B1) refl;
  reached = reached And W1;
}

pub sum-outline : (table : Table) → IsOutline (outline_with (entries_of Add W32) U32 table)
sum-outline table = record {
  port_names = refl;
  port_shapes = rw (good-Scalar U32) refl;
  port_leaves = omega (arith, ap length (two-leaves U32));
  result_shape = good-Scalar U32;
  result_leaves = omega (arith, ap length (leaves-Scalar U32));
  region_names = refl;
  inputs = each-all (λ (e : Entry). IsLeaf (leaves_of_ports (two_ports U32)) e.op e.width e.number) (entries_of Add W32) (rw (two-leaves U32) ((omega arith, refl), ((omega arith, refl), (tt, (tt, tt)))));
  regions = each-all (λ (e : Entry). HasRegion 1 e.op e.region) (entries_of Add W32) (tt, (tt, (tt, (omega arith, tt))));
  results_stand = each-all (λ (node : Node). node.index < 4) two_results (omega arith, (omega arith, tt));
  results_widths = rw (leaves-Scalar U32) refl;
  reached = reached Add W32;
}

-- the parts that are put together are those of an outline that is written down
pub same-outline : (entries : List Entry) (scalar : Scalar) (table : Table) (ports : List Port) (regions : List (List ℕ)) (graph : List Entry) (results : List Node) → ports ≡ two_ports scalar → regions ≡ main_region ∷ [] → graph ≡ entries → results ≡ two_results →
    IsOutline (outline_with entries scalar table) → IsOutline (record { ports = ports; result = V.Scalar scalar; regions = regions; graph = graph; results = results; table = table })
same-outline entries scalar table ports regions graph results p q r s is = rw (p, q, r, s) is
