-- Conditions on every element of a list, and circuits of the right shape.
use Rattle.std.proofs.Common.{◌≡◌, ℕ, zero, suc, ◌<◌, Bool, true, List, [], ◌∷◌, length, ap, sym, ◌∙◌, arith}
use Rattle.std.specs.List.{All}
use Rattle.hy_bits.specs.declared.scalar.Scalar.{Scalar}
use Rattle.hy_bits.specs.declared.shape.Shape.TheVariants as V
use Rattle.hy_bits.specs.declared.shape.Shape.TheOpen.{Shape-F}
use Rattle.hy_bits.specs.declared.shape.Shape.TheFolds.{fold-roll-Shape}
use Rattle.hy_bits.specs.declared.width.Width.{Width}
use Rattle.gate_net.specs.Circuit.{Circuit}
use Rattle.bundle_core.specs.Names.{good_field, good_step, is_good_shape}
use Rattle.bundle_core.specs.Parts.{FitsBits, bits_of_widths}
use Rattle.bundle_tests.specs.Bundles.{IsNetOf}

abbrev pub Each : {X : Type 0} → (X → Type 0) → List X → Type 0
Each P [] = Unit {0}
Each P (x ∷ xs) = P x × Each P xs

pub each-all : {X : Type 0} (P : X → Type 0) (xs : List X) → Each P xs → All P xs
each-all P [] each i d h = absurd (omega arith)
each-all P (x ∷ xs) each zero d h = each.0
each-all P (x ∷ xs) each (suc i) d h = each-all P xs each.1 i d (omega arith)

pub good-Scalar : (scalar : Scalar) → is_good_shape (V.Scalar scalar) ≡ true
good-Scalar scalar = ap is_good_shape (sym (V.rolls-Scalar scalar)) ∙ fold-roll-Shape _ (List ℕ × _) good_step good_field (Shape-F.Scalar scalar)

-- a circuit has one input and one output for each bit
pub fits-bits : (from to : List Width) (ins outs : ℕ) (n : Circuit) → IsNetOf ins outs n → ins ≡ bits_of_widths from → outs ≡ bits_of_widths to → FitsBits from to n
fits-bits from to ins outs n is from_is to_is = record { circuit = is.circuit; ins = is.ins_are ∙ from_is; outs = is.outs_are ∙ to_is; budget = is.budget_is }
