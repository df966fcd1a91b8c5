-- A node that is a selection: what it stands on, and its value.
use Rattle.std.proofs.Common.{◌≡◌, ◌⊎◌, ℕ, zero, suc, ◌<◌, ◌≤◌, ◌==◌, List, [], ◌∷◌, if◌then◌else◌, length, take, get_or, sym, ◌∙◌, arith}
use Rattle.std.specs.Prelude.{slice_get, Some}
use Rattle.hy_bits.specs.declared.op.Op.TheVariants.{Sel}
use Rattle.hy_bits.specs.declared.width.Width.{Width}
use Rattle.word_graph.specs.declared.entry.Entry.{Entry}
use Rattle.word_graph.specs.Meaning.{value}
use Rattle.word_graph.specs.Shape.{IsGraph}
use Rattle.word_graph.specs.Term.{width_at, WidthsFit}
use Rattle.word_graph.proofs.EntryLaws.{AreEntries-at, width_at-get, width_at-take}
use Rattle.word_graph.proofs.RunLaws.{value-entry}

-- the third argument of a selection stands, with its width
pub selection-stands : (es : List Entry) (k : ℕ) (e : Entry) (w : Width) → IsGraph es → slice_get es k ≡ Some e → e.op ≡ Sel → width_at es k ≡ w →
    (get_or e.args 2 0 < length es) × (width_at es (get_or e.args 2 0) ≡ w)
selection-stands es k e w graph s o v =
    let entry = AreEntries-at [] es k e graph.entries s in
    let used : get_or e.args 2 0 < length (take k es) = entry.fits.used 2 (rw o (omega arith)) in
    let widths : WidthsFit Sel e.width (width_at (take k es) (get_or e.args 0 0)) (width_at (take k es) (get_or e.args 1 0)) (width_at (take k es) (get_or e.args 2 0)) =
    rw o at entry.fits.widths in
    (omega (arith, length-take k es, used), width_at-take es k _ used ∙ widths.2 ∙ sym (width_at-get es k e s) ∙ v)
  where
    length-take : (n : ℕ) (xs : List Entry) → length (take n xs) ≤ length xs
    length-take zero xs = omega arith
    length-take (suc n) [] = omega arith
    length-take (suc n) (x ∷ xs) = omega (arith, length-take n xs)

-- and where the first is 0, its value is that of the third
pub selection-value : (es : List Entry) (ins : List ℕ) (k c : ℕ) (e : Entry) → IsGraph es → slice_get es k ≡ Some e → e.op ≡ Sel → get_or e.args 0 0 ≡ c →
    (value es ins c ≡ 1) ⊎ (value es ins (get_or e.args 2 0) ≡ value es ins k)
selection-value es ins k c e graph s o a =
    let here : value es ins k ≡ (if value es ins (get_or e.args 0 0) == 1 then value es ins (get_or e.args 1 0) else value es ins (get_or e.args 2 0)) =
    rw o at (value-entry es ins graph k e s) in
    chosen (value es ins c) _ _ _ (rw a at here)
  where
    chosen : (n x y z : ℕ) → z ≡ (if n == 1 then x else y) → (n ≡ 1) ⊎ (y ≡ z)
    chosen n x y z h = grind arith
