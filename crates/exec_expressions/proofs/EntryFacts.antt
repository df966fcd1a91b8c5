-- A node that is an extension of one bit: what it stands on, and its value.
use Rattle.std.proofs.Common.{◌≡◌, ◌<◌, ◌≤◌, ℕ, zero, suc, List, [], ◌∷◌, length, take, get_or, sym, ◌∙◌, subst, arith}
use Rattle.std.specs.Prelude.{slice_get, Some}
use Rattle.std.proofs.Math.Nat.{mod-eq_of_lt}
use Rattle.hy_bits.specs.declared.op.Op.TheVariants.{ZeroExt}
use Rattle.hy_bits.specs.declared.width.Width.{Width}
use Rattle.hy_bits.specs.declared.width.Width.TheVariants.{W1, W8, W16, W32, W64}
use Rattle.hy_bits.specs.Words.{modulus, IsWord}
use Rattle.word_graph.specs.declared.entry.Entry.{Entry}
use Rattle.word_graph.specs.Meaning.{InputsFit, value}
use Rattle.word_graph.specs.Shape.{IsGraph}
use Rattle.word_graph.proofs.EntryLaws.{AreEntries-at}
use Rattle.word_graph.proofs.RunLaws.{value-entry, value-word}
use Rattle.word_nodes.specs.Nodes.{Stands}

-- its argument stands before it
pub extension-stands : (es : List Entry) (k : ℕ) (e : Entry) → IsGraph es → slice_get es k ≡ Some e → e.op ≡ ZeroExt → get_or e.args 0 0 < length es
extension-stands es k e graph s o =
    let entry = AreEntries-at [] es k e graph.entries s in
    let used : get_or e.args 0 0 < length (take k es) = entry.fits.used 0 (rw o (omega arith)) in
    omega (arith, length-take k es, used)
  where
    length-take : (n : ℕ) (xs : List Entry) → length (take n xs) ≤ length xs
    length-take zero xs = omega arith
    length-take (suc n) [] = omega arith
    length-take (suc n) (x ∷ xs) = omega (arith, length-take n xs)

small : (w : Width) (x : ℕ) → x < 2 → x < modulus w
small W1 x h = omega (arith, h)
small W8 x h = omega (arith, h)
small W16 x h = omega (arith, h)
small W32 x h = omega (arith, h)
small W64 x h = omega (arith, h)

-- where that is one bit wide, they have one value
pub extension-value : (es : List Entry) (ins : List ℕ) (k : ℕ) (e : Entry) → IsGraph es → InputsFit es ins → slice_get es k ≡ Some e → e.op ≡ ZeroExt →
    Stands es W1 (record { index = get_or e.args 0 0 }) → value es ins (get_or e.args 0 0) ≡ value es ins k
extension-value es ins k e graph fit s o stands =
    let a = get_or e.args 0 0 in
    let bit : value es ins a < 2 = subst (λ (w : Width). IsWord w (value es ins a)) stands.width (value-word es ins graph fit a stands.within) in
    let here = rw o at (value-entry es ins graph k e s) in
    sym (here ∙ mod-eq_of_lt (small e.width (value es ins a) bit))
