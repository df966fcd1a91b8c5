-- The value of a shape and its words has no float.
use Rattle.std.proofs.Common.{◌≡◌, ℕ, zero, suc, ℤ, pos, negsuc, Ordering, Less, Equal, Greater, Bool, true, false, ◌||◌, List, [], ◌∷◌, map, refl, sym, ap, ◌∙◌, subst}
use Rattle.std.specs.Cmp.Lexicographic.{slice_cmp}
use Rattle.std.specs.Ordering.{nat_cmp, match_ordering}
use Rattle.hy_bits.specs.declared.scalar.Scalar.{Scalar}
use Rattle.hy_bits.specs.declared.shape.Shape as S
use Rattle.hy_bits.specs.declared.shape.Field as F
use Rattle.hy_bits.specs.declared.shape.Shape.TheVariants as V
use Rattle.serde_json.specs.Data.{Data, number, Members, no_members, member, put}
use Rattle.serde_json.specs.Find.{of_integer}
use Rattle.serde_json.specs.View.{items_of}
use Rattle.serde_json.specs.Written.{has_float, items_have_float, members_have_float}
use Rattle.json_values.specs.Meaning.{number_of}
use Rattle.json_values.specs.Text.{value_made, text_value, scalar_value, items_value, fields_value, making, an_array as made_array, an_object as made_object}
use Rattle.json_values.proofs.Induction.{EachField, by_shapes}
use Rattle.json_values.proofs.Making.{value_made-Scalar, value_made-Array, value_made-Struct}

-- no float is among what the shape makes of words
abbrev IsWhole : S.Shape → Type 0
IsWhole shape = (words : List ℕ) → has_float (value_made shape words).0 ≡ false

neither : (a b : Bool) → a ≡ false → b ≡ false → (a || b) ≡ false
neither a b p q = rw (p, q) refl

left : (a b : Bool) → (a || b) ≡ false → a ≡ false
left true b is = is
left false b is = refl

right : (a b : Bool) → (a || b) ≡ false → b ≡ false
right true b is = absurd (cc)
right false b is = is

integer : (z : ℤ) → has_float (number (of_integer z)) ≡ false
integer (pos n) = refl
integer (negsuc n) = refl

scalar_whole : (scalar : Scalar) (words : List ℕ) → has_float (scalar_value scalar words).0 ≡ false
scalar_whole scalar [] = refl
scalar_whole scalar (word ∷ words) = integer (number_of scalar word)

items_whole : (count : ℕ) (element : S.Shape) → IsWhole element → (words : List ℕ) → items_have_float (items_of (items_value count (value_made element) words).0) ≡ false
items_whole zero element is words = refl
items_whole (suc count) element is words = neither _ _ (is words) (items_whole count element is (value_made element words).1)

put_at : (o : Ordering) (k l : List ℕ) (d e : Data) (rest later : Members) → has_float d ≡ false → has_float e ≡ false → members_have_float rest ≡ false → members_have_float later ≡ false
    → members_have_float (match_ordering o (member k d (member l e rest)) (member l d rest) (member l e later)) ≡ false
put_at Less k l d e rest later p q r s = neither _ _ p (neither _ _ q r)
put_at Equal k l d e rest later p q r s = neither _ _ p r
put_at Greater k l d e rest later p q r s = neither _ _ q s

put_whole : (k : List ℕ) (d : Data) (found : Members) → has_float d ≡ false → members_have_float found ≡ false → members_have_float (put k d found) ≡ false
put_whole k d no_members p none = neither _ _ p refl
put_whole k d (member l e rest) p none =
    let q = left (has_float e) (members_have_float rest) none in
    let r = right (has_float e) (members_have_float rest) none in
    put_at (slice_cmp nat_cmp k l) k l d e rest (put k d rest) p q r (put_whole k d rest p r)

fields_whole : (fields : List F.Field) → EachField IsWhole fields → (found : Members) (words : List ℕ) → members_have_float found ≡ false → members_have_float (fields_value (map making fields) found words).0 ≡ false
fields_whole [] is found words none = none
fields_whole (field ∷ fields) is found words none =
    let made = value_made (F.out-Field field).shape words in
    fields_whole fields is.1 (put (F.out-Field field).name made.0 found) made.1 (put_whole (F.out-Field field).name made.0 found (is.0 words) none)

is_whole : (shape : S.Shape) → IsWhole shape
is_whole = by_shapes IsWhole
    (λ scalar words. ap (λ made. has_float made.0) (value_made-Scalar scalar words) ∙ scalar_whole scalar words)
    (λ count element is words. ap (λ made. has_float made.0) (value_made-Array count element words) ∙ items_whole count element is words)
    (λ fields is words. ap (λ made. has_float made.0) (value_made-Struct fields words) ∙ fields_whole fields is no_members words refl)

pub no_float : (shape : S.Shape) (words : List ℕ) → has_float (text_value shape words) ≡ false
no_float shape words = is_whole shape words
