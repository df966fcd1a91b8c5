-- Members that have none of some names.
use Rattle.std.proofs.Common.{◌≡◌, ℕ, Bool, true, false, if◌then◌else◌, List, [], ◌∷◌, Option, Some, None, IsTrue, String, Global, string_bytes, string_cmp, nat_cmp, refl, ap, ◌∙◌, Less, Greater}
use Rattle.std.proofs.lemmas.Cmp.{nat_list_cmp_total}
use Rattle.std.specs.Cmp.Lexicographic.{slice_cmp}
use Rattle.std.specs.Ordering.{is_lt, ordering_reverse}
use Rattle.std.specs.List.{AllByRecursion}
use Rattle.std.specs.List.Sorted.{IsStrictlySortedBy}
use Rattle.std.specs.Map.{keys_of}
use Rattle.serde_json.specs.Data.{Members, no_members, member}
use Rattle.serde_json.specs.View.{members_view}
use Rattle.serde_json.proofs.Views.{Entry}
use Rattle.json_values.specs.Walk.{extra, is_among, least}
use Rattle.json_values.specs.Meaning.{HasOnly}

-- ---- no extra member

only_at : (known : Bool) (names : List (List ℕ)) (name : List ℕ) (rest : Members) → is_among name names ≡ known
    → (if known then extra names rest else Some (least name (extra names rest))) ≡ None → (extra names rest ≡ None → HasOnly names rest) → IsTrue (is_among name names) × HasOnly names rest
only_at true names name rest known none later = (known, later none)
only_at false names name rest known none later = absurd (cc)

pub only_from_no_extra : (names : List (List ℕ)) (members : Members) → extra names members ≡ None → HasOnly names members
only_from_no_extra names no_members none = tt
only_from_no_extra names (member name value rest) none = only_at (is_among name names) names name rest refl none (only_from_no_extra names rest)

pub no_extra_from_only : (names : List (List ℕ)) (members : Members) → HasOnly names members → extra names members ≡ None
no_extra_from_only names no_members only = refl
no_extra_from_only names (member name value rest) only = let known = only.0 in rw known (no_extra_from_only names rest only.1)

-- ---- members in the order of their names

-- each of the names comes after this one
abbrev pub After : List ℕ → Option (List ℕ) → Type 0
After name None = Unit {0}
After name (Some other) = slice_cmp nat_cmp name other ≡ Less

least_first : (name : List ℕ) (found : Option (List ℕ)) → After name found → least name found ≡ name
least_first name None after = refl
least_first name (Some other) after =
    let above : slice_cmp nat_cmp other name ≡ Greater = nat_list_cmp_total.antisymm other name ∙ ap ordering_reverse after in
    rw above refl

either : (second : Bool) (name first other : List ℕ) → slice_cmp nat_cmp name first ≡ Less → slice_cmp nat_cmp name other ≡ Less → slice_cmp nat_cmp name (if second then other else first) ≡ Less
either true name first other less after = after
either false name first other less after = less

after_least : (name first : List ℕ) (found : Option (List ℕ)) → slice_cmp nat_cmp name first ≡ Less → After name found → slice_cmp nat_cmp name (least first found) ≡ Less
after_least name first None less after = less
after_least name first (Some other) less after = either (is_lt (slice_cmp nat_cmp other first)) name first other less after

after_one : (known : Bool) (name first : List ℕ) (found : Option (List ℕ)) → slice_cmp nat_cmp name first ≡ Less → After name found → After name (if known then found else Some (least first found))
after_one true name first found less after = after
after_one false name first found less after = after_least name first found less after

after_extra : (names : List (List ℕ)) (name : String Global) (es : List Entry) → AllByRecursion (λ y. string_cmp name y ≡ Less) (keys_of es) → After (string_bytes name) (extra names (members_view es))
after_extra names name [] all = tt
after_extra names name (e ∷ es) all = after_one (is_among (string_bytes e.0) names) (string_bytes name) (string_bytes e.0) (extra names (members_view es)) all.0 (after_extra names name es all.1)

-- the first member of none of the names is the least
pub first_is_least : (names : List (List ℕ)) (e : Entry) (es : List Entry) → IsStrictlySortedBy string_cmp (keys_of (e ∷ es)) → is_among (string_bytes e.0) names ≡ false
    → extra names (members_view (e ∷ es)) ≡ Some (string_bytes e.0)
unfolding IsStrictlySortedBy
first_is_least names e es sorted unknown = rw unknown (ap Some (least_first (string_bytes e.0) (extra names (members_view es)) (after_extra names e.0 es sorted.0)))

pub known_is_passed : (names : List (List ℕ)) (e : Entry) (es : List Entry) → is_among (string_bytes e.0) names ≡ true → extra names (members_view (e ∷ es)) ≡ extra names (members_view es)
known_is_passed names e es known = rw known refl
