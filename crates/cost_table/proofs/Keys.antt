-- The members of an object, by their keys.
use Rattle.std.proofs.Common.{◌≡◌, ℕ, Bool, List, [], ◌∷◌, Option, None, Some, cond, ap, refl, sym, ◌∙◌, true, false, string_cmp, nat_cmp, Less, Greater}
use Rattle.std.proofs.lemmas.Cmp.{nat_list_cmp_total}
use Rattle.std.specs.Prelude.{String}
use Rattle.std.specs.Cmp.Lexicographic.{slice_cmp}
use Rattle.std.specs.Ordering.{ordering_reverse}
use Rattle.std.specs.List.{AllByRecursion}
use Rattle.std.specs.List.Sorted.{IsStrictlySortedBy}
use Rattle.std.specs.String.{string_bytes}
use Rattle.std.specs.declared.alloc.Global.{Global}
use Rattle.std.specs.Map.{keys_of}
use Rattle.serde_json.specs.View.{members_view}
use Rattle.serde_json.specs.declared.value.Value.{Value}
use Rattle.cost_table.specs.Names.{is_known}
use Rattle.cost_table.specs.Tables.{least_among, lesser, lesser_of}

-- the first of the keys that is none of these names
unfoldable pub first_unknown : List (List ℕ) → List (String Global) → Option (List ℕ)
first_unknown names [] = None
first_unknown names (k ∷ ks) = cond (is_known names (string_bytes k)) (first_unknown names ks) (Some (string_bytes k))

-- each of the names comes after this one
abbrev pub After : List ℕ → Option (List ℕ) → Type 0
After name None = Unit {0}
After name (Some other) = slice_cmp nat_cmp name other ≡ Less

lesser_first : (name : List ℕ) (found : Option (List ℕ)) → After name found → lesser (Some name) found ≡ Some name
unfolding lesser_of
lesser_first name None after = refl
lesser_first name (Some other) after =
    let above : slice_cmp nat_cmp other name ≡ Greater = nat_list_cmp_total.antisymm other name ∙ ap ordering_reverse after in
    rw above refl

after_first : (known : Bool) (name : List ℕ) (first : List ℕ) (found : Option (List ℕ)) → slice_cmp nat_cmp name first ≡ Less → After name found → After name (cond known found (Some first))
after_first true name first found less after = after
after_first false name first found less after = less

-- the first of the keys that is none of the names comes after each key before them
after_keys : (names : List (List ℕ)) (name : String Global) (keys : List (String Global)) → AllByRecursion (λ y. string_cmp name y ≡ Less) keys → After (string_bytes name) (first_unknown names keys)
unfolding first_unknown
after_keys names name [] all = tt
after_keys names name (k ∷ ks) all = after_first (is_known names (string_bytes k)) (string_bytes name) (string_bytes k) (first_unknown names ks) all.0 (after_keys names name ks all.1)

-- keys stand in the order of their bytes, so the first that is none of the names is the least
pub first_of_keys : (names : List (List ℕ)) (es : List (String Global × Value)) → IsStrictlySortedBy string_cmp (keys_of es) → first_unknown names (keys_of es) ≡ least_among names (members_view es)
unfolding first_unknown least_among IsStrictlySortedBy
first_of_keys names [] sorted = refl
first_of_keys names (e ∷ es) sorted =
    let rest : first_unknown names (keys_of es) ≡ least_among names (members_view es) = first_of_keys names es sorted.1 in
    ap (cond (is_known names (string_bytes e.0)) (first_unknown names (keys_of es))) (sym (lesser_first (string_bytes e.0) (first_unknown names (keys_of es)) (after_keys names e.0 (keys_of es) sorted.0)))
    ∙ ap (λ r. cond (is_known names (string_bytes e.0)) r (lesser (Some (string_bytes e.0)) r)) rest

-- the first key is one of the names: what follows decides
pub passed_key : (names : List (List ℕ)) (s : List (String Global)) (k : String Global) (ks : List (String Global)) → s ≡ k ∷ ks → is_known names (string_bytes k) ≡ true → first_unknown names ks ≡ first_unknown names s
unfolding first_unknown
passed_key names s k ks is known = sym (ap (first_unknown names) is ∙ rw known refl)

-- the first key is none of the names
pub found_key : (names : List (List ℕ)) (s : List (String Global)) (k : String Global) (ks : List (String Global)) → s ≡ k ∷ ks → is_known names (string_bytes k) ≡ false → Some (string_bytes k) ≡ first_unknown names s
unfolding first_unknown
found_key names s k ks is unknown = sym (ap (first_unknown names) is ∙ rw unknown refl)

-- no key is left
pub no_key : (names : List (List ℕ)) (s : List (String Global)) → s ≡ [] → None ≡ first_unknown names s
unfolding first_unknown
no_key names s is = sym (ap (first_unknown names) is)
