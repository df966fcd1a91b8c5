-- The members of an object: names are texts, and values go by their items.
use Rattle.std.proofs.Common.{◌≡◌, ℕ, List, [], ◌∷◌, length, Some, None, IsUtf8, refl, sym, ◌∙◌, subst, arith, rules}
use Rattle.std.proofs.lemmas.Str.{IsUtf8-string_bytes}
use Rattle.serde_json.specs.declared.value.Value.{Value}
use Rattle.serde_json.specs.Data.{Data}
use Rattle.serde_json.specs.Find.{get_member}
use Rattle.serde_json.specs.View.{items_view, members_view}
use Rattle.serde_json.proofs.Views.{Entry, member_later, items_len-items_view}
use Rattle.json_values.specs.declared.fault.InputKind.TheVariants.{Shape as Unlike}
use Rattle.json_values.specs.Walk.{Reading, array_words, items_words, fault_at}

-- no member has a name that is not UTF-8
pub get_member-no_text : (name : List ℕ) (es : List Entry) → (IsUtf8 name → ⊥) → get_member name (members_view es) ≡ None
get_member-no_text name [] other = refl
get_member-no_text name (e ∷ es) other =
    member_later name e es (λ same. other (subst IsUtf8 (sym same) (IsUtf8-string_bytes e.0))) ∙ get_member-no_text name es other

pub array_words_of_length : (count : ℕ) (element : Data → Reading) (vs : List Value) → length vs ≡ count → array_words count element (Some (items_view vs)) ≡ items_words element 0 (items_view vs)
array_words_of_length count element vs same = rw (items_len-items_view vs, same) (search (rules, arith))

pub array_words_of_other : (count : ℕ) (element : Data → Reading) (vs : List Value) → (length vs ≡ count → ⊥) → array_words count element (Some (items_view vs)) ≡ fault_at Unlike []
array_words_of_other count element vs other = rw (items_len-items_view vs) (search (rules, arith))
