-- Names and macros in the tables that hold them.
use Rattle.std.proofs.Common.{◌≡◌, ℕ, List, [], ◌∷◌, ◌++◌, Bool, true, false, ◌||◌, if◌then◌else◌, cond, Option, None, Some, map, refl, ap, ◌∙◌, Vec, Global}
use Rattle.std.specs.Str.{bytes_eq}
use Rattle.std.specs.List.{list_any}
use Rattle.std.specs.Option.{option_map}
use Rattle.std.specs.Map.{lookup}
use Rattle.c_tree.specs.declared.token.Token.{Token}
use Rattle.c_lex.specs.Names.{is_noted, noted, Macro, list_of}

-- the name is among the keys
pub names-has : (keys : List (Vec ℕ Global)) (name : List ℕ) → list_any (λ k. bytes_eq name k.items) keys ≡ is_noted (map (λ k. k.items) keys) name
names-has [] name = refl
names-has (key ∷ keys) name = ap (λ b. bytes_eq name key.items || b) (names-has keys name)

map-last : {A B : Type 0} (f : A → B) (xs : List A) (x : A) → map f (xs ++ x ∷ []) ≡ map f xs ++ f x ∷ []
map-last f [] x = refl
map-last f (y ∷ ys) x = ap (λ rest. f y ∷ rest) (map-last f ys x)

added : (test : Bool) (keys : List (Vec ℕ Global)) (key : Vec ℕ Global) → map (λ (k : Vec ℕ Global). k.items) (if test then keys else keys ++ key ∷ []) ≡ (if test then map (λ (k : Vec ℕ Global). k.items) keys else map (λ (k : Vec ℕ Global). k.items) keys ++ key.items ∷ [])
added true keys key = refl
added false keys key = map-last (λ (k : Vec ℕ Global). k.items) keys key

-- the keys with one more, if it isn't among them
pub names-noted : (keys : List (Vec ℕ Global)) (key : Vec ℕ Global) → map (λ (k : Vec ℕ Global). k.items) (if list_any (λ k. bytes_eq key.items k.items) keys then keys else keys ++ key ∷ []) ≡ noted (map (λ (k : Vec ℕ Global). k.items) keys) key.items
names-noted keys key = rw (← names-has keys key.items) (added (list_any (λ k. bytes_eq key.items k.items) keys) keys key)

abbrev pub Entry : Type 0
Entry = Vec ℕ Global × Vec Token Global

abbrev pub macro_of : Entry → Macro
macro_of entry = record { name = entry.0.items; tokens = entry.1.items }

found-in : (name : List ℕ) (test : Bool) (tokens : Vec Token Global) (rest : Option (Vec Token Global)) (others : Option (List Token)) → option_map (λ (v : Vec Token Global). v.items) rest ≡ others → option_map (λ (v : Vec Token Global). v.items) (cond test (Some tokens) rest) ≡ (if test then Some tokens.items else others)
found-in name true tokens rest others is = refl
found-in name false tokens rest others is = is

-- the list of a name in the table
pub macros-list : (entries : List Entry) (name : List ℕ) → option_map (λ (v : Vec Token Global). v.items) (lookup (λ (k : Vec ℕ Global). bytes_eq name k.items) entries) ≡ list_of (map macro_of entries) name
macros-list [] name = refl
macros-list (entry ∷ entries) name = found-in name (bytes_eq name entry.0.items) entry.1 _ _ (macros-list entries name)

-- the table with one more entry
pub macros-last : (entries : List Entry) (entry : Entry) → map macro_of (entries ++ entry ∷ []) ≡ map macro_of entries ++ macro_of entry ∷ []
macros-last entries entry = map-last macro_of entries entry

none_before : (found : Option (Vec Token Global)) → option_map (λ (v : Vec Token Global). v.items) found ≡ None → found ≡ None
none_before None is = refl
none_before (Some v) is = absurd (cc)

-- a name without a list has no entry
pub macros-none : (entries : List Entry) (name : List ℕ) → list_of (map macro_of entries) name ≡ None → lookup (λ (k : Vec ℕ Global). bytes_eq name k.items) entries ≡ None
macros-none entries name none = none_before _ (macros-list entries name ∙ none)
