-- Names in the set that holds them.
use Rattle.std.proofs.Common.{◌≡◌, ℕ, List, [], ◌∷◌, ◌++◌, Bool, true, false, ◌||◌, if◌then◌else◌, map, refl, ap, Vec, Global}
use Rattle.std.specs.Str.{bytes_eq}
use Rattle.std.specs.List.{list_any}
use Rattle.std.proofs.lemmas.List.{map-append}
use Rattle.c_scopes.specs.Bindings.{noted}

-- the name is among the keys
pub names-has : (keys : List (Vec ℕ Global)) (name : List ℕ) → list_any (λ k. bytes_eq name k.items) keys ≡ list_any (bytes_eq name) (map (λ k. k.items) keys)
names-has [] name = refl
names-has (key ∷ keys) name = ap (λ b. bytes_eq name key.items || b) (names-has keys name)

added : (test : Bool) (keys : List (Vec ℕ Global)) (key : Vec ℕ Global)
    → map (λ (k : Vec ℕ Global). k.items) (if test then keys else keys ++ key ∷ [])
    ≡ (if test then map (λ (k : Vec ℕ Global). k.items) keys else map (λ (k : Vec ℕ Global). k.items) keys ++ key.items ∷ [])
added true keys key = refl
added false keys key = map-append (λ (k : Vec ℕ Global). k.items) keys (key ∷ [])

-- the keys with one more, if it isn't among them
pub names-noted : (keys : List (Vec ℕ Global)) (key : Vec ℕ Global)
    → map (λ (k : Vec ℕ Global). k.items) (if list_any (λ k. bytes_eq key.items k.items) keys then keys else keys ++ key ∷ []) ≡ noted (map (λ (k : Vec ℕ Global). k.items) keys) key.items
names-noted keys key = rw (← names-has keys key.items) (added (list_any (λ k. bytes_eq key.items k.items) keys) keys key)
