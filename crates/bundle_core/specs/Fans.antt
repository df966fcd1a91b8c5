-- How fans come about, word by word.
use Rattle.std.specs.Prelude.{◌≡◌, ℕ, ◌+◌, ◌-◌, ◌<◌, ◌≤◌, Bool, false, cond, List, [], ◌∷◌, Option, None, Some, get_or, length, map, slice_get}
use Rattle.std.specs.List.{filter, fold}
use Rattle.std.specs.Str.{bytes_eq}
use Rattle.word_graph.specs.declared.entry.Entry.{Entry}
use Rattle.module_split.specs.declared.module.Module.{Module}
use Rattle.module_split.specs.Cut.{below}
use Rattle.choice_core.specs.declared.problems.Fan.{Fan}
use Rattle.choice_core.specs.declared.problems.Table.{Table}
use Rattle.bundle_core.specs.Costs.{consumers, prices, uses, with_consumers}

-- the list at a place; a place past the end has none
abbrev pub list_at : List (List ℕ) → ℕ → List ℕ
list_at lists k = get_or lists k []

-- the sums of two rows, and of two lists of rows
abbrev pub plus_row : List ℕ → List ℕ → List ℕ
plus_row [] ys = []
plus_row (x ∷ xs) [] = []
plus_row (x ∷ xs) (y ∷ ys) = (x + y) ∷ plus_row xs ys

abbrev pub plus_rows : List (List ℕ) → List (List ℕ) → List (List ℕ)
plus_rows [] ys = []
plus_rows (x ∷ xs) [] = []
plus_rows (x ∷ xs) (y ∷ ys) = plus_row x y ∷ plus_rows xs ys

-- the last fan, if there is one, goes to this list
abbrev pub goes_to : Option Fan → List ℕ → Bool
goes_to None to = false
goes_to (Some fan) to = bytes_eq fan.to to

abbrev pub last_of : List Fan → Option Fan
last_of fans = slice_get fans (length fans - 1)

-- the prices of one word more in a fan
abbrev pub with_price : List (List ℕ) → Fan → Fan
with_price more fan = record fan { price = plus_rows fan.price more }

-- one word more in the last fan, or in a new one
abbrev pub with_more : (from : ℕ) → (to : List ℕ) → List (List ℕ) → List Fan → List Fan
with_more from to more [] = record { from = from; to = to; price = more } ∷ []
with_more from to more (fan ∷ []) = cond (bytes_eq fan.to to) (with_price more fan ∷ []) (fan ∷ record { from = from; to = to; price = more } ∷ [])
with_more from to more (fan ∷ next ∷ fans) = fan ∷ with_more from to more (next ∷ fans)

-- for each node the modules that use it
pub record AreUsers (list : List Module) (count : ℕ) (users : List (List ℕ)) : Type 0 where
  pub size : length users ≡ count
  pub each : (k : ℕ) → k < count → list_at users k ≡ consumers list k

-- the same for the first n modules alone
pub record AreUsersOf (list : List Module) (n count : ℕ) (users : List (List ℕ)) : Type 0 where
  pub size : length users ≡ count
  pub each : (k : ℕ) → k < count → list_at users k ≡ filter (λ m. uses (slice_get list m) k) (below n)

-- the same, but for a word that no module uses
abbrev pub with_used : (from : ℕ) → (to : List ℕ) → List (List ℕ) → List Fan → List Fan
with_used from [] more fans = fans
with_used from (m ∷ ms) more fans = with_more from (m ∷ ms) more fans

-- ---- the fans of a producer, where this tells the modules that use each node

module _ (key : ℕ → List ℕ) where
  abbrev pub lists_by : List ℕ → List (List ℕ)
  lists_by places = fold with_consumers [] (map key places)

  abbrev pub words_by : List ℕ → List ℕ → List ℕ
  words_by places to = filter (λ k. bytes_eq (key k) to) places

abbrev pub fan_by : Table → List Entry → (ℕ → List ℕ) → (from : ℕ) → List ℕ → List ℕ → Fan
fan_by t es key from places to = record { from = from; to = to; price = prices t es (words_by key places to) }

-- ---- prices that are not too large

abbrev pub IsLowRow : ℕ → List ℕ → Type 0
IsLowRow n [] = Unit {0}
IsLowRow n (x ∷ xs) = (x ≤ n) × IsLowRow n xs

abbrev pub AreLowRows : ℕ → List (List ℕ) → Type 0
AreLowRows n [] = Unit {0}
AreLowRows n (row ∷ rows) = IsLowRow n row × AreLowRows n rows

abbrev pub AreLow : ℕ → List Fan → Type 0
AreLow n [] = Unit {0}
AreLow n (fan ∷ fans) = AreLowRows n fan.price × AreLow n fans
