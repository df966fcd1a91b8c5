-- What a choice of circuits costs: own costs of modules, and conversions along fans.
use Rattle.std.specs.Prelude.{◌≡◌, ℕ, ◌+◌, ◌*◌, ◌^◌, ◌<◌, Bool, false, cond, ◌&&◌, ◌||◌, ◌==◌, nat_lt, not, max, List, [], ◌∷◌, length, map, filter, Option, Some, None, IsSome, slice_get, slice_index, slice_index_or, sum_by, All, option_map, unwrap_or}
use Rattle.std.specs.List.{list_any, IsDistinct}
use Rattle.choice_core.specs.declared.sharings.Choice.{Choice}
use Rattle.choice_core.specs.declared.sharings.Choice.TheVariants.{A, Y, C, S}
use Rattle.choice_core.specs.declared.sharings.Sharing.{Sharing}
use Rattle.choice_core.specs.declared.sharings.Sharing.TheVariants.{Arithmetic, Boolean, Yao}
use Rattle.choice_core.specs.declared.problems.Fan.{Fan}
use Rattle.choice_core.specs.declared.problems.Costs.{Costs}
use Rattle.choice_core.specs.Choices.{place, sharing_of, rank, same_sharing}

-- a module's own costs, one for each choice that it allows
abbrev pub Row : Type 0
Row = List (Option ℕ)

abbrev pub own_of : Row → Choice → Option ℕ
own_of row c = slice_index_or row (place c) None

-- the price of a fan's words from one sharing to another
abbrev pub price_of : Fan → Sharing → Sharing → ℕ
price_of f s t = slice_index (slice_index_or f.price (rank s) []) (rank t)

-- the own costs of the modules that have a choice
unfoldable pub own_sum : List Row → List Choice → ℕ
own_sum [] cs = 0
own_sum (row ∷ rows) [] = 0
own_sum (row ∷ rows) (c ∷ cs) = unwrap_or (own_of row c) 0 + own_sum rows cs

-- the sharing of a module, if it has a choice
unfoldable pub sharing_at : List Choice → ℕ → Option Sharing
sharing_at cs m = option_map sharing_of (slice_get cs m)

abbrev pub is_in : Option Sharing → Sharing → Bool
is_in None t = false
is_in (Some s) t = same_sharing s t

-- whether some consumer of the fan has a choice in this sharing
unfoldable pub reaches : Fan → List Choice → Sharing → Bool
reaches f cs t = list_any (λ m. is_in (sharing_at cs m) t) f.to

-- the price from s to another sharing t that some consumer has, once
unfoldable pub charge : Fan → List Choice → Sharing → Sharing → ℕ
charge f cs s t = cond (reaches f cs t && not (same_sharing t s)) (price_of f s t) 0

-- what a fan costs: the prices from its producer's sharing to each other one that some consumer
-- has; nothing while the producer has no choice
unfoldable pub fan_cost_from : Fan → List Choice → Option Sharing → ℕ
fan_cost_from f cs None = 0
fan_cost_from f cs (Some s) = charge f cs s Arithmetic + charge f cs s Boolean + charge f cs s Yao

abbrev pub fan_cost : Fan → List Choice → ℕ
fan_cost f cs = fan_cost_from f cs (sharing_at cs f.from)

-- the cost of a list of choices
abbrev pub cost_of : Costs → List Choice → ℕ
cost_of p cs = own_sum p.own cs + sum_by (λ f. fan_cost f cs) p.fans

-- one allowed choice for each of the first modules
unfoldable pub Fits : List Row → List Choice → Type 0
Fits rows [] = Unit {0}
Fits [] (c ∷ cs) = ⊥
Fits (row ∷ rows) (c ∷ cs) = IsSome (own_of row c) × Fits rows cs

-- one allowed choice for each module
pub record IsAssignment (p : Costs) (cs : List Choice) : Type 0 where
  pub fits : Fits p.own cs
  pub whole : length cs ≡ length p.own

-- the module has a choice
abbrev pub HasChoice : Row → Type 0
HasChoice row = (c : Choice) × IsSome (own_of row c)

-- numbers that ascend from above low to below n
unfoldable pub Ascends : ℕ → List ℕ → ℕ → Type 0
Ascends low [] n = Unit {0}
Ascends low (m ∷ ms) n = (low < m) × (m < n) × Ascends m ms n

-- among n modules the fan's list isn't empty, ascends and lies above its producer, and there is
-- nothing to pay between equal sharings
pub record IsFan (n : ℕ) (f : Fan) : Type 0 where
  pub some : 0 < length f.to
  pub ascends : Ascends f.from f.to n
  pub free : (s : Sharing) → price_of f s s ≡ 0

abbrev pub greatest_own : Row → ℕ
greatest_own row = max (max (unwrap_or (own_of row A) 0) (unwrap_or (own_of row Y) 0)) (max (unwrap_or (own_of row C) 0) (unwrap_or (own_of row S) 0))

abbrev pub greatest_from : Fan → Sharing → ℕ
greatest_from f s = max (max (price_of f s Arithmetic) (price_of f s Boolean)) (price_of f s Yao)

abbrev pub greatest_price : Fan → ℕ
greatest_price f = max (max (greatest_from f Arithmetic) (greatest_from f Boolean)) (greatest_from f Yao)

-- whether the module is the fan's producer or a consumer
unfoldable pub touches : Fan → ℕ → Bool
touches f m = (f.from == m) || list_any (λ consumer. consumer == m) f.to

-- the numbers of the fans that touch a module, in order
abbrev pub AreTouching : List Fan → ℕ → List ℕ → Type 0
AreTouching fans m numbers = map (λ i. slice_get fans i) numbers ≡ map (λ f. Some f) (filter (λ f. touches f m) fans)

-- the first consumer that isn't among the first k modules
unfoldable pub next_from : ℕ → List ℕ → Option ℕ
next_from k [] = None
next_from k (m ∷ ms) = cond (nat_lt m k) (next_from k ms) (Some m)

abbrev pub is_at : Option ℕ → ℕ → Bool
is_at None m = false
is_at (Some k) m = k == m

-- whether one of the fans has module n as its first consumer past the first k modules
abbrev pub lead_to : List Fan → ℕ → ℕ → Bool
lead_to fans k n = list_any (λ f. is_at (next_from k f.to) n) fans

-- the modules that the fans which touch a module have as their first consumers past it, each once
pub record AreFollowing (fans : List Fan) (m : ℕ) (numbers : List ℕ) : Type 0 where
  pub apart : IsDistinct (λ i j. i == j) numbers
  pub are : (n : ℕ) → list_any (λ i. n == i) numbers ≡ lead_to (filter (λ f. touches f m) fans) (m + 1) n

-- for each module the numbers of the fans that touch it, in order, and the modules that follow
pub record IsIndexed (p : Costs) (touching following : List (List ℕ)) : Type 0 where
  pub size : length touching ≡ length p.own
  pub numbers : (m : ℕ) → m < length p.own → AreTouching p.fans m (slice_index_or touching m [])
  pub long : length following ≡ length p.own
  pub next : (m : ℕ) → m < length p.own → AreFollowing p.fans m (slice_index_or following m [])

-- what a problem has to meet; every cost and every bound is then below 2 ^ 63
pub record IsProblem (p : Costs) : Type 0 where
  pub choices : All HasChoice p.own
  pub fans : All (IsFan (length p.own)) p.fans
  pub small : sum_by greatest_own p.own + sum_by (λ f. 2 * greatest_price f) p.fans < 2 ^ 63
