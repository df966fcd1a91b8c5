-- A bound on the cost of every list of choices that begins with a prefix.
use Rattle.std.specs.Prelude.{ℕ, ◌+◌, cond, ◌||◌, nat_lt, min, List, [], ◌∷◌, length, drop, Option, Some, None, slice_index_or, sum_by, option_map, unwrap_or}
use Rattle.std.specs.Option.{option_and_then}
use Rattle.choice_core.specs.declared.sharings.Choice.{Choice}
use Rattle.choice_core.specs.declared.sharings.Choice.TheVariants.{A, Y, C, S}
use Rattle.choice_core.specs.declared.sharings.Sharing.{Sharing}
use Rattle.choice_core.specs.declared.problems.Fan.{Fan}
use Rattle.choice_core.specs.declared.problems.Costs.{Costs}
use Rattle.choice_core.specs.Choices.{sharing_of, same_sharing}
use Rattle.choice_core.specs.Problems.{Row, own_of, price_of, sharing_at, reaches, cost_of, next_from, is_at}

-- the lesser of two numbers, where none is greater than any
unfoldable pub lesser : Option ℕ → Option ℕ → Option ℕ
lesser None o = o
lesser (Some a) None = Some a
lesser (Some a) (Some b) = Some (min a b)

-- the least of what the four choices give
abbrev pub least : (Choice → Option ℕ) → Option ℕ
least f = lesser (lesser (lesser (f A) (f Y)) (f C)) (f S)

-- what one more consumer in sharing t adds to the cost of a fan: nothing where that sharing is the
-- producer's or some consumer has it, and while the producer has no choice
unfoldable pub further_from : Fan → List Choice → Sharing → Option Sharing → ℕ
further_from f prefix t None = 0
further_from f prefix t (Some s) = cond (reaches f prefix t || same_sharing t s) 0 (price_of f s t)

abbrev pub further : Fan → List Choice → Sharing → ℕ
further f prefix t = further_from f prefix t (sharing_at prefix f.from)

-- what sharing t at module m adds to the fans whose first consumer past the prefix is m
unfoldable pub due : List Fan → List Choice → ℕ → Sharing → ℕ
due fans prefix m t = sum_by (λ f. cond (is_at (next_from (length prefix) f.to) m) (further f prefix t) 0) fans

-- the least that module m adds to the cost
abbrev pub least_at : List Fan → List Choice → ℕ → Row → ℕ
least_at fans prefix m row = unwrap_or (least (λ c. option_map (λ own. own + due fans prefix m (sharing_of c)) (own_of row c))) 0

-- the same for the modules from m on
unfoldable pub least_past : List Fan → List Choice → ℕ → List Row → ℕ
least_past fans prefix m [] = 0
least_past fans prefix m (row ∷ rows) = least_at fans prefix m row + least_past fans prefix (m + 1) rows

-- the least price of a fan over the choices of its producer and of its first consumer
unfoldable pub least_price : List Row → Fan → ℕ
least_price rows f =
    let consumer = slice_index_or rows (slice_index_or f.to 0 0) [] in
    unwrap_or (least (λ c. option_and_then (λ _. least (λ d. option_map (λ _. price_of f (sharing_of c) (sharing_of d)) (own_of consumer d))) (own_of (slice_index_or rows f.from []) c))) 0

-- the bound of a prefix: the cost so far, the least for each module past the prefix, and the least
-- price of each fan whose producer is past it
abbrev pub bound_of : Costs → List Choice → ℕ
bound_of p prefix =
    cost_of p prefix + least_past p.fans prefix (length prefix) (drop (length prefix) p.own)
    + sum_by (λ f. cond (nat_lt f.from (length prefix)) 0 (least_price p.own f)) p.fans
