-- What the bound of a prefix changes by with one more choice.
use Rattle.std.specs.Prelude.{ℕ, ◌+◌, ◌-◌, Bool, false, cond, ◌==◌, List, [], ◌∷◌, length, take, filter, slice_index, slice_index_or, option_map, unwrap_or}
use Rattle.choice_core.specs.declared.sharings.Choice.{Choice}
use Rattle.choice_core.specs.declared.sharings.Sharing.{Sharing}
use Rattle.choice_core.specs.declared.problems.Fan.{Fan}
use Rattle.choice_core.specs.Choices.{sharing_of, rank}
use Rattle.choice_core.specs.declared.problems.Costs.{Costs}
use Rattle.choice_core.specs.Problems.{Row, own_of, touches, lead_to}
use Rattle.choice_core.specs.Bound.{least, least_at, least_price}

-- what an entry has for a sharing
abbrev pub entry_of : List ℕ → Sharing → ℕ
entry_of entry t = slice_index entry (rank t)

-- the same of marks
abbrev pub mark_of : List Bool → Sharing → Bool
mark_of marks t = slice_index_or marks (rank t) false

-- the least that a module adds, by what each sharing there adds
abbrev pub least_by : Row → List ℕ → ℕ
least_by row entry = unwrap_or (least (λ c. option_map (λ own. own + entry_of entry (sharing_of c)) (own_of row c))) 0

-- the list of choices before the last
abbrev pub before_last : List Choice → List Choice
before_last cs = take (length cs - 1) cs

-- a fan's least price where its producer is the module
abbrev pub lost : List Row → ℕ → Fan → ℕ
lost rows m f = cond (f.from == m) (least_price rows f) 0

-- of the modules from m on the least that those add which the fans that touch module k go on to
unfoldable pub followed : Costs → List Choice → ℕ → ℕ → List Row → ℕ
followed p prefix k m [] = 0
followed p prefix k m (row ∷ rows) =
    cond (lead_to (filter (λ f. touches f k) p.fans) (k + 1) m) (least_at p.fans prefix m row) 0 + followed p prefix k (m + 1) rows
