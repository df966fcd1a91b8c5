-- The order of lists of choices.
use Rattle.std.proofs.Common.{◌≡◌, ◌<◌, List, [], ◌∷◌, ◌++◌, refl, inl, inr, arith}
use Rattle.choice_core.specs.declared.sharings.Choice.{Choice}
use Rattle.choice_core.specs.declared.sharings.Choice.TheVariants.{A, Y, C, S}
use Rattle.choice_core.specs.Choices.{place}
use Rattle.choice_core.specs.Least.{IsLater}

pub place_same : (c d : Choice) → place c ≡ place d → c ≡ d
place_same A A is = refl
place_same A Y is = absurd (omega arith)
place_same A C is = absurd (omega arith)
place_same A S is = absurd (omega arith)
place_same Y A is = absurd (omega arith)
place_same Y Y is = refl
place_same Y C is = absurd (omega arith)
place_same Y S is = absurd (omega arith)
place_same C A is = absurd (omega arith)
place_same C Y is = absurd (omega arith)
place_same C C is = refl
place_same C S is = absurd (omega arith)
place_same S A is = absurd (omega arith)
place_same S Y is = absurd (omega arith)
place_same S C is = absurd (omega arith)
place_same S S is = refl

-- a list that is later than a prefix is later than what extends it
pub later_more : (cs prefix rest : List Choice) → IsLater cs prefix → IsLater cs (prefix ++ rest)
unfolding IsLater
later_more [] prefix rest later = absurd later
later_more (c ∷ cs) [] rest later = absurd later
later_more (c ∷ cs) (d ∷ ds) rest (inl more) = inl more
later_more (c ∷ cs) (d ∷ ds) rest (inr (same, later)) = inr (same, later_more cs ds rest later)

-- a later choice behind the same prefix
pub later_behind : (prefix : List Choice) (c d : Choice) (cs ds : List Choice) → place d < place c → IsLater (prefix ++ c ∷ cs) (prefix ++ d ∷ ds)
unfolding IsLater
later_behind [] c d cs ds more = inl more
later_behind (b ∷ prefix) c d cs ds more = inr (refl, later_behind prefix c d cs ds more)

-- a list isn't later than one that extends it
pub not_later_shorter : (cs rest : List Choice) → IsLater cs (cs ++ rest) → ⊥
unfolding IsLater
not_later_shorter [] rest later = later
not_later_shorter (c ∷ cs) rest (inl more) = omega (arith, more)
not_later_shorter (c ∷ cs) rest (inr (same, later)) = not_later_shorter cs rest later
