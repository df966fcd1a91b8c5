-- Slots for shares, which are used again.
use Rattle.std.specs.Prelude.{◌≡◌, ℕ, ◌<◌, true, List, [], ◌∷◌, ◌++◌, length, get_or}
use Rattle.plan_slots.specs.Lives.{Touch, is_live, most_live}

-- at each step, of which it is told which steps stand before it and which after it
abbrev pub AtEachStep : ((before : List Touch) → Touch → (after : List Touch) → Type 0) → (before steps : List Touch) → Type 0
AtEachStep P before [] = Unit {0}
AtEachStep P before (t ∷ after) = P before t after × AtEachStep P (before ++ t ∷ []) after

-- of the first n shares those that are live at a step have slots below `count`, each its own
pub record HaveSlots (n : ℕ) (slots : List ℕ) (count : ℕ) (before : List Touch) (t : Touch) (after : List Touch) : Type 0 where
  pub low : (s : ℕ) → s < n → is_live before t after s ≡ true → get_or slots s 0 < count
  pub apart : (s other : ℕ) → s < n → other < n → is_live before t after s ≡ true → is_live before t after other ≡ true → get_or slots s 0 ≡ get_or slots other 0 → s ≡ other

-- a slot for each of n shares, of so many slots
pub record IsSlotting (n : ℕ) (steps : List Touch) (slots : List ℕ) (count : ℕ) : Type 0 where
  pub size : length slots ≡ n
  -- at each step the shares that are live have slots, each its own
  pub each : AtEachStep (HaveSlots n slots count) [] steps
  -- there are no more slots than shares that are live at one step
  pub least : count ≡ most_live n [] steps
