-- Memory that is read and written share by share, and slot by slot.
use Rattle.std.specs.Prelude.{◌≡◌, ◌≢◌, ℕ, ◌<◌, ◌≤◌, true, List, [], ◌∷◌, get_or, length, map, set}
use Rattle.std.specs.List.{list_any}
use Rattle.plan_slots.specs.Lives.{Touch, is_among, makes}
use Rattle.plan_slots.specs.Slotting.{AtEachStep, IsSlotting}

module _ {V : Type 0} (none : V) where
  -- the values at these places
  abbrev pub reads : List V → List ℕ → List V
  reads memory places = map (λ k. get_or memory k none) places

  -- these values put at these places, one by one
  abbrev pub writes : List V → (places : List ℕ) → List V → List V
  writes memory [] values = memory
  writes memory (k ∷ places) [] = memory
  writes memory (k ∷ places) (v ∷ values) = writes (set memory k v) places values

  -- after a step, which makes of the values of the shares that it uses those of the shares that it makes, as `f` says; `place` says where a share stands
  abbrev pub stepped : (place : ℕ → ℕ) → (List V → List V) → Touch → List V → List V
  stepped place f t memory = writes memory (map place t.made) (f (reads memory (map place t.used)))

  -- the values that each step uses
  unfoldable pub used_values : (place : ℕ → ℕ) → List (List V → List V) → List Touch → List V → List (List V)
  used_values place fs [] memory = []
  used_values place [] (t ∷ steps) memory = []
  used_values place (f ∷ fs) (t ∷ steps) memory = reads memory (map place t.used) ∷ used_values place fs steps (stepped place f t memory)

  -- each step makes as many values as shares
  abbrev pub AreMakers : List (List V → List V) → List Touch → Type 0
  AreMakers fs [] = Unit {0}
  AreMakers [] (t ∷ steps) = ⊥
  AreMakers (f ∷ fs) (t ∷ steps) = ((values : List V) → length (f values) ≡ length t.made) × AreMakers fs steps

-- a step uses shares that an earlier one makes, and makes different ones, all of the first n
pub record IsInOrder (n : ℕ) (before : List Touch) (t : Touch) (after : List Touch) : Type 0 where
  pub made : (s : ℕ) → is_among t.used s ≡ true → list_any (makes s) before ≡ true
  pub used_low : (s : ℕ) → is_among t.used s ≡ true → s < n
  pub made_low : (s : ℕ) → is_among t.made s ≡ true → s < n
  pub apart : (i j : ℕ) → i < j → j < length t.made → get_or t.made i 0 ≢ get_or t.made j 0

-- whatever the steps make of values: those that every step uses are the same by slots as by shares
abbrev pub SlotsAgree : {V : Type 0} → V → Type 0
SlotsAgree {V} none =
    (n : ℕ) (steps : List Touch) (slots : List ℕ) (count : ℕ) → IsSlotting n steps slots count → AtEachStep (IsInOrder n) [] steps → (fs : List (List V → List V)) → AreMakers none fs steps →
    (memory cells : List V) → n ≤ length memory → count ≤ length cells → used_values none (λ s. get_or slots s 0) fs steps cells ≡ used_values none (λ s. s) fs steps memory
