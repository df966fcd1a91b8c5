-- How slots are given to shares, step by step: first each share that the step makes takes a free slot, or the next new one where none is free; then
-- the slots of the shares that no later step makes or uses are free again.
use Rattle.std.specs.Prelude.{ℕ, ◌+◌, ◌-◌, ◌==◌, List, [], ◌∷◌, ◌++◌, get_or, length, map, replicate, slice_set, take, if◌then◌else◌}
use Rattle.std.specs.List.{fold, list_any}
use Rattle.plan_slots.specs.declared.allocation.Life.{Life}
use Rattle.plan_slots.specs.declared.allocation.Life.TheVariants.{Unmade, Held, Ended}
use Rattle.plan_slots.specs.Lives.{Touch, touches}

pub record Allocation : Type 0 where
  -- the life of each share
  pub lives : List Life
  -- the slots that are free, and how many there are in all
  pub free : List ℕ
  pub count : ℕ

abbrev pub no_slots : ℕ → Allocation
no_slots n = record { lives = replicate n Unmade; free = []; count = 0 }

-- a share that isn't among those counted is never given a slot
abbrev pub life_at : List Life → ℕ → Life
life_at lives s = get_or lives s (Ended 0)

-- the slot of a share that had one
abbrev pub slot_in : Life → ℕ
slot_in Unmade = 0
slot_in (Held slot) = slot
slot_in (Ended slot) = slot

-- ---- taking and giving back

-- the last free slot, or the next new one
abbrev pub next_slot : (free : List ℕ) → (count : ℕ) → ℕ
next_slot free count = if length free == 0 then count else get_or free (length free - 1) 0

abbrev pub count_after : (free : List ℕ) → (count : ℕ) → ℕ
count_after free count = if length free == 0 then count + 1 else count

abbrev pub given : Allocation → ℕ → Allocation
given a s = record {
  lives = slice_set a.lives s (Held (next_slot a.free a.count));
  free = take (length a.free - 1) a.free;
  count = count_after a.free a.count;
}

abbrev pub held_by : Life → Allocation → ℕ → Allocation
held_by Unmade a s = given a s
held_by (Held slot) a s = a
held_by (Ended slot) a s = a

unfoldable pub hold : Allocation → ℕ → Allocation
hold a s = held_by (life_at a.lives s) a s

abbrev pub released_by : Life → Allocation → ℕ → Allocation
released_by Unmade a s = a
released_by (Held slot) a s = record { lives = slice_set a.lives s (Ended slot); free = a.free ++ slot ∷ []; count = a.count }
released_by (Ended slot) a s = a

unfoldable pub release : Allocation → ℕ → Allocation
release a s = released_by (life_at a.lives s) a s

-- ---- steps

unfoldable pub release_unless : List Touch → Allocation → ℕ → Allocation
release_unless after a s = if list_any (touches s) after then a else release a s

abbrev pub after_step : Touch → (after : List Touch) → Allocation → Allocation
after_step t after a = fold (release_unless after) (fold hold a t.made) (t.made ++ t.used)

unfoldable pub after_steps : List Touch → Allocation → Allocation
after_steps [] a = a
after_steps (t ∷ after) a = after_steps after (after_step t after a)

-- the slots of all shares
abbrev pub slots_in : Allocation → List ℕ
slots_in a = map slot_in a.lives
