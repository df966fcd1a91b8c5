-- The numbers of a plan: frames, bytes, rounds, and the most of words and bytes in a stretch. Each is a sum or a maximum over its instructions.
use Rattle.std.specs.Prelude.{ℕ, ◌+◌, max, Bool, ◌||◌, List, [], ◌∷◌, ◌++◌, map, if◌then◌else◌}
use Rattle.std.specs.List.{count_by, fold, sum_by}
use Rattle.hy_bits.specs.declared.turns.Role.{Role}
use Rattle.hy_bits.specs.declared.turns.Role.TheVariants.{P0, P1}
use Rattle.share_core.specs.declared.instr.Instr.{Instr}
use Rattle.share_core.specs.Instructions.{has_frame}
use Rattle.share_core.specs.Machine.{payload_length, words_drawn}
use Rattle.share_core.specs.Roles.{other}
use Rattle.plan_figures.specs.declared.figures.Figures.{Figures}
use Rattle.plan_figures.specs.declared.stretches.Step.{Step}

-- the bytes of the frame that the role sends for an instruction, its head of five bytes among them
abbrev pub frame_length : List Instr → Role → Instr → ℕ
frame_length gates role i = if has_frame i.kind role then 5 + payload_length i gates role else 0

-- the frames of an instruction, each of which the other party receives
abbrev pub frame_count : Instr → ℕ
frame_count i = (if has_frame i.kind P0 then 1 else 0) + (if has_frame i.kind P1 then 1 else 0)

-- some party sends
abbrev pub is_round : Instr → Bool
is_round i = has_frame i.kind P0 || has_frame i.kind P1

-- the role receives a frame
abbrev pub receives : Role → Instr → Bool
receives role i = has_frame i.kind (other role)

-- ---- stretches: a party's stretch are the instructions from one at which it receives to the next, both counted; the two ends of the plan are
-- ends of stretches too

-- an instruction by its weight, and whether the party receives at it
abbrev pub steps_of : (Instr → ℕ) → Role → List Instr → List Step
steps_of weight role instrs = map (λ i. record { weight = weight i; receives = receives role i }) instrs

-- the stretches where the first of them has begun with these
unfoldable pub stretches_from : List Step → List Step → List (List Step)
stretches_from begun [] = begun ∷ []
stretches_from begun (s ∷ steps) = if s.receives then (begun ++ s ∷ []) ∷ stretches_from (s ∷ []) steps else stretches_from (begun ++ s ∷ []) steps

-- the weight of a stretch, and the greatest
abbrev pub weight_of : List Step → ℕ
weight_of steps = sum_by (λ (s : Step). s.weight) steps

abbrev pub greatest_stretch : List Step → ℕ
greatest_stretch steps = fold max 0 (map weight_of (stretches_from [] steps))

-- the words drawn, and the bytes that the role sends itself
abbrev pub stretch_words : List Instr → List Instr → Role → ℕ
stretch_words instrs gates role = greatest_stretch (steps_of (λ i. words_drawn i gates) role instrs)

abbrev pub stretch_bytes : List Instr → List Instr → Role → ℕ
stretch_bytes instrs gates role = greatest_stretch (steps_of (frame_length gates role) role instrs)

-- ---- all of them

abbrev pub bytes_sent : List Instr → List Instr → Role → ℕ
bytes_sent instrs gates role = sum_by (frame_length gates role) instrs

abbrev pub figures_of : (instrs gates : List Instr) → Figures
figures_of instrs gates = record {
  receives = sum_by frame_count instrs;
  bytes = bytes_sent instrs gates P0 ∷ bytes_sent instrs gates P1 ∷ [];
  stretch_words = max (stretch_words instrs gates P0) (stretch_words instrs gates P1);
  stretch_bytes = stretch_bytes instrs gates P0 ∷ stretch_bytes instrs gates P1 ∷ [];
  rounds = count_by is_round instrs;
}
