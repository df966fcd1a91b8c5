-- A waiting frame is whole, and there is room for the next one.
use Rattle.std.proofs.Common.{◌≡◌, ◌⊎◌, inl, inr, ℕ, zero, suc, ◌+◌, ◌-◌, ◌<◌, ◌≤◌, max, Bool, true, false, if◌then◌else◌, ltb, List, slice_get, Option, None, Some, refl, sym, ap, ◌∙◌, arith, ltb-true, ltb-false}
use Rattle.hy_bits.specs.declared.turns.Role.{Role}
use Rattle.hy_bits.specs.declared.turns.Role.TheVariants.{P0, P1}
use Rattle.share_core.specs.declared.instr.Instr.{Instr}
use Rattle.share_core.specs.Instructions.{has_frame}
use Rattle.share_core.specs.Machine.{payload_length, words_drawn}
use Rattle.share_core.specs.Roles.{other}
use Rattle.plan_figures.specs.Figures.{figures_of, frame_length, receives, stretch_bytes, stretch_words}
use Rattle.plan_sums.specs.Sums.{before, weight_at}
use Rattle.plan_sums.proofs.SumLaws.{before-le, before-suc, within_stretch}
use Rattle.pair_run.specs.Safe.{Flows, Keeps, reach_of}

-- ---- sums

grows : (weight : Instr → ℕ) (instrs : List Instr) (j k : ℕ) → j ≤ k → before weight instrs j ≤ before weight instrs k
grows weight instrs j k le =
    let same : (k - j) + j ≡ k = omega arith in
    omega (arith, before-le weight instrs j (k - j), ap (before weight instrs) same)

with_one : (weight : Instr → ℕ) (instrs : List Instr) (k : ℕ) (i : Instr) → slice_get instrs k ≡ Some i → before weight instrs (suc k) ≡ before weight instrs k + weight i
with_one weight instrs k i is = before-suc weight instrs k ∙ ap (λ (o : Option Instr). before weight instrs k + weight_at weight o) is

-- ---- frames

-- a frame has a head
has_none : (gates : List Instr) (role : Role) (i : Instr) → frame_length gates role i ≡ 0 → has_frame i.kind role ≡ false
has_none gates role i is = by (has_frame i.kind role) is
  where
    by : (b : Bool) → (if b then 5 + payload_length i gates role else 0) ≡ 0 → b ≡ false
    by true h = absurd (omega arith)
    by false h = refl

-- the frame that a party waits for stands whole, where anything stands
pub comes_whole : (instrs gates : List Instr) (role : Role) (reach place bytes : ℕ) (i : Instr) → Flows instrs gates role reach place bytes → slice_get instrs place ≡ Some i → 0 < bytes → frame_length gates role i ≤ bytes
comes_whole instrs gates role reach place bytes i flows is some = by (ltb place reach) refl
  where
    f : Instr → ℕ
    f = frame_length gates role

    by : (b : Bool) → ltb place reach ≡ b → frame_length gates role i ≤ bytes
    by true lt =
        let less : suc place ≤ reach = ltb-true place reach lt in
        omega (arith, flows.waiting, grows f instrs (suc place) reach less, with_one f instrs place i is)
    by false ge =
        let more : reach ≤ place = ltb-false place reach ge in
        absurd (omega (arith, flows.waiting, some, grows f instrs reach place more))

-- a party that is ahead has received nothing on its way
pub ahead : (instrs gates : List Instr) (role : Role) (receiving : Bool) (behind place bytes : ℕ) → Flows instrs gates role (reach_of receiving behind) place bytes →
    (k : ℕ) (i : Instr) → behind < k → k < place → slice_get instrs k ≡ Some i → has_frame i.kind role ≡ false
ahead instrs gates role receiving behind place bytes flows k i lt less is =
    let f : Instr → ℕ = frame_length gates role in
    let from : suc behind ≤ k = omega arith in
    let to : suc k ≤ place = omega arith in
    let reach : before f instrs (reach_of receiving behind) ≤ before f instrs (suc behind) = reached receiving in
    has_none gates role i (omega (arith, flows.waiting, reach, grows f instrs (suc behind) k from, grows f instrs (suc k) place to, with_one f instrs k i is))
  where
    reached : (b : Bool) → before (frame_length gates role) instrs (reach_of b behind) ≤ before (frame_length gates role) instrs (suc behind)
    reached true = omega arith
    reached false = grows (frame_length gates role) instrs behind (suc behind) (omega arith)

-- ---- room

stretch : (weight : Instr → ℕ) (instrs gates : List Instr) (role : Role) (place behind : ℕ) (receiving : Bool) (bytes amount : ℕ) (i : Instr) → slice_get instrs place ≡ Some i →
    amount + before weight instrs behind ≡ before weight instrs place → Flows instrs gates (other role) (reach_of receiving behind) place bytes →
    (b : Bool) → ltb place behind ≡ b → (amount + weight i ≡ 0) ⊎ (before weight instrs (suc place) ≡ (amount + weight i) + before weight instrs behind) × (behind ≤ place)
stretch weight instrs gates role place behind receiving bytes amount i is so flows true lt =
    let less : suc place ≤ behind = ltb-true place behind lt in
    inl (omega (arith, so, grows weight instrs (suc place) behind less, with_one weight instrs place i is))
stretch weight instrs gates role place behind receiving bytes amount i is so flows false ge =
    inr (omega (arith, so, with_one weight instrs place i is), ltb-false place behind ge)

-- the next frame has room among those that wait
pub room_for_frame : (instrs gates : List Instr) (role : Role) (place behind : ℕ) (receiving : Bool) (waiting bytes : ℕ) (i : Instr) → slice_get instrs place ≡ Some i →
    Flows instrs gates role place behind bytes → Flows instrs gates (other role) (reach_of receiving behind) place waiting → bytes + frame_length gates role i ≤ stretch_bytes instrs gates role
room_for_frame instrs gates role place behind receiving waiting bytes i is own flows =
    by (stretch (frame_length gates role) instrs gates role place behind receiving waiting bytes i is own.waiting flows (ltb place behind) refl)
  where
    f : Instr → ℕ
    f = frame_length gates role

    by : (bytes + f i ≡ 0) ⊎ (before f instrs (suc place) ≡ (bytes + f i) + before f instrs behind) × (behind ≤ place) → bytes + frame_length gates role i ≤ stretch_bytes instrs gates role
    by (inl none) = omega (arith, none)
    by (inr (sum, le)) = omega (arith, sum, within_stretch f role instrs behind place le (ahead instrs gates (other role) receiving behind place waiting flows))

-- and the words of the next instruction among those that are kept
pub room_for_words : (instrs gates : List Instr) (role : Role) (place behind : ℕ) (receiving : Bool) (waiting words : ℕ) (i : Instr) → slice_get instrs place ≡ Some i →
    Keeps instrs gates behind place words → Flows instrs gates (other role) (reach_of receiving behind) place waiting → words + words_drawn i gates ≤ stretch_words instrs gates role
room_for_words instrs gates role place behind receiving waiting words i is kept flows =
    by (stretch f instrs gates role place behind receiving waiting words i is kept.kept flows (ltb place behind) refl)
  where
    f : Instr → ℕ
    f = λ x. words_drawn x gates

    by : (words + f i ≡ 0) ⊎ (before f instrs (suc place) ≡ (words + f i) + before f instrs behind) × (behind ≤ place) → words + words_drawn i gates ≤ stretch_words instrs gates role
    by (inl none) = omega (arith, none)
    by (inr (sum, le)) = omega (arith, sum, within_stretch f role instrs behind place le (ahead instrs gates (other role) receiving behind place waiting flows))
