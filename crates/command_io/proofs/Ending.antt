-- From what is printed of an outcome to how its command ends.
use Rattle.std.proofs.Common.{◌≡◌, ℕ, ◌-◌, ◌^◌, ◌<◌, ◌≤◌, ◌⊎◌, inl, inr, List, Option, Result, Ok, Err, MatchResult, ◌∙◌, arith}
use Rattle.std.specs.String.{string_bytes}
use Rattle.hy_io.specs.Outside.{Store, Rose, NoneFell}
use Rattle.command_io.specs.declared.status.Line.{Line}
use Rattle.command_io.specs.declared.status.Stop.{Stop}
use Rattle.command_io.specs.declared.status.Stop.TheVariants.{Fault, Memory}
use Rattle.command_io.specs.Reading.{IsFileFault}
use Rattle.command_io.specs.Ends.{OnLine, Concludes, Ends, Calm}

-- the command of an outcome whose line is as `P` says
pub ends_of : (P : ℕ → List ℕ → Type 0) (outcome : Result Line Stop) (taken_before taken_after : Option (List ℕ)) (faults_before faults_after code : ℕ)
    → MatchResult outcome (λ line. P line.code (string_bytes line.text)) (λ stop. OnLine stop P)
    → Concludes outcome taken_before taken_after faults_before faults_after code → Ends P taken_before taken_after faults_before faults_after code
ends_of P (Ok line) taken_before taken_after faults_before faults_after code so is = inl (line.code, string_bytes line.text, so, is)
ends_of P (Err (Fault line)) taken_before taken_after faults_before faults_after code so is = inl (line.code, string_bytes line.text, so, is)
ends_of P (Err Memory) taken_before taken_after faults_before faults_after code so is = inr is

-- an outcome's line that is as `P` says is as `Q` says
pub outcome_as : (P Q : ℕ → List ℕ → Type 0) → ((code : ℕ) (line : List ℕ) → P code line → Q code line) → (outcome : Result Line Stop)
    → MatchResult outcome (λ line. P line.code (string_bytes line.text)) (λ stop. OnLine stop P)
    → MatchResult outcome (λ line. Q line.code (string_bytes line.text)) (λ stop. OnLine stop Q)
outcome_as P Q into (Ok line) so = into line.code (string_bytes line.text) so
outcome_as P Q into (Err (Fault line)) so = into line.code (string_bytes line.text) so
outcome_as P Q into (Err Memory) so = tt

-- a calm count hasn't risen
pub not_risen : (before after : ℕ) → Calm before after → Rose before after → ⊥
not_risen before after calm rose = omega (arith, calm.same, rose calm.below)

-- a line of status 0 is printed, where the sink has no fault
pub ends_well : (outcome : Result Line Stop) (taken_before taken_after : Option (List ℕ)) (faults_before faults_after code : ℕ)
    → MatchResult outcome (λ line. line.code ≡ 0) (λ stop. stop ≡ Memory)
    → Concludes outcome taken_before taken_after faults_before faults_after code → Calm faults_before faults_after → (code ≡ 0) ⊎ (code ≡ 10)
ends_well (Ok line) taken_before taken_after faults_before faults_after code zero (inl (own, whole)) calm = inl (own ∙ zero)
ends_well (Ok line) taken_before taken_after faults_before faults_after code zero (inr (nine, cut, rose)) calm = absurd (not_risen faults_before faults_after calm rose)
ends_well (Err (Fault line)) taken_before taken_after faults_before faults_after code other is calm = absurd (cc (other))
ends_well (Err Memory) taken_before taken_after faults_before faults_after code same is calm = inr is.0

-- a command that must end with status 0 does so, where the sink has no fault and memory doesn't run out
pub ends_zero : (P : ℕ → List ℕ → Type 0) (taken_before taken_after : Option (List ℕ)) (faults_before faults_after code : ℕ)
    → ((own : ℕ) (line : List ℕ) → P own line → own ≡ 0)
    → Ends P taken_before taken_after faults_before faults_after code → Calm faults_before faults_after → (code ≡ 0) ⊎ (code ≡ 10)
ends_zero P taken_before taken_after faults_before faults_after code zero (inl (own, line, so, inl (is, whole))) calm = inl (is ∙ zero own line so)
ends_zero P taken_before taken_after faults_before faults_after code zero (inl (own, line, so, inr (nine, cut, rose))) calm = absurd (not_risen faults_before faults_after calm rose)
ends_zero P taken_before taken_after faults_before faults_after code zero (inr (ten, same)) calm = inr ten

-- an end of one command as that of another
pub ends_as : (P Q : ℕ → List ℕ → Type 0) (taken_before taken_after : Option (List ℕ)) (faults_before faults_after code : ℕ)
    → ((own : ℕ) (line : List ℕ) → P own line → Q own line)
    → Ends P taken_before taken_after faults_before faults_after code → Ends Q taken_before taken_after faults_before faults_after code
ends_as P Q taken_before taken_after faults_before faults_after code into (inl (own, line, so, is)) = inl (own, line, into own line so, is)
ends_as P Q taken_before taken_after faults_before faults_after code into (inr same) = inr same

-- the status is the line's, 9 or 10
pub status_of_ends : (P : ℕ → List ℕ → Type 0) (taken_before taken_after : Option (List ℕ)) (faults_before faults_after code most : ℕ)
    → ((own : ℕ) (line : List ℕ) → P own line → own ≤ most)
    → Ends P taken_before taken_after faults_before faults_after code → (code ≤ most) ⊎ ((code ≡ 9) ⊎ (code ≡ 10))
status_of_ends P taken_before taken_after faults_before faults_after code most few (inl (own, line, so, inl (is, whole))) = let small = few own line so in inl (omega (arith, is, small))
status_of_ends P taken_before taken_after faults_before faults_after code most few (inl (own, line, so, inr (nine, cut, rose))) = inr (inl nine)
status_of_ends P taken_before taken_after faults_before faults_after code most few (inr (ten, same)) = inr (inr ten)

-- a fault of a file is one of a longer stretch of the run
pub in_stretch : (store : Option Store) (first before after : List ℕ → ℕ) (name : List ℕ) (most refusal code : ℕ) (line : List ℕ) → NoneFell first before → NoneFell before after
    → IsFileFault store before after name most refusal code line → IsFileFault store first after name most refusal code line
in_stretch store first before after name most refusal code line earlier later (inl (two, rose, told)) =
    let low = earlier name in
    let high = later name in
    let still : before name < 2 ^ 64 - 1 → before name < after name = rose in
    inl (two, λ below. by_cases (before name) (after name) (first name) low high still below, told)
  where
    by_cases : (b a f : ℕ) → f ≤ b → b ≤ a → (b < 2 ^ 64 - 1 → b < a) → f < 2 ^ 64 - 1 → f < a
    by_cases b a f low high still below = grind (arith, low, high, still, below)
in_stretch store first before after name most refusal code line earlier later (inr long) = inr long
