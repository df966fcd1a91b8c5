-- From what the texts say to what the files hold, and what a run without faults must end with.
use Rattle.std.proofs.Common.{◌≡◌, ◌≢◌, ℕ, ◌+◌, ◌^◌, ◌≤◌, ◌⊎◌, inl, inr, List, length, take, Option, None, Some, MatchOption, refl, ap, sym, ◌∙◌, subst, arith}
use Rattle.std.proofs.lemmas.List.{take_all, length-take}
use Rattle.hy_io.specs.Outside.{Store, Rose, Gives}
use Rattle.hycc_top.specs.declared.outcome.Outcome.{Outcome}
use Rattle.hycc_top.specs.declared.outcome.Outcome.TheVariants.{Sum as Opened, SourceForm, AForm, BForm}
use Rattle.hycc_top.specs.Source.{Summed, source_of}
use Rattle.hycc_top.specs.Lines.{run_line}
use Rattle.hycc_top.specs.Endings.{SourceSays, InputSays, Holds, IsJob, IsRun, IsSourceFault, IsInputFault, IsEnding, HasJob}
use Rattle.command_io.specs.Ends.{Calm}
use Rattle.command_io.proofs.Ending.{not_risen}
use Rattle.hycc_top.specs.Inner.{IsOutcome, IsLineOf}

-- the first bytes of a file, where they are no more than it may have, are the file
whole : (bytes held : List ℕ) → bytes ≡ take (2 ^ 20 + 1) held → length bytes ≤ 2 ^ 20 → held ≡ bytes
whole bytes held is short =
    let fewer : length held ≤ 2 ^ 20 + 1 = omega (arith, ap length is, length-take (2 ^ 20 + 1) held) in sym (is ∙ take_all (2 ^ 20 + 1) held fewer)

-- what was read, as what the file holds
pub held_by : (store : Store) (file : List ℕ) (bytes : List ℕ) (P : List ℕ → Type 0) → Gives (Some store) file (2 ^ 20 + 1) bytes → length bytes ≤ 2 ^ 20 → P bytes → Holds store file P
held_by store file bytes P gives short so = by_case (store file) refl gives
  where
    by_case : (o : Option (List ℕ)) → store file ≡ o → MatchOption o ⊥ (λ held. bytes ≡ take (2 ^ 20 + 1) held) → Holds store file P
    by_case None is gives = absurd gives
    by_case (Some held) is gives = record { bytes = bytes; held = is ∙ ap Some (whole bytes held gives short); so = so }

-- what the file holds, as what was read
pub read_of : (store : Store) (file : List ℕ) (bytes : List ℕ) (P : List ℕ → Type 0) → ((c : List ℕ) → P c → length c ≤ 2 ^ 20) → Gives (Some store) file (2 ^ 20 + 1) bytes → Holds store file P → P bytes
read_of store file bytes P short gives holds =
    let gives' : bytes ≡ take (2 ^ 20 + 1) holds.bytes = rw holds.held at gives in
    let few : length holds.bytes ≤ 2 ^ 20 = short holds.bytes holds.so in
    let fewer : length holds.bytes ≤ 2 ^ 20 + 1 = omega arith in
    subst P (sym (gives' ∙ take_all (2 ^ 20 + 1) holds.bytes fewer)) holds.so

run_ending : (store : Option Store) (before after : List ℕ → ℕ) (source a b : List ℕ) (code : ℕ) (line : List ℕ) → code ≡ 0 → IsRun store source a b line → IsEnding store before after source a b code line
run_ending store before after source a b code line is so =
    record {
      known = inl is;
      run = λ _. so;
      file_fault = λ other. absurd (omega (arith, is, other));
      source_fault = λ other. absurd (omega (arith, is, other));
      input_fault = λ other. absurd (omega (arith, is, other));
    }

source_ending : (store : Option Store) (before after : List ℕ → ℕ) (source a b : List ℕ) (code : ℕ) (line : List ℕ) → code ≡ 3 → IsSourceFault store source line → IsEnding store before after source a b code line
source_ending store before after source a b code line is so =
    record {
      known = inr (inr (inl is));
      run = λ other. absurd (omega (arith, is, other));
      file_fault = λ other. absurd (omega (arith, is, other));
      source_fault = λ _. so;
      input_fault = λ other. absurd (omega (arith, is, other));
    }

input_ending : (store : Option Store) (before after : List ℕ → ℕ) (source a b : List ℕ) (code : ℕ) (line : List ℕ) → code ≡ 6 → IsInputFault store source a b line → IsEnding store before after source a b code line
input_ending store before after source a b code line is so =
    record {
      known = inr (inr (inr is));
      run = λ other. absurd (omega (arith, is, other));
      file_fault = λ other. absurd (omega (arith, is, other));
      source_fault = λ other. absurd (omega (arith, is, other));
      input_fault = λ _. so;
    }

source_short : (said : Summed) (bytes : List ℕ) → SourceSays said bytes → length bytes ≤ 2 ^ 20
source_short said bytes says = says.short

input_short : (name : List ℕ) (number : ℕ) (bytes : List ℕ) → InputSays name number bytes → length bytes ≤ 2 ^ 20
input_short name number bytes says = says.short

-- the ending of a run, from how its texts end and the line of that
pub ending_of : (store : Option Store) (before after : List ℕ → ℕ) (source a b s x y : List ℕ) (outcome : Outcome) (code : ℕ) (line : List ℕ) → Gives store source (2 ^ 20 + 1) s → Gives store a (2 ^ 20 + 1) x → Gives store b (2 ^ 20 + 1) y → IsOutcome s x y outcome → IsLineOf outcome source a b code line → IsEnding store before after source a b code line
ending_of None before after source a b s x y (Opened out) code line gs ga gb ends is = run_ending None before after source a b code line is.0 (out, is.1)
ending_of None before after source a b s x y SourceForm code line gs ga gb ends is = source_ending None before after source a b code line is.0 is.1
ending_of None before after source a b s x y AForm code line gs ga gb ends is = input_ending None before after source a b code line is.0 (inl is.1)
ending_of None before after source a b s x y BForm code line gs ga gb ends is = input_ending None before after source a b code line is.0 (inr is.1)
ending_of (Some store) before after source a b s x y (Opened out) code line gs ga gb (said, u, v, ss, sa, sb, sum) is =
    let job : IsJob store source a b said u v = record {
      source_says = held_by store source s (SourceSays said) gs ss.short ss;
      a_says = held_by store a x (InputSays said.a u) ga sa.short sa;
      b_says = held_by store b y (InputSays said.b v) gb sb.short sb;
    } in
    run_ending (Some store) before after source a b code line is.0 (said, u, v, job, is.1 ∙ ap run_line sum)
ending_of (Some store) before after source a b s x y SourceForm code line gs ga gb ends is =
    source_ending (Some store) before after source a b code line is.0 (λ said holds. ends said (read_of store source s (SourceSays said) (source_short said) gs holds), is.1)
ending_of (Some store) before after source a b s x y AForm code line gs ga gb (said, ss, none) is =
    input_ending (Some store) before after source a b code line is.0
    (said, held_by store source s (SourceSays said) gs ss.short ss, inl (λ u holds. none u (read_of store a x (InputSays said.a u) (input_short said.a u) ga holds), is.1))
ending_of (Some store) before after source a b s x y BForm code line gs ga gb (said, u, ss, sa, none) is =
    input_ending (Some store) before after source a b code line is.0
    (said, held_by store source s (SourceSays said) gs ss.short ss, inr (u, held_by store a x (InputSays said.a u) ga sa.short sa, λ v holds. none v (read_of store b y (InputSays said.b v) (input_short said.b v) gb holds), is.1))

-- two readings of one source are one
same_said : (store : Store) (file : List ℕ) (said other : Summed) → Holds store file (SourceSays said) → Holds store file (SourceSays other) → said ≡ other
same_said store file said other h k =
    let bytes : h.bytes ≡ k.bytes = cc in
    let is : Some said ≡ Some other = sym h.so.form ∙ (ap source_of bytes ∙ k.so.form) in
    cc

-- a job has no fault of an input
no_input_fault : (store : Store) (source a b : List ℕ) (said : Summed) (x y : ℕ) (line : List ℕ) → IsJob store source a b said x y → IsInputFault (Some store) source a b line → ⊥
no_input_fault store source a b said x y line job (other, says, inl fault) =
    fault.0 x (subst (λ s. Holds store a (InputSays s.a x)) (same_said store source said other job.source_says says) job.a_says)
no_input_fault store source a b said x y line job (other, says, inr fault) =
    fault.2 y (subst (λ s. Holds store b (InputSays s.b y)) (same_said store source said other job.source_says says) job.b_says)

-- a job without a fault of a file ends well
pub run_of_job : (store : Option Store) (before after : List ℕ → ℕ) (source a b : List ℕ) (code : ℕ) (line : List ℕ) → HasJob store source a b → ((name : List ℕ) → Calm (before name) (after name)) → IsEnding store before after source a b code line → code ≡ 0
run_of_job None before after source a b code line job calm ending = absurd job
run_of_job (Some store) before after source a b code line (said, x, y, job) calm ending =
    elim ending.known [
      | inl is ↦ is
      | inr (inl is) ↦ let fault = ending.file_fault is in absurd (not_risen (before fault.0) (after fault.0) (calm fault.0) fault.2)
      | inr (inr (inl is)) ↦ absurd ((ending.source_fault is).0 said job.source_says)
      | inr (inr (inr is)) ↦ absurd (no_input_fault store source a b said x y line job (ending.input_fault is))
    ]

-- the statuses of a run are at most 6
pub few_codes : (store : Option Store) (before after : List ℕ → ℕ) (source a b : List ℕ) (code : ℕ) (line : List ℕ) → IsEnding store before after source a b code line → code ≤ 6
few_codes store before after source a b code line ending =
    elim ending.known [
      | inl is ↦ omega (arith, is)
      | inr (inl is) ↦ omega (arith, is)
      | inr (inr (inl is)) ↦ omega (arith, is)
      | inr (inr (inr is)) ↦ omega (arith, is)
    ]
