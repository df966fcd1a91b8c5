-- Turns of a loop that counts, one more at a time.
use Rattle.std.proofs.Common.{◌≡◌, ℕ, zero, suc, ◌+◌, ◌-◌, ◌<◌, ◌≤◌, ◌==◌, Bool, true, false, if◌then◌else◌, Option, None, Some, List, [], ◌∷◌, get_or, drop, length, refl, sym, ap, subst, ◌∙◌, arith}
use Rattle.std.specs.Option.{IfSome}
use Rattle.c_meaning.specs.declared.statements.TypedFirst.{TypedFirst}
use Rattle.c_meaning.specs.declared.statements.Controlling.{Controlling}
use Rattle.c_meaning.specs.declared.statements.TypedStep.{TypedStep}
use Rattle.c_meaning.specs.declared.statements.TypedStatement.{TypedStatement}
use Rattle.c_meaning.specs.declared.statements.Part.{Part}
use Rattle.c_meaning.specs.declared.statements.TypedDeclarator.{TypedDeclarator}
use Rattle.c_constants.proofs.Folding.{left_at}
use Rattle.c_meaning.specs.Counting.{CountingStep, last_part, parts_word, declared_word, first_word, is_condition_on, counting_step, turns_within}
use Rattle.c_meaning.specs.StatementRules.{Within, Counts}
use Rattle.c_constants.specs.declared.counting.Count.{Count}
use Rattle.c_constants.specs.Counted.{turns_before, turns_counted, count_where, counted_by, counted_from, counted_turns, IsUnchanged}

-- ---- one more turn

before_more : (n : ℕ) (o : Option ℕ) → turns_before n (elim o [ None ↦ None | Some m ↦ Some (suc m) ]) ≡ turns_before (n + 1) o
before_more n None = refl
before_more n (Some m) = ap Some (omega arith)

module _ (holds : ℕ → Bool) (step : ℕ → ℕ) where
  turns_more : (n i : ℕ) (w : ℕ) → holds w ≡ true → turns_before i (turns_within (suc n) holds step w) ≡ turns_before (i + 1) (turns_within n holds step (step w))
  turns_more n i w e =
      ap (λ (b : Bool). turns_before i (if b then (elim (turns_within n holds step (step w)) [ None ↦ None | Some m ↦ Some (suc m) ]) else Some 0)) e
      ∙ before_more i (turns_within n holds step (step w))

  pub turns_next : (most i : ℕ) (w next : ℕ) → i < most → holds w ≡ true → next ≡ step w → turns_before (i + 1) (turns_within (most - (i + 1)) holds step next) ≡ turns_before i (turns_within (most - i) holds step w)
  turns_next most i w next h e is =
      let more : most - i ≡ suc (most - (i + 1)) = omega arith in
      ap (λ (v : ℕ). turns_before (i + 1) (turns_within (most - (i + 1)) holds step v)) is
      ∙ sym (ap (λ (n : ℕ). turns_before i (turns_within n holds step w)) more ∙ turns_more (most - (i + 1)) i w e)

  ended : (n i w : ℕ) → holds w ≡ false → turns_before i (turns_within n holds step w) ≡ Some i
  ended zero i w e = ap (λ (b : Bool). turns_before i (if b then None else Some 0)) e ∙ ap Some (omega arith)
  ended (suc n) i w e =
      ap (λ (b : Bool). turns_before i (if b then (elim (turns_within n holds step (step w)) [ None ↦ None | Some m ↦ Some (suc m) ]) else Some 0)) e ∙ ap Some (omega arith)

  pub turns_ended : (most i w : ℕ) → holds w ≡ false → Some i ≡ turns_before i (turns_within (most - i) holds step w)
  turns_ended most i w e = sym (ended (most - i) i w e)

  pub turns_passed : (most i w : ℕ) → most - i ≡ 0 → holds w ≡ true → None ≡ turns_before i (turns_within (most - i) holds step w)
  turns_passed most i w none e =
      sym (ap (λ (n : ℕ). turns_before i (turns_within n holds step w)) none
      ∙ ap (λ (b : Bool). turns_before i (if b then None else Some 0)) e)

pub no_turn : (o : Option ℕ) → turns_before 0 o ≡ o
no_turn None = refl
no_turn (Some m) = ap Some (omega arith)

-- ---- the loop counts

abbrev pub Keeps : Option Count → ℕ → TypedFirst → Controlling → TypedStep → Type 0
Keeps found k initial condition step =
    IfSome found (λ count. (within : Within) (body : TypedStatement) → IsUnchanged within k count.scalar body → Counts within k count.turns initial condition step body)

counts_by : (k : ℕ) (initial : TypedFirst) (condition : Controlling) (step : TypedStep) (start : ℕ) (by : CountingStep) (turns : Option ℕ) → first_word k initial ≡ Some start → is_condition_on k condition.value ≡ true → counting_step k step.effect ≡ Some by → turns_counted k condition.value by start ≡ turns → Keeps (count_where by.scalar turns) k initial condition step
unfolding turns_counted
counts_by k initial condition step start by None f c s t = tt
counts_by k initial condition step start by (Some turns) f c s t =
    λ within body unchanged. (start, by, unchanged.object, f, c, s, t, unchanged.stands, unchanged.typed, unchanged.automatic, unchanged.assigned, unchanged.taken)

counts_step : (k : ℕ) (initial : TypedFirst) (condition : Controlling) (step : TypedStep) (start : ℕ) (by : Option CountingStep) → first_word k initial ≡ Some start → is_condition_on k condition.value ≡ true → counting_step k step.effect ≡ by → Keeps (counted_by k condition.value start by) k initial condition step
counts_step k initial condition step start None f c s = tt
counts_step k initial condition step start (Some by) f c s = counts_by k initial condition step start by (turns_counted k condition.value by start) f c s refl

counts_from : (k : ℕ) (initial : TypedFirst) (condition : Controlling) (step : TypedStep) (start : Option ℕ) → first_word k initial ≡ start → Keeps (counted_from k condition.value step.effect start) k initial condition step
counts_from k initial condition step None f = tt
counts_from k initial condition step (Some start) f =
    elim (is_condition_on k condition.value) as (λ b. is_condition_on k condition.value ≡ b → Keeps (if b then counted_by k condition.value start (counting_step k step.effect) else None) k initial condition step)
    [ true ↦ λ c. counts_step k initial condition step start (counting_step k step.effect) f c refl | false ↦ λ c. tt ] refl

-- what the head gives counts, where the loop keeps the rest
pub counts : (k : ℕ) (initial : TypedFirst) (condition : Controlling) (step : TypedStep) (found : Option Count) → found ≡ counted_turns k initial condition.value step.effect → Keeps found k initial condition step
counts k initial condition step found e =
    let P : Option Count → Type 0 = λ o. Keeps o k initial condition step in
    subst P (sym e) (counts_from k initial condition step (first_word k initial) refl)

-- the last part of some
last_at : (part : Part) (parts : List Part) (d : Part) → last_part (part ∷ parts) ≡ Some (get_or (part ∷ parts) (length parts) d)
last_at part [] d = refl
last_at part (next ∷ parts) d = last_at next parts d

pub last_is : (parts : List Part) (last : Part) → 1 ≤ length parts → last ≡ get_or parts (length parts - 1) last → last_part parts ≡ Some last
last_is [] last h e = absurd (omega arith)
last_is (part ∷ parts) last h e =
    let at : length (part ∷ parts) - 1 ≡ length parts = omega arith in
    last_at part parts last ∙ ap Some (sym (e ∙ ap (λ (i : ℕ). get_or (part ∷ parts) i last) at))

-- a declarator of the object
pub declared_found : (k : ℕ) (list : List TypedDeclarator) (i : ℕ) (d : TypedDeclarator) → i < length list → d ≡ get_or list i d → (d.object == k) ≡ true → declared_word k (drop i list) ≡ parts_word d.start
declared_found k list i d h is e =
    ap (declared_word k) (left_at list i d h is)
    ∙ ap (λ (b : Bool). if b then parts_word d.start else declared_word k (drop (i + 1) list)) e
