-- Where a level's gates are of its sharing, the halves that are made of kept words are those that are dealt.
use Rattle.std.proofs.Common.{◌≡◌, ℕ, zero, suc, ◌+◌, ◌*◌, ◌≤◌, Bool, true, false, if◌then◌else◌, List, [], ◌∷◌, length, take, drop, slice_get, Option, None, Some, refl, sym, ap, ap₂, ◌∙◌, arith}
use Rattle.std.proofs.lemmas.List.{drop-drop, drop-take, take-take}
use Rattle.hy_bits.specs.declared.width.Width.{Width}
use Rattle.hy_bits.specs.declared.turns.Role.{Role}
use Rattle.share_core.specs.declared.instr.Instr.{Instr}
use Rattle.share_core.specs.declared.instr.InstrKind.{InstrKind}
use Rattle.share_core.specs.declared.instr.InstrKind.TheVariants.{LevelA, LevelB, LevelY}
use Rattle.share_core.specs.Dealing.{dealt, drawn}
use Rattle.share_core.specs.Instructions.{half_of}
use Rattle.share_core.specs.Levels.{AreGatesOf, IsGateOf, gates_of, is_level, level_drawn, level_half}
use Rattle.share_core.specs.Machine.{half_at, words_drawn}
use Rattle.run_words.specs.Views.{count_drawn, gate_half, gate_kind, gate_words, half_by}
use Rattle.run_words.proofs.Gates.{drawn_gate}

kind_is : (level kind : InstrKind) → IsGateOf level kind → kind ≡ gate_kind level
kind_is LevelA kind h = h
kind_is LevelB kind h = h
kind_is LevelY kind h = h
kind_is _ kind h = absurd h

-- the number of words
pub level_count : (level : InstrKind) (gates : List Instr) → AreGatesOf level gates → length gates * gate_words level ≡ level_drawn gates
level_count level [] are = omega arith
level_count level (gate ∷ gates) are =
    let one : drawn gate.kind gate.width ≡ gate_words level = ap (λ (i : InstrKind). drawn i gate.width) (kind_is level gate.kind are.0) ∙ drawn_gate level gate.width in
    let rest : length gates * gate_words level ≡ level_drawn gates = level_count level gates are.1 in
    let more : suc (length gates) * gate_words level ≡ gate_words level + length gates * gate_words level = omega arith in
    more ∙ ap₂ (λ (a b : ℕ). a + b) (sym one) rest

-- the half of a gate
pub gate_is : (role : Role) (level : InstrKind) (gates : List Instr) (words : List ℕ) (k : ℕ) → AreGatesOf level gates → gate_half role level (slice_get gates k) words k ≡ level_half role gates words k
gate_is role level [] words k are = refl
gate_is role level (gate ∷ gates) words zero are =
    let none : 0 * gate_words level ≡ 0 = omega arith in
    ap (λ (n : ℕ). half_of (dealt (gate_kind level) gate.width role 0 (take (drawn (gate_kind level) gate.width) (drop n words)))) none
    ∙ sym (ap (λ (i : InstrKind). half_of (dealt i gate.width role 0 (take (drawn i gate.width) words))) (kind_is level gate.kind are.0))
gate_is role level (gate ∷ gates) words (suc k) are =
    let one : gate_words level ≡ drawn gate.kind gate.width = sym (ap (λ (i : InstrKind). drawn i gate.width) (kind_is level gate.kind are.0) ∙ drawn_gate level gate.width) in
    moved (slice_get gates k) ∙ ap (λ (n : ℕ). gate_half role level (slice_get gates k) (drop n words) k) one ∙ gate_is role level gates (drop (drawn gate.kind gate.width) words) k are.1
  where
    moved : (o : Option Instr) → gate_half role level o words (suc k) ≡ gate_half role level o (drop (gate_words level) words) k
    moved None = refl
    moved (Some g) =
        let next : suc k * gate_words level ≡ gate_words level + k * gate_words level = omega arith in
        ap (λ (xs : List ℕ). half_of (dealt (gate_kind level) g.width role 0 (take (drawn (gate_kind level) g.width) xs))) (ap (λ (n : ℕ). drop n words) next ∙ sym (drop-drop (k * gate_words level) (gate_words level) words))

-- words past those of the gates don't count
pub level_takes : (role : Role) (gates : List Instr) (words : List ℕ) (k : ℕ) → level_half role gates (take (level_drawn gates) words) k ≡ level_half role gates words k
level_takes role [] words k = refl
level_takes role (gate ∷ gates) words zero =
    ap (λ (xs : List ℕ). half_of (dealt gate.kind gate.width role 0 xs)) (take-take (drawn gate.kind gate.width) (drawn gate.kind gate.width + level_drawn gates) words (omega arith))
level_takes role (gate ∷ gates) words (suc k) =
    ap (λ (xs : List ℕ). level_half role gates xs k) (drop-take (drawn gate.kind gate.width) (level_drawn gates) words) ∙ level_takes role gates (drop (drawn gate.kind gate.width) words) k

-- of any instruction
pub count_is : (i : Instr) (gates : List Instr) → (is_level i.kind ≡ true → AreGatesOf i.kind (gates_of i gates)) → count_drawn i gates ≡ words_drawn i gates
count_is i gates are = by (is_level i.kind) are
  where
    by : (b : Bool) → (b ≡ true → AreGatesOf i.kind (gates_of i gates)) → (if b then length (gates_of i gates) * gate_words i.kind else drawn i.kind i.width) ≡ (if b then level_drawn (gates_of i gates) else drawn i.kind i.width)
    by true h = level_count i.kind (gates_of i gates) (h refl)
    by false h = refl

pub half_is : (role : Role) (i : Instr) (gates : List Instr) (chosen : ℕ) (words : List ℕ) (k : ℕ) → (is_level i.kind ≡ true → AreGatesOf i.kind (gates_of i gates)) → half_by role i gates chosen words k ≡ half_at role i gates chosen (take (words_drawn i gates) words) k
half_is role i gates chosen words k are = by (is_level i.kind) are
  where
    by : (b : Bool) → (b ≡ true → AreGatesOf i.kind (gates_of i gates)) →
        (if b then gate_half role i.kind (slice_get (gates_of i gates) k) words k else half_of (dealt i.kind i.width role chosen (take (drawn i.kind i.width) words)))
        ≡ (if b
        then level_half role (gates_of i gates) (take (if b then level_drawn (gates_of i gates) else drawn i.kind i.width) words) k
        else half_of (dealt i.kind i.width role chosen (take (if b then level_drawn (gates_of i gates) else drawn i.kind i.width) words)))
    by true h = gate_is role i.kind (gates_of i gates) words k (h refl) ∙ sym (level_takes role (gates_of i gates) words k)
    by false h = refl
