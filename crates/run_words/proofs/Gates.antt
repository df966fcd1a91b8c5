-- The words of a gate of a level.
use Rattle.std.proofs.Common.{◌≡◌, ℕ, suc, ◌+◌, ◌*◌, ◌<◌, ◌≤◌, Bool, true, if◌then◌else◌, List, length, take, drop, refl, sym, ap, ◌∙◌, arith}
use Rattle.std.proofs.Math.Nat.{mul-le-mul_left}
use Rattle.std.proofs.lemmas.List.{drop-drop}
use Rattle.hy_bits.specs.declared.width.Width.{Width}
use Rattle.hy_bits.specs.declared.turns.Role.{Role}
use Rattle.share_core.specs.declared.instr.InstrKind.{InstrKind}
use Rattle.share_core.specs.declared.instr.InstrKind.TheVariants.{LevelA, LevelB}
use Rattle.share_core.specs.Dealing.{dealt, drawn}
use Rattle.share_core.specs.declared.instr.Instr.{Instr}
use Rattle.share_core.specs.Instructions.{half_of}
use Rattle.share_core.specs.Levels.{gates_of, is_level}
use Rattle.run_words.specs.Views.{count_drawn, gate_kind, gate_words}

pub drawn_gate : (level : InstrKind) (w : Width) → drawn (gate_kind level) w ≡ gate_words level
drawn_gate LevelA w = refl
drawn_gate LevelB w = refl
drawn_gate _ w = refl

pub gate_half_is : (role : Role) (level kind : InstrKind) (w : Width) (items : List ℕ) (base k at : ℕ) (words : List ℕ) → kind ≡ gate_kind level → at ≡ base + k * gate_words level → words ≡ half_of (dealt kind w role 0 (take (drawn kind w) (drop at items))) →
    words ≡ half_of (dealt (gate_kind level) w role 0 (take (drawn (gate_kind level) w) (drop (k * gate_words level) (drop base items))))
gate_half_is role level kind w items base k at words is there so =
    so ∙ ap (λ (i : InstrKind). half_of (dealt i w role 0 (take (drawn i w) (drop at items)))) is
    ∙ ap (λ (xs : List ℕ). half_of (dealt (gate_kind level) w role 0 (take (drawn (gate_kind level) w) xs))) (ap (λ (n : ℕ). drop n items) there ∙ sym (drop-drop (k * gate_words level) base items))

-- the words of a gate stand among those of its level
pub level_room : (i : Instr) (gates : List Instr) (at total k n : ℕ) → is_level i.kind ≡ true → k < length (gates_of i gates) → at + count_drawn i gates ≤ total → gate_words i.kind ≡ n → (at + k * n) + n ≤ total
level_room i gates at total k n level within whole is =
    let count : count_drawn i gates ≡ length (gates_of i gates) * n =
    ap (λ (b : Bool). if b then length (gates_of i gates) * gate_words i.kind else drawn i.kind i.width) level ∙ ap (λ (w : ℕ). length (gates_of i gates) * w) is in
    let next : suc k ≤ length (gates_of i gates) = omega arith in
    let more : n * suc k ≤ n * length (gates_of i gates) = mul-le-mul_left n next in
    omega (arith, more, count, whole)
