-- The laws of levels: their messages, shares, words and lengths, gate by gate.
use Rattle.std.proofs.Common.{◌≡◌, ℕ, suc, ◌+◌, ◌*◌, ◌≤◌, List, [], ◌∷◌, ◌++◌, length, take, drop, refl, sym, ap, subst, ◌∙◌, append_assoc, length-append, arith}
use Rattle.std.proofs.lemmas.List.{append-nil, drop-drop}
use Rattle.hy_bits.specs.declared.width.Width as Width
use Rattle.hy_bits.specs.declared.width.Width.TheVariants.{W1, W8, W16, W32, W64}
use Rattle.hy_bits.specs.declared.turns.Role as Role
use Rattle.hy_bits.specs.declared.turns.Role.TheVariants.{P0, P1}
use Rattle.share_core.specs.declared.instr.Instr.{Instr}
use Rattle.share_core.specs.declared.instr.InstrKind.{InstrKind}
use Rattle.share_core.specs.declared.instr.InstrKind.TheVariants.{LevelA, LevelB, LevelY, MulA, AndY}
use Rattle.share_core.specs.declared.labels.Label.{Label}
use Rattle.share_core.specs.Instructions.{half_of}
use Rattle.share_core.specs.Dealing.{dealt, drawn}
use Rattle.share_core.specs.Sizes.{sent}
use Rattle.share_core.specs.Levels.{AreGatesOf, HalfOfGate, IsGateOf, LevelIsShort, MessageByLast, MessageHasLength, PieceOfGate, SharesByLast, SumByLast, level_drawn, level_message, level_sent, level_shares, summed}
use Rattle.share_core.proofs.ByteLaws.{drop_front, take_front}

-- a number after so many
after_one : (k n : ℕ) → suc k + n ≡ k + suc n
after_one k n = omega arith

pub message_by_last : MessageByLast
message_by_last message k [] gate = append-nil (message k gate) ∙ ap (λ (n : ℕ). message n gate) (omega arith)
message_by_last message k (first ∷ gates) gate =
    ap (λ (bs : List ℕ). message k first ++ bs) (message_by_last message (suc k) gates gate ∙ ap (λ (n : ℕ). level_message message (suc k) gates ++ message n gate) (after_one k (length gates)))
    ∙ sym (append_assoc (message k first) (level_message message (suc k) gates) (message (k + suc (length gates)) gate))

pub sum_by_last : SumByLast
sum_by_last count [] gate = omega arith
sum_by_last count (first ∷ gates) gate = omega (arith, sum_by_last count gates gate)

pub shares_by_last : SharesByLast
shares_by_last received share k [] gate inbox = ap (λ (n : ℕ). share n gate (take (received gate) inbox) ∷ []) (omega arith)
shares_by_last received share k (first ∷ gates) gate inbox =
    let n : ℕ = received first in
    let rest : drop (summed received gates) (drop n inbox) ≡ drop (n + summed received gates) inbox = drop-drop (summed received gates) n inbox in
    ap (λ (ls : List Label). share k first (take n inbox) ∷ ls)
    (shares_by_last received share (suc k) gates gate (drop n inbox)
    ∙ ap (λ (m : ℕ). level_shares received share (suc k) gates (drop n inbox) ++ share m gate (take (received gate) (drop (summed received gates) (drop n inbox))) ∷ []) (after_one k (length gates))
    ∙ ap (λ (bs : List ℕ). level_shares received share (suc k) gates (drop n inbox) ++ share (k + suc (length gates)) gate (take (received gate) bs) ∷ []) rest)

pub half_of_gate : HalfOfGate
half_of_gate role [] after gate words = refl
half_of_gate role (first ∷ before) after gate words =
    half_of_gate role before after gate (drop (drawn first.kind first.width) words)
    ∙ ap (λ (ws : List ℕ). half_of (dealt gate.kind gate.width role 0 (take (drawn gate.kind gate.width) ws))) (drop-drop (level_drawn before) (drawn first.kind first.width) words)

pub message_has_length : MessageHasLength
message_has_length message count k [] are = refl
message_has_length message count k (gate ∷ gates) are =
    length-append (message k gate) (level_message message (suc k) gates) ∙ omega (arith, are.0, message_has_length message count (suc k) gates are.1)

pub piece_of_gate : PieceOfGate
piece_of_gate message count k [] after gate are =
    take_front (count gate) (message k gate) (level_message message (suc k) after) are.0 ∙ ap (λ (n : ℕ). message n gate) (omega arith)
piece_of_gate message count k (first ∷ before) after gate are =
    let tail : List ℕ = level_message message (suc k) (before ++ gate ∷ after) in
    ap (λ (bs : List ℕ). take (count gate) bs) (sym (drop-drop (summed count before) (count first) (message k first ++ tail)))
    ∙ ap (λ (bs : List ℕ). take (count gate) (drop (summed count before) bs)) (drop_front (count first) (message k first) tail are.0)
    ∙ piece_of_gate message count (suc k) before after gate are.1
    ∙ ap (λ (n : ℕ). message n gate) (after_one k (length before))

-- a gate of a level sends 32 bytes at most
product_few : (w : Width.Width) (role : Role.Role) → sent MulA w role ≤ 32
product_few W1 role = omega arith
product_few W8 role = omega arith
product_few W16 role = omega arith
product_few W32 role = omega arith
product_few W64 role = omega arith

and_few : (w : Width.Width) (role : Role.Role) → sent AndY w role ≤ 32
and_few w P0 = omega arith
and_few w P1 = omega arith

gate_few : (level kind : InstrKind) (w : Width.Width) (role : Role.Role) → IsGateOf level kind → sent kind w role ≤ 32
gate_few LevelA kind w role is = subst (λ (k : InstrKind). sent k w role ≤ 32) (sym is) (product_few w role)
gate_few LevelB kind w role is = subst (λ (k : InstrKind). sent k w role ≤ 32) (sym is) (omega arith)
gate_few LevelY kind w role is = subst (λ (k : InstrKind). sent k w role ≤ 32) (sym is) (and_few w role)
gate_few _ kind w role is = absurd is

level_few : (level : InstrKind) (role : Role.Role) (gates : List Instr) → AreGatesOf level gates → level_sent role gates ≤ 32 * length gates
level_few level role [] are = omega arith
level_few level role (gate ∷ gates) are = omega (arith, gate_few level gate.kind gate.width role are.0, level_few level role gates are.1)

pub level_is_short : LevelIsShort
level_is_short level role gates are few = omega (arith, level_few level role gates are)
