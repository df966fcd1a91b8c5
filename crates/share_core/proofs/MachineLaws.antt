-- The law of the machines: from the two parties of a meeting to the instruction's kinds.
use Rattle.std.proofs.Common.{◌≡◌, ℕ, suc, ◌+◌, ◌%◌, Bool, true, false, if◌then◌else◌, List, [], ◌∷◌, length, slice_index, None, Some, refl, sym, ap, subst, ◌∙◌}
use Rattle.hy_bits.specs.declared.turns.Role as Role
use Rattle.hy_bits.specs.declared.turns.Role.TheVariants.{P0, P1}
use Rattle.hy_bits.specs.Words.{bits, modulus}
use Rattle.share_core.specs.declared.instr.Instr.{Instr}
use Rattle.share_core.specs.declared.instr.InstrKind.{InstrKind}
use Rattle.share_core.specs.declared.instr.InstrKind.TheVariants.{InAP0, InAP1, InBP0, InBP1, InYP0, ChooseIn, ChooseA, ChooseB, AnswerIn, AnswerSharesA, AnswerSharesB, AnswerToA, LevelA, LevelB, LevelY, Carries, OpenA, OpenB, OpenY, AndY}
use Rattle.share_core.specs.declared.labels.Offset as FreeXor
use Rattle.share_core.specs.Bytes.{byte_count}
use Rattle.share_core.specs.Conversions.{choice_message, choice_read}
use Rattle.share_core.specs.Garbled.{and_rows, no_offset}
use Rattle.share_core.specs.Instructions.{has_frame}
use Rattle.share_core.specs.Levels.{AreGatesOf, IsGateOf, LengthsAre, gates_of, is_level, level_message, level_sent}
use Rattle.share_core.specs.Sizes.{sent}
use Rattle.share_core.specs.Clear.{Clear, value_opened, values_made, word_at, word_in}
use Rattle.share_core.specs.Machine.{View, choice_word, chosen_after, gate_message, label_Y, labels_Y, made, opened, payload, payload_length, received, rule, word_A, word_B}
use Rattle.share_core.specs.SharingLaw.{IsChoice, IsOpening, MachinesChoose, MachinesCompute, MachinesOpen, Meet, OperandsStand, PayloadsHaveLengths, SharesStand, scheme_of, width_made}
use Rattle.share_core.proofs.ByteLaws.{length-bytes}
use Rattle.share_core.proofs.BooleanLaws.{instr_opens_B}
use Rattle.share_core.proofs.ConversionLaws.{length-answer, length-answer_A, length-carries}
use Rattle.share_core.proofs.GarbledLaws.{length-and_rows, length-input_message, low_bits_stand}
use Rattle.share_core.proofs.InstructionLaws.{instr_opens}
use Rattle.share_core.proofs.LevelLaws.{message_has_length}
use Rattle.share_core.proofs.SharingLaws.{computes, word_at_B, word_at_Y, and_length, product_length}
use Rattle.share_core.proofs.SizeLaws.{message_lengths}
use Rattle.share_core.proofs.SlotLaws.{word_is_word}

-- a view with another role, plan and offset
abbrev pub seen : View → Role.Role → List Instr → List ℕ → FreeXor.Offset → View
seen v role gates codes offset = record { role = role; gates = gates; codes = codes; slots = v.slots; offset = offset; chosen = v.chosen; own = v.own; half = v.half }

same_view : (v : View) (role : Role.Role) (gates : List Instr) (codes : List ℕ) (offset : FreeXor.Offset) → v.role ≡ role → v.gates ≡ gates → v.codes ≡ codes → v.offset ≡ offset → v ≡ seen v role gates codes offset
same_view v role gates codes offset er eg ec eo =
    ap (λ (r : Role.Role). seen v r v.gates v.codes v.offset) er
    ∙ ap (λ (gs : List Instr). seen v role gs v.codes v.offset) eg
    ∙ ap (λ (cs : List ℕ). seen v role gates cs v.offset) ec
    ∙ ap (λ (o : FreeXor.Offset). seen v role gates codes o) eo

first_same : (offset : FreeXor.Offset) (picks : ℕ) (i : Instr) (v0 v1 : View) (c : Clear) → Meet offset picks i v0 v1 c → v0 ≡ seen v0 P0 c.gates c.codes offset
first_same offset picks i v0 v1 c meet = same_view v0 P0 c.gates c.codes offset meet.first meet.gates.0 meet.codes.0 meet.offset0

second_same : (offset : FreeXor.Offset) (picks : ℕ) (i : Instr) (v0 v1 : View) (c : Clear) → Meet offset picks i v0 v1 c → v1 ≡ seen v1 P1 c.gates c.codes no_offset
second_same offset picks i v0 v1 c meet = same_view v1 P1 c.gates c.codes no_offset meet.second meet.gates.1 meet.codes.1 meet.offset1

pub machines_compute : MachinesCompute
machines_compute offset picks i v0 v1 c meet =
    let says : View → View → Type 0 = λ u0 u1. SharesStand (scheme_of i.kind) offset (width_made i.kind i c.gates) (made i u0 (received (payload i u1))) (made i u1 (received (payload i u0))) (values_made i.kind i c) in
    let w0 : View = seen v0 P0 c.gates c.codes offset in
    let w1 : View = seen v1 P1 c.gates c.codes no_offset in
    subst (λ (u : View). OperandsStand i.kind offset picks i u v1 c → says u v1) (sym (first_same offset picks i v0 v1 c meet))
    (subst (λ (u : View). OperandsStand i.kind offset picks i w0 u c → says w0 u) (sym (second_same offset picks i v0 v1 c meet))
    (computes offset picks i c v0.slots v1.slots v0.chosen v1.chosen v0.own v1.own v0.half v1.half meet.is_offset meet.labels meet.words i.kind meet.halves))
    meet.operands

-- ---- openings

opens : (offset : FreeXor.Offset) (picks : ℕ) (i : Instr) (c : Clear) (v0 v1 : View) (kind : InstrKind) → Meet offset picks i v0 v1 c → IsOpening kind →
    let w0 = seen v0 P0 c.gates c.codes offset in
    let w1 = seen v1 P1 c.gates c.codes no_offset in
    OperandsStand kind offset picks i w0 w1 c →
    (opened kind i w0 (received (if has_frame kind P1 then Some (rule kind i w1).message else None)) ≡ value_opened kind i c) × (opened kind i w1 (received (if has_frame kind P0 then Some (rule kind i w0).message else None)) ≡ value_opened kind i c)
opens offset picks i c v0 v1 OpenA meet is stand =
    instr_opens OpenA i.width 0 (word_A (seen v0 P0 c.gates c.codes offset) i.left) (word_A (seen v1 P1 c.gates c.codes no_offset) i.left) 0 0 (word_in c i.left) 0 (v0.half 0) (v1.half 0) tt stand refl
opens offset picks i c v0 v1 OpenB meet is stand =
    let w0 : View = seen v0 P0 c.gates c.codes offset in
    let w1 : View = seen v1 P1 c.gates c.codes no_offset in
    let both = instr_opens_B OpenB i.width (word_B w0 i.width i.left) (word_B w1 i.width i.left) 0 0 (word_at c i.width i.left) 0 (v0.half 0) (v1.half 0) tt (word_at_B offset picks i c v0.slots v1.slots v0.chosen v1.chosen v0.own v1.own v0.half v1.half meet.is_offset meet.labels meet.words i.width i.left stand) refl in
    let cut : word_at c i.width i.left % modulus i.width ≡ word_at c i.width i.left = word_is_word i.width _ in
    (both.0 ∙ cut, both.1 ∙ cut)
opens offset picks i c v0 v1 OpenY meet is stand =
    let w0 : View = seen v0 P0 c.gates c.codes offset in
    let w1 : View = seen v1 P1 c.gates c.codes no_offset in
    let both = low_bits_stand i.width offset (labels_Y w0 i.left) (labels_Y w1 i.left) (word_at c i.width i.left) meet.is_offset (word_at_Y offset picks i c v0.slots v1.slots v0.chosen v1.chosen v0.own v1.own v0.half v1.half meet.is_offset meet.labels meet.words i.width i.left stand) in
    let cut : word_at c i.width i.left % modulus i.width ≡ word_at c i.width i.left = word_is_word i.width _ in
    (both.1 ∙ cut, both.2 ∙ cut)
opens offset picks i c v0 v1 _ meet is stand = absurd is

pub machines_open : MachinesOpen
machines_open offset picks i v0 v1 c meet is =
    let says : View → View → Type 0 = λ u0 u1. (opened i.kind i u0 (received (payload i u1)) ≡ value_opened i.kind i c) × (opened i.kind i u1 (received (payload i u0)) ≡ value_opened i.kind i c) in
    let w0 : View = seen v0 P0 c.gates c.codes offset in
    subst (λ (u : View). OperandsStand i.kind offset picks i u v1 c → says u v1) (sym (first_same offset picks i v0 v1 c meet))
    (subst (λ (u : View). OperandsStand i.kind offset picks i w0 u c → says w0 u) (sym (second_same offset picks i v0 v1 c meet))
    (opens offset picks i c v0 v1 i.kind meet is))
    meet.operands

-- ---- choices

abbrev pub choice_read_of : Instr → ℕ → List ℕ → ℕ
choice_read_of i x half = choice_read i.width (choice_message i.width x (slice_index half 0))

chooses : (i : Instr) (v0 v1 : View) (kind : InstrKind) → IsChoice kind →
    let w0 = seen v0 P0 v0.gates v0.codes v0.offset in
    let w1 = seen v1 P1 v1.gates v1.codes v1.offset in
    let x1 = choice_word kind i w1 in
    (chosen_after kind i w0 (received (if has_frame kind P1 then Some (rule kind i w1).message else None)) ≡ choice_read_of i x1 (v1.half 0)) × (chosen_after kind i w1 (received (if has_frame kind P0 then Some (rule kind i w0).message else None)) ≡ x1 % modulus i.width)
chooses i v0 v1 ChooseIn is = (refl, refl)
chooses i v0 v1 ChooseA is = (refl, refl)
chooses i v0 v1 ChooseB is = (refl, refl)
chooses i v0 v1 _ is = absurd is

pub machines_choose : MachinesChoose
machines_choose i v0 v1 first second is =
    let says : View → View → Type 0 = λ u0 u1. (chosen_after i.kind i u0 (received (payload i u1)) ≡ choice_read_of i (choice_word i.kind i u1) (u1.half 0)) × (chosen_after i.kind i u1 (received (payload i u0)) ≡ choice_word i.kind i u1 % modulus i.width) in
    subst (λ (u : View). says u v1) (sym (same_view v0 P0 v0.gates v0.codes v0.offset first refl refl refl))
    (subst (λ (u : View). says (seen v0 P0 v0.gates v0.codes v0.offset) u) (sym (same_view v1 P1 v1.gates v1.codes v1.offset second refl refl refl)) (chooses i v0 v1 i.kind is))

-- ---- lengths

-- an And's rows, for the view of P0
rows_sent : (v : View) (k : ℕ) (gate : Instr) (role : Role.Role) → v.role ≡ role → has_frame LevelY role ≡ true → length (gate_message v k gate AndY) ≡ sent AndY gate.width role
rows_sent v k gate P0 is sends =
    ap (λ (r : Role.Role). length (if has_frame LevelY r then and_rows v.offset gate.number (label_Y v gate.left) (label_Y v gate.right) else [])) is ∙ length-and_rows v.offset gate.number (label_Y v gate.left) (label_Y v gate.right)
rows_sent v k gate P1 is sends = ap (λ (r : Role.Role). length (if has_frame LevelY r then and_rows v.offset gate.number (label_Y v gate.left) (label_Y v gate.right) else [])) is

-- a gate of a level
gate_length : (v : View) (level kind : InstrKind) (k : ℕ) (gate : Instr) → IsGateOf level kind → has_frame level v.role ≡ true → length (gate_message v k gate kind) ≡ sent kind gate.width v.role
gate_length v LevelA kind k gate is sends = product_length v k gate kind is
gate_length v LevelB kind k gate is sends = and_length v k gate kind is
gate_length v LevelY kind k gate is sends = subst (λ (d : InstrKind). length (gate_message v k gate d) ≡ sent d gate.width v.role) (sym is) (rows_sent v k gate v.role refl sends)
gate_length v _ kind k gate is sends = absurd is

level_lengths : (v : View) (level : InstrKind) (k : ℕ) (gates : List Instr) → AreGatesOf level gates → has_frame level v.role ≡ true → LengthsAre (λ n g. gate_message v n g g.kind) (λ g. sent g.kind g.width v.role) k gates
level_lengths v level k [] are sends = tt
level_lengths v level k (gate ∷ gates) are sends = (gate_length v level gate.kind k gate are.0 sends, level_lengths v level (suc k) gates are.1 sends)

level_length : (i : Instr) (v : View) (level : InstrKind) (role : Role.Role) → v.role ≡ role → has_frame level role ≡ true → AreGatesOf level (gates_of i v.gates) →
    length (level_message (λ k g. gate_message v k g g.kind) 0 (gates_of i v.gates)) ≡ level_sent role (gates_of i v.gates)
level_length i v level role is sends are =
    let own : has_frame level v.role ≡ true = ap (has_frame level) is ∙ sends in
    message_has_length (λ k g. gate_message v k g g.kind) (λ g. sent g.kind g.width v.role) 0 (gates_of i v.gates) (level_lengths v level 0 (gates_of i v.gates) are own) ∙ ap (λ (r : Role.Role). level_sent r (gates_of i v.gates)) is

not_sent : false ≡ true → ⊥
not_sent e = absurd (cc)

-- the lengths of what each kind sends, where the role sends
lengths : (i : Instr) (v : View) (kind : InstrKind) (role : Role.Role) → v.role ≡ role → has_frame kind role ≡ true → (is_level kind ≡ true → AreGatesOf kind (gates_of i v.gates)) →
    length (rule kind i v).message ≡ (if is_level kind then level_sent role (gates_of i v.gates) else sent kind i.width role)
lengths i v InAP0 P0 is sends are = ap (λ (r : Role.Role). length (rule InAP0 i (seen v r v.gates v.codes v.offset)).message) is ∙ (message_lengths InAP0 i.width P0 v.own 0 (v.half 0)).0
lengths i v InAP1 P1 is sends are = ap (λ (r : Role.Role). length (rule InAP1 i (seen v r v.gates v.codes v.offset)).message) is ∙ (message_lengths InAP1 i.width P1 v.own 0 (v.half 0)).0
lengths i v InBP0 P0 is sends are = ap (λ (r : Role.Role). length (rule InBP0 i (seen v r v.gates v.codes v.offset)).message) is ∙ (message_lengths InBP0 i.width P0 v.own 0 (v.half 0)).1
lengths i v InBP1 P1 is sends are = ap (λ (r : Role.Role). length (rule InBP1 i (seen v r v.gates v.codes v.offset)).message) is ∙ (message_lengths InBP1 i.width P1 v.own 0 (v.half 0)).1
lengths i v InYP0 P0 is sends are = length-input_message i.width v.offset v.own (v.half 0)
lengths i v ChooseIn P1 is sends are = length-bytes (byte_count i.width) _
lengths i v ChooseA P1 is sends are = length-bytes (byte_count i.width) _
lengths i v ChooseB P1 is sends are = length-bytes (byte_count i.width) _
lengths i v AnswerIn P0 is sends are = length-answer false i.width v.offset 0 v.chosen (v.half 0)
lengths i v AnswerSharesA P0 is sends are = length-answer true i.width v.offset (word_A v i.left) v.chosen (v.half 0)
lengths i v AnswerSharesB P0 is sends are = length-answer true i.width v.offset (word_B v i.width i.left) v.chosen (v.half 0)
lengths i v AnswerToA P0 is sends are = length-answer_A i.width (word_B v i.width i.left) v.chosen (v.half 0)
lengths i v LevelA role is sends are = level_length i v LevelA role is sends (are refl)
lengths i v LevelB role is sends are = level_length i v LevelB role is sends (are refl)
lengths i v LevelY role is sends are = level_length i v LevelY role is sends (are refl)
lengths i v Carries P0 is sends are = length-carries i.width v.offset i.value (labels_Y v i.left) (labels_Y v (i.left + bits i.width))
lengths i v OpenA role is sends are = length-bytes (byte_count i.width) _
lengths i v OpenB role is sends are = length-bytes (byte_count i.width) _
lengths i v OpenY role is sends are = length-bytes (byte_count i.width) _
lengths i v _ role is sends are = absurd (not_sent sends)

sends_or_not : (b : Bool) (message : List ℕ) (n : ℕ) → (b ≡ true → length message ≡ n) → length (received (if b then Some message else None)) ≡ (if b then n else 0)
sends_or_not true message n long = long refl
sends_or_not false message n long = refl

pub payloads_have_lengths : PayloadsHaveLengths
payloads_have_lengths i v are = sends_or_not (has_frame i.kind v.role) (rule i.kind i v).message (payload_length i v.gates v.role) (λ sends. lengths i v i.kind v.role refl sends are)
