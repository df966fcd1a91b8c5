-- What depends on the kind of an instruction: who sends, and what the rule reads.
use Rattle.std.proofs.Common.{None, Some, ◌≡◌, ℕ, ◌+◌, ◌-◌, ◌%◌, ◌<◌, ◌≤◌, Bool, true, false, if◌then◌else◌, List, [], ◌∷◌, ◌++◌, length, map, refl, sym, ap, ap₂, subst, ◌∙◌, arith, length-append}
use Rattle.std.proofs.Math.Nat.{mod-eq_of_lt}
use Rattle.hy_bits.specs.declared.turns.Role as Role
use Rattle.hy_bits.specs.declared.turns.Role.TheVariants.{P0, P1}
use Rattle.hy_bits.specs.Words.{modulus}
use Rattle.share_core.specs.declared.instr.Instr.{Instr}
use Rattle.share_core.specs.declared.instr.InstrKind.{InstrKind}
use Rattle.share_core.specs.declared.instr.InstrKind.TheVariants.{LevelA, LevelB, LevelY, OpenA, OpenB, OpenY}
use Rattle.share_core.specs.declared.labels.Label.{Label}
use Rattle.share_core.specs.Bytes.{bytes, byte_count}
use Rattle.share_core.specs.Garbled.{low_word}
use Rattle.share_core.specs.Instructions.{frame_code, has_frame}
use Rattle.share_core.specs.Levels.{gates_of, is_level, level_message, level_sent, level_shares}
use Rattle.share_core.specs.Machine.{payload_length, received, Rule, View, gate_message, gate_share, labels_Y, level, rule, slots_after, targets, word_A, word_B, written}
use Rattle.share_core.specs.Roles.{other}
use Rattle.share_core.specs.Sizes.{sent}
use Rattle.share_core.proofs.ByteLaws.{length-bytes}
use Rattle.share_core.proofs.GarbledLaws.{low_word-is}
use Rattle.share_core.proofs.MachineLaws.{payloads_have_lengths}
use Rattle.party.proofs.Listed.{length-frame_for}
use Rattle.party.specs.Steps.{Plan, State, at_instr, at_receive, at_receive_half, frame_bytes, send_half, view_at, view, wanted}

-- ---- instructions that are no level read the half of gate 0 alone, and no gates

abbrev pub alone : View → View
alone v = view v.role [] v.codes v.slots v.offset v.chosen v.own (λ k. v.half 0)

rule_alone : (kind : InstrKind) (i : Instr) (v : View) → is_level kind ≡ false → rule kind i v ≡ rule kind i (alone v)
rule_alone LevelA i v single = absurd (cc)
rule_alone LevelB i v single = absurd (cc)
rule_alone LevelY i v single = absurd (cc)
rule_alone _ i v single = refl

targets_alone : (kind : InstrKind) (i : Instr) (v : View) → is_level kind ≡ false → targets kind i v ≡ targets kind i (alone v)
targets_alone LevelA i v single = absurd (cc)
targets_alone LevelB i v single = absurd (cc)
targets_alone LevelY i v single = absurd (cc)
targets_alone _ i v single = refl

pub message_alone : (i : Instr) (v : View) → is_level i.kind ≡ false → (rule i.kind i v).message ≡ (rule i.kind i (alone v)).message
message_alone i v single = ap (λ (r : Rule). r.message) (rule_alone i.kind i v single)

pub slots_alone : (i : Instr) (v : View) (received : List ℕ) → is_level i.kind ≡ false → slots_after i v received ≡ slots_after i (alone v) received
slots_alone i v received single =
    ap₂ (λ (ts : List ℕ) (r : Rule). written v.slots ts (r.made received)) (targets_alone i.kind i v single) (rule_alone i.kind i v single)

-- ---- levels

level_rule : (kind : InstrKind) (i : Instr) (v : View) → is_level kind ≡ true → rule kind i v ≡ level i v
level_rule LevelA i v is = refl
level_rule LevelB i v is = refl
level_rule LevelY i v is = refl
level_rule _ i v is = absurd (cc)

level_targets : (kind : InstrKind) (i : Instr) (v : View) → is_level kind ≡ true → targets kind i v ≡ map (λ (gate : Instr). gate.target) (gates_of i v.gates)
level_targets LevelA i v is = refl
level_targets LevelB i v is = refl
level_targets LevelY i v is = refl
level_targets _ i v is = absurd (cc)

pub level_rule_message : (i : Instr) (v : View) → is_level i.kind ≡ true → (rule i.kind i v).message ≡ level_message (λ k gate. gate_message v k gate gate.kind) 0 (gates_of i v.gates)
level_rule_message i v is = ap (λ (r : Rule). r.message) (level_rule i.kind i v is)

pub level_slots : (i : Instr) (v : View) (received : List ℕ) (gates : List Instr) (new : List Label) (shares : List Label) → is_level i.kind ≡ true → gates ≡ gates_of i v.gates →
    new ≡ written v.slots (map (λ (gate : Instr). gate.target) gates) shares → shares ≡ level_shares (λ gate. sent gate.kind gate.width (other v.role)) (λ k gate piece. gate_share v k gate piece gate.kind) 0 gates received →
    new ≡ slots_after i v received
level_slots i v received gates new shares is all put made =
    put
    ∙ ap (λ (xs : List Label). written v.slots (map (λ (gate : Instr). gate.target) gates) xs) made
    ∙ ap (λ (gs : List Instr). written v.slots (map (λ (gate : Instr). gate.target) gs) (level_shares (λ gate. sent gate.kind gate.width (other v.role)) (λ k gate piece. gate_share v k gate piece gate.kind) 0 gs received)) all
    ∙ ap₂ (λ (ts : List ℕ) (r : Rule). written v.slots ts (r.made received)) (sym (level_targets i.kind i v is)) (sym (level_rule i.kind i v is))

pub wanted_level : (i : Instr) (gates : List Instr) (role : Role.Role) → is_level i.kind ≡ true → wanted gates role i ≡ level_sent (other role) (gates_of i gates)
wanted_level i gates role is = ap (λ (b : Bool). if b then level_sent (other role) (gates_of i gates) else sent i.kind i.width (other role)) is

pub wanted_single : (i : Instr) (gates : List Instr) (role : Role.Role) → is_level i.kind ≡ false → wanted gates role i ≡ sent i.kind i.width (other role)
wanted_single i gates role is = ap (λ (b : Bool). if b then level_sent (other role) (gates_of i gates) else sent i.kind i.width (other role)) is

-- ---- who sends

both_kinds : (kind : InstrKind) (role : Role.Role) → has_frame kind role ≡ true → has_frame kind (other role) ≡ true → (has_frame kind P0 ≡ true) × (has_frame kind P1 ≡ true)
both_kinds kind P0 own others = (own, others)
both_kinds kind P1 own others = (others, own)

-- a level for which one party alone sends is P0's
pub own_level : (kind : InstrKind) (role : Role.Role) → is_level kind ≡ true → has_frame kind role ≡ true → has_frame kind (other role) ≡ false → P0 ≡ role
own_level LevelA P0 is own others = refl
own_level LevelA P1 is own others = absurd (cc)
own_level LevelB P0 is own others = refl
own_level LevelB P1 is own others = absurd (cc)
own_level LevelY P0 is own others = refl
own_level LevelY P1 is own others = absurd (cc)
own_level _ role is own others = absurd (cc)

-- ---- openings

opening_by : (kind : InstrKind) (i : Instr) (v : View) (share : ℕ) → is_level kind ≡ false → has_frame kind P0 ≡ true → has_frame kind P1 ≡ true →
    (kind ≡ OpenA → share ≡ word_A v i.left) → (kind ≡ OpenB → share ≡ word_B v i.width i.left) → (kind ≡ OpenY → share ≡ low_word i.width (labels_Y v i.left)) →
    (rule kind i v).message ≡ bytes (byte_count i.width) (share % modulus i.width)
opening_by OpenA i v share single first second a b y = ap (λ (x : ℕ). bytes (byte_count i.width) (x % modulus i.width)) (sym (a refl))
opening_by OpenB i v share single first second a b y = ap (λ (x : ℕ). bytes (byte_count i.width) (x % modulus i.width)) (sym (b refl))
opening_by OpenY i v share single first second a b y =
    ap (bytes (byte_count i.width)) (sym (y refl) ∙ sym (mod-eq_of_lt (subst (λ (x : ℕ). x < modulus i.width) (sym (y refl)) (low_word-is i.width (labels_Y v i.left)))))
opening_by _ i v share single first second a b y = absurd (cc)

pub opening_message : (i : Instr) (v : View) (role : Role.Role) (share : ℕ) → is_level i.kind ≡ false → has_frame i.kind role ≡ true → has_frame i.kind (other role) ≡ true →
    (i.kind ≡ OpenA → share ≡ word_A v i.left) → (i.kind ≡ OpenB → share ≡ word_B v i.width i.left) → (i.kind ≡ OpenY → share ≡ low_word i.width (labels_Y v i.left)) →
    (rule i.kind i v).message ≡ bytes (byte_count i.width) (share % modulus i.width)
opening_message i v role share single own others a b y =
    let both = both_kinds i.kind role own others in
    opening_by i.kind i v share single both.0 both.1 a b y

-- ---- room

pub room_after : (old new : List ℕ) (kind : InstrKind) (n size room : ℕ) → new ≡ old ++ frame_code kind ∷ bytes 4 n → 5 + size ≤ room - length old → size ≤ room - length new
room_after old new kind n size room is fits =
    let long : length new ≡ length old + length (frame_code kind ∷ bytes 4 n) = ap length is ∙ length-append old (frame_code kind ∷ bytes 4 n) in
    omega (arith, long, length-bytes 4 n)

-- ---- lengths

sent_some : (b : Bool) (message : List ℕ) (n : ℕ) → b ≡ true → length (received (if b then Some message else None)) ≡ (if b then n else 0) → length message ≡ n
sent_some true message n is long = long
sent_some false message n is long = absurd (cc)

no_level : (b : Bool) → b ≡ false → b ≡ true → ⊥
no_level true single is = cc
no_level false single is = cc

pub single_length : (i : Instr) (v : View) → is_level i.kind ≡ false → has_frame i.kind v.role ≡ true → length (rule i.kind i v).message ≡ sent i.kind i.width v.role
single_length i v single sends =
    sent_some (has_frame i.kind v.role) (rule i.kind i v).message (payload_length i v.gates v.role) sends (payloads_have_lengths i v (λ is. absurd (no_level (is_level i.kind) single is)))
    ∙ ap (λ (b : Bool). if b then level_sent v.role (gates_of i v.gates) else sent i.kind i.width v.role) single

frame_room : (b : Bool) (kind : InstrKind) (message : List ℕ) (n room : ℕ) → b ≡ true → length message ≡ n → n + 5 ≤ room → length (frame_bytes kind (if b then Some message else None)) ≤ room
frame_room true kind message n room sends long fits = omega (arith, length-frame_for kind message)
frame_room false kind message n room sends long fits = absurd (cc)

-- the frame of a send half fits where there is room for its head and its payload
pub send_room : (plan : Plan) (half : ℕ → List ℕ) (s : State) (i : Instr) (inbox : List ℕ) (n room : ℕ) → at_receive_half s i ≡ false → has_frame i.kind s.role ≡ true → length (rule i.kind i (view_at plan half s i)).message ≡ n → n + 5 ≤ room →
    length (at_instr plan half s inbox (Some i)).sent ≤ room
send_room plan half s i inbox n room sending sends long fits =
    subst (λ (b : Bool). length (if b then at_receive plan half s i inbox else send_half plan half s i).sent ≤ room) (sym sending)
    (frame_room (has_frame i.kind s.role) i.kind (rule i.kind i (view_at plan half s i)).message n room sends long fits)
