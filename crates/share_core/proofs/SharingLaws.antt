-- The one law of all instructions, kind by kind.
use Rattle.std.proofs.Common.{◌≡◌, ℕ, suc, ◌+◌, ◌-◌, ◌%◌, ◌≤◌, Bool, true, false, ◌&&◌, if◌then◌else◌, bit_xor, List, [], ◌∷◌, ◌++◌, length, take, drop, slice_index, None, Some, refl, sym, ap, subst, ◌∙◌}
use Rattle.std.proofs.Math.Nat.{add-mod-mod, add_comm, le_of_lt, mod-lt, mod-mod}
use Rattle.hy_bits.specs.declared.width.Width as Width
use Rattle.hy_bits.specs.declared.width.Width.TheVariants.{W1}
use Rattle.hy_bits.specs.declared.turns.Role.TheVariants.{P0, P1}
use Rattle.hy_bits.specs.Bits.{bit, xor}
use Rattle.hy_bits.specs.Words.{bits, modulus}
use Rattle.hy_bits.proofs.WordLaws.{modulus_pos}
use Rattle.share_core.specs.declared.instr.Instr.{Instr}
use Rattle.share_core.specs.declared.instr.InstrKind.{InstrKind}
use Rattle.share_core.specs.declared.instr.InstrKind.TheVariants.{Offset, InAP0, InAP1, InBP0, InBP1, InYP0, ChooseIn, ChooseA, ChooseB, AnswerIn, AnswerSharesA, AnswerSharesB, AnswerToA, LevelA, LevelB, LevelY, Carries, OpenA, OpenB, OpenY, MulA, AndB, AndY, AddA, AddLeft, AddRight, SubA, SubLeft, SubRight, MulLeft, MulRight, NegA, TruncA, Known, XorB, XorY, Y2B}
use Rattle.share_core.specs.declared.labels.Label.{Label}
use Rattle.share_core.specs.declared.labels.Offset as FreeXor
use Rattle.share_core.specs.Arithmetic.{StandFor, difference_of, sum_of}
use Rattle.share_core.specs.Boolean.{is_slot, odd, xor_of}
use Rattle.share_core.specs.Bytes.{AreWords, bytes, byte_count}
use Rattle.share_core.specs.Conversions.{MasksAgree, answer_label, answer_message, answer_message_A, answer_share_A, choice_message, choice_read, carries_message, joined_label, own_label, sum_label}
use Rattle.share_core.specs.Garbled.{IsLabel, IsOffset, LabelsStandFor, input_label, input_message_Y, label_if, label_xor, low_word, no_offset, wire}
use Rattle.share_core.specs.Garbled as Garbled
use Rattle.share_core.specs.Instructions.{has_frame, local_A, slot_of, value_A}
use Rattle.share_core.specs.Levels.{gate_width, gates_of, level_message, level_shares}
use Rattle.share_core.specs.Sizes.{sent}
use Rattle.share_core.specs.Clear.{Clear, bit_in, bits_in, gate_value, level_values, values_made, word_at, word_in}
use Rattle.share_core.specs.Machine.{View, bit_B, gate_message, gate_share, label_Y, labels_Y, listed, received, rule, word_A, word_B, word_slot}
use Rattle.share_core.specs.SharingLaw.{AtA, AtB, AtY, ChoiceStands, CodeStands, CodesStand, GateStands, GatesStand, HalvesAgree, OperandsStand, SharesStand, SlotsStand, scheme_of, width_made}
use Rattle.share_core.proofs.ArithmeticLaws.{difference-only, length-product_message}
use Rattle.share_core.proofs.ByteLaws.{drop_front, take_front}
use Rattle.share_core.proofs.BooleanLaws.{bit_word, instr_opens_B, odd_shared, odd-bit, xor-pairs, xor_mod_both}
use Rattle.hy_bits.proofs.BitLaws.{xor-bits}
use Rattle.share_core.proofs.ConversionLaws.{b2a, b2y, own_opens, same_word, sum_opens_Y, transfer_opens}
use Rattle.share_core.proofs.GarbledLaws.{and_opens_Y, codes_open_Y, for-is, if-is, input_opens_Y, length-and_rows, low_bits_stand, xor_opens_Y}
use Rattle.share_core.proofs.InstructionLaws.{instr_opens}
use Rattle.share_core.proofs.SlotLaws.{bit_of-word, bits_stand_B, bits_stand_Y, code_stands_B, shares_append, shares_cons, shares_none, shares_one, word_of_shares}

-- ---- plain facts

word_stands : (w : Width.Width) (s0 s1 x : ℕ) → sum_of (modulus w) s0 s1 ≡ x → sum_of (modulus w) s0 s1 ≡ x % modulus w
word_stands w s0 s1 x e = sym (mod-mod (s0 + s1) (modulus w)) ∙ ap (λ (u : ℕ). u % modulus w) e

shared_word : (w : Width.Width) (s0 s1 x : ℕ) → xor_of (modulus w) s0 s1 ≡ x → xor_of (modulus w) s0 s1 ≡ x % modulus w
shared_word w s0 s1 x e = sym (mod-mod (bit_xor s0 s1) (modulus w)) ∙ ap (λ (u : ℕ). u % modulus w) e

-- bits that xor, as words
bits_shared : (w : Width.Width) (b0 b1 b : Bool) → xor b0 b1 ≡ b → xor_of (modulus w) (bit b0) (bit b1) ≡ bit b % modulus w
bits_shared w b0 b1 b e = ap (λ (u : ℕ). u % modulus w) (xor-bits b0 b1 ∙ ap bit e)

-- a choice is for a word of the width
choice_mod : (w : Width.Width) (x c : ℕ) → choice_message w (x % modulus w) c ≡ choice_message w x c
choice_mod w x c =
    ap (λ (u : ℕ). bytes (byte_count w) u)
    (sym (xor_mod_both w (x % modulus w) c) ∙ ap (λ (u : ℕ). xor_of (modulus w) u (c % modulus w)) (mod-mod x (modulus w)) ∙ xor_mod_both w x c)

xor_of-mod : (w : Width.Width) (x y : ℕ) → xor_of (modulus w) x (y % modulus w) ≡ xor_of (modulus w) x y
xor_of-mod w x y =
    sym (xor_mod_both w x (y % modulus w)) ∙ ap (λ (u : ℕ). xor_of (modulus w) (x % modulus w) u) (mod-mod y (modulus w)) ∙ xor_mod_both w x y

-- what P1 has of a word at A, of which P0 has x0
rest_of_word : (w : Width.Width) (x0 x1 x : ℕ) → sum_of (modulus w) x0 x1 ≡ x % modulus w → x1 % modulus w ≡ difference_of (modulus w) x x0
rest_of_word w x0 x1 x e =
    let m : ℕ = modulus w in
    let less : x0 % m ≤ m = le_of_lt (mod-lt x0 (modulus_pos w)) in
    let back : (x1 + x0 % m) % m ≡ (x % m) % m = add-mod-mod x1 x0 m ∙ ap (λ (u : ℕ). u % m) (add_comm x1 x0) ∙ e ∙ sym (mod-mod x m) in
    difference-only m x1 (x % m) (x0 % m) less back

-- a gate's message has its length
pub product_length : (v : View) (k : ℕ) (gate : Instr) (kind : InstrKind) → kind ≡ MulA → length (gate_message v k gate kind) ≡ sent kind gate.width v.role
product_length v k gate kind is =
    subst (λ (d : InstrKind). length (gate_message v k gate d) ≡ sent d gate.width v.role) (sym is) (length-product_message gate.width (word_A v gate.left) (word_A v gate.right) (slice_index (v.half k) 0) (slice_index (v.half k) 1))

pub and_length : (v : View) (k : ℕ) (gate : Instr) (kind : InstrKind) → kind ≡ AndB → length (gate_message v k gate kind) ≡ sent kind gate.width v.role
and_length v k gate kind is = subst (λ (d : InstrKind). length (gate_message v k gate d) ≡ sent d gate.width v.role) (sym is) refl

module _ (offset : FreeXor.Offset) (picks : ℕ) (i : Instr) (c : Clear) (s0 s1 : List Label) (d0 d1 o0 o1 : ℕ) (h0 h1 : ℕ → List ℕ) (is_offset : IsOffset offset) (labels : (k : ℕ) → IsLabel (wire s0 k)) (words : (k : ℕ) → AreWords (h0 k)) where
  -- the two parties
  abbrev pub first_view : View
  first_view = record { role = P0; gates = c.gates; codes = c.codes; slots = s0; offset = offset; chosen = d0; own = o0; half = h0 }

  abbrev pub second_view : View
  second_view = record { role = P1; gates = c.gates; codes = c.codes; slots = s1; offset = no_offset; chosen = d1; own = o1; half = h1 }

  -- ---- operands

  -- the bit that a code means
  code_B : (code : ℕ) → CodeStands AtB offset W1 first_view second_view c code → xor (bit_B first_view code) (bit_B second_view code) ≡ bit_in c code
  code_B code stands = code_stands_B code (odd (wire s0 (slot_of code)).low) (odd (wire s1 (slot_of code)).low) (odd (slice_index c.values (slot_of code))) stands

  code_Y : (code : ℕ) → CodeStands AtY offset W1 first_view second_view c code → LabelsStandFor offset (label_Y first_view code) (label_Y second_view code) (bit_in c code)
  code_Y code stands = codes_open_Y offset code (wire s0 (slot_of code)) (wire s1 (slot_of code)) (odd (slice_index c.values (slot_of code))) stands

  is_label_Y : (code : ℕ) → IsLabel (label_Y first_view code)
  is_label_Y code = for-is offset (label_if (is_slot code) (wire s0 (slot_of code))) (odd code) is_offset (if-is (is_slot code) (wire s0 (slot_of code)) (labels (slot_of code)))

  -- the word whose codes stand from a place on
  pub word_at_B : (w : Width.Width) (place : ℕ) → CodesStand AtB offset (bits w) first_view second_view c place → xor_of (modulus w) (word_B first_view w place) (word_B second_view w place) ≡ word_at c w place % modulus w
  word_at_B w place stands =
      word_of_shares w (λ k. bit_B first_view (slice_index c.codes (place + k))) (λ k. bit_B second_view (slice_index c.codes (place + k))) (λ k. bit_in c (slice_index c.codes (place + k)))
      (λ k within. code_B (slice_index c.codes (place + k)) (stands k within))

  pub word_at_Y : (w : Width.Width) (place : ℕ) → CodesStand AtY offset (bits w) first_view second_view c place → Garbled.WordStands w offset (labels_Y first_view place) (labels_Y second_view place) (word_at c w place)
  word_at_Y w place stands k within =
      subst (λ (b : Bool). LabelsStandFor offset (labels_Y first_view place k) (labels_Y second_view place k) b) (sym (bit_of-word (bits w) k (λ n. bit_in c (slice_index c.codes (place + n))) within))
      (code_Y (slice_index c.codes (place + k)) (stands k within))

  -- the choice that P0 has read is for P1's word
  known : (x1 : ℕ) → ChoiceStands i.width picks x1 first_view second_view → choice_read i.width (choice_message i.width d1 picks) ≡ d0
  known x1 choice =
      ap (λ (u : ℕ). choice_read i.width (choice_message i.width u picks)) choice.1 ∙ ap (choice_read i.width) (choice_mod i.width x1 picks) ∙ sym choice.0

  -- ---- levels, gate by gate

  rows_length : (k : ℕ) (gate : Instr) (kind : InstrKind) → kind ≡ AndY → length (gate_message first_view k gate kind) ≡ sent kind gate.width P0
  rows_length k gate kind is =
      subst (λ (d : InstrKind). length (gate_message first_view k gate d) ≡ sent d gate.width P0) (sym is) (length-and_rows offset gate.number (label_Y first_view gate.left) (label_Y first_view gate.right))

  -- a product of a level
  product_stands : (k : ℕ) (gate : Instr) (kind : InstrKind) → kind ≡ MulA → GateStands kind offset gate first_view second_view c → HalvesAgree kind gate.width 0 (h0 k) (h1 k) →
      SlotsStand AtA offset gate.width (gate_share first_view k gate (gate_message second_view k gate kind) kind) (gate_share second_view k gate (gate_message first_view k gate kind) kind) (gate_value c gate kind)
  product_stands k gate kind is =
      subst (λ (d : InstrKind). GateStands d offset gate first_view second_view c → HalvesAgree d gate.width 0 (h0 k) (h1 k) →
      SlotsStand AtA offset gate.width (gate_share first_view k gate (gate_message second_view k gate d) d) (gate_share second_view k gate (gate_message first_view k gate d) d) (gate_value c gate d)) (sym is)
      (λ stands halves. word_stands gate.width _ _ _ (instr_opens MulA gate.width 0 (word_A first_view gate.left) (word_A second_view gate.left) (word_A first_view gate.right) (word_A second_view gate.right) (word_in c gate.left) (word_in c gate.right) (h0 k) (h1 k) halves.0 stands.0 stands.1))

  -- an And at B
  and_stands_B : (k : ℕ) (gate : Instr) (kind : InstrKind) → kind ≡ AndB → GateStands kind offset gate first_view second_view c → HalvesAgree kind gate.width 0 (h0 k) (h1 k) →
      SlotsStand AtB offset gate.width (gate_share first_view k gate (gate_message second_view k gate kind) kind) (gate_share second_view k gate (gate_message first_view k gate kind) kind) (gate_value c gate kind)
  and_stands_B k gate kind is =
      subst (λ (d : InstrKind). GateStands d offset gate first_view second_view c → HalvesAgree d gate.width 0 (h0 k) (h1 k) →
      SlotsStand AtB offset gate.width (gate_share first_view k gate (gate_message second_view k gate d) d) (gate_share second_view k gate (gate_message first_view k gate d) d) (gate_value c gate d)) (sym is)
      (λ stands halves.
      let p : Bool = bit_in c gate.left in
      let q : Bool = bit_in c gate.right in
      odd_shared gate.width (gate_share first_view k gate (gate_message second_view k gate AndB) AndB).low (gate_share second_view k gate (gate_message first_view k gate AndB) AndB).low (bit (odd (bit p) && odd (bit q)))
      (instr_opens_B AndB gate.width (bit (bit_B first_view gate.left)) (bit (bit_B second_view gate.left)) (bit (bit_B first_view gate.right)) (bit (bit_B second_view gate.right)) (bit p) (bit q) (h0 k) (h1 k) halves.1
      (bits_shared gate.width (bit_B first_view gate.left) (bit_B second_view gate.left) p (code_B gate.left stands.0))
      (bits_shared gate.width (bit_B first_view gate.right) (bit_B second_view gate.right) q (code_B gate.right stands.1))
      ∙ sym (bit_word gate.width (odd (bit p) && odd (bit q))))
      ∙ ap (λ (u : Bool). odd (bit (u && odd (bit q)))) (odd-bit p)
      ∙ ap (λ (u : Bool). odd (bit (p && u))) (odd-bit q))

  -- an And at Y. P0 receives nothing
  and_stands_Y : (w : Width.Width) (k : ℕ) (gate : Instr) (kind : InstrKind) (inbox : List ℕ) → kind ≡ AndY → GateStands kind offset gate first_view second_view c →
      SlotsStand AtY offset w (gate_share first_view k gate inbox kind) (gate_share second_view k gate (gate_message first_view k gate kind) kind) (gate_value c gate kind)
  and_stands_Y w k gate kind inbox is =
      subst (λ (d : InstrKind). GateStands d offset gate first_view second_view c →
      SlotsStand AtY offset w (gate_share first_view k gate inbox d) (gate_share second_view k gate (gate_message first_view k gate d) d) (gate_value c gate d)) (sym is)
      (λ stands.
      let p : Bool = bit_in c gate.left in
      let q : Bool = bit_in c gate.right in
      subst (λ (b : Bool). LabelsStandFor offset (gate_share first_view k gate inbox AndY) (gate_share second_view k gate (gate_message first_view k gate AndY) AndY) b) (sym (odd-bit (p && q)))
      (and_opens_Y offset gate.number (label_Y first_view gate.left) (label_Y second_view gate.left) (label_Y first_view gate.right) (label_Y second_view gate.right) p q is_offset (is_label_Y gate.left) (is_label_Y gate.right) (code_Y gate.left stands.0) (code_Y gate.right stands.1)))

  level_A : (k : ℕ) (gates : List Instr) → GatesStand LevelA offset first_view second_view c k gates →
      SharesStand AtA offset (gate_width gates)
      (level_shares (λ g. sent g.kind g.width P1) (λ n g piece. gate_share first_view n g piece g.kind) k gates (level_message (λ n g. gate_message second_view n g g.kind) k gates))
      (level_shares (λ g. sent g.kind g.width P0) (λ n g piece. gate_share second_view n g piece g.kind) k gates (level_message (λ n g. gate_message first_view n g g.kind) k gates))
      (level_values c gates)
  level_A k [] stand = shares_none AtA offset (gate_width [])
  level_A k (gate ∷ gates) stand =
      let m0 : List ℕ = gate_message first_view k gate gate.kind in
      let m1 : List ℕ = gate_message second_view k gate gate.kind in
      let t0 : List ℕ = level_message (λ n g. gate_message first_view n g g.kind) (suc k) gates in
      let t1 : List ℕ = level_message (λ n g. gate_message second_view n g g.kind) (suc k) gates in
      let l0 : length m0 ≡ sent gate.kind gate.width P0 = product_length first_view k gate gate.kind stand.0 in
      let l1 : length m1 ≡ sent gate.kind gate.width P1 = product_length second_view k gate gate.kind stand.0 in
      shares_cons AtA offset (gate_width (gate ∷ gates)) _ _ _ _ _ _
      (subst (λ (bs : List ℕ). SlotsStand AtA offset gate.width (gate_share first_view k gate bs gate.kind) (gate_share second_view k gate (take (sent gate.kind gate.width P0) (m0 ++ t0)) gate.kind) (gate_value c gate gate.kind)) (sym (take_front (sent gate.kind gate.width P1) m1 t1 l1))
      (subst (λ (bs : List ℕ). SlotsStand AtA offset gate.width (gate_share first_view k gate m1 gate.kind) (gate_share second_view k gate bs gate.kind) (gate_value c gate gate.kind)) (sym (take_front (sent gate.kind gate.width P0) m0 t0 l0))
      (product_stands k gate gate.kind stand.0 stand.1 stand.2)))
      (subst (λ (bs : List ℕ). SharesStand AtA offset (gate_width gates) (level_shares (λ g. sent g.kind g.width P1) (λ n g piece. gate_share first_view n g piece g.kind) (suc k) gates bs) (level_shares (λ g. sent g.kind g.width P0) (λ n g piece. gate_share second_view n g piece g.kind) (suc k) gates (drop (sent gate.kind gate.width P0) (m0 ++ t0))) (level_values c gates)) (sym (drop_front (sent gate.kind gate.width P1) m1 t1 l1))
      (subst (λ (bs : List ℕ). SharesStand AtA offset (gate_width gates) (level_shares (λ g. sent g.kind g.width P1) (λ n g piece. gate_share first_view n g piece g.kind) (suc k) gates t1) (level_shares (λ g. sent g.kind g.width P0) (λ n g piece. gate_share second_view n g piece g.kind) (suc k) gates bs) (level_values c gates)) (sym (drop_front (sent gate.kind gate.width P0) m0 t0 l0))
      (level_A (suc k) gates stand.3)))

  level_B : (w : Width.Width) (k : ℕ) (gates : List Instr) → GatesStand LevelB offset first_view second_view c k gates →
      SharesStand AtB offset (λ n. w)
      (level_shares (λ g. sent g.kind g.width P1) (λ n g piece. gate_share first_view n g piece g.kind) k gates (level_message (λ n g. gate_message second_view n g g.kind) k gates))
      (level_shares (λ g. sent g.kind g.width P0) (λ n g piece. gate_share second_view n g piece g.kind) k gates (level_message (λ n g. gate_message first_view n g g.kind) k gates))
      (level_values c gates)
  level_B w k [] stand = shares_none AtB offset (λ n. w)
  level_B w k (gate ∷ gates) stand =
      let m0 : List ℕ = gate_message first_view k gate gate.kind in
      let m1 : List ℕ = gate_message second_view k gate gate.kind in
      let t0 : List ℕ = level_message (λ n g. gate_message first_view n g g.kind) (suc k) gates in
      let t1 : List ℕ = level_message (λ n g. gate_message second_view n g g.kind) (suc k) gates in
      let l0 : length m0 ≡ sent gate.kind gate.width P0 = and_length first_view k gate gate.kind stand.0 in
      let l1 : length m1 ≡ sent gate.kind gate.width P1 = and_length second_view k gate gate.kind stand.0 in
      shares_cons AtB offset (λ n. w) _ _ _ _ _ _
      (subst (λ (bs : List ℕ). SlotsStand AtB offset w (gate_share first_view k gate bs gate.kind) (gate_share second_view k gate (take (sent gate.kind gate.width P0) (m0 ++ t0)) gate.kind) (gate_value c gate gate.kind)) (sym (take_front (sent gate.kind gate.width P1) m1 t1 l1))
      (subst (λ (bs : List ℕ). SlotsStand AtB offset w (gate_share first_view k gate m1 gate.kind) (gate_share second_view k gate bs gate.kind) (gate_value c gate gate.kind)) (sym (take_front (sent gate.kind gate.width P0) m0 t0 l0))
      (and_stands_B k gate gate.kind stand.0 stand.1 stand.2)))
      (subst (λ (bs : List ℕ). SharesStand AtB offset (λ n. w) (level_shares (λ g. sent g.kind g.width P1) (λ n g piece. gate_share first_view n g piece g.kind) (suc k) gates bs) (level_shares (λ g. sent g.kind g.width P0) (λ n g piece. gate_share second_view n g piece g.kind) (suc k) gates (drop (sent gate.kind gate.width P0) (m0 ++ t0))) (level_values c gates)) (sym (drop_front (sent gate.kind gate.width P1) m1 t1 l1))
      (subst (λ (bs : List ℕ). SharesStand AtB offset (λ n. w) (level_shares (λ g. sent g.kind g.width P1) (λ n g piece. gate_share first_view n g piece g.kind) (suc k) gates t1) (level_shares (λ g. sent g.kind g.width P0) (λ n g piece. gate_share second_view n g piece g.kind) (suc k) gates bs) (level_values c gates)) (sym (drop_front (sent gate.kind gate.width P0) m0 t0 l0))
      (level_B w (suc k) gates stand.3)))

  level_Y : (w : Width.Width) (k : ℕ) (gates : List Instr) (inbox : List ℕ) → GatesStand LevelY offset first_view second_view c k gates →
      SharesStand AtY offset (λ n. w)
      (level_shares (λ g. sent g.kind g.width P1) (λ n g piece. gate_share first_view n g piece g.kind) k gates inbox)
      (level_shares (λ g. sent g.kind g.width P0) (λ n g piece. gate_share second_view n g piece g.kind) k gates (level_message (λ n g. gate_message first_view n g g.kind) k gates))
      (level_values c gates)
  level_Y w k [] inbox stand = shares_none AtY offset (λ n. w)
  level_Y w k (gate ∷ gates) inbox stand =
      let m0 : List ℕ = gate_message first_view k gate gate.kind in
      let t0 : List ℕ = level_message (λ n g. gate_message first_view n g g.kind) (suc k) gates in
      let n1 : ℕ = sent gate.kind gate.width P1 in
      let l0 : length m0 ≡ sent gate.kind gate.width P0 = rows_length k gate gate.kind stand.0 in
      shares_cons AtY offset (λ n. w) _ _ _ _ _ _
      (subst (λ (bs : List ℕ). SlotsStand AtY offset w (gate_share first_view k gate (take n1 inbox) gate.kind) (gate_share second_view k gate bs gate.kind) (gate_value c gate gate.kind)) (sym (take_front (sent gate.kind gate.width P0) m0 t0 l0))
      (and_stands_Y w k gate gate.kind (take n1 inbox) stand.0 stand.1))
      (subst (λ (bs : List ℕ). SharesStand AtY offset (λ n. w) (level_shares (λ g. sent g.kind g.width P1) (λ n g piece. gate_share first_view n g piece g.kind) (suc k) gates (drop n1 inbox)) (level_shares (λ g. sent g.kind g.width P0) (λ n g piece. gate_share second_view n g piece g.kind) (suc k) gates bs) (level_values c gates)) (sym (drop_front (sent gate.kind gate.width P0) m0 t0 l0))
      (level_Y w (suc k) gates (drop n1 inbox) stand.3))

  -- ---- each kind

  -- what the party sends for an instruction of the kind
  abbrev pub sends : InstrKind → View → List ℕ
  sends kind v = received (if has_frame kind v.role then Some (rule kind i v).message else None)

  answered_Y : (shares : Bool) (x0 x1 x : ℕ) → ChoiceStands i.width picks x1 first_view second_view → MasksAgree shares i.width picks (h0 0) (h1 0) → d1 % modulus i.width ≡ x % modulus i.width →
      Garbled.WordStands i.width offset (answer_label P0 shares i.width d0 (h0 0) []) (answer_label P1 shares i.width d1 (h1 0) (answer_message shares i.width offset x0 d0 (h0 0))) x
  answered_Y shares x0 x1 x choice agree same =
      same_word i.width offset (answer_label P0 shares i.width d0 (h0 0) []) (answer_label P1 shares i.width d1 (h1 0) (answer_message shares i.width offset x0 d0 (h0 0))) d1 x same
      (subst (λ (d : ℕ). Garbled.WordStands i.width offset (answer_label P0 shares i.width 0 (h0 0) []) (answer_label P1 shares i.width d1 (h1 0) (answer_message shares i.width offset x0 d (h0 0))) d1) (known x1 choice)
      (transfer_opens shares i.width offset x0 d1 picks (h0 0) (h1 0) is_offset (words 0) agree))

  -- the word of a choice, cut to the width
  chosen_word : (x1 x : ℕ) → ChoiceStands i.width picks x1 first_view second_view → x1 % modulus i.width ≡ x % modulus i.width → d1 % modulus i.width ≡ x % modulus i.width
  chosen_word x1 x choice same = ap (λ (u : ℕ). u % modulus i.width) choice.1 ∙ mod-mod x1 (modulus i.width) ∙ same

  -- a word at B, of which P1's share is the choice's word
  chosen_share : (place : ℕ) → ChoiceStands i.width picks (word_B second_view i.width place) first_view second_view → CodesStand AtB offset (bits i.width) first_view second_view c place →
      xor_of (modulus i.width) (word_B first_view i.width place) d1 ≡ word_at c i.width place % modulus i.width
  chosen_share place choice stand =
      ap (λ (u : ℕ). xor_of (modulus i.width) (word_B first_view i.width place) u) choice.1 ∙ xor_of-mod i.width (word_B first_view i.width place) (word_B second_view i.width place) ∙ word_at_B i.width place stand

  computes_A2Y : HalvesAgree AnswerSharesA i.width picks (h0 0) (h1 0) → OperandsStand AnswerSharesA offset picks i first_view second_view c →
      SharesStand AtY offset (λ k. i.width) ((rule AnswerSharesA i first_view).made (sends AnswerSharesA second_view)) ((rule AnswerSharesA i second_view).made (sends AnswerSharesA first_view)) (values_made AnswerSharesA i c)
  computes_A2Y halves stand =
      let w : Width.Width = i.width in
      let x0 : ℕ = word_A first_view i.left in
      let x1 : ℕ = word_A second_view i.left in
      let message : List ℕ = answer_message true i.width offset (word_A first_view i.left) d0 (h0 0) in
      let rest : ℕ = difference_of (modulus i.width) (word_in c i.left) c.part in
      let own : Garbled.WordStands i.width offset (own_label P0 true (h0 0) []) (own_label P1 true (h1 0) (answer_message true i.width offset (word_A first_view i.left) d0 (h0 0))) c.part =
      subst (λ (u : ℕ). Garbled.WordStands i.width offset (own_label P0 true (h0 0) []) (own_label P1 true (h1 0) (answer_message true i.width offset (word_A first_view i.left) d0 (h0 0))) u) (sym stand.2)
      (own_opens i.width offset (word_A first_view i.left) d0 (h0 0) (h1 0) is_offset (words 0)) in
      let cut : x1 % modulus i.width ≡ rest % modulus i.width =
      rest_of_word i.width x0 x1 (word_in c i.left) stand.1
      ∙ sym (mod-mod (word_in c i.left % modulus i.width + (modulus i.width - x0 % modulus i.width)) (modulus i.width))
      ∙ ap (λ (u : ℕ). difference_of (modulus i.width) (word_in c i.left) u % modulus i.width) (sym stand.2) in
      shares_append AtY offset i.width (listed (bits i.width) (own_label P0 true (h0 0) [])) (listed (bits i.width) (own_label P1 true (h1 0) message)) (listed (bits i.width) (answer_label P0 true i.width d0 (h0 0) [])) (listed (bits i.width) (answer_label P1 true i.width d1 (h1 0) message)) (bits_in i.width c.part) (bits_in i.width rest)
      (bits_stand_Y offset i.width (own_label P0 true (h0 0) []) (own_label P1 true (h1 0) message) c.part own)
      (bits_stand_Y offset i.width (answer_label P0 true i.width d0 (h0 0) []) (answer_label P1 true i.width d1 (h1 0) message) rest (answered_Y true x0 x1 rest stand.0 halves.2 (chosen_word x1 rest stand.0 cut)))

  computes_B2Y : HalvesAgree AnswerSharesB i.width picks (h0 0) (h1 0) → OperandsStand AnswerSharesB offset picks i first_view second_view c →
      SharesStand AtY offset (λ k. i.width) ((rule AnswerSharesB i first_view).made (sends AnswerSharesB second_view)) ((rule AnswerSharesB i second_view).made (sends AnswerSharesB first_view)) (values_made AnswerSharesB i c)
  computes_B2Y halves stand =
      let x0 : ℕ = word_B first_view i.width i.left in
      let x : ℕ = word_at c i.width i.left in
      bits_stand_Y offset i.width (joined_label P0 i.width d0 (h0 0) []) (joined_label P1 i.width d1 (h1 0) (answer_message true i.width offset x0 d0 (h0 0))) x
      (subst (λ (d : ℕ). Garbled.WordStands i.width offset (joined_label P0 i.width 0 (h0 0) []) (joined_label P1 i.width d1 (h1 0) (answer_message true i.width offset x0 d (h0 0))) x) (known (word_B second_view i.width i.left) stand.0)
      (b2y i.width offset x0 d1 x picks (h0 0) (h1 0) is_offset (words 0) halves.2 (chosen_share i.left stand.0 stand.1)))

  computes_B2A : HalvesAgree AnswerToA i.width picks (h0 0) (h1 0) → OperandsStand AnswerToA offset picks i first_view second_view c →
      SharesStand AtA offset (λ k. i.width) ((rule AnswerToA i first_view).made (sends AnswerToA second_view)) ((rule AnswerToA i second_view).made (sends AnswerToA first_view)) (values_made AnswerToA i c)
  computes_B2A halves stand =
      let x0 : ℕ = word_B first_view i.width i.left in
      let x : ℕ = word_at c i.width i.left in
      shares_one AtA offset (λ k. i.width) _ _ x
      (subst (λ (d : ℕ). sum_of (modulus i.width) (answer_share_A P0 i.width 0 (h0 0) []) (answer_share_A P1 i.width d1 (h1 0) (answer_message_A i.width x0 d (h0 0))) ≡ x % modulus i.width) (known (word_B second_view i.width i.left) stand.0)
      (b2a i.width x0 d1 x picks (h0 0) (h1 0) halves.2 (chosen_share i.left stand.0 stand.1)))

  computes_input_Y : o0 ≡ c.own → SharesStand AtY offset (λ k. i.width) ((rule InYP0 i first_view).made (sends InYP0 second_view)) ((rule InYP0 i second_view).made (sends InYP0 first_view)) (values_made InYP0 i c)
  computes_input_Y own =
      bits_stand_Y offset i.width (input_label P0 (h0 0) []) (input_label P1 (h1 0) (input_message_Y i.width offset o0 (h0 0))) c.own
      (subst (λ (u : ℕ). Garbled.WordStands i.width offset (input_label P0 (h0 0) []) (input_label P1 (h1 0) (input_message_Y i.width offset o0 (h0 0))) u) own (input_opens_Y i.width offset o0 (h0 0) (h1 0) is_offset (words 0)))

  computes_xor_B : OperandsStand XorB offset picks i first_view second_view c → SharesStand AtB offset (λ k. i.width) ((rule XorB i first_view).made []) ((rule XorB i second_view).made []) (values_made XorB i c)
  computes_xor_B stand =
      let a0 : Bool = bit_B first_view i.left in
      let a1 : Bool = bit_B second_view i.left in
      let b0 : Bool = bit_B first_view i.right in
      let b1 : Bool = bit_B second_view i.right in
      let p : Bool = bit_in c i.left in
      let q : Bool = bit_in c i.right in
      shares_one AtB offset (λ k. i.width) _ _ (bit (xor p q))
      (simp odd-bit (xor-pairs a0 b0 a1 b1 ∙ ap (λ (u : Bool). xor u (xor b0 b1)) (code_B i.left stand.0) ∙ ap (λ (u : Bool). xor p u) (code_B i.right stand.1)))

  computes_xor_Y : OperandsStand XorY offset picks i first_view second_view c → SharesStand AtY offset (λ k. i.width) ((rule XorY i first_view).made []) ((rule XorY i second_view).made []) (values_made XorY i c)
  computes_xor_Y stand =
      let p : Bool = bit_in c i.left in
      let q : Bool = bit_in c i.right in
      shares_one AtY offset (λ k. i.width) _ _ (bit (xor p q))
      (subst (λ (b : Bool). LabelsStandFor offset (label_xor (label_Y first_view i.left) (label_Y first_view i.right)) (label_xor (label_Y second_view i.left) (label_Y second_view i.right)) b) (sym (odd-bit (xor p q)))
      (xor_opens_Y offset (label_Y first_view i.left) (label_Y second_view i.left) (label_Y first_view i.right) (label_Y second_view i.right) p q (code_Y i.left stand.0) (code_Y i.right stand.1)))

  computes_carries : OperandsStand Carries offset picks i first_view second_view c → SharesStand AtY offset (λ k. i.width) ((rule Carries i first_view).made (sends Carries second_view)) ((rule Carries i second_view).made (sends Carries first_view)) (values_made Carries i c)
  computes_carries stand =
      let right : ℕ = i.left + bits i.width in
      let a0 : ℕ → Label = labels_Y first_view i.left in
      let a1 : ℕ → Label = labels_Y second_view i.left in
      let b0 : ℕ → Label = labels_Y first_view right in
      let b1 : ℕ → Label = labels_Y second_view right in
      let x : ℕ = word_at c i.width i.left in
      let y : ℕ = word_at c i.width right in
      bits_stand_Y offset i.width (sum_label P0 offset i.value a0 b0 []) (sum_label P1 no_offset i.value a1 b1 (carries_message i.width offset i.value a0 b0)) (x + y)
      (sum_opens_Y i.width offset i.value a0 a1 b0 b1 x y is_offset (λ k. is_label_Y (slice_index c.codes (i.left + k))) (λ k. is_label_Y (slice_index c.codes (right + k))) (word_at_Y i.width i.left stand.0) (word_at_Y i.width right stand.1))

  -- a local instruction at A, whose missing operands may be any
  local_A_stands : (kind : InstrKind) (x y : ℕ) → StandFor i.width (local_A kind i.width P0 i.value (word_A first_view i.left) (word_A first_view i.right)) (local_A kind i.width P1 i.value (word_A second_view i.left) (word_A second_view i.right)) (value_A kind i.width i.value x y) →
      SharesStand AtA offset (λ k. i.width) (word_slot (local_A kind i.width P0 i.value (word_A first_view i.left) (word_A first_view i.right)) ∷ []) (word_slot (local_A kind i.width P1 i.value (word_A second_view i.left) (word_A second_view i.right)) ∷ []) (value_A kind i.width i.value x y ∷ [])
  local_A_stands kind x y e = shares_one AtA offset (λ k. i.width) _ _ (value_A kind i.width i.value x y) (word_stands i.width _ _ (value_A kind i.width i.value x y) e)

  pub computes : (kind : InstrKind) → HalvesAgree kind i.width picks (h0 0) (h1 0) → OperandsStand kind offset picks i first_view second_view c →
      SharesStand (scheme_of kind) offset (width_made kind i c.gates) ((rule kind i first_view).made (sends kind second_view)) ((rule kind i second_view).made (sends kind first_view)) (values_made kind i c)
  computes Offset halves stand = shares_none AtA offset (λ k. i.width)
  computes InAP0 halves own = shares_one AtA offset (λ k. i.width) _ _ (value_A InAP0 i.width 0 c.own 0) (word_stands i.width _ _ (value_A InAP0 i.width 0 c.own 0) (instr_opens InAP0 i.width 0 o0 o1 0 0 c.own 0 (h0 0) (h1 0) tt own refl))
  computes InAP1 halves own = shares_one AtA offset (λ k. i.width) _ _ (value_A InAP1 i.width 0 c.own 0) (word_stands i.width _ _ (value_A InAP1 i.width 0 c.own 0) (instr_opens InAP1 i.width 0 o0 o1 0 0 c.own 0 (h0 0) (h1 0) tt own refl))
  computes InBP0 halves own = bits_stand_B offset i.width _ _ c.own (instr_opens_B InBP0 i.width o0 o1 0 0 c.own 0 (h0 0) (h1 0) tt own refl)
  computes InBP1 halves own = bits_stand_B offset i.width _ _ c.own (instr_opens_B InBP1 i.width o0 o1 0 0 c.own 0 (h0 0) (h1 0) tt own refl)
  computes InYP0 halves own = computes_input_Y own
  computes ChooseIn halves stand = shares_none AtA offset (λ k. i.width)
  computes ChooseA halves stand = shares_none AtA offset (λ k. i.width)
  computes ChooseB halves stand = shares_none AtA offset (λ k. i.width)
  computes AnswerIn halves choice =
      bits_stand_Y offset i.width (answer_label P0 false i.width d0 (h0 0) []) (answer_label P1 false i.width d1 (h1 0) (answer_message false i.width offset 0 d0 (h0 0))) c.chosen
      (answered_Y false 0 c.chosen c.chosen choice halves.2 (chosen_word c.chosen c.chosen choice refl))
  computes AnswerSharesA halves stand = computes_A2Y halves stand
  computes AnswerSharesB halves stand = computes_B2Y halves stand
  computes AnswerToA halves stand = computes_B2A halves stand
  computes LevelA halves stand = level_A 0 (gates_of i c.gates) stand
  computes LevelB halves stand = level_B i.width 0 (gates_of i c.gates) stand
  computes LevelY halves stand = level_Y i.width 0 (gates_of i c.gates) [] stand
  computes Carries halves stand = computes_carries stand
  computes OpenA halves stand = shares_none AtA offset (λ k. i.width)
  computes OpenB halves stand = shares_none AtA offset (λ k. i.width)
  computes OpenY halves stand = shares_none AtA offset (λ k. i.width)
  computes MulA halves stand = shares_none AtA offset (λ k. i.width)
  computes AndB halves stand = shares_none AtA offset (λ k. i.width)
  computes AndY halves stand = shares_none AtA offset (λ k. i.width)
  computes AddA halves stand = local_A_stands AddA (word_in c i.left) (word_in c i.right) (instr_opens AddA i.width i.value (word_A first_view i.left) (word_A second_view i.left) (word_A first_view i.right) (word_A second_view i.right) (word_in c i.left) (word_in c i.right) [] [] tt stand.0 stand.1)
  computes SubA halves stand = local_A_stands SubA (word_in c i.left) (word_in c i.right) (instr_opens SubA i.width i.value (word_A first_view i.left) (word_A second_view i.left) (word_A first_view i.right) (word_A second_view i.right) (word_in c i.left) (word_in c i.right) [] [] tt stand.0 stand.1)
  computes AddLeft halves stand = local_A_stands AddLeft (word_in c i.left) (word_in c i.right) (instr_opens AddLeft i.width i.value (word_A first_view i.left) (word_A second_view i.left) (word_A first_view i.right) (word_A second_view i.right) (word_A first_view i.left + word_A second_view i.left) (word_in c i.right) [] [] tt refl stand)
  computes SubLeft halves stand = local_A_stands SubLeft (word_in c i.left) (word_in c i.right) (instr_opens SubLeft i.width i.value (word_A first_view i.left) (word_A second_view i.left) (word_A first_view i.right) (word_A second_view i.right) (word_A first_view i.left + word_A second_view i.left) (word_in c i.right) [] [] tt refl stand)
  computes MulLeft halves stand = local_A_stands MulLeft (word_in c i.left) (word_in c i.right) (instr_opens MulLeft i.width i.value (word_A first_view i.left) (word_A second_view i.left) (word_A first_view i.right) (word_A second_view i.right) (word_A first_view i.left + word_A second_view i.left) (word_in c i.right) [] [] tt refl stand)
  computes AddRight halves stand = local_A_stands AddRight (word_in c i.left) (word_in c i.right) (instr_opens AddRight i.width i.value (word_A first_view i.left) (word_A second_view i.left) (word_A first_view i.right) (word_A second_view i.right) (word_in c i.left) (word_A first_view i.right + word_A second_view i.right) [] [] tt stand refl)
  computes SubRight halves stand = local_A_stands SubRight (word_in c i.left) (word_in c i.right) (instr_opens SubRight i.width i.value (word_A first_view i.left) (word_A second_view i.left) (word_A first_view i.right) (word_A second_view i.right) (word_in c i.left) (word_A first_view i.right + word_A second_view i.right) [] [] tt stand refl)
  computes MulRight halves stand = local_A_stands MulRight (word_in c i.left) (word_in c i.right) (instr_opens MulRight i.width i.value (word_A first_view i.left) (word_A second_view i.left) (word_A first_view i.right) (word_A second_view i.right) (word_in c i.left) (word_A first_view i.right + word_A second_view i.right) [] [] tt stand refl)
  computes NegA halves stand = local_A_stands NegA (word_in c i.left) (word_in c i.right) (instr_opens NegA i.width i.value (word_A first_view i.left) (word_A second_view i.left) (word_A first_view i.right) (word_A second_view i.right) (word_in c i.left) (word_A first_view i.right + word_A second_view i.right) [] [] tt stand refl)
  computes TruncA halves stand = local_A_stands TruncA (word_in c i.left) (word_in c i.right) (instr_opens TruncA i.width i.value (word_A first_view i.left) (word_A second_view i.left) (word_A first_view i.right) (word_A second_view i.right) (word_in c i.left) (word_A first_view i.right + word_A second_view i.right) [] [] tt stand refl)
  computes Known halves stand = local_A_stands Known (word_in c i.left) (word_in c i.right) (instr_opens Known i.width i.value (word_A first_view i.left) (word_A second_view i.left) (word_A first_view i.right) (word_A second_view i.right) (word_A first_view i.left + word_A second_view i.left) (word_A first_view i.right + word_A second_view i.right) [] [] tt refl refl)
  computes XorB halves stand = computes_xor_B stand
  computes XorY halves stand = computes_xor_Y stand
  computes Y2B halves stand =
      let x : ℕ = word_at c i.width i.left in
      bits_stand_B offset i.width (low_word i.width (labels_Y first_view i.left)) (low_word i.width (labels_Y second_view i.left)) x
      (low_bits_stand i.width offset (labels_Y first_view i.left) (labels_Y second_view i.left) x is_offset (word_at_Y i.width i.left stand)).0
