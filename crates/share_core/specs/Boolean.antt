-- Boolean shares, the sharing B (GMW, STOC 1987; ABY, NDSS 2015, section III.B): two bits stand for the bit that they xor to, and two
-- words for the word whose bits they stand for, one by one. A party's share may be any number; what it sends and its new
-- shares are words.
use Rattle.std.specs.Prelude.{◌≡◌, ℕ, ◌+◌, ◌*◌, ◌/◌, ◌%◌, ◌^◌, ◌==◌, bit_xor, nat_le, Bool, ◌&&◌, List, [], ◌∷◌, slice_index}
use Rattle.hy_bits.specs.declared.width.Width.{Width}
use Rattle.hy_bits.specs.declared.turns.Role.{Role}
use Rattle.hy_bits.specs.declared.turns.Role.TheVariants.{P0, P1}
use Rattle.hy_bits.specs.Bits.{bit, xor}
use Rattle.hy_bits.specs.Words.{modulus}
use Rattle.share_core.specs.declared.instr.InstrKind.{InstrKind}
use Rattle.share_core.specs.declared.instr.InstrKind.TheVariants.{InBP0, InBP1, AndB, XorB, OpenB}
use Rattle.share_core.specs.Roles.{is_first, is_second}
use Rattle.share_core.specs.Bytes.{AreWords, bytes, number, byte_count}
use Rattle.share_core.specs.Instructions.{half_of, slot_of}

-- the lowest bit of a number, and bit i
abbrev pub odd : ℕ → Bool
odd a = a % 2 == 1

abbrev pub bit_of : ℕ → ℕ → Bool
bit_of a i = odd (a / 2 ^ i)

-- two bits stand for a bit, as a word of width 1
abbrev pub StandFor : Bool → Bool → ℕ → Type 0
StandFor x0 x1 x = bit (xor x0 x1) ≡ x

-- the xor of any two numbers, as a word below m
abbrev pub xor_of : ℕ → ℕ → ℕ → ℕ
xor_of m x y = bit_xor x y % m

-- ---- an And of shares, by a dealt triple: bits a, b and c that are shared as x and y are, and of which c is a && b (Beaver, CRYPTO
-- 1991). Both parties open e = x ^ a and f = y ^ b, so x && y is (e && f) ^ (f && a) ^ (e && b) ^ c

-- the dealt halves: all that one has, the other has not
abbrev pub IsBitTriple : Bool → Bool → Bool → Bool → Bool → Bool → Type 0
IsBitTriple a0 b0 c0 a1 b1 c1 = xor c0 c1 ≡ (xor a0 a1 && xor b0 b1)

-- one party's message: a byte whose bit 0 is its share of e and whose bit 1 is its share of f; its other bits are 0
abbrev pub and_message : Bool → Bool → Bool → Bool → List ℕ
and_message x y a b = (bit (xor x a) + 2 * bit (xor y b)) ∷ []

-- e and f: the party's own shares of them with those in the other's message, of which only these two bits are read
abbrev pub opened_bit_e : Bool → Bool → List ℕ → Bool
opened_bit_e x a inbox = xor (xor x a) (odd (slice_index inbox 0))

abbrev pub opened_bit_f : Bool → Bool → List ℕ → Bool
opened_bit_f y b inbox = xor (xor y b) (odd (slice_index inbox 0 / 2))

-- one party's share of the And: P1 alone adds e && f
abbrev pub and_share : Role → Bool → Bool → Bool → Bool → Bool → Bool
and_share role e f a b c = xor (is_second role && (e && f)) (xor (f && a) (xor (e && b) c))

-- ---- codes: what a code over slots means where the slots have bits. Codes 0 and 1 are the constants, and an odd code is the complement of the code below it

-- the code names a slot
abbrev pub is_slot : ℕ → Bool
is_slot code = nat_le 2 code

-- the bit that a code means, from the bit in its slot
abbrev pub code_value : ℕ → Bool → Bool
code_value code b = xor (is_slot code && b) (odd code)

-- one party's share of it, from its share in the slot: P0 alone complements
abbrev pub code_share : Role → ℕ → Bool → Bool
code_share role code b = xor (is_slot code && b) (is_first role && odd code)

-- the share of the bit that a code means, over all slots
abbrev pub bit_at : Role → (ℕ → Bool) → ℕ → Bool
bit_at role slots code = code_share role code (slots (slot_of code))

-- ---- what is dealt at B

-- a role's half of a bit: P0 has what was drawn, P1 what P0 has not
abbrev pub dealt_bit : Role → Bool → Bool → Bool
dealt_bit P0 whole drawn = drawn
dealt_bit P1 whole drawn = xor whole drawn

-- the word drawn is r for an input; for an And its bits 0 to 4 are a, b, a0, b0 and c0. The words of the role's half: an input's owner has r; of an And each role has its bits a, b and c = a && b, in this order
abbrev pub dealt_B : InstrKind → Width → Role → List ℕ → List ℕ
dealt_B InBP0 w P0 drawn = (slice_index drawn 0 % modulus w) ∷ []
dealt_B InBP1 w P1 drawn = (slice_index drawn 0 % modulus w) ∷ []
dealt_B AndB w role drawn =
    let bits = slice_index drawn 0 in
    bit (dealt_bit role (bit_of bits 0) (bit_of bits 2)) ∷ bit (dealt_bit role (bit_of bits 1) (bit_of bits 3)) ∷ bit (dealt_bit role (bit_of bits 0 && bit_of bits 1) (bit_of bits 4)) ∷ []
dealt_B _ w role drawn = []

-- ---- the formulas at B: x and y are the party's shares of the left and the right operand. An input's x is its word, which
-- its owner alone has; a gate's operands are the lowest bits of x and y, and its share is a bit

abbrev pub message_B : InstrKind → Width → Role → ℕ → ℕ → List ℕ → List ℕ
message_B InBP0 w P0 x y half = bytes (byte_count w) (xor_of (modulus w) x (slice_index half 0))
message_B InBP1 w P1 x y half = bytes (byte_count w) (xor_of (modulus w) x (slice_index half 0))
message_B AndB w role x y half = and_message (odd x) (odd y) (odd (slice_index half 0)) (odd (slice_index half 1))
message_B OpenB w role x y half = bytes (byte_count w) (x % modulus w)
message_B _ w role x y half = []

-- the number of its bytes
abbrev pub sent_B : InstrKind → Width → Role → ℕ
sent_B InBP0 w P0 = byte_count w
sent_B InBP1 w P1 = byte_count w
sent_B AndB w role = 1
sent_B OpenB w role = byte_count w
sent_B _ w role = 0

-- the new share. An opening makes none, but gives the word that the two shares stand for
abbrev pub share_B : InstrKind → Width → Role → ℕ → ℕ → List ℕ → List ℕ → ℕ
share_B InBP0 w P0 x y half inbox = slice_index half 0 % modulus w
share_B InBP0 w P1 x y half inbox = number inbox % modulus w
share_B InBP1 w P0 x y half inbox = number inbox % modulus w
share_B InBP1 w P1 x y half inbox = slice_index half 0 % modulus w
share_B AndB w role x y half inbox =
    let a = odd (slice_index half 0) in
    let b = odd (slice_index half 1) in
    bit (and_share role (opened_bit_e (odd x) a inbox) (opened_bit_f (odd y) b inbox) a b (odd (slice_index half 2)))
share_B XorB w role x y half inbox = bit (xor (odd x) (odd y))
share_B OpenB w role x y half inbox = xor_of (modulus w) x (number inbox)
share_B _ w role x y half inbox = 0

-- ---- what the new shares stand for

-- an input's x is its owner's word; any other operand is shared
abbrev pub Operand_B : InstrKind → Width → ℕ → ℕ → ℕ → Type 0
Operand_B InBP0 w x0 x1 x = x0 ≡ x
Operand_B InBP1 w x0 x1 x = x1 ≡ x
Operand_B _ w x0 x1 x = xor_of (modulus w) x0 x1 ≡ x % modulus w

-- the halves of an And are those of a triple
abbrev pub HalvesAgree_B : InstrKind → List ℕ → List ℕ → Type 0
HalvesAgree_B AndB half0 half1 =
    IsBitTriple (odd (slice_index half0 0)) (odd (slice_index half0 1)) (odd (slice_index half0 2)) (odd (slice_index half1 0)) (odd (slice_index half1 1)) (odd (slice_index half1 2))
HalvesAgree_B _ half0 half1 = Unit {0}

-- the word, where x and y are the operands' words
abbrev pub value_B : InstrKind → Width → ℕ → ℕ → ℕ
value_B InBP0 w x y = x % modulus w
value_B InBP1 w x y = x % modulus w
value_B AndB w x y = bit (odd x && odd y)
value_B XorB w x y = bit (xor (odd x) (odd y))
value_B OpenB w x y = x % modulus w
value_B _ w x y = 0

-- the new shares stand for the word; of an opening both parties have the word
abbrev pub Stands_B : InstrKind → Width → ℕ → ℕ → ℕ → Type 0
Stands_B OpenB w s0 s1 value = (s0 ≡ value) × (s1 ≡ value)
Stands_B _ w s0 s1 value = xor_of (modulus w) s0 s1 ≡ value

-- each instruction at B with the other's message gives what it is to give, where the halves agree
abbrev pub InstrOpensB : Type 0
InstrOpensB =
    (kind : InstrKind) (w : Width) (x0 x1 y0 y1 x y : ℕ) (half0 half1 : List ℕ) → HalvesAgree_B kind half0 half1 → Operand_B kind w x0 x1 x → xor_of (modulus w) y0 y1 ≡ y % modulus w →
    Stands_B kind w (share_B kind w P0 x0 y0 half0 (message_B kind w P1 x1 y1 half1)) (share_B kind w P1 x1 y1 half1 (message_B kind w P0 x0 y0 half0)) (value_B kind w x y)

-- the halves that are dealt from any words agree
abbrev pub DealtHalvesAgreeB : Type 0
DealtHalvesAgreeB = (kind : InstrKind) (w : Width) (drawn : List ℕ) → AreWords drawn → HalvesAgree_B kind (half_of (dealt_B kind w P0 drawn)) (half_of (dealt_B kind w P1 drawn))

-- the shares of the bit that a code means stand for it
abbrev pub CodesOpenB : Type 0
CodesOpenB = (code : ℕ) (b0 b1 : Bool) → xor (code_share P0 code b0) (code_share P1 code b1) ≡ code_value code (xor b0 b1)
