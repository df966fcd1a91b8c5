-- Words drawn one after another from a source of words of 64 bits, and what the dealer keeps of them.
use Rattle.std.specs.Prelude.{◌≡◌, ℕ, zero, suc, ◌+◌, ◌*◌, ◌%◌, Bool, List, [], ◌∷◌, ◌++◌, length, slice_index}
use Rattle.hy_bits.specs.declared.width.Width.{Width}
use Rattle.hy_bits.specs.Words.{modulus}
use Rattle.share_core.specs.Boolean.{bit_of}
use Rattle.share_core.specs.Conversions.{pair_place, pick}
use Rattle.rand_core.specs.Stream.{Stream, next_u64}
use Rattle.share_core.specs.declared.instr.InstrKind.{InstrKind}
use Rattle.share_core.specs.declared.instr.InstrKind.TheVariants.{Offset}
use Rattle.share_core.specs.declared.labels.Label.{Label}
use Rattle.share_core.specs.declared.labels.Offset as FreeXor
use Rattle.share_core.specs.Garbled.{dealt_label, offset_of}

-- the first n words, in order, and what is left of the source
unfoldable pub taken : ℕ → Stream → List ℕ
taken zero source = []
taken (suc n) source = (next_u64 source).0 ∷ taken n (next_u64 source).1

unfoldable pub left : ℕ → Stream → Stream
left zero source = source
left (suc n) source = left n (next_u64 source).1

-- words drawn in two goes are those drawn in one, and so is what is left; and so many are drawn as are wanted
abbrev pub DrawnInTurn : Type 0
DrawnInTurn = (m n : ℕ) (source : Stream) → (taken (m + n) source ≡ taken m source ++ taken n (left m source)) × (left (m + n) source ≡ left n (left m source)) × (length (taken n source) ≡ n)

-- the offset that the dealer keeps after an instruction for which these words were drawn
abbrev pub offset_after : InstrKind → List ℕ → FreeXor.Offset → FreeXor.Offset
offset_after Offset words offset = offset_of words
offset_after _ words offset = offset

-- P1's mask for bit i of an answer at Y, and of one at A: the one of two that the choice's word picks
abbrev pub label_mask : Bool → ℕ → List ℕ → ℕ → Label
label_mask shares chosen words i = pick (bit_of chosen i) (dealt_label words (pair_place shares i + 2)) (dealt_label words (pair_place shares i + 4))

abbrev pub word_mask : Width → ℕ → List ℕ → ℕ → ℕ
word_mask w chosen words i = pick (bit_of chosen i) (slice_index words (3 * i + 1)) (slice_index words (3 * i + 2)) % modulus w
