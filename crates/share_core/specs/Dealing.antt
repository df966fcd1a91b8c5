-- What is dealt for each instruction: how many words are drawn, and each role's half as a function of them. Words of 64 bits
-- are drawn in the order of the instructions, and for a level gate by gate. `chosen` is the word that was drawn for P1's last
-- choice.
use Rattle.std.specs.Prelude.{ℕ, ◌+◌, ◌*◌, ◌%◌, List, [], ◌∷◌, Bool, true, false, map, slice_index}
use Rattle.hy_bits.specs.declared.width.Width.{Width}
use Rattle.hy_bits.specs.declared.turns.Role.{Role}
use Rattle.hy_bits.specs.declared.turns.Role.TheVariants.{P0, P1}
use Rattle.hy_bits.specs.Words.{bits, modulus}
use Rattle.share_core.specs.declared.instr.InstrKind.{InstrKind}
use Rattle.share_core.specs.declared.instr.InstrKind.TheVariants.{Offset, InAP0, InAP1, InBP0, InBP1, InYP0, ChooseIn, ChooseA, ChooseB, AnswerIn, AnswerSharesA, AnswerSharesB, AnswerToA, MulA, AndB}
use Rattle.share_core.specs.Instructions.{half_of, dealt_A}
use Rattle.share_core.specs.Boolean.{bit_of, dealt_B}
use Rattle.share_core.specs.Bytes.{AreWords}
use Rattle.share_core.specs.Garbled.{offset_of, offset_words, dealt_label, joined, label_words}
use Rattle.share_core.specs.Conversions.{MasksAgree, MasksAgreeA, pair_place, pick}

-- how many words are drawn: two for each label, one for each word at A or B, and for an And one, of which five bits are taken
abbrev pub drawn : InstrKind → Width → ℕ
drawn Offset w = 2
drawn InAP0 w = 1
drawn InAP1 w = 1
drawn InBP0 w = 1
drawn InBP1 w = 1
drawn InYP0 w = 2 * bits w
drawn ChooseIn w = 1
drawn ChooseA w = 1
drawn ChooseB w = 1
drawn AnswerIn w = 6 * bits w
drawn AnswerSharesA w = 8 * bits w
drawn AnswerSharesB w = 8 * bits w
drawn AnswerToA w = 3 * bits w
drawn MulA w = 5
drawn AndB w = 1
drawn _ w = 0

-- P1's masks of an answer: for each bit the one of r0 and r1, or of t0 and t1, that its choice's word picks
abbrev pub dealt_masks : Bool → Width → ℕ → List ℕ → List ℕ
dealt_masks shares w chosen words = joined (bits w) (λ i. label_words (pick (bit_of chosen i) (dealt_label words (pair_place shares i + 2)) (dealt_label words (pair_place shares i + 4))))

abbrev pub dealt_masks_A : Width → ℕ → List ℕ → List ℕ
dealt_masks_A w chosen words = joined (bits w) (λ i. (pick (bit_of chosen i) (slice_index words (3 * i + 1)) (slice_index words (3 * i + 2)) % modulus w) ∷ [])

-- the words of the role's half. P0 has the words of labels and of answers in the order drawn; those of an answer at A are words of the width
abbrev pub dealt : InstrKind → Width → Role → ℕ → List ℕ → List ℕ
dealt Offset w P0 chosen words = offset_words (offset_of words)
dealt InYP0 w P0 chosen words = words
dealt ChooseIn w P1 chosen words = (slice_index words 0 % modulus w) ∷ []
dealt ChooseA w P1 chosen words = (slice_index words 0 % modulus w) ∷ []
dealt ChooseB w P1 chosen words = (slice_index words 0 % modulus w) ∷ []
dealt AnswerIn w P0 chosen words = words
dealt AnswerIn w P1 chosen words = dealt_masks false w chosen words
dealt AnswerSharesA w P0 chosen words = words
dealt AnswerSharesA w P1 chosen words = dealt_masks true w chosen words
dealt AnswerSharesB w P0 chosen words = words
dealt AnswerSharesB w P1 chosen words = dealt_masks true w chosen words
dealt AnswerToA w P0 chosen words = map (λ (u : ℕ). u % modulus w) words
dealt AnswerToA w P1 chosen words = dealt_masks_A w chosen words
dealt InAP0 w role chosen words = dealt_A InAP0 w role words
dealt InAP1 w role chosen words = dealt_A InAP1 w role words
dealt MulA w role chosen words = dealt_A MulA w role words
dealt InBP0 w role chosen words = dealt_B InBP0 w role words
dealt InBP1 w role chosen words = dealt_B InBP1 w role words
dealt AndB w role chosen words = dealt_B AndB w role words
dealt _ w role chosen words = []

-- the word that a choice draws, which the answer after it is dealt by; every other instruction leaves the last one
abbrev pub choice_after : InstrKind → Width → ℕ → List ℕ → ℕ
choice_after ChooseIn w chosen words = slice_index words 0 % modulus w
choice_after ChooseA w chosen words = slice_index words 0 % modulus w
choice_after ChooseB w chosen words = slice_index words 0 % modulus w
choice_after _ w chosen words = chosen

-- ---- the halves of an answer that are dealt from any words agree

abbrev pub AnswersAgree : InstrKind → Width → ℕ → List ℕ → List ℕ → Type 0
AnswersAgree AnswerIn w chosen half0 half1 = MasksAgree false w chosen half0 half1
AnswersAgree AnswerSharesA w chosen half0 half1 = MasksAgree true w chosen half0 half1
AnswersAgree AnswerSharesB w chosen half0 half1 = MasksAgree true w chosen half0 half1
AnswersAgree AnswerToA w chosen half0 half1 = MasksAgreeA w chosen half0 half1
AnswersAgree _ w chosen half0 half1 = Unit {0}

abbrev pub AnswersAreDealt : Type 0
AnswersAreDealt = (kind : InstrKind) (w : Width) (chosen : ℕ) (words : List ℕ) → AreWords words → AnswersAgree kind w chosen (half_of (dealt kind w P0 chosen words)) (half_of (dealt kind w P1 chosen words))
