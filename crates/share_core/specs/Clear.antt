-- Instructions in the clear: the values that the new shares of an instruction stand for, from those that its operands stand for. A slot has
-- a word at A, and a bit, 0 or 1, at B and at Y.
use Rattle.std.specs.Prelude.{ℕ, ◌+◌, ◌&&◌, Bool, List, [], ◌∷◌, ◌++◌, map, slice_index}
use Rattle.hy_bits.specs.declared.width.Width.{Width}
use Rattle.hy_bits.specs.Bits.{bit, xor}
use Rattle.hy_bits.specs.Words.{bits, modulus}
use Rattle.share_core.specs.declared.instr.Instr.{Instr}
use Rattle.share_core.specs.declared.instr.InstrKind.{InstrKind}
use Rattle.share_core.specs.declared.instr.InstrKind.TheVariants.{Offset, InAP0, InAP1, InBP0, InBP1, InYP0, ChooseIn, ChooseA, ChooseB, AnswerIn, AnswerSharesA, AnswerSharesB, AnswerToA, LevelA, LevelB, LevelY, Carries, OpenA, OpenB, OpenY, MulA, AndB, AndY, XorB, XorY, Y2B}
use Rattle.share_core.specs.Arithmetic.{difference_of}
use Rattle.share_core.specs.Boolean.{bit_of, code_value, odd}
use Rattle.share_core.specs.Garbled.{word_of_bits}
use Rattle.share_core.specs.Instructions.{slot_of, value_A}
use Rattle.share_core.specs.Levels.{gates_of}
use Rattle.share_core.specs.Machine.{listed}

pub record Clear : Type 0 where
  -- the plan's gates and codes
  pub gates : List Instr
  pub codes : List ℕ
  -- the value in each slot
  pub values : List ℕ
  -- the input's word, where the instruction is an input, and the word that the last choice for an input was for
  pub own : ℕ
  pub chosen : ℕ
  -- where the instruction is the answer of an A2Y: P0's share of the word, which the block's first half stands for
  pub part : ℕ

-- ---- operands

abbrev pub word_in : Clear → ℕ → ℕ
word_in c code = slice_index c.values (slot_of code)

abbrev pub bit_in : Clear → ℕ → Bool
bit_in c code = code_value code (odd (slice_index c.values (slot_of code)))

-- the word whose w codes stand from a place of the codes on, the lowest bit's first
abbrev pub word_at : Clear → Width → ℕ → ℕ
word_at c w place = word_of_bits (bits w) (λ k. bit_in c (slice_index c.codes (place + k)))

-- ---- results

-- the bits of a word, lowest first
abbrev pub bits_in : Width → ℕ → List ℕ
bits_in w x = listed (bits w) (λ k. bit (bit_of x k))

-- of a gate of a level
abbrev pub gate_value : Clear → Instr → InstrKind → ℕ
gate_value c gate MulA = value_A MulA gate.width 0 (word_in c gate.left) (word_in c gate.right)
gate_value c gate AndB = bit (bit_in c gate.left && bit_in c gate.right)
gate_value c gate AndY = bit (bit_in c gate.left && bit_in c gate.right)
gate_value c gate _ = 0

abbrev pub level_values : Clear → List Instr → List ℕ
level_values c gates = map (λ (gate : Instr). gate_value c gate gate.kind) gates

-- the values of the new shares, in their order
abbrev pub values_made : InstrKind → Instr → Clear → List ℕ
values_made InAP0 i c = (value_A InAP0 i.width 0 c.own 0) ∷ []
values_made InAP1 i c = (value_A InAP1 i.width 0 c.own 0) ∷ []
values_made InBP0 i c = bits_in i.width c.own
values_made InBP1 i c = bits_in i.width c.own
values_made InYP0 i c = bits_in i.width c.own
values_made AnswerIn i c = bits_in i.width c.chosen
-- two words whose sum is the word: P0's share of it, and the rest
values_made AnswerSharesA i c = bits_in i.width c.part ++ bits_in i.width (difference_of (modulus i.width) (word_in c i.left) c.part)
values_made AnswerSharesB i c = bits_in i.width (word_at c i.width i.left)
values_made AnswerToA i c = word_at c i.width i.left ∷ []
values_made LevelA i c = level_values c (gates_of i c.gates)
values_made LevelB i c = level_values c (gates_of i c.gates)
values_made LevelY i c = level_values c (gates_of i c.gates)
-- the sum of the two words of an A2Y
values_made Carries i c = bits_in i.width (word_at c i.width i.left + word_at c i.width (i.left + bits i.width))
values_made XorB i c = bit (xor (bit_in c i.left) (bit_in c i.right)) ∷ []
values_made XorY i c = bit (xor (bit_in c i.left) (bit_in c i.right)) ∷ []
values_made Y2B i c = bits_in i.width (word_at c i.width i.left)
values_made Offset i c = []
values_made ChooseIn i c = []
values_made ChooseA i c = []
values_made ChooseB i c = []
values_made OpenA i c = []
values_made OpenB i c = []
values_made OpenY i c = []
values_made MulA i c = []
values_made AndB i c = []
values_made AndY i c = []
values_made kind i c = (value_A kind i.width i.value (word_in c i.left) (word_in c i.right)) ∷ []

-- the word that an opening gives
abbrev pub value_opened : InstrKind → Instr → Clear → ℕ
value_opened OpenA i c = value_A OpenA i.width 0 (word_in c i.left) 0
value_opened OpenB i c = word_at c i.width i.left
value_opened OpenY i c = word_at c i.width i.left
value_opened _ i c = 0
