-- Which shares an instruction makes, and which it uses. Its numbers `left`, `right` and `target` are, by its kind, nothing, the number of a share, the
-- code of one, the place of a word's w codes, or that of two words' 2w codes. Codes 0 and 1 are constants, and of no share.
use Rattle.std.specs.Prelude.{ℕ, ◌+◌, ◌*◌, List, [], ◌∷◌, ◌++◌, map, nat_lt, slice_index, if◌then◌else◌}
use Rattle.std.specs.List.{flat_map}
use Rattle.hy_bits.specs.declared.width.Width.{Width}
use Rattle.hy_bits.specs.Words.{bits}
use Rattle.share_core.specs.declared.instr.Instr.{Instr}
use Rattle.share_core.specs.declared.instr.InstrKind.{InstrKind}
use Rattle.share_core.specs.declared.instr.InstrKind.TheVariants.{InAP0, InAP1, InBP0, InBP1, InYP0, ChooseA, ChooseB, AnswerIn, AnswerSharesA, AnswerSharesB, AnswerToA, Carries, OpenA, OpenB, OpenY, MulA, AndB, AndY, AddA, AddLeft, AddRight, SubA, SubLeft, SubRight, MulLeft, MulRight, NegA, TruncA, Known, XorB, XorY, Y2B}
use Rattle.share_core.specs.Instructions.{slot_of}
use Rattle.share_core.specs.Levels.{gates_of, is_level}
use Rattle.share_core.specs.Machine.{listed}
use Rattle.plan_slots.specs.declared.operands.Form.{Form}
use Rattle.plan_slots.specs.declared.operands.Form.TheVariants.{Nothing, Share, Code, Word, Block}

-- ---- what the numbers are, by kind

abbrev pub left_form : InstrKind → Form
left_form ChooseA = Code
left_form ChooseB = Word
left_form AnswerSharesA = Code
left_form AnswerSharesB = Word
left_form AnswerToA = Word
left_form Carries = Block
left_form OpenA = Code
left_form OpenB = Word
left_form OpenY = Word
left_form MulA = Code
left_form AndB = Code
left_form AndY = Code
left_form AddA = Code
left_form AddRight = Code
left_form SubA = Code
left_form SubRight = Code
left_form MulRight = Code
left_form NegA = Code
left_form TruncA = Code
left_form XorB = Code
left_form XorY = Code
left_form Y2B = Word
left_form _ = Nothing

abbrev pub right_form : InstrKind → Form
right_form MulA = Code
right_form AndB = Code
right_form AndY = Code
right_form AddA = Code
right_form AddLeft = Code
right_form SubA = Code
right_form SubLeft = Code
right_form MulLeft = Code
right_form XorB = Code
right_form XorY = Code
right_form _ = Nothing

abbrev pub target_form : InstrKind → Form
target_form InAP0 = Share
target_form InAP1 = Share
target_form InBP0 = Word
target_form InBP1 = Word
target_form InYP0 = Word
target_form AnswerIn = Word
target_form AnswerSharesA = Block
target_form AnswerSharesB = Word
target_form AnswerToA = Share
target_form Carries = Word
target_form MulA = Share
target_form AndB = Share
target_form AndY = Share
target_form AddA = Share
target_form AddLeft = Share
target_form AddRight = Share
target_form SubA = Share
target_form SubLeft = Share
target_form SubRight = Share
target_form MulLeft = Share
target_form MulRight = Share
target_form NegA = Share
target_form TruncA = Share
target_form Known = Share
target_form XorB = Share
target_form XorY = Share
target_form Y2B = Word
target_form _ = Nothing

-- ---- the shares that a number stands for

-- the share of a code
abbrev pub share_in : ℕ → List ℕ
share_in code = if nat_lt code 2 then [] else (slot_of code ∷ [])

-- the shares of the n codes from a place on
abbrev pub shares_at : List ℕ → (place n : ℕ) → List ℕ
shares_at codes place n = flat_map share_in (listed n (λ k. slice_index codes (place + k)))

abbrev pub shares_named : List ℕ → Width → Form → ℕ → List ℕ
shares_named codes w Nothing n = []
shares_named codes w Share n = n ∷ []
shares_named codes w Code n = share_in n
shares_named codes w Word n = shares_at codes n (bits w)
shares_named codes w Block n = shares_at codes n (2 * bits w)

-- ---- what an instruction makes and uses; a level does what its gates do

abbrev pub operands : List ℕ → Instr → List ℕ
operands codes i = shares_named codes i.width (left_form i.kind) i.left ++ shares_named codes i.width (right_form i.kind) i.right

abbrev pub made_by : List Instr → List ℕ → Instr → List ℕ
made_by gates codes i = if is_level i.kind then map (λ (gate : Instr). gate.target) (gates_of i gates) else shares_named codes i.width (target_form i.kind) i.target

abbrev pub used_by : List Instr → List ℕ → Instr → List ℕ
used_by gates codes i = if is_level i.kind then flat_map (operands codes) (gates_of i gates) else operands codes i
