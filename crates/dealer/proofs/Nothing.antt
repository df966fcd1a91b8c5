-- The kinds of instruction for which a role is dealt nothing.
use Rattle.std.proofs.Common.{◌≡◌, ◌≢◌, ℕ, List, [], refl}
use Rattle.hy_bits.specs.declared.width.Width.{Width}
use Rattle.hy_bits.specs.declared.turns.Role.TheVariants.{P0, P1}
use Rattle.share_core.specs.declared.instr.InstrKind.{InstrKind}
use Rattle.share_core.specs.declared.instr.InstrKind.TheVariants.{AndB, AnswerIn, AnswerSharesA, AnswerSharesB, AnswerToA, ChooseA, ChooseB, ChooseIn, InAP0, InAP1, InBP0, InBP1, InYP0, MulA, Offset}
use Rattle.share_core.specs.Dealing.{dealt}

-- P0
pub nothing_first : (kind : InstrKind) (w : Width) (chosen : ℕ) (words : List ℕ) → (kind ≢ Offset) → (kind ≢ InAP0) → (kind ≢ InBP0) → (kind ≢ InYP0) → (kind ≢ AnswerIn) → (kind ≢ AnswerSharesA) → (kind ≢ AnswerSharesB) → (kind ≢ AnswerToA) → (kind ≢ MulA) → (kind ≢ AndB) → dealt kind w P0 chosen words ≡ []
nothing_first Offset w chosen words h0 h1 h2 h3 h4 h5 h6 h7 h8 h9 = absurd (h0 refl)
nothing_first InAP0 w chosen words h0 h1 h2 h3 h4 h5 h6 h7 h8 h9 = absurd (h1 refl)
nothing_first InBP0 w chosen words h0 h1 h2 h3 h4 h5 h6 h7 h8 h9 = absurd (h2 refl)
nothing_first InYP0 w chosen words h0 h1 h2 h3 h4 h5 h6 h7 h8 h9 = absurd (h3 refl)
nothing_first AnswerIn w chosen words h0 h1 h2 h3 h4 h5 h6 h7 h8 h9 = absurd (h4 refl)
nothing_first AnswerSharesA w chosen words h0 h1 h2 h3 h4 h5 h6 h7 h8 h9 = absurd (h5 refl)
nothing_first AnswerSharesB w chosen words h0 h1 h2 h3 h4 h5 h6 h7 h8 h9 = absurd (h6 refl)
nothing_first AnswerToA w chosen words h0 h1 h2 h3 h4 h5 h6 h7 h8 h9 = absurd (h7 refl)
nothing_first MulA w chosen words h0 h1 h2 h3 h4 h5 h6 h7 h8 h9 = absurd (h8 refl)
nothing_first AndB w chosen words h0 h1 h2 h3 h4 h5 h6 h7 h8 h9 = absurd (h9 refl)
nothing_first _ w chosen words h0 h1 h2 h3 h4 h5 h6 h7 h8 h9 = refl

-- P1
pub nothing_second : (kind : InstrKind) (w : Width) (chosen : ℕ) (words : List ℕ) → (kind ≢ InAP1) → (kind ≢ InBP1) → (kind ≢ ChooseIn) → (kind ≢ ChooseA) → (kind ≢ ChooseB) → (kind ≢ AnswerIn) → (kind ≢ AnswerSharesA) → (kind ≢ AnswerSharesB) → (kind ≢ AnswerToA) → (kind ≢ MulA) → (kind ≢ AndB) → dealt kind w P1 chosen words ≡ []
nothing_second InAP1 w chosen words h0 h1 h2 h3 h4 h5 h6 h7 h8 h9 h10 = absurd (h0 refl)
nothing_second InBP1 w chosen words h0 h1 h2 h3 h4 h5 h6 h7 h8 h9 h10 = absurd (h1 refl)
nothing_second ChooseIn w chosen words h0 h1 h2 h3 h4 h5 h6 h7 h8 h9 h10 = absurd (h2 refl)
nothing_second ChooseA w chosen words h0 h1 h2 h3 h4 h5 h6 h7 h8 h9 h10 = absurd (h3 refl)
nothing_second ChooseB w chosen words h0 h1 h2 h3 h4 h5 h6 h7 h8 h9 h10 = absurd (h4 refl)
nothing_second AnswerIn w chosen words h0 h1 h2 h3 h4 h5 h6 h7 h8 h9 h10 = absurd (h5 refl)
nothing_second AnswerSharesA w chosen words h0 h1 h2 h3 h4 h5 h6 h7 h8 h9 h10 = absurd (h6 refl)
nothing_second AnswerSharesB w chosen words h0 h1 h2 h3 h4 h5 h6 h7 h8 h9 h10 = absurd (h7 refl)
nothing_second AnswerToA w chosen words h0 h1 h2 h3 h4 h5 h6 h7 h8 h9 h10 = absurd (h8 refl)
nothing_second MulA w chosen words h0 h1 h2 h3 h4 h5 h6 h7 h8 h9 h10 = absurd (h9 refl)
nothing_second AndB w chosen words h0 h1 h2 h3 h4 h5 h6 h7 h8 h9 h10 = absurd (h10 refl)
nothing_second _ w chosen words h0 h1 h2 h3 h4 h5 h6 h7 h8 h9 h10 = refl
