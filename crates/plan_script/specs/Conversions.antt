-- Conversions of a word from one sharing to another (ABY, NDSS 2015, section 4). `at` is where the word stands: the code of its share at A, or the
-- place of its w codes at B and Y.
use Rattle.std.specs.Prelude.{ℕ, ◌-◌, ◌*◌}
use Rattle.hy_bits.specs.declared.width.Width.{Width}
use Rattle.hy_bits.specs.Words.{bits}
use Rattle.choice_core.specs.declared.sharings.Sharing.{Sharing}
use Rattle.choice_core.specs.declared.sharings.Sharing.TheVariants.{Arithmetic, Boolean, Yao}
use Rattle.share_core.specs.declared.instr.InstrKind.TheVariants.{ChooseA, ChooseB, AnswerSharesA, AnswerSharesB, AnswerToA, Carries, Y2B}
use Rattle.plan_script.specs.Script.{Made, Script, garbling, instr, making_bits, making_word, put}

-- Y2B: the low bits of the labels, within one instruction
unfoldable pub y_to_b : Width → ℕ → Script → Made
y_to_b w at s = making_bits (bits w) (instr Y2B w at 0 0 0) s

-- B2A: P1 chooses with its share, P0 answers to A
unfoldable pub b_to_a : Width → ℕ → Script → Made
b_to_a w at s = making_word (instr AnswerToA w at 0 0 0) (put (instr ChooseB w at 0 0 0) s)

-- B2Y: P1 chooses with its share, P0 answers with labels of both shares
unfoldable pub b_to_y : Width → ℕ → Script → Made
b_to_y w at s = making_bits (bits w) (instr AnswerSharesB w at 0 0 0) (put (instr ChooseB w at 0 0 0) s)

-- the sum of the two words of an A2Y, which stand one after the other: w - 1 garbled gates in one instruction, and the w bits of the sum
unfoldable pub carried : Width → Made → Made
carried w m =
    let sum = making_bits (bits w) (instr Carries w m.at 0 0 m.script.garbled) m.script in
    record { script = garbling (bits w - 1) sum.script; at = sum.at }

-- A2Y: P1 chooses with its share, P0 answers with labels of the bits of both shares, which are summed
unfoldable pub a_to_y : Width → ℕ → Script → Made
a_to_y w at s = carried w (making_bits (2 * bits w) (instr AnswerSharesA w at 0 0 0) (put (instr ChooseA w at 0 0 0) s))

-- one conversion after another
abbrev pub and_then : Made → (ℕ → Script → Made) → Made
and_then m next = next m.at m.script

-- A2B: A2Y, then Y2B
unfoldable pub a_to_b : Width → ℕ → Script → Made
a_to_b w at s = and_then (a_to_y w at s) (y_to_b w)

-- Y2A: Y2B, then B2A
unfoldable pub y_to_a : Width → ℕ → Script → Made
y_to_a w at s = and_then (y_to_b w at s) (b_to_a w)

-- each of them; between equal sharings there is nothing to do
abbrev pub conversion : (from to : Sharing) → Width → ℕ → Script → Made
conversion Arithmetic Boolean w at s = a_to_b w at s
conversion Arithmetic Yao w at s = a_to_y w at s
conversion Boolean Arithmetic w at s = b_to_a w at s
conversion Boolean Yao w at s = b_to_y w at s
conversion Yao Arithmetic w at s = y_to_a w at s
conversion Yao Boolean w at s = y_to_b w at s
conversion Arithmetic Arithmetic w at s = record { script = s; at = at }
conversion Boolean Boolean w at s = record { script = s; at = at }
conversion Yao Yao w at s = record { script = s; at = at }
