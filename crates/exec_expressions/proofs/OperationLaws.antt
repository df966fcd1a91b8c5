-- The values of terms of one word and of two, and C's operations on words of their types.
use Rattle.std.proofs.Common.{◌≡◌, ℕ, zero, suc, ◌-◌, ◌<◌, ◌==◌, Bool, true, false, List, [], ◌∷◌, get_or, refl, sym, ap, ◌∙◌, arith}
use Rattle.std.specs.Prelude.{not}
use Rattle.std.proofs.Math.Nat.{mod-eq_of_lt}
use Rattle.hy_bits.specs.declared.op.Op.{Op}
use Rattle.hy_bits.specs.declared.op.Op.TheVariants as op
use Rattle.hy_bits.specs.declared.scalar.Scalar.{Scalar}
use Rattle.hy_bits.specs.declared.scalar.Scalar.TheVariants.{B1, S8, U8, S16, U16, S32, U32, S64, U64}
use Rattle.hy_bits.specs.declared.width.Width.{Width}
use Rattle.hy_bits.specs.declared.width.Width.TheVariants.{W1}
use Rattle.hy_bits.specs.Bits.{bit}
use Rattle.hy_bits.specs.Op.{op_value}
use Rattle.hy_bits.specs.Scalar.{scalar_width, is_signed}
use Rattle.hy_bits.specs.Words.{modulus, IsWord, word_extend}
use Rattle.word_graph.specs.declared.entry.Entry.{Entry}
use Rattle.word_graph.specs.declared.entry.Node.{Node}
use Rattle.word_graph.specs.Meaning.{InputsFit, term_value, words, word_at}
use Rattle.word_graph.specs.Shape.{IsGraph}
use Rattle.word_graph.specs.Term.{arity, called_term, width_at}
use Rattle.word_graph.proofs.OpLaws.{first_operand-argument, op_value-used}
use Rattle.word_graph.proofs.RunLaws.{Carries-width, carries}
use Rattle.word_nodes.specs.Nodes.{worth}
use Rattle.c_meaning.specs.declared.operators.ArithmeticOperator.{ArithmeticOperator}
use Rattle.c_meaning.specs.declared.operators.ArithmeticOperator.TheVariants as operator
use Rattle.c_meaning.specs.declared.operators.ShiftOperator.{ShiftOperator}
use Rattle.c_meaning.specs.declared.operators.ShiftOperator.TheVariants as shift
use Rattle.c_meaning.specs.declared.operators.ArithmeticSign.{ArithmeticSign}
use Rattle.c_meaning.specs.declared.operators.ArithmeticSign.TheVariants as sign
use Rattle.c_meaning.specs.declared.operators.Comparison.{Comparison}
use Rattle.c_meaning.specs.declared.operators.Comparison.TheVariants as comparison
use Rattle.c_meaning.specs.declared.operators.IntegerOperation.{IntegerOperation}
use Rattle.c_meaning.specs.declared.operators.IntegerOperation.TheVariants as integer
use Rattle.hy_bits.proofs.WordLaws.{residue-signed}
use Rattle.c_meaning.specs.Operations.{modulus_of, low, arithmetic, shifted, is_less, converted_to, operated, compares, left_type, right_type, signed_by}
use Rattle.exec_expressions.specs.Choices.{arithmetic_op, shift_op, less_op, extension_op}

module _ (es : List Entry) (ins : List ℕ) (graph : IsGraph es) (fit : InputsFit es ins) (o : Op) (w : Width) (a b : Node) where
  pub term-one : arity o ≡ 1 → term_value ins (words es ins) (called_term o w (a ∷ []) 0) ≡ op_value o w (width_at es a.index) (worth es ins a) 0 0
  term-one one =
      let ws = words es ins in
      ap (λ (v : ℕ). op_value o w (word_at ws a.index).width v (word_at ws 0).value (word_at ws 0).value) (first_operand-argument o (get_or ins 0 0) 0 (word_at ws a.index).value (omega (arith, one)))
      ∙ op_value-used o w (word_at ws a.index).width (width_at es a.index) (worth es ins a) (word_at ws 0).value 0 (word_at ws 0).value 0
      (λ h. Carries-width es ws a.index (carries es ins graph fit)) (λ h. absurd (omega (arith, one, h))) (λ h. absurd (omega (arith, one, h)))

  pub term-two : arity o ≡ 2 → term_value ins (words es ins) (called_term o w (a ∷ b ∷ []) 0) ≡ op_value o w (width_at es a.index) (worth es ins a) (worth es ins b) 0
  term-two two =
      let ws = words es ins in
      ap (λ (v : ℕ). op_value o w (word_at ws a.index).width v (word_at ws b.index).value (word_at ws 0).value) (first_operand-argument o (get_or ins 0 0) 0 (word_at ws a.index).value (omega (arith, two)))
      ∙ op_value-used o w (word_at ws a.index).width (width_at es a.index) (worth es ins a) (word_at ws b.index).value (worth es ins b) (word_at ws 0).value 0
      (λ h. Carries-width es ws a.index (carries es ins graph fit)) (λ h. refl) (λ h. absurd (omega (arith, two, h)))

-- ---- C's operations, on words of their types

pub low-word : (t : Scalar) (x : ℕ) → x < modulus_of t → low t x ≡ x
low-word t x h = mod-eq_of_lt h

pub arithmetic-value : (o : ArithmeticOperator) (t : Scalar) (from : Width) (x y : ℕ) → x < modulus_of t → y < modulus_of t →
    op_value (arithmetic_op o (is_signed t)) (scalar_width t) from x y 0 ≡ arithmetic o t (low t x) (low t y)
arithmetic-value o t from x y h k = rw (low-word t x h, low-word t y k) (plain o (is_signed t) refl)
  where
    plain : (o : ArithmeticOperator) (b : Bool) → is_signed t ≡ b → op_value (arithmetic_op o (is_signed t)) (scalar_width t) from x y 0 ≡ arithmetic o t x y
    plain operator.Multiply b e = refl
    plain operator.Divide true e = rw e refl
    plain operator.Divide false e = rw e refl
    plain operator.Remainder true e = rw e refl
    plain operator.Remainder false e = rw e refl
    plain operator.Add b e = refl
    plain operator.Subtract b e = refl
    plain operator.And b e = refl
    plain operator.Xor b e = refl
    plain operator.Or b e = refl

pub shift-value : (o : ShiftOperator) (t count : Scalar) (from : Width) (x y : ℕ) → x < modulus_of t → y < modulus_of count →
    op_value (shift_op o (is_signed t)) (scalar_width t) from x y 0 ≡ shifted o t (low t x) (low count y)
shift-value o t count from x y h k = rw (low-word t x h, low-word count y k) (plain o (is_signed t) refl)
  where
    plain : (o : ShiftOperator) (b : Bool) → is_signed t ≡ b → op_value (shift_op o (is_signed t)) (scalar_width t) from x y 0 ≡ shifted o t x y
    plain shift.Left b e = refl
    plain shift.Right true e = rw e refl
    plain shift.Right false e = rw e refl

pub less-value : (t : Scalar) (x y : ℕ) → x < modulus_of t → y < modulus_of t →
    op_value (less_op (is_signed t)) W1 (scalar_width t) x y 0 ≡ bit (is_less t (low t x) (low t y))
less-value t x y h k = rw (low-word t x h, low-word t y k) (plain (is_signed t) refl)
  where
    plain : (b : Bool) → is_signed t ≡ b → op_value (less_op (is_signed t)) W1 (scalar_width t) x y 0 ≡ bit (is_less t x y)
    plain true e = rw e refl
    plain false e = rw e refl

module _ (x y : ℕ) where
  pub operated-arithmetic : (operation : IntegerOperation) (o : ArithmeticOperator) (t : Scalar) (p : Op) (b : Bool) (w from : Width) →
      operation ≡ integer.Arithmetic o t → p ≡ arithmetic_op o b → b ≡ is_signed t → w ≡ scalar_width t →
      IsWord (scalar_width (left_type operation)) x → IsWord (scalar_width (right_type operation)) y →
      op_value p w from x y 0 ≡ operated operation x y
  operated-arithmetic operation o t p b w from e f g h j k =
      let left = rw e at j in
      let right = rw e at k in
      rw (e, f, g, h) (arithmetic-value o t from x y left right)

  pub operated-shift : (operation : IntegerOperation) (o : ShiftOperator) (t count : Scalar) (p : Op) (b : Bool) (w from : Width) →
      operation ≡ integer.Shift o t count → p ≡ shift_op o b → b ≡ is_signed t → w ≡ scalar_width t →
      IsWord (scalar_width (left_type operation)) x → IsWord (scalar_width (right_type operation)) y →
      op_value p w from x y 0 ≡ operated operation x y
  operated-shift operation o t count p b w from e f g h j k =
      let left = rw e at j in
      let right = rw e at k in
      rw (e, f, g, h) (shift-value o t count from x y left right)

-- ---- comparisons by whether one word is less, or both are equal

pub not-bit : (b : Bool) → 1 - bit b ≡ bit (not b)
not-bit true = refl
not-bit false = refl

pub less-operated : (t : Scalar) (p : Op) (b : Bool) (from : Width) (x y : ℕ) → p ≡ less_op b → b ≡ is_signed t → from ≡ scalar_width t → x < modulus_of t → y < modulus_of t →
    op_value p W1 from x y 0 ≡ bit (is_less t (low t x) (low t y))
less-operated t p b from x y e f g h k = rw (e, f, g) (less-value t x y h k)

pub equal-compared : (o : Comparison) (t : Scalar) (x y : ℕ) → o ≡ comparison.Equal → x < modulus_of t → y < modulus_of t → bit (x == y) ≡ bit (compares o t x y)
equal-compared o t x y e h k = rw (e, low-word t x h, low-word t y k) refl

pub unequal-compared : (o : Comparison) (t : Scalar) (x y : ℕ) → o ≡ comparison.Unequal → x < modulus_of t → y < modulus_of t → 1 - bit (x == y) ≡ bit (compares o t x y)
unequal-compared o t x y e h k = not-bit (x == y) ∙ rw (e, low-word t x h, low-word t y k) refl

-- ---- signs

pub signed-plus : (t : Scalar) (s : ArithmeticSign) (x : ℕ) → s ≡ sign.Plus → x < modulus_of t → x ≡ signed_by s t x
signed-plus t s x e h = rw e (sym (low-word t x h))

pub signed-minus : (t : Scalar) (s : ArithmeticSign) (w from : Width) (x : ℕ) → s ≡ sign.Minus → w ≡ scalar_width t → x < modulus_of t → op_value op.Neg w from x 0 0 ≡ signed_by s t x
signed-minus t s w from x e f h = rw (e, f, low-word t x h) refl

pub signed-complement : (t : Scalar) (s : ArithmeticSign) (w from : Width) (x : ℕ) → s ≡ sign.Complement → w ≡ scalar_width t → x < modulus_of t → op_value op.Not w from x 0 0 ≡ signed_by s t x
signed-complement t s w from x e f h = rw (e, f, low-word t x h) refl

-- ---- conversions

pub truth-bit : (x : ℕ) → x < 2 → x ≡ bit (not (x == 0))
truth-bit zero h = refl
truth-bit (suc zero) h = refl
truth-bit (suc (suc x)) h = absurd (omega arith)

pub converted-truth : (from to : Scalar) (x : ℕ) → to ≡ B1 → x < modulus_of from → bit (not (x == 0)) ≡ converted_to from to x
converted-truth from to x e h = rw (e, low-word from x h) refl

-- to another type the reading modulo two to its bits
converted-plain : (from to : Scalar) (x : ℕ) → (to ≡ B1 → ⊥) → x < modulus_of from → converted_to from to x ≡ word_extend (modulus_of from) (modulus_of to) (is_signed from) x
converted-plain from B1 x h k = absurd (h refl)
converted-plain from S8 x h k = ap (word_extend (modulus_of from) (modulus_of S8) (is_signed from)) (low-word from x k)
converted-plain from U8 x h k = ap (word_extend (modulus_of from) (modulus_of U8) (is_signed from)) (low-word from x k)
converted-plain from S16 x h k = ap (word_extend (modulus_of from) (modulus_of S16) (is_signed from)) (low-word from x k)
converted-plain from U16 x h k = ap (word_extend (modulus_of from) (modulus_of U16) (is_signed from)) (low-word from x k)
converted-plain from S32 x h k = ap (word_extend (modulus_of from) (modulus_of S32) (is_signed from)) (low-word from x k)
converted-plain from U32 x h k = ap (word_extend (modulus_of from) (modulus_of U32) (is_signed from)) (low-word from x k)
converted-plain from S64 x h k = ap (word_extend (modulus_of from) (modulus_of S64) (is_signed from)) (low-word from x k)
converted-plain from U64 x h k = ap (word_extend (modulus_of from) (modulus_of U64) (is_signed from)) (low-word from x k)

extended-same : (m : ℕ) (b : Bool) (x : ℕ) → x < m → word_extend m m b x ≡ x
extended-same m true x h = residue-signed m x h
extended-same m false x h = mod-eq_of_lt h

pub converted-same : (from to : Scalar) (x : ℕ) → (to ≡ B1 → ⊥) → scalar_width from ≡ scalar_width to → x < modulus_of from → x ≡ converted_to from to x
converted-same from to x h e k =
    sym (converted-plain from to x h k ∙ ap (λ (w : Width). word_extend (modulus_of from) (modulus w) (is_signed from) x) (sym e) ∙ extended-same (modulus_of from) (is_signed from) x k)

pub converted-extended : (from to : Scalar) (o : Op) (w at : Width) (b : Bool) (x : ℕ) → (to ≡ B1 → ⊥) → o ≡ extension_op b → b ≡ is_signed from → w ≡ scalar_width to → at ≡ scalar_width from → x < modulus_of from →
    op_value o w at x 0 0 ≡ converted_to from to x
converted-extended from to o w at b x h e f g i k = rw (e, f, g, i, converted-plain from to x h k) (plain (is_signed from) refl)
  where
    plain : (b : Bool) → is_signed from ≡ b → op_value (extension_op (is_signed from)) (scalar_width to) (scalar_width from) x 0 0 ≡ word_extend (modulus_of from) (modulus_of to) (is_signed from) x
    plain true e = rw e refl
    plain false e = rw e refl
