-- Laws of operations: which arguments an operation takes, and that it looks at no others.
use Rattle.std.proofs.Common.{◌≡◌, ℕ, ◌<◌, refl, sym, ap, ◌∙◌, subst, arith, List, get_or, Some}
use Rattle.hy_bits.specs.declared.op.Op.{Op}
use Rattle.hy_bits.specs.declared.op.Op.TheVariants.{In, Const, Add, Sub, Mul, Neg, DivU, DivS, RemU, RemS, And, Or, Xor, Not, Shl, ShrU, ShrS, LtU, LtS, Eq, Sel, Trunc, ZeroExt, SignExt}
use Rattle.hy_bits.specs.declared.width.Width.{Width}
use Rattle.hy_bits.specs.declared.width.Width.TheVariants.{W1}
use Rattle.hy_bits.specs.Op.{op_value, IsTakenBy}
use Rattle.hy_bits.specs.Words.{IsWord}
use Rattle.word_graph.specs.Term.{arity, WidthsFit, NumberFits}
use Rattle.word_graph.specs.Meaning.{first_operand, HasInput}
use Rattle.word_graph.specs.Shape.{constant_word}

word_of : (v w : Width) (a : ℕ) → v ≡ w → IsWord v a → IsWord w a
word_of v w a e h = subst (λ (u : Width). IsWord u a) e h

bit_of : (v : Width) (a : ℕ) → v ≡ W1 → IsWord v a → a < 2
bit_of v a e h = word_of v W1 a e h

-- words of fitting widths are taken
pub IsTakenBy-fits : (op : Op) (w x y z : Width) (a b c : ℕ) → WidthsFit op w x y z → (arity op ≡ 0 → IsWord w a) → (0 < arity op → IsWord x a) → (1 < arity op → IsWord y b) → (2 < arity op → IsWord z c) → IsTakenBy op w x a b c
IsTakenBy-fits In w x y z a b c f n p q r = n refl
IsTakenBy-fits Const w x y z a b c f n p q r = n refl
IsTakenBy-fits Add w x y z a b c f n p q r = (word_of x w a f.0 (p (omega arith)), word_of y w b f.1 (q (omega arith)))
IsTakenBy-fits Sub w x y z a b c f n p q r = (word_of x w a f.0 (p (omega arith)), word_of y w b f.1 (q (omega arith)))
IsTakenBy-fits Mul w x y z a b c f n p q r = (word_of x w a f.0 (p (omega arith)), word_of y w b f.1 (q (omega arith)))
IsTakenBy-fits Neg w x y z a b c f n p q r = word_of x w a f (p (omega arith))
IsTakenBy-fits DivU w x y z a b c f n p q r = (word_of x w a f.0 (p (omega arith)), word_of y w b f.1 (q (omega arith)))
IsTakenBy-fits DivS w x y z a b c f n p q r = (word_of x w a f.0 (p (omega arith)), word_of y w b f.1 (q (omega arith)))
IsTakenBy-fits RemU w x y z a b c f n p q r = (word_of x w a f.0 (p (omega arith)), word_of y w b f.1 (q (omega arith)))
IsTakenBy-fits RemS w x y z a b c f n p q r = (word_of x w a f.0 (p (omega arith)), word_of y w b f.1 (q (omega arith)))
IsTakenBy-fits And w x y z a b c f n p q r = (word_of x w a f.0 (p (omega arith)), word_of y w b f.1 (q (omega arith)))
IsTakenBy-fits Or w x y z a b c f n p q r = (word_of x w a f.0 (p (omega arith)), word_of y w b f.1 (q (omega arith)))
IsTakenBy-fits Xor w x y z a b c f n p q r = (word_of x w a f.0 (p (omega arith)), word_of y w b f.1 (q (omega arith)))
IsTakenBy-fits Not w x y z a b c f n p q r = word_of x w a f (p (omega arith))
IsTakenBy-fits Shl w x y z a b c f n p q r = word_of x w a f (p (omega arith))
IsTakenBy-fits ShrU w x y z a b c f n p q r = word_of x w a f (p (omega arith))
IsTakenBy-fits ShrS w x y z a b c f n p q r = word_of x w a f (p (omega arith))
IsTakenBy-fits LtU w x y z a b c f n p q r = (p (omega arith), word_of y x b (sym f.1) (q (omega arith)))
IsTakenBy-fits LtS w x y z a b c f n p q r = (p (omega arith), word_of y x b (sym f.1) (q (omega arith)))
IsTakenBy-fits Eq w x y z a b c f n p q r = (p (omega arith), word_of y x b (sym f.1) (q (omega arith)))
IsTakenBy-fits Sel w x y z a b c f n p q r = (bit_of x a f.0 (p (omega arith)), word_of y w b f.1 (q (omega arith)), word_of z w c f.2 (r (omega arith)))
IsTakenBy-fits Trunc w x y z a b c f n p q r = p (omega arith)
IsTakenBy-fits ZeroExt w x y z a b c f n p q r = p (omega arith)
IsTakenBy-fits SignExt w x y z a b c f n p q r = p (omega arith)

-- an operation looks at no more arguments than it takes
pub op_value-used : (op : Op) (w x x' : Width) (a b b' c c' : ℕ) → (0 < arity op → x ≡ x') → (1 < arity op → b ≡ b') → (2 < arity op → c ≡ c') → op_value op w x a b c ≡ op_value op w x' a b' c'
op_value-used In w x x' a b b' c c' p q r = refl
op_value-used Const w x x' a b b' c c' p q r = refl
op_value-used Add w x x' a b b' c c' p q r = ap (λ (v : ℕ). op_value Add w x a v c) (q (omega arith))
op_value-used Sub w x x' a b b' c c' p q r = ap (λ (v : ℕ). op_value Sub w x a v c) (q (omega arith))
op_value-used Mul w x x' a b b' c c' p q r = ap (λ (v : ℕ). op_value Mul w x a v c) (q (omega arith))
op_value-used Neg w x x' a b b' c c' p q r = refl
op_value-used DivU w x x' a b b' c c' p q r = ap (λ (v : ℕ). op_value DivU w x a v c) (q (omega arith))
op_value-used DivS w x x' a b b' c c' p q r = ap (λ (v : ℕ). op_value DivS w x a v c) (q (omega arith))
op_value-used RemU w x x' a b b' c c' p q r = ap (λ (v : ℕ). op_value RemU w x a v c) (q (omega arith))
op_value-used RemS w x x' a b b' c c' p q r = ap (λ (v : ℕ). op_value RemS w x a v c) (q (omega arith))
op_value-used And w x x' a b b' c c' p q r = ap (λ (v : ℕ). op_value And w x a v c) (q (omega arith))
op_value-used Or w x x' a b b' c c' p q r = ap (λ (v : ℕ). op_value Or w x a v c) (q (omega arith))
op_value-used Xor w x x' a b b' c c' p q r = ap (λ (v : ℕ). op_value Xor w x a v c) (q (omega arith))
op_value-used Not w x x' a b b' c c' p q r = refl
op_value-used Shl w x x' a b b' c c' p q r = ap (λ (v : ℕ). op_value Shl w x a v c) (q (omega arith))
op_value-used ShrU w x x' a b b' c c' p q r = ap (λ (v : ℕ). op_value ShrU w x a v c) (q (omega arith))
op_value-used ShrS w x x' a b b' c c' p q r = ap (λ (v : ℕ). op_value ShrS w x a v c) (q (omega arith))
op_value-used LtU w x x' a b b' c c' p q r = ap (λ (v : Width). op_value LtU w v a b c) (p (omega arith)) ∙ ap (λ (v : ℕ). op_value LtU w x' a v c) (q (omega arith))
op_value-used LtS w x x' a b b' c c' p q r = ap (λ (v : Width). op_value LtS w v a b c) (p (omega arith)) ∙ ap (λ (v : ℕ). op_value LtS w x' a v c) (q (omega arith))
op_value-used Eq w x x' a b b' c c' p q r = ap (λ (v : Width). op_value Eq w v a b c) (p (omega arith)) ∙ ap (λ (v : ℕ). op_value Eq w x' a v c) (q (omega arith))
op_value-used Sel w x x' a b b' c c' p q r = ap (λ (v : ℕ). op_value Sel w x a v c) (q (omega arith)) ∙ ap (λ (v : ℕ). op_value Sel w x a b' v) (r (omega arith))
op_value-used Trunc w x x' a b b' c c' p q r = refl
op_value-used ZeroExt w x x' a b b' c c' p q r = ap (λ (v : Width). op_value ZeroExt w v a b c) (p (omega arith))
op_value-used SignExt w x x' a b b' c c' p q r = ap (λ (v : Width). op_value SignExt w v a b c) (p (omega arith))

-- of what an operation is first applied to, an argument counts only where it takes one
pub first_operand-used : (op : Op) (i n v v' : ℕ) → (0 < arity op → v ≡ v') → first_operand op i n v ≡ first_operand op i n v'
first_operand-used In i n v v' e = refl
first_operand-used Const i n v v' e = refl
first_operand-used _ i n v v' e = e (omega arith)

-- an operation that takes arguments is first applied to the first
pub first_operand-argument : (op : Op) (i n v : ℕ) → 0 < arity op → first_operand op i n v ≡ v
first_operand-argument In i n v h = absurd (omega arith)
first_operand-argument Const i n v h = absurd (omega arith)
first_operand-argument _ i n v h = refl

-- an operation that takes none is applied to a word
pub first_operand-word : (op : Op) (w : Width) (ins : List ℕ) (n v : ℕ) → NumberFits op w n → HasInput ins op w n → arity op ≡ 0 → IsWord w (first_operand op (get_or ins n 0) n v)
first_operand-word In w ins n v f h e = h.1
first_operand-word Const w ins n v f h e = f
first_operand-word _ w ins n v f h e = absurd (omega arith)

-- a constant is one by its operation
pub constant_word-some : (op : Op) (n m : ℕ) → constant_word op n ≡ Some m → (op ≡ Const) × (n ≡ m)
constant_word-some Const n m e = (refl, cc)
constant_word-some _ n m e = absurd (cc)
