-- Words of the types of expressions.
use Rattle.std.specs.Prelude.{◌≡◌}
use Rattle.hy_bits.specs.declared.scalar.Scalar.{Scalar}
use Rattle.hy_bits.specs.Scalar.{scalar_width}
use Rattle.hy_bits.specs.Words.{IsWord}
use Rattle.c_meaning.specs.Constants.{Constant, Variable, Faulty, Word}
use Rattle.c_meaning.specs.TypeRules.{ExprType, of_scalar}

-- the word, if there is one, is of an integer type, which is the type
abbrev pub WordOf : ExprType → Constant → Type 0
WordOf t Variable = Unit {0}
WordOf t Faulty = Unit {0}
WordOf t (Word w) = (u : Scalar) × (t ≡ of_scalar u) × IsWord (scalar_width u) w
