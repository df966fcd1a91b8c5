-- Array types over numbers of elements.
use Rattle.std.proofs.Common.{◌≡◌, ℕ, List, [], ◌∷◌, ◌++◌, ap, refl}
use Rattle.c_meaning.specs.declared.types.CType.{CType}
use Rattle.c_meaning.specs.declared.types.CType.TheVariants as ctype
use Rattle.c_typing.specs.Specifiers.{array_of}

pub array_last : (counts : List ℕ) (n : ℕ) (element : CType) → array_of (counts ++ n ∷ []) element ≡ array_of counts (ctype.Array n element)
array_last [] n element = refl
array_last (m ∷ counts) n element = ap (ctype.Array m) (array_last counts n element)
