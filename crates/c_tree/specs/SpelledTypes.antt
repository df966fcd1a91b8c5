-- The types that words spell (C11 6.7.2): char has 8 bits and is signed, short 16, int 32, long and long long 64.
use Rattle.std.specs.Prelude.{Bool, true, false, ◌||◌, if◌then◌else◌, List, [], ◌∷◌, Option, Some, None}
use Rattle.hy_bits.specs.declared.scalar.Scalar.TheVariants.{B1, S8, U8, S16, U16, S32, U32, S64, U64}
use Rattle.c_tree.specs.declared.expressions.TypeWord.{TypeWord}
use Rattle.c_tree.specs.declared.expressions.TypeWord.TheVariants as words
use Rattle.c_tree.specs.declared.spelled.SpelledType.{SpelledType}
use Rattle.c_tree.specs.declared.spelled.SpelledType.TheVariants.{Void, Scalar}

abbrev pub is_unsigned : TypeWord → Bool
is_unsigned words.Unsigned = true
is_unsigned _ = false

unfoldable pub has_unsigned : List TypeWord → Bool
has_unsigned [] = false
has_unsigned (word ∷ rest) = is_unsigned word || has_unsigned rest

-- the type that a word fixes, where unsigned stands beside it or not; int and the words for signs fix none
abbrev pub fixed_type : Bool → TypeWord → Option SpelledType
fixed_type unsigned words.Void = Some Void
fixed_type unsigned words.Underscored = Some (Scalar B1)
fixed_type unsigned words.Bool = Some (Scalar B1)
fixed_type unsigned words.Char = Some (Scalar (if unsigned then U8 else S8))
fixed_type unsigned words.Short = Some (Scalar (if unsigned then U16 else S16))
fixed_type unsigned words.Long = Some (Scalar (if unsigned then U64 else S64))
fixed_type unsigned words.Int8 = Some (Scalar S8)
fixed_type unsigned words.Int16 = Some (Scalar S16)
fixed_type unsigned words.Int32 = Some (Scalar S32)
fixed_type unsigned words.Int64 = Some (Scalar S64)
fixed_type unsigned words.Uint8 = Some (Scalar U8)
fixed_type unsigned words.Uint16 = Some (Scalar U16)
fixed_type unsigned words.Uint32 = Some (Scalar U32)
fixed_type unsigned words.Uint64 = Some (Scalar U64)
fixed_type unsigned _ = None

abbrev pub or_else : Option SpelledType → SpelledType → SpelledType
or_else None other = other
or_else (Some found) other = found

-- the type of the first word that fixes one, or else that of int with its sign
unfoldable pub type_among : Bool → List TypeWord → SpelledType
type_among unsigned [] = Scalar (if unsigned then U32 else S32)
type_among unsigned (word ∷ rest) = or_else (fixed_type unsigned word) (type_among unsigned rest)

abbrev pub spelled_type : List TypeWord → SpelledType
spelled_type words = type_among (has_unsigned words) words
