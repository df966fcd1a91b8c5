-- The words that spell types, in any order (C11 6.7.2, 7.18, 7.20.1.1).
use Rattle.std.specs.Prelude.{ℕ, ◌+◌, Bool, ◌&&◌, ◌||◌, ◌==◌, nat_le, List, [], ◌∷◌, codes}
use Rattle.c_tree.specs.declared.expressions.TypeWord.{TypeWord}
use Rattle.c_tree.specs.declared.expressions.TypeWord.TheVariants as words

abbrev pub text_of_word : TypeWord → List ℕ
text_of_word words.Void = codes "void"
text_of_word words.Underscored = codes "_Bool"
text_of_word words.Bool = codes "bool"
text_of_word words.Char = codes "char"
text_of_word words.Signed = codes "signed"
text_of_word words.Unsigned = codes "unsigned"
text_of_word words.Short = codes "short"
text_of_word words.Int = codes "int"
text_of_word words.Long = codes "long"
text_of_word words.Int8 = codes "int8_t"
text_of_word words.Int16 = codes "int16_t"
text_of_word words.Int32 = codes "int32_t"
text_of_word words.Int64 = codes "int64_t"
text_of_word words.Uint8 = codes "uint8_t"
text_of_word words.Uint16 = codes "uint16_t"
text_of_word words.Uint32 = codes "uint32_t"
text_of_word words.Uint64 = codes "uint64_t"

-- how often each kind of word stands in a spelling; the words that stand alone are one kind
pub record Counts : Type 0 where
  pub alone : ℕ
  pub char : ℕ
  pub sign : ℕ
  pub short : ℕ
  pub int : ℕ
  pub long : ℕ

abbrev pub no_words : Counts
no_words = record { alone = 0; char = 0; sign = 0; short = 0; int = 0; long = 0 }

abbrev pub with_word : TypeWord → Counts → Counts
with_word words.Void c = record c { alone = c.alone + 1 }
with_word words.Underscored c = record c { alone = c.alone + 1 }
with_word words.Bool c = record c { alone = c.alone + 1 }
with_word words.Char c = record c { char = c.char + 1 }
with_word words.Signed c = record c { sign = c.sign + 1 }
with_word words.Unsigned c = record c { sign = c.sign + 1 }
with_word words.Short c = record c { short = c.short + 1 }
with_word words.Int c = record c { int = c.int + 1 }
with_word words.Long c = record c { long = c.long + 1 }
with_word words.Int8 c = record c { alone = c.alone + 1 }
with_word words.Int16 c = record c { alone = c.alone + 1 }
with_word words.Int32 c = record c { alone = c.alone + 1 }
with_word words.Int64 c = record c { alone = c.alone + 1 }
with_word words.Uint8 c = record c { alone = c.alone + 1 }
with_word words.Uint16 c = record c { alone = c.alone + 1 }
with_word words.Uint32 c = record c { alone = c.alone + 1 }
with_word words.Uint64 c = record c { alone = c.alone + 1 }

unfoldable pub counts_from : Counts → List TypeWord → Counts
counts_from c [] = c
counts_from c (w ∷ ws) = counts_from (with_word w c) ws

-- what the counts of a spelling are: a word alone; char with a sign; short with int and a sign; int and a sign, one of them or
-- both; long once or twice with int and a sign. So is each beginning of a spelling but the empty one.
abbrev pub agree : Counts → Bool
agree c =
    (c.alone == 1 && c.char + c.sign + c.short + c.int + c.long == 0)
    || (c.alone == 0 && nat_le c.sign 1 && nat_le c.char 1 && nat_le c.short 1 && nat_le c.int 1 && nat_le c.long 2
    && (c.char == 0 || c.short + c.int + c.long == 0) && (c.short == 0 || c.long == 0)
    && nat_le 1 (c.char + c.sign + c.short + c.int + c.long))

abbrev pub is_spelling : List TypeWord → Bool
is_spelling ws = agree (counts_from no_words ws)
