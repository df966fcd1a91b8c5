-- Lists with a mark between their parts.
use Rattle.std.specs.Prelude.{ℕ, zero, suc, Bool, List, [], ◌∷◌}
use Rattle.c_tree.specs.declared.token.Token.{Token}
use Rattle.c_tree.specs.declared.expressions.TrailingComma.{TrailingComma}
use Rattle.c_tree.specs.declared.expressions.TrailingComma.TheVariants.{Absent, Present}
use Rattle.c_reader.specs.Reading.{Reader, ◌>>=◌, give, choose, many}
use Rattle.c_reader.specs.Tokens.{is_mark, read_mark}

-- parts with a mark between each two of them, one at least
unfoldable pub separated_by : {A : Type 0} → ℕ → List ℕ → ℕ → Reader A → Reader (List A)
separated_by size text left read = do
  first ← read
  rest ← many size (is_mark text) (read_mark text left >>= λ separator. read)
  give (first ∷ rest)

-- what follows the first part of a list, which may end with a mark: each mark and the part after it, as long as one stands there
unfoldable pub read_more : {A : Type 0} → ℕ → List ℕ → (Token → Bool) → ℕ → Reader A → Reader (List A × TrailingComma)
read_more zero text starts left read = give ([], Absent)
read_more (suc size) text starts left read =
    choose (is_mark text)
    (read_mark text left >>= λ separator.
    choose starts (read >>= λ a. read_more size text starts left read >>= λ rest. give (a ∷ rest.0, rest.1)) (give ([], Present)))
    (give ([], Absent))
