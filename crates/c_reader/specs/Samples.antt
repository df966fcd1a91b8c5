-- Tokens that are tried in the place of a faulty one, and what is read where they stand there.
use Rattle.std.specs.Prelude.{ℕ, Bool, true, not, ◌==◌, List, [], ◌∷◌, ◌++◌, length, codes}
use Rattle.hy_bits.specs.declared.scalar.Scalar.TheVariants.{S32}
use Rattle.c_tree.specs.declared.token.Token.{Token}
use Rattle.c_tree.specs.declared.token.TokenKind.{TokenKind}
use Rattle.c_tree.specs.declared.token.TokenKind.TheVariants.{Name, Integer, Mark, End}
use Rattle.c_reader.specs.declared.samples.Sample.{Sample}
use Rattle.c_reader.specs.declared.samples.Sample.TheVariants as sample
use Rattle.c_reader.specs.Reading.{Answer, Reader, good, bad, deep}

abbrev pub token_of : TokenKind → List ℕ → ℕ → Token
token_of kind text number = record { kind = kind; text = text; number = number; scalar = S32; place = record { line = 1; column = 1 } }

abbrev pub sample_of : Sample → Token
sample_of sample.Name = token_of Name (codes "x") 0
sample_of sample.Number = token_of Integer (codes "1") 1
sample_of sample.Brace = token_of Mark (codes "{") 0
sample_of sample.Semicolon = token_of Mark (codes ";") 0

abbrev pub end_token : Token
end_token = token_of End [] 0

-- whether a token with the end after it is no fault: a fault is at the end, if there is one
unfoldable pub is_taken : {A : Type 0} → Answer A → Bool
is_taken (good a rest) = true
is_taken (bad rest) = not (length rest == 2)
is_taken (deep rest) = true

abbrev pub can_stand : {A : Type 0} → Reader A → List Token → Sample → Bool
can_stand read before s = is_taken (read (before ++ sample_of s ∷ end_token ∷ []))
