-- The tree that a whole list of tokens is, as its reader tells it, and the fault after a list that is none.
use Rattle.std.specs.Prelude.{Bool, ◌==◌, List, [], ◌∷◌, ◌++◌, length, Option, Some, None, if◌then◌else◌}
use Rattle.c_tree.specs.declared.token.Token.{Token}
use Rattle.c_reader.specs.Faults.{names_construct, named_word}
use Rattle.c_reader.specs.Reading.{Answer, Reader, good, bad, deep}
use Rattle.c_reader.specs.Samples.{end_token}
use Rattle.c_reader.specs.declared.faults.SyntaxFault.{SyntaxFault}
use Rattle.c_reader.specs.declared.faults.SyntaxFault.TheVariants as fault
use Rattle.c_reader.specs.declared.samples.Sample.{Sample}

-- what was read, if one token is left after it
unfoldable pub all_but_one : {A : Type 0} → Answer A → Option A
all_but_one (good a rest) = if length rest == 1 then Some a else None
all_but_one (bad rest) = None
all_but_one (deep rest) = None

-- what is read of the tokens with the end after them, if it is all of them
abbrev pub alone : {A : Type 0} → Reader A → List Token → Option A
alone read tokens = all_but_one (read (tokens ++ end_token ∷ []))

-- the fault at a token that can't be used after those before
unfoldable pub fault_of : (Sample → Bool) → List Token → Token → SyntaxFault
fault_of can before token = if names_construct can before token then fault.Construct (named_word token) token.place else fault.Expected token.place
