-- What `parse` says of a list of tokens.
use Rattle.std.specs.Prelude.{◌≡◌, List, drop, Result, Ok, Err}
use Rattle.c_tree.specs.declared.token.Place.{Place}
use Rattle.c_tree.specs.declared.token.Token.{Token}
use Rattle.c_tree.specs.declared.programs.ExternalDeclaration.{ExternalDeclaration}
use Rattle.c_tree.specs.Programs.{ProgramTree}
use Rattle.c_reader.specs.Outcome.{Fails}
use Rattle.c_reader.specs.Reading.{Answer, good}
use Rattle.c_reader.specs.declared.unread.Unread.{Unread}
use Rattle.c_reader.specs.Depths.{AreShallow}
use Rattle.c_syntax.specs.Programs.{pieces_of, IsSpelled}

-- what is read up to the end, which is left: the items and the place of the end
abbrev pub Ends : Answer ProgramTree → Result (List ExternalDeclaration × Place) Unread → List Token → Type 0
Ends answer (Ok found) left = answer ≡ good (record { items = found.0; end = found.1 }) (drop 1 left)
Ends answer (Err fault) left = Fails answer fault left

-- the tokens are those of the program, and none is nested too deeply
pub record IsParsed (tokens : List Token) (program : ProgramTree) : Type 0 where
  pub spelled_ : IsSpelled tokens program
  pub shallow : AreShallow (pieces_of program spelled_.ending)
