-- Which tokens a program and the end after it are (C11 6.4 to 6.9).
use Rattle.std.specs.Prelude.{◌≡◌, ℕ, true, List, [], ◌∷◌, ◌++◌, Some}
use Rattle.c_tree.specs.Pieces.{Piece, spelled, Fits}
use Rattle.c_tree.specs.Programs.{is_program, wants_of_program, ProgramTree}
use Rattle.c_tree.specs.declared.token.Token.{Token}
use Rattle.c_tree.specs.declared.expressions.Identifier.{Identifier}
use Rattle.c_tree.specs.declared.token.TokenKind.TheVariants.{End}

-- a program's pieces and that of the end after it, at its place and whatever its spelling
abbrev pub end_piece : Identifier → Piece
end_piece end = record { nesting = 0; place = Some end.place; want = spelled End end.text }

abbrev pub pieces_of : ProgramTree → List ℕ → List Piece
pieces_of program ending = wants_of_program program ++ end_piece (record { place = program.end; text = ending }) ∷ []

-- the tokens are those of the program and the end
pub record IsSpelled (tokens : List Token) (program : ProgramTree) : Type 0 where
  pub grammar : is_program program ≡ true
  pub ending : List ℕ
  pub fits : Fits (pieces_of program ending) tokens

-- programs of the grammar, each with its pieces and that of the end
pub record ProgramAt (program : ProgramTree) (pieces : List Piece) : Type 0 where
  pub grammar : is_program program ≡ true
  pub ending : List ℕ
  pub wants : pieces ≡ pieces_of program ending
