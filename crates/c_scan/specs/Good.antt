-- What is so of the tokens among pieces.
use Rattle.std.specs.Prelude.{Bool, true}
use Rattle.c_tree.specs.TokenLists.{is_inner}
use Rattle.c_scan.specs.declared.piece.Piece.{Piece}
use Rattle.c_scan.specs.declared.piece.Piece.TheVariants as piece

-- no token, or one that may stand within a list of tokens
abbrev pub is_good : Piece → Bool
is_good piece.Line = true
is_good (piece.Token token) = is_inner token
is_good (piece.Hash at) = true
is_good (piece.BadByte at) = true
is_good (piece.BadLiteral at) = true
