-- Trees that begin with some tokens, and which token of a list a fault names: the first with which no tree begins, or the first that is
-- nested too deeply. A language says which trees there are, and which pieces each wants.
use Rattle.std.specs.Prelude.{◌≡◌, ◌≤◌, ◌<◌, ℕ, Bool, true, false, List, [], ◌∷◌, ◌++◌}
use Rattle.c_tree.specs.Pieces.{Piece, Takes, Fits}
use Rattle.c_tree.specs.declared.token.Token.{Token}
use Rattle.c_reader.specs.Depths.{most_nesting, AreWithin, AreShallow}
use Rattle.c_reader.specs.Faults.{AreAsked, names_construct, named_word}
use Rattle.c_reader.specs.declared.faults.SyntaxFault.{SyntaxFault}
use Rattle.c_reader.specs.declared.faults.SyntaxFault.TheVariants as fault
use Rattle.c_reader.specs.declared.samples.Sample.{Sample}

-- some tree begins with the tokens
pub record BeginsOf {A : Type 0} (L : A → List Piece → Type 0) (tokens : List Token) : Type 0 where
  pub tree : A
  pub pieces : List Piece
  pub missing : List Piece
  pub spelled_ : L tree (pieces ++ missing)
  pub fits : Fits pieces tokens

-- the first token with which no tree begins: some tree begins with the tokens before it, none of which is nested too deeply
pub record IsFirstFault {A : Type 0} (L : A → List Piece → Type 0) (tokens before : List Token) (token : Token) : Type 0 where
  pub following : List Token
  pub whole : tokens ≡ before ++ token ∷ following
  pub begins : BeginsOf L before
  pub shallow : AreShallow begins.pieces
  pub none : BeginsOf L (before ++ token ∷ []) → ⊥

-- a token that is nested too deeply in a tree that begins with the tokens up to and with it, none before it being so
pub record IsFirstDeep {A : Type 0} (L : A → List Piece → Type 0) (tokens before : List Token) (token : Token) : Type 0 where
  pub following : List Token
  pub whole : tokens ≡ before ++ token ∷ following
  pub tree : A
  pub pieces : List Piece
  pub piece : Piece
  pub missing : List Piece
  pub spelled_ : L tree (pieces ++ piece ∷ missing)
  pub fits : Fits pieces before
  pub takes : Takes piece token
  pub shallow : AreShallow pieces
  pub deep : most_nesting < piece.nesting

-- trees that begin with the same tokens nest these alike: for each limit from the least one on, where none of the tokens is nested more
-- deeply in one tree, none is in another
abbrev pub NestAlike : {A : Type 0} → (A → List Piece → Type 0) → ℕ → Type 0
NestAlike L least = (most : ℕ) (tokens : List Token) (a b : BeginsOf L tokens) → least ≤ most → AreWithin most a.pieces → AreWithin most b.pieces

-- the first token with which no tree begins, and whether it names a construct that is left out
pub record IsUnread {A : Type 0} (L : A → List Piece → Type 0) (tokens before : List Token) (token : Token) (construct : Bool) : Type 0 where
  pub first : IsFirstFault L tokens before token
  pub can : Sample → Bool
  pub asked : AreAsked (BeginsOf L) before can
  pub names : names_construct can before token ≡ construct

unfoldable pub IsFaultOf : {A : Type 0} → (A → List Piece → Type 0) → List Token → SyntaxFault → Type 0
IsFaultOf L tokens (fault.Expected place) = (before : List Token) × ((token : Token) × (IsUnread L tokens before token false × (token.place ≡ place)))
IsFaultOf L tokens (fault.Construct word place) = (before : List Token) × ((token : Token) × (IsUnread L tokens before token true × (named_word token ≡ word) × (token.place ≡ place)))
IsFaultOf L tokens (fault.Deep place) = (before : List Token) × ((token : Token) × (IsFirstDeep L tokens before token × (token.place ≡ place)))
IsFaultOf L tokens fault.Memory = Unit {0}
