-- What it is that a reader reads a language of pieces.
use Rattle.std.specs.Prelude.{◌≡◌, ◌≤◌, ◌<◌, ◌⊎◌, ℕ, Bool, true, List, [], ◌∷◌, ◌++◌, length}
use Rattle.c_tree.specs.Pieces.{Piece, Takes, Fits}
use Rattle.c_tree.specs.declared.token.Token.{Token}
use Rattle.c_reader.specs.Depths.{AreWithin}
use Rattle.c_reader.specs.Reading.{Answer, Reader}
use Rattle.c_reader.specs.Reading as reading

-- which trees there are, and which pieces each wants
abbrev pub Language : Type 0 → Type 1
Language A = A → List Piece → Type 0

-- the trees that pass a test, each with its own pieces
pub record Of {A : Type 0} (ok : A → Bool) (wants_of : A → List Piece) (tree : A) (pieces : List Piece) : Type 0 where
  pub grammar : ok tree ≡ true
  pub wants : pieces ≡ wants_of tree

-- the tokens are those of a tree, and then the rest
pub record Good {A : Type 0} (L : Language A) (most : ℕ) (tokens : List Token) (tree : A) (rest : List Token) : Type 0 where
  pub pieces : List Piece
  pub front : List Token
  pub spelled : L tree pieces
  pub fits : Fits pieces front
  pub shallow : AreWithin most pieces
  pub whole : tokens ≡ front ++ rest

-- some tree begins with the tokens before the rest
pub record Bad {A : Type 0} (L : Language A) (most : ℕ) (tokens : List Token) (rest : List Token) : Type 0 where
  pub tree : A
  pub pieces : List Piece
  pub missing : List Piece
  pub front : List Token
  pub spelled : L tree (pieces ++ missing)
  pub fits : Fits pieces front
  pub shallow : AreWithin most pieces
  pub whole : tokens ≡ front ++ rest

-- some tree begins with the tokens before the rest and the first of the rest, which is nested too deeply in it
pub record Deep {A : Type 0} (L : Language A) (most : ℕ) (tokens : List Token) (rest : List Token) : Type 0 where
  pub tree : A
  pub pieces : List Piece
  pub piece : Piece
  pub missing : List Piece
  pub front : List Token
  pub token : Token
  pub following : List Token
  pub spelled : L tree (pieces ++ piece ∷ missing)
  pub fits : Fits pieces front
  pub takes : Takes piece token
  pub shallow : AreWithin most pieces
  pub deep : most < piece.nesting
  pub first : rest ≡ token ∷ following
  pub whole : tokens ≡ front ++ rest

-- the tokens of a tree before others, of which the first that is nested too deeply is the first of those that are left
pub record TooDeep (most : ℕ) (pieces : List Piece) (front rest left : List Token) : Type 0 where
  pub before : List Piece
  pub piece : Piece
  pub missing : List Piece
  pub taken : List Token
  pub token : Token
  pub following : List Token
  pub parts : pieces ≡ before ++ piece ∷ missing
  pub fits : Fits before taken
  pub shallow : AreWithin most before
  pub deep : most < piece.nesting
  pub whole : front ≡ taken ++ token ∷ following
  pub is_left : left ≡ token ∷ (following ++ rest)

-- it was read up to that token
pub record FoundDeep {A : Type 0} (read : Reader A) (most : ℕ) (pieces : List Piece) (front rest : List Token) : Type 0 where
  pub left : List Token
  pub is : read (front ++ rest) ≡ reading.deep left
  pub place : TooDeep most pieces front rest left

-- the tree was read, and isn't nested too deeply; or it is, and was read up to its first token that is
abbrev pub Found : {A : Type 0} → Reader A → ℕ → A → List Piece → List Token → List Token → Type 0
Found read most tree pieces front rest =
    ((read (front ++ rest) ≡ reading.good tree rest) × AreWithin most pieces) ⊎ FoundDeep read most pieces front rest

-- What is read is of the language, a fault stands after the beginning of a tree, each tree is read where what is after it stops it,
-- in lists of at most so many tokens, and no answer depends on what stands after the first token that is left.
pub record Reads {A : Type 0} (L : Language A) (most : ℕ) (size : ℕ) (Stops : List Token → Type 0) (read : Reader A) : Type 0 where
  pub good : (tokens : List Token) (tree : A) (rest : List Token) → read tokens ≡ reading.good tree rest → Good L most tokens tree rest
  pub bad : (tokens : List Token) (rest : List Token) → read tokens ≡ reading.bad rest → Bad L most tokens rest
  pub deep : (tokens : List Token) (rest : List Token) → read tokens ≡ reading.deep rest → Deep L most tokens rest
  pub all : (tree : A) (pieces : List Piece) (front : List Token) (rest : List Token) → L tree pieces → Fits pieces front → Stops rest → length (front ++ rest) ≤ size → Found read most tree pieces front rest
  pub local_good : (front : List Token) (token : Token) (following other : List Token) (tree : A) → read (front ++ token ∷ following) ≡ reading.good tree (token ∷ following) → read (front ++ token ∷ other) ≡ reading.good tree (token ∷ other)
  pub local_deep : (front : List Token) (token : Token) (following other : List Token) → read (front ++ token ∷ following) ≡ reading.deep (token ∷ following) → read (front ++ token ∷ other) ≡ reading.deep (token ∷ other)
  pub local_bad : (front : List Token) (token : Token) (following other : List Token) → read (front ++ token ∷ following) ≡ reading.bad (token ∷ following) → read (front ++ token ∷ other) ≡ reading.bad (token ∷ other)
