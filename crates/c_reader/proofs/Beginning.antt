-- Which tokens the trees of a language begin with, and that there are trees.
use Rattle.std.proofs.Common.{◌≡◌, Bool, List, [], ◌∷◌, ◌++◌, refl, sym, ap, ◌∙◌, subst}
use Rattle.std.proofs.lemmas.List.{append_assoc}
use Rattle.c_tree.specs.Pieces.{Piece, Takes, Fits}
use Rattle.c_tree.specs.declared.token.Token.{Token}
use Rattle.c_reader.proofs.Reader.{Language}
use Rattle.c_reader.proofs.Binding.{Both, fits_part}
use Rattle.c_reader.proofs.Giving.{Given}
use Rattle.c_reader.proofs.Taking.{Single}
use Rattle.c_reader.proofs.Choosing.{FirstIs, Either, this, that}

-- the first token of each tree is one of these, or is none of them
abbrev pub Begins : {A : Type 0} → Language A → (Token → Bool) → Bool → Type 0
Begins {A = A} L test b = (tree : A) (ps : List Piece) (front rest : List Token) → L tree ps → Fits ps front → FirstIs test b (front ++ rest)

-- the same where it may stand after the tree, which may have none
abbrev pub BeginsBefore : {A : Type 0} → Language A → (List Token → Type 0) → (Token → Bool) → Bool → Type 0
BeginsBefore {A = A} L Stops test b = (tree : A) (ps : List Piece) (front rest : List Token) → L tree ps → Fits ps front → Stops rest → FirstIs test b (front ++ rest)

pub begins_before : {A : Type 0} (L : Language A) (Stops : List Token → Type 0) (test : Token → Bool) (b : Bool) → Begins L test b → BeginsBefore L Stops test b
begins_before L Stops test b begins tree ps front rest is fits stop = begins tree ps front rest is fits

pub begins_both : {A C : Type 0} (L : Language A) (K : A → Language C) (test : Token → Bool) (b : Bool) → Begins L test b → Begins (Both L K) test b
begins_both L K test b begins c ps front rest both fits =
    let parted = fits_part both.pieces1 both.pieces2 front (subst (λ u. Fits u front) both.whole fits) in
    subst (λ u. FirstIs test b u) (sym (ap (λ u. u ++ rest) parted.whole ∙ append_assoc parted.front parted.following rest))
    (begins both.first both.pieces1 parted.front (parted.following ++ rest) both.left parted.left)

begins_one : (piece : Piece) (test : Token → Bool) (b : Bool) → ((w : Token) → Takes piece w → test w ≡ b) → (ps : List Piece) (front rest : List Token) → ps ≡ piece ∷ [] → Fits ps front → FirstIs test b (front ++ rest)
unfolding Fits FirstIs
begins_one piece test b is [] front rest one fits = absurd (cc)
begins_one piece test b is (p ∷ ps) [] rest one fits = absurd fits
begins_one piece test b is (p ∷ ps) (w ∷ front) rest one fits =
    let same : p ≡ piece = cc in
    is w (subst (λ u. Takes u w) same fits.0)

pub begins_single : {A : Type 0} (piece : A → Piece) (test : Token → Bool) (b : Bool) → ((a : A) (w : Token) → Takes (piece a) w → test w ≡ b) → Begins (Single piece) test b
begins_single piece test b is tree ps front rest single fits = begins_one (piece tree) test b (is tree) ps front rest single.one fits

pub begins_either : {A : Type 0} (L M : Language A) (test : Token → Bool) (b : Bool) → Begins L test b → Begins M test b → Begins (Either L M) test b
begins_either L M test b left right tree ps front rest (this is) fits = left tree ps front rest is fits
begins_either L M test b left right tree ps front rest (that is) fits = right tree ps front rest is fits

-- a tree with its pieces
abbrev pub SomeOf : {A : Type 0} → Language A → Type 0
SomeOf {A = A} L = (tree : A) × ((ps : List Piece) × L tree ps)

pub some_both : {A C : Type 0} (L : Language A) (K : A → Language C) → SomeOf L → ((a : A) → SomeOf (K a)) → SomeOf (Both L K)
some_both L K first next =
    let second = next first.0 in
    (second.0, (first.1.0 ++ second.1.0, record { first = first.0; pieces1 = first.1.0; pieces2 = second.1.0; left = first.1.1; right = second.1.1; whole = refl }))

pub some_single : {A : Type 0} (piece : A → Piece) (a : A) → SomeOf (Single piece)
some_single piece a = (a, (piece a ∷ [], record { one = refl }))

pub some_given : {A : Type 0} (a : A) → SomeOf (Given a)
some_given a = (a, ([], record { tree_is = refl; none = refl }))
