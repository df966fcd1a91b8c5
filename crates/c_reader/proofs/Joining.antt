-- Trees of several parts, and their pieces.
use Rattle.std.proofs.Common.{◌≡◌, List, [], ◌∷◌, ◌++◌, refl, sym, ap, ◌∙◌}
use Rattle.std.proofs.lemmas.List.{append_assoc, append-nil}
use Rattle.c_tree.specs.Pieces.{Piece}
use Rattle.c_reader.proofs.Reader.{Language}
use Rattle.c_reader.proofs.Binding.{Both}
use Rattle.c_reader.proofs.Giving.{Given}
use Rattle.c_reader.proofs.Taking.{Single}

pub in_both : {A C : Type 0} (L : Language A) (K : A → Language C) (tree : C) (ps qs : List Piece) (first : A) → L first ps → K first tree qs → Both L K tree (ps ++ qs)
in_both L K tree ps qs first left right = record { first = first; pieces1 = ps; pieces2 = qs; left = left; right = right; whole = refl }

pub in_single : {A : Type 0} (piece : A → Piece) (a : A) → Single piece a (piece a ∷ [])
in_single piece a = record { one = refl }

pub in_given : {A : Type 0} (a : A) → Given a a []
in_given a = record { tree_is = refl; none = refl }

-- pieces of parts, one after another
pub onto : {ps xs bs cs ds : List Piece} → ps ≡ xs ++ bs → xs ≡ cs → bs ≡ ds → ps ≡ cs ++ ds
onto {bs = bs} {cs = cs} whole left right = whole ∙ ap (λ u. u ++ bs) left ∙ ap (λ u. cs ++ u) right

pub join1 : (a : List Piece) → a ++ [] ≡ a
join1 a = append-nil a

pub join2 : (a b : List Piece) → a ++ (b ++ []) ≡ a ++ b
join2 a b = ap (λ u. a ++ u) (append-nil b)

pub join3 : (a b c : List Piece) → a ++ (b ++ (c ++ [])) ≡ a ++ b ++ c
join3 a b c = sym (append_assoc a b (c ++ [])) ∙ join2 (a ++ b) c

pub join4 : (a b c d : List Piece) → a ++ (b ++ (c ++ (d ++ []))) ≡ a ++ b ++ c ++ d
join4 a b c d = sym (append_assoc a b (c ++ (d ++ []))) ∙ join3 (a ++ b) c d

pub join5 : (a b c d e : List Piece) → a ++ (b ++ (c ++ (d ++ (e ++ [])))) ≡ a ++ b ++ c ++ d ++ e
join5 a b c d e = sym (append_assoc a b (c ++ (d ++ (e ++ [])))) ∙ join4 (a ++ b) c d e

pub join6 : (a b c d e f : List Piece) → a ++ (b ++ (c ++ (d ++ (e ++ (f ++ []))))) ≡ a ++ b ++ c ++ d ++ e ++ f
join6 a b c d e f = sym (append_assoc a b (c ++ (d ++ (e ++ (f ++ []))))) ∙ join5 (a ++ b) c d e f

-- a conjunction's parts
