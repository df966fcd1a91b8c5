-- What tests say of the first token of pieces and of what follows them, where there may be none.
use Rattle.std.proofs.Common.{◌≡◌, ℕ, Bool, List, [], ◌∷◌, ◌++◌, map, Option, Some, None, sym, ap, ◌∙◌, subst, codes}
use Rattle.std.proofs.lemmas.List.{append_assoc}
use Rattle.c_tree.specs.Pieces.{Piece, Fits, Takes, IsWanted, all_of, spelled}
use Rattle.c_tree.specs.Folds.{wants_of_dimension}
use Rattle.c_tree.specs.Declarations.{wants_of_start, wants_of_declarator, is_declarator}
use Rattle.c_tree.proofs.Cases.{cases_Dimension}
use Rattle.c_tree.proofs.FoldsLaws.{wants_Dimension}
use Rattle.c_tree.specs.declared.token.Place.{Place}
use Rattle.c_tree.specs.declared.token.Token.{Token}
use Rattle.c_tree.specs.declared.token.TokenKind.{TokenKind}
use Rattle.c_tree.specs.declared.token.TokenKind.TheVariants.{Mark}
use Rattle.c_tree.specs.declared.expressions.Dimension.{Dimension}
use Rattle.c_tree.specs.declared.statements.InitDeclarator.{InitDeclarator}
use Rattle.c_tree.specs.declared.statements.Initialization.{Initialization}
use Rattle.c_reader.proofs.Binding.{fits_part}
use Rattle.c_reader.proofs.Choosing.{FirstIs}
use Rattle.c_reader.proofs.Listing.{separated_rest}
use Rattle.c_reader.proofs.Spelt.{by_text}
use Rattle.c_decl.proofs.Declaring.{wants_following}
use Rattle.c_decl.proofs.Declarations.{wants_following_first}

-- the first token of the pieces, or the one after them where there are none
abbrev pub Opens : (TokenKind → List ℕ → Bool) → Bool → List Piece → Type 0
Opens by b ps = (ys rest : List Token) → Fits ps ys → FirstIs (λ w. by w.kind w.text) b rest → FirstIs (λ w. by w.kind w.text) b (ys ++ rest)

module _ (by : TokenKind → List ℕ → Bool) (b : Bool) where
  pub opens_none : Opens by b []
  unfolding Fits
  opens_none [] rest fits h = h
  opens_none (y ∷ ys) rest fits h = absurd fits

  pub opens_one : (piece : Piece) (ps : List Piece) → ((w : Token) → Takes piece w → by w.kind w.text ≡ b) → Opens by b (piece ∷ ps)
  unfolding Fits FirstIs
  opens_one piece ps is [] rest fits h = absurd fits
  opens_one piece ps is (y ∷ ys) rest fits h = is y fits.0

  pub opens_spelled : (n : ℕ) (place : Option Place) (kind : TokenKind) (text : List ℕ) (ps : List Piece) → by kind text ≡ b → Opens by b (record { nesting = n; place = place; want = spelled kind text } ∷ ps)
  unfolding IsWanted
  opens_spelled n place kind text ps is = opens_one (record { nesting = n; place = place; want = spelled kind text }) ps (λ w t. by_text by kind text b w t.0.0 t.0.1 is)

  pub opens_append : (ps qs : List Piece) → Opens by b ps → Opens by b qs → Opens by b (ps ++ qs)
  opens_append ps qs P Q ys rest fits h =
      let parted = fits_part ps qs ys fits in
      subst (λ u. FirstIs (λ w. by w.kind w.text) b u) (sym (ap (λ u. u ++ rest) parted.whole ∙ append_assoc parted.front parted.following rest)) (P parted.front (parted.following ++ rest) parted.left (Q parted.following rest parted.right h))

  module _ (n : ℕ) (bracket : by Mark (codes "[") ≡ b) where
    dimension_opens : (d : Dimension) (ps : List Piece) → Opens by b (wants_of_dimension d n ++ ps)
    dimension_opens = cases_Dimension (λ d. (ps : List Piece) → Opens by b (wants_of_dimension d n ++ ps))
        (λ place size ps. subst (λ f. Opens by b (f n ++ ps)) (sym (wants_Dimension place size)) (opens_spelled n (Some place) Mark (codes "[") _ bracket))

    pub dimensions_open : (ds : List Dimension) → Opens by b (all_of (map wants_of_dimension ds) n)
    unfolding all_of
    dimensions_open [] = opens_none
    dimensions_open (d ∷ ds) = dimension_opens d (all_of (map wants_of_dimension ds) n)

    module _ (equals : by Mark (codes "=") ≡ b) (comma : by Mark (codes ",") ≡ b) where
      start_opens : (s : Option Initialization) → Opens by b (wants_of_start s n)
      unfolding wants_of_start
      start_opens None = opens_none
      start_opens (Some s) = opens_spelled n (Some s.place) Mark (codes "=") _ equals

      rest_opens : (rest : List InitDeclarator) → Opens by b (separated_rest is_declarator wants_of_declarator n (codes ",") rest)
      unfolding separated_rest
      rest_opens [] = opens_none
      rest_opens (d ∷ ds) = opens_spelled n None Mark (codes ",") _ comma

      -- what stands after the first declared name of objects
      pub following_opens : (first : InitDeclarator) (rest : List InitDeclarator) → Opens by b (wants_following_first first rest n)
      following_opens first rest = opens_append (wants_following first n) (separated_rest is_declarator wants_of_declarator n (codes ",") rest) (opens_append _ _ (dimensions_open first.dimensions) (start_opens first.start)) (rest_opens rest)
