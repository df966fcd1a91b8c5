-- The readers of dimensions, and of names with them.
use Rattle.std.proofs.Common.{◌≡◌, ◌<◌, ℕ, ◌+◌, true, false, List, [], ◌∷◌, ◌++◌, length, map, Option, Some, None, option_map, refl, sym, ap, ◌∙◌, subst, arith, codes}
use Rattle.std.proofs.lemmas.List.{append-nil, length-append}
use Rattle.c_tree.specs.Pieces.{Piece, IsWanted, all_of, optional, name}
use Rattle.c_tree.specs.Folds.{wants_of_expr, wants_of_dimensioned, wants_of_dimension, binds, is_dimensioned_tree, is_dimension_tree}
use Rattle.c_tree.specs.Types.{is_optional}
use Rattle.c_tree.proofs.Cases.{cases_StructDeclarator, cases_Dimension}
use Rattle.c_tree.proofs.FoldsLaws.{wants_StructDeclarator, wants_Dimension, is_StructDeclarator, is_Dimension}
use Rattle.c_tree.specs.declared.token.Place.{Place}
use Rattle.c_tree.specs.declared.token.Token.{Token}
use Rattle.c_tree.specs.declared.token.TokenKind.TheVariants.{Name, Mark}
use Rattle.c_tree.specs.declared.expressions.Identifier.{Identifier}
use Rattle.c_tree.specs.declared.expressions.Expr.{Expr}
use Rattle.c_tree.specs.declared.expressions.Expr.TheViews.{roll-StructDeclarator, roll-Dimension}
use Rattle.c_tree.specs.declared.expressions.StructDeclarator.{StructDeclarator}
use Rattle.c_tree.specs.declared.expressions.Dimension.{Dimension}
use Rattle.c_reader.specs.Reading.{Reader, ◌>>=◌, give}
use Rattle.c_reader.specs.Tokens.{is_mark, is_kind, is_spelled, spelled_by, found_by, found_in}
use Rattle.c_grammar.specs.Tokens.{goes_by, suffix_by}
use Rattle.c_grammar.specs.Types.{read_size, read_dimension, read_dimensions, read_dimensioned}
use Rattle.c_reader.proofs.Reader.{Language, Of, Reads}
use Rattle.c_reader.proofs.Binding.{Both, bind_reads}
use Rattle.c_reader.proofs.Giving.{Given, give_reads, reads_as}
use Rattle.c_reader.proofs.Taking.{Single}
use Rattle.c_reader.proofs.Choosing.{FirstIs, Either, this, that, choose_reads}
use Rattle.c_reader.proofs.Repeating.{many_reads, given_stops}
use Rattle.c_reader.proofs.Beginning.{Begins, begins_both, begins_single, SomeOf, some_both, some_single, some_given}
use Rattle.c_reader.proofs.Joining.{in_both, in_single, in_given, onto, join2, join3}
use Rattle.c_reader.proofs.Listing.{AllOf, all_to, all_from, list_all_map}
use Rattle.c_reader.proofs.Spelt.{spelled_yes, spelt, spelt_at, named, spelt_reads, spelt_at_reads, named_reads}
use Rattle.c_grammar.proofs.Starting.{Suits, begins_at}
use Rattle.c_grammar.proofs.Suffixes.{At, Stops, Any, no_name}
use Rattle.c_grammar.proofs.Primaries.{first_from, prefix_all}

-- the languages of dimensions and of names with them
abbrev pub DimensionAt : ℕ → Language Dimension
DimensionAt n = Of is_dimension_tree (λ d. wants_of_dimension d n)

abbrev pub DimensionedAt : ℕ → Language StructDeclarator
DimensionedAt n = Of is_dimensioned_tree (λ d. wants_of_dimensioned d n)

abbrev pub StopsDimensions : List Token → Type 0
StopsDimensions = FirstIs (is_mark (codes "[")) false

-- no expression begins with a closing square bracket
not_closing : Suits (spelled_by Mark (codes "]")) false
unfolding spelled_by
not_closing = record { name = λ t. refl; integer = λ t. refl; character = λ t. refl; yes_ = refl; no_ = refl; bracket = refl; prefix = prefix_all (spelled_by Mark (codes "]")) false refl refl refl refl refl refl }

module _ (most size n left : ℕ) (level : n + left ≡ most + 1) (read : Reader Expr) (E : Reads (At 0 n) most size (Stops 0) read) where
  abbrev Closing : List Token → Type 0
  Closing = FirstIs (is_mark (codes "]")) true

  abbrev SizeL : Language (Option Expr)
  SizeL = Either (Given None) (Both (At 0 n) (λ value. Given (Some value)))

  abbrev SizeAt : Language (Option Expr)
  SizeAt = Of (λ o. is_optional (option_map binds o)) (λ o. optional (option_map wants_of_expr o) n)

  size_to : (o : Option Expr) (ps : List Piece) → SizeL o ps → SizeAt o ps
  size_to o ps (this is) = subst (λ u. SizeAt u ps) (sym is.tree_is) (record { grammar = refl; wants = is.none })
  size_to o ps (that b) = subst (λ u. SizeAt u ps) (sym b.right.tree_is) (record { grammar = b.left.grammar; wants = onto b.whole b.left.wants b.right.none ∙ append-nil (wants_of_expr b.first n) })

  size_from : (o : Option Expr) (ps : List Piece) → SizeAt o ps → SizeL o ps
  size_from None ps is = this (record { tree_is = refl; none = is.wants })
  size_from (Some value) ps is = that (subst (λ u. Both (At 0 n) (λ v. Given (Some v)) (Some value) u) (append-nil (wants_of_expr value n) ∙ sym is.wants) (in_both _ _ _ _ _ value (record { grammar = is.grammar; wants = refl }) (in_given (Some value))))

  closing_stops : (ts : List Token) → Closing ts → Stops 0 ts
  unfolding goes_by suffix_by spelled_by found_by found_in
  closing_stops = first_from Mark (codes "]") (goes_by 0) false refl

  size_reads : Reads SizeAt most size Closing (read_size read)
  unfolding read_size spelled_by is_spelled is_kind
  size_reads =
      reads_as size_to size_from
      (choose_reads (Given None) (Both (At 0 n) (λ value. Given (Some value))) most size Closing (is_mark (codes "]")) (give None) (read >>= λ value. give (Some value))
      (give_reads None most size Closing)
      (bind_reads _ _ most size (Stops 0) Closing _ _ E (λ value. give_reads (Some value) most size Closing) (λ value ps is. some_given (Some value))
      (λ value c qs ys rest is fits stop. given_stops (Some value) c qs ys rest (Stops 0) is fits (closing_stops rest stop)))
      (λ o ps front rest is fits stop. given_stops None o ps front rest Closing is fits stop)
      (λ o ps front rest is fits stop. begins_both _ _ (is_mark (codes "]")) false (begins_at (spelled_by Mark (codes "]")) false not_closing n 0) o ps front rest is fits))

  some_size : SomeOf SizeAt
  some_size = (None, ([], record { grammar = refl; wants = refl }))

  abbrev DimensionL : Language Dimension
  DimensionL = Both (Single (spelt_at Mark (codes "[") n)) (λ place. Both SizeAt (λ amount. Both (Single (spelt Mark (codes "]") n)) (λ closing. Given (roll-Dimension (record { place = place; size = amount })))))

  closes : Begins (Single (spelt Mark (codes "]") n)) (is_mark (codes "]")) true
  unfolding IsWanted
  closes = begins_single (spelt Mark (codes "]") n) (is_mark (codes "]")) true (λ u w takes. spelled_yes Mark (codes "]") w takes.0.0 takes.0.1)

  dimension_read : Reads DimensionL most size Any (read_dimension left read)
  unfolding read_dimension
  dimension_read =
      bind_reads _ _ most size Any Any _ _ (spelt_at_reads most size Any Mark (codes "[") n left level)
      (λ place. bind_reads _ _ most size Closing Any _ _ size_reads
      (λ amount. bind_reads _ _ most size Any Any _ _ (spelt_reads most size Any Mark (codes "]") n left level) (λ closing. give_reads (roll-Dimension (record { place = place; size = amount })) most size Any)
      (λ closing ps is. some_given _)
      (λ closing c qs ys rest is fits stop. tt))
      (λ amount ps is. some_both _ _ (some_single (spelt Mark (codes "]") n) tt) (λ closing. some_given _))
      (λ amount c qs ys rest is fits stop. begins_both _ _ (is_mark (codes "]")) true closes c qs ys rest is fits))
      (λ place ps is. some_both _ _ some_size (λ amount. some_both _ _ (some_single (spelt Mark (codes "]") n) tt) (λ closing. some_given (roll-Dimension (record { place = place; size = amount })))))
      (λ place c qs ys rest is fits stop. tt)

  dimension_flat : (place : Place) (amount : Option Expr) → (spelt_at Mark (codes "[") n place ∷ []) ++ (optional (option_map wants_of_expr amount) n ++ ((spelt Mark (codes "]") n tt ∷ []) ++ [])) ≡ wants_of_dimension (roll-Dimension (record { place = place; size = amount })) n
  dimension_flat place amount = join3 (spelt_at Mark (codes "[") n place ∷ []) (optional (option_map wants_of_expr amount) n) (spelt Mark (codes "]") n tt ∷ []) ∙ sym (ap (λ f. f n) (wants_Dimension place amount))

  dimension_to : (d : Dimension) (ps : List Piece) → DimensionL d ps → DimensionAt n d ps
  dimension_to d ps b =
      let is : d ≡ roll-Dimension (record { place = b.first; size = b.right.first }) = b.right.right.right.tree_is in
      record {
        grammar = ap is_dimension_tree is ∙ is_Dimension b.first b.right.first ∙ b.right.left.grammar;
        wants = onto b.whole b.left.one (onto b.right.whole b.right.left.wants (onto b.right.right.whole b.right.right.left.one b.right.right.right.none)) ∙ dimension_flat b.first b.right.first ∙ ap (λ u. wants_of_dimension u n) (sym is);
      }

  dimension_from : (d : Dimension) (ps : List Piece) → DimensionAt n d ps → DimensionL d ps
  dimension_from = cases_Dimension (λ d. (ps : List Piece) → DimensionAt n d ps → DimensionL d ps)
      (λ place amount ps is.
      subst (λ u. DimensionL (roll-Dimension (record { place = place; size = amount })) u) (dimension_flat place amount ∙ sym is.wants)
      (in_both _ _ _ _ _ place (in_single (spelt_at Mark (codes "[") n) place)
      (in_both _ _ _ _ _ amount (record { grammar = sym (is_Dimension place amount) ∙ is.grammar; wants = refl })
      (in_both _ _ _ _ _ tt (in_single (spelt Mark (codes "]") n) tt) (in_given (roll-Dimension (record { place = place; size = amount })))))))

  pub dimension_begins : Begins (DimensionAt n) (is_mark (codes "[")) true
  unfolding IsWanted
  dimension_begins d ps front rest is fits =
      begins_both _ _ (is_mark (codes "[")) true (begins_single (spelt_at Mark (codes "[") n) (is_mark (codes "[")) true (λ place w takes. spelled_yes Mark (codes "[") w takes.0.0 takes.0.1)) d ps front rest (dimension_from d ps is) fits

  dimension_some : (d : Dimension) (ps : List Piece) → DimensionAt n d ps → 0 < length ps
  dimension_some d ps is = let b = dimension_from d ps is in omega (arith, ap length b.whole, ap length b.left.one, length-append b.pieces1 b.pieces2)

  abbrev pub DimensionsAt : Language (List Dimension)
  DimensionsAt = AllOf is_dimension_tree wants_of_dimension n

  pub dimensions_reads : Reads DimensionsAt most size StopsDimensions (read_dimensions size left read)
  unfolding read_dimensions
  dimensions_reads =
      reads_as (all_to is_dimension_tree wants_of_dimension n) (all_from is_dimension_tree wants_of_dimension n)
      (many_reads (DimensionAt n) most size Any StopsDimensions (is_mark (codes "[")) (read_dimension left read) (reads_as dimension_to dimension_from dimension_read) dimension_begins (λ ts h. tt) (λ ts h. tt) (λ ts h. h) dimension_some)

  pub some_dimensions : SomeOf DimensionsAt
  unfolding all_of
  some_dimensions = ([], ([], record { grammar = refl; wants = refl }))

  abbrev DimensionedL : Language StructDeclarator
  DimensionedL = Both (Single (named Name n)) (λ name. Both DimensionsAt (λ dimensions. Given (roll-StructDeclarator (record { name = name; dimensions = dimensions }))))

  dimensioned_read : Reads DimensionedL most size StopsDimensions (read_dimensioned size left read)
  unfolding read_dimensioned
  dimensioned_read =
      bind_reads _ _ most size Any StopsDimensions _ _ (named_reads most size Any Name n left level)
      (λ name. bind_reads _ _ most size StopsDimensions StopsDimensions _ _ dimensions_reads (λ dimensions. give_reads (roll-StructDeclarator (record { name = name; dimensions = dimensions })) most size StopsDimensions)
      (λ dimensions ps is. some_given _)
      (λ dimensions c qs ys rest is fits stop. given_stops (roll-StructDeclarator (record { name = name; dimensions = dimensions })) c qs ys rest StopsDimensions is fits stop))
      (λ name ps is. some_both _ _ some_dimensions (λ dimensions. some_given (roll-StructDeclarator (record { name = name; dimensions = dimensions }))))
      (λ name c qs ys rest is fits stop. tt)

  dimensioned_flat : (name : Identifier) (dimensions : List Dimension) → (named Name n name ∷ []) ++ (all_of (map wants_of_dimension dimensions) n ++ []) ≡ wants_of_dimensioned (roll-StructDeclarator (record { name = name; dimensions = dimensions })) n
  dimensioned_flat name dimensions = join2 (named Name n name ∷ []) (all_of (map wants_of_dimension dimensions) n) ∙ sym (ap (λ f. f n) (wants_StructDeclarator name dimensions))

  dimensioned_to : (d : StructDeclarator) (ps : List Piece) → DimensionedL d ps → DimensionedAt n d ps
  dimensioned_to d ps b =
      let is : d ≡ roll-StructDeclarator (record { name = b.first; dimensions = b.right.first }) = b.right.right.tree_is in
      record {
        grammar = ap is_dimensioned_tree is ∙ is_StructDeclarator b.first b.right.first ∙ list_all_map is_dimension_tree (λ u. u) b.right.first ∙ b.right.left.grammar;
        wants = onto b.whole b.left.one (onto b.right.whole b.right.left.wants b.right.right.none) ∙ dimensioned_flat b.first b.right.first ∙ ap (λ u. wants_of_dimensioned u n) (sym is);
      }

  dimensioned_from : (d : StructDeclarator) (ps : List Piece) → DimensionedAt n d ps → DimensionedL d ps
  dimensioned_from = cases_StructDeclarator (λ d. (ps : List Piece) → DimensionedAt n d ps → DimensionedL d ps)
      (λ name dimensions ps is.
      subst (λ u. DimensionedL (roll-StructDeclarator (record { name = name; dimensions = dimensions })) u) (dimensioned_flat name dimensions ∙ sym is.wants)
      (in_both _ _ _ _ _ name (in_single (named Name n) name)
      (in_both _ _ _ _ _ dimensions (record { grammar = sym (list_all_map is_dimension_tree (λ u. u) dimensions) ∙ sym (is_StructDeclarator name dimensions) ∙ is.grammar; wants = refl }) (in_given (roll-StructDeclarator (record { name = name; dimensions = dimensions }))))))

  pub dimensioned_reads : Reads (DimensionedAt n) most size StopsDimensions (read_dimensioned size left read)
  dimensioned_reads = reads_as dimensioned_to dimensioned_from dimensioned_read

  pub some_dimensioned : SomeOf (DimensionedAt n)
  some_dimensioned =
      let x = some_both (Single (named Name n)) (λ name. Both DimensionsAt (λ dimensions. Given (roll-StructDeclarator (record { name = name; dimensions = dimensions })))) (some_single (named Name n) no_name) (λ name. some_both _ _ some_dimensions (λ dimensions. some_given (roll-StructDeclarator (record { name = name; dimensions = dimensions })))) in
      (x.0, (x.1.0, dimensioned_to x.0 x.1.0 x.1.1))
