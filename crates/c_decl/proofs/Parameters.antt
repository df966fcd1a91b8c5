-- The readers of parameters: each list of them is read, and what is read is one. Parameters are a type and what stands after it; a void
-- with nothing else is the empty list where a closing bracket follows.
use Rattle.std.proofs.Common.{◌≡◌, ℕ, ◌+◌, Bool, true, false, ◌||◌, List, [], ◌∷◌, ◌++◌, map, Option, Some, None, refl, sym, ap, ◌∙◌, subst, codes, append_assoc}
use Rattle.std.proofs.lemmas.List.{append-nil}
use Rattle.std.specs.List.{list_all}
use Rattle.c_tree.specs.Pieces.{Piece, Fits, all_of, name}
use Rattle.c_tree.specs.Folds.{wants_of_specs, wants_of_dimension, are_specs, is_dimension_tree}
use Rattle.c_tree.specs.Declarations.{wants_of_pointer, wants_of_parameter, wants_of_parameters, is_parameter, are_parameters}
use Rattle.c_tree.specs.declared.token.Place.{Place}
use Rattle.c_tree.specs.declared.token.Token.{Token}
use Rattle.c_tree.specs.declared.token.TokenKind.{TokenKind}
use Rattle.c_tree.specs.declared.token.TokenKind.TheVariants.{Mark, Name}
use Rattle.c_tree.specs.declared.expressions.Identifier.{Identifier}
use Rattle.c_tree.specs.declared.expressions.Dimension.{Dimension}
use Rattle.c_tree.specs.declared.expressions.Specifiers.{Specifiers}
use Rattle.c_tree.specs.declared.statements.Pointer.{Pointer}
use Rattle.c_tree.specs.declared.programs.Parameter.{Parameter}
use Rattle.c_tree.specs.declared.programs.Parameters.{Parameters}
use Rattle.c_tree.specs.declared.programs.Parameters.TheVariants as parameters
use Rattle.c_reader.specs.Reading.{◌>>=◌, give}
use Rattle.c_reader.specs.Tokens.{is_mark, is_spelled, is_kind, spelled_by, found_by, found_in}
use Rattle.c_grammar.specs.Tokens.{type_goes_by}
use Rattle.c_grammar.specs.Levels.{readers_at}
use Rattle.c_reader.proofs.Reader.{Language, Of, Reads}
use Rattle.c_reader.proofs.Binding.{Both, bind_reads}
use Rattle.c_reader.proofs.Giving.{Given, give_reads, reads_as}
use Rattle.c_reader.proofs.Taking.{Single}
use Rattle.c_reader.proofs.Choosing.{FirstIs, Either, this, that, choose_reads}
use Rattle.c_reader.proofs.Repeating.{given_stops}
use Rattle.c_reader.proofs.Beginning.{Begins, begins_both, SomeOf, some_both, some_single, some_given}
use Rattle.c_reader.proofs.Joining.{in_both, in_single, in_given, onto}
use Rattle.c_reader.proofs.Listing.{AllOf, separated_rest, separated_is}
use Rattle.c_reader.proofs.Spelt.{named, named_reads}
use Rattle.c_grammar.proofs.Typing.{SuitsType, begins_type, word_all}
use Rattle.c_grammar.proofs.Suffixes.{SpecsAt, StopsType, Any, no_name}
use Rattle.c_grammar.proofs.Primaries.{first_from}
use Rattle.c_grammar.proofs.Members.{some_specs}
use Rattle.c_grammar.proofs.Dimensioning.{StopsDimensions, dimensions_reads}
use Rattle.c_grammar.proofs.Levels.{all_read}
use Rattle.c_reader.proofs.Truths.{not_true, and_left, and_right, and_both}
use Rattle.c_decl.specs.Bare.{void_of}
use Rattle.c_decl.specs.Parameters.{read_parameter_of, read_parameter, read_parameters_of, read_parameters_after, read_parameters}
use Rattle.c_decl.proofs.Ending.{Ends, end_from}
use Rattle.c_decl.proofs.Baring.{bare_void, void_wanted, void_grammar, void_found, void_is}
use Rattle.c_decl.proofs.Following.{RestOf, some_rest, rest_stops, rest_reads}
use Rattle.c_decl.proofs.Pointing.{PointerAt, StopsPointer, some_pointer, pointed_begins, pointer_reads}
use Rattle.c_decl.proofs.Declaring.{name_begins, name_stops}

abbrev pub ParameterAt : ℕ → Language Parameter
ParameterAt n = Of is_parameter (λ p. wants_of_parameter p n)

abbrev pub ParametersAt : ℕ → Language Parameters
ParametersAt n = Of are_parameters (λ t. wants_of_parameters t n)

-- a parameter stands before a comma or a closing bracket, and parameters before a closing bracket
abbrev pub StopsParameter : List Token → Type 0
StopsParameter = Ends (codes ",") (codes ")")

abbrev pub StopsParameters : List Token → Type 0
StopsParameters = FirstIs (is_mark (codes ")")) true

abbrev declared : Specifiers → Option Pointer → Identifier → List Dimension → Parameter
declared specs pointer name dimensions = record { specs = specs; pointer = pointer; name = name; dimensions = dimensions }

-- what stands after the type of a parameter
abbrev pub wants_untyped : Parameter → ℕ → List Piece
wants_untyped p n = wants_of_pointer p.pointer n ++ (name p.name n ++ all_of (map wants_of_dimension p.dimensions) n)

-- the parameters of this type, with what stands after it; whether the type is of the grammar isn't asked here
pub record ParameterOf (n : ℕ) (specs : Specifiers) (p : Parameter) (pieces : List Piece) : Type 0 where
  pub specs_is : p.specs ≡ specs
  pub grammar : list_all is_dimension_tree p.dimensions ≡ true
  pub wants : pieces ≡ wants_untyped p n

end_stops : (ts : List Token) → StopsParameter ts → StopsDimensions ts
unfolding spelled_by is_spelled is_kind
end_stops = end_from (codes ",") (codes ")") (spelled_by Mark (codes "[")) false refl refl

comma_ends : (ts : List Token) → FirstIs (is_mark (codes ",")) true ts → StopsParameter ts
unfolding spelled_by is_spelled is_kind
comma_ends = first_from Mark (codes ",") (λ k t. spelled_by Mark (codes ",") k t || spelled_by Mark (codes ")") k t) true refl

bracket_ends : (ts : List Token) → StopsParameters ts → StopsParameter ts
unfolding spelled_by is_spelled is_kind
bracket_ends = first_from Mark (codes ")") (λ k t. spelled_by Mark (codes ",") k t || spelled_by Mark (codes ")") k t) true refl

no_comma : (ts : List Token) → StopsParameters ts → FirstIs (is_mark (codes ",")) false ts
unfolding spelled_by is_spelled is_kind
no_comma = first_from Mark (codes ")") (spelled_by Mark (codes ",")) false refl

bracket_stops_type : (ts : List Token) → StopsParameters ts → StopsType ts
unfolding type_goes_by spelled_by found_by found_in
bracket_stops_type = first_from Mark (codes ")") type_goes_by false refl

-- no type begins with a closing bracket
no_bracket : SuitsType (spelled_by Mark (codes ")")) false
unfolding spelled_by
no_bracket = record { constant = refl; word = word_all (spelled_by Mark (codes ")")) false refl refl refl refl refl refl refl refl refl refl refl refl refl refl refl refl refl; struct_ = refl; enum_ = refl; type_name = λ t. refl }

module _ (n : ℕ) where
  -- ---- one parameter

  abbrev DimensionsAt : Language (List Dimension)
  DimensionsAt = AllOf is_dimension_tree wants_of_dimension n

  abbrev DimensionedL : Specifiers → Option Pointer → Identifier → Language Parameter
  DimensionedL specs pointer name = Both DimensionsAt (λ dimensions. Given (declared specs pointer name dimensions))

  abbrev NamedL : Specifiers → Option Pointer → Language Parameter
  NamedL specs pointer = Both (Single (named Name n)) (DimensionedL specs pointer)

  abbrev UntypedL : Specifiers → Language Parameter
  UntypedL specs = Both (PointerAt n) (NamedL specs)

  untyped_flat : (pointer : Option Pointer) (named_ : Identifier) (dimensions : List Dimension) → wants_of_pointer pointer n ++ (name named_ n ++ (all_of (map wants_of_dimension dimensions) n ++ [])) ≡ wants_of_pointer pointer n ++ (name named_ n ++ all_of (map wants_of_dimension dimensions) n)
  untyped_flat pointer named_ dimensions = ap (λ u. wants_of_pointer pointer n ++ (name named_ n ++ u)) (append-nil (all_of (map wants_of_dimension dimensions) n))

  untyped_to : (specs : Specifiers) (p : Parameter) (ps : List Piece) → UntypedL specs p ps → ParameterOf n specs p ps
  untyped_to specs p ps b =
      let c = b.right in
      let d = c.right in
      let is : p ≡ declared specs b.first c.first d.first = d.right.tree_is in
      record {
        specs_is = ap (λ u. u.specs) is;
        grammar = ap (λ u. list_all is_dimension_tree u.dimensions) is ∙ d.left.grammar;
        wants = onto b.whole b.left.wants (onto c.whole c.left.one (onto d.whole d.left.wants d.right.none)) ∙ untyped_flat b.first c.first d.first ∙ ap (λ u. wants_untyped u n) (sym is);
      }

  untyped_from : (specs : Specifiers) (p : Parameter) (ps : List Piece) → ParameterOf n specs p ps → UntypedL specs p ps
  untyped_from specs p ps x =
      subst (λ u. UntypedL u p ps) x.specs_is
      (subst (λ u. UntypedL p.specs p u) (untyped_flat p.pointer p.name p.dimensions ∙ sym x.wants)
      (in_both _ _ _ _ _ p.pointer (record { grammar = refl; wants = refl })
      (in_both _ _ _ _ _ p.name (in_single (named Name n) p.name)
      (in_both _ _ _ _ _ p.dimensions (record { grammar = x.grammar; wants = refl }) (in_given p)))))

  some_dimensions : SomeOf DimensionsAt
  unfolding all_of
  some_dimensions = ([], ([], record { grammar = refl; wants = refl }))

  some_dimensioned : (specs : Specifiers) (pointer : Option Pointer) (named_ : Identifier) → SomeOf (DimensionedL specs pointer named_)
  some_dimensioned specs pointer named_ = some_both _ _ some_dimensions (λ dimensions. some_given (declared specs pointer named_ dimensions))

  some_named : (specs : Specifiers) (pointer : Option Pointer) → SomeOf (NamedL specs pointer)
  some_named specs pointer = some_both _ _ (some_single (named Name n) no_name) (some_dimensioned specs pointer)

  some_parameter_of : (specs : Specifiers) → SomeOf (ParameterOf n specs)
  some_parameter_of specs =
      let x = some_both (PointerAt n) (NamedL specs) (some_pointer n) (some_named specs) in
      (x.0, (x.1.0, untyped_to specs x.0 x.1.0 x.1.1))

  parameter_of_begins : (specs : Specifiers) (by : TokenKind → List ℕ → Bool) (b : Bool) → by Mark (codes "*") ≡ b → ((text : List ℕ) → by Name text ≡ b) → Begins (ParameterOf n specs) (λ w. by w.kind w.text) b
  parameter_of_begins specs by b star is_name_ p ps front rest is fits = pointed_begins n (NamedL specs) by b star (λ pointer. name_begins n (DimensionedL specs pointer) by b is_name_) p ps front rest (untyped_from specs p ps is) fits

  abbrev TypedL : Language Parameter
  TypedL = Both (SpecsAt n) (ParameterOf n)

  parameter_flat : (p : Parameter) → wants_of_specs p.specs n ++ wants_untyped p n ≡ wants_of_parameter p n
  unfolding wants_of_parameter
  parameter_flat p =
      sym (append_assoc (wants_of_specs p.specs n) (wants_of_pointer p.pointer n) (name p.name n ++ all_of (map wants_of_dimension p.dimensions) n))
      ∙ sym (append_assoc (wants_of_specs p.specs n ++ wants_of_pointer p.pointer n) (name p.name n) (all_of (map wants_of_dimension p.dimensions) n))

  -- a parameter by its type and what stands after it
  whole : (specs : Specifiers) (p : Parameter) (ps : List Piece) → are_specs specs ≡ true → ParameterOf n specs p ps → ParameterAt n p (wants_of_specs specs n ++ ps)
  unfolding is_parameter
  whole specs p ps ok x =
      record {
        grammar = and_both (are_specs p.specs) (list_all is_dimension_tree p.dimensions) (ap are_specs x.specs_is ∙ ok) x.grammar;
        wants = ap (λ u. u ++ ps) (ap (λ u. wants_of_specs u n) (sym x.specs_is)) ∙ ap (λ u. wants_of_specs p.specs n ++ u) x.wants ∙ parameter_flat p;
      }

  untyped : (p : Parameter) → is_parameter p ≡ true → ParameterOf n p.specs p (wants_untyped p n)
  unfolding is_parameter
  untyped p ok = record { specs_is = refl; grammar = and_right (are_specs p.specs) (list_all is_dimension_tree p.dimensions) ok; wants = refl }

  specs_ok : (p : Parameter) → is_parameter p ≡ true → SpecsAt n p.specs (wants_of_specs p.specs n)
  unfolding is_parameter
  specs_ok p ok = record { grammar = and_left (are_specs p.specs) (list_all is_dimension_tree p.dimensions) ok; wants = refl }

  typed_to : (p : Parameter) (ps : List Piece) → TypedL p ps → ParameterAt n p ps
  typed_to p ps b = subst (λ u. ParameterAt n p u) (sym (b.whole ∙ ap (λ u. u ++ b.pieces2) b.left.wants)) (whole b.first p b.pieces2 b.left.grammar b.right)

  typed_from : (p : Parameter) (ps : List Piece) → ParameterAt n p ps → TypedL p ps
  typed_from p ps is = subst (λ u. TypedL p u) (parameter_flat p ∙ sym is.wants) (in_both _ _ _ _ _ p.specs (specs_ok p is.grammar) (untyped p is.grammar))

  some_parameter : SomeOf (ParameterAt n)
  some_parameter =
      let x = some_both (SpecsAt n) (ParameterOf n) (some_specs n) some_parameter_of in
      (x.0, (x.1.0, typed_to x.0 x.1.0 x.1.1))

  -- ---- what stands between the brackets

  abbrev Rest : Language (List Parameter)
  Rest = RestOf is_parameter wants_of_parameter n (codes ",")

  abbrev MoreL : Parameter → Language Parameters
  MoreL first = Both Rest (λ rest. Given (parameters.List (first ∷ rest)))

  abbrev ListL : Specifiers → Language Parameters
  ListL specs = Both (ParameterOf n specs) MoreL

  -- after a type, by the place of the void that it is alone, if it is one
  abbrev FollowedL : Option Place → Specifiers → Language Parameters
  FollowedL None specs = ListL specs
  FollowedL (Some place) specs = Either (Given (parameters.Void place)) (ListL specs)

  abbrev SomeL : Language Parameters
  SomeL = Both (SpecsAt n) (λ specs. FollowedL (void_of specs) specs)

  abbrev ParametersL : Language Parameters
  ParametersL = Either (Given parameters.Nothing) SomeL

  list_to : (specs : Specifiers) (t : Parameters) (ps : List Piece) → are_specs specs ≡ true → ListL specs t ps → ParametersAt n t (wants_of_specs specs n ++ ps)
  unfolding are_parameters wants_of_parameters
  list_to specs t ps ok b =
      let p = whole specs b.first b.pieces1 ok b.left in
      let rest = b.right in
      let following = separated_rest is_parameter wants_of_parameter n (codes ",") rest.first in
      let is : t ≡ parameters.List (b.first ∷ rest.first) = rest.right.tree_is in
      record {
        grammar = ap are_parameters is ∙ and_both (is_parameter b.first) (list_all is_parameter rest.first) p.grammar rest.left.grammar;
        wants = ap (λ u. wants_of_specs specs n ++ u) b.whole ∙ sym (append_assoc (wants_of_specs specs n) b.pieces1 b.pieces2) ∙ ap (λ u. u ++ b.pieces2) p.wants
            ∙ ap (λ u. wants_of_parameter b.first n ++ u) (onto rest.whole rest.left.wants rest.right.none ∙ append-nil following)
            ∙ separated_is is_parameter wants_of_parameter n (codes ",") b.first rest.first ∙ ap (λ u. wants_of_parameters u n) (sym is);
      }

  void_to : (specs : Specifiers) (place : Place) → void_of specs ≡ Some place → (t : Parameters) (ps : List Piece) → Given (parameters.Void place) t ps → ParametersAt n t (wants_of_specs specs n ++ ps)
  unfolding are_parameters wants_of_parameters
  void_to specs place void t ps is =
      record {
        grammar = ap are_parameters is.tree_is;
        wants = ap (λ u. wants_of_specs specs n ++ u) is.none ∙ append-nil (wants_of_specs specs n) ∙ ap (λ u. wants_of_specs u n) (void_is specs place void) ∙ void_wanted place n ∙ ap (λ u. wants_of_parameters u n) (sym is.tree_is);
      }

  following_to : (found : Option Place) (specs : Specifiers) → void_of specs ≡ found → are_specs specs ≡ true → (t : Parameters) (ps : List Piece) → FollowedL found specs t ps → ParametersAt n t (wants_of_specs specs n ++ ps)
  following_to None specs void ok t ps b = list_to specs t ps ok b
  following_to (Some place) specs void ok t ps (this is) = void_to specs place void t ps is
  following_to (Some place) specs void ok t ps (that b) = list_to specs t ps ok b

  parameters_to : (t : Parameters) (ps : List Piece) → ParametersL t ps → ParametersAt n t ps
  unfolding are_parameters wants_of_parameters
  parameters_to t ps (this is) = record { grammar = ap are_parameters is.tree_is; wants = is.none ∙ ap (λ u. wants_of_parameters u n) (sym is.tree_is) }
  parameters_to t ps (that b) =
      subst (λ u. ParametersAt n t u) (sym (b.whole ∙ ap (λ u. u ++ b.pieces2) b.left.wants)) (following_to (void_of b.first) b.first refl b.left.grammar t b.pieces2 b.right)

  list_following : (found : Option Place) (specs : Specifiers) (t : Parameters) (ps : List Piece) → ListL specs t ps → FollowedL found specs t ps
  list_following None specs t ps b = b
  list_following (Some place) specs t ps b = that b

  parameters_from : (t : Parameters) (ps : List Piece) → ParametersAt n t ps → ParametersL t ps
  unfolding are_parameters wants_of_parameters
  parameters_from parameters.Nothing ps is = this (record { tree_is = refl; none = is.wants })
  parameters_from (parameters.Void place) ps is =
      that (subst (λ u. SomeL (parameters.Void place) u) (append-nil (wants_of_specs (bare_void place) n) ∙ void_wanted place n ∙ sym is.wants)
      (in_both _ _ _ _ _ (bare_void place) (record { grammar = void_grammar place; wants = refl })
      (subst (λ u. FollowedL u (bare_void place) (parameters.Void place) []) (sym (void_found place)) (this (in_given (parameters.Void place))))))
  parameters_from (parameters.List []) ps is = absurd (not_true is.grammar)
  parameters_from (parameters.List (first ∷ rest)) ps is =
      let ok = and_left (is_parameter first) (list_all is_parameter rest) is.grammar in
      let following = separated_rest is_parameter wants_of_parameter n (codes ",") rest in
      that (subst (λ u. SomeL (parameters.List (first ∷ rest)) u)
      (ap (λ u. wants_of_specs first.specs n ++ (wants_untyped first n ++ u)) (append-nil following) ∙ sym (append_assoc (wants_of_specs first.specs n) (wants_untyped first n) following)
      ∙ ap (λ u. u ++ following) (parameter_flat first) ∙ separated_is is_parameter wants_of_parameter n (codes ",") first rest ∙ sym is.wants)
      (in_both _ _ _ _ _ first.specs (specs_ok first ok)
      (list_following (void_of first.specs) first.specs _ _
      (in_both _ _ _ _ _ first (untyped first ok)
      (in_both _ _ _ _ _ rest (record { grammar = and_right (is_parameter first) (list_all is_parameter rest) is.grammar; wants = refl }) (in_given (parameters.List (first ∷ rest))))))))

  pub some_parameters : SomeOf (ParametersAt n)
  unfolding are_parameters wants_of_parameters
  some_parameters = (parameters.Nothing, ([], record { grammar = refl; wants = refl }))

  some_more : (first : Parameter) → SomeOf (MoreL first)
  some_more first = some_both _ _ (some_rest is_parameter wants_of_parameter n (codes ",")) (λ rest. some_given (parameters.List (first ∷ rest)))

  some_following : (found : Option Place) (specs : Specifiers) → SomeOf (FollowedL found specs)
  some_following None specs = some_both _ _ (some_parameter_of specs) some_more
  some_following (Some place) specs = (parameters.Void place, ([], this (in_given (parameters.Void place))))

  list_begins : (specs : Specifiers) (by : TokenKind → List ℕ → Bool) (b : Bool) → by Mark (codes "*") ≡ b → ((text : List ℕ) → by Name text ≡ b) → Begins (ListL specs) (λ w. by w.kind w.text) b
  list_begins specs by b star is_name_ = begins_both _ _ (λ w. by w.kind w.text) b (parameter_of_begins specs by b star is_name_)

  following_stops : (found : Option Place) (specs : Specifiers) (t : Parameters) (qs : List Piece) (ys rest : List Token) → FollowedL found specs t qs → Fits qs ys → StopsParameters rest → StopsType (ys ++ rest)
  unfolding type_goes_by spelled_by found_by found_in
  following_stops None specs t qs ys rest b fits stop = list_begins specs type_goes_by false refl (λ x. refl) t qs ys rest b fits
  following_stops (Some place) specs t qs ys rest (this is) fits stop = given_stops (parameters.Void place) t qs ys rest StopsType is fits (bracket_stops_type rest stop)
  following_stops (Some place) specs t qs ys rest (that b) fits stop = list_begins specs type_goes_by false refl (λ x. refl) t qs ys rest b fits

-- ---- the readers

module _ (most size n left : ℕ) (level : n + left ≡ most + 1) where
  parameter_of_reads : (specs : Specifiers) → Reads (ParameterOf n specs) most size StopsParameter (read_parameter_of size left specs)
  unfolding read_parameter_of
  parameter_of_reads specs =
      reads_as (untyped_to n specs) (untyped_from n specs)
      (bind_reads _ _ most size StopsPointer StopsParameter _ _ (pointer_reads most size n left level)
      (λ pointer. bind_reads _ _ most size Any StopsParameter _ _ (named_reads most size Any Name n left level)
      (λ name. bind_reads _ _ most size StopsDimensions StopsParameter _ _ (dimensions_reads most size n left level (readers_at size left).expr (all_read most size left n level).expr)
      (λ dimensions. give_reads (declared specs pointer name dimensions) most size StopsParameter)
      (λ dimensions ps is. some_given (declared specs pointer name dimensions))
      (λ dimensions c qs ys rest is fits stop. given_stops (declared specs pointer name dimensions) c qs ys rest StopsDimensions is fits (end_stops rest stop)))
      (λ name ps is. some_dimensioned n specs pointer name)
      (λ name c qs ys rest is fits stop. tt))
      (λ pointer ps is. some_named n specs pointer)
      (λ pointer c qs ys rest is fits stop. name_stops n (DimensionedL n specs pointer) c qs ys rest is fits))

  pub parameter_reads : Reads (ParameterAt n) most size StopsParameter (read_parameter size left)
  unfolding read_parameter type_goes_by spelled_by found_by found_in
  parameter_reads =
      reads_as (typed_to n) (typed_from n)
      (bind_reads _ _ most size StopsType StopsParameter _ _ (all_read most size left n level).specs parameter_of_reads
      (λ specs ps is. some_parameter_of n specs)
      (λ specs c qs ys rest is fits stop. parameter_of_begins n specs type_goes_by false refl (λ t. refl) c qs ys rest is fits))

  list_read : (specs : Specifiers) → Reads (ListL n specs) most size StopsParameters (read_parameters_of size left specs)
  unfolding read_parameters_of
  list_read specs =
      bind_reads _ _ most size StopsParameter StopsParameters _ _ (parameter_of_reads specs)
      (λ first. bind_reads _ _ most size StopsParameters StopsParameters _ _ (rest_reads is_parameter wants_of_parameter n (codes ",") most size left level StopsParameter StopsParameters (read_parameter size left) parameter_reads (some_parameter n) comma_ends bracket_ends no_comma)
      (λ rest. give_reads (parameters.List (first ∷ rest)) most size StopsParameters)
      (λ rest ps is. some_given (parameters.List (first ∷ rest)))
      (λ rest c qs ys more is fits stop. given_stops (parameters.List (first ∷ rest)) c qs ys more StopsParameters is fits stop))
      (λ first ps is. some_more n first)
      (λ first c qs ys more is fits stop. rest_stops is_parameter wants_of_parameter n (codes ",") (λ rest. parameters.List (first ∷ rest)) StopsParameter StopsParameters comma_ends bracket_ends c qs ys more is fits stop)

  following_read : (found : Option Place) (specs : Specifiers) → Reads (FollowedL n found specs) most size StopsParameters (read_parameters_after size left specs found)
  unfolding spelled_by is_spelled is_kind
  following_read None specs = list_read specs
  following_read (Some place) specs =
      choose_reads (Given (parameters.Void place)) (ListL n specs) most size StopsParameters (is_mark (codes ")")) (give (parameters.Void place)) (read_parameters_of size left specs) (give_reads (parameters.Void place) most size StopsParameters) (list_read specs)
      (λ t ps front rest is fits stop. given_stops (parameters.Void place) t ps front rest StopsParameters is fits stop)
      (λ t ps front rest is fits stop. list_begins n specs (spelled_by Mark (codes ")")) false refl (λ x. refl) t ps front rest is fits)

  pub parameters_reads : Reads (ParametersAt n) most size StopsParameters (read_parameters size left)
  unfolding read_parameters spelled_by is_spelled is_kind
  parameters_reads =
      reads_as (parameters_to n) (parameters_from n)
      (choose_reads (Given parameters.Nothing) (SomeL n) most size StopsParameters (is_mark (codes ")")) (give parameters.Nothing) ((readers_at size left).specs >>= λ specs. read_parameters_after size left specs (void_of specs)) (give_reads parameters.Nothing most size StopsParameters)
      (bind_reads _ _ most size StopsType StopsParameters _ _ (all_read most size left n level).specs
      (λ specs. following_read (void_of specs) specs)
      (λ specs ps is. some_following n (void_of specs) specs)
      (λ specs c qs ys rest is fits stop. following_stops n (void_of specs) specs c qs ys rest is fits stop))
      (λ t ps front rest is fits stop. given_stops parameters.Nothing t ps front rest StopsParameters is fits stop)
      (λ t ps front rest is fits stop. begins_both _ _ (is_mark (codes ")")) false (begins_type (spelled_by Mark (codes ")")) false no_bracket n) t ps front rest is fits))
