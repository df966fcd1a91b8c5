-- The readers of declared objects of one type in three forms, which other readers compose: whole, after the type, and after the first
-- declared name. Each is read, and what is read is one; whole objects are a type and the objects of it, and these are a pointer, a name
-- and what stands after it.
use Rattle.std.proofs.Common.{◌≡◌, ℕ, ◌+◌, Bool, true, false, ◌&&◌, ◌||◌, List, [], ◌∷◌, ◌++◌, map, Option, refl, sym, ap, ◌∙◌, subst, codes, append_assoc}
use Rattle.std.proofs.lemmas.List.{append-nil}
use Rattle.std.specs.List.{list_all}
use Rattle.c_tree.specs.Pieces.{Piece, separated, name}
use Rattle.c_tree.specs.Folds.{wants_of_specs, are_specs}
use Rattle.c_tree.specs.Expressions.{has_some}
use Rattle.c_tree.specs.Declarations.{wants_of_pointer, wants_of_declarator, wants_of_objects, is_declarator, are_objects}
use Rattle.c_tree.specs.declared.token.Token.{Token}
use Rattle.c_tree.specs.declared.token.TokenKind.{TokenKind}
use Rattle.c_tree.specs.declared.token.TokenKind.TheVariants.{Mark, Name}
use Rattle.c_tree.specs.declared.expressions.Identifier.{Identifier}
use Rattle.c_tree.specs.declared.expressions.Specifiers.{Specifiers}
use Rattle.c_tree.specs.declared.statements.Pointer.{Pointer}
use Rattle.c_tree.specs.declared.statements.InitDeclarator.{InitDeclarator}
use Rattle.c_tree.specs.declared.statements.Declaration.{Declaration}
use Rattle.c_reader.specs.Tokens.{is_mark, is_spelled, is_kind, spelled_by, found_by, found_in}
use Rattle.c_grammar.specs.Tokens.{type_goes_on, type_goes_by}
use Rattle.c_reader.proofs.Reader.{Language, Of, Reads}
use Rattle.c_reader.proofs.Binding.{Both, bind_reads}
use Rattle.c_reader.proofs.Giving.{Given, give_reads, reads_as}
use Rattle.c_reader.proofs.Taking.{Single}
use Rattle.c_reader.proofs.Choosing.{FirstIs}
use Rattle.c_reader.proofs.Repeating.{given_stops}
use Rattle.c_reader.proofs.Beginning.{Begins, SomeOf, begins_both, some_both, some_single, some_given}
use Rattle.c_reader.proofs.Joining.{in_both, in_single, onto}
use Rattle.c_reader.proofs.Listing.{separated_rest, separated_is}
use Rattle.c_reader.proofs.Spelt.{named, named_reads}
use Rattle.c_grammar.proofs.Typing.{SuitsType, begins_type}
use Rattle.c_grammar.proofs.Suffixes.{SpecsAt, StopsType, Any, no_name}
use Rattle.c_grammar.proofs.Primaries.{first_from}
use Rattle.c_grammar.proofs.Members.{some_specs}
use Rattle.c_grammar.proofs.Levels.{all_read}
use Rattle.c_reader.proofs.Truths.{not_true, and_left, and_right, and_both}
use Rattle.c_decl.specs.Declarations.{read_declarator, read_objects_after, read_objects_of, read_objects}
use Rattle.c_decl.proofs.Following.{RestOf, some_rest, rest_stops, rest_reads}
use Rattle.c_decl.proofs.Pointing.{PointerAt, StopsPointer, some_pointer, pointed_begins, pointer_reads}
use Rattle.c_decl.proofs.Declaring.{StopsDeclarator, DeclaratorFollowed, wants_following, declarator_flat, name_begins, name_stops, some_declarator_following, some_declarator, declarator_following_reads, declarator_reads}

-- declared objects stand before a semicolon
abbrev pub StopsObjects : List Token → Type 0
StopsObjects = FirstIs (is_mark (codes ";")) true

abbrev pub ObjectsAt : ℕ → Language Declaration
ObjectsAt n = Of are_objects (λ o. wants_of_objects o n)

-- the objects of this type, with what stands after it; whether the type is of the grammar isn't asked here
pub record ObjectsOf (n : ℕ) (specs : Specifiers) (objects : Declaration) (pieces : List Piece) : Type 0 where
  pub specs_is : objects.specs ≡ specs
  pub grammar : (has_some objects.declarators && list_all is_declarator objects.declarators) ≡ true
  pub wants : pieces ≡ separated (codes ",") (map wants_of_declarator objects.declarators) n

abbrev pub declared_as : Specifiers → List InitDeclarator → Declaration
declared_as specs declarators = record { specs = specs; declarators = declarators }

-- what stands after the first declared name
abbrev pub wants_following_first : InitDeclarator → List InitDeclarator → ℕ → List Piece
wants_following_first first rest n = wants_following first n ++ separated_rest is_declarator wants_of_declarator n (codes ",") rest

-- the objects of this type of which the first has this pointer and name, with what stands after that name
pub record ObjectsFollowed (n : ℕ) (specs : Specifiers) (pointer : Option Pointer) (name : Identifier) (objects : Declaration) (pieces : List Piece) : Type 0 where
  pub first : InitDeclarator
  pub rest : List InitDeclarator
  pub is : objects ≡ declared_as specs (first ∷ rest)
  pub pointer_is : first.pointer ≡ pointer
  pub name_is : first.name ≡ name
  pub grammar : list_all is_declarator (first ∷ rest) ≡ true
  pub wants : pieces ≡ wants_following_first first rest n

comma_ends : (ts : List Token) → FirstIs (is_mark (codes ",")) true ts → StopsDeclarator ts
unfolding spelled_by is_spelled is_kind
comma_ends = first_from Mark (codes ",") (λ k t. spelled_by Mark (codes ",") k t || spelled_by Mark (codes ";") k t) true refl

semicolon_ends : (ts : List Token) → StopsObjects ts → StopsDeclarator ts
unfolding spelled_by is_spelled is_kind
semicolon_ends = first_from Mark (codes ";") (λ k t. spelled_by Mark (codes ",") k t || spelled_by Mark (codes ";") k t) true refl

no_comma : (ts : List Token) → StopsObjects ts → FirstIs (is_mark (codes ",")) false ts
unfolding spelled_by is_spelled is_kind
no_comma = first_from Mark (codes ";") (spelled_by Mark (codes ",")) false refl

module _ (n : ℕ) where
  -- ---- after the first name

  abbrev Rest : Language (List InitDeclarator)
  Rest = RestOf is_declarator wants_of_declarator n (codes ",")

  abbrev FollowedL : Specifiers → Option Pointer → Identifier → Language Declaration
  FollowedL specs pointer name = Both (DeclaratorFollowed n pointer name) (λ first. Both Rest (λ rest. Given (declared_as specs (first ∷ rest))))

  following_to : (specs : Specifiers) (pointer : Option Pointer) (name : Identifier) (o : Declaration) (ps : List Piece) → FollowedL specs pointer name o ps → ObjectsFollowed n specs pointer name o ps
  following_to specs pointer name o ps b =
      let rest = b.right in
      record {
        first = b.first;
        rest = rest.first;
        is = rest.right.tree_is;
        pointer_is = b.left.pointer_is;
        name_is = b.left.name_is;
        grammar = and_both (is_declarator b.first) (list_all is_declarator rest.first) b.left.grammar rest.left.grammar;
        wants = onto b.whole b.left.wants (onto rest.whole rest.left.wants rest.right.none ∙ append-nil (separated_rest is_declarator wants_of_declarator n (codes ",") rest.first));
      }

  following_from : (specs : Specifiers) (pointer : Option Pointer) (name : Identifier) (o : Declaration) (ps : List Piece) → ObjectsFollowed n specs pointer name o ps → FollowedL specs pointer name o ps
  following_from specs pointer name o ps x =
      let following = separated_rest is_declarator wants_of_declarator n (codes ",") x.rest in
      subst (λ u. FollowedL specs pointer name o u) (ap (λ u. wants_following x.first n ++ u) (append-nil following) ∙ sym x.wants)
      (in_both _ _ _ _ _ x.first (record { pointer_is = x.pointer_is; name_is = x.name_is; grammar = and_left (is_declarator x.first) (list_all is_declarator x.rest) x.grammar; wants = refl })
      (in_both _ _ _ _ _ x.rest (record { grammar = and_right (is_declarator x.first) (list_all is_declarator x.rest) x.grammar; wants = refl }) (record { tree_is = x.is; none = refl })))

  some_after : (specs : Specifiers) (first : InitDeclarator) → SomeOf (Both Rest (λ rest. Given (declared_as specs (first ∷ rest))))
  some_after specs first = some_both _ _ (some_rest is_declarator wants_of_declarator n (codes ",")) (λ rest. some_given (declared_as specs (first ∷ rest)))

  pub some_objects_following : (specs : Specifiers) (pointer : Option Pointer) (name : Identifier) → SomeOf (ObjectsFollowed n specs pointer name)
  some_objects_following specs pointer name =
      let x = some_both (DeclaratorFollowed n pointer name) (λ first. Both Rest (λ rest. Given (declared_as specs (first ∷ rest)))) (some_declarator_following n pointer name) (some_after specs) in
      (x.0, (x.1.0, following_to specs pointer name x.0 x.1.0 x.1.1))

  -- ---- after the type: a pointer, a name and what stands after it

  abbrev pub NamedL : Specifiers → Option Pointer → Language Declaration
  NamedL specs pointer = Both (Single (named Name n)) (λ name. ObjectsFollowed n specs pointer name)

  abbrev pub PointedL : Specifiers → Language Declaration
  PointedL specs = Both (PointerAt n) (NamedL specs)

  first_flat : (first : InitDeclarator) (rest : List InitDeclarator) → wants_of_pointer first.pointer n ++ (name first.name n ++ wants_following_first first rest n) ≡ separated (codes ",") (map wants_of_declarator (first ∷ rest)) n
  first_flat first rest =
      let following = separated_rest is_declarator wants_of_declarator n (codes ",") rest in
      ap (λ u. wants_of_pointer first.pointer n ++ u) (sym (append_assoc (name first.name n) (wants_following first n) following))
      ∙ sym (append_assoc (wants_of_pointer first.pointer n) (name first.name n ++ wants_following first n) following)
      ∙ ap (λ u. u ++ following) (declarator_flat n first) ∙ separated_is is_declarator wants_of_declarator n (codes ",") first rest

  pub pointed_to : (specs : Specifiers) (o : Declaration) (ps : List Piece) → PointedL specs o ps → ObjectsOf n specs o ps
  pointed_to specs o ps b =
      let x = b.right.right in
      record {
        specs_is = ap (λ u. u.specs) x.is;
        grammar = ap (λ u. has_some u.declarators && list_all is_declarator u.declarators) x.is ∙ x.grammar;
        wants = onto b.whole (b.left.wants ∙ ap (λ u. wants_of_pointer u n) (sym x.pointer_is)) (onto b.right.whole (b.right.left.one ∙ ap (λ u. name u n) (sym x.name_is)) x.wants)
            ∙ first_flat x.first x.rest ∙ ap (λ u. separated (codes ",") (map wants_of_declarator u.declarators) n) (sym x.is);
      }

  pointed_own : (specs : Specifiers) (declarators : List InitDeclarator) (ps : List Piece) → (has_some declarators && list_all is_declarator declarators) ≡ true → ps ≡ separated (codes ",") (map wants_of_declarator declarators) n → PointedL specs (declared_as specs declarators) ps
  pointed_own specs [] ps grammar wants = absurd (not_true grammar)
  pointed_own specs (first ∷ rest) ps grammar wants =
      subst (λ u. PointedL specs (declared_as specs (first ∷ rest)) u) (first_flat first rest ∙ sym wants)
      (in_both _ _ _ _ _ first.pointer (record { grammar = refl; wants = refl })
      (in_both _ _ _ _ _ first.name (in_single (named Name n) first.name) (record { first = first; rest = rest; is = refl; pointer_is = refl; name_is = refl; grammar = grammar; wants = refl })))

  pub pointed_from : (specs : Specifiers) (o : Declaration) (ps : List Piece) → ObjectsOf n specs o ps → PointedL specs o ps
  pointed_from specs o ps x = subst (λ u. PointedL u o ps) x.specs_is (pointed_own o.specs o.declarators ps x.grammar x.wants)

  some_named : (specs : Specifiers) (pointer : Option Pointer) → SomeOf (NamedL specs pointer)
  some_named specs pointer = some_both _ _ (some_single (named Name n) no_name) (some_objects_following specs pointer)

  pub some_objects_of : (specs : Specifiers) → SomeOf (ObjectsOf n specs)
  some_objects_of specs =
      let x = some_both (PointerAt n) (NamedL specs) (some_pointer n) (some_named specs) in
      (x.0, (x.1.0, pointed_to specs x.0 x.1.0 x.1.1))

  -- they begin with a star or a name
  pub begins_objects_of : (specs : Specifiers) (by : TokenKind → List ℕ → Bool) (b : Bool) → by Mark (codes "*") ≡ b → ((text : List ℕ) → by Name text ≡ b) → Begins (ObjectsOf n specs) (λ w. by w.kind w.text) b
  begins_objects_of specs by b star is_name_ o ps front rest is fits =
      pointed_begins n (NamedL specs) by b star (λ pointer. name_begins n (λ name. ObjectsFollowed n specs pointer name) by b is_name_) o ps front rest (pointed_from specs o ps is) fits

  -- ---- whole objects: a type and the objects of it

  abbrev pub TypedL : Language Declaration
  TypedL = Both (SpecsAt n) (ObjectsOf n)

  pub typed_to : (o : Declaration) (ps : List Piece) → TypedL o ps → ObjectsAt n o ps
  unfolding are_objects wants_of_objects
  typed_to o ps b =
      let x = b.right in
      record {
        grammar = and_both (are_specs o.specs && has_some o.declarators) (list_all is_declarator o.declarators)
            (and_both (are_specs o.specs) (has_some o.declarators) (ap are_specs x.specs_is ∙ b.left.grammar) (and_left (has_some o.declarators) (list_all is_declarator o.declarators) x.grammar))
            (and_right (has_some o.declarators) (list_all is_declarator o.declarators) x.grammar);
        wants = onto b.whole (b.left.wants ∙ ap (λ u. wants_of_specs u n) (sym x.specs_is)) x.wants;
      }

  pub typed_from : (o : Declaration) (ps : List Piece) → ObjectsAt n o ps → TypedL o ps
  unfolding are_objects wants_of_objects
  typed_from o ps is =
      let two = and_left (are_specs o.specs && has_some o.declarators) (list_all is_declarator o.declarators) is.grammar in
      let all = and_right (are_specs o.specs && has_some o.declarators) (list_all is_declarator o.declarators) is.grammar in
      subst (λ u. TypedL o u) (sym is.wants)
      (in_both _ _ _ _ _ o.specs (record { grammar = and_left (are_specs o.specs) (has_some o.declarators) two; wants = refl })
      (record { specs_is = refl; grammar = and_both (has_some o.declarators) (list_all is_declarator o.declarators) (and_right (are_specs o.specs) (has_some o.declarators) two) all; wants = refl }))

  pub some_objects : SomeOf (ObjectsAt n)
  some_objects =
      let x = some_both (SpecsAt n) (ObjectsOf n) (some_specs n) some_objects_of in
      (x.0, (x.1.0, typed_to x.0 x.1.0 x.1.1))

  pub begins_objects : (by : TokenKind → List ℕ → Bool) (b : Bool) → SuitsType by b → Begins (ObjectsAt n) (λ w. by w.kind w.text) b
  begins_objects by b suits o ps front rest is fits = begins_both _ _ (λ w. by w.kind w.text) b (begins_type by b suits n) o ps front rest (typed_from o ps is) fits

-- no type goes on with the objects of it
pub objects_stop_type : (n : ℕ) (specs : Specifiers) → Begins (ObjectsOf n specs) type_goes_on false
unfolding type_goes_by spelled_by found_by found_in
objects_stop_type n specs = begins_objects_of n specs type_goes_by false refl (λ t. refl)

-- ---- the readers

module _ (most size n left : ℕ) (level : n + left ≡ most + 1) where
  pub objects_following_reads : (specs : Specifiers) (pointer : Option Pointer) (name : Identifier) → Reads (ObjectsFollowed n specs pointer name) most size StopsObjects (read_objects_after size left specs pointer name)
  unfolding read_objects_after
  objects_following_reads specs pointer name =
      reads_as (following_to n specs pointer name) (following_from n specs pointer name)
      (bind_reads _ _ most size StopsDeclarator StopsObjects _ _ (declarator_following_reads most size n left level pointer name)
      (λ first. bind_reads _ _ most size StopsObjects StopsObjects _ _ (rest_reads is_declarator wants_of_declarator n (codes ",") most size left level StopsDeclarator StopsObjects (read_declarator size left) (declarator_reads most size n left level) (some_declarator n) comma_ends semicolon_ends no_comma)
      (λ rest. give_reads (declared_as specs (first ∷ rest)) most size StopsObjects)
      (λ rest ps is. some_given (declared_as specs (first ∷ rest)))
      (λ rest c qs ys more is fits stop. given_stops (declared_as specs (first ∷ rest)) c qs ys more StopsObjects is fits stop))
      (λ first ps is. some_after n specs first)
      (λ first c qs ys more is fits stop. rest_stops is_declarator wants_of_declarator n (codes ",") (λ rest. declared_as specs (first ∷ rest)) StopsDeclarator StopsObjects comma_ends semicolon_ends c qs ys more is fits stop))

  pub objects_of_reads : (specs : Specifiers) → Reads (ObjectsOf n specs) most size StopsObjects (read_objects_of size left specs)
  unfolding read_objects_of
  objects_of_reads specs =
      reads_as (pointed_to n specs) (pointed_from n specs)
      (bind_reads _ _ most size StopsPointer StopsObjects _ _ (pointer_reads most size n left level)
      (λ pointer. bind_reads _ _ most size Any StopsObjects _ _ (named_reads most size Any Name n left level) (objects_following_reads specs pointer)
      (λ name ps is. some_objects_following n specs pointer name)
      (λ name c qs ys rest is fits stop. tt))
      (λ pointer ps is. some_named n specs pointer)
      (λ pointer c qs ys rest is fits stop. name_stops n (λ name. ObjectsFollowed n specs pointer name) c qs ys rest is fits))

  pub objects_reads : Reads (ObjectsAt n) most size StopsObjects (read_objects size left)
  unfolding read_objects
  objects_reads =
      reads_as (typed_to n) (typed_from n)
      (bind_reads _ _ most size StopsType StopsObjects _ _ (all_read most size left n level).specs objects_of_reads
      (λ specs ps is. some_objects_of n specs)
      (λ specs c qs ys rest is fits stop. objects_stop_type n specs c qs ys rest is fits))
