-- The readers of declared objects with their initialisers, whole and after their names: each is read, and what is read is one.
use Rattle.std.proofs.Common.{◌≡◌, ℕ, ◌+◌, Bool, true, false, List, [], ◌∷◌, ◌++◌, map, Option, Some, None, refl, sym, ap, ◌∙◌, subst, codes}
use Rattle.std.proofs.lemmas.List.{append_assoc, append-nil}
use Rattle.std.specs.List.{list_all}
use Rattle.c_tree.specs.Pieces.{Piece, IsWanted, Fits, all_of, name}
use Rattle.c_tree.specs.Expressions.{Wants}
use Rattle.c_tree.specs.Folds.{wants_of_dimension, is_dimension_tree}
use Rattle.c_tree.specs.Declarations.{wants_of_pointer, wants_of_init, wants_of_start, wants_of_declarator, is_start, is_declarator}
use Rattle.c_tree.specs.declared.token.Place.{Place}
use Rattle.c_tree.specs.declared.token.Token.{Token}
use Rattle.c_tree.specs.declared.token.TokenKind.{TokenKind}
use Rattle.c_tree.specs.declared.token.TokenKind.TheVariants.{Mark, Name}
use Rattle.c_tree.specs.declared.expressions.Identifier.{Identifier}
use Rattle.c_tree.specs.declared.expressions.Dimension.{Dimension}
use Rattle.c_tree.specs.declared.statements.Pointer.{Pointer}
use Rattle.c_tree.specs.declared.statements.Initializer.{Initializer}
use Rattle.c_tree.specs.declared.statements.Initialization.{Initialization}
use Rattle.c_tree.specs.declared.statements.InitDeclarator.{InitDeclarator}
use Rattle.c_reader.specs.Reading.{Reader, ◌>>=◌, give}
use Rattle.c_reader.specs.Tokens.{is_mark, is_spelled, is_kind, spelled_by, found_by, found_in}
use Rattle.c_grammar.specs.Tokens.{goes_by, suffix_by}
use Rattle.c_grammar.specs.Levels.{readers_at}
use Rattle.c_reader.proofs.Reader.{Language, Of, Reads}
use Rattle.c_reader.proofs.Binding.{Both, bind_reads}
use Rattle.c_reader.proofs.Giving.{Given, give_reads, reads_as}
use Rattle.c_reader.proofs.Taking.{Single}
use Rattle.c_reader.proofs.Choosing.{FirstIs, Either, this, that, choose_reads}
use Rattle.c_reader.proofs.Repeating.{given_stops}
use Rattle.c_reader.proofs.Beginning.{Begins, begins_both, begins_single, SomeOf, some_both, some_single, some_given}
use Rattle.c_reader.proofs.Joining.{in_both, in_single, in_given, onto, join2}
use Rattle.c_reader.proofs.Listing.{AllOf}
use Rattle.c_reader.proofs.Spelt.{by_text, spelt_at, named, named_reads}
use Rattle.c_grammar.proofs.Suffixes.{Stops, Any, no_name}
use Rattle.c_grammar.proofs.Dimensioning.{StopsDimensions, dimensions_reads}
use Rattle.c_grammar.proofs.Levels.{all_read}
use Rattle.c_reader.proofs.Truths.{and_left, and_right, and_both}
use Rattle.c_decl.specs.Declarations.{read_init, read_started, read_start, read_declarator_after, read_declarator}
use Rattle.c_decl.proofs.Ending.{Ends, end_from}
use Rattle.c_decl.proofs.Refusing.{spelt_at_bind}
use Rattle.c_decl.proofs.Pointing.{PointerAt, StopsPointer, pointer_goes_by, some_pointer, pointer_reads}
use Rattle.c_decl.proofs.Initialising.{InitAt, some_init, init_reads}

abbrev pub StartAt : ℕ → Language (Option Initialization)
StartAt n = Of is_start (λ s. wants_of_start s n)

abbrev pub DeclaratorAt : ℕ → Language InitDeclarator
DeclaratorAt n = Of is_declarator (λ d. wants_of_declarator d n)

-- a declared object stands before a comma or a semicolon
abbrev pub StopsDeclarator : List Token → Type 0
StopsDeclarator = Ends (codes ",") (codes ";")

-- what stands after a declared name
abbrev pub wants_following : InitDeclarator → Wants
wants_following d n = all_of (map wants_of_dimension d.dimensions) n ++ wants_of_start d.start n

-- the declared objects of this pointer and name, with what stands after the name
pub record DeclaratorFollowed (n : ℕ) (pointer : Option Pointer) (name : Identifier) (d : InitDeclarator) (pieces : List Piece) : Type 0 where
  pub pointer_is : d.pointer ≡ pointer
  pub name_is : d.name ≡ name
  pub grammar : is_declarator d ≡ true
  pub wants : pieces ≡ wants_following d n

abbrev started : Place → Initializer → Option Initialization
started place value = Some (record { place = place; value = value })

abbrev declared : Option Pointer → Identifier → List Dimension → Option Initialization → InitDeclarator
declared pointer name dimensions start = record { pointer = pointer; name = name; dimensions = dimensions; start = start }

end_stops : (ts : List Token) → StopsDeclarator ts → Stops 0 ts
unfolding goes_by suffix_by spelled_by found_by found_in
end_stops = end_from (codes ",") (codes ";") (goes_by 0) false refl refl

end_is_no_equals : (ts : List Token) → StopsDeclarator ts → FirstIs (is_mark (codes "=")) false ts
unfolding spelled_by is_spelled is_kind
end_is_no_equals = end_from (codes ",") (codes ";") (spelled_by Mark (codes "=")) false refl refl

end_is_no_dimension : (ts : List Token) → StopsDeclarator ts → StopsDimensions ts
unfolding spelled_by is_spelled is_kind
end_is_no_dimension = end_from (codes ",") (codes ";") (spelled_by Mark (codes "[")) false refl refl

-- what a test says of a name, with which something begins
pub name_begins : {C : Type 0} (n : ℕ) (K : Identifier → Language C) (by : TokenKind → List ℕ → Bool) (b : Bool) → ((text : List ℕ) → by Name text ≡ b) → Begins (Both (Single (named Name n)) K) (λ w. by w.kind w.text) b
unfolding IsWanted
name_begins n K by b is = begins_both _ _ (λ w. by w.kind w.text) b (begins_single (named Name n) (λ w. by w.kind w.text) b (λ name w takes. ap (λ k. by k w.text) takes.0.0 ∙ is w.text))

-- a name after a pointer stops it
pub name_stops : {C : Type 0} (n : ℕ) (K : Identifier → Language C) → Begins (Both (Single (named Name n)) K) (λ w. pointer_goes_by w.kind w.text) false
unfolding pointer_goes_by spelled_by
name_stops n K = name_begins n K pointer_goes_by false (λ t. refl)

module _ (n : ℕ) where
  -- ---- initialisers after their marks

  abbrev StartedL : Language (Option Initialization)
  StartedL = Both (Single (spelt_at Mark (codes "=") n)) (λ place. Both (InitAt n) (λ value. Given (started place value)))

  abbrev StartL : Language (Option Initialization)
  StartL = Either StartedL (Given None)

  start_to : (s : Option Initialization) (ps : List Piece) → StartL s ps → StartAt n s ps
  unfolding is_start wants_of_start
  start_to s ps (this b) =
      record {
        grammar = ap is_start b.right.right.tree_is ∙ b.right.left.grammar;
        wants = onto b.whole b.left.one (onto b.right.whole b.right.left.wants b.right.right.none) ∙ join2 (spelt_at Mark (codes "=") n b.first ∷ []) (wants_of_init b.right.first n) ∙ ap (λ u. wants_of_start u n) (sym b.right.right.tree_is);
      }
  start_to s ps (that g) = record { grammar = ap is_start g.tree_is; wants = g.none ∙ ap (λ u. wants_of_start u n) (sym g.tree_is) }

  start_from : (s : Option Initialization) (ps : List Piece) → StartAt n s ps → StartL s ps
  unfolding is_start wants_of_start
  start_from None ps is = that (record { tree_is = refl; none = is.wants })
  start_from (Some s) ps is =
      this (subst (λ u. StartedL (Some s) u) (join2 (spelt_at Mark (codes "=") n s.place ∷ []) (wants_of_init s.value n) ∙ sym is.wants)
      (in_both _ _ _ _ _ s.place (in_single (spelt_at Mark (codes "=") n) s.place) (in_both _ _ _ _ _ s.value (record { grammar = is.grammar; wants = refl }) (in_given (Some s)))))

  pub some_start : SomeOf (StartAt n)
  unfolding is_start wants_of_start
  some_start = (None, ([], record { grammar = refl; wants = refl }))

  some_started : (place : Place) → SomeOf (Both (InitAt n) (λ value. Given (started place value)))
  some_started place = some_both _ _ (some_init n) (λ value. some_given (started place value))

  started_begins : (by : TokenKind → List ℕ → Bool) (b : Bool) → by Mark (codes "=") ≡ b → Begins StartedL (λ w. by w.kind w.text) b
  unfolding IsWanted
  started_begins by b is = begins_both _ _ (λ w. by w.kind w.text) b (begins_single (spelt_at Mark (codes "=") n) (λ w. by w.kind w.text) b (λ place w takes. by_text by Mark (codes "=") b w takes.0.0 takes.0.1 is))

  -- no bracket of a dimension stands where an initialiser may
  start_stops : (s : Option Initialization) (ps : List Piece) (ys rest : List Token) → StartL s ps → Fits ps ys → StopsDeclarator rest → StopsDimensions (ys ++ rest)
  unfolding spelled_by is_spelled is_kind
  start_stops s ps ys rest (this b) fits stop = started_begins (spelled_by Mark (codes "[")) false refl s ps ys rest b fits
  start_stops s ps ys rest (that g) fits stop = given_stops None s ps ys rest StopsDimensions g fits (end_is_no_dimension rest stop)

  -- ---- what stands after a name

  abbrev DimensionsAt : Language (List Dimension)
  DimensionsAt = AllOf is_dimension_tree wants_of_dimension n

  abbrev AfterL : Option Pointer → Identifier → List Dimension → Language InitDeclarator
  AfterL pointer name dimensions = Both (StartAt n) (λ start. Given (declared pointer name dimensions start))

  abbrev FollowedL : Option Pointer → Identifier → Language InitDeclarator
  FollowedL pointer name = Both DimensionsAt (AfterL pointer name)

  following_to : (pointer : Option Pointer) (name : Identifier) (d : InitDeclarator) (ps : List Piece) → FollowedL pointer name d ps → DeclaratorFollowed n pointer name d ps
  unfolding is_declarator
  following_to pointer name d ps b =
      let is : d ≡ declared pointer name b.first b.right.first = b.right.right.tree_is in
      record {
        pointer_is = ap (λ u. u.pointer) is;
        name_is = ap (λ u. u.name) is;
        grammar = ap is_declarator is ∙ and_both (list_all is_dimension_tree b.first) (is_start b.right.first) b.left.grammar b.right.left.grammar;
        wants = onto b.whole b.left.wants (onto b.right.whole b.right.left.wants b.right.right.none) ∙ join2 (all_of (map wants_of_dimension b.first) n) (wants_of_start b.right.first n) ∙ ap (λ u. wants_following u n) (sym is);
      }

  following_own : (d : InitDeclarator) (ps : List Piece) → is_declarator d ≡ true → ps ≡ wants_following d n → FollowedL d.pointer d.name d ps
  unfolding is_declarator
  following_own d ps grammar wants =
      subst (λ u. FollowedL d.pointer d.name d u) (join2 (all_of (map wants_of_dimension d.dimensions) n) (wants_of_start d.start n) ∙ sym wants)
      (in_both _ _ _ _ _ d.dimensions (record { grammar = and_left (list_all is_dimension_tree d.dimensions) (is_start d.start) grammar; wants = refl })
      (in_both _ _ _ _ _ d.start (record { grammar = and_right (list_all is_dimension_tree d.dimensions) (is_start d.start) grammar; wants = refl }) (in_given d)))

  following_from : (pointer : Option Pointer) (name : Identifier) (d : InitDeclarator) (ps : List Piece) → DeclaratorFollowed n pointer name d ps → FollowedL pointer name d ps
  following_from pointer name d ps is =
      subst (λ u. FollowedL u name d ps) is.pointer_is (subst (λ u. FollowedL d.pointer u d ps) is.name_is (following_own d ps is.grammar is.wants))

  some_after : (pointer : Option Pointer) (name : Identifier) (dimensions : List Dimension) → SomeOf (AfterL pointer name dimensions)
  some_after pointer name dimensions = some_both _ _ some_start (λ start. some_given (declared pointer name dimensions start))

  some_dimensions : SomeOf DimensionsAt
  unfolding all_of
  some_dimensions = ([], ([], record { grammar = refl; wants = refl }))

  pub some_declarator_following : (pointer : Option Pointer) (name : Identifier) → SomeOf (DeclaratorFollowed n pointer name)
  some_declarator_following pointer name =
      let x = some_both DimensionsAt (AfterL pointer name) some_dimensions (some_after pointer name) in
      (x.0, (x.1.0, following_to pointer name x.0 x.1.0 x.1.1))

  after_stops : (pointer : Option Pointer) (name : Identifier) (dimensions : List Dimension) (d : InitDeclarator) (qs : List Piece) (ys rest : List Token) → AfterL pointer name dimensions d qs → Fits qs ys → StopsDeclarator rest → StopsDimensions (ys ++ rest)
  after_stops pointer name dimensions d qs ys rest b fits stop =
      let e : qs ≡ b.pieces1 = onto b.whole refl b.right.none ∙ append-nil b.pieces1 in
      start_stops b.first b.pieces1 ys rest (start_from b.first b.pieces1 b.left) (subst (λ u. Fits u ys) e fits) stop

  -- ---- whole declared objects

  abbrev NamedL : Option Pointer → Language InitDeclarator
  NamedL pointer = Both (Single (named Name n)) (λ name. DeclaratorFollowed n pointer name)

  abbrev DeclaratorL : Language InitDeclarator
  DeclaratorL = Both (PointerAt n) NamedL

  -- a declared object is a pointer, a name and what stands after it
  pub declarator_flat : (d : InitDeclarator) → wants_of_pointer d.pointer n ++ (name d.name n ++ wants_following d n) ≡ wants_of_declarator d n
  unfolding wants_of_declarator
  declarator_flat d =
      sym (append_assoc (wants_of_pointer d.pointer n) (name d.name n) (wants_following d n)) ∙ sym (append_assoc (wants_of_pointer d.pointer n ++ name d.name n) (all_of (map wants_of_dimension d.dimensions) n) (wants_of_start d.start n))

  declarator_to : (d : InitDeclarator) (ps : List Piece) → DeclaratorL d ps → DeclaratorAt n d ps
  declarator_to d ps b =
      let following = b.right.right in
      record {
        grammar = following.grammar;
        wants = onto b.whole (b.left.wants ∙ ap (λ u. wants_of_pointer u n) (sym following.pointer_is)) (onto b.right.whole (b.right.left.one ∙ ap (λ u. name u n) (sym following.name_is)) following.wants) ∙ declarator_flat d;
      }

  declarator_from : (d : InitDeclarator) (ps : List Piece) → DeclaratorAt n d ps → DeclaratorL d ps
  declarator_from d ps is =
      subst (λ u. DeclaratorL d u) (declarator_flat d ∙ sym is.wants)
      (in_both _ _ _ _ _ d.pointer (record { grammar = refl; wants = refl })
      (in_both _ _ _ _ _ d.name (in_single (named Name n) d.name) (record { pointer_is = refl; name_is = refl; grammar = is.grammar; wants = refl })))

  some_named : (pointer : Option Pointer) → SomeOf (NamedL pointer)
  some_named pointer = some_both _ _ (some_single (named Name n) no_name) (some_declarator_following pointer)

  pub some_declarator : SomeOf (DeclaratorAt n)
  some_declarator =
      let x = some_both (PointerAt n) NamedL (some_pointer n) some_named in
      (x.0, (x.1.0, declarator_to x.0 x.1.0 x.1.1))

-- ---- the readers

module _ (most size n left : ℕ) (level : n + left ≡ most + 1) where
  abbrev started_reader : Place → Reader (Option Initialization)
  started_reader place = read_init size left >>= λ value. give (started place value)

  started_read : Reads (StartedL n) most size StopsDeclarator (read_started size left)
  unfolding read_started
  started_read =
      spelt_at_bind most size Mark (codes "=") n left level (λ place. Both (InitAt n) (λ value. Given (started place value))) StopsDeclarator started_reader (some_started n)
      (λ some place. bind_reads _ _ most size (Stops 0) StopsDeclarator _ _ (init_reads most size left n level some) (λ value. give_reads (started place value) most size StopsDeclarator)
      (λ value ps is. some_given (started place value))
      (λ value c qs ys rest is fits stop. given_stops (started place value) c qs ys rest (Stops 0) is fits (end_stops rest stop)))

  pub start_reads : Reads (StartAt n) most size StopsDeclarator (read_start size left)
  unfolding read_start spelled_by is_spelled is_kind
  start_reads =
      reads_as (start_to n) (start_from n)
      (choose_reads (StartedL n) (Given None) most size StopsDeclarator (is_mark (codes "=")) (read_started size left) (give None) started_read (give_reads None most size StopsDeclarator)
      (λ s ps front rest is fits stop. started_begins n (spelled_by Mark (codes "=")) true refl s ps front rest is fits)
      (λ s ps front rest is fits stop. given_stops None s ps front rest (FirstIs (is_mark (codes "=")) false) is fits (end_is_no_equals rest stop)))

  pub declarator_following_reads : (pointer : Option Pointer) (name : Identifier) → Reads (DeclaratorFollowed n pointer name) most size StopsDeclarator (read_declarator_after size left pointer name)
  unfolding read_declarator_after
  declarator_following_reads pointer name =
      reads_as (following_to n pointer name) (following_from n pointer name)
      (bind_reads _ _ most size StopsDimensions StopsDeclarator _ _ (dimensions_reads most size n left level (readers_at size left).expr (all_read most size left n level).expr)
      (λ dimensions. bind_reads _ _ most size StopsDeclarator StopsDeclarator _ _ start_reads (λ start. give_reads (declared pointer name dimensions start) most size StopsDeclarator)
      (λ start ps is. some_given (declared pointer name dimensions start))
      (λ start c qs ys rest is fits stop. given_stops (declared pointer name dimensions start) c qs ys rest StopsDeclarator is fits stop))
      (λ dimensions ps is. some_after n pointer name dimensions)
      (λ dimensions c qs ys rest is fits stop. after_stops n pointer name dimensions c qs ys rest is fits stop))

  pub declarator_reads : Reads (DeclaratorAt n) most size StopsDeclarator (read_declarator size left)
  unfolding read_declarator
  declarator_reads =
      reads_as (declarator_to n) (declarator_from n)
      (bind_reads _ _ most size StopsPointer StopsDeclarator _ _ (pointer_reads most size n left level)
      (λ pointer. bind_reads _ _ most size Any StopsDeclarator _ _ (named_reads most size Any Name n left level) (declarator_following_reads pointer)
      (λ name ps is. some_declarator_following n pointer name)
      (λ name c qs ys rest is fits stop. tt))
      (λ pointer ps is. some_named n pointer)
      (λ pointer c qs ys rest is fits stop. name_stops n (λ name. DeclaratorFollowed n pointer name) c qs ys rest is fits))
