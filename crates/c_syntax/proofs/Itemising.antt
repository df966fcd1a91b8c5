-- The readers of the items of a program.
use Rattle.std.proofs.Common.{◌≡◌, ◌<◌, ℕ, ◌+◌, Bool, true, false, List, [], ◌∷◌, ◌++◌, length, map, Option, Some, None, refl, sym, ap, ◌∙◌, subst, arith, codes}
use Rattle.std.proofs.lemmas.List.{append_assoc, append-nil, length-append}
use Rattle.std.specs.List.{list_all}
use Rattle.c_tree.specs.Pieces.{Piece, Fits, words_at, word_at, name, mark, all_of}
use Rattle.c_tree.specs.Folds.{wants_of_specs, wants_of_tag, wants_of_dimension, are_specs, is_dimension_tree}
use Rattle.c_tree.specs.Declarations.{wants_of_objects, wants_of_pointer, wants_of_parameters}
use Rattle.c_tree.specs.StatementFolds.{wants_of_block}
use Rattle.c_tree.specs.Programs.{wants_of_static, wants_of_words, static_wants, wants_of_function, wants_of_item, is_item}
use Rattle.c_tree.specs.declared.token.Place.{Place}
use Rattle.c_tree.specs.declared.token.Token.{Token}
use Rattle.c_tree.specs.declared.token.TokenKind.{TokenKind}
use Rattle.c_tree.specs.declared.token.TokenKind.TheVariants.{Word, Name, Mark}
use Rattle.c_tree.specs.declared.expressions.Identifier.{Identifier}
use Rattle.c_tree.specs.declared.expressions.Dimension.{Dimension}
use Rattle.c_tree.specs.declared.expressions.Specifiers.{Specifiers}
use Rattle.c_tree.specs.declared.expressions.TagSpecifier.{TagSpecifier}
use Rattle.c_tree.specs.declared.statements.Block.{Block}
use Rattle.c_tree.specs.declared.statements.Declaration.{Declaration}
use Rattle.c_tree.specs.declared.statements.Pointer.{Pointer}
use Rattle.c_tree.specs.declared.programs.Parameters.{Parameters}
use Rattle.c_tree.specs.declared.programs.FunctionSpecifiers.{FunctionSpecifiers}
use Rattle.c_tree.specs.declared.programs.StaticSpecifier.{StaticSpecifier}
use Rattle.c_tree.specs.declared.programs.ExternalDeclaration.{ExternalDeclaration}
use Rattle.c_tree.specs.declared.programs.ExternalDeclaration.TheVariants as item
use Rattle.c_reader.specs.Reading.{◌>>=◌, give, choose}
use Rattle.c_reader.specs.Tokens.{is_word, is_mark, is_spelled, is_kind, spelled_by, found_by, found_in}
use Rattle.c_grammar.specs.Tokens.{type_by, type_goes_on, type_goes_by}
use Rattle.c_grammar.specs.Levels.{readers_at}
use Rattle.c_reader.proofs.Reader.{Language, Of}
use Rattle.c_reader.proofs.Binding.{Both, fits_part}
use Rattle.c_reader.proofs.Giving.{Given}
use Rattle.c_reader.proofs.Taking.{Single}
use Rattle.c_reader.proofs.Choosing.{FirstIs, Either, this, that}
use Rattle.c_reader.proofs.Beginning.{Begins, begins_both, begins_either}
use Rattle.c_reader.proofs.Joining.{in_both, in_single, in_given, onto}
use Rattle.c_reader.proofs.Spelt.{spelt, spelt_at, named}
use Rattle.c_grammar.proofs.Primaries.{first_from}
use Rattle.c_grammar.proofs.Suffixes.{SpecsAt}
use Rattle.c_grammar.proofs.Typing.{SuitsType, begins_type, word_all}
use Rattle.c_grammar.proofs.Dimensioning.{StopsDimensions, DimensionsAt, dimensions_reads, some_dimensions}
use Rattle.c_grammar.proofs.Levels.{all_read}
use Rattle.c_reader.proofs.Truths.{and_left, and_right, and_both}
use Rattle.c_decl.specs.Bare.{tag_of}
use Rattle.c_decl.specs.Declarations.{read_pointer, read_bounds, read_objects_after}
use Rattle.c_decl.proofs.Baring.{bare_tag, tag_wanted, tag_grammar, tag_found, tag_is}
use Rattle.c_decl.proofs.Declaring.{name_begins, name_stops}
use Rattle.c_decl.proofs.Declarations.{ObjectsFollowed, StopsObjects, PointedL, typed_to, typed_from, pointed_to, pointed_from, some_objects_following, objects_following_reads}
use Rattle.c_decl.proofs.Pointing.{PointerAt, StopsPointer, some_pointer, pointed_begins, pointer_reads}
use Rattle.c_syntax.specs.Items.{words_of, read_typedef, read_ended_dimensions, read_function_after, read_inlines, read_fixed, read_inlined, read_item_objects, read_item_after, read_item_of, read_static_inlined, read_static, read_item_tag, read_plain_after, read_plain, read_item}
use Rattle.c_statement.specs.Starts.{starts_item, item_by}
use Rattle.c_statement.proofs.ByTree.{by_reads, by_as, choose_by}
use Rattle.c_syntax.proofs.Heads.{InlinesAt, FixedAt, NoInline, NoWords, fixed_open, inlines_step, fixed_step, name_then, specs_then, made, FunctionFollowedL, FunctionOfL, function_following_step, function_of_step, function_to, function_from}
use Rattle.c_syntax.proofs.Optionals.{following_opens}
use Rattle.c_statement.proofs.Singles.{Always}
use Rattle.c_statement.proofs.Steps.{Step, Anything, then_, given, spelt_then, placed_then, begins_is, begins_is_at, begins_spelt, begins_placed}

abbrev pub ItemAt : ℕ → Language ExternalDeclaration
ItemAt n = Of is_item (λ i. wants_of_item i n)

pub item_is : (n : ℕ) (t u : ExternalDeclaration) (ps : List Piece) → t ≡ u → is_item u ≡ true → ps ≡ wants_of_item u n → ItemAt n t ps
item_is n t u ps is ok wants = record { grammar = ap is_item is ∙ ok; wants = wants ∙ ap (λ i. wants_of_item i n) (sym is) }

module _ (most size n left : ℕ) (level : n + left ≡ most + 1) (positive : 0 < left) where
  -- ---- objects

  abbrev ObjectsL : Option Place → Specifiers → Option Pointer → Identifier → Language ExternalDeclaration
  ObjectsL fixed specs pointer name = Both (ObjectsFollowed n specs pointer name) (λ objects. Both (Single (spelt Mark (codes ";") n)) (λ closing. Given (item.Declaration fixed objects)))

  objects_step : (fixed : Option Place) (specs : Specifiers) (pointer : Option Pointer) (name : Identifier) → Step most size Always (ObjectsL fixed specs pointer name) Anything (read_item_objects size left fixed specs pointer name)
  unfolding read_item_objects
  objects_step fixed specs pointer name =
      then_ most size Always (ObjectsFollowed n specs pointer name) _ (λ o. StopsObjects) Anything (read_objects_after size left specs pointer name) _ (record { by = λ u. by_reads (objects_following_reads most size n left level specs pointer name); some = some_objects_following n specs pointer name })
      (λ objects. spelt_then most size Anything Mark (codes ";") n left level Always _ _ (λ closing. given most size Anything Always (item.Declaration fixed objects)))
      (λ objects ps c qs ys rest is k fits stop. begins_is Mark (codes ";") n (λ closing. Given (item.Declaration fixed objects)) c qs ys rest k fits)

  -- the first token of what stands after a declared name
  objects_begin : (fixed : Option Place) (specs : Specifiers) (pointer : Option Pointer) (name : Identifier) (by : TokenKind → List ℕ → Bool) (b : Bool) → by Mark (codes "[") ≡ b → by Mark (codes "=") ≡ b → by Mark (codes ",") ≡ b → by Mark (codes ";") ≡ b
      → Begins (ObjectsL fixed specs pointer name) (λ w. by w.kind w.text) b
  objects_begin fixed specs pointer name by b bracket equals comma semicolon t ps front rest x fits =
      let o = x.left in
      let parted = fits_part x.pieces1 x.pieces2 front (subst (λ u. Fits u front) x.whole fits) in
      subst (λ u. FirstIs (λ w. by w.kind w.text) b u) (sym (ap (λ u. u ++ rest) parted.whole ∙ append_assoc parted.front parted.following rest))
      (following_opens by b n bracket equals comma o.first o.rest parted.front (parted.following ++ rest) (subst (λ u. Fits u parted.front) o.wants parted.left)
      (begins_spelt Mark (codes ";") n (λ closing. Given (item.Declaration fixed x.first)) by b semicolon t x.pieces2 parted.following rest x.right parted.right))

  -- ---- after a type: objects, or a function

  abbrev FollowedL : Option Place → Specifiers → Option Pointer → Identifier → Language ExternalDeclaration
  FollowedL fixed specs None name = Either (FunctionFollowedL most size n left level (words_of fixed) specs name) (ObjectsL fixed specs None name)
  FollowedL fixed specs (Some pointer) name = ObjectsL fixed specs (Some pointer) name

  abbrev NamedItemL : Option Place → Specifiers → Option Pointer → Language ExternalDeclaration
  NamedItemL fixed specs pointer = Both (Single (named Name n)) (λ name. FollowedL fixed specs pointer name)

  abbrev ItemOfL : Option Place → Specifiers → Language ExternalDeclaration
  ItemOfL fixed specs = Both (PointerAt n) (NamedItemL fixed specs)

  no_bracket : (fixed : Option Place) (specs : Specifiers) (pointer : Option Pointer) (name : Identifier) → Begins (ObjectsL fixed specs pointer name) (is_mark (codes "(")) false
  unfolding spelled_by is_spelled is_kind
  no_bracket fixed specs pointer name = objects_begin fixed specs pointer name (spelled_by Mark (codes "(")) false refl refl refl refl

  following_step : (fixed : Option Place) (specs : Specifiers) (pointer : Option Pointer) (name : Identifier) → Step most size Always (FollowedL fixed specs pointer name) Anything (read_item_after size left fixed specs pointer name)
  unfolding read_item_after
  following_step fixed specs None name = record {
    by = λ u. choose_by (FunctionFollowedL most size n left level (words_of fixed) specs name) (ObjectsL fixed specs None name) most size Anything (is_mark (codes "(")) (read_function_after size left (words_of fixed) specs name) (read_item_objects size left fixed specs None name)
        ((function_following_step most size n left level positive (words_of fixed) specs name).by tt) ((objects_step fixed specs None name).by tt)
        (λ t ps front rest is fits stop. begins_is Mark (codes "(") n _ t ps front rest is fits)
        (λ t ps front rest is fits stop. no_bracket fixed specs None name t ps front rest is fits);
    some = let x = (objects_step fixed specs None name).some in (x.0, (x.1.0, that x.1.1));
  }
  following_step fixed specs (Some pointer) name = objects_step fixed specs (Some pointer) name

  item_of_step : (fixed : Option Place) (specs : Specifiers) → Step most size Always (ItemOfL fixed specs) Anything (read_item_of size left fixed specs)
  unfolding read_item_of
  item_of_step fixed specs =
      then_ most size Always (PointerAt n) (NamedItemL fixed specs) (λ p. StopsPointer) Anything (read_pointer left) _ (record { by = λ u. by_reads (pointer_reads most size n left level); some = some_pointer n })
      (λ pointer. name_then most size n left level Anything Always _ _ (λ name. following_step fixed specs pointer name))
      (λ pointer ps c qs ys rest is k fits stop. name_stops n (λ name. FollowedL fixed specs pointer name) c qs ys rest k fits)

  item_of_begins : (fixed : Option Place) (specs : Specifiers) (by : TokenKind → List ℕ → Bool) (b : Bool) → by Mark (codes "*") ≡ b → ((text : List ℕ) → by Name text ≡ b) → Begins (ItemOfL fixed specs) (λ w. by w.kind w.text) b
  item_of_begins fixed specs by b star is_name = pointed_begins n (NamedItemL fixed specs) by b star (λ pointer. name_begins n (λ name. FollowedL fixed specs pointer name) by b is_name)

  item_of_stops : (fixed : Option Place) (specs : Specifiers) → Begins (ItemOfL fixed specs) type_goes_on false
  unfolding type_goes_by spelled_by found_by found_in
  item_of_stops fixed specs = item_of_begins fixed specs type_goes_by false refl (λ t. refl)

  -- ---- items that begin with their type

  abbrev TagL : TagSpecifier → Language ExternalDeclaration
  TagL tag = Both (Single (spelt Mark (codes ";") n)) (λ closing. Given (item.TagSpecifier tag))

  abbrev PlainFollowedL : Specifiers → Option TagSpecifier → Language ExternalDeclaration
  PlainFollowedL specs None = ItemOfL None specs
  PlainFollowedL specs (Some tag) = Either (TagL tag) (ItemOfL None specs)

  abbrev PlainL : Language ExternalDeclaration
  PlainL = Both (SpecsAt n) (λ specs. PlainFollowedL specs (tag_of specs))

  tag_step : (tag : TagSpecifier) → Step most size Always (TagL tag) Anything (read_item_tag left tag)
  unfolding read_item_tag
  tag_step tag = spelt_then most size Anything Mark (codes ";") n left level Always _ _ (λ closing. given most size Anything Always (item.TagSpecifier tag))

  no_semicolon : (specs : Specifiers) → Begins (ItemOfL None specs) (is_mark (codes ";")) false
  unfolding spelled_by is_spelled is_kind
  no_semicolon specs = item_of_begins None specs (spelled_by Mark (codes ";")) false refl (λ t. refl)

  plain_following_step : (specs : Specifiers) (tag : Option TagSpecifier) → Step most size Always (PlainFollowedL specs tag) Anything (read_plain_after size left specs tag)
  unfolding read_plain_after
  plain_following_step specs None = item_of_step None specs
  plain_following_step specs (Some tag) = record {
    by = λ u. choose_by (TagL tag) (ItemOfL None specs) most size Anything (is_mark (codes ";")) (read_item_tag left tag) (read_item_of size left None specs) ((tag_step tag).by tt) ((item_of_step None specs).by tt)
        (λ t ps front rest is fits stop. begins_is Mark (codes ";") n (λ closing. Given (item.TagSpecifier tag)) t ps front rest is fits)
        (λ t ps front rest is fits stop. no_semicolon specs t ps front rest is fits);
    some = let x = (item_of_step None specs).some in (x.0, (x.1.0, that x.1.1));
  }

  plain_stops : (specs : Specifiers) (tag : Option TagSpecifier) → Begins (PlainFollowedL specs tag) type_goes_on false
  unfolding type_goes_by spelled_by found_by found_in
  plain_stops specs None = item_of_begins None specs type_goes_by false refl (λ t. refl)
  plain_stops specs (Some tag) = begins_either (TagL tag) (ItemOfL None specs) type_goes_on false (begins_spelt Mark (codes ";") n (λ closing. Given (item.TagSpecifier tag)) type_goes_by false refl) (item_of_begins None specs type_goes_by false refl (λ t. refl))

  plain_step : Step most size Always PlainL Anything (read_plain size left)
  unfolding read_plain
  plain_step = specs_then most size n left level Anything Always _ _ (λ specs. plain_following_step specs (tag_of specs)) (λ specs. plain_stops specs (tag_of specs))

  -- ---- items that begin with static

  abbrev FunctionSpecifiers_ : List Place → Option StaticSpecifier → FunctionSpecifiers
  FunctionSpecifiers_ inline fixed = record { inline = inline; fixed = fixed }

  abbrev StaticSpecifier_ : Place → List Place → Option StaticSpecifier
  StaticSpecifier_ place inline = Some (record { place = place; inline = inline })

  abbrev StaticInlinedL : Place → Language ExternalDeclaration
  StaticInlinedL place = Both (Single (spelt_at Word (codes "inline") n)) (λ first. Both (InlinesAt n) (λ rest. FunctionOfL most size n left level (FunctionSpecifiers_ [] (StaticSpecifier_ place (first ∷ rest)))))

  abbrev StaticTypedL : Place → Language ExternalDeclaration
  StaticTypedL place = Both (SpecsAt n) (ItemOfL (Some place))

  abbrev StaticL : Language ExternalDeclaration
  StaticL = Both (Single (spelt_at Word (codes "static") n)) (λ place. Either (StaticInlinedL place) (StaticTypedL place))

  function_begins : (words : FunctionSpecifiers) (by : TokenKind → List ℕ → Bool) (b : Bool) → SuitsType by b → Begins (FunctionOfL most size n left level words) (λ w. by w.kind w.text) b
  function_begins words by b suits = begins_both _ _ (λ w. by w.kind w.text) b (begins_type by b suits n)

  suits_inline : SuitsType (spelled_by Word (codes "inline")) false
  unfolding spelled_by
  suits_inline = record { constant = refl; word = word_all (spelled_by Word (codes "inline")) false refl refl refl refl refl refl refl refl refl refl refl refl refl refl refl refl refl; struct_ = refl; enum_ = refl; type_name = λ t. refl }

  suits_static : SuitsType (spelled_by Word (codes "static")) false
  unfolding spelled_by
  suits_static = record { constant = refl; word = word_all (spelled_by Word (codes "static")) false refl refl refl refl refl refl refl refl refl refl refl refl refl refl refl refl refl; struct_ = refl; enum_ = refl; type_name = λ t. refl }

  no_inline : (words : FunctionSpecifiers) → Begins (FunctionOfL most size n left level words) (is_word (codes "inline")) false
  unfolding spelled_by is_spelled is_kind
  no_inline words = function_begins words (spelled_by Word (codes "inline")) false suits_inline

  static_inlined_step : (place : Place) → Step most size Always (StaticInlinedL place) Anything (read_static_inlined size left place)
  unfolding read_static_inlined
  static_inlined_step place =
      placed_then most size Anything Word (codes "inline") n left level Always _ _
      (λ first. then_ most size Always (InlinesAt n) _ (λ places. NoInline) Anything (read_inlines size left) _ (inlines_step most size n left level Always)
      (λ rest. function_of_step most size n left level positive (FunctionSpecifiers_ [] (StaticSpecifier_ place (first ∷ rest))))
      (λ rest ps c qs ys more is k fits stop. no_inline (FunctionSpecifiers_ [] (StaticSpecifier_ place (first ∷ rest))) c qs ys more k fits))

  static_typed_step : (place : Place) → Step most size Always (StaticTypedL place) Anything ((readers_at size left).specs >>= read_item_of size left (Some place))
  static_typed_step place = specs_then most size n left level Anything Always _ _ (item_of_step (Some place)) (item_of_stops (Some place))

  typed_no_inline : (place : Place) → Begins (StaticTypedL place) (is_word (codes "inline")) false
  unfolding spelled_by is_spelled is_kind
  typed_no_inline place = begins_both _ _ (is_word (codes "inline")) false (begins_type (spelled_by Word (codes "inline")) false suits_inline n)

  static_following_step : (place : Place) → Step most size Always (Either (StaticInlinedL place) (StaticTypedL place)) Anything (choose (is_word (codes "inline")) (read_static_inlined size left place) ((readers_at size left).specs >>= read_item_of size left (Some place)))
  static_following_step place = record {
    by = λ u. choose_by (StaticInlinedL place) (StaticTypedL place) most size Anything (is_word (codes "inline")) (read_static_inlined size left place) ((readers_at size left).specs >>= read_item_of size left (Some place)) ((static_inlined_step place).by tt) ((static_typed_step place).by tt)
        (λ t ps front rest is fits stop. begins_is_at Word (codes "inline") n _ t ps front rest is fits)
        (λ t ps front rest is fits stop. typed_no_inline place t ps front rest is fits);
    some = let x = (static_typed_step place).some in (x.0, (x.1.0, that x.1.1));
  }

  static_step : Step most size Always StaticL Anything (read_static size left)
  unfolding read_static
  static_step = placed_then most size Anything Word (codes "static") n left level Always _ _ static_following_step

  -- ---- functions that begin with inline

  abbrev InlinedL : Language ExternalDeclaration
  InlinedL = Both (Single (spelt_at Word (codes "inline") n)) (λ first. Both (InlinesAt n) (λ rest. Both (FixedAt n) (λ fixed. FunctionOfL most size n left level (FunctionSpecifiers_ (first ∷ rest) fixed))))

  no_static : (words : FunctionSpecifiers) → Begins (FunctionOfL most size n left level words) (is_word (codes "static")) false
  unfolding spelled_by is_spelled is_kind
  no_static words = function_begins words (spelled_by Word (codes "static")) false suits_static

  -- after the words inline stands static or a type
  fixed_no_inline : (first : Place) (rest : List Place) → Begins (Both (FixedAt n) (λ fixed. FunctionOfL most size n left level (FunctionSpecifiers_ (first ∷ rest) fixed))) (is_word (codes "inline")) false
  unfolding spelled_by is_spelled is_kind
  fixed_no_inline first rest t ps front more x fits =
      let by = spelled_by Word (codes "inline") in
      let parted = fits_part x.pieces1 x.pieces2 front (subst (λ u. Fits u front) x.whole fits) in
      subst (λ u. FirstIs (λ w. by w.kind w.text) false u) (sym (ap (λ u. u ++ more) parted.whole ∙ append_assoc parted.front parted.following more))
      (fixed_open by false n refl x.first parted.front (parted.following ++ more) (subst (λ u. Fits u parted.front) x.left.wants parted.left) (function_begins (FunctionSpecifiers_ (first ∷ rest) x.first) by false suits_inline t x.pieces2 parted.following more x.right parted.right))

  inlined_step : Step most size Always InlinedL Anything (read_inlined size left)
  unfolding read_inlined
  inlined_step =
      placed_then most size Anything Word (codes "inline") n left level Always _ _
      (λ first. then_ most size Always (InlinesAt n) _ (λ places. NoInline) Anything (read_inlines size left) _ (inlines_step most size n left level Always)
      (λ rest. then_ most size Always (FixedAt n) _ (λ fixed. NoWords) Anything (choose (is_word (codes "static")) (read_fixed size left) (give None)) _ (fixed_step most size n left level Always)
      (λ fixed. function_of_step most size n left level positive (FunctionSpecifiers_ (first ∷ rest) fixed))
      (λ fixed ps c qs ys more is k fits stop. (no_inline (FunctionSpecifiers_ (first ∷ rest) fixed) c qs ys more k fits, no_static (FunctionSpecifiers_ (first ∷ rest) fixed) c qs ys more k fits)))
      (λ rest ps c qs ys more is k fits stop. fixed_no_inline first rest c qs ys more k fits))

  -- ---- typedef

  abbrev Dims : Language (List Dimension)
  Dims = DimensionsAt most size n left level (readers_at size left).expr (all_read most size left n level).expr

  abbrev TypedefL : Language ExternalDeclaration
  TypedefL =
      Both (Single (spelt_at Word (codes "typedef") n)) (λ place. Both (SpecsAt n) (λ specs. Both (Single (named Name n)) (λ name. Both Dims (λ dimensions.
      Both (Single (spelt Mark (codes ";") n)) (λ closing. Given (item.Typedef place specs name dimensions))))))

  semicolon_dimension : (ts : List Token) → FirstIs (is_mark (codes ";")) true ts → StopsDimensions ts
  unfolding spelled_by is_spelled is_kind
  semicolon_dimension = first_from Mark (codes ";") (spelled_by Mark (codes "[")) false refl

  typedef_name : (place : Place) (specs : Specifiers) → Begins (Both (Single (named Name n)) (λ name. Both Dims (λ dimensions. Both (Single (spelt Mark (codes ";") n)) (λ closing. Given (item.Typedef place specs name dimensions))))) type_goes_on false
  unfolding type_goes_by spelled_by found_by found_in
  typedef_name place specs = name_begins n _ type_goes_by false (λ t. refl)

  typedef_step : Step most size Always TypedefL Anything (read_typedef size left)
  unfolding read_typedef read_ended_dimensions
  typedef_step =
      placed_then most size Anything Word (codes "typedef") n left level Always _ _
      (λ place. specs_then most size n left level Anything Always _ _
      (λ specs. name_then most size n left level Anything Always _ _
      (λ name. then_ most size Always Dims _ (λ ds. StopsDimensions) Anything (read_bounds size left) _
      (record { by = λ u. by_reads (dimensions_reads most size n left level (readers_at size left).expr (all_read most size left n level).expr); some = some_dimensions most size n left level (readers_at size left).expr (all_read most size left n level).expr })
      (λ dimensions. spelt_then most size Anything Mark (codes ";") n left level Always _ _ (λ closing. given most size Anything Always (item.Typedef place specs name dimensions)))
      (λ dimensions ps c qs ys rest is k fits stop. semicolon_dimension (ys ++ rest) (begins_is Mark (codes ";") n (λ closing. Given (item.Typedef place specs name dimensions)) c qs ys rest k fits))))
      (typedef_name place))

  typedef_flat : (place : Place) (specs : Specifiers) (name' : Identifier) (dimensions : List Dimension)
      → (spelt_at Word (codes "typedef") n place ∷ []) ++ (wants_of_specs specs n ++ ((named Name n name' ∷ []) ++ (all_of (map wants_of_dimension dimensions) n ++ ((spelt Mark (codes ";") n tt ∷ []) ++ [])))) ≡ wants_of_item (item.Typedef place specs name' dimensions) n
  unfolding wants_of_item
  typedef_flat place specs name' dimensions =
      let a = word_at place (codes "typedef") n in
      let b = wants_of_specs specs n in
      let c = name name' n in
      let d = all_of (map wants_of_dimension dimensions) n in
      let e = mark (codes ";") n in
      simp (append_assoc) refl

  typedef_to : (t : ExternalDeclaration) (ps : List Piece) → TypedefL t ps → ItemAt n t ps
  unfolding is_item
  typedef_to t ps b =
      let r = b.right.right.right in
      item_is n t (item.Typedef b.first b.right.first b.right.right.first r.first) ps r.right.right.tree_is
      (and_both (are_specs b.right.first) (list_all is_dimension_tree r.first) b.right.left.grammar r.left.grammar)
      (onto b.whole b.left.one (onto b.right.whole b.right.left.wants (onto b.right.right.whole b.right.right.left.one (onto r.whole r.left.wants (onto r.right.whole r.right.left.one r.right.right.none)))) ∙ typedef_flat b.first b.right.first b.right.right.first r.first)

  typedef_from : (place : Place) (specs : Specifiers) (name' : Identifier) (dimensions : List Dimension) (ps : List Piece) → ItemAt n (item.Typedef place specs name' dimensions) ps → TypedefL (item.Typedef place specs name' dimensions) ps
  unfolding is_item
  typedef_from place specs name' dimensions ps is =
      subst (λ u. TypedefL (item.Typedef place specs name' dimensions) u) (typedef_flat place specs name' dimensions ∙ sym is.wants)
      (in_both _ _ _ _ _ place (in_single (spelt_at Word (codes "typedef") n) place)
      (in_both _ _ _ _ _ specs (record { grammar = and_left (are_specs specs) (list_all is_dimension_tree dimensions) is.grammar; wants = refl })
      (in_both _ _ _ _ _ name' (in_single (named Name n) name')
      (in_both _ _ _ _ _ dimensions (record { grammar = and_right (are_specs specs) (list_all is_dimension_tree dimensions) is.grammar; wants = refl })
      (in_both _ _ _ _ _ tt (in_single (spelt Mark (codes ";") n) tt) (in_given (item.Typedef place specs name' dimensions)))))))

  -- ---- objects and functions after a type, as trees

  words_same : (fixed : Option Place) → static_wants fixed n ≡ wants_of_words (words_of fixed) n
  unfolding static_wants wants_of_words wants_of_static words_at
  words_same None = refl
  words_same (Some place) = refl

  objects_to : (fixed : Option Place) (specs : Specifiers) (pointer : Option Pointer) (name' : Identifier) (t : ExternalDeclaration) (ps fs ns pps qs : List Piece) → fs ≡ static_wants fixed n → SpecsAt n specs ns → PointerAt n pointer pps → ObjectsL fixed specs pointer name' t qs
      → ps ≡ fs ++ (ns ++ (pps ++ ((named Name n name' ∷ []) ++ qs))) → ItemAt n t ps
  unfolding is_item wants_of_item
  objects_to fixed specs pointer name' t ps fs ns pps qs of_fixed is of_pointer x whole =
      let objects = x.first in
      let nm = named Name n name' ∷ [] in
      let end = spelt Mark (codes ";") n tt ∷ [] in
      let pointed : PointedL n specs objects (pps ++ (nm ++ x.pieces1)) = in_both _ _ _ _ _ pointer of_pointer (in_both _ _ _ _ _ name' (in_single (named Name n) name') x.left) in
      let at = typed_to n objects (ns ++ (pps ++ (nm ++ x.pieces1))) (in_both _ _ _ _ _ specs is (pointed_to n specs objects _ pointed)) in
      let flat : (a b c d e g : List Piece) → a ++ (b ++ (c ++ (d ++ (e ++ g)))) ≡ a ++ (b ++ (c ++ (d ++ e))) ++ g = λ a b c d e g. simp (append_assoc) refl in
      item_is n t (item.Declaration fixed objects) ps x.right.right.tree_is at.grammar
      (whole ∙ ap (λ u. fs ++ (ns ++ (pps ++ (nm ++ u)))) (onto x.whole refl (onto x.right.whole x.right.left.one x.right.right.none)) ∙ flat fs ns pps nm x.pieces1 end
      ∙ ap (λ u. u ++ (ns ++ (pps ++ (nm ++ x.pieces1))) ++ end) of_fixed ∙ ap (λ u. static_wants fixed n ++ u ++ end) at.wants)

  function_here : (fixed : Option Place) (specs : Specifiers) (name' : Identifier) (t : ExternalDeclaration) (ps fs ns pps qs : List Piece) → fs ≡ static_wants fixed n → SpecsAt n specs ns → PointerAt n None pps → FunctionFollowedL most size n left level (words_of fixed) specs name' t qs
      → ps ≡ fs ++ (ns ++ (pps ++ ((named Name n name' ∷ []) ++ qs))) → ItemAt n t ps
  unfolding wants_of_pointer
  function_here fixed specs name' t ps fs ns pps qs of_fixed is of_pointer x whole =
      function_to most size n left level (words_of fixed) specs name' t ps fs ns qs (of_fixed ∙ words_same fixed) is x (whole ∙ ap (λ u. fs ++ (ns ++ (u ++ ((named Name n name' ∷ []) ++ qs)))) of_pointer.wants)

  following_to : (fixed : Option Place) (specs : Specifiers) (pointer : Option Pointer) (name' : Identifier) (t : ExternalDeclaration) (ps fs ns pps qs : List Piece) → fs ≡ static_wants fixed n → SpecsAt n specs ns → PointerAt n pointer pps → FollowedL fixed specs pointer name' t qs
      → ps ≡ fs ++ (ns ++ (pps ++ ((named Name n name' ∷ []) ++ qs))) → ItemAt n t ps
  following_to fixed specs None name' t ps fs ns pps qs of_fixed is of_pointer (this x) whole = function_here fixed specs name' t ps fs ns pps qs of_fixed is of_pointer x whole
  following_to fixed specs None name' t ps fs ns pps qs of_fixed is of_pointer (that x) whole = objects_to fixed specs None name' t ps fs ns pps qs of_fixed is of_pointer x whole
  following_to fixed specs (Some pointer) name' t ps fs ns pps qs of_fixed is of_pointer x whole = objects_to fixed specs (Some pointer) name' t ps fs ns pps qs of_fixed is of_pointer x whole

  item_of_to : (fixed : Option Place) (specs : Specifiers) (t : ExternalDeclaration) (ps fs ns qs : List Piece) → fs ≡ static_wants fixed n → SpecsAt n specs ns → ItemOfL fixed specs t qs → ps ≡ fs ++ (ns ++ qs) → ItemAt n t ps
  item_of_to fixed specs t ps fs ns qs of_fixed is b whole =
      following_to fixed specs b.first b.right.first t ps fs ns b.pieces1 b.right.pieces2 of_fixed is b.left b.right.right
      (whole ∙ ap (λ u. fs ++ (ns ++ u)) (onto b.whole refl (onto b.right.whole b.right.left.one refl)))

  tag_to : (specs : Specifiers) (tag : TagSpecifier) (t : ExternalDeclaration) (ps ns qs : List Piece) → tag_of specs ≡ Some tag → SpecsAt n specs ns → TagL tag t qs → ps ≡ ns ++ qs → ItemAt n t ps
  unfolding is_item wants_of_item
  tag_to specs tag t ps ns qs found is b whole =
      let bare : specs ≡ bare_tag tag = tag_is specs tag found in
      item_is n t (item.TagSpecifier tag) ps b.right.tree_is (sym (tag_grammar tag) ∙ ap are_specs (sym bare) ∙ is.grammar)
      (whole ∙ ap (λ u. u ++ qs) (is.wants ∙ ap (λ u. wants_of_specs u n) bare ∙ tag_wanted tag n) ∙ ap (λ u. wants_of_tag tag n ++ u) (onto b.whole b.left.one b.right.none))

  plain_following_to : (specs : Specifiers) (tag : Option TagSpecifier) (t : ExternalDeclaration) (ps ns qs : List Piece) → tag_of specs ≡ tag → SpecsAt n specs ns → PlainFollowedL specs tag t qs → ps ≡ ns ++ qs → ItemAt n t ps
  unfolding static_wants
  plain_following_to specs None t ps ns qs found is b whole = item_of_to None specs t ps [] ns qs refl is b whole
  plain_following_to specs (Some tag) t ps ns qs found is (this b) whole = tag_to specs tag t ps ns qs found is b whole
  plain_following_to specs (Some tag) t ps ns qs found is (that b) whole = item_of_to None specs t ps [] ns qs refl is b whole

  plain_to : (t : ExternalDeclaration) (ps : List Piece) → PlainL t ps → ItemAt n t ps
  plain_to t ps b = plain_following_to b.first (tag_of b.first) t ps b.pieces1 b.pieces2 refl b.left b.right b.whole

  static_following_to : (place : Place) (t : ExternalDeclaration) (ps qs : List Piece) → Either (StaticInlinedL place) (StaticTypedL place) t qs → ps ≡ (spelt_at Word (codes "static") n place ∷ []) ++ qs → ItemAt n t ps
  unfolding wants_of_words wants_of_static words_at static_wants
  static_following_to place t ps qs (this b) whole =
      let first = b.first in
      let rest = b.right.first in
      let f = b.right.right in
      let fs = (spelt_at Word (codes "static") n place ∷ []) ++ ((spelt_at Word (codes "inline") n first ∷ []) ++ words_at rest (codes "inline") n) in
      function_to most size n left level (FunctionSpecifiers_ [] (StaticSpecifier_ place (first ∷ rest))) f.first f.right.first t ps fs f.pieces1 f.right.pieces2 refl f.left f.right.right
      (whole ∙ ap (λ u. (spelt_at Word (codes "static") n place ∷ []) ++ u) (onto b.whole b.left.one (onto b.right.whole b.right.left.wants (onto f.whole refl (onto f.right.whole f.right.left.one refl)))))
  static_following_to place t ps qs (that b) whole =
      item_of_to (Some place) b.first t ps (spelt_at Word (codes "static") n place ∷ []) b.pieces1 b.pieces2 refl b.left b.right (whole ∙ ap (λ u. (spelt_at Word (codes "static") n place ∷ []) ++ u) b.whole)

  static_to : (t : ExternalDeclaration) (ps : List Piece) → StaticL t ps → ItemAt n t ps
  static_to t ps b = static_following_to b.first t ps b.pieces2 b.right (b.whole ∙ ap (λ u. u ++ b.pieces2) b.left.one)

  inlined_to : (t : ExternalDeclaration) (ps : List Piece) → InlinedL t ps → ItemAt n t ps
  unfolding wants_of_words words_at
  inlined_to t ps b =
      let first = b.first in
      let rest = b.right.first in
      let fixed = b.right.right.first in
      let f = b.right.right.right in
      let fs = ((spelt_at Word (codes "inline") n first ∷ []) ++ words_at rest (codes "inline") n) ++ wants_of_static fixed n in
      let flat : (a b c d : List Piece) → a ++ (b ++ (c ++ d)) ≡ a ++ b ++ c ++ d = λ a b c d. simp (append_assoc) refl in
      function_to most size n left level (FunctionSpecifiers_ (first ∷ rest) fixed) f.first f.right.first t ps fs f.pieces1 f.right.pieces2 refl f.left f.right.right
      (onto b.whole b.left.one (onto b.right.whole b.right.left.wants (onto b.right.right.whole b.right.right.left.wants (onto f.whole refl (onto f.right.whole f.right.left.one refl))))
      ∙ flat (spelt_at Word (codes "inline") n first ∷ []) (words_at rest (codes "inline") n) (wants_of_static fixed n) (f.pieces1 ++ ((named Name n f.right.first ∷ []) ++ f.right.pieces2)))

  -- ---- the other way round

  plain_after : (specs : Specifiers) (tag : Option TagSpecifier) (t : ExternalDeclaration) (qs : List Piece) → ItemOfL None specs t qs → PlainFollowedL specs tag t qs
  plain_after specs None t qs b = b
  plain_after specs (Some tag) t qs b = that b

  objects_after : (fixed : Option Place) (specs : Specifiers) (pointer : Option Pointer) (name' : Identifier) (t : ExternalDeclaration) (qs : List Piece) → ObjectsL fixed specs pointer name' t qs → FollowedL fixed specs pointer name' t qs
  objects_after fixed specs None name' t qs b = that b
  objects_after fixed specs (Some pointer) name' t qs b = b

  -- what stands after the type of objects
  record Objected (fixed : Option Place) (t : ExternalDeclaration) (ps : List Piece) : Type 0 where
    pub specs : Specifiers
    pub typed : List Piece
    pub rest : List Piece
    pub is : SpecsAt n specs typed
    pub following : ItemOfL fixed specs t rest
    pub whole : ps ≡ static_wants fixed n ++ (typed ++ rest)

  objected : (fixed : Option Place) (objects : Declaration) (ps : List Piece) → ItemAt n (item.Declaration fixed objects) ps → Objected fixed (item.Declaration fixed objects) ps
  unfolding is_item wants_of_item
  objected fixed objects ps is =
      let t = typed_from n objects (wants_of_objects objects n) (record { grammar = is.grammar; wants = refl }) in
      let p = pointed_from n t.first objects t.pieces2 t.right in
      let end = spelt Mark (codes ";") n tt ∷ [] in
      let flat : (a b c d e g : List Piece) → a ++ (b ++ (c ++ (d ++ e))) ++ g ≡ a ++ (b ++ (c ++ (d ++ (e ++ (g ++ []))))) = λ a b c d e g. ap (λ u. a ++ (b ++ (c ++ (d ++ e))) ++ u) (sym (append-nil g)) ∙ (simp (append_assoc) refl) in
      record {
        specs = t.first;
        typed = t.pieces1;
        rest = p.pieces1 ++ (p.right.pieces1 ++ (p.right.pieces2 ++ (end ++ [])));
        is = t.left;
        following = in_both _ _ _ _ _ p.first p.left (in_both _ _ _ _ _ p.right.first p.right.left
            (objects_after fixed t.first p.first p.right.first (item.Declaration fixed objects) _ (in_both _ _ _ _ _ objects p.right.right (in_both _ _ _ _ _ tt (in_single (spelt Mark (codes ";") n) tt) (in_given (item.Declaration fixed objects))))));
        whole = is.wants ∙ ap (λ u. static_wants fixed n ++ u ++ end) (t.whole ∙ ap (λ u. t.pieces1 ++ u) (p.whole ∙ ap (λ u. p.pieces1 ++ u) p.right.whole)) ∙ flat (static_wants fixed n) t.pieces1 p.pieces1 p.right.pieces1 p.right.pieces2 end;
      }

  abbrev ItemL : Language ExternalDeclaration
  ItemL = Either TypedefL (Either InlinedL (Either StaticL PlainL))

  of_plain : (specs : Specifiers) (t : ExternalDeclaration) (ps ns qs : List Piece) → SpecsAt n specs ns → ItemOfL None specs t qs → ps ≡ ns ++ qs → ItemL t ps
  of_plain specs t ps ns qs is b whole = that (that (that (record { first = specs; pieces1 = ns; pieces2 = qs; left = is; right = plain_after specs (tag_of specs) t qs b; whole = whole })))

  of_static : (place : Place) (t : ExternalDeclaration) (ps qs : List Piece) → Either (StaticInlinedL place) (StaticTypedL place) t qs → ps ≡ (spelt_at Word (codes "static") n place ∷ []) ++ qs → ItemL t ps
  of_static place t ps qs b whole = that (that (this (record { first = place; pieces1 = spelt_at Word (codes "static") n place ∷ []; pieces2 = qs; left = in_single (spelt_at Word (codes "static") n) place; right = b; whole = whole })))

  objects_from : (fixed : Option Place) (objects : Declaration) (ps : List Piece) → ItemAt n (item.Declaration fixed objects) ps → ItemL (item.Declaration fixed objects) ps
  unfolding static_wants
  objects_from None objects ps is = let o = objected None objects ps is in of_plain o.specs (item.Declaration None objects) ps o.typed o.rest o.is o.following o.whole
  objects_from (Some place) objects ps is =
      let o = objected (Some place) objects ps is in
      of_static place (item.Declaration (Some place) objects) ps (o.typed ++ o.rest) (that (in_both _ _ _ _ _ o.specs o.is o.following)) o.whole

  tag_following : (tag : TagSpecifier) → PlainFollowedL (bare_tag tag) (tag_of (bare_tag tag)) (item.TagSpecifier tag) ((spelt Mark (codes ";") n tt ∷ []) ++ [])
  tag_following tag = subst (λ u. PlainFollowedL (bare_tag tag) u (item.TagSpecifier tag) ((spelt Mark (codes ";") n tt ∷ []) ++ [])) (sym (tag_found tag)) (this (in_both _ _ _ _ _ tt (in_single (spelt Mark (codes ";") n) tt) (in_given (item.TagSpecifier tag))))

  tag_from : (tag : TagSpecifier) (ps : List Piece) → ItemAt n (item.TagSpecifier tag) ps → ItemL (item.TagSpecifier tag) ps
  unfolding is_item wants_of_item
  tag_from tag ps is =
      that (that (that (record {
        first = bare_tag tag;
        pieces1 = wants_of_specs (bare_tag tag) n;
        pieces2 = (spelt Mark (codes ";") n tt ∷ []) ++ [];
        left = record { grammar = tag_grammar tag ∙ is.grammar; wants = refl };
        right = tag_following tag;
        whole = is.wants ∙ ap (λ u. u ++ (spelt Mark (codes ";") n tt ∷ [])) (sym (tag_wanted tag n));
      })))

  -- a function, by its words
  plain_function : (specs : Specifiers) (name' : Identifier) (t : ExternalDeclaration) (qs : List Piece) → FunctionFollowedL most size n left level (words_of None) specs name' t qs → ItemOfL None specs t ([] ++ ((named Name n name' ∷ []) ++ qs))
  unfolding wants_of_pointer
  plain_function specs name' t qs b = in_both (PointerAt n) (NamedItemL None specs) t [] ((named Name n name' ∷ []) ++ qs) None (record { grammar = refl; wants = refl }) (in_both _ _ _ _ _ name' (in_single (named Name n) name') (this b))

  static_function : (place : Place) (specs : Specifiers) (name' : Identifier) (t : ExternalDeclaration) (qs : List Piece) → FunctionFollowedL most size n left level (words_of (Some place)) specs name' t qs → ItemOfL (Some place) specs t ([] ++ ((named Name n name' ∷ []) ++ qs))
  unfolding wants_of_pointer
  static_function place specs name' t qs b = in_both (PointerAt n) (NamedItemL (Some place) specs) t [] ((named Name n name' ∷ []) ++ qs) None (record { grammar = refl; wants = refl }) (in_both _ _ _ _ _ name' (in_single (named Name n) name') (this b))

  fixed_function : (place : Place) (inline : List Place) (specs : Specifiers) (name' : Identifier) (parameters : Parameters) (body : Block) (ps : List Piece)
      → ItemAt n (made most size n left level (FunctionSpecifiers_ [] (StaticSpecifier_ place inline)) specs name' parameters body) ps → ItemL (made most size n left level (FunctionSpecifiers_ [] (StaticSpecifier_ place inline)) specs name' parameters body) ps
  unfolding wants_of_words wants_of_static words_at
  fixed_function place [] specs name' parameters body ps is =
      let h = function_from most size n left level (FunctionSpecifiers_ [] (StaticSpecifier_ place [])) specs name' parameters body ps is in
      of_static place _ ps _ (that (in_both _ _ _ _ _ specs h.specs_ (static_function place specs name' _ h.following h.rest))) h.whole
  fixed_function place (first ∷ rest) specs name' parameters body ps is =
      let h = function_from most size n left level (FunctionSpecifiers_ [] (StaticSpecifier_ place (first ∷ rest))) specs name' parameters body ps is in
      of_static place _ ps _
      (this (in_both _ _ _ _ _ first (in_single (spelt_at Word (codes "inline") n) first) (in_both _ _ _ _ _ rest (record { wants = refl }) (in_both _ _ _ _ _ specs h.specs_ (in_both _ _ _ _ _ name' (in_single (named Name n) name') h.rest)))))
      h.whole

  function_back : (inline : List Place) (fixed : Option StaticSpecifier) (specs : Specifiers) (name' : Identifier) (parameters : Parameters) (body : Block) (ps : List Piece)
      → ItemAt n (made most size n left level (FunctionSpecifiers_ inline fixed) specs name' parameters body) ps → ItemL (made most size n left level (FunctionSpecifiers_ inline fixed) specs name' parameters body) ps
  unfolding wants_of_words wants_of_static words_at
  function_back [] None specs name' parameters body ps is =
      let h = function_from most size n left level (FunctionSpecifiers_ [] None) specs name' parameters body ps is in
      of_plain specs _ ps (wants_of_specs specs n) _ h.specs_ (plain_function specs name' _ h.following h.rest) h.whole
  function_back [] (Some s) specs name' parameters body ps is = fixed_function s.place s.inline specs name' parameters body ps is
  function_back (first ∷ rest) fixed specs name' parameters body ps is =
      let h = function_from most size n left level (FunctionSpecifiers_ (first ∷ rest) fixed) specs name' parameters body ps is in
      let flat : (a b c d : List Piece) → a ++ b ++ c ++ d ≡ a ++ (b ++ (c ++ d)) = λ a b c d. simp (append_assoc) refl in
      that (this (record {
        first = first;
        pieces1 = spelt_at Word (codes "inline") n first ∷ [];
        pieces2 = _;
        left = in_single (spelt_at Word (codes "inline") n) first;
        right = in_both (InlinesAt n) _ _ (words_at rest (codes "inline") n) _ rest (record { wants = refl })
            (in_both (FixedAt n) _ _ (wants_of_static fixed n) _ fixed (record { wants = refl }) (in_both _ _ _ _ _ specs h.specs_ (in_both _ _ _ _ _ name' (in_single (named Name n) name') h.rest)));
        whole = h.whole ∙ flat (spelt_at Word (codes "inline") n first ∷ []) (words_at rest (codes "inline") n) (wants_of_static fixed n) (wants_of_specs specs n ++ ((named Name n name' ∷ []) ++ h.following));
      }))

  -- ---- all items

  item_to : (t : ExternalDeclaration) (ps : List Piece) → ItemL t ps → ItemAt n t ps
  item_to t ps (this b) = typedef_to t ps b
  item_to t ps (that (this b)) = inlined_to t ps b
  item_to t ps (that (that (this b))) = static_to t ps b
  item_to t ps (that (that (that b))) = plain_to t ps b

  item_back : (t : ExternalDeclaration) (ps : List Piece) → ItemAt n t ps → ItemL t ps
  item_back (item.Typedef place specs name' dimensions) ps is = this (typedef_from place specs name' dimensions ps is)
  item_back (item.TagSpecifier tag) ps is = tag_from tag ps is
  item_back (item.Declaration fixed objects) ps is = objects_from fixed objects ps is
  item_back (item.Function f) ps is = function_back f.words.inline f.words.fixed f.specs f.name f.parameters f.body ps is

  plain_begins : (by : TokenKind → List ℕ → Bool) (b : Bool) → SuitsType by b → Begins PlainL (λ w. by w.kind w.text) b
  plain_begins by b suits = begins_both _ _ (λ w. by w.kind w.text) b (begins_type by b suits n)

  from_static : (by : TokenKind → List ℕ → Bool) (b : Bool) → SuitsType by b → by Word (codes "static") ≡ b → Begins (Either StaticL PlainL) (λ w. by w.kind w.text) b
  from_static by b suits is = begins_either StaticL PlainL (λ w. by w.kind w.text) b (begins_placed Word (codes "static") n _ by b is) (plain_begins by b suits)

  from_inline : (by : TokenKind → List ℕ → Bool) (b : Bool) → SuitsType by b → by Word (codes "static") ≡ b → by Word (codes "inline") ≡ b → Begins (Either InlinedL (Either StaticL PlainL)) (λ w. by w.kind w.text) b
  from_inline by b suits is also = begins_either InlinedL (Either StaticL PlainL) (λ w. by w.kind w.text) b (begins_placed Word (codes "inline") n _ by b also) (from_static by b suits is)

  suits_typedef : SuitsType (spelled_by Word (codes "typedef")) false
  unfolding spelled_by
  suits_typedef = record { constant = refl; word = word_all (spelled_by Word (codes "typedef")) false refl refl refl refl refl refl refl refl refl refl refl refl refl refl refl refl refl; struct_ = refl; enum_ = refl; type_name = λ t. refl }

  suits_item : SuitsType item_by true
  unfolding item_by type_by spelled_by found_by found_in
  suits_item = record { constant = refl; word = word_all item_by true refl refl refl refl refl refl refl refl refl refl refl refl refl refl refl refl refl; struct_ = refl; enum_ = refl; type_name = λ t. refl }

  pub item_step : Step most size Always (ItemAt n) Anything (read_item size left)
  unfolding read_item spelled_by is_spelled is_kind
  item_step = record {
    by = λ u. by_as item_to item_back
        (choose_by TypedefL (Either InlinedL (Either StaticL PlainL)) most size Anything (is_word (codes "typedef")) (read_typedef size left) (choose (is_word (codes "inline")) (read_inlined size left) (choose (is_word (codes "static")) (read_static size left) (read_plain size left)))
        (typedef_step.by tt)
        (choose_by InlinedL (Either StaticL PlainL) most size Anything (is_word (codes "inline")) (read_inlined size left) (choose (is_word (codes "static")) (read_static size left) (read_plain size left))
        (inlined_step.by tt)
        (choose_by StaticL PlainL most size Anything (is_word (codes "static")) (read_static size left) (read_plain size left) (static_step.by tt) (plain_step.by tt)
        (λ t ps front rest is fits stop. begins_is_at Word (codes "static") n _ t ps front rest is fits)
        (λ t ps front rest is fits stop. plain_begins (spelled_by Word (codes "static")) false suits_static t ps front rest is fits))
        (λ t ps front rest is fits stop. begins_is_at Word (codes "inline") n _ t ps front rest is fits)
        (λ t ps front rest is fits stop. from_static (spelled_by Word (codes "inline")) false suits_inline refl t ps front rest is fits))
        (λ t ps front rest is fits stop. begins_is_at Word (codes "typedef") n _ t ps front rest is fits)
        (λ t ps front rest is fits stop. from_inline (spelled_by Word (codes "typedef")) false suits_typedef refl refl t ps front rest is fits));
    some = let x = typedef_step.some in (x.0, (x.1.0, item_to x.0 x.1.0 (this x.1.1)));
  }

  pub begins_item : Begins (ItemAt n) starts_item true
  unfolding item_by type_by spelled_by found_by found_in
  begins_item t ps front rest is fits =
      begins_either TypedefL (Either InlinedL (Either StaticL PlainL)) starts_item true (begins_placed Word (codes "typedef") n _ item_by true refl) (from_inline item_by true suits_item refl refl) t ps front rest (item_back t ps is) fits

  pub item_some : (t : ExternalDeclaration) (ps : List Piece) → ItemAt n t ps → 0 < length ps
  unfolding wants_of_item wants_of_function
  item_some (item.Typedef place specs name' dimensions) ps is = omega (arith, ap length is.wants)
  item_some (item.TagSpecifier tag) ps is = omega (arith, ap length is.wants, length-append (wants_of_tag tag n) (mark (codes ";") n))
  item_some (item.Declaration fixed objects) ps is = omega (arith, ap length is.wants, length-append (static_wants fixed n ++ wants_of_objects objects n) (mark (codes ";") n))
  item_some (item.Function f) ps is =
      let before = wants_of_words f.words n ++ wants_of_specs f.specs n ++ name f.name n ++ mark (codes "(") n ++ wants_of_parameters f.parameters n in
      omega (arith, ap length is.wants, length-append (before ++ mark (codes ")") n) (wants_of_block f.body n), length-append before (mark (codes ")") n))
