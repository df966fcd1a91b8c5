-- The readers of declarations in blocks, of the parts of blocks, and of blocks.
use Rattle.std.proofs.Common.{◌≡◌, ◌<◌, ℕ, ◌+◌, Bool, true, false, List, [], ◌∷◌, ◌++◌, length, map, Option, Some, None, refl, sym, ap, ◌∙◌, subst, arith, codes}
use Rattle.std.proofs.lemmas.List.{append_assoc, append-nil, length-append}
use Rattle.std.specs.List.{list_all}
use Rattle.c_tree.specs.Pieces.{Piece, mark, all_of}
use Rattle.c_tree.specs.Folds.{wants_of_specs, wants_of_tag, are_specs}
use Rattle.c_tree.specs.StatementFolds.{wants_of_statement, wants_of_block, is_block, wants_of_part, is_part_tree}
use Rattle.c_tree.specs.Declarations.{wants_of_objects}
use Rattle.c_tree.specs.declared.token.Place.{Place}
use Rattle.c_tree.specs.declared.token.Token.{Token}
use Rattle.c_tree.specs.declared.token.TokenKind.{TokenKind}
use Rattle.c_tree.specs.declared.token.TokenKind.TheVariants.{Word, Name, Mark}
use Rattle.c_tree.specs.declared.expressions.Specifiers.{Specifiers}
use Rattle.c_tree.specs.declared.expressions.TagSpecifier.{TagSpecifier}
use Rattle.c_tree.specs.declared.statements.Block.{Block}
use Rattle.c_tree.specs.declared.statements.Declaration.{Declaration}
use Rattle.c_tree.specs.declared.statements.BlockItem.{BlockItem}
use Rattle.c_tree.specs.declared.statements.BlockItem.TheVariants as part
use Rattle.c_tree.specs.declared.statements.BlockItem.TheViews.{roll-Block}
use Rattle.c_tree.specs.declared.statements.Statement.{Statement}
use Rattle.c_reader.specs.Reading.{Reader, ◌>>=◌, give, many}
use Rattle.c_reader.specs.Tokens.{is_mark, is_spelled, is_kind, spelled_by, found_by, found_in}
use Rattle.c_grammar.specs.Tokens.{starts_type, type_by, type_goes_on, type_goes_by, expr_by}
use Rattle.c_grammar.specs.Levels.{readers_at}
use Rattle.c_reader.proofs.Reader.{Language, Of}
use Rattle.c_reader.proofs.Binding.{Both}
use Rattle.c_reader.proofs.Giving.{Given}
use Rattle.c_reader.proofs.Taking.{Single}
use Rattle.c_reader.proofs.Choosing.{FirstIs, Either, this, that}
use Rattle.c_reader.proofs.Repeating.{Several, many_reads, given_stops}
use Rattle.c_reader.proofs.Beginning.{Begins, begins_both, begins_either}
use Rattle.c_reader.proofs.Joining.{in_both, in_single, in_given, onto}
use Rattle.c_reader.proofs.Listing.{all_to, all_from, list_all_map}
use Rattle.c_reader.proofs.Spelt.{spelt, spelt_at}
use Rattle.c_grammar.proofs.Primaries.{first_from, prefix_all}
use Rattle.c_grammar.proofs.Typing.{SuitsType, begins_type, word_all}
use Rattle.c_grammar.proofs.Suffixes.{SpecsAt, StopsType}
use Rattle.c_grammar.proofs.Members.{some_specs}
use Rattle.c_grammar.proofs.Levels.{all_read}
use Rattle.c_decl.specs.Bare.{tag_of}
use Rattle.c_decl.specs.Declarations.{read_objects_of}
use Rattle.c_decl.proofs.Baring.{bare_tag, tag_wanted, tag_grammar, tag_found, tag_is}
use Rattle.c_decl.proofs.Marks.{step_all}
use Rattle.c_decl.proofs.Declarations.{ObjectsOf, StopsObjects, typed_to, typed_from, some_objects_of, begins_objects_of, objects_of_reads}
use Rattle.c_statement.specs.Starts.{starts_part, part_by, statement_by, loop_by, simple_by}
use Rattle.c_statement.specs.Blocks.{read_part_objects, read_part_tag, read_part_after, read_declaration, read_part, read_braces}
use Rattle.c_statement.proofs.ByTree.{ReadsBy, by_reads, reads_by, by_as, by_where, choose_by}
use Rattle.c_statement.proofs.Ends.{first_not}
use Rattle.c_statement.proofs.Within.{inner_step}
use Rattle.c_statement.proofs.Leading.{SuitsStatement, begins_statement, statement_some}
use Rattle.c_statement.proofs.Singles.{Always, StatementAt, StopsElse}
use Rattle.c_statement.proofs.Steps.{Step, Anything, then_, given, spelt_then, placed_deep, begins_is, begins_spelt, begins_placed}
use Rattle.c_statement.proofs.Switches.{NoElse, some_several}
use Rattle.c_tree.proofs.StatementCases.{cases_BlockItem, cases_Block}
use Rattle.c_tree.proofs.StatementFoldsLaws.{wants_BlockItem_Statement, wants_BlockItem_Declaration, wants_BlockItem_TagSpecifier, is_BlockItem_Statement, is_BlockItem_Declaration, is_BlockItem_TagSpecifier, wants_Braces, is_Braces}

abbrev pub PartAt : ℕ → Language BlockItem
PartAt n = Of is_part_tree (λ p. wants_of_part p n)

abbrev pub BlockAt : ℕ → Language Block
BlockAt n = Of is_block (λ b. wants_of_block b n)

-- ---- declarations

module _ (most size n left : ℕ) (level : n + left ≡ most + 1) where
  abbrev ObjectsL : Specifiers → Language BlockItem
  ObjectsL specs = Both (ObjectsOf n specs) (λ objects. Both (Single (spelt Mark (codes ";") n)) (λ closing. Given (part.Declaration objects)))

  abbrev TagL : TagSpecifier → Language BlockItem
  TagL tag = Both (Single (spelt Mark (codes ";") n)) (λ closing. Given (part.TagSpecifier tag))

  abbrev FollowedL : Specifiers → Option TagSpecifier → Language BlockItem
  FollowedL specs None = ObjectsL specs
  FollowedL specs (Some tag) = Either (TagL tag) (ObjectsL specs)

  abbrev DeclarationL : Language BlockItem
  DeclarationL = Both (SpecsAt n) (λ specs. FollowedL specs (tag_of specs))

  objects_step : (When : Type 0) (specs : Specifiers) → Step most size When (ObjectsL specs) Anything (read_part_objects size left specs)
  unfolding read_part_objects
  objects_step When specs =
      then_ most size When (ObjectsOf n specs) _ (λ o. StopsObjects) Anything (read_objects_of size left specs) _ (record { by = λ when. by_reads (objects_of_reads most size n left level specs); some = some_objects_of n specs })
      (λ objects. spelt_then most size Anything Mark (codes ";") n left level When _ _ (λ closing. given most size Anything When (part.Declaration objects)))
      (λ objects ps c qs ys rest is k fits stop. begins_is Mark (codes ";") n (λ closing. Given (part.Declaration objects)) c qs ys rest k fits)

  tag_step : (When : Type 0) (tag : TagSpecifier) → Step most size When (TagL tag) Anything (read_part_tag left tag)
  unfolding read_part_tag
  tag_step When tag = spelt_then most size Anything Mark (codes ";") n left level When _ _ (λ closing. given most size Anything When (part.TagSpecifier tag))

  objects_begin : (specs : Specifiers) (by : TokenKind → List ℕ → Bool) (b : Bool) → by Mark (codes "*") ≡ b → ((text : List ℕ) → by Name text ≡ b) → Begins (ObjectsL specs) (λ w. by w.kind w.text) b
  objects_begin specs by b star name = begins_both _ _ (λ w. by w.kind w.text) b (begins_objects_of n specs by b star name)

  no_semicolon : (specs : Specifiers) → Begins (ObjectsL specs) (is_mark (codes ";")) false
  unfolding spelled_by is_spelled is_kind
  no_semicolon specs = objects_begin specs (spelled_by Mark (codes ";")) false refl (λ t. refl)

  following_step : (When : Type 0) (specs : Specifiers) (tag : Option TagSpecifier) → Step most size When (FollowedL specs tag) Anything (read_part_after size left specs tag)
  unfolding read_part_after
  following_step When specs None = objects_step When specs
  following_step When specs (Some tag) = record {
    by = λ when. choose_by (TagL tag) (ObjectsL specs) most size Anything (is_mark (codes ";")) (read_part_tag left tag) (read_part_objects size left specs) ((tag_step When tag).by when) ((objects_step When specs).by when)
        (λ p ps front rest is fits stop. begins_is Mark (codes ";") n (λ closing. Given (part.TagSpecifier tag)) p ps front rest is fits)
        (λ p ps front rest is fits stop. no_semicolon specs p ps front rest is fits);
    some = let x = (objects_step When specs).some in (x.0, (x.1.0, that x.1.1));
  }

  -- no type goes on with what stands after it
  following_stops : (specs : Specifiers) (tag : Option TagSpecifier) → Begins (FollowedL specs tag) type_goes_on false
  unfolding type_goes_by spelled_by found_by found_in
  following_stops specs None = objects_begin specs type_goes_by false refl (λ t. refl)
  following_stops specs (Some tag) = begins_either (TagL tag) (ObjectsL specs) type_goes_on false (begins_spelt Mark (codes ";") n (λ closing. Given (part.TagSpecifier tag)) type_goes_by false refl) (objects_begin specs type_goes_by false refl (λ t. refl))

  pub declaration_step : (When : Type 0) → Step most size When DeclarationL Anything (read_declaration size left)
  unfolding read_declaration
  declaration_step When =
      then_ most size When (SpecsAt n) _ (λ s. StopsType) Anything (readers_at size left).specs _ (record { by = λ when. by_reads (all_read most size left n level).specs; some = some_specs n })
      (λ specs. following_step When specs (tag_of specs))
      (λ specs ps c qs ys rest is k fits stop. following_stops specs (tag_of specs) c qs ys rest k fits)

  -- ---- as trees

  objects_to : (p : BlockItem) (ps qs : List Piece) (specs : Specifiers) (rs : List Piece) → SpecsAt n specs rs → ObjectsL specs p qs → ps ≡ rs ++ qs → PartAt n p ps
  objects_to p ps qs specs rs is b whole =
      let all = typed_to n b.first (rs ++ b.pieces1) (in_both _ _ _ _ _ specs is b.left) in
      record {
        grammar = ap is_part_tree b.right.right.tree_is ∙ is_BlockItem_Declaration b.first ∙ all.grammar;
        wants = whole ∙ ap (λ u. rs ++ u) (onto b.whole refl (onto b.right.whole b.right.left.one b.right.right.none)) ∙ sym (append_assoc rs b.pieces1 (spelt Mark (codes ";") n tt ∷ [])) ∙ ap (λ u. u ++ (spelt Mark (codes ";") n tt ∷ [])) all.wants
            ∙ sym (ap (λ f. f n) (wants_BlockItem_Declaration b.first)) ∙ ap (λ u. wants_of_part u n) (sym b.right.right.tree_is);
      }

  tag_to : (p : BlockItem) (ps qs : List Piece) (specs : Specifiers) (tag : TagSpecifier) (rs : List Piece) → tag_of specs ≡ Some tag → SpecsAt n specs rs → TagL tag p qs → ps ≡ rs ++ qs → PartAt n p ps
  tag_to p ps qs specs tag rs found is b whole =
      let bare : specs ≡ bare_tag tag = tag_is specs tag found in
      record {
        grammar = ap is_part_tree b.right.tree_is ∙ is_BlockItem_TagSpecifier tag ∙ sym (tag_grammar tag) ∙ ap are_specs (sym bare) ∙ is.grammar;
        wants = whole ∙ ap (λ u. u ++ qs) (is.wants ∙ ap (λ u. wants_of_specs u n) bare ∙ tag_wanted tag n) ∙ ap (λ u. wants_of_tag tag n ++ u) (onto b.whole b.left.one b.right.none)
            ∙ sym (ap (λ f. f n) (wants_BlockItem_TagSpecifier tag)) ∙ ap (λ u. wants_of_part u n) (sym b.right.tree_is);
      }

  following_to : (p : BlockItem) (ps qs : List Piece) (specs : Specifiers) (rs : List Piece) (tag : Option TagSpecifier) → tag_of specs ≡ tag → SpecsAt n specs rs → FollowedL specs tag p qs → ps ≡ rs ++ qs → PartAt n p ps
  following_to p ps qs specs rs None found is b whole = objects_to p ps qs specs rs is b whole
  following_to p ps qs specs rs (Some tag) found is (this b) whole = tag_to p ps qs specs tag rs found is b whole
  following_to p ps qs specs rs (Some tag) found is (that b) whole = objects_to p ps qs specs rs is b whole

  pub declaration_to : (p : BlockItem) (ps : List Piece) → DeclarationL p ps → PartAt n p ps
  declaration_to p ps b = following_to p ps b.pieces2 b.first b.pieces1 (tag_of b.first) refl b.left b.right b.whole

  objects_after : (specs : Specifiers) (tag : Option TagSpecifier) (p : BlockItem) (qs : List Piece) → ObjectsL specs p qs → FollowedL specs tag p qs
  objects_after specs None p qs b = b
  objects_after specs (Some tag) p qs b = that b

  pub objects_from : (objects : Declaration) (ps : List Piece) → PartAt n (part.Declaration objects) ps → DeclarationL (part.Declaration objects) ps
  objects_from objects ps is =
      let t = typed_from n objects (wants_of_objects objects n) (record { grammar = sym (is_BlockItem_Declaration objects) ∙ is.grammar; wants = refl }) in
      record {
        first = t.first;
        pieces1 = t.pieces1;
        pieces2 = t.pieces2 ++ ((spelt Mark (codes ";") n tt ∷ []) ++ []);
        left = t.left;
        right = objects_after t.first (tag_of t.first) (part.Declaration objects) _ (in_both _ _ _ _ _ objects t.right (in_both _ _ _ _ _ tt (in_single (spelt Mark (codes ";") n) tt) (in_given (part.Declaration objects))));
        whole = is.wants ∙ ap (λ f. f n) (wants_BlockItem_Declaration objects) ∙ ap (λ u. u ++ (spelt Mark (codes ";") n tt ∷ [])) t.whole ∙ append_assoc t.pieces1 t.pieces2 (spelt Mark (codes ";") n tt ∷ []);
      }

  tag_following : (tag : TagSpecifier) → FollowedL (bare_tag tag) (tag_of (bare_tag tag)) (part.TagSpecifier tag) ((spelt Mark (codes ";") n tt ∷ []) ++ [])
  tag_following tag = subst (λ u. FollowedL (bare_tag tag) u (part.TagSpecifier tag) ((spelt Mark (codes ";") n tt ∷ []) ++ [])) (sym (tag_found tag)) (this (in_both _ _ _ _ _ tt (in_single (spelt Mark (codes ";") n) tt) (in_given (part.TagSpecifier tag))))

  pub tag_from : (tag : TagSpecifier) (ps : List Piece) → PartAt n (part.TagSpecifier tag) ps → DeclarationL (part.TagSpecifier tag) ps
  tag_from tag ps is =
      record {
        first = bare_tag tag;
        pieces1 = wants_of_specs (bare_tag tag) n;
        pieces2 = (spelt Mark (codes ";") n tt ∷ []) ++ [];
        left = record { grammar = tag_grammar tag ∙ sym (is_BlockItem_TagSpecifier tag) ∙ is.grammar; wants = refl };
        right = tag_following tag;
        whole = is.wants ∙ ap (λ f. f n) (wants_BlockItem_TagSpecifier tag) ∙ ap (λ u. u ++ (spelt Mark (codes ";") n tt ∷ [])) (sym (tag_wanted tag n));
      }

-- ---- parts, and blocks of them

suits_no_type : SuitsStatement type_by false
unfolding type_by spelled_by found_by found_in
suits_no_type = record {
  expr = record { name = λ t. refl; integer = λ t. refl; character = λ t. refl; yes_ = refl; no_ = refl; bracket = refl; prefix = prefix_all type_by false refl refl refl refl refl refl };
  step = step_all type_by false refl refl;
  brace = refl;
  semicolon = refl;
  break_ = refl;
  continue_ = refl;
  return_ = refl;
  if_ = refl;
  switch_ = refl;
  while_ = refl;
  do_ = refl;
  for_ = refl;
  bound = λ t. refl;
}

suits_part : SuitsStatement part_by true
unfolding part_by type_by statement_by loop_by simple_by expr_by spelled_by found_by found_in
suits_part = record {
  expr = record { name = λ t. refl; integer = λ t. refl; character = λ t. refl; yes_ = refl; no_ = refl; bracket = refl; prefix = prefix_all part_by true refl refl refl refl refl refl };
  step = step_all part_by true refl refl;
  brace = refl;
  semicolon = refl;
  break_ = refl;
  continue_ = refl;
  return_ = refl;
  if_ = refl;
  switch_ = refl;
  while_ = refl;
  do_ = refl;
  for_ = refl;
  bound = λ t. refl;
}

suits_type_part : SuitsType part_by true
unfolding part_by type_by statement_by loop_by simple_by expr_by spelled_by found_by found_in
suits_type_part = record { constant = refl; word = word_all part_by true refl refl refl refl refl refl refl refl refl refl refl refl refl refl refl refl refl; struct_ = refl; enum_ = refl; type_name = λ t. refl }

suits_type_type : SuitsType type_by true
unfolding type_by spelled_by found_by found_in
suits_type_type = record { constant = refl; word = word_all type_by true refl refl refl refl refl refl refl refl refl refl refl refl refl refl refl refl refl; struct_ = refl; enum_ = refl; type_name = λ t. refl }

module _ (most size n left : ℕ) (level : (n + 1) + left ≡ most + 1) (read : Reader Statement) (I : 0 < left → ReadsBy (StatementAt (n + 1)) most size StopsElse read) where
  abbrev Declared : Language BlockItem
  Declared = DeclarationL most size (n + 1) left level

  abbrev StatedL : Language BlockItem
  StatedL = Both (StatementAt (n + 1)) (λ value. Given (part.Statement value))

  abbrev BeforeNoElse : BlockItem → List Token → Type 0
  BeforeNoElse p = NoElse

  stated_step : Step most size (0 < left) StatedL BeforeNoElse (read >>= λ value. give (part.Statement value))
  stated_step =
      then_ most size (0 < left) (StatementAt (n + 1)) (λ value. Given (part.Statement value)) StopsElse BeforeNoElse read (λ value. give (part.Statement value)) (inner_step most size n left read I)
      (λ value. given most size BeforeNoElse (0 < left) (part.Statement value))
      (λ value ps c qs ys rest is k fits stop open_. given_stops (part.Statement value) c qs ys rest NoElse k fits stop)

  part_to : (p : BlockItem) (ps : List Piece) → Either Declared StatedL p ps → PartAt (n + 1) p ps
  part_to p ps (this b) = declaration_to most size (n + 1) left level p ps b
  part_to p ps (that b) =
      record {
        grammar = ap is_part_tree b.right.tree_is ∙ is_BlockItem_Statement b.first ∙ b.left.grammar;
        wants = onto b.whole b.left.wants b.right.none ∙ append-nil (wants_of_statement b.first (n + 1)) ∙ sym (ap (λ f. f (n + 1)) (wants_BlockItem_Statement b.first)) ∙ ap (λ u. wants_of_part u (n + 1)) (sym b.right.tree_is);
      }

  stated_from : (value : Statement) (ps : List Piece) → PartAt (n + 1) (part.Statement value) ps → StatedL (part.Statement value) ps
  stated_from value ps is =
      subst (λ u. StatedL (part.Statement value) u) (append-nil (wants_of_statement value (n + 1)) ∙ sym (ap (λ f. f (n + 1)) (wants_BlockItem_Statement value)) ∙ sym is.wants)
      (in_both _ _ _ _ _ value (record { grammar = sym (is_BlockItem_Statement value) ∙ is.grammar; wants = refl }) (in_given (part.Statement value)))

  part_back : (p : BlockItem) (ps : List Piece) → PartAt (n + 1) p ps → Either Declared StatedL p ps
  part_back = cases_BlockItem (λ p. (ps : List Piece) → PartAt (n + 1) p ps → Either Declared StatedL p ps)
      (λ value ps is. that (stated_from value ps is))
      (λ objects ps is. this (objects_from most size (n + 1) left level objects ps is))
      (λ tag ps is. this (tag_from most size (n + 1) left level tag ps is))

  declared_begins : (by : TokenKind → List ℕ → Bool) (b : Bool) → SuitsType by b → Begins Declared (λ w. by w.kind w.text) b
  declared_begins by b suits = begins_both _ _ (λ w. by w.kind w.text) b (begins_type by b suits (n + 1))

  part_step : Step most size (0 < left) (PartAt (n + 1)) BeforeNoElse (read_part size left read)
  unfolding read_part
  part_step = record {
    by = λ when. by_as part_to part_back
        (choose_by Declared StatedL most size BeforeNoElse starts_type (read_declaration size left) (read >>= λ value. give (part.Statement value))
        (by_where (λ p ps rest is stop. tt) ((declaration_step most size (n + 1) left level (0 < left)).by when)) (stated_step.by when)
        (λ p ps front rest is fits stop. declared_begins type_by true suits_type_type p ps front rest is fits)
        (λ p ps front rest is fits stop. begins_both (StatementAt (n + 1)) _ starts_type false (begins_statement type_by false suits_no_type (n + 1)) p ps front rest is fits));
    some = (stated_step.some.0, (stated_step.some.1.0, part_to stated_step.some.0 stated_step.some.1.0 (that stated_step.some.1.1)));
  }

  part_begins : Begins (PartAt (n + 1)) starts_part true
  part_begins p ps front rest is fits =
      begins_either Declared StatedL starts_part true (declared_begins part_by true suits_type_part) (begins_both (StatementAt (n + 1)) _ starts_part true (begins_statement part_by true suits_part (n + 1))) p ps front rest (part_back p ps is) fits

  part_some : (p : BlockItem) (ps : List Piece) → PartAt (n + 1) p ps → 0 < length ps
  part_some = cases_BlockItem (λ p. (ps : List Piece) → PartAt (n + 1) p ps → 0 < length ps)
      (λ value ps is. statement_some part_by true suits_part (n + 1) value ps (record { grammar = sym (is_BlockItem_Statement value) ∙ is.grammar; wants = is.wants ∙ ap (λ f. f (n + 1)) (wants_BlockItem_Statement value) }))
      (λ objects ps is. omega (arith, ap length (is.wants ∙ ap (λ f. f (n + 1)) (wants_BlockItem_Declaration objects)), length-append (wants_of_objects objects (n + 1)) (mark (codes ";") (n + 1))))
      (λ tag ps is. omega (arith, ap length (is.wants ∙ ap (λ f. f (n + 1)) (wants_BlockItem_TagSpecifier tag)), length-append (wants_of_tag tag (n + 1)) (mark (codes ";") (n + 1))))

  abbrev Closed : List Token → Type 0
  Closed = FirstIs (is_mark (codes "}")) true

  start_no_else : (ts : List Token) → FirstIs starts_part true ts → NoElse ts
  unfolding part_by type_by statement_by loop_by simple_by expr_by spelled_by found_by found_in
  start_no_else = first_not Word (codes "else") part_by refl

  brace_no_else : (ts : List Token) → Closed ts → NoElse ts
  unfolding spelled_by is_spelled is_kind
  brace_no_else = first_from Mark (codes "}") (spelled_by Word (codes "else")) false refl

  brace_no_part : (ts : List Token) → Closed ts → FirstIs starts_part false ts
  unfolding part_by type_by statement_by loop_by simple_by expr_by spelled_by found_by found_in
  brace_no_part = first_from Mark (codes "}") part_by false refl

  parts_step : Step most size (0 < left) (Several (PartAt (n + 1))) (λ ps. Closed) (many size starts_part (read_part size left read))
  parts_step = record {
    by = λ when. by_reads (many_reads (PartAt (n + 1)) most size NoElse Closed starts_part (read_part size left read) (reads_by NoElse (λ p rest stop. stop) (part_step.by when)) part_begins start_no_else brace_no_else brace_no_part part_some);
    some = some_several (PartAt (n + 1));
  }

  abbrev made : Place → List BlockItem → Block
  made place parts = roll-Block (record { place = place; parts = parts })

  abbrev BlockL : Language Block
  BlockL = Both (Single (spelt_at Mark (codes "{") (n + 1))) (λ place. Both (Several (PartAt (n + 1))) (λ parts. Both (Single (spelt Mark (codes "}") (n + 1))) (λ closing. Given (made place parts))))

  block_read : Step most size Always BlockL Anything (read_braces size left read)
  unfolding read_braces
  block_read =
      placed_deep most size Anything Mark (codes "{") (n + 1) left level _ _
      (λ place. then_ most size (0 < left) (Several (PartAt (n + 1))) _ (λ ps. Closed) Anything (many size starts_part (read_part size left read)) _ parts_step
      (λ parts. spelt_then most size Anything Mark (codes "}") (n + 1) left level (0 < left) _ _ (λ closing. given most size Anything (0 < left) (made place parts)))
      (λ parts ps c qs ys rest is k fits stop. begins_is Mark (codes "}") (n + 1) (λ closing. Given (made place parts)) c qs ys rest k fits))

  block_flat : (place : Place) (parts : List BlockItem) → (spelt_at Mark (codes "{") (n + 1) place ∷ []) ++ (all_of (map wants_of_part parts) (n + 1) ++ ((spelt Mark (codes "}") (n + 1) tt ∷ []) ++ [])) ≡ wants_of_block (made place parts) n
  block_flat place parts = sym (ap (λ f. f n) (wants_Braces place parts))

  block_ok : (place : Place) (parts : List BlockItem) → is_block (made place parts) ≡ list_all is_part_tree parts
  block_ok place parts = is_Braces place parts ∙ list_all_map is_part_tree (λ u. u) parts

  block_to : (t : Block) (ps : List Piece) → BlockL t ps → BlockAt n t ps
  block_to t ps b =
      let all = all_to is_part_tree wants_of_part (n + 1) b.right.first b.right.pieces1 b.right.left in
      record {
        grammar = ap is_block b.right.right.right.tree_is ∙ block_ok b.first b.right.first ∙ all.grammar;
        wants = onto b.whole b.left.one (onto b.right.whole all.wants (onto b.right.right.whole b.right.right.left.one b.right.right.right.none)) ∙ block_flat b.first b.right.first ∙ ap (λ u. wants_of_block u n) (sym b.right.right.right.tree_is);
      }

  block_back : (t : Block) (ps : List Piece) → BlockAt n t ps → BlockL t ps
  block_back = cases_Block (λ t. (ps : List Piece) → BlockAt n t ps → BlockL t ps)
      (λ place parts ps is.
      subst (λ u. BlockL (made place parts) u) (block_flat place parts ∙ sym is.wants)
      (in_both _ _ _ _ _ place (in_single (spelt_at Mark (codes "{") (n + 1)) place)
      (in_both _ _ _ _ _ parts (all_from is_part_tree wants_of_part (n + 1) parts _ (record { grammar = sym (block_ok place parts) ∙ is.grammar; wants = refl }))
      (in_both _ _ _ _ _ tt (in_single (spelt Mark (codes "}") (n + 1)) tt) (in_given (made place parts))))))

  pub block_step : Step most size Always (BlockAt n) Anything (read_braces size left read)
  block_step = record { by = λ u. by_as block_to block_back (block_read.by tt); some = (block_read.some.0, (block_read.some.1.0, block_to block_read.some.0 block_read.some.1.0 block_read.some.1.1)) }

  pub begins_block : (by : TokenKind → List ℕ → Bool) (b : Bool) → by Mark (codes "{") ≡ b → Begins (BlockAt n) (λ w. by w.kind w.text) b
  begins_block by b is t ps front rest at fits = begins_placed Mark (codes "{") (n + 1) _ by b is t ps front rest (block_back t ps at) fits
