-- The readers of whole spellings of types.
use Rattle.std.proofs.Common.{◌≡◌, ℕ, ◌+◌, Bool, true, false, ◌||◌, ◌==◌, List, [], ◌∷◌, ◌++◌, is_some, refl, sym, ap, ◌∙◌, subst, codes}
use Rattle.std.proofs.lemmas.List.{append-nil}
use Rattle.c_tree.specs.Pieces.{Piece, IsWanted, Fits, words_at}
use Rattle.c_tree.specs.Folds.{wants_of_specs, wants_of_spelling, wants_of_tag, are_specs, is_spelling_tree}
use Rattle.c_tree.proofs.Cases.{cases_Specifiers, cases_TypeSpecifier}
use Rattle.c_tree.proofs.FoldsLaws.{wants_Specifiers, wants_TypeSpecifier_TagSpecifier, wants_TypeSpecifier_TypeName, is_Specifiers, is_TypeSpecifier_TagSpecifier, is_TypeSpecifier_TypeName}
use Rattle.c_tree.specs.declared.token.Place.{Place}
use Rattle.c_tree.specs.declared.token.Token.{Token}
use Rattle.c_tree.specs.declared.token.TokenKind.{TokenKind}
use Rattle.c_tree.specs.declared.token.TokenKind.TheVariants.{Word, TypeName, Mark}
use Rattle.c_tree.specs.declared.expressions.Expr.{Expr}
use Rattle.c_tree.specs.declared.expressions.Expr.TheViews.{roll-Specifiers}
use Rattle.c_tree.specs.declared.expressions.Specifiers.{Specifiers}
use Rattle.c_tree.specs.declared.expressions.TypeSpecifier.{TypeSpecifier}
use Rattle.c_tree.specs.declared.expressions.TypeSpecifier.TheVariants as spelling
use Rattle.c_reader.specs.Reading.{Reader, ◌>>=◌, give, choose}
use Rattle.c_reader.specs.Tokens.{kind_number, is_word, is_kind, is_spelled, spelled_by, found_by, found_in, read_type_name, found_of}
use Rattle.c_grammar.specs.Tokens.{type_goes_by, is_type_word, type_word_of, type_words}
use Rattle.c_grammar.specs.Expressions.{Inner}
use Rattle.c_grammar.specs.Types.{read_tag, read_type_words, read_spelling, read_specs}
use Rattle.c_reader.proofs.Reader.{Language, Of, Reads}
use Rattle.c_reader.proofs.Binding.{Both, bind_reads}
use Rattle.c_reader.proofs.Giving.{Given, give_reads, reads_as, reads_where}
use Rattle.c_reader.proofs.Taking.{Single}
use Rattle.c_reader.proofs.Choosing.{FirstIs, Either, this, that, choose_reads}
use Rattle.c_reader.proofs.Repeating.{given_stops}
use Rattle.c_reader.proofs.Beginning.{Begins, begins_both, begins_single, begins_either, SomeOf, some_both, some_given}
use Rattle.c_reader.proofs.Joining.{in_both, in_single, in_given, onto, join3}
use Rattle.c_reader.proofs.Spelt.{by_text, spelled_yes, spelt_at, named, named_reads}
use Rattle.c_grammar.proofs.Starting.{begins_cons}
use Rattle.c_grammar.proofs.Typing.{tag_lead_by, word_all}
use Rattle.c_grammar.proofs.Suffixes.{At, SpecsAt, Stops, StopsType, Any, InnerReads, no_name}
use Rattle.c_grammar.proofs.Primaries.{first_from}
use Rattle.c_tree.specs.declared.expressions.TypeWord.{TypeWord}
use Rattle.c_tree.specs.TypeWords.{text_of_word}
use Rattle.c_grammar.proofs.Members.{TagAt, StopsBrace}
use Rattle.c_grammar.proofs.Tags.{tag_reads}
use Rattle.c_grammar.proofs.Words.{first_piece, WordsAt, words_to, words_from, type_words_reads, words_begin, ConstantsAt, StopsConstants, constants_reads}
use Rattle.c_reader.proofs.Truths.{or_left, or_right}

abbrev word_by : TokenKind → List ℕ → Bool
word_by k t = is_some (found_by Word type_words k t)

module _ (most size n left : ℕ) (level : n + left ≡ most + 1) (inner : Inner) (I : InnerReads most size n inner) (read : Reader Expr) (E : Reads (At 0 n) most size (Stops 0) read) where
  words_at_begin : (by : TokenKind → List ℕ → Bool) (b : Bool) → ((w : TypeWord) → by Word (text_of_word w) ≡ b) → Begins (WordsAt most size n left level) (λ w. by w.kind w.text) b
  unfolding IsWanted
  words_at_begin by b is = begins_both _ _ (λ w. by w.kind w.text) b (begins_single (first_piece most size n left level) (λ w. by w.kind w.text) b (λ found w takes. by_text by Word (text_of_word found.1) b w takes.0.0 takes.0.1 (is found.1)))

  abbrev SpellingAt : Language TypeSpecifier
  SpellingAt = Of is_spelling_tree (λ t. wants_of_spelling t n)

  abbrev TypeNameL : Language TypeSpecifier
  TypeNameL = Both (Single (named TypeName n)) (λ name. Given (spelling.TypeName name))

  abbrev OfTagL : Language TypeSpecifier
  OfTagL = Both (TagAt n) (λ t. Given (spelling.TagSpecifier t))

  abbrev SpellingL : Language TypeSpecifier
  SpellingL = Either (WordsAt most size n left level) (Either TypeNameL OfTagL)

  spelling_to : (t : TypeSpecifier) (ps : List Piece) → SpellingL t ps → SpellingAt t ps
  spelling_to t ps (this b) = words_to most size n left level t ps b
  spelling_to t ps (that (this b)) =
      record { grammar = ap is_spelling_tree b.right.tree_is ∙ is_TypeSpecifier_TypeName b.first; wants = onto b.whole b.left.one b.right.none ∙ sym (ap (λ f. f n) (wants_TypeSpecifier_TypeName b.first)) ∙ ap (λ u. wants_of_spelling u n) (sym b.right.tree_is) }
  spelling_to t ps (that (that b)) =
      record { grammar = ap is_spelling_tree b.right.tree_is ∙ is_TypeSpecifier_TagSpecifier b.first ∙ b.left.grammar; wants = onto b.whole b.left.wants b.right.none ∙ append-nil (wants_of_tag b.first n) ∙ sym (ap (λ f. f n) (wants_TypeSpecifier_TagSpecifier b.first)) ∙ ap (λ u. wants_of_spelling u n) (sym b.right.tree_is) }

  spelling_from : (t : TypeSpecifier) (ps : List Piece) → SpellingAt t ps → SpellingL t ps
  spelling_from = cases_TypeSpecifier (λ t. (ps : List Piece) → SpellingAt t ps → SpellingL t ps)
      (λ place ws ps is. this (words_from most size n left level place ws ps is))
      (λ t ps is. that (that (subst (λ u. OfTagL (spelling.TagSpecifier t) u) (append-nil (wants_of_tag t n) ∙ sym (ap (λ f. f n) (wants_TypeSpecifier_TagSpecifier t)) ∙ sym is.wants) (in_both _ _ _ _ _ t (record { grammar = sym (is_TypeSpecifier_TagSpecifier t) ∙ is.grammar; wants = refl }) (in_given (spelling.TagSpecifier t))))))
      (λ name ps is. that (this (subst (λ u. TypeNameL (spelling.TypeName name) u) (sym (ap (λ f. f n) (wants_TypeSpecifier_TypeName name)) ∙ sym is.wants) (in_both _ _ _ _ _ name (in_single (named TypeName n) name) (in_given (spelling.TypeName name))))))

  type_name_begins : (by : TokenKind → List ℕ → Bool) (b : Bool) → ((text : List ℕ) → by TypeName text ≡ b) → Begins TypeNameL (λ w. by w.kind w.text) b
  unfolding IsWanted
  type_name_begins by b is = begins_both _ _ (λ w. by w.kind w.text) b (begins_single (named TypeName n) (λ w. by w.kind w.text) b (λ name w takes. ap (λ k. by k w.text) takes.0.0 ∙ is w.text))

  tag_begins : (by : TokenKind → List ℕ → Bool) (b : Bool) → by Word (codes "struct") ≡ b → by Word (codes "enum") ≡ b → Begins (TagAt n) (λ w. by w.kind w.text) b
  tag_begins by b of_struct of_enum t ps front rest is fits =
      let lead = tag_lead_by by b n of_struct of_enum t in
      begins_cons lead.piece (λ w. by w.kind w.text) b lead.tells ps lead.following front rest (is.wants ∙ lead.is) fits

  -- after what names a type no word of a type stands and no opening brace
  abbrev StopsKind : List Token → Type 0
  StopsKind ts = FirstIs is_type_word false ts × StopsBrace ts

  spelling_reads : Reads SpellingAt most size StopsKind (read_spelling size left inner read)
  unfolding read_spelling is_kind type_word_of found_of found_in found_by
  spelling_reads =
      reads_as spelling_to spelling_from
      (choose_reads (WordsAt most size n left level) (Either TypeNameL OfTagL) most size StopsKind is_type_word (read_type_words size left) (choose (is_kind TypeName) (read_type_name left >>= λ name. give (spelling.TypeName name)) (read_tag size left inner read >>= λ t. give (spelling.TagSpecifier t)))
      (reads_where (λ rest stop. stop.0) (type_words_reads most size n left level))
      (choose_reads TypeNameL OfTagL most size StopsKind (is_kind TypeName) (read_type_name left >>= λ name. give (spelling.TypeName name)) (read_tag size left inner read >>= λ t. give (spelling.TagSpecifier t))
      (bind_reads _ _ most size Any StopsKind _ _ (named_reads most size Any TypeName n left level) (λ name. give_reads (spelling.TypeName name) most size StopsKind) (λ name ps is. some_given _) (λ name c qs ys rest is fits stop. tt))
      (bind_reads _ _ most size StopsBrace StopsKind _ _ (tag_reads most size n left level inner I read E) (λ t. give_reads (spelling.TagSpecifier t) most size StopsKind) (λ t ps is. some_given _) (λ t c qs ys rest is fits stop. given_stops (spelling.TagSpecifier t) c qs ys rest StopsBrace is fits stop.1))
      (λ t ps front rest is fits stop. type_name_begins (λ k x. kind_number k == kind_number TypeName) true (λ x. refl) t ps front rest is fits)
      (λ t ps front rest is fits stop. begins_both _ _ (is_kind TypeName) false (tag_begins (λ k x. kind_number k == kind_number TypeName) false refl refl) t ps front rest is fits))
      (λ t ps front rest is fits stop. words_begin most size n left level t ps front rest is fits)
      (λ t ps front rest is fits stop. begins_either TypeNameL OfTagL is_type_word false (type_name_begins word_by false (λ x. refl)) (begins_both _ _ is_type_word false (tag_begins word_by false refl refl)) t ps front rest is fits))

  -- ---- with const before and after

  abbrev Constants : Language (List Place)
  Constants = ConstantsAt most size n left level

  abbrev SpecsL : Language Specifiers
  SpecsL = Both Constants (λ before. Both SpellingAt (λ kind. Both Constants (λ following. Given (roll-Specifiers (record { before = before; kind = kind; after = following })))))

  kind_begins : (by : TokenKind → List ℕ → Bool) (b : Bool) → ((w : TypeWord) → by Word (text_of_word w) ≡ b) → by Word (codes "struct") ≡ b → by Word (codes "enum") ≡ b → ((text : List ℕ) → by TypeName text ≡ b) → Begins SpellingAt (λ w. by w.kind w.text) b
  kind_begins by b of_word of_struct of_enum of_name t ps front rest is fits =
      begins_either (WordsAt most size n left level) (Either TypeNameL OfTagL) (λ w. by w.kind w.text) b (words_at_begin by b of_word)
      (begins_either TypeNameL OfTagL (λ w. by w.kind w.text) b (type_name_begins by b of_name) (begins_both _ _ (λ w. by w.kind w.text) b (tag_begins by b of_struct of_enum))) t ps front rest (spelling_from t ps is) fits

  some_constants : SomeOf Constants
  unfolding words_at
  some_constants = ([], ([], record { grammar = refl; wants = refl }))

  some_spelling : SomeOf SpellingAt
  some_spelling = (spelling.TypeName no_name, (wants_of_spelling (spelling.TypeName no_name) n, record { grammar = is_TypeSpecifier_TypeName no_name; wants = refl }))

  type_stops_kind : (ts : List Token) → StopsType ts → StopsKind ts
  unfolding FirstIs type_goes_by type_word_of found_of found_by is_kind spelled_by is_spelled
  type_stops_kind [] h = (refl, refl)
  type_stops_kind (w ∷ rest) h =
      let two = or_left (spelled_by Word (codes "const") w.kind w.text || is_some (found_by Word type_words w.kind w.text)) (spelled_by Mark (codes "{") w.kind w.text) h in
      (or_right (spelled_by Word (codes "const") w.kind w.text) (is_some (found_by Word type_words w.kind w.text)) two, or_right (spelled_by Word (codes "const") w.kind w.text || is_some (found_by Word type_words w.kind w.text)) (spelled_by Mark (codes "{") w.kind w.text) h)

  type_stops_constants : (ts : List Token) → StopsType ts → StopsConstants ts
  unfolding FirstIs type_goes_by spelled_by is_spelled is_kind
  type_stops_constants [] h = refl
  type_stops_constants (w ∷ rest) h = or_left (spelled_by Word (codes "const") w.kind w.text) (is_some (found_by Word type_words w.kind w.text)) (or_left (spelled_by Word (codes "const") w.kind w.text || is_some (found_by Word type_words w.kind w.text)) (spelled_by Mark (codes "{") w.kind w.text) h)

  const_stops_kind : (ts : List Token) → FirstIs (is_word (codes "const")) true ts → StopsKind ts
  unfolding type_word_of found_of found_in found_by is_kind spelled_by is_spelled
  const_stops_kind ts h = (first_from Word (codes "const") word_by false refl ts h, first_from Word (codes "const") (spelled_by Mark (codes "{")) false refl ts h)

  following_kind : (places : List Place) (ps : List Piece) (ys rest : List Token) → Constants places ps → Fits ps ys → StopsType rest → StopsKind (ys ++ rest)
  unfolding words_at Fits IsWanted
  following_kind [] ps [] rest is fits stop = type_stops_kind rest stop
  following_kind [] [] (y ∷ ys) rest is fits stop = absurd fits
  following_kind [] (p ∷ ps) (y ∷ ys) rest is fits stop = absurd (cc)
  following_kind (place ∷ places) ps ys rest is fits stop =
      const_stops_kind (ys ++ rest) (begins_cons (spelt_at Word (codes "const") n place) (is_word (codes "const")) true (λ w takes. spelled_yes Word (codes "const") w takes.0.0 takes.0.1) ps (words_at places (codes "const") n) ys rest is.wants fits)

  following_both : (before : List Place) (kind : TypeSpecifier) (c : Specifiers) (qs : List Piece) (ys rest : List Token) → Both Constants (λ following. Given (roll-Specifiers (record { before = before; kind = kind; after = following }))) c qs → Fits qs ys → StopsType rest → StopsKind (ys ++ rest)
  following_both before kind c qs ys rest b fits stop =
      let e : qs ≡ b.pieces1 = b.whole ∙ ap (λ u. b.pieces1 ++ u) b.right.none ∙ append-nil b.pieces1 in
      following_kind b.first b.pieces1 ys rest b.left (subst (λ u. Fits u ys) e fits) stop

  no_const : Begins SpellingAt (is_word (codes "const")) false
  unfolding spelled_by is_spelled is_kind
  no_const = kind_begins (spelled_by Word (codes "const")) false (word_all (spelled_by Word (codes "const")) false refl refl refl refl refl refl refl refl refl refl refl refl refl refl refl refl refl) refl refl (λ x. refl)

  specs_read : Reads SpecsL most size StopsType (read_specs size left inner read)
  unfolding read_specs
  specs_read =
      bind_reads _ _ most size StopsConstants StopsType _ _ (constants_reads most size n left level)
      (λ before. bind_reads _ _ most size StopsKind StopsType _ _ spelling_reads
      (λ kind. bind_reads _ _ most size StopsConstants StopsType _ _ (constants_reads most size n left level) (λ following. give_reads (roll-Specifiers (record { before = before; kind = kind; after = following })) most size StopsType)
      (λ following ps is. some_given _)
      (λ following c qs ys rest is fits stop. given_stops (roll-Specifiers (record { before = before; kind = kind; after = following })) c qs ys rest StopsConstants is fits (type_stops_constants rest stop)))
      (λ kind ps is. some_both _ _ some_constants (λ following. some_given _))
      (λ kind c qs ys rest is fits stop. following_both before kind c qs ys rest is fits stop))
      (λ before ps is. some_both _ _ some_spelling (λ kind. some_both _ _ some_constants (λ following. some_given (roll-Specifiers (record { before = before; kind = kind; after = following })))))
      (λ before c qs ys rest is fits stop. begins_both _ _ (is_word (codes "const")) false no_const c qs ys rest is fits)

  specs_flat : (before : List Place) (kind : TypeSpecifier) (following : List Place) → words_at before (codes "const") n ++ (wants_of_spelling kind n ++ (words_at following (codes "const") n ++ [])) ≡ wants_of_specs (roll-Specifiers (record { before = before; kind = kind; after = following })) n
  specs_flat before kind following = join3 (words_at before (codes "const") n) (wants_of_spelling kind n) (words_at following (codes "const") n) ∙ sym (ap (λ f. f n) (wants_Specifiers before kind following))

  specs_to : (t : Specifiers) (ps : List Piece) → SpecsL t ps → SpecsAt n t ps
  specs_to t ps b =
      let is : t ≡ roll-Specifiers (record { before = b.first; kind = b.right.first; after = b.right.right.first }) = b.right.right.right.tree_is in
      record {
        grammar = ap are_specs is ∙ is_Specifiers b.first b.right.first b.right.right.first ∙ b.right.left.grammar;
        wants = onto b.whole b.left.wants (onto b.right.whole b.right.left.wants (onto b.right.right.whole b.right.right.left.wants b.right.right.right.none)) ∙ specs_flat b.first b.right.first b.right.right.first ∙ ap (λ u. wants_of_specs u n) (sym is);
      }

  specs_from : (t : Specifiers) (ps : List Piece) → SpecsAt n t ps → SpecsL t ps
  specs_from = cases_Specifiers (λ t. (ps : List Piece) → SpecsAt n t ps → SpecsL t ps)
      (λ before kind following ps is.
      subst (λ u. SpecsL (roll-Specifiers (record { before = before; kind = kind; after = following })) u) (specs_flat before kind following ∙ sym is.wants)
      (in_both _ _ _ _ _ before (record { grammar = refl; wants = refl })
      (in_both _ _ _ _ _ kind (record { grammar = sym (is_Specifiers before kind following) ∙ is.grammar; wants = refl })
      (in_both _ _ _ _ _ following (record { grammar = refl; wants = refl }) (in_given (roll-Specifiers (record { before = before; kind = kind; after = following })))))))

  pub specs_reads : Reads (SpecsAt n) most size StopsType (read_specs size left inner read)
  specs_reads = reads_as specs_to specs_from specs_read
