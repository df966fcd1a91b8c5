-- The readers of all levels of nesting.
use Rattle.std.proofs.Common.{◌≡◌, ◌≤◌, ◌<◌, ◌⊎◌, inl, inr, ℕ, zero, suc, ◌+◌, Bool, true, false, ◌||◌, List, [], ◌∷◌, ◌++◌, Option, Some, None, is_some, refl, sym, ap, ◌∙◌, subst, arith, codes}
use Rattle.std.proofs.lemmas.List.{append_cancel_right}
use Rattle.c_tree.specs.Pieces.{Piece, mark, spelled, want_of, IsWanted, StandsAt, Takes, Fits, words_at, name}
use Rattle.c_tree.specs.Operators.{text_of_prefix}
use Rattle.c_tree.specs.TypeWords.{text_of_word}
use Rattle.c_tree.specs.Folds.{wants_of_expr, wants_of_spelling, is_spelling_tree}
use Rattle.c_tree.specs.declared.token.Token.{Token}
use Rattle.c_tree.specs.declared.token.TokenKind.{TokenKind}
use Rattle.c_tree.specs.declared.token.TokenKind.TheVariants.{Word, Name, TypeName, Integer, Character, Mark}
use Rattle.c_tree.specs.declared.expressions.Expr.{Expr}
use Rattle.c_tree.specs.declared.expressions.Expr.TheVariants as expr
use Rattle.c_tree.specs.declared.expressions.Expr.TheViews.{roll-Specifiers}
use Rattle.c_tree.specs.declared.expressions.Specifiers.{Specifiers}
use Rattle.c_tree.specs.declared.expressions.TypeSpecifier.TheVariants as spelling
use Rattle.c_tree.specs.declared.expressions.TagSpecifier.TheVariants as tag
use Rattle.c_tree.specs.declared.expressions.TrailingComma.TheVariants.{Absent}
use Rattle.std.specs.Str.{bytes_eq}
use Rattle.std.proofs.lemmas.Slice.Eq.{bytes_eq-Decides}
use Rattle.c_tree.proofs.FoldsLaws.{wants_Expr_Name, wants_Expr_Literal, wants_Expr_Parenthesized, wants_Expr_Unary, wants_Specifiers, wants_TypeSpecifier_Words, wants_TypeSpecifier_TagSpecifier, wants_TypeSpecifier_TypeName, wants_TagSpecifier_Struct, wants_TagSpecifier_Enum, is_Expr_Name, is_Expr_Literal, is_Expr_Parenthesized, is_Expr_Unary, is_Specifiers, is_TypeSpecifier_Words, is_TypeSpecifier_TagSpecifier, is_TypeSpecifier_TypeName, is_TagSpecifier_Struct, is_TagSpecifier_Enum}
use Rattle.c_tree.specs.declared.token.TokenKind.TheVariants.{Str, Bound, End}
use Rattle.c_tree.specs.declared.expressions.Literal.{Literal}
use Rattle.c_tree.specs.declared.expressions.Literal.TheVariants as literal
use Rattle.c_tree.specs.declared.expressions.UnaryOperator.{UnaryOperator}
use Rattle.c_grammar.specs.Tokens.{prefixes, type_words, starts_expr, starts_type, expr_by, type_by}
use Rattle.c_reader.specs.Depths.{AreWithin}
use Rattle.c_reader.specs.Tokens.{named_of, spelled_by, found_by, found_in}
use Rattle.c_reader.proofs.Spelt.{AreUnder, found_text}
use Rattle.c_reader.specs.Reading.{Reader, take_as, taken}
use Rattle.c_reader.specs.Reading as reading
use Rattle.c_grammar.specs.Expressions.{read_expr}
use Rattle.c_grammar.specs.Levels.{readers_at, no_expr, no_specs}
use Rattle.c_reader.proofs.Reader.{Language, Deep, Found, Reads}
use Rattle.c_reader.proofs.Beginning.{SomeOf}
use Rattle.c_grammar.proofs.Starting.{Suits, expr_leads}
use Rattle.c_grammar.proofs.Typing.{SuitsType, specs_lead, word_all}
use Rattle.c_tree.specs.declared.expressions.TypeWord.{TypeWord}
use Rattle.c_tree.specs.declared.expressions.TypeSpecifier.{TypeSpecifier}
use Rattle.c_grammar.proofs.Words.{under_words, agrees_all, spelling_whole}
use Rattle.c_grammar.proofs.Suffixes.{At, SpecsAt, Stops, StopsType, InnerReads, no_name, some_at}
use Rattle.c_grammar.proofs.Primaries.{prefix_all}
use Rattle.c_grammar.proofs.Members.{some_specs}
use Rattle.c_grammar.proofs.Unaries.{lower_to, unary_reads}
use Rattle.c_grammar.proofs.Wholes.{expr_reads}
use Rattle.c_grammar.proofs.Specifying.{specs_reads}
use Rattle.c_reader.proofs.Truths.{or_cases, or_false}

-- a tree that begins with a piece nested too deeply
pub record Opening {A : Type 0} (L : Language A) (most : ℕ) (w : Token) : Type 0 where
  pub tree : A
  pub piece : Piece
  pub missing : List Piece
  pub spelled_ : L tree (piece ∷ missing)
  pub takes : Takes piece w
  pub deep : most < piece.nesting

-- what all trees begin with
pub record Leading (test : Token → Bool) (most : ℕ) (pieces : List Piece) : Type 0 where
  pub piece : Piece
  pub following : List Piece
  pub is : pieces ≡ piece ∷ following
  pub tells : (w : Token) → Takes piece w → test w ≡ true
  pub deep : most < piece.nesting

nothing : {piece : Piece} {following : List Piece} → [] ≡ piece ∷ following → ⊥
nothing h = cc

module _ {A : Type 0} (L : Language A) (test : Token → Bool) (value : Token → A) (most size : ℕ) (Followed : List Token → Type 0) (some : SomeOf L)
    (opening : (w : Token) → test w ≡ true → Opening L most w)
    (leading : (tree : A) (ps : List Piece) → L tree ps → Leading test most ps) where
  none_good : (b : Bool) (w : Token) (r : List Token) (tree : A) (rest : List Token) → taken b (value w) 0 w r ≡ reading.good tree rest → ⊥
  unfolding taken
  none_good true w r tree rest h = cc
  none_good false w r tree rest h = cc

  refused_good : (ts : List Token) (tree : A) (rest : List Token) → take_as test value 0 ts ≡ reading.good tree rest → ⊥
  unfolding take_as
  refused_good [] tree rest h = cc
  refused_good (w ∷ r) tree rest h = none_good (test w) w r tree rest h

  whole_bad : (b : Bool) (w : Token) (r rest : List Token) → taken b (value w) 0 w r ≡ reading.bad rest → (b ≡ false) × (w ∷ r ≡ rest)
  unfolding taken
  whole_bad true w r rest h = absurd (cc)
  whole_bad false w r rest h = (refl, cc)

  refused_bad : (ts rest : List Token) → take_as test value 0 ts ≡ reading.bad rest → ts ≡ rest
  unfolding take_as
  refused_bad [] rest h = cc
  refused_bad (w ∷ r) rest h = (whole_bad (test w) w r rest h).1

  deep_at : (b : Bool) (w : Token) (r rest : List Token) → test w ≡ b → taken b (value w) 0 w r ≡ reading.deep rest → Deep L most (w ∷ r) rest
  unfolding taken Fits AreWithin
  deep_at true w r rest is h =
      let o = opening w is in
      let same : w ∷ r ≡ rest = cc in
      record { tree = o.tree; pieces = []; piece = o.piece; missing = o.missing; front = []; token = w; following = r; spelled = o.spelled_; fits = tt; takes = o.takes; shallow = tt; deep = o.deep; first = sym same; whole = same }
  deep_at false w r rest is h = absurd (cc)

  refused_deep : (ts rest : List Token) → take_as test value 0 ts ≡ reading.deep rest → Deep L most ts rest
  unfolding take_as
  refused_deep [] rest h = absurd (cc)
  refused_deep (w ∷ r) rest h = deep_at (test w) w r rest refl h

  found_deep : (tree : A) (ps : List Piece) (front rest : List Token) → Leading test most ps → Fits ps front → Found (take_as test value 0) most tree ps front rest
  unfolding take_as taken Fits AreWithin
  found_deep tree [] front rest lead fits = absurd (nothing lead.is)
  found_deep tree (p ∷ ps) [] rest lead fits = absurd fits
  found_deep tree (p ∷ ps) (w ∷ front) rest lead fits =
      let same : p ≡ lead.piece = cc in
      let is : test w ≡ true = lead.tells w (subst (λ q. Takes q w) same fits.0) in
      inr (record {
        left = w ∷ (front ++ rest);
        is = ap (λ b. taken b (value w) 0 w (front ++ rest)) is;
        place = record { before = []; piece = p; missing = ps; taken = []; token = w; following = front; parts = refl; fits = tt; shallow = tt; deep = omega (arith, lead.deep, ap (λ q. q.nesting) same); whole = refl; is_left = refl };
      })

  local_bad_of : (front : List Token) (w : Token) (r other : List Token) → take_as test value 0 (front ++ w ∷ r) ≡ reading.bad (w ∷ r) → take_as test value 0 (front ++ w ∷ other) ≡ reading.bad (w ∷ other)
  unfolding take_as taken
  local_bad_of [] w r other h = ap (λ b. taken b (value w) 0 w other) (whole_bad (test w) w r (w ∷ r) h).0
  local_bad_of (x ∷ front) w r other h =
      let e : x ∷ front ++ w ∷ r ≡ w ∷ r = refused_bad (x ∷ front ++ w ∷ r) (w ∷ r) h in
      let none : x ∷ front ≡ [] = append_cancel_right (x ∷ front) [] (w ∷ r) e in
      absurd (cc)

  whole_deep : (b : Bool) (w : Token) (r rest : List Token) → taken b (value w) 0 w r ≡ reading.deep rest → (b ≡ true) × (w ∷ r ≡ rest)
  unfolding taken
  whole_deep true w r rest h = (refl, cc)
  whole_deep false w r rest h = absurd (cc)

  local_deep_of : (front : List Token) (w : Token) (r other : List Token) → take_as test value 0 (front ++ w ∷ r) ≡ reading.deep (w ∷ r) → take_as test value 0 (front ++ w ∷ other) ≡ reading.deep (w ∷ other)
  unfolding take_as taken
  local_deep_of [] w r other h = ap (λ b. taken b (value w) 0 w other) (whole_deep (test w) w r (w ∷ r) h).0
  local_deep_of (x ∷ front) w r other h =
      let e : x ∷ front ++ w ∷ r ≡ w ∷ r = (whole_deep (test x) x (front ++ w ∷ r) (w ∷ r) h).1 in
      let none : x ∷ front ≡ [] = append_cancel_right (x ∷ front) [] (w ∷ r) e in
      absurd (cc)

  pub refused_reads : Reads L most size Followed (take_as test value 0)
  unfolding Fits AreWithin
  refused_reads = record {
    good = λ ts tree rest h. absurd (refused_good ts tree rest h);
    bad = λ ts rest h. record { tree = some.0; pieces = []; missing = some.1.0; front = []; spelled = some.1.1; fits = tt; shallow = tt; whole = refused_bad ts rest h };
    deep = refused_deep;
    all = λ tree ps front rest is fits stop small. found_deep tree ps front rest (leading tree ps is) fits;
    local_good = λ front w r other tree h. absurd (refused_good (front ++ w ∷ r) tree (w ∷ r) h);
    local_bad = local_bad_of;
    local_deep = local_deep_of;
  }

-- ---- expressions

module _ (most n level : ℕ) (low : level ≤ 11) (deep : most < n) where
  name_opens : (w : Token) → w.kind ≡ Name → Opening (At level n) most w
  unfolding IsWanted StandsAt
  name_opens w k =
      record {
        tree = expr.Name (named_of w);
        piece = record { nesting = n; place = Some w.place; want = spelled Name w.text };
        missing = [];
        spelled_ = record { grammar = lower_to level 13 (omega (arith, low)) (expr.Name (named_of w)) (ap (λ f. f 13) (is_Expr_Name (named_of w))); wants = sym (ap (λ f. f n) (wants_Expr_Name (named_of w))) };
        takes = ((k, refl), refl);
        deep = deep;
      }

  literal_opens : (value : Literal) (w : Token) → IsWanted (want_of value) w → Opening (At level n) most w
  unfolding StandsAt
  literal_opens value w wanted =
      record {
        tree = expr.Literal w.place value;
        piece = record { nesting = n; place = Some w.place; want = want_of value };
        missing = [];
        spelled_ = record { grammar = lower_to level 13 (omega (arith, low)) (expr.Literal w.place value) (ap (λ f. f 13) (is_Expr_Literal w.place value)); wants = sym (ap (λ f. f n) (wants_Expr_Literal w.place value)) };
        takes = (wanted, refl);
        deep = deep;
      }

  group_opens : (w : Token) → w.kind ≡ Mark → w.text ≡ codes "(" → Opening (At level n) most w
  unfolding IsWanted StandsAt
  group_opens w k t =
      let value = some_at 0 (n + 1) (omega arith) in
      record {
        tree = expr.Parenthesized w.place value.0;
        piece = record { nesting = n; place = Some w.place; want = spelled Mark (codes "(") };
        missing = wants_of_expr value.0 (n + 1) ++ mark (codes ")") n;
        spelled_ = record { grammar = lower_to level 13 (omega (arith, low)) (expr.Parenthesized w.place value.0) (ap (λ f. f 13) (is_Expr_Parenthesized w.place value.0) ∙ value.1.1.grammar); wants = sym (ap (λ f. f n) (wants_Expr_Parenthesized w.place value.0)) };
        takes = ((k, t), refl);
        deep = deep;
      }

  prefix_opens : (operator : UnaryOperator) (w : Token) → w.kind ≡ Mark → w.text ≡ text_of_prefix operator → Opening (At level n) most w
  unfolding IsWanted StandsAt
  prefix_opens operator w k t =
      let value = some_at 11 (n + 1) (omega arith) in
      record {
        tree = expr.Unary w.place operator value.0;
        piece = record { nesting = n; place = Some w.place; want = spelled Mark (text_of_prefix operator) };
        missing = wants_of_expr value.0 (n + 1);
        spelled_ = record { grammar = lower_to level 11 low (expr.Unary w.place operator value.0) (ap (λ f. f 11) (is_Expr_Unary w.place operator value.0) ∙ value.1.1.grammar); wants = sym (ap (λ f. f n) (wants_Expr_Unary w.place operator value.0)) };
        takes = ((k, t), refl);
        deep = deep;
      }

  word_opens : (w : Token) → w.kind ≡ Word → (bytes_eq w.text (codes "true") ≡ true) ⊎ (bytes_eq w.text (codes "false") ≡ true) → Opening (At level n) most w
  unfolding IsWanted
  word_opens w k (inl h) = literal_opens literal.True w (k, (bytes_eq-Decides w.text (codes "true")).0 h)
  word_opens w k (inr h) = literal_opens literal.False w (k, (bytes_eq-Decides w.text (codes "false")).0 h)

  under_prefixes : AreUnder text_of_prefix prefixes
  unfolding AreUnder
  under_prefixes = (refl, (refl, (refl, (refl, (refl, (refl, tt))))))

  prefix_found : (w : Token) → w.kind ≡ Mark → (found : Option UnaryOperator) → found_in prefixes w.text ≡ found → is_some found ≡ true → Opening (At level n) most w
  prefix_found w k None is some = absurd (cc)
  prefix_found w k (Some operator) is some = prefix_opens operator w k (found_text text_of_prefix prefixes w.text operator under_prefixes is)

  mark_opens : (w : Token) → w.kind ≡ Mark → (bytes_eq w.text (codes "(") ≡ true) ⊎ (is_some (found_in prefixes w.text) ≡ true) → Opening (At level n) most w
  mark_opens w k (inl h) = group_opens w k ((bytes_eq-Decides w.text (codes "(")).0 h)
  mark_opens w k (inr h) = prefix_found w k (found_in prefixes w.text) refl h

  opens_by : (w : Token) (k : TokenKind) → w.kind ≡ k → expr_by k w.text ≡ true → Opening (At level n) most w
  unfolding expr_by spelled_by found_by IsWanted
  opens_by w Word k h = word_opens w k (or_cases (bytes_eq w.text (codes "true")) (bytes_eq w.text (codes "false")) (or_false _ (or_false _ h)))
  opens_by w Name k h = name_opens w k
  opens_by w TypeName k h = absurd (cc)
  opens_by w Integer k h = literal_opens (literal.Integer w.scalar w.number) w (k, refl, refl)
  opens_by w Character k h = literal_opens (literal.Character w.scalar w.number) w (k, refl, refl)
  opens_by w Str k h = absurd (cc)
  opens_by w Mark k h = mark_opens w k (or_cases (bytes_eq w.text (codes "(")) (is_some (found_in prefixes w.text)) h)
  opens_by w Bound k h = absurd (cc)
  opens_by w End k h = absurd (cc)

  suits_expr : Suits expr_by true
  unfolding expr_by spelled_by found_by found_in
  suits_expr = record { name = λ t. refl; integer = λ t. refl; character = λ t. refl; yes_ = refl; no_ = refl; bracket = refl; prefix = prefix_all expr_by true refl refl refl refl refl refl }

  expr_leading : (e : Expr) (ps : List Piece) → At level n e ps → Leading starts_expr most ps
  expr_leading e ps is =
      let lead = expr_leads expr_by true suits_expr n 13 level (omega arith) e is.grammar in
      record { piece = lead.piece; following = lead.following; is = is.wants ∙ lead.is; tells = lead.tells; deep = omega (arith, deep, lead.nested) }

  pub refused_expr : (size : ℕ) (Followed : List Token → Type 0) → Reads (At level n) most size Followed no_expr
  refused_expr size Followed = refused_reads (At level n) starts_expr (λ token. expr.Name (named_of token)) most size Followed (some_at level n (omega (arith, low))) (λ w h. opens_by w w.kind refl h) expr_leading

-- ---- spellings of types

module _ (most n : ℕ) (deep : most < n) where
  -- a spelling without const is a specifier list
  plain_opens : (w : Token) (k : TypeSpecifier) (piece : Piece) (missing : List Piece) → is_spelling_tree k ≡ true → wants_of_spelling k n ≡ piece ∷ missing → Takes piece w → piece.nesting ≡ n → Opening (SpecsAt n) most w
  unfolding words_at
  plain_opens w k piece missing ok wants takes nested =
      record {
        tree = roll-Specifiers (record { before = []; kind = k; after = [] });
        piece = piece;
        missing = missing ++ [];
        spelled_ = record { grammar = is_Specifiers [] k [] ∙ ok; wants = ap (λ u. u ++ []) (sym wants) ∙ sym (ap (λ f. f n) (wants_Specifiers [] k [])) };
        takes = takes;
        deep = omega (arith, deep, nested);
      }

  const_opens : (w : Token) → w.kind ≡ Word → w.text ≡ codes "const" → Opening (SpecsAt n) most w
  unfolding words_at IsWanted StandsAt
  const_opens w k t =
      record {
        tree = roll-Specifiers (record { before = w.place ∷ []; kind = spelling.TypeName no_name; after = [] });
        piece = record { nesting = n; place = Some w.place; want = spelled Word (codes "const") };
        missing = wants_of_spelling (spelling.TypeName no_name) n ++ [];
        spelled_ = record { grammar = is_Specifiers (w.place ∷ []) (spelling.TypeName no_name) [] ∙ is_TypeSpecifier_TypeName no_name; wants = sym (ap (λ f. f n) (wants_Specifiers (w.place ∷ []) (spelling.TypeName no_name) [])) };
        takes = ((k, t), refl);
        deep = deep;
      }

  type_word_opens : (v : TypeWord) (w : Token) → w.kind ≡ Word → w.text ≡ text_of_word v → Opening (SpecsAt n) most w
  unfolding agrees_all IsWanted StandsAt
  type_word_opens v w k t =
      plain_opens w (spelling.Words w.place (v ∷ [])) (record { nesting = n; place = Some w.place; want = spelled Word (text_of_word v) }) [] (is_TypeSpecifier_Words w.place (v ∷ []) ∙ spelling_whole v [] refl) (ap (λ f. f n) (wants_TypeSpecifier_Words w.place (v ∷ []))) ((k, t), refl) refl

  struct_opens : (w : Token) → w.kind ≡ Word → w.text ≡ codes "struct" → Opening (SpecsAt n) most w
  unfolding IsWanted StandsAt
  struct_opens w k t =
      plain_opens w (spelling.TagSpecifier (tag.Struct w.place (Some no_name) None)) (record { nesting = n; place = Some w.place; want = spelled Word (codes "struct") }) (name no_name n ++ []) (is_TypeSpecifier_TagSpecifier (tag.Struct w.place (Some no_name) None) ∙ is_TagSpecifier_Struct w.place (Some no_name) None)
      (ap (λ f. f n) (wants_TypeSpecifier_TagSpecifier (tag.Struct w.place (Some no_name) None)) ∙ ap (λ f. f n) (wants_TagSpecifier_Struct w.place (Some no_name) None)) ((k, t), refl) refl

  enum_opens : (w : Token) → w.kind ≡ Word → w.text ≡ codes "enum" → Opening (SpecsAt n) most w
  unfolding IsWanted StandsAt
  enum_opens w k t =
      plain_opens w (spelling.TagSpecifier (tag.Enum w.place (Some no_name) None Absent)) (record { nesting = n; place = Some w.place; want = spelled Word (codes "enum") }) (name no_name n ++ []) (is_TypeSpecifier_TagSpecifier (tag.Enum w.place (Some no_name) None Absent) ∙ is_TagSpecifier_Enum w.place (Some no_name) None Absent)
      (ap (λ f. f n) (wants_TypeSpecifier_TagSpecifier (tag.Enum w.place (Some no_name) None Absent)) ∙ ap (λ f. f n) (wants_TagSpecifier_Enum w.place (Some no_name) None Absent)) ((k, t), refl) refl

  type_name_opens : (w : Token) → w.kind ≡ TypeName → Opening (SpecsAt n) most w
  unfolding IsWanted StandsAt
  type_name_opens w k =
      plain_opens w (spelling.TypeName (named_of w)) (record { nesting = n; place = Some w.place; want = spelled TypeName w.text }) [] (is_TypeSpecifier_TypeName (named_of w)) (ap (λ f. f n) (wants_TypeSpecifier_TypeName (named_of w))) ((k, refl), refl) refl

  found_opens : (w : Token) → w.kind ≡ Word → (found : Option TypeWord) → found_in type_words w.text ≡ found → is_some found ≡ true → Opening (SpecsAt n) most w
  found_opens w k None is some = absurd (cc)
  found_opens w k (Some v) is some = type_word_opens v w k (found_text text_of_word type_words w.text v under_words is)

  first_two : (w : Token) → w.kind ≡ Word → (bytes_eq w.text (codes "const") ≡ true) ⊎ (is_some (found_in type_words w.text) ≡ true) → Opening (SpecsAt n) most w
  first_two w k (inl h) = const_opens w k ((bytes_eq-Decides w.text (codes "const")).0 h)
  first_two w k (inr h) = found_opens w k (found_in type_words w.text) refl h

  first_three : (w : Token) → w.kind ≡ Word → ((bytes_eq w.text (codes "const") || is_some (found_in type_words w.text)) ≡ true) ⊎ (bytes_eq w.text (codes "struct") ≡ true) → Opening (SpecsAt n) most w
  first_three w k (inl h) = first_two w k (or_cases _ _ h)
  first_three w k (inr h) = struct_opens w k ((bytes_eq-Decides w.text (codes "struct")).0 h)

  all_four : (w : Token) → w.kind ≡ Word → ((bytes_eq w.text (codes "const") || is_some (found_in type_words w.text) || bytes_eq w.text (codes "struct")) ≡ true) ⊎ (bytes_eq w.text (codes "enum") ≡ true) → Opening (SpecsAt n) most w
  all_four w k (inl h) = first_three w k (or_cases _ _ h)
  all_four w k (inr h) = enum_opens w k ((bytes_eq-Decides w.text (codes "enum")).0 h)

  type_opens_by : (w : Token) (k : TokenKind) → w.kind ≡ k → type_by k w.text ≡ true → Opening (SpecsAt n) most w
  unfolding type_by spelled_by found_by
  type_opens_by w Word k h = all_four w k (or_cases _ _ (or_false _ h))
  type_opens_by w Name k h = absurd (cc)
  type_opens_by w TypeName k h = type_name_opens w k
  type_opens_by w Integer k h = absurd (cc)
  type_opens_by w Character k h = absurd (cc)
  type_opens_by w Str k h = absurd (cc)
  type_opens_by w Mark k h = absurd (cc)
  type_opens_by w Bound k h = absurd (cc)
  type_opens_by w End k h = absurd (cc)

  suits_type : SuitsType type_by true
  unfolding type_by spelled_by found_by found_in
  suits_type = record { constant = refl; word = word_all type_by true refl refl refl refl refl refl refl refl refl refl refl refl refl refl refl refl refl; struct_ = refl; enum_ = refl; type_name = λ t. refl }

  specs_leading : (t : Specifiers) (ps : List Piece) → SpecsAt n t ps → Leading starts_type most ps
  specs_leading t ps is =
      let lead = specs_lead type_by true suits_type n t is.grammar in
      record { piece = lead.piece; following = lead.following; is = is.wants ∙ lead.is; tells = lead.tells; deep = omega (arith, deep, lead.nested) }

  pub refused_specs : (size : ℕ) (Followed : List Token → Type 0) → Reads (SpecsAt n) most size Followed no_specs
  refused_specs size Followed = refused_reads (SpecsAt n) starts_type (λ token. roll-Specifiers (record { before = []; kind = spelling.TypeName (named_of token); after = [] })) most size Followed (some_specs n) (λ w h. type_opens_by w w.kind refl h) specs_leading

-- ---- all levels

-- the readers where so many levels are left read what is nested so deeply
pub record AllRead (most size n left : ℕ) : Type 0 where
  pub left_is : (readers_at size left).left ≡ left
  pub unary : Reads (At 11 n) most size (Stops 11) (readers_at size left).unary
  pub expr : Reads (At 0 n) most size (Stops 0) (readers_at size left).expr
  pub specs : Reads (SpecsAt n) most size StopsType (readers_at size left).specs

pub all_read : (most size left n : ℕ) → n + left ≡ most + 1 → AllRead most size n left
unfolding readers_at
all_read most size zero n level =
    record {
      left_is = refl;
      unary = refused_expr most n 11 (omega arith) (omega (arith, level)) size (Stops 11);
      expr = refused_expr most n 0 (omega arith) (omega (arith, level)) size (Stops 0);
      specs = refused_specs most n (omega (arith, level)) size StopsType;
    }
all_read most size (suc left) n level =
    let below = all_read most size left (n + 1) (omega (arith, level)) in
    let inner : InnerReads most size n (readers_at size left) = record { level = omega (arith, level, below.left_is); unary = below.unary; expr = below.expr; specs = below.specs } in
    let whole = expr_reads most size n (suc left) level (readers_at size left) inner in
    record {
      left_is = refl;
      unary = unary_reads most size n (suc left) level (readers_at size left) inner;
      expr = whole;
      specs = specs_reads most size n (suc left) level (readers_at size left) inner (read_expr size (suc left) (readers_at size left)) whole;
    }
