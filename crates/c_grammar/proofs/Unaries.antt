-- The readers of unary expressions.
use Rattle.std.proofs.Common.{◌≡◌, ◌≤◌, ◌<◌, ◌⊎◌, inl, inr, ℕ, ◌+◌, Bool, true, false, ◌&&◌, ◌||◌, ◌==◌, List, [], ◌∷◌, ◌++◌, length, map, Some, is_some, refl, sym, ap, ◌∙◌, subst, arith, codes, nat_le}
use Rattle.std.proofs.lemmas.List.{append_assoc, append-nil, length-append}
use Rattle.std.proofs.lemmas.Bool.{le-leb, leb-true}
use Rattle.std.specs.List.{list_all}
use Rattle.c_tree.specs.Pieces.{Piece, spelled, want_of, IsWanted, all_of}
use Rattle.c_tree.specs.Operators.{text_of_prefix}
use Rattle.c_tree.specs.Folds.{wants_of_expr, wants_of_specs, wants_of_suffix, binds, are_specs, operand_level, is_suffix_tree}
use Rattle.c_tree.specs.Expressions.{is_chain}
use Rattle.c_tree.proofs.Cases.{cases_Expr}
use Rattle.c_tree.proofs.FoldsLaws.{wants_Expr_Parenthesized, wants_Expr_Postfix, wants_Expr_Unary, wants_Expr_Cast, is_Expr_Name, is_Expr_Literal, is_Expr_Call, is_Expr_Parenthesized, is_Expr_Postfix, is_Expr_Unary, is_Expr_Cast, is_Expr_BinaryChain, is_Expr_Conditional}
use Rattle.c_tree.specs.declared.token.Place.{Place}
use Rattle.c_tree.specs.declared.token.Token.{Token}
use Rattle.c_tree.specs.declared.token.TokenKind.{TokenKind}
use Rattle.c_tree.specs.declared.token.TokenKind.TheVariants.{Word, Name, Integer, Character, Mark}
use Rattle.c_tree.specs.declared.expressions.Literal.{Literal}
use Rattle.c_tree.specs.declared.expressions.Literal.TheVariants as literal
use Rattle.c_tree.specs.declared.expressions.UnaryOperator.{UnaryOperator}
use Rattle.c_tree.specs.declared.expressions.UnaryOperator.TheVariants as prefix
use Rattle.c_tree.specs.declared.expressions.Specifiers.{Specifiers}
use Rattle.c_tree.specs.declared.expressions.Suffix.{Suffix}
use Rattle.c_tree.specs.declared.expressions.Operand.{Operand}
use Rattle.c_tree.specs.declared.expressions.Expr.{Expr}
use Rattle.c_tree.specs.declared.expressions.Expr.TheVariants as expr
use Rattle.c_reader.specs.Reading.{Reader, ◌>>=◌, choose, many}
use Rattle.c_reader.specs.Tokens.{is_mark, is_spelled, is_kind, found_of, found_by, found_in, spelled_by}
use Rattle.c_grammar.specs.Tokens.{is_prefix, prefixes, prefix_of, is_suffix, suffix_by, goes_on, goes_by, is_from_level, operators, starts_type, type_by, type_goes_on, type_goes_by}
use Rattle.c_grammar.specs.Expressions.{Inner, postfixed, read_suffix, read_after, read_primary, read_named, read_literal, read_cast, read_group, read_bracketed, read_prefixed, read_unary}
use Rattle.c_reader.proofs.Reader.{Language, Reads}
use Rattle.c_reader.proofs.Binding.{Both, bind_reads}
use Rattle.c_reader.proofs.Giving.{Given, give_reads, reads_as}
use Rattle.c_reader.proofs.Taking.{Single}
use Rattle.c_reader.proofs.Choosing.{FirstIs, Either, this, that, choose_reads}
use Rattle.c_reader.proofs.Repeating.{Several, many_reads, given_stops, several_given_stops, some_list}
use Rattle.c_reader.proofs.Beginning.{Begins, begins_both, begins_single, begins_either, SomeOf, some_both, some_single, some_given}
use Rattle.c_reader.proofs.Joining.{in_both, in_single, in_given, onto, join2, join3, join4}
use Rattle.c_reader.proofs.Listing.{all_to, all_from, list_all_map}
use Rattle.c_reader.proofs.Spelt.{by_text, spelled_is, spelt, spelt_at, named, AreUnder, found_yes, table_piece, table_reads, spelt_reads, spelt_at_reads}
use Rattle.c_grammar.proofs.Literals.{literal_piece}
use Rattle.c_grammar.proofs.Starting.{Suits, begins_at, chain_parts, postfix_parts, conditional_parts}
use Rattle.c_grammar.proofs.Typing.{SuitsType, begins_type, word_all}
use Rattle.c_grammar.proofs.Suffixes.{At, SpecsAt, SuffixAt, Stops, StopsType, Any, InnerReads, some_at, any_from, suffix_reads, IndexL, MemberL, ArrowL}
use Rattle.c_grammar.proofs.Primaries.{StopsName, prefix_all, PlainL, NamedL, LiteralL, plain_reads, plain_to, from_name, from_literal, from_call}
use Rattle.c_reader.proofs.Truths.{not_true, and_left, and_right, and_both, or_cases, or_left, or_right}

-- a suffix is no opening bracket
no_bracket_of : (text : List ℕ) (w : Token) → spelled_by Mark (codes "(") Mark text ≡ false → spelled_by Mark text w.kind w.text ≡ true → is_mark (codes "(") w ≡ false
unfolding spelled_by is_spelled is_kind
no_bracket_of text w is h = let x = spelled_is Mark text w h in by_text (spelled_by Mark (codes "(")) Mark text false w x.0 x.1 is

suffix_cases : (w : Token) → (spelled_by Mark (codes "[") w.kind w.text ≡ true) ⊎ (spelled_by Mark (codes ".") w.kind w.text ≡ true) → is_mark (codes "(") w ≡ false
unfolding spelled_by
suffix_cases w (inl h) = no_bracket_of (codes "[") w refl h
suffix_cases w (inr h) = no_bracket_of (codes ".") w refl h

suffix_first : (w : Token) → ((spelled_by Mark (codes "[") w.kind w.text || spelled_by Mark (codes ".") w.kind w.text) ≡ true) ⊎ (spelled_by Mark (codes "->") w.kind w.text ≡ true) → is_mark (codes "(") w ≡ false
unfolding spelled_by
suffix_first w (inl h) = suffix_cases w (or_cases _ _ h)
suffix_first w (inr h) = no_bracket_of (codes "->") w refl h

suffix_no_bracket : (w : Token) → is_suffix w ≡ true → is_mark (codes "(") w ≡ false
unfolding suffix_by
suffix_no_bracket w h = suffix_first w (or_cases _ _ h)

bracket_follows : (ts : List Token) → FirstIs is_suffix true ts → StopsName ts
unfolding FirstIs
bracket_follows [] h = refl
bracket_follows (w ∷ rest) h = suffix_no_bracket w h

-- what goes on with nothing opens no bracket and is no suffix
stops_name : (level : ℕ) (ts : List Token) → Stops level ts → StopsName ts
unfolding FirstIs goes_by spelled_by is_spelled is_kind
stops_name level [] h = refl
stops_name level (w ∷ rest) h = or_right (suffix_by w.kind w.text) (spelled_by Mark (codes "(") w.kind w.text) (or_left _ (is_from_level level (found_by Mark operators w.kind w.text)) (or_left _ (level == 0 && spelled_by Mark (codes "?") w.kind w.text) h))

stops_suffix : (level : ℕ) (ts : List Token) → Stops level ts → FirstIs is_suffix false ts
unfolding FirstIs goes_by
stops_suffix level [] h = refl
stops_suffix level (w ∷ rest) h = or_left (suffix_by w.kind w.text) (spelled_by Mark (codes "(") w.kind w.text) (or_left _ (is_from_level level (found_by Mark operators w.kind w.text)) (or_left _ (level == 0 && spelled_by Mark (codes "?") w.kind w.text) h))

-- what binds strongly binds less strongly too
lower_le : (a b level : ℕ) → a ≤ b → nat_le b level ≡ true → nat_le a level ≡ true
lower_le a b level low h = le-leb a level (omega (arith, low, leb-true b level h))

low2 : (a b level : ℕ) (r : Bool) → a ≤ b → (nat_le b level && r) ≡ true → (nat_le a level && r) ≡ true
low2 a b level r low h = and_both (nat_le a level) r (lower_le a b level low (and_left (nat_le b level) r h)) (and_right (nat_le b level) r h)

low3 : (a b level : ℕ) (r t : Bool) → a ≤ b → (nat_le b level && r && t) ≡ true → (nat_le a level && r && t) ≡ true
low3 a b level r t low h = and_both (nat_le a level && r) t (low2 a b level r low (and_left (nat_le b level && r) t h)) (and_right (nat_le b level && r) t h)

low4 : (a b level : ℕ) (r t u : Bool) → a ≤ b → (nat_le b level && r && t && u) ≡ true → (nat_le a level && r && t && u) ≡ true
low4 a b level r t u low h = and_both (nat_le a level && r && t) u (low3 a b level r t low (and_left (nat_le b level && r && t) u h)) (and_right (nat_le b level && r && t) u h)

lower_chain : (a b : ℕ) → a ≤ b → (first : Expr) (operands : List Operand) → is_chain (binds first) (map operand_level operands) b ≡ true → is_chain (binds first) (map operand_level operands) a ≡ true
lower_chain a b low first [] h = absurd (not_true h)
lower_chain a b low first (o ∷ rest) h = low3 a b (operand_level o).level (binds first ((operand_level o).level + 1)) (list_all (λ p. (p.level == (operand_level o).level) && p.value (p.level + 1)) (map operand_level (o ∷ rest))) low h

-- the same step of a test at two levels
moved : (f g : ℕ → Bool) (a b : ℕ) → f ≡ g → (g b ≡ true → g a ≡ true) → f b ≡ true → f a ≡ true
moved f g a b is step h = ap (λ u. u a) is ∙ step (sym (ap (λ u. u b) is) ∙ h)

pub lower_to : (a b : ℕ) → a ≤ b → (e : Expr) → binds e b ≡ true → binds e a ≡ true
lower_to a b low e = cases_Expr (λ u. binds u b ≡ true → binds u a ≡ true)
    (λ named. moved _ _ a b (is_Expr_Name named) (lower_le a b 13 low))
    (λ place value. moved _ _ a b (is_Expr_Literal place value) (lower_le a b 13 low))
    (λ named place arguments. moved _ _ a b (is_Expr_Call named place arguments) (low2 a b 13 _ low))
    (λ place inner. moved _ _ a b (is_Expr_Parenthesized place inner) (low2 a b 13 _ low))
    (λ primary suffixes. moved _ _ a b (is_Expr_Postfix primary suffixes) (low4 a b 12 _ _ _ low))
    (λ place operator operand. moved _ _ a b (is_Expr_Unary place operator operand) (low2 a b 11 _ low))
    (λ place specs operand. moved _ _ a b (is_Expr_Cast place specs operand) (low3 a b 11 _ _ low))
    (λ first operands. moved _ _ a b (is_Expr_BinaryChain first operands) (lower_chain a b low first operands))
    (λ condition place second third. moved _ _ a b (is_Expr_Conditional condition place second third) (low4 a b 0 _ _ _ low))
    e

lower : (e : Expr) → binds e 13 ≡ true → binds e 11 ≡ true
lower e h = lower_to 11 13 (omega arith) e h

abbrev prefix_by : TokenKind → List ℕ → Bool
prefix_by k t = is_some (found_by Mark prefixes k t)

literal_by_kind : (by : TokenKind → List ℕ → Bool) (b : Bool) → ((text : List ℕ) → by Integer text ≡ b) → ((text : List ℕ) → by Character text ≡ b) → by Word (codes "true") ≡ b → by Word (codes "false") ≡ b → (value : Literal) (w : Token) → IsWanted (want_of value) w → by w.kind w.text ≡ b
unfolding IsWanted
literal_by_kind by b of_integer of_character of_true of_false (literal.Integer scalar number) w wanted = ap (λ k. by k w.text) wanted.0 ∙ of_integer w.text
literal_by_kind by b of_integer of_character of_true of_false (literal.Character scalar number) w wanted = ap (λ k. by k w.text) wanted.0 ∙ of_character w.text
literal_by_kind by b of_integer of_character of_true of_false literal.True w wanted = by_text by Word (codes "true") b w wanted.0 wanted.1 of_true
literal_by_kind by b of_integer of_character of_true of_false literal.False w wanted = by_text by Word (codes "false") b w wanted.0 wanted.1 of_false

module _ (most size n left : ℕ) (level : n + left ≡ most + 1) (inner : Inner) (I : InnerReads most size n inner) where
  suffix_begins : Begins (SuffixAt n) is_suffix true
  unfolding IsWanted suffix_by spelled_by
  suffix_begins s ps front rest is fits =
      begins_either (IndexL most size n left level inner I) (Either (MemberL most size n left level inner I) (ArrowL most size n left level inner I)) is_suffix true
      (begins_both _ _ is_suffix true (begins_single (spelt_at Mark (codes "[") n) is_suffix true (λ place w takes. by_text suffix_by Mark (codes "[") true w takes.0.0 takes.0.1 refl)))
      (begins_either (MemberL most size n left level inner I) (ArrowL most size n left level inner I) is_suffix true
      (begins_both _ _ is_suffix true (begins_single (spelt_at Mark (codes ".") n) is_suffix true (λ place w takes. by_text suffix_by Mark (codes ".") true w takes.0.0 takes.0.1 refl)))
      (begins_both _ _ is_suffix true (begins_single (spelt_at Mark (codes "->") n) is_suffix true (λ place w takes. by_text suffix_by Mark (codes "->") true w takes.0.0 takes.0.1 refl))))
      s ps front rest (any_from most size n left level inner I s ps is) fits

  both_some : {A C : Type 0} (piece : A → Piece) (K : A → Language C) (c : C) (ps : List Piece) → Both (Single piece) K c ps → 0 < length ps
  both_some piece K c ps b = omega (arith, ap length b.whole, ap length b.left.one, length-append b.pieces1 b.pieces2)

  suffix_some_of : (s : Suffix) (ps : List Piece) → Either (IndexL most size n left level inner I) (Either (MemberL most size n left level inner I) (ArrowL most size n left level inner I)) s ps → 0 < length ps
  suffix_some_of s ps (this b) = both_some _ _ s ps b
  suffix_some_of s ps (that (this b)) = both_some _ _ s ps b
  suffix_some_of s ps (that (that b)) = both_some _ _ s ps b

  suffix_some : (s : Suffix) (ps : List Piece) → SuffixAt n s ps → 0 < length ps
  suffix_some s ps is = suffix_some_of s ps (any_from most size n left level inner I s ps is)

  -- ---- what stands after a primary expression

  abbrev pub PostfixL : Language Expr → Language Expr
  PostfixL P = Both P (λ primary. Both (Several (SuffixAt n)) (λ suffixes. Given (postfixed primary suffixes)))

  suffixes_read : Reads (Several (SuffixAt n)) most size (Stops 11) (many size is_suffix (read_suffix left inner))
  suffixes_read = many_reads (SuffixAt n) most size Any (Stops 11) is_suffix (read_suffix left inner) (suffix_reads most size n left level inner I Any) suffix_begins (λ ts h. tt) (λ ts h. tt) (stops_suffix 11) suffix_some

  following_reads : (P : Language Expr) (StopsP : List Token → Type 0) (f : Reader Expr) → Reads P most size StopsP f → ((ts : List Token) → FirstIs is_suffix true ts → StopsP ts) → ((ts : List Token) → Stops 11 ts → StopsP ts)
      → Reads (PostfixL P) most size (Stops 11) (f >>= read_after size left inner)
  unfolding read_after
  following_reads P StopsP f F goes_on ends =
      bind_reads P (λ primary. Both (Several (SuffixAt n)) (λ suffixes. Given (postfixed primary suffixes))) most size StopsP (Stops 11) f (read_after size left inner) F
      (λ primary. bind_reads _ _ most size (Stops 11) (Stops 11) _ _ suffixes_read (λ suffixes. give_reads (postfixed primary suffixes) most size (Stops 11))
      (λ suffixes ps is. some_given (postfixed primary suffixes))
      (λ suffixes c qs ys rest is fits stop. given_stops (postfixed primary suffixes) c qs ys rest (Stops 11) is fits stop))
      (λ primary ps is. some_list (SuffixAt n) (postfixed primary))
      (λ primary c qs ys rest is fits stop. several_given_stops (SuffixAt n) (postfixed primary) is_suffix StopsP (Stops 11) suffix_begins goes_on ends c qs ys rest is fits stop)

  postfixed_at : (primary : Expr) (suffixes : List Suffix) → binds primary 13 ≡ true → list_all is_suffix_tree suffixes ≡ true → (binds (postfixed primary suffixes) 11 ≡ true) × (wants_of_expr (postfixed primary suffixes) n ≡ wants_of_expr primary n ++ all_of (map wants_of_suffix suffixes) n)
  unfolding all_of
  postfixed_at primary [] h all = (lower primary h, sym (append-nil (wants_of_expr primary n)))
  postfixed_at primary (first ∷ rest) h all = (
    ap (λ f. f 11) (is_Expr_Postfix primary (first ∷ rest)) ∙ and_both (binds primary 13 && true) (list_all (λ s. s) (map is_suffix_tree (first ∷ rest))) (and_both (binds primary 13) true h refl) (list_all_map is_suffix_tree (λ s. s) (first ∷ rest) ∙ all),
    ap (λ f. f n) (wants_Expr_Postfix primary (first ∷ rest)),
  )

  postfix_to : (P : Language Expr) → ((e : Expr) (ps : List Piece) → P e ps → At 13 n e ps) → (e : Expr) (ps : List Piece) → PostfixL P e ps → At 11 n e ps
  postfix_to P to e ps b =
      let p = to b.first b.pieces1 b.left in
      let all = all_to is_suffix_tree wants_of_suffix n b.right.first b.right.pieces1 b.right.left in
      let at = postfixed_at b.first b.right.first p.grammar all.grammar in
      record {
        grammar = ap (λ u. binds u 11) b.right.right.tree_is ∙ at.0;
        wants = onto b.whole p.wants (onto b.right.whole all.wants b.right.right.none ∙ append-nil (all_of (map wants_of_suffix b.right.first) n)) ∙ sym at.1 ∙ ap (λ u. wants_of_expr u n) (sym b.right.right.tree_is);
      }

  -- a primary expression with nothing after it
  postfix_none : (P : Language Expr) (e : Expr) (ps : List Piece) → P e ps → PostfixL P e ps
  unfolding Several
  postfix_none P e ps is = subst (λ u. PostfixL P e u) (append-nil ps) (in_both _ _ _ _ _ e is (in_both _ _ _ [] [] [] refl (in_given e)))

  postfix_some : (P : Language Expr) (primary : Expr) (suffixes : List Suffix) (qs ps : List Piece) → P primary qs → qs ≡ wants_of_expr primary n → At 12 n (expr.Postfix primary suffixes) ps → PostfixL P (expr.Postfix primary suffixes) ps
  postfix_some P primary [] qs ps is wants at = absurd (not_true (postfix_parts primary [] 12 at.grammar).2)
  postfix_some P primary (first ∷ rest) qs ps is wants at =
      let parts = postfix_parts primary (first ∷ rest) 12 at.grammar in
      let all : list_all is_suffix_tree (first ∷ rest) ≡ true = sym (list_all_map is_suffix_tree (λ s. s) (first ∷ rest)) ∙ parts.3 in
      subst (λ u. PostfixL P (expr.Postfix primary (first ∷ rest)) u)
      (ap (λ u. u ++ (all_of (map wants_of_suffix (first ∷ rest)) n ++ [])) wants ∙ ap (λ u. wants_of_expr primary n ++ u) (append-nil (all_of (map wants_of_suffix (first ∷ rest)) n)) ∙ sym (ap (λ f. f n) (wants_Expr_Postfix primary (first ∷ rest))) ∙ sym at.wants)
      (in_both _ _ _ _ _ primary is (in_both _ _ _ _ _ (first ∷ rest) (all_from is_suffix_tree wants_of_suffix n (first ∷ rest) (all_of (map wants_of_suffix (first ∷ rest)) n) (record { grammar = all; wants = refl })) (in_given (expr.Postfix primary (first ∷ rest)))))

  -- ---- casts and groups after their opening bracket

  closed : Single (spelt Mark (codes ")") n) tt (spelt Mark (codes ")") n tt ∷ [])
  closed = in_single (spelt Mark (codes ")") n) tt

  bracket_stops : (by : TokenKind → List ℕ → Bool) → by Mark (codes ")") ≡ false → Begins (Single (spelt Mark (codes ")") n)) (λ w. by w.kind w.text) false
  unfolding IsWanted
  bracket_stops by is = begins_single (spelt Mark (codes ")") n) (λ w. by w.kind w.text) false (λ u w takes. by_text by Mark (codes ")") false w takes.0.0 takes.0.1 is)

  abbrev pub CastL : Place → Language Expr
  CastL place = Both (SpecsAt (n + 1)) (λ specs. Both (Single (spelt Mark (codes ")") n)) (λ closing. Both (At 11 (n + 1)) (λ operand. Given (expr.Cast place specs operand))))

  cast_read : (place : Place) → Reads (CastL place) most size (Stops 11) (read_cast left inner place)
  unfolding read_cast type_goes_by found_by found_in spelled_by
  cast_read place =
      bind_reads _ _ most size StopsType (Stops 11) _ _ I.specs
      (λ specs. bind_reads _ _ most size Any (Stops 11) _ _ (spelt_reads most size Any Mark (codes ")") n left level)
      (λ closing. bind_reads _ _ most size (Stops 11) (Stops 11) _ _ I.unary (λ operand. give_reads (expr.Cast place specs operand) most size (Stops 11))
      (λ operand ps is. some_given (expr.Cast place specs operand))
      (λ operand c qs ys rest is fits stop. given_stops (expr.Cast place specs operand) c qs ys rest (Stops 11) is fits stop))
      (λ closing ps is. some_both _ _ (some_at 11 (n + 1) (omega arith)) (λ operand. some_given (expr.Cast place specs operand)))
      (λ closing c qs ys rest is fits stop. tt))
      (λ specs ps is. some_both _ _ (some_single (spelt Mark (codes ")") n) tt) (λ closing. some_both _ _ (some_at 11 (n + 1) (omega arith)) (λ operand. some_given (expr.Cast place specs operand))))
      (λ specs c qs ys rest is fits stop. begins_both _ _ type_goes_on false (bracket_stops type_goes_by refl) c qs ys rest is fits)

  abbrev pub GroupL : Place → Language Expr
  GroupL place = Both (At 0 (n + 1)) (λ value. Both (Single (spelt Mark (codes ")") n)) (λ closing. Given (expr.Parenthesized place value)))

  group_read : (Followed : List Token → Type 0) (place : Place) → Reads (GroupL place) most size Followed (read_group left inner place)
  unfolding read_group goes_by suffix_by found_by found_in spelled_by
  group_read Followed place =
      bind_reads _ _ most size (Stops 0) Followed _ _ I.expr
      (λ value. bind_reads _ _ most size Any Followed _ _ (spelt_reads most size Any Mark (codes ")") n left level) (λ closing. give_reads (expr.Parenthesized place value) most size Followed)
      (λ closing ps is. some_given (expr.Parenthesized place value))
      (λ closing c qs ys rest is fits stop. tt))
      (λ value ps is. some_both _ _ (some_single (spelt Mark (codes ")") n) tt) (λ closing. some_given (expr.Parenthesized place value)))
      (λ value c qs ys rest is fits stop. begins_both _ _ (goes_on 0) false (bracket_stops (goes_by 0) refl) c qs ys rest is fits)

  suits_expr_type : Suits type_by false
  unfolding type_by spelled_by found_by found_in
  suits_expr_type = record { name = λ t. refl; integer = λ t. refl; character = λ t. refl; yes_ = refl; no_ = refl; bracket = refl; prefix = prefix_all type_by false refl refl refl refl refl refl }

  suits_type_type : SuitsType type_by true
  unfolding type_by spelled_by found_by found_in
  suits_type_type = record { constant = refl; word = word_all type_by true refl refl refl refl refl refl refl refl refl refl refl refl refl refl refl refl refl; struct_ = refl; enum_ = refl; type_name = λ t. refl }

  abbrev pub BracketedL : Language Expr
  BracketedL = Both (Single (spelt_at Mark (codes "(") n)) (λ place. Either (CastL place) (PostfixL (GroupL place)))

  some_group : (place : Place) → SomeOf (GroupL place)
  some_group place = some_both _ _ (some_at 0 (n + 1) (omega arith)) (λ value. some_both _ _ (some_single (spelt Mark (codes ")") n) tt) (λ closing. some_given (expr.Parenthesized place value)))

  bracketed_read : Reads BracketedL most size (Stops 11) (read_bracketed size left inner)
  unfolding read_bracketed
  bracketed_read =
      bind_reads _ _ most size Any (Stops 11) _ _ (spelt_at_reads most size Any Mark (codes "(") n left level)
      (λ place. choose_reads (CastL place) (PostfixL (GroupL place)) most size (Stops 11) starts_type (read_cast left inner place) (read_group left inner place >>= read_after size left inner)
      (cast_read place) (following_reads (GroupL place) Any (read_group left inner place) (group_read Any place) (λ ts h. tt) (λ ts h. tt))
      (λ e ps front rest is fits stop. begins_both _ _ starts_type true (begins_type type_by true suits_type_type (n + 1)) e ps front rest is fits)
      (λ e ps front rest is fits stop. begins_both _ _ starts_type false (begins_both _ _ starts_type false (begins_at type_by false suits_expr_type (n + 1) 0)) e ps front rest is fits))
      (λ place ps is. let g = some_group place in (g.0, (g.1.0, that (postfix_none (GroupL place) g.0 g.1.0 g.1.1))))
      (λ place c qs ys rest is fits stop. tt)

  -- ---- prefixes

  pub under_prefixes : AreUnder text_of_prefix prefixes
  unfolding AreUnder
  under_prefixes = (refl, (refl, (refl, (refl, (refl, (refl, tt))))))

  pub found_prefix : (o : UnaryOperator) → found_in prefixes (text_of_prefix o) ≡ Some o
  unfolding found_in
  found_prefix prefix.Plus = refl
  found_prefix prefix.Minus = refl
  found_prefix prefix.Complement = refl
  found_prefix prefix.Not = refl
  found_prefix prefix.Indirection = refl
  found_prefix prefix.Address = refl

  abbrev pub PrefixedL : Language Expr
  PrefixedL = Both (Single (table_piece most size Any Mark text_of_prefix prefixes prefix.Plus under_prefixes found_prefix n)) (λ found. Both (At 11 (n + 1)) (λ operand. Given (expr.Unary found.0 found.1 operand)))

  prefixed_read : Reads PrefixedL most size (Stops 11) (read_prefixed left inner)
  unfolding read_prefixed prefix_of
  prefixed_read =
      bind_reads _ _ most size Any (Stops 11) _ _ (table_reads most size Any Mark text_of_prefix prefixes prefix.Plus under_prefixes found_prefix n left level)
      (λ found. bind_reads _ _ most size (Stops 11) (Stops 11) _ _ I.unary (λ operand. give_reads (expr.Unary found.0 found.1 operand) most size (Stops 11))
      (λ operand ps is. some_given (expr.Unary found.0 found.1 operand))
      (λ operand c qs ys rest is fits stop. given_stops (expr.Unary found.0 found.1 operand) c qs ys rest (Stops 11) is fits stop))
      (λ found ps is. some_both _ _ (some_at 11 (n + 1) (omega arith)) (λ operand. some_given (expr.Unary found.0 found.1 operand)))
      (λ found c qs ys rest is fits stop. tt)

  -- ---- the same by trees

  prefix_flat : (place : Place) (operator : UnaryOperator) (operand : Expr) → (record { nesting = n; place = Some place; want = spelled Mark (text_of_prefix operator) } ∷ []) ++ (wants_of_expr operand (n + 1) ++ []) ≡ wants_of_expr (expr.Unary place operator operand) n
  prefix_flat place operator operand = join2 (record { nesting = n; place = Some place; want = spelled Mark (text_of_prefix operator) } ∷ []) (wants_of_expr operand (n + 1)) ∙ sym (ap (λ f. f n) (wants_Expr_Unary place operator operand))

  prefixed_to : (e : Expr) (ps : List Piece) → PrefixedL e ps → At 11 n e ps
  prefixed_to e ps b =
      let is : e ≡ expr.Unary b.first.0 b.first.1 b.right.first = b.right.right.tree_is in
      record {
        grammar = ap (λ u. binds u 11) is ∙ ap (λ f. f 11) (is_Expr_Unary b.first.0 b.first.1 b.right.first) ∙ b.right.left.grammar;
        wants = onto b.whole b.left.one (onto b.right.whole b.right.left.wants b.right.right.none) ∙ prefix_flat b.first.0 b.first.1 b.right.first ∙ ap (λ u. wants_of_expr u n) (sym is);
      }

  prefixed_from : (place : Place) (operator : UnaryOperator) (operand : Expr) (ps : List Piece) → At 11 n (expr.Unary place operator operand) ps → PrefixedL (expr.Unary place operator operand) ps
  prefixed_from place operator operand ps is =
      subst (λ u. PrefixedL (expr.Unary place operator operand) u) (prefix_flat place operator operand ∙ sym is.wants)
      (in_both _ _ _ _ _ (place, operator) (in_single _ (place, operator))
      (in_both _ _ _ _ _ operand (record { grammar = sym (ap (λ f. f 11) (is_Expr_Unary place operator operand)) ∙ is.grammar; wants = refl }) (in_given (expr.Unary place operator operand))))

  abbrev opening : Place → Piece
  opening place = spelt_at Mark (codes "(") n place

  cast_flat : (place : Place) (specs : Specifiers) (operand : Expr) → (opening place ∷ []) ++ (wants_of_specs specs (n + 1) ++ ((spelt Mark (codes ")") n tt ∷ []) ++ (wants_of_expr operand (n + 1) ++ []))) ≡ wants_of_expr (expr.Cast place specs operand) n
  cast_flat place specs operand = join4 (opening place ∷ []) (wants_of_specs specs (n + 1)) (spelt Mark (codes ")") n tt ∷ []) (wants_of_expr operand (n + 1)) ∙ sym (ap (λ f. f n) (wants_Expr_Cast place specs operand))

  cast_to : (place : Place) (e : Expr) (qs : List Piece) → CastL place e qs → At 11 n e ((opening place ∷ []) ++ qs)
  cast_to place e qs b =
      let is : e ≡ expr.Cast place b.first b.right.right.first = b.right.right.right.tree_is in
      record {
        grammar = ap (λ u. binds u 11) is ∙ ap (λ f. f 11) (is_Expr_Cast place b.first b.right.right.first) ∙ and_both (are_specs b.first) (binds b.right.right.first 11) b.left.grammar b.right.right.left.grammar;
        wants = ap (λ u. (opening place ∷ []) ++ u) (onto b.whole b.left.wants (onto b.right.whole b.right.left.one (onto b.right.right.whole b.right.right.left.wants b.right.right.right.none)))
            ∙ cast_flat place b.first b.right.right.first ∙ ap (λ u. wants_of_expr u n) (sym is);
      }

  cast_from : (place : Place) (specs : Specifiers) (operand : Expr) (ps : List Piece) → At 11 n (expr.Cast place specs operand) ps → BracketedL (expr.Cast place specs operand) ps
  cast_from place specs operand ps is =
      let both : (are_specs specs && binds operand 11) ≡ true = sym (ap (λ f. f 11) (is_Expr_Cast place specs operand)) ∙ is.grammar in
      subst (λ u. BracketedL (expr.Cast place specs operand) u) (cast_flat place specs operand ∙ sym is.wants)
      (in_both _ _ _ _ _ place (in_single (spelt_at Mark (codes "(") n) place)
      (this (in_both _ _ _ _ _ specs (record { grammar = and_left (are_specs specs) (binds operand 11) both; wants = refl })
      (in_both _ _ _ _ _ tt closed
      (in_both _ _ _ _ _ operand (record { grammar = and_right (are_specs specs) (binds operand 11) both; wants = refl }) (in_given (expr.Cast place specs operand)))))))

  group_flat : (place : Place) (value : Expr) → (opening place ∷ []) ++ (wants_of_expr value (n + 1) ++ ((spelt Mark (codes ")") n tt ∷ []) ++ [])) ≡ wants_of_expr (expr.Parenthesized place value) n
  group_flat place value = join3 (opening place ∷ []) (wants_of_expr value (n + 1)) (spelt Mark (codes ")") n tt ∷ []) ∙ sym (ap (λ f. f n) (wants_Expr_Parenthesized place value))

  -- a group with its opening bracket
  record Opened (place : Place) (tree : Expr) (pieces : List Piece) : Type 0 where
    pub following : List Piece
    pub group : GroupL place tree following
    pub whole : pieces ≡ (opening place ∷ []) ++ following

  opened_to : (place : Place) (e : Expr) (ps : List Piece) → Opened place e ps → At 13 n e ps
  opened_to place e ps o =
      let b = o.group in
      let is : e ≡ expr.Parenthesized place b.first = b.right.right.tree_is in
      record {
        grammar = ap (λ u. binds u 13) is ∙ ap (λ f. f 13) (is_Expr_Parenthesized place b.first) ∙ b.left.grammar;
        wants = o.whole ∙ ap (λ u. (opening place ∷ []) ++ u) (onto b.whole b.left.wants (onto b.right.whole b.right.left.one b.right.right.none)) ∙ group_flat place b.first ∙ ap (λ u. wants_of_expr u n) (sym is);
      }

  group_in : (place : Place) (value : Expr) (ps : List Piece) → At 13 n (expr.Parenthesized place value) ps → GroupL place (expr.Parenthesized place value) (wants_of_expr value (n + 1) ++ ((spelt Mark (codes ")") n tt ∷ []) ++ []))
  group_in place value ps is =
      in_both _ _ _ _ _ value (record { grammar = sym (ap (λ f. f 13) (is_Expr_Parenthesized place value)) ∙ is.grammar; wants = refl }) (in_both _ _ _ _ _ tt closed (in_given (expr.Parenthesized place value)))

  opened_from : (place : Place) (e : Expr) (ps : List Piece) → PostfixL (Opened place) e ps → BracketedL e ps
  opened_from place e ps b =
      subst (λ u. BracketedL e u) (sym (b.whole ∙ ap (λ u. u ++ b.pieces2) b.left.whole ∙ append_assoc (opening place ∷ []) b.left.following b.pieces2))
      (in_both _ _ _ _ _ place (in_single (spelt_at Mark (codes "(") n) place) (that (in_both _ _ _ _ _ b.first b.left.group b.right)))

  opened_postfix : (place : Place) (e : Expr) (qs : List Piece) → PostfixL (GroupL place) e qs → PostfixL (Opened place) e ((opening place ∷ []) ++ qs)
  opened_postfix place e qs b =
      record { first = b.first; pieces1 = (opening place ∷ []) ++ b.pieces1; pieces2 = b.pieces2; left = record { following = b.pieces1; group = b.left; whole = refl }; right = b.right; whole = ap (λ u. (opening place ∷ []) ++ u) b.whole }

  bracketed_to_at : (place : Place) (e : Expr) (qs : List Piece) → Either (CastL place) (PostfixL (GroupL place)) e qs → At 11 n e ((opening place ∷ []) ++ qs)
  bracketed_to_at place e qs (this b) = cast_to place e qs b
  bracketed_to_at place e qs (that b) = postfix_to (Opened place) (opened_to place) e ((opening place ∷ []) ++ qs) (opened_postfix place e qs b)

  bracketed_to : (e : Expr) (ps : List Piece) → BracketedL e ps → At 11 n e ps
  bracketed_to e ps b = subst (λ u. At 11 n e u) (sym (b.whole ∙ ap (λ u. u ++ b.pieces2) b.left.one)) (bracketed_to_at b.first e b.pieces2 b.right)

  abbrev UnaryL : Language Expr
  UnaryL = Either PrefixedL (Either BracketedL (PostfixL (PlainL most size n left level inner I)))

  unary_to : (e : Expr) (ps : List Piece) → UnaryL e ps → At 11 n e ps
  unary_to e ps (this b) = prefixed_to e ps b
  unary_to e ps (that (this b)) = bracketed_to e ps b
  unary_to e ps (that (that b)) = postfix_to (PlainL most size n left level inner I) (plain_to most size n left level inner I) e ps b

  plain_none : (e : Expr) (ps : List Piece) → PlainL most size n left level inner I e ps → UnaryL e ps
  plain_none e ps is = that (that (postfix_none (PlainL most size n left level inner I) e ps is))

  primary_from : (suffixes : List Suffix) (primary : Expr) → binds primary 13 ≡ true → (ps : List Piece) → At 12 n (expr.Postfix primary suffixes) ps → UnaryL (expr.Postfix primary suffixes) ps
  primary_from suffixes = cases_Expr (λ primary. binds primary 13 ≡ true → (ps : List Piece) → At 12 n (expr.Postfix primary suffixes) ps → UnaryL (expr.Postfix primary suffixes) ps)
      (λ name h ps is. that (that (postfix_some (PlainL most size n left level inner I) (expr.Name name) suffixes (wants_of_expr (expr.Name name) n) ps (from_name most size n left level inner I name _ (record { grammar = h; wants = refl })) refl is)))
      (λ place value h ps is. that (that (postfix_some (PlainL most size n left level inner I) (expr.Literal place value) suffixes (wants_of_expr (expr.Literal place value) n) ps (from_literal most size n left level inner I place value _ (record { grammar = h; wants = refl })) refl is)))
      (λ name place arguments h ps is. that (that (postfix_some (PlainL most size n left level inner I) (expr.Call name place arguments) suffixes (wants_of_expr (expr.Call name place arguments) n) ps (from_call most size n left level inner I name place arguments _ (record { grammar = h; wants = refl })) refl is)))
      (λ place value h ps is. that (this (opened_from place _ ps (postfix_some (Opened place) (expr.Parenthesized place value) suffixes _ ps (record { following = _; group = group_in place value (wants_of_expr (expr.Parenthesized place value) n) (record { grammar = h; wants = refl }); whole = refl }) (group_flat place value) is))))
      (λ primary others h ps is. absurd (omega (arith, (postfix_parts primary others 13 h).0)))
      (λ place operator operand h ps is. absurd (not_true (sym (ap (λ f. f 13) (is_Expr_Unary place operator operand)) ∙ h)))
      (λ place specs operand h ps is. absurd (not_true (sym (ap (λ f. f 13) (is_Expr_Cast place specs operand)) ∙ h)))
      (λ first operands h ps is. absurd (omega (arith, (chain_parts first operands 13 h).1.0, (chain_parts first operands 13 h).1.1)))
      (λ condition place second third h ps is. absurd (omega (arith, (conditional_parts condition place second third 13 h).0)))

  unary_from : (e : Expr) (ps : List Piece) → At 11 n e ps → UnaryL e ps
  unary_from e = cases_Expr (λ u. (ps : List Piece) → At 11 n u ps → UnaryL u ps)
      (λ name ps is. plain_none _ ps (from_name most size n left level inner I name ps (record { grammar = ap (λ f. f 13) (is_Expr_Name name); wants = is.wants })))
      (λ place value ps is. plain_none _ ps (from_literal most size n left level inner I place value ps (record { grammar = ap (λ f. f 13) (is_Expr_Literal place value); wants = is.wants })))
      (λ name place arguments ps is. plain_none _ ps (from_call most size n left level inner I name place arguments ps (record { grammar = ap (λ f. f 13) (is_Expr_Call name place arguments) ∙ sym (ap (λ f. f 11) (is_Expr_Call name place arguments)) ∙ is.grammar; wants = is.wants })))
      (λ place value ps is.
      let g : At 13 n (expr.Parenthesized place value) ps = record { grammar = ap (λ f. f 13) (is_Expr_Parenthesized place value) ∙ sym (ap (λ f. f 11) (is_Expr_Parenthesized place value)) ∙ is.grammar; wants = is.wants } in
      that (this (opened_from place (expr.Parenthesized place value) ps (postfix_none (Opened place) (expr.Parenthesized place value) ps (record { following = _; group = group_in place value ps g; whole = is.wants ∙ sym (group_flat place value) })))))
      (λ primary suffixes ps is.
      primary_from suffixes primary (postfix_parts primary suffixes 11 is.grammar).1 ps
      (record { grammar = ap (λ f. f 12) (is_Expr_Postfix primary suffixes) ∙ sym (ap (λ f. f 11) (is_Expr_Postfix primary suffixes)) ∙ is.grammar; wants = is.wants }))
      (λ place operator operand ps is. this (prefixed_from place operator operand ps is))
      (λ place specs operand ps is. that (this (cast_from place specs operand ps is)))
      (λ first operands ps is. absurd (omega (arith, (chain_parts first operands 11 is.grammar).1.0, (chain_parts first operands 11 is.grammar).1.1)))
      (λ condition place second third ps is. absurd (omega (arith, (conditional_parts condition place second third 11 is.grammar).0)))
      e

  prefixed_begins : Begins PrefixedL is_prefix true
  unfolding IsWanted prefix_of
  prefixed_begins = begins_both _ _ is_prefix true (begins_single _ is_prefix true (λ found w takes. ap is_some (found_yes Mark prefixes w (text_of_prefix found.1) found.1 takes.0.0 takes.0.1 (found_prefix found.1))))

  bracketed_begins : (by : TokenKind → List ℕ → Bool) (b : Bool) → by Mark (codes "(") ≡ b → Begins BracketedL (λ w. by w.kind w.text) b
  unfolding IsWanted
  bracketed_begins by b is = begins_both _ _ (λ w. by w.kind w.text) b (begins_single (spelt_at Mark (codes "(") n) (λ w. by w.kind w.text) b (λ place w takes. by_text by Mark (codes "(") b w takes.0.0 takes.0.1 is))

  plain_begins : (by : TokenKind → List ℕ → Bool) (b : Bool) → ((text : List ℕ) → by Name text ≡ b) → ((text : List ℕ) → by Integer text ≡ b) → ((text : List ℕ) → by Character text ≡ b) → by Word (codes "true") ≡ b → by Word (codes "false") ≡ b → Begins (PlainL most size n left level inner I) (λ w. by w.kind w.text) b
  unfolding IsWanted
  plain_begins by b of_name of_integer of_character of_true of_false =
      begins_either (NamedL most size n left level inner I) (LiteralL most size n left level inner I) (λ w. by w.kind w.text) b
      (begins_both _ _ _ b (begins_single (named Name n) (λ w. by w.kind w.text) b (λ name w takes. ap (λ k. by k w.text) takes.0.0 ∙ of_name w.text)))
      (begins_both _ _ _ b (begins_single (literal_piece n) (λ w. by w.kind w.text) b (λ found w takes. literal_by_kind by b of_integer of_character of_true of_false found.1 w takes.0)))

  pub unary_reads : Reads (At 11 n) most size (Stops 11) (read_unary size left inner)
  unfolding read_unary read_primary prefix_of found_of is_kind is_spelled spelled_by found_by found_in
  unary_reads =
      reads_as unary_to unary_from
      (choose_reads PrefixedL (Either BracketedL (PostfixL (PlainL most size n left level inner I))) most size (Stops 11) is_prefix (read_prefixed left inner) (choose (is_mark (codes "(")) (read_bracketed size left inner) (read_primary size left inner))
      prefixed_read
      (choose_reads BracketedL (PostfixL (PlainL most size n left level inner I)) most size (Stops 11) (is_mark (codes "(")) (read_bracketed size left inner) (read_primary size left inner) bracketed_read
      (following_reads (PlainL most size n left level inner I) StopsName (choose (is_kind Name) (read_named size left inner) (read_literal left)) (plain_reads most size n left level inner I) bracket_follows (stops_name 11))
      (λ e ps front rest is fits stop. bracketed_begins (spelled_by Mark (codes "(")) true refl e ps front rest is fits)
      (λ e ps front rest is fits stop. begins_both _ _ (is_mark (codes "(")) false (plain_begins (spelled_by Mark (codes "(")) false (λ t. refl) (λ t. refl) (λ t. refl) refl refl) e ps front rest is fits))
      (λ e ps front rest is fits stop. prefixed_begins e ps front rest is fits)
      (λ e ps front rest is fits stop. begins_either BracketedL (PostfixL (PlainL most size n left level inner I)) is_prefix false (bracketed_begins prefix_by false refl) (begins_both _ _ is_prefix false (plain_begins prefix_by false (λ t. refl) (λ t. refl) (λ t. refl) refl refl)) e ps front rest is fits))
