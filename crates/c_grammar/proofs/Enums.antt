-- The readers of enums' bodies.
use Rattle.std.proofs.Common.{◌≡◌, ◌≤◌, ℕ, zero, suc, ◌+◌, Bool, true, false, ◌&&◌, ◌==◌, List, [], ◌∷◌, ◌++◌, length, map, Option, Some, None, option_map, refl, sym, ap, ◌∙◌, subst, arith, codes}
use Rattle.std.proofs.lemmas.List.{append_assoc, append-nil, length-append}
use Rattle.std.specs.List.{list_all}
use Rattle.c_tree.specs.Pieces.{Piece, IsWanted, Fits, separated, mark, name}
use Rattle.c_tree.specs.Folds.{wants_of_expr, wants_of_enumerator, binds, is_enumerator_tree}
use Rattle.c_tree.specs.Types.{enum_body, comma_if, value_wants, is_optional}
use Rattle.c_tree.specs.Expressions.{has_some}
use Rattle.c_tree.proofs.Cases.{cases_Enumerator}
use Rattle.c_tree.proofs.FoldsLaws.{wants_Enumerator, is_Enumerator}
use Rattle.c_tree.specs.declared.token.Token.{Token}
use Rattle.c_tree.specs.declared.expressions.TrailingComma.{TrailingComma}
use Rattle.c_tree.specs.declared.expressions.TrailingComma.TheVariants.{Absent, Present}
use Rattle.c_tree.specs.declared.token.TokenKind.{TokenKind}
use Rattle.c_tree.specs.declared.token.TokenKind.TheVariants.{Name, Mark}
use Rattle.c_tree.specs.declared.expressions.Identifier.{Identifier}
use Rattle.c_tree.specs.declared.expressions.Expr.{Expr}
use Rattle.c_tree.specs.declared.expressions.Expr.TheViews.{roll-Enumerator}
use Rattle.c_tree.specs.declared.expressions.Enumerator.{Enumerator}
use Rattle.c_reader.specs.Reading.{Reader, ◌>>=◌, give, choose}
use Rattle.c_reader.specs.Tokens.{kind_number, is_mark, is_kind, is_spelled, spelled_by, found_by, found_in, read_mark}
use Rattle.c_grammar.specs.Tokens.{goes_by, suffix_by}
use Rattle.c_reader.specs.Lists.{read_more}
use Rattle.c_grammar.specs.Types.{read_value, read_enumerator, read_enum_body}
use Rattle.c_reader.proofs.Reader.{Language, Of, Reads}
use Rattle.c_reader.proofs.Binding.{Both, bind_reads, fits_part}
use Rattle.c_reader.proofs.Giving.{Given, give_reads, reads_as, reads_within}
use Rattle.c_reader.proofs.Taking.{Single}
use Rattle.c_reader.proofs.Choosing.{FirstIs, Either, this, that, choose_reads}
use Rattle.c_reader.proofs.Repeating.{given_stops}
use Rattle.c_reader.proofs.Beginning.{Begins, begins_both, begins_single, SomeOf, some_both, some_single, some_given}
use Rattle.c_reader.proofs.Joining.{in_both, in_single, in_given, onto, join2, join4}
use Rattle.c_reader.proofs.Spelt.{by_text, kind_yes, spelled_yes, spelt, named, spelt_reads, named_reads}
use Rattle.c_grammar.proofs.Starting.{begins_cons}
use Rattle.c_grammar.proofs.Suffixes.{At, Stops, Any, no_name, some_at}
use Rattle.c_grammar.proofs.Primaries.{first_from}
use Rattle.c_reader.proofs.Listing.{separated_rest, separated_is}
use Rattle.c_reader.proofs.Truths.{and_left, and_right, and_both}

abbrev pub EnumeratorAt : ℕ → Language Enumerator
EnumeratorAt n = Of is_enumerator_tree (λ t. wants_of_enumerator t n)

-- ---- lists that may end with a mark

module _ {A : Type 0} (ok : A → Bool) (f : A → ℕ → List Piece) (most size n left : ℕ) (level : n + left ≡ most + 1) (text : List ℕ) (starts : Token → Bool)
    (StopsA Stops : List Token → Type 0) (read : Reader A) (F : Reads (Of ok (λ a. f a n)) most size StopsA read)
    (begins : Begins (Of ok (λ a. f a n)) starts true)
    (goes_on : (ts : List Token) → FirstIs (is_mark text) true ts → StopsA ts)
    (ends : (ts : List Token) → Stops ts → StopsA ts)
    (no_mark : (ts : List Token) → Stops ts → FirstIs (is_mark text) false ts)
    (no_start : (ts : List Token) → Stops ts → FirstIs starts false ts) where
  abbrev ItemL : Language A
  ItemL = Of ok (λ a. f a n)

  unfoldable MoreUpTo : ℕ → Language (List A × TrailingComma)
  MoreUpTo zero = Given ([], Absent)
  MoreUpTo (suc k) = Either (Both (Single (spelt Mark text n)) (λ u. Either (Both ItemL (λ a. Both (MoreUpTo k) (λ rest. Given (a ∷ rest.0, rest.1)))) (Given ([], Present)))) (Given ([], Absent))

  abbrev MarkL : ℕ → Language (List A × TrailingComma)
  MarkL k = Both (Single (spelt Mark text n)) (λ u. Either (Both ItemL (λ a. Both (MoreUpTo k) (λ rest. Given (a ∷ rest.0, rest.1)))) (Given ([], Present)))

  mark_begins : (k : ℕ) → Begins (MarkL k) (is_mark text) true
  unfolding IsWanted
  mark_begins k = begins_both _ _ (is_mark text) true (begins_single (spelt Mark text n) (is_mark text) true (λ u w takes. spelled_yes Mark text w takes.0.0 takes.0.1))

  no_more : (k : ℕ) → MoreUpTo k ([], Absent) []
  unfolding MoreUpTo
  no_more zero = in_given ([], Absent)
  no_more (suc k) = that (in_given ([], Absent))

  more_stops_at : (k : ℕ) (r : List A × TrailingComma) (ps : List Piece) (ys rest : List Token) → Either (MarkL k) (Given ([], Absent)) r ps → Fits ps ys → Stops rest → StopsA (ys ++ rest)
  more_stops_at k r ps ys rest (this b) fits stop = goes_on (ys ++ rest) (mark_begins k r ps ys rest b fits)
  more_stops_at k r ps ys rest (that g) fits stop = given_stops ([], Absent) r ps ys rest StopsA g fits (ends rest stop)

  more_stops : (k : ℕ) (r : List A × TrailingComma) (ps : List Piece) (ys rest : List Token) → MoreUpTo k r ps → Fits ps ys → Stops rest → StopsA (ys ++ rest)
  unfolding MoreUpTo
  more_stops zero r ps ys rest is fits stop = given_stops ([], Absent) r ps ys rest StopsA is fits (ends rest stop)
  more_stops (suc k) r ps ys rest is fits stop = more_stops_at k r ps ys rest is fits stop

  following_stops : (k : ℕ) (a : A) (r : List A × TrailingComma) (ps : List Piece) (ys rest : List Token) → Both (MoreUpTo k) (λ more. Given (a ∷ more.0, more.1)) r ps → Fits ps ys → Stops rest → StopsA (ys ++ rest)
  following_stops k a r ps ys rest b fits stop =
      let e : ps ≡ b.pieces1 = b.whole ∙ ap (λ u. b.pieces1 ++ u) b.right.none ∙ append-nil b.pieces1 in
      more_stops k b.first b.pieces1 ys rest b.left (subst (λ u. Fits u ys) e fits) stop

  more_upto : (k : ℕ) → Reads (MoreUpTo k) most size Stops (read_more k text starts left read)
  unfolding MoreUpTo read_more
  more_upto zero = give_reads ([], Absent) most size Stops
  more_upto (suc k) =
      choose_reads (MarkL k) (Given ([], Absent)) most size Stops (is_mark text)
      (read_mark text left >>= λ separator. choose starts (read >>= λ a. read_more k text starts left read >>= λ rest. give (a ∷ rest.0, rest.1)) (give ([], Present))) (give ([], Absent))
      (bind_reads _ _ most size Any Stops _ _ (spelt_reads most size Any Mark text n left level)
      (λ u. choose_reads (Both ItemL (λ a. Both (MoreUpTo k) (λ rest. Given (a ∷ rest.0, rest.1)))) (Given ([], Present)) most size Stops starts (read >>= λ a. read_more k text starts left read >>= λ rest. give (a ∷ rest.0, rest.1)) (give ([], Present))
      (bind_reads _ _ most size StopsA Stops _ _ F
      (λ a. bind_reads _ _ most size Stops Stops _ _ (more_upto k) (λ rest. give_reads (a ∷ rest.0, rest.1) most size Stops)
      (λ rest ps is. some_given (a ∷ rest.0, rest.1))
      (λ rest c qs ys following is fits stop. given_stops (a ∷ rest.0, rest.1) c qs ys following Stops is fits stop))
      (λ a ps is. ((a ∷ [], Absent), ([] ++ [], in_both _ _ _ [] [] ([], Absent) (no_more k) (in_given (a ∷ [], Absent)))))
      (λ a c qs ys following is fits stop. following_stops k a c qs ys following is fits stop))
      (give_reads ([], Present) most size Stops)
      (λ r ps front following is fits stop. begins_both _ _ starts true begins r ps front following is fits)
      (λ r ps front following is fits stop. given_stops ([], Present) r ps front following (λ ts. FirstIs starts false ts) is fits (no_start following stop)))
      (λ u ps is. (([], Present), ([], that (in_given ([], Present)))))
      (λ u c qs ys following is fits stop. tt))
      (give_reads ([], Absent) most size Stops)
      (λ r ps front following is fits stop. mark_begins k r ps front following is fits)
      (λ r ps front following is fits stop. given_stops ([], Absent) r ps front following (λ ts. FirstIs (is_mark text) false ts) is fits (no_mark following stop))

  -- the mark at the end, if there is one
  abbrev pub end_if : TrailingComma → List Piece
  end_if Absent = []
  end_if Present = mark text n

  abbrev pub MoreAt : Language (List A × TrailingComma)
  MoreAt = Of (λ r. list_all ok r.0) (λ r. separated_rest ok f n text r.0 ++ end_if r.1)

  more_step_to : (k : ℕ) → ((r : List A × TrailingComma) (ps : List Piece) → MoreUpTo k r ps → MoreAt r ps) → (r : List A × TrailingComma) (ps : List Piece) (b : Both (Single (spelt Mark text n)) (λ u. Either (Both ItemL (λ a. Both (MoreUpTo k) (λ rest. Given (a ∷ rest.0, rest.1)))) (Given ([], Present))) r ps)
      → Either (Both ItemL (λ a. Both (MoreUpTo k) (λ rest. Given (a ∷ rest.0, rest.1)))) (Given ([], Present)) r b.pieces2 → MoreAt r ps
  unfolding separated_rest
  more_step_to k inner r ps b (this c) =
      let rest = inner c.right.first c.right.pieces1 c.right.left in
      let is : r ≡ (c.first ∷ c.right.first.0, c.right.first.1) = c.right.right.tree_is in
      subst (λ u. MoreAt u ps) (sym is)
      (record {
        grammar = and_both (ok c.first) (list_all ok c.right.first.0) c.left.grammar rest.grammar;
        wants = onto b.whole b.left.one (onto c.whole c.left.wants (onto c.right.whole rest.wants c.right.right.none ∙ append-nil (separated_rest ok f n text c.right.first.0 ++ end_if c.right.first.1)))
            ∙ ap (λ u. (spelt Mark text n tt ∷ []) ++ u) (sym (append_assoc (f c.first n) (separated_rest ok f n text c.right.first.0) (end_if c.right.first.1)));
      })
  more_step_to k inner r ps b (that g) =
      subst (λ u. MoreAt u ps) (sym g.tree_is) (record { grammar = refl; wants = onto b.whole b.left.one g.none })

  more_either_to : (k : ℕ) → ((r : List A × TrailingComma) (ps : List Piece) → MoreUpTo k r ps → MoreAt r ps) → (r : List A × TrailingComma) (ps : List Piece) → Either (MarkL k) (Given ([], Absent)) r ps → MoreAt r ps
  unfolding separated_rest
  more_either_to k inner r ps (this b) = more_step_to k inner r ps b b.right
  more_either_to k inner r ps (that g) = subst (λ u. MoreAt u ps) (sym g.tree_is) (record { grammar = refl; wants = g.none })

  more_to : (k : ℕ) (r : List A × TrailingComma) (ps : List Piece) → MoreUpTo k r ps → MoreAt r ps
  unfolding MoreUpTo separated_rest
  more_to zero r ps is = subst (λ u. MoreAt u ps) (sym is.tree_is) (record { grammar = refl; wants = is.none })
  more_to (suc k) r ps is = more_either_to k (more_to k) r ps is

  more_from : (k : ℕ) (items : List A) (comma : TrailingComma) (ps : List Piece) → MoreAt (items, comma) ps → length ps ≤ k → MoreUpTo k (items, comma) ps
  unfolding MoreUpTo separated_rest
  more_from zero [] Absent ps is few = record { tree_is = refl; none = is.wants }
  more_from zero [] Present ps is few = absurd (omega (arith, few, ap length is.wants))
  more_from zero (a ∷ items) comma ps is few = absurd (omega (arith, few, ap length is.wants))
  more_from (suc k) [] Absent ps is few = that (record { tree_is = refl; none = is.wants })
  more_from (suc k) [] Present ps is few = this (subst (λ u. MarkL k ([], Present) u) (sym is.wants) (in_both _ _ _ _ _ tt (in_single (spelt Mark text n) tt) (that (in_given ([], Present)))))
  more_from (suc k) (a ∷ items) comma ps is few =
      let tail = separated_rest ok f n text items ++ end_if comma in
      let whole : ps ≡ (spelt Mark text n tt ∷ []) ++ (f a n ++ (tail ++ [])) = is.wants ∙ ap (λ u. (spelt Mark text n tt ∷ []) ++ u) (append_assoc (f a n) (separated_rest ok f n text items) (end_if comma) ∙ ap (λ u. f a n ++ u) (sym (append-nil tail))) in
      let small : length tail ≤ k = omega (arith, few, ap length whole, length-append (f a n) (tail ++ []), length-append tail []) in
      this (subst (λ u. MarkL k (a ∷ items, comma) u) (sym whole)
      (in_both _ _ _ _ _ tt (in_single (spelt Mark text n) tt)
      (this (in_both _ _ _ _ _ a (record { grammar = and_left (ok a) (list_all ok items) is.grammar; wants = refl })
      (in_both _ _ _ _ _ (items, comma) (more_from k items comma tail (record { grammar = and_right (ok a) (list_all ok items) is.grammar; wants = refl }) small) (in_given (a ∷ items, comma)))))))

  pub more_reads : Reads MoreAt most size Stops (read_more size text starts left read)
  more_reads = reads_within (more_to size) (λ r ps is few. more_from size r.0 r.1 ps is few) (more_upto size)

  pub some_more : SomeOf MoreAt
  unfolding separated_rest
  some_more = (([], Absent), ([], record { grammar = refl; wants = refl }))

-- ---- constants

module _ (most size n left : ℕ) (level : n + left ≡ most + 1) (read : Reader Expr) (E : Reads (At 0 n) most size (Stops 0) read) where
  abbrev ValueL : Language (Option Expr)
  ValueL = Either (Both (Single (spelt Mark (codes "=") n)) (λ u. Both (At 0 n) (λ value. Given (Some value)))) (Given None)

  abbrev ValueAt : Language (Option Expr)
  ValueAt = Of (λ o. is_optional (option_map binds o)) (λ o. value_wants (option_map wants_of_expr o) n)

  -- what may stand after a constant: a comma or a closing brace
  pub data Followed (ts : List Token) : Type 0 where
    comma : FirstIs (is_mark (codes ",")) true ts → Followed ts
    brace : FirstIs (is_mark (codes "}")) true ts → Followed ts

  following_from : (by : TokenKind → List ℕ → Bool) → by Mark (codes ",") ≡ false → by Mark (codes "}") ≡ false → (ts : List Token) → Followed ts → FirstIs (λ w. by w.kind w.text) false ts
  following_from by is_comma_ is_brace ts (comma h) = first_from Mark (codes ",") by false is_comma_ ts h
  following_from by is_comma_ is_brace ts (brace h) = first_from Mark (codes "}") by false is_brace ts h

  value_to : (o : Option Expr) (ps : List Piece) → ValueL o ps → ValueAt o ps
  value_to o ps (this b) = subst (λ u. ValueAt u ps) (sym b.right.right.tree_is) (record { grammar = b.right.left.grammar; wants = onto b.whole b.left.one (onto b.right.whole b.right.left.wants b.right.right.none ∙ append-nil (wants_of_expr b.right.first n)) })
  value_to o ps (that is) = subst (λ u. ValueAt u ps) (sym is.tree_is) (record { grammar = refl; wants = is.none })

  value_from : (o : Option Expr) (ps : List Piece) → ValueAt o ps → ValueL o ps
  value_from None ps is = that (record { tree_is = refl; none = is.wants })
  value_from (Some value) ps is =
      this (subst (λ u. Both (Single (spelt Mark (codes "=") n)) (λ u2. Both (At 0 n) (λ v. Given (Some v))) (Some value) u) (ap (λ u. (spelt Mark (codes "=") n tt ∷ []) ++ u) (append-nil (wants_of_expr value n)) ∙ sym is.wants)
      (in_both _ _ _ _ _ tt (in_single (spelt Mark (codes "=") n) tt) (in_both _ _ _ _ _ value (record { grammar = is.grammar; wants = refl }) (in_given (Some value)))))

  equals : Begins (Both (Single (spelt Mark (codes "=") n)) (λ u. Both (At 0 n) (λ value. Given (Some value)))) (is_mark (codes "=")) true
  unfolding IsWanted
  equals = begins_both _ _ (is_mark (codes "=")) true (begins_single (spelt Mark (codes "=") n) (is_mark (codes "=")) true (λ u w takes. spelled_yes Mark (codes "=") w takes.0.0 takes.0.1))

  value_reads : Reads ValueAt most size Followed (read_value left read)
  unfolding read_value goes_by suffix_by found_by found_in spelled_by is_spelled is_kind
  value_reads =
      reads_as value_to value_from
      (choose_reads (Both (Single (spelt Mark (codes "=") n)) (λ u. Both (At 0 n) (λ value. Given (Some value)))) (Given None) most size Followed (is_mark (codes "=")) (read_mark (codes "=") left >>= λ mark. read >>= λ value. give (Some value)) (give None)
      (bind_reads _ _ most size Any Followed _ _ (spelt_reads most size Any Mark (codes "=") n left level)
      (λ u. bind_reads _ _ most size (Stops 0) Followed _ _ E (λ value. give_reads (Some value) most size Followed) (λ value ps is. some_given (Some value))
      (λ value c qs ys rest is fits stop. given_stops (Some value) c qs ys rest (Stops 0) is fits (following_from (goes_by 0) refl refl rest stop)))
      (λ u ps is. some_both _ _ (some_at 0 n (omega arith)) (λ value. some_given (Some value)))
      (λ u c qs ys rest is fits stop. tt))
      (give_reads None most size Followed)
      (λ o ps front rest is fits stop. equals o ps front rest is fits)
      (λ o ps front rest is fits stop. given_stops None o ps front rest (λ ts. FirstIs (is_mark (codes "=")) false ts) is fits (following_from (spelled_by Mark (codes "=")) refl refl rest stop)))

  abbrev EnumeratorL : Language Enumerator
  EnumeratorL = Both (Single (named Name n)) (λ name. Both ValueAt (λ value. Given (roll-Enumerator (record { name = name; value = value }))))

  some_value : SomeOf ValueAt
  some_value = (None, ([], record { grammar = refl; wants = refl }))

  enumerator_read : Reads EnumeratorL most size Followed (read_enumerator left read)
  unfolding read_enumerator
  enumerator_read =
      bind_reads _ _ most size Any Followed _ _ (named_reads most size Any Name n left level)
      (λ name. bind_reads _ _ most size Followed Followed _ _ value_reads (λ value. give_reads (roll-Enumerator (record { name = name; value = value })) most size Followed)
      (λ value ps is. some_given _)
      (λ value c qs ys rest is fits stop. given_stops (roll-Enumerator (record { name = name; value = value })) c qs ys rest Followed is fits stop))
      (λ name ps is. some_both _ _ some_value (λ value. some_given (roll-Enumerator (record { name = name; value = value }))))
      (λ name c qs ys rest is fits stop. tt)

  enumerator_flat : (name : Identifier) (value : Option Expr) → (named Name n name ∷ []) ++ (value_wants (option_map wants_of_expr value) n ++ []) ≡ wants_of_enumerator (roll-Enumerator (record { name = name; value = value })) n
  enumerator_flat name value = join2 (named Name n name ∷ []) (value_wants (option_map wants_of_expr value) n) ∙ sym (ap (λ f. f n) (wants_Enumerator name value))

  enumerator_to : (t : Enumerator) (ps : List Piece) → EnumeratorL t ps → EnumeratorAt n t ps
  enumerator_to t ps b =
      let is : t ≡ roll-Enumerator (record { name = b.first; value = b.right.first }) = b.right.right.tree_is in
      record {
        grammar = ap is_enumerator_tree is ∙ is_Enumerator b.first b.right.first ∙ b.right.left.grammar;
        wants = onto b.whole b.left.one (onto b.right.whole b.right.left.wants b.right.right.none) ∙ enumerator_flat b.first b.right.first ∙ ap (λ u. wants_of_enumerator u n) (sym is);
      }

  enumerator_from : (t : Enumerator) (ps : List Piece) → EnumeratorAt n t ps → EnumeratorL t ps
  enumerator_from = cases_Enumerator (λ t. (ps : List Piece) → EnumeratorAt n t ps → EnumeratorL t ps)
      (λ name value ps is.
      subst (λ u. EnumeratorL (roll-Enumerator (record { name = name; value = value })) u) (enumerator_flat name value ∙ sym is.wants)
      (in_both _ _ _ _ _ name (in_single (named Name n) name)
      (in_both _ _ _ _ _ value (record { grammar = sym (is_Enumerator name value) ∙ is.grammar; wants = refl }) (in_given (roll-Enumerator (record { name = name; value = value }))))))

  enumerator_reads : Reads (EnumeratorAt n) most size Followed (read_enumerator left read)
  enumerator_reads = reads_as enumerator_to enumerator_from enumerator_read

  enumerator_begins : Begins (EnumeratorAt n) (is_kind Name) true
  unfolding IsWanted
  enumerator_begins t ps front rest is fits =
      begins_both _ _ (is_kind Name) true (begins_single (named Name n) (is_kind Name) true (λ name w takes. kind_yes Name w takes.0.0)) t ps front rest (enumerator_from t ps is) fits

  some_enumerator : SomeOf (EnumeratorAt n)
  some_enumerator =
      let x = some_both (Single (named Name n)) (λ name. Both ValueAt (λ value. Given (roll-Enumerator (record { name = name; value = value })))) (some_single (named Name n) no_name) (λ name. some_both _ _ some_value (λ value. some_given (roll-Enumerator (record { name = name; value = value })))) in
      (x.0, (x.1.0, enumerator_to x.0 x.1.0 x.1.1))

  -- ---- bodies

  abbrev Closed : List Token → Type 0
  Closed = FirstIs (is_mark (codes "}")) true

  no_comma : (ts : List Token) → Closed ts → FirstIs (is_mark (codes ",")) false ts
  unfolding spelled_by is_spelled is_kind
  no_comma = first_from Mark (codes "}") (spelled_by Mark (codes ",")) false refl

  no_name_here : (ts : List Token) → Closed ts → FirstIs (is_kind Name) false ts
  unfolding is_kind
  no_name_here = first_from Mark (codes "}") (λ k t. kind_number k == kind_number Name) false refl

  abbrev RestAt : Language (List Enumerator × TrailingComma)
  RestAt = MoreAt is_enumerator_tree wants_of_enumerator most size n left level (codes ",") (is_kind Name) Followed Closed (read_enumerator left read) enumerator_reads enumerator_begins (λ ts h. comma h) (λ ts h. brace h) no_comma no_name_here

  abbrev BodyL : Language (List Enumerator × TrailingComma)
  BodyL = Both (Single (spelt Mark (codes "{") n)) (λ opening. Both (EnumeratorAt n) (λ first. Both RestAt (λ rest. Both (Single (spelt Mark (codes "}") n)) (λ closing. Given (first ∷ rest.0, rest.1)))))

  abbrev pub EnumBodyAt : Language (List Enumerator × TrailingComma)
  EnumBodyAt = Of (λ b. has_some b.0 && list_all is_enumerator_tree b.0) (λ b. enum_body (Some (map wants_of_enumerator b.0)) b.1 n)

  closes : Begins (Single (spelt Mark (codes "}") n)) (is_mark (codes "}")) true
  unfolding IsWanted
  closes = begins_single (spelt Mark (codes "}") n) (is_mark (codes "}")) true (λ u w takes. spelled_yes Mark (codes "}") w takes.0.0 takes.0.1)

  some_end : (value : List Enumerator × TrailingComma) → SomeOf (Both (Single (spelt Mark (codes "}") n)) (λ closing. Given value))
  some_end value = some_both _ _ (some_single (spelt Mark (codes "}") n) tt) (λ closing. some_given value)

  rest_first : (items : List Enumerator) (last : TrailingComma) (ps : List Piece) (ys more : List Token) → RestAt (items, last) ps → Fits ps ys → Closed more → Followed (ys ++ more)
  unfolding separated_rest Fits IsWanted
  rest_first [] Absent ps [] more is fits stop = brace stop
  rest_first [] Absent [] (y ∷ ys) more is fits stop = absurd fits
  rest_first [] Absent (p ∷ ps) (y ∷ ys) more is fits stop = absurd (cc)
  rest_first [] Present ps ys more is fits stop = comma (begins_cons (spelt Mark (codes ",") n tt) (is_mark (codes ",")) true (λ w takes. spelled_yes Mark (codes ",") w takes.0.0 takes.0.1) ps [] ys more is.wants fits)
  rest_first (a ∷ items) last ps ys more is fits stop = comma (begins_cons (spelt Mark (codes ",") n tt) (is_mark (codes ",")) true (λ w takes. spelled_yes Mark (codes ",") w takes.0.0 takes.0.1) ps _ ys more is.wants fits)

  following_first : (first : Enumerator) (c : List Enumerator × TrailingComma) (qs : List Piece) (ys more : List Token) → Both RestAt (λ rest. Both (Single (spelt Mark (codes "}") n)) (λ closing. Given (first ∷ rest.0, rest.1))) c qs → Fits qs ys → Followed (ys ++ more)
  following_first first c qs ys more b fits =
      let parted = fits_part b.pieces1 b.pieces2 ys (subst (λ u. Fits u ys) b.whole fits) in
      subst Followed (sym (ap (λ u. u ++ more) parted.whole ∙ append_assoc parted.front parted.following more))
      (rest_first b.first.0 b.first.1 b.pieces1 parted.front (parted.following ++ more) b.left parted.left (begins_both _ _ (is_mark (codes "}")) true closes c b.pieces2 parted.following more b.right parted.right))

  some_rest : SomeOf RestAt
  some_rest = some_more is_enumerator_tree wants_of_enumerator most size n left level (codes ",") (is_kind Name) Followed Closed (read_enumerator left read) enumerator_reads enumerator_begins (λ ts h. comma h) (λ ts h. brace h) no_comma no_name_here

  rest_reads : Reads RestAt most size Closed (read_more size (codes ",") (is_kind Name) left (read_enumerator left read))
  rest_reads = more_reads is_enumerator_tree wants_of_enumerator most size n left level (codes ",") (is_kind Name) Followed Closed (read_enumerator left read) enumerator_reads enumerator_begins (λ ts h. comma h) (λ ts h. brace h) no_comma no_name_here

  body_read : (After : List Token → Type 0) → Reads BodyL most size After (read_enum_body size left read)
  unfolding read_enum_body
  body_read After =
      bind_reads _ _ most size Any After _ _ (spelt_reads most size Any Mark (codes "{") n left level)
      (λ opening. bind_reads _ _ most size Followed After _ _ enumerator_reads
      (λ first. bind_reads _ _ most size Closed After _ _ rest_reads
      (λ rest. bind_reads _ _ most size Any After _ _ (spelt_reads most size Any Mark (codes "}") n left level) (λ closing. give_reads (first ∷ rest.0, rest.1) most size After)
      (λ closing ps is. some_given (first ∷ rest.0, rest.1))
      (λ closing c qs ys more is fits stop. tt))
      (λ rest ps is. some_end (first ∷ rest.0, rest.1))
      (λ rest c qs ys more is fits stop. begins_both _ _ (is_mark (codes "}")) true closes c qs ys more is fits))
      (λ first ps is. some_both _ _ some_rest (λ rest. some_end (first ∷ rest.0, rest.1)))
      (λ first c qs ys more is fits stop. following_first first c qs ys more is fits))
      (λ opening ps is. some_both _ _ some_enumerator (λ first. some_both _ _ some_rest (λ rest. some_end (first ∷ rest.0, rest.1))))
      (λ opening c qs ys more is fits stop. tt)

  -- the comma at the end as the tree has it
  comma_is : (last : TrailingComma) → end_if is_enumerator_tree wants_of_enumerator most size n left level (codes ",") (is_kind Name) Followed Closed (read_enumerator left read) enumerator_reads enumerator_begins (λ ts h. comma h) (λ ts h. brace h) no_comma no_name_here last ≡ comma_if last n
  comma_is Absent = refl
  comma_is Present = refl

  body_flat : (first : Enumerator) (items : List Enumerator) (last : TrailingComma)
      → (spelt Mark (codes "{") n tt ∷ []) ++ (wants_of_enumerator first n ++ ((separated_rest is_enumerator_tree wants_of_enumerator n (codes ",") items ++ comma_if last n) ++ ((spelt Mark (codes "}") n tt ∷ []) ++ []))) ≡ enum_body (Some (map wants_of_enumerator (first ∷ items))) last n
  body_flat first items last =
      ap (λ u. (spelt Mark (codes "{") n tt ∷ []) ++ u)
      (ap (λ u. wants_of_enumerator first n ++ u) (append_assoc (separated_rest is_enumerator_tree wants_of_enumerator n (codes ",") items) (comma_if last n) ((spelt Mark (codes "}") n tt ∷ []) ++ []))
      ∙ sym (append_assoc (wants_of_enumerator first n) (separated_rest is_enumerator_tree wants_of_enumerator n (codes ",") items) (comma_if last n ++ ((spelt Mark (codes "}") n tt ∷ []) ++ [])))
      ∙ ap (λ u. u ++ (comma_if last n ++ ((spelt Mark (codes "}") n tt ∷ []) ++ []))) (separated_is is_enumerator_tree wants_of_enumerator n (codes ",") first items))
      ∙ join4 (spelt Mark (codes "{") n tt ∷ []) (separated (codes ",") (map wants_of_enumerator (first ∷ items)) n) (comma_if last n) (spelt Mark (codes "}") n tt ∷ [])

  body_to : (t : List Enumerator × TrailingComma) (ps : List Piece) → BodyL t ps → EnumBodyAt t ps
  body_to t ps b =
      let c = b.right in
      let rest = c.right.left in
      let is : t ≡ (c.first ∷ c.right.first.0, c.right.first.1) = c.right.right.right.tree_is in
      subst (λ u. EnumBodyAt u ps) (sym is)
      (record {
        grammar = and_both (is_enumerator_tree c.first) (list_all is_enumerator_tree c.right.first.0) c.left.grammar rest.grammar;
        wants = onto b.whole b.left.one (onto c.whole c.left.wants (onto c.right.whole (rest.wants ∙ ap (λ u. separated_rest is_enumerator_tree wants_of_enumerator n (codes ",") c.right.first.0 ++ u) (comma_is c.right.first.1)) (onto c.right.right.whole c.right.right.left.one c.right.right.right.none)))
            ∙ body_flat c.first c.right.first.0 c.right.first.1;
      })

  body_from_at : (items : List Enumerator) (last : TrailingComma) (ps : List Piece) → EnumBodyAt (items, last) ps → BodyL (items, last) ps
  body_from_at [] last ps is = absurd (cc)
  body_from_at (first ∷ items) last ps is =
      subst (λ u. BodyL (first ∷ items, last) u) (body_flat first items last ∙ sym is.wants)
      (in_both _ _ _ _ _ tt (in_single (spelt Mark (codes "{") n) tt)
      (in_both _ _ _ _ _ first (record { grammar = and_left (is_enumerator_tree first) (list_all is_enumerator_tree items) is.grammar; wants = refl })
      (in_both _ _ _ _ _ (items, last) (record { grammar = and_right (is_enumerator_tree first) (list_all is_enumerator_tree items) is.grammar; wants = ap (λ u. separated_rest is_enumerator_tree wants_of_enumerator n (codes ",") items ++ u) (sym (comma_is last)) })
      (in_both _ _ _ _ _ tt (in_single (spelt Mark (codes "}") n) tt) (in_given (first ∷ items, last))))))

  body_from : (t : List Enumerator × TrailingComma) (ps : List Piece) → EnumBodyAt t ps → BodyL t ps
  body_from t ps is = body_from_at t.0 t.1 ps is

  pub enum_body_reads : (After : List Token → Type 0) → Reads EnumBodyAt most size After (read_enum_body size left read)
  enum_body_reads After = reads_as body_to body_from (body_read After)

  pub some_enum_body : SomeOf EnumBodyAt
  some_enum_body =
      let e = some_enumerator in
      ((e.0 ∷ [], Absent), (enum_body (Some (map wants_of_enumerator (e.0 ∷ []))) Absent n, record { grammar = and_both (is_enumerator_tree e.0) true e.1.1.grammar refl; wants = refl }))

  pub enum_body_begins : (by : TokenKind → List ℕ → Bool) (b : Bool) → by Mark (codes "{") ≡ b → Begins EnumBodyAt (λ w. by w.kind w.text) b
  unfolding IsWanted
  enum_body_begins by b is t ps front rest at fits =
      begins_both _ _ (λ w. by w.kind w.text) b (begins_single (spelt Mark (codes "{") n) (λ w. by w.kind w.text) b (λ u w takes. by_text by Mark (codes "{") b w takes.0.0 takes.0.1 is)) t ps front rest (body_from t ps at) fits
