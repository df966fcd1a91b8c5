-- The reader of for, and of all loops after their bounds.
use Rattle.std.proofs.Common.{◌≡◌, ◌<◌, ℕ, ◌+◌, Bool, true, false, ◌&&◌, ◌||◌, ◌==◌, List, [], ◌∷◌, ◌++◌, Option, Some, None, option_map, refl, sym, ap, ◌∙◌, subst, codes}
use Rattle.std.proofs.lemmas.List.{append_assoc, append-nil}
use Rattle.c_tree.specs.Pieces.{Piece, mark, word_at, optional}
use Rattle.c_tree.specs.Folds.{wants_of_expr}
use Rattle.c_tree.specs.StatementFolds.{wants_of_statement, form_of_statement, for_statement}
use Rattle.c_tree.specs.Declarations.{wants_of_simple, wants_of_objects}
use Rattle.c_tree.specs.Statements.{wants_of_bound, wants_of_first, is_first, is_step, is_condition}
use Rattle.c_tree.specs.declared.token.Place.{Place}
use Rattle.c_tree.specs.declared.token.Token.{Token}
use Rattle.c_tree.specs.declared.token.TokenKind.{TokenKind}
use Rattle.c_tree.specs.declared.token.TokenKind.TheVariants.{Word, Mark, Bound}
use Rattle.c_tree.specs.declared.expressions.Expr.{Expr}
use Rattle.c_tree.specs.declared.statements.First.{First}
use Rattle.c_tree.specs.declared.statements.First.TheVariants as first
use Rattle.c_tree.specs.declared.statements.LoopBound.{LoopBound}
use Rattle.c_tree.specs.declared.statements.ExpressionStatement.{ExpressionStatement}
use Rattle.c_tree.specs.declared.statements.Statement.{Statement}
use Rattle.c_reader.specs.Reading.{Reader, ◌>>=◌, give, choose}
use Rattle.c_reader.specs.Tokens.{is_mark, is_word, is_kind, is_spelled, spelled_by, kind_number, found_by, found_in}
use Rattle.c_grammar.specs.Tokens.{starts_type, type_by, goes_by, suffix_by}
use Rattle.c_reader.proofs.Reader.{Language, Of}
use Rattle.c_reader.proofs.Binding.{Both}
use Rattle.c_reader.proofs.Giving.{Given}
use Rattle.c_reader.proofs.Taking.{Single}
use Rattle.c_reader.proofs.Choosing.{FirstIs, Either, this, that}
use Rattle.c_reader.proofs.Repeating.{given_stops}
use Rattle.c_reader.proofs.Beginning.{Begins, begins_both, begins_either}
use Rattle.c_reader.proofs.Joining.{in_both, in_single, in_given, onto}
use Rattle.c_reader.proofs.Spelt.{spelt, spelt_at}
use Rattle.c_grammar.proofs.Primaries.{first_from, prefix_all}
use Rattle.c_grammar.proofs.Starting.{Suits}
use Rattle.c_grammar.proofs.Typing.{SuitsType, word_all}
use Rattle.c_reader.proofs.Truths.{and_left, and_right, and_both}
use Rattle.c_decl.specs.ExpressionStatements.{read_simple}
use Rattle.c_decl.specs.Declarations.{read_objects}
use Rattle.c_decl.proofs.ExpressionStatements.{SimpleAt, StopsSimple, simple_reads, some_simple, begins_simple}
use Rattle.c_decl.proofs.Declarations.{ObjectsAt, objects_reads, some_objects, begins_objects}
use Rattle.c_statement.specs.Loops.{read_first, read_step, read_for, read_for_first, read_for_condition, read_for_step, read_while, read_do, read_loop_after, read_loop, read_bound}
use Rattle.c_statement.proofs.ByTree.{ReadsBy, by_reads, by_as, choose_by}
use Rattle.c_statement.proofs.Conditions.{OptionalAt, unless_then}
use Rattle.c_statement.proofs.Within.{inner_last}
use Rattle.c_statement.proofs.Singles.{Always, StatementAt, StopsElse, is_statement, suits_semicolon}
use Rattle.c_statement.proofs.Steps.{Step, then_, given, spelt_then, placed_deep, begins_is, begins_placed}
use Rattle.c_tree.proofs.StatementFoldsLaws.{wants_For, form_For}
use Rattle.c_statement.proofs.Whiles.{BoundAt, NoBound, bound_step, WhileL, DoL, while_step, do_step}

abbrev pub FirstAt : ℕ → Language First
FirstAt n = Of is_first (λ f. wants_of_first f n)

abbrev pub StepAt : ℕ → Language (Option ExpressionStatement)
StepAt n = Of is_step (λ s. optional (option_map wants_of_simple s) n)

suits_bracket : Suits (spelled_by Mark (codes ")")) false
unfolding spelled_by
suits_bracket = record { name = λ t. refl; integer = λ t. refl; character = λ t. refl; yes_ = refl; no_ = refl; bracket = refl; prefix = prefix_all (spelled_by Mark (codes ")")) false refl refl refl refl refl refl }

suits_no_type : Suits type_by false
unfolding type_by spelled_by found_by found_in
suits_no_type = record { name = λ t. refl; integer = λ t. refl; character = λ t. refl; yes_ = refl; no_ = refl; bracket = refl; prefix = prefix_all type_by false refl refl refl refl refl refl }

suits_type : SuitsType type_by true
unfolding type_by spelled_by found_by found_in
suits_type = record { constant = refl; word = word_all type_by true refl refl refl refl refl refl refl refl refl refl refl refl refl refl refl refl refl; struct_ = refl; enum_ = refl; type_name = λ t. refl }

suits_type_mark : SuitsType (spelled_by Mark (codes ";")) false
unfolding spelled_by
suits_type_mark = record { constant = refl; word = word_all (spelled_by Mark (codes ";")) false refl refl refl refl refl refl refl refl refl refl refl refl refl refl refl refl refl; struct_ = refl; enum_ = refl; type_name = λ t. refl }

module _ (most size n left : ℕ) (level : n + left ≡ most + 1) where
  -- ---- the first part

  abbrev ObjectsL : Language First
  ObjectsL = Both (ObjectsAt n) (λ objects. Given (first.Declaration objects))

  abbrev ValueL : Language First
  ValueL = Both (SimpleAt n) (λ value. Given (first.Expression value))

  abbrev FirstL : Language First
  FirstL = Either (Given first.Nothing) (Either ObjectsL ValueL)

  abbrev Ended : First → List Token → Type 0
  Ended f = FirstIs (is_mark (codes ";")) true

  before_simple : (rest : List Token) → FirstIs (is_mark (codes ";")) true rest → StopsSimple rest
  unfolding spelled_by is_spelled is_kind
  before_simple rest h = first_from Mark (codes ";") (λ k t. spelled_by Mark (codes ";") k t || spelled_by Mark (codes ")") k t) true refl rest h

  objects_step : (When : Type 0) → Step most size When ObjectsL Ended (read_objects size left >>= λ objects. give (first.Declaration objects))
  objects_step When =
      then_ most size When (ObjectsAt n) (λ objects. Given (first.Declaration objects)) (λ o. FirstIs (is_mark (codes ";")) true) Ended (read_objects size left) (λ objects. give (first.Declaration objects))
      (record { by = λ when. by_reads (objects_reads most size n left level); some = some_objects n })
      (λ objects. given most size Ended When (first.Declaration objects))
      (λ objects ps c qs ys rest is k fits stop. given_stops (first.Declaration objects) c qs ys rest (FirstIs (is_mark (codes ";")) true) k fits stop)

  value_step : (When : Type 0) → Step most size When ValueL Ended (read_simple size left >>= λ value. give (first.Expression value))
  value_step When =
      then_ most size When (SimpleAt n) (λ value. Given (first.Expression value)) (λ v. StopsSimple) Ended (read_simple size left) (λ value. give (first.Expression value))
      (record { by = λ when. by_reads (simple_reads most size n left level); some = some_simple n })
      (λ value. given most size Ended When (first.Expression value))
      (λ value ps c qs ys rest is k fits stop. given_stops (first.Expression value) c qs ys rest StopsSimple k fits (before_simple rest stop))

  value_begins : (by : TokenKind → List ℕ → Bool) (b : Bool) → Suits by b → by Mark (codes "++") ≡ b → by Mark (codes "--") ≡ b → Begins ValueL (λ w. by w.kind w.text) b
  value_begins by b suits up down = begins_both _ _ (λ w. by w.kind w.text) b (begins_simple n by b suits up down)

  no_semicolon : Begins (Either ObjectsL ValueL) (is_mark (codes ";")) false
  unfolding spelled_by is_spelled is_kind
  no_semicolon = begins_either ObjectsL ValueL (is_mark (codes ";")) false (begins_both _ _ (is_mark (codes ";")) false (begins_objects n (spelled_by Mark (codes ";")) false suits_type_mark)) (value_begins (spelled_by Mark (codes ";")) false suits_semicolon refl refl)

  first_to : (f : First) (ps : List Piece) → FirstL f ps → FirstAt n f ps
  unfolding is_first wants_of_first
  first_to f ps (this b) = record { grammar = ap is_first b.tree_is; wants = b.none ∙ ap (λ u. wants_of_first u n) (sym b.tree_is) }
  first_to f ps (that (this b)) = record { grammar = ap is_first b.right.tree_is ∙ b.left.grammar; wants = onto b.whole b.left.wants b.right.none ∙ append-nil (wants_of_objects b.first n) ∙ ap (λ u. wants_of_first u n) (sym b.right.tree_is) }
  first_to f ps (that (that b)) = record { grammar = ap is_first b.right.tree_is ∙ b.left.grammar; wants = onto b.whole b.left.wants b.right.none ∙ append-nil (wants_of_simple b.first n) ∙ ap (λ u. wants_of_first u n) (sym b.right.tree_is) }

  first_back : (f : First) (ps : List Piece) → FirstAt n f ps → FirstL f ps
  unfolding is_first wants_of_first
  first_back first.Nothing ps is = this (record { tree_is = refl; none = is.wants })
  first_back (first.Declaration objects) ps is =
      that (this (subst (λ u. ObjectsL (first.Declaration objects) u) (append-nil (wants_of_objects objects n) ∙ sym is.wants) (in_both _ _ _ _ _ objects (record { grammar = is.grammar; wants = refl }) (in_given (first.Declaration objects)))))
  first_back (first.Expression value) ps is =
      that (that (subst (λ u. ValueL (first.Expression value) u) (append-nil (wants_of_simple value n) ∙ sym is.wants) (in_both _ _ _ _ _ value (record { grammar = is.grammar; wants = refl }) (in_given (first.Expression value)))))

  first_step : (When : Type 0) → Step most size When (FirstAt n) Ended (read_first size left)
  unfolding read_first type_by spelled_by found_by found_in
  first_step When = record {
    by = λ when. by_as first_to first_back
        (choose_by (Given first.Nothing) (Either ObjectsL ValueL) most size Ended (is_mark (codes ";")) (give first.Nothing) (choose starts_type (read_objects size left >>= λ objects. give (first.Declaration objects)) (read_simple size left >>= λ value. give (first.Expression value)))
        ((given most size Ended When first.Nothing).by when)
        (choose_by ObjectsL ValueL most size Ended starts_type (read_objects size left >>= λ objects. give (first.Declaration objects)) (read_simple size left >>= λ value. give (first.Expression value)) ((objects_step When).by when) ((value_step When).by when)
        (λ f ps front rest is fits stop. begins_both _ _ starts_type true (begins_objects n type_by true suits_type) f ps front rest is fits)
        (λ f ps front rest is fits stop. value_begins type_by false suits_no_type refl refl f ps front rest is fits))
        (λ f ps front rest is fits stop. given_stops first.Nothing f ps front rest (FirstIs (is_mark (codes ";")) true) is fits stop)
        (λ f ps front rest is fits stop. no_semicolon f ps front rest is fits));
    some = (first.Nothing, ([], first_to first.Nothing [] (this (in_given first.Nothing))));
  }

  -- ---- the step

  abbrev SteppedL : Language (Option ExpressionStatement)
  SteppedL = Both (SimpleAt n) (λ value. Given (Some value))

  abbrev Bracketed : Option ExpressionStatement → List Token → Type 0
  Bracketed s = FirstIs (is_mark (codes ")")) true

  bracket_simple : (rest : List Token) → FirstIs (is_mark (codes ")")) true rest → StopsSimple rest
  unfolding spelled_by is_spelled is_kind
  bracket_simple rest h = first_from Mark (codes ")") (λ k t. spelled_by Mark (codes ";") k t || spelled_by Mark (codes ")") k t) true refl rest h

  stepped_step : (When : Type 0) → Step most size When SteppedL Bracketed (read_simple size left >>= λ value. give (Some value))
  stepped_step When =
      then_ most size When (SimpleAt n) (λ value. Given (Some value)) (λ v. StopsSimple) Bracketed (read_simple size left) (λ value. give (Some value))
      (record { by = λ when. by_reads (simple_reads most size n left level); some = some_simple n })
      (λ value. given most size Bracketed When (Some value))
      (λ value ps c qs ys rest is k fits stop. given_stops (Some value) c qs ys rest StopsSimple k fits (bracket_simple rest stop))

  step_to : (s : Option ExpressionStatement) (ps : List Piece) → Either (Given None) SteppedL s ps → StepAt n s ps
  unfolding is_step
  step_to s ps (this b) = record { grammar = ap is_step b.tree_is; wants = b.none ∙ ap (λ u. optional (option_map wants_of_simple u) n) (sym b.tree_is) }
  step_to s ps (that b) = record { grammar = ap is_step b.right.tree_is ∙ b.left.grammar; wants = onto b.whole b.left.wants b.right.none ∙ append-nil (wants_of_simple b.first n) ∙ ap (λ u. optional (option_map wants_of_simple u) n) (sym b.right.tree_is) }

  step_back : (s : Option ExpressionStatement) (ps : List Piece) → StepAt n s ps → Either (Given None) SteppedL s ps
  unfolding is_step
  step_back None ps is = this (record { tree_is = refl; none = is.wants })
  step_back (Some value) ps is = that (subst (λ u. SteppedL (Some value) u) (append-nil (wants_of_simple value n) ∙ sym is.wants) (in_both _ _ _ _ _ value (record { grammar = is.grammar; wants = refl }) (in_given (Some value))))

  no_bracket : Begins SteppedL (is_mark (codes ")")) false
  unfolding spelled_by is_spelled is_kind
  no_bracket = begins_both _ _ (is_mark (codes ")")) false (begins_simple n (spelled_by Mark (codes ")")) false suits_bracket refl refl)

  step_step : (When : Type 0) → Step most size When (StepAt n) Bracketed (read_step size left)
  unfolding read_step
  step_step When = record {
    by = λ when. by_as step_to step_back
        (choose_by (Given None) SteppedL most size Bracketed (is_mark (codes ")")) (give None) (read_simple size left >>= λ value. give (Some value)) ((given most size Bracketed When None).by when) ((stepped_step When).by when)
        (λ s ps front rest is fits stop. given_stops None s ps front rest (FirstIs (is_mark (codes ")")) true) is fits stop)
        (λ s ps front rest is fits stop. no_bracket s ps front rest is fits));
    some = (None, ([], step_to None [] (this (in_given None))));
  }

-- ---- for

module _ (most size n left : ℕ) (level : (n + 1) + left ≡ most + 1) (read : Reader Statement) (I : 0 < left → ReadsBy (StatementAt (n + 1)) most size StopsElse read) (bound : Option LoopBound) where
  abbrev BodyL : Place → First → Option Expr → Option ExpressionStatement → Language Statement
  BodyL place initial condition step = Both (Single (spelt Mark (codes ")") (n + 1))) (λ closing. Both (StatementAt (n + 1)) (λ body. Given (for_statement bound place initial condition step body)))

  abbrev ThirdL : Place → First → Option Expr → Language Statement
  ThirdL place initial condition = Both (Single (spelt Mark (codes ";") (n + 1))) (λ third. Both (StepAt (n + 1)) (λ step. BodyL place initial condition step))

  abbrev SecondL : Place → First → Language Statement
  SecondL place initial = Both (Single (spelt Mark (codes ";") (n + 1))) (λ second. Both (OptionalAt (n + 1)) (λ condition. ThirdL place initial condition))

  abbrev pub ForL : Language Statement
  ForL = Both (Single (spelt_at Word (codes "for") (n + 1))) (λ place. Both (Single (spelt Mark (codes "(") (n + 1))) (λ opening. Both (FirstAt (n + 1)) (λ initial. SecondL place initial)))

  pub for_step : Step most size Always ForL StopsElse (read_for size left read bound)
  unfolding read_for goes_by suffix_by spelled_by found_by found_in read_for_first read_for_condition read_for_step
  for_step =
      placed_deep most size StopsElse Word (codes "for") (n + 1) left level _ _
      (λ place. spelt_then most size StopsElse Mark (codes "(") (n + 1) left level (0 < left) _ _
      (λ opening. then_ most size (0 < left) (FirstAt (n + 1)) (λ initial. SecondL place initial) (λ f. FirstIs (is_mark (codes ";")) true) StopsElse (read_first size left) _ (first_step most size (n + 1) left level (0 < left))
      (λ initial. spelt_then most size StopsElse Mark (codes ";") (n + 1) left level (0 < left) _ _
      (λ second. unless_then most size (n + 1) left level (codes ";") suits_semicolon refl StopsElse (0 < left) (λ condition. ThirdL place initial condition) _
      (λ condition. spelt_then most size StopsElse Mark (codes ";") (n + 1) left level (0 < left) _ _
      (λ third. then_ most size (0 < left) (StepAt (n + 1)) (λ step. BodyL place initial condition step) (λ s. FirstIs (is_mark (codes ")")) true) StopsElse (read_step size left) _ (step_step most size (n + 1) left level (0 < left))
      (λ step. spelt_then most size StopsElse Mark (codes ")") (n + 1) left level (0 < left) _ _
      (λ closing. inner_last most size n left read I (λ body. for_statement bound place initial condition step body) (λ body. ap (λ f. f.open_) (form_For bound place initial condition step body))))
      (λ step ps c qs ys rest is k fits stop. begins_is Mark (codes ")") (n + 1) (λ closing. Both (StatementAt (n + 1)) (λ body. Given (for_statement bound place initial condition step body))) c qs ys rest k fits)))
      (λ condition. begins_is Mark (codes ";") (n + 1) (λ third. Both (StepAt (n + 1)) (λ step. BodyL place initial condition step)))))
      (λ initial ps c qs ys rest is k fits stop. begins_is Mark (codes ";") (n + 1) (λ second. Both (OptionalAt (n + 1)) (λ condition. ThirdL place initial condition)) c qs ys rest k fits)))

  for_flat : (place : Place) (initial : First) (condition : Option Expr) (step : Option ExpressionStatement) (body : Statement)
      → wants_of_bound bound (n + 1) ++ ((spelt_at Word (codes "for") (n + 1) place ∷ []) ++ ((spelt Mark (codes "(") (n + 1) tt ∷ []) ++ (wants_of_first initial (n + 1) ++ ((spelt Mark (codes ";") (n + 1) tt ∷ [])
      ++ (optional (option_map wants_of_expr condition) (n + 1) ++ ((spelt Mark (codes ";") (n + 1) tt ∷ []) ++ (optional (option_map wants_of_simple step) (n + 1) ++ ((spelt Mark (codes ")") (n + 1) tt ∷ []) ++ (wants_of_statement body (n + 1) ++ [])))))))))
      ≡ wants_of_statement (for_statement bound place initial condition step body) n
  for_flat place initial condition step body =
      let a = wants_of_bound bound (n + 1) in
      let b = word_at place (codes "for") (n + 1) in
      let c = mark (codes "(") (n + 1) in
      let d = wants_of_first initial (n + 1) in
      let e = mark (codes ";") (n + 1) in
      let f = optional (option_map wants_of_expr condition) (n + 1) in
      let g = optional (option_map wants_of_simple step) (n + 1) in
      let h = mark (codes ")") (n + 1) in
      let i = wants_of_statement body (n + 1) in
      (ap (λ u. a ++ (b ++ (c ++ (d ++ (e ++ (f ++ (e ++ (g ++ (h ++ u))))))))) (append-nil i) ∙ (simp (append_assoc) refl)) ∙ sym (ap (λ f. f n) (wants_For bound place initial condition step body))

  for_ok : (place : Place) (initial : First) (condition : Option Expr) (step : Option ExpressionStatement) (body : Statement)
      → is_first initial ≡ true → is_condition condition ≡ true → is_step step ≡ true → (form_of_statement body).is ≡ true → (form_of_statement (for_statement bound place initial condition step body)).is ≡ true
  for_ok place initial condition step body i c s b =
      ap (λ f. f.is) (form_For bound place initial condition step body)
      ∙ and_both (is_first initial && is_condition condition && is_step step) (form_of_statement body).is (and_both (is_first initial && is_condition condition) (is_step step) (and_both (is_first initial) (is_condition condition) i c) s) b

  pub for_to : (t : Statement) (ps qs : List Piece) → qs ≡ wants_of_bound bound (n + 1) ++ ps → ForL t ps → StatementAt n t qs
  for_to t ps qs whole b =
      let initial = b.right.right.first in
      let s = b.right.right.right in
      let condition = s.right.first in
      let th = s.right.right in
      let step = th.right.first in
      let o = th.right.right in
      let body = o.right.first in
      is_statement n t (for_statement bound b.first initial condition step body) qs o.right.right.tree_is
      (for_ok b.first initial condition step body b.right.right.left.grammar s.right.left.grammar th.right.left.grammar o.right.left.grammar)
      (whole ∙ ap (λ u. wants_of_bound bound (n + 1) ++ u)
      (onto b.whole b.left.one (onto b.right.whole b.right.left.one (onto b.right.right.whole b.right.right.left.wants (onto s.whole s.left.one (onto s.right.whole s.right.left.wants (onto th.whole th.left.one (onto th.right.whole th.right.left.wants (onto o.whole o.left.one (onto o.right.whole o.right.left.wants o.right.right.none)))))))))
      ∙ for_flat b.first initial condition step body)

  pub for_from : (place : Place) (initial : First) (condition : Option Expr) (step : Option ExpressionStatement) (body : Statement) (ps : List Piece) → StatementAt n (for_statement bound place initial condition step body) ps
      → (qs : List Piece) × (ForL (for_statement bound place initial condition step body) qs × (ps ≡ wants_of_bound bound (n + 1) ++ qs))
  for_from place initial condition step body ps is =
      let g = sym (ap (λ f. f.is) (form_For bound place initial condition step body)) ∙ is.grammar in
      let three = and_left (is_first initial && is_condition condition && is_step step) (form_of_statement body).is g in
      let two = and_left (is_first initial && is_condition condition) (is_step step) three in
      let t = for_statement bound place initial condition step body in (
        _,
        (
          in_both _ _ _ _ _ place (in_single (spelt_at Word (codes "for") (n + 1)) place)
              (in_both _ _ _ _ _ tt (in_single (spelt Mark (codes "(") (n + 1)) tt)
              (in_both _ _ _ _ _ initial (record { grammar = and_left (is_first initial) (is_condition condition) two; wants = refl })
              (in_both _ _ _ _ _ tt (in_single (spelt Mark (codes ";") (n + 1)) tt)
              (in_both _ _ _ _ _ condition (record { grammar = and_right (is_first initial) (is_condition condition) two; wants = refl })
              (in_both _ _ _ _ _ tt (in_single (spelt Mark (codes ";") (n + 1)) tt)
              (in_both _ _ _ _ _ step (record { grammar = and_right (is_first initial && is_condition condition) (is_step step) three; wants = refl })
              (in_both _ _ _ _ _ tt (in_single (spelt Mark (codes ")") (n + 1)) tt)
              (in_both _ _ _ _ _ body (record { grammar = and_right (is_first initial && is_condition condition && is_step step) (form_of_statement body).is g; wants = refl }) (in_given t))))))))),
          is.wants ∙ sym (for_flat place initial condition step body),
        ),
      )

-- ---- all loops

module _ (most size n left : ℕ) (level : (n + 1) + left ≡ most + 1) (read : Reader Statement) (I : 0 < left → ReadsBy (StatementAt (n + 1)) most size StopsElse read) where
  abbrev pub LoopFollowedL : Option LoopBound → Language Statement
  LoopFollowedL bound = Either (WhileL most size n left level read I bound) (Either (DoL most size n left level read I bound) (ForL most size n left level read I bound))

  abbrev pub LoopL : Language Statement
  LoopL = Both (BoundAt (n + 1)) LoopFollowedL

  while_word : (bound : Option LoopBound) (by : TokenKind → List ℕ → Bool) (b : Bool) → by Word (codes "while") ≡ b → Begins (WhileL most size n left level read I bound) (λ w. by w.kind w.text) b
  while_word bound by b is = begins_placed Word (codes "while") (n + 1) _ by b is

  do_word : (bound : Option LoopBound) (by : TokenKind → List ℕ → Bool) (b : Bool) → by Word (codes "do") ≡ b → Begins (DoL most size n left level read I bound) (λ w. by w.kind w.text) b
  do_word bound by b is = begins_placed Word (codes "do") (n + 1) _ by b is

  for_word : (bound : Option LoopBound) (by : TokenKind → List ℕ → Bool) (b : Bool) → by Word (codes "for") ≡ b → Begins (ForL most size n left level read I bound) (λ w. by w.kind w.text) b
  for_word bound by b is = begins_placed Word (codes "for") (n + 1) _ by b is

  pub begins_following : (bound : Option LoopBound) (by : TokenKind → List ℕ → Bool) (b : Bool) → by Word (codes "while") ≡ b → by Word (codes "do") ≡ b → by Word (codes "for") ≡ b → Begins (LoopFollowedL bound) (λ w. by w.kind w.text) b
  begins_following bound by b of_while of_do of_for =
      begins_either (WhileL most size n left level read I bound) (Either (DoL most size n left level read I bound) (ForL most size n left level read I bound)) (λ w. by w.kind w.text) b (while_word bound by b of_while)
      (begins_either (DoL most size n left level read I bound) (ForL most size n left level read I bound) (λ w. by w.kind w.text) b (do_word bound by b of_do) (for_word bound by b of_for))

  following_step : (bound : Option LoopBound) → Step most size Always (LoopFollowedL bound) StopsElse (read_loop_after size left read bound)
  unfolding read_loop_after spelled_by is_spelled is_kind
  following_step bound = record {
    by = λ u. choose_by (WhileL most size n left level read I bound) (Either (DoL most size n left level read I bound) (ForL most size n left level read I bound)) most size StopsElse (is_word (codes "while")) (read_while size left read bound) (choose (is_word (codes "do")) (read_do size left read bound) (read_for size left read bound))
        ((while_step most size n left level read I bound).by tt)
        (choose_by (DoL most size n left level read I bound) (ForL most size n left level read I bound) most size StopsElse (is_word (codes "do")) (read_do size left read bound) (read_for size left read bound) ((do_step most size n left level read I bound).by tt) ((for_step most size n left level read I bound).by tt)
        (λ t ps front rest is fits stop. do_word bound (spelled_by Word (codes "do")) true refl t ps front rest is fits)
        (λ t ps front rest is fits stop. for_word bound (spelled_by Word (codes "do")) false refl t ps front rest is fits))
        (λ t ps front rest is fits stop. while_word bound (spelled_by Word (codes "while")) true refl t ps front rest is fits)
        (λ t ps front rest is fits stop. begins_either (DoL most size n left level read I bound) (ForL most size n left level read I bound) (is_word (codes "while")) false (do_word bound (spelled_by Word (codes "while")) false refl) (for_word bound (spelled_by Word (codes "while")) false refl) t ps front rest is fits);
    some = let x = (while_step most size n left level read I bound).some in (x.0, (x.1.0, this x.1.1));
  }

  pub loop_step : Step most size Always LoopL StopsElse (read_loop size left read)
  unfolding read_loop is_kind
  loop_step =
      then_ most size Always (BoundAt (n + 1)) LoopFollowedL (λ b. NoBound) StopsElse (read_bound left) (read_loop_after size left read) (bound_step most size (n + 1) left level Always) following_step
      (λ bound ps c qs ys rest is k fits stop. begins_following bound (λ k t. kind_number k == kind_number Bound) false refl refl refl c qs ys rest k fits)
