-- The readers of simple statements: each list of tokens that one reads is a simple statement, and each simple statement is read.
use Rattle.std.proofs.Common.{◌≡◌, ℕ, ◌+◌, ◌-◌, Bool, true, false, List, [], ◌∷◌, ◌++◌, is_some, if◌then◌else◌, refl, sym, ap, ◌∙◌, subst, arith, codes}
use Rattle.std.proofs.lemmas.List.{append-nil}
use Rattle.c_tree.specs.Pieces.{Piece, Fits}
use Rattle.c_tree.specs.Operators.{text_of_assign, text_of_step}
use Rattle.c_tree.specs.Folds.{wants_of_expr, binds, is_call}
use Rattle.c_tree.specs.Declarations.{wants_of_simple, is_simple}
use Rattle.c_tree.specs.declared.token.Place.{Place}
use Rattle.c_tree.specs.declared.token.Token.{Token}
use Rattle.c_tree.specs.declared.token.TokenKind.{TokenKind}
use Rattle.c_tree.specs.declared.token.TokenKind.TheVariants.{Mark}
use Rattle.c_tree.specs.declared.expressions.Expr.{Expr}
use Rattle.c_tree.specs.declared.statements.AssignmentOperator.{AssignmentOperator}
use Rattle.c_tree.specs.declared.statements.Step.{Step}
use Rattle.c_tree.specs.declared.statements.ExpressionStatement.{ExpressionStatement}
use Rattle.c_tree.specs.declared.statements.ExpressionStatement.TheVariants as simple
use Rattle.c_reader.specs.Reading.{Reader, ◌>>=◌, give, choose}
use Rattle.c_reader.specs.Tokens.{is_kind, spelled_by, found_by, found_in, found_of}
use Rattle.c_grammar.specs.Tokens.{goes_on, goes_by, suffix_by}
use Rattle.c_grammar.specs.Levels.{readers_at}
use Rattle.c_reader.proofs.Reader.{Language, Of, Reads}
use Rattle.c_reader.proofs.Binding.{Both, bind_reads}
use Rattle.c_reader.proofs.Giving.{Given, give_reads, reads_as}
use Rattle.c_reader.proofs.Taking.{Single}
use Rattle.c_reader.proofs.Choosing.{FirstIs, Either, this, that, choose_reads}
use Rattle.c_reader.proofs.Repeating.{given_stops}
use Rattle.c_reader.proofs.Beginning.{Begins, begins_both, begins_either, SomeOf, some_both, some_single, some_given}
use Rattle.c_reader.proofs.Joining.{in_both, in_single, in_given, onto, join2, join3}
use Rattle.c_grammar.proofs.Starting.{Suits, begins_at}
use Rattle.c_grammar.proofs.Suffixes.{At, Stops, Any, some_at}
use Rattle.c_grammar.proofs.Primaries.{prefix_all}
use Rattle.c_grammar.proofs.Unaries.{lower_to}
use Rattle.c_grammar.proofs.Levels.{all_read}
use Rattle.c_reader.proofs.Truths.{not_true, and_left, and_right, and_both}
use Rattle.c_decl.specs.Marks.{assigns, assign_of, is_assign, steps, step_of, is_step, step_at}
use Rattle.c_decl.specs.ExpressionStatements.{is_postfix, read_assigned, read_stepped, read_simple_after, read_before, read_simple}
use Rattle.c_decl.proofs.Callable.{kinds}
use Rattle.c_decl.proofs.Ending.{Ends, end_from}
use Rattle.c_decl.proofs.Marks.{assign_piece, step_piece, assign_all, step_all, assign_reads, step_is, step_takes, some_assign, some_step, step_reads, assign_begins, step_begins}
use Rattle.c_decl.proofs.Refusing.{take_bind}

abbrev pub SimpleAt : ℕ → Language ExpressionStatement
SimpleAt n = Of is_simple (λ t. wants_of_simple t n)

-- a simple statement stands before a semicolon or a closing bracket
abbrev pub StopsSimple : List Token → Type 0
StopsSimple = Ends (codes ";") (codes ")")

abbrev assign_by : TokenKind → List ℕ → Bool
assign_by k t = is_some (found_by Mark assigns k t)

abbrev step_by : TokenKind → List ℕ → Bool
step_by k t = is_some (found_by Mark steps k t)

-- no expression begins with a step
no_step : Suits step_by false
unfolding found_by found_in
no_step = record { name = λ t. refl; integer = λ t. refl; character = λ t. refl; yes_ = refl; no_ = refl; bracket = refl; prefix = prefix_all step_by false refl refl refl refl refl refl }

end_is_no_assign : (ts : List Token) → StopsSimple ts → FirstIs is_assign false ts
unfolding assign_of found_of is_kind found_by found_in
end_is_no_assign = end_from (codes ";") (codes ")") assign_by false refl refl

end_is_no_step : (ts : List Token) → StopsSimple ts → FirstIs is_step false ts
unfolding step_of found_of is_kind found_by found_in
end_is_no_step = end_from (codes ";") (codes ")") step_by false refl refl

end_stops : (level : ℕ) → goes_by level Mark (codes ";") ≡ false → goes_by level Mark (codes ")") ≡ false → (ts : List Token) → StopsSimple ts → Stops level ts
end_stops level = end_from (codes ";") (codes ")") (goes_by level) false

module _ (n : ℕ) where
  -- ---- what stands after a unary expression

  abbrev AssignedL : Expr → Language ExpressionStatement
  AssignedL target = Both (Single (assign_piece n)) (λ mark. Both (At 0 n) (λ value. Given (simple.Assignment target mark.0 mark.1 value)))

  abbrev SteppedL : Expr → Language ExpressionStatement
  SteppedL target = Both (Single (step_piece n)) (λ mark. Given (simple.PostfixStep target mark.0 mark.1))

  abbrev CallL : Expr → Language ExpressionStatement
  CallL target = Given (simple.Call target)

  -- by whether the expression is a call, and whether it is a postfix one
  abbrev FollowedL : Bool → Bool → Expr → Language ExpressionStatement
  FollowedL true postfix target = Either (AssignedL target) (Either (SteppedL target) (CallL target))
  FollowedL false true target = Either (SteppedL target) (AssignedL target)
  FollowedL false false target = AssignedL target

  some_assigned : (target : Expr) → SomeOf (AssignedL target)
  some_assigned target = some_both _ _ (some_single (assign_piece n) some_assign) (λ mark. some_both _ _ (some_at 0 n (omega arith)) (λ value. some_given (simple.Assignment target mark.0 mark.1 value)))

  some_following : (call postfix : Bool) (target : Expr) → SomeOf (FollowedL call postfix target)
  some_following true postfix target = let x = some_assigned target in (x.0, (x.1.0, this x.1.1))
  some_following false true target = let x = some_assigned target in (x.0, (x.1.0, that x.1.1))
  some_following false false target = some_assigned target

  assigned_begins : (by : TokenKind → List ℕ → Bool) (b : Bool) → ((m : AssignmentOperator) → by Mark (text_of_assign m) ≡ b) → (target : Expr) → Begins (AssignedL target) (λ w. by w.kind w.text) b
  assigned_begins by b is target = begins_both _ _ (λ w. by w.kind w.text) b (assign_begins n by b is)

  stepped_begins : (by : TokenKind → List ℕ → Bool) (b : Bool) → ((s : Step) → by Mark (text_of_step s) ≡ b) → (target : Expr) → Begins (SteppedL target) (λ w. by w.kind w.text) b
  stepped_begins by b is target = begins_both _ _ (λ w. by w.kind w.text) b (step_begins n by b is)

  assign_is_assign : (target : Expr) → Begins (AssignedL target) is_assign true
  unfolding assign_of found_of is_kind found_by found_in
  assign_is_assign target = assigned_begins assign_by true (assign_all assign_by true refl refl refl refl refl refl refl refl refl refl refl) target

  assign_is_no_step : (target : Expr) → Begins (AssignedL target) is_step false
  unfolding step_of found_of is_kind found_by found_in
  assign_is_no_step target = assigned_begins step_by false (assign_all step_by false refl refl refl refl refl refl refl refl refl refl refl) target

  step_is_step : (target : Expr) → Begins (SteppedL target) is_step true
  unfolding step_of found_of is_kind found_by found_in
  step_is_step target = stepped_begins step_by true (step_all step_by true refl refl) target

  step_is_no_assign : (target : Expr) → Begins (SteppedL target) is_assign false
  unfolding assign_of found_of is_kind found_by found_in
  step_is_no_assign target = stepped_begins assign_by false (step_all assign_by false refl refl) target

  assign_stops : (target : Expr) → Begins (AssignedL target) (goes_on 11) false
  unfolding goes_by suffix_by spelled_by found_by found_in
  assign_stops target = assigned_begins (goes_by 11) false (assign_all (goes_by 11) false refl refl refl refl refl refl refl refl refl refl refl) target

  step_stops : (target : Expr) → Begins (SteppedL target) (goes_on 11) false
  unfolding goes_by suffix_by spelled_by found_by found_in
  step_stops target = stepped_begins (goes_by 11) false (step_all (goes_by 11) false refl refl) target

  call_stops : (target : Expr) (t : ExpressionStatement) (qs : List Piece) (ys rest : List Token) → CallL target t qs → Fits qs ys → StopsSimple rest → Stops 11 (ys ++ rest)
  unfolding goes_by suffix_by spelled_by found_by found_in
  call_stops target t qs ys rest is fits stop = given_stops (simple.Call target) t qs ys rest (Stops 11) is fits (end_stops 11 refl refl rest stop)

  following_stops : (call postfix : Bool) (target : Expr) (t : ExpressionStatement) (qs : List Piece) (ys rest : List Token) → FollowedL call postfix target t qs → Fits qs ys → StopsSimple rest → Stops 11 (ys ++ rest)
  following_stops true postfix target t qs ys rest (this b) fits stop = assign_stops target t qs ys rest b fits
  following_stops true postfix target t qs ys rest (that (this b)) fits stop = step_stops target t qs ys rest b fits
  following_stops true postfix target t qs ys rest (that (that b)) fits stop = call_stops target t qs ys rest b fits stop
  following_stops false true target t qs ys rest (this b) fits stop = step_stops target t qs ys rest b fits
  following_stops false true target t qs ys rest (that b) fits stop = assign_stops target t qs ys rest b fits
  following_stops false false target t qs ys rest b fits stop = assign_stops target t qs ys rest b fits

  step_or_call : (target : Expr) (t : ExpressionStatement) (qs : List Piece) (ys rest : List Token) → Either (SteppedL target) (CallL target) t qs → Fits qs ys → StopsSimple rest → FirstIs is_assign false (ys ++ rest)
  step_or_call target t qs ys rest (this b) fits stop = step_is_no_assign target t qs ys rest b fits
  step_or_call target t qs ys rest (that b) fits stop = given_stops (simple.Call target) t qs ys rest (FirstIs is_assign false) b fits (end_is_no_assign rest stop)

  -- ---- whole statements

  abbrev BeforeL : Language ExpressionStatement
  BeforeL = Both (Single (step_piece n)) (λ mark. Both (At 11 (n + 1)) (λ target. Given (simple.PrefixStep mark.0 mark.1 target)))

  abbrev AfterL : Language ExpressionStatement
  AfterL = Both (At 11 n) (λ target. FollowedL (is_call target) (is_postfix target) target)

  abbrev SimpleL : Language ExpressionStatement
  SimpleL = Either BeforeL AfterL

  some_target : (mark : Place × Step) → SomeOf (Both (At 11 (n + 1)) (λ target. Given (simple.PrefixStep mark.0 mark.1 target)))
  some_target mark = some_both _ _ (some_at 11 (n + 1) (omega arith)) (λ target. some_given (simple.PrefixStep mark.0 mark.1 target))

  before_begins : (by : TokenKind → List ℕ → Bool) (b : Bool) → ((s : Step) → by Mark (text_of_step s) ≡ b) → Begins BeforeL (λ w. by w.kind w.text) b
  before_begins by b is = begins_both _ _ (λ w. by w.kind w.text) b (step_begins n by b is)

  after_begins : (by : TokenKind → List ℕ → Bool) (b : Bool) → Suits by b → Begins AfterL (λ w. by w.kind w.text) b
  after_begins by b suits = begins_both _ _ (λ w. by w.kind w.text) b (begins_at by b suits n 11)

  -- ---- the same by trees

  before_to : (t : ExpressionStatement) (ps : List Piece) → BeforeL t ps → SimpleAt n t ps
  unfolding is_simple wants_of_simple
  before_to t ps b =
      let is : t ≡ simple.PrefixStep b.first.0 b.first.1 b.right.first = b.right.right.tree_is in
      record {
        grammar = ap is_simple is ∙ b.right.left.grammar;
        wants = onto b.whole b.left.one (onto b.right.whole b.right.left.wants b.right.right.none) ∙ join2 (step_piece n b.first ∷ []) (wants_of_expr b.right.first (n + 1)) ∙ ap (λ u. wants_of_simple u n) (sym is);
      }

  assigned_to : (target : Expr) → binds target 11 ≡ true → (t : ExpressionStatement) (qs : List Piece) → AssignedL target t qs → SimpleAt n t (wants_of_expr target n ++ qs)
  unfolding is_simple wants_of_simple
  assigned_to target h t qs b =
      let is : t ≡ simple.Assignment target b.first.0 b.first.1 b.right.first = b.right.right.tree_is in
      record {
        grammar = ap is_simple is ∙ and_both (binds target 11) (binds b.right.first 0) h b.right.left.grammar;
        wants = ap (λ u. wants_of_expr target n ++ u) (onto b.whole b.left.one (onto b.right.whole b.right.left.wants b.right.right.none))
            ∙ join3 (wants_of_expr target n) (assign_piece n b.first ∷ []) (wants_of_expr b.right.first n) ∙ ap (λ u. wants_of_simple u n) (sym is);
      }

  stepped_to : (target : Expr) → binds target 12 ≡ true → (t : ExpressionStatement) (qs : List Piece) → SteppedL target t qs → SimpleAt n t (wants_of_expr target n ++ qs)
  unfolding is_simple wants_of_simple
  stepped_to target h t qs b =
      let is : t ≡ simple.PostfixStep target b.first.0 b.first.1 = b.right.tree_is in
      record {
        grammar = ap is_simple is ∙ h;
        wants = ap (λ u. wants_of_expr target n ++ u) (onto b.whole b.left.one b.right.none) ∙ ap (λ u. wants_of_simple u n) (sym is);
      }

  call_to : (target : Expr) → binds target 13 ≡ true → is_call target ≡ true → (t : ExpressionStatement) (qs : List Piece) → CallL target t qs → SimpleAt n t (wants_of_expr target n ++ qs)
  unfolding is_simple wants_of_simple
  call_to target h call t qs is =
      record {
        grammar = ap is_simple is.tree_is ∙ and_both (binds target 13) (is_call target) h call;
        wants = ap (λ u. wants_of_expr target n ++ u) is.none ∙ append-nil (wants_of_expr target n) ∙ ap (λ u. wants_of_simple u n) (sym is.tree_is);
      }

  following_to : (call postfix : Bool) (target : Expr) → is_call target ≡ call → is_postfix target ≡ postfix → binds target 11 ≡ true → (t : ExpressionStatement) (qs : List Piece) → FollowedL call postfix target t qs → SimpleAt n t (wants_of_expr target n ++ qs)
  following_to true postfix target is_c is_p h t qs (this b) = assigned_to target h t qs b
  following_to true postfix target is_c is_p h t qs (that (this b)) = stepped_to target ((kinds target).postfix_binds ((kinds target).call_postfix is_c) h) t qs b
  following_to true postfix target is_c is_p h t qs (that (that b)) = call_to target ((kinds target).call_binds is_c h) is_c t qs b
  following_to false true target is_c is_p h t qs (this b) = stepped_to target ((kinds target).postfix_binds is_p h) t qs b
  following_to false true target is_c is_p h t qs (that b) = assigned_to target h t qs b
  following_to false false target is_c is_p h t qs b = assigned_to target h t qs b

  simple_to : (t : ExpressionStatement) (ps : List Piece) → SimpleL t ps → SimpleAt n t ps
  simple_to t ps (this b) = before_to t ps b
  simple_to t ps (that b) =
      subst (λ u. SimpleAt n t u) (sym (b.whole ∙ ap (λ u. u ++ b.pieces2) b.left.wants)) (following_to (is_call b.first) (is_postfix b.first) b.first refl refl b.left.grammar t b.pieces2 b.right)

  assigned_following : (call postfix : Bool) (target : Expr) (t : ExpressionStatement) (qs : List Piece) → AssignedL target t qs → FollowedL call postfix target t qs
  assigned_following true postfix target t qs b = this b
  assigned_following false true target t qs b = that b
  assigned_following false false target t qs b = b

  stepped_following : (call postfix : Bool) (target : Expr) (t : ExpressionStatement) (qs : List Piece) → postfix ≡ true → SteppedL target t qs → FollowedL call postfix target t qs
  stepped_following true postfix target t qs is b = that (this b)
  stepped_following false true target t qs is b = this b
  stepped_following false false target t qs is b = absurd (not_true is)

  call_following : (call postfix : Bool) (target : Expr) (t : ExpressionStatement) (qs : List Piece) → call ≡ true → CallL target t qs → FollowedL call postfix target t qs
  call_following true postfix target t qs is b = that (that b)
  call_following false postfix target t qs is b = absurd (not_true is)

  simple_from : (t : ExpressionStatement) (ps : List Piece) → SimpleAt n t ps → SimpleL t ps
  unfolding is_simple wants_of_simple
  simple_from (simple.Assignment target place mark value) ps is =
      that (subst (λ u. AfterL (simple.Assignment target place mark value) u) (join3 (wants_of_expr target n) (assign_piece n (place, mark) ∷ []) (wants_of_expr value n) ∙ sym is.wants)
      (in_both _ _ _ _ _ target (record { grammar = and_left (binds target 11) (binds value 0) is.grammar; wants = refl })
      (assigned_following (is_call target) (is_postfix target) target _ _
      (in_both _ _ _ _ _ (place, mark) (in_single (assign_piece n) (place, mark))
      (in_both _ _ _ _ _ value (record { grammar = and_right (binds target 11) (binds value 0) is.grammar; wants = refl }) (in_given (simple.Assignment target place mark value)))))))
  simple_from (simple.PostfixStep target place mark) ps is =
      that (subst (λ u. AfterL (simple.PostfixStep target place mark) u) (sym is.wants)
      (in_both _ _ _ _ _ target (record { grammar = lower_to 11 12 (omega arith) target is.grammar; wants = refl })
      (stepped_following (is_call target) (is_postfix target) target _ _ ((kinds target).binds_postfix is.grammar) (in_both _ _ _ _ _ (place, mark) (in_single (step_piece n) (place, mark)) (in_given (simple.PostfixStep target place mark))))))
  simple_from (simple.PrefixStep place mark target) ps is =
      this (subst (λ u. BeforeL (simple.PrefixStep place mark target) u) (join2 (step_piece n (place, mark) ∷ []) (wants_of_expr target (n + 1)) ∙ sym is.wants)
      (in_both _ _ _ _ _ (place, mark) (in_single (step_piece n) (place, mark)) (in_both _ _ _ _ _ target (record { grammar = is.grammar; wants = refl }) (in_given (simple.PrefixStep place mark target)))))
  simple_from (simple.Call call) ps is =
      that (subst (λ u. AfterL (simple.Call call) u) (append-nil (wants_of_expr call n) ∙ sym is.wants)
      (in_both _ _ _ _ _ call (record { grammar = lower_to 11 13 (omega arith) call (and_left (binds call 13) (is_call call) is.grammar); wants = refl })
      (call_following (is_call call) (is_postfix call) call _ _ (and_right (binds call 13) (is_call call) is.grammar) (in_given (simple.Call call)))))

  pub some_simple : SomeOf (SimpleAt n)
  some_simple =
      let x = some_both (Single (step_piece n)) (λ mark. Both (At 11 (n + 1)) (λ target. Given (simple.PrefixStep mark.0 mark.1 target))) (some_single (step_piece n) some_step) some_target in
      (x.0, (x.1.0, before_to x.0 x.1.0 x.1.1))

  -- a test by kind and text that has this answer at each token with which an expression can begin, and at both steps
  pub begins_simple : (by : TokenKind → List ℕ → Bool) (b : Bool) → Suits by b → by Mark (codes "++") ≡ b → by Mark (codes "--") ≡ b → Begins (SimpleAt n) (λ w. by w.kind w.text) b
  begins_simple by b suits up down t ps front rest is fits =
      begins_either BeforeL AfterL (λ w. by w.kind w.text) b (before_begins by b (step_all by b up down)) (after_begins by b suits) t ps front rest (simple_from t ps is) fits

-- ---- the readers

module _ (most size n left : ℕ) (level : n + left ≡ most + 1) where
  assigned_read : (target : Expr) → Reads (AssignedL n target) most size StopsSimple (read_assigned size left target)
  unfolding read_assigned goes_by suffix_by spelled_by found_by found_in
  assigned_read target =
      bind_reads _ _ most size Any StopsSimple _ _ (assign_reads most size Any n left level)
      (λ mark. bind_reads _ _ most size (Stops 0) StopsSimple _ _ (all_read most size left n level).expr (λ value. give_reads (simple.Assignment target mark.0 mark.1 value) most size StopsSimple)
      (λ value ps is. some_given (simple.Assignment target mark.0 mark.1 value))
      (λ value c qs ys rest is fits stop. given_stops (simple.Assignment target mark.0 mark.1 value) c qs ys rest (Stops 0) is fits (end_stops 0 refl refl rest stop)))
      (λ mark ps is. some_both _ _ (some_at 0 n (omega arith)) (λ value. some_given (simple.Assignment target mark.0 mark.1 value)))
      (λ mark c qs ys rest is fits stop. tt)

  stepped_read : (target : Expr) → Reads (SteppedL n target) most size StopsSimple (read_stepped left target)
  unfolding read_stepped
  stepped_read target =
      bind_reads _ _ most size Any StopsSimple _ _ (step_reads most size Any n left level) (λ mark. give_reads (simple.PostfixStep target mark.0 mark.1) most size StopsSimple)
      (λ mark ps is. some_given (simple.PostfixStep target mark.0 mark.1))
      (λ mark c qs ys rest is fits stop. tt)

  abbrev following_reader : Bool → Bool → Expr → Reader ExpressionStatement
  following_reader call postfix target =
      if call then choose is_assign (read_assigned size left target) (choose is_step (read_stepped left target) (give (simple.Call target)))
      else (if postfix then choose is_step (read_stepped left target) (read_assigned size left target) else read_assigned size left target)

  following_read : (call postfix : Bool) (target : Expr) → Reads (FollowedL n call postfix target) most size StopsSimple (following_reader call postfix target)
  following_read true postfix target =
      choose_reads (AssignedL n target) (Either (SteppedL n target) (CallL n target)) most size StopsSimple is_assign (read_assigned size left target) (choose is_step (read_stepped left target) (give (simple.Call target)))
      (assigned_read target)
      (choose_reads (SteppedL n target) (CallL n target) most size StopsSimple is_step (read_stepped left target) (give (simple.Call target)) (stepped_read target) (give_reads (simple.Call target) most size StopsSimple)
      (λ t ps front rest is fits stop. step_is_step n target t ps front rest is fits)
      (λ t ps front rest is fits stop. given_stops (simple.Call target) t ps front rest (FirstIs is_step false) is fits (end_is_no_step rest stop)))
      (λ t ps front rest is fits stop. assign_is_assign n target t ps front rest is fits)
      (λ t ps front rest is fits stop. step_or_call n target t ps front rest is fits stop)
  following_read false true target =
      choose_reads (SteppedL n target) (AssignedL n target) most size StopsSimple is_step (read_stepped left target) (read_assigned size left target) (stepped_read target) (assigned_read target)
      (λ t ps front rest is fits stop. step_is_step n target t ps front rest is fits)
      (λ t ps front rest is fits stop. assign_is_no_step n target t ps front rest is fits)
  following_read false false target = assigned_read target

  before_read : Reads (BeforeL n) most size StopsSimple (read_before size left)
  unfolding read_before goes_by suffix_by spelled_by found_by found_in
  before_read =
      take_bind is_step step_at most size (step_piece n) some_step (step_is n) (step_takes n) (λ mark. Both (At 11 (n + 1)) (λ target. Given (simple.PrefixStep mark.0 mark.1 target))) StopsSimple _ (some_target n) left (λ found. level)
      (λ some mark. bind_reads _ _ most size (Stops 11) StopsSimple _ _ (all_read most size (left - 1) (n + 1) (omega (arith, level, some))).unary (λ target. give_reads (simple.PrefixStep mark.0 mark.1 target) most size StopsSimple)
      (λ target ps is. some_given (simple.PrefixStep mark.0 mark.1 target))
      (λ target c qs ys rest is fits stop. given_stops (simple.PrefixStep mark.0 mark.1 target) c qs ys rest (Stops 11) is fits (end_stops 11 refl refl rest stop)))

  after_read : Reads (AfterL n) most size StopsSimple ((readers_at size left).unary >>= read_simple_after size left)
  unfolding read_simple_after
  after_read =
      bind_reads _ _ most size (Stops 11) StopsSimple _ _ (all_read most size left n level).unary
      (λ target. following_read (is_call target) (is_postfix target) target)
      (λ target ps is. some_following n (is_call target) (is_postfix target) target)
      (λ target c qs ys rest is fits stop. following_stops n (is_call target) (is_postfix target) target c qs ys rest is fits stop)

  simple_read : Reads (SimpleL n) most size StopsSimple (read_simple size left)
  unfolding read_simple step_of found_of is_kind found_by found_in
  simple_read =
      choose_reads (BeforeL n) (AfterL n) most size StopsSimple is_step (read_before size left) ((readers_at size left).unary >>= read_simple_after size left) before_read after_read
      (λ t ps front rest is fits stop. before_begins n step_by true (step_all step_by true refl refl) t ps front rest is fits)
      (λ t ps front rest is fits stop. after_begins n step_by false no_step t ps front rest is fits)

  pub simple_reads : Reads (SimpleAt n) most size StopsSimple (read_simple size left)
  simple_reads = reads_as (simple_to n) (simple_from n) simple_read
