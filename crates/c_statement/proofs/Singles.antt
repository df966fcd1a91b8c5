-- The readers of statements that hold no statement.
use Rattle.std.proofs.Common.{◌≡◌, ℕ, ◌+◌, true, false, ◌||◌, List, [], ◌∷◌, ◌++◌, Option, option_map, refl, sym, ap, ◌∙◌, subst, codes}
use Rattle.c_tree.specs.Pieces.{Piece, optional}
use Rattle.c_tree.specs.Folds.{wants_of_expr}
use Rattle.c_tree.specs.StatementFolds.{wants_of_statement, form_of_statement}
use Rattle.c_tree.specs.Declarations.{wants_of_simple}
use Rattle.c_tree.specs.declared.token.Place.{Place}
use Rattle.c_tree.specs.declared.token.Token.{Token}
use Rattle.c_tree.specs.declared.token.TokenKind.TheVariants.{Word, Mark}
use Rattle.c_tree.specs.declared.expressions.Expr.{Expr}
use Rattle.c_tree.specs.declared.statements.ExpressionStatement.{ExpressionStatement}
use Rattle.c_tree.specs.declared.statements.Statement.{Statement}
use Rattle.c_tree.specs.declared.statements.Statement.TheVariants as statement
use Rattle.c_reader.specs.Tokens.{is_word, is_mark, is_spelled, is_kind, spelled_by, found_by, found_in}
use Rattle.c_grammar.specs.Tokens.{goes_by, suffix_by}
use Rattle.c_reader.proofs.Reader.{Language, Of}
use Rattle.c_reader.proofs.Binding.{Both}
use Rattle.c_reader.proofs.Giving.{Given}
use Rattle.c_reader.proofs.Taking.{Single}
use Rattle.c_reader.proofs.Choosing.{FirstIs}
use Rattle.c_reader.proofs.Joining.{in_both, in_single, in_given, onto, join1, join2, join3}
use Rattle.c_reader.proofs.Spelt.{spelt, spelt_at}
use Rattle.c_grammar.proofs.Primaries.{first_from, prefix_all}
use Rattle.c_grammar.proofs.Starting.{Suits}
use Rattle.c_decl.specs.ExpressionStatements.{read_simple}
use Rattle.c_decl.proofs.ExpressionStatements.{SimpleAt, StopsSimple, simple_reads, some_simple}
use Rattle.c_statement.specs.Statements.{read_empty, read_simple_statement, read_break, read_continue, read_return}
use Rattle.c_statement.proofs.ByTree.{by_reads}
use Rattle.c_statement.proofs.Conditions.{OptionalAt, unless_then}
use Rattle.c_statement.proofs.Steps.{Step, then_, given, spelt_then, placed_then, begins_is}
use Rattle.c_tree.proofs.StatementFoldsLaws.{wants_Empty, wants_Expression, wants_Break, wants_Continue, wants_Return, form_Empty, form_Expression, form_Break, form_Continue, form_Return}

abbrev pub StatementAt : ℕ → Language Statement
StatementAt n = Of (λ s. (form_of_statement s).is) (λ s. wants_of_statement s n)

-- after a statement that an else could follow no else stands
abbrev pub StopsElse : Statement → List Token → Type 0
StopsElse s rest = (form_of_statement s).open_ ≡ true → FirstIs (is_word (codes "else")) false rest

pub is_statement : (n : ℕ) (t s : Statement) (ps : List Piece) → t ≡ s → (form_of_statement s).is ≡ true → ps ≡ wants_of_statement s n → StatementAt n t ps
is_statement n t s ps is ok wants = record { grammar = ap (λ u. (form_of_statement u).is) is ∙ ok; wants = wants ∙ ap (λ u. wants_of_statement u n) (sym is) }

abbrev pub Always : Type 0
Always = Unit {0}

pub suits_semicolon : Suits (spelled_by Mark (codes ";")) false
unfolding spelled_by
suits_semicolon = record { name = λ t. refl; integer = λ t. refl; character = λ t. refl; yes_ = refl; no_ = refl; bracket = refl; prefix = prefix_all (spelled_by Mark (codes ";")) false refl refl refl refl refl refl }

module _ (most size n left : ℕ) (level : (n + 1) + left ≡ most + 1) where
  -- ---- the empty statement

  abbrev pub EmptyL : Language Statement
  EmptyL = Both (Single (spelt_at Mark (codes ";") (n + 1))) (λ place. Given (statement.Empty place))

  pub empty_step : Step most size Always EmptyL StopsElse (read_empty left)
  unfolding read_empty
  empty_step = placed_then most size StopsElse Mark (codes ";") (n + 1) left level Always _ _ (λ place. given most size StopsElse Always (statement.Empty place))

  empty_flat : (place : Place) → (spelt_at Mark (codes ";") (n + 1) place ∷ []) ++ [] ≡ wants_of_statement (statement.Empty place) n
  empty_flat place = join1 (spelt_at Mark (codes ";") (n + 1) place ∷ []) ∙ sym (ap (λ f. f n) (wants_Empty place))

  pub empty_to : (t : Statement) (ps : List Piece) → EmptyL t ps → StatementAt n t ps
  empty_to t ps b = is_statement n t (statement.Empty b.first) ps b.right.tree_is (ap (λ f. f.is) (form_Empty b.first)) (onto b.whole b.left.one b.right.none ∙ empty_flat b.first)

  pub empty_from : (place : Place) (ps : List Piece) → StatementAt n (statement.Empty place) ps → EmptyL (statement.Empty place) ps
  empty_from place ps is = subst (λ u. EmptyL (statement.Empty place) u) (empty_flat place ∙ sym is.wants) (in_both _ _ _ _ _ place (in_single (spelt_at Mark (codes ";") (n + 1)) place) (in_given (statement.Empty place)))

  -- ---- simple ones

  abbrev pub SimpleL : Language Statement
  SimpleL = Both (SimpleAt (n + 1)) (λ value. Both (Single (spelt Mark (codes ";") (n + 1))) (λ closing. Given (statement.Expression value)))

  before_end : (rest : List Token) → FirstIs (is_mark (codes ";")) true rest → StopsSimple rest
  unfolding spelled_by is_spelled is_kind
  before_end rest h = first_from Mark (codes ";") (λ k t. spelled_by Mark (codes ";") k t || spelled_by Mark (codes ")") k t) true refl rest h

  pub simple_step : Step most size Always SimpleL StopsElse (read_simple_statement size left)
  unfolding read_simple_statement
  simple_step =
      then_ most size Always (SimpleAt (n + 1)) _ (λ value. StopsSimple) StopsElse (read_simple size left) _
      (record { by = λ u. by_reads (simple_reads most size (n + 1) left level); some = some_simple (n + 1) })
      (λ value. spelt_then most size StopsElse Mark (codes ";") (n + 1) left level Always _ _ (λ closing. given most size StopsElse Always (statement.Expression value)))
      (λ value ps c qs ys rest is k fits stop. before_end (ys ++ rest) (begins_is Mark (codes ";") (n + 1) (λ closing. Given (statement.Expression value)) c qs ys rest k fits))

  simple_flat : (value : ExpressionStatement) → wants_of_simple value (n + 1) ++ ((spelt Mark (codes ";") (n + 1) tt ∷ []) ++ []) ≡ wants_of_statement (statement.Expression value) n
  simple_flat value = join2 (wants_of_simple value (n + 1)) (spelt Mark (codes ";") (n + 1) tt ∷ []) ∙ sym (ap (λ f. f n) (wants_Expression value))

  pub simple_to : (t : Statement) (ps : List Piece) → SimpleL t ps → StatementAt n t ps
  simple_to t ps b =
      is_statement n t (statement.Expression b.first) ps b.right.right.tree_is (ap (λ f. f.is) (form_Expression b.first) ∙ b.left.grammar)
      (onto b.whole b.left.wants (onto b.right.whole b.right.left.one b.right.right.none) ∙ simple_flat b.first)

  pub simple_from : (value : ExpressionStatement) (ps : List Piece) → StatementAt n (statement.Expression value) ps → SimpleL (statement.Expression value) ps
  simple_from value ps is =
      subst (λ u. SimpleL (statement.Expression value) u) (simple_flat value ∙ sym is.wants)
      (in_both _ _ _ _ _ value (record { grammar = sym (ap (λ f. f.is) (form_Expression value)) ∙ is.grammar; wants = refl }) (in_both _ _ _ _ _ tt (in_single (spelt Mark (codes ";") (n + 1)) tt) (in_given (statement.Expression value))))

  -- ---- break and continue

  abbrev pub BreakL : Language Statement
  BreakL = Both (Single (spelt_at Word (codes "break") (n + 1))) (λ place. Both (Single (spelt Mark (codes ";") (n + 1))) (λ closing. Given (statement.Break place)))

  pub break_step : Step most size Always BreakL StopsElse (read_break left)
  unfolding read_break
  break_step = placed_then most size StopsElse Word (codes "break") (n + 1) left level Always _ _ (λ place. spelt_then most size StopsElse Mark (codes ";") (n + 1) left level Always _ _ (λ closing. given most size StopsElse Always (statement.Break place)))

  break_flat : (place : Place) → (spelt_at Word (codes "break") (n + 1) place ∷ []) ++ ((spelt Mark (codes ";") (n + 1) tt ∷ []) ++ []) ≡ wants_of_statement (statement.Break place) n
  break_flat place = join2 (spelt_at Word (codes "break") (n + 1) place ∷ []) (spelt Mark (codes ";") (n + 1) tt ∷ []) ∙ sym (ap (λ f. f n) (wants_Break place))

  pub break_to : (t : Statement) (ps : List Piece) → BreakL t ps → StatementAt n t ps
  break_to t ps b = is_statement n t (statement.Break b.first) ps b.right.right.tree_is (ap (λ f. f.is) (form_Break b.first)) (onto b.whole b.left.one (onto b.right.whole b.right.left.one b.right.right.none) ∙ break_flat b.first)

  pub break_from : (place : Place) (ps : List Piece) → StatementAt n (statement.Break place) ps → BreakL (statement.Break place) ps
  break_from place ps is =
      subst (λ u. BreakL (statement.Break place) u) (break_flat place ∙ sym is.wants)
      (in_both _ _ _ _ _ place (in_single (spelt_at Word (codes "break") (n + 1)) place) (in_both _ _ _ _ _ tt (in_single (spelt Mark (codes ";") (n + 1)) tt) (in_given (statement.Break place))))

  abbrev pub ContinueL : Language Statement
  ContinueL = Both (Single (spelt_at Word (codes "continue") (n + 1))) (λ place. Both (Single (spelt Mark (codes ";") (n + 1))) (λ closing. Given (statement.Continue place)))

  pub continue_step : Step most size Always ContinueL StopsElse (read_continue left)
  unfolding read_continue
  continue_step = placed_then most size StopsElse Word (codes "continue") (n + 1) left level Always _ _ (λ place. spelt_then most size StopsElse Mark (codes ";") (n + 1) left level Always _ _ (λ closing. given most size StopsElse Always (statement.Continue place)))

  continue_flat : (place : Place) → (spelt_at Word (codes "continue") (n + 1) place ∷ []) ++ ((spelt Mark (codes ";") (n + 1) tt ∷ []) ++ []) ≡ wants_of_statement (statement.Continue place) n
  continue_flat place = join2 (spelt_at Word (codes "continue") (n + 1) place ∷ []) (spelt Mark (codes ";") (n + 1) tt ∷ []) ∙ sym (ap (λ f. f n) (wants_Continue place))

  pub continue_to : (t : Statement) (ps : List Piece) → ContinueL t ps → StatementAt n t ps
  continue_to t ps b = is_statement n t (statement.Continue b.first) ps b.right.right.tree_is (ap (λ f. f.is) (form_Continue b.first)) (onto b.whole b.left.one (onto b.right.whole b.right.left.one b.right.right.none) ∙ continue_flat b.first)

  pub continue_from : (place : Place) (ps : List Piece) → StatementAt n (statement.Continue place) ps → ContinueL (statement.Continue place) ps
  continue_from place ps is =
      subst (λ u. ContinueL (statement.Continue place) u) (continue_flat place ∙ sym is.wants)
      (in_both _ _ _ _ _ place (in_single (spelt_at Word (codes "continue") (n + 1)) place) (in_both _ _ _ _ _ tt (in_single (spelt Mark (codes ";") (n + 1)) tt) (in_given (statement.Continue place))))

  -- ---- return

  abbrev pub ReturnL : Language Statement
  ReturnL = Both (Single (spelt_at Word (codes "return") (n + 1))) (λ place. Both (OptionalAt (n + 1)) (λ value. Both (Single (spelt Mark (codes ";") (n + 1))) (λ closing. Given (statement.Return place value))))

  pub return_step : Step most size Always ReturnL StopsElse (read_return size left)
  unfolding read_return goes_by suffix_by spelled_by found_by found_in
  return_step =
      placed_then most size StopsElse Word (codes "return") (n + 1) left level Always _ _
      (λ place. unless_then most size (n + 1) left level (codes ";") suits_semicolon refl StopsElse Always _ _
      (λ value. spelt_then most size StopsElse Mark (codes ";") (n + 1) left level Always _ _ (λ closing. given most size StopsElse Always (statement.Return place value)))
      (λ value. begins_is Mark (codes ";") (n + 1) (λ closing. Given (statement.Return place value))))

  return_flat : (place : Place) (value : Option Expr) → (spelt_at Word (codes "return") (n + 1) place ∷ []) ++ (optional (option_map wants_of_expr value) (n + 1) ++ ((spelt Mark (codes ";") (n + 1) tt ∷ []) ++ [])) ≡ wants_of_statement (statement.Return place value) n
  return_flat place value = join3 (spelt_at Word (codes "return") (n + 1) place ∷ []) (optional (option_map wants_of_expr value) (n + 1)) (spelt Mark (codes ";") (n + 1) tt ∷ []) ∙ sym (ap (λ f. f n) (wants_Return place value))

  pub return_to : (t : Statement) (ps : List Piece) → ReturnL t ps → StatementAt n t ps
  return_to t ps b =
      is_statement n t (statement.Return b.first b.right.first) ps b.right.right.right.tree_is (ap (λ f. f.is) (form_Return b.first b.right.first) ∙ b.right.left.grammar)
      (onto b.whole b.left.one (onto b.right.whole b.right.left.wants (onto b.right.right.whole b.right.right.left.one b.right.right.right.none)) ∙ return_flat b.first b.right.first)

  pub return_from : (place : Place) (value : Option Expr) (ps : List Piece) → StatementAt n (statement.Return place value) ps → ReturnL (statement.Return place value) ps
  return_from place value ps is =
      subst (λ u. ReturnL (statement.Return place value) u) (return_flat place value ∙ sym is.wants)
      (in_both _ _ _ _ _ place (in_single (spelt_at Word (codes "return") (n + 1)) place)
      (in_both _ _ _ _ _ value (record { grammar = sym (ap (λ f. f.is) (form_Return place value)) ∙ is.grammar; wants = refl })
      (in_both _ _ _ _ _ tt (in_single (spelt Mark (codes ";") (n + 1)) tt) (in_given (statement.Return place value)))))
