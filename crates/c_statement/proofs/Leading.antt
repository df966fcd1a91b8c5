-- The first token of each statement.
use Rattle.std.proofs.Common.{◌≡◌, ◌<◌, ℕ, ◌+◌, Bool, true, List, [], ◌++◌, length, map, Option, Some, None, option_map, refl, sym, ap, ◌∙◌, subst, arith, codes}
use Rattle.c_tree.specs.Pieces.{Piece, IsWanted, mark, word, word_at, optional, bounded, all_of}
use Rattle.c_tree.specs.Operators.{text_of_step}
use Rattle.c_tree.specs.Folds.{wants_of_expr, binds, is_call}
use Rattle.c_tree.specs.StatementFolds.{wants_of_statement, wants_of_block, form_of_statement, wants_of_part}
use Rattle.c_tree.specs.Declarations.{wants_of_simple, is_simple}
use Rattle.c_tree.specs.Statements.{wants_of_bound, wants_of_first}
use Rattle.c_tree.specs.declared.token.TokenKind.{TokenKind}
use Rattle.c_tree.specs.declared.token.TokenKind.TheVariants.{Word, Mark, Bound}
use Rattle.c_tree.specs.declared.statements.Block.{Block}
use Rattle.c_tree.specs.declared.statements.LoopBound.{LoopBound}
use Rattle.c_tree.specs.declared.statements.ExpressionStatement.{ExpressionStatement}
use Rattle.c_tree.specs.declared.statements.ExpressionStatement.TheVariants as simple
use Rattle.c_tree.specs.declared.statements.Statement.{Statement}
use Rattle.c_tree.specs.declared.statements.Step.{Step}
use Rattle.c_reader.proofs.Beginning.{Begins}
use Rattle.c_grammar.proofs.Starting.{Suits, Leads, leads_append, leads_spelled, begins_cons, expr_leads}
use Rattle.c_reader.proofs.Truths.{and_left}
use Rattle.c_statement.proofs.Singles.{StatementAt}
use Rattle.c_tree.proofs.StatementCases.{cases_Statement, cases_Block}
use Rattle.c_tree.proofs.StatementFoldsLaws.{wants_Block, wants_Empty, wants_Expression, wants_Break, wants_Continue, wants_Return, wants_If, wants_Switch, wants_While, wants_Do, wants_For, wants_Braces, form_Expression}

-- a test by kind and text has this answer at each token with which a statement can begin
pub record SuitsStatement (test : TokenKind → List ℕ → Bool) (b : Bool) : Type 0 where
  pub expr : Suits test b
  pub step : (s : Step) → test Mark (text_of_step s) ≡ b
  pub brace : test Mark (codes "{") ≡ b
  pub semicolon : test Mark (codes ";") ≡ b
  pub break_ : test Word (codes "break") ≡ b
  pub continue_ : test Word (codes "continue") ≡ b
  pub return_ : test Word (codes "return") ≡ b
  pub if_ : test Word (codes "if") ≡ b
  pub switch_ : test Word (codes "switch") ≡ b
  pub while_ : test Word (codes "while") ≡ b
  pub do_ : test Word (codes "do") ≡ b
  pub for_ : test Word (codes "for") ≡ b
  pub bound : (text : List ℕ) → test Bound text ≡ b

module _ (test : TokenKind → List ℕ → Bool) (b : Bool) (s : SuitsStatement test b) where
  simple_leads : (n : ℕ) (t : ExpressionStatement) → is_simple t ≡ true → Leads test b n (wants_of_simple t n)
  unfolding wants_of_simple is_simple
  simple_leads n (simple.Assignment target place mark value) h = leads_append test b n _ _ (leads_append test b n _ _ (expr_leads test b s.expr n 13 11 (omega arith) target (and_left (binds target 11) (binds value 0) h)))
  simple_leads n (simple.PostfixStep target place step) h = leads_append test b n _ _ (expr_leads test b s.expr n 13 12 (omega arith) target h)
  simple_leads n (simple.PrefixStep place step target) h = leads_spelled test b n (Some place) Mark (text_of_step step) (wants_of_expr target (n + 1)) (s.step step)
  simple_leads n (simple.Call call) h = expr_leads test b s.expr n 13 13 (omega arith) call (and_left (binds call 13) (is_call call) h)

  block_leads : (n : ℕ) (t : Block) → Leads test b (n + 1) (wants_of_block t n)
  block_leads n = cases_Block (λ t. Leads test b (n + 1) (wants_of_block t n))
      (λ place parts. subst (λ f. Leads test b (n + 1) (f n)) (sym (wants_Braces place parts)) (leads_append test b (n + 1) _ (mark (codes "}") (n + 1)) (leads_append test b (n + 1) _ (all_of (map wants_of_part parts) (n + 1)) (leads_spelled test b (n + 1) (Some place) Mark (codes "{") [] s.brace))))

  -- a loop begins with its bound, or with its word
  bound_leads : (n : ℕ) (bound : Option LoopBound) (following : List Piece) → Leads test b n following → Leads test b n (wants_of_bound bound n ++ following)
  unfolding wants_of_bound IsWanted
  bound_leads n None following lead = lead
  bound_leads n (Some bound) following lead = record {
    piece = record { nesting = n; place = Some bound.place; want = bounded bound.number };
    following = following;
    is = refl;
    nested = refl;
    tells = λ w takes. ap (λ k. test k w.text) takes.0.0 ∙ s.bound w.text;
  }

  pub statement_leads : (n : ℕ) (t : Statement) → (form_of_statement t).is ≡ true → Leads test b (n + 1) (wants_of_statement t n)
  statement_leads n = cases_Statement (λ t. (form_of_statement t).is ≡ true → Leads test b (n + 1) (wants_of_statement t n))
      (λ block h. subst (λ f. Leads test b (n + 1) (f n)) (sym (wants_Block block)) (block_leads n block))
      (λ place h. subst (λ f. Leads test b (n + 1) (f n)) (sym (wants_Empty place)) (leads_spelled test b (n + 1) (Some place) Mark (codes ";") _ s.semicolon))
      (λ value h. subst (λ f. Leads test b (n + 1) (f n)) (sym (wants_Expression value)) (leads_append test b (n + 1) _ _ (simple_leads (n + 1) value (sym (ap (λ f. f.is) (form_Expression value)) ∙ h))))
      (λ place h. subst (λ f. Leads test b (n + 1) (f n)) (sym (wants_Break place)) (leads_spelled test b (n + 1) (Some place) Word (codes "break") _ s.break_))
      (λ place h. subst (λ f. Leads test b (n + 1) (f n)) (sym (wants_Continue place)) (leads_spelled test b (n + 1) (Some place) Word (codes "continue") _ s.continue_))
      (λ place value h. subst (λ f. Leads test b (n + 1) (f n)) (sym (wants_Return place value)) (leads_spelled test b (n + 1) (Some place) Word (codes "return") _ s.return_))
      (λ place condition then otherwise h. subst (λ f. Leads test b (n + 1) (f n)) (sym (wants_If place condition then otherwise)) (leads_spelled test b (n + 1) (Some place) Word (codes "if") _ s.if_))
      (λ place value sections h. subst (λ f. Leads test b (n + 1) (f n)) (sym (wants_Switch place value sections)) (leads_spelled test b (n + 1) (Some place) Word (codes "switch") _ s.switch_))
      (λ bound place condition body h. subst (λ f. Leads test b (n + 1) (f n)) (sym (wants_While bound place condition body)) (leads_append test b (n + 1) _ (wants_of_statement body (n + 1)) (leads_append test b (n + 1) _ (mark (codes ")") (n + 1)) (leads_append test b (n + 1) _ (wants_of_expr condition (n + 1)) (leads_append test b (n + 1) _ (mark (codes "(") (n + 1)) (bound_leads (n + 1) bound (word_at place (codes "while") (n + 1)) (leads_spelled test b (n + 1) (Some place) Word (codes "while") [] s.while_)))))))
      (λ bound place body condition h. subst (λ f. Leads test b (n + 1) (f n)) (sym (wants_Do bound place body condition)) (leads_append test b (n + 1) _ (mark (codes ";") (n + 1)) (leads_append test b (n + 1) _ (mark (codes ")") (n + 1)) (leads_append test b (n + 1) _ (wants_of_expr condition (n + 1)) (leads_append test b (n + 1) _ (mark (codes "(") (n + 1)) (leads_append test b (n + 1) _ (word (codes "while") (n + 1)) (leads_append test b (n + 1) _ (wants_of_statement body (n + 1)) (bound_leads (n + 1) bound (word_at place (codes "do") (n + 1)) (leads_spelled test b (n + 1) (Some place) Word (codes "do") [] s.do_)))))))))
      (λ bound place initial condition step body h. subst (λ f. Leads test b (n + 1) (f n)) (sym (wants_For bound place initial condition step body)) (leads_append test b (n + 1) _ (wants_of_statement body (n + 1)) (leads_append test b (n + 1) _ (mark (codes ")") (n + 1)) (leads_append test b (n + 1) _ (optional (option_map wants_of_simple step) (n + 1)) (leads_append test b (n + 1) _ (mark (codes ";") (n + 1)) (leads_append test b (n + 1) _ (optional (option_map wants_of_expr condition) (n + 1)) (leads_append test b (n + 1) _ (mark (codes ";") (n + 1)) (leads_append test b (n + 1) _ (wants_of_first initial (n + 1)) (leads_append test b (n + 1) _ (mark (codes "(") (n + 1)) (bound_leads (n + 1) bound (word_at place (codes "for") (n + 1)) (leads_spelled test b (n + 1) (Some place) Word (codes "for") [] s.for_)))))))))))

  pub begins_statement : (n : ℕ) → Begins (StatementAt n) (λ w. test w.kind w.text) b
  begins_statement n t ps front rest is fits =
      let lead = statement_leads n t is.grammar in
      begins_cons lead.piece (λ w. test w.kind w.text) b lead.tells ps lead.following front rest (is.wants ∙ lead.is) fits

  pub statement_some : (n : ℕ) (t : Statement) (ps : List Piece) → StatementAt n t ps → 0 < length ps
  statement_some n t ps is = let lead = statement_leads n t is.grammar in omega (arith, ap length is.wants, ap length lead.is)
