-- What expressions begin with.
use Rattle.std.proofs.Common.{◌≡◌, ◌≤◌, ℕ, zero, suc, ◌+◌, ◌==◌, Bool, true, ◌&&◌, List, [], ◌∷◌, ◌++◌, map, refl, sym, ap, ◌∙◌, subst, arith, codes, Option, Some, nat_le}
use Rattle.std.proofs.lemmas.Bool.{leb-true}
use Rattle.std.specs.List.{list_all}
use Rattle.c_tree.specs.Pieces.{Piece, spelled, valued, IsWanted, Takes, Fits, literal_at}
use Rattle.c_tree.specs.Operators.{level_of, text_of_prefix}
use Rattle.c_tree.specs.Folds.{wants_of_expr, binds, operand_level, is_suffix_tree}
use Rattle.c_tree.specs.Expressions.{has_some}
use Rattle.c_tree.proofs.Cases.{cases_Expr}
use Rattle.c_tree.proofs.FoldsLaws.{wants_Expr_Name, wants_Expr_Literal, wants_Expr_Call, wants_Expr_Parenthesized, wants_Expr_Postfix, wants_Expr_Unary, wants_Expr_Cast, wants_Expr_BinaryChain, wants_Expr_Conditional, is_Expr_Postfix, is_Expr_BinaryChain, is_Expr_Conditional, is_Operand}
use Rattle.c_tree.specs.declared.token.Place.{Place}
use Rattle.c_tree.specs.declared.token.Token.{Token}
use Rattle.c_tree.specs.declared.token.TokenKind.{TokenKind}
use Rattle.c_tree.specs.declared.token.TokenKind.TheVariants.{Word, Name, Integer, Character, Mark}
use Rattle.c_tree.specs.declared.expressions.Identifier.{Identifier}
use Rattle.c_tree.specs.declared.expressions.Specifiers.{Specifiers}
use Rattle.c_tree.specs.declared.expressions.Expr.TheViews.{out-Operand, roll-out-Operand}
use Rattle.c_tree.specs.declared.expressions.Literal.{Literal}
use Rattle.c_tree.specs.declared.expressions.Literal.TheVariants as literal
use Rattle.c_tree.specs.declared.expressions.BinaryOperator.{BinaryOperator}
use Rattle.c_tree.specs.declared.expressions.BinaryOperator.TheVariants as operator
use Rattle.c_tree.specs.declared.expressions.UnaryOperator.{UnaryOperator}
use Rattle.c_tree.specs.declared.expressions.Operand.{Operand}
use Rattle.c_tree.specs.declared.expressions.Suffix.{Suffix}
use Rattle.c_tree.specs.declared.expressions.Expr.{Expr}
use Rattle.c_tree.specs.declared.expressions.Expr.TheVariants as expr
use Rattle.c_reader.proofs.Choosing.{FirstIs}
use Rattle.c_reader.proofs.Beginning.{Begins}
use Rattle.c_reader.proofs.Spelt.{by_text}
use Rattle.c_grammar.proofs.Suffixes.{At}
use Rattle.c_reader.proofs.Truths.{not_true, and_left, and_right}

-- a test by kind and text has this answer at each token with which an expression can begin
pub record Suits (test : TokenKind → List ℕ → Bool) (b : Bool) : Type 0 where
  pub name : (text : List ℕ) → test Name text ≡ b
  pub integer : (text : List ℕ) → test Integer text ≡ b
  pub character : (text : List ℕ) → test Character text ≡ b
  pub yes_ : test Word (codes "true") ≡ b
  pub no_ : test Word (codes "false") ≡ b
  pub bracket : test Mark (codes "(") ≡ b
  pub prefix : (operator : UnaryOperator) → test Mark (text_of_prefix operator) ≡ b

pub level_low : (o : BinaryOperator) → level_of o ≤ 10
level_low operator.LogicalOr = omega arith
level_low operator.LogicalAnd = omega arith
level_low operator.Or = omega arith
level_low operator.Xor = omega arith
level_low operator.And = omega arith
level_low operator.Equal = omega arith
level_low operator.Unequal = omega arith
level_low operator.Less = omega arith
level_low operator.Greater = omega arith
level_low operator.LessOrEqual = omega arith
level_low operator.GreaterOrEqual = omega arith
level_low operator.ShiftLeft = omega arith
level_low operator.ShiftRight = omega arith
level_low operator.Add = omega arith
level_low operator.Subtract = omega arith
level_low operator.Multiply = omega arith
level_low operator.Divide = omega arith
level_low operator.Remainder = omega arith

pub level_high : (o : BinaryOperator) → 1 ≤ level_of o
level_high operator.LogicalOr = omega arith
level_high operator.LogicalAnd = omega arith
level_high operator.Or = omega arith
level_high operator.Xor = omega arith
level_high operator.And = omega arith
level_high operator.Equal = omega arith
level_high operator.Unequal = omega arith
level_high operator.Less = omega arith
level_high operator.Greater = omega arith
level_high operator.LessOrEqual = omega arith
level_high operator.GreaterOrEqual = omega arith
level_high operator.ShiftLeft = omega arith
level_high operator.ShiftRight = omega arith
level_high operator.Add = omega arith
level_high operator.Subtract = omega arith
level_high operator.Multiply = omega arith
level_high operator.Divide = omega arith
level_high operator.Remainder = omega arith

-- the first piece, its nesting, and what the test says of the tokens that it wants
pub record Leads (test : TokenKind → List ℕ → Bool) (b : Bool) (n : ℕ) (pieces : List Piece) : Type 0 where
  pub piece : Piece
  pub following : List Piece
  pub is : pieces ≡ piece ∷ following
  pub nested : piece.nesting ≡ n
  pub tells : (w : Token) → Takes piece w → test w.kind w.text ≡ b

pub leads_append : (test : TokenKind → List ℕ → Bool) (b : Bool) (n : ℕ) (ps qs : List Piece) → Leads test b n ps → Leads test b n (ps ++ qs)
leads_append test b n ps qs leads = record { piece = leads.piece; following = leads.following ++ qs; is = ap (λ u. u ++ qs) leads.is; nested = leads.nested; tells = leads.tells }

pub begins_cons : (piece : Piece) (test : Token → Bool) (b : Bool) → ((w : Token) → Takes piece w → test w ≡ b) → (ps qs : List Piece) (front rest : List Token) → ps ≡ piece ∷ qs → Fits ps front → FirstIs test b (front ++ rest)
unfolding Fits FirstIs
begins_cons piece test b is [] qs front rest one fits = absurd (cc)
begins_cons piece test b is (p ∷ ps) qs [] rest one fits = absurd fits
begins_cons piece test b is (p ∷ ps) qs (w ∷ front) rest one fits =
    let same : p ≡ piece = cc in
    is w (subst (λ u. Takes u w) same fits.0)

pub leads_spelled : (test : TokenKind → List ℕ → Bool) (b : Bool) (n : ℕ) (place : Option Place) (kind : TokenKind) (text : List ℕ) (following : List Piece) → test kind text ≡ b → Leads test b n (record { nesting = n; place = place; want = spelled kind text } ∷ following)
unfolding IsWanted
leads_spelled test b n place kind text following is = record { piece = record { nesting = n; place = place; want = spelled kind text }; following = following; is = refl; nested = refl; tells = λ w takes. by_text test kind text b w takes.0.0 takes.0.1 is }

leads_literal : (test : TokenKind → List ℕ → Bool) (b : Bool) (n : ℕ) (place : Place) (value : Literal) → Suits test b → Leads test b n (literal_at place value n)
unfolding IsWanted
leads_literal test b n place (literal.Integer scalar number) s = record { piece = record { nesting = n; place = Some place; want = valued Integer scalar number }; following = []; is = refl; nested = refl; tells = λ w takes. ap (λ k. test k w.text) takes.0.0 ∙ s.integer w.text }
leads_literal test b n place (literal.Character scalar number) s = record { piece = record { nesting = n; place = Some place; want = valued Character scalar number }; following = []; is = refl; nested = refl; tells = λ w takes. ap (λ k. test k w.text) takes.0.0 ∙ s.character w.text }
leads_literal test b n place literal.True s = leads_spelled test b n (Some place) Word (codes "true") [] s.yes_
leads_literal test b n place literal.False s = leads_spelled test b n (Some place) Word (codes "false") [] s.no_

pub operand_low : (operand : Operand) → (operand_level operand).level ≤ 10
operand_low operand = subst (λ t. (operand_level t).level ≤ 10) (roll-out-Operand operand) (subst (λ u. u.level ≤ 10) (sym (is_Operand (out-Operand operand).place (out-Operand operand).operator (out-Operand operand).value)) (level_low (out-Operand operand).operator))

pub operand_high : (operand : Operand) → 1 ≤ (operand_level operand).level
operand_high operand = subst (λ t. 1 ≤ (operand_level t).level) (roll-out-Operand operand) (subst (λ u. 1 ≤ u.level) (sym (is_Operand (out-Operand operand).place (out-Operand operand).operator (out-Operand operand).value)) (level_high (out-Operand operand).operator))

-- the level of a chain that binds so strongly
pub chain_parts : (first : Expr) (operands : List Operand) (level : ℕ) → binds (expr.BinaryChain first operands) level ≡ true
    → (l : ℕ) × ((level ≤ l) × (l ≤ 10) × (1 ≤ l) × (binds first (l + 1) ≡ true) × (list_all (λ o. (o.level == l) && o.value (o.level + 1)) (map operand_level operands) ≡ true))
chain_parts first [] level h = absurd (not_true (sym (ap (λ f. f level) (is_Expr_BinaryChain first [])) ∙ h))
chain_parts first (operand ∷ operands) level h =
    let all = sym (ap (λ f. f level) (is_Expr_BinaryChain first (operand ∷ operands))) ∙ h in
    let o = operand_level operand in
    let rest = list_all (λ p. (p.level == o.level) && p.value (p.level + 1)) (map operand_level (operand ∷ operands)) in
    let left = and_left (nat_le level o.level && binds first (o.level + 1)) rest all in (
      o.level,
      (
        leb-true level o.level (and_left (nat_le level o.level) (binds first (o.level + 1)) left),
        operand_low operand,
        operand_high operand,
        and_right (nat_le level o.level) (binds first (o.level + 1)) left,
        and_right (nat_le level o.level && binds first (o.level + 1)) rest all,
      ),
    )

pub postfix_parts : (primary : Expr) (suffixes : List Suffix) (level : ℕ) → binds (expr.Postfix primary suffixes) level ≡ true
    → (level ≤ 12) × (binds primary 13 ≡ true) × (has_some (map is_suffix_tree suffixes) ≡ true) × (list_all (λ suffix. suffix) (map is_suffix_tree suffixes) ≡ true)
postfix_parts primary suffixes level h =
    let all = sym (ap (λ f. f level) (is_Expr_Postfix primary suffixes)) ∙ h in
    let c = has_some (map is_suffix_tree suffixes) in
    let d = list_all (λ suffix. suffix) (map is_suffix_tree suffixes) in
    let three = and_left (nat_le level 12 && binds primary 13 && c) d all in
    let two = and_left (nat_le level 12 && binds primary 13) c three in
    (leb-true level 12 (and_left (nat_le level 12) (binds primary 13) two), and_right (nat_le level 12) (binds primary 13) two, and_right (nat_le level 12 && binds primary 13) c three, and_right (nat_le level 12 && binds primary 13 && c) d all)

pub conditional_parts : (condition : Expr) (place : Place) (second third : Expr) (level : ℕ) → binds (expr.Conditional condition place second third) level ≡ true
    → (level ≤ 0) × (binds condition 1 ≡ true) × (binds second 0 ≡ true) × (binds third 0 ≡ true)
conditional_parts condition place second third level h =
    let all = sym (ap (λ f. f level) (is_Expr_Conditional condition place second third)) ∙ h in
    let three = and_left (nat_le level 0 && binds condition 1 && binds second 0) (binds third 0) all in
    let two = and_left (nat_le level 0 && binds condition 1) (binds second 0) three in (
      leb-true level 0 (and_left (nat_le level 0) (binds condition 1) two),
      and_right (nat_le level 0) (binds condition 1) two,
      and_right (nat_le level 0 && binds condition 1) (binds second 0) three,
      and_right (nat_le level 0 && binds condition 1 && binds second 0) (binds third 0) all,
    )

module _ (test : TokenKind → List ℕ → Bool) (b : Bool) (s : Suits test b) (n : ℕ) where
  abbrev Lead : Expr → Type 0
  Lead e = Leads test b n (wants_of_expr e n)

  of_name : (named : Identifier) → Lead (expr.Name named)
  of_name named = subst (λ f. Leads test b n (f n)) (sym (wants_Expr_Name named)) (leads_spelled test b n (Some named.place) Name named.text [] (s.name named.text))

  of_literal : (place : Place) (value : Literal) → Lead (expr.Literal place value)
  of_literal place value = subst (λ f. Leads test b n (f n)) (sym (wants_Expr_Literal place value)) (leads_literal test b n place value s)

  of_call : (named : Identifier) (place : Place) (arguments : List Expr) → Lead (expr.Call named place arguments)
  of_call named place arguments = subst (λ f. Leads test b n (f n)) (sym (wants_Expr_Call named place arguments)) (leads_spelled test b n (Some named.place) Name named.text _ (s.name named.text))

  of_group : (place : Place) (value : Expr) → Lead (expr.Parenthesized place value)
  of_group place value = subst (λ f. Leads test b n (f n)) (sym (wants_Expr_Parenthesized place value)) (leads_spelled test b n (Some place) Mark (codes "(") _ s.bracket)

  of_prefix : (place : Place) (operator : UnaryOperator) (operand : Expr) → Lead (expr.Unary place operator operand)
  of_prefix place operator operand = subst (λ f. Leads test b n (f n)) (sym (wants_Expr_Unary place operator operand)) (leads_spelled test b n (Some place) Mark (text_of_prefix operator) _ (s.prefix operator))

  of_cast : (place : Place) (specs : Specifiers) (operand : Expr) → Lead (expr.Cast place specs operand)
  of_cast place specs operand = subst (λ f. Leads test b n (f n)) (sym (wants_Expr_Cast place specs operand)) (leads_spelled test b n (Some place) Mark (codes "(") _ s.bracket)

  of_postfix : (primary : Expr) (suffixes : List Suffix) → Lead primary → Lead (expr.Postfix primary suffixes)
  of_postfix primary suffixes lead = subst (λ f. Leads test b n (f n)) (sym (wants_Expr_Postfix primary suffixes)) (leads_append test b n _ _ lead)

  of_chain : (first : Expr) (operands : List Operand) → Lead first → Lead (expr.BinaryChain first operands)
  of_chain first operands lead = subst (λ f. Leads test b n (f n)) (sym (wants_Expr_BinaryChain first operands)) (leads_append test b n _ _ lead)

  of_conditional : (condition : Expr) (place : Place) (second third : Expr) → Lead condition → Lead (expr.Conditional condition place second third)
  of_conditional condition place second third lead =
      subst (λ f. Leads test b n (f n)) (sym (wants_Expr_Conditional condition place second third)) (leads_append test b n _ _ (leads_append test b n _ _ (leads_append test b n _ _ (leads_append test b n _ _ lead))))

  pub expr_leads : (k level : ℕ) → 13 ≤ level + k → (e : Expr) → binds e level ≡ true → Lead e
  expr_leads zero level low e = cases_Expr (λ u. binds u level ≡ true → Lead u)
      (λ named h. of_name named)
      (λ place value h. of_literal place value)
      (λ named place arguments h. of_call named place arguments)
      (λ place value h. of_group place value)
      (λ primary suffixes h. absurd (omega (arith, low, (postfix_parts primary suffixes level h).0)))
      (λ place operator operand h. of_prefix place operator operand)
      (λ place specs operand h. of_cast place specs operand)
      (λ first operands h. absurd (omega (arith, low, (chain_parts first operands level h).1.0, (chain_parts first operands level h).1.1)))
      (λ condition place second third h. absurd (omega (arith, low, (conditional_parts condition place second third level h).0)))
      e
  expr_leads (suc k) level low e = cases_Expr (λ u. binds u level ≡ true → Lead u)
      (λ named h. of_name named)
      (λ place value h. of_literal place value)
      (λ named place arguments h. of_call named place arguments)
      (λ place value h. of_group place value)
      (λ primary suffixes h. of_postfix primary suffixes (expr_leads k 13 (omega arith) primary (postfix_parts primary suffixes level h).1))
      (λ place operator operand h. of_prefix place operator operand)
      (λ place specs operand h. of_cast place specs operand)
      (λ first operands h. let p = chain_parts first operands level h in of_chain first operands (expr_leads k (p.0 + 1) (omega (arith, low, p.1.0)) first p.1.3))
      (λ condition place second third h. of_conditional condition place second third (let p = conditional_parts condition place second third level h in expr_leads k 1 (omega (arith, low, p.0)) condition p.1))
      e

  -- what the test says of the first token of each expression
  pub begins_at : (level : ℕ) → Begins (At level n) (λ w. test w.kind w.text) b
  begins_at level e ps front rest is fits =
      let lead = expr_leads 13 level (omega arith) e is.grammar in
      begins_cons lead.piece (λ w. test w.kind w.text) b lead.tells ps lead.following front rest (is.wants ∙ lead.is) fits
