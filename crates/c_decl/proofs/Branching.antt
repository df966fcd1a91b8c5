-- The readers of simple statements, initialisers and parameters where what they look at is known.
use Rattle.std.proofs.Common.{◌≡◌, ◌<◌, ◌-◌, ℕ, suc, Bool, true, false, Option, Some, None, if◌then◌else◌, List, Result, refl, sym, ap, subst, ◌∙◌, arith, codes}
use Rattle.c_tree.specs.Folds.{is_call}
use Rattle.c_tree.specs.declared.token.Place.{Place}
use Rattle.c_tree.specs.declared.token.Token.{Token}
use Rattle.c_tree.specs.declared.expressions.Expr.{Expr}
use Rattle.c_tree.specs.declared.expressions.Specifiers.{Specifiers}
use Rattle.c_tree.specs.declared.programs.Parameters.TheVariants as parameters
use Rattle.c_tree.specs.declared.statements.Initializer.{Initializer}
use Rattle.c_tree.specs.declared.statements.Initializer.TheVariants as init
use Rattle.c_tree.specs.declared.statements.ExpressionStatement.{ExpressionStatement}
use Rattle.c_tree.specs.declared.statements.ExpressionStatement.TheVariants as simple
use Rattle.c_reader.specs.declared.unread.Unread.{Unread}
use Rattle.c_grammar.specs.Levels.{readers_at}
use Rattle.c_reader.specs.Outcome.{Gives, sees}
use Rattle.c_reader.specs.Reading.{Answer, good, deep, Reader, ◌>>=◌, after, give, choose}
use Rattle.c_reader.specs.Tokens.{is_mark}
use Rattle.c_reader.proofs.Gathering.{choose_sees}
use Rattle.c_decl.specs.Bare.{void_of}
use Rattle.c_decl.specs.Marks.{is_assign, is_step}
use Rattle.c_decl.specs.Declarations.{read_list, read_init}
use Rattle.c_decl.specs.Parameters.{read_parameters_of, read_parameters_after, read_parameters}
use Rattle.c_decl.specs.ExpressionStatements.{is_postfix, read_assigned, read_stepped, read_simple_after}

-- what gives an answer gives one that is the same
pub gives_as : {A : Type 0} (whole answer : Answer A) (r : Result A Unread) (new : List Token) → whole ≡ answer → Gives answer r new → Gives whole r new
gives_as whole answer r new same h = subst (λ a. Gives a r new) (sym same) h

chosen : {A : Type 0} (test : Token → Bool) (read other : Reader A) (l : List Token) → sees test l ≡ true → choose test read other l ≡ read l
chosen test read other l see = choose_sees test read other l ∙ ap (λ b. if b then read l else other l) see

passed : {A : Type 0} (test : Token → Bool) (read other : Reader A) (l : List Token) → sees test l ≡ false → choose test read other l ≡ other l
passed test read other l see = choose_sees test read other l ∙ ap (λ b. if b then read l else other l) see

-- ---- after a unary expression

module _ (size left : ℕ) (target : Expr) (l : List Token) where
  abbrev call_reader : Reader ExpressionStatement
  call_reader = choose is_assign (read_assigned size left target) (choose is_step (read_stepped left target) (give (simple.Call target)))

  abbrev postfix_reader : Reader ExpressionStatement
  postfix_reader = choose is_step (read_stepped left target) (read_assigned size left target)

  abbrev following_by : Bool → Bool → Reader ExpressionStatement
  following_by call postfix = if call then call_reader else (if postfix then postfix_reader else read_assigned size left target)

  at : (call postfix : Bool) → is_call target ≡ call → is_postfix target ≡ postfix → read_simple_after size left target l ≡ following_by call postfix l
  unfolding read_simple_after
  at call postfix is_c is_p = ap (λ b. following_by b (is_postfix target) l) is_c ∙ ap (λ b. following_by call b l) is_p

  of_call : is_call target ≡ true → read_simple_after size left target l ≡ call_reader l
  unfolding read_simple_after
  of_call is = ap (λ b. following_by b (is_postfix target) l) is

  pub call_assigned : is_call target ≡ true → sees is_assign l ≡ true → read_simple_after size left target l ≡ read_assigned size left target l
  call_assigned is see = of_call is ∙ chosen _ _ _ l see

  pub call_stepped : is_call target ≡ true → sees is_assign l ≡ false → sees is_step l ≡ true → read_simple_after size left target l ≡ read_stepped left target l
  call_stepped is none see = of_call is ∙ passed _ _ _ l none ∙ chosen _ _ _ l see

  pub call_alone : is_call target ≡ true → sees is_assign l ≡ false → sees is_step l ≡ false → read_simple_after size left target l ≡ good (simple.Call target) l
  call_alone is none end = of_call is ∙ passed _ _ _ l none ∙ passed _ _ _ l end

  pub postfix_stepped : is_call target ≡ false → is_postfix target ≡ true → sees is_step l ≡ true → read_simple_after size left target l ≡ read_stepped left target l
  postfix_stepped other is see = at false true other is ∙ chosen _ _ _ l see

  pub postfix_assigned : is_call target ≡ false → is_postfix target ≡ true → sees is_step l ≡ false → read_simple_after size left target l ≡ read_assigned size left target l
  postfix_assigned other is none = at false true other is ∙ passed _ _ _ l none

  pub other_assigned : is_call target ≡ false → is_postfix target ≡ false → read_simple_after size left target l ≡ read_assigned size left target l
  other_assigned other loose = at false false other loose

-- ---- initialisers

module _ (size : ℕ) where
  abbrev value_reader : ℕ → Reader Initializer
  value_reader left = (readers_at size left).expr >>= λ value. give (init.Expression value)

  pub no_level : (left : ℕ) (l : List Token) → left ≡ 0 → read_init size left l ≡ deep l
  unfolding read_init
  no_level left l none = ap (λ n. read_init size n l) none

  opened_suc : (left : ℕ) (l : List Token) → read_init size (suc left) l ≡ choose (is_mark (codes "{")) (read_list size left (read_init size left)) (value_reader (suc left)) l
  unfolding read_init
  opened_suc left l = refl

  opened : (left inner : ℕ) (l : List Token) → 0 < left → inner ≡ left - 1 → read_init size left l ≡ choose (is_mark (codes "{")) (read_list size inner (read_init size inner)) (value_reader left) l
  opened left inner l some is =
      let whole : left ≡ suc inner = omega arith in
      ap (λ n. read_init size n l) whole ∙ opened_suc inner l ∙ ap (λ n. choose (is_mark (codes "{")) (read_list size inner (read_init size inner)) (value_reader n) l) (sym whole)

  pub braced : (left other inner : ℕ) (l : List Token) → 0 < left → other ≡ size → inner ≡ left - 1 → sees (is_mark (codes "{")) l ≡ true → read_init size left l ≡ read_list other inner (read_init other inner) l
  braced left other inner l some same is see = opened left inner l some is ∙ chosen _ _ _ l see ∙ ap (λ n. read_list n inner (read_init n inner) l) (sym same)

  pub valued : (left : ℕ) (l : List Token) → 0 < left → sees (is_mark (codes "{")) l ≡ false → read_init size left l ≡ after ((readers_at size left).expr l) (λ value. give (init.Expression value))
  valued left l some none = opened left (left - 1) l some refl ∙ passed _ _ _ l none

-- ---- after the type of a first parameter

module _ (size left : ℕ) (l mid : List Token) (specs : Specifiers) (some : sees (is_mark (codes ")")) l ≡ false) (is : (readers_at size left).specs l ≡ good specs mid) where
  typed : (void : Option Place) → void_of specs ≡ void → read_parameters size left l ≡ read_parameters_after size left specs void mid
  unfolding read_parameters
  typed void found =
      passed _ _ _ l some ∙ ap (λ answer. after answer (λ specs. read_parameters_after size left specs (void_of specs))) is ∙ ap (λ v. read_parameters_after size left specs v mid) found

  pub void_alone : (place : Place) → void_of specs ≡ Some place → sees (is_mark (codes ")")) mid ≡ true → read_parameters size left l ≡ good (parameters.Void place) mid
  void_alone place found see = typed (Some place) found ∙ chosen _ _ _ mid see

  pub void_first : (place : Place) → void_of specs ≡ Some place → sees (is_mark (codes ")")) mid ≡ false → read_parameters size left l ≡ read_parameters_of size left specs mid
  void_first place found none = typed (Some place) found ∙ passed _ _ _ mid none

  pub typed_first : void_of specs ≡ None → read_parameters size left l ≡ read_parameters_of size left specs mid
  typed_first found = typed None found
