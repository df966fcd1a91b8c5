-- What the code needs of the readers of statements.
use Rattle.std.proofs.Common.{◌≡◌, ◌<◌, ℕ, zero, suc, ◌-◌, Bool, true, false, ◌&&◌, not, if◌then◌else◌, Option, Some, None, codes, List, [], ◌∷◌, refl, ap, ◌∙◌, arith}
use Rattle.c_tree.specs.declared.token.Token.{Token}
use Rattle.c_tree.specs.declared.token.Place.{Place}
use Rattle.c_tree.specs.declared.expressions.Expr.{Expr}
use Rattle.c_tree.specs.declared.expressions.Specifiers.{Specifiers}
use Rattle.c_tree.specs.declared.expressions.TagSpecifier.{TagSpecifier}
use Rattle.c_tree.specs.declared.statements.Statement.{Statement}
use Rattle.c_reader.specs.Outcome.{sees}
use Rattle.c_reader.specs.Reading.{Reader, choose, good, deep}
use Rattle.c_reader.specs.Tokens.{is_mark, is_word}
use Rattle.c_reader.proofs.Gathering.{choose_sees}
use Rattle.c_tree.specs.StatementFolds.{form_of_statement, if_statement}
use Rattle.c_statement.specs.Levels.{read_block, read_statement}
use Rattle.c_statement.specs.Blocks.{read_braces, read_statement_by, read_part_after, read_part_objects, read_part_tag}
use Rattle.c_statement.specs.Loops.{read_loop}
use Rattle.c_statement.specs.Starts.{starts_loop}
use Rattle.c_statement.specs.Statements.{is_else_after, read_else, read_otherwise, read_simple_statement}

-- an else is looked for after a closed statement alone
pub sees_and : (b : Bool) (test : Token → Bool) (l : List Token) → sees (λ t. b && test t) l ≡ (b && sees test l)
unfolding sees
sees_and true test [] = refl
sees_and false test [] = refl
sees_and true test (t ∷ l) = refl
sees_and false test (t ∷ l) = refl

without_else : {A : Type 0} (open_ else_ : Bool) (taken_ left_ : A) → (if (not open_ && else_) then taken_ else left_) ≡ (if open_ then left_ else (if else_ then taken_ else left_))
without_else true else_ taken_ left_ = refl
without_else false true taken_ left_ = refl
without_else false false taken_ left_ = refl

otherwise_is : (left : ℕ) (read : Reader Statement) (place : Place) (condition : Expr) (first : Statement) (l : List Token)
    → read_otherwise left read place condition first l ≡ (if (form_of_statement first).open_ then good (if_statement place condition first None) l else (if sees (is_word (codes "else")) l then read_else left read place condition first l else good (if_statement place condition first None) l))
unfolding read_otherwise
otherwise_is left read place condition first l =
    choose_sees (is_else_after first) _ _ l ∙ rw (sees_and (not (form_of_statement first).open_) (is_word (codes "else")) l) (without_else (form_of_statement first).open_ (sees (is_word (codes "else")) l) _ _)

pub otherwise_open : (left : ℕ) (read : Reader Statement) (place : Place) (condition : Expr) (first : Statement) (l : List Token) → (form_of_statement first).open_ ≡ true
    → read_otherwise left read place condition first l ≡ good (if_statement place condition first None) l
otherwise_open left read place condition first l open_ = otherwise_is left read place condition first l ∙ rw open_ refl

pub otherwise_else : (left : ℕ) (read : Reader Statement) (place : Place) (condition : Expr) (first : Statement) (l : List Token) → (form_of_statement first).open_ ≡ false → sees (is_word (codes "else")) l ≡ true
    → read_otherwise left read place condition first l ≡ read_else left read place condition first l
otherwise_else left read place condition first l open_ is = otherwise_is left read place condition first l ∙ rw (open_, is) refl

pub otherwise_none : (left : ℕ) (read : Reader Statement) (place : Place) (condition : Expr) (first : Statement) (l : List Token) → (form_of_statement first).open_ ≡ false → sees (is_word (codes "else")) l ≡ false
    → read_otherwise left read place condition first l ≡ good (if_statement place condition first None) l
otherwise_none left read place condition first l open_ is = otherwise_is left read place condition first l ∙ rw (open_, is) refl

-- where a level is left, what is nested is read with one less
pub statement_none : (size n : ℕ) (l : List Token) → n ≡ 0 → read_statement size n l ≡ deep l
unfolding read_statement
statement_none size n l none = rw none refl

pub statement_at : (size n : ℕ) (l : List Token) → 0 < n → read_statement size n l ≡ read_statement_by size (n - 1) (read_statement size (n - 1)) l
unfolding read_statement
statement_at size zero l some = absurd (omega (arith, some))
statement_at size (suc n) l some = let e : n ≡ suc n - 1 = omega arith in ap (λ m. read_statement_by size m (read_statement size m) l) e

pub block_none : (size n : ℕ) (l : List Token) → n ≡ 0 → read_block size n l ≡ deep l
unfolding read_block
block_none size n l none = rw none refl

pub block_at : (size n : ℕ) (l : List Token) → 0 < n → read_block size n l ≡ read_braces size (n - 1) (read_statement size (n - 1)) l
unfolding read_block
block_at size zero l some = absurd (omega (arith, some))
block_at size (suc n) l some = let e : n ≡ suc n - 1 = omega arith in ap (λ m. read_braces size m (read_statement size m) l) e

-- a statement that begins with none of the other marks and words
module _ (size left : ℕ) (read : Reader Statement) (l : List Token) (brace : sees (is_mark (codes "{")) l ≡ false) (end_ : sees (is_mark (codes ";")) l ≡ false) (break_ : sees (is_word (codes "break")) l ≡ false) (continue_ : sees (is_word (codes "continue")) l ≡ false)
    (return_ : sees (is_word (codes "return")) l ≡ false) (if_ : sees (is_word (codes "if")) l ≡ false) (switch_ : sees (is_word (codes "switch")) l ≡ false) where
  other : read_statement_by size left read l ≡ choose starts_loop (read_loop size left read) (read_simple_statement size left) l
  unfolding read_statement_by
  other =
      choose_sees _ _ _ l ∙ rw brace (choose_sees _ _ _ l ∙ rw end_ (choose_sees _ _ _ l ∙ rw break_ (choose_sees _ _ _ l ∙ rw continue_
      (choose_sees _ _ _ l ∙ rw return_ (choose_sees _ _ _ l ∙ rw if_ (choose_sees _ _ _ l ∙ rw switch_ refl))))))

  pub statement_loop : sees starts_loop l ≡ true → read_statement_by size left read l ≡ read_loop size left read l
  statement_loop is = other ∙ choose_sees starts_loop _ _ l ∙ rw is refl

  pub statement_simple : sees starts_loop l ≡ false → read_statement_by size left read l ≡ read_simple_statement size left l
  statement_simple is = other ∙ choose_sees starts_loop _ _ l ∙ rw is refl

-- a declaration after its type
pub part_objects : (size left : ℕ) (specs : Specifiers) (found : Option TagSpecifier) (l : List Token) → sees (is_mark (codes ";")) l ≡ false → read_part_after size left specs found l ≡ read_part_objects size left specs l
unfolding read_part_after
part_objects size left specs None l is = refl
part_objects size left specs (Some tag) l is = choose_sees (is_mark (codes ";")) _ _ l ∙ rw is refl

pub part_tag : (size left : ℕ) (specs : Specifiers) (found : Option TagSpecifier) (tag : TagSpecifier) (l : List Token) → found ≡ Some tag → sees (is_mark (codes ";")) l ≡ true → read_part_after size left specs found l ≡ read_part_tag left tag l
unfolding read_part_after
part_tag size left specs found tag l e is = rw e (choose_sees (is_mark (codes ";")) _ _ l ∙ rw is refl)

pub part_other : (size left : ℕ) (specs same : Specifiers) (found : Option TagSpecifier) (l : List Token) → same ≡ specs → found ≡ None → read_part_after size left specs found l ≡ read_part_objects size left same l
unfolding read_part_after
part_other size left specs same found l is e = rw (e, ← is) refl
