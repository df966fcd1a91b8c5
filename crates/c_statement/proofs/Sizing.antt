-- The readers of statements answer alike for all numbers of tokens that a list may have, as long as it has no more.
use Rattle.std.proofs.Common.{◌≤◌, ℕ, zero, suc, Bool, List, Option, Some, None, codes}
use Rattle.c_tree.specs.declared.token.Place.{Place}
use Rattle.c_tree.specs.declared.token.Token.{Token}
use Rattle.c_tree.specs.declared.expressions.Expr.{Expr}
use Rattle.c_tree.specs.declared.expressions.Specifiers.{Specifiers}
use Rattle.c_tree.specs.declared.expressions.TagSpecifier.{TagSpecifier}
use Rattle.c_tree.specs.declared.statements.LoopBound.{LoopBound}
use Rattle.c_tree.specs.declared.statements.Statement.{Statement}
use Rattle.c_reader.specs.Reading.{Reader, take_as}
use Rattle.c_grammar.specs.Levels.{readers_at}
use Rattle.c_reader.proofs.Shrinking.{Like, like_give, like_deep, like_take, then_some, then_any, then_last, like_any, like_choose}
use Rattle.c_grammar.proofs.Sizing.{many_like, all_like}
use Rattle.c_decl.specs.Bare.{tag_of}
use Rattle.c_decl.proofs.Sizing.{simple_like, objects_like, objects_of_like}
use Rattle.c_statement.specs.Statements.{read_empty, read_simple_statement, read_break, read_continue, read_unless, read_return, read_condition, read_else, read_otherwise, read_if, read_case, read_default, read_label, read_section, read_switch}
use Rattle.c_statement.specs.Loops.{read_bound, read_while, read_do, read_first, read_step, read_for, read_for_first, read_for_condition, read_for_step, read_loop_after, read_loop}
use Rattle.c_statement.specs.Blocks.{read_part_objects, read_part_tag, read_part_after, read_declaration, read_part, read_braces, read_statement_by}
use Rattle.c_statement.specs.Levels.{read_statement, read_block}

module _ (k s t : ℕ) (enough : k ≤ s) (also : k ≤ t) where
  take : {A : Type 0} (test : Token → Bool) (value : Token → A) (left : ℕ) → Like k 1 (take_as test value left) (take_as test value left)
  take test value left = like_take k test value left

  expr_any : (left : ℕ) → Like k 0 (readers_at s left).expr (readers_at t left).expr
  expr_any left = like_any k _ _ (all_like k s t enough also left).expr

  specs_some : (left : ℕ) → Like k 1 (readers_at s left).specs (readers_at t left).specs
  specs_some left = (all_like k s t enough also left).specs

  marked : {A : Type 0} (test : Token → Bool) (value : Token → A) (left : ℕ) → Like k 0 (take_as test value left) (take_as test value left)
  marked test value left = like_any k _ _ (take test value left)

  -- ---- statements

  empty_like : (left : ℕ) → Like k 1 (read_empty left) (read_empty left)
  unfolding read_empty
  empty_like left = then_some k _ _ _ _ (take _ _ left) (λ place. like_give k _)

  simple_statement_like : (left : ℕ) → Like k 1 (read_simple_statement s left) (read_simple_statement t left)
  unfolding read_simple_statement
  simple_statement_like left = then_some k _ _ _ _ (simple_like k s t enough also left) (λ value. then_any k _ _ _ _ (marked _ _ left) (λ closing. like_give k _))

  break_like : (left : ℕ) → Like k 1 (read_break left) (read_break left)
  unfolding read_break
  break_like left = then_some k _ _ _ _ (take _ _ left) (λ place. then_any k _ _ _ _ (marked _ _ left) (λ closing. like_give k _))

  continue_like : (left : ℕ) → Like k 1 (read_continue left) (read_continue left)
  unfolding read_continue
  continue_like left = then_some k _ _ _ _ (take _ _ left) (λ place. then_any k _ _ _ _ (marked _ _ left) (λ closing. like_give k _))

  unless_like : (text : List ℕ) (left : ℕ) → Like k 0 (read_unless text s left) (read_unless text t left)
  unfolding read_unless
  unless_like text left = like_choose k 0 _ _ _ _ _ (like_give k None) (then_any k _ _ _ _ (expr_any left) (λ value. like_give k _))

  return_like : (left : ℕ) → Like k 1 (read_return s left) (read_return t left)
  unfolding read_return
  return_like left = then_some k _ _ _ _ (take _ _ left) (λ place. then_any k _ _ _ _ (unless_like (codes ";") left) (λ value. then_any k _ _ _ _ (marked _ _ left) (λ closing. like_give k _)))

  condition_like : (left : ℕ) → Like k 1 (read_condition s left) (read_condition t left)
  unfolding read_condition
  condition_like left = then_some k _ _ _ _ (take _ _ left) (λ opening. then_any k _ _ _ _ (expr_any left) (λ value. then_any k _ _ _ _ (marked _ _ left) (λ closing. like_give k _)))

  case_like : (left : ℕ) → Like k 1 (read_case s left) (read_case t left)
  unfolding read_case
  case_like left = then_some k _ _ _ _ (take _ _ left) (λ place. then_any k _ _ _ _ (expr_any left) (λ value. then_any k _ _ _ _ (marked _ _ left) (λ colon. like_give k _)))

  default_like : (left : ℕ) → Like k 1 (read_default left) (read_default left)
  unfolding read_default
  default_like left = then_some k _ _ _ _ (take _ _ left) (λ place. then_any k _ _ _ _ (marked _ _ left) (λ colon. like_give k _))

  label_like : (left : ℕ) → Like k 1 (read_label s left) (read_label t left)
  unfolding read_label
  label_like left = like_choose k 1 _ _ _ _ _ (case_like left) (default_like left)

  bound_like : (left : ℕ) → Like k 0 (read_bound left) (read_bound left)
  unfolding read_bound
  bound_like left = like_choose k 0 _ _ _ _ _ (then_any k _ _ _ _ (marked _ _ left) (λ bound. like_give k _)) (like_give k None)

  first_like : (left : ℕ) → Like k 0 (read_first s left) (read_first t left)
  unfolding read_first
  first_like left =
      like_choose k 0 _ _ _ _ _ (like_give k _)
      (like_choose k 0 _ _ _ _ _ (then_any k _ _ _ _ (like_any k _ _ (objects_like k s t enough also left)) (λ objects. like_give k _)) (then_any k _ _ _ _ (like_any k _ _ (simple_like k s t enough also left)) (λ value. like_give k _)))

  step_like : (left : ℕ) → Like k 0 (read_step s left) (read_step t left)
  unfolding read_step
  step_like left = like_choose k 0 _ _ _ _ _ (like_give k None) (then_any k _ _ _ _ (like_any k _ _ (simple_like k s t enough also left)) (λ value. like_give k _))

  part_objects_like : (left : ℕ) (specs : Specifiers) → Like k 0 (read_part_objects s left specs) (read_part_objects t left specs)
  unfolding read_part_objects
  part_objects_like left specs = then_any k _ _ _ _ (like_any k _ _ (objects_of_like k s t enough also left specs)) (λ objects. then_any k _ _ _ _ (marked _ _ left) (λ closing. like_give k _))

  part_following_like : (left : ℕ) (specs : Specifiers) (tag : Option TagSpecifier) → Like k 0 (read_part_after s left specs tag) (read_part_after t left specs tag)
  unfolding read_part_after read_part_tag
  part_following_like left specs None = part_objects_like left specs
  part_following_like left specs (Some tag) = like_choose k 0 _ _ _ _ _ (then_any k _ _ _ _ (marked _ _ left) (λ closing. like_give k _)) (part_objects_like left specs)

  declaration_like : (left : ℕ) → Like k 1 (read_declaration s left) (read_declaration t left)
  unfolding read_declaration
  declaration_like left = then_some k _ _ _ _ (specs_some left) (λ specs. part_following_like left specs (tag_of specs))

  module _ (left : ℕ) (f f' : Reader Statement) (F : Like k 1 f f') where
    otherwise_like : (place : Place) (condition : Expr) (then : Statement) → Like k 0 (read_otherwise left f place condition then) (read_otherwise left f' place condition then)
    unfolding read_otherwise read_else
    otherwise_like place condition then = like_choose k 0 _ _ _ _ _ (then_any k _ _ _ _ (marked _ _ left) (λ word. then_any k _ _ _ _ (like_any k _ _ F) (λ otherwise. like_give k _))) (like_give k _)

    if_like : Like k 1 (read_if s left f) (read_if t left f')
    unfolding read_if
    if_like = then_some k _ _ _ _ (take _ _ left) (λ place. then_any k _ _ _ _ (like_any k _ _ (condition_like left)) (λ condition. then_any k _ _ _ _ (like_any k _ _ F) (λ then. otherwise_like place condition then)))

    section_like : Like k 1 (read_section s left f) (read_section t left f')
    unfolding read_section
    section_like =
        then_some k _ _ _ _ (label_like left)
        (λ first. then_any k _ _ _ _ (many_like k s t enough also _ _ _ (label_like left)) (λ labels. then_any k _ _ _ _ (like_any k _ _ F) (λ statement. then_any k _ _ _ _ (many_like k s t enough also _ _ _ F) (λ statements. like_give k _))))

    switch_like : Like k 1 (read_switch s left f) (read_switch t left f')
    unfolding read_switch
    switch_like =
        then_some k _ _ _ _ (take _ _ left)
        (λ place. then_any k _ _ _ _ (like_any k _ _ (condition_like left))
        (λ value. then_any k _ _ _ _ (marked _ _ left) (λ opening. then_any k _ _ _ _ (many_like k s t enough also _ _ _ section_like) (λ sections. then_any k _ _ _ _ (marked _ _ left) (λ closing. like_give k _)))))

    while_like : (bound : Option LoopBound) → Like k 1 (read_while s left f bound) (read_while t left f' bound)
    unfolding read_while
    while_like bound = then_some k _ _ _ _ (take _ _ left) (λ place. then_any k _ _ _ _ (like_any k _ _ (condition_like left)) (λ condition. then_any k _ _ _ _ (like_any k _ _ F) (λ body. like_give k _)))

    do_like : (bound : Option LoopBound) → Like k 1 (read_do s left f bound) (read_do t left f' bound)
    unfolding read_do
    do_like bound =
        then_some k _ _ _ _ (take _ _ left)
        (λ place. then_any k _ _ _ _ (like_any k _ _ F) (λ body. then_any k _ _ _ _ (marked _ _ left) (λ word. then_any k _ _ _ _ (like_any k _ _ (condition_like left)) (λ condition. then_any k _ _ _ _ (marked _ _ left) (λ closing. like_give k _)))))

    for_like : (bound : Option LoopBound) → Like k 1 (read_for s left f bound) (read_for t left f' bound)
    unfolding read_for read_for_first read_for_condition read_for_step
    for_like bound =
        then_some k _ _ _ _ (take _ _ left)
        (λ place. then_any k _ _ _ _ (marked _ _ left)
        (λ opening. then_any k _ _ _ _ (first_like left)
        (λ initial. then_any k _ _ _ _ (marked _ _ left)
        (λ second. then_any k _ _ _ _ (unless_like (codes ";") left)
        (λ condition. then_any k _ _ _ _ (marked _ _ left)
        (λ third. then_any k _ _ _ _ (step_like left)
        (λ step. then_any k _ _ _ _ (marked _ _ left) (λ closing. then_any k _ _ _ _ (like_any k _ _ F) (λ body. like_give k _)))))))))

    loop_following_like : (bound : Option LoopBound) → Like k 1 (read_loop_after s left f bound) (read_loop_after t left f' bound)
    unfolding read_loop_after
    loop_following_like bound = like_choose k 1 _ _ _ _ _ (while_like bound) (like_choose k 1 _ _ _ _ _ (do_like bound) (for_like bound))

    loop_like : Like k 1 (read_loop s left f) (read_loop t left f')
    unfolding read_loop
    loop_like = then_last k _ _ _ _ (bound_like left) loop_following_like

    part_like : Like k 1 (read_part s left f) (read_part t left f')
    unfolding read_part
    part_like = like_choose k 1 _ _ _ _ _ (declaration_like left) (then_some k _ _ _ _ F (λ value. like_give k _))

    braces_like : Like k 1 (read_braces s left f) (read_braces t left f')
    unfolding read_braces
    braces_like = then_some k _ _ _ _ (take _ _ left) (λ place. then_any k _ _ _ _ (many_like k s t enough also _ _ _ part_like) (λ parts. then_any k _ _ _ _ (marked _ _ left) (λ closing. like_give k _)))

    statement_by_like : Like k 1 (read_statement_by s left f) (read_statement_by t left f')
    unfolding read_statement_by
    statement_by_like =
        like_choose k 1 _ _ _ _ _ (then_some k _ _ _ _ braces_like (λ block. like_give k _))
        (like_choose k 1 _ _ _ _ _ (empty_like left)
        (like_choose k 1 _ _ _ _ _ (break_like left)
        (like_choose k 1 _ _ _ _ _ (continue_like left)
        (like_choose k 1 _ _ _ _ _ (return_like left)
        (like_choose k 1 _ _ _ _ _ if_like (like_choose k 1 _ _ _ _ _ switch_like (like_choose k 1 _ _ _ _ _ loop_like (simple_statement_like left))))))))

  statement_like : (left : ℕ) → Like k 1 (read_statement s left) (read_statement t left)
  unfolding read_statement
  statement_like zero = like_deep k 1
  statement_like (suc left) = statement_by_like left _ _ (statement_like left)

  pub block_like : (left : ℕ) → Like k 1 (read_block s left) (read_block t left)
  unfolding read_block
  block_like zero = like_deep k 1
  block_like (suc left) = braces_like left _ _ (statement_like left)
