-- The readers of simple statements, declared objects and parameters answer alike for all numbers of tokens that a list may have, as
-- long as it has no more.
use Rattle.std.proofs.Common.{◌≤◌, ℕ, zero, suc, ◌-◌, Bool, true, false, Option, Some, None, if◌then◌else◌, codes}
use Rattle.c_tree.specs.Folds.{is_call}
use Rattle.c_tree.specs.declared.token.Place.{Place}
use Rattle.c_tree.specs.declared.expressions.Expr.{Expr}
use Rattle.c_tree.specs.declared.expressions.Identifier.{Identifier}
use Rattle.c_tree.specs.declared.expressions.Specifiers.{Specifiers}
use Rattle.c_tree.specs.declared.statements.Initializer.{Initializer}
use Rattle.c_tree.specs.declared.statements.Pointer.{Pointer}
use Rattle.c_tree.specs.declared.statements.ExpressionStatement.{ExpressionStatement}
use Rattle.c_tree.specs.declared.statements.ExpressionStatement.TheVariants as simple
use Rattle.c_reader.specs.Reading.{Reader, give, choose}
use Rattle.c_reader.proofs.Shrinking.{Like, like_give, like_deep, like_take, then_some, then_any, then_last, like_any, like_choose}
use Rattle.c_grammar.proofs.Sizing.{many_like, more_like, dimensions_like, all_like}
use Rattle.c_decl.specs.Bare.{void_of}
use Rattle.c_decl.specs.Marks.{is_assign, is_step}
use Rattle.c_decl.specs.ExpressionStatements.{is_postfix, read_assigned, read_stepped, read_simple_after, read_before, read_simple}
use Rattle.c_decl.specs.Declarations.{read_constant, read_star, read_pointer, starts_init, read_list, read_init, read_started, read_start, read_bounds, read_declarator_after, read_declarator, read_objects_after, read_objects_of, read_objects}
use Rattle.c_decl.specs.Parameters.{read_parameter_of, read_parameter, read_parameters_of, read_parameters_after, read_parameters}

module _ (k s t : ℕ) (enough : k ≤ s) (also : k ≤ t) where
  -- ---- simple statements

  assigned_like : (left : ℕ) (target : Expr) → Like k 1 (read_assigned s left target) (read_assigned t left target)
  unfolding read_assigned
  assigned_like left target = then_some k _ _ _ _ (like_take k _ _ left) (λ mark. then_any k _ _ _ _ (like_any k _ _ (all_like k s t enough also left).expr) (λ value. like_give k _))

  stepped_like : (left : ℕ) (target : Expr) → Like k 1 (read_stepped left target) (read_stepped left target)
  unfolding read_stepped
  stepped_like left target = then_some k _ _ _ _ (like_take k _ _ left) (λ mark. like_give k _)

  abbrev following_by : ℕ → ℕ → Expr → Bool → Bool → Reader ExpressionStatement
  following_by size left target call postfix =
      if call then choose is_assign (read_assigned size left target) (choose is_step (read_stepped left target) (give (simple.Call target)))
      else (if postfix then choose is_step (read_stepped left target) (read_assigned size left target) else read_assigned size left target)

  following_by_like : (left : ℕ) (target : Expr) (call postfix : Bool) → Like k 0 (following_by s left target call postfix) (following_by t left target call postfix)
  following_by_like left target true postfix =
      like_choose k 0 _ _ _ _ _ (like_any k _ _ (assigned_like left target)) (like_choose k 0 _ _ _ _ _ (like_any k _ _ (stepped_like left target)) (like_give k _))
  following_by_like left target false true = like_any k _ _ (like_choose k 1 _ _ _ _ _ (stepped_like left target) (assigned_like left target))
  following_by_like left target false false = like_any k _ _ (assigned_like left target)

  simple_following_like : (left : ℕ) (target : Expr) → Like k 0 (read_simple_after s left target) (read_simple_after t left target)
  unfolding read_simple_after
  simple_following_like left target = following_by_like left target (is_call target) (is_postfix target)

  before_like : (left : ℕ) → Like k 1 (read_before s left) (read_before t left)
  unfolding read_before
  before_like left = then_some k _ _ _ _ (like_take k _ _ left) (λ mark. then_any k _ _ _ _ (like_any k _ _ (all_like k s t enough also (left - 1)).unary) (λ target. like_give k _))

  pub simple_like : (left : ℕ) → Like k 1 (read_simple s left) (read_simple t left)
  unfolding read_simple
  simple_like left = like_choose k 1 _ _ _ _ _ (before_like left) (then_some k _ _ _ _ (all_like k s t enough also left).unary (simple_following_like left))

  -- ---- pointers and initialisers

  constant_like : (left : ℕ) → Like k 0 (read_constant left) (read_constant left)
  unfolding read_constant
  constant_like left = like_choose k 0 _ _ _ _ _ (then_any k _ _ _ _ (like_any k _ _ (like_take k _ _ left)) (λ place. like_give k _)) (like_give k None)

  star_like : (left : ℕ) → Like k 1 (read_star left) (read_star left)
  unfolding read_star
  star_like left = then_some k _ _ _ _ (like_take k _ _ left) (λ place. then_any k _ _ _ _ (constant_like left) (λ constant. like_give k _))

  pub pointer_like : (left : ℕ) → Like k 0 (read_pointer left) (read_pointer left)
  unfolding read_pointer
  pointer_like left = like_choose k 0 _ _ _ _ _ (like_any k _ _ (star_like left)) (like_give k None)

  list_like : (left : ℕ) (f f' : Reader Initializer) → Like k 1 f f' → Like k 1 (read_list s left f) (read_list t left f')
  unfolding read_list
  list_like left f f' F =
      then_some k _ _ _ _ (like_take k _ _ left)
      (λ place. then_any k _ _ _ _ (like_any k _ _ F) (λ first. then_any k _ _ _ _ (more_like k s t enough also (codes ",") starts_init left f f' F) (λ rest. then_any k _ _ _ _ (like_any k _ _ (like_take k _ _ left)) (λ closing. like_give k _))))

  init_like : (left : ℕ) → Like k 1 (read_init s left) (read_init t left)
  unfolding read_init
  init_like zero = like_deep k 1
  init_like (suc left) = like_choose k 1 _ _ _ _ _ (list_like left _ _ (init_like left)) (then_some k _ _ _ _ (all_like k s t enough also (suc left)).expr (λ value. like_give k _))

  started_like : (left : ℕ) → Like k 1 (read_started s left) (read_started t left)
  unfolding read_started
  started_like left = then_some k _ _ _ _ (like_take k _ _ left) (λ place. then_any k _ _ _ _ (like_any k _ _ (init_like left)) (λ value. like_give k _))

  start_like : (left : ℕ) → Like k 0 (read_start s left) (read_start t left)
  unfolding read_start
  start_like left = like_choose k 0 _ _ _ _ _ (like_any k _ _ (started_like left)) (like_give k None)

  -- ---- declared objects

  pub bounds_like : (left : ℕ) → Like k 0 (read_bounds s left) (read_bounds t left)
  bounds_like left = dimensions_like k s t enough also left _ _ (all_like k s t enough also left).expr

  declarator_following_like : (left : ℕ) (pointer : Option Pointer) (name : Identifier) → Like k 0 (read_declarator_after s left pointer name) (read_declarator_after t left pointer name)
  unfolding read_declarator_after
  declarator_following_like left pointer name = then_any k _ _ _ _ (bounds_like left) (λ dimensions. then_any k _ _ _ _ (start_like left) (λ start. like_give k _))

  declarator_like : (left : ℕ) → Like k 1 (read_declarator s left) (read_declarator t left)
  unfolding read_declarator
  declarator_like left = then_last k _ _ _ _ (pointer_like left) (λ pointer. then_some k _ _ _ _ (like_take k _ _ left) (declarator_following_like left pointer))

  pub objects_following_like : (left : ℕ) (specs : Specifiers) (pointer : Option Pointer) (name : Identifier) → Like k 0 (read_objects_after s left specs pointer name) (read_objects_after t left specs pointer name)
  unfolding read_objects_after
  objects_following_like left specs pointer name =
      then_any k _ _ _ _ (declarator_following_like left pointer name)
      (λ first. then_any k _ _ _ _ (many_like k s t enough also _ _ _ (then_some k _ _ _ _ (like_take k _ _ left) (λ comma. like_any k _ _ (declarator_like left)))) (λ rest. like_give k _))

  pub objects_of_like : (left : ℕ) (specs : Specifiers) → Like k 1 (read_objects_of s left specs) (read_objects_of t left specs)
  unfolding read_objects_of
  objects_of_like left specs = then_last k _ _ _ _ (pointer_like left) (λ pointer. then_some k _ _ _ _ (like_take k _ _ left) (objects_following_like left specs pointer))

  pub objects_like : (left : ℕ) → Like k 1 (read_objects s left) (read_objects t left)
  unfolding read_objects
  objects_like left = then_some k _ _ _ _ (all_like k s t enough also left).specs (λ specs. like_any k _ _ (objects_of_like left specs))

  -- ---- parameters

  parameter_of_like : (left : ℕ) (specs : Specifiers) → Like k 1 (read_parameter_of s left specs) (read_parameter_of t left specs)
  unfolding read_parameter_of
  parameter_of_like left specs =
      then_last k _ _ _ _ (pointer_like left) (λ pointer. then_some k _ _ _ _ (like_take k _ _ left) (λ name. then_any k _ _ _ _ (bounds_like left) (λ dimensions. like_give k _)))

  parameter_like : (left : ℕ) → Like k 1 (read_parameter s left) (read_parameter t left)
  unfolding read_parameter
  parameter_like left = then_some k _ _ _ _ (all_like k s t enough also left).specs (λ specs. like_any k _ _ (parameter_of_like left specs))

  parameters_of_like : (left : ℕ) (specs : Specifiers) → Like k 1 (read_parameters_of s left specs) (read_parameters_of t left specs)
  unfolding read_parameters_of
  parameters_of_like left specs =
      then_some k _ _ _ _ (parameter_of_like left specs)
      (λ first. then_any k _ _ _ _ (many_like k s t enough also _ _ _ (then_some k _ _ _ _ (like_take k _ _ left) (λ comma. like_any k _ _ (parameter_like left)))) (λ rest. like_give k _))

  parameters_following_like : (left : ℕ) (specs : Specifiers) (void : Option Place) → Like k 0 (read_parameters_after s left specs void) (read_parameters_after t left specs void)
  parameters_following_like left specs None = like_any k _ _ (parameters_of_like left specs)
  parameters_following_like left specs (Some place) = like_choose k 0 _ _ _ _ _ (like_give k _) (like_any k _ _ (parameters_of_like left specs))

  pub parameters_like : (left : ℕ) → Like k 0 (read_parameters s left) (read_parameters t left)
  unfolding read_parameters
  parameters_like left =
      like_choose k 0 _ _ _ _ _ (like_give k _) (then_any k _ _ _ _ (like_any k _ _ (all_like k s t enough also left).specs) (λ specs. parameters_following_like left specs (void_of specs)))
