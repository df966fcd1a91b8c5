-- The readers of external declarations and programs answer alike for all numbers of tokens that a list may have, as long as it has no more.
use Rattle.std.proofs.Common.{◌≤◌, ℕ, Bool, Option, Some, None}
use Rattle.c_tree.specs.declared.token.Place.{Place}
use Rattle.c_tree.specs.declared.token.Token.{Token}
use Rattle.c_tree.specs.declared.expressions.Identifier.{Identifier}
use Rattle.c_tree.specs.declared.expressions.Specifiers.{Specifiers}
use Rattle.c_tree.specs.declared.expressions.TagSpecifier.{TagSpecifier}
use Rattle.c_tree.specs.declared.statements.Pointer.{Pointer}
use Rattle.c_tree.specs.declared.programs.FunctionSpecifiers.{FunctionSpecifiers}
use Rattle.c_reader.specs.Reading.{take_as}
use Rattle.c_grammar.specs.Levels.{readers_at}
use Rattle.c_reader.proofs.Shrinking.{Like, like_give, like_take, then_some, then_any, like_any, like_choose}
use Rattle.c_grammar.proofs.Sizing.{many_like, all_like}
use Rattle.c_decl.specs.Bare.{tag_of}
use Rattle.c_decl.proofs.Sizing.{pointer_like, bounds_like, objects_following_like, parameters_like}
use Rattle.c_syntax.specs.Items.{read_typedef, read_ended_dimensions, read_function_after, read_head, read_function_of, read_inlines, read_fixed, read_inlined, read_item_objects, read_item_after, read_item_of, read_static_inlined, read_static, read_item_tag, read_plain_after, read_plain, read_item, read_end, read_program}
use Rattle.c_statement.proofs.Sizing.{block_like}

module _ (k s t : ℕ) (enough : k ≤ s) (also : k ≤ t) where
  take : {A : Type 0} (test : Token → Bool) (value : Token → A) (left : ℕ) → Like k 1 (take_as test value left) (take_as test value left)
  take test value left = like_take k test value left

  expr_any : (left : ℕ) → Like k 0 (readers_at s left).expr (readers_at t left).expr
  expr_any left = like_any k _ _ (all_like k s t enough also left).expr

  specs_some : (left : ℕ) → Like k 1 (readers_at s left).specs (readers_at t left).specs
  specs_some left = (all_like k s t enough also left).specs

  marked : {A : Type 0} (test : Token → Bool) (value : Token → A) (left : ℕ) → Like k 0 (take_as test value left) (take_as test value left)
  marked test value left = like_any k _ _ (take test value left)

  -- ---- items

  typedef_like : (left : ℕ) → Like k 1 (read_typedef s left) (read_typedef t left)
  unfolding read_typedef read_ended_dimensions
  typedef_like left =
      then_some k _ _ _ _ (take _ _ left)
      (λ place. then_any k _ _ _ _ (like_any k _ _ (specs_some left)) (λ specs. then_any k _ _ _ _ (marked _ _ left) (λ name. then_any k _ _ _ _ (bounds_like k s t enough also left) (λ dimensions. then_any k _ _ _ _ (marked _ _ left) (λ closing. like_give k _)))))

  function_following_like : (left : ℕ) (words : FunctionSpecifiers) (specs : Specifiers) (name : Identifier) → Like k 1 (read_function_after s left words specs name) (read_function_after t left words specs name)
  unfolding read_function_after read_head
  function_following_like left words specs name =
      then_some k _ _ _ _ (take _ _ left)
      (λ opening. then_any k _ _ _ _ (parameters_like k s t enough also left) (λ parameters. then_any k _ _ _ _ (marked _ _ left) (λ closing. then_any k _ _ _ _ (like_any k _ _ (block_like k s t enough also left)) (λ body. like_give k _))))

  function_of_like : (left : ℕ) (words : FunctionSpecifiers) → Like k 1 (read_function_of s left words) (read_function_of t left words)
  unfolding read_function_of
  function_of_like left words = then_some k _ _ _ _ (specs_some left) (λ specs. then_any k _ _ _ _ (marked _ _ left) (λ name. like_any k _ _ (function_following_like left words specs name)))

  inlines_like : (left : ℕ) → Like k 0 (read_inlines s left) (read_inlines t left)
  unfolding read_inlines
  inlines_like left = many_like k s t enough also _ _ _ (take _ _ left)

  fixed_like : (left : ℕ) → Like k 1 (read_fixed s left) (read_fixed t left)
  unfolding read_fixed
  fixed_like left = then_some k _ _ _ _ (take _ _ left) (λ place. then_any k _ _ _ _ (inlines_like left) (λ inline. like_give k _))

  inlined_like : (left : ℕ) → Like k 1 (read_inlined s left) (read_inlined t left)
  unfolding read_inlined
  inlined_like left =
      then_some k _ _ _ _ (take _ _ left)
      (λ first. then_any k _ _ _ _ (inlines_like left) (λ rest. then_any k _ _ _ _ (like_choose k 0 _ _ _ _ _ (like_any k _ _ (fixed_like left)) (like_give k None)) (λ fixed. like_any k _ _ (function_of_like left _))))

  item_objects_like : (left : ℕ) (fixed : Option Place) (specs : Specifiers) (pointer : Option Pointer) (name : Identifier) → Like k 0 (read_item_objects s left fixed specs pointer name) (read_item_objects t left fixed specs pointer name)
  unfolding read_item_objects
  item_objects_like left fixed specs pointer name = then_any k _ _ _ _ (objects_following_like k s t enough also left specs pointer name) (λ objects. then_any k _ _ _ _ (marked _ _ left) (λ closing. like_give k _))

  item_following_like : (left : ℕ) (fixed : Option Place) (specs : Specifiers) (pointer : Option Pointer) (name : Identifier) → Like k 0 (read_item_after s left fixed specs pointer name) (read_item_after t left fixed specs pointer name)
  unfolding read_item_after
  item_following_like left fixed specs None name = like_choose k 0 _ _ _ _ _ (like_any k _ _ (function_following_like left _ specs name)) (item_objects_like left fixed specs None name)
  item_following_like left fixed specs (Some pointer) name = item_objects_like left fixed specs (Some pointer) name

  item_of_like : (left : ℕ) (fixed : Option Place) (specs : Specifiers) → Like k 0 (read_item_of s left fixed specs) (read_item_of t left fixed specs)
  unfolding read_item_of
  item_of_like left fixed specs = then_any k _ _ _ _ (pointer_like k s t enough also left) (λ pointer. then_any k _ _ _ _ (marked _ _ left) (λ name. item_following_like left fixed specs pointer name))

  static_like : (left : ℕ) → Like k 1 (read_static s left) (read_static t left)
  unfolding read_static read_static_inlined
  static_like left =
      then_some k _ _ _ _ (take _ _ left)
      (λ place. like_choose k 0 _ _ _ _ _ (then_any k _ _ _ _ (marked _ _ left) (λ first. then_any k _ _ _ _ (inlines_like left) (λ rest. like_any k _ _ (function_of_like left _))))
      (then_any k _ _ _ _ (like_any k _ _ (specs_some left)) (item_of_like left (Some place))))

  plain_following_like : (left : ℕ) (specs : Specifiers) (tag : Option TagSpecifier) → Like k 0 (read_plain_after s left specs tag) (read_plain_after t left specs tag)
  unfolding read_plain_after read_item_tag
  plain_following_like left specs None = item_of_like left None specs
  plain_following_like left specs (Some tag) = like_choose k 0 _ _ _ _ _ (then_any k _ _ _ _ (marked _ _ left) (λ closing. like_give k _)) (item_of_like left None specs)

  plain_like : (left : ℕ) → Like k 1 (read_plain s left) (read_plain t left)
  unfolding read_plain
  plain_like left = then_some k _ _ _ _ (specs_some left) (λ specs. plain_following_like left specs (tag_of specs))

  item_like : (left : ℕ) → Like k 1 (read_item s left) (read_item t left)
  unfolding read_item
  item_like left = like_choose k 1 _ _ _ _ _ (typedef_like left) (like_choose k 1 _ _ _ _ _ (inlined_like left) (like_choose k 1 _ _ _ _ _ (static_like left) (plain_like left)))

  pub program_like : (left : ℕ) → Like k 0 (read_program s left) (read_program t left)
  unfolding read_program read_end
  program_like left = then_any k _ _ _ _ (many_like k s t enough also _ _ _ (item_like left)) (λ items. then_any k _ _ _ _ (marked _ _ left) (λ end. like_give k _))
