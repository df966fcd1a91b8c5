-- The readers of expressions and of types answer alike for all numbers of tokens that a list may have, as long as it has no more.
use Rattle.std.proofs.Common.{◌≡◌, ◌≤◌, ℕ, zero, suc, Bool, List, [], ◌∷◌, None, refl, sym, subst, arith, codes}
use Rattle.c_tree.specs.TypeWords.{Counts, no_words, with_word}
use Rattle.c_tree.specs.declared.token.Place.{Place}
use Rattle.c_tree.specs.declared.token.Token.{Token}
use Rattle.c_tree.specs.declared.expressions.TrailingComma.TheVariants.{Absent, Present}
use Rattle.c_tree.specs.declared.token.TokenKind.TheVariants.{Name}
use Rattle.c_tree.specs.declared.expressions.Identifier.{Identifier}
use Rattle.c_tree.specs.declared.expressions.Expr.{Expr}
use Rattle.c_tree.specs.declared.expressions.Expr.TheVariants as expr
use Rattle.c_tree.specs.declared.expressions.Specifiers.{Specifiers}
use Rattle.c_reader.specs.Reading.{Reader, ◌>>=◌, give, take_as, choose, many}
use Rattle.c_reader.specs.Reading as reading
use Rattle.c_reader.specs.Tokens.{is_mark, is_kind}
use Rattle.c_grammar.specs.Tokens.{is_suffix, starts_type}
use Rattle.c_grammar.specs.Expressions.{Inner, read_arguments, read_call, read_named, read_literal, read_index, read_member, read_arrow, read_suffix, read_after, read_primary, read_cast, read_group, read_bracketed, read_prefixed, read_unary, read_operand, read_chain, read_branches, read_choice, read_expr}
use Rattle.c_reader.specs.Lists.{separated_by, read_more}
use Rattle.c_grammar.specs.Types.{agrees, read_words, read_type_words, read_size, read_dimension, read_dimensions, read_dimensioned, read_members_of, read_struct_body, read_struct_after, read_struct, read_value, read_enumerator, read_enum_body, read_enum_after, read_enum, read_tag, read_spelling, read_constants, read_specs}
use Rattle.c_grammar.specs.Levels.{readers_at}
use Rattle.c_reader.proofs.Shrinking.{Like, like_give, like_take, like_less, like_bind, then_some, then_any, then_last, like_any, like_choose, like_none, like_many}

module _ (k s t : ℕ) (enough : k ≤ s) (also : k ≤ t) where
  take : {A : Type 0} (test : Token → Bool) (value : Token → A) (left : ℕ) → Like k 1 (take_as test value left) (take_as test value left)
  take test value left = like_take k test value left

  pub many_like : {A : Type 0} (test : Token → Bool) (f f' : Reader A) → Like k 1 f f' → Like k 0 (many s test f) (many t test f')
  many_like test f f' F = like_many k test f f' F k s t (omega arith) enough also

  pub separated_like : {A : Type 0} (text : List ℕ) (left : ℕ) (f f' : Reader A) → Like k 1 f f' → Like k 1 (separated_by s text left f) (separated_by t text left f')
  unfolding separated_by
  separated_like text left f f' F =
      then_some k _ _ _ _ F (λ first. then_any k _ _ _ _ (many_like (is_mark text) _ _ (then_some k _ _ _ _ (take _ _ left) (λ u. like_any k _ _ F))) (λ rest. like_give k (first ∷ rest)))

  -- ---- lists that may end with a mark, and words

  module _ {A : Type 0} (text : List ℕ) (starts : Token → Bool) (left : ℕ) (f f' : Reader A) (F : Like k 1 f f') where
    more_none : (size : ℕ) (g : Reader A) → read_more size text starts left g [] ≡ reading.good ([], Absent) []
    unfolding read_more choose
    more_none zero g = refl
    more_none (suc size) g = refl

    more_at : (m a b : ℕ) → m ≤ k → m ≤ a → m ≤ b → Like m 0 (read_more a text starts left f) (read_more b text starts left f')
    unfolding read_more
    more_at zero a b low one two = like_none (read_more a text starts left f) (read_more b text starts left f') ([], Absent) (more_none a f) (more_none b f')
    more_at (suc m) zero b low one two = absurd (omega (arith, one))
    more_at (suc m) (suc a) zero low one two = absurd (omega (arith, two))
    more_at (suc m) (suc a) (suc b) low one two =
        like_choose (suc m) 0 (is_mark text) _ _ _ _
        (like_less (suc m) (suc m) 1 0 _ _ (omega arith) (omega arith)
        (like_bind (suc m) m 1 0 _ _ _ _ (like_take (suc m) _ _ left)
        (λ separator. like_choose m 0 starts _ _ _ _
        (then_any m _ _ _ _ (like_less k m 1 0 f f' (omega (arith, low)) (omega arith) F)
        (λ x. then_any m _ _ _ _ (more_at m a b (omega (arith, low)) (omega (arith, one)) (omega (arith, two))) (λ rest. like_give m (x ∷ rest.0, rest.1))))
        (like_give m ([], Present))) (omega arith)))
        (like_give (suc m) ([], Absent))

    pub more_like : Like k 0 (read_more s text starts left f) (read_more t text starts left f')
    more_like = more_at k s t (omega arith) enough also

  words_none : (left size : ℕ) (counts : Counts) → read_words size left counts [] ≡ reading.good [] []
  unfolding read_words choose
  words_none left zero counts = refl
  words_none left (suc size) counts = refl

  words_at : (left m a b : ℕ) (counts : Counts) → m ≤ a → m ≤ b → Like m 0 (read_words a left counts) (read_words b left counts)
  unfolding read_words
  words_at left zero a b counts one two = like_none (read_words a left counts) (read_words b left counts) [] (words_none left a counts) (words_none left b counts)
  words_at left (suc m) zero b counts one two = absurd (omega (arith, one))
  words_at left (suc m) (suc a) zero counts one two = absurd (omega (arith, two))
  words_at left (suc m) (suc a) (suc b) counts one two =
      like_choose (suc m) 0 (agrees counts) _ _ _ _
      (like_less (suc m) (suc m) 1 0 _ _ (omega arith) (omega arith)
      (like_bind (suc m) m 1 0 _ _ _ _ (like_take (suc m) _ _ left)
      (λ w. then_any m _ _ _ _ (words_at left m a b (with_word w counts) (omega (arith, one)) (omega (arith, two))) (λ rest. like_give m (w ∷ rest))) (omega arith)))
      (like_give (suc m) [])

  type_words_like : (left : ℕ) → Like k 1 (read_type_words s left) (read_type_words t left)
  unfolding read_type_words
  type_words_like left = then_some k _ _ _ _ (take _ _ left) (λ first. then_any k _ _ _ _ (words_at left k s t (with_word first.1 no_words) enough also) (λ rest. like_give k _))

  -- ---- dimensions

  module _ (left : ℕ) (f f' : Reader Expr) (F : Like k 1 f f') where
    size_like : Like k 0 (read_size f) (read_size f')
    unfolding read_size
    size_like = like_choose k 0 _ _ _ _ _ (like_give k None) (then_any k _ _ _ _ (like_any k _ _ F) (λ value. like_give k _))

    pub dimensions_like : Like k 0 (read_dimensions s left f) (read_dimensions t left f')
    unfolding read_dimensions read_dimension
    dimensions_like =
        many_like _ _ _ (then_some k _ _ _ _ (take _ _ left) (λ place. then_any k _ _ _ _ size_like (λ size. then_any k _ _ _ _ (like_any k _ _ (take _ _ left)) (λ closing. like_give k _))))

  -- ---- expressions

  module _ (l : ℕ) (u u' : Reader Expr) (e e' : Reader Expr) (p p' : Reader Specifiers) (U : Like k 1 u u') (E : Like k 1 e e') (P : Like k 1 p p') where
    abbrev one : Inner
    one = record { left = l; unary = u; expr = e; specs = p }

    abbrev other : Inner
    other = record { left = l; unary = u'; expr = e'; specs = p' }

    arguments_like : Like k 0 (read_arguments s one) (read_arguments t other)
    unfolding read_arguments
    arguments_like = like_choose k 0 _ _ _ _ _ (like_give k []) (like_any k _ _ (separated_like (codes ",") l e e' E))

    call_like : (left : ℕ) (name : Identifier) → Like k 1 (read_call s left one name) (read_call t left other name)
    unfolding read_call
    call_like left name = then_some k _ _ _ _ (take _ _ left) (λ place. then_any k _ _ _ _ arguments_like (λ arguments. then_any k _ _ _ _ (like_any k _ _ (take _ _ left)) (λ closing. like_give k _)))

    named_like : (left : ℕ) → Like k 1 (read_named s left one) (read_named t left other)
    unfolding read_named
    named_like left = then_some k _ _ _ _ (take _ _ left) (λ name. like_choose k 0 _ _ _ _ _ (like_any k _ _ (call_like left name)) (like_give k (expr.Name name)))

    literal_like : (left : ℕ) → Like k 1 (read_literal left) (read_literal left)
    unfolding read_literal
    literal_like left = then_some k _ _ _ _ (take _ _ left) (λ found. like_give k _)

    index_like : (left : ℕ) → Like k 1 (read_index left one) (read_index left other)
    unfolding read_index
    index_like left = then_some k _ _ _ _ (take _ _ left) (λ place. then_any k _ _ _ _ (like_any k _ _ E) (λ index. then_any k _ _ _ _ (like_any k _ _ (take _ _ left)) (λ closing. like_give k _)))

    member_like : (left : ℕ) → Like k 1 (read_member left) (read_member left)
    unfolding read_member
    member_like left = then_some k _ _ _ _ (take _ _ left) (λ place. then_any k _ _ _ _ (like_any k _ _ (take _ _ left)) (λ name. like_give k _))

    arrow_like : (left : ℕ) → Like k 1 (read_arrow left) (read_arrow left)
    unfolding read_arrow
    arrow_like left = then_some k _ _ _ _ (take _ _ left) (λ place. then_any k _ _ _ _ (like_any k _ _ (take _ _ left)) (λ name. like_give k _))

    suffix_like : (left : ℕ) → Like k 1 (read_suffix left one) (read_suffix left other)
    unfolding read_suffix
    suffix_like left = like_choose k 1 _ _ _ _ _ (index_like left) (like_choose k 1 _ _ _ _ _ (member_like left) (arrow_like left))

    following_like : (left : ℕ) (primary : Expr) → Like k 0 (read_after s left one primary) (read_after t left other primary)
    unfolding read_after
    following_like left primary = then_any k _ _ _ _ (many_like is_suffix _ _ (suffix_like left)) (λ suffixes. like_give k _)

    primary_like : (left : ℕ) → Like k 1 (read_primary s left one) (read_primary t left other)
    unfolding read_primary
    primary_like left = then_some k _ _ _ _ (like_choose k 1 _ _ _ _ _ (named_like left) (literal_like left)) (following_like left)

    cast_like : (left : ℕ) (place : Place) → Like k 1 (read_cast left one place) (read_cast left other place)
    unfolding read_cast
    cast_like left place = then_some k _ _ _ _ P (λ specs. then_any k _ _ _ _ (like_any k _ _ (take _ _ left)) (λ closing. then_any k _ _ _ _ (like_any k _ _ U) (λ operand. like_give k _)))

    group_like : (left : ℕ) (place : Place) → Like k 1 (read_group left one place) (read_group left other place)
    unfolding read_group
    group_like left place = then_some k _ _ _ _ E (λ value. then_any k _ _ _ _ (like_any k _ _ (take _ _ left)) (λ closing. like_give k _))

    bracketed_like : (left : ℕ) → Like k 1 (read_bracketed s left one) (read_bracketed t left other)
    unfolding read_bracketed
    bracketed_like left =
        then_some k _ _ _ _ (take _ _ left) (λ place. like_choose k 0 _ _ _ _ _ (like_any k _ _ (cast_like left place)) (like_any k _ _ (then_some k _ _ _ _ (group_like left place) (following_like left))))

    prefixed_like : (left : ℕ) → Like k 1 (read_prefixed left one) (read_prefixed left other)
    unfolding read_prefixed
    prefixed_like left = then_some k _ _ _ _ (take _ _ left) (λ found. then_any k _ _ _ _ (like_any k _ _ U) (λ operand. like_give k _))

    unary_like : (left : ℕ) → Like k 1 (read_unary s left one) (read_unary t left other)
    unfolding read_unary
    unary_like left = like_choose k 1 _ _ _ _ _ (prefixed_like left) (like_choose k 1 _ _ _ _ _ (bracketed_like left) (primary_like left))

    chain_like : (above left : ℕ) → Like k 1 (read_chain above s left one) (read_chain above t left other)
    unfolding read_chain read_operand
    chain_like zero left = unary_like left
    chain_like (suc above) left =
        then_some k _ _ _ _ (chain_like above left)
        (λ first. then_any k _ _ _ _ (many_like _ _ _ (then_some k _ _ _ _ (take _ _ left) (λ found. then_any k _ _ _ _ (like_any k _ _ (chain_like above left)) (λ value. like_give k _)))) (λ rest. like_give k _))

    branches_like : (left : ℕ) → Like k 1 (read_branches left one) (read_branches left other)
    unfolding read_branches
    branches_like left =
        then_some k _ _ _ _ (take _ _ left) (λ place. then_any k _ _ _ _ (like_any k _ _ E) (λ second. then_any k _ _ _ _ (like_any k _ _ (take _ _ left)) (λ colon. then_any k _ _ _ _ (like_any k _ _ E) (λ third. like_give k _))))

    choice_like : (left : ℕ) (condition : Expr) → Like k 1 (read_choice left one condition) (read_choice left other condition)
    unfolding read_choice
    choice_like left condition = then_some k _ _ _ _ (branches_like left) (λ branches. like_give k _)

    expr_like : (left : ℕ) → Like k 1 (read_expr s left one) (read_expr t left other)
    unfolding read_expr
    expr_like left = then_some k _ _ _ _ (chain_like 10 left) (λ condition. like_choose k 0 _ _ _ _ _ (like_any k _ _ (choice_like left condition)) (like_give k condition))

    -- ---- types

    members_like : Like k 1 (read_members_of s one) (read_members_of t other)
    unfolding read_members_of read_dimensioned
    members_like =
        then_some k _ _ _ _ P
        (λ specs. then_any k _ _ _ _
        (like_any k _ _ (separated_like (codes ",") l _ _ (then_some k _ _ _ _ (take _ _ l) (λ name. then_any k _ _ _ _ (dimensions_like l e e' E) (λ dimensions. like_give k _)))))
        (λ names. then_any k _ _ _ _ (like_any k _ _ (take _ _ l)) (λ closing. like_give k _)))

    struct_body_like : Like k 1 (read_struct_body s one) (read_struct_body t other)
    unfolding read_struct_body
    struct_body_like =
        then_some k _ _ _ _ (take _ _ l)
        (λ opening. then_any k _ _ _ _ (like_any k _ _ members_like) (λ first. then_any k _ _ _ _ (many_like starts_type _ _ members_like) (λ rest. then_any k _ _ _ _ (like_any k _ _ (take _ _ l)) (λ closing. like_give k _))))

    struct_following_like : (place : Place) (name : Identifier) → Like k 0 (read_struct_after s one place name) (read_struct_after t other place name)
    unfolding read_struct_after
    struct_following_like place name = like_choose k 0 _ _ _ _ _ (then_any k _ _ _ _ (like_any k _ _ struct_body_like) (λ members. like_give k _)) (like_give k _)

    struct_like : (left : ℕ) → Like k 1 (read_struct s left one) (read_struct t left other)
    unfolding read_struct
    struct_like left =
        then_some k _ _ _ _ (take _ _ left) (λ place. like_choose k 0 _ _ _ _ _ (then_any k _ _ _ _ (like_any k _ _ (take _ _ left)) (struct_following_like place)) (then_any k _ _ _ _ (like_any k _ _ struct_body_like) (λ members. like_give k _)))

    module _ (left : ℕ) (f f' : Reader Expr) (F : Like k 1 f f') where
      value_like : Like k 0 (read_value left f) (read_value left f')
      unfolding read_value
      value_like = like_choose k 0 _ _ _ _ _ (then_any k _ _ _ _ (like_any k _ _ (take _ _ left)) (λ mark. then_any k _ _ _ _ (like_any k _ _ F) (λ value. like_give k _))) (like_give k None)

      enumerator_like : Like k 1 (read_enumerator left f) (read_enumerator left f')
      unfolding read_enumerator
      enumerator_like = then_some k _ _ _ _ (take _ _ left) (λ name. then_any k _ _ _ _ value_like (λ value. like_give k _))

      enum_body_like : Like k 1 (read_enum_body s left f) (read_enum_body t left f')
      unfolding read_enum_body
      enum_body_like =
          then_some k _ _ _ _ (take _ _ left)
          (λ opening. then_any k _ _ _ _ (like_any k _ _ enumerator_like) (λ first. then_any k _ _ _ _ (more_like (codes ",") (is_kind Name) left _ _ enumerator_like) (λ rest. then_any k _ _ _ _ (like_any k _ _ (take _ _ left)) (λ closing. like_give k _))))

      enum_following_like : (place : Place) (name : Identifier) → Like k 0 (read_enum_after s left f place name) (read_enum_after t left f' place name)
      unfolding read_enum_after
      enum_following_like place name = like_choose k 0 _ _ _ _ _ (then_any k _ _ _ _ (like_any k _ _ enum_body_like) (λ body. like_give k _)) (like_give k _)

      enum_like : Like k 1 (read_enum s left f) (read_enum t left f')
      unfolding read_enum
      enum_like =
          then_some k _ _ _ _ (take _ _ left) (λ place. like_choose k 0 _ _ _ _ _ (then_any k _ _ _ _ (like_any k _ _ (take _ _ left)) (enum_following_like place)) (then_any k _ _ _ _ (like_any k _ _ enum_body_like) (λ body. like_give k _)))

      tag_like : Like k 1 (read_tag s left one f) (read_tag t left other f')
      unfolding read_tag
      tag_like = like_choose k 1 _ _ _ _ _ (struct_like left) enum_like

      spelling_like : Like k 1 (read_spelling s left one f) (read_spelling t left other f')
      unfolding read_spelling
      spelling_like =
          like_choose k 1 _ _ _ _ _ (type_words_like left) (like_choose k 1 _ _ _ _ _ (then_some k _ _ _ _ (take _ _ left) (λ name. like_give k _)) (then_some k _ _ _ _ tag_like (λ tag. like_give k _)))

      constants_like : Like k 0 (read_constants s left) (read_constants t left)
      unfolding read_constants
      constants_like = many_like _ _ _ (take _ _ left)

      specs_like : Like k 1 (read_specs s left one f) (read_specs t left other f')
      unfolding read_specs
      specs_like = then_last k _ _ _ _ constants_like (λ before. then_some k _ _ _ _ spelling_like (λ kind. then_any k _ _ _ _ constants_like (λ following. like_give k _)))

  -- ---- at every level

  -- the readers with these and those numbers of tokens
  pub record AllLike (one other : Inner) : Type 0 where
    pub unary : Like k 1 one.unary other.unary
    pub expr : Like k 1 one.expr other.expr
    pub specs : Like k 1 one.specs other.specs

  -- what is read with nested readers that are alike
  next_like : (left : ℕ) (one other : Inner) → one.left ≡ left → other.left ≡ left → AllLike one other
      → AllLike (record { left = suc left; unary = read_unary s (suc left) one; expr = read_expr s (suc left) one; specs = read_specs s (suc left) one (read_expr s (suc left) one) })
      (record { left = suc left; unary = read_unary t (suc left) other; expr = read_expr t (suc left) other; specs = read_specs t (suc left) other (read_expr t (suc left) other) })
  next_like left one other is same A =
      let with_left : (l : ℕ) → Inner = λ l. record { left = l; unary = one.unary; expr = one.expr; specs = one.specs } in
      let of_other : (l : ℕ) → Inner = λ l. record { left = l; unary = other.unary; expr = other.expr; specs = other.specs } in
      subst (λ l. AllLike (record { left = suc left; unary = read_unary s (suc left) (with_left l); expr = read_expr s (suc left) (with_left l); specs = read_specs s (suc left) (with_left l) (read_expr s (suc left) (with_left l)) })
      (record { left = suc left; unary = read_unary t (suc left) other; expr = read_expr t (suc left) other; specs = read_specs t (suc left) other (read_expr t (suc left) other) })) (sym is)
      (subst (λ l. AllLike (record { left = suc left; unary = read_unary s (suc left) (with_left left); expr = read_expr s (suc left) (with_left left); specs = read_specs s (suc left) (with_left left) (read_expr s (suc left) (with_left left)) })
      (record { left = suc left; unary = read_unary t (suc left) (of_other l); expr = read_expr t (suc left) (of_other l); specs = read_specs t (suc left) (of_other l) (read_expr t (suc left) (of_other l)) })) (sym same)
      (record {
        unary = unary_like left one.unary other.unary one.expr other.expr one.specs other.specs A.unary A.expr A.specs (suc left);
        expr = expr_like left one.unary other.unary one.expr other.expr one.specs other.specs A.unary A.expr A.specs (suc left);
        specs = specs_like left one.unary other.unary one.expr other.expr one.specs other.specs A.unary A.expr A.specs (suc left) _ _ (expr_like left one.unary other.unary one.expr other.expr one.specs other.specs A.unary A.expr A.specs (suc left));
      }))

  level_is : (size left : ℕ) → (readers_at size left).left ≡ left
  unfolding readers_at
  level_is size zero = refl
  level_is size (suc left) = refl

  pub all_like : (left : ℕ) → AllLike (readers_at s left) (readers_at t left)
  unfolding readers_at
  all_like zero = record { unary = take _ _ 0; expr = take _ _ 0; specs = take _ _ 0 }
  all_like (suc left) = next_like left (readers_at s left) (readers_at t left) (level_is s left) (level_is t left) (all_like left)
