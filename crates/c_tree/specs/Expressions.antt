-- Expressions (C11 6.5), in the order of Annex A: of each production the tokens that a tree of it wants, and then which trees are of the
-- grammar. The names of productions are those of docs/LANGUAGE.md. Left out of C11: compound literals, sizeof, _Alignof and _Generic,
-- string literals, calls of what is no name, steps and assignments inside of expressions (`Declarations.antt` has those of a
-- statement), and the comma operator.
use Rattle.std.specs.Prelude.{ℕ, ◌+◌, Bool, true, false, ◌&&◌, ◌==◌, nat_le, List, [], ◌∷◌, ◌++◌, codes}
use Rattle.std.specs.List.{list_all}
use Rattle.c_tree.specs.Pieces.{Piece, mark, mark_at, name, literal_at, all_of, separated}
use Rattle.c_tree.specs.Operators.{text_of_operator, text_of_prefix, level_of, conditional_level, unary_level, postfix_level, primary_level}
use Rattle.c_tree.specs.declared.token.Place.{Place}
use Rattle.c_tree.specs.declared.expressions.Identifier.{Identifier}
use Rattle.c_tree.specs.declared.expressions.BinaryOperator.{BinaryOperator}
use Rattle.c_tree.specs.declared.expressions.UnaryOperator.{UnaryOperator}
use Rattle.c_tree.specs.declared.expressions.Literal.{Literal}

-- what a part wants, by how deep it is nested
abbrev pub Wants : Type 0
Wants = ℕ → List Piece

-- whether an expression is of the grammar and binds at least as strongly as a level
abbrev pub Binds : Type 0
Binds = ℕ → Bool

abbrev pub has_some : {A : Type 0} → List A → Bool
has_some [] = false
has_some (first ∷ rest) = true

-- C11 6.5.1: primary = NAME | literal | "(" expression ")" | call
abbrev pub name_wants : Identifier → Wants
name_wants named n = name named n

abbrev pub literal_wants : Place → Literal → Wants
literal_wants place value n = literal_at place value n

abbrev pub parenthesized_wants : Place → Wants → Wants
parenthesized_wants place inner n = mark_at place (codes "(") n ++ inner (n + 1) ++ mark (codes ")") n

abbrev pub primary_binds : Binds
primary_binds level = nat_le level primary_level

abbrev pub parenthesized_binds : Binds → Binds
parenthesized_binds inner level = nat_le level primary_level && inner conditional_level

-- C11 6.5.2.2: call = NAME "(" (expression ("," expression)*)? ")"
abbrev pub call_wants : Identifier → Place → List Wants → Wants
call_wants function bracket arguments n = name function n ++ mark_at bracket (codes "(") n ++ separated (codes ",") arguments (n + 1) ++ mark (codes ")") n

abbrev pub call_binds : List Binds → Binds
call_binds arguments level = nat_le level primary_level && list_all (λ argument. argument conditional_level) arguments

-- C11 6.5.2.1, 6.5.2.3: postfix = primary ("[" expression "]" | "." NAME | "->" NAME)*
abbrev pub postfix_wants : Wants → List Wants → Wants
postfix_wants primary suffixes n = primary n ++ all_of suffixes n

abbrev pub postfix_binds : Binds → List Bool → Binds
postfix_binds primary suffixes level = nat_le level postfix_level && primary primary_level && has_some suffixes && list_all (λ suffix. suffix) suffixes

abbrev pub index_wants : Place → Wants → Wants
index_wants place index n = mark_at place (codes "[") n ++ index (n + 1) ++ mark (codes "]") n

abbrev pub index_is : Binds → Bool
index_is index = index conditional_level

abbrev pub member_of_wants : Place → Identifier → Wants
member_of_wants place named n = mark_at place (codes ".") n ++ name named n

abbrev pub arrow_wants : Place → Identifier → Wants
arrow_wants place named n = mark_at place (codes "->") n ++ name named n

-- C11 6.5.3: unary = unary-operator unary | cast | postfix
abbrev pub unary_wants : Place → UnaryOperator → Wants → Wants
unary_wants place operator operand n = mark_at place (text_of_prefix operator) n ++ operand (n + 1)

abbrev pub unary_binds : Binds → Binds
unary_binds operand level = nat_le level unary_level && operand unary_level

-- C11 6.5.4: cast = "(" specs ")" unary
abbrev pub cast_wants : Place → Wants → Wants → Wants
cast_wants place specs operand n = mark_at place (codes "(") n ++ specs (n + 1) ++ mark (codes ")") n ++ operand (n + 1)

abbrev pub cast_binds : Bool → Binds → Binds
cast_binds specs operand level = nat_le level unary_level && specs && operand unary_level

-- C11 6.5.5 to 6.5.14: chain = operand (binary-operator operand)*, of one level, and the operands bind more strongly
abbrev pub chain_wants : Wants → List Wants → Wants
chain_wants first operands n = first n ++ all_of operands n

abbrev pub chain_operand_wants : Place → BinaryOperator → Wants → Wants
chain_operand_wants place operator value n = mark_at place (text_of_operator operator) n ++ value n

-- the level of an operator, and its operand
pub record Bound : Type 0 where
  pub level : ℕ
  pub value : Binds

abbrev pub is_chain : Binds → List Bound → Binds
is_chain first [] level = false
is_chain first (operand ∷ operands) level =
    nat_le level operand.level && first (operand.level + 1)
    && list_all (λ o. (o.level == operand.level) && o.value (o.level + 1)) (operand ∷ operands)

-- C11 6.5.15: conditional = chain ("?" expression ":" conditional)?
abbrev pub conditional_wants : Wants → Place → Wants → Wants → Wants
conditional_wants condition place second third n = condition n ++ mark_at place (codes "?") n ++ second (n + 1) ++ mark (codes ":") n ++ third (n + 1)

abbrev pub conditional_binds : Binds → Binds → Binds → Binds
conditional_binds condition second third level = nat_le level conditional_level && condition 1 && second conditional_level && third conditional_level
