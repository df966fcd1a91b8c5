-- Programs (C11 6.9), in the order of Annex A: of each production the tokens that a tree of it wants, and then which trees are of the
-- grammar. Left out of C11: prototypes, functions that return pointers, functions that other translation units have, and parameters
-- declared after their list.
use Rattle.std.specs.Prelude.{◌≡◌, ◌<◌, ◌^◌, Bool, true, ◌&&◌, List, [], ◌∷◌, ◌++◌, map, length, Option, Some, None, codes}
use Rattle.std.specs.List.{list_all}
use Rattle.c_tree.specs.Pieces.{Piece, mark, word_at, name, words_at, all_of, are_sound}
use Rattle.c_tree.specs.Expressions.{Wants}
use Rattle.c_tree.specs.Folds.{wants_of_specs, wants_of_tag, wants_of_dimension, are_specs, is_tag_tree, is_dimension_tree}
use Rattle.c_tree.specs.Declarations.{wants_of_objects, are_objects, wants_of_parameters, are_parameters}
use Rattle.c_tree.specs.StatementFolds.{wants_of_block, is_block}
use Rattle.c_tree.specs.declared.token.Place.{Place}
use Rattle.c_tree.specs.declared.programs.FunctionSpecifiers.{FunctionSpecifiers}
use Rattle.c_tree.specs.declared.programs.StaticSpecifier.{StaticSpecifier}
use Rattle.c_tree.specs.declared.programs.Function.{Function}
use Rattle.c_tree.specs.declared.programs.ExternalDeclaration.{ExternalDeclaration}
use Rattle.c_tree.specs.declared.programs.ExternalDeclaration.TheVariants as item

-- C11 6.7.1, 6.7.4: words = "inline"* ("static" "inline"*)?
unfoldable pub wants_of_static : Option StaticSpecifier → Wants
wants_of_static None n = []
wants_of_static (Some fixed) n = word_at fixed.place (codes "static") n ++ words_at fixed.inline (codes "inline") n

unfoldable pub wants_of_words : FunctionSpecifiers → Wants
wants_of_words words n = words_at words.inline (codes "inline") n ++ wants_of_static words.fixed n

-- C11 6.9.1: words function; function = specs NAME "(" parameters ")" block
unfoldable pub wants_of_function : Function → Wants
wants_of_function f n =
    wants_of_words f.words n ++ wants_of_specs f.specs n ++ name f.name n ++ mark (codes "(") n ++ wants_of_parameters f.parameters n ++ mark (codes ")") n ++ wants_of_block f.body n

unfoldable pub is_function : Function → Bool
is_function f = are_specs f.specs && are_parameters f.parameters && is_block f.body

-- C11 6.9: item = "typedef" specs NAME dimension* ";" | tag ";" | "static"? objects ";" | words function
unfoldable pub static_wants : Option Place → Wants
static_wants None n = []
static_wants (Some place) n = word_at place (codes "static") n

unfoldable pub wants_of_item : ExternalDeclaration → Wants
wants_of_item (item.Typedef place specs named dimensions) n =
    word_at place (codes "typedef") n ++ wants_of_specs specs n ++ name named n ++ all_of (map wants_of_dimension dimensions) n ++ mark (codes ";") n
wants_of_item (item.TagSpecifier tag) n = wants_of_tag tag n ++ mark (codes ";") n
wants_of_item (item.Declaration fixed objects) n = static_wants fixed n ++ wants_of_objects objects n ++ mark (codes ";") n
wants_of_item (item.Function function) n = wants_of_function function n

unfoldable pub is_item : ExternalDeclaration → Bool
is_item (item.Typedef place specs named dimensions) = are_specs specs && list_all is_dimension_tree dimensions
is_item (item.TagSpecifier tag) = is_tag_tree tag
is_item (item.Declaration fixed objects) = are_objects objects
is_item (item.Function function) = is_function function

-- C11 6.9: program = item*; nothing is nested outside of all items
pub record ProgramTree : Type 0 where
  pub items : List ExternalDeclaration
  pub end : Place

unfoldable pub wants_of_program : ProgramTree → List Piece
wants_of_program program = all_of (map wants_of_item program.items) 0

unfoldable pub is_program : ProgramTree → Bool
is_program program = list_all is_item program.items

-- a program of the grammar, whose names are names, whose numbers are words of their types and whose bounds are at most 2^20; its tokens
-- are fewer than 2^32, and so are its functions and its structs, each of which has a token of its own
pub record IsSound (program : ProgramTree) : Type 0 where
  pub grammar : is_program program ≡ true
  pub sound : are_sound (wants_of_program program) ≡ true
  pub few : length (wants_of_program program) < 2 ^ 32
