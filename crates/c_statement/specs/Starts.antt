-- Which tokens begin statements, declarations and items.
use Rattle.std.specs.Prelude.{ℕ, Bool, ◌||◌, ◌==◌, List, is_some, codes}
use Rattle.c_tree.specs.declared.token.Token.{Token}
use Rattle.c_tree.specs.declared.token.TokenKind.{TokenKind}
use Rattle.c_tree.specs.declared.token.TokenKind.TheVariants.{Word, Mark, Bound}
use Rattle.c_reader.specs.Tokens.{kind_number, spelled_by, found_by}
use Rattle.c_grammar.specs.Tokens.{expr_by, type_by}
use Rattle.c_decl.specs.Marks.{steps}

-- a loop, or the bound of one
unfoldable pub loop_by : TokenKind → List ℕ → Bool
loop_by k t = (kind_number k == kind_number Bound) || spelled_by Word (codes "while") k t || spelled_by Word (codes "do") k t || spelled_by Word (codes "for") k t

abbrev pub starts_loop : Token → Bool
starts_loop token = loop_by token.kind token.text

-- what a statement does to one place, or a call
unfoldable pub simple_by : TokenKind → List ℕ → Bool
simple_by k t = expr_by k t || is_some (found_by Mark steps k t)

unfoldable pub statement_by : TokenKind → List ℕ → Bool
statement_by k t =
    spelled_by Mark (codes "{") k t || spelled_by Mark (codes ";") k t || spelled_by Word (codes "break") k t || spelled_by Word (codes "continue") k t
    || spelled_by Word (codes "return") k t || spelled_by Word (codes "if") k t || spelled_by Word (codes "switch") k t || loop_by k t || simple_by k t

abbrev pub starts_statement : Token → Bool
starts_statement token = statement_by token.kind token.text

unfoldable pub part_by : TokenKind → List ℕ → Bool
part_by k t = type_by k t || statement_by k t

abbrev pub starts_part : Token → Bool
starts_part token = part_by token.kind token.text

unfoldable pub label_by : TokenKind → List ℕ → Bool
label_by k t = spelled_by Word (codes "case") k t || spelled_by Word (codes "default") k t

abbrev pub starts_label : Token → Bool
starts_label token = label_by token.kind token.text

unfoldable pub item_by : TokenKind → List ℕ → Bool
item_by k t = type_by k t || spelled_by Word (codes "typedef") k t || spelled_by Word (codes "static") k t || spelled_by Word (codes "inline") k t

abbrev pub starts_item : Token → Bool
starts_item token = item_by token.kind token.text
