-- Readers of expressions and of types' spellings by how many levels of nesting are left.
use Rattle.std.specs.Prelude.{ℕ, zero, suc, []}
use Rattle.c_tree.specs.declared.expressions.Expr.{Expr}
use Rattle.c_tree.specs.declared.expressions.Expr.TheVariants as expr
use Rattle.c_tree.specs.declared.expressions.Expr.TheViews.{roll-Specifiers}
use Rattle.c_tree.specs.declared.expressions.Specifiers.{Specifiers}
use Rattle.c_tree.specs.declared.expressions.TypeSpecifier.TheVariants as spelling
use Rattle.c_reader.specs.Reading.{Reader, take_as}
use Rattle.c_grammar.specs.Tokens.{starts_expr, starts_type}
use Rattle.c_reader.specs.Tokens.{named_of}
use Rattle.c_grammar.specs.Expressions.{Inner, read_unary, read_expr}
use Rattle.c_grammar.specs.Types.{read_specs}

-- where no level is left nothing is read: the first token is nested too deeply, if it fits
abbrev pub no_expr : Reader Expr
no_expr = take_as starts_expr (λ token. expr.Name (named_of token)) 0

abbrev pub no_specs : Reader Specifiers
no_specs = take_as starts_type (λ token. roll-Specifiers (record { before = []; kind = spelling.TypeName (named_of token); after = [] })) 0

-- the readers where so many levels are left, in lists of at most so many tokens
unfoldable pub readers_at : ℕ → ℕ → Inner
readers_at size zero = record { left = 0; unary = no_expr; expr = no_expr; specs = no_specs }
readers_at size (suc left) =
    let inner = readers_at size left in
    record {
      left = suc left;
      unary = read_unary size (suc left) inner;
      expr = read_expr size (suc left) inner;
      specs = read_specs size (suc left) inner (read_expr size (suc left) inner);
    }
