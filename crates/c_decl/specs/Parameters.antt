-- How the parameters of a function's head are read (C11 6.7.6.3, 6.9.1).
use Rattle.std.specs.Prelude.{ℕ, ◌∷◌, Option, Some, None, codes}
use Rattle.c_tree.specs.declared.token.Place.{Place}
use Rattle.c_tree.specs.declared.expressions.Specifiers.{Specifiers}
use Rattle.c_tree.specs.declared.programs.Parameter.{Parameter}
use Rattle.c_tree.specs.declared.programs.Parameters.{Parameters}
use Rattle.c_tree.specs.declared.programs.Parameters.TheVariants as parameters
use Rattle.c_reader.specs.Reading.{Reader, ◌>>=◌, give, choose, many}
use Rattle.c_reader.specs.Tokens.{is_mark, read_mark, read_name}
use Rattle.c_grammar.specs.Levels.{readers_at}
use Rattle.c_decl.specs.Bare.{void_of}
use Rattle.c_decl.specs.Declarations.{read_pointer, read_bounds}

-- a parameter of a type
unfoldable pub read_parameter_of : ℕ → ℕ → Specifiers → Reader Parameter
read_parameter_of size left specs = do
  pointer ← read_pointer left
  name ← read_name left
  dimensions ← read_bounds size left
  give (record { specs = specs; pointer = pointer; name = name; dimensions = dimensions })

unfoldable pub read_parameter : ℕ → ℕ → Reader Parameter
read_parameter size left = (readers_at size left).specs >>= read_parameter_of size left

-- the parameters of which the first has this type
unfoldable pub read_parameters_of : ℕ → ℕ → Specifiers → Reader Parameters
read_parameters_of size left specs = do
  first ← read_parameter_of size left specs
  rest ← many size (is_mark (codes ",")) (read_mark (codes ",") left >>= λ comma. read_parameter size left)
  give (parameters.List (first ∷ rest))

-- after a void with nothing else only a closing bracket makes it the empty list
abbrev pub read_parameters_after : ℕ → ℕ → Specifiers → Option Place → Reader Parameters
read_parameters_after size left specs None = read_parameters_of size left specs
read_parameters_after size left specs (Some place) = choose (is_mark (codes ")")) (give (parameters.Void place)) (read_parameters_of size left specs)

-- what stands between the brackets of a head
unfoldable pub read_parameters : ℕ → ℕ → Reader Parameters
read_parameters size left =
    choose (is_mark (codes ")")) (give parameters.Nothing) ((readers_at size left).specs >>= λ specs. read_parameters_after size left specs (void_of specs))
