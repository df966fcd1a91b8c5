-- The `clap` command that reads the words of a command.
use Rattle.std.specs.Prelude.{List, [], ◌++◌, map, Option, Some, true}
use Rattle.clap.specs.Words.{App, Rule, first_value, found_of, new_rule}
use Rattle.clap.specs.Simple.{new_shape}
use Rattle.clap.specs.declared.parser.matches.ArgMatches.{ArgMatches}
use Rattle.hy_words.specs.Words.{Syntax, Text}

-- an argument that takes one value as a text
abbrev pub positional_rule : Text → Rule
positional_rule name = new_rule name

abbrev pub option_rule : Text → Rule
option_rule name = record (new_rule name) { long = Some name }

abbrev pub arguments : List Text → List Text → List Rule
arguments names options = map positional_rule names ++ map option_rule options

-- a command of this name with these arguments, and no help
abbrev pub app_with : Text → List Rule → App
app_with name rules = record {
  top = record (new_shape name) { rules = rules; disable_help_flag = true };
  subs = [];
}

abbrev pub app_for : Text → Syntax → App
app_for name syntax = app_with name (arguments syntax.positionals syntax.options)

-- the value that a parse found under each name
abbrev pub found_in : ArgMatches → Text → Option Text
found_in matches = first_value (found_of matches)
