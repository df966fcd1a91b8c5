-- The commands: their names, and the names of their words.
use Rattle.std.specs.Prelude.{[], ◌∷◌, Option, Some, None, codes, if◌then◌else◌}
use Rattle.std.specs.Str.{bytes_eq}
use Rattle.hy_words.specs.Words.{Syntax, Text}
use Rattle.hy_words.specs.declared.command.Command.{Command}
use Rattle.hy_words.specs.declared.command.Command.TheVariants.{Exec, Compile, Run, Check, Plain, Gen, Migrate, Import, Export, Begin, Turn, Log, Confirm}

abbrev pub command_named : Text → Option Command
command_named word =
    if bytes_eq word (codes "exec") then Some Exec
    else if bytes_eq word (codes "compile") then Some Compile
    else if bytes_eq word (codes "run") then Some Run
    else if bytes_eq word (codes "check") then Some Check
    else if bytes_eq word (codes "plain") then Some Plain
    else if bytes_eq word (codes "gen") then Some Gen
    else if bytes_eq word (codes "migrate") then Some Migrate
    else if bytes_eq word (codes "import") then Some Import
    else if bytes_eq word (codes "export") then Some Export
    else if bytes_eq word (codes "begin") then Some Begin
    else if bytes_eq word (codes "turn") then Some Turn
    else if bytes_eq word (codes "log") then Some Log
    else if bytes_eq word (codes "confirm") then Some Confirm
    else None

abbrev pub syntax_of : Command → Syntax
syntax_of Exec = record {
  positionals = codes "source" ∷ codes "a" ∷ codes "b" ∷ codes "table" ∷ codes "bundle" ∷ [];
  options = codes "seed" ∷ codes "turns" ∷ codes "layers" ∷ codes "bound" ∷ [];
}
syntax_of Compile = record {
  positionals = codes "source" ∷ codes "table" ∷ codes "bundle" ∷ [];
  options = codes "layers" ∷ codes "bound" ∷ [];
}
syntax_of Run = record {
  positionals = codes "bundle" ∷ codes "a" ∷ codes "b" ∷ [];
  options = codes "seed" ∷ codes "turns" ∷ [];
}
syntax_of Check = record { positionals = codes "bundle" ∷ []; options = [] }
syntax_of Plain = record {
  positionals = codes "source" ∷ codes "a" ∷ codes "b" ∷ [];
  options = codes "bound" ∷ [];
}
syntax_of Gen = record {
  positionals = codes "number" ∷ codes "source" ∷ codes "a" ∷ codes "b" ∷ codes "table" ∷ codes "bundle" ∷ [];
  options = [];
}
syntax_of Migrate = record { positionals = codes "old" ∷ codes "new" ∷ []; options = [] }
syntax_of Import = record { positionals = codes "file" ∷ codes "table" ∷ codes "bundle" ∷ []; options = [] }
syntax_of Export = record { positionals = codes "bundle" ∷ codes "module" ∷ codes "file" ∷ []; options = [] }
syntax_of Begin = record {
  positionals = codes "role" ∷ codes "bundle" ∷ codes "own" ∷ codes "state" ∷ codes "outbox" ∷ [];
  options = codes "seed" ∷ [];
}
syntax_of Turn = record { positionals = codes "state" ∷ codes "inbox" ∷ codes "outbox" ∷ []; options = [] }
syntax_of Log = record { positionals = codes "bundle" ∷ codes "module" ∷ codes "file" ∷ []; options = [] }
syntax_of Confirm = record { positionals = codes "file" ∷ []; options = [] }
