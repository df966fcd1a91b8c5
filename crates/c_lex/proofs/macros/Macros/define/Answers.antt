use Rattle.std.proofs.Common.{ℕ, Bool, ap, ◌∙◌, map, Vec, Global}
use Rattle.std.specs.Str.{bytes_eq}
use Rattle.indexmap.proofs.CallerLemmas.{insert_entry-new}
use Rattle.c_lex.proofs.Tables.{macro_of, macros-last, macros-none}
use Rattle.c_lex.proofs.macros.Macros.define.Goals as goal

-- two keys are equal where their bytes are
same : Vec ℕ Global → Vec ℕ Global → Bool
same x y = bytes_eq x.items y.items

pub returns : goal.returns
returns c =
    let none = macros-none c.self.inside.table.entries c.in_ok-name.name.items (rw (c.self.view_is, c.in_ok-name.ensures.items) c.requires) in
    let entries = c.in_ok-insert.ensures.entries ∙ insert_entry-new _ c.self.inside.table c.in_ok-name.name c.args.list none in
    rw (← c.self.view_is, ← c.in_ok-name.ensures.items) (ap (map macro_of) entries ∙ macros-last c.self.inside.table.entries (c.in_ok-name.name, c.args.list))
