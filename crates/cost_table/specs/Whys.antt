-- A fault before it has its name.
use Rattle.std.specs.Prelude.{ℕ, List, Result, Ok, Err}
use Rattle.cost_table.specs.declared.fault.TableFault.{TableFault}
use Rattle.cost_table.specs.declared.fault.TableFault.TheVariants as fault
use Rattle.cost_table.specs.declared.numbers.Why.{Why}
use Rattle.cost_table.specs.declared.numbers.Why.TheVariants.{Missing, NotWhole, TooLarge}

abbrev pub named : Why → List ℕ → TableFault
named Missing name = fault.Missing name
named NotWhole name = fault.NotWhole name
named TooLarge name = fault.TooLarge name

abbrev pub with_name : List ℕ → Result ℕ Why → Result ℕ TableFault
with_name name (Ok n) = Ok n
with_name name (Err why) = Err (named why name)
