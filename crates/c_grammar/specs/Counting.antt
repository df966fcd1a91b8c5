-- How many words of a type's spelling are counted.
use Rattle.std.specs.Prelude.{ℕ, ◌≤◌}
use Rattle.c_tree.specs.TypeWords.{Counts}
use Rattle.c_grammar.specs.declared.counts.Counts.TheInside.{Inside}

abbrev pub counts_of : Inside → Counts
counts_of c = record { alone = c.alone; char = c.char; sign = c.sign; short = c.short; int = c.int; long = c.long }

-- so many of each kind at most
pub record Few (most : ℕ) (c : Counts) : Type 0 where
  pub alone : c.alone ≤ most
  pub char : c.char ≤ most
  pub sign : c.sign ≤ most
  pub short : c.short ≤ most
  pub int : c.int ≤ most
  pub long : c.long ≤ most
