use Rattle.c_statement.proofs.nesting.+statement.Given as goal

abbrev pub decreases-statement : goal.decreases-statement
decreases-statement l = l.left
