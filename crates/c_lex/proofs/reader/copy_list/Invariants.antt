use Rattle.std.proofs.Common.{◌≡◌, ◌++◌, take}
use Rattle.c_lex.specs.Macros.{moved}
use Rattle.c_lex.proofs.reader.copy_list.Given as goal

abbrev pub invariant-loop-token : goal.invariant-loop-token
invariant-loop-token l = l.out.items ≡ l.initial.out.items ++ moved l.place (take l.token-index l.list)
