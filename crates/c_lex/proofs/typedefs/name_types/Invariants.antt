use Rattle.std.proofs.Common.{◌≡◌, ◌≤◌, ◌++◌, take, drop}
use Rattle.c_lex.specs.Typedefs.{named}
use Rattle.c_lex.specs.Scopes.{scoped}
use Rattle.c_lex.specs.Views.{scope_of}
use Rattle.c_lex.proofs.typedefs.name_types.Given as goal

abbrev pub invariant-loop-token : goal.invariant-loop-token
invariant-loop-token l = (named l.initial.tokens ≡ take l.token-index l.tokens ++ scoped (scope_of l.scope) (drop l.token-index l.tokens)) × (l.scope.braces ≤ l.token-index) × (l.scope.brackets ≤ l.token-index)
