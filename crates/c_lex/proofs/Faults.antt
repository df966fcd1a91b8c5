-- A fault that a definition has is one that a call may answer.
use Rattle.std.proofs.Common.{◌≡◌, Result, Err}
use Rattle.c_lex.specs.declared.fault.LexFault.{LexFault}
use Rattle.c_lex.specs.declared.fault.LexKind.{LexKind}
use Rattle.c_lex.specs.declared.fault.LexKind.TheVariants.{BadByte, BadLiteral, OpenComment, Directive, LateMacro, Tokens, Memory}
use Rattle.c_lex.specs.Answer.{Fails}

pub fails_so : {X : Type 0} (kind : LexKind) (fault : LexFault) (found : Result X LexFault) → found ≡ Err fault → Fails kind fault found
fails_so BadByte fault found is = is
fails_so BadLiteral fault found is = is
fails_so OpenComment fault found is = is
fails_so Directive fault found is = is
fails_so LateMacro fault found is = is
fails_so Tokens fault found is = is
fails_so Memory fault found is = tt
