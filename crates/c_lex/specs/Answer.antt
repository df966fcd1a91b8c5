-- What a call answers.
use Rattle.std.specs.Prelude.{◌≡◌, Result, Ok, Err}
use Rattle.c_lex.specs.declared.fault.LexFault.{LexFault}
use Rattle.c_lex.specs.declared.fault.LexKind.{LexKind}
use Rattle.c_lex.specs.declared.fault.LexKind.TheVariants.{BadByte, BadLiteral, OpenComment, Directive, LateMacro, Tokens, Memory}

-- the fault is that of a definition, but where memory ran out
abbrev pub Fails : {X : Type 0} → LexKind → LexFault → Result X LexFault → Type 0
Fails BadByte fault found = found ≡ Err fault
Fails BadLiteral fault found = found ≡ Err fault
Fails OpenComment fault found = found ≡ Err fault
Fails Directive fault found = found ≡ Err fault
Fails LateMacro fault found = found ≡ Err fault
Fails Tokens fault found = found ≡ Err fault
Fails Memory fault found = Unit {0}

-- the answer, seen by view, is that of a definition, but where memory ran out
abbrev pub Gives : {X Y : Type 0} → (X → Y) → Result X LexFault → Result Y LexFault → Type 0
Gives view (Ok x) found = found ≡ Ok (view x)
Gives view (Err fault) found = Fails fault.kind fault found
