-- A source that spells a typed program is refused for want of memory alone.
use Rattle.std.proofs.Common.{◌≡◌, ℕ, List, Option, Result, Ok, Err, IsErrAnd, MatchResult, refl, sym, ap, ◌∙◌, subst}
use Rattle.c_tree.specs.declared.token.Token.{Token}
use Rattle.c_tree.specs.Programs.{ProgramTree}
use Rattle.c_lex.specs.Lexing.{tokens_of}
use Rattle.c_syntax.specs.Outcome.{IsParsed}
use Rattle.c_conversions.specs.declared.fault.TypeFault.{TypeFault}
use Rattle.c_conversions.specs.declared.fault.TypeKind.{TypeKind}
use Rattle.c_conversions.specs.declared.fault.TypeKind.TheVariants as typing
use Rattle.c_meaning.specs.declared.typed.TypedParts.{TypedParts}
use Rattle.c_programs.specs.Programs.{typing_of, tells_failure}
use Rattle.c_front.specs.declared.fault.SourceFault.{SourceFault}
use Rattle.c_front.specs.declared.fault.SourceFault.TheVariants.{Memory}
use Rattle.c_front.specs.Front.{Spells, IsTypedSource, typing_fault, of_typing}

-- a source has one list of tokens
pub parsed_there : (source : List ℕ) (tokens : List Token) (program : ProgramTree) → tokens_of source ≡ Ok tokens → Spells source program → IsParsed tokens program
parsed_there source tokens program lexed s =
    let same : s.tokens ≡ tokens = cc (lexed, s.lexed) in
    subst (λ tokens. IsParsed tokens program) same s.parsed

-- what is answered of a fault that is want of memory
pub refused : (answer : Result TypedParts SourceFault) (fault : SourceFault) (parts : TypedParts) → IsErrAnd answer (λ told. told ≡ fault) → fault ≡ Memory
    → MatchResult answer (λ found. found ≡ parts) (λ fault. fault ≡ Memory)
refused (Ok found) fault parts told is = absurd told
refused (Err answer) fault parts told is = told ∙ is

by_kind : (kind : TypeKind) (fault : TypeFault) (typed : Result TypedParts TypeFault) (parts : TypedParts) → tells_failure kind fault typed → typed ≡ Ok parts → typing_fault kind fault ≡ Memory
by_kind typing.Unknown fault typed parts told is = absurd (cc (told, is))
by_kind typing.Twice fault typed parts told is = absurd (cc (told, is))
by_kind typing.Mismatch fault typed parts told is = absurd (cc (told, is))
by_kind typing.NotConstant fault typed parts told is = absurd (cc (told, is))
by_kind typing.NoBound fault typed parts told is = absurd (cc (told, is))
by_kind typing.Recursion fault typed parts told is = absurd (cc (told, is))
by_kind typing.PointerForm fault typed parts told is = absurd (cc (told, is))
by_kind typing.NoEntry fault typed parts told is = absurd (cc (told, is))
by_kind typing.Cells fault typed parts told is = absurd (cc (told, is))
by_kind typing.Unroll fault typed parts told is = absurd (cc (told, is))
by_kind typing.Memory fault typed parts told is = refl

-- a program that is typed breaks no rule
pub only_memory : (program other : ProgramTree) (bound : Option ℕ) (fault : TypeFault) (parts : TypedParts) → program ≡ other → tells_failure fault.kind fault (typing_of program bound)
    → typing_of other bound ≡ Ok parts → of_typing fault ≡ Memory
only_memory program other bound fault parts same told is = by_kind fault.kind fault (typing_of program bound) parts told (ap (λ program. typing_of program bound) same ∙ is)

-- and has one typing
pub same_parts : (program other : ProgramTree) (bound : Option ℕ) (found parts : TypedParts) → program ≡ other → typing_of program bound ≡ Ok found → typing_of other bound ≡ Ok parts → found ≡ parts
same_parts program other bound found parts same typed is =
    let both : Ok found ≡ Ok parts = sym typed ∙ ap (λ program. typing_of program bound) same ∙ is in
    cc (both)
