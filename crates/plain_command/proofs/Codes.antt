-- The statuses of the command.
use Rattle.std.proofs.Common.{◌≡◌, ◌≢◌, ℕ, ◌≤◌, ◌⊎◌, inl, inr, List, Option, refl, arith}
use Rattle.hy_io.specs.Outside.{Store}
use Rattle.c_lex.specs.declared.fault.LexKind.{LexKind}
use Rattle.c_lex.specs.declared.fault.LexKind.TheVariants as lexing
use Rattle.c_reader.specs.declared.faults.SyntaxFault.{SyntaxFault}
use Rattle.c_reader.specs.declared.faults.SyntaxFault.TheVariants as syntax
use Rattle.c_conversions.specs.declared.fault.TypeKind.{TypeKind}
use Rattle.c_conversions.specs.declared.fault.TypeKind.TheVariants as typing
use Rattle.c_front.specs.declared.fault.SourceFault.{SourceFault}
use Rattle.c_front.specs.declared.fault.SourceFault.TheVariants.{Lex, Syntax, Types, Memory}
use Rattle.c_front.specs.Front.{IsSourceFault}
use Rattle.command_io.specs.Reading.{IsFileFault}
use Rattle.fault_lines.specs.Faults.{lexing_code, typing_code, syntax_code, source_code}
use Rattle.plain_command.specs.Endings.{IsAnswer, IsPlainEnding}

of_lexing : (kind : LexKind) → lexing_code kind ≤ 6
of_lexing lexing.BadByte = omega arith
of_lexing lexing.BadLiteral = omega arith
of_lexing lexing.OpenComment = omega arith
of_lexing lexing.Directive = omega arith
of_lexing lexing.LateMacro = omega arith
of_lexing lexing.Tokens = omega arith
of_lexing lexing.Memory = omega arith

of_typing : (kind : TypeKind) → typing_code kind ≤ 6
of_typing typing.Unknown = omega arith
of_typing typing.Twice = omega arith
of_typing typing.Mismatch = omega arith
of_typing typing.NotConstant = omega arith
of_typing typing.NoBound = omega arith
of_typing typing.Recursion = omega arith
of_typing typing.PointerForm = omega arith
of_typing typing.NoEntry = omega arith
of_typing typing.Cells = omega arith
of_typing typing.Unroll = omega arith
of_typing typing.Memory = omega arith

of_parsing : (fault : SyntaxFault) → fault ≢ syntax.Memory → syntax_code fault ≤ 6
of_parsing (syntax.Expected place) known = omega arith
of_parsing (syntax.Construct word place) known = omega arith
of_parsing (syntax.Deep place) known = omega arith
of_parsing syntax.Memory known = absurd (known refl)

of_source : (source : List ℕ) (bound : Option ℕ) (fault : SourceFault) → fault ≢ Memory → IsSourceFault source bound fault → source_code fault ≤ 6
of_source source bound (Lex fault) known first = of_lexing fault.kind
of_source source bound (Syntax fault) known first = of_parsing fault first.0
of_source source bound (Types fault) known first = of_typing fault.kind
of_source source bound Memory known first = absurd (known refl)

of_answer : (source : List ℕ) (bound : Option ℕ) (a b : List ℕ) (code : ℕ) (line : List ℕ) → IsAnswer source bound a b code line → code ≤ 6
of_answer source bound a b code line (inl bad) = let few = of_source source bound bad.fault bad.known bad.first in omega (arith, bad.status, few)
of_answer source bound a b code line (inr (inl bad)) = omega (arith, bad.status)
of_answer source bound a b code line (inr (inr run)) = omega (arith, run.status)

of_file : (store : Option Store) (before after : List ℕ → ℕ) (name : List ℕ) (most refusal code : ℕ) (line : List ℕ) → refusal ≤ 6 → IsFileFault store before after name most refusal code line → code ≤ 6
of_file store before after name most refusal code line few (inl (two, rose, told)) = omega (arith, two)
of_file store before after name most refusal code line few (inr (is, long, told)) = omega (arith, is, few)

-- each status but those of the sink and of memory is at most 6
pub few_codes : (store : Option Store) (before after : List ℕ → ℕ) (source a b : List ℕ) (bound : Option ℕ) (code : ℕ) (line : List ℕ) → IsPlainEnding store before after source a b bound code line → code ≤ 6
few_codes store before after source a b bound code line (inl fault) = of_file store before after source _ 3 code line (omega arith) fault
few_codes store before after source a b bound code line (inr (s, held, inl fault)) = of_file store before after a _ 6 code line (omega arith) fault
few_codes store before after source a b bound code line (inr (s, held, inr (x, held_a, inl fault))) = of_file store before after b _ 6 code line (omega arith) fault
few_codes store before after source a b bound code line (inr (s, held, inr (x, held_a, inr (y, held_b, answer)))) = of_answer s bound x y code line answer
