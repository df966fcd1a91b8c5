-- The typed program that a source spells, or the first fault of the source: of all the tokens, then of the syntax, then of the types.
use Rattle.std.specs.Prelude.{◌≡◌, ◌≢◌, ℕ, List, Option, Ok, Err}
use Rattle.c_tree.specs.declared.token.Token.{Token}
use Rattle.c_tree.specs.Programs.{ProgramTree}
use Rattle.c_reader.specs.Firsts.{IsFaultOf}
use Rattle.c_reader.specs.declared.faults.SyntaxFault.{SyntaxFault}
use Rattle.c_reader.specs.declared.faults.SyntaxFault.TheVariants as syntax
use Rattle.c_lex.specs.Lexing.{tokens_of}
use Rattle.c_lex.specs.declared.fault.LexFault.{LexFault}
use Rattle.c_lex.specs.declared.fault.LexKind.{LexKind}
use Rattle.c_lex.specs.declared.fault.LexKind.TheVariants as lexing
use Rattle.c_syntax.specs.Outcome.{IsParsed}
use Rattle.c_syntax.specs.Programs.{ProgramAt}
use Rattle.c_conversions.specs.declared.fault.TypeFault.{TypeFault}
use Rattle.c_conversions.specs.declared.fault.TypeKind.{TypeKind}
use Rattle.c_conversions.specs.declared.fault.TypeKind.TheVariants as typing
use Rattle.c_meaning.specs.declared.typed.TypedParts.{TypedParts}
use Rattle.c_programs.specs.Programs.{typing_of}
use Rattle.c_front.specs.declared.fault.SourceFault.{SourceFault}
use Rattle.c_front.specs.declared.fault.SourceFault.TheVariants.{Lex, Syntax, Types, Memory}

-- the source's tokens are those of the program
pub record Spells (source : List ℕ) (program : ProgramTree) : Type 0 where
  pub tokens : List Token
  pub lexed : tokens_of source ≡ Ok tokens
  pub parsed : IsParsed tokens program

-- the program of the source is typed, with the bound for loops that have none of their own
pub record IsTypedSource (source : List ℕ) (bound : Option ℕ) (parts : TypedParts) : Type 0 where
  pub program : ProgramTree
  pub spells : Spells source program
  pub typed : typing_of program bound ≡ Ok parts

-- the source has tokens, and they are of no program for this reason
pub record IsNoProgram (source : List ℕ) (fault : SyntaxFault) : Type 0 where
  pub tokens : List Token
  pub lexed : tokens_of source ≡ Ok tokens
  pub first : IsFaultOf ProgramAt tokens fault

-- the program of the source breaks this rule of types first
pub record IsIllTyped (source : List ℕ) (bound : Option ℕ) (fault : TypeFault) : Type 0 where
  pub program : ProgramTree
  pub spells : Spells source program
  pub typed : typing_of program bound ≡ Err fault

-- the first fault of the source
abbrev pub IsSourceFault : List ℕ → Option ℕ → SourceFault → Type 0
IsSourceFault source bound (Lex fault) = (fault.kind ≢ lexing.Memory) × (tokens_of source ≡ Err fault)
IsSourceFault source bound (Syntax fault) = (fault ≢ syntax.Memory) × IsNoProgram source fault
IsSourceFault source bound (Types fault) = (fault.kind ≢ typing.Memory) × IsIllTyped source bound fault
IsSourceFault source bound Memory = Unit {0}

-- ---- faults of the parts, as those of the source

abbrev pub lexing_fault : LexKind → LexFault → SourceFault
lexing_fault lexing.Memory fault = Memory
lexing_fault kind fault = Lex fault

abbrev pub of_lexing : LexFault → SourceFault
of_lexing fault = lexing_fault fault.kind fault

abbrev pub of_parsing : SyntaxFault → SourceFault
of_parsing syntax.Memory = Memory
of_parsing fault = Syntax fault

abbrev pub typing_fault : TypeKind → TypeFault → SourceFault
typing_fault typing.Memory fault = Memory
typing_fault kind fault = Types fault

abbrev pub of_typing : TypeFault → SourceFault
of_typing fault = typing_fault fault.kind fault
