-- What is answered of a source and two inputs.
use Rattle.std.proofs.Common.{◌≡◌, ◌≢◌, ℕ, ◌⊎◌, inl, inr, List, Option, Ok, Err, refl, sym, ap, ◌∙◌, subst}
use Rattle.std.specs.String.{string_bytes}
use Rattle.c_meaning.specs.declared.typed.TypedParts.{TypedParts}
use Rattle.c_meaning.specs.declared.values.Run.{Run}
use Rattle.c_meaning.specs.Programs.{outcome}
use Rattle.c_front.specs.Front.{IsTypedSource}
use Rattle.json_values.specs.declared.fault.InputFault.{InputFault}
use Rattle.json_values.specs.declared.fault.InputKind.{InputKind}
use Rattle.json_values.specs.declared.fault.InputKind.TheVariants as input
use Rattle.json_values.specs.File.{both_words, Tells}
use Rattle.command_io.specs.declared.status.Stop.{Stop}
use Rattle.command_io.specs.declared.status.Stop.TheVariants.{Fault, Memory}
use Rattle.command_io.specs.Ends.{OnLine}
use Rattle.fault_lines.specs.Faults.{input_line}
use Rattle.plain_command.specs.Lines.{plain_line}
use Rattle.plain_command.specs.Endings.{IsAnswer}

-- the end of inputs that have a fault
pub bad_input : (source : List ℕ) (bound : Option ℕ) (a b : List ℕ) (parts : TypedParts) (fault : InputFault) (stop : Stop) → IsTypedSource source bound parts
    → (fault.fault ≢ input.Memory → both_words parts.ports a b ≡ Err fault)
    → OnLine stop (λ code line. (fault.fault ≢ input.Memory) × (code ≡ 6) × (line ≡ input_line fault)) → OnLine stop (IsAnswer source bound a b)
bad_input source bound a b parts fault (Fault line) typed first (known, status, told) =
    inr (inl (record { parts = parts; typed = typed; fault = fault; known = known; first = first known; status = status; told = told }))
bad_input source bound a b parts fault Memory typed first told = tt

-- the end of a run
pub is_run : (source : List ℕ) (bound : Option ℕ) (a b : List ℕ) (parts : TypedParts) (words line : List ℕ) (run : Run) → IsTypedSource source bound parts → both_words parts.ports a b ≡ Ok words
    → run ≡ outcome parts words → line ≡ plain_line parts.result run → IsAnswer source bound a b 0 line
is_run source bound a b parts words line run typed said is told =
    inr (inr (record { parts = parts; typed = typed; words = words; said = said; status = refl; told = told ∙ ap (plain_line parts.result) is }))

-- a kind of fault that is none of the others
memory_alone : (kind : InputKind) → (kind ≢ input.Memory → ⊥) → kind ≡ input.Memory
memory_alone input.Json none = absurd (none (λ is. absurd (cc (is))))
memory_alone input.Missing none = absurd (none (λ is. absurd (cc (is))))
memory_alone input.Extra none = absurd (none (λ is. absurd (cc (is))))
memory_alone input.Shape none = absurd (none (λ is. absurd (cc (is))))
memory_alone input.NotWhole none = absurd (none (λ is. absurd (cc (is))))
memory_alone input.Range none = absurd (none (λ is. absurd (cc (is))))
memory_alone input.Memory none = refl

-- inputs that say words have no fault
pub no_fault : (a b : List ℕ) (parts other : TypedParts) (words : List ℕ) (fault : InputFault) → parts ≡ other → both_words other.ports a b ≡ Ok words
    → (fault.fault ≢ input.Memory → both_words parts.ports a b ≡ Err fault) → fault.fault ≡ input.Memory
no_fault a b parts other words fault same said first =
    let here : both_words parts.ports a b ≡ Ok words = ap (λ (parts : TypedParts). both_words parts.ports a b) same ∙ said in
    memory_alone fault.fault (λ known. let bad = first known in absurd (cc (here, bad)))
