use Rattle.std.proofs.Common.{◌≡◌, ap}
use Rattle.c_reader.specs.declared.faults.SyntaxFault.TheVariants as syntax
use Rattle.c_front.specs.Front.{of_parsing}
use Rattle.c_front.proofs.Whole.{parsed_there, refused, only_memory, same_parts}
use Rattle.c_front.proofs.source.front.Goals as goal

pub returns-in_err-program-clause-whole : goal.returns-in_err-program-clause-whole
returns-in_err-program-clause-whole c = λ parts typed.
    let there = parsed_there _ _ typed.program c.in_ok-tokens.ensures.ok typed.spells in
    let want : c.in_err-program.field-0.0 ≡ syntax.Memory = c.in_err-program.ensures.whole typed.program there.spelled_ there.shallow in
    refused _ _ parts c.from_residual-in_err-program.ensures.1 (ap of_parsing want)

pub returns-in_err-program_parts-clause-whole : goal.returns-in_err-program_parts-clause-whole
returns-in_err-program_parts-clause-whole c = λ parts typed.
    let there = parsed_there _ _ typed.program c.in_ok-tokens.ensures.ok typed.spells in
    let same = c.in_ok-program.ensures.whole typed.program there.spelled_ there.shallow in
    refused _ _ parts c.from_residual-in_err-program_parts.ensures.1 (only_memory _ typed.program c.args.bound c.in_err-program_parts.field-0.0 parts same c.in_err-program_parts.ensures typed.typed)

pub returns-clause-whole : goal.returns-clause-whole
returns-clause-whole c = λ parts typed.
    let there = parsed_there _ _ typed.program c.in_ok-tokens.ensures.ok typed.spells in
    let same = c.in_ok-program.ensures.whole typed.program there.spelled_ there.shallow in
    same_parts _ typed.program c.args.bound _ parts same c.in_ok-program_parts.ensures typed.typed
