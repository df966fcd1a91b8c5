use Rattle.std.proofs.Common.{◌≡◌, drop}
use Rattle.c_typing.specs.Expressions.{arguments_typing}
use Rattle.c_typing.proofs.ArgumentLaws.{exprs_after}
use Rattle.c_typing.proofs.calling.arguments.Given as goal

abbrev pub invariant-loop-parameter : goal.invariant-loop-parameter
invariant-loop-parameter l =
    exprs_after l.found (arguments_typing l.bracket (drop l.parameter-index l.parameters) l.values.items l.env)
    ≡ arguments_typing l.fn.bracket l.fn.parameters l.fn.values.items l.fn.env
