use Rattle.std.proofs.Common.{◌≡◌, ◌++◌, map, take}
use Rattle.clap.specs.Words.{app_of}
use Rattle.hy_words.specs.Commands.{syntax_of}
use Rattle.hy_words.specs.Parser.{app_with, option_rule, positional_rule}
use Rattle.hy_words.proofs.matches.parser_of.Given as goal

-- the arguments so far are those of the names so far
abbrev pub invariant-loop-positional : goal.invariant-loop-positional
invariant-loop-positional l =
    app_of l.parser ≡ app_with l.name (map (λ n. positional_rule n.now) (take l.positional-index l.positional-items))

abbrev pub invariant-loop-option : goal.invariant-loop-option
invariant-loop-option l =
    app_of l.parser
    ≡ app_with l.name (map positional_rule (syntax_of l.fn.command).positionals ++ map (λ n. option_rule n.now) (take l.option-index l.option-items))
