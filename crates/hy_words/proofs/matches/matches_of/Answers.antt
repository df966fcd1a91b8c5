use Rattle.hy_words.proofs.ClapMatches.{parsed, refused, simple_and_free}
use Rattle.clap.specs.Words.{App, is_simple_and_free}
use Rattle.std.proofs.Common.{ap, ◌∙◌}
use Rattle.hy_words.proofs.matches.matches_of.Goals as goal

pub returns-in-Ok-clause-ok : goal.returns-in-Ok-clause-ok
returns-in-Ok-clause-ok c =
    let made = c.in_ok-parser.ensures in
    parsed _ c.args.command c.args.words.now _ c.requires made c.in-Ok.matches c.in-Ok.ensures.matches
    (c.in-Ok.ensures.kinds (ap (λ (a : App). is_simple_and_free a) made ∙ simple_and_free c.as_str.result.now c.args.command))

pub returns-in-Err-clause-none : goal.returns-in-Err-clause-none
returns-in-Err-clause-none c is =
    let made = c.in_ok-parser.ensures in
    refused _ c.args.command c.args.words.now _ c.requires made c.in-Err.error
    (c.in-Err.ensures.kinds (ap (λ (a : App). is_simple_and_free a) made ∙ simple_and_free c.as_str.result.now c.args.command))
    (λ memory. c.fault_of.ensures (cc) (c.kind.ensures ∙ memory))
