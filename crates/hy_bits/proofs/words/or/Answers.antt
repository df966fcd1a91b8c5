use Rattle.std.proofs.lemmas.Nat.{or_lt}
use Rattle.hy_bits.specs.Words.{bits}
use Rattle.hy_bits.proofs.words.or.Goals as goal

pub returns-clause-word : goal.returns-clause-word
returns-clause-word c = or_lt (bits c.args.w) c.args.a c.args.b c.requires.a c.requires.b
