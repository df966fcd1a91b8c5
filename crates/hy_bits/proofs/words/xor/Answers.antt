use Rattle.std.proofs.lemmas.Nat.{xor_lt}
use Rattle.hy_bits.specs.Words.{bits}
use Rattle.hy_bits.proofs.words.xor.Goals as goal

pub returns-clause-word : goal.returns-clause-word
returns-clause-word c = xor_lt (bits c.args.w) c.args.a c.args.b c.requires.a c.requires.b
