use Rattle.c_reader.proofs.Gathering.{gives_gathered}
use Rattle.c_reader.proofs.lists.many.Goals as goal

pub returns : goal.returns
returns g c = λ test part tests reads. gives_gathered _ _ _ _ c.new.ensures (c.many_after.ensures test part tests reads)
