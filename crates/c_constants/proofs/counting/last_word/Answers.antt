use Rattle.std.proofs.Common.{◌∙◌, sym, ap}
use Rattle.c_meaning.specs.Counting.{start_word}
use Rattle.c_constants.proofs.Turns.{last_is}
use Rattle.c_constants.proofs.counting.last_word.Goals as goal

pub returns-in-len1-up : goal.returns-in-len1-up
returns-in-len1-up c =
    c.part_word.ensures ∙ ap start_word (sym (last_is c.args.parts.now c.last-item.result c.in-len1-up.len_at_least c.last-item.is))
