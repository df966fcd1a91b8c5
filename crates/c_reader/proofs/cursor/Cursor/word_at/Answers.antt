use Rattle.std.proofs.Common.{refl}
use Rattle.c_reader.proofs.Tokening.{taken_good, taken_exit, inner, spelled_only}
use Rattle.c_reader.proofs.cursor.Cursor.word_at.Goals as goal

pub take-requires : goal.take-requires
take-requires c = inner _ (spelled_only _ _ refl) _ _ _ _ c.peek-token.ensures c.is_word.ensures

pub returns-in_err-take : goal.returns-in_err-take
returns-in_err-take c = taken_exit _ _ _ _ _ _ _ _ _ _ c.peek-token.ensures c.is_word.ensures c.from_residual.ensures.1 c.in_err-take.ensures

pub returns : goal.returns
returns c = taken_good _ _ _ _ _ _ _ _ c.peek-token.ensures c.is_word.ensures c.in_ok-take.ensures
