use Rattle.std.proofs.Common.{refl}
use Rattle.c_reader.proofs.Tokening.{taken_good, taken_exit, inner, kind_only}
use Rattle.c_statement.proofs.loops.bound_at.Goals as goal

pub take-requires : goal.take-requires
take-requires c = inner _ (kind_only _ refl) _ _ _ _ c.peek-token.ensures c.is_kind.ensures

pub returns-in_err-take : goal.returns-in_err-take
returns-in_err-take c = taken_exit _ _ _ _ _ _ _ _ _ _ c.peek-token.ensures c.is_kind.ensures c.from_residual.ensures.1 c.in_err-take.ensures

pub returns : goal.returns
returns c = taken_good _ _ _ _ _ _ _ _ c.peek-token.ensures c.is_kind.ensures c.in_ok-take.ensures
