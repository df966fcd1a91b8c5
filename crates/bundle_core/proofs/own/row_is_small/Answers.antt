use Rattle.std.proofs.Common.{arith}
use Rattle.std.proofs.lemmas.List.{get_or_default}
use Rattle.bundle_core.proofs.own.row_is_small.Goals as goal

pub returns : goal.returns
returns c k d h = omega (arith, c.type_inv.row k, get_or_default c.args.row.now k d 0 h)
