use Rattle.std.proofs.Common.{inl, [], ◌∷◌}
use Rattle.hycc_top.proofs.Inputs.{suffix_of}
use Rattle.hycc_top.proofs.input.without_newline.Goals as goal

pub returns-in-Some : goal.returns-in-Some
returns-in-Some c = inl (rw c.in-Some.is at (suffix_of c.args.bytes.now (10 ∷ []) c.strip_suffix.result c.strip_suffix.ensures.cases))
