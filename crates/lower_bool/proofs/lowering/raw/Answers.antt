use Rattle.module_split.proofs.ModuleLaws.{IsPiece-of}
use Rattle.lower_bool.proofs.lowering.raw.Goals as goal

pub raw_part-requires-clause-piece : goal.raw_part-requires-clause-piece
raw_part-requires-clause-piece c = rw (c.as_slice.ensures, c.as_slice-2.ensures, c.as_slice-3.ensures) (IsPiece-of c.args.graph.now c.args.part.now c.entries-entries.ensures.graph c.requires.part)

pub returns-clause-limit : goal.returns-clause-limit
returns-clause-limit c = rw c.as_slice.ensures at c.raw_part.ensures.limit
