use Rattle.c_scan.proofs.Endless.{endless_at}
use Rattle.c_scan.proofs.scanner.endless_from.Goals as goal

pub returns-then-text-index-eq34 : goal.returns-then-text-index-eq34
returns-then-text-index-eq34 c = endless_at c.args.text.now c.args.index c.endless_length.result c.endless_length.ensures.endless
