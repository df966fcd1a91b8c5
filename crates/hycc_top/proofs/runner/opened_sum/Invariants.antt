use Rattle.std.proofs.Common.{◌<◌, ◌^◌, take}
use Rattle.std.specs.Prelude.{sum_by}
use Rattle.hycc_top.specs.Source.{term_value}
use Rattle.hycc_top.specs.Shares.{Stand}
use Rattle.hycc_top.proofs.runner.opened_sum.Given as goal

abbrev pub invariant-loop-term : goal.invariant-loop-term
invariant-loop-term g l = (l.sum.0 < 2 ^ 32) × (l.sum.1.0 < 2 ^ 32) × Stand l.sum.0 l.sum.1.0 (sum_by (term_value l.fn.x l.fn.y) (take l.term-index l.terms))
