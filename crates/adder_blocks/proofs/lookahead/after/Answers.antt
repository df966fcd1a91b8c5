use Rattle.std.proofs.lemmas.Result.{err_from_is_err_and}
use Rattle.std.proofs.Common.{◌+◌, Bool, map, List, [], ◌∷◌, ◌++◌, get_or, take, sym, ap, ◌∙◌, arith, ◌*◌, length}
use Rattle.gate_net.proofs.GrowthLaws.{Grows-then, Grows-weaken, StopsWithin-after}
use Rattle.gate_net.proofs.ListLaws.{equal_push}
use Rattle.std.proofs.lemmas.List.{map_more, map_push}
use Rattle.std.proofs.lemmas.List.Elements.{All-push}
use Rattle.adder_blocks.specs.declared.lookahead.Cell.{Cell}
use Rattle.adder_blocks.specs.Cells.{CellStands, CellWithin, carried}
use Rattle.adder_blocks.proofs.CellLaws.{carried-Grows, CellWithin-Grows, All-CellStands-Grows, All-CellWithin-Grows, map_carried-Grows}
use Rattle.adder_blocks.proofs.lookahead.after.Goals as goal

pub loop-cell-preserved : goal.loop-cell-preserved
loop-cell-preserved c =
    let p = c.loop-cell.invariant.0 in
    let q = c.in_ok-both.ensures.grows in
    let n = c.args.net.now in
    let x : Cell = get_or c.args.cells.now c.loop-cell.cell-index (record { generate = record { code = 0 }; propagate = record { code = 0 } }) in
    let stands = c.requires.first c.loop-cell.cell-index (record { generate = record { code = 0 }; propagate = record { code = 0 } }) c.loop-cell-test.true in
    rw c.in_ok-push.ensures.items (
      Grows-then p q (omega arith) (omega arith),
      All-push (CellStands c.compose.new.net) c.loop-cell.out.items c.in_ok-both.both (All-CellStands-Grows q c.loop-cell.out.items c.loop-cell.invariant.1) c.in_ok-both.ensures.stands,
      (λ bits s.
          map_push (carried c.compose.new.net bits s) c.loop-cell.out.items c.in_ok-both.both
          ∙ ap (λ (xs : List Bool). xs ++ carried c.compose.new.net bits s c.in_ok-both.both ∷ []) (map_carried-Grows q bits s c.loop-cell.out.items c.loop-cell.invariant.1 ∙ c.loop-cell.invariant.2 bits s)
          ∙ equal_push (map (carried n bits (carried n bits s c.args.low)) (take c.loop-cell.cell-index c.args.cells.now))
          (c.in_ok-both.ensures.value bits s
          ∙ ap (λ (t : Bool). carried c.loop-cell.net bits t x) (carried-Grows p bits s c.args.low c.requires.second)
          ∙ carried-Grows p bits (carried n bits s c.args.low) x stands)
          ∙ sym (map_more (carried n bits (carried n bits s c.args.low)) c.args.cells.now c.loop-cell.cell-index (record { generate = record { code = 0 }; propagate = record { code = 0 } }) c.loop-cell-test.true)),
      (λ d all low.
          All-push (CellWithin c.compose.new.net (d + 1)) c.loop-cell.out.items c.in_ok-both.both
          (All-CellWithin-Grows q (d + 1) c.loop-cell.out.items c.loop-cell.invariant.1 (c.loop-cell.invariant.3 d all low))
          (c.in_ok-both.ensures.level d (CellWithin-Grows p d x stands (all c.loop-cell.cell-index (record { generate = record { code = 0 }; propagate = record { code = 0 } }) c.loop-cell-test.true)) (CellWithin-Grows p d c.args.low c.requires.second low))),
    )

pub returns-in_err-both-clause-grows : goal.returns-in_err-both-clause-grows
returns-in_err-both-clause-grows c = Grows-then c.loop-cell.invariant.0 c.in_err-both.ensures.grows (omega arith) (omega arith)

pub returns-in_err-both-clause-stops : goal.returns-in_err-both-clause-stops
returns-in_err-both-clause-stops c =
    let p = err_from_is_err_and c.from_residual.result c.from_residual.ensures.1 in
    rw (p.1, p.2) (StopsWithin-after c.compose.new.net 3 (3 * length c.args.cells.now) _ c.loop-cell.invariant.0 c.in_err-both.ensures.stops (omega arith))

pub returns-in_err-push-clause-grows : goal.returns-in_err-push-clause-grows
returns-in_err-push-clause-grows c = Grows-then c.loop-cell.invariant.0 c.in_ok-both.ensures.grows (omega arith) (omega arith)

pub returns-clause-grows : goal.returns-clause-grows
returns-clause-grows c = Grows-weaken c.loop-cell.invariant.0 (omega arith) (omega arith)
