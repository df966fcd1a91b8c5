use Rattle.std.proofs.lemmas.Result.{err_from_is_err_and}
use Rattle.std.proofs.Common.{◌+◌, ◌<◌, ◌&&◌, false, length, get_or, sym, ◌∙◌, arith}
use Rattle.std.proofs.lemmas.List.{length-map, length_push, map_more}
use Rattle.gate_net.specs.Meaning.{value}
use Rattle.gate_net.proofs.GrowthLaws.{Grows-value, Grows-level, Grows-then, Grows-weaken, StopsWithin-after}
use Rattle.gate_net.specs.Spelled.{values}
use Rattle.gate_net.proofs.ListLaws.{Progress-push, AllWithin-push, equal_two, get_or-values}
use Rattle.mul_blocks.proofs.rows.row.Goals as goal

pub loop-x-preserved : goal.loop-x-preserved
loop-x-preserved c =
    let p = c.loop-x.invariant.0 in
    let q = c.in_ok-both.ensures.grows in
    let n = c.args.net.now in
    let i = c.loop-x.x-index in
    let at : c.loop-x.x-index < length c.args.word.now = c.loop-x-test.true in
    rw c.in_ok-push.ensures.items (
      Progress-push c.in_ok-both.both
          (λ bits. value n bits c.args.digit && get_or (values n bits c.args.word.now) i false)
          p q c.in_ok-both.ensures.stands
          (λ bits. c.in_ok-both.ensures.value bits
          ∙ equal_two (λ x y. x && y) (Grows-value p.grows bits c.args.digit c.requires.digit)
          (Grows-value p.grows bits (get_or c.args.word.now i (record { code = 0 })) (c.requires.word i (record { code = 0 }) at) ∙ sym (get_or-values n bits c.args.word.now i (record { code = 0 }) false at)))
          (λ bits. map_more (λ x. value n bits c.args.digit && x) (values n bits c.args.word.now) i false (omega (arith, length-map c.args.word.now (value n bits))))
          (omega arith) (omega arith),
      λ d low digit. AllWithin-push (d + 1) c.loop-x.out.items c.in_ok-both.both q p.stands (c.loop-x.invariant.1 d low digit)
          (omega (
            arith,
            c.in_ok-both.ensures.level,
            digit,
            Grows-level p.grows c.args.digit c.requires.digit,
            Grows-level p.grows _ (c.requires.word i (record { code = 0 }) at),
            low i (record { code = 0 }) at,
          )),
      omega (arith, length_push c.loop-x.out.items c.in_ok-both.both),
    )

pub returns-in_err-both-clause-grows : goal.returns-in_err-both-clause-grows
returns-in_err-both-clause-grows c = Grows-then c.loop-x.invariant.0.grows c.in_err-both.ensures.grows (omega arith) (omega arith)

pub returns-in_err-both-clause-stops : goal.returns-in_err-both-clause-stops
returns-in_err-both-clause-stops c =
    let p = err_from_is_err_and c.from_residual.result c.from_residual.ensures.1 in
    rw (p.1, p.2) (StopsWithin-after c.and.new.self 1 (length c.args.word.now) _ c.loop-x.invariant.0.grows c.in_err-both.ensures.stops (omega arith))

pub returns-in_err-push-clause-grows : goal.returns-in_err-push-clause-grows
returns-in_err-push-clause-grows c = Grows-then c.loop-x.invariant.0.grows c.in_ok-both.ensures.grows (omega arith) (omega arith)

pub returns-clause-grows : goal.returns-clause-grows
returns-clause-grows c = Grows-weaken c.loop-x.invariant.0.grows (omega arith) (omega arith)
