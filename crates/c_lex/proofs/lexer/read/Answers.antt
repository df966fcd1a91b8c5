use Rattle.std.proofs.Common.{◌≡◌, ◌+◌, ◌-◌, ◌∷◌, take, drop, suc, ap, sym, ◌∙◌, arith, add-one}
use Rattle.std.proofs.Math.Seq.{drop-cons}
use Rattle.std.proofs.lemmas.List.{take_rest}
use Rattle.std.proofs.lemmas.Result.{err_from_is_err_and}
use Rattle.c_scan.specs.declared.piece.Piece.TheVariants as piece
use Rattle.c_lex.specs.Lines.{lines_of}
use Rattle.c_lex.specs.Directives.{step, steps, and_then}
use Rattle.c_lex.specs.Inner.{read_of}
use Rattle.c_lex.proofs.ReadSteps.{fails_then, line-ends, line-last, inside-more, inside_of}
use Rattle.c_lex.proofs.lexer.read.Goals as goal
use Rattle.c_lex.proofs.lexer.read.Goals.{in-Line+in_ok-reader, in_default}

pub returns-in_err-reader : goal.returns-in_err-reader
returns-in_err-reader c =
    let pieces = c.args.pieces.now in
    let here : drop c.loop-index.index pieces ≡ piece.Line ∷ drop (c.loop-index.index + 1) pieces =
    rw add-one (drop-cons pieces c.loop-index.index c.index-pieces-index.result c.loop-index-test.true ∙ ap (λ p. p ∷ drop (suc c.loop-index.index) pieces) (sym c.index-pieces-index.is ∙ c.in-Line.is)) in
    let ends = line-ends (read_of c.loop-index.reader) pieces c.loop-index.start c.loop-index.index c.loop-index.invariant.within c.loop-index-test.true here c.loop-index.invariant.line in
    let p = err_from_is_err_and c.from_residual.result c.from_residual.ensures.1 in
    rw (p.1, c.loop-index.invariant.so_far, ends) (fails_then p.0.kind p.0 (step (read_of c.loop-index.reader) (take (c.loop-index.index - c.loop-index.start) (drop c.loop-index.start pieces))) (λ after. steps after (lines_of (drop (c.loop-index.index + 1) pieces))) (rw p.2 c.in_err-reader.ensures))

pub loop-index-preserved : goal.loop-index-preserved
loop-index-preserved c =
    elim c.match-piece.branch [
      | in-Line+in_ok-reader w ↦
          let pieces = c.args.pieces.now in
          let here : drop c.loop-index.index pieces ≡ piece.Line ∷ drop (c.loop-index.index + 1) pieces =
          rw add-one (drop-cons pieces c.loop-index.index c.index-pieces-index.result c.loop-index-test.true ∙ ap (λ p. p ∷ drop (suc c.loop-index.index) pieces) (sym c.index-pieces-index.is ∙ w.in-Line.is)) in
          let ends = line-ends (read_of c.loop-index.reader) pieces c.loop-index.start c.loop-index.index c.loop-index.invariant.within c.loop-index-test.true here c.loop-index.invariant.line in
          let so_far = c.loop-index.invariant.so_far ∙ (ends ∙ ap (λ found. and_then found (λ after. steps after (lines_of (drop (c.loop-index.index + 1) pieces)))) w.in_ok-reader.ensures) in
          record { so_far = rw (w.reader-is, w.start-is) so_far; within = rw w.start-is (omega arith); line = rw w.start-is (omega arith) }
      | in_default w ↦ record { so_far = rw (w.reader-is, w.start-is) c.loop-index.invariant.so_far; within = rw w.start-is (omega arith); line = rw w.start-is (inside-more c.args.pieces.now c.loop-index.start c.loop-index.index c.index-pieces-index.result c.index-pieces-index.result c.loop-index.invariant.within c.loop-index-test.true c.index-pieces-index.is (inside_of c.index-pieces-index.result w.in_default.not-Line) c.loop-index.invariant.line) }
    ]

pub returns : goal.returns
returns c =
    let pieces = c.args.pieces.now in
    let last = line-last (read_of c.loop-index.reader) pieces c.loop-index.start c.loop-index.index c.loop-index.invariant.within c.loop-index-test.false c.loop-index.auto.index-end c.loop-index.invariant.line in
    rw (c.loop-index.invariant.so_far, last, ← take_rest pieces c.loop-index.start) c.line-2.ensures
