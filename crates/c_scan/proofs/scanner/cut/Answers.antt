use Rattle.std.proofs.Common.{◌≡◌, ℕ, ◌+◌, ◌-◌, take, length, List, [], ◌∷◌, ◌++◌, drop, get_or, sym, ap, ◌∙◌, arith}
use Rattle.c_scan.specs.declared.piece.Piece.{Piece}
use Rattle.c_scan.specs.declared.piece.Front.TheVariants as front
use Rattle.c_scan.specs.Pieces.{after, front_of, cut_of, cut_from}
use borrow.Author.Tests.{ltb-true}
use Rattle.c_scan.specs.Lengths.{AreEndless}
use Rattle.c_scan.proofs.Endless.{endless_here}
use Rattle.c_scan.proofs.Longest.{front_of-is}
use Rattle.c_scan.proofs.Scanning.{joined, rest-cons, slice-cons, after-near, scan_inside, scan_blank, scan_piece, scan_unclosed}
use Rattle.c_scan.proofs.scanner.cut.Goals as goal
use Rattle.c_scan.proofs.scanner.cut.Goals.{then-inside-gt0, else-inside-gt0+in_ok-count+in-Blank, else-inside-gt0+in_ok-count+in-Piece+in_ok-push-in-Piece}

pub returns-in-Unclosed : goal.returns-in-Unclosed
returns-in-Unclosed c =
    let text : List ℕ = c.args.text.now in
    let pieces : List Piece = c.loop-index.pieces.items in
    let byte : ℕ = get_or c.args.text.now c.loop-index.index 0 in
    let rest : List ℕ = drop (c.loop-index.index + 1) c.args.text.now in
    let at = c.loop-index.place in
    let cut : drop c.loop-index.index text ≡ byte ∷ rest = rest-cons text c.loop-index.index (omega arith) in
    let here = slice-cons text c.loop-index.index (omega arith) in
    let so_far : cut_of text ≡ joined pieces (cut_from c.loop-index.inside at (byte ∷ rest)) = c.loop-index.invariant.0 ∙ ap (λ t. joined pieces (cut_from c.loop-index.inside at t)) cut in
    let begins : front_of at (byte ∷ rest) ≡ front.Unclosed = ap (front_of at) (sym here) ∙ (front_of-is at (take (length text - c.loop-index.index) (drop c.loop-index.index text)) ∙ (sym c.in_ok-count.ensures ∙ c.in-Unclosed.is)) in
    record { pieces = scan_unclosed (cut_of text) pieces c.loop-index.inside at byte rest c.if-inside-gt0.false begins so_far }

pub loop-index-preserved : goal.loop-index-preserved
loop-index-preserved c =
    let text : List ℕ = c.args.text.now in
    let pieces : List Piece = c.loop-index.pieces.items in
    let byte : ℕ = get_or c.args.text.now c.loop-index.index 0 in
    let rest : List ℕ = drop (c.loop-index.index + 1) c.args.text.now in
    let at = c.loop-index.place in
    let inside = c.loop-index.inside in
    let cut : drop c.loop-index.index text ≡ byte ∷ rest = rest-cons text c.loop-index.index (omega arith) in
    let here = slice-cons text c.loop-index.index (omega arith) in
    let so_far : cut_of text ≡ joined pieces (cut_from inside at (byte ∷ rest)) = c.loop-index.invariant.0 ∙ ap (λ t. joined pieces (cut_from inside at t)) cut in
    let scanned : cut_of text ≡ joined c.if-inside-gt0.pieces.items (cut_from c.if-inside-gt0.inside (after at byte) rest) =
    elim c.if-inside-gt0.branch [
      | then-inside-gt0 w ↦ rw (w.pieces-is, w.inside-is) (scan_inside (cut_of text) pieces inside at byte rest w.if-inside-gt0.true so_far)
      | else-inside-gt0+in_ok-count+in-Blank w ↦
          let begins : front_of at (byte ∷ rest) ≡ front.Blank w.in-Blank.count = ap (front_of at) (sym here) ∙ (front_of-is at (take (length text - c.loop-index.index) (drop c.loop-index.index text)) ∙ (sym w.in_ok-count.ensures ∙ w.in-Blank.is)) in
          rw (w.pieces-is, w.inside-is, w.saturating_sub-inside.ensures) (scan_blank (cut_of text) pieces inside at byte rest w.in-Blank.count w.if-inside-gt0.false begins so_far)
      | else-inside-gt0+in_ok-count+in-Piece+in_ok-push-in-Piece w ↦
          let begins : front_of at (byte ∷ rest) ≡ front.Piece w.in-Piece.piece w.in-Piece.count = ap (front_of at) (sym here) ∙ (front_of-is at (take (length text - c.loop-index.index) (drop c.loop-index.index text)) ∙ (sym w.in_ok-count.ensures ∙ w.in-Piece.is)) in
          let items : c.if-inside-gt0.pieces.items ≡ pieces ++ w.in-Piece.piece ∷ [] = ap (λ v. v.items) w.pieces-is ∙ w.in_ok-push-in-Piece.ensures.items in
          rw (items, w.inside-is, w.saturating_sub-inside-in-Piece.ensures) (scan_piece (cut_of text) pieces inside at byte rest w.in-Piece.piece w.in-Piece.count w.if-inside-gt0.false begins so_far)
    ] in
    let known : AreEndless text (c.loop-index.index + 1) c.if-inside-gt0.endless =
    elim c.if-inside-gt0.branch [
      | then-inside-gt0 w ↦ rw w.endless-is (λ at from. c.loop-index.invariant.3 at (omega arith))
      | else-inside-gt0+in_ok-count+in-Blank w ↦ rw w.endless-is (λ at from. w.endless_from-endless.ensures at (omega arith))
      | else-inside-gt0+in_ok-count+in-Piece+in_ok-push-in-Piece w ↦ rw w.endless-is (λ at from. w.endless_from-endless.ensures at (omega arith))
    ] in
    let near = after-near at byte (c.loop-index.index + 1) (c.loop-index.invariant.1, c.loop-index.invariant.2) in
    (rw c.after-place.ensures scanned, rw c.after-place.ensures near.0, rw c.after-place.ensures near.1, known)

pub endless_from-endless-requires-clause-known : goal.endless_from-endless-requires-clause-known
endless_from-endless-requires-clause-known c = c.loop-index.invariant.3

pub front_of-requires-clause-endless : goal.front_of-requires-clause-endless
front_of-requires-clause-endless c = λ before. endless_here c.args.text.now c.loop-index.index c.endless_from-endless.result (ltb-true _ _ before) c.endless_from-endless.ensures
