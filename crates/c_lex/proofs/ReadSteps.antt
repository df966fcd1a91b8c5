-- One more line of a text.
use Rattle.std.proofs.Common.{◌≡◌, ℕ, suc, ◌+◌, ◌-◌, ◌<◌, ◌≤◌, List, [], ◌∷◌, length, take, drop, get_or, Result, Ok, Err, refl, ap, sym, ◌∙◌, arith, add-one, true, length-drop}
use Rattle.std.proofs.Math.Seq.{drop-cons}
use Rattle.std.proofs.lemmas.List.{drop-drop}
use Rattle.std.specs.List.{prefix_len}
use Rattle.c_scan.specs.declared.piece.Piece.{Piece}
use Rattle.c_scan.specs.declared.piece.Piece.TheVariants as piece
use Rattle.c_lex.specs.declared.fault.LexFault.{LexFault}
use Rattle.c_lex.specs.declared.fault.LexKind.{LexKind}
use Rattle.c_lex.specs.declared.fault.LexKind.TheVariants.{BadByte, BadLiteral, OpenComment, Directive, LateMacro, Tokens, Memory}
use Rattle.c_lex.specs.Lines.{is_inside, lines_of}
use Rattle.c_lex.specs.Directives.{Read, step, steps, and_then}
use Rattle.c_lex.specs.Answer.{Fails}
use Rattle.c_lex.proofs.LineEnds.{lines-first, lines-last}

-- a fault of a line is one of the text
pub fails_then : (kind : LexKind) (fault : LexFault) (found : Result Read LexFault) (rest : Read → Result Read LexFault) → Fails kind fault found → Fails kind fault (and_then found rest)
fails_then BadByte fault found rest is = ap (λ f. and_then f rest) is
fails_then BadLiteral fault found rest is = ap (λ f. and_then f rest) is
fails_then OpenComment fault found rest is = ap (λ f. and_then f rest) is
fails_then Directive fault found rest is = ap (λ f. and_then f rest) is
fails_then LateMacro fault found rest is = ap (λ f. and_then f rest) is
fails_then Tokens fault found rest is = ap (λ f. and_then f rest) is
fails_then Memory fault found rest is = tt

-- the lines from a place on, of which the first ends here
pub line-ends : (read : Read) (pieces : List Piece) (start index : ℕ) → start ≤ index → index < length pieces → drop index pieces ≡ piece.Line ∷ drop (index + 1) pieces
    → prefix_len is_inside (drop start pieces) ≡ (index - start) + prefix_len is_inside (drop index pieces)
    → steps read (lines_of (drop start pieces)) ≡ and_then (step read (take (index - start) (drop start pieces))) (λ after. steps after (lines_of (drop (index + 1) pieces)))
line-ends read pieces start index within below here line =
    let none : prefix_len is_inside (drop index pieces) ≡ 0 = ap (prefix_len is_inside) here in
    let count : prefix_len is_inside (drop start pieces) ≡ index - start = omega arith in
    let inside : index - start < length (drop start pieces) = omega (arith, length-drop start pieces) in
    let cut : drop (suc (index - start)) (drop start pieces) ≡ drop (index + 1) pieces = drop-drop (suc (index - start)) start pieces ∙ ap (λ n. drop n pieces) (omega arith) in
    rw (lines-first (drop start pieces) (index - start) count inside, cut) refl

prefix_within : (pieces : List Piece) → prefix_len is_inside pieces ≤ length pieces
prefix_within [] = omega arith
prefix_within (piece.Line ∷ rest) = omega arith
prefix_within (piece.Token token ∷ rest) = omega (arith, prefix_within rest)
prefix_within (piece.Hash at ∷ rest) = omega (arith, prefix_within rest)
prefix_within (piece.BadByte at ∷ rest) = omega (arith, prefix_within rest)
prefix_within (piece.BadLiteral at ∷ rest) = omega (arith, prefix_within rest)

and_then-ok : (found : Result Read LexFault) → and_then found Ok ≡ found
and_then-ok (Ok read) = refl
and_then-ok (Err fault) = refl

pub inside_of : (p : Piece) → (p ≡ piece.Line → ⊥) → is_inside p ≡ true
inside_of piece.Line other = absurd (other refl)
inside_of (piece.Token token) other = refl
inside_of (piece.Hash at) other = refl
inside_of (piece.BadByte at) other = refl
inside_of (piece.BadLiteral at) other = refl

-- the last line
pub line-last : (read : Read) (pieces : List Piece) (start index : ℕ) → start ≤ index → length pieces ≤ index → index ≤ length pieces
    → prefix_len is_inside (drop start pieces) ≡ (index - start) + prefix_len is_inside (drop index pieces)
    → steps read (lines_of (drop start pieces)) ≡ step read (drop start pieces)
line-last read pieces start index within end most line =
    let none : length (drop index pieces) ≡ 0 = omega (arith, length-drop index pieces) in
    let all : prefix_len is_inside (drop start pieces) ≡ length (drop start pieces) = omega (arith, prefix_within (drop index pieces), length-drop start pieces) in
    ap (steps read) (lines-last (drop start pieces) all) ∙ and_then-ok (step read (drop start pieces))

-- a piece that is no line end
pub inside-more : (pieces : List Piece) (start index : ℕ) (piece d : Piece) → start ≤ index → index < length pieces → piece ≡ get_or pieces index d → is_inside piece ≡ true
    → prefix_len is_inside (drop start pieces) ≡ (index - start) + prefix_len is_inside (drop index pieces)
    → prefix_len is_inside (drop start pieces) ≡ (index + 1 - start) + prefix_len is_inside (drop (index + 1) pieces)
inside-more pieces start index piece d within below is inside line =
    let cut : drop index pieces ≡ piece ∷ drop (index + 1) pieces = rw add-one (drop-cons pieces index d below ∙ ap (λ p. p ∷ drop (suc index) pieces) (sym is)) in
    let more : prefix_len is_inside (drop index pieces) ≡ 1 + prefix_len is_inside (drop (index + 1) pieces) = ap (prefix_len is_inside) cut ∙ rw inside refl in
    omega arith
