-- Laws of rows that stand in one list.
use Rattle.std.proofs.Common.{◌≡◌, ℕ, zero, suc, ◌+◌, ◌-◌, ◌≤◌, List, [], ◌∷◌, ◌++◌, get_or, take, drop, length, refl, ap, ◌∙◌, arith, length-append}
use Rattle.std.specs.List.{All}
use Rattle.std.proofs.lemmas.List.{map_push, take_all}
use Rattle.gate_net.specs.declared.literal.Lit.{Lit}
use Rattle.lower_bool.specs.declared.rows.Span.{Span}
use Rattle.lower_bool.specs.Rows.{IsWithin, row_of, rows_of}

-- a part of a list is the same part of a longer one
part-append : {X : Type 0} (xs ys : List X) (start n : ℕ) → start + n ≤ length xs → take n (drop start (xs ++ ys)) ≡ take n (drop start xs)
part-append [] ys zero zero h = refl
part-append [] ys zero (suc n) h = absurd (omega arith)
part-append [] ys (suc start) n h = absurd (omega arith)
part-append (x ∷ xs) ys zero zero h = refl
part-append (x ∷ xs) ys zero (suc n) h = ap (λ (l : List _). x ∷ l) (part-append xs ys zero n (omega arith))
part-append (x ∷ xs) ys (suc start) n h = part-append xs ys start n (omega arith)

rows_of-append : (literals more : List Lit) (spans : List Span) → All (IsWithin (length literals)) spans → rows_of (literals ++ more) spans ≡ rows_of literals spans
rows_of-append literals more [] within = refl
rows_of-append literals more (s ∷ spans) within =
    let first : IsWithin (length literals) s = within 0 s (omega arith) in
    let here : row_of (literals ++ more) s ≡ row_of literals s = part-append literals more s.start (s.end - s.start) (omega (arith, first.0, first.1)) in
    let rest = rows_of-append literals more spans (λ k d h. within (suc k) d (omega arith)) in
    ap (λ (l : List Lit). l ∷ rows_of (literals ++ more) spans) here ∙ ap (λ (l : List (List Lit)). row_of literals s ∷ l) rest

end-part : {X : Type 0} (xs ys : List X) (n : ℕ) → n ≡ length ys → take n (drop (length xs) (xs ++ ys)) ≡ ys
end-part [] ys n e = take_all n ys (omega arith)
end-part (x ∷ xs) ys n e = end-part xs ys n e

module _ (literals row now : List Lit) (spans : List Span) (start end : ℕ) (within : All (IsWithin (length literals)) spans) (grown : now ≡ literals ++ row) (from : start ≡ length literals) (to : end ≡ length now) where
  long : length now ≡ length literals + length row
  long = ap length grown ∙ length-append literals row

  -- one row more
  pub rows-push : rows_of now (spans ++ record { start = start; end = end } ∷ []) ≡ rows_of literals spans ++ row ∷ []
  rows-push =
      map_push (row_of now) spans (record { start = start; end = end })
      ∙ ap (λ (l : List Lit). rows_of now spans ++ l ∷ []) last
      ∙ ap (λ (l : List (List Lit)). l ++ row ∷ []) before
    where
      before : rows_of now spans ≡ rows_of literals spans
      before = ap (λ (l : List Lit). rows_of l spans) grown ∙ rows_of-append literals row spans within

      last : row_of now (record { start = start; end = end }) ≡ row
      last =
          ap (λ (l : List Lit). take (end - start) (drop start l)) grown
          ∙ ap (λ (s : ℕ). take (end - start) (drop s (literals ++ row))) from
          ∙ end-part literals row (end - start) (omega (arith, long))

  pub within-old : All (IsWithin (length now)) spans
  within-old k d h = let w : IsWithin (length literals) (get_or spans k d) = within k d h in (w.0, omega (arith, w.1, long))
