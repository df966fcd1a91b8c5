-- Lists with marks between their parts, gathered from the first part on.
use Rattle.std.proofs.Common.{◌≡◌, ◌<◌, ◌≤◌, ℕ, zero, suc, ◌+◌, ◌-◌, Bool, true, false, if◌then◌else◌, List, [], ◌∷◌, ◌++◌, Result, refl, sym, ap, ◌∙◌, arith, append_assoc, append-nil}
use Rattle.std.specs.Result.{IsErrAnd}
use Rattle.c_tree.specs.declared.token.Token.{Token}
use Rattle.c_tree.specs.declared.expressions.TrailingComma.{TrailingComma}
use Rattle.c_tree.specs.declared.expressions.TrailingComma.TheVariants.{Absent, Present}
use Rattle.c_reader.specs.declared.unread.Unread.{Unread}
use Rattle.c_reader.specs.Reading.{Answer, good, bad, deep, Reader, after, ◌>>=◌, give, choose, many}
use Rattle.c_reader.specs.Tokens.{is_mark, read_mark}
use Rattle.c_reader.specs.Lists.{separated_by, read_more}
use Rattle.c_reader.specs.Outcome.{Fails, Gives, sees}
use Rattle.c_reader.proofs.Failing.{fails_after, fails_as, gives_fault}
use Rattle.c_reader.proofs.Gathering.{choose_sees, gathered}

module _ {A : Type 0} (size : ℕ) (text : List ℕ) (left : ℕ) (part : Reader A) where
  -- a mark and the part after it
  abbrev pub next_part : Reader A
  next_part = read_mark text left >>= λ separator. part

  pub separated_start : (found : List A) (l : List Token) (a : A) (mid : List Token) → part l ≡ good a mid → found ≡ a ∷ [] → separated_by size text left part l ≡ gathered found (many size (is_mark text) next_part mid)
  unfolding separated_by
  separated_start found l a mid e f = ap (λ r. after r (λ first. many size (is_mark text) next_part >>= λ rest. give (first ∷ rest))) e ∙ ap (λ fs. gathered fs (many size (is_mark text) next_part mid)) (sym f)

  pub separated_init : (found : List A) (l : List Token) (a : A) (mid : List Token) → part l ≡ good a mid → found ≡ a ∷ [] → separated_by size text left part l ≡ gathered found (many (size - 0) (is_mark text) next_part mid)
  separated_init found l a mid e f = let all : size ≡ size - 0 = omega arith in separated_start found l a mid e f ∙ ap (λ n. gathered found (many n (is_mark text) next_part mid)) all

  pub separated_fails : (l new : List Token) (r : Result (List A) Unread) (fault : Unread) → IsErrAnd r (λ other. other ≡ fault) → Fails (part l) fault new → Gives (separated_by size text left part l) r new
  unfolding separated_by
  separated_fails l new r fault is h = gives_fault _ r fault new is (fails_after (part l) (λ first. many size (is_mark text) next_part >>= λ rest. give (first ∷ rest)) fault new h)

  pub mark_fails : (l new : List Token) (fault : Unread) → Fails (read_mark text left l) fault new → Fails (next_part l) fault new
  mark_fails l new fault h = fails_after (read_mark text left l) (λ separator. part) fault new h

  pub part_fails : (l mid new : List Token) (fault : Unread) → read_mark text left l ≡ good (tt {0}) mid → Fails (part mid) fault new → Fails (next_part l) fault new
  part_fails l mid new fault e h = fails_as (next_part l) (part mid) fault new (ap (λ r. after r (λ separator. part)) e) h

  pub part_good : (l mid new : List Token) (a : A) → read_mark text left l ≡ good (tt {0}) mid → part mid ≡ good a new → next_part l ≡ good a new
  part_good l mid new a e h = ap (λ r. after r (λ separator. part)) e ∙ h

-- what was found before, and then what the answer has
abbrev pub gathered_more : {A : Type 0} → List A → Answer (List A × TrailingComma) → Answer (List A × TrailingComma)
gathered_more found answer = after answer (λ rest. give (found ++ rest.0, rest.1))

more_one : {A : Type 0} (found : List A) (a : A) (answer : Answer (List A × TrailingComma)) → gathered_more found (after answer (λ rest. give (a ∷ rest.0, rest.1))) ≡ gathered_more (found ++ a ∷ []) answer
more_one found a (good rest l) = ap (λ r. good (r, rest.1) l) (sym (append_assoc found (a ∷ []) rest.0))
more_one found a (bad l) = refl
more_one found a (deep l) = refl

module _ {A : Type 0} (text : List ℕ) (starts : Token → Bool) (left : ℕ) (read : Reader A) where
  -- a part and more after it
  abbrev part_and_more : ℕ → Reader (List A × TrailingComma)
  part_and_more n = read >>= λ a. read_more n text starts left read >>= λ rest. give (a ∷ rest.0, rest.1)

  abbrev following_mark : ℕ → Reader (List A × TrailingComma)
  following_mark n = choose starts (part_and_more n) (give ([], Present))

  opened : (n : ℕ) (l : List Token) → sees (is_mark text) l ≡ true → read_more (suc n) text starts left read l ≡ after (read_mark text left l) (λ separator. following_mark n)
  unfolding read_more
  opened n l h = choose_sees (is_mark text) _ _ l ∙ rw h refl

  closed : (n : ℕ) (l : List Token) → sees (is_mark text) l ≡ false → read_more n text starts left read l ≡ good ([], Absent) l
  unfolding read_more
  closed zero l h = refl
  closed (suc n) l h = choose_sees (is_mark text) _ _ l ∙ rw h refl

  turn_of : (size turn : ℕ) → turn < size → size - turn ≡ suc (size - (turn + 1))
  turn_of size turn h = omega arith

  opened_whole : (whole : Answer (List A × TrailingComma)) (size turn : ℕ) (found : List A) (l : List Token) → whole ≡ gathered_more found (read_more (size - turn) text starts left read l) → turn < size → sees (is_mark text) l ≡ true → whole ≡ gathered_more found (after (read_mark text left l) (λ separator. following_mark (size - (turn + 1))))
  opened_whole whole size turn found l is lt h = is ∙ ap (λ n. gathered_more found (read_more n text starts left read l)) (turn_of size turn lt) ∙ ap (gathered_more found) (opened (size - (turn + 1)) l h)

  -- after a mark
  marked_whole : (whole : Answer (List A × TrailingComma)) (size turn : ℕ) (found : List A) (l mid : List Token) → whole ≡ gathered_more found (read_more (size - turn) text starts left read l) → turn < size → sees (is_mark text) l ≡ true → read_mark text left l ≡ good (tt {0}) mid → whole ≡ gathered_more found (following_mark (size - (turn + 1)) mid)
  marked_whole whole size turn found l mid is lt h m = opened_whole whole size turn found l is lt h ∙ ap (λ r. gathered_more found (after r (λ separator. following_mark (size - (turn + 1))))) m

  -- before a part
  part_whole : (whole : Answer (List A × TrailingComma)) (size turn : ℕ) (found : List A) (l mid : List Token) → whole ≡ gathered_more found (read_more (size - turn) text starts left read l) → turn < size → sees (is_mark text) l ≡ true → read_mark text left l ≡ good (tt {0}) mid → sees starts mid ≡ true → whole ≡ gathered_more found (part_and_more (size - (turn + 1)) mid)
  part_whole whole size turn found l mid is lt h m s =
      marked_whole whole size turn found l mid is lt h m ∙ ap (gathered_more found) (choose_sees starts _ _ mid ∙ ap (λ b. if b then part_and_more (size - (turn + 1)) mid else give ([], Present) mid) s)

  pub more_stop : (whole : Answer (List A × TrailingComma)) (n : ℕ) (found : List A) (l : List Token) → whole ≡ gathered_more found (read_more n text starts left read l) → sees (is_mark text) l ≡ false → whole ≡ good (found, Absent) l
  more_stop whole n found l is h = is ∙ ap (gathered_more found) (closed n l h) ∙ ap (λ fs. good (fs, Absent) l) (append-nil found)

  pub more_none : (whole : Answer (List A × TrailingComma)) (size turn : ℕ) (found : List A) (l : List Token) → whole ≡ gathered_more found (read_more (size - turn) text starts left read l) → size ≤ turn → whole ≡ good (found, Absent) l
  unfolding read_more
  more_none whole size turn found l is h = let none : size - turn ≡ 0 = omega arith in is ∙ ap (λ n. gathered_more found (read_more n text starts left read l)) none ∙ ap (λ fs. good (fs, Absent) l) (append-nil found)

  pub more_mark_exit : (whole : Answer (List A × TrailingComma)) (size turn : ℕ) (found : List A) (l new : List Token) (r : Result (List A × TrailingComma) Unread) (fault : Unread) → whole ≡ gathered_more found (read_more (size - turn) text starts left read l) → turn < size → sees (is_mark text) l ≡ true → IsErrAnd r (λ other. other ≡ fault) → Fails (read_mark text left l) fault new → Gives whole r new
  more_mark_exit whole size turn found l new r fault is lt h exit f =
      gives_fault whole r fault new exit
      (fails_as whole _ fault new (opened_whole whole size turn found l is lt h)
      (fails_after _ (λ rest. give (found ++ rest.0, rest.1)) fault new (fails_after (read_mark text left l) (λ separator. following_mark (size - (turn + 1))) fault new f)))

  pub more_end : (whole : Answer (List A × TrailingComma)) (size turn : ℕ) (found : List A) (l mid : List Token) → whole ≡ gathered_more found (read_more (size - turn) text starts left read l) → turn < size → sees (is_mark text) l ≡ true → read_mark text left l ≡ good (tt {0}) mid → sees starts mid ≡ false → whole ≡ good (found, Present) mid
  more_end whole size turn found l mid is lt h m s =
      marked_whole whole size turn found l mid is lt h m ∙ ap (gathered_more found) (choose_sees starts _ _ mid ∙ ap (λ b. if b then part_and_more (size - (turn + 1)) mid else give ([], Present) mid) s)
      ∙ ap (λ fs. good (fs, Present) mid) (append-nil found)

  pub more_exit : (whole : Answer (List A × TrailingComma)) (size turn : ℕ) (found : List A) (l mid new : List Token) (r : Result (List A × TrailingComma) Unread) (fault : Unread) → whole ≡ gathered_more found (read_more (size - turn) text starts left read l) → turn < size → sees (is_mark text) l ≡ true → read_mark text left l ≡ good (tt {0}) mid → sees starts mid ≡ true → IsErrAnd r (λ other. other ≡ fault) → Fails (read mid) fault new → Gives whole r new
  more_exit whole size turn found l mid new r fault is lt h m s exit f =
      gives_fault whole r fault new exit
      (fails_as whole _ fault new (part_whole whole size turn found l mid is lt h m s)
      (fails_after _ (λ rest. give (found ++ rest.0, rest.1)) fault new
      (fails_after (read mid) (λ a. read_more (size - (turn + 1)) text starts left read >>= λ rest. give (a ∷ rest.0, rest.1)) fault new f)))

  pub more_turn : (whole : Answer (List A × TrailingComma)) (size turn : ℕ) (found found' : List A) (l mid new : List Token) (a : A) → whole ≡ gathered_more found (read_more (size - turn) text starts left read l) → turn < size → sees (is_mark text) l ≡ true → read_mark text left l ≡ good (tt {0}) mid → sees starts mid ≡ true → read mid ≡ good a new → found' ≡ found ++ a ∷ [] → whole ≡ gathered_more found' (read_more (size - (turn + 1)) text starts left read new)
  more_turn whole size turn found found' l mid new a is lt h m s f p =
      part_whole whole size turn found l mid is lt h m s
      ∙ ap (λ r. gathered_more found (after r (λ a. read_more (size - (turn + 1)) text starts left read >>= λ rest. give (a ∷ rest.0, rest.1)))) f
      ∙ more_one found a (read_more (size - (turn + 1)) text starts left read new)
      ∙ ap (λ fs. gathered_more fs (read_more (size - (turn + 1)) text starts left read new)) (sym p)
