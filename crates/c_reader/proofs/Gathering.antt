-- Lists of parts, gathered from the first on.
use Rattle.std.proofs.Common.{◌≡◌, ◌<◌, ◌≤◌, ℕ, zero, suc, ◌+◌, ◌-◌, Bool, true, false, if◌then◌else◌, List, [], ◌∷◌, ◌++◌, Result, Ok, Err, refl, sym, ap, subst, ◌∙◌, arith, append_assoc, append-nil}
use Rattle.std.specs.Result.{IsErrAnd}
use Rattle.c_tree.specs.declared.token.Token.{Token}
use Rattle.c_reader.specs.declared.unread.Unread.{Unread}
use Rattle.c_reader.specs.Reading.{Answer, good, bad, deep, Reader, after, give, choose, many}
use Rattle.c_reader.specs.Outcome.{Fails, Gives, sees}

pub choose_sees : {A : Type 0} (test : Token → Bool) (read other : Reader A) (l : List Token) → choose test read other l ≡ (if sees test l then read l else other l)
unfolding choose sees
choose_sees test read other [] = refl
choose_sees test read other (t ∷ l) = refl

-- what was found before, and then what the answer has
abbrev pub gathered : {A : Type 0} → List A → Answer (List A) → Answer (List A)
gathered found answer = after answer (λ rest. give (found ++ rest))

pub gathered_none : {A : Type 0} (answer : Answer (List A)) → gathered [] answer ≡ answer
gathered_none (good a l) = refl
gathered_none (bad l) = refl
gathered_none (deep l) = refl

pub gathered_one : {A : Type 0} (found : List A) (a : A) (answer : Answer (List A)) → gathered found (after answer (λ rest. give (a ∷ rest))) ≡ gathered (found ++ a ∷ []) answer
gathered_one found a (good rest l) = ap (λ r. good r l) (sym (append_assoc found (a ∷ []) rest))
gathered_one found a (bad l) = refl
gathered_one found a (deep l) = refl

module _ {A : Type 0} (test : Token → Bool) (read : Reader A) where
  some_more : (n : ℕ) (l : List Token) → sees test l ≡ true → many (suc n) test read l ≡ after (read l) (λ a tokens. after (many n test read tokens) (λ rest. give (a ∷ rest)))
  unfolding many
  some_more n l h = choose_sees test _ _ l ∙ rw h refl

  pub many_more : (n : ℕ) (found : List A) (l : List Token) (a : A) (mid : List Token) → sees test l ≡ true → read l ≡ good a mid → gathered found (many (suc n) test read l) ≡ gathered (found ++ a ∷ []) (many n test read mid)
  many_more n found l a mid h e = ap (gathered found) (some_more n l h ∙ rw e refl) ∙ gathered_one found a (many n test read mid)

  pub many_bad : (n : ℕ) (found : List A) (l new : List Token) → sees test l ≡ true → read l ≡ bad new → gathered found (many (suc n) test read l) ≡ bad new
  many_bad n found l new h e = rw (some_more n l h, e) refl

  pub many_deep : (n : ℕ) (found : List A) (l new : List Token) → sees test l ≡ true → read l ≡ deep new → gathered found (many (suc n) test read l) ≡ deep new
  many_deep n found l new h e = rw (some_more n l h, e) refl

  no_more : (n : ℕ) (l : List Token) → sees test l ≡ false → many n test read l ≡ good [] l
  unfolding many
  no_more zero l h = refl
  no_more (suc n) l h = choose_sees test _ _ l ∙ rw h refl

  pub many_stop : (n : ℕ) (found : List A) (l : List Token) → sees test l ≡ false → gathered found (many n test read l) ≡ good found l
  many_stop n found l h = ap (gathered found) (no_more n l h) ∙ ap (λ a. good a l) (append-nil found)

  pub many_none : (found : List A) (l : List Token) → gathered found (many 0 test read l) ≡ good found l
  unfolding many
  many_none found l = ap (λ a. good a l) (append-nil found)

  -- the same beside a loop that counts its turns up
  pub turn_exit : {B : Type 0} (whole : Answer B) (after_all : Answer (List A) → Answer B) → ((l : List Token) → after_all (bad l) ≡ bad l) → ((l : List Token) → after_all (deep l) ≡ deep l) → (n : ℕ) (l new : List Token) (r : Result B Unread) (fault : Unread) → whole ≡ after_all (many (suc n) test read l) → sees test l ≡ true → IsErrAnd r (λ other. other ≡ fault) → Fails (read l) fault new → Gives whole r new
  turn_exit whole after_all at_bad at_deep n l new (Ok x) fault e h is f = absurd is
  turn_exit whole after_all at_bad at_deep n l new (Err other) fault e h is f = (
    (λ same. e ∙ ap after_all (some_more n l h ∙ ap (λ a. after a (λ a tokens. after (many n test read tokens) (λ rest. give (a ∷ rest)))) (f.0 (sym is ∙ same))) ∙ at_bad new),
    (λ same. e ∙ ap after_all (some_more n l h ∙ ap (λ a. after a (λ a tokens. after (many n test read tokens) (λ rest. give (a ∷ rest)))) (f.1 (sym is ∙ same))) ∙ at_deep new),
  )

  turns : (size turn : ℕ) → turn < size → size - turn ≡ suc (size - (turn + 1))
  turns size turn h = omega arith

  -- the same where something comes after the list
  pub turn_in : {B : Type 0} (f : Answer (List A) → Answer B) (whole : Answer B) (size turn : ℕ) (found found' : List A) (l mid : List Token) (a : A) → whole ≡ f (gathered found (many (size - turn) test read l)) → turn < size → sees test l ≡ true → read l ≡ good a mid → found' ≡ found ++ a ∷ [] → whole ≡ f (gathered found' (many (size - (turn + 1)) test read mid))
  turn_in f whole size turn found found' l mid a e lt h g p =
      e ∙ ap (λ n. f (gathered found (many n test read l))) (turns size turn lt) ∙ ap f (many_more (size - (turn + 1)) found l a mid h g) ∙ ap (λ fs. f (gathered fs (many (size - (turn + 1)) test read mid))) (sym p)

  pub break_in : {B : Type 0} (f : Answer (List A) → Answer B) (whole : Answer B) (n : ℕ) (found : List A) (l : List Token) → whole ≡ f (gathered found (many n test read l)) → sees test l ≡ false → whole ≡ f (good found l)
  break_in f whole n found l e h = e ∙ ap f (many_stop n found l h)

  pub end_in : {B : Type 0} (f : Answer (List A) → Answer B) (whole : Answer B) (size turn : ℕ) (found : List A) (l : List Token) → whole ≡ f (gathered found (many (size - turn) test read l)) → size ≤ turn → whole ≡ f (good found l)
  end_in f whole size turn found l e h = let none : size - turn ≡ 0 = omega arith in e ∙ ap (λ n. f (gathered found (many n test read l))) none ∙ ap f (many_none found l)

  pub exit_in : {B : Type 0} (f : Answer (List A) → Answer B) → ((l : List Token) → f (bad l) ≡ bad l) → ((l : List Token) → f (deep l) ≡ deep l) → (whole : Answer B) (size turn : ℕ) (found : List A) (l new : List Token) (r : Result B Unread) (fault : Unread) → whole ≡ f (gathered found (many (size - turn) test read l)) → turn < size → sees test l ≡ true → IsErrAnd r (λ other. other ≡ fault) → Fails (read l) fault new → Gives whole r new
  exit_in f at_bad at_deep whole size turn found l new r fault e lt h is g =
      turn_exit whole (λ a. f (gathered found a)) at_bad at_deep (size - (turn + 1)) l new r fault (e ∙ ap (λ n. f (gathered found (many n test read l))) (turns size turn lt)) h is g

  pub many_exit : (whole : Answer (List A)) (size turn : ℕ) (found : List A) (l new : List Token) (r : Result (List A) Unread) (fault : Unread) → whole ≡ gathered found (many (size - turn) test read l) → turn < size → sees test l ≡ true → IsErrAnd r (λ other. other ≡ fault) → Fails (read l) fault new → Gives whole r new
  many_exit whole size turn found l new r fault e lt h is f =
      turn_exit whole (gathered found) (λ _. refl) (λ _. refl) (size - (turn + 1)) l new r fault (e ∙ ap (λ n. gathered found (many n test read l)) (turns size turn lt)) h is f

  pub many_turn : (whole : Answer (List A)) (size turn : ℕ) (found found' : List A) (l mid : List Token) (a : A) → whole ≡ gathered found (many (size - turn) test read l) → turn < size → sees test l ≡ true → read l ≡ good a mid → found' ≡ found ++ a ∷ [] → whole ≡ gathered found' (many (size - (turn + 1)) test read mid)
  many_turn whole size turn found found' l mid a e lt h f p =
      e ∙ ap (λ n. gathered found (many n test read l)) (turns size turn lt) ∙ many_more (size - (turn + 1)) found l a mid h f ∙ ap (λ fs. gathered fs (many (size - (turn + 1)) test read mid)) (sym p)

  pub many_break : (whole : Answer (List A)) (n : ℕ) (found : List A) (l : List Token) → whole ≡ gathered found (many n test read l) → sees test l ≡ false → whole ≡ good found l
  many_break whole n found l e h = e ∙ many_stop n found l h

  pub many_end : (whole : Answer (List A)) (size turn : ℕ) (found : List A) (l : List Token) → whole ≡ gathered found (many (size - turn) test read l) → size ≤ turn → whole ≡ good found l
  many_end whole size turn found l e h = let none : size - turn ≡ 0 = omega arith in e ∙ ap (λ n. gathered found (many n test read l)) none ∙ many_none found l

pub sees_from : (test : Token → Bool) (l : List Token) (t : Token) (rest : List Token) (fits b : Bool) → l ≡ t ∷ rest → fits ≡ test t → fits ≡ b → sees test l ≡ b
unfolding sees
sees_from test l t rest fits b e f h = rw e (sym f ∙ h)

pub gives_gathered : {A : Type 0} (found : List A) (answer : Answer (List A)) (r : Result (List A) Unread) (new : List Token) → found ≡ [] → Gives (gathered found answer) r new → Gives answer r new
gives_gathered found answer r new e h = subst (λ a. Gives a r new) (ap (λ fs. gathered fs answer) e ∙ gathered_none answer) h
