-- Words of a type that agree are few of each kind.
use Rattle.std.proofs.Common.{◌≡◌, ◌≤◌, ◌<◌, inl, inr, ℕ, zero, suc, ◌+◌, ◌-◌, Bool, true, false, ◌&&◌, ◌==◌, nat_le, if◌then◌else◌, Option, Some, None, is_some, unwrap_or, List, [], ◌∷◌, ◌++◌, Result, refl, sym, ap, ◌∙◌, arith, append-nil}
use Rattle.std.specs.Result.{IsErrAnd}
use Rattle.std.proofs.lemmas.Bool.{eqb-true, leb-true}
use Rattle.c_tree.specs.TypeWords.{Counts, no_words, with_word, agree}
use Rattle.c_tree.specs.declared.token.Token.{Token}
use Rattle.c_tree.specs.declared.expressions.TypeWord.{TypeWord}
use Rattle.c_tree.specs.declared.expressions.TypeWord.TheVariants as words
use Rattle.c_grammar.specs.Counting.{Few}
use Rattle.c_reader.specs.declared.unread.Unread.{Unread}
use Rattle.c_reader.specs.Reading.{Answer, good, Reader, after, ◌>>=◌, give, take_as}
use Rattle.c_grammar.specs.Tokens.{type_word_of}
use Rattle.c_grammar.specs.Types.{agrees, word_of, read_words}
use Rattle.c_reader.specs.Outcome.{Fails, Gives, sees, is_end}
use Rattle.c_reader.proofs.Truths.{and_left, and_right, or_cases}
use Rattle.c_reader.proofs.Failing.{fails_after, fails_as, gives_fault}
use Rattle.c_reader.proofs.Gathering.{choose_sees, gathered, gathered_one}
use Rattle.c_grammar.proofs.Tokening.{type_word_only}
use Rattle.c_reader.proofs.Tokening.{sees_first}

pub few_first : (w : TypeWord) → Few 2 (with_word w no_words)
few_first words.Void = record { alone = omega arith; char = omega arith; sign = omega arith; short = omega arith; int = omega arith; long = omega arith }
few_first words.Underscored = record { alone = omega arith; char = omega arith; sign = omega arith; short = omega arith; int = omega arith; long = omega arith }
few_first words.Bool = record { alone = omega arith; char = omega arith; sign = omega arith; short = omega arith; int = omega arith; long = omega arith }
few_first words.Char = record { alone = omega arith; char = omega arith; sign = omega arith; short = omega arith; int = omega arith; long = omega arith }
few_first words.Signed = record { alone = omega arith; char = omega arith; sign = omega arith; short = omega arith; int = omega arith; long = omega arith }
few_first words.Unsigned = record { alone = omega arith; char = omega arith; sign = omega arith; short = omega arith; int = omega arith; long = omega arith }
few_first words.Short = record { alone = omega arith; char = omega arith; sign = omega arith; short = omega arith; int = omega arith; long = omega arith }
few_first words.Int = record { alone = omega arith; char = omega arith; sign = omega arith; short = omega arith; int = omega arith; long = omega arith }
few_first words.Long = record { alone = omega arith; char = omega arith; sign = omega arith; short = omega arith; int = omega arith; long = omega arith }
few_first words.Int8 = record { alone = omega arith; char = omega arith; sign = omega arith; short = omega arith; int = omega arith; long = omega arith }
few_first words.Int16 = record { alone = omega arith; char = omega arith; sign = omega arith; short = omega arith; int = omega arith; long = omega arith }
few_first words.Int32 = record { alone = omega arith; char = omega arith; sign = omega arith; short = omega arith; int = omega arith; long = omega arith }
few_first words.Int64 = record { alone = omega arith; char = omega arith; sign = omega arith; short = omega arith; int = omega arith; long = omega arith }
few_first words.Uint8 = record { alone = omega arith; char = omega arith; sign = omega arith; short = omega arith; int = omega arith; long = omega arith }
few_first words.Uint16 = record { alone = omega arith; char = omega arith; sign = omega arith; short = omega arith; int = omega arith; long = omega arith }
few_first words.Uint32 = record { alone = omega arith; char = omega arith; sign = omega arith; short = omega arith; int = omega arith; long = omega arith }
few_first words.Uint64 = record { alone = omega arith; char = omega arith; sign = omega arith; short = omega arith; int = omega arith; long = omega arith }

-- one more of a kind
pub few_more : (w : TypeWord) (c : Counts) → Few 2 c → Few 3 (with_word w c)
few_more words.Void c h = record { alone = omega arith; char = omega arith; sign = omega arith; short = omega arith; int = omega arith; long = omega arith }
few_more words.Underscored c h = record { alone = omega arith; char = omega arith; sign = omega arith; short = omega arith; int = omega arith; long = omega arith }
few_more words.Bool c h = record { alone = omega arith; char = omega arith; sign = omega arith; short = omega arith; int = omega arith; long = omega arith }
few_more words.Char c h = record { alone = omega arith; char = omega arith; sign = omega arith; short = omega arith; int = omega arith; long = omega arith }
few_more words.Signed c h = record { alone = omega arith; char = omega arith; sign = omega arith; short = omega arith; int = omega arith; long = omega arith }
few_more words.Unsigned c h = record { alone = omega arith; char = omega arith; sign = omega arith; short = omega arith; int = omega arith; long = omega arith }
few_more words.Short c h = record { alone = omega arith; char = omega arith; sign = omega arith; short = omega arith; int = omega arith; long = omega arith }
few_more words.Int c h = record { alone = omega arith; char = omega arith; sign = omega arith; short = omega arith; int = omega arith; long = omega arith }
few_more words.Long c h = record { alone = omega arith; char = omega arith; sign = omega arith; short = omega arith; int = omega arith; long = omega arith }
few_more words.Int8 c h = record { alone = omega arith; char = omega arith; sign = omega arith; short = omega arith; int = omega arith; long = omega arith }
few_more words.Int16 c h = record { alone = omega arith; char = omega arith; sign = omega arith; short = omega arith; int = omega arith; long = omega arith }
few_more words.Int32 c h = record { alone = omega arith; char = omega arith; sign = omega arith; short = omega arith; int = omega arith; long = omega arith }
few_more words.Int64 c h = record { alone = omega arith; char = omega arith; sign = omega arith; short = omega arith; int = omega arith; long = omega arith }
few_more words.Uint8 c h = record { alone = omega arith; char = omega arith; sign = omega arith; short = omega arith; int = omega arith; long = omega arith }
few_more words.Uint16 c h = record { alone = omega arith; char = omega arith; sign = omega arith; short = omega arith; int = omega arith; long = omega arith }
few_more words.Uint32 c h = record { alone = omega arith; char = omega arith; sign = omega arith; short = omega arith; int = omega arith; long = omega arith }
few_more words.Uint64 c h = record { alone = omega arith; char = omega arith; sign = omega arith; short = omega arith; int = omega arith; long = omega arith }

alone_is : (c : Counts) → (c.alone == 1 && c.char + c.sign + c.short + c.int + c.long == 0) ≡ true → Few 2 c
alone_is c h =
    let one : c.alone ≡ 1 = eqb-true _ _ (and_left _ _ h) in
    let none : c.char + c.sign + c.short + c.int + c.long ≡ 0 = eqb-true _ _ (and_right _ _ h) in
    record { alone = omega arith; char = omega arith; sign = omega arith; short = omega arith; int = omega arith; long = omega arith }

bounded_is : (c : Counts) → (c.alone == 0 && nat_le c.sign 1 && nat_le c.char 1 && nat_le c.short 1 && nat_le c.int 1 && nat_le c.long 2) ≡ true → Few 2 c
bounded_is c h5 =
    let h4 = and_left _ _ h5 in
    let h3 = and_left _ _ h4 in
    let h2 = and_left _ _ h3 in
    let h1 = and_left _ _ h2 in
    let none : c.alone ≡ 0 = eqb-true _ _ (and_left _ _ h1) in
    let sign : c.sign ≤ 1 = leb-true _ _ (and_right _ _ h1) in
    let char : c.char ≤ 1 = leb-true _ _ (and_right _ _ h2) in
    let short : c.short ≤ 1 = leb-true _ _ (and_right _ _ h3) in
    let int : c.int ≤ 1 = leb-true _ _ (and_right _ _ h4) in
    let long : c.long ≤ 2 = leb-true _ _ (and_right _ _ h5) in
    record { alone = omega arith; char = omega arith; sign = omega arith; short = omega arith; int = omega arith; long = omega arith }

pub few_agree : (c : Counts) → agree c ≡ true → Few 2 c
few_agree c h = elim (or_cases _ _ h) [ inl a ↦ alone_is c a | inr b ↦ bounded_is c (and_left _ _ (and_left _ _ (and_left _ _ b))) ]

-- ---- a token that agrees

none_agrees : (counts : Counts) (o : Option TypeWord) → o ≡ None → (is_some o && agree (with_word (unwrap_or o words.Void) counts)) ≡ false
none_agrees counts o e = ap (λ u. is_some u && agree (with_word (unwrap_or u words.Void) counts)) e

some_agrees : (counts : Counts) (o : Option TypeWord) (w : TypeWord) → o ≡ Some w → (is_some o && agree (with_word (unwrap_or o words.Void) counts)) ≡ agree (with_word w counts)
some_agrees counts o w e = ap (λ u. is_some u && agree (with_word (unwrap_or u words.Void) counts)) e

pub agreeing_none : (counts : Counts) (t : Token) → None ≡ type_word_of t → None ≡ (if agrees counts t then Some (word_of t) else None)
unfolding agrees
agreeing_none counts t e = ap (λ b. if b then Some (word_of t) else None) (sym (none_agrees counts (type_word_of t) (sym e)))

pub agreeing_some : (counts : Counts) (t : Token) (w : TypeWord) (b : Bool) → Some w ≡ type_word_of t → agree (with_word w counts) ≡ b → (if b then Some w else None) ≡ (if agrees counts t then Some (word_of t) else None)
unfolding agrees
agreeing_some counts t w b e h =
    ap (λ u. if u then Some w else None) (sym h ∙ sym (some_agrees counts (type_word_of t) w (sym e)))
    ∙ ap (λ v. if agrees counts t then Some v else None) (ap (λ u. unwrap_or u words.Void) e)

is_of : (b : Bool) (v w : TypeWord) → Some w ≡ (if b then Some v else None) → (b ≡ true) × (v ≡ w)
is_of true v w e = (refl, sym (ap (λ o. unwrap_or o words.Void) e))
is_of false v w e = absurd (cc)

is_not : (b : Bool) (v : TypeWord) → None ≡ (if b then Some v else None) → b ≡ false
is_not true v e = absurd (cc)
is_not false v e = refl

pub agreed_fits : (counts : Counts) (t : Token) (w : TypeWord) → Some w ≡ (if agrees counts t then Some (word_of t) else None) → true ≡ agrees counts t
agreed_fits counts t w e = sym (is_of _ _ w e).0

pub agreed_word : (counts : Counts) (t : Token) (w : TypeWord) → Some w ≡ (if agrees counts t then Some (word_of t) else None) → word_of t ≡ w
agreed_word counts t w e = (is_of (agrees counts t) (word_of t) w e).1

pub agreed : (counts : Counts) (t : Token) (w : TypeWord) → Some w ≡ (if agrees counts t then Some (word_of t) else None) → agree (with_word w counts) ≡ true
unfolding agrees
agreed counts t w e = ap (λ v. agree (with_word v counts)) (sym (agreed_word counts t w e)) ∙ and_right _ _ (sym (agreed_fits counts t w e))

pub misses : (counts : Counts) (t : Token) → None ≡ (if agrees counts t then Some (word_of t) else None) → agrees counts t ≡ false
misses counts t e = is_not _ _ e

pub agrees_only : (counts : Counts) (t : Token) → agrees counts t ≡ true → is_end t ≡ false
unfolding agrees
agrees_only counts t e = type_word_only t (and_left _ _ e)

tells : (b : Bool) (v : TypeWord) → is_some (if b then Some v else None) ≡ b
tells true v = refl
tells false v = refl

pub sees_agrees : (counts : Counts) (l : List Token) (t : Token) (rest : List Token) (o : Option TypeWord) → l ≡ t ∷ rest → o ≡ (if agrees counts t then Some (word_of t) else None) → is_some o ≡ sees (agrees counts) l
sees_agrees counts l t rest o e h = ap is_some h ∙ tells (agrees counts t) (word_of t) ∙ sym (sees_first (agrees counts) l t rest e)

-- ---- words beside a loop that counts its turns up

module _ (left : ℕ) where
  abbrev following : ℕ → Counts → TypeWord → Reader (List TypeWord)
  following n counts w = read_words n left (with_word w counts) >>= λ rest. give (w ∷ rest)

  words_open : (n : ℕ) (counts : Counts) (l : List Token) → sees (agrees counts) l ≡ true → read_words (suc n) left counts l ≡ after (take_as (agrees counts) word_of left l) (following n counts)
  unfolding read_words
  words_open n counts l h = choose_sees (agrees counts) _ _ l ∙ rw h refl

  words_closed : (n : ℕ) (counts : Counts) (l : List Token) → sees (agrees counts) l ≡ false → read_words n left counts l ≡ good [] l
  unfolding read_words
  words_closed zero counts l h = refl
  words_closed (suc n) counts l h = choose_sees (agrees counts) _ _ l ∙ rw h refl

  turn_of : (size turn : ℕ) → turn < size → size - turn ≡ suc (size - (turn + 1))
  turn_of size turn h = omega arith

  opened : (whole : Answer (List TypeWord)) (size turn : ℕ) (counts : Counts) (found : List TypeWord) (l : List Token) → whole ≡ gathered found (read_words (size - turn) left counts l) → turn < size → sees (agrees counts) l ≡ true → whole ≡ gathered found (after (take_as (agrees counts) word_of left l) (following (size - (turn + 1)) counts))
  opened whole size turn counts found l e lt h = e ∙ ap (λ n. gathered found (read_words n left counts l)) (turn_of size turn lt) ∙ ap (gathered found) (words_open (size - (turn + 1)) counts l h)

  pub words_exit : (whole : Answer (List TypeWord)) (size turn : ℕ) (counts : Counts) (found : List TypeWord) (l new : List Token) (r : Result (List TypeWord) Unread) (fault : Unread) → whole ≡ gathered found (read_words (size - turn) left counts l) → turn < size → sees (agrees counts) l ≡ true → IsErrAnd r (λ other. other ≡ fault) → Fails (take_as (agrees counts) word_of left l) fault new → Gives whole r new
  words_exit whole size turn counts found l new r fault e lt h is f =
      gives_fault whole r fault new is
      (fails_as whole _ fault new (opened whole size turn counts found l e lt h)
      (fails_after _ (λ rest. give (found ++ rest)) fault new (fails_after (take_as (agrees counts) word_of left l) (following (size - (turn + 1)) counts) fault new f)))

  pub words_turn : (whole : Answer (List TypeWord)) (size turn : ℕ) (counts : Counts) (found found' : List TypeWord) (l mid : List Token) (w : TypeWord) → whole ≡ gathered found (read_words (size - turn) left counts l) → turn < size → sees (agrees counts) l ≡ true → take_as (agrees counts) word_of left l ≡ good w mid → found' ≡ found ++ w ∷ [] → whole ≡ gathered found' (read_words (size - (turn + 1)) left (with_word w counts) mid)
  words_turn whole size turn counts found found' l mid w e lt h f p =
      opened whole size turn counts found l e lt h
      ∙ ap (λ r. gathered found (after r (following (size - (turn + 1)) counts))) f
      ∙ gathered_one found w (read_words (size - (turn + 1)) left (with_word w counts) mid)
      ∙ ap (λ fs. gathered fs (read_words (size - (turn + 1)) left (with_word w counts) mid)) (sym p)

  pub words_stop : (whole : Answer (List TypeWord)) (n : ℕ) (counts : Counts) (found : List TypeWord) (l : List Token) → whole ≡ gathered found (read_words n left counts l) → sees (agrees counts) l ≡ false → whole ≡ good found l
  words_stop whole n counts found l e h = e ∙ ap (gathered found) (words_closed n counts l h) ∙ ap (λ fs. good fs l) (append-nil found)

  pub words_end : (whole : Answer (List TypeWord)) (size turn : ℕ) (counts : Counts) (found : List TypeWord) (l : List Token) → whole ≡ gathered found (read_words (size - turn) left counts l) → size ≤ turn → whole ≡ good found l
  unfolding read_words
  words_end whole size turn counts found l e h = let none : size - turn ≡ 0 = omega arith in e ∙ ap (λ n. gathered found (read_words n left counts l)) none ∙ ap (λ fs. good fs l) (append-nil found)
