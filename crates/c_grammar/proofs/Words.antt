-- The readers of the words of types, and of `const`.
use Rattle.std.proofs.Common.{◌≡◌, ◌≤◌, ◌⊎◌, inl, inr, ℕ, zero, suc, ◌+◌, Bool, true, false, ◌&&◌, ◌||◌, ◌==◌, List, [], ◌∷◌, ◌++◌, length, Option, Some, None, is_some, unwrap_or, refl, sym, ap, ◌∙◌, subst, arith, codes, nat_le, if◌then◌else◌}
use Rattle.std.proofs.lemmas.List.{append-nil}
use Rattle.std.proofs.lemmas.Bool.{le-leb, leb-true, eq-eqb, eqb-true}
use Rattle.std.specs.List.{flat_map}
use Rattle.c_tree.specs.Pieces.{Piece, spelled, IsWanted, StandsAt, Takes, Fits, words_at}
use Rattle.c_tree.specs.TypeWords.{Counts, no_words, with_word, counts_from, agree, is_spelling, text_of_word}
use Rattle.c_tree.specs.declared.token.Place.{Place}
use Rattle.c_tree.specs.declared.token.Token.{Token}
use Rattle.c_tree.specs.declared.token.TokenKind.TheVariants.{Word}
use Rattle.c_tree.specs.declared.expressions.TypeWord.{TypeWord}
use Rattle.c_tree.specs.declared.expressions.TypeWord.TheVariants as words
use Rattle.c_reader.specs.Reading.{Reader, ◌>>=◌, give, take_as, choose}
use Rattle.c_reader.specs.Tokens.{is_word, found_in, read_word_at}
use Rattle.c_grammar.specs.Tokens.{is_type_word, type_word_of, type_words}
use Rattle.c_grammar.specs.Types.{word_of, agrees, read_words, read_type_words, read_constants}
use Rattle.c_tree.specs.Folds.{wants_of_spelling, is_spelling_tree}
use Rattle.c_tree.proofs.FoldsLaws.{wants_TypeSpecifier_Words, is_TypeSpecifier_Words}
use Rattle.c_tree.specs.declared.expressions.TypeSpecifier.{TypeSpecifier}
use Rattle.c_tree.specs.declared.expressions.TypeSpecifier.TheVariants as spelling
use Rattle.c_reader.proofs.Reader.{Language, Of, Reads}
use Rattle.c_reader.proofs.Binding.{Both, bind_reads}
use Rattle.c_reader.proofs.Giving.{Given, give_reads, reads_as, reads_same, reads_within}
use Rattle.c_reader.proofs.Taking.{Single, SingleIn, take_in_reads}
use Rattle.c_reader.proofs.Choosing.{FirstIs, Either, this, that, choose_reads}
use Rattle.c_reader.proofs.Repeating.{Several, many_reads, given_stops}
use Rattle.c_reader.proofs.Beginning.{Begins, begins_both, begins_single}
use Rattle.c_reader.proofs.Joining.{in_both, in_single, in_given, onto}
use Rattle.c_reader.proofs.Spelt.{AreUnder, table_reads, found_yes, found_is, spelled_yes, spelt_at, spelt_at_reads}
use Rattle.c_grammar.proofs.Starting.{begins_cons}
use Rattle.c_grammar.proofs.Suffixes.{Any}
use Rattle.c_reader.proofs.Truths.{not_true, and_left, and_right, and_both, or_cases}

and_false : (a : Bool) → (a && false) ≡ false
and_false true = refl
and_false false = refl

or_first : (a b : Bool) → a ≡ true → (a || b) ≡ true
or_first a b h = ap (λ u. u || b) h

or_second : (a b : Bool) → b ≡ true → (a || b) ≡ true
or_second true b h = refl
or_second false b h = h

-- ---- the words of a spelling

-- no count is greater
pub record Within (c d : Counts) : Type 0 where
  pub alone : c.alone ≤ d.alone
  pub char : c.char ≤ d.char
  pub sign : c.sign ≤ d.sign
  pub short : c.short ≤ d.short
  pub int : c.int ≤ d.int
  pub long : c.long ≤ d.long

abbrev total : Counts → ℕ
total c = c.alone + c.char + c.sign + c.short + c.int + c.long

-- what it is that counts agree, in numbers
record Mixed (c : Counts) : Type 0 where
  pub alone : c.alone ≡ 0
  pub sign : c.sign ≤ 1
  pub char : c.char ≤ 1
  pub short : c.short ≤ 1
  pub int : c.int ≤ 1
  pub long : c.long ≤ 2
  pub apart : (c.char ≡ 0) ⊎ (c.short + c.int + c.long ≡ 0)
  pub either_ : (c.short ≡ 0) ⊎ (c.long ≡ 0)
  pub some : 1 ≤ c.char + c.sign + c.short + c.int + c.long

zero_of : (a b : ℕ) → ((a == 0) ≡ true) ⊎ ((b == 0) ≡ true) → (a ≡ 0) ⊎ (b ≡ 0)
zero_of a b (inl h) = inl (eqb-true a 0 h)
zero_of a b (inr h) = inr (eqb-true b 0 h)

zero_cases : (a b : ℕ) → ((a == 0) || (b == 0)) ≡ true → (a ≡ 0) ⊎ (b ≡ 0)
zero_cases a b h = zero_of a b (or_cases (a == 0) (b == 0) h)

zero_yes : (a b : ℕ) → (a ≡ 0) ⊎ (b ≡ 0) → ((a == 0) || (b == 0)) ≡ true
zero_yes a b (inl h) = or_first (a == 0) (b == 0) (eq-eqb a 0 h)
zero_yes a b (inr h) = or_second (a == 0) (b == 0) (eq-eqb b 0 h)

abbrev mixed : Counts → Bool
mixed c =
    c.alone == 0 && nat_le c.sign 1 && nat_le c.char 1 && nat_le c.short 1 && nat_le c.int 1 && nat_le c.long 2
    && (c.char == 0 || c.short + c.int + c.long == 0) && (c.short == 0 || c.long == 0)
    && nat_le 1 (c.char + c.sign + c.short + c.int + c.long)

mixed_is : (c : Counts) → mixed c ≡ true → Mixed c
mixed_is c h =
    let h8 = and_left _ (nat_le 1 (c.char + c.sign + c.short + c.int + c.long)) h in
    let h7 = and_left _ (c.short == 0 || c.long == 0) h8 in
    let h6 = and_left _ (c.char == 0 || c.short + c.int + c.long == 0) h7 in
    let h5 = and_left _ (nat_le c.long 2) h6 in
    let h4 = and_left _ (nat_le c.int 1) h5 in
    let h3 = and_left _ (nat_le c.short 1) h4 in
    let h2 = and_left _ (nat_le c.char 1) h3 in
    record {
      alone = eqb-true c.alone 0 (and_left (c.alone == 0) (nat_le c.sign 1) h2);
      sign = leb-true c.sign 1 (and_right (c.alone == 0) (nat_le c.sign 1) h2);
      char = leb-true c.char 1 (and_right _ (nat_le c.char 1) h3);
      short = leb-true c.short 1 (and_right _ (nat_le c.short 1) h4);
      int = leb-true c.int 1 (and_right _ (nat_le c.int 1) h5);
      long = leb-true c.long 2 (and_right _ (nat_le c.long 2) h6);
      apart = zero_cases c.char (c.short + c.int + c.long) (and_right _ (c.char == 0 || c.short + c.int + c.long == 0) h7);
      either_ = zero_cases c.short c.long (and_right _ (c.short == 0 || c.long == 0) h8);
      some = leb-true 1 (c.char + c.sign + c.short + c.int + c.long) (and_right _ (nat_le 1 (c.char + c.sign + c.short + c.int + c.long)) h);
    }

mixed_yes : (c : Counts) → Mixed c → mixed c ≡ true
mixed_yes c m =
    and_both _ _ (and_both _ _ (and_both _ _ (and_both _ _ (and_both _ _ (and_both _ _ (and_both _ _ (and_both _ _ (eq-eqb c.alone 0 m.alone) (le-leb c.sign 1 m.sign)) (le-leb c.char 1 m.char)) (le-leb c.short 1 m.short)) (le-leb c.int 1 m.int)) (le-leb c.long 2 m.long)) (zero_yes c.char (c.short + c.int + c.long) m.apart)) (zero_yes c.short c.long m.either_)) (le-leb 1 (c.char + c.sign + c.short + c.int + c.long) m.some)

less_apart : (a b x y : ℕ) → a ≤ x → b ≤ y → (x ≡ 0) ⊎ (y ≡ 0) → (a ≡ 0) ⊎ (b ≡ 0)
less_apart a b x y la lb (inl h) = inl (omega (arith, la, h))
less_apart a b x y la lb (inr h) = inr (omega (arith, lb, h))

fewer_of : (c d : Counts) → Within c d → 1 ≤ total c → ((d.alone == 1 && d.char + d.sign + d.short + d.int + d.long == 0) ≡ true) ⊎ (mixed d ≡ true) → agree c ≡ true
fewer_of c d w some (inl h) =
    let alone = eqb-true d.alone 1 (and_left (d.alone == 1) (d.char + d.sign + d.short + d.int + d.long == 0) h) in
    let none = eqb-true (d.char + d.sign + d.short + d.int + d.long) 0 (and_right (d.alone == 1) (d.char + d.sign + d.short + d.int + d.long == 0) h) in
    or_first (c.alone == 1 && c.char + c.sign + c.short + c.int + c.long == 0) (mixed c)
    (and_both (c.alone == 1) (c.char + c.sign + c.short + c.int + c.long == 0)
    (eq-eqb c.alone 1 (omega (arith, alone, none, some, w.alone, w.char, w.sign, w.short, w.int, w.long)))
    (eq-eqb (c.char + c.sign + c.short + c.int + c.long) 0 (omega (arith, none, w.char, w.sign, w.short, w.int, w.long))))
fewer_of c d w some (inr h) =
    let m = mixed_is d h in
    or_second (c.alone == 1 && c.char + c.sign + c.short + c.int + c.long == 0) (mixed c)
    (mixed_yes c (record {
      alone = omega (arith, m.alone, w.alone);
      sign = omega (arith, m.sign, w.sign);
      char = omega (arith, m.char, w.char);
      short = omega (arith, m.short, w.short);
      int = omega (arith, m.int, w.int);
      long = omega (arith, m.long, w.long);
      apart = less_apart c.char (c.short + c.int + c.long) d.char (d.short + d.int + d.long) w.char (omega (arith, w.short, w.int, w.long)) m.apart;
      either_ = less_apart c.short c.long d.short d.long w.short w.long m.either_;
      some = omega (arith, some, m.alone, w.alone);
    }))

-- what agrees still agrees with fewer words, if there are any
pub fewer_agree : (c d : Counts) → Within c d → 1 ≤ total c → agree d ≡ true → agree c ≡ true
fewer_agree c d w some h = fewer_of c d w some (or_cases (d.alone == 1 && d.char + d.sign + d.short + d.int + d.long == 0) (mixed d) h)

within_word : (w : TypeWord) (c : Counts) → Within c (with_word w c)
within_word words.Void c = record { alone = omega arith; char = omega arith; sign = omega arith; short = omega arith; int = omega arith; long = omega arith }
within_word words.Underscored c = record { alone = omega arith; char = omega arith; sign = omega arith; short = omega arith; int = omega arith; long = omega arith }
within_word words.Bool c = record { alone = omega arith; char = omega arith; sign = omega arith; short = omega arith; int = omega arith; long = omega arith }
within_word words.Char c = record { alone = omega arith; char = omega arith; sign = omega arith; short = omega arith; int = omega arith; long = omega arith }
within_word words.Signed c = record { alone = omega arith; char = omega arith; sign = omega arith; short = omega arith; int = omega arith; long = omega arith }
within_word words.Unsigned c = record { alone = omega arith; char = omega arith; sign = omega arith; short = omega arith; int = omega arith; long = omega arith }
within_word words.Short c = record { alone = omega arith; char = omega arith; sign = omega arith; short = omega arith; int = omega arith; long = omega arith }
within_word words.Int c = record { alone = omega arith; char = omega arith; sign = omega arith; short = omega arith; int = omega arith; long = omega arith }
within_word words.Long c = record { alone = omega arith; char = omega arith; sign = omega arith; short = omega arith; int = omega arith; long = omega arith }
within_word words.Int8 c = record { alone = omega arith; char = omega arith; sign = omega arith; short = omega arith; int = omega arith; long = omega arith }
within_word words.Int16 c = record { alone = omega arith; char = omega arith; sign = omega arith; short = omega arith; int = omega arith; long = omega arith }
within_word words.Int32 c = record { alone = omega arith; char = omega arith; sign = omega arith; short = omega arith; int = omega arith; long = omega arith }
within_word words.Int64 c = record { alone = omega arith; char = omega arith; sign = omega arith; short = omega arith; int = omega arith; long = omega arith }
within_word words.Uint8 c = record { alone = omega arith; char = omega arith; sign = omega arith; short = omega arith; int = omega arith; long = omega arith }
within_word words.Uint16 c = record { alone = omega arith; char = omega arith; sign = omega arith; short = omega arith; int = omega arith; long = omega arith }
within_word words.Uint32 c = record { alone = omega arith; char = omega arith; sign = omega arith; short = omega arith; int = omega arith; long = omega arith }
within_word words.Uint64 c = record { alone = omega arith; char = omega arith; sign = omega arith; short = omega arith; int = omega arith; long = omega arith }

some_word : (w : TypeWord) (c : Counts) → 1 ≤ total (with_word w c)
some_word words.Void c = omega arith
some_word words.Underscored c = omega arith
some_word words.Bool c = omega arith
some_word words.Char c = omega arith
some_word words.Signed c = omega arith
some_word words.Unsigned c = omega arith
some_word words.Short c = omega arith
some_word words.Int c = omega arith
some_word words.Long c = omega arith
some_word words.Int8 c = omega arith
some_word words.Int16 c = omega arith
some_word words.Int32 c = omega arith
some_word words.Int64 c = omega arith
some_word words.Uint8 c = omega arith
some_word words.Uint16 c = omega arith
some_word words.Uint32 c = omega arith
some_word words.Uint64 c = omega arith

within_refl : (c : Counts) → Within c c
within_refl c = record { alone = omega arith; char = omega arith; sign = omega arith; short = omega arith; int = omega arith; long = omega arith }

within_trans : (b c d : Counts) → Within b c → Within c d → Within b d
within_trans b c d v w = record { alone = omega (arith, v.alone, w.alone); char = omega (arith, v.char, w.char); sign = omega (arith, v.sign, w.sign); short = omega (arith, v.short, w.short); int = omega (arith, v.int, w.int); long = omega (arith, v.long, w.long) }

within_all : (c : Counts) (ws : List TypeWord) → Within c (counts_from c ws)
unfolding counts_from
within_all c [] = within_refl c
within_all c (w ∷ ws) = within_trans c (with_word w c) (counts_from (with_word w c) ws) (within_word w c) (within_all (with_word w c) ws)

-- each word agrees with those before it
unfoldable pub agrees_all : Counts → List TypeWord → Bool
agrees_all c [] = true
agrees_all c (w ∷ ws) = agree (with_word w c) && agrees_all (with_word w c) ws

-- some word passes a test, or none does
unfoldable NonePass : (TypeWord → Bool) → List TypeWord → Type 0
NonePass test [] = Unit {0}
NonePass test (w ∷ ws) = (test w ≡ false) × NonePass test ws

find_step : (test : TypeWord → Bool) (w : TypeWord) (ws : List TypeWord) (b : Bool) → test w ≡ b → ((v : TypeWord) × (test v ≡ true)) ⊎ NonePass test ws → ((v : TypeWord) × (test v ≡ true)) ⊎ NonePass test (w ∷ ws)
unfolding NonePass
find_step test w ws true is rest = inl (w, is)
find_step test w ws false is (inl found) = inl found
find_step test w ws false is (inr none) = inr (is, none)

find_in : (test : TypeWord → Bool) (ws : List TypeWord) → ((v : TypeWord) × (test v ≡ true)) ⊎ NonePass test ws
unfolding NonePass
find_in test [] = inr tt
find_in test (w ∷ ws) = find_step test w ws (test w) refl (find_in test ws)

abbrev every_word : List TypeWord
every_word = words.Void ∷ words.Underscored ∷ words.Bool ∷ words.Char ∷ words.Signed ∷ words.Unsigned ∷ words.Short ∷ words.Int ∷ words.Long ∷ words.Int8 ∷ words.Int16 ∷ words.Int32 ∷ words.Int64 ∷ words.Uint8 ∷ words.Uint16 ∷ words.Uint32 ∷ words.Uint64 ∷ []

none_of : (test : TypeWord → Bool) → NonePass test every_word → (w : TypeWord) → test w ≡ false
unfolding NonePass
none_of test h words.Void = h.0
none_of test h words.Underscored = h.1.0
none_of test h words.Bool = h.1.1.0
none_of test h words.Char = h.1.1.1.0
none_of test h words.Signed = h.1.1.1.1.0
none_of test h words.Unsigned = h.1.1.1.1.1.0
none_of test h words.Short = h.1.1.1.1.1.1.0
none_of test h words.Int = h.1.1.1.1.1.1.1.0
none_of test h words.Long = h.1.1.1.1.1.1.1.1.0
none_of test h words.Int8 = h.1.1.1.1.1.1.1.1.1.0
none_of test h words.Int16 = h.1.1.1.1.1.1.1.1.1.1.0
none_of test h words.Int32 = h.1.1.1.1.1.1.1.1.1.1.1.0
none_of test h words.Int64 = h.1.1.1.1.1.1.1.1.1.1.1.1.0
none_of test h words.Uint8 = h.1.1.1.1.1.1.1.1.1.1.1.1.1.0
none_of test h words.Uint16 = h.1.1.1.1.1.1.1.1.1.1.1.1.1.1.0
none_of test h words.Uint32 = h.1.1.1.1.1.1.1.1.1.1.1.1.1.1.1.0
none_of test h words.Uint64 = h.1.1.1.1.1.1.1.1.1.1.1.1.1.1.1.1.0

pub under_words : AreUnder text_of_word type_words
unfolding AreUnder
under_words = (refl, (refl, (refl, (refl, (refl, (refl, (refl, (refl, (refl, (refl, (refl, (refl, (refl, (refl, (refl, (refl, (refl, tt)))))))))))))))))

found_word : (w : TypeWord) → found_in type_words (text_of_word w) ≡ Some w
unfolding found_in
found_word words.Void = refl
found_word words.Underscored = refl
found_word words.Bool = refl
found_word words.Char = refl
found_word words.Signed = refl
found_word words.Unsigned = refl
found_word words.Short = refl
found_word words.Int = refl
found_word words.Long = refl
found_word words.Int8 = refl
found_word words.Int16 = refl
found_word words.Int32 = refl
found_word words.Int64 = refl
found_word words.Uint8 = refl
found_word words.Uint16 = refl
found_word words.Uint32 = refl
found_word words.Uint64 = refl

abbrev pub word_piece : ℕ → TypeWord → Piece
word_piece n w = record { nesting = n; place = None; want = spelled Word (text_of_word w) }

word_some : (t : Token) (found : Option TypeWord) → type_word_of t ≡ found → is_some found ≡ true → (t.kind ≡ Word) × (t.text ≡ text_of_word (unwrap_or found words.Void))
unfolding type_word_of
word_some t None is some = absurd (not_true some)
word_some t (Some w) is some = found_is Word text_of_word type_words t w under_words is

pub word_is : (w : TypeWord) (t : Token) → t.kind ≡ Word → t.text ≡ text_of_word w → type_word_of t ≡ Some w
unfolding type_word_of
word_is w t k x = found_yes Word type_words t (text_of_word w) w k x (found_word w)

-- a word alone agrees
first_agrees : (w : TypeWord) → agree (with_word w no_words) ≡ true
first_agrees words.Void = refl
first_agrees words.Underscored = refl
first_agrees words.Bool = refl
first_agrees words.Char = refl
first_agrees words.Signed = refl
first_agrees words.Unsigned = refl
first_agrees words.Short = refl
first_agrees words.Int = refl
first_agrees words.Long = refl
first_agrees words.Int8 = refl
first_agrees words.Int16 = refl
first_agrees words.Int32 = refl
first_agrees words.Int64 = refl
first_agrees words.Uint8 = refl
first_agrees words.Uint16 = refl
first_agrees words.Uint32 = refl
first_agrees words.Uint64 = refl

-- each beginning of a spelling is one
beginnings_agree : (c : Counts) (ws : List TypeWord) → 1 ≤ total c → agree (counts_from c ws) ≡ true → agrees_all c ws ≡ true
unfolding agrees_all counts_from
beginnings_agree c [] some h = refl
beginnings_agree c (w ∷ ws) some h =
    and_both _ _ (fewer_agree (with_word w c) (counts_from (with_word w c) ws) (within_all (with_word w c) ws) (some_word w c) h) (beginnings_agree (with_word w c) ws (some_word w c) h)

whole_agrees : (c : Counts) (ws : List TypeWord) → agree c ≡ true → agrees_all c ws ≡ true → agree (counts_from c ws) ≡ true
unfolding agrees_all counts_from
whole_agrees c [] h all = h
whole_agrees c (w ∷ ws) h all = whole_agrees (with_word w c) ws (and_left _ _ all) (and_right _ _ all)

pub spelling_first : (w : TypeWord) (ws : List TypeWord) → is_spelling (w ∷ ws) ≡ true → agrees_all (with_word w no_words) ws ≡ true
unfolding counts_from
spelling_first w ws h = beginnings_agree (with_word w no_words) ws (some_word w no_words) h

pub spelling_whole : (w : TypeWord) (ws : List TypeWord) → agrees_all (with_word w no_words) ws ≡ true → is_spelling (w ∷ ws) ≡ true
unfolding counts_from
spelling_whole w ws h = whole_agrees (with_word w no_words) ws (first_agrees w) h

-- no const stands after
abbrev pub StopsConstants : List Token → Type 0
StopsConstants = FirstIs (is_word (codes "const")) false

module _ (most size n left : ℕ) (level : n + left ≡ most + 1) where
  abbrev InCounts : Counts → TypeWord → Type 0
  InCounts c w = agree (with_word w c) ≡ true

  -- the words that agree with those before them
  unfoldable pub WordsUpTo : ℕ → Counts → Language (List TypeWord)
  WordsUpTo zero c = Given []
  WordsUpTo (suc k) c = Either (Both (SingleIn (InCounts c) (word_piece n)) (λ w. Both (WordsUpTo k (with_word w c)) (λ rest. Given (w ∷ rest)))) (Given [])

  agrees_yes : (c : Counts) (w : TypeWord) (t : Token) → InCounts c w → Takes (word_piece n w) t → (agrees c t ≡ true) × (word_of t ≡ w)
  unfolding agrees IsWanted
  agrees_yes c w t inside takes =
      let is = word_is w t takes.0.0 takes.0.1 in
      let same : word_of t ≡ w = ap (λ u. unwrap_or u words.Void) is in
      (and_both (is_type_word t) (agree (with_word (word_of t) c)) (ap is_some is) (ap (λ u. agree (with_word u c)) same ∙ inside), same)

  agrees_takes : (c : Counts) (t : Token) → agrees c t ≡ true → Takes (word_piece n (word_of t)) t
  unfolding agrees IsWanted StandsAt
  agrees_takes c t h = (word_some t (type_word_of t) refl (and_left (is_type_word t) (agree (with_word (word_of t) c)) h), tt)

  agrees_in : (c : Counts) (t : Token) → agrees c t ≡ true → InCounts c (word_of t)
  unfolding agrees
  agrees_in c t h = and_right (is_type_word t) (agree (with_word (word_of t) c)) h

  -- after the words no word of a type stands
  abbrev pub StopsWords : List Token → Type 0
  StopsWords = FirstIs is_type_word false

  stops_agree : (c : Counts) (ts : List Token) → StopsWords ts → FirstIs (agrees c) false ts
  unfolding FirstIs agrees
  stops_agree c [] h = refl
  stops_agree c (t ∷ rest) h = ap (λ u. u && agree (with_word (word_of t) c)) h

  no_words_at : (k : ℕ) (c : Counts) → WordsUpTo k c [] []
  unfolding WordsUpTo
  no_words_at zero c = in_given []
  no_words_at (suc k) c = that (in_given [])

  single_begins : (c : Counts) (w : TypeWord) (ps : List Piece) (front rest : List Token) → SingleIn (InCounts c) (word_piece n) w ps → Fits ps front → FirstIs (agrees c) true (front ++ rest)
  single_begins c w ps front rest single fits = begins_cons (word_piece n w) (agrees c) true (λ t takes. (agrees_yes c w t single.within takes).0) ps [] front rest single.one fits

  abbrev FirstL : ℕ → Counts → Language (List TypeWord)
  FirstL k c = Both (SingleIn (InCounts c) (word_piece n)) (λ w. Both (WordsUpTo k (with_word w c)) (λ rest. Given (w ∷ rest)))

  first_begins : (k : ℕ) (c : Counts) → Begins (FirstL k c) (agrees c) true
  first_begins k c = begins_both _ _ (agrees c) true (λ w ps front rest is fits. single_begins c w ps front rest is fits)

  never_agrees : (c : Counts) → ((w : TypeWord) → agree (with_word w c) ≡ false) → (t : Token) → agrees c t ≡ false
  unfolding agrees
  never_agrees c none t = ap (λ u. is_type_word t && u) (none (word_of t)) ∙ and_false (is_type_word t)

  never : (k : ℕ) (c : Counts) → ((w : TypeWord) → agree (with_word w c) ≡ false) → (f : Reader (List TypeWord)) → (ts : List Token) → choose (agrees c) f (give []) ts ≡ give [] ts
  unfolding choose
  never k c none f [] = refl
  never k c none f (t ∷ rest) = ap (λ u. if u then f (t ∷ rest) else give [] (t ∷ rest)) (never_agrees c none t)

  only_given : (k : ℕ) (c : Counts) → ((w : TypeWord) → agree (with_word w c) ≡ false) → (v : List TypeWord) (ps : List Piece) → Either (FirstL k c) (Given []) v ps → Given [] v ps
  only_given k c none v ps (this b) = absurd (not_true (sym (none b.first) ∙ b.left.within))
  only_given k c none v ps (that is) = is

  -- where no word agrees, none is read
  none_reads : (k : ℕ) (c : Counts) → ((w : TypeWord) → agree (with_word w c) ≡ false) → (f : Reader (List TypeWord)) → Reads (Either (FirstL k c) (Given [])) most size StopsWords (choose (agrees c) f (give []))
  none_reads k c none f =
      reads_same (choose (agrees c) f (give [])) (λ ts. sym (never k c none f ts))
      (reads_as (λ v ps is. that is) (λ v ps is. only_given k c none v ps is) (give_reads [] most size StopsWords))

  words_step : (k : ℕ) (c : Counts) → ((w : TypeWord) × (agree (with_word w c) ≡ true)) ⊎ NonePass (λ w. agree (with_word w c)) every_word → ((d : Counts) → Reads (WordsUpTo k d) most size StopsWords (read_words k left d))
      → Reads (Either (FirstL k c) (Given [])) most size StopsWords (choose (agrees c) (take_as (agrees c) word_of left >>= λ w. read_words k left (with_word w c) >>= λ rest. give (w ∷ rest)) (give []))
  words_step k c (inl some) inner =
      choose_reads (FirstL k c) (Given []) most size StopsWords (agrees c) (take_as (agrees c) word_of left >>= λ w. read_words k left (with_word w c) >>= λ rest. give (w ∷ rest)) (give [])
      (bind_reads _ _ most size Any StopsWords _ _ (take_in_reads (InCounts c) (agrees c) word_of most size (word_piece n) some.0 some.1 (agrees_yes c) (agrees_takes c) (agrees_in c) left (λ w. level) Any)
      (λ w. bind_reads _ _ most size StopsWords StopsWords _ _ (inner (with_word w c)) (λ rest. give_reads (w ∷ rest) most size StopsWords)
      (λ rest ps is. (w ∷ rest, ([], in_given (w ∷ rest))))
      (λ rest v qs ys more is fits stop. given_stops (w ∷ rest) v qs ys more StopsWords is fits stop))
      (λ w ps is. (w ∷ [], ([] ++ [], in_both _ _ _ [] [] [] (no_words_at k (with_word w c)) (in_given (w ∷ [])))))
      (λ w v qs ys more is fits stop. tt))
      (give_reads [] most size StopsWords)
      (λ v ps front rest is fits stop. first_begins k c v ps front rest is fits)
      (λ v ps front rest is fits stop. given_stops [] v ps front rest (λ ts. FirstIs (agrees c) false ts) is fits (stops_agree c rest stop))
  words_step k c (inr none) inner = none_reads k c (none_of (λ w. agree (with_word w c)) none) _

  words_upto : (k : ℕ) (c : Counts) → Reads (WordsUpTo k c) most size StopsWords (read_words k left c)
  unfolding WordsUpTo read_words
  words_upto zero c = give_reads [] most size StopsWords
  words_upto (suc k) c = words_step k c (find_in (λ w. agree (with_word w c)) every_word) (words_upto k)

  -- ---- the same by lists of words

  -- words that agree with those before them, all together
  abbrev pub MoreWords : Counts → Language (List TypeWord)
  MoreWords c = Of (λ ws. agrees_all c ws) (λ ws. flat_map (λ w. word_piece n w ∷ []) ws)

  more_to_step : (k : ℕ) (c : Counts) (ws : List TypeWord) (ps : List Piece) → ((d : Counts) (vs : List TypeWord) (qs : List Piece) → WordsUpTo k d vs qs → MoreWords d vs qs) → Either (FirstL k c) (Given []) ws ps → MoreWords c ws ps
  unfolding agrees_all
  more_to_step k c ws ps inner (this b) =
      let rest = inner (with_word b.first c) b.right.first b.right.pieces1 b.right.left in
      let is : ws ≡ b.first ∷ b.right.first = b.right.right.tree_is in
      subst (λ u. MoreWords c u ps) (sym is)
      (record { grammar = and_both _ _ b.left.within rest.grammar; wants = onto b.whole b.left.one (onto b.right.whole rest.wants b.right.right.none ∙ append-nil _) })
  more_to_step k c ws ps inner (that is) = subst (λ u. MoreWords c u ps) (sym is.tree_is) (record { grammar = refl; wants = is.none })

  more_to : (k : ℕ) (c : Counts) (ws : List TypeWord) (ps : List Piece) → WordsUpTo k c ws ps → MoreWords c ws ps
  unfolding WordsUpTo agrees_all
  more_to zero c ws ps is = subst (λ u. MoreWords c u ps) (sym is.tree_is) (record { grammar = refl; wants = is.none })
  more_to (suc k) c ws ps is = more_to_step k c ws ps (more_to k) is

  more_from : (k : ℕ) (c : Counts) (ws : List TypeWord) (ps : List Piece) → MoreWords c ws ps → length ws ≤ k → WordsUpTo k c ws ps
  unfolding WordsUpTo agrees_all
  more_from zero c [] ps is few = record { tree_is = refl; none = is.wants }
  more_from zero c (w ∷ ws) ps is few = absurd (omega (arith, few))
  more_from (suc k) c [] ps is few = that (record { tree_is = refl; none = is.wants })
  more_from (suc k) c (w ∷ ws) ps is few =
      let rest = more_from k (with_word w c) ws (flat_map (λ u. word_piece n u ∷ []) ws) (record { grammar = and_right _ _ is.grammar; wants = refl }) (omega (arith, few)) in
      this (subst (λ u. FirstL k c (w ∷ ws) u) (ap (λ u. word_piece n w ∷ u) (append-nil (flat_map (λ u. word_piece n u ∷ []) ws)) ∙ sym is.wants)
      (in_both _ _ _ _ _ w (record { within = and_left _ _ is.grammar; one = refl }) (in_both _ _ _ _ _ ws rest (in_given (w ∷ ws)))))

  as_many : (ws : List TypeWord) → length (flat_map (λ u. word_piece n u ∷ []) ws) ≡ length ws
  as_many [] = refl
  as_many (w ∷ ws) = omega (arith, as_many ws)

  words_reads : (c : Counts) → Reads (MoreWords c) most size StopsWords (read_words size left c)
  words_reads c =
      reads_within (more_to size c) (λ ws ps is few. more_from size c ws ps is (omega (arith, as_many ws, ap length is.wants, few))) (words_upto size c)

  abbrev pub first_piece : Place × TypeWord → Piece
  first_piece found = record { nesting = n; place = Some found.0; want = spelled Word (text_of_word found.1) }

  abbrev TypeWordsL : Language TypeSpecifier
  TypeWordsL = Both (Single first_piece) (λ first. Both (MoreWords (with_word first.1 no_words)) (λ rest. Given (spelling.Words first.0 (first.1 ∷ rest))))

  type_words_read : Reads TypeWordsL most size StopsWords (read_type_words size left)
  unfolding read_type_words type_word_of agrees_all
  type_words_read =
      bind_reads _ _ most size Any StopsWords _ _ (table_reads most size Any Word text_of_word type_words words.Void under_words found_word n left level)
      (λ first. bind_reads _ _ most size StopsWords StopsWords _ _ (words_reads (with_word first.1 no_words)) (λ rest. give_reads (spelling.Words first.0 (first.1 ∷ rest)) most size StopsWords)
      (λ rest ps is. (spelling.Words first.0 (first.1 ∷ rest), ([], in_given _)))
      (λ rest v qs ys more is fits stop. given_stops (spelling.Words first.0 (first.1 ∷ rest)) v qs ys more StopsWords is fits stop))
      (λ first ps is. (spelling.Words first.0 (first.1 ∷ []), ([] ++ [], in_both _ _ _ [] [] [] (record { grammar = refl; wants = refl }) (in_given _))))
      (λ first v qs ys more is fits stop. tt)

  -- the spellings of words
  abbrev pub WordsAt : Language TypeSpecifier
  WordsAt = TypeWordsL

  words_flat : (place : Place) (w : TypeWord) (ws : List TypeWord) → (first_piece (place, w) ∷ []) ++ (flat_map (λ u. word_piece n u ∷ []) ws ++ []) ≡ wants_of_spelling (spelling.Words place (w ∷ ws)) n
  words_flat place w ws = ap (λ u. first_piece (place, w) ∷ u) (append-nil (flat_map (λ u. word_piece n u ∷ []) ws)) ∙ sym (ap (λ f. f n) (wants_TypeSpecifier_Words place (w ∷ ws)))

  pub words_to : (t : TypeSpecifier) (ps : List Piece) → WordsAt t ps → Of is_spelling_tree (λ u. wants_of_spelling u n) t ps
  words_to t ps b =
      let is : t ≡ spelling.Words b.first.0 (b.first.1 ∷ b.right.first) = b.right.right.tree_is in
      record {
        grammar = ap is_spelling_tree is ∙ is_TypeSpecifier_Words b.first.0 (b.first.1 ∷ b.right.first) ∙ spelling_whole b.first.1 b.right.first b.right.left.grammar;
        wants = onto b.whole b.left.one (onto b.right.whole b.right.left.wants b.right.right.none) ∙ words_flat b.first.0 b.first.1 b.right.first ∙ ap (λ u. wants_of_spelling u n) (sym is);
      }

  no_spelling : (place : Place) → is_spelling_tree (spelling.Words place []) ≡ true → ⊥
  unfolding counts_from
  no_spelling place h = not_true (sym (is_TypeSpecifier_Words place []) ∙ h)

  pub words_from : (place : Place) (ws : List TypeWord) (ps : List Piece) → Of is_spelling_tree (λ u. wants_of_spelling u n) (spelling.Words place ws) ps → WordsAt (spelling.Words place ws) ps
  words_from place [] ps is = absurd (no_spelling place is.grammar)
  words_from place (w ∷ ws) ps is =
      subst (λ u. WordsAt (spelling.Words place (w ∷ ws)) u) (words_flat place w ws ∙ sym is.wants)
      (in_both _ _ _ _ _ (place, w) (in_single first_piece (place, w))
      (in_both _ _ _ _ _ ws (record { grammar = spelling_first w ws (sym (is_TypeSpecifier_Words place (w ∷ ws)) ∙ is.grammar); wants = refl }) (in_given (spelling.Words place (w ∷ ws)))))

  pub type_words_reads : Reads WordsAt most size StopsWords (read_type_words size left)
  type_words_reads = type_words_read

  pub words_begin : Begins WordsAt is_type_word true
  unfolding IsWanted
  words_begin = begins_both _ _ is_type_word true (begins_single first_piece is_type_word true (λ found w takes. ap is_some (word_is found.1 w takes.0.0 takes.0.1)))

  -- ---- const, so many times

  abbrev pub ConstantsAt : Language (List Place)
  ConstantsAt = Of (λ places. true) (λ places. words_at places (codes "const") n)

  constants_to : (places : List Place) (ps : List Piece) → Several (Single (spelt_at Word (codes "const") n)) places ps → ConstantsAt places ps
  unfolding Several words_at
  constants_to [] ps is = record { grammar = refl; wants = is }
  constants_to (place ∷ places) ps is = record { grammar = refl; wants = onto is.1.1.2 is.1.1.0.one (constants_to places is.1.0 is.1.1.1).wants }

  constants_from : (places : List Place) (ps : List Piece) → ConstantsAt places ps → Several (Single (spelt_at Word (codes "const") n)) places ps
  unfolding Several words_at
  constants_from [] ps is = is.wants
  constants_from (place ∷ places) ps is = (spelt_at Word (codes "const") n place ∷ [], (words_at places (codes "const") n, (in_single _ place, constants_from places (words_at places (codes "const") n) (record { grammar = refl; wants = refl }), is.wants)))

  pub constants_reads : Reads ConstantsAt most size StopsConstants (read_constants size left)
  unfolding read_constants IsWanted
  constants_reads =
      reads_as constants_to constants_from
      (many_reads (Single (spelt_at Word (codes "const") n)) most size Any StopsConstants (is_word (codes "const")) (read_word_at (codes "const") left) (spelt_at_reads most size Any Word (codes "const") n left level)
      (begins_single (spelt_at Word (codes "const") n) (is_word (codes "const")) true (λ place w takes. spelled_yes Word (codes "const") w takes.0.0 takes.0.1))
      (λ ts h. tt) (λ ts h. tt) (λ ts h. h) (λ place ps is. omega (arith, ap length is.one)))
