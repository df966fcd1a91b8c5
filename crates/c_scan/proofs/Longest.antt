-- The lengths that the scanner counts are those of the longest piece.
use Rattle.std.proofs.Common.{◌≡◌, ℕ, zero, suc, ◌+◌, ◌<◌, ◌≤◌, ◌==◌, inl, inr, Bool, true, false, not, ◌&&◌, ◌||◌, cond, List, [], ◌∷◌, length, take, drop, Option, None, Some, if◌then◌else◌, refl, ap, sym, ◌∙◌, arith, codes, nat_eq, length-take, IfSome, is_some}
use Rattle.std.proofs.lemmas.Bool.{false_from_ne_true}
use Rattle.std.proofs.lemmas.Bool.Decides.{nat_tests}
use Rattle.std.proofs.lemmas.Slice.Eq.{bytes_eq-Decides}
use Rattle.std.specs.List.{list_all, prefix_len, starts_with}
use Rattle.std.specs.Str.{bytes_eq}
use Rattle.std.specs.Option.{option_map}
use Rattle.c_tree.specs.Names.{is_digit, is_letter, is_word_byte}
use Rattle.c_tree.specs.declared.token.Place.{Place}
use Rattle.c_scan.specs.declared.piece.Front.{Front}
use Rattle.c_scan.specs.declared.piece.Front.TheVariants as front
use Rattle.c_scan.specs.Words.{is_among, marks_of_1, marks_of_2, marks_of_3}
use Rattle.c_scan.specs.Literals.{escape, is_plain, character_of, escaped}
use Rattle.c_scan.specs.Spelled.{is_blank, is_empty, is_block, is_comment, goes_on, all_go_on, begins_number, is_quote, is_character, is_string, is_mark, is_piece, greatest, longest_piece}
use Rattle.c_scan.specs.Pieces.{word_front, number_front, character_front, string_front, mark_front, block_front, front_of}
use Rattle.c_scan.specs.Lengths.{block_length, string_length, number_length, mark_length, marked_front, closed_front, constant_front, quoted_front, front_at}
use Rattle.c_scan.proofs.Bools.{or_cases, or_left, and_left, and_right, and_both, on_branches}

-- ---- the greatest number that passes

greatest-at : (test : ℕ → Bool) (bound n : ℕ) (top : Bool) → test (suc bound) ≡ top → suc n ≤ suc bound → test (suc n) ≡ true → ((m : ℕ) → suc n < m → m ≤ suc bound → test m ≡ false) → (suc n ≤ bound → greatest test bound ≡ suc n) → (if top then suc bound else greatest test bound) ≡ suc n
greatest-at test bound n true is within passes above later =
    let no : suc n < suc bound → ⊥ = λ less. absurd (cc (sym is ∙ above (suc bound) less (omega arith))) in
    omega (arith, no)
greatest-at test bound n false is within passes above later =
    let no : n ≡ bound → ⊥ = λ same. absurd (cc (sym passes ∙ (ap (λ k. test (suc k)) same ∙ is))) in
    later (omega (arith, no))

pub greatest-is : (test : ℕ → Bool) (bound n : ℕ) → suc n ≤ bound → test (suc n) ≡ true → ((m : ℕ) → suc n < m → m ≤ bound → test m ≡ false) → greatest test bound ≡ suc n
greatest-is test zero n within passes above = absurd (omega (arith, within))
greatest-is test (suc bound) n within passes above =
    greatest-at test bound n (test (suc bound)) refl within passes above (λ less. greatest-is test bound n less passes (λ m more most. above m more (omega arith)))

pub greatest-none : (test : ℕ → Bool) (bound : ℕ) → ((m : ℕ) → 0 < m → m ≤ bound → test m ≡ false) → greatest test bound ≡ 0
greatest-none test zero above = refl
greatest-none test (suc bound) above = rw (above (suc bound) (omega arith) (omega arith)) (greatest-none test bound (λ m some within. above m some (omega arith)))

-- a beginning that has the first byte
begin-false : (byte : ℕ) (rest : List ℕ) (is_rest : List ℕ → Bool) (low m : ℕ) → ((xs : List ℕ) → is_piece (byte ∷ xs) ≡ is_rest xs) → ((k : ℕ) → low ≤ k → k ≤ length rest → is_rest (take k rest) ≡ false) → suc low ≤ m → m ≤ suc (length rest) → is_piece (take m (byte ∷ rest)) ≡ false
begin-false byte rest is_rest low zero means above less most = absurd (omega (arith, less))
begin-false byte rest is_rest low (suc m) means above less most = means (take m rest) ∙ above m (omega (arith, less)) (omega (arith, most))

-- a text whose first byte tells what its piece must be
pub longest-is : (byte : ℕ) (rest : List ℕ) (is_rest : List ℕ → Bool) (n : ℕ) → ((xs : List ℕ) → is_piece (byte ∷ xs) ≡ is_rest xs) → n ≤ length rest → is_rest (take n rest) ≡ true → ((m : ℕ) → suc n ≤ m → m ≤ length rest → is_rest (take m rest) ≡ false) → longest_piece (byte ∷ rest) ≡ byte ∷ take n rest
unfolding longest_piece
longest-is byte rest is_rest n means within passes above =
    let e : greatest (λ k. is_piece (take k (byte ∷ rest))) (length (byte ∷ rest)) ≡ suc n = greatest-is (λ k. is_piece (take k (byte ∷ rest))) (length (byte ∷ rest)) n (omega arith) (means (take n rest) ∙ passes) (λ m more most. begin-false byte rest is_rest (suc n) m means above (omega (arith, more)) (omega (arith, most))) in
    rw e refl

pub longest-none : (byte : ℕ) (rest : List ℕ) (is_rest : List ℕ → Bool) → ((xs : List ℕ) → is_piece (byte ∷ xs) ≡ is_rest xs) → ((m : ℕ) → 0 ≤ m → m ≤ length rest → is_rest (take m rest) ≡ false) → longest_piece (byte ∷ rest) ≡ []
unfolding longest_piece
longest-none byte rest is_rest means above =
    let e : greatest (λ k. is_piece (take k (byte ∷ rest))) (length (byte ∷ rest)) ≡ 0 = greatest-none (λ k. is_piece (take k (byte ∷ rest))) (length (byte ∷ rest)) (λ m more most. begin-false byte rest is_rest 0 m means above (omega (arith, more)) (omega (arith, most))) in
    rw e refl

-- ---- runs

all-run : (p : ℕ → Bool) (x : ℕ) (xs : List ℕ) (test : Bool) → p x ≡ test → list_all p (take (prefix_len p xs) xs) ≡ true → list_all p (take (cond test (1 + prefix_len p xs) 0) (x ∷ xs)) ≡ true
all-run p x xs true is rest = let e : 1 + prefix_len p xs ≡ suc (prefix_len p xs) = omega arith in rw e (and_both _ _ is rest)
all-run p x xs false is rest = refl

pub all-prefix : (p : ℕ → Bool) (xs : List ℕ) → list_all p (take (prefix_len p xs) xs) ≡ true
all-prefix p [] = refl
all-prefix p (x ∷ xs) = all-run p x xs (p x) refl (all-prefix p xs)

all-past : (p : ℕ → Bool) (x : ℕ) (xs : List ℕ) (m : ℕ) (test : Bool) → p x ≡ test → suc (cond test (1 + prefix_len p xs) 0) ≤ suc m → (suc (prefix_len p xs) ≤ m → list_all p (take m xs) ≡ false) → (p x && list_all p (take m xs)) ≡ false
all-past p x xs m true is more later = rw is (later (omega (arith, more)))
all-past p x xs m false is more later = rw is refl

all-longer : (p : ℕ → Bool) (xs : List ℕ) (m : ℕ) → suc (prefix_len p xs) ≤ m → m ≤ length xs → list_all p (take m xs) ≡ false
all-longer p [] m more most = absurd (omega (arith, more, most))
all-longer p (x ∷ xs) zero more most = absurd (omega (arith, more))
all-longer p (x ∷ xs) (suc m) more most = all-past p x xs m (p x) refl more (λ less. all-longer p xs m less (omega (arith, most)))

prefix-within : (p : ℕ → Bool) (xs : List ℕ) → prefix_len p xs ≤ length xs
prefix-within p [] = omega arith
prefix-within p (x ∷ xs) = let rest = prefix-within p xs in on_branches (λ n. n ≤ suc (length xs)) (p x) (1 + prefix_len p xs) 0 (λ h. omega (arith, rest)) (λ h. omega arith)

go-run : (last x : ℕ) (xs : List ℕ) (test : Bool) → goes_on last x ≡ test → all_go_on x (take (number_length x xs) xs) ≡ true → all_go_on last (take (if test then suc (number_length x xs) else 0) (x ∷ xs)) ≡ true
go-run last x xs true is rest = and_both _ _ is rest
go-run last x xs false is rest = refl

go-prefix : (last : ℕ) (xs : List ℕ) → all_go_on last (take (number_length last xs) xs) ≡ true
go-prefix last [] = refl
go-prefix last (x ∷ xs) = go-run last x xs (goes_on last x) refl (go-prefix x xs)

go-past : (last x : ℕ) (xs : List ℕ) (m : ℕ) (test : Bool) → goes_on last x ≡ test → suc (if test then suc (number_length x xs) else 0) ≤ suc m → (suc (number_length x xs) ≤ m → all_go_on x (take m xs) ≡ false) → (goes_on last x && all_go_on x (take m xs)) ≡ false
go-past last x xs m true is more later = rw is (later (omega (arith, more)))
go-past last x xs m false is more later = rw is refl

go-longer : (last : ℕ) (xs : List ℕ) (m : ℕ) → suc (number_length last xs) ≤ m → m ≤ length xs → all_go_on last (take m xs) ≡ false
go-longer last [] m more most = absurd (omega (arith, more, most))
go-longer last (x ∷ xs) zero more most = absurd (omega (arith, more))
go-longer last (x ∷ xs) (suc m) more most = go-past last x xs m (goes_on last x) refl more (λ less. go-longer x xs m less (omega (arith, most)))

go-within : (last : ℕ) (xs : List ℕ) → number_length last xs ≤ length xs
go-within last [] = omega arith
go-within last (x ∷ xs) = let rest = go-within x xs in on_branches (λ n. n ≤ suc (length xs)) (goes_on last x) (suc (number_length x xs)) 0 (λ h. omega (arith, rest)) (λ h. omega arith)

-- ---- what ends itself

-- it ends after so many bytes
abbrev pub ends_at : Option ℕ → ℕ → Bool
ends_at None m = false
ends_at (Some n) m = n == m

ends-more : (found : Option ℕ) (m : ℕ) → ends_at found m ≡ ends_at (option_map suc found) (suc m)
ends-more None m = refl
ends-more (Some n) m = grind (arith, nat_tests)

ends-zero : (found : Option ℕ) → ends_at (option_map suc found) zero ≡ false
ends-zero None = refl
ends-zero (Some n) = grind (arith, nat_tests)

is-one : (xs : List ℕ) (m : ℕ) → m ≤ length xs → is_empty (take m xs) ≡ ends_at (Some 1) (suc m)
is-one xs zero within = refl
is-one [] (suc m) within = absurd (omega (arith, within))
is-one (x ∷ xs) (suc m) within = grind (arith, nat_tests)

string-cases : (x : ℕ) (taken : Bool) (xs : List ℕ) (m : ℕ) (line quote : Bool) → m ≤ length xs → is_string (x == 92 && not taken) (take m xs) ≡ ends_at (string_length (x == 92 && not taken) xs) m
    → (if line then false else if quote then is_empty (take m xs) else is_string (x == 92 && not taken) (take m xs)) ≡ ends_at (if line then None else if quote then Some 1 else option_map suc (string_length (x == 92 && not taken) xs)) (suc m)
string-cases x taken xs m true quote within later = refl
string-cases x taken xs m false true within later = is-one xs m within
string-cases x taken xs m false false within later = later ∙ ends-more (string_length (x == 92 && not taken) xs) m

string-zero : (found : Option ℕ) (line quote : Bool) → false ≡ ends_at (if line then None else if quote then Some 1 else option_map suc found) zero
string-zero found true quote = refl
string-zero found false true = refl
string-zero found false false = sym (ends-zero found)

string-ends : (taken : Bool) (xs : List ℕ) (m : ℕ) → m ≤ length xs → is_string taken (take m xs) ≡ ends_at (string_length taken xs) m
string-ends taken [] zero within = refl
string-ends taken [] (suc m) within = absurd (omega (arith, within))
string-ends taken (x ∷ xs) zero within = string-zero (string_length (x == 92 && not taken) xs) (x == 10) (x == 34 && not taken)
string-ends taken (x ∷ xs) (suc m) within = string-cases x taken xs m (x == 10) (x == 34 && not taken) (omega (arith, within)) (string-ends (x == 92 && not taken) xs m (omega (arith, within)))

block-cases : (x : ℕ) (xs : List ℕ) (m : ℕ) (end : Bool) → m ≤ length xs → is_block (x == 42) (take m xs) ≡ ends_at (block_length (x == 42) xs) m
    → (if end then is_empty (take m xs) else is_block (x == 42) (take m xs)) ≡ ends_at (if end then Some 1 else option_map suc (block_length (x == 42) xs)) (suc m)
block-cases x xs m true within later = is-one xs m within
block-cases x xs m false within later = later ∙ ends-more (block_length (x == 42) xs) m

block-zero : (found : Option ℕ) (end : Bool) → false ≡ ends_at (if end then Some 1 else option_map suc found) zero
block-zero found true = refl
block-zero found false = sym (ends-zero found)

block-ends : (star : Bool) (xs : List ℕ) (m : ℕ) → m ≤ length xs → is_block star (take m xs) ≡ ends_at (block_length star xs) m
block-ends star [] zero within = refl
block-ends star [] (suc m) within = absurd (omega (arith, within))
block-ends star (x ∷ xs) zero within = block-zero (block_length (x == 42) xs) (x == 47 && star)
block-ends star (x ∷ xs) (suc m) within = block-cases x xs m (x == 47 && star) (omega (arith, within)) (block-ends (x == 42) xs m (omega (arith, within)))

ends-past : (n m : ℕ) → suc n ≤ m → (n == m) ≡ false
ends-past n m more = grind (arith, nat_tests)

ends-here : (n : ℕ) → (n == n) ≡ true
ends-here n = grind (arith, nat_tests)

string-case : (x : ℕ) (xs : List ℕ) (found : Option ℕ) (line quote : Bool) → IfSome found (λ n. n ≤ length xs) → IfSome (if line then None else if quote then Some 1 else option_map suc found) (λ n. n ≤ suc (length xs))
string-case x xs found true quote within = tt
string-case x xs found false true within = omega arith
string-case x xs None false false within = tt
string-case x xs (Some n) false false within = omega (arith, within)

string-within : (taken : Bool) (xs : List ℕ) → IfSome (string_length taken xs) (λ n. n ≤ length xs)
string-within taken [] = tt
string-within taken (x ∷ xs) = string-case x xs (string_length (x == 92 && not taken) xs) (x == 10) (x == 34 && not taken) (string-within (x == 92 && not taken) xs)

block-case : (xs : List ℕ) (found : Option ℕ) (end : Bool) → IfSome found (λ n. n ≤ length xs) → IfSome (if end then Some 1 else option_map suc found) (λ n. n ≤ suc (length xs))
block-case xs found true within = omega arith
block-case xs None false within = tt
block-case xs (Some n) false within = omega (arith, within)

block-within : (star : Bool) (xs : List ℕ) → IfSome (block_length star xs) (λ n. n ≤ length xs)
block-within star [] = tt
block-within star (x ∷ xs) = block-case xs (block_length (x == 42) xs) (x == 47 && star) (block-within (x == 42) xs)

-- ---- each kind of front

-- a text that begins with two bytes
starts-two : (c d byte : ℕ) (rest : List ℕ) → starts_with nat_eq (byte ∷ rest) (c ∷ d ∷ []) ≡ true → (more : List ℕ) × (byte ∷ rest ≡ c ∷ d ∷ more)
starts-two c d byte [] starts = absurd (cc (and_right (nat_eq c byte) false starts))
starts-two c d byte (second ∷ more) starts =
    let first : byte ≡ c = grind (arith, nat_tests, and_left (nat_eq c byte) _ starts) in
    let next : second ≡ d = grind (arith, nat_tests, and_left (nat_eq d second) _ (and_right (nat_eq c byte) _ starts)) in
    (more, rw (first, next) refl)

slash-means : (xs : List ℕ) → is_piece (47 ∷ xs) ≡ (is_comment xs || is_mark (47 ∷ xs))
unfolding is_piece
slash-means xs = refl

no_newline : ℕ → Bool
no_newline byte = not (byte == 10)

line-past : (more : List ℕ) (m : ℕ) → suc (suc (prefix_len (λ b. not (b == 10)) more)) ≤ m → m ≤ length (47 ∷ more) → (is_comment (take m (47 ∷ more)) || is_mark (47 ∷ take m (47 ∷ more))) ≡ false
line-past more zero past within = absurd (omega (arith, past))
line-past more (suc m) past within = rw (all-longer (λ b. not (b == 10)) more m (omega (arith, past)) (omega (arith, within))) refl

line-front : (more : List ℕ) → length (longest_piece (47 ∷ 47 ∷ more)) ≡ prefix_len (λ b. not (b == 10)) (47 ∷ 47 ∷ more)
line-front more =
    let k = prefix_len (λ b. not (b == 10)) more in
    let within : k ≤ length more = prefix-within (λ b. not (b == 10)) more in
    let e = longest-is 47 (47 ∷ more) (λ xs. is_comment xs || is_mark (47 ∷ xs)) (suc k) slash-means (omega (arith, within)) (rw (all-prefix (λ b. not (b == 10)) more) refl) (line-past more) in
    ap length e ∙ omega (arith, length-take k more, within)

block-past : (more : List ℕ) (k m : ℕ) → block_length false more ≡ Some k → suc (suc k) ≤ m → m ≤ length (42 ∷ more) → (is_comment (take m (42 ∷ more)) || is_mark (47 ∷ take m (42 ∷ more))) ≡ false
block-past more k zero found past within = absurd (omega (arith, past))
block-past more k (suc m) found past within = rw (block-ends false more m (omega (arith, within)), found, ends-past k m (omega (arith, past))) refl

block-never : (more : List ℕ) (m : ℕ) → block_length false more ≡ None → 1 ≤ m → m ≤ length (42 ∷ more) → (is_comment (take m (42 ∷ more)) || is_mark (47 ∷ take m (42 ∷ more))) ≡ false
block-never more zero found past within = absurd (omega (arith, past))
block-never more (suc m) found past within = rw (block-ends false more m (omega (arith, within)), found) refl

block-longest : (more : List ℕ) (found : Option ℕ) → block_length false more ≡ found → IfSome found (λ n. n ≤ length more) → block_front (longest_piece (47 ∷ 42 ∷ more)) ≡ closed_front found
block-longest more None found within =
    let e = longest-is 47 (42 ∷ more) (λ xs. is_comment xs || is_mark (47 ∷ xs)) 0 slash-means (omega arith) refl (λ m past most. block-never more m found past most) in
    ap block_front e
block-longest more (Some k) found within =
    let e = longest-is 47 (42 ∷ more) (λ xs. is_comment xs || is_mark (47 ∷ xs)) (suc k) slash-means (omega (arith, within)) (rw (block-ends false more k within, found, ends-here k) refl) (λ m past most. block-past more k m found past most) in
    ap block_front e ∙ ap front.Blank (omega (arith, length-take k more, within))

letter-means : (byte : ℕ) (xs : List ℕ) → (byte == 10) ≡ false → is_blank byte ≡ false → is_letter byte ≡ true → is_piece (byte ∷ xs) ≡ list_all is_word_byte xs
unfolding is_piece
letter-means byte xs line blank letter =
    let hash : (byte == 35) ≡ false = grind (arith, nat_tests) in
    let slash : (byte == 47) ≡ false = grind (arith, nat_tests) in
    rw (line, blank, hash, slash, letter) refl

letter-longest : (byte : ℕ) (rest : List ℕ) → (byte == 10) ≡ false → is_blank byte ≡ false → is_letter byte ≡ true → longest_piece (byte ∷ rest) ≡ take (prefix_len is_word_byte (byte ∷ rest)) (byte ∷ rest)
letter-longest byte rest line blank letter =
    let e = longest-is byte rest (list_all is_word_byte) (prefix_len is_word_byte rest) (λ xs. letter-means byte xs line blank letter) (prefix-within is_word_byte rest) (all-prefix is_word_byte rest) (all-longer is_word_byte rest) in
    let one : 1 + prefix_len is_word_byte rest ≡ suc (prefix_len is_word_byte rest) = omega arith in
    e ∙ rw (letter, one) refl

digit-means : (byte : ℕ) (xs : List ℕ) → (byte == 10) ≡ false → is_blank byte ≡ false → is_letter byte ≡ false → is_digit byte ≡ true → is_piece (byte ∷ xs) ≡ all_go_on byte xs
unfolding is_piece
digit-means byte xs line blank letter digit =
    let hash : (byte == 35) ≡ false = grind (arith, nat_tests) in
    let slash : (byte == 47) ≡ false = grind (arith, nat_tests) in
    rw (line, blank, hash, slash, letter, digit) refl

digit-longest : (byte : ℕ) (rest : List ℕ) → (byte == 10) ≡ false → is_blank byte ≡ false → is_letter byte ≡ false → is_digit byte ≡ true → longest_piece (byte ∷ rest) ≡ take (number_length 0 (byte ∷ rest)) (byte ∷ rest)
digit-longest byte rest line blank letter digit =
    let e = longest-is byte rest (all_go_on byte) (number_length byte rest) (λ xs. digit-means byte xs line blank letter digit) (go-within byte rest) (go-prefix byte rest) (go-longer byte rest) in
    e ∙ rw (letter, digit) refl

point-means : (xs : List ℕ) → is_piece (46 ∷ xs) ≡ ((begins_number (46 ∷ xs) && all_go_on 46 xs) || is_mark (46 ∷ xs))
unfolding is_piece
point-means xs = refl

neither : (a b c : Bool) → b ≡ false → c ≡ false → ((a && b) || c) ≡ false
neither true b c none never = rw none never
neither false b c none never = never

point-past : (d : ℕ) (ds : List ℕ) (m : ℕ) → is_digit d ≡ true → suc (number_length 46 (d ∷ ds)) ≤ suc m → m ≤ length ds → ((begins_number (46 ∷ d ∷ take m ds) && all_go_on 46 (d ∷ take m ds)) || is_mark (46 ∷ d ∷ take m ds)) ≡ false
point-past d ds m digit past within =
    let far : all_go_on 46 (take (suc m) (d ∷ ds)) ≡ false = go-longer 46 (d ∷ ds) (suc m) past (omega (arith, within)) in
    let no_point : nat_eq d 46 ≡ false = grind (arith, nat_tests) in
    let never : is_mark (46 ∷ d ∷ take m ds) ≡ false = rw no_point refl in
    neither (begins_number (46 ∷ d ∷ take m ds)) (all_go_on 46 (d ∷ take m ds)) (is_mark (46 ∷ d ∷ take m ds)) far never

point-beyond : (d : ℕ) (ds : List ℕ) (m : ℕ) → is_digit d ≡ true → suc (number_length 46 (d ∷ ds)) ≤ m → m ≤ length (d ∷ ds) → ((begins_number (46 ∷ take m (d ∷ ds)) && all_go_on 46 (take m (d ∷ ds))) || is_mark (46 ∷ take m (d ∷ ds))) ≡ false
point-beyond d ds zero digit past within = absurd (omega (arith, past))
point-beyond d ds (suc m) digit past within = point-past d ds m digit past (omega (arith, within))

either-way : (a b c : Bool) → a ≡ true → b ≡ true → ((a && b) || c) ≡ true
either-way true true c p q = refl
either-way true false c p q = absurd (cc)
either-way false b c p q = absurd (cc)

point-longest : (d : ℕ) (ds : List ℕ) → is_digit d ≡ true → longest_piece (46 ∷ d ∷ ds) ≡ take (number_length 0 (46 ∷ d ∷ ds)) (46 ∷ d ∷ ds)
point-longest d ds digit =
    let goes : goes_on 46 d ≡ true = grind (arith, nat_tests) in
    let n : number_length 46 (d ∷ ds) ≡ suc (number_length d ds) = rw goes refl in
    let begins : begins_number (46 ∷ take (number_length 46 (d ∷ ds)) (d ∷ ds)) ≡ true = rw (n, digit) refl in
    let passes = either-way (begins_number (46 ∷ take (number_length 46 (d ∷ ds)) (d ∷ ds))) (all_go_on 46 (take (number_length 46 (d ∷ ds)) (d ∷ ds))) (is_mark (46 ∷ take (number_length 46 (d ∷ ds)) (d ∷ ds))) begins (go-prefix 46 (d ∷ ds)) in
    longest-is 46 (d ∷ ds) (λ xs. (begins_number (46 ∷ xs) && all_go_on 46 xs) || is_mark (46 ∷ xs)) (number_length 46 (d ∷ ds)) point-means (go-within 46 (d ∷ ds)) passes (λ m past within. point-beyond d ds m digit past within)

number-longest : (byte : ℕ) (rest : List ℕ) → (byte == 10) ≡ false → is_blank byte ≡ false → is_letter byte ≡ false → begins_number (byte ∷ rest) ≡ true → longest_piece (byte ∷ rest) ≡ take (number_length 0 (byte ∷ rest)) (byte ∷ rest)
number-longest byte [] line blank letter begins = digit-longest byte [] line blank letter begins
number-longest byte (d ∷ ds) line blank letter begins =
    elim (or_cases (is_digit byte) (byte == 46 && is_digit d) begins) [
      | inl digit ↦ digit-longest byte (d ∷ ds) line blank letter digit
      | inr point ↦
          let first : byte ≡ 46 = grind (arith, nat_tests, and_left (byte == 46) (is_digit d) point) in
          rw first (point-longest d ds (and_right (byte == 46) (is_digit d) point))
    ]

-- ---- character constants and strings

quote-means : (xs : List ℕ) → is_piece (39 ∷ xs) ≡ is_character xs
unfolding is_piece
quote-means xs = refl

string-means : (xs : List ℕ) → is_piece (34 ∷ xs) ≡ is_string false xs
unfolding is_piece
string-means xs = refl

string-longest : (at : Place) (rest : List ℕ) (found : Option ℕ) → string_length false rest ≡ found → IfSome found (λ n. n ≤ length rest) → string_front at (longest_piece (34 ∷ rest)) ≡ quoted_front at (34 ∷ rest) found
string-longest at rest None found within = ap (string_front at) (longest-none 34 rest (is_string false) string-means (λ m low most. string-ends false rest m most ∙ ap (λ f. ends_at f m) found))
string-longest at rest (Some k) found within =
    let e = longest-is 34 rest (is_string false) k string-means within (string-ends false rest k within ∙ (ap (λ f. ends_at f k) found ∙ ends-here k)) (λ m past most. string-ends false rest m most ∙ (ap (λ f. ends_at f m) found ∙ ends-past k m past)) in
    let one : 1 + k ≡ suc k = omega arith in
    let all : length (take k rest) ≡ k = omega (arith, length-take k rest, within) in
    ap (string_front at) e ∙ rw (one, all) refl

three_true : (a b c : Bool) → a ≡ true → b ≡ true → c ≡ true → (a && b && c) ≡ true
three_true true true c p q r = r
three_true true false c p q r = absurd (cc)
three_true false b c p q r = absurd (cc)

three_false : (a b c : Bool) → (a && b) ≡ false → (a && b && c) ≡ false
three_false true true c p = absurd (cc)
three_false true false c p = refl
three_false false b c p = refl

third_false : (a b c : Bool) → c ≡ false → (a && b && c) ≡ false
third_false true true c p = p
third_false true false c p = refl
third_false false b c p = refl

and_none : (a b : Bool) → b ≡ false → (a && b) ≡ false
and_none true b p = p
and_none false b p = refl

when_false : (test a b : Bool) → test ≡ false → (if test then a else b) ≡ b
when_false true a b is = absurd (cc)
when_false false a b is = refl

plain-rest : (x y : ℕ) (zs : List ℕ) → (x == 92) ≡ false → is_character (x ∷ y ∷ zs) ≡ (y == 39 && is_plain x && is_empty zs)
plain-rest x y zs slash = when_false (x == 92) (is_some (escape y) && is_quote zs) (y == 39 && is_plain x && is_empty zs) slash

never-pair : (x y : ℕ) (more : List ℕ) → ((k : ℕ) → k ≤ length more → is_character (x ∷ y ∷ take k more) ≡ false) → (m : ℕ) → 0 ≤ m → m ≤ length (x ∷ y ∷ more) → is_character (take m (x ∷ y ∷ more)) ≡ false
never-pair x y more each zero low within = refl
never-pair x y more each (suc zero) low within = refl
never-pair x y more each (suc (suc k)) low within = each k (omega (arith, within))

constant-none : (at : Place) (x y : ℕ) (more : List ℕ) → ((k : ℕ) → k ≤ length more → is_character (x ∷ y ∷ take k more) ≡ false) → character_front at (longest_piece (39 ∷ x ∷ y ∷ more)) ≡ constant_front at (39 ∷ x ∷ y ∷ more) None
constant-none at x y more each = ap (character_front at) (longest-none 39 (x ∷ y ∷ more) is_character quote-means (never-pair x y more each))

past-3 : (x y : ℕ) (more : List ℕ) (m : ℕ) → (x == 92) ≡ false → 3 ≤ m → m ≤ length (x ∷ y ∷ more) → is_character (take m (x ∷ y ∷ more)) ≡ false
past-3 x y more zero slash past within = absurd (omega (arith, past))
past-3 x y more (suc zero) slash past within = absurd (omega (arith, past))
past-3 x y more (suc (suc zero)) slash past within = absurd (omega (arith, past))
past-3 x y [] (suc (suc (suc k))) slash past within = absurd (omega (arith, within))
past-3 x y (z ∷ zs) (suc (suc (suc k))) slash past within = plain-rest x y (take (suc k) (z ∷ zs)) slash ∙ third_false (y == 39) (is_plain x) false refl

constant-3 : (at : Place) (x y : ℕ) (more : List ℕ) → (x == 92) ≡ false → (y == 39 && is_plain x) ≡ true → character_front at (longest_piece (39 ∷ x ∷ y ∷ more)) ≡ constant_front at (39 ∷ x ∷ y ∷ more) (Some (x, 3))
constant-3 at x y more slash plain =
    let passes : is_character (take 2 (x ∷ y ∷ more)) ≡ true = plain-rest x y [] slash ∙ (three_true (y == 39) (is_plain x) true (and_left (y == 39) (is_plain x) plain) (and_right (y == 39) (is_plain x) plain) refl) in
    let e = longest-is 39 (x ∷ y ∷ more) is_character 2 quote-means (omega arith) passes (λ m past within. past-3 x y more m slash past within) in
    ap (character_front at) e ∙ rw slash refl

past-4 : (x y z : ℕ) (zs : List ℕ) (m : ℕ) → (x == 92) ≡ true → 4 ≤ m → m ≤ length (x ∷ y ∷ z ∷ zs) → is_character (take m (x ∷ y ∷ z ∷ zs)) ≡ false
past-4 x y z zs zero slash past within = absurd (omega (arith, past))
past-4 x y z zs (suc zero) slash past within = absurd (omega (arith, past))
past-4 x y z zs (suc (suc zero)) slash past within = absurd (omega (arith, past))
past-4 x y z zs (suc (suc (suc zero))) slash past within = absurd (omega (arith, past))
past-4 x y z [] (suc (suc (suc (suc k)))) slash past within = absurd (omega (arith, within))
past-4 x y z (w ∷ ws) (suc (suc (suc (suc k)))) slash past within = rw slash (and_none (is_some (escape y)) (z == 39 && false) (and_none (z == 39) false refl))

constant-4 : (at : Place) (x y z : ℕ) (zs : List ℕ) (value : ℕ) → (x == 92) ≡ true → (z == 39) ≡ true → escape y ≡ Some value → character_front at (longest_piece (39 ∷ x ∷ y ∷ z ∷ zs)) ≡ constant_front at (39 ∷ x ∷ y ∷ z ∷ zs) (Some (value, 4))
constant-4 at x y z zs value slash close found =
    let passes : is_character (take 3 (x ∷ y ∷ z ∷ zs)) ≡ true = rw (slash, found, close) refl in
    let e = longest-is 39 (x ∷ y ∷ z ∷ zs) is_character 3 quote-means (omega arith) passes (λ m past within. past-4 x y z zs m slash past within) in
    ap (character_front at) e ∙ rw (slash, found) refl

open-3 : (x y z : ℕ) (zs : List ℕ) (k : ℕ) → (x == 92) ≡ true → (z == 39) ≡ false → is_character (x ∷ y ∷ take k (z ∷ zs)) ≡ false
open-3 x y z zs zero slash close = rw slash (and_none (is_some (escape y)) false refl)
open-3 x y z zs (suc k) slash close = rw (slash, close) (and_none (is_some (escape y)) false refl)

unescaped : (x y : ℕ) (more : List ℕ) (k : ℕ) → (x == 92) ≡ true → escape y ≡ None → is_character (x ∷ y ∷ take k more) ≡ false
unescaped x y more k slash found = rw (slash, found) refl

alone : (x y k : ℕ) → (x == 92) ≡ true → k ≤ length {A = ℕ} [] → is_character (x ∷ y ∷ take k []) ≡ false
alone x y zero slash within = rw slash (and_none (is_some (escape y)) false refl)
alone x y (suc k) slash within = absurd (omega (arith, within))

escape-case : (at : Place) (x y z : ℕ) (zs : List ℕ) (close : Bool) (found : Option ℕ) → (x == 92) ≡ true → (z == 39) ≡ close → escape y ≡ found → character_front at (longest_piece (39 ∷ x ∷ y ∷ z ∷ zs)) ≡ constant_front at (39 ∷ x ∷ y ∷ z ∷ zs) (if close then option_map (λ value. (value, 4)) found else None)
escape-case at x y z zs true None slash close found = constant-none at x y (z ∷ zs) (λ k within. unescaped x y (z ∷ zs) k slash found)
escape-case at x y z zs true (Some value) slash close found = constant-4 at x y z zs value slash close found
escape-case at x y z zs false found slash close is = constant-none at x y (z ∷ zs) (λ k within. open-3 x y z zs k slash close)

escape-longest : (at : Place) (x y : ℕ) (more : List ℕ) → (x == 92) ≡ true → character_front at (longest_piece (39 ∷ x ∷ y ∷ more)) ≡ constant_front at (39 ∷ x ∷ y ∷ more) (escaped y more)
escape-longest at x y [] slash = constant-none at x y [] (λ k within. alone x y k slash within)
escape-longest at x y (z ∷ zs) slash = escape-case at x y z zs (z == 39) (escape y) slash refl refl

pair-case : (at : Place) (x y : ℕ) (more : List ℕ) (slash plain : Bool) → (x == 92) ≡ slash → (y == 39 && is_plain x) ≡ plain → character_front at (longest_piece (39 ∷ x ∷ y ∷ more)) ≡ constant_front at (39 ∷ x ∷ y ∷ more) (if slash then escaped y more else if plain then Some (x, 3) else None)
pair-case at x y more true plain slash is = escape-longest at x y more slash
pair-case at x y more false true slash is = constant-3 at x y more slash is
pair-case at x y more false false slash is = constant-none at x y more (λ k within. plain-rest x y (take k more) slash ∙ three_false (y == 39) (is_plain x) (is_empty (take k more)) is)

short-0 : (m : ℕ) → 0 ≤ m → m ≤ length {A = ℕ} [] → is_character (take m []) ≡ false
short-0 zero low within = refl
short-0 (suc m) low within = absurd (omega (arith, within))

short-1 : (x m : ℕ) → 0 ≤ m → m ≤ length (x ∷ []) → is_character (take m (x ∷ [])) ≡ false
short-1 x zero low within = refl
short-1 x (suc zero) low within = refl
short-1 x (suc (suc m)) low within = absurd (omega (arith, within))

constant-longest : (at : Place) (rest : List ℕ) → character_front at (longest_piece (39 ∷ rest)) ≡ constant_front at (39 ∷ rest) (character_of (39 ∷ rest))
constant-longest at [] = ap (character_front at) (longest-none 39 [] is_character quote-means short-0)
constant-longest at (x ∷ []) = ap (character_front at) (longest-none 39 (x ∷ []) is_character quote-means (short-1 x))
constant-longest at (x ∷ y ∷ more) = pair-case at x y more (x == 92) (y == 39 && is_plain x) refl refl

-- ---- marks

not-among : (words : List (List ℕ)) (n : ℕ) (text : List ℕ) → list_all (λ w. length w == n) words ≡ true → (length text ≡ n → ⊥) → is_among words text ≡ false
not-among [] n text all other = refl
not-among (w ∷ ws) n text all other =
    let first : bytes_eq text w ≡ false = false_from_ne_true (bytes_eq text w) (λ same. other (ap length ((bytes_eq-Decides text w).0 same) ∙ grind (arith, nat_tests, and_left (length w == n) _ all))) in
    rw first (not-among ws n text (and_right (length w == n) _ all) other)

abbrev pub mark_at : Bool → Bool → Bool → ℕ → Bool
mark_at one two three zero = one
mark_at one two three (suc zero) = two
mark_at one two three (suc (suc zero)) = three
mark_at one two three (suc (suc (suc m))) = false

only : (a b c : Bool) → a ≡ false → b ≡ false → (a || b || c) ≡ c
only true b c p q = absurd (cc)
only false true c p q = absurd (cc)
only false false c p q = refl

second-only : (a b c : Bool) → a ≡ false → c ≡ false → (a || b || c) ≡ b
second-only true b c p q = absurd (cc)
second-only false true c p q = refl
second-only false false c p q = q

first-only : (a b c : Bool) → b ≡ false → c ≡ false → (a || b || c) ≡ a
first-only true b c p q = refl
first-only false true c p q = absurd (cc)
first-only false false c p q = q

marks-at : (byte : ℕ) (rest : List ℕ) (m : ℕ) → m ≤ length rest → is_mark (byte ∷ take m rest) ≡ mark_at (is_among marks_of_1 (take 1 (byte ∷ rest))) (is_among marks_of_2 (take 2 (byte ∷ rest))) (is_among marks_of_3 (take 3 (byte ∷ rest))) m
marks-at byte rest zero within = only _ _ _ (not-among marks_of_3 3 (byte ∷ []) refl (λ e. absurd (omega (arith, e)))) (not-among marks_of_2 2 (byte ∷ []) refl (λ e. absurd (omega (arith, e))))
marks-at byte rest (suc zero) within = second-only _ _ _ (not-among marks_of_3 3 (byte ∷ take 1 rest) refl (λ e. absurd (omega (arith, e, length-take 1 rest)))) (not-among marks_of_1 1 (byte ∷ take 1 rest) refl (λ e. absurd (omega (arith, e, length-take 1 rest, within))))
marks-at byte rest (suc (suc zero)) within = first-only _ _ _ (not-among marks_of_2 2 (byte ∷ take 2 rest) refl (λ e. absurd (omega (arith, e, length-take 2 rest, within)))) (not-among marks_of_1 1 (byte ∷ take 2 rest) refl (λ e. absurd (omega (arith, e, length-take 2 rest, within))))
marks-at byte rest (suc (suc (suc m))) within =
    let text : List ℕ = byte ∷ take (suc (suc (suc m))) rest in
    let long : length text ≡ suc (suc (suc (suc m))) = omega (arith, length-take (suc (suc (suc m))) rest, within) in
    only (is_among marks_of_3 text) (is_among marks_of_2 text) (is_among marks_of_1 text) (not-among marks_of_3 3 text refl (λ e. absurd (omega (arith, e, long)))) (not-among marks_of_2 2 text refl (λ e. absurd (omega (arith, e, long))))
    ∙ not-among marks_of_1 1 text refl (λ e. absurd (omega (arith, e, long)))

among-length : (words : List (List ℕ)) (text : List ℕ) (n : ℕ) → list_all (λ w. length w == n) words ≡ true → is_among words text ≡ true → length text ≡ n
among-length [] text n all is = absurd (cc)
among-length (w ∷ ws) text n all is =
    elim (or_cases (bytes_eq text w) (is_among ws text) is) [
      | inl same ↦ ap length ((bytes_eq-Decides text w).0 same) ∙ grind (arith, nat_tests, and_left (length w == n) _ all)
      | inr later ↦ among-length ws text n (and_right (length w == n) _ all) later
    ]

at-past : (one two three : Bool) (m : ℕ) → 3 ≤ m → mark_at one two three m ≡ false
at-past one two three zero past = absurd (omega (arith, past))
at-past one two three (suc zero) past = absurd (omega (arith, past))
at-past one two three (suc (suc zero)) past = absurd (omega (arith, past))
at-past one two three (suc (suc (suc m))) past = refl

at-past-2 : (one two : Bool) (m : ℕ) → 2 ≤ m → mark_at one two false m ≡ false
at-past-2 one two zero past = absurd (omega (arith, past))
at-past-2 one two (suc zero) past = absurd (omega (arith, past))
at-past-2 one two (suc (suc zero)) past = refl
at-past-2 one two (suc (suc (suc m))) past = refl

at-past-1 : (one : Bool) (m : ℕ) → 1 ≤ m → mark_at one false false m ≡ false
at-past-1 one zero past = absurd (omega (arith, past))
at-past-1 one (suc zero) past = refl
at-past-1 one (suc (suc zero)) past = refl
at-past-1 one (suc (suc (suc m))) past = refl

at-never : (m : ℕ) → mark_at false false false m ≡ false
at-never zero = refl
at-never (suc zero) = refl
at-never (suc (suc zero)) = refl
at-never (suc (suc (suc m))) = refl

-- a text of whose beginnings only marks are pieces
marked : (at : Place) (byte : ℕ) (rest : List ℕ) (one two three : Bool) → is_among marks_of_1 (take 1 (byte ∷ rest)) ≡ one → is_among marks_of_2 (take 2 (byte ∷ rest)) ≡ two → is_among marks_of_3 (take 3 (byte ∷ rest)) ≡ three
    → ((m : ℕ) → m ≤ length rest → is_piece (byte ∷ take m rest) ≡ mark_at one two three m)
    → mark_front at (longest_piece (byte ∷ rest)) ≡ marked_front at (byte ∷ rest) (if three then 3 else if two then 2 else if one then 1 else 0)
marked at byte rest one two true first second third is =
    let count : length (byte ∷ take 2 rest) ≡ 3 = among-length marks_of_3 (byte ∷ take 2 rest) 3 refl third in
    let within : 2 ≤ length rest = omega (arith, count, length-take 2 rest) in
    let long : length (take 2 rest) ≡ 2 = omega (arith, count) in
    let e = longest-is byte rest (λ xs. is_piece (byte ∷ xs)) 2 (λ xs. refl) within (is 2 within) (λ m past most. is m most ∙ at-past one two true m past) in
    ap (mark_front at) e ∙ rw long refl
marked at byte rest one true false first second third is =
    let count : length (byte ∷ take 1 rest) ≡ 2 = among-length marks_of_2 (byte ∷ take 1 rest) 2 refl second in
    let within : 1 ≤ length rest = omega (arith, count, length-take 1 rest) in
    let long : length (take 1 rest) ≡ 1 = omega (arith, count) in
    let e = longest-is byte rest (λ xs. is_piece (byte ∷ xs)) 1 (λ xs. refl) within (is 1 within) (λ m past most. is m most ∙ at-past-2 one true m past) in
    ap (mark_front at) e ∙ rw long refl
marked at byte rest true false false first second third is =
    let within : 0 ≤ length rest = omega arith in
    let e = longest-is byte rest (λ xs. is_piece (byte ∷ xs)) 0 (λ xs. refl) within (is 0 within) (λ m past most. is m most ∙ at-past-1 true m past) in
    ap (mark_front at) e
marked at byte rest false false false first second third is =
    ap (mark_front at) (longest-none byte rest (λ xs. is_piece (byte ∷ xs)) (λ xs. refl) (λ m low most. is m most ∙ at-never m))

-- no comment begins with this slash
no-comment : (rest : List ℕ) (m : ℕ) → m ≤ length rest → starts_with nat_eq (47 ∷ rest) (codes "//") ≡ false → starts_with nat_eq (47 ∷ rest) (codes "/*") ≡ false → is_comment (take m rest) ≡ false
no-comment rest zero within line block = refl
no-comment [] (suc m) within line block = absurd (omega (arith, within))
no-comment (second ∷ more) (suc m) within line block =
    let not_line : (second == 47) ≡ false = grind (arith, nat_tests) in
    let not_block : (second == 42) ≡ false = grind (arith, nat_tests) in
    rw (not_line, not_block) refl

no-number : (rest : List ℕ) (m : ℕ) → m ≤ length rest → begins_number (46 ∷ rest) ≡ false → begins_number (46 ∷ take m rest) ≡ false
no-number rest zero within number = refl
no-number [] (suc m) within number = absurd (omega (arith, within))
no-number (d ∷ ds) (suc m) within number = number

slash-only : (xs : List ℕ) → is_comment xs ≡ false → is_piece (47 ∷ xs) ≡ is_mark (47 ∷ xs)
slash-only xs none = slash-means xs ∙ rw none refl

point-only : (xs : List ℕ) → begins_number (46 ∷ xs) ≡ false → is_piece (46 ∷ xs) ≡ is_mark (46 ∷ xs)
point-only xs none = point-means xs ∙ rw none refl

others : (byte : ℕ) (xs : List ℕ) → (byte == 10) ≡ false → is_blank byte ≡ false → is_letter byte ≡ false → is_digit byte ≡ false → (byte == 39) ≡ false → (byte == 34) ≡ false → (byte == 35) ≡ false → (byte == 47) ≡ false → (byte == 46) ≡ false → is_piece (byte ∷ xs) ≡ is_mark (byte ∷ xs)
unfolding is_piece
others byte xs line blank letter digit quote string hash slash point = rw (line, blank, hash, slash, letter, digit, point, quote, string) refl

no-digit : (byte : ℕ) (rest : List ℕ) → begins_number (byte ∷ rest) ≡ false → is_digit byte ≡ false
no-digit byte [] number = number
no-digit byte (d ∷ ds) number = or_left (is_digit byte) _ number

-- the beginnings of a text that is none of the other kinds are marks
mark-piece : (byte : ℕ) (rest : List ℕ) (m : ℕ) (slash point : Bool) → (byte == 47) ≡ slash → (byte == 46) ≡ point → m ≤ length rest
    → (byte == 10) ≡ false → is_blank byte ≡ false → starts_with nat_eq (byte ∷ rest) (codes "//") ≡ false → starts_with nat_eq (byte ∷ rest) (codes "/*") ≡ false
    → is_letter byte ≡ false → begins_number (byte ∷ rest) ≡ false → (byte == 39) ≡ false → (byte == 34) ≡ false → (byte == 35) ≡ false
    → is_piece (byte ∷ take m rest) ≡ is_mark (byte ∷ take m rest)
mark-piece byte rest m true point is_slash is_point within line blank comment block letter number quote string hash =
    let first : byte ≡ 47 = grind (arith, nat_tests) in
    let comment_47 : starts_with nat_eq (47 ∷ rest) (codes "//") ≡ false = ap (λ b. starts_with nat_eq (b ∷ rest) (codes "//")) (sym first) ∙ comment in
    let block_47 : starts_with nat_eq (47 ∷ rest) (codes "/*") ≡ false = ap (λ b. starts_with nat_eq (b ∷ rest) (codes "/*")) (sym first) ∙ block in
    rw first (slash-only (take m rest) (no-comment rest m within comment_47 block_47))
mark-piece byte rest m false true is_slash is_point within line blank comment block letter number quote string hash =
    let first : byte ≡ 46 = grind (arith, nat_tests) in
    let number_46 : begins_number (46 ∷ rest) ≡ false = ap (λ b. begins_number (b ∷ rest)) (sym first) ∙ number in
    rw first (point-only (take m rest) (no-number rest m within number_46))
mark-piece byte rest m false false is_slash is_point within line blank comment block letter number quote string hash =
    others byte (take m rest) line blank letter (no-digit byte rest number) quote string hash is_slash is_point

mark-longest : (at : Place) (byte : ℕ) (rest : List ℕ) → (byte == 10) ≡ false → is_blank byte ≡ false → starts_with nat_eq (byte ∷ rest) (codes "//") ≡ false → starts_with nat_eq (byte ∷ rest) (codes "/*") ≡ false
    → is_letter byte ≡ false → begins_number (byte ∷ rest) ≡ false → (byte == 39) ≡ false → (byte == 34) ≡ false → (byte == 35) ≡ false
    → mark_front at (longest_piece (byte ∷ rest)) ≡ marked_front at (byte ∷ rest) (mark_length (byte ∷ rest))
mark-longest at byte rest line blank comment block letter number quote string hash =
    marked at byte rest (is_among marks_of_1 (take 1 (byte ∷ rest))) (is_among marks_of_2 (take 2 (byte ∷ rest))) (is_among marks_of_3 (take 3 (byte ∷ rest))) refl refl refl
    (λ m within. mark-piece byte rest m (byte == 47) (byte == 46) refl refl within line blank comment block letter number quote string hash ∙ marks-at byte rest m within)

-- ---- all fronts

same-if : (test : Bool) (x y u v : Front) → (test ≡ true → x ≡ u) → (test ≡ false → y ≡ v) → (if test then x else y) ≡ (if test then u else v)
same-if true x y u v p q = p refl
same-if false x y u v p q = q refl

quote-front : (at : Place) (byte : ℕ) (rest : List ℕ) → (byte == 39) ≡ true → character_front at (longest_piece (byte ∷ rest)) ≡ constant_front at (byte ∷ rest) (character_of (byte ∷ rest))
quote-front at byte rest is = let first : byte ≡ 39 = grind (arith, nat_tests) in rw first (constant-longest at rest)

string-quote : (at : Place) (byte : ℕ) (rest : List ℕ) → (byte == 34) ≡ true → string_front at (longest_piece (byte ∷ rest)) ≡ quoted_front at (byte ∷ rest) (string_length false rest)
string-quote at byte rest is = let first : byte ≡ 34 = grind (arith, nat_tests) in rw first (string-longest at rest (string_length false rest) refl (string-within false rest))

line-start : (byte : ℕ) (rest : List ℕ) → starts_with nat_eq (byte ∷ rest) (codes "//") ≡ true → length (longest_piece (byte ∷ rest)) ≡ prefix_len (λ b. not (b == 10)) (byte ∷ rest)
line-start byte rest starts =
    let two = starts-two 47 47 byte rest starts in
    ap (λ t. length (longest_piece t)) two.1 ∙ (line-front two.0 ∙ sym (ap (prefix_len (λ b. not (b == 10))) two.1))

block-start : (byte : ℕ) (rest : List ℕ) → starts_with nat_eq (byte ∷ rest) (codes "/*") ≡ true → block_front (longest_piece (byte ∷ rest)) ≡ closed_front (block_length false (drop 2 (byte ∷ rest)))
block-start byte rest starts =
    let two = starts-two 47 42 byte rest starts in
    ap (λ t. block_front (longest_piece t)) two.1
    ∙ (block-longest two.0 (block_length false two.0) refl (block-within false two.0) ∙ sym (ap (λ t. closed_front (block_length false (drop 2 t))) two.1))

pub front_of-is : (at : Place) (text : List ℕ) → front_of at text ≡ front_at at text
front_of-is at [] = refl
front_of-is at (byte ∷ rest) =
    same-if (byte == 10) _ _ _ _ (λ h. refl)
    (λ line. same-if (is_blank byte) _ _ _ _ (λ h. refl)
    (λ blank. same-if (starts_with nat_eq (byte ∷ rest) (codes "//")) _ _ _ _ (λ starts. ap front.Blank (line-start byte rest starts))
    (λ comment. same-if (starts_with nat_eq (byte ∷ rest) (codes "/*")) _ _ _ _ (λ starts. block-start byte rest starts)
    (λ block. same-if (is_letter byte) _ _ _ _ (λ letter. ap (word_front at) (letter-longest byte rest line blank letter))
    (λ letter. same-if (begins_number (byte ∷ rest)) _ _ _ _ (λ number. ap (number_front at) (number-longest byte rest line blank letter number))
    (λ number. same-if (byte == 39) _ _ _ _ (λ quote. quote-front at byte rest quote)
    (λ quote. same-if (byte == 34) _ _ _ _ (λ string. string-quote at byte rest string)
    (λ string. same-if (byte == 35) _ _ _ _ (λ h. refl)
    (λ hash. mark-longest at byte rest line blank comment block letter number quote string hash)))))))))
