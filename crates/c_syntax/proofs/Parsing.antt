-- What is read of a whole list, in terms of its parts by their lengths.
use Rattle.std.proofs.Common.{◌≡◌, ◌≤◌, ◌<◌, ◌^◌, ℕ, ◌+◌, ◌-◌, ◌==◌, Bool, true, false, not, if◌then◌else◌, List, [], ◌∷◌, ◌++◌, length, take, drop, get_or, Result, Ok, Err, refl, sym, ap, ◌∙◌, subst, arith}
use Rattle.std.proofs.Math.Seq.{drop-append_seam}
use Rattle.std.proofs.lemmas.Bool.{eqb-true}
use Rattle.std.proofs.lemmas.List.{append-nil, length-append}
use Rattle.std.specs.List.{list_all}
use Rattle.c_tree.proofs.PiecesLaws.{fits_length, fits_sound}
use Rattle.c_tree.specs.TokenLists.{is_closed, is_inner, is_end_kind}
use Rattle.c_tree.specs.declared.token.Token.{Token}
use Rattle.c_tree.specs.Programs.{ProgramTree, wants_of_program, IsSound}
use Rattle.c_reader.specs.Faults.{Tells, AreAsked, names_construct, named_word}
use Rattle.c_tree.specs.declared.token.Place.{Place}
use Rattle.c_tree.specs.declared.programs.ExternalDeclaration.{ExternalDeclaration}
use Rattle.c_reader.specs.Closures.{Tried}
use Rattle.c_reader.specs.declared.unread.Unread.{Unread}
use Rattle.c_reader.specs.Depths.{AreShallow}
use Rattle.c_reader.specs.declared.faults.SyntaxFault.{SyntaxFault}
use Rattle.c_reader.specs.declared.faults.SyntaxFault.TheVariants as fault
use Rattle.c_reader.specs.Reading as reading
use Rattle.c_reader.specs.Samples.{sample_of, end_token, is_taken, can_stand}
use Rattle.c_reader.specs.declared.samples.Sample.{Sample}
use Rattle.c_reader.proofs.Ending.{front_is, following_is, front_closed, probe_closed}
use Rattle.c_reader.proofs.Truths.{not_true, and_left, and_right, and_both}
use Rattle.c_reader.proofs.Binding.{fits_part}
use Rattle.c_syntax.specs.Items.{read_program}
use Rattle.c_reader.specs.Alone.{fault_of}
use Rattle.c_reader.specs.Firsts.{BeginsOf, IsFirstFault, IsFaultOf}
use Rattle.c_syntax.specs.Outcome.{Ends, IsParsed}
use Rattle.c_syntax.specs.Programs.{pieces_of, IsSpelled, ProgramAt}
use Rattle.c_syntax.proofs.First.{one_left, first_fault_with, first_deep, spelled_whole, spelled_read, reads, cannot, can_good, can_bad, can_deep}

-- ---- what an answer with a sample says

two : (b : Bool) → not b ≡ true → b ≡ true → ⊥
two true h g = not_true h
two false h g = not_true g

equal_two : (n : ℕ) → n ≡ 2 → (n == 2) ≡ true
equal_two n h = ap (λ m. m == 2) h

is_two : (n : ℕ) → (n == 2) ≡ true → n ≡ 2
is_two n h = eqb-true n 2 h

double : (b : Bool) → not b ≡ false → b ≡ true
double true h = refl
double false h = absurd (not_true (sym h))

-- a list of two after others is the last two
last_two : (xs front : List Token) (v e : Token) (rest : List Token) → xs ++ v ∷ e ∷ [] ≡ front ++ rest → length rest ≡ 2 → rest ≡ v ∷ e ∷ []
last_two xs front v e rest h two =
    let short : length front ≡ length xs = omega (arith, two, ap length h, length-append front rest, length-append xs (v ∷ e ∷ [])) in
    sym (drop-append_seam front rest) ∙ ap (λ n. drop n (front ++ rest)) short ∙ ap (drop (length xs)) (sym h) ∙ drop-append_seam xs (v ∷ e ∷ [])

module _ (size : ℕ) (before following : List Token) (w : Token) (small : length (before ++ w ∷ following) + 2 ≤ size) (closed : is_closed (before ++ w ∷ following) ≡ true) (fault : read_program size 201 (before ++ w ∷ following) ≡ reading.bad (w ∷ following)) (s : Sample) where
  abbrev list : List Token
  list = before ++ sample_of s ∷ end_token ∷ []

  fits : length list ≤ size
  fits = omega (arith, small, length-append before (w ∷ following), length-append before (sample_of s ∷ end_token ∷ []))

  says_yes : (answer : reading.Answer ProgramTree) → read_program size 201 list ≡ answer → is_taken answer ≡ true → BeginsOf ProgramAt (before ++ sample_of s ∷ [])
  unfolding is_taken
  says_yes (reading.good p rest) is taken = can_good size before following w fault (sample_of s) end_token fits (probe_closed before s (front_closed before w following closed)) p rest is
  says_yes (reading.bad rest) is taken = can_bad size before following w fault (sample_of s) end_token rest (λ h. two (length rest == 2) taken (equal_two (length rest) h)) is
  says_yes (reading.deep rest) is taken = can_deep size before following w fault (sample_of s) end_token rest is

  says_no : (answer : reading.Answer ProgramTree) → read_program size 201 list ≡ answer → is_taken answer ≡ false → BeginsOf ProgramAt (before ++ sample_of s ∷ []) → ⊥
  unfolding is_taken
  says_no (reading.good p rest) is taken b = not_true (sym taken)
  says_no (reading.bad rest) is taken b =
      let found = (reads size).bad list rest is in
      cannot size before following w fault (sample_of s) end_token fits (is ∙ ap (λ u. reading.bad u) (last_two before found.front (sample_of s) end_token rest found.whole (is_two (length rest) (double (length rest == 2) taken)))) b
  says_no (reading.deep rest) is taken b = not_true (sym taken)

  pub tells : Tells (can_stand (read_program size 201) before s) (BeginsOf ProgramAt (before ++ sample_of s ∷ []))
  tells = record { yes_ = λ h. says_yes (read_program size 201 list) refl h; no_ = λ h. says_no (read_program size 201 list) refl h }

-- ---- the outcomes

module _ (size : ℕ) (ts : List Token) (small : length ts + 2 ≤ size) (closed : is_closed ts ≡ true) where
  enough : length ts ≤ size
  enough = omega (arith, small)

  pub parsed_is : (p : ProgramTree) (rest : List Token) → read_program size 201 ts ≡ reading.good p rest → IsParsed ts p
  parsed_is p rest h = let s = (spelled_whole size ts enough closed p rest h).1 in record { spelled_ = s.0; shallow = s.1 }

  abbrev front : List Token → List Token
  front l = take (length ts - length l) ts

  named_fault : (before : List Token) (w : Token) (can : Sample → Bool) (b : Bool) → names_construct can before w ≡ b → IsFirstFault ProgramAt ts before w → AreAsked (BeginsOf ProgramAt) before can
      → IsFaultOf ProgramAt ts (if b then fault.Construct (named_word w) w.place else fault.Expected w.place)
  unfolding IsFaultOf
  named_fault before w can true names first asked = (before, (w, (record { first = first; can = can; asked = asked; names = names }, refl, refl)))
  named_fault before w can false names first asked = (before, (w, (record { first = first; can = can; asked = asked; names = names }, refl)))

  -- the answer again, with the front of the list
  fault_at : (l : List Token) (w : Token) (following : List Token) → l ≡ w ∷ following → read_program size 201 ts ≡ reading.bad l → (f : (before : List Token) × IsFirstFault ProgramAt ts before w) → ts ≡ f.0 ++ w ∷ following
      → AreAsked (BeginsOf ProgramAt) (front l) (can_stand (read_program size 201) (front l)) × (f.0 ≡ front l)
  fault_at l w following is h f whole =
      let same : f.0 ≡ front l = sym (front_is ts f.0 l (whole ∙ ap (λ u. f.0 ++ u) (sym is))) in
      let again : read_program size 201 (f.0 ++ w ∷ following) ≡ reading.bad (w ∷ following) = ap (read_program size 201) (sym whole) ∙ h ∙ ap (λ u. reading.bad u) is in
      let asked : AreAsked (BeginsOf ProgramAt) f.0 (can_stand (read_program size 201) f.0) = λ s. tells size f.0 following w (subst (λ u. length u + 2 ≤ size) whole small) (subst (λ u. is_closed u ≡ true) whole closed) again s in
      (subst (λ u. AreAsked (BeginsOf ProgramAt) u (can_stand (read_program size 201) u)) same asked, same)

  pub fault_is : (l : List Token) (w : Token) (following : List Token) (fault : SyntaxFault) → l ≡ w ∷ following → read_program size 201 ts ≡ reading.bad l → fault ≡ fault_of (can_stand (read_program size 201) (front l)) (front l) w → IsFaultOf ProgramAt ts fault
  unfolding fault_of
  fault_is l w following fault is h named =
      let f = first_fault_with size ts enough w following (h ∙ ap (λ u. reading.bad u) is) in
      let a = fault_at l w following is h (f.0, f.1.0) f.1.1 in
      subst (IsFaultOf ProgramAt ts) (sym named) (named_fault (front l) w (can_stand (read_program size 201) (front l)) (names_construct (can_stand (read_program size 201) (front l)) (front l) w) refl (subst (λ u. IsFirstFault ProgramAt ts u w) a.1 f.1.0) a.0)

  pub deep_is : (l : List Token) (w : Token) (following : List Token) → l ≡ w ∷ following → read_program size 201 ts ≡ reading.deep l → IsFaultOf ProgramAt ts (fault.Deep w.place)
  unfolding IsFaultOf
  deep_is l w following is h = let d = first_deep size ts enough w following (h ∙ ap (λ u. reading.deep u) is) in (d.0, (w, (d.1, refl)))

  module _ (p : ProgramTree) (s : IsSpelled ts p) (shallow : AreShallow (pieces_of p s.ending)) where
    whole_read : read_program size 201 ts ≡ reading.good p []
    whole_read = spelled_read size ts enough p s shallow

    one_good : (answer : reading.Answer ProgramTree) (q : ProgramTree) (rest : List Token) → answer ≡ reading.good p [] → answer ≡ reading.good q rest → q ≡ p
    one_good answer q rest left right = cc

    no_bad : (answer : reading.Answer ProgramTree) (rest : List Token) → answer ≡ reading.good p [] → answer ≡ reading.bad rest → ⊥
    no_bad answer rest left right = cc

    no_deep : (answer : reading.Answer ProgramTree) (rest : List Token) → answer ≡ reading.good p [] → answer ≡ reading.deep rest → ⊥
    no_deep answer rest left right = cc

    pub same_program : (q : ProgramTree) (rest : List Token) → read_program size 201 ts ≡ reading.good q rest → q ≡ p
    same_program q rest h = one_good (read_program size 201 ts) q rest whole_read h

    pub never_bad : (rest : List Token) → read_program size 201 ts ≡ reading.bad rest → ⊥
    never_bad rest h = no_bad (read_program size 201 ts) rest whole_read h

    pub never_deep : (rest : List Token) → read_program size 201 ts ≡ reading.deep rest → ⊥
    never_deep rest h = no_deep (read_program size 201 ts) rest whole_read h

-- ---- a parsed program is sound

inner_front : (xs : List Token) (w : Token) → is_closed (xs ++ w ∷ []) ≡ true → list_all is_inner xs ≡ true
inner_front [] w closed = refl
inner_front (x ∷ []) w closed = and_both (is_inner x) true (and_left (is_inner x) (is_end_kind w.kind) closed) refl
inner_front (x ∷ y ∷ xs) w closed =
    and_both (is_inner x) (list_all is_inner (y ∷ xs)) (and_left (is_inner x) (is_closed (y ∷ xs ++ w ∷ [])) closed) (inner_front (y ∷ xs) w (and_right (is_inner x) (is_closed (y ∷ xs ++ w ∷ [])) closed))

pub sound_is : (ts : List Token) (p : ProgramTree) → is_closed ts ≡ true → length ts < 2 ^ 32 → IsSpelled ts p → IsSound p
sound_is ts p closed few s =
    let parted = fits_part (wants_of_program p) _ ts s.fits in
    let last = one_left p.end s.ending parted.following parted.right in
    let whole : ts ≡ parted.front ++ last.0 ∷ [] = parted.whole ∙ ap (λ u. parted.front ++ u) last.1.0 in
    record {
      grammar = s.grammar;
      sound = fits_sound (wants_of_program p) parted.front parted.left (inner_front parted.front last.0 (subst (λ u. is_closed u ≡ true) whole closed));
      few = omega (arith, few, fits_length (wants_of_program p) parted.front parted.left, ap length whole, length-append parted.front (last.0 ∷ []));
    }

-- ---- what is asked of a sample

-- what is returned tells whether the list is taken
pub tried : (answer : reading.Answer ProgramTree) (r : Result (List ExternalDeclaration × Place) Unread) (left : List Token) → Ends answer r left → Tried (is_taken answer) r left
unfolding is_taken
tried answer (Ok found) left h = ap is_taken h
tried answer (Err fault) left h = ((λ is. ap is_taken (h.0 is)), (λ is. ap is_taken (h.1 is)))

-- ---- what is read at once

record First (tokens : List Token) : Type 0 where
  pub token : Token
  pub following : List Token
  pub is : tokens ≡ token ∷ following

first : (tokens : List Token) → is_closed tokens ≡ true → First tokens
first [] closed = absurd (not_true closed)
first (token ∷ following) closed = record { token = token; following = following; is = refl }

module _ (size : ℕ) (ts list from l : List Token) (n : ℕ) (small : length list + 2 ≤ size) (ended : is_closed list ≡ true) (list_is : list ≡ ts) (from_is : from ≡ list ++ []) (count : n ≡ length l) where
  few : length ts + 2 ≤ size
  few = omega (arith, small, ap length list_is)

  closed : is_closed ts ≡ true
  closed = subst (λ u. is_closed u ≡ true) list_is ended

  of_list : (answer : reading.Answer ProgramTree) → read_program size 201 from ≡ answer → read_program size 201 ts ≡ answer
  of_list answer h = ap (read_program size 201) (sym list_is ∙ sym (append-nil list) ∙ sym from_is) ∙ h

  pub left_within : read_program size 201 from ≡ reading.bad l → n ≤ length list
  left_within h = let found = (reads size).bad ts l (of_list (reading.bad l) h) in omega (arith, count, ap length found.whole, ap length list_is, length-append found.front l)

  pub all_parsed : (p : ProgramTree) (rest : List Token) → read_program size 201 from ≡ reading.good p rest → IsParsed ts p
  all_parsed p rest h = parsed_is size ts few closed p rest (of_list (reading.good p rest) h)

  pub all_deep : (w : Token) (following : List Token) → l ≡ w ∷ following → read_program size 201 from ≡ reading.deep l → IsFaultOf ProgramAt ts (fault.Deep w.place)
  all_deep w following is h = deep_is size ts few closed l w following is (of_list (reading.deep l) h)

  module _ (p : ProgramTree) (s : IsSpelled ts p) (shallow : AreShallow (pieces_of p s.ending)) where
    pub all_same : (q : ProgramTree) (rest : List Token) → read_program size 201 from ≡ reading.good q rest → q ≡ p
    all_same q rest h = same_program size ts few closed p s shallow q rest (of_list (reading.good q rest) h)

    pub none_bad : read_program size 201 from ≡ reading.bad l → ⊥
    none_bad h = never_bad size ts few closed p s shallow l (of_list (reading.bad l) h)

    pub none_deep : read_program size 201 from ≡ reading.deep l → ⊥
    none_deep h = never_deep size ts few closed p s shallow l (of_list (reading.deep l) h)

  -- the list in two parts, of which the second begins with the fault
  module _ (before rest : List Token) (before_is : before ≡ take (length list - n) list) (rest_is : rest ≡ drop (length list - n) list) (bad : read_program size 201 from ≡ reading.bad l) (some : is_closed l ≡ true) where
    before_front : before ≡ take (length ts - length l) ts
    before_front = before_is ∙ ap (λ u. take (length u - n) u) list_is ∙ ap (λ k. take (length ts - k) ts) count

    rest_same : rest ≡ l
    rest_same = let found = (reads size).bad ts l (of_list (reading.bad l) bad) in rest_is ∙ ap (λ u. drop (length u - n) u) list_is ∙ ap (λ k. drop (length ts - k) ts) count ∙ following_is ts found.front l found.whole

    pub before_closed : is_closed (before ++ end_token ∷ []) ≡ true
    before_closed =
        let found = (reads size).bad ts l (of_list (reading.bad l) bad) in
        let f = first l some in
        let same : before ≡ found.front = before_front ∙ front_is ts found.front l found.whole in
        subst (λ u. is_closed (u ++ end_token ∷ []) ≡ true) (sym same) (front_closed found.front f.token f.following (subst (λ u. is_closed u ≡ true) (found.whole ∙ ap (λ u. found.front ++ u) f.is) closed))

    pub fault_named : (w : Token) → w ≡ get_or rest 0 w → (f : SyntaxFault) → f ≡ fault_of (can_stand (read_program size 201) before) before w → IsFaultOf ProgramAt ts f
    fault_named w is f named =
        let o = first l some in
        let head : w ≡ o.token = is ∙ ap (λ u. get_or u 0 w) (rest_same ∙ o.is) in
        fault_is size ts few closed l o.token o.following f o.is (of_list (reading.bad l) bad)
        (named ∙ ap (λ u. fault_of (can_stand (read_program size 201) u) u w) before_front ∙ ap (λ v. fault_of (can_stand (read_program size 201) (take (length ts - length l) ts)) (take (length ts - length l) ts) v) head)
