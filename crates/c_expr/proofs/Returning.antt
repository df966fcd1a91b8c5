-- What the functions that read a run return, by what the reader of expressions answers them.
use Rattle.std.proofs.Common.{◌≡◌, ◌≤◌, ◌<◌, ℕ, ◌+◌, ◌-◌, ◌==◌, Bool, true, false, if◌then◌else◌, List, [], ◌∷◌, ◌++◌, length, take, drop, get_or, Some, None, Result, Ok, Err, refl, sym, ap, ◌∙◌, subst, arith}
use Rattle.std.proofs.lemmas.List.{append-nil, length-append}
use Rattle.std.specs.Bool.{then_some}
use Rattle.c_tree.specs.TokenLists.{is_closed}
use Rattle.c_tree.specs.Folds.{wants_of_expr}
use Rattle.c_tree.specs.declared.token.Token.{Token}
use Rattle.c_tree.specs.declared.expressions.Expr.{Expr}
use Rattle.c_reader.specs.Reading.{Answer}
use Rattle.c_reader.specs.Reading as reading
use Rattle.c_grammar.specs.Levels.{readers_at}
use Rattle.c_reader.specs.Alone.{all_but_one, alone, fault_of}
use Rattle.c_reader.specs.Depths.{AreShallow}
use Rattle.c_reader.specs.Closures.{Tried}
use Rattle.c_reader.specs.Outcome.{Gives}
use Rattle.c_reader.specs.declared.unread.Unread.{Unread}
use Rattle.c_grammar.specs.Spelled.{SpellsExpr}
use Rattle.c_expr.specs.Runs.{IsRun, IsTaken, IsFaultOf}
use Rattle.c_reader.specs.Samples.{is_taken, can_stand}
use Rattle.c_reader.specs.declared.faults.SyntaxFault.{SyntaxFault}
use Rattle.c_reader.specs.declared.faults.SyntaxFault.TheVariants as fault
use Rattle.c_expr.proofs.Answering.{good_front, bad_front, taken_good, deep_is, deep_none, taken_alone, fault_is, fault_none}
use Rattle.c_reader.proofs.Ending.{front_is, following_is}
use Rattle.c_reader.proofs.Truths.{not_true}

-- ---- what an answer tells of a list with an end after it

some_when : (b : Bool) (e : Expr) → (if b then Some e else None) ≡ then_some b e
some_when true e = refl
some_when false e = refl

pub all_of_good : (answer : Answer Expr) (e : Expr) (rest : List Token) → answer ≡ reading.good e rest → all_but_one answer ≡ then_some (length rest == 1) e
unfolding all_but_one
all_of_good answer e rest h = ap (λ u. all_but_one u) h ∙ some_when (length rest == 1) e

pub all_of_bad : (answer : Answer Expr) (rest : List Token) → answer ≡ reading.bad rest → all_but_one answer ≡ None
unfolding all_but_one
all_of_bad answer rest h = ap (λ u. all_but_one u) h

pub all_of_deep : (answer : Answer Expr) (rest : List Token) → answer ≡ reading.deep rest → all_but_one answer ≡ None
unfolding all_but_one
all_of_deep answer rest h = ap (λ u. all_but_one u) h

-- what is returned tells whether the list is taken
pub tried : {A : Type 0} (answer : Answer A) (r : Result A Unread) (left : List Token) → Gives answer r left → Tried (is_taken answer) r left
unfolding is_taken
tried answer (Ok tree) left h = ap is_taken h
tried answer (Err fault) left h = ((λ is. ap is_taken (h.0 is)), (λ is. ap is_taken (h.1 is)))

-- ---- what is read at once

record First (tokens : List Token) : Type 0 where
  pub token : Token
  pub following : List Token
  pub is : tokens ≡ token ∷ following

first : (tokens : List Token) → is_closed tokens ≡ true → First tokens
first [] closed = absurd (not_true closed)
first (token ∷ following) closed = record { token = token; following = following; is = refl }

module _ (nesting : ℕ) (low : nesting ≤ 200) (size : ℕ) (ts from l : List Token) (n : ℕ) (enough : length ts ≤ size) (from_is : from ≡ ts ++ []) (count : n ≡ length l) where
  abbrev read : List Token → Answer Expr
  read = (readers_at size (201 - nesting)).expr

  of_list : (answer : Answer Expr) → read from ≡ answer → read ts ≡ answer
  of_list answer h = ap read (sym (append-nil ts)) ∙ ap read (sym from_is) ∙ h

  pub good_left : (e : Expr) → read from ≡ reading.good e l → n ≤ length ts
  good_left e h = let g = good_front nesting low size ts e l (of_list (reading.good e l) h) in omega (arith, count, ap length g.1, length-append g.0 l)

  pub bad_left : read from ≡ reading.bad l → n ≤ length ts
  bad_left h = let g = bad_front nesting low size ts l (of_list (reading.bad l) h) in omega (arith, count, ap length g.1, length-append g.0 l)

  pub taken : is_closed l ≡ true → (e : Expr) → read from ≡ reading.good e l → IsTaken nesting ts e (length ts - n)
  taken closed e h =
      let f = first l closed in
      subst (λ k. IsTaken nesting ts e (length ts - k)) (ap length (sym f.is) ∙ sym count)
      (taken_good nesting low size ts enough e f.token f.following (of_list (reading.good e l) h ∙ ap (λ u. reading.good e u) f.is))

  pub too_deep : (w : Token) (following : List Token) → l ≡ w ∷ following → read from ≡ reading.deep l → IsFaultOf nesting ts (fault.Deep w.place)
  too_deep w following is h = deep_is nesting low size ts enough l w following is (of_list (reading.deep l) h)

  pub never_too_deep : read from ≡ reading.deep l → (run : List Token) (v : Token) (e : Expr) → IsRun nesting ts run v → SpellsExpr nesting run e → AreShallow (wants_of_expr e nesting) → ⊥
  never_too_deep h run v e r s shallow = deep_none nesting low size ts enough l (of_list (reading.deep l) h) run v e r s shallow

  -- the list in two parts, of which the second begins with the fault
  module _ (run rest : List Token) (run_is : run ≡ take (length ts - n) ts) (rest_is : rest ≡ drop (length ts - n) ts) (bad : read from ≡ reading.bad l) where
    rest_same : rest ≡ l
    rest_same = let g = bad_front nesting low size ts l (of_list (reading.bad l) bad) in rest_is ∙ ap (λ k. drop (length ts - k) ts) count ∙ following_is ts g.0 l g.1

    pub parts : run ++ rest ≡ ts
    parts =
        let g = bad_front nesting low size ts l (of_list (reading.bad l) bad) in
        let run_same : run ≡ g.0 = run_is ∙ ap (λ k. take (length ts - k) ts) count ∙ front_is ts g.0 l g.1 in
        ap (λ u. u ++ rest) run_same ∙ ap (λ u. g.0 ++ u) rest_same ∙ sym g.1

    pub parts_bad : read (run ++ rest) ≡ reading.bad rest
    parts_bad = ap read parts ∙ of_list (reading.bad l) bad ∙ ap (λ u. reading.bad u) (sym rest_same)

    pub some_rest : is_closed l ≡ true → (k : ℕ) → k ≡ length rest → 1 ≤ k
    some_rest closed k is = let f = first l closed in omega (arith, is, ap length rest_same, ap length f.is)

-- ---- what is read of a run alone

abbrev pub at_nesting : ℕ → ℕ → List Token → Answer Expr
at_nesting nesting size = (readers_at size (201 - nesting)).expr

pub run_taken : (nesting : ℕ) → nesting ≤ 200 → (size : ℕ) (run rest : List Token) → 0 < length rest → length (run ++ rest) + 2 ≤ size → at_nesting nesting size (run ++ rest) ≡ reading.bad rest
    → (found : Expr) → alone (at_nesting nesting size) run ≡ Some found → IsTaken nesting (run ++ rest) found (length run)
run_taken nesting low size run [] some small bad found is = absurd (omega (arith, some))
run_taken nesting low size run (w ∷ following) some small bad found is = taken_alone nesting low size run w following small bad found is

pub run_fault : (nesting : ℕ) → nesting ≤ 200 → (size : ℕ) (run rest : List Token) → 0 < length rest → length (run ++ rest) + 2 ≤ size → at_nesting nesting size (run ++ rest) ≡ reading.bad rest
    → alone (at_nesting nesting size) run ≡ None → (w : Token) → w ≡ get_or rest 0 w → (f : SyntaxFault) → f ≡ fault_of (can_stand (at_nesting nesting size) run) run w → IsFaultOf nesting (run ++ rest) f
run_fault nesting low size run [] some small bad none w is f named = absurd (omega (arith, some))
run_fault nesting low size run (v ∷ following) some small bad none w is f named =
    subst (IsFaultOf nesting (run ++ v ∷ following)) (sym (named ∙ ap (λ u. fault_of (can_stand (at_nesting nesting size) run) run u) is)) (fault_is nesting low size run v following small bad none)

pub run_none : (nesting : ℕ) → nesting ≤ 200 → (size : ℕ) (run rest : List Token) → 0 < length rest → length (run ++ rest) + 2 ≤ size → at_nesting nesting size (run ++ rest) ≡ reading.bad rest
    → alone (at_nesting nesting size) run ≡ None → (before : List Token) (v : Token) (e : Expr) → IsRun nesting (run ++ rest) before v → SpellsExpr nesting before e → ⊥
run_none nesting low size run [] some small bad none before v e r s = absurd (omega (arith, some))
run_none nesting low size run (w ∷ following) some small bad none before v e r s = fault_none nesting low size run w following small bad none before v e r s
