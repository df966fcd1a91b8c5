-- What a token is read as, by whether it fits and whether a level is left.
use Rattle.std.proofs.Common.{◌≡◌, ◌<◌, ℕ, zero, suc, Bool, true, false, if◌then◌else◌, ◌==◌, Option, Some, None, is_some, unwrap_or, List, [], ◌∷◌, refl, sym, ap, ◌∙◌, Result, Ok, Err, arith}
use Rattle.std.proofs.lemmas.Bool.{eqb-true}
use Rattle.std.specs.Result.{IsErrAnd}
use Rattle.c_tree.specs.declared.token.Token.{Token}
use Rattle.hy_bits.specs.declared.scalar.Scalar.{Scalar}
use Rattle.c_tree.specs.TokenLists.{is_end_kind}
use Rattle.c_tree.specs.declared.token.TokenKind.{TokenKind}
use Rattle.c_tree.specs.declared.token.TokenKind.TheVariants.{Word, Name, TypeName, Integer, Character, Str, Mark, Bound, End}
use Rattle.c_reader.specs.Tokens.{kind_number, is_kind, is_spelled, found_in, found_of}
use Rattle.c_reader.proofs.Truths.{and_left}
use Rattle.c_reader.specs.Reading.{good, bad, deep, take_as, taken}
use Rattle.c_reader.specs.declared.unread.Unread.{Unread}
use Rattle.c_reader.specs.declared.unread.Unread.TheVariants as unread
use Rattle.c_reader.specs.Outcome.{Fails, Gives, sees, is_end}

module _ {A : Type 0} (test : Token → Bool) (value : Token → A) where
  pub take_bad : (left : ℕ) (l : List Token) → sees test l ≡ false → take_as test value left l ≡ bad l
  unfolding take_as taken sees
  take_bad left [] h = refl
  take_bad left (t ∷ l) h = rw h refl

  pub take_deep : (left : ℕ) (l : List Token) → sees test l ≡ true → left ≡ 0 → take_as test value left l ≡ deep l
  unfolding take_as taken sees
  take_deep left [] h none = absurd (cc)
  take_deep left (t ∷ l) h none = rw (h, none) refl

  pub take_good : (left : ℕ) (l : List Token) (t : Token) (rest : List Token) → sees test l ≡ true → 0 < left → l ≡ t ∷ rest → take_as test value left l ≡ good (value t) rest
  unfolding take_as taken sees
  take_good zero l t rest h some e = absurd (omega arith)
  take_good (suc left) l t rest h some e = rw e (let g = ap (sees test) (sym e) ∙ h in rw g refl)

pub sees_first : (test : Token → Bool) (l : List Token) (t : Token) (rest : List Token) → l ≡ t ∷ rest → sees test l ≡ test t
unfolding sees
sees_first test l t rest e = rw e refl

pub no_level : {A : Type 0} (test : Token → Bool) (value : Token → A) (fits : Bool) (l : List Token) (fault : Unread) → sees test l ≡ fits → fault ≡ (if fits then unread.Deep else unread.Bad) → Fails (take_as test value 0 l) fault l
no_level test value true l fault h e = ((λ is. absurd (cc)), (λ is. take_deep test value 0 l h refl))
no_level test value false l fault h e = ((λ is. take_bad test value 0 l h), (λ is. absurd (cc)))

-- what fits is taken as any test and value say that agree with it
module _ {A : Type 0} (test : Token → Bool) (value : Token → A) where
  pub taken_good : (fits : Bool) (left : ℕ) (l : List Token) (t : Token) (rest new : List Token) → l ≡ t ∷ rest → fits ≡ test t → take_as {A = Unit {0}} (λ _. fits) (λ _. tt {0}) left l ≡ good (tt {0}) new → take_as test value left l ≡ good (value t) new
  unfolding take_as taken
  taken_good true zero l t rest new e f h = let g = rw e at h in absurd (cc)
  taken_good false left l t rest new e f h = let g = rw e at h in absurd (cc)
  taken_good true (suc left) l t rest new e f h = let g = rw e at h in rw (e, ← f) (cc)

  pub taken_value : (fits : Bool) (left : ℕ) (l : List Token) (t : Token) (rest new : List Token) (v : A) → l ≡ t ∷ rest → fits ≡ test t → value t ≡ v → take_as {A = Unit {0}} (λ _. fits) (λ _. tt {0}) left l ≡ good (tt {0}) new → take_as test value left l ≡ good v new
  taken_value fits left l t rest new v e f same h = taken_good fits left l t rest new e f h ∙ ap (λ u. good u new) same

  pub taken_bad : (fits : Bool) (left : ℕ) (l : List Token) (t : Token) (rest new : List Token) → l ≡ t ∷ rest → fits ≡ test t → take_as {A = Unit {0}} (λ _. fits) (λ _. tt {0}) left l ≡ bad new → take_as test value left l ≡ bad new
  unfolding take_as taken
  taken_bad true zero l t rest new e f h = let g = rw e at h in absurd (cc)
  taken_bad false left l t rest new e f h = let g = rw e at h in rw (e, ← f) (cc)
  taken_bad true (suc left) l t rest new e f h = let g = rw e at h in absurd (cc)

  pub taken_deep : (fits : Bool) (left : ℕ) (l : List Token) (t : Token) (rest new : List Token) → l ≡ t ∷ rest → fits ≡ test t → take_as {A = Unit {0}} (λ _. fits) (λ _. tt {0}) left l ≡ deep new → take_as test value left l ≡ deep new
  unfolding take_as taken
  taken_deep true zero l t rest new e f h = let g = rw e at h in rw (e, ← f) (cc)
  taken_deep false left l t rest new e f h = let g = rw e at h in absurd (cc)
  taken_deep true (suc left) l t rest new e f h = let g = rw e at h in absurd (cc)

  pub taken_exit : (fits : Bool) (left : ℕ) (l : List Token) (t : Token) (rest new : List Token) (r : Result A Unread) (fault : Unread) → l ≡ t ∷ rest → fits ≡ test t → IsErrAnd r (λ other. other ≡ fault) → Fails (take_as {A = Unit {0}} (λ _. fits) (λ _. tt {0}) left l) fault new → Gives (take_as test value left l) r new
  taken_exit fits left l t rest new (Ok x) fault e f is h = absurd is
  taken_exit fits left l t rest new (Err other) fault e f is h =
      (λ same. taken_bad fits left l t rest new e f (h.0 (sym is ∙ same)), λ same. taken_deep fits left l t rest new e f (h.1 (sym is ∙ same)))

-- ---- tokens that fit aren't the end

end_number : (k : TokenKind) → is_end_kind k ≡ (kind_number k == 8)
end_number Word = refl
end_number Name = refl
end_number TypeName = refl
end_number Integer = refl
end_number Character = refl
end_number Str = refl
end_number Mark = refl
end_number Bound = refl
end_number End = refl

of_some : {A : Type 0} (b : Bool) (o : Option A) → is_some (if b then o else None) ≡ true → b ≡ true
of_some true o e = refl
of_some false o e = absurd (cc)

pub kind_only : (kind : TokenKind) → is_end_kind kind ≡ false → (t : Token) → is_kind kind t ≡ true → is_end t ≡ false
unfolding is_kind
kind_only kind h t e =
    let same = eqb-true (kind_number t.kind) (kind_number kind) e in
    end_number t.kind ∙ ap (λ n. n == 8) same ∙ sym (end_number kind) ∙ h

pub spelled_only : (kind : TokenKind) (text : List ℕ) → is_end_kind kind ≡ false → (t : Token) → is_spelled kind text t ≡ true → is_end t ≡ false
unfolding is_spelled
spelled_only kind text h t e = kind_only kind h t (and_left _ _ e)

pub found_only : {A : Type 0} (kind : TokenKind) (entries : List (List ℕ × A)) → is_end_kind kind ≡ false → (t : Token) → is_some (found_of kind entries t) ≡ true → is_end t ≡ false
unfolding found_of
found_only kind entries h t e = kind_only kind h t (of_some (is_kind kind t) (found_in entries t.text) e)

pub inner : (test : Token → Bool) → ((t : Token) → test t ≡ true → is_end t ≡ false) → (fits : Bool) (l : List Token) (t : Token) (rest : List Token) → l ≡ t ∷ rest → fits ≡ test t → fits ≡ true → sees is_end l ≡ false
inner test only fits l t rest e f h = sees_first is_end l t rest e ∙ only t (sym f ∙ h)
