-- The marks that assign and step are not the end, and what is taken at one of them.
use Rattle.std.proofs.Common.{◌≡◌, ◌<◌, ℕ, zero, suc, Bool, true, false, Option, Some, None, is_some, unwrap_or, if◌then◌else◌, List, [], ◌∷◌, refl, ap, arith}
use Rattle.c_tree.specs.declared.token.Token.{Token}
use Rattle.c_tree.specs.declared.token.TokenKind.TheVariants.{Mark}
use Rattle.c_tree.specs.declared.statements.AssignmentOperator.{AssignmentOperator}
use Rattle.c_tree.specs.declared.statements.AssignmentOperator.TheVariants as assign
use Rattle.c_tree.specs.declared.statements.Step.{Step}
use Rattle.c_tree.specs.declared.statements.Step.TheVariants as step
use Rattle.c_reader.specs.Outcome.{is_end}
use Rattle.c_reader.specs.Reading.{good, take_as, taken}
use Rattle.c_reader.specs.Tokens.{is_kind, found_in, found_of}
use Rattle.c_reader.proofs.Tokening.{kind_only}
use Rattle.c_decl.specs.Marks.{assigns, assign_of, is_assign, assign_at, steps, step_of, is_step, step_at}

of_some : {A : Type 0} (b : Bool) (o : Option A) → is_some (if b then o else None) ≡ true → b ≡ true
of_some true o e = refl
of_some false o e = absurd (cc)

found_only : {A : Type 0} (entries : List (List ℕ × A)) (t : Token) → is_some (found_of Mark entries t) ≡ true → is_end t ≡ false
unfolding found_of
found_only entries t e = kind_only Mark refl t (of_some (is_kind Mark t) (found_in entries t.text) e)

pub assign_only : (t : Token) → is_assign t ≡ true → is_end t ≡ false
unfolding assign_of
assign_only t e = found_only assigns t e

pub step_only : (t : Token) → is_step t ≡ true → is_end t ≡ false
unfolding step_of
step_only t e = found_only steps t e

pub assign_at_is : (t : Token) (v : AssignmentOperator) → assign_of t ≡ Some v → assign_at t ≡ (t.place, v)
assign_at_is t v e = ap (λ o. (t.place, unwrap_or o assign.Plain)) e

pub step_at_is : (t : Token) (v : Step) → step_of t ≡ Some v → step_at t ≡ (t.place, v)
step_at_is t v e = ap (λ o. (t.place, unwrap_or o step.Increment)) e

-- where a token was taken a level of nesting is left
taken_some : {A : Type 0} (b : Bool) (value : A) (left : ℕ) (t : Token) (l : List Token) (a : A) (rest : List Token) → taken b value left t l ≡ good a rest → 0 < left
unfolding taken
taken_some true value zero t l a rest h = absurd (cc)
taken_some true value (suc left) t l a rest h = omega arith
taken_some false value left t l a rest h = absurd (cc)

pub take_some : {A : Type 0} (test : Token → Bool) (value : Token → A) (left : ℕ) (l : List Token) (a : A) (rest : List Token) → take_as test value left l ≡ good a rest → 0 < left
unfolding take_as
take_some test value left [] a rest h = absurd (cc)
take_some test value left (t ∷ l) a rest h = taken_some (test t) (value t) left t l a rest h
