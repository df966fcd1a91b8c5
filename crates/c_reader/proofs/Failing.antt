-- A fault of a part is the fault of the whole.
use Rattle.std.proofs.Common.{◌≡◌, List, Result, Ok, Err, sym, ap, ◌∙◌}
use Rattle.std.specs.Result.{IsErrAnd}
use Rattle.c_tree.specs.declared.token.Token.{Token}
use Rattle.c_reader.specs.declared.unread.Unread.{Unread}
use Rattle.c_reader.specs.Reading.{Answer, Reader, after}
use Rattle.c_reader.specs.Outcome.{Fails, Gives}

pub fails_after : {A B : Type 0} (answer : Answer A) (next : A → Reader B) (fault : Unread) (new : List Token) → Fails answer fault new → Fails (after answer next) fault new
fails_after answer next fault new h = ((λ is. ap (λ a. after a next) (h.0 is)), (λ is. ap (λ a. after a next) (h.1 is)))

pub fails_as : {A : Type 0} (whole answer : Answer A) (fault : Unread) (new : List Token) → whole ≡ answer → Fails answer fault new → Fails whole fault new
fails_as whole answer fault new e h = ((λ is. e ∙ h.0 is), (λ is. e ∙ h.1 is))

-- at the exit of a question mark
pub gives_fault : {A : Type 0} (whole : Answer A) (r : Result A Unread) (fault : Unread) (new : List Token) → IsErrAnd r (λ other. other ≡ fault) → Fails whole fault new → Gives whole r new
gives_fault whole (Ok x) fault new is h = absurd is
gives_fault whole (Err other) fault new is h = ((λ same. h.0 (sym is ∙ same)), (λ same. h.1 (sym is ∙ same)))
