-- What functions return that read parts which something follows.
use Rattle.std.specs.Prelude.{◌≡◌, List, Result, Ok, Err}
use Rattle.c_tree.specs.declared.token.Token.{Token}
use Rattle.c_reader.specs.Outcome.{Fails}
use Rattle.c_reader.specs.Reading.{Answer, Reader, good}
use Rattle.c_reader.specs.declared.unread.Unread.{Unread}

-- the reader of the parts goes on with what follows them, whatever that is, or is at the fault
abbrev pub GivesTo : {A B : Type 0} → ((A → Reader B) → Reader B) → List Token → Result A Unread → List Token → Type 0
GivesTo {A = A} {B = B} read old (Ok parts) new = (next : A → Reader B) → read next old ≡ next parts new
GivesTo {A = A} {B = B} read old (Err fault) new = (next : A → Reader B) → Fails (read next old) fault new

-- a token after a part that was read: the part is given back where the token was taken
abbrev pub Kept : {A : Type 0} → Answer (Unit {0}) → A → Result A Unread → List Token → Type 0
Kept answer part (Ok found) left = (answer ≡ good tt left) × (found ≡ part)
Kept answer part (Err fault) left = Fails answer fault left

-- the same of another part, which its reader reads
abbrev pub Carried : {A C : Type 0} → Answer C → A → Result (A × C) Unread → List Token → Type 0
Carried answer part (Ok found) left = (answer ≡ good found.1 left) × (found.0 ≡ part)
Carried answer part (Err fault) left = Fails answer fault left

-- and of parts which something follows
abbrev pub CarriedTo : {A B C : Type 0} → ((C → Reader B) → Reader B) → List Token → A → Result (A × C) Unread → List Token → Type 0
CarriedTo {B = B} {C = C} read old part (Ok found) new = ((next : C → Reader B) → read next old ≡ next found.1 new) × (found.0 ≡ part)
CarriedTo {B = B} {C = C} read old part (Err fault) new = (next : C → Reader B) → Fails (read next old) fault new
