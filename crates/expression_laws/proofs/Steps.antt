-- Walks that pass with what has a rule, by the steps of walks.
use Rattle.std.proofs.Common.{◌≡◌, Bool, true, false, if◌then◌else◌, Option, None, Some, Result, Ok, Err, sym, subst, refl}
use Rattle.c_tree.specs.declared.token.Place.{Place}
use Rattle.c_conversions.specs.declared.fault.TypeKind.{TypeKind}
use Rattle.c_typing.specs.declared.environment.Environment.{Environment}
use Rattle.c_typing.specs.Walks.{Checked, Breaks, Passes, Walk, after, unless, unless_none}
use Rattle.typing_laws.specs.Passing.{Passing}
use Rattle.typing_laws.specs.Environments.{IsWellFormed, Extends}
use Rattle.typing_laws.proofs.Environments.{extends-refl, extends-trans}
use Rattle.expression_laws.specs.Keeping.{Stays, Grown}

pub passing-unless : {A B : Type 0} (P : B → Environment → Type 0) (place : Place) (r : Result A TypeKind) (next : A → Walk B) (env : Environment)
    → ((a : A) → ◌≡◌ {A = Result A TypeKind} r (Ok a) → Passing P (next a env)) → Passing P (unless place r next env)
passing-unless P place (Err kind) next env onward = tt
passing-unless P place (Ok a) next env onward = onward a refl

pub passing-some : {A B : Type 0} (P : B → Environment → Type 0) (kind : TypeKind) (place : Place) (o : Option A) (next : A → Walk B) (env : Environment)
    → ((a : A) → o ≡ Some a → Passing P (next a env)) → Passing P (unless_none kind place o next env)
passing-some P kind place None next env onward = tt
passing-some P kind place (Some a) next env onward = onward a refl

pub passing-if : {A : Type 0} (P : A → Environment → Type 0) (b : Bool) (here there : Checked A)
    → (b ≡ true → Passing P here) → (b ≡ false → Passing P there) → Passing P (if b then here else there)
passing-if P true here there onward otherwise = onward refl
passing-if P false here there onward otherwise = otherwise refl

pub passing-weaker : {A : Type 0} (P Q : A → Environment → Type 0) (c : Checked A) → ((a : A) (env : Environment) → P a env → Q a env) → Passing P c → Passing Q c
passing-weaker P Q (Breaks kind place) onward h = tt
passing-weaker P Q (Passes a env) onward h = onward a env h

-- a walk that leaves the environment as it is
pub grown-in : {A : Type 0} (Rule : Environment → A → Type 0) (env : Environment) (c : Checked A) → IsWellFormed env → Passing (Stays Rule env) c → Passing (Grown Rule env) c
grown-in Rule env (Breaks kind place) well h = tt
grown-in Rule env (Passes a new) well h = subst (λ (e : Environment). Grown Rule env a e) (sym h.0) (extends-refl env, well, h.1)

-- one walk after another
pub grown-after : {A B : Type 0} (P : Environment → A → Type 0) (Q : Environment → B → Type 0) (env : Environment) (c : Checked A) (next : A → Walk B)
    → Passing (Grown P env) c → ((a : A) (new : Environment) → Extends env new → IsWellFormed new → P new a → Passing (Grown Q new) (next a new)) → Passing (Grown Q env) (after c next)
grown-after P Q env (Breaks kind place) next h onward = tt
grown-after P Q env (Passes a new) next h onward =
    passing-weaker (Grown Q new) (Grown Q env) (next a new) (λ b last g. (extends-trans env new last h.0 g.0, g.1, g.2)) (onward a new h.0 h.1 h.2)

pub stays-after : {A B : Type 0} (P : Environment → A → Type 0) (Q : B → Environment → Type 0) (env : Environment) (c : Checked A) (next : A → Walk B)
    → Passing (Stays P env) c → ((a : A) → P env a → Passing Q (next a env)) → Passing Q (after c next)
stays-after P Q env (Breaks kind place) next h onward = tt
stays-after P Q env (Passes a new) next h onward = subst (λ (e : Environment). Passing Q (next a e)) (sym h.0) (onward a h.1)
