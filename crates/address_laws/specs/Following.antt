-- A scan of a function beside its typing (C11 6.2.1): the names that the scan declares are those that the function declares, each by its number, and the
-- objects whose addresses the typed function takes are those whose names the scan marks.
use Rattle.std.specs.Prelude.{◌≡◌, ◌<◌, ◌≤◌, ◌⊎◌, ℕ, ◌+◌, ◌-◌, Bool, true, Option, None, Some, List, [], ◌∷◌, ◌++◌, map, length, slice_get}
use Rattle.c_tree.specs.declared.expressions.Identifier.{Identifier}
use Rattle.c_meaning.specs.declared.types.Object.{Object}
use Rattle.c_scopes.specs.Scopes.{Bound, Scopes, found}
use Rattle.c_addresses.specs.declared.scan.Scanning.{Scanning}
use Rattle.c_addresses.specs.Scans.{Scan}
use Rattle.c_addresses.specs.Addresses.{ExprScan, unchanged}
use Rattle.c_typing.specs.declared.environment.Entity.{Entity}
use Rattle.c_typing.specs.declared.environment.Entity.TheVariants as entity
use Rattle.c_typing.specs.declared.environment.Environment.{Environment}
use Rattle.c_typing.specs.Walks.{Walk}
use Rattle.c_typing.specs.Expressions.{ExprWalk, name_typing}
use Rattle.typing_laws.specs.Passing.{Passing}
use Rattle.expression_laws.specs.Keeping.{Each}
use Rattle.address_laws.specs.Taking.{typing_touches}

-- the names that are seen where a function begins, and how many declarations stand before it
pub record Outside : Type 0 where
  pub base : ℕ
  pub names : Scopes

abbrev pub later : ℕ → Bound → Bound
later base b = record { name = b.name; number = base + b.number }

-- the function's names stand after those outside of it; each object has one declaration, and those of the function are automatic
pub record FollowsIn (o : Outside) (scanned : Scopes) (addressed : List Bool) (names : Scopes) (entities : List Entity) (objects : List Object) : Type 0 where
  pub below : (name : List ℕ) (n : ℕ) → found o.names.bound name ≡ Some n → n < o.base
  pub bound : names.bound ≡ o.names.bound ++ map (later o.base) scanned.bound
  pub opened : names.opened ≡ o.names.opened ++ map (λ n. length o.names.bound + n) scanned.opened
  pub numbers : Each (λ b. b.number < length addressed) scanned.bound
  pub count : length entities ≡ o.base + length addressed
  pub within : (i k : ℕ) → slice_get entities i ≡ Some (entity.Object k) → k < length objects
  pub apart : (i j k : ℕ) → slice_get entities i ≡ Some (entity.Object k) → slice_get entities j ≡ Some (entity.Object k) → i ≡ j
  pub automatic : (i k : ℕ) (object : Object) → o.base ≤ i → slice_get entities i ≡ Some (entity.Object k) → slice_get objects k ≡ Some object → object.start ≡ None

abbrev pub Follows : Outside → Scanning → Environment → Type 0
Follows o s env = FollowsIn o s.names s.addressed env.names env.entities env.objects

-- the object's declaration stands outside of the function, or is marked
pub record TakenIn (o : Outside) (addressed : List Bool) (entities : List Entity) (k : ℕ) : Type 0 where
  pub declaration : ℕ
  pub object : slice_get entities declaration ≡ Some (entity.Object k)
  pub marked : (declaration < o.base) ⊎ (slice_get addressed (declaration - o.base) ≡ Some true)

abbrev pub IsTaken : Outside → Scanning → Environment → ℕ → Type 0
IsTaken o s env k = TakenIn o s.addressed env.entities k

-- ---- walks beside scans

-- the scan's state beside the environment again, with what was taken, and what is taken now
abbrev pub Traced : Outside → Scanning → Environment → {A : Type 0} → (A → List ℕ) → Scanning → A → Environment → Type 0
Traced o s env takes t a new =
    Follows o t new × (t.names.opened ≡ s.names.opened) × ((k : ℕ) → IsTaken o s env k → IsTaken o t new k) × Each (IsTaken o t new) (takes a)

abbrev pub Traces : Outside → {A : Type 0} → (A → List ℕ) → Scan → Walk A → Type 0
Traces o takes scan walk = (s : Scanning) (env : Environment) → Follows o s env → Passing (Traced o s env takes (scan s)) (walk env)

abbrev pub TracesOver : Outside → {A : Type 0} → (A → List ℕ) → (A → Walk A) → Scan → Type 0
TracesOver o {A} takes walk scan =
    (a : A) (s : Scanning) (env : Environment) → Follows o s env → Each (IsTaken o s env) (takes a) → Passing (Traced o s env takes (scan s)) (walk a env)

-- a name, in brackets or not, is walked as a name and scanned as one; anything else is no object's name
abbrev pub NamedAs : Outside → ExprWalk → ExprScan → Option (List ℕ) → Type 0
NamedAs o e x None = Traces o typing_touches x.scan e.walk
NamedAs o e x (Some text) = (name : Identifier) × (name.text ≡ text) × (e.walk ≡ name_typing name) × (x.scan ≡ unchanged)

abbrev pub TracesExpr : Outside → ExprWalk → ExprScan → Type 0
TracesExpr o e x = NamedAs o e x x.name

-- one by one
abbrev pub Beside : {A B : Type 0} → (A → B → Type 0) → List A → List B → Type 0
Beside R [] [] = Unit {0}
Beside R [] (y ∷ ys) = ⊥
Beside R (x ∷ xs) [] = ⊥
Beside R (x ∷ xs) (y ∷ ys) = R x y × Beside R xs ys
