-- Scopes of names (C11 6.2.1): what a name stands for where several declarations of it are seen, and what is left of them where a
-- scope ends.
use Rattle.std.specs.Prelude.{ℕ, Option, None, Some, List, [], ◌∷◌, ◌++◌, take, drop, length, if◌then◌else◌}
use Rattle.std.specs.Str.{bytes_eq}

-- a name, and the number that it is bound to
pub record Bound : Type 0 where
  pub name : List ℕ
  pub number : ℕ

-- the names that are bound, in the order of their declarations, and for each scope that is open inside the outermost, how many were bound
-- before it
pub record Scopes : Type 0 where
  pub bound : List Bound
  pub opened : List ℕ

abbrev pub outermost : Scopes
outermost = record { bound = []; opened = [] }

abbrev pub or_else : Option ℕ → Option ℕ → Option ℕ
or_else None other = other
or_else (Some number) other = Some number

-- C11 6.2.1p4: an inner declaration, which comes later, hides an outer one
abbrev pub found : List Bound → List ℕ → Option ℕ
found [] name = None
found (first ∷ rest) name = or_else (found rest name) (if bytes_eq name first.name then Some first.number else None)

-- how many names were bound before the innermost scope
abbrev pub before : List ℕ → ℕ
before [] = 0
before (n ∷ []) = n
before (n ∷ next ∷ rest) = before (next ∷ rest)

-- what a name is bound to in the innermost scope itself
abbrev pub found_here : Scopes → List ℕ → Option ℕ
found_here s name = found (drop (before s.opened) s.bound) name

abbrev pub declared : List ℕ → ℕ → Scopes → Scopes
declared name number s = record { bound = s.bound ++ record { name = name; number = number } ∷ []; opened = s.opened }

abbrev pub opened_in : Scopes → Scopes
opened_in s = record { bound = s.bound; opened = s.opened ++ length s.bound ∷ [] }

abbrev pub all_but_last : List ℕ → List ℕ
all_but_last [] = []
all_but_last (n ∷ []) = []
all_but_last (n ∷ next ∷ rest) = n ∷ all_but_last (next ∷ rest)

-- C11 6.2.1p4: what the innermost scope declares ends with it
abbrev pub closed : Scopes → Scopes
closed s = record { bound = take (before s.opened) s.bound; opened = all_but_last s.opened }
