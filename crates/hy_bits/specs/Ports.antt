-- The parties of ports and of their leaves, and what belongs to one party among what belongs to both.
use Rattle.std.specs.Prelude.{ℕ, List, [], ◌∷◌, ◌++◌, Bool, true, false, length, replicate, take, if◌then◌else◌}
use Rattle.std.specs.List.{count_by}
use Rattle.hy_bits.specs.declared.turns.Role.{Role}
use Rattle.hy_bits.specs.declared.turns.Role.TheVariants.{P0, P1}
use Rattle.hy_bits.specs.declared.shape.Port.{Port}
use Rattle.hy_bits.specs.Shape.{leaves}

-- the most roles that a list of turns has
abbrev pub turn_limit : ℕ
turn_limit = 4096

-- the two are one party
abbrev pub is_of : Role → Role → Bool
is_of P0 P0 = true
is_of P0 P1 = false
is_of P1 P0 = false
is_of P1 P1 = true

-- the ports of a party, in order
abbrev pub ports_of : Role → List Port → List Port
ports_of role [] = []
ports_of role (port ∷ ports) = if is_of role port.role then port ∷ ports_of role ports else ports_of role ports

-- the party of each leaf of the ports, in order
abbrev pub owners : List Port → List Role
owners [] = []
owners (port ∷ ports) = replicate (length (leaves port.shape)) port.role ++ owners ports

-- what stands at the places that belong to the party, in order
abbrev pub own_of : {A : Type 0} → Role → List Role → List A → List A
own_of role [] xs = []
own_of role (owner ∷ owners) [] = []
own_of role (owner ∷ owners) (x ∷ xs) = if is_of role owner then x ∷ own_of role owners xs else own_of role owners xs

-- how many of the first k places belong to the party: the number of place k among the party's own, where it is one of them
abbrev pub own_number : Role → List Role → ℕ → ℕ
own_number role owners k = count_by (is_of role) (take k owners)

-- both parties' things back in their common order, each from the list of its party
abbrev pub joined : {A : Type 0} → List Role → List A → List A → List A
joined [] xs ys = []
joined (P0 ∷ owners) [] ys = []
joined (P0 ∷ owners) (x ∷ xs) ys = x ∷ joined owners xs ys
joined (P1 ∷ owners) xs [] = []
joined (P1 ∷ owners) xs (y ∷ ys) = y ∷ joined owners xs ys
