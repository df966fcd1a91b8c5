-- The text of a party: one object with a member for each of the party's ports.
use Rattle.std.specs.Prelude.{◌≡◌, ◌≢◌, ℕ, List, [], ◌∷◌, Option, Some, None, Result, Ok, Err, option_and_then, if◌then◌else◌}
use Rattle.std.specs.Str.{is_utf8}
use Rattle.hy_bits.specs.declared.turns.Role.{Role}
use Rattle.hy_bits.specs.declared.turns.Role.TheVariants.{P0, P1}
use Rattle.hy_bits.specs.declared.shape.Port.{Port}
use Rattle.hy_bits.specs.Ports.{is_of}
use Rattle.serde_json.specs.Data.{Members}
use Rattle.serde_json.specs.Find.{as_object, get_member}
use Rattle.serde_json.specs.Read.{read}
use Rattle.json_values.specs.declared.fault.InputKind.TheVariants.{Json, Memory}
use Rattle.json_values.specs.declared.fault.InputFault.{InputFault}
use Rattle.json_values.specs.Walk.{Reading, fault_at, under, then_by, wanted, words_at, extra, no_extra}

-- the members of the object that the bytes are
abbrev pub members_of_text : List ℕ → Option Members
members_of_text bytes = if is_utf8 bytes then option_and_then as_object (read bytes) else None

-- a text that should be an object, before anything in it is read
abbrev pub object_reading : Option Members → Reading
object_reading None = fault_at Json []
object_reading (Some _) = Ok []

-- the words of one port
abbrev pub port_words : Port → Members → Reading
port_words port members = under port.name (wanted (words_at port.shape) (get_member port.name members))

-- the words of a port, where it is of this party
abbrev pub own_port : Role → Port → Members → Reading
own_port role port found = if is_of role port.role then port_words port found else Ok []

-- the words of a party's ports
abbrev pub ports_words : Role → List Port → Members → Reading
ports_words role [] found = Ok []
ports_words role (port ∷ ports) found = then_by (own_port role port found) (ports_words role ports found)

abbrev pub names_of_role : Role → List Port → List (List ℕ)
names_of_role role [] = []
names_of_role role (port ∷ ports) = if is_of role port.role then port.name ∷ names_of_role role ports else names_of_role role ports

abbrev pub file_words : Role → List Port → Option Members → Reading
file_words role ports None = fault_at Json []
file_words role ports (Some members) = then_by (ports_words role ports members) (no_extra (extra (names_of_role role ports) members))

-- all ports, each read from its party's members
abbrev pub of_role : Role → Members → Members → Members
of_role P0 a b = a
of_role P1 a b = b

abbrev pub all_words : List Port → Members → Members → Reading
all_words [] a b = Ok []
all_words (port ∷ ports) a b = then_by (port_words port (of_role port.role a b)) (all_words ports a b)

-- the words of a party's ports, or the first fault of its text
abbrev pub own_words : Role → List Port → List ℕ → Reading
own_words role ports text = file_words role ports (members_of_text text)

abbrev pub in_file : Role → Reading → Result (List ℕ) InputFault
in_file role (Ok words) = Ok words
in_file role (Err fault) = Err (record { fault = fault.kind; file = role; name = fault.path })

-- one file, and then what comes after it
abbrev pub after : Result (List ℕ) InputFault → Result (List ℕ) InputFault → Result (List ℕ) InputFault
after (Ok words) rest = rest
after (Err fault) rest = Err fault

-- both are objects; where one isn't, its file has been refused before
abbrev pub merged : List Port → Option Members → Option Members → Result (List ℕ) InputFault
merged ports None b = in_file P0 (fault_at Json [])
merged ports (Some a) None = in_file P1 (fault_at Json [])
merged ports (Some a) (Some b) = in_file P0 (all_words ports a b)

-- the words of all ports in their order, where neither text has a fault; all faults of A come before those of B
abbrev pub both_words : List Port → List ℕ → List ℕ → Result (List ℕ) InputFault
both_words ports a b = after (in_file P0 (own_words P0 ports a)) (after (in_file P1 (own_words P1 ports b)) (merged ports (members_of_text a) (members_of_text b)))

-- ---- what the program answers

-- what was read, unless memory ran out
abbrev pub Tells : Result (List ℕ) InputFault → Result (List ℕ) InputFault → Type 0
Tells (Ok words) read = read ≡ Ok words
Tells (Err fault) read = fault.fault ≢ Memory → read ≡ Err fault
