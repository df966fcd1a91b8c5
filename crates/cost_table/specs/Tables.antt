-- What a JSON value says as a cost table: its numbers in the order of their names, or the first fault.
use Rattle.std.specs.Prelude.{◌≡◌, ◌≢◌, ℕ, ◌^◌, List, [], ◌∷◌, codes, nat_lt, if◌then◌else◌, cond, Option, None, Some, option_map, option_and_then, MatchOption, Result, Ok, Err}
use Rattle.std.specs.Str.{IsUtf8}
use Rattle.std.specs.Ordering.{nat_cmp, is_lt}
use Rattle.std.specs.Cmp.Lexicographic.{slice_cmp}
use Rattle.serde_json.specs.Data.{Data, Members, no_members, member}
use Rattle.serde_json.specs.Read.{read}
use Rattle.serde_json.specs.Find.{get, as_number, as_u64, as_object}
use Rattle.choice_core.specs.declared.problems.Table.{Table}
use Rattle.cost_table.specs.Names.{is_known, table_names, product_widths, conversion_widths, full_name}
use Rattle.cost_table.specs.declared.fault.TableFault.{TableFault}
use Rattle.cost_table.specs.declared.fault.TableFault.TheVariants.{Json, Missing, Extra, NotWhole, TooLarge, Memory}

infixl 10 ◌>>=◌
abbrev pub ◌>>=◌ : {A B : Type 0} → Result A TableFault → (A → Result B TableFault) → Result B TableFault
(Ok x) >>= f = f x
(Err e) >>= f = Err e

-- ---- numbers

-- a number of the table, below 2^32
abbrev pub small_number : List ℕ → Option ℕ → Result ℕ TableFault
small_number name None = Err (NotWhole name)
small_number name (Some n) = if nat_lt n (2 ^ 32) then Ok n else Err (TooLarge name)

-- what stands in the place of a number of this name; whole is what JSON's reader takes as one of 64 bits
abbrev pub number_as : List ℕ → Option Data → Result ℕ TableFault
number_as name None = Err (Missing name)
number_as name (Some d) = small_number name (option_and_then as_u64 (as_number d))

-- what stands in the place of an object of this name
abbrev pub object_or : List ℕ → Data → Option Members → Result Data TableFault
object_or name d None = Err (NotWhole name)
object_or name d (Some ms) = Ok d

abbrev pub object_as : List ℕ → Option Data → Result Data TableFault
object_as name None = Err (Missing name)
object_as name (Some d) = object_or name d (as_object d)

-- the numbers of these names inside the object of a group
unfoldable pub numbers_inside : List ℕ → List (List ℕ) → Data → Result (List ℕ) TableFault
numbers_inside group [] d = Ok []
numbers_inside group (name ∷ names) d = number_as (full_name group name) (get name d) >>= λ n. numbers_inside group names d >>= λ ns. Ok (n ∷ ns)

abbrev pub group_of : List ℕ → List (List ℕ) → Data → Result (List ℕ) TableFault
group_of group names table = object_as group (get group table) >>= numbers_inside group names

abbrev pub conversion_of : List ℕ → Data → Result (List ℕ) TableFault
conversion_of group table = group_of group conversion_widths table

abbrev pub number_of : List ℕ → Data → Result ℕ TableFault
number_of name table = number_as name (get name table)

-- the 37 numbers
unfoldable pub numbers_of : Data → Result Table TableFault
numbers_of d = group_of (codes "a_mul") product_widths d >>= λ a_mul. conversion_of (codes "a2b") d >>= λ a2b. conversion_of (codes "a2y") d >>= λ a2y. conversion_of (codes "b2a") d >>= λ b2a. conversion_of (codes "b2y") d >>= λ b2y. conversion_of (codes "y2a") d >>= λ y2a. conversion_of (codes "y2b") d >>= λ y2b. number_of (codes "b_and") d >>= λ b_and. number_of (codes "b_level") d >>= λ b_level. number_of (codes "y_and") d >>= λ y_and. Ok (record { a_mul = a_mul; a2b = a2b; a2y = a2y; b2a = b2a; b2y = b2y; y2a = y2a; y2b = y2b; b_and = b_and; b_level = b_level; y_and = y_and })

-- ---- members that a table has not

-- of two names the one that is less by bytes
unfoldable pub lesser_of : List ℕ → List ℕ → List ℕ
lesser_of a b = cond (is_lt (slice_cmp nat_cmp b a)) b a

abbrev pub lesser : Option (List ℕ) → Option (List ℕ) → Option (List ℕ)
lesser None b = b
lesser (Some a) None = Some a
lesser (Some a) (Some b) = Some (lesser_of a b)

-- of the members whose name is none of these, the least name by bytes
unfoldable pub least_among : List (List ℕ) → Members → Option (List ℕ)
least_among names no_members = None
least_among names (member k d ms) = cond (is_known names k) (least_among names ms) (lesser (Some k) (least_among names ms))

abbrev pub extra_of : List (List ℕ) → Data → Option (List ℕ)
extra_of names d = option_and_then (least_among names) (as_object d)

-- the least extra member inside the object of a group, by its full name
abbrev pub extra_inside : List ℕ → List (List ℕ) → Data → Option (List ℕ)
extra_inside group names table = option_map (full_name group) (option_and_then (extra_of names) (get group table))

-- the least of all extra members
unfoldable pub least_extra : Data → Option (List ℕ)
least_extra d = lesser (lesser (lesser (lesser (lesser (lesser (lesser (extra_of table_names d) (extra_inside (codes "a_mul") product_widths d)) (extra_inside (codes "a2b") conversion_widths d)) (extra_inside (codes "a2y") conversion_widths d)) (extra_inside (codes "b2a") conversion_widths d)) (extra_inside (codes "b2y") conversion_widths d)) (extra_inside (codes "y2a") conversion_widths d)) (extra_inside (codes "y2b") conversion_widths d)

-- ---- the whole

abbrev pub without_extra : Option (List ℕ) → Table → Result Table TableFault
without_extra None table = Ok table
without_extra (Some name) table = Err (Extra name)

-- the table of an object, or its first fault: numbers before extra members
abbrev pub table_in : Data → Result Table TableFault
table_in d = numbers_of d >>= without_extra (least_extra d)

abbrev pub said_by : Data → Option Members → Result Table TableFault
said_by d None = Err Json
said_by d (Some ms) = table_in d

-- what a value says, or a text that is none
abbrev pub said : Option Data → Result Table TableFault
said None = Err Json
said (Some d) = said_by d (as_object d)

-- the bytes are the text of this value, as `serde_json` reads: the last of equal keys stays
abbrev pub IsTextOf : List ℕ → Data → Type 0
IsTextOf bytes d = IsUtf8 bytes × (read bytes ≡ Some d)

-- the value of the bytes, or none where they are the text of none
abbrev pub IsRead : List ℕ → Option Data → Type 0
IsRead bytes found = MatchOption found ((d : Data) → IsTextOf bytes d → ⊥) (IsTextOf bytes)

-- the bytes say this table, or have this first fault
abbrev pub Says : List ℕ → Result Table TableFault → Type 0
Says bytes answer = (found : Option Data) × IsRead bytes found × (said found ≡ answer)

-- ---- answers

-- an answer is what is said, unless memory ran out
abbrev pub Tells : {X Y : Type 0} → (X → Y) → Result X TableFault → Result Y TableFault → Type 0
Tells view (Ok x) said = said ≡ Ok (view x)
Tells view (Err e) said = e ≢ Memory → said ≡ Err e
