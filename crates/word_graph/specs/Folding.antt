-- What a term folds to: a node that stands, a constant, another term, or itself where nothing is known of it.
use Rattle.std.specs.Prelude.{◌==◌, ℕ, ◌-◌, Bool, false, ◌&&◌, List, [], ◌∷◌, Option, Some, None, get_or, slice_get, unwrap_or, if◌then◌else◌}
use Rattle.hy_bits.specs.declared.op.Op.{Op}
use Rattle.hy_bits.specs.declared.op.Op.TheVariants.{Const, Add, Sub, Mul, And, Or, Xor, Not, Shl, ShrU, ShrS, LtU, LtS, Eq, Sel}
use Rattle.hy_bits.specs.declared.width.Width.{Width}
use Rattle.hy_bits.specs.Op.{op_value}
use Rattle.hy_bits.specs.Words.{bits, modulus}
use Rattle.word_graph.specs.declared.entry.Entry.{Entry}
use Rattle.word_graph.specs.declared.entry.Term.{Term}
use Rattle.word_graph.specs.declared.folding.Outcome.{Outcome}
use Rattle.word_graph.specs.declared.folding.Outcome.TheVariants.{Known, Makes}
use Rattle.word_graph.specs.Term.{argument, width_at}
use Rattle.word_graph.specs.Shape.{constant_at, has_constants_only}

-- ---- terms that folding makes

-- the constant n
abbrev pub constant_term : Width → ℕ → Term
constant_term w n = record { op = Const; width = w; args = 0 ∷ 0 ∷ 0 ∷ []; number = n }

-- the complement of the node at a place
abbrev pub not_term : Width → ℕ → Term
not_term w x = record { op = Not; width = w; args = x ∷ 0 ∷ 0 ∷ []; number = 0 }

-- the word of all ones
abbrev pub ones : Width → ℕ
ones w = modulus w - 1

-- ---- what is known of the arguments

-- the number there is n
abbrev pub is_just : Option ℕ → ℕ → Bool
is_just None n = false
is_just (Some m) n = m == n

-- the node at a place is the constant n
abbrev pub is_number : List Entry → ℕ → ℕ → Bool
is_number es k n = is_just (constant_at es k) n

-- both arguments are one node
abbrev pub is_twice : Term → Bool
is_twice t = argument t 0 == argument t 1

-- where one of two arguments is the constant n: the other one
abbrev pub other_than : List Entry → Term → ℕ → Option ℕ
other_than es t n =
    if is_number es (argument t 1) n then Some (argument t 0)
    else if is_number es (argument t 0) n then Some (argument t 1)
    else None

-- where one of two arguments is the constant n: that one
abbrev pub one_that_is : List Entry → Term → ℕ → Option ℕ
one_that_is es t n =
    if is_number es (argument t 1) n then Some (argument t 1)
    else if is_number es (argument t 0) n then Some (argument t 0)
    else None

-- ---- the folds

-- the node, if there is one
abbrev pub known_or : Option ℕ → Outcome → Outcome
known_or (Some k) otherwise = Known k
known_or None otherwise = otherwise

-- over an operation with this first argument: the complement of a complement is what that is over
abbrev pub complement_over : Op → ℕ → Term → Outcome
complement_over Not inner t = Known inner
complement_over _ inner t = Makes t

-- the complement of a node
abbrev pub complement_entry : Option Entry → Term → Outcome
complement_entry (Some e) t = complement_over e.op (get_or e.args 0 0) t
complement_entry None t = Makes t

-- the complement of the node at a place
abbrev pub complement_at : List Entry → Width → ℕ → Outcome
complement_at es w x = complement_entry (slice_get es x) (not_term w x)

-- an exclusive or with all ones is a complement
abbrev pub complement_or : List Entry → Width → Option ℕ → Outcome → Outcome
complement_or es w (Some x) otherwise = complement_at es w x
complement_or es w None otherwise = otherwise

-- a selection whose condition is a constant
abbrev pub chosen_or : Option ℕ → ℕ → ℕ → Outcome → Outcome
chosen_or (Some c) a b otherwise = Known (if c == 1 then a else b)
chosen_or None a b otherwise = otherwise

-- x - 0 and x - x
abbrev pub folded_difference : List Entry → Term → Outcome
folded_difference es t =
    if is_number es (argument t 1) 0 then Known (argument t 0)
    else if is_twice t then Makes (constant_term t.width 0)
    else Makes t

-- products with 0 and 1
abbrev pub folded_product : List Entry → Term → Outcome
folded_product es t = known_or (one_that_is es t 0) (known_or (other_than es t 1) (Makes t))

-- x & x, and an And with 0 or all ones
abbrev pub folded_and : List Entry → Term → Outcome
folded_and es t =
    if is_twice t then Known (argument t 0)
    else known_or (one_that_is es t 0) (known_or (other_than es t (ones t.width)) (Makes t))

-- x | x, and an Or with 0 or all ones
abbrev pub folded_or : List Entry → Term → Outcome
folded_or es t =
    if is_twice t then Known (argument t 0)
    else known_or (other_than es t 0) (known_or (one_that_is es t (ones t.width)) (Makes t))

-- x ^ x, x ^ 0 and x ^ ones
abbrev pub folded_xor : List Entry → Term → Outcome
folded_xor es t =
    if is_twice t then Makes (constant_term t.width 0)
    else known_or (other_than es t 0) (complement_or es t.width (other_than es t (ones t.width)) (Makes t))

-- a shift by 0
abbrev pub folded_shift : List Entry → Term → Outcome
folded_shift es t = if is_number es (argument t 1) 0 then Known (argument t 0) else Makes t

-- a comparison of a node with itself, which is the bit n
abbrev pub folded_comparison : Term → ℕ → Outcome
folded_comparison t n = if is_twice t then Makes (constant_term t.width n) else Makes t

-- a selection by a constant, between equal branches, and of the bits 1 and 0
abbrev pub folded_selection : List Entry → Term → Outcome
folded_selection es t =
    chosen_or (constant_at es (argument t 0)) (argument t 1) (argument t 2)
    (if argument t 1 == argument t 2 then Known (argument t 1)
    else if bits t.width == 1 && is_number es (argument t 1) 1 && is_number es (argument t 2) 0 then Known (argument t 0)
    else Makes t)

-- a term of this operation, not all of whose arguments are constants
abbrev pub folded : List Entry → Op → Term → Outcome
folded es Add t = known_or (other_than es t 0) (Makes t)
folded es Sub t = folded_difference es t
folded es Mul t = folded_product es t
folded es And t = folded_and es t
folded es Or t = folded_or es t
folded es Xor t = folded_xor es t
folded es Not t = complement_at es t.width (argument t 0)
folded es Shl t = folded_shift es t
folded es ShrU t = folded_shift es t
folded es ShrS t = folded_shift es t
folded es LtU t = folded_comparison t 0
folded es LtS t = folded_comparison t 0
folded es Eq t = folded_comparison t 1
folded es Sel t = folded_selection es t
folded es _ t = Makes t

-- the operation's value where all arguments that it takes are constants
abbrev pub constant_value : List Entry → Term → ℕ
constant_value es t = op_value t.op t.width (width_at es (argument t 0)) (number (argument t 0)) (number (argument t 1)) (number (argument t 2))
  where
    number : ℕ → ℕ
    number k = unwrap_or (constant_at es k) 0

-- what a term folds to
abbrev pub reduced : List Entry → Term → Outcome
reduced es t = if has_constants_only es t then Makes (constant_term t.width (constant_value es t)) else folded es t.op t
