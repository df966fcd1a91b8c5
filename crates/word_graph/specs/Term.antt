-- What a node computes: an operation on words over earlier nodes, which are named by their places.
use Rattle.std.specs.Prelude.{◌≡◌, ℕ, ◌<◌, List, [], ◌∷◌, ◌++◌, get_or, length, take, map}
use Rattle.std.specs.List.{All}
use Rattle.hy_bits.specs.declared.op.Op.{Op}
use Rattle.hy_bits.specs.declared.op.Op.TheVariants.{In, Const, Add, Sub, Mul, Neg, DivU, DivS, RemU, RemS, And, Or, Xor, Not, Shl, ShrU, ShrS, LtU, LtS, Eq, Sel, Trunc, ZeroExt, SignExt}
use Rattle.hy_bits.specs.declared.width.Width.{Width}
use Rattle.hy_bits.specs.declared.width.Width.TheVariants.{W1}
use Rattle.hy_bits.specs.Words.{bits, IsWord}
use Rattle.word_graph.specs.declared.entry.Entry.{Entry}
use Rattle.word_graph.specs.declared.entry.Node.{Node}
use Rattle.word_graph.specs.declared.entry.Term.{Term}

-- how many nodes an operation takes
abbrev pub arity : Op → ℕ
arity In = 0
arity Const = 0
arity Add = 2
arity Sub = 2
arity Mul = 2
arity Neg = 1
arity DivU = 2
arity DivS = 2
arity RemU = 2
arity RemS = 2
arity And = 2
arity Or = 2
arity Xor = 2
arity Not = 1
arity Shl = 2
arity ShrU = 2
arity ShrS = 2
arity LtU = 2
arity LtS = 2
arity Eq = 2
arity Sel = 3
arity Trunc = 1
arity ZeroExt = 1
arity SignExt = 1

-- an operation with a result of width w takes arguments of the widths x, y and z, as far as it has them
abbrev pub WidthsFit : Op → (w x y z : Width) → Type 0
WidthsFit In w x y z = Unit {0}
WidthsFit Const w x y z = Unit {0}
WidthsFit Add w x y z = (x ≡ w) × (y ≡ w)
WidthsFit Sub w x y z = (x ≡ w) × (y ≡ w)
WidthsFit Mul w x y z = (x ≡ w) × (y ≡ w)
WidthsFit Neg w x y z = x ≡ w
WidthsFit DivU w x y z = (x ≡ w) × (y ≡ w)
WidthsFit DivS w x y z = (x ≡ w) × (y ≡ w)
WidthsFit RemU w x y z = (x ≡ w) × (y ≡ w)
WidthsFit RemS w x y z = (x ≡ w) × (y ≡ w)
WidthsFit And w x y z = (x ≡ w) × (y ≡ w)
WidthsFit Or w x y z = (x ≡ w) × (y ≡ w)
WidthsFit Xor w x y z = (x ≡ w) × (y ≡ w)
WidthsFit Not w x y z = x ≡ w
WidthsFit Shl w x y z = x ≡ w
WidthsFit ShrU w x y z = x ≡ w
WidthsFit ShrS w x y z = x ≡ w
WidthsFit LtU w x y z = (w ≡ W1) × (x ≡ y)
WidthsFit LtS w x y z = (w ≡ W1) × (x ≡ y)
WidthsFit Eq w x y z = (w ≡ W1) × (x ≡ y)
WidthsFit Sel w x y z = (x ≡ W1) × (y ≡ w) × (z ≡ w)
WidthsFit Trunc w x y z = bits w < bits x
WidthsFit ZeroExt w x y z = bits x < bits w
WidthsFit SignExt w x y z = bits x < bits w

-- an input may have any number, a constant's is a word of its width, and all other nodes have 0
abbrev pub NumberFits : Op → Width → ℕ → Type 0
NumberFits In w n = Unit {0}
NumberFits Const w n = IsWord w n
NumberFits _ w n = n ≡ 0

-- the place of an argument, counted from 0
abbrev pub argument : Term → ℕ → ℕ
argument t k = get_or t.args k 0

-- the places of the nodes that a node takes
abbrev pub taken_by : Entry → List ℕ
taken_by e = take (arity e.op) e.args

-- the term of an operation over these nodes; places that are left over are 0
abbrev pub called_term : Op → Width → List Node → ℕ → Term
called_term op w nodes n = record { op = op; width = w; args = take 3 (map (λ (node : Node). node.index) nodes ++ 0 ∷ 0 ∷ 0 ∷ []); number = n }

-- what a node computes
abbrev pub term_of : Entry → Term
term_of e = record { op = e.op; width = e.width; args = e.args; number = e.number }

-- an input and a constant have region 0, and any other node the region given
abbrev pub region_of : Op → ℕ → ℕ
region_of In region = 0
region_of Const region = 0
region_of _ region = region

-- the node of a term
abbrev pub entry_of : Term → ℕ → Entry
entry_of t region = record { op = t.op; width = t.width; args = t.args; number = t.number; region = region_of t.op region }

-- the terms of a list of nodes
abbrev pub terms_of : List Entry → List Term
terms_of es = map term_of es

-- the width of the node at a place
abbrev pub width_at : List Entry → ℕ → Width
width_at es k = get_or (map (λ (e : Entry). e.width) es) k W1

-- the width of a node of a list, counted from 0
abbrev pub width_of : List Entry → List Node → ℕ → Width
width_of es nodes k = width_at es (get_or (map (λ (node : Node). node.index) nodes) k 0)

-- an operation of this width and number takes these nodes: they stand, are as many as it takes, and have fitting widths
pub record Takes (es : List Entry) (op : Op) (w : Width) (nodes : List Node) (n : ℕ) : Type 0 where
  pub count : length nodes ≡ arity op
  pub stand : All (λ (node : Node). node.index < length es) nodes
  pub widths : WidthsFit op w (width_of es nodes 0) (width_of es nodes 1) (width_of es nodes 2)
  pub number : NumberFits op w n
