-- Which lists of entries are graphs.
use Rattle.std.specs.Prelude.{◌≡◌, ◌≢◌, ℕ, ◌^◌, ◌<◌, ◌≤◌, Bool, false, ◌&&◌, List, [], ◌∷◌, ◌++◌, Option, Some, None, is_some, length, slice_get, take, nat_lt}
use Rattle.std.specs.List.{list_all}
use Rattle.hy_bits.specs.declared.op.Op.{Op}
use Rattle.hy_bits.specs.declared.op.Op.TheVariants.{Const}
use Rattle.word_graph.specs.declared.entry.Entry.{Entry}
use Rattle.word_graph.specs.declared.entry.Term.{Term}
use Rattle.word_graph.specs.Term.{arity, WidthsFit, NumberFits, argument, term_of, terms_of, width_at, region_of}

-- the arguments that the term takes stand before it, and the others are 0; widths and number fit
pub record FitsAfter (es : List Entry) (t : Term) : Type 0 where
  pub three : length t.args ≡ 3
  pub used : (k : ℕ) → k < arity t.op → argument t k < length es
  pub unused : (k : ℕ) → arity t.op ≤ k → argument t k ≡ 0
  pub widths : WidthsFit t.op t.width (width_at es (argument t 0)) (width_at es (argument t 1)) (width_at es (argument t 2))
  pub number : NumberFits t.op t.width t.number

-- the word of an operation that is a constant
abbrev pub constant_word : Op → ℕ → Option ℕ
constant_word Const number = Some number
constant_word _ number = None

-- the word of an entry that is a constant
abbrev pub constant_entry : Option Entry → Option ℕ
constant_entry (Some e) = constant_word e.op e.number
constant_entry None = None

-- the word of the node at a place, where it is a constant
abbrev pub constant_at : List Entry → ℕ → Option ℕ
constant_at es k = constant_entry (slice_get es k)

-- the term takes arguments, and all that it takes are constants
abbrev pub has_constants_only : List Entry → Term → Bool
has_constants_only es t = nat_lt 0 (arity t.op) && list_all (λ k. is_some (constant_at es k)) (take (arity t.op) t.args)

-- an entry over earlier nodes, not all of which are constants
pub record IsEntryAfter (es : List Entry) (e : Entry) : Type 0 where
  pub fits : FitsAfter es (term_of e)
  pub region : region_of e.op e.region ≡ e.region
  pub live : has_constants_only es (term_of e) ≡ false

-- each entry after those before it
abbrev pub AreEntries : List Entry → List Entry → Type 0
AreEntries before [] = Unit {0}
AreEntries before (e ∷ es) = IsEntryAfter before e × AreEntries (before ++ e ∷ []) es

-- the most nodes of a graph
abbrev pub node_limit : ℕ
node_limit = 2 ^ 20

-- a graph: each node is over earlier nodes of fitting widths, no node that takes arguments has constants alone, no two
-- nodes have one term, and there are not too many
pub record IsGraph (es : List Entry) : Type 0 where
  pub entries : AreEntries [] es
  pub distinct : (i j : ℕ) → i < j → j < length es → slice_get (terms_of es) i ≢ slice_get (terms_of es) j
  pub limit : length es ≤ node_limit
