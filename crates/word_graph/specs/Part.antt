-- A graph with some nodes left out: the others stand in their order, and name each other by their new places.
use Rattle.std.specs.Prelude.{◌≡◌, ℕ, suc, ◌<◌, ◌≤◌, List, [], ◌∷◌, get_or, length, slice_get, Some}
use Rattle.word_graph.specs.declared.entry.Entry.{Entry}
use Rattle.word_graph.specs.Term.{arity, argument, term_of}

-- the numbers ascend, from `from` on and below n
abbrev pub Ascends : (from n : ℕ) → List ℕ → Type 0
Ascends from n [] = Unit {0}
Ascends from n (k ∷ ks) = (from ≤ k) × (k < n) × Ascends (suc k) n ks

-- `new` is the entry `old`, where the nodes of its arguments stood at these places before
pub record IsMoved (places : List ℕ) (old new : Entry) : Type 0 where
  pub op : new.op ≡ old.op
  pub width : new.width ≡ old.width
  pub number : new.number ≡ old.number
  pub args : (k : ℕ) → k < arity new.op → get_or places (argument (term_of new) k) 0 ≡ argument (term_of old) k

-- the nodes of `new` are those of `old` at these places
pub record IsPart (old new : List Entry) (places : List ℕ) : Type 0 where
  pub count : length new ≡ length places
  pub ascending : Ascends 0 (length old) places
  pub moved : (j : ℕ) (e : Entry) → slice_get new j ≡ Some e → (d : Entry) × (slice_get old (get_or places j 0) ≡ Some d) × IsMoved places d e
