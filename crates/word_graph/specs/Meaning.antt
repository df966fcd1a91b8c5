-- What a graph computes, node by node, over the words of the inputs.
use Rattle.std.specs.Prelude.{ℕ, ◌<◌, List, [], ◌∷◌, ◌++◌, get_or, length, map}
use Rattle.std.specs.List.{All}
use Rattle.hy_bits.specs.declared.op.Op.{Op}
use Rattle.hy_bits.specs.declared.op.Op.TheVariants.{In, Const}
use Rattle.hy_bits.specs.declared.width.Width.{Width}
use Rattle.hy_bits.specs.declared.width.Width.TheVariants.{W1}
use Rattle.hy_bits.specs.Op.{op_value, IsTakenBy}
use Rattle.hy_bits.specs.Words.{IsWord}
use Rattle.word_graph.specs.declared.entry.Entry.{Entry}
use Rattle.word_graph.specs.declared.entry.Term.{Term}
use Rattle.word_graph.specs.Term.{argument, term_of, width_at}

-- what a node carries
pub record Word : Type 0 where
  pub width : Width
  pub value : ℕ

-- what the node at a place carries; a place past the end counts as the bit 0
abbrev pub word_at : List Word → ℕ → Word
word_at ws k = get_or ws k (record { width = W1; value = 0 })

-- what the operation is applied to first: the word of an input or a constant, and else the first argument's
abbrev pub first_operand : Op → (input number argument : ℕ) → ℕ
first_operand In input number argument = input
first_operand Const input number argument = number
first_operand _ input number argument = argument

-- the value of a term over the inputs and what the earlier nodes carry: its operation's value
abbrev pub term_value : List ℕ → List Word → Term → ℕ
term_value ins ws t =
    op_value t.op t.width (word_at ws (argument t 0)).width
    (first_operand t.op (get_or ins t.number 0) t.number (word_at ws (argument t 0)).value)
    (word_at ws (argument t 1)).value
    (word_at ws (argument t 2)).value

module _ (ins : List ℕ) where
  -- what all nodes carry, after further nodes
  unfoldable pub run : List Word → List Entry → List Word
  run ws [] = ws
  run ws (e ∷ es) = run (ws ++ record { width = e.width; value = term_value ins ws (term_of e) } ∷ []) es

-- what the nodes of a graph carry where the inputs are these words
abbrev pub words : List Entry → List ℕ → List Word
words es ins = run ins [] es

-- the values of all nodes
abbrev pub values : List Entry → List ℕ → List ℕ
values es ins = map (λ (w : Word). w.value) (words es ins)

-- the value of the node at a place
abbrev pub value : List Entry → List ℕ → ℕ → ℕ
value es ins k = (word_at (words es ins) k).value

-- the same over the entries of earlier nodes and their values apart: what the operation is applied to, and its value
abbrev pub IsTakenOver : List Entry → List ℕ → List ℕ → Term → Type 0
IsTakenOver es vs ins t =
    IsTakenBy t.op t.width (width_at es (argument t 0))
    (first_operand t.op (get_or ins t.number 0) t.number (get_or vs (argument t 0) 0))
    (get_or vs (argument t 1) 0)
    (get_or vs (argument t 2) 0)

abbrev pub value_over : List Entry → List ℕ → List ℕ → Term → ℕ
value_over es vs ins t =
    op_value t.op t.width (width_at es (argument t 0))
    (first_operand t.op (get_or ins t.number 0) t.number (get_or vs (argument t 0) 0))
    (get_or vs (argument t 1) 0)
    (get_or vs (argument t 2) 0)

-- an input's word is there, and fits its width
abbrev pub HasInput : List ℕ → Op → Width → ℕ → Type 0
HasInput ins In w n = (n < length ins) × IsWord w (get_or ins n 0)
HasInput ins _ w n = Unit {0}

-- each input that a node names is there, and fits the node's width
abbrev pub InputsFit : List Entry → List ℕ → Type 0
InputsFit es ins = All (λ (e : Entry). HasInput ins e.op e.width e.number) es
