-- Inputs: for each input word, in the order of the ports' leaves, its instructions in each of the sharings A, B and Y in which some module takes it.
-- An input that is a result is shared at B too.
use Rattle.std.specs.Prelude.{ℕ, ◌==◌, ◌&&◌, ◌||◌, Bool, true, false, List, [], ◌∷◌, Option, None, Some, get_or, length}
use Rattle.std.specs.List.{fold, list_any, position_from}
use Rattle.hy_bits.specs.declared.op.Op.{Op}
use Rattle.hy_bits.specs.declared.op.Op.TheVariants.{In}
use Rattle.hy_bits.specs.declared.turns.Role.{Role}
use Rattle.hy_bits.specs.declared.turns.Role.TheVariants.{P0, P1}
use Rattle.hy_bits.specs.declared.width.Width.{Width}
use Rattle.hy_bits.specs.Ports.{own_number}
use Rattle.hy_bits.specs.Words.{bits}
use Rattle.word_graph.specs.declared.entry.Entry.{Entry}
use Rattle.word_graph.specs.declared.entry.Node.{Node}
use Rattle.word_graph.specs.Term.{width_at}
use Rattle.module_split.specs.declared.module.Module.{Module}
use Rattle.module_split.specs.Cut.{below, is_result}
use Rattle.choice_core.specs.declared.sharings.Choice.{Choice}
use Rattle.choice_core.specs.declared.sharings.Sharing.{Sharing}
use Rattle.choice_core.specs.declared.sharings.Sharing.TheVariants.{Arithmetic, Boolean, Yao}
use Rattle.choice_core.specs.Choices.{same_sharing, sharing_of}
use Rattle.share_core.specs.declared.instr.InstrKind.{InstrKind}
use Rattle.share_core.specs.declared.instr.InstrKind.TheVariants.{InAP0, InAP1, InBP0, InBP1, InYP0, ChooseIn, AnswerIn}
use Rattle.plan_script.specs.Script.{Made, Script, instr, making_bits, making_word, put}
use Rattle.share_plan.specs.Held.{Work, holding}

-- ---- one input in one sharing; `number` is its number among its owner's leaves

abbrev pub input_A_kind : Role → InstrKind
input_A_kind P0 = InAP0
input_A_kind P1 = InAP1

abbrev pub input_B_kind : Role → InstrKind
input_B_kind P0 = InBP0
input_B_kind P1 = InBP1

-- InY of P0; an input of P1 is a choice and its answer
abbrev pub input_Y : Role → Width → ℕ → Script → Made
input_Y P0 w number s = making_bits (bits w) (instr InYP0 w 0 0 0 number) s
input_Y P1 w number s = making_bits (bits w) (instr AnswerIn w 0 0 0 0) (put (instr ChooseIn w 0 0 0 number) s)

unfoldable pub input : Sharing → Role → Width → ℕ → Script → Made
input Arithmetic role w number s = making_word (instr (input_A_kind role) w 0 0 0 number) s
input Boolean role w number s = making_bits (bits w) (instr (input_B_kind role) w 0 0 0 number) s
input Yao role w number s = input_Y role w number s

-- ---- which inputs are wanted in which sharings

-- some module whose choice is of this sharing takes the node
unfoldable pub is_taken : Sharing → ℕ → List Module → List Choice → Bool
is_taken sharing k [] choices = false
is_taken sharing k (part ∷ parts) [] = false
is_taken sharing k (part ∷ parts) (c ∷ choices) = (same_sharing (sharing_of c) sharing && list_any (λ used. used == k) part.ins) || is_taken sharing k parts choices

abbrev pub is_wanted : List Module → List Choice → List Node → Sharing → ℕ → Bool
is_wanted list choices results Arithmetic k = is_taken Arithmetic k list choices
is_wanted list choices results Boolean k = is_taken Boolean k list choices || is_result results k
is_wanted list choices results Yao k = is_taken Yao k list choices

-- ---- all of them

-- the node that is the input of a leaf, if there is one
abbrev pub is_input : ℕ → Op → ℕ → Bool
is_input leaf In number = number == leaf
is_input leaf _ number = false

abbrev pub input_node : List Entry → ℕ → Option ℕ
input_node es leaf = position_from (λ (e : Entry). is_input leaf e.op e.number) 0 es

abbrev pub input_if : Bool → Sharing → Role → Width → (node number : ℕ) → Work → Work
input_if false sharing role w node number work = work
input_if true sharing role w node number work = holding sharing node work.held (input sharing role w number work.script)

-- in each sharing that is wanted, which `wanted` says
abbrev pub inputs_if : (Sharing → Bool) → Role → Width → (node number : ℕ) → Work → Work
inputs_if wanted role w node number work =
    input_if (wanted Yao) Yao role w node number (input_if (wanted Boolean) Boolean role w node number (input_if (wanted Arithmetic) Arithmetic role w node number work))

abbrev pub with_leaf_at : (Sharing → ℕ → Bool) → List Entry → Role → (number : ℕ) → Option ℕ → Work → Work
with_leaf_at wanted es role number None work = work
with_leaf_at wanted es role number (Some node) work = inputs_if (λ sharing. wanted sharing node) role (width_at es node) node number work

unfoldable pub with_leaf : (Sharing → ℕ → Bool) → List Entry → List Role → Work → ℕ → Work
with_leaf wanted es owners work leaf = with_leaf_at wanted es (get_or owners leaf P0) (own_number (get_or owners leaf P0) owners leaf) (input_node es leaf) work

abbrev pub with_inputs : (Sharing → ℕ → Bool) → List Entry → List Role → Work → Work
with_inputs wanted es owners work = fold (with_leaf wanted es owners) work (below (length owners))
