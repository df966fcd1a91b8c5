-- Where the word of a result comes from: a constant has its number, and any other result an opening, of which it is the next.
use Rattle.std.specs.Prelude.{ℕ, Bool, true, false, List, [], ◌∷◌, ◌++◌, Option, None, Some, slice_get}
use Rattle.std.specs.List.{count_by, fold}
use Rattle.hy_bits.specs.declared.op.Op.{Op}
use Rattle.hy_bits.specs.declared.op.Op.TheVariants.{Const}
use Rattle.word_graph.specs.declared.entry.Entry.{Entry}
use Rattle.word_graph.specs.declared.entry.Node.{Node}
use Rattle.share_plan.specs.declared.answers.Answer.{Answer}
use Rattle.share_plan.specs.declared.answers.Answer.TheVariants.{Known, Opening}

abbrev pub is_opening : Answer → Bool
is_opening (Known number) = false
is_opening (Opening k) = true

-- how many are openings
abbrev pub openings_in : List Answer → ℕ
openings_in answers = count_by is_opening answers

abbrev pub answer_by : Op → (number next : ℕ) → Answer
answer_by Const number next = Known number
answer_by _ number next = Opening next

abbrev pub answer_of : Option Entry → (next : ℕ) → Answer
answer_of None next = Opening next
answer_of (Some e) next = answer_by e.op e.number next

-- one more result
unfoldable pub with_answer : List Entry → List Answer → Node → List Answer
with_answer es answers node = answers ++ answer_of (slice_get es node.index) (openings_in answers) ∷ []

abbrev pub answers_of : List Entry → List Node → List Answer
answers_of es results = fold (with_answer es) [] results
