-- A run of two parties: what they are given, where a value stands among the protocol's states, and the words that are opened.
use Rattle.std.specs.Prelude.{◌≡◌, ℕ, ◌+◌, ◌-◌, false, max, min, List, [], length, slice_get, slice_index, Option, None, Some}
use Rattle.std.specs.List.{concat}
use Rattle.hy_bits.specs.declared.turns.Role.{Role}
use Rattle.hy_bits.specs.declared.turns.Role.TheVariants.{P0, P1}
use Rattle.hy_bits.specs.Ports.{own_of}
use Rattle.rand_core.specs.Stream.{Stream}
use Rattle.dealer.specs.Drawing.{left, taken}
use Rattle.run_words.specs.Words.{chosen_before, dealt_half, drawn_before}
use Rattle.party.specs.Steps as Steps
use Rattle.schedules.specs.Turns.{Side, State, plain, queue, reach, run, side, start_state}
use Rattle.pair_steps.specs.Pair.{Given, Holding, party_at, protocol}
use Rattle.share_plan.specs.declared.answers.Answer.{Answer}
use Rattle.share_plan.specs.declared.answers.Answer.TheVariants.{Known, Opening}
use Rattle.hybrid_plan.specs.Plans.{Plan}
use Rattle.pair_run.specs.declared.halves.Cursor.{Cursor}
use Rattle.pair_run.specs.declared.halves.Kept.{Kept}
use Rattle.pair_run.specs.declared.pairs.Pair.{Pair}

-- what the two parties of a plan are given: the halves that are dealt of the source, and each party's words of all inputs
abbrev pub given_of : Plan → Stream → (owners : List Role) → (inputs : List ℕ) → Given
given_of plan source owners inputs = record {
  plan = Steps.plan_of plan.instrs plan.gates plan.codes;
  shares = plan.shares;
  half = dealt_half source plan.instrs plan.gates;
  own = λ role. own_of role owners inputs;
}

-- ---- opened words

-- the word of a result, of the words that openings gave
abbrev pub word_by : Option Answer → List ℕ → ℕ
word_by None words = 0
word_by (Some (Known number)) words = number
word_by (Some (Opening k)) words = slice_index words k

-- the word of the k-th result where both parties do one instruction after another
abbrev pub opened_word : Given → List Answer → ℕ → ℕ
opened_word g answers k = word_by (slice_get answers k) (plain (protocol g) (protocol g).count P0).words

-- ---- where a run stands

-- `ended` instructions were ended by both parties, and `begun` begun by one
abbrev pub ended_of : State Holding → ℕ
ended_of s = min s.first.place s.second.place

abbrev pub begun_of : State Holding → ℕ
begun_of s = max (reach s.first) (reach s.second)

-- a party's place, and where the words of its instruction stand among those that are kept
pub record IsAt (plan : Plan) (source : Stream) (ended : ℕ) (s : Side Holding) (c : Cursor) : Type 0 where
  pub place : c.place ≡ s.place
  pub receiving : c.receiving ≡ s.receiving
  pub at : c.at + drawn_before plan.instrs plan.gates ended ≡ drawn_before plan.instrs plan.gates s.place
  pub chosen : c.chosen ≡ chosen_before source plan.instrs plan.gates s.place

-- the words that are kept are those of the instructions that one party has begun and not both have ended, and `now` is what is left of the source
pub record AreKept (plan : Plan) (source : Stream) (s : State Holding) (k : Kept) (now : Stream) : Type 0 where
  pub begun : k.begun ≡ begun_of s
  pub words : k.words.items ≡ taken (drawn_before plan.instrs plan.gates (begun_of s) - drawn_before plan.instrs plan.gates (ended_of s)) (left (drawn_before plan.instrs plan.gates (ended_of s)) source)
  pub rest : now ≡ left (drawn_before plan.instrs plan.gates (begun_of s)) source

-- both parties stand at a state of the protocol that some list of steps leads to, and the queues hold the frames that wait
pub record Stands (source : Stream) (owners : List Role) (inputs : List ℕ) (s : State Holding) (pair : Pair) (now : Stream) : Type 0 where
  pub reached : (roles : List Role) × (s ≡ run (protocol (given_of pair.plan source owners inputs)) roles (start_state (protocol (given_of pair.plan source owners inputs))))
  pub first : pair.first ≡ party_at (given_of pair.plan source owners inputs) P0 s.first
  pub second : pair.second ≡ party_at (given_of pair.plan source owners inputs) P1 s.second
  pub first_at : IsAt pair.plan source (ended_of s) s.first pair.first_at
  pub second_at : IsAt pair.plan source (ended_of s) s.second pair.second_at
  pub from_first : pair.from_first.items ≡ concat (queue P1 s)
  pub from_second : pair.from_second.items ≡ concat (queue P0 s)
  pub kept : AreKept pair.plan source s pair.kept now

-- ---- a run that has begun

-- both parties have done nothing; the queues have room for the most bytes, and the ring for the most words, of one stretch
pub record Begins (of : Plan) (own0 own1 : List ℕ) (p : Pair) : Type 0 where
  pub plan : p.plan ≡ of
  pub first : p.first ≡ Steps.begun P0 of.instrs of.gates of.shares own0
  pub second : p.second ≡ Steps.begun P1 of.instrs of.gates of.shares own1
  pub first_at : p.first_at ≡ record { place = 0; receiving = false; at = 0; chosen = 0 }
  pub second_at : p.second_at ≡ record { place = 0; receiving = false; at = 0; chosen = 0 }
  pub from_first : p.from_first ≡ record { items = []; room = slice_index of.figures.stretch_bytes 0 }
  pub from_second : p.from_second ≡ record { items = []; room = slice_index of.figures.stretch_bytes 1 }
  pub words : p.kept.words ≡ record { items = []; room = of.figures.stretch_words }
  pub begun : p.kept.begun ≡ 0

-- ---- parties

abbrev pub party_of : Role → Pair → Steps.State
party_of P0 p = p.first
party_of P1 p = p.second
