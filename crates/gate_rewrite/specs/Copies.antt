-- A circuit copied gate by gate into another: the literal that stands for each wire. Private to the crate.
use Rattle.std.specs.Prelude.{◌≡◌, ◌==◌, ℕ, ◌+◌, ◌%◌, ◌<◌, ◌≤◌, Bool, List, [], get_or, if◌then◌else◌, length, take}
use Rattle.gate_net.specs.declared.literal.Lit.{Lit}
use Rattle.gate_net.specs.Literal.{complement_of, wire_of}
use Rattle.gate_net.specs.Circuit.{Circuit}
use Rattle.gate_net.specs.Meaning.{and_count, as_bits, as_levels, level, run, start}
use Rattle.gate_net.specs.Shape.{IsNormal}
use Rattle.gate_net.specs.Spelled.{AllStand, values}

-- the literal that stands for a literal, where these stand for its wires
abbrev pub literal_of : List Lit → Lit → Lit
literal_of wires l =
    let wire = get_or wires (wire_of l) (record { code = 0 }) in
    if l.code % 2 == 1 then complement_of wire else wire

-- the literals have at most these levels
abbrev pub AreAtMost : Circuit → List Lit → List ℕ → Type 0
AreAtMost n wires levels = (k : ℕ) → k < length wires → level n (get_or wires k (record { code = 0 })) ≤ get_or levels k 0

-- the first gates of the old circuit are copied: for each wire so far a literal of the new circuit stands, with its value for all inputs and
-- at most its level, and the new circuit has at most as many gates and And gates, in normal form
pub record Copies (old new : Circuit) (count : ℕ) (wires : List Lit) : Type 0 where
  pub ins : new.ins ≡ old.ins
  pub budget : new.budget ≡ old.budget
  pub one_for_each : length wires ≡ 1 + old.ins + count
  pub stand : AllStand new wires
  pub few : length new.gates ≤ count
  pub few_ands : and_count new.gates ≤ and_count (take count old.gates)
  pub normal : IsNormal new.gates
  pub bits : (bits : List Bool) → values new bits wires ≡ run as_bits (start as_bits old.ins bits) (take count old.gates)
  pub levels : AreAtMost new wires (run as_levels (start as_levels old.ins []) (take count old.gates))
