-- The depth of a ring gate by paths, and the recursion over all depths that gives it.
use Rattle.std.specs.Prelude.{◌≡◌, ◌⊎◌, ℕ, ◌+◌, ◌<◌, ◌≤◌, List, Some, get_or, if◌then◌else◌, length, slice_get}
use Rattle.ring_net.specs.declared.ring.RingArg.TheVariants.{Var}
use Rattle.ring_net.specs.declared.ring.RingGate.{RingGate}
use Rattle.ring_net.specs.Ring.{Ring, argument, gate_depth, multiplies}

-- a path of the circuit that ends at the variable, with this many products of two variables on it, the end counted: it begins at an input
-- or at a gate, and goes on from an argument to its gate
pub data EndsPath (r : Ring) : (variable count : ℕ) → Type 0 where
  at_input : (variable count : ℕ) → variable < length r.ins → count ≡ 0 → EndsPath r variable count
  at_gate : (variable count place : ℕ) (g : RingGate) → variable ≡ length r.ins + place → slice_get r.gates place ≡ Some g → count ≡ (if multiplies g then 1 else 0) → EndsPath r variable count
  onward : (variable count place : ℕ) (g : RingGate) (x before : ℕ) → variable ≡ length r.ins + place → slice_get r.gates place ≡ Some g →
      (argument g 0 ≡ Var x) ⊎ (argument g 1 ≡ Var x) → EndsPath r x before → count ≡ before + (if multiplies g then 1 else 0) → EndsPath r variable count

-- the depth of each variable is the most products of two variables on a path that ends there
pub record AreGreatest (r : Ring) (depths : List ℕ) : Type 0 where
  pub one_for_each : length depths ≡ length r.ins + length r.gates
  pub reached : (v : ℕ) → v < length depths → EndsPath r v (get_or depths v 0)
  pub most : (v count : ℕ) → EndsPath r v count → count ≤ get_or depths v 0

-- the recursion over all depths: an input has 0, and a gate has what its arguments' depths give it
pub record AreStepwise (r : Ring) (depths : List ℕ) : Type 0 where
  pub one_for_each : length depths ≡ length r.ins + length r.gates
  pub inputs : (v : ℕ) → v < length r.ins → get_or depths v 0 ≡ 0
  pub gates : (place : ℕ) (g : RingGate) → slice_get r.gates place ≡ Some g → get_or depths (length r.ins + place) 0 ≡ gate_depth depths g
