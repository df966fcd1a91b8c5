use Rattle.std.proofs.Common.{◌≡◌, drop, map}
use Rattle.c_meaning.specs.Programs.{with_arguments}
use Rattle.c_state.specs.Views.{cells_in, state_as}
use Rattle.c_plain.proofs.calls.begin_params.Given as goal

-- the parameters that are left give the state after all of them
abbrev pub invariant-loop-number : goal.invariant-loop-number
invariant-loop-number l =
    with_arguments (drop l.number l.params) (drop l.number (map cells_in l.values)) (state_as l.state)
    ≡ with_arguments l.params (map cells_in l.values) (state_as l.fn.state)
