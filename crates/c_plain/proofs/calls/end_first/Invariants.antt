use Rattle.std.proofs.Common.{◌≡◌, drop, map}
use Rattle.c_meaning.specs.State.{all_ended}
use Rattle.c_meaning.specs.Statements.{declared_by}
use Rattle.c_state.specs.Views.{state_as}
use Rattle.c_plain.proofs.calls.end_first.Given as goal

-- the declarators that are left give the state after all of them
abbrev pub invariant-loop-declared : goal.invariant-loop-declared
invariant-loop-declared l =
    all_ended (map (λ d. d.object) (drop l.declared-index l.declared-items)) (state_as l.state)
    ≡ all_ended (declared_by l.fn.first) (state_as l.fn.state)
