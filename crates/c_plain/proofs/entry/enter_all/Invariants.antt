use Rattle.std.proofs.Common.{◌≡◌, drop}
use Rattle.c_meaning.specs.Programs as programs
use Rattle.c_meaning.specs.Types.{struct_cells}
use Rattle.c_state.specs.Views.{state_as}
use Rattle.c_plain.specs.Views.{values_in, prefixed}
use Rattle.c_plain.proofs.entry.enter_all.Given as goal

-- the arguments so far, and those that are left
abbrev pub invariant-loop-param : goal.invariant-loop-param
invariant-loop-param l =
    prefixed (values_in l.values) (programs.entered (struct_cells l.world.structs.now) l.objects (drop l.param-index l.params) l.words (state_as l.state))
    ≡ programs.entered (struct_cells l.world.structs.now) l.objects l.params l.inputs (state_as l.fn.state)
