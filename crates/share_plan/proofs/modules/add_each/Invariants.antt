use Rattle.std.proofs.Common.{◌≡◌, drop}
use Rattle.share_plan.specs.Held.{Work}
use Rattle.share_plan.specs.Modules.{with_modules}
use Rattle.share_plan.proofs.modules.add_each.Given as goal

-- what is left to put, after what is put, gives the whole
abbrev pub invariant-loop-number : goal.invariant-loop-number
invariant-loop-number l =
    let now : Work = record { script = l.script; held = l.held } in
    let before : Work = record { script = l.initial.script; held = l.initial.held } in
    with_modules l.parts.graph l.parts.modules.edges l.number (drop l.number l.parts.modules.list) (drop l.number l.parts.variants) (drop l.number l.choices) now
    ≡ with_modules l.parts.graph l.parts.modules.edges 0 l.parts.modules.list l.parts.variants l.choices before
