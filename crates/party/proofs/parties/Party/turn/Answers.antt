use Rattle.std.proofs.Common.{◌≤◌, Option, sym, subst}
use Rattle.std.specs.Option.{IfSome}
use Rattle.share_core.specs.declared.instr.Instr.{Instr}
use Rattle.party.specs.Steps.{State, level_gates}
use Rattle.party.specs.contracts.parties.Party.{the_view}
use Rattle.party.proofs.parties.Party.turn.Goals as goal

pub step-requires-clause-made : goal.step-requires-clause-made
step-requires-clause-made g c =
    let s : State = the_view c.self.inside in
    rw (← c.self.view_is)
    (subst (λ (found : Option Instr). IfSome found (λ i. level_gates c.args.gates.now i ≤ s.room)) (sym c.in-Some.ensures.value) (rw (← c.self.view_is) at c.requires.plan))
