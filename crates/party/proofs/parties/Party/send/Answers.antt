use Rattle.std.proofs.Common.{◌≡◌, ℕ, Bool, List, [], sym, subst, ◌∙◌}
use Rattle.party.specs.Steps.{after_send, plan_of}
use Rattle.party.proofs.parties.Party.send.Goals as goal

pub returns-in-false-false-clause-state : goal.returns-in-false-false-clause-state
returns-in-false-false-clause-state g c =
    let half : ℕ → List ℕ = λ k. (g.H.Halves.meant c.args.halves.now c.args.self.now.role k).words in
    subst (λ (b : Bool). c.pass.new.self ≡ after_send b (plan_of [] c.args.gates.now c.args.codes.now) half c.args.self.now c.args.instr.now) (sym c.in-false-false.is-1 ∙ c.requires.receives) (c.pass.ensures c.args.gates.now)
