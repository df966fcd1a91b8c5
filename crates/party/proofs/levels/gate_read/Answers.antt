use Rattle.std.proofs.Common.{◌≡◌, ℕ, List, length, take, drop, replicate, ap, ◌∙◌, arith, length-take-le}
use Rattle.share_core.specs.Machine.{View, gate_share}
use Rattle.share_core.specs.Roles.{other}
use Rattle.share_core.specs.Sizes.{sent}
use Rattle.party.specs.Steps.{view}
use Rattle.party.proofs.levels.gate_read.Goals as goal

pub returns : goal.returns
returns g c =
    let gate = c.args.gate.now in
    let size = c.args.size in
    let small = c.if-size-gt32.false in
    let zeros : List ℕ = replicate 32 0 in
    let long : length (take size zeros) ≡ size = length-take-le size zeros (omega (arith, small)) in
    let is : size ≡ sent gate.kind gate.width (other c.args.role) = c.requires.size in
    λ all codes chosen own.
    let v : View = view c.args.role all codes c.args.slots.now c.args.offset chosen own (λ k. (g.H.Halves.meant c.args.halves.now c.args.role k).words) in
    c.gate_finish.ensures all codes chosen own
    ∙ ap (λ (piece : List ℕ). gate_share v c.args.number gate piece gate.kind) (c.copy.ensures ∙ ap (λ (n : ℕ). take n (drop c.args.at c.args.inbox.now.items)) (long ∙ is))
