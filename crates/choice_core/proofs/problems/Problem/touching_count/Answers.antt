use Rattle.std.specs.List.{filter}
use Rattle.choice_core.specs.Problems.{touches}
use Rattle.choice_core.proofs.Growth.{touched_length}
use Rattle.choice_core.proofs.Touched.{numbers_at}
use Rattle.choice_core.proofs.problems.Problem.touching_count.Goals as goal

pub returns : goal.returns
returns c =
    let p = c.self.inside.costs in
    let within = rw (← c.self.view_is) at c.requires in
    let touching = numbers_at p c.self.inside.touching c.self.inside.following c.self.invariant c.args.number c.as_slice.result.now c.index-as_slice-number.result c.as_slice-2.result.now within c.as_slice.ensures c.index-as_slice-number.is c.as_slice-2.ensures in
    rw (← c.self.view_is) (touched_length p.fans (filter (λ f. touches f c.args.number) p.fans) c.as_slice-2.result.now touching)
