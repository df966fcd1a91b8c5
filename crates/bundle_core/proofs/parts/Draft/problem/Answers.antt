use Rattle.std.proofs.Common.{sym, subst}
use Rattle.std.proofs.lemmas.Result.{IfOk-weaker}
use Rattle.choice_core.specs.Problems.{IsProblem}
use Rattle.bundle_core.proofs.MeaningLaws.{ins-stand, outs-stand}
use Rattle.bundle_core.proofs.ProblemLaws.{ins-distinct, modules-few, outs-limit}
use Rattle.bundle_core.proofs.CostLaws.{fans-few, problem-is}
use Rattle.bundle_core.proofs.parts.Draft.problem.Goals as goal

pub fans_of-requires-clause-ins : goal.fans_of-requires-clause-ins
fans_of-requires-clause-ins c =
    let graph = rw c.parts-parts.ensures.value at c.entries-entries.ensures.graph in
    rw (c.list.ensures, c.entries-entries.ensures.value, c.parts-parts.ensures.value) (ins-stand c.args.self.now c.parts-parts.ensures.draft graph)

pub fans_of-requires-clause-outs : goal.fans_of-requires-clause-outs
fans_of-requires-clause-outs c =
    let graph = rw c.parts-parts.ensures.value at c.entries-entries.ensures.graph in
    rw (c.list.ensures, c.entries-entries.ensures.value, c.parts-parts.ensures.value) (outs-stand c.args.self.now c.parts-parts.ensures.draft graph)

pub fans_of-requires-clause-distinct : goal.fans_of-requires-clause-distinct
fans_of-requires-clause-distinct c =
    let graph = rw c.parts-parts.ensures.value at c.entries-entries.ensures.graph in
    rw (c.list.ensures, c.parts-parts.ensures.value) (ins-distinct c.args.self.now c.parts-parts.ensures.draft graph)

pub fans_of-requires-clause-few_outs : goal.fans_of-requires-clause-few_outs
fans_of-requires-clause-few_outs c =
    let graph = rw c.parts-parts.ensures.value at c.entries-entries.ensures.graph in
    rw (c.list.ensures, c.parts-parts.ensures.value) (outs-limit c.args.self.now c.parts-parts.ensures.draft graph)

pub fans_of-requires-clause-few : goal.fans_of-requires-clause-few
fans_of-requires-clause-few c =
    let graph = rw c.parts-parts.ensures.value at c.entries-entries.ensures.graph in
    rw (c.list.ensures, c.parts-parts.ensures.value) (modules-few c.args.self.now c.parts-parts.ensures.draft graph)

pub of-requires-clause-fans : goal.of-requires-clause-fans
of-requires-clause-fans c =
    let graph = rw c.parts-parts.ensures.value at c.entries-entries.ensures.graph in
    let small = rw c.parts-parts.ensures.value at c.table_is_small.ensures in
    rw (c.new.ensures, c.in_ok-rows.ensures, c.new-2.ensures, c.in_ok-fans.ensures, c.as_slice.ensures, c.list.ensures, c.entries-entries.ensures.value, c.parts-parts.ensures.value)
    (problem-is c.args.self.now c.parts-parts.ensures.draft graph small).fans

pub of-requires-clause-few : goal.of-requires-clause-few
of-requires-clause-few c =
    let graph = rw c.parts-parts.ensures.value at c.entries-entries.ensures.graph in
    rw (c.new-2.ensures, c.in_ok-fans.ensures, c.list.ensures, c.entries-entries.ensures.value, c.parts-parts.ensures.value) (fans-few c.args.self.now c.parts-parts.ensures.draft graph)

pub returns-clause-problem : goal.returns-clause-problem
returns-clause-problem c =
    let graph = rw c.parts-parts.ensures.value at c.entries-entries.ensures.graph in
    let small = rw c.parts-parts.ensures.value at c.table_is_small.ensures in
    let is = problem-is c.args.self.now c.parts-parts.ensures.draft graph small in
    let all = rw (c.new.ensures, c.in_ok-rows.ensures, c.new-2.ensures, c.in_ok-fans.ensures, c.as_slice.ensures, c.list.ensures, c.entries-entries.ensures.value, c.parts-parts.ensures.value) at c.of.ensures in
    IfOk-weaker c.of.result _ IsProblem (λ p e. subst IsProblem (sym e) is) all
