use Rattle.std.proofs.Common.{rules, ◌≡◌, Some, ap, ◌∙◌, true, false, string_bytes}
use Rattle.cost_table.specs.Names.{names_of, is_known}
use Rattle.cost_table.proofs.Keys.{first_unknown, first_of_keys, passed_key, found_key, no_key}
use Rattle.cost_table.proofs.extras.first_extra.Goals as goal

pub loop-name-init : goal.loop-name-init
loop-name-init c = (ap (first_unknown (names_of c.args.names)) (c.into_iter-name-iterator.ensures.into_iter_gives ∙ c.keys-name-items.ensures.rest) ∙ first_of_keys _ _ c.keys-name-items.ensures.ordered, tt, tt)

pub returns-then-not-holds : goal.returns-then-not-holds
returns-then-not-holds c =
    let test : is_known (names_of c.args.names) (string_bytes c.in-Some.name.now) ≡ false = search rules in
    let found : Some (string_bytes c.in-Some.name.now) ≡ first_unknown (names_of c.args.names) c.loop-name.name-iterator = found_key _ _ _ _ c.in-Some.ensures.steps test in
    ap Some c.as_str-then-not-holds.ensures.value ∙ (found ∙ c.loop-name.invariant.0)

pub loop-name-preserved : goal.loop-name-preserved
loop-name-preserved c =
    let test : is_known (names_of c.args.names) (string_bytes c.in-Some.name.now) ≡ true = search rules in
    (passed_key _ _ _ _ c.in-Some.ensures.steps test ∙ c.loop-name.invariant.0, tt, tt)

pub returns : goal.returns
returns c = no_key _ _ c.in-None.ensures.steps.0 ∙ c.loop-name.invariant.0
