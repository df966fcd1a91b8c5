use Rattle.std.proofs.Common.{◌≡◌, Some, false, true, string_cmp, sym, ap, ◌∙◌, subst}
use Rattle.std.specs.List.Sorted.{IsStrictlySortedBy}
use Rattle.std.specs.Map.{keys_of}
use Rattle.serde_json.specs.View.{members_view}
use Rattle.serde_json.proofs.Views.{Entry}
use Rattle.json_values.specs.Walk.{extra, is_among}
use Rattle.json_values.proofs.Extras.{first_is_least, known_is_passed}
use Rattle.json_values.proofs.walk.extra_member.Goals as goal

pub loop-name-init : goal.loop-name-init
loop-name-init c =
    let same = c.into_iter-name-iterator.ensures.into_iter_gives ∙ c.iter-name-items.ensures.rest in
    record {
      left = λ listed is. ap (λ es. extra listed (members_view es)) same;
      ordered = subst (λ es. IsStrictlySortedBy string_cmp (keys_of es)) (sym same) c.iter-name-items.ensures.ordered;
    }

pub returns-then-not-contains : goal.returns-then-not-contains
returns-then-not-contains c = λ listed is.
    let steps = c.in-Some.ensures.steps in
    let e : Entry = (c.in-Some.name.now, c.in-Some.field-0-1.now) in
    let unknown = subst (λ name. is_among name listed ≡ false) c.as_bytes.ensures.value (sym (is c.as_bytes.result.now) ∙ sym c.if-not-contains.ensures) in
    let sorted = subst (λ es. IsStrictlySortedBy string_cmp (keys_of es)) steps c.loop-name.invariant.ordered in
    ap Some c.as_bytes-then-not-contains.ensures.value
    ∙ sym (first_is_least listed e c.next.new.self sorted unknown)
    ∙ ap (λ es. extra listed (members_view es)) (sym steps)
    ∙ c.loop-name.invariant.left listed is

pub loop-name-preserved : goal.loop-name-preserved
unfolding IsStrictlySortedBy
loop-name-preserved c =
    let steps = c.in-Some.ensures.steps in
    let e : Entry = (c.in-Some.name.now, c.in-Some.field-0-1.now) in
    let sorted = subst (λ es. IsStrictlySortedBy string_cmp (keys_of es)) steps c.loop-name.invariant.ordered in
    record {
      left = λ listed is.
          let known = subst (λ name. is_among name listed ≡ true) c.as_bytes.ensures.value (sym (is c.as_bytes.result.now) ∙ sym c.if-not-contains.ensures) in
          sym (known_is_passed listed e c.next.new.self known) ∙ ap (λ es. extra listed (members_view es)) (sym steps) ∙ c.loop-name.invariant.left listed is;
      ordered = sorted.1;
    }
