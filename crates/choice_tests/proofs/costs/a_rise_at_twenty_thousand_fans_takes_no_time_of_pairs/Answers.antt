use Rattle.std.proofs.Common.{arith}
use Rattle.choice_tests.proofs.costs.a_rise_at_twenty_thousand_fans_takes_no_time_of_pairs.Goals as goal

pub compare_star-requires-clause-assigned : goal.compare_star-requires-clause-assigned
compare_star-requires-clause-assigned g c = rw c.as_slice.ensures.value (record {
  fits = c.in_ok-problem.ensures.boolean c.in_ok-choices.choices.items c.in_ok-choices.ensures.others (omega (arith, c.in_ok-problem.ensures.count, c.in_ok-choices.ensures.count));
  whole = omega (arith, c.in_ok-problem.ensures.count, c.in_ok-choices.ensures.count);
})

pub cost-requires-clause-assigned : goal.cost-requires-clause-assigned
cost-requires-clause-assigned g c = rw c.as_slice-in-loop-shared.ensures.value (record {
  fits = c.in_ok-problem.ensures.boolean c.in_ok-choices.choices.items c.in_ok-choices.ensures.others (omega (arith, c.in_ok-problem.ensures.count, c.in_ok-choices.ensures.count));
  whole = omega (arith, c.in_ok-problem.ensures.count, c.in_ok-choices.ensures.count);
})
