use Rattle.std.proofs.Common.{rules}
use Rattle.bundle_tests.proofs.sharings.variants.Goals as goal

pub returns : goal.returns
returns g c = record {
  first = c.in_ok-first.field-0;
  second = c.in_ok-second.field-0;
  third = c.in_ok-third.field-0;
  list = search rules;
  is_first = c.in_ok-first.ensures;
  is_second = c.in_ok-second.ensures;
  is_third = c.in_ok-third.ensures;
}
