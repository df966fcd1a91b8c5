use Rattle.std.proofs.Common.{◌≡◌, rules, ap}
use Rattle.std.proofs.lemmas.Fn.{always_returns_same}
use Rattle.std.proofs.lemmas.List.Sorted.{ranks_by}
use Rattle.std.specs.Ordering.{is_lt, nat_cmp}
use Rattle.std.specs.Cmp.Lexicographic.{slice_cmp, nat_list_cmp_total}
use Rattle.bundle_core.specs.Fans.{list_at}
use Rattle.bundle_core.proofs.fans.sorted_by_users.Goals as goal

pub returns-clause-sorted : goal.returns-clause-sorted
returns-clause-sorted c =
    c.in_ok-sort_by.ensures.sorted (λ x y. is_lt (slice_cmp nat_cmp (list_at c.args.users.now x) (list_at c.args.users.now y))) (ranks_by nat_list_cmp_total (list_at c.args.users.now))
    (always_returns_same _ _ _ (λ a r f' k.
    let h : r ≡ slice_cmp nat_cmp (list_at c.args.users.now a.0.now) (list_at c.args.users.now a.1.0.now) = search rules in
    (ap is_lt h, search rules)))
