use Rattle.std.proofs.Common.{◌∙◌, refl}
use Rattle.module_split.proofs.cutting.split.Goals as goal

pub returns : goal.returns
returns c =
    c.new.ensures
    ∙ rw (c.in_ok-list.ensures, c.in_ok-edges.ensures, c.as_slice-numbers.ensures.value, c.len-count.ensures.len, c.in_ok-belonging.ensures.numbers, c.in_ok-belonging.ensures.order, c.in_ok-belonging.ensures.homes, c.entries-entries.ensures.value) refl
