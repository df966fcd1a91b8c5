use Rattle.std.proofs.Common.{◌≡◌, List, rules, subst, sym}
use Rattle.hy_bits.specs.declared.width.Width.{Width}
use Rattle.node_lists.specs.Lists.{HasWords}
use Rattle.place_start.specs.Starts.{main_widths}
use Rattle.place_start.proofs.starting.main_inputs.Goals as goal

pub returns-clause-fit : goal.returns-clause-fit
returns-clause-fit c = λ ins fit has.
    let w : c.as_slice-2.result.now ≡ main_widths c.args.parts.now = search rules in
    c.in_ok-words.ensures.fit ins fit (subst (λ (ws : List Width). HasWords ws ins) (sym w) has)
