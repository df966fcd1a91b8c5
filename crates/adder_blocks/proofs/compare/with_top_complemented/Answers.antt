use Rattle.std.proofs.Common.{◌≡◌, ◌+◌, ◌-◌, ◌<◌, List, [], ◌∷◌, ◌++◌, length, get_or, take, refl, sym, ◌∙◌, arith, rules}
use Rattle.std.proofs.lemmas.List.{take_all}
use Rattle.gate_net.specs.declared.literal.Lit.{Lit}
use Rattle.std.proofs.lemmas.List.{take_more}
use Rattle.adder_blocks.proofs.compare.with_top_complemented.Goals as goal

split_top : (ls : List Lit) (d : Lit) → 0 < length ls → ls ≡ take (length ls - 1) ls ++ get_or ls (length ls - 1) d ∷ []
split_top ls d h =
    let whole : length ls - 1 + 1 ≡ length ls = omega arith in
    sym (take_all (length ls - 1 + 1) ls (omega arith)) ∙ take_more ls (length ls - 1) d (omega arith)

pub returns : goal.returns
returns c =
    let copied : c.in_ok-out.out.items ≡ take (length c.args.ls.now - 1) c.args.ls.now = search rules in
    record {
      low = take (length c.args.ls.now - 1) c.args.ls.now;
      top = get_or c.args.ls.now (length c.args.ls.now - 1) (record { code = 0 });
      before = split_top c.args.ls.now (record { code = 0 }) c.requires;
      after = rw (c.in_ok-push.ensures.items, copied, c.complement.ensures) refl;
    }
