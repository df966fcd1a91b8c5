use Rattle.std.proofs.Common.{◌≡◌, ◌∙◌, ◌<◌, ◌∷◌, [], ◌++◌, List, length, sym, ap, arith}
use Rattle.module_split.specs.declared.module.Module.{Module}
use Rattle.module_split.specs.Cut.{is_of, module_of}
use Rattle.module_split.proofs.UseLaws.{filter_below-low}
use Rattle.module_split.proofs.CutLaws.{module-same, map_below-more}
use Rattle.module_split.proofs.cutting.modules_of.Goals as goal

pub outs_of-requires-clause-stand : goal.outs_of-requires-clause-stand
outs_of-requires-clause-stand c =
    let within : c.loop-number.number < length c.args.belonging.now.order.keys = omega (arith, c.len-number-end.ensures.len) in
    rw (c.get-nodes.ensures, c.requires.uses.nodes c.loop-number.number within, c.requires.uses.users.count, ← c.requires.entries) (filter_below-low (is_of c.args.belonging.now.numbers.items c.loop-number.number) (length c.args.belonging.now.numbers.items))

pub loop-number-preserved : goal.loop-number-preserved
loop-number-preserved c =
    let within : c.loop-number.number < length c.args.belonging.now.order.keys = omega (arith, c.len-number-end.ensures.len) in
    let made : c.in_ok-module.module ≡ module_of c.args.entries.now c.args.belonging.now.homes.items c.args.belonging.now.order.keys c.as_slice-numbers.result.now c.args.results.now c.loop-number.number =
    c.in_ok-module.ensures
    ∙ rw (c.deref-in-loop-number.ensures.value, c.layer_at-layer.ensures, c.in_ok-outs.ensures, c.get-nodes.ensures, c.get-ins.ensures, c.requires.uses.nodes c.loop-number.number within, c.requires.uses.ins c.loop-number.number within, c.deref.ensures.value, c.as_slice-numbers.ensures.value)
    (module-same c.args.entries.now c.args.belonging.now.homes.items c.args.belonging.now.order.keys c.args.belonging.now.numbers.items c.args.results.now c.args.uses.now.users c.in_ok-wanted.wanted.items c.loop-number.number c.requires.entries c.requires.uses.users c.in_ok-wanted.ensures.each) in
    c.in_ok-push.ensures.items
    ∙ ap (λ (list : List Module). list ++ c.in_ok-module.module ∷ []) c.loop-number.invariant
    ∙ rw made (sym (map_below-more (module_of c.args.entries.now c.args.belonging.now.homes.items c.args.belonging.now.order.keys c.as_slice-numbers.result.now c.args.results.now) c.loop-number.number))
