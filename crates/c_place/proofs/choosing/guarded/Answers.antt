use Rattle.std.proofs.Common.{◌∙◌}
use Rattle.word_nodes.proofs.NodeLaws.{worth-later, worth-bit}
use Rattle.c_place.specs.Aims.{place_of}
use Rattle.c_place.proofs.ChoiceLaws.{seen-same, seen-guarded}
use Rattle.c_place.proofs.choosing.guarded.Goals as goal

pub returns-clause-value : goal.returns-clause-value
returns-clause-value c = λ ins fit.
    seen-same (place_of c.args.one.now) _ _ _ _
    (c.in_ok-guard.ensures.value ins fit)
    (worth-later c.in_ok-guard.ensures.extends ins c.args.one.now.index c.requires.first.index.within)
    ∙ seen-guarded _ (place_of c.args.one.now) _ _ (worth-bit c.args.graph.now ins c.args.c c.entries-entries.ensures.graph fit c.requires.condition)
