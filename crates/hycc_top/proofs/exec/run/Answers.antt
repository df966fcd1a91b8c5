use Rattle.hycc_top.proofs.Runs.{ending_of}
use Rattle.hycc_top.proofs.exec.run.Goals as goal

pub returns-clause-ending : goal.returns-clause-ending
returns-clause-ending g c =
    let source = rw c.as_str.ensures.value at (c.in_ok-source.ensures.bytes) in
    let a = rw (c.as_str-2.ensures.value, c.in_ok-source.ensures.store) at (c.in_ok-a.ensures.bytes) in
    let b = rw (c.as_str-3.ensures.value, c.in_ok-a.ensures.store, c.in_ok-source.ensures.store) at (c.in_ok-b.ensures.bytes) in
    let outcome = rw (c.deref.ensures.value, c.deref-2.ensures.value, c.deref-3.ensures.value) at (c.in_ok-outcome.ensures) in
    ending_of _ _ _ _ _ _ c.in_ok-source.source.items c.in_ok-a.a.items c.in_ok-b.b.items c.in_ok-outcome.outcome _ _ source a b outcome c.in_ok-line_of.ensures
