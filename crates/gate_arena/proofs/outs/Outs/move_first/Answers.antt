use Rattle.std.proofs.Common.{arith}
use Rattle.gate_arena.proofs.ChainLaws.{step-chained, step-fewer, step-lits, step-none, step-within}
use Rattle.gate_arena.proofs.outs.Outs.move_first.Goals as goal

pub index-requires-in-Some : goal.index-requires-in-Some
index-requires-in-Some c = omega (
  arith,
  step-within c.self.inside.lits.items c.self.inside.first.items c.self.inside.next.items c.self.invariant c.args.wire c.wire_of-to.result c.args.by c.in-Some.place
      (rw (← c.self.view_is) at c.requires.stands)
      c.requires.apart
      (rw (← c.self.view_is) at c.requires.by_stands)
      c.wire_of-to.ensures
      c.index.result.now
      c.index.ensures
      c.in-Some.is,
  c.self.invariant.one_for_each,
)

pub index_mut-requires-in-Some : goal.index_mut-requires-in-Some
index_mut-requires-in-Some c = omega (
  arith,
  step-within c.self.inside.lits.items c.self.inside.first.items c.self.inside.next.items c.self.invariant c.args.wire c.wire_of-to.result c.args.by c.in-Some.place
      (rw (← c.self.view_is) at c.requires.stands)
      c.requires.apart
      (rw (← c.self.view_is) at c.requires.by_stands)
      c.wire_of-to.ensures
      c.index.result.now
      c.index.ensures
      c.in-Some.is,
  c.self.invariant.one_for_each,
)

pub index-requires-in-Some-3 : goal.index-requires-in-Some-3
index-requires-in-Some-3 c = omega (
  arith,
  step-within c.self.inside.lits.items c.self.inside.first.items c.self.inside.next.items c.self.invariant c.args.wire c.wire_of-to.result c.args.by c.in-Some.place
      (rw (← c.self.view_is) at c.requires.stands)
      c.requires.apart
      (rw (← c.self.view_is) at c.requires.by_stands)
      c.wire_of-to.ensures
      c.index.result.now
      c.index.ensures
      c.in-Some.is,
)

pub index_mut-requires-in-Some-3 : goal.index_mut-requires-in-Some-3
index_mut-requires-in-Some-3 c = omega (
  arith,
  step-within c.self.inside.lits.items c.self.inside.first.items c.self.inside.next.items c.self.invariant c.args.wire c.wire_of-to.result c.args.by c.in-Some.place
      (rw (← c.self.view_is) at c.requires.stands)
      c.requires.apart
      (rw (← c.self.view_is) at c.requires.by_stands)
      c.wire_of-to.ensures
      c.index.result.now
      c.index.ensures
      c.in-Some.is,
)

pub invariant_of-self : goal.invariant_of-self
invariant_of-self c =
    step-chained c.self.inside.lits.items c.self.inside.first.items c.self.inside.next.items c.self.invariant c.args.wire c.wire_of-to.result c.args.by c.in-Some.place
    (rw (← c.self.view_is) at c.requires.stands)
    c.requires.apart
    (rw (← c.self.view_is) at c.requires.by_stands)
    c.wire_of-to.ensures
    c.index.result.now
    c.index.ensures
    c.in-Some.is
    c.index-in-Some-3.result.now
    c.moved.result
    c.index-in-Some-3.ensures
    c.moved.ensures
    c.index-in-Some.result.now
    c.index-in-Some-2.result.now
    c.index-in-Some.ensures
    c.index-in-Some-2.ensures

pub returns-in-Some-clause-lits : goal.returns-in-Some-clause-lits
returns-in-Some-clause-lits c =
    rw (← c.self.view_is)
    (step-lits c.self.inside.lits.items c.self.inside.first.items c.self.inside.next.items c.self.invariant c.args.wire c.wire_of-to.result c.args.by c.in-Some.place
    (rw (← c.self.view_is) at c.requires.stands)
    c.requires.apart
    (rw (← c.self.view_is) at c.requires.by_stands)
    c.wire_of-to.ensures
    c.index.result.now
    c.index.ensures
    c.in-Some.is
    c.index-in-Some-3.result.now
    c.moved.result
    c.index-in-Some-3.ensures
    c.moved.ensures)

pub returns-in-Some-clause-fewer : goal.returns-in-Some-clause-fewer
returns-in-Some-clause-fewer c =
    rw (← c.self.view_is) (omega (
      arith,
      step-fewer c.self.inside.lits.items c.self.inside.first.items c.self.inside.next.items c.self.invariant c.args.wire c.wire_of-to.result c.args.by c.in-Some.place
          (rw (← c.self.view_is) at c.requires.stands)
          c.requires.apart
          (rw (← c.self.view_is) at c.requires.by_stands)
          c.wire_of-to.ensures
          c.index.result.now
          c.index.ensures
          c.in-Some.is
          c.index-in-Some-3.result.now
          c.moved.result
          c.index-in-Some-3.ensures
          c.moved.ensures,
    ))

pub returns-in-None-clause-none : goal.returns-in-None-clause-none
returns-in-None-clause-none c _ =
    rw (← c.self.view_is)
    (step-none c.self.inside.lits.items c.self.inside.first.items c.self.inside.next.items c.self.invariant c.args.wire c.args.by (rw (← c.self.view_is) at c.requires.stands) c.index.result.now c.index.ensures c.in-None.is)
