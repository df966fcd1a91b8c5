-- Laws of steps: right steps keep all values, and a circuit that is replayed has equal outputs.
use Rattle.std.proofs.Common.{◌≡◌, ℕ, ◌+◌, ◌*◌, ◌<◌, false, List, [], ◌∷◌, ◌++◌, get_or, length, refl, sym, ◌∙◌, subst, arith}
use Rattle.std.proofs.lemmas.List.{ext_get_or, length-map}
use Rattle.gate_net.specs.declared.literal.Lit.{Lit}
use Rattle.gate_net.specs.declared.literal.Gate.{Gate}
use Rattle.gate_net.specs.declared.literal.Gate.TheVariants.{And, Xor}
use Rattle.gate_net.specs.Literal.{wire_of}
use Rattle.gate_net.specs.Circuit.{Circuit, Stands, with_gate, wire_count}
use Rattle.gate_net.specs.Meaning.{value}
use Rattle.gate_net.specs.Shape.{IsCircuit, UsesBelow}
use Rattle.gate_net.specs.Spelled.{values}
use Rattle.gate_net.proofs.ListLaws.{get_or-values}
use Rattle.gate_arena.specs.Inside.{AreWithin}
use Rattle.gate_arena.specs.Order.{IsWalk, new_lit, ordered_net}
use Rattle.gate_arena.specs.Paths.{DependsOn, IsAcyclic}
use Rattle.gate_arena.specs.Values.{HasValue, KeepsOutputs, KeepsValues}
use Rattle.gate_arena.proofs.ArenaLaws.{AreWithin-ordered, AreWithin-replaced, AreWithin-with_gate}
use Rattle.gate_arena.proofs.NetLaws.{IsClosed-walk, KeepsOutputs-ordered}
use Rattle.gate_arena.proofs.PathLaws.{IsAcyclic-ordered, IsAcyclic-replaced, IsAcyclic-with_gate}
use Rattle.gate_arena.proofs.ReachLaws.{visits_all-once}
use Rattle.gate_arena.proofs.ValueLaws.{HasValue-one, HasValue-ordered, KeepsValues-replaced, KeepsValues-then, KeepsValues-with_gate}
use Rattle.gate_steps.specs.declared.Step.{Step}
use Rattle.gate_steps.specs.declared.Step.TheVariants.{And as AddAnd, Xor as AddXor, Replace}
use Rattle.gate_steps.specs.Steps.{AreRight, HaveEqualOutputs, IsRight, Replays, after, stepped}
use Rattle.gate_steps.proofs.ConeLaws.{equal-of_cones, free-of_cones}

-- gates are over what stands, and none depends on itself
pub record IsSteady (n : Circuit) : Type 0 where
  pub within : AreWithin n
  pub acyclic : IsAcyclic n

pub IsSteady-circuit : (n : Circuit) → IsCircuit n → IsSteady n
IsSteady-circuit n circuit = record { within = AreWithin-ordered n circuit.ordered; acyclic = IsAcyclic-ordered n circuit.ordered }

IsSteady-with_gate : (n : Circuit) (g : Gate) → IsSteady n → UsesBelow (wire_count n) g → IsSteady (with_gate n g)
IsSteady-with_gate n g s uses = record { within = AreWithin-with_gate n g s.within uses; acyclic = IsAcyclic-with_gate n g s.within uses s.acyclic }

-- ---- one step

pub IsSteady-stepped : (n : Circuit) (s : Step) → IsSteady n → IsRight n s → IsSteady (stepped n s)
IsSteady-stepped n (AddAnd a b) steady right = IsSteady-with_gate n (And a b) steady right
IsSteady-stepped n (AddXor a b) steady right = IsSteady-with_gate n (Xor a b) steady right
IsSteady-stepped n (Replace v by leaves) steady right =
    let free : ¬ DependsOn n (1 + v) (wire_of by) = free-of_cones n v by leaves.items steady.acyclic right in
    record { within = AreWithin-replaced n (1 + v) by steady.within right.range.by_stands; acyclic = IsAcyclic-replaced n (1 + v) by steady.acyclic free }

pub KeepsValues-stepped : (n : Circuit) (s : Step) → IsSteady n → IsRight n s → KeepsValues n (stepped n s)
KeepsValues-stepped n (AddAnd a b) steady right = KeepsValues-with_gate n (And a b)
KeepsValues-stepped n (AddXor a b) steady right = KeepsValues-with_gate n (Xor a b)
KeepsValues-stepped n (Replace v by leaves) steady right =
    let l : Lit = record { code = 2 * v + 2 } in
    KeepsValues-replaced n (1 + v) by l (omega arith) (omega arith) (free-of_cones n v by leaves.items steady.acyclic right) (equal-of_cones n v by leaves.items steady.within steady.acyclic right)

-- ---- steps one after another

KeepsValues-refl : (n : Circuit) → KeepsValues n n
KeepsValues-refl n = record { count = refl; literals = λ bits l b h. h; outs = λ bits i d b within h. h }

pub IsSteady-after : (n : Circuit) (ss : List Step) → IsSteady n → AreRight n ss → IsSteady (after n ss)
IsSteady-after n [] steady right = steady
IsSteady-after n (s ∷ ss) steady right = IsSteady-after (stepped n s) ss (IsSteady-stepped n s steady right.0) right.1

-- right steps keep every literal's and every output's value
pub KeepsValues-after : (n : Circuit) (ss : List Step) → IsSteady n → AreRight n ss → KeepsValues n (after n ss)
KeepsValues-after n [] steady right = KeepsValues-refl n
KeepsValues-after n (s ∷ ss) steady right = KeepsValues-then n (stepped n s) (after (stepped n s) ss) (KeepsValues-stepped n s steady right.0) (KeepsValues-after (stepped n s) ss (IsSteady-stepped n s steady right.0) right.1)

-- a step more
pub after-push : (n : Circuit) (ss : List Step) (s : Step) → after n (ss ++ s ∷ []) ≡ stepped (after n ss) s
after-push n [] s = refl
after-push n (x ∷ ss) s = after-push (stepped n x) ss s

pub AreRight-push : (n : Circuit) (ss : List Step) (s : Step) → AreRight n ss → IsRight (after n ss) s → AreRight n (ss ++ s ∷ [])
AreRight-push n [] s all one = (one, tt)
AreRight-push n (x ∷ ss) s all one = (all.0, AreRight-push (stepped n x) ss s all.1 one)

-- ---- a replayed circuit

KeepsOutputs-walk : (n : Circuit) (order : List ℕ) → IsAcyclic n → IsWalk n order → KeepsOutputs n (ordered_net n order)
KeepsOutputs-walk n order acyclic walk = KeepsOutputs-ordered n order (IsClosed-walk n order walk) (visits_all-once n acyclic n.outs [] order walk tt) walk

-- where a circuit's outputs keep their values in a second one, and those of this in a third, which is in order, the first and the third agree
outs-agree : (old middle new : Circuit) → IsCircuit old → KeepsValues old middle → KeepsOutputs middle new → length new.outs ≡ length middle.outs → HaveEqualOutputs old new
outs-agree old middle new circuit keeps outs long bits =
    let d : Lit = record { code = 0 } in
    ext_get_or false (values new bits new.outs) (values old bits old.outs)
    (length-map new.outs (value new bits) ∙ long ∙ keeps.count ∙ sym (length-map old.outs (value old bits)))
    (λ i h.
    let in_new : i < length new.outs = omega (arith, length-map new.outs (value new bits)) in
    let in_middle : i < length middle.outs = omega arith in
    let in_old : i < length old.outs = omega (arith, keeps.count) in
    let stands : Stands old (get_or old.outs i d) = circuit.outs i d in_old in
    let first : HasValue middle bits (get_or middle.outs i d) (value old bits (get_or old.outs i d)) = keeps.outs bits i d (value old bits (get_or old.outs i d)) in_old (HasValue-ordered old bits circuit.ordered (get_or old.outs i d) stands) in
    let second : HasValue middle bits (get_or middle.outs i d) (value new bits (get_or new.outs i d)) = outs bits i d in_middle in
    get_or-values new bits new.outs i d false in_new
    ∙ HasValue-one middle bits (get_or middle.outs i d) (value new bits (get_or new.outs i d)) (value old bits (get_or old.outs i d)) second first
    ∙ sym (get_or-values old bits old.outs i d false in_old))

-- the law of logs
pub Replays-equal : (old : Circuit) (steps : List Step) (new : Circuit) → IsCircuit old → Replays old steps new → HaveEqualOutputs old new
Replays-equal old steps new circuit r =
    let steady : IsSteady old = IsSteady-circuit old circuit in
    let n : Circuit = after old steps in
    let net : KeepsOutputs n (ordered_net n r.order) = KeepsOutputs-walk n r.order (IsSteady-after old steps steady r.right).acyclic r.walk in
    subst (HaveEqualOutputs old) (sym r.same) (outs-agree old n (ordered_net n r.order) circuit (KeepsValues-after old steps steady r.right) net (length-map n.outs (new_lit n r.order)))
