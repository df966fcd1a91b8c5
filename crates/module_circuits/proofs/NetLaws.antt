-- Circuits whose budget is another, and the stated numbers of circuits.
use Rattle.std.proofs.Common.{◌≡◌, ℕ, ◌+◌, ◌≤◌, Bool, List, refl, sym, ap, ◌∙◌, subst}
use Rattle.std.specs.List.{flat_map}
use Rattle.word_graph.specs.declared.entry.Entry.{Entry}
use Rattle.gate_net.specs.declared.literal.Lit.{Lit}
use Rattle.gate_net.specs.Circuit.{Circuit}
use Rattle.gate_net.specs.Literal.{wire_of}
use Rattle.gate_net.specs.Meaning.{depth_of, level, value, wires}
use Rattle.gate_net.specs.Paths.{DependsOn, IsReduced, Takes}
use Rattle.gate_net.specs.Spelled.{values}
use Rattle.bundle_core.specs.Stated as stated
use Rattle.lower_bool.specs.Stated as lowered
use Rattle.bundle_laws.proofs.Nets.{ComputesBits, node_bits}

-- the circuit with another budget
abbrev pub rebudget : Circuit → ℕ → Circuit
rebudget n b = record n { budget = b }

same-values : (n : Circuit) (b : ℕ) (bits : List Bool) (ls : List Lit) → values (rebudget n b) bits ls ≡ values n bits ls
unfolding value wires
same-values n b bits ls = refl

pub computes-again : (es : List Entry) (ins outs : List ℕ) (n r : Circuit) (b : ℕ) → r ≡ rebudget n b → ComputesBits es ins outs n → ComputesBits es ins outs r
computes-again es ins outs n r b is computes inputs fit =
    ap (λ (m : Circuit). values m (flat_map (node_bits es inputs) ins) m.outs) is
    ∙ same-values n b (flat_map (node_bits es inputs) ins) n.outs
    ∙ computes inputs fit

same-depth : (n : Circuit) (b : ℕ) → depth_of (rebudget n b) ≡ depth_of n
unfolding level wires
same-depth n b = refl

takes-again : (n : Circuit) (b wire x : ℕ) → Takes n wire x → Takes (rebudget n b) wire x
takes-again n b wire x t = record { place = t.place; gate = t.gate; here = t.here; stands = t.stands; takes = t.takes }

depends-again : (n : Circuit) (b v wire : ℕ) → DependsOn n v wire → DependsOn (rebudget n b) v wire
depends-again n b v _ (DependsOn.itself wire e) = DependsOn.itself wire e
depends-again n b v _ (DependsOn.through wire x takes rest) = DependsOn.through wire x (takes-again n b wire x takes) (depends-again n b v x rest)

reduced-rebudget : (n : Circuit) (b : ℕ) → IsReduced n → IsReduced (rebudget n b)
reduced-rebudget n b r = record {
  normal = r.normal;
  reached = λ place h. let o = r.reached place h in record { out = o.out; among = o.among; depends = depends-again n b (1 + n.ins + place) (wire_of o.out) o.depends };
}

pub reduced-again : (n r : Circuit) (b : ℕ) → r ≡ rebudget n b → IsReduced n → IsReduced r
reduced-again n r b is reduced = subst IsReduced (sym is) (reduced-rebudget n b reduced)

-- ---- stated depths: the definitions of both crates say the same

path-again : (es : List Entry) (nodes : List ℕ) (k sum : ℕ) → lowered.EndsPath es nodes k sum → stated.EndsPath es nodes k sum
path-again es nodes _ _ (lowered.EndsPath.starts k sum c e) = stated.EndsPath.starts k sum c e
path-again es nodes _ _ (lowered.EndsPath.onward k sum x before c t rest e) = stated.EndsPath.onward k sum x before c t (path-again es nodes x before rest) e

pub depth-again : (es : List Entry) (nodes : List ℕ) (n r : Circuit) (b : ℕ) → r ≡ rebudget n b → lowered.HasStatedDepth es nodes n → stated.HasStatedDepth es nodes r
depth-again es nodes n r b is has have d within =
    subst (λ (m : ℕ). m ≤ d) (sym (ap depth_of is ∙ same-depth n b)) (has have d (λ k sum path. within k sum (path-again es nodes k sum path)))
