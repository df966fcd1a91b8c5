-- Ring circuits of modules of the arithmetic class.
use Rattle.std.proofs.Common.{◌≡◌, ℕ, zero, suc, ◌<◌, List, [], ◌∷◌, ◌++◌, Option, Some, get_or, length, map, slice_get, refl, sym, ap, ◌∙◌, arith}
use Rattle.std.specs.List.{All, Contains}
use Rattle.std.proofs.lemmas.List.{get_or-map, get_or_default, map-append}
use Rattle.std.proofs.lemmas.Simd.{map-map}
use Rattle.hy_bits.specs.declared.width.Width.{Width}
use Rattle.hy_bits.specs.declared.width.Width.TheVariants.{W1}
use Rattle.word_graph.specs.declared.entry.Entry.{Entry}
use Rattle.word_graph.specs.Meaning.{InputsFit, Word, value, word_at, words}
use Rattle.word_graph.specs.Shape.{IsGraph}
use Rattle.word_graph.specs.Term.{width_at}
use Rattle.module_split.specs.declared.module.Class.TheVariants.{Arithmetic}
use Rattle.module_split.specs.declared.module.Module.{Module}
use Rattle.module_split.specs.Modules.{IsModuleOf}
use Rattle.ring_net.specs.declared.ring.RingGate.{RingGate}
use Rattle.ring_net.specs.Part.{IsPart, IsRingModule, gate_at, gate_of_entry, variable_of}
use Rattle.ring_net.specs.Ring.{IsRing, Ring, outputs, width_of}
use Rattle.ring_net.proofs.ModuleLaws.{IsPart-of-module}
use Rattle.ring_net.proofs.PartLaws.{variable_of-at}
use Rattle.bundle_core.specs.Meaning.{ring_words}
use Rattle.bundle_core.specs.Parts.{FitsRing, variable_widths, widths_at}
use Rattle.bundle_laws.specs.Circuits.{Gives}

pub ring-module : (es : List Entry) (part : Module) → IsModuleOf es part → part.class ≡ Arithmetic → IsRingModule es part.nodes part.ins part.outs
ring-module es part is ring = record {
  results = is.results;
  layers = is.layers;
  part = part;
  cut = is.cut;
  ring = ring;
  same_nodes = refl;
  same_ins = refl;
  same_outs = refl;
}

-- where the words are those of the nodes with their widths, so are their values
pub ring-gives : (es : List Entry) (part : Module) (r : Ring) → ((inputs : List ℕ) → InputsFit es inputs → outputs r (map (value es inputs) part.ins) ≡ map (word_at (words es inputs)) part.outs) → Gives es part (ring_words (Some r))
ring-gives es part r computes inputs fit = ap (map (λ (w : Word). w.value)) (computes inputs fit) ∙ map-map (λ (w : Word). w.value) (word_at (words es inputs)) part.outs

-- ---- widths

gate-width : (es : List Entry) (places : List ℕ) (k : ℕ) → k < length es → (gate_at es places k).width ≡ width_at es k
gate-width es places k h = by (slice_get es k) refl
  where
    width-entry : (fs : List Entry) (j : ℕ) (e : Entry) → slice_get fs j ≡ Some e → width_at fs j ≡ e.width
    width-entry [] j e s = absurd (cc)
    width-entry (x ∷ fs) zero e s = let same : x ≡ e = cc in ap (λ (y : Entry). y.width) same
    width-entry (x ∷ fs) (suc j) e s = width-entry fs j e s

    none-low : (fs : List Entry) (j : ℕ) → slice_get fs j ≡ Option.None → j < length fs → ⊥
    none-low [] j none low = omega arith
    none-low (x ∷ fs) zero none low = cc
    none-low (x ∷ fs) (suc j) none low = none-low fs j none (omega arith)

    by : (o : Option Entry) → slice_get es k ≡ o → (gate_at es places k).width ≡ width_at es k
    by Option.None s = absurd (none-low es k s h)
    by (Some e) s = ap (λ (o : Option Entry). (gate_of_entry es places o).width) s ∙ sym (width-entry es k e s)

gates-widths : (es : List Entry) (places ks : List ℕ) → All (λ k. k < length es) ks → map (λ (g : RingGate). g.width) (map (gate_at es places) ks) ≡ map (width_at es) ks
gates-widths es places [] stand = refl
gates-widths es places (k ∷ ks) stand =
    let first : (gate_at es places k).width ≡ width_at es k = gate-width es places k (stand 0 k (omega arith)) in
    let rest = gates-widths es places ks (λ i d h. stand (suc i) d (omega (arith, h))) in
    rw (first, rest) refl

rest-stand : (n : ℕ) (xs ys : List ℕ) → All (λ k. k < n) (xs ++ ys) → All (λ k. k < n) ys
rest-stand n [] ys all = all
rest-stand n (x ∷ xs) ys all = rest-stand n xs ys (λ i d h. all (suc i) d (omega (arith, h)))

variables-widths : (es : List Entry) (part : Module) (r : Ring) → All (λ k. k < length es) (part.ins ++ part.nodes) → r.ins ≡ map (width_at es) part.ins → r.gates ≡ map (gate_at es (part.ins ++ part.nodes)) part.nodes → variable_widths r ≡ map (width_at es) (part.ins ++ part.nodes)
variables-widths es part r stand ins gates =
    let first = ap (λ (ws : List Width). ws ++ map (λ (g : RingGate). g.width) r.gates) ins in
    let second = ap (λ (gs : List RingGate). map (width_at es) part.ins ++ map (λ (g : RingGate). g.width) gs) gates in
    let third = ap (λ (ws : List Width). map (width_at es) part.ins ++ ws) (gates-widths es (part.ins ++ part.nodes) part.nodes (rest-stand (length es) part.ins part.nodes stand)) in
    first ∙ second ∙ third ∙ sym (map-append (width_at es) part.ins part.nodes)

outs-widths : (es : List Entry) (places outs : List ℕ) (ws : List Width) → ws ≡ map (width_at es) places → ((i j : ℕ) → i < j → j < length places → get_or places i 0 ≡ get_or places j 0 → ⊥) → All (Contains places) outs → map (width_of ws) (map (variable_of places) outs) ≡ map (width_at es) outs
outs-widths es places [] ws same distinct among = refl
outs-widths es places (k ∷ outs) ws same distinct among =
    let c = among 0 k (omega arith) in
    let at : get_or places c.0 0 ≡ k = get_or_default places c.0 0 k c.1 ∙ c.2 in
    let is : variable_of places k ≡ c.0 = variable_of-at places c.0 k distinct c.1 at in
    let first : width_of ws (variable_of places k) ≡ width_at es k =
    ap (λ (vs : List Width). get_or vs (variable_of places k) W1) same
    ∙ ap (λ (i : ℕ). get_or (map (width_at es) places) i W1) is
    ∙ get_or-map (width_at es) places c.0 0 W1 c.1
    ∙ ap (width_at es) at in
    let rest = outs-widths es places outs ws same distinct (λ i d h. among (suc i) d (omega (arith, h))) in
    rw (first, rest) refl

pub ring-fits : (es : List Entry) (part : Module) (r : Ring) → IsGraph es → IsModuleOf es part → part.class ≡ Arithmetic → IsRing r → r.ins ≡ map (width_at es) part.ins → r.gates ≡ map (gate_at es (part.ins ++ part.nodes)) part.nodes → r.outs ≡ map (variable_of (part.ins ++ part.nodes)) part.outs →
    FitsRing (widths_at es part.ins) (widths_at es part.outs) r
ring-fits es part r graph is class ring ins gates outs =
    let whole : IsPart es part.nodes part.ins part.outs = IsPart-of-module es part.nodes part.ins part.outs graph (ring-module es part is class) in
    record {
      ring = ring;
      ins = ins;
      outs = ap (map (width_of (variable_widths r))) outs ∙ outs-widths es (part.ins ++ part.nodes) part.outs (variable_widths r) (variables-widths es part r whole.stand ins gates) whole.distinct whole.among;
    }
