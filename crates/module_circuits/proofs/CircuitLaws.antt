-- The circuits of modules, and the sums of their gates.
use Rattle.std.proofs.Common.{◌≡◌, ◌⊎◌, inl, inr, ℕ, zero, suc, ◌+◌, ◌<◌, ◌≤◌, max, List, [], ◌∷◌, ◌++◌, Option, Some, get_or, length, map, take, sym, ap, ◌∙◌, subst, arith}
use Rattle.std.specs.Prelude.{Result, Ok, Err, IfErr, IsErrAnd}
use Rattle.std.specs.List.{AllZip, sum_by}
use Rattle.std.proofs.lemmas.List.{get_or_append_left, get_or_default, get_or_push, length-map, length_push, take_more}
use Rattle.std.proofs.lemmas.List.Sums.{sum_by-cons}
use Rattle.word_graph.specs.declared.entry.Entry.{Entry}
use Rattle.word_graph.specs.Meaning.{InputsFit, value, word_at, words}
use Rattle.word_graph.specs.Shape.{IsGraph}
use Rattle.word_graph.specs.Term.{width_at}
use Rattle.module_split.specs.declared.module.Class.{Class}
use Rattle.module_split.specs.declared.module.Class.TheVariants.{Arithmetic}
use Rattle.module_split.specs.declared.module.Module.{Module}
use Rattle.module_split.specs.Modules.{IsModuleOf}
use Rattle.ring_net.specs.Part.{gate_at, variable_of}
use Rattle.ring_net.specs.Ring.{IsRing, Ring, outputs}
use Rattle.gate_net.specs.Circuit.{Circuit}
use Rattle.gate_net.specs.Paths.{IsReduced}
use Rattle.bundle_core.specs.declared.parts.Variant.{Variant}
use Rattle.bundle_core.specs.Meaning.{net_words, ring_words}
use Rattle.bundle_core.specs.Parts.{AreVariants, FitsBits, FitsClass, ring_size, widths_at}
use Rattle.bundle_core.specs.Stated.{HasStatedAnds, HasStatedDepth}
use Rattle.bundle_laws.specs.Circuits.{Gives, HasWords, IsCircuitsOf}
use Rattle.bundle_laws.proofs.Rings.{ring-fits, ring-gives}
use Rattle.module_circuits.specs.declared.faults.AssemblyFault.{AssemblyFault}
use Rattle.module_circuits.specs.declared.faults.AssemblyFault.TheVariants.{GateLimit, Memory}
use Rattle.module_circuits.specs.Sums.{AreCircuits, IsOverLimit, RingComputes, module_size}

pub ring-computes : (es : List Entry) (part : Module) (r : Ring) → IsGraph es → IsModuleOf es part → part.class ≡ Arithmetic → IsRing r → r.ins ≡ map (width_at es) part.ins → r.gates ≡ map (gate_at es (part.ins ++ part.nodes)) part.nodes → r.outs ≡ map (variable_of (part.ins ++ part.nodes)) part.outs →
    ((inputs : List ℕ) → InputsFit es inputs → outputs r (map (value es inputs) part.ins) ≡ map (word_at (words es inputs)) part.outs) → RingComputes es part (Some r)
ring-computes es part r graph is class ring ins gates outs computes = record {
  valid = subst (λ (c : Class). FitsClass c (widths_at es part.ins) (widths_at es part.outs) (Some r)) (sym class) (ring-fits es part r graph is class ring ins gates outs);
  words = λ s same. subst (λ (t : Ring). Gives es part (ring_words (Some t))) (some_same same) (ring-gives es part r computes);
  size = omega (arith, ap length gates, length-map part.nodes (gate_at es (part.ins ++ part.nodes)));
}
  where
    some_same : {s : Ring} → Some r ≡ Some s → r ≡ s
    some_same e = cc

pub circuits-of : (es : List Entry) (part : Module) (ring : Option Ring) (compact shallow : Circuit) → RingComputes es part ring →
    FitsBits (widths_at es part.ins) (widths_at es part.outs) compact → Gives es part (net_words compact (widths_at es part.ins) (widths_at es part.outs)) → IsReduced compact → HasStatedAnds es part.nodes compact → length compact.gates ≤ module_size es part →
    FitsBits (widths_at es part.ins) (widths_at es part.outs) shallow → Gives es part (net_words shallow (widths_at es part.ins) (widths_at es part.outs)) → IsReduced shallow → HasStatedDepth es part.nodes shallow → length shallow.gates ≤ module_size es part →
    IsCircuitsOf es part (record { ring = ring; compact = compact; shallow = shallow })
circuits-of es part ring compact shallow r fits gives reduced ands size fits' gives' reduced' depth size' = record {
  valid = record { ring = r.valid; compact = fits; shallow = fits' };
  words = record { ring = r.words; compact = gives; shallow = gives' };
  made = record { compact_reduced = reduced; shallow_reduced = reduced'; few_ands = ands; few_levels = depth };
  sizes = record { ring = r.size; compact = size; shallow = size' };
}

-- ---- one module more

pub sum-push : {X : Type 0} (f : X → ℕ) (xs : List X) (x : X) → sum_by f (xs ++ x ∷ []) ≡ sum_by f xs + f x
sum-push f [] x = omega (arith, sum_by-cons f x [])
sum-push f (y ∷ xs) x = omega (arith, sum_by-cons f y (xs ++ x ∷ []), sum_by-cons f y xs, sum-push f xs x)

sum-take : {X : Type 0} (f : X → ℕ) (xs : List X) (i : ℕ) → sum_by f (take i xs) ≤ sum_by f xs
sum-take f [] zero = omega arith
sum-take f [] (suc i) = omega arith
sum-take f (x ∷ xs) zero = omega arith
sum-take f (x ∷ xs) (suc i) = omega (arith, sum_by-cons f x (take i xs), sum_by-cons f x xs, sum-take f xs i)

pub sum-more : {X : Type 0} (f : X → ℕ) (xs : List X) (i : ℕ) (d : X) → i < length xs → sum_by f (take (i + 1) xs) ≡ sum_by f (take i xs) + f (get_or xs i d)
sum-more f xs i d h = ap (sum_by f) (take_more xs i d h) ∙ sum-push f (take i xs) (get_or xs i d)

pub circuits-more : (es : List Entry) (list : List Module) (variants more : List Variant) (part : Module) (variant : Variant) (i : ℕ) → AreCircuits es list variants → length variants ≡ i → i < length list → part ≡ get_or list i part → IsCircuitsOf es part variant → more ≡ variants ++ variant ∷ [] → AreCircuits es list more
circuits-more es list variants more part variant i are long h at is made = record {
  count = omega (arith, ap length made, length_push variants variant, long, h);
  each = λ j p v low. subst (λ (ws : List Variant). IsCircuitsOf es (get_or list j p) (get_or ws j v)) (sym made) (by j p v (split j (omega (arith, low, ap length made, length_push variants variant))));
}
  where
    split : (j : ℕ) → j < length variants + 1 → (j < length variants) ⊎ (j ≡ length variants)
    split j low = grind arith

    default : (j : ℕ) (p : Module) → j ≡ i → get_or list j p ≡ part
    default j p same = ap (λ (k : ℕ). get_or list k p) same ∙ get_or_default list i p part h ∙ sym at

    by : (j : ℕ) (p : Module) (v : Variant) → (j < length variants) ⊎ (j ≡ length variants) → IsCircuitsOf es (get_or list j p) (get_or (variants ++ variant ∷ []) j v)
    by j p v (inl low) = subst (λ (w : Variant). IsCircuitsOf es (get_or list j p) w) (sym (get_or_append_left variants (variant ∷ []) v j low)) (are.each j p v low)
    by j p v (inr same) =
        subst (λ (w : Variant). IsCircuitsOf es (get_or list j p) w) (sym (get_or_push variants variant v j (sym same)))
        (subst (λ (q : Module). IsCircuitsOf es q variant) (sym (default j p (same ∙ long))) is)

pub over-limit : (e : AssemblyFault) (size more : ℕ) → size ≤ more → IsOverLimit size e → IsOverLimit more e
over-limit (GateLimit n) size more h (is, over) = (is, omega (arith, h, over))
over-limit Memory size more h over = tt

pub over-sum : (es : List Entry) (list : List Module) (i compact shallow : ℕ) (part : Module) (e : AssemblyFault) → i < length list → part ≡ get_or list i part → compact ≤ sum_by (module_size es) (take i list) → shallow ≤ sum_by (module_size es) (take i list) →
    IsOverLimit (max compact shallow + module_size es part) e → IsOverLimit (sum_by (module_size es) list) e
over-sum es list i compact shallow part e h at few few' over =
    let next : sum_by (module_size es) (take (i + 1) list) ≡ sum_by (module_size es) (take i list) + module_size es part = sum-more (module_size es) list i part h ∙ ap (λ (p : Module). sum_by (module_size es) (take i list) + module_size es p) (sym at) in
    over-limit e (max compact shallow + module_size es part) (sum_by (module_size es) list) (grind (arith, next, sum-take (module_size es) list (i + 1), few, few')) over

-- ---- all modules

pub zipped : (es : List Entry) (list : List Module) (variants : List Variant) → AreCircuits es list variants → length variants ≡ length list → AllZip (IsCircuitsOf es) list variants
zipped es [] [] are long = tt
zipped es [] (v ∷ variants) are long = absurd (omega arith)
zipped es (part ∷ list) [] are long = absurd (omega arith)
zipped es (part ∷ list) (v ∷ variants) are long =
    (are.each 0 part v (omega arith), zipped es list variants (record { count = omega (arith, long); each = λ i p w h. are.each (suc i) p w (omega (arith, h)) }) (omega (arith, long)))

pub all-valid : (es : List Entry) (list : List Module) (variants : List Variant) → AllZip (IsCircuitsOf es) list variants → AreVariants es list variants
all-valid es [] [] all = tt
all-valid es [] (v ∷ variants) all = absurd all
all-valid es (part ∷ list) [] all = absurd all
all-valid es (part ∷ list) (v ∷ variants) all = (all.0.valid, all-valid es list variants all.1)

pub all-words : (es : List Entry) (list : List Module) (variants : List Variant) → AllZip (IsCircuitsOf es) list variants → AllZip (HasWords es) list variants
all-words es [] [] all = tt
all-words es [] (v ∷ variants) all = absurd all
all-words es (part ∷ list) [] all = absurd all
all-words es (part ∷ list) (v ∷ variants) all = (all.0.words, all-words es list variants all.1)

pub ring-sum : (es : List Entry) (list : List Module) (variants : List Variant) → AllZip (IsCircuitsOf es) list variants → sum_by (λ (v : Variant). ring_size v.ring) variants ≤ sum_by (λ (part : Module). length part.nodes) list
ring-sum es [] [] all = omega arith
ring-sum es [] (v ∷ variants) all = absurd all
ring-sum es (part ∷ list) [] all = absurd all
ring-sum es (part ∷ list) (v ∷ variants) all =
    omega (arith, all.0.sizes.ring, ring-sum es list variants all.1, sum_by-cons (λ (w : Variant). ring_size w.ring) v variants, sum_by-cons (λ (p : Module). length p.nodes) part list)

-- the sums after one module more
pub counts-more : (list : List Module) (es : List Entry) (i count more : ℕ) (f : Variant → ℕ) (variants after : List Variant) (part : Module) (variant : Variant) → i < length list → part ≡ get_or list i part → count ≡ sum_by f variants → count ≤ sum_by (module_size es) (take i list) →
    f variant ≤ module_size es part → more ≡ f variant → after ≡ variants ++ variant ∷ [] → (count + more ≡ sum_by f after) × (count + more ≤ sum_by (module_size es) (take (i + 1) list))
counts-more list es i count more f variants after part variant h at sum size small is made =
    let next : sum_by (module_size es) (take (i + 1) list) ≡ sum_by (module_size es) (take i list) + module_size es part = sum-more (module_size es) list i part h ∙ ap (λ (p : Module). sum_by (module_size es) (take i list) + module_size es p) (sym at) in
    (omega (arith, sum, is, ap (sum_by f) made, sum-push f variants variant), omega (arith, size, small, is, next))

-- a fault that is passed on is within the limit that it was in
pub passed-on : {A : Type 0} (r : Result A AssemblyFault) (e : AssemblyFault) (size : ℕ) → IsErrAnd r (λ told. told ≡ e) → IsOverLimit size e → IfErr r (IsOverLimit size)
passed-on (Ok x) e size told over = absurd told
passed-on (Err f) e size told over = subst (IsOverLimit size) (sym told) over
