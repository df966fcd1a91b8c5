-- What holds of an assembled bundle.
use Rattle.std.proofs.Common.{◌≡◌, ℕ, zero, suc, ◌<◌, ◌≤◌, List, [], ◌∷◌, length, sym, ap, ◌∙◌, subst, arith}
use Rattle.std.specs.List.{AllZip}
use Rattle.std.proofs.lemmas.List.{length-map}
use Rattle.word_graph.specs.declared.entry.Entry.{Entry}
use Rattle.module_split.specs.declared.module.Module.{Module}
use Rattle.module_split.specs.Cut.{cut_of}
use Rattle.module_split.specs.Pieces.{Pieces}
use Rattle.bundle_core.specs.declared.parts.Parts.{Parts}
use Rattle.bundle_core.specs.declared.parts.Variant.{Variant}
use Rattle.bundle_core.specs.Costs.{own_costs, problem_of}
use Rattle.bundle_core.specs.Means.{IsMadeFor, Made, Means}
use Rattle.bundle_core.specs.Parts.{IsDraft}
use Rattle.bundle_core.specs.Whole.{Whole}
use Rattle.bundle_core.proofs.MeaningLaws.{AreVariants-length}
use Rattle.bundle_laws.specs.Circuits.{IsCircuitsOf}
use Rattle.bundle_laws.proofs.Meaning.{means-of}
use Rattle.bundle_laws.proofs.Sizes.{one-layer}
use Rattle.assembly.specs.declared.outlines.Outline.{Outline}
use Rattle.assembly.specs.declared.choosing.Search.{Search}
use Rattle.assembly.specs.Assembled.{IsAssembled}
use Rattle.assembly.specs.Choosing.{HasLeastChoices, IsChosen, IsGivenUp}
use Rattle.assembly.specs.Layers.{IsBeyondSearch, few_modules}
use Rattle.assembly.specs.Layers.HasLayers.{as_asked, fewer}
use Rattle.assembly.specs.Outlines.{IsDraftOf, IsOutline, graph_outcome, outline_of}
use Rattle.module_circuits.proofs.CircuitLaws.{all-words}

all-made : (es : List Entry) (list : List Module) (variants : List Variant) → AllZip (IsCircuitsOf es) list variants → AllZip (IsMadeFor es) list variants
all-made es [] [] all = tt
all-made es [] (v ∷ variants) all = absurd all
all-made es (part ∷ list) [] all = absurd all
all-made es (part ∷ list) (v ∷ variants) all = (all.0.made, all-made es list variants all.1)

outline-here : (o : Outline) (asked : ℕ) (d : Parts) → IsOutline o → IsDraftOf o asked d → IsOutline (outline_of d)
outline-here o asked d outline is = subst IsOutline (sym is.outline) outline

made-of : (o : Outline) (asked : ℕ) (d : Parts) → IsOutline o → IsDraftOf o asked d → Made d
made-of o asked d outline is =
    let here = outline-here o asked d outline is in
    record { reached = here.reached; circuits = all-made d.graph d.modules.list d.variants is.circuits }

means-outline : (o : Outline) (asked : ℕ) (d : Parts) → IsDraftOf o asked d → Means d o.ports o.result (graph_outcome o)
means-outline o asked d is =
    subst (λ (p : Outline). Means d p.ports p.result (graph_outcome p)) is.outline (means-of d is.valid is.graph (all-words d.graph d.modules.list d.variants is.circuits))

-- there are as many rows of costs as modules
rows-modules : (d : Parts) → IsDraft d → length (problem_of d).own ≡ length (cut_of d.graph d.results d.layers).list
rows-modules d draft = length-map d.variants (own_costs d.table) ∙ AreVariants-length d.graph d.modules.list d.variants draft.variants ∙ ap (λ (p : Pieces). length p.list) draft.modules

-- a draft of one layer isn't given up
pub more-than-one : (o : Outline) (asked : ℕ) (d : Parts) → IsDraftOf o asked d → IsGivenUp d → 1 < asked
more-than-one o asked d is up =
    let rows : length (problem_of d).own ≡ length (cut_of d.graph d.results asked).list = subst (λ (k : ℕ). length (problem_of d).own ≡ length (cut_of d.graph d.results k).list) is.layers (rows-modules d is.valid) in
    by asked (subst (λ (k : ℕ). 0 < k) is.layers is.valid.layers_some) (omega (arith, rows, up.many))
  where
    by : (k : ℕ) → 0 < k → few_modules < length (cut_of d.graph d.results k).list → 1 < k
    by zero some many = absurd (omega (arith, some))
    by (suc zero) some many = absurd (omega (arith, many, one-layer d.graph d.results))
    by (suc (suc k)) some many = omega arith

-- cuts of equal graphs for equal results
moved : (o p : Outline) (k : ℕ) (P : ℕ → Type 0) → o ≡ p → P (length (cut_of o.graph o.results k).list) → P (length (cut_of p.graph p.results k).list)
moved o p k P same h = subst (λ (q : Outline). P (length (cut_of q.graph q.results k).list)) same h

-- few modules are never given up
pub not-given-up : (old d : Parts) (layers : ℕ) → IsDraftOf (outline_of old) layers d → length (cut_of old.graph old.results layers).list ≤ few_modules → IsGivenUp d → ⊥
not-given-up old d layers is few up =
    let here : length (cut_of d.graph d.results layers).list ≤ few_modules = moved (outline_of old) (outline_of d) layers (λ n. n ≤ few_modules) (sym is.outline) few in
    let same : length (cut_of d.graph d.results d.layers).list ≤ few_modules = subst (λ (k : ℕ). length (cut_of d.graph d.results k).list ≤ few_modules) (sym is.layers) here in
    omega (arith, rows-modules d is.valid, same, up.many)

-- a bundle with the layers that were asked for
pub assembled : (o : Outline) (asked : ℕ) (d : Parts) (b : Whole) → IsOutline o → IsDraftOf o asked d → b.parts ≡ d → HasLeastChoices b → IsAssembled o asked b
assembled o asked d b outline is same least = record {
  outline = ap outline_of same ∙ is.outline;
  means = subst (λ (p : Parts). Means p o.ports o.result (graph_outcome o)) (sym same) (means-outline o asked d is);
  made = subst Made (sym same) (made-of o asked d outline is);
  assignment = least;
  layers = as_asked (ap (λ (p : Parts). p.layers) same ∙ is.layers);
}

beyond-search : (old : Parts) (asked : ℕ) (b : Parts) → IsOutline (outline_of old) → IsDraftOf (outline_of old) asked old → IsGivenUp old → outline_of b ≡ outline_of old → IsBeyondSearch asked b
beyond-search old asked b outline is up same = record {
  rival = old;
  is_rival = record {
    draft = is.valid;
    graph = ap (λ (p : Outline). p.graph) (sym same);
    results = ap (λ (p : Outline). p.results) (sym same);
    table = ap (λ (p : Outline). p.table) (sym same);
    layers = is.layers;
    made = made-of (outline_of old) asked old outline is;
    words = all-words old.graph old.modules.list old.variants is.circuits;
  };
  choices = up.choices;
  least = up.least;
  beyond = up.beyond;
}

-- a bundle with fewer layers, where a draft with those that were asked for was given up
pub assembled-fewer : (old d : Parts) (asked layers : ℕ) (b : Whole) → IsOutline (outline_of old) → IsDraftOf (outline_of old) asked old → IsGivenUp old → IsDraftOf (outline_of old) layers d → b.parts ≡ d → HasLeastChoices b → layers < asked →
    length (cut_of old.graph old.results layers).list ≤ few_modules → ((k : ℕ) → layers < k → k < asked → few_modules < length (cut_of old.graph old.results k).list) → IsAssembled (outline_of old) asked b
assembled-fewer old d asked layers b outline is up fewer_is same least less few greatest =
    let whole : IsAssembled (outline_of old) layers b = assembled (outline_of old) layers d b outline fewer_is same least in
    let at : b.parts.layers ≡ layers = ap (λ (p : Parts). p.layers) same ∙ fewer_is.layers in
    record {
      outline = whole.outline;
      means = whole.means;
      made = whole.made;
      assignment = least;
      layers = fewer
          (beyond-search old asked b.parts outline is up whole.outline)
          (omega (arith, at, less))
          (subst (λ (k : ℕ). length (cut_of b.parts.graph b.parts.results k).list ≤ few_modules) (sym at) (moved (outline_of old) (outline_of b.parts) layers (λ n. n ≤ few_modules) (sym whole.outline) few))
          (λ k h l. moved (outline_of old) (outline_of b.parts) k (λ n. few_modules < n) (sym whole.outline) (greatest k (omega (arith, at, h)) l));
    }

-- ---- the search's answer

pub found-parts : (d : Parts) (s : Search) (b : Whole) → s ≡ Search.Found b → IsChosen d s → (b.parts ≡ d) × HasLeastChoices b
found-parts d s b is chosen = subst (IsChosen d) is chosen

pub given-parts : (d e : Parts) (s : Search) → s ≡ Search.GivenUp e → IsChosen d s → (e ≡ d) × IsGivenUp d
given-parts d e s is chosen = subst (IsChosen d) is chosen
