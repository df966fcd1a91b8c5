-- Where the circuits of every module compute its words, the bundle means its graph.
use Rattle.std.proofs.Common.{◌≡◌, ◌⊎◌, inl, inr, ℕ, zero, suc, ◌+◌, ◌<◌, Bool, true, false, List, [], ◌∷◌, Option, Some, None, IsSome, get_or, length, map, option_map, slice_get, refl, sym, ap, ◌∙◌, subst, arith}
use Rattle.std.specs.List.{All, AllZip, Contains}
use Rattle.std.proofs.lemmas.List.{length-map}
use Rattle.std.proofs.lemmas.Option.{get_or_from_slice_get, slice_get_within}
use Rattle.hy_bits.specs.declared.op.Op.{Op}
use Rattle.hy_bits.specs.declared.op.Op.TheVariants.{In, Const}
use Rattle.hy_bits.specs.declared.scalar.Scalar.{Scalar}
use Rattle.hy_bits.specs.declared.width.Width.{Width}
use Rattle.hy_bits.specs.declared.width.Width.TheVariants.{W1}
use Rattle.hy_bits.specs.Op.{op_value}
use Rattle.hy_bits.specs.Scalar.{scalar_width}
use Rattle.hy_bits.specs.Shape.{FitPorts, leaves_of_ports}
use Rattle.hy_bits.specs.Shape as shape
use Rattle.hy_bits.specs.Words.{IsWord}
use Rattle.word_graph.specs.declared.entry.Entry.{Entry}
use Rattle.word_graph.specs.declared.entry.Node.{Node}
use Rattle.word_graph.specs.Meaning.{HasInput, InputsFit, first_operand, value, words}
use Rattle.word_graph.specs.Shape.{IsGraph}
use Rattle.word_graph.proofs.RunLaws.{value-entry}
use Rattle.module_split.specs.declared.module.Module.{Module}
use Rattle.module_split.specs.Modules.{AreOrdered, is_inner, is_inner_entry, is_inner_op}
use Rattle.module_split.specs.Pieces.{Pieces}
use Rattle.module_split.proofs.ModuleLaws.{AreOrdered-of}
use Rattle.ring_net.specs.Ring.{Ring}
use Rattle.choice_core.specs.declared.problems.Table.{Table}
use Rattle.choice_core.specs.declared.sharings.Choice.{Choice}
use Rattle.choice_core.specs.declared.sharings.Choice.TheVariants.{A, Y, C, S}
use Rattle.choice_core.specs.Problems.{Fits, IsAssignment, own_of}
use Rattle.bundle_core.specs.declared.parts.Parts.{Parts}
use Rattle.bundle_core.specs.declared.parts.Variant.{Variant}
use Rattle.bundle_core.specs.Costs.{own_costs, problem_of, ring_cost}
use Rattle.bundle_core.specs.Meaning as bundle
use Rattle.bundle_core.specs.Meaning.{after_module, after_modules, chosen_words, given_word, given_words, put_words, ring_words, words_at}
use Rattle.bundle_core.specs.Means.{Means}
use Rattle.bundle_core.specs.Parts.{IsDraft, IsLeaf, widths_at}
use Rattle.bundle_core.proofs.MeaningLaws.{outs-stand}
use Rattle.bundle_laws.specs.Circuits.{Gives, HasWords}
use Rattle.bundle_laws.proofs.WordLaws.{length-put, put-here, put-keeps, words_at-known}

-- ---- inputs that fit the ports fit the graph

leaf-word : (scalars : List Scalar) (inputs : List ℕ) (w : Width) (n : ℕ) → shape.AreWordsOf scalars inputs → n < length scalars → get_or (map scalar_width scalars) n W1 ≡ w → (n < length inputs) × IsWord w (get_or inputs n 0)
leaf-word [] inputs w n fit h same = absurd (omega arith)
leaf-word (s ∷ scalars) [] w n fit h same = absurd fit
leaf-word (s ∷ scalars) (x ∷ inputs) w zero fit h same = (omega arith, subst (λ (v : Width). IsWord v x) same fit.0)
leaf-word (s ∷ scalars) (x ∷ inputs) w (suc n) fit h same = let rest = leaf-word scalars inputs w n fit.1 (omega arith) same in (omega (arith, rest.0), rest.1)

leaf-input : (scalars : List Scalar) (inputs : List ℕ) (op : Op) (w : Width) (n : ℕ) → shape.AreWordsOf scalars inputs → IsLeaf scalars op w n → HasInput inputs op w n
leaf-input scalars inputs In w n fit leaf = leaf-word scalars inputs w n fit leaf.0 leaf.1
leaf-input scalars inputs _ w n fit leaf = tt

pub InputsFit-of : (b : Parts) (inputs : List ℕ) → IsDraft b → FitPorts b.ports inputs → InputsFit b.graph inputs
InputsFit-of b inputs draft fit k e h =
    let x : Entry = get_or b.graph k e in
    leaf-input (leaves_of_ports b.ports) inputs x.op x.width x.number fit (draft.inputs k e h)

-- ---- a chosen circuit computes the words of its module

has-ring : (t : Table) (o : Option Ring) → IsSome (option_map (ring_cost t) o) → (r : Ring) × (o ≡ Some r)
has-ring t None some = absurd (cc)
has-ring t (Some r) some = (r, refl)

chosen-gives : (t : Table) (es : List Entry) (part : Module) (v : Variant) (c : Choice) → HasWords es part v → IsSome (own_of (own_costs t v) c) →
    Gives es part (chosen_words v c (widths_at es part.ins) (widths_at es part.outs))
chosen-gives t es part v A has some inputs fit =
    let r = has-ring t v.ring some in
    ap (λ (o : Option Ring). ring_words o (map (value es inputs) part.ins)) r.1 ∙ has.ring r.0 r.1 inputs fit
chosen-gives t es part v Y has some inputs fit = has.compact inputs fit
chosen-gives t es part v C has some inputs fit = has.compact inputs fit
chosen-gives t es part v S has some inputs fit = has.shallow inputs fit

-- ---- module after module

module _ (b : Parts) (draft : IsDraft b) (graph : IsGraph b.graph) (inputs : List ℕ) (fit : InputsFit b.graph inputs) where
  abbrev v : ℕ → ℕ
  v = value b.graph inputs

  -- an input, a constant, or an out of one of the first m modules
  abbrev Known : ℕ → ℕ → Type 0
  Known m k = ((is_inner b.graph k ≡ false) × (k < length b.graph)) ⊎ ((j : ℕ) × (p : Module) × (j < m) × (slice_get b.modules.list j ≡ Some p) × Contains p.outs k)

  -- the words of what is known are those of the graph
  abbrev Holds : ℕ → List ℕ → Type 0
  Holds m ws = (k : ℕ) → Known m k → get_or ws k 0 ≡ v k

  ordered : AreOrdered b.graph b.results b.modules.list
  ordered = subst (λ (p : Pieces). AreOrdered b.graph b.results p.list) (sym draft.modules) (AreOrdered-of b.graph b.results b.layers graph draft.layers_some)

  outer-word : (op : Op) (w from : Width) (n a second third : ℕ) → is_inner_op op ≡ false → given_word inputs op n ≡ op_value op w from (first_operand op (get_or inputs n 0) n a) second third
  outer-word In w from n a second third out = refl
  outer-word Const w from n a second third out = refl
  outer-word _ w from n a second third out = absurd (cc)

  map-at : (f : Entry → ℕ) (es : List Entry) (k : ℕ) (e : Entry) → slice_get es k ≡ Some e → get_or (map f es) k 0 ≡ f e
  map-at f [] k e s = absurd (cc)
  map-at f (x ∷ es) zero e s = let same : x ≡ e = cc in ap f same
  map-at f (x ∷ es) (suc k) e s = map-at f es k e s

  given-at : (k : ℕ) (e : Entry) → slice_get b.graph k ≡ Some e → is_inner b.graph k ≡ false → get_or (given_words b.graph inputs) k 0 ≡ v k
  given-at k e s out =
      let outer : is_inner_op e.op ≡ false = ap is_inner_entry (sym s) ∙ out in
      map-at (λ (x : Entry). given_word inputs x.op x.number) b.graph k e s
      ∙ outer-word e.op e.width _ e.number _ _ _ outer
      ∙ sym (value-entry b.graph inputs graph k e s)

  given-holds : Holds 0 (given_words b.graph inputs)
  given-holds k (inl (out, low)) = by (slice_get b.graph k) refl
    where
      by : (o : Option Entry) → slice_get b.graph k ≡ o → get_or (given_words b.graph inputs) k 0 ≡ v k
      by (Some e) s = given-at k e s out
      by None s = absurd (none-low b.graph k s low)
        where
          none-low : (es : List Entry) (i : ℕ) → slice_get es i ≡ None → i < length es → ⊥
          none-low [] i none h = omega arith
          none-low (x ∷ es) zero none h = cc
          none-low (x ∷ es) (suc i) none h = none-low es i none (omega arith)
  given-holds k (inr (j, p, less, s, c)) = absurd (omega arith)

  -- what a module takes is known before it
  ins-known : (m : ℕ) (part : Module) (ws : List ℕ) → slice_get b.modules.list m ≡ Some part → Holds m ws → (k : ℕ) → Contains part.ins k → get_or ws k 0 ≡ v k
  ins-known m part ws s holds k c = elim (ordered.earlier m k part s c) [
    | inl (e, se, is) ↦ holds k (inl (ap is_inner_entry se ∙ ap is_inner_op is, slice_get_within b.graph k e se))
    | inr earlier ↦ holds k (inr earlier)
  ]

  out-low : (m : ℕ) (part : Module) (k : ℕ) → slice_get b.modules.list m ≡ Some part → Contains part.outs k → k < length b.graph
  out-low m part k s (i, h, e) =
      let within : m < length b.modules.list = slice_get_within b.modules.list m part s in
      let at : get_or b.modules.list m part ≡ part = get_or_from_slice_get b.modules.list m part part s in
      let all : All (λ k. k < length b.graph) part.outs = subst (λ (p : Module). All (λ k. k < length b.graph) p.outs) at (outs-stand b draft graph m part within) in
      subst (λ (x : ℕ). x < length b.graph) e (all i k h)

  -- one module more
  after-holds : (t : Table) (m : ℕ) (part : Module) (variant : Variant) (c : Choice) (ws : List ℕ) → slice_get b.modules.list m ≡ Some part → HasWords b.graph part variant → IsSome (own_of (own_costs t variant) c) →
      length ws ≡ length b.graph → Holds m ws → Holds (m + 1) (after_module b.graph part variant c ws)
  after-holds t m part variant c ws s has some long holds k known =
      let taken : words_at ws part.ins ≡ map v part.ins = words_at-known v ws part.ins (ins-known m part ws s holds) in
      let made : chosen_words variant c (widths_at b.graph part.ins) (widths_at b.graph part.outs) (words_at ws part.ins) ≡ map v part.outs =
      ap (chosen_words variant c (widths_at b.graph part.ins) (widths_at b.graph part.outs)) taken ∙ chosen-gives t b.graph part variant c has some inputs fit in
      ap (λ (xs : List ℕ). get_or (put_words ws part.outs xs) k 0) made
      ∙ elim known [
        | inl given ↦ put-keeps v ws part.outs k (holds k (inl given))
        | inr (j, p, less, at, out) ↦ elim (here_or_before j m less) [
          | inl before ↦ put-keeps v ws part.outs k (holds k (inr (j, p, before, at, out)))
          | inr here ↦
              let same : p ≡ part = part_same j p here at in
              let c : Contains part.outs k = subst (λ (q : Module). Contains q.outs k) same out in
              put-here v ws part.outs k c (omega (arith, long, out-low m part k s c))
        ]
      ]
    where
      here_or_before : (i n : ℕ) → i < n + 1 → (i < n) ⊎ (i ≡ n)
      here_or_before i n h = grind arith

      some_same : (o : Option Module) (x y : Module) → o ≡ Some x → o ≡ Some y → x ≡ y
      some_same o x y p q = cc

      part_same : (j : ℕ) (p : Module) → j ≡ m → slice_get b.modules.list j ≡ Some p → p ≡ part
      part_same j p here at = some_same (slice_get b.modules.list m) p part (ap (slice_get b.modules.list) (sym here) ∙ at) s

  -- all modules from the m-th on
  all-hold : (t : Table) (list : List Module) (variants : List Variant) (choices : List Choice) (m : ℕ) (ws : List ℕ) → ((i : ℕ) (p : Module) → slice_get list i ≡ Some p → slice_get b.modules.list (m + i) ≡ Some p) →
      AllZip (HasWords b.graph) list variants → Fits (map (own_costs t) variants) choices → length choices ≡ length variants → length ws ≡ length b.graph → Holds m ws → Holds (m + length list) (after_modules b.graph list variants choices ws)
  unfolding after_modules Fits
  all-hold t [] variants choices m ws tail has fits long size holds k known = holds k (subst (λ (n : ℕ). Known n k) (omega arith) known)
  all-hold t (part ∷ list) [] choices m ws tail has fits long size holds k known = absurd has
  all-hold t (part ∷ list) (variant ∷ variants) [] m ws tail has fits long size holds k known = absurd (omega arith)
  all-hold t (part ∷ list) (variant ∷ variants) (c ∷ choices) m ws tail has fits long size holds k known =
      let s : slice_get b.modules.list m ≡ Some part = ap (slice_get b.modules.list) (omega arith) ∙ tail 0 part refl in
      let next : List ℕ = after_module b.graph part variant c ws in
      let later : Holds (m + 1) next = after-holds t m part variant c ws s has.0 fits.0 size holds in
      all-hold t list variants choices (m + 1) next
      (λ i p at. ap (slice_get b.modules.list) (omega arith) ∙ tail (suc i) p at)
      has.1 fits.1 (omega (arith, long)) (length-put ws part.outs _ ∙ size) later k (subst (λ (n : ℕ). Known n k) (omega arith) known)

  module _ (has : AllZip (HasWords b.graph) b.modules.list b.variants) (choices : List Choice) (assigned : IsAssignment (problem_of b) choices) where
    final : Holds (length b.modules.list) (bundle.all_words b choices inputs)
    final =
        let long : length choices ≡ length b.variants = assigned.whole ∙ length-map b.variants (own_costs b.table) in
        let all = all-hold b.table b.modules.list b.variants choices 0 (given_words b.graph inputs) (λ i p at. ap (slice_get b.modules.list) (omega arith) ∙ at) has assigned.fits long (length-map b.graph (λ (e : Entry). given_word inputs e.op e.number)) given-holds in
        λ k known. all k (subst (λ (n : ℕ). Known n k) (omega arith) known)

    result-known : (node : Node) → Contains b.results node → node.index < length b.graph → Known (length b.modules.list) node.index
    result-known node c low = by (is_inner b.graph node.index) refl
      where
        by : (inner : Bool) → is_inner b.graph node.index ≡ inner → Known (length b.modules.list) node.index
        by false out = inl (out, low)
        by true inner =
            let last = ordered.last node c inner in
            inr (last.0, last.1, slice_get_within b.modules.list last.0 last.1 last.2, last.2, last.3)

    each-result : (nodes : List Node) → ((node : Node) → Contains nodes node → Contains b.results node) → map (λ (node : Node). get_or (bundle.all_words b choices inputs) node.index 0) nodes ≡ map (λ (node : Node). v node.index) nodes
    each-result [] among = refl
    each-result (node ∷ nodes) among =
        let c : Contains b.results node = among node (0, omega arith, refl) in
        let low : node.index < length b.graph = subst (λ (x : Node). x.index < length b.graph) c.2 (draft.results_stand c.0 node c.1) in
        let first : get_or (bundle.all_words b choices inputs) node.index 0 ≡ v node.index = final node.index (result-known node c low) in
        let rest = each-result nodes (λ x d. among x (suc d.0, omega (arith, d.1), d.2)) in
        rw (first, rest) refl

    pub value-of : bundle.value b choices inputs ≡ map (λ (node : Node). value b.graph inputs node.index) b.results
    value-of = each-result b.results (λ node c. c)

-- ---- the law

-- where the circuits of all modules compute their words, the parts compute what the graph does
pub means-of : (b : Parts) → IsDraft b → IsGraph b.graph → AllZip (HasWords b.graph) b.modules.list b.variants → Means b b.ports b.result (λ inputs. map (λ (node : Node). value b.graph inputs node.index) b.results)
means-of b draft graph has = record {
  ports = refl;
  result = refl;
  circuits = λ choices assigned inputs fit. value-of b draft graph inputs (InputsFit-of b inputs draft fit) has choices assigned;
  graph = λ inputs fit. refl;
}
