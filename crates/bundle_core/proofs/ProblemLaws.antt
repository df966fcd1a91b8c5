-- The problem of a draft meets what is asked of problems: each module has a choice, fans lie between modules in order, and all costs
-- together are below 2^63.
use Rattle.std.proofs.Common.{◌≡◌, inl, inr, ℕ, zero, suc, ◌+◌, ◌*◌, ◌^◌, ◌<◌, ◌≤◌, Bool, true, false, ◌||◌, cond, eqb, List, [], ◌∷◌, Option, Some, None, filter, get_or, length, slice_get, refl, sym, ap, ◌∙◌, subst, arith, length-append}
use Rattle.std.specs.List.{All, Contains, list_any, range_with_len, sum_by}
use Rattle.std.proofs.Math.Nat.{mul-le-mul_right}
use Rattle.std.proofs.lemmas.List.{get_or_append_left}
use Rattle.std.proofs.lemmas.List.FromFn.{get_or-map-range_with_len, length-map-range_with_len}
use Rattle.std.proofs.lemmas.List.Sums.{sum_by-cons}
use Rattle.word_graph.specs.declared.entry.Entry.{Entry}
use Rattle.word_graph.specs.declared.entry.Node.{Node}
use Rattle.word_graph.specs.Shape.{IsGraph}
use Rattle.module_split.specs.declared.module.Module.{Module}
use Rattle.module_split.specs.Cut.{below, cut_of, module_of, numbers_of, order_of}
use Rattle.module_split.specs.Homes.{groups_of, homes_of}
use Rattle.module_split.specs.Pieces.{Pieces}
use Rattle.module_split.specs.Modules.{ArePartition, AreOrdered, IsInput, IsPiece, is_inner, is_inner_entry, is_inner_op}
use Rattle.hy_bits.specs.declared.op.Op.{Op}
use Rattle.hy_bits.specs.declared.op.Op.TheVariants.{In}
use Rattle.choice_core.specs.Problems.{Ascends}
use Rattle.bundle_core.specs.Costs.{consumers, uses}
use Rattle.std.proofs.lemmas.Option.{get_or_from_slice_get, slice_get_within}
use Rattle.module_split.specs.Steps.{IsDistinct}
use Rattle.module_split.proofs.CutLaws.{length-groups, length-order}
use Rattle.module_split.proofs.ModuleLaws.{ArePartition-of, AreOrdered-of}
use Rattle.bundle_core.specs.declared.parts.Parts.{Parts}
use Rattle.bundle_core.specs.Parts.{IsDraft}
use Rattle.bundle_core.proofs.MeaningLaws.{piece-of}

-- ---- modules of a draft

few-left : (p : ℕ → Bool) (ks : List ℕ) → length (filter p ks) ≤ length ks
few-left p [] = omega arith
few-left p (k ∷ ks) = by (p k) (few-left p ks)
  where
    by : (b : Bool) → length (filter p ks) ≤ length ks → length (cond b (k ∷ filter p ks) (filter p ks)) ≤ suc (length ks)
    by true h = omega (arith, h)
    by false h = omega (arith, h)

few-outs : (es : List Entry) (results : List Node) (layers i : ℕ) (d : Module) → i < length (cut_of es results layers).list → length (get_or (cut_of es results layers).list i d).outs ≤ length (get_or (cut_of es results layers).list i d).nodes
few-outs es results layers i d h =
    let order = order_of layers (groups_of layers es) in
    let f : ℕ → Module = module_of es (homes_of layers es) order (numbers_of order (groups_of layers es)) results in
    let within : i < length order = omega (arith, h, length-map-range_with_len f 0 (length order)) in
    let is : get_or (cut_of es results layers).list i d ≡ f i = get_or-map-range_with_len f 0 (length order) i i d within (omega arith) in
    subst (λ (part : Module). length part.outs ≤ length part.nodes) (sym is) (few-left _ _)

pub outs-few : (b : Parts) → IsDraft b → (i : ℕ) (d : Module) → i < length b.modules.list → length (get_or b.modules.list i d).outs ≤ length (get_or b.modules.list i d).nodes
outs-few b draft i d h =
    subst (λ (p : Pieces). i < length p.list → length (get_or p.list i d).outs ≤ length (get_or p.list i d).nodes) (sym draft.modules) (few-outs b.graph b.results b.layers i d) h

pub outs-limit : (b : Parts) → IsDraft b → IsGraph b.graph → All (λ (part : Module). length part.outs ≤ 2 ^ 21) b.modules.list
outs-limit b draft graph i d h =
    let piece = piece-of b draft graph i d h in
    omega (arith, piece.few, length-append (get_or b.modules.list i d).ins (get_or b.modules.list i d).nodes, outs-few b draft i d h)

pub ins-distinct : (b : Parts) → IsDraft b → IsGraph b.graph → All (λ (part : Module). IsDistinct part.ins) b.modules.list
ins-distinct b draft graph i d h j k l m e =
    let part = get_or b.modules.list i d in
    let all = (piece-of b draft graph i d h).distinct in
    all j k l (omega (arith, m, length-append part.ins part.nodes))
    (get_or_append_left part.ins part.nodes 0 j (omega (arith, l, m)) ∙ e ∙ sym (get_or_append_left part.ins part.nodes 0 k m))

pub modules-few : (b : Parts) → IsDraft b → IsGraph b.graph → length b.modules.list < 2 ^ 32
modules-few b draft graph =
    let order = order_of b.layers (groups_of b.layers b.graph) in
    let f : ℕ → Module = module_of b.graph (homes_of b.layers b.graph) order (numbers_of order (groups_of b.layers b.graph)) b.results in
    let count : length b.modules.list ≡ length order = ap (λ (p : Pieces). length p.list) draft.modules ∙ length-map-range_with_len f 0 (length order) in
    let long = length-order b.layers (groups_of b.layers b.graph) in
    let groups = length-groups b.graph b.layers (homes_of b.layers b.graph) (groups_of b.layers b.graph) refl refl in
    let product : b.layers * length (groups_of b.layers b.graph) ≤ 64 * length (groups_of b.layers b.graph) = mul-le-mul_right (length (groups_of b.layers b.graph)) draft.layers_few in
    omega (arith, count, long, groups, product, graph.limit)

pub partition : (b : Parts) → IsDraft b → IsGraph b.graph → ArePartition b.graph b.modules.list
partition b draft graph = subst (λ (p : Pieces). ArePartition b.graph p.list) (sym draft.modules) (ArePartition-of b.graph b.results b.layers graph draft.layers_some)

pub ordered : (b : Parts) → IsDraft b → IsGraph b.graph → AreOrdered b.graph b.results b.modules.list
ordered b draft graph = subst (λ (p : Pieces). AreOrdered b.graph b.results p.list) (sym draft.modules) (AreOrdered-of b.graph b.results b.layers graph draft.layers_some)

-- ---- all words that modules hand on

sum-ones : (ks : List ℕ) → sum_by (λ k. 1) ks ≡ length ks
sum-ones [] = refl
sum-ones (k ∷ ks) = omega (arith, sum_by-cons (λ j. 1) k ks, sum-ones ks)

pub sum-le : {X : Type 0} (f g : X → ℕ) (xs : List X) → All (λ x. f x ≤ g x) xs → sum_by f xs ≤ sum_by g xs
sum-le f g [] all = omega arith
sum-le f g (x ∷ xs) all = omega (arith, sum_by-cons f x xs, sum_by-cons g x xs, all 0 x (omega arith), sum-le f g xs (λ i d h. all (suc i) d (omega (arith, h))))

pub sum-same : {X : Type 0} (f g : X → ℕ) (xs : List X) → ((x : X) → f x ≡ g x) → sum_by f xs ≡ sum_by g xs
sum-same f g [] same = refl
sum-same f g (x ∷ xs) same = omega (arith, sum_by-cons f x xs, sum_by-cons g x xs, same x, sum-same f g xs same)

below-long : (a n : ℕ) → length (range_with_len a n) ≡ n
below-long a zero = refl
below-long a (suc n) = ap suc (below-long (a + 1) n)

pub outs-total : (b : Parts) → IsDraft b → IsGraph b.graph → sum_by (λ (part : Module). length part.outs) b.modules.list ≤ length b.graph
outs-total b draft graph =
    let nodes : sum_by (λ (part : Module). sum_by (λ k. 1) part.nodes) b.modules.list ≡ sum_by (λ k. 1) (filter (is_inner b.graph) (below (length b.graph))) = (partition b draft graph).sums (λ k. 1) in
    let all : sum_by (λ (part : Module). sum_by (λ k. 1) part.nodes) b.modules.list ≡ sum_by (λ (part : Module). length part.nodes) b.modules.list = sum-same (λ (part : Module). sum_by (λ k. 1) part.nodes) (λ (part : Module). length part.nodes) b.modules.list (λ part. sum-ones part.nodes) in
    omega (arith, nodes, all, sum-ones (filter (is_inner b.graph) (below (length b.graph))), few-left (is_inner b.graph) (below (length b.graph)), below-long 0 (length b.graph), sum-le (λ (part : Module). length part.outs) (λ (part : Module). length part.nodes) b.modules.list (λ i d h. outs-few b draft i d h))

-- ---- a producer stands before those that use its words

any-find : (ks : List ℕ) (k : ℕ) → list_any (λ used. eqb used k) ks ≡ true → Contains ks k
any-find [] k e = absurd (cc)
any-find (j ∷ ks) k e = by (eqb j k) refl e (λ (f : list_any (λ used. eqb used k) ks ≡ true). any-find ks k f)
  where
    by : (t : Bool) → eqb j k ≡ t → (t || list_any (λ used. eqb used k) ks) ≡ true → (list_any (λ used. eqb used k) ks ≡ true → Contains ks k) → Contains (j ∷ ks) k
    by true here f rec = (0, omega arith, grind arith)
    by false here f rec = let found = rec f in (suc found.0, omega (arith, found.1), found.2)

used-by : (o : Option Module) (k : ℕ) → uses o k ≡ true → (part : Module) × (o ≡ Some part) × Contains part.ins k
used-by None k e = absurd (cc)
used-by (Some part) k e = (part, refl, any-find part.ins k e)

no-input : (es : List Entry) (k : ℕ) → is_inner es k ≡ true → IsInput es k → ⊥
no-input es k inner (e, s, op) = clash e.op op (sym (ap is_inner_entry s) ∙ inner)
  where
    clash : (o : Op) → o ≡ In → is_inner_op o ≡ true → ⊥
    clash In p q = absurd (cc)
    clash _ p q = absurd (cc)

out-node : (b : Parts) → IsDraft b → IsGraph b.graph → (i k : ℕ) (part : Module) → slice_get b.modules.list i ≡ Some part → Contains part.outs k → Contains part.nodes k × (is_inner b.graph k ≡ true)
out-node b draft graph i k part s (j, h, e) =
    let within : i < length b.modules.list = slice_get_within b.modules.list i part s in
    let is : get_or b.modules.list i part ≡ part = get_or_from_slice_get b.modules.list i part part s in
    let piece = subst (λ (p : Module). IsPiece b.graph p.nodes p.ins p.outs) is (piece-of b draft graph i part within) in
    let among : Contains part.nodes k = subst (Contains part.nodes) e (piece.among j k h) in
    (among, subst (λ (x : ℕ). is_inner b.graph x ≡ true) among.2 (piece.inner among.0 k among.1))

pub later : (b : Parts) → IsDraft b → IsGraph b.graph → (i k m : ℕ) (part : Module) → slice_get b.modules.list i ≡ Some part → Contains part.outs k → uses (slice_get b.modules.list m) k ≡ true → i < m
later b draft graph i k m part s c u =
    let user = used-by (slice_get b.modules.list m) k u in
    let own = out-node b draft graph i k part s c in
    elim ((ordered b draft graph).earlier m k user.0 user.1 user.2) [
      | inl input ↦ absurd (no-input b.graph k own.1 input)
      | inr (j, p, less, at, out) ↦
          let same : j ≡ i = (partition b draft graph).once k j i p part at s (out-node b draft graph j k p at out).0 own.0 in
          omega (arith, less, same)
    ]

-- ---- consumers ascend

up : (p : ℕ → Bool) (n a low end : ℕ) → ((m : ℕ) → a ≤ m → p m ≡ true → low < m) → end ≡ a + n → Ascends low (filter p (range_with_len a n)) end
unfolding Ascends
up p zero a low end above e = tt
up p (suc n) a low end above e = by (p a) refl
    (up p n (a + 1) a end (λ m h q. omega (arith, h)) (omega (arith, e)))
    (up p n (a + 1) low end (λ m h q. above m (omega (arith, h)) q) (omega (arith, e)))
  where
    by : (t : Bool) → p a ≡ t → Ascends a (filter p (range_with_len (a + 1) n)) end → Ascends low (filter p (range_with_len (a + 1) n)) end → Ascends low (cond t (a ∷ filter p (range_with_len (a + 1) n)) (filter p (range_with_len (a + 1) n))) end
    by true q kept left = (above a (omega arith) q, omega (arith, e), kept)
    by false q kept left = left

pub consumers-ascend : (b : Parts) → IsDraft b → IsGraph b.graph → (i k : ℕ) (part : Module) → slice_get b.modules.list i ≡ Some part → Contains part.outs k → Ascends i (consumers b.modules.list k) (length b.modules.list)
consumers-ascend b draft graph i k part s c =
    up (λ m. uses (slice_get b.modules.list m) k) (length b.modules.list) 0 i (length b.modules.list) (λ m h u. later b draft graph i k m part s c u) (omega arith)
