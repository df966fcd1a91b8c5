-- Laws of what a bundle's circuits compute: the bits of words, words put at their places, module after module.
use Rattle.std.proofs.Common.{◌≡◌, ℕ, zero, suc, ◌+◌, ◌^◌, ◌<◌, ◌≤◌, Bool, false, List, [], ◌∷◌, ◌++◌, Option, Some, None, get_or, length, map, slice_get, slice_set, take, drop, refl, sym, ap, ◌∙◌, subst, arith, append_assoc, length-append, length-drop}
use Rattle.std.specs.List.{All, Contains}
use Rattle.std.proofs.lemmas.List.{take_more, drop_more, map_more, get_or-map, length-set, length-map, get_or_default, get_or_append_left}
use Rattle.std.proofs.lemmas.Option.{slice_get_within, get_or_from_slice_get}
use Rattle.std.proofs.lemmas.List.Sums.{sum_by-cons}
use Rattle.hy_bits.specs.declared.width.Width.{Width}
use Rattle.hy_bits.specs.Bits.{low_bits, number}
use Rattle.hy_bits.specs.Words.{IsWord, bits}
use Rattle.hy_bits.proofs.BitLaws.{length-low_bits, number-take}
use Rattle.std.proofs.lemmas.Nat.{pow_pos}
use Rattle.hy_bits.specs.declared.op.Op.{Op}
use Rattle.hy_bits.specs.declared.op.Op.TheVariants.{In, Const}
use Rattle.hy_bits.specs.declared.scalar.Scalar.{Scalar}
use Rattle.hy_bits.specs.declared.width.Width.TheVariants.{W1}
use Rattle.hy_bits.specs.Scalar.{scalar_width}
use Rattle.hy_bits.specs.Shape as shape
use Rattle.word_graph.specs.declared.entry.Entry.{Entry}
use Rattle.word_graph.specs.Meaning.{Word, word_at}
use Rattle.word_graph.specs.Term.{NumberFits, width_at}
use Rattle.word_graph.specs.Shape.{IsGraph}
use Rattle.word_graph.proofs.EntryLaws.{AreEntries-at}
use Rattle.module_split.specs.Pieces.{Pieces}
use Rattle.module_split.specs.Modules.{IsModuleOf, IsPiece}
use Rattle.module_split.specs.declared.module.Class.{Class}
use Rattle.module_split.specs.declared.module.Class.TheVariants.{Arithmetic, Boolean}
use Rattle.module_split.proofs.ModuleLaws.{IsPiece-of}
use Rattle.module_split.specs.declared.module.Module.{Module}
use Rattle.ring_net.specs.declared.ring.RingGate.{RingGate}
use Rattle.ring_net.specs.Ring.{AreWordsOf, Ring, inputs_of, values, width_of, words}
use Rattle.ring_net.proofs.RingLaws.{Carries, Carries-inputs, Carries-length, Carries-run, Carries-width}
use Rattle.ring_net.proofs.PartLaws.{nodes-stand}
use Rattle.gate_net.specs.declared.literal.Lit.{Lit}
use Rattle.gate_net.specs.Circuit.{Circuit}
use Rattle.gate_net.specs.Meaning.{as_bits, reading, value, wires}
use Rattle.gate_net.specs.Spelled as spelled
use Rattle.choice_core.specs.declared.sharings.Choice.{Choice}
use Rattle.choice_core.specs.declared.sharings.Choice.TheVariants.{A, Y, C, S}
use Rattle.bundle_core.specs.declared.parts.Variant.{Variant}
use Rattle.bundle_core.specs.declared.parts.Parts.{Parts}
use Rattle.bundle_core.specs.Parts.{AreVariants, FitsClass, IsDraft, IsLeaf, IsVariant, bits_of_widths, variable_widths, widths_at}
use Rattle.bundle_core.specs.Meaning.{after_module, after_modules, bits_of_words, given_word, given_words, put_words, ring_words, words_at, words_of_bits}
use Rattle.bundle_core.specs.Room.{FitsBuffer, FitsNodes, FitsRoom, ring_variables}

-- ---- bits of words

bits-append : (es : List Entry) (ws ks js : List ℕ) → bits_of_words (widths_at es (ks ++ js)) (words_at ws (ks ++ js)) ≡ bits_of_words (widths_at es ks) (words_at ws ks) ++ bits_of_words (widths_at es js) (words_at ws js)
bits-append es ws [] js = refl
bits-append es ws (k ∷ ks) js =
    ap (λ (bs : List Bool). low_bits (bits (width_at es k)) (get_or ws k 0) ++ bs) (bits-append es ws ks js)
    ∙ sym (append_assoc (low_bits (bits (width_at es k)) (get_or ws k 0)) (bits_of_words (widths_at es ks) (words_at ws ks)) (bits_of_words (widths_at es js) (words_at ws js)))

append-nothing : (bs : List Bool) → bs ++ [] ≡ bs
append-nothing [] = refl
append-nothing (b ∷ bs) = ap (λ (cs : List Bool). b ∷ cs) (append-nothing bs)

pub bits-more : (es : List Entry) (ws ks : List ℕ) (i d : ℕ) → i < length ks →
    bits_of_words (widths_at es (take (i + 1) ks)) (words_at ws (take (i + 1) ks)) ≡ bits_of_words (widths_at es (take i ks)) (words_at ws (take i ks)) ++ low_bits (bits (width_at es (get_or ks i d))) (get_or ws (get_or ks i d) 0)
bits-more es ws ks i d h =
    ap (λ (js : List ℕ). bits_of_words (widths_at es js) (words_at ws js)) (take_more ks i d h)
    ∙ bits-append es ws (take i ks) (get_or ks i d ∷ [])
    ∙ ap (λ (bs : List Bool). bits_of_words (widths_at es (take i ks)) (words_at ws (take i ks)) ++ bs) (append-nothing (low_bits (bits (width_at es (get_or ks i d))) (get_or ws (get_or ks i d) 0)))

pub length-bits : (es : List Entry) (ws ks : List ℕ) → length (bits_of_words (widths_at es ks) (words_at ws ks)) ≡ bits_of_widths (widths_at es ks)
length-bits es ws [] = refl
length-bits es ws (k ∷ ks) =
    omega (arith, length-append (low_bits (bits (width_at es k)) (get_or ws k 0)) (bits_of_words (widths_at es ks) (words_at ws ks)), length-low_bits (bits (width_at es k)) (get_or ws k 0), length-bits es ws ks, sum_by-cons bits (width_at es k) (widths_at es ks))

-- ---- outputs of circuits

pub value-reading : (n : Circuit) (bs vars : List Bool) (l : Lit) (r : Bool) → false ∷ vars ≡ wires as_bits bs n → r ≡ reading as_bits (false ∷ vars) l → r ≡ value n bs l
unfolding value
value-reading n bs vars l r same is = is ∙ ap (λ (ws : List Bool). reading as_bits ws l) same

carried-at : (ws : List Word) (k : ℕ) → get_or (map (λ (w : Word). w.value) ws) k 0 ≡ (word_at ws k).value
carried-at [] k = refl
carried-at (w ∷ ws) zero = refl
carried-at (w ∷ ws) (suc k) = carried-at ws k

pub outputs-values : (ws : List Word) (vs outs : List ℕ) → vs ≡ map (λ (w : Word). w.value) ws → words_at vs outs ≡ map (λ (w : Word). w.value) (map (word_at ws) outs)
outputs-values ws vs [] same = refl
outputs-values ws vs (k ∷ outs) same =
    let first : get_or vs k 0 ≡ (word_at ws k).value = ap (λ (us : List ℕ). get_or us k 0) same ∙ carried-at ws k in
    let rest = outputs-values ws vs outs same in
    rw (first, rest) refl

pub words-fit : (es : List Entry) (ws ks : List ℕ) → FitsNodes es ws → AreWordsOf (widths_at es ks) (words_at ws ks)
words-fit es ws [] fit = tt
words-fit es ws (k ∷ ks) fit = (fit.each k, words-fit es ws ks fit)

pub outputs-more : (n : Circuit) (bs vars : List Bool) (lits outs : List Lit) (i : ℕ) (d : Lit) (r : Bool) (items more : List Bool) → lits ≡ outs → i < length lits → false ∷ vars ≡ wires as_bits bs n → r ≡ reading as_bits (false ∷ vars) (get_or lits i d) →
    items ≡ spelled.values n bs (take i outs) → more ≡ items ++ r ∷ [] → more ≡ spelled.values n bs (take (i + 1) outs)
outputs-more n bs vars lits outs i d r items more lent h same is before after =
    let bit : r ≡ value n bs (get_or lits i d) = value-reading n bs vars (get_or lits i d) r same is in
    let first = rw (← lent) at before in
    rw (← lent) (after ∙ rw (first, bit) (sym (map_more (value n bs) lits i d h)))

pub bits-step : (es : List Entry) (ws ks : List ℕ) (i d : ℕ) (e : Entry) (before after : List Bool) → i < length ks → get_or ks i d < length es →
    before ≡ bits_of_words (widths_at es (take i ks)) (words_at ws (take i ks)) →
    after ≡ before ++ low_bits (bits (get_or es (get_or ks i d) e).width) (get_or ws (get_or ks i d) 0) →
    after ≡ bits_of_words (widths_at es (take (i + 1) ks)) (words_at ws (take (i + 1) ks))
bits-step es ws ks i d e before after h k was is =
    let w : width_at es (get_or ks i d) ≡ (get_or es (get_or ks i d) e).width = get_or-map (λ (x : Entry). x.width) es (get_or ks i d) e W1 k in
    is ∙ rw (was, ← w) (sym (bits-more es ws ks i d h))

-- ---- words that fit

-- the words fit the nodes at these places, as far as there are any
abbrev pub AllFit : List Entry → (places xs : List ℕ) → Type 0
AllFit es [] xs = Unit {0}
AllFit es (k ∷ places) [] = Unit {0}
AllFit es (k ∷ places) (x ∷ xs) = IsWord (width_at es k) x × AllFit es places xs

AllFit-none : (es : List Entry) (places : List ℕ) → AllFit es places []
AllFit-none es [] = tt
AllFit-none es (k ∷ places) = tt

set-at : (P : ℕ → ℕ → Type 0) (ws : List ℕ) (k x : ℕ) → ((j : ℕ) → P j (get_or ws j 0)) → P k x → (j : ℕ) → P j (get_or (slice_set ws k x) j 0)
set-at P [] k x all here j = all j
set-at P (w ∷ ws) zero x all here zero = here
set-at P (w ∷ ws) zero x all here (suc j) = all (suc j)
set-at P (w ∷ ws) (suc k) x all here zero = all zero
set-at P (w ∷ ws) (suc k) x all here (suc j) = set-at (λ i v. P (suc i) v) ws k x (λ i. all (suc i)) here j

FitsNodes-set : (es : List Entry) (ws : List ℕ) (k x : ℕ) → FitsNodes es ws → IsWord (width_at es k) x → FitsNodes es (slice_set ws k x)
FitsNodes-set es ws k x fit word = record {
  count = length-set ws k x ∙ fit.count;
  each = set-at (λ j v. IsWord (width_at es j) v) ws k x fit.each word;
}

FitsNodes-put : (es : List Entry) (ws places xs : List ℕ) → FitsNodes es ws → AllFit es places xs → FitsNodes es (put_words ws places xs)
FitsNodes-put es ws [] xs fit all = fit
FitsNodes-put es ws (k ∷ places) [] fit all = fit
FitsNodes-put es ws (k ∷ places) (x ∷ xs) fit all = FitsNodes-put es (slice_set ws k x) places xs (FitsNodes-set es ws k x fit all.0) all.1

net-fits : (es : List Entry) (places : List ℕ) (bs : List Bool) → AllFit es places (words_of_bits (widths_at es places) bs)
net-fits es [] bs = tt
net-fits es (k ∷ places) bs =
    let n = bits (width_at es k) in
    let low : number (take n bs) < 2 ^ n = rw number-take (omega (arith, pow_pos n)) in
    (low, net-fits es places (drop n bs))

ring-fits : (es : List Entry) (widths : List Width) (ws : List Word) (outs places : List ℕ) → map (width_of widths) outs ≡ widths_at es places → All (λ k. IsWord (width_of widths k) (word_at ws k).value) outs →
    AllFit es places (map (λ (w : Word). w.value) (map (word_at ws) outs))
ring-fits es widths ws [] places same all = AllFit-none es places
ring-fits es widths ws (o ∷ outs) [] same all = tt
ring-fits es widths ws (o ∷ outs) (k ∷ places) same all =
    let first : width_of widths o ≡ width_at es k = cc in
    let rest : map (width_of widths) outs ≡ widths_at es places = cc in
    (subst (λ (w : Width). IsWord w (word_at ws o).value) first (all 0 o (omega arith)), ring-fits es widths ws outs places rest (λ i d h. all (suc i) d (omega (arith, h))))

carried-fits : (widths : List Width) (ws : List Word) (k : ℕ) → Carries widths ws → k < length widths → IsWord (width_of widths k) (word_at ws k).value
carried-fits widths ws k c h = subst (λ (w : Width). IsWord w (word_at ws k).value) (Carries-width widths ws k c) (c.fit k _ (omega (arith, h, Carries-length widths ws c)))

ring_words-fit : (es : List Entry) (class : Class) (ins outs : List ℕ) (r : Option Ring) (ws : List ℕ) → FitsClass class (widths_at es ins) (widths_at es outs) r → FitsNodes es ws → AllFit es outs (ring_words r (words_at ws ins))
ring_words-fit es class ins outs None ws fits fit = AllFit-none es outs
ring_words-fit es Boolean ins outs (Some r) ws fits fit = absurd fits
ring_words-fit es Arithmetic ins outs (Some r) ws fits fit =
    let given : AreWordsOf r.ins (words_at ws ins) = subst (λ (ws' : List Width). AreWordsOf ws' (words_at ws ins)) (sym fits.ins) (words-fit es ws ins fit) in
    let carries = Carries-run r.ins (inputs_of r.ins (words_at ws ins)) r.gates fits.ring.gates (Carries-inputs r.ins (words_at ws ins) given) in
    ring-fits es (variable_widths r) (words r (words_at ws ins)) r.outs outs fits.outs
    (λ i d h. carried-fits (variable_widths r) (words r (words_at ws ins)) (get_or r.outs i d) carries (omega (arith, fits.ring.outs i d h, length-append r.ins (map (λ (g : RingGate). g.width) r.gates), length-map r.gates (λ (g : RingGate). g.width))))

pub FitsNodes-after : (es : List Entry) (part : Module) (variant : Variant) (c : Choice) (ws : List ℕ) → IsVariant es part variant → FitsNodes es ws → FitsNodes es (after_module es part variant c ws)
FitsNodes-after es part variant A ws is fit = FitsNodes-put es ws part.outs _ fit (ring_words-fit es part.class part.ins part.outs variant.ring ws is.ring fit)
FitsNodes-after es part variant Y ws is fit = FitsNodes-put es ws part.outs _ fit (net-fits es part.outs _)
FitsNodes-after es part variant C ws is fit = FitsNodes-put es ws part.outs _ fit (net-fits es part.outs _)
FitsNodes-after es part variant S ws is fit = FitsNodes-put es ws part.outs _ fit (net-fits es part.outs _)

-- ---- the words before any module

input-word : (scalars : List Scalar) (inputs : List ℕ) (w : Width) (n : ℕ) → shape.AreWordsOf scalars inputs → n < length scalars → get_or (map scalar_width scalars) n W1 ≡ w → IsWord w (get_or inputs n 0)
input-word [] inputs w n fit h same = absurd (omega arith)
input-word (s ∷ scalars) [] w n fit h same = absurd fit
input-word (s ∷ scalars) (x ∷ inputs) w zero fit h same = subst (λ (v : Width). IsWord v x) same fit.0
input-word (s ∷ scalars) (x ∷ inputs) w (suc n) fit h same = input-word scalars inputs w n fit.1 (omega arith) same

given-word : (scalars : List Scalar) (inputs : List ℕ) (op : Op) (w : Width) (n : ℕ) → shape.AreWordsOf scalars inputs → IsLeaf scalars op w n → NumberFits op w n → IsWord w (given_word inputs op n)
given-word scalars inputs In w n fit leaf num = input-word scalars inputs w n fit leaf.0 leaf.1
given-word scalars inputs Const w n fit leaf num = num
given-word scalars inputs _ w n fit leaf num = pow_pos (bits w)

each-given : (inputs : List ℕ) (es : List Entry) → ((j : ℕ) (e : Entry) → slice_get es j ≡ Some e → IsWord e.width (given_word inputs e.op e.number)) → (k : ℕ) → IsWord (width_at es k) (get_or (given_words es inputs) k 0)
each-given inputs [] h k = pow_pos 1
each-given inputs (e ∷ es) h zero = h 0 e refl
each-given inputs (e ∷ es) h (suc k) = each-given inputs es (λ j f s. h (suc j) f s) k

pub FitsNodes-given : (es : List Entry) (scalars : List Scalar) (inputs : List ℕ) → IsGraph es → shape.AreWordsOf scalars inputs → All (λ (e : Entry). IsLeaf scalars e.op e.width e.number) es → FitsNodes es (given_words es inputs)
FitsNodes-given es scalars inputs graph fit leaves = record {
  count = length-map es (λ (e : Entry). given_word inputs e.op e.number);
  each = each-given inputs es
      (λ j e s. given-word scalars inputs e.op e.width e.number fit (subst (λ (f : Entry). IsLeaf scalars f.op f.width f.number) (get_or_from_slice_get es j e e s) (leaves j e (slice_get_within es j e s))) (AreEntries-at [] es j e graph.entries s).fits.number);
}

-- ---- module after module

pub AreVariants-length : (es : List Entry) (list : List Module) (variants : List Variant) → AreVariants es list variants → length variants ≡ length list
AreVariants-length es [] [] all = refl
AreVariants-length es [] (v ∷ variants) all = absurd all
AreVariants-length es (part ∷ list) [] all = absurd all
AreVariants-length es (part ∷ list) (v ∷ variants) all = ap suc (AreVariants-length es list variants all.1)

pub AreVariants-at : (es : List Entry) (list : List Module) (variants : List Variant) (i : ℕ) (d : Module) (e : Variant) → AreVariants es list variants → i < length list → IsVariant es (get_or list i d) (get_or variants i e)
AreVariants-at es [] variants i d e all h = absurd (omega arith)
AreVariants-at es (part ∷ list) [] i d e all h = absurd all
AreVariants-at es (part ∷ list) (v ∷ variants) zero d e all h = all.0
AreVariants-at es (part ∷ list) (v ∷ variants) (suc i) d e all h = AreVariants-at es list variants i d e all.1 (omega arith)

one-more : (es : List Entry) (list left : List Module) (variants others : List Variant) (choices rest : List Choice) (part : Module) (v : Variant) (c : Choice) (ws : List ℕ) → left ≡ part ∷ list → others ≡ v ∷ variants → rest ≡ c ∷ choices →
    after_modules es left others rest ws ≡ after_modules es list variants choices (after_module es part v c ws)
unfolding after_modules
one-more es list left variants others choices rest part v c ws p q r = rw (p, q, r) refl

pub after_modules-more : (es : List Entry) (list : List Module) (variants : List Variant) (choices : List Choice) (i : ℕ) (d : Module) (e : Variant) (f : Choice) (ws : List ℕ) → i < length list → i < length variants → i < length choices →
    after_modules es (drop i list) (drop i variants) (drop i choices) ws ≡ after_modules es (drop (i + 1) list) (drop (i + 1) variants) (drop (i + 1) choices) (after_module es (get_or list i d) (get_or variants i e) (get_or choices i f) ws)
after_modules-more es list variants choices i d e f ws h k l =
    one-more es (drop (i + 1) list) (drop i list) (drop (i + 1) variants) (drop i variants) (drop (i + 1) choices) (drop i choices) (get_or list i d) (get_or variants i e) (get_or choices i f) ws (drop_more list i d h) (drop_more variants i e k) (drop_more choices i f l)

none-left : (es : List Entry) (left : List Module) (variants : List Variant) (choices : List Choice) (ws : List ℕ) → length left ≡ 0 → after_modules es left variants choices ws ≡ ws
unfolding after_modules
none-left es [] variants choices ws none = refl
none-left es (part ∷ left) variants choices ws none = absurd (omega arith)

pub after_modules-end : (es : List Entry) (list : List Module) (variants : List Variant) (choices : List Choice) (i : ℕ) (ws : List ℕ) → length list ≤ i → after_modules es (drop i list) variants choices ws ≡ ws
after_modules-end es list variants choices i ws h = none-left es (drop i list) variants choices ws (omega (arith, length-drop i list))

-- ---- what holds of a draft

module-of : (b : Parts) → IsDraft b → (i : ℕ) (d : Module) → i < length b.modules.list → IsModuleOf b.graph (get_or b.modules.list i d)
module-of b draft i d h = record {
  results = b.results;
  layers = b.layers;
  some = draft.layers_some;
  few = draft.layers_few;
  stand = draft.results_stand;
  cut = subst (λ (p : Pieces). Contains p.list (get_or b.modules.list i d)) draft.modules (i, h, get_or_default b.modules.list i (get_or b.modules.list i d) d h);
}

pub piece-of : (b : Parts) → IsDraft b → IsGraph b.graph → (i : ℕ) (d : Module) → i < length b.modules.list → IsPiece b.graph (get_or b.modules.list i d).nodes (get_or b.modules.list i d).ins (get_or b.modules.list i d).outs
piece-of b draft graph i d h = IsPiece-of b.graph (get_or b.modules.list i d) graph (module-of b draft i d h)

first-stand : (n : ℕ) (xs ys : List ℕ) → All (λ k. k < n) (xs ++ ys) → All (λ k. k < n) xs
first-stand n xs ys all i d h =
    subst (λ (k : ℕ). k < n) (get_or_append_left xs ys d i h) (all i d (omega (arith, h, length-append xs ys)))

pub ins-stand : (b : Parts) → IsDraft b → IsGraph b.graph → All (λ (part : Module). All (λ k. k < length b.graph) part.ins) b.modules.list
ins-stand b draft graph i d h = first-stand (length b.graph) (get_or b.modules.list i d).ins (get_or b.modules.list i d).nodes (piece-of b draft graph i d h).stand

pub outs-stand : (b : Parts) → IsDraft b → IsGraph b.graph → All (λ (part : Module). All (λ k. k < length b.graph) part.outs) b.modules.list
outs-stand b draft graph i d h j e l =
    let piece = piece-of b draft graph i d h in
    let among = piece.among j e l in
    let node = nodes-stand (get_or b.modules.list i d).ins (get_or b.modules.list i d).nodes (length b.graph) piece.stand among.0 0 among.1 in
    subst (λ (k : ℕ). k < length b.graph) (get_or_default (get_or b.modules.list i d).nodes among.0 0 _ among.1 ∙ among.2) node

-- ---- one turn of the loop over modules

pub variant-at : (es : List Entry) (list : List Module) (variants : List Variant) (i : ℕ) (part : Module) (v : Variant) → AreVariants es list variants → i < length list → part ≡ get_or list i part → v ≡ get_or variants i v → IsVariant es part v
variant-at es list variants i part v all h p q =
    subst (λ (w : Variant). IsVariant es part w) (sym q) (subst (λ (m : Module). IsVariant es m (get_or variants i v)) (sym p) (AreVariants-at es list variants i part v all h))

pub room-at : (variants : List Variant) (i : ℕ) (v : Variant) (bits more values others : ℕ) → All (λ (w : Variant). FitsBuffer bits w) variants → All (λ (w : Variant). ring_variables w.ring ≤ values) variants → i < length variants → v ≡ get_or variants i v → more ≡ bits → others ≡ values → FitsRoom more others v
room-at variants i v bits more values others nets rings h is p q = record {
  nets = subst (λ (n : ℕ). FitsBuffer n v) (sym p) (subst (λ (w : Variant). FitsBuffer bits w) (sym is) (nets i v h));
  ring = subst (λ (n : ℕ). ring_variables v.ring ≤ n) (sym q) (subst (λ (w : Variant). ring_variables w.ring ≤ values) (sym is) (rings i v h));
}

pub whole-more : (es : List Entry) (list : List Module) (variants : List Variant) (choices : List Choice) (i : ℕ) (part : Module) (v : Variant) (c : Choice) (ws ws' whole : List ℕ) → i < length list → i < length variants → i < length choices →
    part ≡ get_or list i part → v ≡ get_or variants i v → ws' ≡ after_module es part v (get_or choices i c) ws →
    after_modules es (drop i list) (drop i variants) (drop i choices) ws ≡ whole → after_modules es (drop (i + 1) list) (drop (i + 1) variants) (drop (i + 1) choices) ws' ≡ whole
whole-more es list variants choices i part v c ws ws' whole h k l p q is before =
    let same : after_module es part v (get_or choices i c) ws ≡ after_module es (get_or list i part) (get_or variants i v) (get_or choices i c) ws =
    ap (λ (m : Module). after_module es m v (get_or choices i c) ws) p ∙ ap (λ (w : Variant). after_module es (get_or list i part) w (get_or choices i c) ws) q in
    ap (after_modules es (drop (i + 1) list) (drop (i + 1) variants) (drop (i + 1) choices)) (is ∙ same) ∙ sym (after_modules-more es list variants choices i part v c ws h k l) ∙ before
