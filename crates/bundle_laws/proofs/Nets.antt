-- Circuits of gates that compute bits of nodes compute the words of their module.
use Rattle.std.proofs.Common.{◌≡◌, ℕ, zero, suc, ◌+◌, ◌%◌, ◌^◌, ◌<◌, ◌≤◌, Bool, List, [], ◌∷◌, ◌++◌, get_or, length, map, take, drop, replicate, refl, sym, ap, ◌∙◌, subst, arith, length-append}
use Rattle.std.specs.List.{Contains, flat_map, sum_by}
use Rattle.std.proofs.Math.Seq.{take-append_seam, drop-append_seam}
use Rattle.std.proofs.lemmas.List.{get_or-replicate, length-map, length-replicate}
use Rattle.std.proofs.lemmas.List.Sums.{sum_by-cons}
use Rattle.std.proofs.lemmas.Nat.{pow_pos}
use Rattle.hy_bits.specs.declared.op.Op.{Op}
use Rattle.hy_bits.specs.declared.op.Op.TheVariants.{In}
use Rattle.hy_bits.specs.declared.width.Width.{Width}
use Rattle.hy_bits.specs.Bits.{low_bits, number}
use Rattle.hy_bits.specs.Words.{IsWord, bits}
use Rattle.hy_bits.proofs.BitLaws.{length-low_bits, number-low_bits}
use Rattle.word_graph.specs.declared.entry.Entry.{Entry}
use Rattle.word_graph.specs.Meaning.{HasInput, InputsFit, value}
use Rattle.word_graph.specs.Shape.{IsGraph}
use Rattle.word_graph.specs.Term.{width_at}
use Rattle.word_graph.proofs.RunLaws.{value-word}
use Rattle.module_split.specs.declared.module.Module.{Module}
use Rattle.module_split.specs.Modules.{IsPiece}
use Rattle.ring_net.proofs.PartLaws.{nodes-stand}
use Rattle.gate_net.specs.Circuit.{Circuit}
use Rattle.gate_net.specs.Shape.{IsCircuit, gate_limit}
use Rattle.gate_net.specs.Spelled.{values}
use Rattle.bundle_core.specs.Meaning.{bits_of_words, net_words, words_of_bits}
use Rattle.bundle_core.specs.Parts.{FitsBits, bits_of_widths, widths_at}
use Rattle.bundle_laws.specs.Circuits.{Gives}

-- the bits of the words of some nodes
abbrev pub node_bits : List Entry → List ℕ → ℕ → List Bool
node_bits es inputs k = low_bits (bits (width_at es k)) (value es inputs k)

-- over the bits of the first nodes, the circuit's outputs are the bits of the others
abbrev pub ComputesBits : List Entry → (ins outs : List ℕ) → Circuit → Type 0
ComputesBits es ins outs n = (inputs : List ℕ) → InputsFit es inputs → values n (flat_map (node_bits es inputs) ins) n.outs ≡ flat_map (node_bits es inputs) outs

-- ---- words and bits

bits-of : (es : List Entry) (inputs ks : List ℕ) → bits_of_words (widths_at es ks) (map (value es inputs) ks) ≡ flat_map (node_bits es inputs) ks
bits-of es inputs [] = refl
bits-of es inputs (k ∷ ks) = ap (λ (bs : List Bool). node_bits es inputs k ++ bs) (bits-of es inputs ks)

small : (n x : ℕ) → x < n → x % n ≡ x
small n x h = grind arith

first-word : (n x : ℕ) (bs : List Bool) → x < 2 ^ n → number (take n (low_bits n x ++ bs)) ≡ x
first-word n x bs h =
    let long : length (low_bits n x) ≡ n = length-low_bits n x in
    ap number (subst (λ (m : ℕ). take m (low_bits n x ++ bs) ≡ low_bits n x) long (take-append_seam (low_bits n x) bs))
    ∙ number-low_bits n x ∙ small (2 ^ n) x h

rest-bits : (n x : ℕ) (bs : List Bool) → drop n (low_bits n x ++ bs) ≡ bs
rest-bits n x bs = subst (λ (m : ℕ). drop m (low_bits n x ++ bs) ≡ bs) (length-low_bits n x) (drop-append_seam (low_bits n x) bs)

words-of : (es : List Entry) (inputs ks : List ℕ) → IsGraph es → InputsFit es inputs → ((k : ℕ) → Contains ks k → k < length es) → words_of_bits (widths_at es ks) (flat_map (node_bits es inputs) ks) ≡ map (value es inputs) ks
words-of es inputs [] graph fit stand = refl
words-of es inputs (k ∷ ks) graph fit stand =
    let n : ℕ = bits (width_at es k) in
    let word : value es inputs k < 2 ^ n = value-word es inputs graph fit k (stand k (0, omega arith, refl)) in
    let first = first-word n (value es inputs k) (flat_map (node_bits es inputs) ks) word in
    let rest = ap (words_of_bits (widths_at es ks)) (rest-bits n (value es inputs k) (flat_map (node_bits es inputs) ks)) ∙ words-of es inputs ks graph fit (λ j c. stand j (suc c.0, omega (arith, c.1), c.2)) in
    rw (first, rest) refl

pub outs-low : (es : List Entry) (nodes ins outs : List ℕ) → IsPiece es nodes ins outs → (k : ℕ) → Contains outs k → k < length es
outs-low es nodes ins outs piece k (i, h, e) =
    let among = piece.among i k h in
    let node = nodes-stand ins nodes (length es) piece.stand among.0 (get_or outs i k) among.1 in
    subst (λ (x : ℕ). x < length es) (among.2 ∙ e) node

pub net-gives : (es : List Entry) (part : Module) (n : Circuit) → IsGraph es → IsPiece es part.nodes part.ins part.outs → ComputesBits es part.ins part.outs n → Gives es part (net_words n (widths_at es part.ins) (widths_at es part.outs))
net-gives es part n graph piece computes inputs fit =
    ap (λ (bs : List Bool). words_of_bits (widths_at es part.outs) (values n bs n.outs)) (bits-of es inputs part.ins)
    ∙ ap (words_of_bits (widths_at es part.outs)) (computes inputs fit)
    ∙ words-of es inputs part.outs graph fit (outs-low es part.nodes part.ins part.outs piece)

-- ---- how many outputs there are: some inputs fit every graph

zero-input : (inputs : List ℕ) (op : Op) (w : Width) (n : ℕ) → n < length inputs → get_or inputs n 0 ≡ 0 → HasInput inputs op w n
zero-input inputs In w n h none = (h, subst (λ (x : ℕ). IsWord w x) (sym none) (pow_pos (bits w)))
zero-input inputs _ w n h none = tt

entry-number : (es : List Entry) (k : ℕ) (d : Entry) → k < length es → (get_or es k d).number ≤ sum_by (λ (e : Entry). e.number) es
entry-number [] k d h = absurd (omega arith)
entry-number (e ∷ es) zero d h = omega (arith, sum_by-cons (λ (x : Entry). x.number) e es)
entry-number (e ∷ es) (suc k) d h = omega (arith, sum_by-cons (λ (x : Entry). x.number) e es, entry-number es k d (omega arith))

zeros : List Entry → List ℕ
zeros es = replicate (suc (sum_by (λ (e : Entry). e.number) es)) 0

zeros-fit : (es : List Entry) → InputsFit es (zeros es)
unfolding zeros
zeros-fit es k d h =
    let e : Entry = get_or es k d in
    let count : ℕ = suc (sum_by (λ (x : Entry). x.number) es) in
    let low : e.number < count = omega (arith, entry-number es k d h) in
    zero-input (zeros es) e.op e.width e.number (omega (arith, low, length-replicate {A = ℕ} count 0)) (get_or-replicate {A = ℕ} count e.number 0 0 low)

length-node_bits : (es : List Entry) (inputs ks : List ℕ) → length (flat_map (node_bits es inputs) ks) ≡ bits_of_widths (widths_at es ks)
length-node_bits es inputs [] = refl
length-node_bits es inputs (k ∷ ks) =
    omega (arith, length-append (node_bits es inputs k) (flat_map (node_bits es inputs) ks), length-low_bits (bits (width_at es k)) (value es inputs k), length-node_bits es inputs ks, sum_by-cons bits (width_at es k) (widths_at es ks))

widths-sum : (es : List Entry) (ks : List ℕ) → sum_by (λ k. bits (width_at es k)) ks ≡ bits_of_widths (widths_at es ks)
widths-sum es [] = refl
widths-sum es (k ∷ ks) = omega (arith, sum_by-cons (λ j. bits (width_at es j)) k ks, sum_by-cons bits (width_at es k) (widths_at es ks), widths-sum es ks)

pub net-fits : (es : List Entry) (ins outs : List ℕ) (n : Circuit) → IsCircuit n → n.ins ≡ sum_by (λ k. bits (width_at es k)) ins → n.budget ≡ gate_limit → ComputesBits es ins outs n → FitsBits (widths_at es ins) (widths_at es outs) n
net-fits es ins outs n circuit taken budget computes = record {
  circuit = circuit;
  ins = taken ∙ widths-sum es ins;
  outs =
      let long : length (values n (flat_map (node_bits es (zeros es)) ins) n.outs) ≡ length n.outs = length-map n.outs _ in
      omega (arith, long, ap length (computes (zeros es) (zeros-fit es)), length-node_bits es (zeros es) outs);
  budget = budget;
}
