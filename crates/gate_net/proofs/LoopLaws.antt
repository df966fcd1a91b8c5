-- The steps of the loops over a net's gates.
use Rattle.std.proofs.Common.{◌≡◌, ℕ, suc, ◌+◌, ◌^◌, ◌<◌, ◌≤◌, max, Bool, false, List, [], ◌∷◌, ◌++◌, length, get_or, set, take, map, replicate, sym, ap, ◌∙◌, subst, arith}
use Rattle.std.specs.List.{All, fold}
use Rattle.std.proofs.lemmas.List.{take_more, take_more_set, take_all, take_at, length-take-le, map_more}
use Rattle.std.proofs.lemmas.Grind.{fold-append}
use Rattle.gate_net.specs.declared.literal.Lit.{Lit}
use Rattle.gate_net.specs.declared.literal.Gate.{Gate}
use Rattle.gate_net.specs.Circuit.{Circuit}
use Rattle.gate_net.specs.Meaning.{as_bits, as_levels, gate_reading, run, start, level}
use Rattle.gate_net.specs.Shape.{UsesBelow, AreOrdered, IsTableOf}
use Rattle.gate_net.proofs.MeaningLaws.{run-more, AreOrdered-at, start-bits, start-levels, levels-bounded, length-run, length-start}
use Rattle.gate_net.proofs.TableLaws.{IsTableOf-push, IsTableOf-again}
use Rattle.std.specs.List.{Contains}

pub table-new : (gates : List Gate) (entries more : List (Gate × ℕ)) (i : ℕ) (d : Gate) → i < length gates → IsTableOf (take i gates) entries → more ≡ entries ++ (get_or gates i d, i) ∷ [] → IsTableOf (take (i + 1) gates) more
table-new gates entries more i d h t e =
    rw (take_more gates i d h, e) (IsTableOf-push (take i gates) entries (get_or gates i d) i (sym (length-take-le i gates (omega arith))) t)

pub table-again : (gates : List Gate) (entries : List (Gate × ℕ)) (i : ℕ) (d : Gate) → i < length gates → Contains (take i gates) (get_or gates i d) → IsTableOf (take i gates) entries → IsTableOf (take (i + 1) gates) entries
table-again gates entries i d h c t = rw (take_more gates i d h) (IsTableOf-again (take i gates) entries (get_or gates i d) c t)

pub bits-init : (n : ℕ) (bits copy rest : List Bool) (gates : List Gate) → copy ≡ bits → length bits ≡ n → false ∷ take (length bits + 0) (copy ++ rest) ≡ run as_bits (start as_bits n bits) (take 0 gates)
unfolding run
bits-init n bits copy rest gates e h =
    ap (λ (xs : List Bool). false ∷ xs) (take_at copy rest (length bits + 0) (omega (arith, ap length e)) ∙ e)
    ∙ sym (start-bits n bits h)

pub bits-more : (m i : ℕ) (buffer ws : List Bool) (gates : List Gate) (d : Gate) (bit : Bool) → m + i < length buffer → i < length gates → false ∷ take (m + i) buffer ≡ run as_bits ws (take i gates) → bit ≡ gate_reading as_bits (false ∷ take (m + i) buffer) (get_or gates i d) → false ∷ take (m + (i + 1)) (set buffer (m + i) bit) ≡ run as_bits ws (take (i + 1) gates)
bits-more m i buffer ws gates d bit hb hg inv e =
    let place : m + (i + 1) ≡ m + i + 1 = omega arith in
    ap (λ (k : ℕ). false ∷ take k (set buffer (m + i) bit)) place
    ∙ ap (λ (xs : List Bool). false ∷ xs) (take_more_set buffer (m + i) bit hb)
    ∙ ap (λ (b : Bool). false ∷ (take (m + i) buffer ++ b ∷ [])) e
    ∙ ap (λ (xs : List Bool). xs ++ gate_reading as_bits xs (get_or gates i d) ∷ []) inv
    ∙ sym (run-more as_bits ws gates i d hg)

pub bits-done : (m i : ℕ) (buffer : List Bool) (ws : List Bool) (gates : List Gate) → length buffer ≤ m + i → length gates ≤ i → false ∷ take (m + i) buffer ≡ run as_bits ws (take i gates) → false ∷ buffer ≡ run as_bits ws gates
bits-done m i buffer ws gates hb hg inv =
    ap (λ (xs : List Bool). false ∷ xs) (sym (take_all (m + i) buffer hb)) ∙ inv ∙ ap (run as_bits ws) (take_all i gates hg)

pub uses-before : (n : Circuit) (gates : List Gate) (i k : ℕ) (d : Gate) → gates ≡ n.gates → AreOrdered (1 + n.ins) n.gates → i < length gates → k ≡ 1 + n.ins + i → UsesBelow k (get_or gates i d)
uses-before n gates i k d e o h place =
    let h' : i < length n.gates = omega (arith, ap length e) in
    rw (e, place) (AreOrdered-at (1 + n.ins) n.gates i d o h')

pub levels-init : (n : ℕ) (items : List ℕ) (gates : List Gate) → items ≡ replicate n 0 → 0 ∷ items ≡ run as_levels (start as_levels n []) (take 0 gates)
unfolding run
levels-init n items gates e = ap (λ (xs : List ℕ). 0 ∷ xs) e ∙ sym (start-levels n)

pub levels-more : (n i : ℕ) (items : List ℕ) (gates : List Gate) (d : Gate) (level : ℕ) → i < length gates → 0 ∷ items ≡ run as_levels (start as_levels n []) (take i gates) → level ≡ gate_reading as_levels (0 ∷ items) (get_or gates i d) → 0 ∷ (items ++ level ∷ []) ≡ run as_levels (start as_levels n []) (take (i + 1) gates)
levels-more n i items gates d level h inv e =
    ap (λ (x : ℕ). 0 ∷ (items ++ x ∷ [])) e
    ∙ ap (λ (xs : List ℕ). xs ++ gate_reading as_levels xs (get_or gates i d) ∷ []) inv
    ∙ sym (run-more as_levels (start as_levels n []) gates i d h)

pub levels-length : (n i : ℕ) (items : List ℕ) (gates : List Gate) → i ≤ length gates → 0 ∷ items ≡ run as_levels (start as_levels n []) (take i gates) → length items ≡ n + i
levels-length n i items gates h inv =
    omega (arith, ap length inv, length-run as_levels (start as_levels n []) (take i gates), length-start as_levels n [], length-take-le i gates h)

pub levels-low : (n i : ℕ) (items : List ℕ) (gates : List Gate) → i ≤ length gates → length gates < 2 ^ 31 → 0 ∷ items ≡ run as_levels (start as_levels n []) (take i gates) → All (λ x. x < 2 ^ 31) items
levels-low n i items gates h few inv = λ k d l.
    let all = subst (λ (ws : List ℕ). All (λ x. x ≤ length (take i gates)) ws) (sym inv) (levels-bounded n (take i gates)) in
    omega (arith, all (suc k) d (omega arith), length-take-le i gates h)

pub depth-more : (n : Circuit) (outs : List Lit) (i : ℕ) (d : Lit) (depth level' : ℕ) → i < length outs → depth ≡ fold max 0 (map (level n) (take i outs)) → level' ≡ level n (get_or outs i d) → max depth level' ≡ fold max 0 (map (level n) (take (i + 1) outs))
depth-more n outs i d depth level' h inv e =
    ap (λ (x : ℕ). max x level') inv
    ∙ ap (λ (y : ℕ). max (fold max 0 (map (level n) (take i outs))) y) e
    ∙ sym (ap (fold max 0) (map_more (level n) outs i d h) ∙ fold-append max 0 (map (level n) (take i outs)) (level n (get_or outs i d) ∷ []))
