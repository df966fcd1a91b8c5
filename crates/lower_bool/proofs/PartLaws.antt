-- Laws of the finished circuit of a part.
use Rattle.std.proofs.Common.{◌≡◌, ℕ, zero, suc, ◌≤◌, max, Bool, true, List, [], ◌∷◌, ◌++◌, Option, Some, None, is_some, get_or, map, refl, sym, ap, ◌∙◌, subst, arith}
use Rattle.std.specs.Prelude.{unwrap_or}
use Rattle.std.specs.List.{All, Contains, flat_map, fold, sum_by}
use Rattle.std.proofs.lemmas.List.{length-map, map-append}
use Rattle.std.proofs.lemmas.List.Elements.{Contains-append_right}
use Rattle.std.proofs.lemmas.List.Sums.{sum_by-cons}
use Rattle.hy_bits.specs.Bits.{low_bits}
use Rattle.hy_bits.proofs.BitLaws.{low_bits-of}
use Rattle.word_graph.specs.declared.entry.Entry.{Entry}
use Rattle.word_graph.specs.Meaning.{InputsFit}
use Rattle.word_graph.specs.Size.{size_at}
use Rattle.gate_net.specs.declared.literal.Lit.{Lit}
use Rattle.gate_net.specs.declared.netlist.Form.{Form}
use Rattle.gate_net.specs.declared.netlist.Form.TheVariants.{Compact, Shallow}
use Rattle.gate_net.specs.Circuit.{Circuit, Stands}
use Rattle.gate_net.specs.Growth.{Grows}
use Rattle.gate_net.specs.Meaning.{and_count, depth_of, level, wires}
use Rattle.gate_net.specs.Meaning as M
use Rattle.gate_net.specs.Spelled.{AllStand, AllWithin, values}
use Rattle.lower_bool.specs.Operations.{and_limit}
use Rattle.lower_bool.specs.Parts.{Computes, bits_of_nodes, node_bits}
use Rattle.lower_bool.specs.Stated.{EndsWithin, HasStatedAnds, HasStatedDepth, HaveDepths, ands_at, stated_at}
use Rattle.lower_bool.specs.Walk.{AreLowered, IsLowered, Part, ands_limit_at, place_of, row_of_node}
use Rattle.lower_bool.proofs.WalkLaws.{place-found}

-- ---- other outputs change no value and no level

same-value : (n : Circuit) (outs : List Lit) (xs : List Bool) (l : Lit) → M.value (record n { outs = outs }) xs l ≡ M.value n xs l
unfolding M.value wires
same-value n outs xs l = refl

same-values : (n : Circuit) (outs : List Lit) (xs : List Bool) (ls : List Lit) → values (record n { outs = outs }) xs ls ≡ values n xs ls
same-values n outs xs [] = refl
same-values n outs xs (l ∷ ls) = let e = same-value n outs xs l in let f = same-values n outs xs ls in cc

same-level : (n : Circuit) (outs : List Lit) (l : Lit) → level (record n { outs = outs }) l ≡ level n l
unfolding level wires
same-level n outs l = refl

greatest : (f : Lit → ℕ) (ls : List Lit) (a d : ℕ) → a ≤ d → All (λ l. f l ≤ d) ls → fold max a (map f ls) ≤ d
greatest f [] a d h low = h
greatest f (l ∷ ls) a d h low = greatest f ls (max a (f l)) d (omega (arith, low 0 l (omega arith))) (λ k x i. low (suc k) x (omega arith))

-- ---- the outputs

module _ (p : Part) (n : Circuit) (keys : List ℕ) (rows : List (List Lit)) (l : AreLowered p n keys rows) where
  node-row : (k : ℕ) → Contains keys k → IsLowered p n k (row_of_node keys rows k)
  node-row k c = let f = place-found keys k c in subst (λ (j : ℕ). IsLowered p n j (row_of_node keys rows k)) f.1 (l.each (place_of keys k) f.0)

  abbrev outputs : List ℕ → List Lit
  outputs outs = flat_map (row_of_node keys rows) outs

  All-append : (P : Lit → Type 0) (xs ys : List Lit) → All P xs → All P ys → All P (xs ++ ys)
  All-append P [] ys h i k d w = i k d w
  All-append P (x ∷ xs) ys h i zero d w = h 0 d (omega arith)
  All-append P (x ∷ xs) ys h i (suc k) d w = All-append P xs ys (λ j e v. h (suc j) e (omega arith)) i k d (omega arith)

  pub outputs-stand : (outs : List ℕ) → All (Contains keys) outs → AllStand n (outputs outs)
  outputs-stand [] among = λ k d h. absurd (omega arith)
  outputs-stand (k ∷ outs) among = All-append (Stands n) (row_of_node keys rows k) (outputs outs) (node-row k (among 0 k (omega arith))).stand (outputs-stand outs (λ j d h. among (suc j) d (omega arith)))

  outputs-within : p.form ≡ Shallow → HaveDepths p.entries p.nodes → (d : ℕ) → ((k : ℕ) → EndsWithin p.entries p.nodes k d) → (outs : List ℕ) → All (Contains keys) outs → AllWithin n d (outputs outs)
  outputs-within shallow depths d within [] among = λ k e h. absurd (omega arith)
  outputs-within shallow depths d within (k ∷ outs) among =
      All-append (λ x. level n x ≤ d) (row_of_node keys rows k) (outputs outs) ((node-row k (among 0 k (omega arith))).depth shallow depths d (within k)) (outputs-within shallow depths d within outs (λ j e h. among (suc j) e (omega arith)))

  outputs-values : (inputs : List ℕ) → InputsFit p.entries inputs → (outs : List ℕ) → All (Contains keys) outs → values n (bits_of_nodes p.entries inputs p.ins) (outputs outs) ≡ bits_of_nodes p.entries inputs outs
  outputs-values inputs fit [] among = refl
  outputs-values inputs fit (k ∷ outs) among =
      let xs : List Bool = bits_of_nodes p.entries inputs p.ins in
      let row = node-row k (among 0 k (omega arith)) in
      let here : values n xs (row_of_node keys rows k) ≡ node_bits p.entries inputs k =
      sym (low_bits-of _ (values n xs (row_of_node keys rows k)) (length-map (row_of_node keys rows k) (M.value n xs) ∙ row.count)) ∙ ap (low_bits _) (row.spells inputs fit) in
      map-append (M.value n xs) (row_of_node keys rows k) (outputs outs)
      ∙ ap (λ (bs : List Bool). bs ++ values n xs (outputs outs)) here
      ∙ ap (λ (bs : List Bool). node_bits p.entries inputs k ++ bs) (outputs-values inputs fit outs (λ j d h. among (suc j) d (omega arith)))

  module _ (outs : List ℕ) (among : All (Contains keys) outs) (ls : List Lit) (is : ls ≡ outputs outs) where
    abbrev finished : Circuit
    finished = record n { outs = ls }

    pub finished-computes : Computes p.entries p.ins outs finished
    finished-computes inputs fit =
        same-values n ls (bits_of_nodes p.entries inputs p.ins) ls ∙ ap (values n (bits_of_nodes p.entries inputs p.ins)) is ∙ outputs-values inputs fit outs among

    pub finished-depth : p.form ≡ Shallow → HasStatedDepth p.entries p.nodes finished
    finished-depth shallow depths d within =
        greatest (level finished) ls 0 d (omega arith) (λ k x h. omega (arith, same-level n ls (get_or ls k x), low k x h))
      where
        low : AllWithin n d ls
        low = subst (AllWithin n d) (sym is) (outputs-within shallow depths d within outs among)

-- ---- the And gates

sums-le : (f g : ℕ → ℕ) (ks : List ℕ) → All (λ k. f k ≤ g k) ks → sum_by f ks ≤ sum_by g ks
sums-le f g [] h = omega arith
sums-le f g (k ∷ ks) h = omega (arith, sum_by-cons f k ks, sum_by-cons g k ks, h 0 k (omega arith), sums-le f g ks (λ j d i. h (suc j) d (omega arith)))

limit-stated : (o : Option ℕ) (size : ℕ) → is_some o ≡ true → and_limit Compact o size ≤ unwrap_or o 0
limit-stated (Some n) size h = omega arith
limit-stated None size h = absurd (cc)

pub finished-ands : (es : List Entry) (nodes : List ℕ) (form : Form) (start n : Circuit) (g : ℕ) → start.gates ≡ [] → Grows start n g (sum_by (ands_limit_at form es) nodes) → form ≡ Compact → HasStatedAnds es nodes n
finished-ands es nodes form start n g none grows compact have =
    let all : n.gates ≡ grows.added = grows.appended ∙ ap (λ gs. gs ++ grows.added) none in
    let known : sum_by (ands_limit_at form es) nodes ≡ sum_by (ands_limit_at Compact es) nodes = ap (λ (f : Form). sum_by (ands_limit_at f es) nodes) compact in
    let least : sum_by (ands_limit_at Compact es) nodes ≤ sum_by (ands_at es) nodes = sums-le (ands_limit_at Compact es) (ands_at es) nodes (λ k d h. limit-stated (stated_at es (get_or nodes k d)).ands (size_at es (get_or nodes k d)) (have k d h)) in
    omega (arith, ap and_count all, grows.few_ands, known, least)

-- ---- the limit

-- the outs are among all keys
pub among-keys : (ins nodes keys outs : List ℕ) → keys ≡ ins ++ nodes → All (Contains nodes) outs → All (Contains keys) outs
among-keys ins nodes keys outs is among k d h = subst (λ (l : List ℕ). Contains l (get_or outs k d)) (sym is) (Contains-append_right ins nodes (get_or outs k d) (among k d h))
