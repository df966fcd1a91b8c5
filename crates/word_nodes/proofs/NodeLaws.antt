-- Laws of growth by made nodes, and of what nodes and lists of nodes keep under it.
use Rattle.std.proofs.Common.{take, drop, get_or, add-one, ◌≡◌, ℕ, zero, suc, ◌+◌, ◌-◌, ◌*◌, bit_and, bit_or, ◌<◌, ◌≤◌, List, [], ◌∷◌, ◌++◌, length, refl, sym, ap, ◌∙◌, subst, arith, append_assoc, length-append}
use Rattle.std.proofs.lemmas.List.{append-nil, map-append}
use Rattle.std.proofs.Math.Seq.{take-suc}
use Rattle.std.proofs.lemmas.List.Elements.{All-append}
use Rattle.hy_bits.specs.declared.width.Width.{Width}
use Rattle.word_graph.specs.declared.entry.Entry.{Entry}
use Rattle.word_graph.specs.declared.entry.Node.{Node}
use Rattle.word_graph.specs.declared.graph.GraphFault.{GraphFault}
use Rattle.word_graph.specs.declared.graph.GraphFault.TheVariants.{NodeLimit, Memory}
use Rattle.word_graph.specs.Growth.{Grows, GrowsIn, IsMadeIn, StopsWithin}
use Rattle.word_graph.specs.Meaning.{InputsFit}
use Rattle.word_graph.specs.Size.{graph_size}
use Rattle.word_graph.specs.Shape.{IsGraph, constant_at, constant_entry}
use Rattle.std.specs.Prelude.{slice_get}
use Rattle.hy_bits.specs.Words.{IsWord}
use Rattle.hy_bits.specs.declared.width.Width.TheVariants.{W1}
use Rattle.word_graph.proofs.RunLaws.{value-word}
use Rattle.word_graph.proofs.GrowthLaws.{Grows-length, Grows-width, Grows-value, Grows-inputs, GrowsIn-inputs}
use Rattle.word_nodes.specs.Nodes.{Stands, AllStand, worth, worths, Extends, IsFull}

pub Extends_of : (region : ℕ) (old new : List Entry) (nodes gates : ℕ) → GrowsIn region old new nodes gates → Extends region old new
Extends_of region old new nodes gates f = record { added = f.added; appended = f.appended; made = f.made }

pub IsFull_of : (old new : List Entry) (nodes : ℕ) (e : GraphFault) → StopsWithin old new nodes e → IsFull new e
IsFull_of old new nodes (NodeLimit limit) s = (s.0, s.1)
IsFull_of old new nodes Memory s = tt

pub Extends-none : (region : ℕ) (es : List Entry) → Extends region es es
Extends-none region es = record { added = []; appended = sym (append-nil es); made = λ k d h. absurd (omega arith) }

pub Extends-then : (region : ℕ) (old mid new : List Entry) → Extends region old mid → Extends region mid new → Extends region old new
Extends-then region old mid new f g = record {
  added = f.added ++ g.added;
  appended = g.appended ∙ ap (λ (es : List Entry). es ++ g.added) f.appended ∙ append_assoc old f.added g.added;
  made = All-append (IsMadeIn region) f.added g.added f.made g.made;
}

-- as the growth of word_graph, by the number of nodes and of gates that it has
Extends-grows : (region : ℕ) (old new : List Entry) → Extends region old new → GrowsIn region old new (length new) (graph_size new)
Extends-grows region old new f = record {
  added = f.added;
  appended = f.appended;
  few_nodes = omega (arith, ap length f.appended, length-append old f.added);
  few_gates = omega arith;
  made = f.made;
}

grown : (region : ℕ) (old new : List Entry) → Extends region old new → Grows old new (length new) (graph_size new)
grown region old new f = record {
  added = f.added;
  appended = f.appended;
  few_nodes = omega (arith, ap length f.appended, length-append old f.added);
  few_gates = omega arith;
}

module _ {region : ℕ} {old new : List Entry} (f : Extends region old new) where
  pub Extends-length : length old ≤ length new
  Extends-length = Grows-length old new _ _ (grown region old new f)

  -- inputs fit both graphs or none
  pub Extends-inputs : (ins : List ℕ) → InputsFit old ins → InputsFit new ins
  Extends-inputs ins fit = GrowsIn-inputs region old new _ _ (Extends-grows region old new f) ins fit

  pub Extends-inputs_before : (ins : List ℕ) → InputsFit new ins → InputsFit old ins
  Extends-inputs_before ins fit = Grows-inputs old new _ _ (grown region old new f) ins fit

  -- a node that stood keeps its width
  pub Stands-later : (w : Width) (n : Node) → Stands old w n → Stands new w n
  Stands-later w n s = record {
    within = omega (arith, s.within, Extends-length);
    width = Grows-width old new _ _ (grown region old new f) n.index s.within ∙ s.width;
  }

  -- and its value
  pub worth-later : (ins : List ℕ) (n : Node) → n.index < length old → worth new ins n ≡ worth old ins n
  worth-later ins n h = Grows-value old new _ _ (grown region old new f) ins n.index h

  pub AllStand-later : (ws : List Width) (ns : List Node) → AllStand old ws ns → AllStand new ws ns
  AllStand-later [] [] h = tt
  AllStand-later [] (n ∷ ns) h = absurd h
  AllStand-later (w ∷ ws) [] h = absurd h
  AllStand-later (w ∷ ws) (n ∷ ns) h = (Stands-later w n h.0, AllStand-later ws ns h.1)

  pub worths-later : (ins : List ℕ) (ws : List Width) (ns : List Node) → AllStand old ws ns → worths new ins ns ≡ worths old ins ns
  worths-later ins [] [] h = refl
  worths-later ins [] (n ∷ ns) h = absurd h
  worths-later ins (w ∷ ws) [] h = absurd h
  worths-later ins (w ∷ ws) (n ∷ ns) h =
      ap (λ (x : ℕ). x ∷ worths new ins ns) (worth-later ins n h.0.within) ∙ ap (λ (xs : List ℕ). worth old ins n ∷ xs) (worths-later ins ws ns h.1)

-- ---- truths as words of one bit

pub bit_and-product : (a b : ℕ) → a < 2 → b < 2 → bit_and a b ≡ a * b
bit_and-product zero b h k = omega arith
bit_and-product (suc zero) zero h k = omega arith
bit_and-product (suc zero) (suc zero) h k = omega arith
bit_and-product (suc zero) (suc (suc b)) h k = absurd (omega arith)
bit_and-product (suc (suc a)) b h k = absurd (omega arith)

pub bit_or-sum : (a b : ℕ) → a < 2 → b < 2 → bit_or a b ≡ a + b - a * b
bit_or-sum zero zero h k = omega arith
bit_or-sum zero (suc zero) h k = omega arith
bit_or-sum zero (suc (suc b)) h k = absurd (omega arith)
bit_or-sum (suc zero) zero h k = omega arith
bit_or-sum (suc zero) (suc zero) h k = omega arith
bit_or-sum (suc zero) (suc (suc b)) h k = absurd (omega arith)
bit_or-sum (suc (suc a)) b h k = absurd (omega arith)

-- a node that is one bit wide has the value 0 or 1
pub worth-bit : (es : List Entry) (ins : List ℕ) (n : Node) → IsGraph es → InputsFit es ins → Stands es W1 n → worth es ins n < 2
worth-bit es ins n graph fit s = subst (λ (w : Width). IsWord w (worth es ins n)) s.width (value-word es ins graph fit n.index s.within)

-- and a node of any width a word of it
pub worth-word : (es : List Entry) (ins : List ℕ) (w : Width) (n : Node) → IsGraph es → InputsFit es ins → Stands es w n → IsWord w (worth es ins n)
worth-word es ins w n graph fit s = subst (λ (w : Width). IsWord w (worth es ins n)) s.width (value-word es ins graph fit n.index s.within)

-- a node of an older graph that is one bit wide had the value 0 or 1
pub bit-before : (region : ℕ) (old new : List Entry) (nodes gates : ℕ) → GrowsIn region old new nodes gates → IsGraph new → (ins : List ℕ) → InputsFit old ins → (n : Node) → Stands old W1 n → worth old ins n < 2
bit-before region old new nodes gates g graph ins fit n s =
    let f = Extends_of region old new nodes gates g in
    subst (λ (x : ℕ). x < 2) (worth-later f ins n s.within) (worth-bit new ins n graph (Extends-inputs f ins fit) (Stands-later f W1 n s))

-- ---- lists of nodes that stand

pub AllStand-length : (es : List Entry) (ws : List Width) (ns : List Node) → AllStand es ws ns → length ns ≡ length ws
AllStand-length es [] [] h = refl
AllStand-length es [] (n ∷ ns) h = absurd h
AllStand-length es (w ∷ ws) [] h = absurd h
AllStand-length es (w ∷ ws) (n ∷ ns) h = ap (λ (k : ℕ). suc k) (AllStand-length es ws ns h.1)

pub AllStand-at : (es : List Entry) (ws : List Width) (ns : List Node) (k : ℕ) (w : Width) (n : Node) → AllStand es ws ns → k < length ws → Stands es (get_or ws k w) (get_or ns k n)
AllStand-at es [] [] k w n h j = absurd (omega arith)
AllStand-at es [] (m ∷ ns) k w n h j = absurd h
AllStand-at es (v ∷ ws) [] k w n h j = absurd h
AllStand-at es (v ∷ ws) (m ∷ ns) zero w n h j = h.0
AllStand-at es (v ∷ ws) (m ∷ ns) (suc k) w n h j = AllStand-at es ws ns k w n h.1 (omega arith)

pub AllStand-append : (es : List Entry) (ws vs : List Width) (ns ms : List Node) → AllStand es ws ns → AllStand es vs ms → AllStand es (ws ++ vs) (ns ++ ms)
AllStand-append es [] vs [] ms h g = g
AllStand-append es [] vs (n ∷ ns) ms h g = absurd h
AllStand-append es (w ∷ ws) vs [] ms h g = absurd h
AllStand-append es (w ∷ ws) vs (n ∷ ns) ms h g = (h.0, AllStand-append es ws vs ns ms h.1 g)

pub AllStand-take : (es : List Entry) (k : ℕ) (ws : List Width) (ns : List Node) → AllStand es ws ns → AllStand es (take k ws) (take k ns)
AllStand-take es zero ws ns h = tt
AllStand-take es (suc k) [] [] h = tt
AllStand-take es (suc k) [] (n ∷ ns) h = absurd h
AllStand-take es (suc k) (w ∷ ws) [] h = absurd h
AllStand-take es (suc k) (w ∷ ws) (n ∷ ns) h = (h.0, AllStand-take es k ws ns h.1)

pub AllStand-drop : (es : List Entry) (k : ℕ) (ws : List Width) (ns : List Node) → AllStand es ws ns → AllStand es (drop k ws) (drop k ns)
AllStand-drop es zero ws ns h = h
AllStand-drop es (suc k) [] [] h = tt
AllStand-drop es (suc k) [] (n ∷ ns) h = absurd h
AllStand-drop es (suc k) (w ∷ ws) [] h = absurd h
AllStand-drop es (suc k) (w ∷ ws) (n ∷ ns) h = AllStand-drop es k ws ns h.1

-- one node more
pub AllStand-push : (es : List Entry) (ws : List Width) (ns : List Node) (k : ℕ) (w : Width) (n : Node) → AllStand es (take k ws) ns → k < length ws → Stands es (get_or ws k w) n → AllStand es (take (k + 1) ws) (ns ++ n ∷ [])
AllStand-push es ws ns k w n h j s = rw (add-one, take-suc ws k w j) (AllStand-append es (take k ws) (get_or ws k w ∷ []) ns (n ∷ []) h (s, tt))

-- the values of a list, and one more
pub worths-push : (es : List Entry) (ins : List ℕ) (ns : List Node) (n : Node) (k d : ℕ) (xs : List ℕ) → worths es ins ns ≡ take k xs → k < length xs → worth es ins n ≡ get_or xs k d → worths es ins (ns ++ n ∷ []) ≡ take (k + 1) xs
worths-push es ins ns n k d xs h j e =
    map-append (worth es ins) ns (n ∷ [])
    ∙ ap (λ (ys : List ℕ). ys ++ worth es ins n ∷ []) h
    ∙ ap (λ (y : ℕ). take k xs ++ y ∷ []) e
    ∙ rw add-one (sym (take-suc xs k d j))

pub worths-at : (es : List Entry) (ins : List ℕ) (ns : List Node) (k : ℕ) (n : Node) (d : ℕ) → k < length ns → get_or (worths es ins ns) k d ≡ worth es ins (get_or ns k n)
worths-at es ins [] k n d h = absurd (omega arith)
worths-at es ins (m ∷ ns) zero n d h = refl
worths-at es ins (m ∷ ns) (suc k) n d h = worths-at es ins ns k n d (omega arith)

-- a node that stood is the constant that it was
pub constant_at-later : (region : ℕ) (old new : List Entry) → Extends region old new → (k : ℕ) → k < length old → constant_at new k ≡ constant_at old k
constant_at-later region old new f k h =
    ap (λ (es : List Entry). constant_at es k) f.appended ∙ ap constant_entry (before old f.added k h)
  where
    before : (xs ys : List Entry) (k : ℕ) → k < length xs → slice_get (xs ++ ys) k ≡ slice_get xs k
    before [] ys k h = absurd (omega arith)
    before (x ∷ xs) ys zero h = refl
    before (x ∷ xs) ys (suc k) h = before xs ys k (omega arith)
