-- Lists in which elements stand from a place on.
use Rattle.std.proofs.Common.{◌≡◌, ℕ, zero, suc, ◌+◌, ◌*◌, ◌≤◌, ◌<◌, ◌==◌, ◌&&◌, nat_lt, List, [], ◌∷◌, ◌++◌, Bool, true, false, if◌then◌else◌, length, map, take, drop, get_or, set, refl, sym, ap, ◌∙◌, subst, add-one, arith}
use Rattle.std.proofs.lemmas.List.{length-set, map-set, set-get_or}
use Rattle.std.proofs.lemmas.Grind.{common_steps}
use Rattle.hy_bits.specs.Bits.{bit}
use Rattle.hy_bits.specs.declared.width.Width.{Width}
use Rattle.hy_bits.specs.declared.width.Width.TheVariants.{W1}
use Rattle.word_graph.specs.declared.entry.Entry.{Entry}
use Rattle.word_graph.specs.declared.entry.Node.{Node}
use Rattle.word_nodes.specs.Nodes.{AllStand, Stands, worth, worths}
use Rattle.c_meaning.specs.declared.values.Cell.{Cell}
use Rattle.c_meaning.specs.declared.values.Cell.TheVariants as cell
use Rattle.c_meaning.specs.State.{overwritten}
use Rattle.word_nodes.proofs.NodeLaws.{AllStand-take, AllStand-drop}
use Rattle.c_place.specs.declared.targets.Target.{Target}
use Rattle.c_place.specs.Accesses.{placed, cell_at}
use Rattle.c_place.proofs.ListLaws.{more_steps}

pub take-drop : {A : Type 0} (xs : List A) (k n : ℕ) (d : A) → k < length xs → take (suc n) (drop k xs) ≡ get_or xs k d ∷ take n (drop (suc k) xs)
take-drop [] k n d h = absurd (omega arith)
take-drop (x ∷ xs) zero n d h = refl
take-drop (x ∷ xs) (suc k) n d h = take-drop xs k n d (omega arith)

pub length-placed : {A : Type 0} (xs : List A) (at : ℕ) (ys : List A) → length (placed xs at ys) ≡ length xs
length-placed xs at [] = refl
length-placed xs at (y ∷ ys) = length-placed (set xs at y) (suc at) ys ∙ length-set xs at y

pub placed-push : {A : Type 0} (xs : List A) (at : ℕ) (ys : List A) (y : A) → placed xs at (ys ++ y ∷ []) ≡ set (placed xs at ys) (at + length ys) y
placed-push xs at [] y = ap (λ (k : ℕ). set xs k y) (omega arith)
placed-push xs at (x ∷ ys) y =
    placed-push (set xs at x) (suc at) ys y ∙ ap (λ (k : ℕ). set (placed (set xs at x) (suc at) ys) k y) (omega arith)

-- what stands there already changes nothing
pub placed-own : {A : Type 0} (xs : List A) (at n : ℕ) (d : A) → at + n ≤ length xs → placed xs at (take n (drop at xs)) ≡ xs
placed-own xs at zero d h = refl
placed-own {A} xs at (suc n) d h =
    ap (placed xs at) (take-drop xs at n d (omega arith))
    ∙ ap (λ (zs : List A). placed zs (suc at) (take n (drop (suc at) xs))) (set-get_or xs at d)
    ∙ placed-own xs (suc at) n d (omega arith)

pub map-placed : {A B : Type 0} (f : A → B) (xs : List A) (at : ℕ) (ys : List A) → map f (placed xs at ys) ≡ placed (map f xs) at (map f ys)
map-placed f xs at [] = refl
map-placed {A} {B} f xs at (y ∷ ys) = map-placed f (set xs at y) (suc at) ys ∙ ap (λ (zs : List B). placed zs (suc at) (map f ys)) (map-set f xs at y)

-- the cells of words in which words are placed
pub overwritten-words : (xs : List ℕ) (at : ℕ) (ys : List ℕ) → overwritten (map (λ w. cell.Int w) xs) at (map (λ w. cell.Int w) ys) ≡ map (λ w. cell.Int w) (placed xs at ys)
overwritten-words xs at [] = refl
overwritten-words xs at (y ∷ ys) =
    ap (λ (k : ℕ). overwritten (set (map (λ w. cell.Int w) xs) at (cell.Int y)) k (map (λ w. cell.Int w) ys)) (add-one at)
    ∙ ap (λ (zs : List Cell). overwritten zs (suc at) (map (λ w. cell.Int w) ys)) (sym (map-set (λ (w : ℕ). cell.Int w) xs at y))
    ∙ overwritten-words (set xs at y) (suc at) ys

-- nodes that stand, in which nodes of the same widths are placed
AllStand-set : (es : List Entry) (ws : List Width) (ns : List Node) (k : ℕ) (n : Node) (w : Width) → AllStand es ws ns → Stands es (get_or ws k w) n → k < length ws → AllStand es ws (set ns k n)
AllStand-set es [] ns k n w h s j = absurd (omega arith)
AllStand-set es (v ∷ ws) [] k n w h s j = absurd h
AllStand-set es (v ∷ ws) (m ∷ ns) zero n w h s j = (s, h.1)
AllStand-set es (v ∷ ws) (m ∷ ns) (suc k) n w h s j = (h.0, AllStand-set es ws ns k n w h.1 s (omega arith))

pub AllStand-placed : (es : List Entry) (ws : List Width) (ns : List Node) (at : ℕ) (ms : List Node) → AllStand es ws ns → AllStand es (take (length ms) (drop at ws)) ms → at + length ms ≤ length ws → AllStand es ws (placed ns at ms)
AllStand-placed es ws ns at [] h g j = h
AllStand-placed es ws ns at (m ∷ ms) h g j =
    let head : AllStand es (get_or ws at W1 ∷ take (length ms) (drop (suc at) ws)) (m ∷ ms) = subst (λ (vs : List Width). AllStand es vs (m ∷ ms)) (take-drop ws at (length ms) W1 (omega arith)) g in
    AllStand-placed es ws (set ns at m) (suc at) ms (AllStand-set es ws ns at m W1 h head.0 (omega arith)) head.1 (omega arith)

-- words placed where a truth holds, and else what stands there: the words are placed, or nothing changes
pub placed-chosen : (b : Bool) (xs ys : List ℕ) (at n : ℕ) → at + n ≤ length xs → placed xs at (if b then ys else take n (drop at xs)) ≡ (if b then placed xs at ys else xs)
placed-chosen true xs ys at n h = refl
placed-chosen false xs ys at n h = placed-own xs at n 0 h

pub worths-slice : (es : List Entry) (ins : List ℕ) (ns : List Node) (at n : ℕ) → worths es ins (take n (drop at ns)) ≡ take n (drop at (worths es ins ns))
worths-slice es ins ns zero zero = refl
worths-slice es ins [] zero (suc n) = refl
worths-slice es ins (m ∷ ns) zero (suc n) = ap (λ (xs : List ℕ). worth es ins m ∷ xs) (worths-slice es ins ns zero n)
worths-slice es ins [] (suc at) zero = refl
worths-slice es ins [] (suc at) (suc n) = refl
worths-slice es ins (m ∷ ns) (suc at) n = worths-slice es ins ns at n

-- the nodes from a place on, where the widths are known
pub slice-stands : (es : List Entry) (ws widths : List Width) (ns : List Node) (at : ℕ) → AllStand es ws ns → take (length widths) (drop at ws) ≡ widths → AllStand es widths (take (length widths) (drop at ns))
slice-stands es ws widths ns at h e =
    subst (λ (vs : List Width). AllStand es vs (take (length widths) (drop at ns))) e (AllStand-take es (length widths) _ _ (AllStand-drop es at _ _ h))

-- an access to an element lies within the object
pub cell-room : (t : Target) (offset count room k : ℕ) → offset + count ≤ t.size → t.first + t.length * t.size ≤ room → k < t.length → cell_at t offset k + count ≤ room
cell-room t offset count room k o r h = omega (arith, o, r, more_steps k t.length t.size h)

-- ---- words placed at elements one after another

pub place-step : (g i k : ℕ) (word : ℕ → List ℕ → List ℕ) (xs : List ℕ) →
    (if g * bit (i == k) == 1 then word k (if (g == 1) && nat_lt i k then word i xs else xs) else (if (g == 1) && nat_lt i k then word i xs else xs))
    ≡ (if (g == 1) && nat_lt i (k + 1) then word i xs else xs)
place-step g i k word xs = grind (arith, common_steps)

pub place-same : (n m : ℕ) (xs zs vs us : List ℕ) (at : ℕ) → n ≡ m → xs ≡ zs → vs ≡ us → (if n == 1 then placed xs at vs else xs) ≡ (if m == 1 then placed zs at us else zs)
place-same n m xs zs vs us at e f g =
    ap (λ (k : ℕ). if k == 1 then placed xs at vs else xs) e
    ∙ ap (λ (ys : List ℕ). if m == 1 then placed ys at vs else ys) f
    ∙ ap (λ (ws : List ℕ). if m == 1 then placed zs at ws else zs) g

pub hit-same : (a b i j k : ℕ) → a ≡ b → i ≡ j → a * bit (i == k) ≡ b * bit (j == k)
hit-same a b i j k e f = ap (λ (n : ℕ). n * bit (i == k)) e ∙ ap (λ (n : ℕ). b * bit (n == k)) f
