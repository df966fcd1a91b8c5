-- Cells while a net grows, and their composition.
use Rattle.std.proofs.Common.{◌≡◌, ℕ, zero, suc, ◌+◌, ◌-◌, ◌*◌, ◌<◌, ◌≤◌, Bool, true, false, ◌&&◌, List, [], ◌∷◌, ◌++◌, length, get_or, take, drop, map, refl, sym, ap, ◌∙◌, subst, arith}
use Rattle.std.specs.List.{All}
use Rattle.std.proofs.lemmas.List.{take-append-drop, take_rest, drop-map, length-drop}
use Rattle.std.proofs.Math.Nat.{mul-le-mul_right}
use Rattle.hy_bits.specs.Sizes.{adder_size}
use Rattle.hy_bits.specs.Bits.{xor, next_carry, sum_bit, sum_bits, carry_out, bitwise, bitwise_three}
use Rattle.gate_net.specs.Circuit.{Circuit, Stands}
use Rattle.gate_net.specs.Meaning.{value, level}
use Rattle.gate_net.specs.Spelled.{values, AllStand, AllWithin}
use Rattle.gate_net.specs.Growth.{Grows}
use Rattle.gate_net.proofs.GrowthLaws.{Grows-value, Grows-level, Grows-stands}
use Rattle.adder_blocks.specs.declared.lookahead.Cell.{Cell}
use Rattle.adder_blocks.specs.Cells.{CellStands, CellWithin, carried, carries, carry_after, carries_out, carries_into}
use Rattle.gate_net.specs.declared.literal.Lit.{Lit}
use Rattle.gate_net.proofs.ListLaws.{equal_two, All-head, All-tail, All-cons, values-Grows, AllWithin-Grows}
use Rattle.adder_blocks.proofs.TreeLaws.{All-drop}

xor-assoc-true : (g h x : Bool) → xor (xor g h) x ≡ xor g (xor h x)
xor-assoc-true true true true = refl
xor-assoc-true true true false = refl
xor-assoc-true true false true = refl
xor-assoc-true true false false = refl
xor-assoc-true false true true = refl
xor-assoc-true false true false = refl
xor-assoc-true false false true = refl
xor-assoc-true false false false = refl

-- cells compose
pub compose-bits : (g p h q c : Bool) → xor (xor g (p && h)) ((p && q) && c) ≡ xor g (p && xor h (q && c))
compose-bits g true h q c = xor-assoc-true g h (q && c)
compose-bits true false h q c = refl
compose-bits false false h q c = refl

-- a place of a sum as a cell
pub place-bits : (x y c : Bool) → xor (x && y) (xor x y && c) ≡ next_carry x y c
place-bits true true true = refl
place-bits true true false = refl
place-bits true false true = refl
place-bits true false false = refl
place-bits false true true = refl
place-bits false true false = refl
place-bits false false true = refl
place-bits false false false = refl

module _ {a b : Circuit} {g i : ℕ} (p : Grows a b g i) where
  pub CellStands-Grows : (x : Cell) → CellStands a x → CellStands b x
  CellStands-Grows x h = (Grows-stands p x.generate h.0, Grows-stands p x.propagate h.1)

  pub carried-Grows : (bits : List Bool) (c : Bool) (x : Cell) → CellStands a x → carried b bits c x ≡ carried a bits c x
  carried-Grows bits c x h = equal_two xor (Grows-value p bits x.generate h.0) (equal_two (λ y z. y && z) (Grows-value p bits x.propagate h.1) refl)

  pub CellWithin-Grows : (d : ℕ) (x : Cell) → CellStands a x → CellWithin a d x → CellWithin b d x
  CellWithin-Grows d x h l = (omega (arith, l.0, Grows-level p x.generate h.0), omega (arith, l.1, Grows-level p x.propagate h.1))

  pub All-CellStands-Grows : (xs : List Cell) → All (CellStands a) xs → All (CellStands b) xs
  All-CellStands-Grows xs h = λ k d l. CellStands-Grows (get_or xs k d) (h k d l)

  pub All-CellWithin-Grows : (d : ℕ) (xs : List Cell) → All (CellStands a) xs → All (CellWithin a d) xs → All (CellWithin b d) xs
  All-CellWithin-Grows d xs h w = λ k e l. CellWithin-Grows d (get_or xs k e) (h k e l) (w k e l)

  pub map_carried-Grows : (bits : List Bool) (c : Bool) (xs : List Cell) → All (CellStands a) xs → map (carried b bits c) xs ≡ map (carried a bits c) xs
  map_carried-Grows bits c [] h = refl
  map_carried-Grows bits c (x ∷ xs) h =
      let e = carried-Grows bits c x (All-head (CellStands a) x xs h) in
      let f = map_carried-Grows bits c xs (All-tail (CellStands a) x xs h) in
      cc

  pub carries-Grows : (bits : List Bool) (c : Bool) (xs : List Cell) → All (CellStands a) xs → carries b bits xs c ≡ carries a bits xs c
  carries-Grows bits c [] h = refl
  carries-Grows bits c (x ∷ xs) h =
      let e = carried-Grows bits c x (All-head (CellStands a) x xs h) in
      ap (λ (s : Bool). s ∷ carries b bits xs s) e
      ∙ ap (λ (ss : List Bool). carried a bits c x ∷ ss) (carries-Grows bits (carried a bits c x) xs (All-tail (CellStands a) x xs h))

  pub carry_after-Grows : (bits : List Bool) (c : Bool) (xs : List Cell) → All (CellStands a) xs → carry_after b bits xs c ≡ carry_after a bits xs c
  carry_after-Grows bits c [] h = refl
  carry_after-Grows bits c (x ∷ xs) h =
      ap (carry_after b bits xs) (carried-Grows bits c x (All-head (CellStands a) x xs h))
      ∙ carry_after-Grows bits (carried a bits c x) xs (All-tail (CellStands a) x xs h)

pub carry_after-append : (n : Circuit) (bits : List Bool) (xs ys : List Cell) (c : Bool) → carry_after n bits (xs ++ ys) c ≡ carry_after n bits ys (carry_after n bits xs c)
carry_after-append n bits [] ys c = refl
carry_after-append n bits (x ∷ xs) ys c = carry_after-append n bits xs ys (carried n bits c x)

pub carries-append : (n : Circuit) (bits : List Bool) (xs ys : List Cell) (c : Bool) → carries n bits (xs ++ ys) c ≡ carries n bits xs c ++ carries n bits ys (carry_after n bits xs c)
carries-append n bits [] ys c = refl
carries-append n bits (x ∷ xs) ys c = ap (λ (ss : List Bool). carried n bits c x ∷ ss) (carries-append n bits xs ys (carried n bits c x))

pub length-carries : (n : Circuit) (bits : List Bool) (xs : List Cell) (c : Bool) → length (carries n bits xs c) ≡ length xs
length-carries n bits [] c = refl
length-carries n bits (x ∷ xs) c = omega (arith, length-carries n bits xs (carried n bits c x))

-- the last of the carries
pub last-carries : (n : Circuit) (bits : List Bool) (xs : List Cell) (c d : Bool) → 0 < length xs → get_or (carries n bits xs c) (length xs - 1) d ≡ carry_after n bits xs c
last-carries n bits [] c d h = absurd (omega arith)
last-carries n bits (x ∷ []) c d h = refl
last-carries n bits (x ∷ (y ∷ xs)) c d h =
    ap (λ (k : ℕ). get_or (carries n bits (x ∷ (y ∷ xs)) c) k d) (places (length xs))
    ∙ ap (λ (k : ℕ). get_or (carries n bits (y ∷ xs) (carried n bits c x)) k d) (sym (back (length xs)))
    ∙ last-carries n bits (y ∷ xs) (carried n bits c x) d (omega arith)
  where
    places : (m : ℕ) → suc (suc m) - 1 ≡ suc m
    places m = omega arith

    back : (m : ℕ) → suc m - 1 ≡ m
    back m = omega arith

get_or-map_carried : (n : Circuit) (bits : List Bool) (c : Bool) (xs : List Cell) (k : ℕ) (d : Cell) (e : Bool) → k < length xs → get_or (map (carried n bits c) xs) k e ≡ carried n bits c (get_or xs k d)
get_or-map_carried n bits c [] k d e h = absurd (omega arith)
get_or-map_carried n bits c (x ∷ xs) zero d e h = refl
get_or-map_carried n bits c (x ∷ xs) (suc k) d e h = get_or-map_carried n bits c xs k d e (omega arith)

-- the last prefix makes the last carry
pub last-carried : (m n : Circuit) (bits : List Bool) (prefixes cells : List Cell) (c : Bool) (d : Cell) → map (carried m bits c) prefixes ≡ carries n bits cells c → length prefixes ≡ length cells → 0 < length cells → carried m bits c (get_or prefixes (length prefixes - 1) d) ≡ carry_after n bits cells c
last-carried m n bits prefixes cells c d e same some =
    sym (get_or-map_carried m bits c prefixes (length prefixes - 1) d false (omega arith))
    ∙ ap (λ (xs : List Bool). get_or xs (length prefixes - 1) false) e
    ∙ ap (λ (k : ℕ). get_or (carries n bits cells c) (k - 1) false) same
    ∙ last-carries n bits cells c false some

-- where each cell is a place of a sum, the carries are the sum's
pub carries-places : (n : Circuit) (bits : List Bool) (cells : List Cell) (xs ys : List Bool) (c : Bool) → length cells ≡ length xs → length xs ≡ length ys → ((s : Bool) → map (carried n bits s) cells ≡ bitwise (λ x y. next_carry x y s) xs ys) → carries n bits cells c ≡ carries_out c xs ys
carries-places n bits [] [] ys c e f h = refl
carries-places n bits [] (x ∷ xs) ys c e f h = absurd (omega arith)
carries-places n bits (z ∷ cells) [] ys c e f h = absurd (omega arith)
carries-places n bits (z ∷ cells) (x ∷ xs) [] c e f h = absurd (omega arith)
carries-places n bits (z ∷ cells) (x ∷ xs) (y ∷ ys) c e f h =
    let first : carried n bits c z ≡ next_carry x y c = head (h c) in
    ap (λ (s : Bool). s ∷ carries n bits cells s) first
    ∙ ap (λ (ss : List Bool). next_carry x y c ∷ ss) (carries-places n bits cells xs ys (next_carry x y c) (omega arith) (omega arith) (λ s. tail (h s)))
  where
    head : {p q : Bool} {ps qs : List Bool} → p ∷ ps ≡ q ∷ qs → p ≡ q
    head k = cc

    tail : {p q : Bool} {ps qs : List Bool} → p ∷ ps ≡ q ∷ qs → ps ≡ qs
    tail k = cc

pub sum_bits-into : (c : Bool) (xs ys : List Bool) → length xs ≡ length ys → bitwise_three sum_bit xs ys (carries_into c xs ys) ≡ sum_bits c xs ys
sum_bits-into c [] ys e = refl
sum_bits-into c (x ∷ xs) [] e = absurd (omega arith)
sum_bits-into c (x ∷ xs) (y ∷ ys) e = ap (λ (zs : List Bool). sum_bit x y c ∷ zs) (sum_bits-into (next_carry x y c) xs ys (omega arith))

-- the carry into the lowest place, and then those out of all places but the top one
pub carries_into-front : (c : Bool) (xs ys : List Bool) (n : ℕ) → length xs ≡ suc n → length ys ≡ suc n → c ∷ carries_out c (take n xs) (take n ys) ≡ carries_into c xs ys
carries_into-front c [] ys n e f = absurd (omega arith)
carries_into-front c (x ∷ xs) [] n e f = absurd (omega arith)
carries_into-front c (x ∷ []) (y ∷ ys) zero e f = refl
carries_into-front c (x ∷ (z ∷ xs)) (y ∷ ys) zero e f = absurd (omega arith)
carries_into-front c (x ∷ xs) (y ∷ ys) (suc n) e f = ap (λ (zs : List Bool). c ∷ zs) (carries_into-front (next_carry x y c) xs ys n (omega arith) (omega arith))

pub All-append : {X : Type 0} (P : X → Type 0) (xs ys : List X) → All P xs → All P ys → All P (xs ++ ys)
All-append P [] ys h k = k
All-append P (x ∷ xs) ys h k = All-cons P x (xs ++ ys) (All-head P x xs h) (All-append P xs ys (All-tail P x xs h) k)

pub CellWithin-weaken : (n : Circuit) (p q : ℕ) (xs : List Cell) → p ≤ q → All (CellWithin n p) xs → All (CellWithin n q) xs
CellWithin-weaken n p q xs l h = λ k d w. (omega (arith, (h k d w).0), omega (arith, (h k d w).1))

-- the gates of a tree of prefixes, from those of its halves
pub tree_gates : (m h n j k : ℕ) → m + h ≡ n → k ≡ suc j → 3 * (m * j) + 3 * (h * j) + 3 * h ≤ 3 * (n * k)
tree_gates m h n j k e f = rw (← e, f) (omega arith)

pub tree_ands : (m h n j k : ℕ) → m + h ≡ n → k ≡ suc j → 2 * (m * j) + 2 * (h * j) + 2 * h ≤ 2 * (n * k)
tree_ands m h n j k e f = rw (← e, f) (omega arith)

-- one cell or none is its own prefix
pub carries-short : (n : Circuit) (bits : List Bool) (xs : List Cell) (c : Bool) → length xs ≤ 1 → map (carried n bits c) xs ≡ carries n bits xs c
carries-short n bits [] c h = refl
carries-short n bits (x ∷ []) c h = refl
carries-short n bits (x ∷ (y ∷ xs)) c h = absurd (omega arith)

-- the carries of a list in two parts
pub carries-parts : (n : Circuit) (bits : List Bool) (cells low high : List Cell) (m : ℕ) (c : Bool) → low ≡ take m cells → high ≡ drop m cells → carries n bits low c ++ carries n bits high (carry_after n bits low c) ≡ carries n bits cells c
carries-parts n bits cells low high m c e f =
    let whole : low ++ high ≡ cells = ap (λ (xs : List Cell). xs ++ high) e ∙ ap (λ (ys : List Cell). take m cells ++ ys) f ∙ take-append-drop m cells in
    sym (carries-append n bits low high c) ∙ ap (λ (xs : List Cell). carries n bits xs c) whole

-- the carry after a list in two parts
pub carry_after-parts : (n : Circuit) (bits : List Bool) (cells low high : List Cell) (m : ℕ) (c : Bool) → low ≡ take m cells → high ≡ drop m cells → carry_after n bits high (carry_after n bits low c) ≡ carry_after n bits cells c
carry_after-parts n bits cells low high m c e f =
    let whole : low ++ high ≡ cells = ap (λ (xs : List Cell). xs ++ high) e ∙ ap (λ (ys : List Cell). take m cells ++ ys) f ∙ take-append-drop m cells in
    sym (carry_after-append n bits low high c) ∙ ap (λ (xs : List Cell). carry_after n bits xs c) whole

-- a cell that lets no carry through
pub xor-closed : (g c : Bool) → xor g (false && c) ≡ g
xor-closed true c = refl
xor-closed false c = refl

-- a cell that no carry comes into
pub xor-no_carry : (g p : Bool) → xor g (p && false) ≡ g
xor-no_carry true true = refl
xor-no_carry true false = refl
xor-no_carry false true = refl
xor-no_carry false false = refl

-- what cells make where no carry comes in
pub values-generate : (n : Circuit) (bits : List Bool) (xs : List Cell) → values n bits (map (λ x. x.generate) xs) ≡ map (carried n bits false) xs
values-generate n bits [] = refl
values-generate n bits (x ∷ xs) =
    ap (λ (b : Bool). b ∷ values n bits (map (λ x. x.generate) xs)) (sym (xor-no_carry (value n bits x.generate) (value n bits x.propagate)))
    ∙ ap (λ (ss : List Bool). carried n bits false x ∷ ss) (values-generate n bits xs)

pub AllWithin-generate : (n : Circuit) (p : ℕ) (xs : List Cell) → All (CellWithin n p) xs → AllWithin n (p + 1) (map (λ x. x.generate) xs)
AllWithin-generate n p [] h = λ k d l. absurd (omega arith)
AllWithin-generate n p (x ∷ xs) h = All-cons (λ l. level n l ≤ p + 1) x.generate (map (λ x. x.generate) xs) (omega (arith, (All-head (CellWithin n p) x xs h).0)) (AllWithin-generate n p xs (All-tail (CellWithin n p) x xs h))

pub AllStand-generate : (n : Circuit) (xs : List Cell) → All (CellStands n) xs → AllStand n (map (λ x. x.generate) xs)
AllStand-generate n [] h = λ k d l. absurd (omega arith)
AllStand-generate n (x ∷ xs) h = All-cons (Stands n) x.generate (map (λ x. x.generate) xs) (All-head (CellStands n) x xs h).0 (AllStand-generate n xs (All-tail (CellStands n) x xs h))

-- the carries of a sum from the lowest place on
pub carries_out-front : (s : Bool) (xs ys : List Bool) → 0 < length xs → length xs ≡ length ys →
    next_carry (get_or xs 0 false) (get_or ys 0 false) s ∷ carries_out (next_carry (get_or xs 0 false) (get_or ys 0 false) s) (drop 1 xs) (drop 1 ys) ≡ carries_out s xs ys
carries_out-front s [] ys some same = absurd (omega arith)
carries_out-front s (x ∷ xs) [] some same = absurd (omega arith)
carries_out-front s (x ∷ xs) (y ∷ ys) some same = refl

-- the last of them
pub last-carries_out : (c : Bool) (xs ys : List Bool) (d : Bool) → 0 < length xs → length xs ≡ length ys → get_or (carries_out c xs ys) (length xs - 1) d ≡ carry_out c xs ys
last-carries_out c [] ys d some same = absurd (omega arith)
last-carries_out c (x ∷ xs) [] d some same = absurd (omega arith)
last-carries_out c (x ∷ []) (y ∷ []) d some same = refl
last-carries_out c (x ∷ []) (y ∷ (w ∷ ys)) d some same = absurd (omega (arith, same))
last-carries_out c (x ∷ (z ∷ xs)) (y ∷ ys) d some same =
    ap (λ (k : ℕ). get_or (carries_out c (x ∷ (z ∷ xs)) (y ∷ ys)) k d) (before_last (length xs))
    ∙ ap (λ (k : ℕ). get_or (carries_out (next_carry x y c) (z ∷ xs) ys) k d) (sym (back (length xs)))
    ∙ last-carries_out (next_carry x y c) (z ∷ xs) ys d (omega arith) (omega (arith, same))
  where
    before_last : (m : ℕ) → suc (suc m) - 1 ≡ suc m
    before_last m = omega arith

    back : (m : ℕ) → suc m - 1 ≡ m
    back m = omega arith

-- the carries of cells of which the first makes its carry whatever comes in, and the others are places of a sum
pub carries-cells : (n : Circuit) (bits : List Bool) (s start : Bool) (x : Cell) (rest : List Cell) (xs ys : List Bool) →
    carried n bits s x ≡ next_carry (get_or xs 0 false) (get_or ys 0 false) start → length rest ≡ length (drop 1 xs) → length xs ≡ length ys → 0 < length xs →
    ((t : Bool) → map (carried n bits t) rest ≡ bitwise (λ y z. next_carry y z t) (drop 1 xs) (drop 1 ys)) → carries n bits (x ∷ rest) s ≡ carries_out start xs ys
carries-cells n bits s start x rest xs ys first count same some places =
    ap (λ (t : Bool). t ∷ carries n bits rest t) first
    ∙ ap (λ (ss : List Bool). next_carry (get_or xs 0 false) (get_or ys 0 false) start ∷ ss)
    (carries-places n bits rest (drop 1 xs) (drop 1 ys) (next_carry (get_or xs 0 false) (get_or ys 0 false) start) count (omega (arith, length-drop 1 xs, length-drop 1 ys, same)) places)
    ∙ carries_out-front start xs ys some same

-- the carry after cells that make the carries of a sum
pub carry_after-out : (n : Circuit) (bits : List Bool) (cells : List Cell) (c start : Bool) (xs ys : List Bool) → carries n bits cells c ≡ carries_out start xs ys → length cells ≡ length xs → length xs ≡ length ys → 0 < length xs → carry_after n bits cells c ≡ carry_out start xs ys
carry_after-out n bits cells c start xs ys e count same some =
    sym (last-carries n bits cells c false (omega (arith, count)))
    ∙ ap (λ (ss : List Bool). get_or ss (length cells - 1) false) e
    ∙ ap (λ (k : ℕ). get_or (carries_out start xs ys) (k - 1) false) count
    ∙ last-carries_out start xs ys false some same

-- all literals but the first
pub values-tail : {n m : Circuit} {g i : ℕ} → Grows n m g i → (bits : List Bool) (ls : List Lit) → AllStand n ls → values m bits (take (length ls - 1) (drop 1 ls)) ≡ drop 1 (values n bits ls)
values-tail {n} {m} p bits ls h =
    ap (values m bits) (take_rest ls 1) ∙ values-Grows p bits (drop 1 ls) (All-drop (Stands n) 1 ls h) ∙ sym (drop-map (value n bits) 1 ls)

pub AllWithin-tail : {n m : Circuit} {g i : ℕ} → Grows n m g i → (d : ℕ) (ls : List Lit) → AllStand n ls → AllWithin n d ls → AllWithin m d (take (length ls - 1) (drop 1 ls))
AllWithin-tail {n} {m} p d ls h low =
    subst (AllWithin m d) (sym (take_rest ls 1)) (AllWithin-Grows p d (drop 1 ls) (All-drop (Stands n) 1 ls h) (All-drop (λ l. level n l ≤ d) 1 ls low))

-- the gates of a look-ahead over n places, of which m have cells
pub ahead_gates : (m n k : ℕ) → m ≤ n → 4 * m + 3 * (m * k) + 2 * n ≤ adder_size n k
ahead_gates m n k h = let p : m * k ≤ n * k = mul-le-mul_right k h in omega arith

pub ahead_gates-one : (n k : ℕ) → 0 < n → 4 * n + 3 * (n - 1) ≤ adder_size n k
ahead_gates-one n k h = omega arith
