-- Types of objects: each has a cell at least, so an array with few cells has few elements.
use Rattle.std.proofs.Common.{◌≡◌, ◌≢◌, ◌≤◌, ◌<◌, ◌+◌, ◌*◌, ◌&&◌, ◌++◌, ℕ, zero, suc, nat_le, nat_lt, Bool, true, false, List, [], ◌∷◌, length, get_or, append_assoc, ap, sym, subst, ◌∙◌, refl, arith}
use Rattle.std.proofs.lemmas.Grind.{common_steps}
use Rattle.std.proofs.lemmas.List.{length_push}
use Rattle.c_meaning.specs.declared.types.CType as C
use Rattle.c_meaning.specs.declared.types.CType.TheOpen.{CType-F}
use Rattle.c_meaning.specs.declared.types.CType.TheFolds.{ind-CType, fold-roll-CType, fold_out-CType}
use Rattle.c_meaning.specs.declared.types.Member.{Member}
use Rattle.c_meaning.specs.declared.types.StructType.{StructType}
use Rattle.c_meaning.specs.Types.{cells_of, layer_cells, struct_cells}
use Rattle.c_meaning.specs.StatementRules.{MembersFill, StructsFit, is_plain, layer_is_plain, most_elements, most_cells}
use Rattle.typing_laws.specs.Values.{IsPlaceType, layer_is_place}
use Rattle.typing_laws.proofs.Valued.{plain-out}
use Rattle.object_laws.specs.Declaring.{IsShapedType, layer_is_shaped}

-- ---- a cell at least

abbrev Positive : List ℕ → ℕ → Type 0
Positive cells below = (k : ℕ) → k < below → 1 ≤ get_or cells k 0

product : (n m : ℕ) → 1 ≤ n → 1 ≤ m → m ≤ n * m
product zero m h k = absurd (omega (arith, h))
product (suc n) m h k = omega arith

module _ (cells : List ℕ) (below : ℕ) (positive : Positive cells below) where
  abbrev Some : C.CType → Type 0
  Some c = is_plain below c ≡ true → 1 ≤ cells_of cells c

  cells-roll : (y : CType-F C.CType) → cells_of cells (C.roll-CType y) ≡ layer_cells cells (C.map-CType C.CType ℕ (cells_of cells) y)
  cells-roll y = fold-roll-CType ℕ (layer_cells cells) y

  plain-roll : (y : CType-F C.CType) → is_plain below (C.roll-CType y) ≡ layer_is_plain below (C.map-CType C.CType Bool (is_plain below) y)
  plain-roll y = fold-roll-CType Bool (layer_is_plain below) y

  array : (count : ℕ) (element : C.CType) → Some element → Some (C.roll-CType (CType-F.Array count element))
  array count element has plain =
      let all : (nat_le 1 count && nat_le count most_elements && is_plain below element) ≡ true = sym (plain-roll (CType-F.Array count element)) ∙ plain in
      let inner : is_plain below element ≡ true = grind (arith, common_steps) in
      let one : 1 ≤ count = grind (arith, common_steps) in
      let each = has inner in
      let most = product count (cells_of cells element) one each in
      let is = cells-roll (CType-F.Array count element) in
      omega (arith, each, most, is)

  struct : (number : ℕ) → Some (C.roll-CType (CType-F.Struct number))
  struct number plain =
      let all : nat_lt number below ≡ true = sym (plain-roll (CType-F.Struct number)) ∙ plain in
      let within : number < below = grind (arith, common_steps) in
      subst (λ (n : ℕ). 1 ≤ n) (sym (cells-roll (CType-F.Struct number))) (positive number within)

  layer : (X : Type 0) (of : X → C.CType) → ((x : X) → Some (of x)) → (y : CType-F X) → Some (C.roll-CType (C.map-CType X C.CType of y))
  layer X of has CType-F.Void = λ plain. absurd (cc (plain-roll CType-F.Void, plain))
  layer X of has (CType-F.Int t) = λ plain. subst (λ (n : ℕ). 1 ≤ n) (sym (cells-roll (CType-F.Int t))) (omega arith)
  layer X of has (CType-F.Array count element) = array count (of element) (has element)
  layer X of has (CType-F.Struct number) = struct number
  layer X of has (CType-F.Pointer q to) = λ plain. absurd (cc (plain-roll (CType-F.Pointer q (of to)), plain))

  some-cell : (c : C.CType) → is_plain below c ≡ true → 1 ≤ cells_of cells c
  some-cell = ind-CType Some (λ x y is. subst (λ z. Some (C.roll-CType z)) is (layer _ (λ e. e.0) (λ e. e.1) y))

  fill-end : (at : ℕ) (members : List Member) (end : ℕ) → MembersFill cells below at members end → at ≤ end
  fill-end at [] end h = omega (arith, h)
  fill-end at (m ∷ members) end h = let rest = fill-end (at + m.cells) members end h.3 in omega (arith, rest)

  some-member : (members : List Member) (end : ℕ) → members ≢ [] → MembersFill cells below 0 members end → 1 ≤ end
  some-member [] end some h = absurd (some refl)
  some-member (m ∷ members) end some h =
      let one = some-cell m.ctype h.0 in
      let is = h.2 in
      let rest = fill-end (0 + m.cells) members end h.3 in
      omega (arith, one, is, rest)

at-seam : (before : List ℕ) (n : ℕ) (rest : List ℕ) → get_or (before ++ n ∷ rest) (length before) 0 ≡ n
at-seam [] n rest = refl
at-seam (b ∷ before) n rest = at-seam before n rest

one-more : (cells : List ℕ) (below : ℕ) → Positive cells below → 1 ≤ get_or cells below 0 → Positive cells (below + 1)
one-more cells below positive here k h = by (nat_lt k below) refl
  where
    by : (b : Bool) → nat_lt k below ≡ b → 1 ≤ get_or cells k 0
    by true e = let before : k < below = grind (arith, common_steps) in positive k before
    by false e = let last : below ≡ k = grind (arith, common_steps) in subst (λ (n : ℕ). 1 ≤ get_or cells n 0) last here

all-positive : (before : List ℕ) (structs : List StructType) (cells : List ℕ) → cells ≡ before ++ struct_cells structs → Positive cells (length before) → StructsFit cells (length before) structs → Positive cells (length before + length structs)
all-positive before [] cells is positive fit k h = positive k (omega (arith, h))
all-positive before (s ∷ structs) cells is positive fit k h =
    let here : get_or cells (length before) 0 ≡ s.cells = ap (λ (cs : List ℕ). get_or cs (length before) 0) is ∙ at-seam before s.cells (struct_cells structs) in
    let some = some-member cells (length before) positive s.members s.cells fit.0.some fit.0.members in
    let longer : length before + 1 ≡ length (before ++ s.cells ∷ []) = sym (length_push before s.cells) in
    let moved : cells ≡ (before ++ s.cells ∷ []) ++ struct_cells structs = is ∙ sym (append_assoc before (s.cells ∷ []) (struct_cells structs)) in
    let next : Positive cells (length (before ++ s.cells ∷ [])) =
    subst (λ (n : ℕ). Positive cells n) longer (one-more cells (length before) positive (subst (λ (n : ℕ). 1 ≤ n) (sym here) some)) in
    let rest = all-positive (before ++ s.cells ∷ []) structs cells moved next (subst (λ (n : ℕ). StructsFit cells n structs) longer fit.1) in
    rest k (omega (arith, h, longer))

positive-structs : (structs : List StructType) → StructsFit (struct_cells structs) 0 structs → Positive (struct_cells structs) (length structs)
positive-structs structs fit k h = all-positive [] structs (struct_cells structs) refl (λ j i. absurd (omega (arith, i))) fit k (omega (arith, h))

-- ---- types of objects

all-three : (a b c : Bool) → a ≡ true → b ≡ true → c ≡ true → (a && b && c) ≡ true
all-three a b c h k l = ap (λ (x : Bool). x && b && c) h ∙ ap (λ (x : Bool). x && c) k ∙ l

module _ (structs : List StructType) where
  shaped-layer : (c : C.CType) (y : CType-F C.CType) → C.out-CType c ≡ y → is_plain (length structs) c ≡ true → layer_is_shaped structs c y
  shaped-layer c CType-F.Void e h = h
  shaped-layer c (CType-F.Int t) e h = h
  shaped-layer c (CType-F.Array count element) e h =
      let all : (nat_le 1 count && nat_le count most_elements && is_plain (length structs) element) ≡ true = sym (plain-out structs c (CType-F.Array count element) e) ∙ h in
      let inner : is_plain (length structs) element ≡ true = grind (arith, common_steps) in
      let one : 1 ≤ count = grind (arith, common_steps) in
      (one, inner)
  shaped-layer c (CType-F.Struct number) e h = h
  shaped-layer c (CType-F.Pointer q to) e h = absurd (cc (plain-out structs c (CType-F.Pointer q to) e, h))

  pub plain-shaped : (c : C.CType) → is_plain (length structs) c ≡ true → IsShapedType structs c
  plain-shaped c h = shaped-layer c (C.out-CType c) refl h

  cells-out : (c : C.CType) (y : CType-F C.CType) → C.out-CType c ≡ y → cells_of (struct_cells structs) c ≡ layer_cells (struct_cells structs) (C.map-CType C.CType ℕ (cells_of (struct_cells structs)) y)
  cells-out c y e = fold_out-CType ℕ (layer_cells (struct_cells structs)) c ∙ ap (λ (z : CType-F C.CType). layer_cells (struct_cells structs) (C.map-CType C.CType ℕ (cells_of (struct_cells structs)) z)) e

  few-elements : (n m most : ℕ) → 1 ≤ m → n * m ≤ most → n ≤ most
  few-elements n zero most h k = absurd (omega (arith, h))
  few-elements n (suc m) most h k = omega (arith, k)

  place-layer : (c : C.CType) (y : CType-F C.CType) → C.out-CType c ≡ y → StructsFit (struct_cells structs) 0 structs → layer_is_shaped structs c y → cells_of (struct_cells structs) c ≤ most_cells → layer_is_place structs c y
  place-layer c CType-F.Void e fit h few = (h, few)
  place-layer c (CType-F.Int t) e fit h few = (h, few)
  place-layer c (CType-F.Array count element) e fit h few =
      let some = some-cell (struct_cells structs) (length structs) (positive-structs structs fit) element h.1 in
      let most : count * cells_of (struct_cells structs) element ≤ most_cells = subst (λ (n : ℕ). n ≤ most_cells) (cells-out c (CType-F.Array count element) e) few in
      let elements : count ≤ most_elements = few-elements count (cells_of (struct_cells structs) element) most_cells some most in
      let one : 1 ≤ count = h.0 in
      let least : nat_le 1 count ≡ true = grind (arith, common_steps) in
      let bound : nat_le count most_elements ≡ true = grind (arith, common_steps) in
      (plain-out structs c (CType-F.Array count element) e ∙ all-three (nat_le 1 count) (nat_le count most_elements) (is_plain (length structs) element) least bound h.1, few)
  place-layer c (CType-F.Struct number) e fit h few = (h, few)
  place-layer c (CType-F.Pointer q to) e fit h few = h

  pub shaped-place : (c : C.CType) → StructsFit (struct_cells structs) 0 structs → IsShapedType structs c → cells_of (struct_cells structs) c ≤ most_cells → IsPlaceType structs c
  shaped-place c fit h few = place-layer c (C.out-CType c) refl fit h few

  few-layer : (c : C.CType) (y : CType-F C.CType) → C.out-CType c ≡ y → layer_is_place structs c y → cells_of (struct_cells structs) c ≤ most_cells
  few-layer c CType-F.Void e h = h.1
  few-layer c (CType-F.Int t) e h = h.1
  few-layer c (CType-F.Array count element) e h = h.1
  few-layer c (CType-F.Struct number) e h = h.1
  few-layer c (CType-F.Pointer q to) e h = let one = cells-out c (CType-F.Pointer q to) e in omega (arith, one)

  pub place-few : (c : C.CType) → IsPlaceType structs c → cells_of (struct_cells structs) c ≤ most_cells
  place-few c h = few-layer c (C.out-CType c) refl h
