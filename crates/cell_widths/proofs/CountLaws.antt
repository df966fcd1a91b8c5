-- In a typed program a type has as many integers as cells.
use Rattle.std.proofs.Common.{◌≡◌, ℕ, zero, suc, ◌+◌, ◌*◌, ◌<◌, ◌≤◌, ◌&&◌, nat_lt, nat_le, Bool, true, false, List, [], ◌∷◌, ◌++◌, map, take, length, get_or, length-append, append_assoc, ap, sym, subst, ◌∙◌, refl, arith}
use Rattle.std.proofs.Math.Seq.{get_or-append_seam}
use Rattle.std.proofs.lemmas.Grind.{common_steps}
use Rattle.std.proofs.lemmas.List.{get_or_append_left, length-map, length_push}
use Rattle.hy_bits.specs.declared.scalar.Scalar.{Scalar}
use Rattle.hy_bits.specs.Scalar.{scalar_width}
use Rattle.c_meaning.specs.declared.types.CType as C
use Rattle.c_meaning.specs.declared.types.CType.TheOpen.{CType-F}
use Rattle.c_meaning.specs.declared.types.CType.TheFolds.{ind-CType, fold-roll-CType}
use Rattle.c_meaning.specs.declared.types.Member.{Member}
use Rattle.c_meaning.specs.declared.types.StructType.{StructType}
use Rattle.c_meaning.specs.Types.{cells_of, layer_cells, struct_cells, layer_scalars, member_scalars, repeated, scalars_of, scalars_after, struct_scalars}
use Rattle.c_meaning.specs.StatementRules.{IsStruct, MembersFill, StructsFit, is_plain, layer_is_plain, most_elements}
use Rattle.cell_widths.specs.Widths.{widths_of}

length-repeated : {A : Type 0} (n : ℕ) (xs : List A) → length (repeated n xs) ≡ n * length xs
length-repeated zero xs = omega arith
length-repeated (suc n) xs = omega (arith, length-append xs (repeated n xs), length-repeated n xs)

-- what is told of structs below a number
abbrev pub Alike : List (List Scalar) → List ℕ → ℕ → Type 0
Alike scalars cells below = (k : ℕ) → k < below → length (get_or scalars k []) ≡ get_or cells k 0

module _ (scalars : List (List Scalar)) (cells : List ℕ) (below : ℕ) (alike : Alike scalars cells below) where
  abbrev pub Same : C.CType → Type 0
  Same c = is_plain below c ≡ true → length (scalars_of scalars c) ≡ cells_of cells c

  scalars_roll : (y : CType-F C.CType) → scalars_of scalars (C.roll-CType y) ≡ layer_scalars scalars (C.map-CType C.CType (List Scalar) (scalars_of scalars) y)
  scalars_roll y = fold-roll-CType (List Scalar) (layer_scalars scalars) y

  cells_roll : (y : CType-F C.CType) → cells_of cells (C.roll-CType y) ≡ layer_cells cells (C.map-CType C.CType ℕ (cells_of cells) y)
  cells_roll y = fold-roll-CType ℕ (layer_cells cells) y

  plain_roll : (y : CType-F C.CType) → is_plain below (C.roll-CType y) ≡ layer_is_plain below (C.map-CType C.CType Bool (is_plain below) y)
  plain_roll y = fold-roll-CType Bool (layer_is_plain below) y

  array : (count : ℕ) (element : C.CType) → Same element → Same (C.roll-CType (CType-F.Array count element))
  array count element has plain =
      let all : (nat_le 1 count && nat_le count most_elements && is_plain below element) ≡ true = sym (plain_roll (CType-F.Array count element)) ∙ plain in
      let inner : is_plain below element ≡ true = grind (arith, common_steps) in
      ap (λ (ts : List Scalar). length ts) (scalars_roll (CType-F.Array count element))
      ∙ length-repeated count (scalars_of scalars element)
      ∙ ap (λ (n : ℕ). count * n) (has inner)
      ∙ sym (cells_roll (CType-F.Array count element))

  struct : (number : ℕ) → Same (C.roll-CType (CType-F.Struct number))
  struct number plain =
      let all : nat_lt number below ≡ true = sym (plain_roll (CType-F.Struct number)) ∙ plain in
      let within : number < below = grind (arith, common_steps) in
      ap (λ (ts : List Scalar). length ts) (scalars_roll (CType-F.Struct number))
      ∙ alike number within
      ∙ sym (cells_roll (CType-F.Struct number))

  integer : (t : Scalar) → Same (C.roll-CType (CType-F.Int t))
  integer t plain = ap (λ (ts : List Scalar). length ts) (scalars_roll (CType-F.Int t)) ∙ sym (cells_roll (CType-F.Int t))

  layer : (X : Type 0) (of : X → C.CType) → ((x : X) → Same (of x)) → (y : CType-F X) → Same (C.roll-CType (C.map-CType X C.CType of y))
  layer X of has CType-F.Void = λ plain. absurd (cc (plain_roll CType-F.Void, plain))
  layer X of has (CType-F.Int t) = integer t
  layer X of has (CType-F.Array count element) = array count (of element) (has element)
  layer X of has (CType-F.Struct number) = struct number
  layer X of has (CType-F.Pointer qualifier to) = λ plain. absurd (cc (plain_roll (CType-F.Pointer qualifier (of to)), plain))

  -- a type of structs below the number
  pub type_count : (c : C.CType) → Same c
  type_count = ind-CType Same (λ x y is. subst (λ z. Same (C.roll-CType z)) is (layer _ (λ e. e.0) (λ e. e.1) y))

  pub members_count : (at : ℕ) (members : List Member) (end : ℕ) → MembersFill cells below at members end → at + length (member_scalars scalars members) ≡ end
  members_count at [] end fill = omega (arith, fill)
  members_count at (member ∷ members) end fill =
      let here = type_count member.ctype fill.0 in
      let rest = members_count (at + member.cells) members end fill.3 in
      omega (arith, length-append (scalars_of scalars member.ctype) (member_scalars scalars members), here, rest, fill.2)

-- one struct more
alike_push : (done : List (List Scalar)) (cells : List ℕ) (x : List Scalar) → Alike done cells (length done) → length x ≡ get_or cells (length done) 0 → Alike (done ++ x ∷ []) cells (length done + 1)
alike_push done cells x alike is k h = cases (nat_lt k (length done)) refl
  where
    cases : (b : Bool) → nat_lt k (length done) ≡ b → length (get_or (done ++ x ∷ []) k []) ≡ get_or cells k 0
    cases true e =
        let before : k < length done = grind (arith, common_steps) in
        ap (λ (ts : List Scalar). length ts) (get_or_append_left done (x ∷ []) [] k before) ∙ alike k before
    cases false e =
        let last : k ≡ length done = grind (arith, common_steps) in
        subst (λ (n : ℕ). length (get_or (done ++ x ∷ []) n []) ≡ get_or cells n 0) (sym last)
        (ap (λ (ts : List Scalar). length ts) (get_or-append_seam done x [] []) ∙ is)

table : (done : List (List Scalar)) (before : List ℕ) (ss : List StructType) → length before ≡ length done → Alike done (before ++ struct_cells ss) (length done)
    → StructsFit (before ++ struct_cells ss) (length done) ss → Alike (scalars_after done ss) (before ++ struct_cells ss) (length done + length ss)
table done before [] same alike fit = λ k h. alike k (omega (arith, h))
table done before (s ∷ ss) same alike fit =
    let all = before ++ struct_cells (s ∷ ss) in
    let x = member_scalars done s.members in
    let count : length x ≡ s.cells = omega (arith, members_count done all (length done) alike 0 s.members s.cells fit.0.members) in
    let there : get_or all (length done) 0 ≡ s.cells = subst (λ (n : ℕ). get_or all n 0 ≡ s.cells) same (get_or-append_seam before s.cells (struct_cells ss) 0) in
    let next = alike_push done all x alike (count ∙ sym there) in
    let longer : length done + 1 ≡ length (done ++ x ∷ []) = sym (length_push done x) in
    let moved : all ≡ (before ++ s.cells ∷ []) ++ struct_cells ss = sym (append_assoc before (s.cells ∷ []) (struct_cells ss)) in
    let next' : Alike (done ++ x ∷ []) ((before ++ s.cells ∷ []) ++ struct_cells ss) (length (done ++ x ∷ [])) =
    subst (λ (cells : List ℕ). Alike (done ++ x ∷ []) cells (length (done ++ x ∷ []))) moved (subst (λ (n : ℕ). Alike (done ++ x ∷ []) all n) longer next) in
    let fit' : StructsFit ((before ++ s.cells ∷ []) ++ struct_cells ss) (length (done ++ x ∷ [])) ss =
    subst (λ (cells : List ℕ). StructsFit cells (length (done ++ x ∷ [])) ss) moved (subst (λ (n : ℕ). StructsFit all n ss) longer fit.1) in
    let rest = table (done ++ x ∷ []) (before ++ s.cells ∷ []) ss (omega (arith, length_push before s.cells, length_push done x, same)) next' fit' in
    subst (λ (cells : List ℕ). Alike (scalars_after done (s ∷ ss)) cells (length done + length (s ∷ ss))) (sym moved)
    (λ k h. rest k (omega (arith, h, length_push done x)))

pub structs_count : (structs : List StructType) → StructsFit (struct_cells structs) 0 structs → Alike (struct_scalars structs) (struct_cells structs) (length structs)
structs_count structs fit = λ k h. table [] [] structs refl (λ j i. absurd (omega (arith, i))) fit k (omega (arith, h))

-- a type of a typed program has as many widths as cells
pub widths_count : (structs : List StructType) → StructsFit (struct_cells structs) 0 structs → (c : C.CType) → is_plain (length structs) c ≡ true → length (widths_of structs c) ≡ cells_of (struct_cells structs) c
widths_count structs fit c plain =
    length-map (scalars_of (struct_scalars structs) c) scalar_width ∙ type_count (struct_scalars structs) (struct_cells structs) (length structs) (structs_count structs fit) c plain
