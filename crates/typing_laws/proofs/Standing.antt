-- Types of structs that stand, and what is looked up in lists that grow at the end.
use Rattle.std.proofs.Common.{◌≡◌, ℕ, zero, suc, ◌<◌, ◌*◌, ◌++◌, nat_lt, Bool, true, Some, List, [], ◌∷◌, map, length, get_or, slice_get, ap, sym, subst, ◌∙◌, refl, arith}
use Rattle.std.proofs.lemmas.Grind.{common_steps}
use Rattle.hy_bits.specs.declared.scalar.Scalar.{Scalar}
use Rattle.c_meaning.specs.declared.types.CType as C
use Rattle.c_meaning.specs.declared.types.CType.TheOpen.{CType-F}
use Rattle.c_meaning.specs.declared.types.CType.TheVariants as ctype
use Rattle.c_meaning.specs.declared.types.CType.TheFolds.{ind-CType, fold-roll-CType, fold_out-CType}
use Rattle.c_meaning.specs.declared.types.Qualifier.{Qualifier}
use Rattle.c_meaning.specs.Types.{cells_of, layer_cells}
use Rattle.typing_laws.specs.Scopes.{is_standing, layer_stands}

pub slice_get-grows : {A : Type 0} (xs ys : List A) (k : ℕ) (x : A) → slice_get xs k ≡ Some x → slice_get (xs ++ ys) k ≡ Some x
slice_get-grows [] ys k x h = absurd (cc)
slice_get-grows (z ∷ xs) ys zero x h = h
slice_get-grows (z ∷ xs) ys (suc k) x h = slice_get-grows xs ys k x h

pub get_or-grows : (xs ys : List ℕ) (k : ℕ) → k < length xs → get_or (xs ++ ys) k 0 ≡ get_or xs k 0
get_or-grows [] ys k h = absurd (omega (arith, h))
get_or-grows (x ∷ xs) ys zero h = refl
get_or-grows (x ∷ xs) ys (suc k) h = get_or-grows xs ys k (omega (arith, h))

pub map-grows : {A B : Type 0} (f : A → B) (xs ys : List A) → map f (xs ++ ys) ≡ map f xs ++ map f ys
map-grows f [] ys = refl
map-grows f (x ∷ xs) ys = ap (λ zs. f x ∷ zs) (map-grows f xs ys)

pub length-mapped : {A B : Type 0} (f : A → B) (xs : List A) → length (map f xs) ≡ length xs
length-mapped f [] = refl
length-mapped f (x ∷ xs) = ap (λ (n : ℕ). suc n) (length-mapped f xs)

stands-rolled : (below : ℕ) (y : CType-F C.CType) → is_standing below (C.roll-CType y) ≡ layer_stands below (C.map-CType C.CType Bool (is_standing below) y)
stands-rolled below y = fold-roll-CType Bool (layer_stands below) y

pub stands-out : (below : ℕ) (c : C.CType) → is_standing below c ≡ layer_stands below (C.map-CType C.CType Bool (is_standing below) (C.out-CType c))
stands-out below c = fold_out-CType Bool (layer_stands below) c

pub pointer-stands : (below : ℕ) (qualifier : Qualifier) (to : C.CType) → is_standing below (ctype.Pointer qualifier to) ≡ is_standing below to
pointer-stands below qualifier to = ap (is_standing below) (sym (ctype.rolls-Pointer qualifier to)) ∙ stands-rolled below (CType-F.Pointer qualifier to)

pub array-stands : (below count : ℕ) (element : C.CType) → is_standing below (ctype.Array count element) ≡ is_standing below element
array-stands below count element = ap (is_standing below) (sym (ctype.rolls-Array count element)) ∙ stands-rolled below (CType-F.Array count element)

pub int-stands : (below : ℕ) (t : Scalar) → is_standing below (ctype.Int t) ≡ true
int-stands below t = ap (is_standing below) (sym (ctype.rolls-Int t)) ∙ stands-rolled below (CType-F.Int t)

-- cells of structs below a number
module _ (old new : List ℕ) (below : ℕ) (alike : (k : ℕ) → k < below → get_or new k 0 ≡ get_or old k 0) where
  abbrev Same : C.CType → Type 0
  Same c = is_standing below c ≡ true → cells_of new c ≡ cells_of old c

  rolled : (cells : List ℕ) (y : CType-F C.CType) → cells_of cells (C.roll-CType y) ≡ layer_cells cells (C.map-CType C.CType ℕ (cells_of cells) y)
  rolled cells y = fold-roll-CType ℕ (layer_cells cells) y

  array : (count : ℕ) (element : C.CType) → Same element → Same (C.roll-CType (CType-F.Array count element))
  array count element same stands =
      rolled new (CType-F.Array count element) ∙ ap (λ (n : ℕ). count * n) (same (sym (stands-rolled below (CType-F.Array count element)) ∙ stands)) ∙ sym (rolled old (CType-F.Array count element))

  struct : (number : ℕ) → Same (C.roll-CType (CType-F.Struct number))
  struct number stands =
      let all : nat_lt number below ≡ true = sym (stands-rolled below (CType-F.Struct number)) ∙ stands in
      let within : number < below = grind (arith, common_steps) in
      rolled new (CType-F.Struct number) ∙ alike number within ∙ sym (rolled old (CType-F.Struct number))

  layer : (X : Type 0) (of : X → C.CType) → ((x : X) → Same (of x)) → (y : CType-F X) → Same (C.roll-CType (C.map-CType X C.CType of y))
  layer X of same CType-F.Void = λ stands. rolled new CType-F.Void ∙ sym (rolled old CType-F.Void)
  layer X of same (CType-F.Int t) = λ stands. rolled new (CType-F.Int t) ∙ sym (rolled old (CType-F.Int t))
  layer X of same (CType-F.Array count element) = array count (of element) (same element)
  layer X of same (CType-F.Struct number) = struct number
  layer X of same (CType-F.Pointer qualifier to) = λ stands. rolled new (CType-F.Pointer qualifier (of to)) ∙ sym (rolled old (CType-F.Pointer qualifier (of to)))

  pub same-cells : (c : C.CType) → is_standing below c ≡ true → cells_of new c ≡ cells_of old c
  same-cells = ind-CType Same (λ x y is. subst (λ z. Same (C.roll-CType z)) is (layer _ (λ e. e.0) (λ e. e.1) y))
