-- The members of structs that fit are of types without pointers.
use Rattle.std.proofs.Common.{◌≡◌, ℕ, zero, suc, ◌+◌, ◌≤◌, ◌<◌, ◌&&◌, nat_le, nat_lt, Bool, true, Some, List, [], ◌∷◌, length, slice_get, ap, sym, subst, ◌∙◌, arith}
use Rattle.std.proofs.lemmas.Grind.{common_steps}
use Rattle.c_meaning.specs.declared.types.CType as C
use Rattle.c_meaning.specs.declared.types.CType.TheOpen.{CType-F}
use Rattle.c_meaning.specs.declared.types.CType.TheFolds.{ind-CType, fold-roll-CType}
use Rattle.c_meaning.specs.declared.types.Member.{Member}
use Rattle.c_meaning.specs.declared.types.StructType.{StructType}
use Rattle.c_meaning.specs.Types.{cells_of, struct_cells}
use Rattle.c_meaning.specs.StatementRules.{IsStruct, MembersFill, StructsFit, is_plain, layer_is_plain, most_elements}
use Rattle.typing_laws.specs.Passing.{MembersArePlain}

-- ---- more structs that stand

module _ (a b : ℕ) (more : a ≤ b) where
  abbrev More : C.CType → Type 0
  More c = is_plain a c ≡ true → is_plain b c ≡ true

  rolled : (n : ℕ) (y : CType-F C.CType) → is_plain n (C.roll-CType y) ≡ layer_is_plain n (C.map-CType C.CType Bool (is_plain n) y)
  rolled n y = fold-roll-CType Bool (layer_is_plain n) y

  array : (count : ℕ) (element : C.CType) → More element → More (C.roll-CType (CType-F.Array count element))
  array count element has h =
      let all : (nat_le 1 count && nat_le count most_elements && is_plain a element) ≡ true = sym (rolled a (CType-F.Array count element)) ∙ h in
      let inner : is_plain a element ≡ true = grind (arith, common_steps) in
      rolled b (CType-F.Array count element) ∙ ap (λ (p : Bool). nat_le 1 count && nat_le count most_elements && p) (has inner ∙ sym inner) ∙ all

  struct : (number : ℕ) → More (C.roll-CType (CType-F.Struct number))
  struct number h =
      let all : nat_lt number a ≡ true = sym (rolled a (CType-F.Struct number)) ∙ h in
      let within : number < a = grind (arith, common_steps) in
      let still : number < b = omega (arith, within, more) in
      let told : nat_lt number b ≡ true = grind (arith, common_steps) in
      rolled b (CType-F.Struct number) ∙ told

  layer : (X : Type 0) (of : X → C.CType) → ((x : X) → More (of x)) → (y : CType-F X) → More (C.roll-CType (C.map-CType X C.CType of y))
  layer X of has CType-F.Void = λ h. absurd (cc (rolled a CType-F.Void, h))
  layer X of has (CType-F.Int t) = λ h. rolled b (CType-F.Int t)
  layer X of has (CType-F.Array count element) = array count (of element) (has element)
  layer X of has (CType-F.Struct number) = struct number
  layer X of has (CType-F.Pointer q to) = λ h. absurd (cc (rolled a (CType-F.Pointer q (of to)), h))

  pub plain-more : (c : C.CType) → is_plain a c ≡ true → is_plain b c ≡ true
  plain-more = ind-CType More (λ x y is. subst (λ z. More (C.roll-CType z)) is (layer _ (λ e. e.0) (λ e. e.1) y))

-- ---- members

fill-end : (cells : List ℕ) (below at : ℕ) (members : List Member) (end : ℕ) → MembersFill cells below at members end → at ≤ end
fill-end cells below at [] end h = omega (arith, h)
fill-end cells below at (member ∷ members) end h = let rest = fill-end cells below (at + member.cells) members end h.3 in omega (arith, rest)

fill-member : (cells : List ℕ) (below at : ℕ) (members : List Member) (end m : ℕ) (member : Member) → MembersFill cells below at members end → slice_get members m ≡ Some member
    → (is_plain below member.ctype ≡ true) × (cells_of cells member.ctype ≤ end)
fill-member cells below at [] end m member h e = absurd (cc)
fill-member cells below at (first ∷ members) end zero member h e =
    let same : first ≡ member = cc in
    let rest = fill-end cells below (at + first.cells) members end h.3 in
    subst (λ (x : Member). (is_plain below x.ctype ≡ true) × (cells_of cells x.ctype ≤ end)) same (h.0, omega (arith, rest, h.2))
fill-member cells below at (first ∷ members) end (suc m) member h e = fill-member cells below (at + first.cells) members end m member h.3 e

struct-fits : (cells : List ℕ) (below : ℕ) (structs : List StructType) (k : ℕ) (s : StructType) → StructsFit cells below structs → slice_get structs k ≡ Some s
    → (n : ℕ) × (n < below + length structs) × IsStruct cells n s
struct-fits cells below [] k s h e = absurd (cc)
struct-fits cells below (first ∷ structs) zero s h e =
    let same : first ≡ s = cc in
    (below, omega arith, subst (λ (x : StructType). IsStruct cells below x) same h.0)
struct-fits cells below (first ∷ structs) (suc k) s h e =
    let rest = struct-fits cells (below + 1) structs k s h.1 e in
    (rest.0, omega (arith, rest.1), rest.2)

pub members-plain : (structs : List StructType) → StructsFit (struct_cells structs) 0 structs → MembersArePlain structs
members-plain structs h k s m member e f =
    let at = struct-fits (struct_cells structs) 0 structs k s h e in
    let fill = fill-member (struct_cells structs) at.0 0 s.members s.cells m member at.2.members f in
    let few = at.2.few in
    (plain-more at.0 (length structs) (omega (arith, at.1)) member.ctype fill.0, omega (arith, fill.1, few))
