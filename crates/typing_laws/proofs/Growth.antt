-- What is typed in a scope is typed, with the same type, in a scope that grows from it.
use Rattle.std.proofs.Common.{◌≡◌, ℕ, ◌<◌, ◌++◌, Bool, true, Option, None, Some, List, [], length, get_or, slice_get, ap, sym, subst, ◌∙◌, refl}
use Rattle.hy_bits.specs.declared.scalar.Scalar.TheVariants.{S32}
use Rattle.c_meaning.specs.declared.types.CType.{CType, out-CType, map-CType}
use Rattle.c_meaning.specs.declared.types.CType.TheOpen.{CType-F}
use Rattle.c_meaning.specs.declared.types.Qualifier.{Qualifier}
use Rattle.c_meaning.specs.declared.types.Member.{Member}
use Rattle.c_meaning.specs.declared.types.Object.{Object}
use Rattle.c_meaning.specs.declared.types.StructType.{StructType}
use Rattle.c_meaning.specs.declared.operators.Conversion.{Conversion}
use Rattle.c_meaning.specs.declared.operators.Conversion.TheVariants as conversion
use Rattle.c_meaning.specs.declared.operators.Operation.{Operation}
use Rattle.c_meaning.specs.declared.operators.Operation.TheVariants as operation
use Rattle.c_meaning.specs.declared.programs.TypedFunction.{TypedFunction}
use Rattle.c_meaning.specs.Operations.{left_type}
use Rattle.c_meaning.specs.Types.{cells_of, struct_cells}
use Rattle.c_meaning.specs.TypeRules.{Scope, ExprType, Untyped, AnyPointer, Typed, pointee, layer_pointee, layer_members, members_of, loaded, layer_decayed, decayed_as, pointer_at, layer_with, chosen_type, converted_where, combined_type}
use Rattle.typing_laws.specs.Scopes.{ScopeGrows, ScopeStands, TypeStands, CTypeStands, is_standing, layer_stands}
use Rattle.typing_laws.proofs.Standing.{slice_get-grows, get_or-grows, map-grows, length-mapped, pointer-stands, int-stands, stands-out, same-cells}

-- ---- types that stand, over plain values

module _ (n : ℕ) where
  pub pointee-stands-layer : (y : CType-F CType) → layer_stands n (map-CType CType Bool (is_standing n) y) ≡ true → CTypeStands n (layer_pointee y).ctype
  pointee-stands-layer CType-F.Void h = tt
  pointee-stands-layer (CType-F.Int t) h = tt
  pointee-stands-layer (CType-F.Array count element) h = tt
  pointee-stands-layer (CType-F.Struct number) h = tt
  pointee-stands-layer (CType-F.Pointer qualifier to) h = h

  pub pointee-stands : (t : ExprType) → TypeStands n t → CTypeStands n (pointee t).ctype
  pointee-stands Untyped h = tt
  pointee-stands AnyPointer h = tt
  pointee-stands (Typed c) h = pointee-stands-layer (out-CType c) (sym (stands-out n c) ∙ h)

  pub loaded-stands : (c : Option CType) → CTypeStands n c → TypeStands n (loaded c)
  loaded-stands None h = tt
  loaded-stands (Some c) h = h

  decayed-stands-layer : (qualifier : Qualifier) (y : CType-F CType) → layer_stands n (map-CType CType Bool (is_standing n) y) ≡ true → TypeStands n (layer_decayed qualifier y)
  decayed-stands-layer qualifier CType-F.Void h = tt
  decayed-stands-layer qualifier (CType-F.Int t) h = tt
  decayed-stands-layer qualifier (CType-F.Array count element) h = pointer-stands n qualifier element ∙ h
  decayed-stands-layer qualifier (CType-F.Struct number) h = tt
  decayed-stands-layer qualifier (CType-F.Pointer own to) h = tt

  pub decayed-stands : (qualifier : Qualifier) (c : Option CType) → CTypeStands n c → TypeStands n (decayed_as qualifier c)
  decayed-stands qualifier None h = tt
  decayed-stands qualifier (Some c) h = decayed-stands-layer qualifier (out-CType c) (sym (stands-out n c) ∙ h)

  pub pointer-at-stands : (qualifier : Qualifier) (c : Option CType) → CTypeStands n c → TypeStands n (pointer_at qualifier c)
  pointer-at-stands qualifier None h = tt
  pointer-at-stands qualifier (Some c) h = pointer-stands n qualifier c ∙ h

  with-stands-layer : (qualifier : Qualifier) (c : CType) (y : CType-F CType) → is_standing n c ≡ true → layer_stands n (map-CType CType Bool (is_standing n) y) ≡ true → TypeStands n (layer_with qualifier c y)
  with-stands-layer qualifier c CType-F.Void g h = g
  with-stands-layer qualifier c (CType-F.Int t) g h = g
  with-stands-layer qualifier c (CType-F.Array count element) g h = g
  with-stands-layer qualifier c (CType-F.Struct number) g h = g
  with-stands-layer qualifier c (CType-F.Pointer own to) g h = pointer-stands n _ to ∙ h

  pub chosen-stands : (second third : ExprType) → TypeStands n second → TypeStands n third → TypeStands n (chosen_type second third)
  chosen-stands Untyped third g h = tt
  chosen-stands AnyPointer third g h = h
  chosen-stands (Typed c) third g h = with-stands-layer (pointee third).qualifier c (out-CType c) g (sym (stands-out n c) ∙ g)

  pub converted-stands : (conversion : Option Conversion) (left : ExprType) → TypeStands n left → TypeStands n (converted_where conversion left)
  converted-stands None left h = h
  converted-stands (Some (conversion.Integer from to)) left h = int-stands n to
  converted-stands (Some conversion.NullPointer) left h = tt

  pub combined-stands : (op : Operation) (left right : ExprType) → TypeStands n left → TypeStands n right → TypeStands n (combined_type op left right)
  combined-stands (operation.Integer op) left right g h = int-stands n (left_type op)
  combined-stands (operation.Comparison op t) left right g h = int-stands n S32
  combined-stands (operation.Offset way t) left right g h = g
  combined-stands (operation.OffsetOnLeft t) left right g h = h
  combined-stands (operation.Pointers op) left right g h = int-stands n S32

-- ---- lookups

module _ (old new : Scope) (grows : ScopeGrows old new) (stand : ScopeStands old) where
  abbrev n : ℕ
  n = length old.structs

  pub object-kept : (k : ℕ) (object : Object) → slice_get old.objects k ≡ Some object → slice_get new.objects k ≡ Some object
  object-kept k object h = subst (λ (os : List Object). slice_get os k ≡ Some object) (sym grows.objects.1) (slice_get-grows old.objects grows.objects.0 k object h)

  pub struct-kept : (k : ℕ) (s : StructType) → slice_get old.structs k ≡ Some s → slice_get new.structs k ≡ Some s
  struct-kept k s h = subst (λ (ss : List StructType). slice_get ss k ≡ Some s) (sym grows.structs.1) (slice_get-grows old.structs grows.structs.0 k s h)

  pub function-kept : (k : ℕ) (f : TypedFunction) → slice_get old.functions k ≡ Some f → slice_get new.functions k ≡ Some f
  function-kept k f h = subst (λ (fs : List TypedFunction). slice_get fs k ≡ Some f) (sym grows.functions.1) (slice_get-grows old.functions grows.functions.0 k f h)

  cells-alike : (k : ℕ) → k < n → get_or (struct_cells new.structs) k 0 ≡ get_or (struct_cells old.structs) k 0
  cells-alike k h =
      let more : struct_cells new.structs ≡ struct_cells old.structs ++ struct_cells grows.structs.0 =
      ap (λ (ss : List StructType). struct_cells ss) grows.structs.1 ∙ map-grows (λ (s : StructType). s.cells) old.structs grows.structs.0 in
      let within : k < length (struct_cells old.structs) = subst (λ (m : ℕ). k < m) (sym (length-mapped (λ (s : StructType). s.cells) old.structs)) h in
      ap (λ (cs : List ℕ). get_or cs k 0) more ∙ get_or-grows (struct_cells old.structs) (struct_cells grows.structs.0) k within

  pub cells-kept : (c : CType) → is_standing n c ≡ true → cells_of (struct_cells new.structs) c ≡ cells_of (struct_cells old.structs) c
  cells-kept = same-cells (struct_cells old.structs) (struct_cells new.structs) n cells-alike

  members-at : (number m : ℕ) (member : Member) (o : Option StructType) → slice_get old.structs number ≡ o → slice_get (layer_members old.structs (CType-F.Struct number)) m ≡ Some member
      → slice_get (layer_members new.structs (CType-F.Struct number)) m ≡ Some member
  members-at number m member None e h = absurd (cc)
  members-at number m member (Some s) e h =
      let before : layer_members old.structs (CType-F.Struct number) ≡ s.members = ap (λ (o : Option StructType). elim o [ None ↦ [] | Some s ↦ s.members ]) e in
      let after : layer_members new.structs (CType-F.Struct number) ≡ s.members = ap (λ (o : Option StructType). elim o [ None ↦ [] | Some s ↦ s.members ]) (struct-kept number s e) in
      ap (λ (ms : List Member). slice_get ms m) (after ∙ sym before) ∙ h

  members-kept-layer : (y : CType-F CType) (m : ℕ) (member : Member) → slice_get (layer_members old.structs y) m ≡ Some member → slice_get (layer_members new.structs y) m ≡ Some member
  members-kept-layer CType-F.Void m member h = h
  members-kept-layer (CType-F.Int t) m member h = h
  members-kept-layer (CType-F.Array count element) m member h = h
  members-kept-layer (CType-F.Struct number) m member h = members-at number m member (slice_get old.structs number) refl h
  members-kept-layer (CType-F.Pointer qualifier to) m member h = h

  pub members-kept : (c : Option CType) (m : ℕ) (member : Member) → slice_get (members_of old.structs c) m ≡ Some member → slice_get (members_of new.structs c) m ≡ Some member
  members-kept None m member h = h
  members-kept (Some c) m member h = members-kept-layer (out-CType c) m member h

  member-stands-at : (number m : ℕ) (member : Member) (o : Option StructType) → slice_get old.structs number ≡ o → slice_get (layer_members old.structs (CType-F.Struct number)) m ≡ Some member
      → is_standing n member.ctype ≡ true
  member-stands-at number m member None e h = absurd (cc)
  member-stands-at number m member (Some s) e h =
      let before : layer_members old.structs (CType-F.Struct number) ≡ s.members = ap (λ (o : Option StructType). elim o [ None ↦ [] | Some s ↦ s.members ]) e in
      stand.members number s m member e (ap (λ (ms : List Member). slice_get ms m) (sym before) ∙ h)

  member-stands-layer : (y : CType-F CType) (m : ℕ) (member : Member) → slice_get (layer_members old.structs y) m ≡ Some member → is_standing n member.ctype ≡ true
  member-stands-layer CType-F.Void m member h = absurd (cc)
  member-stands-layer (CType-F.Int t) m member h = absurd (cc)
  member-stands-layer (CType-F.Array count element) m member h = absurd (cc)
  member-stands-layer (CType-F.Struct number) m member h = member-stands-at number m member (slice_get old.structs number) refl h
  member-stands-layer (CType-F.Pointer qualifier to) m member h = absurd (cc)

  pub member-stands : (c : Option CType) (m : ℕ) (member : Member) → slice_get (members_of old.structs c) m ≡ Some member → is_standing n member.ctype ≡ true
  member-stands None m member h = absurd (cc)
  member-stands (Some c) m member h = member-stands-layer (out-CType c) m member h
