-- Names, members, pointers and what they designate, and the values of places.
use Rattle.std.proofs.Common.{◌≡◌, ◌≢◌, ℕ, Some, slice_get, IsSome, ap, sym, subst, ◌∙◌, refl}
use Rattle.hy_bits.specs.declared.scalar.Scalar.{Scalar}
use Rattle.hy_bits.specs.Scalar.{scalar_width}
use Rattle.hy_bits.specs.Words.{IsWord}
use Rattle.c_tree.specs.declared.token.Place.{Place}
use Rattle.c_meaning.specs.declared.types.CType.{CType}
use Rattle.c_meaning.specs.declared.types.CType.TheVariants as ctype
use Rattle.c_meaning.specs.declared.types.Qualifier.{Qualifier}
use Rattle.c_meaning.specs.declared.types.Member.{Member}
use Rattle.c_meaning.specs.declared.types.Object.{Object}
use Rattle.c_meaning.specs.declared.types.ValueKind.TheVariants as kind
use Rattle.c_meaning.specs.declared.expressions.TypedExpr.{TypedExpr}
use Rattle.c_meaning.specs.declared.expressions.TypedExpr.TheVariants as expr
use Rattle.c_meaning.specs.declared.expressions.Lvalue.{Lvalue}
use Rattle.c_meaning.specs.declared.expressions.Lvalue.TheVariants as lvalue
use Rattle.c_meaning.specs.declared.expressions.Lvalue.TheOpen.{Lvalue-F, TypedExpr-F}
use Rattle.c_meaning.specs.Types.{cells_of, struct_cells, kind_of}
use Rattle.c_meaning.specs.TypeRules.{Scope, Typed, Designated, of_scalar, pointee, layer_pointee, members_of, member_designated, member_in, loaded, layer_decayed, decayed_as, pointer_at, object_designated}
use Rattle.typing_laws.specs.Values.{HasType, IsPlace}
use Rattle.typing_laws.proofs.Making.{made-expr, made-lvalue}

module _ (scope : Scope) where
  -- ---- values of places (C11 6.3.2.1p2, p3)

  pub load-typed : (l : Lvalue) (c : CType) (q : Qualifier) → IsPlace scope l c q → kind_of c ≢ kind.Void → HasType scope (expr.Load (kind_of c) l) (Typed c)
  load-typed l c q p some =
      made-expr scope (TypedExpr-F.Load (kind_of c) l) (expr.Load (kind_of c) l) (Typed c) (expr.rolls-Load (kind_of c) l)
      (c, ap (λ (d : Designated). d.ctype) p.1, refl, some) p.0 (ap (λ (d : Designated). loaded d.ctype) p.1)

  pub decay-typed : (l : Lvalue) (count : ℕ) (element : CType) (q : Qualifier) (cells : ℕ) → IsPlace scope l (ctype.Array count element) q → cells_of (struct_cells scope.structs) element ≡ cells
      → HasType scope (expr.Decay cells count l) (Typed (ctype.Pointer q element))
  decay-typed l count element q cells p few =
      made-expr scope (TypedExpr-F.Decay cells count l) (expr.Decay cells count l) (Typed (ctype.Pointer q element)) (expr.rolls-Decay cells count l)
      (element, ap (λ (d : Designated). d.ctype) p.1, few) p.0
      (ap (λ (d : Designated). decayed_as d.qualifier d.ctype) p.1 ∙ ap (layer_decayed q) (ctype.outs-Array count element))

  -- ---- places

  pub object-typed : (place : Place) (k : ℕ) (object : Object) → slice_get scope.objects k ≡ Some object → IsPlace scope (lvalue.Object place k object.cells) object.ctype object.qualifier
  object-typed place k object found =
      made-lvalue scope (Lvalue-F.Object place k object.cells) (lvalue.Object place k object.cells) (record { ctype = Some object.ctype; qualifier = object.qualifier })
      (lvalue.rolls-Object place k object.cells) (object, found, refl) tt (ap object_designated found)

  pub pointee-is : (q : Qualifier) (to : CType) → pointee (Typed (ctype.Pointer q to)) ≡ record { ctype = Some to; qualifier = q }
  pointee-is q to = ap layer_pointee (ctype.outs-Pointer q to)

  pub indirection-typed : (place : Place) (e : TypedExpr) (q : Qualifier) (to : CType) → HasType scope e (Typed (ctype.Pointer q to)) → IsPlace scope (lvalue.Indirection place e) to q
  indirection-typed place e q to h =
      let is = ap pointee h.1 ∙ pointee-is q to in
      made-lvalue scope (Lvalue-F.Indirection place e) (lvalue.Indirection place e) (record { ctype = Some to; qualifier = q })
      (lvalue.rolls-Indirection place e) (subst (λ (d : Designated). IsSome d.ctype) (sym is) refl) h.0 is

  pub subscript-typed : (place : Place) (e index : TypedExpr) (q : Qualifier) (to : CType) (t : Scalar) → HasType scope e (Typed (ctype.Pointer q to)) → HasType scope index (of_scalar t)
      → IsPlace scope (lvalue.Subscript place e t index) to q
  subscript-typed place e index q to t h i =
      let is = ap pointee h.1 ∙ pointee-is q to in
      made-lvalue scope (Lvalue-F.Subscript place e t index) (lvalue.Subscript place e t index) (record { ctype = Some to; qualifier = q })
      (lvalue.rolls-Subscript place e t index) (subst (λ (d : Designated). IsSome d.ctype) (sym is) refl, i.1) (h.0, i.0) is

  pub member-typed : (place : Place) (of : Lvalue) (c : CType) (q : Qualifier) (m : ℕ) (member : Member) → IsPlace scope of c q → slice_get (members_of scope.structs (Some c)) m ≡ Some member
      → IsPlace scope (lvalue.Member place of m member.offset member.cells) member.ctype q
  member-typed place of c q m member p found =
      let is = ap (λ (d : Designated). slice_get (members_of scope.structs d.ctype) m) p.1 ∙ found in
      made-lvalue scope (Lvalue-F.Member place of m member.offset member.cells) (lvalue.Member place of m member.offset member.cells) (record { ctype = Some member.ctype; qualifier = q })
      (lvalue.rolls-Member place of m member.offset member.cells) (member, is, refl, refl) p.0
      (ap (λ (d : Designated). member_in scope.structs d m) p.1 ∙ ap (member_designated q) found)

  pub arrow-typed : (place : Place) (e : TypedExpr) (q : Qualifier) (to : CType) (m : ℕ) (member : Member) → HasType scope e (Typed (ctype.Pointer q to)) → slice_get (members_of scope.structs (Some to)) m ≡ Some member
      → IsPlace scope (lvalue.Arrow place e m member.offset member.cells) member.ctype q
  arrow-typed place e q to m member h found =
      let at = ap pointee h.1 ∙ pointee-is q to in
      let is = ap (λ (d : Designated). slice_get (members_of scope.structs d.ctype) m) at ∙ found in
      made-lvalue scope (Lvalue-F.Arrow place e m member.offset member.cells) (lvalue.Arrow place e m member.offset member.cells) (record { ctype = Some member.ctype; qualifier = q })
      (lvalue.rolls-Arrow place e m member.offset member.cells) (member, is, refl, refl) h.0
      (ap (λ (d : Designated). member_in scope.structs d m) at ∙ ap (member_designated q) found)

  -- ---- literals and addresses

  pub constant-typed : (place : Place) (t : Scalar) (w : ℕ) → IsWord (scalar_width t) w → HasType scope (expr.Constant place t w) (of_scalar t)
  constant-typed place t w word = made-expr scope (TypedExpr-F.Constant place t w) (expr.Constant place t w) (of_scalar t) (expr.rolls-Constant place t w) word tt refl

  pub address-typed : (place : Place) (of : Lvalue) (c : CType) (q : Qualifier) → IsPlace scope of c q → kind_of c ≢ kind.Pointer → HasType scope (expr.Address place of) (Typed (ctype.Pointer q c))
  address-typed place of c q p none =
      made-expr scope (TypedExpr-F.Address place of) (expr.Address place of) (Typed (ctype.Pointer q c)) (expr.rolls-Address place of)
      (c, ap (λ (d : Designated). d.ctype) p.1, none) p.0 (ap (λ (d : Designated). pointer_at d.qualifier d.ctype) p.1)
