-- The productions of subscripts, members, casts and names: where they pass, they pass with what is typed.
use Rattle.std.proofs.Common.{◌≡◌, ℕ, Option, None, Some, List, [], slice_get, ap, subst, ◌∙◌, refl}
use Rattle.hy_bits.specs.declared.scalar.Scalar.{Scalar}
use Rattle.c_tree.specs.declared.token.Place.{Place}
use Rattle.c_tree.specs.declared.expressions.Identifier.{Identifier}
use Rattle.c_meaning.specs.declared.types.CType.{CType, out-CType}
use Rattle.c_meaning.specs.declared.types.CType.TheOpen.{CType-F}
use Rattle.c_meaning.specs.declared.types.CType.TheVariants as ctype
use Rattle.c_meaning.specs.declared.types.Qualifier.{Qualifier}
use Rattle.c_meaning.specs.declared.types.Member.{Member}
use Rattle.c_meaning.specs.declared.types.StructType.{StructType}
use Rattle.c_meaning.specs.declared.types.ValueKind.{ValueKind}
use Rattle.c_meaning.specs.declared.types.ValueKind.TheVariants as kind
use Rattle.c_meaning.specs.declared.expressions.TypedExpr.TheVariants as expr
use Rattle.c_meaning.specs.declared.expressions.Lvalue.{Lvalue}
use Rattle.c_meaning.specs.declared.expressions.Lvalue.TheVariants as lvalue
use Rattle.c_meaning.specs.Types.{kind_of, layer_kind}
use Rattle.c_meaning.specs.TypeRules.{Scope, Typed, layer_members, members_of}
use Rattle.c_conversions.specs.declared.fault.TypeKind.TheVariants.{Unknown, Mismatch}
use Rattle.c_conversions.specs.Operators.{cast}
use Rattle.c_typing.specs.declared.environment.Environment.{Environment}
use Rattle.c_typing.specs.declared.postfix.NumberedMember.{NumberedMember}
use Rattle.c_typing.specs.declared.values.TypedValue.{TypedValue}
use Rattle.c_typing.specs.declared.values.Typing.{Typing}
use Rattle.c_typing.specs.declared.values.Typing.TheVariants.{Designates, Gives}
use Rattle.c_typing.specs.Walks.{Checked, Breaks, Passes, Walk, after, unless, unless_none}
use Rattle.c_typing.specs.Values.{kind_operand, layer_pointee, scalar_of_kind, struct_number_of_kind}
use Rattle.c_typing.specs.Expressions.{cast_from, subscript, subscript_of, value_gives, member_at, numbered, found_in, member_of, member_typing, arrow}
use Rattle.typing_laws.specs.Values.{HasType, IsValue, IsTyping, layer_is_value}
use Rattle.typing_laws.specs.Passing.{Passing, TypedIn, MembersArePlain, scope_of}
use Rattle.typing_laws.proofs.Places.{subscript-typed, member-typed, arrow-typed}
use Rattle.typing_laws.proofs.Conversions.{cast-typed}
use Rattle.typing_laws.proofs.Unary.{integer-is, pointer-made, int-value, plain-place}

-- walks one after another
pub passing-after : {A B : Type 0} (P : A → Environment → Type 0) (Q : B → Environment → Type 0) (c : Checked A) (next : A → Walk B)
    → Passing P c → ((a : A) (env : Environment) → P a env → Passing Q (next a env)) → Passing Q (after c next)
passing-after P Q (Breaks kind place) next h then = tt
passing-after P Q (Passes a env) next h then = then a env h

module _ (env : Environment) where
  abbrev scope : Scope
  scope = scope_of env

  as-int : (value : TypedValue) (t : Scalar) → IsValue scope value → kind_of value.ctype ≡ kind.Integer t → HasType scope value.expr (Typed (ctype.Int t))
  as-int value t h k = subst (λ (c : CType). HasType scope value.expr (Typed c)) (integer-is value.ctype t k) h.0

  as-pointer : (value : TypedValue) (q : Qualifier) (to : CType) → IsValue scope value → out-CType value.ctype ≡ CType-F.Pointer q to → HasType scope value.expr (Typed (ctype.Pointer q to))
  as-pointer value q to h e = subst (λ (c : CType). HasType scope value.expr (Typed c)) (pointer-made value.ctype q to e) h.0

  -- C11 6.5.2.1
  subscript-by : (place : Place) (pointer index : TypedValue) (q : Qualifier) (to : CType) (k : ValueKind) → out-CType pointer.ctype ≡ CType-F.Pointer q to → kind_of index.ctype ≡ k
      → IsValue scope pointer → IsValue scope index
      → Passing (TypedIn env) (unless_none Mismatch place (scalar_of_kind k) (λ t env. Passes (subscript_of place pointer (record { qualifier = q; ctype = to }) t index) env) env)
  subscript-by place pointer index q to kind.Void e k h i = tt
  subscript-by place pointer index q to (kind.Integer t) e k h i =
      (refl, (subscript-typed scope place pointer.expr index.expr q to t (as-pointer pointer q to h e) (as-int index t i k), plain-place env.structs to (subst (layer_is_value env.structs) e h.1)))
  subscript-by place pointer index q to kind.Pointer e k h i = tt
  subscript-by place pointer index q to (kind.Struct number) e k h i = tt

  subscript-at : (place : Place) (pointer index : TypedValue) (y : CType-F CType) → out-CType pointer.ctype ≡ y → IsValue scope pointer → IsValue scope index
      → Passing (TypedIn env) (unless_none Mismatch place (layer_pointee y)
      (λ to env. unless_none Mismatch place (scalar_of_kind (kind_of index.ctype)) (λ t env. Passes (subscript_of place pointer to t index) env) env) env)
  subscript-at place pointer index CType-F.Void e h i = tt
  subscript-at place pointer index (CType-F.Int t) e h i = tt
  subscript-at place pointer index (CType-F.Array count element) e h i = tt
  subscript-at place pointer index (CType-F.Struct number) e h i = tt
  subscript-at place pointer index (CType-F.Pointer q to) e h i = subscript-by place pointer index q to (kind_of index.ctype) e refl h i

  pub subscript-passing : (place : Place) (pointer index : TypedValue) → IsValue scope pointer → IsValue scope index → Passing (TypedIn env) (subscript place pointer index env)
  subscript-passing place pointer index h i = subscript-at place pointer index (out-CType pointer.ctype) refl h i

  -- C11 6.5.4p2
  cast-at : (place : Place) (value : TypedValue) (j k : ValueKind) → kind_of value.ctype ≡ k → IsValue scope value
      → Passing (TypedIn env) (unless place (cast j (kind_operand k))
      (λ to env. unless_none Mismatch place (scalar_of_kind k) (λ from env. Passes (value_gives (expr.Cast place from to value.expr) (ctype.Int to)) env) env) env)
  cast-at place value j kind.Void k h = tt
  cast-at place value kind.Void (kind.Integer from) k h = tt
  cast-at place value (kind.Integer to) (kind.Integer from) k h = (refl, (cast-typed scope place value.expr from to (as-int value from h k), int-value env.structs to))
  cast-at place value kind.Pointer (kind.Integer from) k h = tt
  cast-at place value (kind.Struct number) (kind.Integer from) k h = tt
  cast-at place value j kind.Pointer k h = tt
  cast-at place value j (kind.Struct number) k h = tt

  pub cast-passing : (place : Place) (target : CType) (value : TypedValue) → IsValue scope value → Passing (TypedIn env) (cast_from place target value env)
  cast-passing place target value h = cast-at place value (kind_of target) (kind_of value.ctype) refl h

  -- ---- members (C11 6.5.2.3)

  members-layer : (y : CType-F CType) (number : ℕ) (s : StructType) → layer_kind y ≡ kind.Struct number → slice_get env.structs number ≡ Some s → layer_members env.structs y ≡ s.members
  members-layer CType-F.Void number s k e = absurd (cc)
  members-layer (CType-F.Int t) number s k e = absurd (cc)
  members-layer (CType-F.Array count element) number s k e = absurd (cc)
  members-layer (CType-F.Struct own) number s k e =
      let same : own ≡ number = cc in
      ap (λ (o : Option StructType). elim o [ None ↦ [] | Some s ↦ s.members ]) (ap (slice_get env.structs) same ∙ e)
  members-layer (CType-F.Pointer q to) number s k e = absurd (cc)

  members-are : (c : CType) (number : ℕ) (s : StructType) → kind_of c ≡ kind.Struct number → slice_get env.structs number ≡ Some s → members_of env.structs (Some c) ≡ s.members
  members-are c number s k e = members-layer (out-CType c) number s k e

  abbrev numbered_as : ℕ → Member → NumberedMember
  numbered_as m member = record { number = m; offset = member.offset; cells = member.cells; ctype = member.ctype }

  module _ (at : Place) (number : ℕ) (next : NumberedMember → Typing)
      (typed : (s : StructType) (m : ℕ) (member : Member) → slice_get env.structs number ≡ Some s → slice_get s.members m ≡ Some member → IsTyping scope (next (numbered_as m member))) where
    numbered-in : (s : StructType) (m : ℕ) (o : Option Member) → slice_get env.structs number ≡ Some s → slice_get s.members m ≡ o
        → Passing (TypedIn env) (unless_none Unknown at (numbered m o) (λ n env. Passes (next n) env) env)
    numbered-in s m None e f = tt
    numbered-in s m (Some member) e f = (refl, typed s m member e f)

    found-in : (o : Option StructType) (f : Option ℕ) → slice_get env.structs number ≡ o → Passing (TypedIn env) (unless_none Unknown at (member_at o f) (λ n env. Passes (next n) env) env)
    found-in None f e = tt
    found-in (Some s) None e = tt
    found-in (Some s) (Some m) e = numbered-in s m (slice_get s.members m) e refl

  member-by : MembersArePlain env.structs → (place : Place) (name : Identifier) (of : Lvalue) (c : CType) (q : Qualifier) (k : ValueKind) → kind_of c ≡ k → IsTyping scope (Designates of c q)
      → Passing (TypedIn env) (unless_none Mismatch place (struct_number_of_kind k)
      (λ s env. unless_none Unknown name.place (member_of env s name.text) (λ m env. Passes (Designates (lvalue.Member place of m.number m.offset m.cells) m.ctype q) env) env) env)
  member-by plain place name of c q kind.Void k h = tt
  member-by plain place name of c q (kind.Integer t) k h = tt
  member-by plain place name of c q kind.Pointer k h = tt
  member-by plain place name of c q (kind.Struct number) k h =
      found-in name.place number (λ m. Designates (lvalue.Member place of m.number m.offset m.cells) m.ctype q)
      (λ s m member e f. (member-typed scope place of c q m member h.0 (ap (λ (ms : List Member). slice_get ms m) (members-are c number s k e) ∙ f), plain-place env.structs member.ctype (plain number s m member e f)))
      (slice_get env.structs number) (found_in name.text (slice_get env.member_names number)) refl

  pub member-passing : MembersArePlain env.structs → (place : Place) (name : Identifier) (t : Typing) → IsTyping scope t → Passing (TypedIn env) (member_typing place name t env)
  member-passing plain place name (Gives value) h = tt
  member-passing plain place name (Designates of c q) h = member-by plain place name of c q (kind_of c) refl h

  arrow-by : MembersArePlain env.structs → (place : Place) (name : Identifier) (pointer : TypedValue) (q : Qualifier) (to : CType) (k : ValueKind) → kind_of to ≡ k → HasType scope pointer.expr (Typed (ctype.Pointer q to))
      → Passing (TypedIn env) (unless_none Mismatch place (struct_number_of_kind k)
      (λ s env. unless_none Unknown name.place (member_of env s name.text) (λ m env. Passes (Designates (lvalue.Arrow place pointer.expr m.number m.offset m.cells) m.ctype q) env) env) env)
  arrow-by plain place name pointer q to kind.Void k h = tt
  arrow-by plain place name pointer q to (kind.Integer t) k h = tt
  arrow-by plain place name pointer q to kind.Pointer k h = tt
  arrow-by plain place name pointer q to (kind.Struct number) k h =
      found-in name.place number (λ m. Designates (lvalue.Arrow place pointer.expr m.number m.offset m.cells) m.ctype q)
      (λ s m member e f. (arrow-typed scope place pointer.expr q to m member h (ap (λ (ms : List Member). slice_get ms m) (members-are to number s k e) ∙ f), plain-place env.structs member.ctype (plain number s m member e f)))
      (slice_get env.structs number) (found_in name.text (slice_get env.member_names number)) refl

  arrow-at : MembersArePlain env.structs → (place : Place) (name : Identifier) (pointer : TypedValue) (y : CType-F CType) → out-CType pointer.ctype ≡ y → IsValue scope pointer
      → Passing (TypedIn env) (unless_none Mismatch place (layer_pointee y) (λ to env. arrow place name pointer to env) env)
  arrow-at plain place name pointer CType-F.Void e h = tt
  arrow-at plain place name pointer (CType-F.Int t) e h = tt
  arrow-at plain place name pointer (CType-F.Array count element) e h = tt
  arrow-at plain place name pointer (CType-F.Struct number) e h = tt
  arrow-at plain place name pointer (CType-F.Pointer q to) e h = arrow-by plain place name pointer q to (kind_of to) refl (as-pointer pointer q to h e)

  pub arrow-passing : MembersArePlain env.structs → (place : Place) (name : Identifier) (pointer : TypedValue) → IsValue scope pointer
      → Passing (TypedIn env) (unless_none Mismatch place (layer_pointee (out-CType pointer.ctype)) (λ to env. arrow place name pointer to env) env)
  arrow-passing plain place name pointer h = arrow-at plain place name pointer (out-CType pointer.ctype) refl h
