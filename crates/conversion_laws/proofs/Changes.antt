-- Signs, casts, and the changes of a place by "op=", "++" and "--", by what their operands are.
use Rattle.std.proofs.Common.{◌≡◌, Option, None, Some, Result, Ok, Err, refl, ap, sym, subst, ◌∙◌}
use Rattle.hy_bits.specs.declared.scalar.Scalar.{Scalar}
use Rattle.c_meaning.specs.declared.types.CType.{CType}
use Rattle.c_meaning.specs.declared.types.CType.TheVariants as ctype
use Rattle.c_meaning.specs.declared.types.ValueKind.{ValueKind}
use Rattle.c_meaning.specs.declared.types.ValueKind.TheVariants as kind
use Rattle.c_meaning.specs.declared.operators.ArithmeticOperator.TheVariants as arithmetic
use Rattle.c_meaning.specs.declared.operators.Direction.TheVariants.{Forward, Backward}
use Rattle.c_meaning.specs.Operations.{left_type, right_type}
use Rattle.c_meaning.specs.Types.{kind_of}
use Rattle.c_meaning.specs.Sizes.{promoted}
use Rattle.c_meaning.specs.Constants.{Constant}
use Rattle.c_conversions.specs.declared.fault.TypeKind.{TypeKind}
use Rattle.c_conversions.specs.declared.operands.Operand.{Operand}
use Rattle.c_conversions.specs.declared.operands.Operand.TheVariants as operand
use Rattle.c_conversions.specs.declared.operands.Sides.{Sides}
use Rattle.c_conversions.specs.declared.operands.Sides.TheVariants as sides
use Rattle.c_conversions.specs.declared.operators.Operator.{Operator}
use Rattle.c_conversions.specs.declared.operators.Operator.TheVariants as operator
use Rattle.c_conversions.specs.declared.operators.Change.{Change}
use Rattle.c_conversions.specs.declared.operators.Change.TheVariants as change
use Rattle.c_conversions.specs.declared.assignments.Promotion.{Promotion}
use Rattle.c_conversions.specs.Scalars.{usual}
use Rattle.c_conversions.specs.Operators.{sides_of, signed, cast, cast_to, changed, changed_at, changed_integer, changed_pointer}
use Rattle.c_typing.specs.Values.{kind_operand, scalar_of, scalar_of_kind}
use Rattle.conversion_laws.proofs.Scalars.{promoted-twice, usual-promoted}
use Rattle.conversion_laws.proofs.CTypes.{IsPointerType, KindSays, kind-says}
use Rattle.conversion_laws.proofs.Pointers.{pointer-kind}
use Rattle.conversion_laws.proofs.Sides.{OperandSays, kind-operand-says, SidesSay, sides-say, ok-is}
use Rattle.conversion_laws.proofs.Assigning.{Becomes, IsOf, to-integer}

-- ---- signs (C11 6.5.3.3p1)

abbrev pub SignFits : CType → Constant → Promotion → Type 0
SignFits c constant p = Becomes c constant (IsOf p.scalar) p.conversion × (promoted p.scalar ≡ p.scalar)

signed-by : (o : Operand) (c : CType) (constant : Constant) → OperandSays o c constant → (p : Promotion) → signed o ≡ Ok p → SignFits c constant p
signed-by (operand.Integer t) c constant h p e = subst (SignFits c constant) (ok-is _ p e) (to-integer c constant t (promoted t) h, promoted-twice t)
signed-by (operand.NullConstant t) c constant h p e = subst (SignFits c constant) (ok-is _ p e) (to-integer c constant t (promoted t) h.0, promoted-twice t)
signed-by operand.Pointer c constant h p e = absurd (cc)
signed-by operand.Void c constant h p e = absurd (cc)
signed-by (operand.Struct number) c constant h p e = absurd (cc)

pub sign-fits : (c : CType) (constant : Constant) (p : Promotion) → signed (kind_operand (kind_of c)) ≡ Ok p → SignFits c constant p
sign-fits c constant p e = signed-by (kind_operand (kind_of c)) c constant (kind-operand-says c constant) p e

-- ---- casts (C11 6.5.4p2)

scalar-at : (by : ValueKind) (c : CType) (t : Scalar) → KindSays by c → scalar_of_kind by ≡ Some t → c ≡ ctype.Int t
scalar-at kind.Void c t h e = absurd (cc)
scalar-at (kind.Integer u) c t h e = let same : u ≡ t = cc in h ∙ ap ctype.Int same
scalar-at kind.Pointer c t h e = absurd (cc)
scalar-at (kind.Struct number) c t h e = absurd (cc)

pub scalar-is : (c : CType) (t : Scalar) → scalar_of c ≡ Some t → c ≡ ctype.Int t
scalar-is c t e = scalar-at (kind_of c) c t (kind-says c) e

cast-at : (by : ValueKind) (target : CType) (from to : Scalar) → KindSays by target → cast_to by from ≡ Ok to → target ≡ ctype.Int to
cast-at kind.Void target from to h e = absurd (cc)
cast-at (kind.Integer t) target from to h e = h ∙ ap ctype.Int (ok-is t to e)
cast-at kind.Pointer target from to h e = absurd (cc)
cast-at (kind.Struct number) target from to h e = absurd (cc)

pub cast-gives : (target : CType) (o : Operand) (to : Scalar) → cast (kind_of target) o ≡ Ok to → target ≡ ctype.Int to
cast-gives target (operand.Integer from) to e = cast-at (kind_of target) target from to (kind-says target) e
cast-gives target (operand.NullConstant from) to e = cast-at (kind_of target) target from to (kind-says target) e
cast-gives target operand.Pointer to e = absurd (cc)
cast-gives target operand.Void to e = absurd (cc)
cast-gives target (operand.Struct number) to e = absurd (cc)

-- ---- changes of a place (C11 6.5.16.2p1, p2)

abbrev pub ChangeFits : CType → CType → Constant → Change → Type 0
ChangeFits target value constant (change.Integer op conversion) =
    ((t : Scalar) × (target ≡ ctype.Int t)) × Becomes value constant (IsOf (right_type op)) conversion × (promoted (left_type op) ≡ left_type op)
ChangeFits target value constant (change.Advance way t) = (kind_of target ≡ kind.Pointer) × (value ≡ ctype.Int t)

module _ (target value : CType) (constant : Constant) where
  abbrev Gives : Result Change TypeKind → Type 0
  Gives r = (c : Change) → r ≡ Ok c → ChangeFits target value constant c

  gives : (given : Change) → ChangeFits target value constant given → Gives (Ok given)
  gives given fits c h = subst (ChangeFits target value constant) (ok-is given c h) fits

  refused : (fault : TypeKind) → Gives (Err fault)
  refused fault c h = absurd (cc)

  integer : (op : Operator) (a b : Scalar) → target ≡ ctype.Int a → value ≡ ctype.Int b → Gives (changed_integer op a b)
  integer (operator.Arithmetic op) a b h k = gives _ ((a, h), to-integer value constant b (usual a b) k, usual-promoted a b)
  integer (operator.Shift op) a b h k = gives _ ((a, h), to-integer value constant b (promoted b) k, promoted-twice a)
  integer (operator.Comparison op) a b h k = refused _

  pointer : (op : Operator) (at : Sides) → SidesSay at target value constant constant → Gives (changed_pointer op at)
  pointer (operator.Arithmetic arithmetic.Add) (sides.PointerAndInteger t) s = gives (change.Advance Forward t) (pointer-kind target s.0, s.1)
  pointer (operator.Arithmetic arithmetic.Add) (sides.PointerAndNull t) s = gives (change.Advance Forward t) (pointer-kind target s.0, s.1)
  pointer (operator.Arithmetic arithmetic.Subtract) (sides.PointerAndInteger t) s = gives (change.Advance Backward t) (pointer-kind target s.0, s.1)
  pointer (operator.Arithmetic arithmetic.Subtract) (sides.PointerAndNull t) s = gives (change.Advance Backward t) (pointer-kind target s.0, s.1)
  pointer op at s = refused _

  sides-give : (op : Operator) (at : Sides) → SidesSay at target value constant constant → Gives (changed_at op at)
  sides-give op (sides.Integers a b) s = integer op a b s.0 s.1
  sides-give op at s = pointer op at s

pub change-fits : (op : Operator) (target value : CType) (constant : Constant) (c : Change)
    → changed op (kind_operand (kind_of target)) (kind_operand (kind_of value)) ≡ Ok c → ChangeFits target value constant c
change-fits op target value constant c h =
    let l = kind_operand (kind_of target) in
    let r = kind_operand (kind_of value) in
    sides-give target value constant op (sides_of l r)
    (sides-say l r target value constant constant (kind-operand-says target constant) (kind-operand-says value constant)) c h
