-- Binary operators by what stands on both sides: their conversions and their operation fit, and give the type that typing tells.
use Rattle.std.proofs.Common.{◌≡◌, Option, None, Some, Result, Ok, Err, refl, ap, sym, subst}
use Rattle.hy_bits.specs.declared.scalar.Scalar.{Scalar}
use Rattle.c_meaning.specs.declared.types.CType.{CType}
use Rattle.c_meaning.specs.declared.types.CType.TheVariants as ctype
use Rattle.c_meaning.specs.declared.types.ValueKind.{ValueKind}
use Rattle.c_meaning.specs.declared.operators.ArithmeticOperator.{ArithmeticOperator}
use Rattle.c_meaning.specs.declared.operators.ArithmeticOperator.TheVariants as arithmetic
use Rattle.c_meaning.specs.declared.operators.Comparison.{Comparison}
use Rattle.c_meaning.specs.declared.operators.Comparison.TheVariants as comparison
use Rattle.c_meaning.specs.declared.operators.Direction.{Direction}
use Rattle.c_meaning.specs.declared.operators.Direction.TheVariants.{Forward, Backward}
use Rattle.c_meaning.specs.declared.operators.Equality.{Equality}
use Rattle.c_meaning.specs.declared.operators.Equality.TheVariants as equality
use Rattle.c_meaning.specs.declared.operators.Operation.TheVariants as operation
use Rattle.c_meaning.specs.Types.{kind_of}
use Rattle.c_meaning.specs.Constants.{Constant, constant_of}
use Rattle.c_meaning.specs.TypeRules.{ExprType, Typed, of_scalar, combined_type, converted_where}
use Rattle.c_meaning.specs.Rules.{LeftFits, OperationFits}
use Rattle.c_conversions.specs.declared.fault.TypeKind.{TypeKind}
use Rattle.c_conversions.specs.declared.operands.Pointees.{Pointees}
use Rattle.c_conversions.specs.declared.operands.Pointees.TheVariants.{Compatible, Incompatible}
use Rattle.c_conversions.specs.declared.operands.Sides.{Sides}
use Rattle.c_conversions.specs.declared.operands.Sides.TheVariants as sides
use Rattle.c_conversions.specs.declared.operators.Operator.{Operator}
use Rattle.c_conversions.specs.declared.operators.Operator.TheVariants as operator
use Rattle.c_conversions.specs.declared.operators.Combination.{Combination}
use Rattle.c_conversions.specs.Scalars.{usual}
use Rattle.c_conversions.specs.Operators.{sides_of, on_integers, as_they_are, with_sum, with_equality, without_order, with_comparison, with_pointers, combined_at, combined}
use Rattle.c_meaning.specs.Sizes.{promoted}
use Rattle.c_typing.specs.declared.values.TypedValue.{TypedValue}
use Rattle.c_typing.specs.Values.{operand_beside, pointees, combined_ctype}
use Rattle.conversion_laws.proofs.Scalars.{reaches, promoted-twice, usual-promoted}
use Rattle.conversion_laws.proofs.CTypes.{IsPointerType}
use Rattle.conversion_laws.proofs.Pointers.{points-to-some, alike, null-on-left, null-on-right}
use Rattle.conversion_laws.proofs.Sides.{SidesSay, sides-say, beside-says, ok-is}

-- what an operator does fits the types of both sides and the words that are constant, and the result has the type that typing tells
abbrev pub CombinationFits : CType → CType → Constant → Constant → Combination → Type 0
CombinationFits left right first second c =
    LeftFits c.left (Typed left) first × LeftFits c.right (Typed right) second
    × OperationFits c.operation (converted_where c.left (Typed left)) (converted_where c.right (Typed right))
    × (combined_type c.operation (converted_where c.left (Typed left)) (converted_where c.right (Typed right)) ≡ Typed (combined_ctype c.operation left right))

-- ---- integers

on-integers : (op : Operator) (a b : Scalar) (first second : Constant) → CombinationFits (ctype.Int a) (ctype.Int b) first second (on_integers op a b)
on-integers (operator.Arithmetic op) a b first second =
    let l = reaches a (usual a b) first in
    let r = reaches b (usual a b) second in
    (l.0, r.0, (l.1, r.1, usual-promoted a b), refl)
on-integers (operator.Shift op) a b first second =
    let l = reaches a (promoted a) first in
    let r = reaches b (promoted b) second in
    (l.0, r.0, (l.1, r.1, promoted-twice a, promoted-twice b), refl)
on-integers (operator.Comparison op) a b first second =
    let l = reaches a (usual a b) first in
    let r = reaches b (usual a b) second in
    (l.0, r.0, (l.1, r.1, usual-promoted a b), refl)

integers : (op : Operator) (a b : Scalar) (left right : CType) (first second : Constant) → left ≡ ctype.Int a → right ≡ ctype.Int b → CombinationFits left right first second (on_integers op a b)
integers op a b left right first second l r =
    subst (λ (x : CType). CombinationFits x right first second (on_integers op a b)) (sym l)
    (subst (λ (y : CType). CombinationFits (ctype.Int a) y first second (on_integers op a b)) (sym r) (on-integers op a b first second))

-- ---- pointers

module _ (left right : CType) (first second : Constant) where
  abbrev Fits : Combination → Type 0
  Fits = CombinationFits left right first second

  abbrev Gives : Result Combination TypeKind → Type 0
  Gives r = (c : Combination) → r ≡ Ok c → Fits c

  gives : (given : Combination) → Fits given → Gives (Ok given)
  gives given fits c h = subst Fits (ok-is given c h) fits

  refused : (kind : TypeKind) → Gives (Err kind)
  refused kind c h = absurd (cc)

  offset : (way : Direction) (t : Scalar) → IsPointerType left → right ≡ ctype.Int t → Fits (as_they_are (operation.Offset way t))
  offset way t p r = (tt, tt, (points-to-some left p, ap Typed r), refl)

  offset-on-left : (t : Scalar) → left ≡ ctype.Int t → IsPointerType right → Fits (as_they_are (operation.OffsetOnLeft t))
  offset-on-left t l p = (tt, tt, (ap Typed l, points-to-some right p), refl)

  sum : (op : ArithmeticOperator) (at : Sides) → SidesSay at left right first second → Gives (with_sum op at)
  sum arithmetic.Add (sides.PointerAndInteger t) s = gives (as_they_are (operation.Offset Forward t)) (offset Forward t s.0 s.1)
  sum arithmetic.Add (sides.PointerAndNull t) s = gives (as_they_are (operation.Offset Forward t)) (offset Forward t s.0 s.1)
  sum arithmetic.Add (sides.IntegerAndPointer t) s = gives (as_they_are (operation.OffsetOnLeft t)) (offset-on-left t s.0 s.1)
  sum arithmetic.Add (sides.NullAndPointer t) s = gives (as_they_are (operation.OffsetOnLeft t)) (offset-on-left t s.0 s.2)
  sum arithmetic.Subtract (sides.PointerAndInteger t) s = gives (as_they_are (operation.Offset Backward t)) (offset Backward t s.0 s.1)
  sum arithmetic.Subtract (sides.PointerAndNull t) s = gives (as_they_are (operation.Offset Backward t)) (offset Backward t s.0 s.1)
  sum op at s = refused _

  equal : (op : Equality) (at : Sides) (compared : Pointees) → pointees left right ≡ compared → SidesSay at left right first second → Gives (with_equality op at compared)
  equal op sides.Pointers Compatible e s = gives (as_they_are (operation.Pointers op)) (tt, tt, alike left right s.0 s.1 e, refl)
  equal op (sides.PointerAndNull t) compared e s =
      gives _ (tt, ((t, ap Typed s.1), s.2), null-on-right left s.0, refl)
  equal op (sides.NullAndPointer t) compared e s =
      gives _ (((t, ap Typed s.0), s.1), tt, null-on-left right s.2, refl)
  equal op at compared e s = refused _

  order : (at : Sides) → Gives (without_order at)
  order sides.Pointers = refused _
  order at = refused _

  comparison-gives : (op : Comparison) (at : Sides) (compared : Pointees) → pointees left right ≡ compared → SidesSay at left right first second → Gives (with_comparison op at compared)
  comparison-gives comparison.Equal at compared e s = equal equality.Equal at compared e s
  comparison-gives comparison.Unequal at compared e s = equal equality.Unequal at compared e s
  comparison-gives op at compared e s = order at

  pointers : (op : Operator) (at : Sides) (compared : Pointees) → pointees left right ≡ compared → SidesSay at left right first second → Gives (with_pointers op at compared)
  pointers (operator.Arithmetic op) at compared e s = sum op at s
  pointers (operator.Shift op) at compared e s = refused _
  pointers (operator.Comparison op) at compared e s = comparison-gives op at compared e s

  sides-give : (op : Operator) (at : Sides) (compared : Pointees) → pointees left right ≡ compared → SidesSay at left right first second → Gives (combined_at op at compared)
  sides-give op (sides.Integers a b) compared e s = gives (on_integers op a b) (integers op a b left right first second s.0 s.1)
  sides-give op at compared e s = pointers op at compared e s

-- C11 6.5.5 to 6.5.12
pub combination-fits : (op : Operator) (left right : TypedValue) (c : Combination)
    → combined op (operand_beside (kind_of right.ctype) left) (operand_beside (kind_of left.ctype) right) (pointees left.ctype right.ctype) ≡ Ok c
    → CombinationFits left.ctype right.ctype (constant_of left.expr) (constant_of right.expr) c
combination-fits op left right c h =
    let a = operand_beside (kind_of right.ctype) left in
    let b = operand_beside (kind_of left.ctype) right in
    sides-give left.ctype right.ctype (constant_of left.expr) (constant_of right.expr) op (sides_of a b) (pointees left.ctype right.ctype) refl
    (sides-say a b left.ctype right.ctype (constant_of left.expr) (constant_of right.expr) (beside-says (kind_of right.ctype) left) (beside-says (kind_of left.ctype) right))
    c h
