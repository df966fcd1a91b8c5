-- What the operands of an operator say of the types and the words of its sides.
use Rattle.std.proofs.Common.{◌≡◌, ℕ, Bool, true, false, Result, Ok, refl, ap}
use Rattle.hy_bits.specs.declared.scalar.Scalar.{Scalar}
use Rattle.c_meaning.specs.declared.types.CType.{CType}
use Rattle.c_meaning.specs.declared.types.CType.TheVariants as ctype
use Rattle.c_meaning.specs.declared.types.ValueKind.{ValueKind}
use Rattle.c_meaning.specs.declared.types.ValueKind.TheVariants as kind
use Rattle.c_meaning.specs.declared.expressions.TypedExpr.{TypedExpr}
use Rattle.c_meaning.specs.Types.{kind_of}
use Rattle.c_meaning.specs.Constants.{Constant, Variable, Faulty, Word, constant_of}
use Rattle.c_conversions.specs.declared.fault.TypeKind.{TypeKind}
use Rattle.c_conversions.specs.declared.operands.Operand.{Operand}
use Rattle.c_conversions.specs.declared.operands.Operand.TheVariants as operand
use Rattle.c_conversions.specs.declared.operands.Sides.{Sides}
use Rattle.c_conversions.specs.declared.operands.Sides.TheVariants as sides
use Rattle.c_conversions.specs.Operators.{sides_of}
use Rattle.c_typing.specs.declared.values.TypedValue.{TypedValue}
use Rattle.c_typing.specs.Values.{is_zero, integer_operand, operand_of_kind, kind_operand, operand_beside}
use Rattle.conversion_laws.proofs.CTypes.{IsPointerType, KindSays, kind-says, same-number-is}

-- ---- one operand: its type, and its word where it is a null pointer constant

abbrev pub OperandSays : Operand → CType → Constant → Type 0
OperandSays operand.Void c constant = Unit {0}
OperandSays (operand.Integer t) c constant = c ≡ ctype.Int t
OperandSays (operand.NullConstant t) c constant = (c ≡ ctype.Int t) × (constant ≡ Word 0)
OperandSays operand.Pointer c constant = IsPointerType c
OperandSays (operand.Struct number) c constant = c ≡ ctype.Struct number

zero-is : (constant : Constant) → is_zero constant ≡ true → constant ≡ Word 0
zero-is Variable h = absurd (cc)
zero-is Faulty h = absurd (cc)
zero-is (Word w) h = ap Word (same-number-is w 0 h)

integer-says : (t : Scalar) (c : CType) (constant : Constant) (zero : Bool) → is_zero constant ≡ zero → c ≡ ctype.Int t → OperandSays (integer_operand t zero) c constant
integer-says t c constant true z h = (h, zero-is constant z)
integer-says t c constant false z h = h

kind-operand-at : (by : ValueKind) (c : CType) (constant : Constant) → KindSays by c → OperandSays (kind_operand by) c constant
kind-operand-at kind.Void c constant h = tt
kind-operand-at (kind.Integer t) c constant h = h
kind-operand-at kind.Pointer c constant h = h
kind-operand-at (kind.Struct number) c constant h = h

value-operand-at : (by : ValueKind) (c : CType) (e : TypedExpr) → KindSays by c → OperandSays (operand_of_kind by e) c (constant_of e)
value-operand-at kind.Void c e h = tt
value-operand-at (kind.Integer t) c e h = integer-says t c (constant_of e) (is_zero (constant_of e)) refl h
value-operand-at kind.Pointer c e h = h
value-operand-at (kind.Struct number) c e h = h

pub kind-operand-says : (c : CType) (constant : Constant) → OperandSays (kind_operand (kind_of c)) c constant
kind-operand-says c constant = kind-operand-at (kind_of c) c constant (kind-says c)

pub beside-says : (other : ValueKind) (value : TypedValue) → OperandSays (operand_beside other value) value.ctype (constant_of value.expr)
beside-says kind.Pointer value = value-operand-at (kind_of value.ctype) value.ctype value.expr (kind-says value.ctype)
beside-says kind.Void value = kind-operand-says value.ctype (constant_of value.expr)
beside-says (kind.Integer t) value = kind-operand-says value.ctype (constant_of value.expr)
beside-says (kind.Struct number) value = kind-operand-says value.ctype (constant_of value.expr)

-- ---- what a table answers

pub ok-is : {A : Type 0} (a b : A) → ◌≡◌ {A = Result A TypeKind} (Ok a) (Ok b) → a ≡ b
ok-is a b h = cc

-- ---- both operands

abbrev pub SidesSay : Sides → CType → CType → Constant → Constant → Type 0
SidesSay (sides.Integers a b) left right first second = (left ≡ ctype.Int a) × (right ≡ ctype.Int b)
SidesSay (sides.PointerAndInteger b) left right first second = IsPointerType left × (right ≡ ctype.Int b)
SidesSay (sides.PointerAndNull b) left right first second = IsPointerType left × (right ≡ ctype.Int b) × (second ≡ Word 0)
SidesSay (sides.IntegerAndPointer a) left right first second = (left ≡ ctype.Int a) × IsPointerType right
SidesSay (sides.NullAndPointer a) left right first second = (left ≡ ctype.Int a) × (first ≡ Word 0) × IsPointerType right
SidesSay sides.Pointers left right first second = IsPointerType left × IsPointerType right
SidesSay sides.Others left right first second = Unit {0}

pub sides-say : (a b : Operand) (left right : CType) (first second : Constant) → OperandSays a left first → OperandSays b right second → SidesSay (sides_of a b) left right first second
sides-say (operand.Integer a) (operand.Integer b) left right first second h k = (h, k)
sides-say (operand.Integer a) (operand.NullConstant b) left right first second h k = (h, k.0)
sides-say (operand.Integer a) operand.Pointer left right first second h k = (h, k)
sides-say (operand.Integer a) operand.Void left right first second h k = tt
sides-say (operand.Integer a) (operand.Struct number) left right first second h k = tt
sides-say (operand.NullConstant a) (operand.Integer b) left right first second h k = (h.0, k)
sides-say (operand.NullConstant a) (operand.NullConstant b) left right first second h k = (h.0, k.0)
sides-say (operand.NullConstant a) operand.Pointer left right first second h k = (h.0, h.1, k)
sides-say (operand.NullConstant a) operand.Void left right first second h k = tt
sides-say (operand.NullConstant a) (operand.Struct number) left right first second h k = tt
sides-say operand.Pointer (operand.Integer b) left right first second h k = (h, k)
sides-say operand.Pointer (operand.NullConstant b) left right first second h k = (h, k.0, k.1)
sides-say operand.Pointer operand.Pointer left right first second h k = (h, k)
sides-say operand.Pointer operand.Void left right first second h k = tt
sides-say operand.Pointer (operand.Struct number) left right first second h k = tt
sides-say operand.Void b left right first second h k = tt
sides-say (operand.Struct number) b left right first second h k = tt
