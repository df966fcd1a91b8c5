-- Conversions between integers, and operators on them (C11 6.3.1).
use Rattle.std.proofs.Common.{◌≡◌, ℕ, Bool, true, false, if◌then◌else◌, None, Some, ap, subst, ◌∙◌, refl, arith}
use Rattle.std.proofs.lemmas.Grind.{common_steps}
use Rattle.hy_bits.specs.declared.scalar.Scalar.{Scalar}
use Rattle.hy_bits.specs.declared.scalar.Scalar.TheVariants.{B1, S8, U8, S16, U16, S32, U32, S64, U64}
use Rattle.c_tree.specs.declared.token.Place.{Place}
use Rattle.c_meaning.specs.declared.types.CType.{CType}
use Rattle.c_meaning.specs.declared.operators.ArithmeticSign.{ArithmeticSign}
use Rattle.c_meaning.specs.declared.operators.Conversion.TheVariants as conversion
use Rattle.c_meaning.specs.declared.expressions.TypedExpr.{TypedExpr}
use Rattle.c_meaning.specs.declared.expressions.TypedExpr.TheVariants as expr
use Rattle.c_meaning.specs.declared.expressions.Lvalue.TheOpen.{TypedExpr-F}
use Rattle.c_meaning.specs.Constants.{Constant, Variable, Faulty, Word, constant_of}
use Rattle.c_meaning.specs.Sizes.{promoted}
use Rattle.c_meaning.specs.Types.{kind_of}
use Rattle.c_meaning.specs.TypeRules.{Scope, ExprType, AnyPointer, Typed, of_scalar}
use Rattle.c_meaning.specs.Rules.{is_scalar_kind, kind_of_type}
use Rattle.c_conversions.specs.Scalars.{same_scalar, usual, conversion_between}
use Rattle.c_typing.specs.Values.{is_zero, converted}
use Rattle.typing_laws.specs.Values.{HasType}
use Rattle.typing_laws.proofs.Making.{made-expr}

-- ---- scalar types

pub same-scalar-is : (a b : Scalar) → same_scalar a b ≡ true → a ≡ b
same-scalar-is B1 B1 h = refl
same-scalar-is B1 S8 h = absurd (cc)
same-scalar-is B1 U8 h = absurd (cc)
same-scalar-is B1 S16 h = absurd (cc)
same-scalar-is B1 U16 h = absurd (cc)
same-scalar-is B1 S32 h = absurd (cc)
same-scalar-is B1 U32 h = absurd (cc)
same-scalar-is B1 S64 h = absurd (cc)
same-scalar-is B1 U64 h = absurd (cc)
same-scalar-is S8 B1 h = absurd (cc)
same-scalar-is S8 S8 h = refl
same-scalar-is S8 U8 h = absurd (cc)
same-scalar-is S8 S16 h = absurd (cc)
same-scalar-is S8 U16 h = absurd (cc)
same-scalar-is S8 S32 h = absurd (cc)
same-scalar-is S8 U32 h = absurd (cc)
same-scalar-is S8 S64 h = absurd (cc)
same-scalar-is S8 U64 h = absurd (cc)
same-scalar-is U8 B1 h = absurd (cc)
same-scalar-is U8 S8 h = absurd (cc)
same-scalar-is U8 U8 h = refl
same-scalar-is U8 S16 h = absurd (cc)
same-scalar-is U8 U16 h = absurd (cc)
same-scalar-is U8 S32 h = absurd (cc)
same-scalar-is U8 U32 h = absurd (cc)
same-scalar-is U8 S64 h = absurd (cc)
same-scalar-is U8 U64 h = absurd (cc)
same-scalar-is S16 B1 h = absurd (cc)
same-scalar-is S16 S8 h = absurd (cc)
same-scalar-is S16 U8 h = absurd (cc)
same-scalar-is S16 S16 h = refl
same-scalar-is S16 U16 h = absurd (cc)
same-scalar-is S16 S32 h = absurd (cc)
same-scalar-is S16 U32 h = absurd (cc)
same-scalar-is S16 S64 h = absurd (cc)
same-scalar-is S16 U64 h = absurd (cc)
same-scalar-is U16 B1 h = absurd (cc)
same-scalar-is U16 S8 h = absurd (cc)
same-scalar-is U16 U8 h = absurd (cc)
same-scalar-is U16 S16 h = absurd (cc)
same-scalar-is U16 U16 h = refl
same-scalar-is U16 S32 h = absurd (cc)
same-scalar-is U16 U32 h = absurd (cc)
same-scalar-is U16 S64 h = absurd (cc)
same-scalar-is U16 U64 h = absurd (cc)
same-scalar-is S32 B1 h = absurd (cc)
same-scalar-is S32 S8 h = absurd (cc)
same-scalar-is S32 U8 h = absurd (cc)
same-scalar-is S32 S16 h = absurd (cc)
same-scalar-is S32 U16 h = absurd (cc)
same-scalar-is S32 S32 h = refl
same-scalar-is S32 U32 h = absurd (cc)
same-scalar-is S32 S64 h = absurd (cc)
same-scalar-is S32 U64 h = absurd (cc)
same-scalar-is U32 B1 h = absurd (cc)
same-scalar-is U32 S8 h = absurd (cc)
same-scalar-is U32 U8 h = absurd (cc)
same-scalar-is U32 S16 h = absurd (cc)
same-scalar-is U32 U16 h = absurd (cc)
same-scalar-is U32 S32 h = absurd (cc)
same-scalar-is U32 U32 h = refl
same-scalar-is U32 S64 h = absurd (cc)
same-scalar-is U32 U64 h = absurd (cc)
same-scalar-is S64 B1 h = absurd (cc)
same-scalar-is S64 S8 h = absurd (cc)
same-scalar-is S64 U8 h = absurd (cc)
same-scalar-is S64 S16 h = absurd (cc)
same-scalar-is S64 U16 h = absurd (cc)
same-scalar-is S64 S32 h = absurd (cc)
same-scalar-is S64 U32 h = absurd (cc)
same-scalar-is S64 S64 h = refl
same-scalar-is S64 U64 h = absurd (cc)
same-scalar-is U64 B1 h = absurd (cc)
same-scalar-is U64 S8 h = absurd (cc)
same-scalar-is U64 U8 h = absurd (cc)
same-scalar-is U64 S16 h = absurd (cc)
same-scalar-is U64 U16 h = absurd (cc)
same-scalar-is U64 S32 h = absurd (cc)
same-scalar-is U64 U32 h = absurd (cc)
same-scalar-is U64 S64 h = absurd (cc)
same-scalar-is U64 U64 h = refl

pub promoted-once : (t : Scalar) → promoted (promoted t) ≡ promoted t
promoted-once B1 = refl
promoted-once S8 = refl
promoted-once U8 = refl
promoted-once S16 = refl
promoted-once U16 = refl
promoted-once S32 = refl
promoted-once U32 = refl
promoted-once S64 = refl
promoted-once U64 = refl

pub promoted-usual : (a b : Scalar) → promoted (usual a b) ≡ usual a b
promoted-usual B1 B1 = refl
promoted-usual B1 S8 = refl
promoted-usual B1 U8 = refl
promoted-usual B1 S16 = refl
promoted-usual B1 U16 = refl
promoted-usual B1 S32 = refl
promoted-usual B1 U32 = refl
promoted-usual B1 S64 = refl
promoted-usual B1 U64 = refl
promoted-usual S8 B1 = refl
promoted-usual S8 S8 = refl
promoted-usual S8 U8 = refl
promoted-usual S8 S16 = refl
promoted-usual S8 U16 = refl
promoted-usual S8 S32 = refl
promoted-usual S8 U32 = refl
promoted-usual S8 S64 = refl
promoted-usual S8 U64 = refl
promoted-usual U8 B1 = refl
promoted-usual U8 S8 = refl
promoted-usual U8 U8 = refl
promoted-usual U8 S16 = refl
promoted-usual U8 U16 = refl
promoted-usual U8 S32 = refl
promoted-usual U8 U32 = refl
promoted-usual U8 S64 = refl
promoted-usual U8 U64 = refl
promoted-usual S16 B1 = refl
promoted-usual S16 S8 = refl
promoted-usual S16 U8 = refl
promoted-usual S16 S16 = refl
promoted-usual S16 U16 = refl
promoted-usual S16 S32 = refl
promoted-usual S16 U32 = refl
promoted-usual S16 S64 = refl
promoted-usual S16 U64 = refl
promoted-usual U16 B1 = refl
promoted-usual U16 S8 = refl
promoted-usual U16 U8 = refl
promoted-usual U16 S16 = refl
promoted-usual U16 U16 = refl
promoted-usual U16 S32 = refl
promoted-usual U16 U32 = refl
promoted-usual U16 S64 = refl
promoted-usual U16 U64 = refl
promoted-usual S32 B1 = refl
promoted-usual S32 S8 = refl
promoted-usual S32 U8 = refl
promoted-usual S32 S16 = refl
promoted-usual S32 U16 = refl
promoted-usual S32 S32 = refl
promoted-usual S32 U32 = refl
promoted-usual S32 S64 = refl
promoted-usual S32 U64 = refl
promoted-usual U32 B1 = refl
promoted-usual U32 S8 = refl
promoted-usual U32 U8 = refl
promoted-usual U32 S16 = refl
promoted-usual U32 U16 = refl
promoted-usual U32 S32 = refl
promoted-usual U32 U32 = refl
promoted-usual U32 S64 = refl
promoted-usual U32 U64 = refl
promoted-usual S64 B1 = refl
promoted-usual S64 S8 = refl
promoted-usual S64 U8 = refl
promoted-usual S64 S16 = refl
promoted-usual S64 U16 = refl
promoted-usual S64 S32 = refl
promoted-usual S64 U32 = refl
promoted-usual S64 S64 = refl
promoted-usual S64 U64 = refl
promoted-usual U64 B1 = refl
promoted-usual U64 S8 = refl
promoted-usual U64 U8 = refl
promoted-usual U64 S16 = refl
promoted-usual U64 U16 = refl
promoted-usual U64 S32 = refl
promoted-usual U64 U32 = refl
promoted-usual U64 S64 = refl
promoted-usual U64 U64 = refl

-- ---- constants of value zero

pub zero-word : (c : Constant) → is_zero c ≡ true → c ≡ Word 0
zero-word Variable h = absurd (cc)
zero-word Faulty h = absurd (cc)
zero-word (Word w) h = let none : w ≡ 0 = grind (arith, common_steps) in ap (λ (n : ℕ). Word n) none

module _ (scope : Scope) where
  -- C11 6.3.1
  integer-converted : (e : TypedExpr) (from to : Scalar) → HasType scope e (of_scalar from) → HasType scope (expr.Converted (conversion.Integer from to) e) (of_scalar to)
  integer-converted e from to h =
      made-expr scope (TypedExpr-F.Converted (conversion.Integer from to) e) (expr.Converted (conversion.Integer from to) e) (of_scalar to) (expr.rolls-Converted (conversion.Integer from to) e) h.1 h.0 refl

  converted-where : (e : TypedExpr) (from to : Scalar) (b : Bool) → same_scalar from to ≡ b → HasType scope e (of_scalar from)
      → HasType scope (converted (if b then None else Some (conversion.Integer from to)) e) (of_scalar to)
  converted-where e from to true same h = subst (λ (t : Scalar). HasType scope e (of_scalar t)) (same-scalar-is from to same) h
  converted-where e from to false same h = integer-converted e from to h

  pub converted-typed : (e : TypedExpr) (from to : Scalar) → HasType scope e (of_scalar from) → HasType scope (converted (conversion_between from to) e) (of_scalar to)
  converted-typed e from to h = converted-where e from to (same_scalar from to) refl h

  -- C11 6.3.2.3p3
  pub null-typed : (e : TypedExpr) (t : Scalar) → HasType scope e (of_scalar t) → is_zero (constant_of e) ≡ true → HasType scope (converted (Some conversion.NullPointer) e) AnyPointer
  null-typed e t h zero =
      made-expr scope (TypedExpr-F.Converted conversion.NullPointer e) (expr.Converted conversion.NullPointer e) AnyPointer (expr.rolls-Converted conversion.NullPointer e)
      ((t, h.1), zero-word (constant_of e) zero) h.0 refl

  -- C11 6.5.4p2
  pub cast-typed : (place : Place) (e : TypedExpr) (from to : Scalar) → HasType scope e (of_scalar from) → HasType scope (expr.Cast place from to e) (of_scalar to)
  cast-typed place e from to h = made-expr scope (TypedExpr-F.Cast place from to e) (expr.Cast place from to e) (of_scalar to) (expr.rolls-Cast place from to e) h.1 h.0 refl

  -- C11 6.5.3.3p1
  pub sign-typed : (place : Place) (op : ArithmeticSign) (e : TypedExpr) (t : Scalar) → HasType scope e (of_scalar t)
      → HasType scope (expr.Unary place op (promoted t) (converted (conversion_between t (promoted t)) e)) (of_scalar (promoted t))
  sign-typed place op e t h =
      let inner = converted (conversion_between t (promoted t)) e in
      let typed = converted-typed e t (promoted t) h in
      made-expr scope (TypedExpr-F.Unary place op (promoted t) inner) (expr.Unary place op (promoted t) inner) (of_scalar (promoted t)) (expr.rolls-Unary place op (promoted t) inner) (typed.1, promoted-once t) typed.0 refl

  -- C11 6.5.3.3p1
  pub not-typed : (place : Place) (e : TypedExpr) (c : CType) → HasType scope e (Typed c) → is_scalar_kind (kind_of c) ≡ true → HasType scope (expr.Not place (kind_of c) e) (of_scalar S32)
  not-typed place e c h scalar =
      made-expr scope (TypedExpr-F.Not place (kind_of c) e) (expr.Not place (kind_of c) e) (of_scalar S32) (expr.rolls-Not place (kind_of c) e)
      (ap (λ (t : ExprType). is_scalar_kind (kind_of_type t)) h.1 ∙ scalar, ap kind_of_type h.1) h.0 refl
