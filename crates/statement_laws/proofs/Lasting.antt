-- Declarators keep the rules of typed programs in a scope that grows.
use Rattle.std.proofs.Common.{◌≡◌, ℕ, ◌+◌, true, Option, None, Some, List, [], ◌∷◌, length, ap, sym, subst, ◌∙◌, refl}
use Rattle.c_meaning.specs.declared.types.CType.{CType, out-CType}
use Rattle.c_meaning.specs.declared.types.CType.TheOpen.{CType-F}
use Rattle.c_meaning.specs.declared.types.CType.TheVariants as ctype
use Rattle.c_meaning.specs.declared.types.ValueKind.{ValueKind}
use Rattle.c_meaning.specs.declared.types.ValueKind.TheVariants as kind
use Rattle.c_meaning.specs.declared.types.Object.{Object}
use Rattle.c_meaning.specs.declared.expressions.TypedExpr.{TypedExpr}
use Rattle.c_meaning.specs.declared.statements.Part.{Part}
use Rattle.c_meaning.specs.declared.statements.TypedDeclarator.{TypedDeclarator}
use Rattle.c_meaning.specs.declared.statements.TypedFirst.{TypedFirst}
use Rattle.c_meaning.specs.declared.statements.TypedFirst.TheVariants as first
use Rattle.c_meaning.specs.Types.{layer_kind}
use Rattle.c_meaning.specs.TypeRules.{Scope, Typed, type_of}
use Rattle.c_meaning.specs.Rules.{IsTypedExpr, layer_admits}
use Rattle.c_meaning.specs.StatementRules.{PartFits, PartsFill, size_of_kind, StartFits, DeclaratorFits, DeclaratorsFit, FirstFits}
use Rattle.typing_laws.specs.Scopes.{ScopeGrows, ScopeStands, TypeStands, is_standing}
use Rattle.typing_laws.proofs.Growth.{object-kept, cells-kept}
use Rattle.typing_laws.proofs.Kept.{grown-expr}
use Rattle.effect_laws.proofs.Lasting.{expr-lasts, assignable-lasts, effect-lasts}

module _ (old new : Scope) (grows : ScopeGrows old new) (stand : ScopeStands old) where
  -- a struct that is copied stands
  struct-stands : (e : TypedExpr) (c : CType) (y : CType-F CType) (number : ℕ) → layer_kind y ≡ kind.Struct number → IsTypedExpr old e → layer_admits (type_of old e) y → is_standing (length old.structs) (ctype.Struct number) ≡ true
  struct-stands e c CType-F.Void number k h a = absurd (cc)
  struct-stands e c (CType-F.Int t) number k h a = absurd (cc)
  struct-stands e c (CType-F.Array count element) number k h a = absurd (cc)
  struct-stands e c (CType-F.Struct own) number k h a =
      let same : own ≡ number = cc in
      let stands = (grown-expr old new grows stand e h).2 in
      subst (TypeStands (length old.structs)) (a ∙ ap (λ (n : ℕ). Typed (ctype.Struct n)) same) stands
  struct-stands e c (CType-F.Pointer q to) number k h a = absurd (cc)

  size-same : (k : ValueKind) (value : Option TypedExpr) (part : Part) → part.kind ≡ k → PartFits old part value → size_of_kind new k ≡ size_of_kind old k
  size-same kind.Void value part e h = refl
  size-same (kind.Integer t) value part e h = refl
  size-same kind.Pointer value part e h = refl
  size-same (kind.Struct number) None part e h = absurd (cc)
  size-same (kind.Struct number) (Some value) part e h =
      cells-kept old new grows stand (ctype.Struct number) (struct-stands value h.1.0 (out-CType h.1.0) number (h.1.2 ∙ e) h.0 h.1.1)

  part-lasts : (part : Part) (value : Option TypedExpr) → PartFits old part value → PartFits new part value
  part-lasts part None h = h
  part-lasts part (Some value) h = ((expr-lasts old new grows stand value h.0).0, (h.1.0, assignable-lasts old new grows stand value h.1.0 h.0 h.1.1, h.1.2))

  parts-last : (at end : ℕ) (parts : List Part) → PartsFill old at end parts → PartsFill new at end parts
  parts-last at end [] h = h
  parts-last at end (part ∷ parts) h =
      let same = size-same part.kind part.value part refl h.1 in
      (h.0, part-lasts part part.value h.1, subst (λ (n : ℕ). PartsFill new (at + n) end parts) (sym same) (parts-last (at + size_of_kind old part.kind) end parts h.2))

  start-lasts : (object : Object) (start : Option (List Part)) → StartFits old object start → StartFits new object start
  start-lasts object None h = h
  start-lasts object (Some parts) h = parts-last 0 object.cells parts h

  pub declarator-lasts : (d : TypedDeclarator) → DeclaratorFits old d → DeclaratorFits new d
  declarator-lasts d h = (h.0, object-kept old new grows stand d.object h.0 h.1, h.2, start-lasts h.0 d.start h.3)

  pub declarators-last : (ds : List TypedDeclarator) → DeclaratorsFit old ds → DeclaratorsFit new ds
  declarators-last [] h = h
  declarators-last (d ∷ ds) h = (declarator-lasts d h.0, declarators-last ds h.1)

  pub first-lasts : (f : TypedFirst) → FirstFits old f → FirstFits new f
  first-lasts first.Nothing h = h
  first-lasts (first.Objects declared) h = declarators-last declared h
  first-lasts (first.Effect effect) h = effect-lasts old new grows stand effect h
