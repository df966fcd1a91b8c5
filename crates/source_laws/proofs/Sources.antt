-- Source expressions and specifiers by induction over their trees: where they are walked, they keep what is declared, and pass with what is typed.
use Rattle.std.proofs.Common.{◌≡◌, ◌≢◌, ◌<◌, ◌&&◌, ℕ, Bool, true, false, Option, None, Some, List, [], ◌∷◌, map, sym, subst, ◌∙◌, refl, arith}
use Rattle.std.proofs.lemmas.Grind.{common_steps}
use Rattle.hy_bits.specs.Scalar.{scalar_width}
use Rattle.hy_bits.specs.Words.{modulus}
use Rattle.c_tree.specs.Names.{is_name}
use Rattle.c_tree.specs.Expressions.{has_some}
use Rattle.c_tree.specs.declared.expressions.Literal.{Literal}
use Rattle.c_tree.specs.declared.expressions.Literal.TheVariants as literal
use Rattle.c_tree.specs.declared.token.Place.{Place}
use Rattle.c_tree.specs.declared.expressions.Identifier.{Identifier}
use Rattle.c_tree.specs.declared.expressions.Expr.{Expr}
use Rattle.c_tree.specs.declared.expressions.Suffix.{Suffix}
use Rattle.c_tree.specs.declared.expressions.TagSpecifier.{TagSpecifier}
use Rattle.c_tree.specs.declared.expressions.TypeSpecifier.{TypeSpecifier}
use Rattle.c_tree.specs.declared.expressions.Dimension.{Dimension}
use Rattle.c_tree.specs.declared.expressions.Enumerator.{Enumerator}
use Rattle.c_tree.specs.declared.expressions.Operand.{Operand}
use Rattle.c_tree.specs.declared.expressions.Specifiers.{Specifiers}
use Rattle.c_tree.specs.declared.expressions.StructDeclaration.{StructDeclaration}
use Rattle.c_tree.specs.declared.expressions.StructDeclarator.{StructDeclarator}
use Rattle.c_tree.specs.declared.expressions.Expr.TheOpen.{Expr-F, Suffix-F, TagSpecifier-F, TypeSpecifier-F, Dimension-F, Enumerator-F, Operand-F, Specifiers-F, StructDeclaration-F, StructDeclarator-F}
use Rattle.c_tree.specs.declared.expressions.Expr.TheViews.{roll-Expr, roll-Suffix, roll-TagSpecifier, roll-TypeSpecifier, roll-Dimension, roll-Enumerator, roll-Operand, roll-Specifiers, roll-StructDeclaration, roll-StructDeclarator}
use Rattle.c_tree.specs.declared.expressions.Expr.TheFolds as T
use Rattle.c_typing.specs.Walks.{Walk}
use Rattle.c_typing.specs.Expressions.{ExprWalk, OperandWalk}
use Rattle.c_expressions.specs.Typing.{SuffixWalk, TagWalk, SpecsWalk, MembersWalk, DeclaratorWalk, EnumeratorWalk, expr_rule, suffix_rule, tag_rule, spelling_rule, dimension_rule, enumerator_rule, operand_rule, specs_rule, member_rule, declarator_rule, types_expr, types_suffix, types_tag, types_spelling, types_dimension, types_enumerator, types_operand, types_specs, types_member, types_declarator}
use Rattle.expression_laws.specs.Keeping.{Each, KeepsExpr}
use Rattle.expression_laws.proofs.Walked.{LiteralFits, KeepsSuffix, KeepsSpecs, KeepsOperand, name-keeps, literal-keeps, call-keeps, index-keeps, member-keeps, arrow-keeps, postfix-keeps, unary-keeps, cast-keeps, operand-keeps, chain-keeps, conditional-keeps}
use Rattle.specifier_laws.specs.Declared.{KeepsMembers, KeepsDeclarator, KeepsEnumerator, KeepsDimension, KeepsTag}
use Rattle.specifier_laws.proofs.Bodies.{words-keep, tag-keeps, type-name-keeps, qualified-keeps, struct-keeps, enum-keeps, member-declaration-keeps, declarator-keeps, enumerator-keeps, size-keeps}
use Rattle.source_laws.specs.Spelled.{every, literal_fits, expr_spelled, suffix_spelled, tag_spelled, spelling_spelled, dimension_spelled, enumerator_spelled, operand_spelled, specs_spelled, member_spelled, declarator_spelled, is_spelled, is_spelled_suffix, is_spelled_tag, is_spelled_spelling, is_spelled_dimension, is_spelled_enumerator, is_spelled_operand, are_spelled_specs, is_spelled_member, is_spelled_declarator}

both : (a b : Bool) → (a && b) ≡ true → (a ≡ true) × (b ≡ true)
both true b h = (refl, h)
both false b h = absurd (cc)

abbrev PE : Expr → Type 0
PE x = is_spelled x ≡ true → KeepsExpr (types_expr x)

abbrev PX : Suffix → Type 0
PX x = is_spelled_suffix x ≡ true → KeepsSuffix (types_suffix x)

abbrev PT : TagSpecifier → Type 0
PT x = is_spelled_tag x ≡ true → KeepsTag (types_tag x)

abbrev PK : TypeSpecifier → Type 0
PK x = is_spelled_spelling x ≡ true → KeepsSpecs (types_spelling x)

abbrev PD : Dimension → Type 0
PD x = is_spelled_dimension x ≡ true → KeepsDimension (types_dimension x)

abbrev PC : Enumerator → Type 0
PC x = is_spelled_enumerator x ≡ true → KeepsEnumerator (types_enumerator x)

abbrev PO : Operand → Type 0
PO x = is_spelled_operand x ≡ true → KeepsOperand (types_operand x)

abbrev PS : Specifiers → Type 0
PS x = are_spelled_specs x ≡ true → KeepsSpecs (types_specs x)

abbrev PM : StructDeclaration → Type 0
PM x = is_spelled_member x ≡ true → KeepsMembers (types_member x)

abbrev PN : StructDeclarator → Type 0
PN x = is_spelled_declarator x ≡ true → KeepsDeclarator (types_declarator x)

abbrev VE : Type 0
VE = (x : Expr) × PE x

abbrev VX : Type 0
VX = (x : Suffix) × PX x

abbrev VT : Type 0
VT = (x : TagSpecifier) × PT x

abbrev VK : Type 0
VK = (x : TypeSpecifier) × PK x

abbrev VD : Type 0
VD = (x : Dimension) × PD x

abbrev VC : Type 0
VC = (x : Enumerator) × PC x

abbrev VO : Type 0
VO = (x : Operand) × PO x

abbrev VS : Type 0
VS = (x : Specifiers) × PS x

abbrev VM : Type 0
VM = (x : StructDeclaration) × PM x

abbrev VN : Type 0
VN = (x : StructDeclarator) × PN x

abbrev bare-Expr : Expr-F VE VX VT VK VD VC VO VS VM VN → Expr-F Expr Suffix TagSpecifier TypeSpecifier Dimension Enumerator Operand Specifiers StructDeclaration StructDeclarator
bare-Expr = T.map-Expr VE VX VT VK VD VC VO VS VM VN Expr Suffix TagSpecifier TypeSpecifier Dimension Enumerator Operand Specifiers StructDeclaration StructDeclarator (λ v. v.0) (λ v. v.0) (λ v. v.0) (λ v. v.0) (λ v. v.0) (λ v. v.0) (λ v. v.0) (λ v. v.0) (λ v. v.0) (λ v. v.0)

abbrev told-Expr : Expr-F Expr Suffix TagSpecifier TypeSpecifier Dimension Enumerator Operand Specifiers StructDeclaration StructDeclarator → Expr-F Bool Bool Bool Bool Bool Bool Bool Bool Bool Bool
told-Expr = T.map-Expr Expr Suffix TagSpecifier TypeSpecifier Dimension Enumerator Operand Specifiers StructDeclaration StructDeclarator Bool Bool Bool Bool Bool Bool Bool Bool Bool Bool is_spelled is_spelled_suffix is_spelled_tag is_spelled_spelling is_spelled_dimension is_spelled_enumerator is_spelled_operand are_spelled_specs is_spelled_member is_spelled_declarator

abbrev walks-Expr : Expr-F Expr Suffix TagSpecifier TypeSpecifier Dimension Enumerator Operand Specifiers StructDeclaration StructDeclarator → Expr-F ExprWalk SuffixWalk TagWalk SpecsWalk (Walk ℕ) EnumeratorWalk OperandWalk SpecsWalk MembersWalk DeclaratorWalk
walks-Expr = T.map-Expr Expr Suffix TagSpecifier TypeSpecifier Dimension Enumerator Operand Specifiers StructDeclaration StructDeclarator ExprWalk SuffixWalk TagWalk SpecsWalk (Walk ℕ) EnumeratorWalk OperandWalk SpecsWalk MembersWalk DeclaratorWalk types_expr types_suffix types_tag types_spelling types_dimension types_enumerator types_operand types_specs types_member types_declarator

abbrev bare-Suffix : Suffix-F VE VX VT VK VD VC VO VS VM VN → Suffix-F Expr Suffix TagSpecifier TypeSpecifier Dimension Enumerator Operand Specifiers StructDeclaration StructDeclarator
bare-Suffix = T.map-Suffix VE VX VT VK VD VC VO VS VM VN Expr Suffix TagSpecifier TypeSpecifier Dimension Enumerator Operand Specifiers StructDeclaration StructDeclarator (λ v. v.0) (λ v. v.0) (λ v. v.0) (λ v. v.0) (λ v. v.0) (λ v. v.0) (λ v. v.0) (λ v. v.0) (λ v. v.0) (λ v. v.0)

abbrev told-Suffix : Suffix-F Expr Suffix TagSpecifier TypeSpecifier Dimension Enumerator Operand Specifiers StructDeclaration StructDeclarator → Suffix-F Bool Bool Bool Bool Bool Bool Bool Bool Bool Bool
told-Suffix = T.map-Suffix Expr Suffix TagSpecifier TypeSpecifier Dimension Enumerator Operand Specifiers StructDeclaration StructDeclarator Bool Bool Bool Bool Bool Bool Bool Bool Bool Bool is_spelled is_spelled_suffix is_spelled_tag is_spelled_spelling is_spelled_dimension is_spelled_enumerator is_spelled_operand are_spelled_specs is_spelled_member is_spelled_declarator

abbrev walks-Suffix : Suffix-F Expr Suffix TagSpecifier TypeSpecifier Dimension Enumerator Operand Specifiers StructDeclaration StructDeclarator → Suffix-F ExprWalk SuffixWalk TagWalk SpecsWalk (Walk ℕ) EnumeratorWalk OperandWalk SpecsWalk MembersWalk DeclaratorWalk
walks-Suffix = T.map-Suffix Expr Suffix TagSpecifier TypeSpecifier Dimension Enumerator Operand Specifiers StructDeclaration StructDeclarator ExprWalk SuffixWalk TagWalk SpecsWalk (Walk ℕ) EnumeratorWalk OperandWalk SpecsWalk MembersWalk DeclaratorWalk types_expr types_suffix types_tag types_spelling types_dimension types_enumerator types_operand types_specs types_member types_declarator

abbrev bare-TagSpecifier : TagSpecifier-F VE VX VT VK VD VC VO VS VM VN → TagSpecifier-F Expr Suffix TagSpecifier TypeSpecifier Dimension Enumerator Operand Specifiers StructDeclaration StructDeclarator
bare-TagSpecifier = T.map-TagSpecifier VE VX VT VK VD VC VO VS VM VN Expr Suffix TagSpecifier TypeSpecifier Dimension Enumerator Operand Specifiers StructDeclaration StructDeclarator (λ v. v.0) (λ v. v.0) (λ v. v.0) (λ v. v.0) (λ v. v.0) (λ v. v.0) (λ v. v.0) (λ v. v.0) (λ v. v.0) (λ v. v.0)

abbrev told-TagSpecifier : TagSpecifier-F Expr Suffix TagSpecifier TypeSpecifier Dimension Enumerator Operand Specifiers StructDeclaration StructDeclarator → TagSpecifier-F Bool Bool Bool Bool Bool Bool Bool Bool Bool Bool
told-TagSpecifier = T.map-TagSpecifier Expr Suffix TagSpecifier TypeSpecifier Dimension Enumerator Operand Specifiers StructDeclaration StructDeclarator Bool Bool Bool Bool Bool Bool Bool Bool Bool Bool is_spelled is_spelled_suffix is_spelled_tag is_spelled_spelling is_spelled_dimension is_spelled_enumerator is_spelled_operand are_spelled_specs is_spelled_member is_spelled_declarator

abbrev walks-TagSpecifier : TagSpecifier-F Expr Suffix TagSpecifier TypeSpecifier Dimension Enumerator Operand Specifiers StructDeclaration StructDeclarator → TagSpecifier-F ExprWalk SuffixWalk TagWalk SpecsWalk (Walk ℕ) EnumeratorWalk OperandWalk SpecsWalk MembersWalk DeclaratorWalk
walks-TagSpecifier = T.map-TagSpecifier Expr Suffix TagSpecifier TypeSpecifier Dimension Enumerator Operand Specifiers StructDeclaration StructDeclarator ExprWalk SuffixWalk TagWalk SpecsWalk (Walk ℕ) EnumeratorWalk OperandWalk SpecsWalk MembersWalk DeclaratorWalk types_expr types_suffix types_tag types_spelling types_dimension types_enumerator types_operand types_specs types_member types_declarator

abbrev bare-TypeSpecifier : TypeSpecifier-F VE VX VT VK VD VC VO VS VM VN → TypeSpecifier-F Expr Suffix TagSpecifier TypeSpecifier Dimension Enumerator Operand Specifiers StructDeclaration StructDeclarator
bare-TypeSpecifier = T.map-TypeSpecifier VE VX VT VK VD VC VO VS VM VN Expr Suffix TagSpecifier TypeSpecifier Dimension Enumerator Operand Specifiers StructDeclaration StructDeclarator (λ v. v.0) (λ v. v.0) (λ v. v.0) (λ v. v.0) (λ v. v.0) (λ v. v.0) (λ v. v.0) (λ v. v.0) (λ v. v.0) (λ v. v.0)

abbrev told-TypeSpecifier : TypeSpecifier-F Expr Suffix TagSpecifier TypeSpecifier Dimension Enumerator Operand Specifiers StructDeclaration StructDeclarator → TypeSpecifier-F Bool Bool Bool Bool Bool Bool Bool Bool Bool Bool
told-TypeSpecifier = T.map-TypeSpecifier Expr Suffix TagSpecifier TypeSpecifier Dimension Enumerator Operand Specifiers StructDeclaration StructDeclarator Bool Bool Bool Bool Bool Bool Bool Bool Bool Bool is_spelled is_spelled_suffix is_spelled_tag is_spelled_spelling is_spelled_dimension is_spelled_enumerator is_spelled_operand are_spelled_specs is_spelled_member is_spelled_declarator

abbrev walks-TypeSpecifier : TypeSpecifier-F Expr Suffix TagSpecifier TypeSpecifier Dimension Enumerator Operand Specifiers StructDeclaration StructDeclarator → TypeSpecifier-F ExprWalk SuffixWalk TagWalk SpecsWalk (Walk ℕ) EnumeratorWalk OperandWalk SpecsWalk MembersWalk DeclaratorWalk
walks-TypeSpecifier = T.map-TypeSpecifier Expr Suffix TagSpecifier TypeSpecifier Dimension Enumerator Operand Specifiers StructDeclaration StructDeclarator ExprWalk SuffixWalk TagWalk SpecsWalk (Walk ℕ) EnumeratorWalk OperandWalk SpecsWalk MembersWalk DeclaratorWalk types_expr types_suffix types_tag types_spelling types_dimension types_enumerator types_operand types_specs types_member types_declarator

abbrev bare-Dimension : Dimension-F VE VX VT VK VD VC VO VS VM VN → Dimension-F Expr Suffix TagSpecifier TypeSpecifier Dimension Enumerator Operand Specifiers StructDeclaration StructDeclarator
bare-Dimension = T.map-Dimension VE VX VT VK VD VC VO VS VM VN Expr Suffix TagSpecifier TypeSpecifier Dimension Enumerator Operand Specifiers StructDeclaration StructDeclarator (λ v. v.0) (λ v. v.0) (λ v. v.0) (λ v. v.0) (λ v. v.0) (λ v. v.0) (λ v. v.0) (λ v. v.0) (λ v. v.0) (λ v. v.0)

abbrev told-Dimension : Dimension-F Expr Suffix TagSpecifier TypeSpecifier Dimension Enumerator Operand Specifiers StructDeclaration StructDeclarator → Dimension-F Bool Bool Bool Bool Bool Bool Bool Bool Bool Bool
told-Dimension = T.map-Dimension Expr Suffix TagSpecifier TypeSpecifier Dimension Enumerator Operand Specifiers StructDeclaration StructDeclarator Bool Bool Bool Bool Bool Bool Bool Bool Bool Bool is_spelled is_spelled_suffix is_spelled_tag is_spelled_spelling is_spelled_dimension is_spelled_enumerator is_spelled_operand are_spelled_specs is_spelled_member is_spelled_declarator

abbrev walks-Dimension : Dimension-F Expr Suffix TagSpecifier TypeSpecifier Dimension Enumerator Operand Specifiers StructDeclaration StructDeclarator → Dimension-F ExprWalk SuffixWalk TagWalk SpecsWalk (Walk ℕ) EnumeratorWalk OperandWalk SpecsWalk MembersWalk DeclaratorWalk
walks-Dimension = T.map-Dimension Expr Suffix TagSpecifier TypeSpecifier Dimension Enumerator Operand Specifiers StructDeclaration StructDeclarator ExprWalk SuffixWalk TagWalk SpecsWalk (Walk ℕ) EnumeratorWalk OperandWalk SpecsWalk MembersWalk DeclaratorWalk types_expr types_suffix types_tag types_spelling types_dimension types_enumerator types_operand types_specs types_member types_declarator

abbrev bare-Enumerator : Enumerator-F VE VX VT VK VD VC VO VS VM VN → Enumerator-F Expr Suffix TagSpecifier TypeSpecifier Dimension Enumerator Operand Specifiers StructDeclaration StructDeclarator
bare-Enumerator = T.map-Enumerator VE VX VT VK VD VC VO VS VM VN Expr Suffix TagSpecifier TypeSpecifier Dimension Enumerator Operand Specifiers StructDeclaration StructDeclarator (λ v. v.0) (λ v. v.0) (λ v. v.0) (λ v. v.0) (λ v. v.0) (λ v. v.0) (λ v. v.0) (λ v. v.0) (λ v. v.0) (λ v. v.0)

abbrev told-Enumerator : Enumerator-F Expr Suffix TagSpecifier TypeSpecifier Dimension Enumerator Operand Specifiers StructDeclaration StructDeclarator → Enumerator-F Bool Bool Bool Bool Bool Bool Bool Bool Bool Bool
told-Enumerator = T.map-Enumerator Expr Suffix TagSpecifier TypeSpecifier Dimension Enumerator Operand Specifiers StructDeclaration StructDeclarator Bool Bool Bool Bool Bool Bool Bool Bool Bool Bool is_spelled is_spelled_suffix is_spelled_tag is_spelled_spelling is_spelled_dimension is_spelled_enumerator is_spelled_operand are_spelled_specs is_spelled_member is_spelled_declarator

abbrev walks-Enumerator : Enumerator-F Expr Suffix TagSpecifier TypeSpecifier Dimension Enumerator Operand Specifiers StructDeclaration StructDeclarator → Enumerator-F ExprWalk SuffixWalk TagWalk SpecsWalk (Walk ℕ) EnumeratorWalk OperandWalk SpecsWalk MembersWalk DeclaratorWalk
walks-Enumerator = T.map-Enumerator Expr Suffix TagSpecifier TypeSpecifier Dimension Enumerator Operand Specifiers StructDeclaration StructDeclarator ExprWalk SuffixWalk TagWalk SpecsWalk (Walk ℕ) EnumeratorWalk OperandWalk SpecsWalk MembersWalk DeclaratorWalk types_expr types_suffix types_tag types_spelling types_dimension types_enumerator types_operand types_specs types_member types_declarator

abbrev bare-Operand : Operand-F VE VX VT VK VD VC VO VS VM VN → Operand-F Expr Suffix TagSpecifier TypeSpecifier Dimension Enumerator Operand Specifiers StructDeclaration StructDeclarator
bare-Operand = T.map-Operand VE VX VT VK VD VC VO VS VM VN Expr Suffix TagSpecifier TypeSpecifier Dimension Enumerator Operand Specifiers StructDeclaration StructDeclarator (λ v. v.0) (λ v. v.0) (λ v. v.0) (λ v. v.0) (λ v. v.0) (λ v. v.0) (λ v. v.0) (λ v. v.0) (λ v. v.0) (λ v. v.0)

abbrev told-Operand : Operand-F Expr Suffix TagSpecifier TypeSpecifier Dimension Enumerator Operand Specifiers StructDeclaration StructDeclarator → Operand-F Bool Bool Bool Bool Bool Bool Bool Bool Bool Bool
told-Operand = T.map-Operand Expr Suffix TagSpecifier TypeSpecifier Dimension Enumerator Operand Specifiers StructDeclaration StructDeclarator Bool Bool Bool Bool Bool Bool Bool Bool Bool Bool is_spelled is_spelled_suffix is_spelled_tag is_spelled_spelling is_spelled_dimension is_spelled_enumerator is_spelled_operand are_spelled_specs is_spelled_member is_spelled_declarator

abbrev walks-Operand : Operand-F Expr Suffix TagSpecifier TypeSpecifier Dimension Enumerator Operand Specifiers StructDeclaration StructDeclarator → Operand-F ExprWalk SuffixWalk TagWalk SpecsWalk (Walk ℕ) EnumeratorWalk OperandWalk SpecsWalk MembersWalk DeclaratorWalk
walks-Operand = T.map-Operand Expr Suffix TagSpecifier TypeSpecifier Dimension Enumerator Operand Specifiers StructDeclaration StructDeclarator ExprWalk SuffixWalk TagWalk SpecsWalk (Walk ℕ) EnumeratorWalk OperandWalk SpecsWalk MembersWalk DeclaratorWalk types_expr types_suffix types_tag types_spelling types_dimension types_enumerator types_operand types_specs types_member types_declarator

abbrev bare-Specifiers : Specifiers-F VE VX VT VK VD VC VO VS VM VN → Specifiers-F Expr Suffix TagSpecifier TypeSpecifier Dimension Enumerator Operand Specifiers StructDeclaration StructDeclarator
bare-Specifiers = T.map-Specifiers VE VX VT VK VD VC VO VS VM VN Expr Suffix TagSpecifier TypeSpecifier Dimension Enumerator Operand Specifiers StructDeclaration StructDeclarator (λ v. v.0) (λ v. v.0) (λ v. v.0) (λ v. v.0) (λ v. v.0) (λ v. v.0) (λ v. v.0) (λ v. v.0) (λ v. v.0) (λ v. v.0)

abbrev told-Specifiers : Specifiers-F Expr Suffix TagSpecifier TypeSpecifier Dimension Enumerator Operand Specifiers StructDeclaration StructDeclarator → Specifiers-F Bool Bool Bool Bool Bool Bool Bool Bool Bool Bool
told-Specifiers = T.map-Specifiers Expr Suffix TagSpecifier TypeSpecifier Dimension Enumerator Operand Specifiers StructDeclaration StructDeclarator Bool Bool Bool Bool Bool Bool Bool Bool Bool Bool is_spelled is_spelled_suffix is_spelled_tag is_spelled_spelling is_spelled_dimension is_spelled_enumerator is_spelled_operand are_spelled_specs is_spelled_member is_spelled_declarator

abbrev walks-Specifiers : Specifiers-F Expr Suffix TagSpecifier TypeSpecifier Dimension Enumerator Operand Specifiers StructDeclaration StructDeclarator → Specifiers-F ExprWalk SuffixWalk TagWalk SpecsWalk (Walk ℕ) EnumeratorWalk OperandWalk SpecsWalk MembersWalk DeclaratorWalk
walks-Specifiers = T.map-Specifiers Expr Suffix TagSpecifier TypeSpecifier Dimension Enumerator Operand Specifiers StructDeclaration StructDeclarator ExprWalk SuffixWalk TagWalk SpecsWalk (Walk ℕ) EnumeratorWalk OperandWalk SpecsWalk MembersWalk DeclaratorWalk types_expr types_suffix types_tag types_spelling types_dimension types_enumerator types_operand types_specs types_member types_declarator

abbrev bare-StructDeclaration : StructDeclaration-F VE VX VT VK VD VC VO VS VM VN → StructDeclaration-F Expr Suffix TagSpecifier TypeSpecifier Dimension Enumerator Operand Specifiers StructDeclaration StructDeclarator
bare-StructDeclaration = T.map-StructDeclaration VE VX VT VK VD VC VO VS VM VN Expr Suffix TagSpecifier TypeSpecifier Dimension Enumerator Operand Specifiers StructDeclaration StructDeclarator (λ v. v.0) (λ v. v.0) (λ v. v.0) (λ v. v.0) (λ v. v.0) (λ v. v.0) (λ v. v.0) (λ v. v.0) (λ v. v.0) (λ v. v.0)

abbrev told-StructDeclaration : StructDeclaration-F Expr Suffix TagSpecifier TypeSpecifier Dimension Enumerator Operand Specifiers StructDeclaration StructDeclarator → StructDeclaration-F Bool Bool Bool Bool Bool Bool Bool Bool Bool Bool
told-StructDeclaration = T.map-StructDeclaration Expr Suffix TagSpecifier TypeSpecifier Dimension Enumerator Operand Specifiers StructDeclaration StructDeclarator Bool Bool Bool Bool Bool Bool Bool Bool Bool Bool is_spelled is_spelled_suffix is_spelled_tag is_spelled_spelling is_spelled_dimension is_spelled_enumerator is_spelled_operand are_spelled_specs is_spelled_member is_spelled_declarator

abbrev walks-StructDeclaration : StructDeclaration-F Expr Suffix TagSpecifier TypeSpecifier Dimension Enumerator Operand Specifiers StructDeclaration StructDeclarator → StructDeclaration-F ExprWalk SuffixWalk TagWalk SpecsWalk (Walk ℕ) EnumeratorWalk OperandWalk SpecsWalk MembersWalk DeclaratorWalk
walks-StructDeclaration = T.map-StructDeclaration Expr Suffix TagSpecifier TypeSpecifier Dimension Enumerator Operand Specifiers StructDeclaration StructDeclarator ExprWalk SuffixWalk TagWalk SpecsWalk (Walk ℕ) EnumeratorWalk OperandWalk SpecsWalk MembersWalk DeclaratorWalk types_expr types_suffix types_tag types_spelling types_dimension types_enumerator types_operand types_specs types_member types_declarator

abbrev bare-StructDeclarator : StructDeclarator-F VE VX VT VK VD VC VO VS VM VN → StructDeclarator-F Expr Suffix TagSpecifier TypeSpecifier Dimension Enumerator Operand Specifiers StructDeclaration StructDeclarator
bare-StructDeclarator = T.map-StructDeclarator VE VX VT VK VD VC VO VS VM VN Expr Suffix TagSpecifier TypeSpecifier Dimension Enumerator Operand Specifiers StructDeclaration StructDeclarator (λ v. v.0) (λ v. v.0) (λ v. v.0) (λ v. v.0) (λ v. v.0) (λ v. v.0) (λ v. v.0) (λ v. v.0) (λ v. v.0) (λ v. v.0)

abbrev told-StructDeclarator : StructDeclarator-F Expr Suffix TagSpecifier TypeSpecifier Dimension Enumerator Operand Specifiers StructDeclaration StructDeclarator → StructDeclarator-F Bool Bool Bool Bool Bool Bool Bool Bool Bool Bool
told-StructDeclarator = T.map-StructDeclarator Expr Suffix TagSpecifier TypeSpecifier Dimension Enumerator Operand Specifiers StructDeclaration StructDeclarator Bool Bool Bool Bool Bool Bool Bool Bool Bool Bool is_spelled is_spelled_suffix is_spelled_tag is_spelled_spelling is_spelled_dimension is_spelled_enumerator is_spelled_operand are_spelled_specs is_spelled_member is_spelled_declarator

abbrev walks-StructDeclarator : StructDeclarator-F Expr Suffix TagSpecifier TypeSpecifier Dimension Enumerator Operand Specifiers StructDeclaration StructDeclarator → StructDeclarator-F ExprWalk SuffixWalk TagWalk SpecsWalk (Walk ℕ) EnumeratorWalk OperandWalk SpecsWalk MembersWalk DeclaratorWalk
walks-StructDeclarator = T.map-StructDeclarator Expr Suffix TagSpecifier TypeSpecifier Dimension Enumerator Operand Specifiers StructDeclaration StructDeclarator ExprWalk SuffixWalk TagWalk SpecsWalk (Walk ℕ) EnumeratorWalk OperandWalk SpecsWalk MembersWalk DeclaratorWalk types_expr types_suffix types_tag types_spelling types_dimension types_enumerator types_operand types_specs types_member types_declarator

-- ---- lists of parts

module _ (A W : Type 0) (spelled : A → Bool) (types : A → W) (K : W → Type 0) where
  abbrev V : Type 0
  V = (x : A) × (spelled x ≡ true → K (types x))

  each-kept : (ys : List V) → every (map spelled (map (λ v. v.0) ys)) ≡ true → Each K (map types (map (λ v. v.0) ys))
  each-kept [] h = tt
  each-kept (y ∷ ys) h = let b = both (spelled y.0) (every (map spelled (map (λ v. v.0) ys))) h in (y.1 b.0, each-kept ys b.1)

  some-kept : (ys : List V) → has_some (map spelled (map (λ v. v.0) ys)) ≡ true → map types (map (λ v. v.0) ys) ≢ []
  some-kept [] h = absurd (cc)
  some-kept (y ∷ ys) h = λ e. absurd (cc)

literal-told : (l : Literal) → literal_fits l ≡ true → LiteralFits l
literal-told (literal.Integer t w) h = let few : w < modulus (scalar_width t) = grind (arith, common_steps) in few
literal-told (literal.Character t w) h = let few : w < modulus (scalar_width t) = grind (arith, common_steps) in few
literal-told literal.True h = tt
literal-told literal.False h = tt

-- ---- a node of parts

args : (ys : List VE) → every (map is_spelled (map (λ v. v.0) ys)) ≡ true → Each KeepsExpr (map types_expr (map (λ v. v.0) ys))
args ys h = each-kept Expr ExprWalk is_spelled types_expr KeepsExpr ys h

expr-of : (y : Expr-F VE VX VT VK VD VC VO VS VM VN) → expr_spelled (told-Expr (bare-Expr y)) ≡ true → KeepsExpr (expr_rule (walks-Expr (bare-Expr y)))
expr-of (Expr-F.Name name) h = name-keeps name
expr-of (Expr-F.Literal place value) h = literal-keeps place value (literal-told value h)
expr-of (Expr-F.Call name bracket arguments) h = call-keeps name bracket (map types_expr (map (λ v. v.0) arguments)) (args arguments h)
expr-of (Expr-F.Parenthesized place inner) h = inner.1 h
expr-of (Expr-F.Postfix first suffixes) h =
    let b = both (is_spelled first.0 && has_some (map is_spelled_suffix (map (λ v. v.0) suffixes))) (every (map is_spelled_suffix (map (λ v. v.0) suffixes))) h in
    let c = both (is_spelled first.0) (has_some (map is_spelled_suffix (map (λ v. v.0) suffixes))) b.0 in
    postfix-keeps (types_expr first.0) (map types_suffix (map (λ v. v.0) suffixes)) (first.1 c.0) (each-kept Suffix SuffixWalk is_spelled_suffix types_suffix KeepsSuffix suffixes b.1)
expr-of (Expr-F.Unary place op operand) h = unary-keeps place (types_expr operand.0) (operand.1 h) op
expr-of (Expr-F.Cast place specs operand) h =
    let b = both (are_spelled_specs specs.0) (is_spelled operand.0) h in
    cast-keeps place (types_specs specs.0) (types_expr operand.0) (specs.1 b.0) (operand.1 b.1)
expr-of (Expr-F.BinaryChain first operands) h =
    let b = both (is_spelled first.0) (every (map is_spelled_operand (map (λ v. v.0) operands))) h in
    chain-keeps (types_expr first.0) (map types_operand (map (λ v. v.0) operands)) (first.1 b.0) (each-kept Operand OperandWalk is_spelled_operand types_operand KeepsOperand operands b.1)
expr-of (Expr-F.Conditional condition place second third) h =
    let b = both (is_spelled condition.0 && is_spelled second.0) (is_spelled third.0) h in
    let c = both (is_spelled condition.0) (is_spelled second.0) b.0 in
    conditional-keeps (types_expr condition.0) place (types_expr second.0) (types_expr third.0) (condition.1 c.0) (second.1 c.1) (third.1 b.1)

suffix-of : (y : Suffix-F VE VX VT VK VD VC VO VS VM VN) → suffix_spelled (told-Suffix (bare-Suffix y)) ≡ true → KeepsSuffix (suffix_rule (walks-Suffix (bare-Suffix y)))
suffix-of (Suffix-F.Index place index) h = index-keeps place (types_expr index.0) (index.1 h)
suffix-of (Suffix-F.Member place name) h = member-keeps place name
suffix-of (Suffix-F.Arrow place name) h = arrow-keeps place name

tag-of : (y : TagSpecifier-F VE VX VT VK VD VC VO VS VM VN) → tag_spelled (told-TagSpecifier (bare-TagSpecifier y)) ≡ true → KeepsTag (tag_rule (walks-TagSpecifier (bare-TagSpecifier y)))
tag-of (TagSpecifier-F.Struct place name None) h = struct-keeps place name None tt
tag-of (TagSpecifier-F.Struct place name (Some members)) h =
    let b = both (has_some (map is_spelled_member (map (λ v. v.0) members))) (every (map is_spelled_member (map (λ v. v.0) members))) h in
    struct-keeps place name (Some (map types_member (map (λ v. v.0) members)))
    (some-kept StructDeclaration MembersWalk is_spelled_member types_member KeepsMembers members b.0, each-kept StructDeclaration MembersWalk is_spelled_member types_member KeepsMembers members b.1)
tag-of (TagSpecifier-F.Enum place name None comma) h = enum-keeps place name None tt
tag-of (TagSpecifier-F.Enum place name (Some constants) comma) h =
    enum-keeps place name (Some (map types_enumerator (map (λ v. v.0) constants))) (each-kept Enumerator EnumeratorWalk is_spelled_enumerator types_enumerator KeepsEnumerator constants h)

spelling-of : (y : TypeSpecifier-F VE VX VT VK VD VC VO VS VM VN) → spelling_spelled (told-TypeSpecifier (bare-TypeSpecifier y)) ≡ true → KeepsSpecs (spelling_rule (walks-TypeSpecifier (bare-TypeSpecifier y)))
spelling-of (TypeSpecifier-F.Words place words) h = words-keep words
spelling-of (TypeSpecifier-F.TagSpecifier tag) h = tag-keeps (types_tag tag.0) (tag.1 h)
spelling-of (TypeSpecifier-F.TypeName name) h = type-name-keeps name

abbrev dimension-with : Place → Option VE → Dimension-F VE VX VT VK VD VC VO VS VM VN
dimension-with place size = record { place = place; size = size }

dimension-at : (place : Place) (size : Option VE) → dimension_spelled (told-Dimension (bare-Dimension (dimension-with place size))) ≡ true
    → KeepsDimension (dimension_rule (walks-Dimension (bare-Dimension (dimension-with place size))))
dimension-at place None h = size-keeps place None tt
dimension-at place (Some e) h = size-keeps place (Some (types_expr e.0)) (e.1 h)

dimension-of : (y : Dimension-F VE VX VT VK VD VC VO VS VM VN) → dimension_spelled (told-Dimension (bare-Dimension y)) ≡ true → KeepsDimension (dimension_rule (walks-Dimension (bare-Dimension y)))
dimension-of y h = dimension-at y.place y.size h

abbrev enumerator-with : Identifier → Option VE → Enumerator-F VE VX VT VK VD VC VO VS VM VN
enumerator-with name value = record { name = name; value = value }

enumerator-at : (name : Identifier) (value : Option VE) → enumerator_spelled (told-Enumerator (bare-Enumerator (enumerator-with name value))) ≡ true
    → KeepsEnumerator (enumerator_rule (walks-Enumerator (bare-Enumerator (enumerator-with name value))))
enumerator-at name None h = enumerator-keeps name None tt
enumerator-at name (Some e) h = enumerator-keeps name (Some (types_expr e.0)) (e.1 h)

enumerator-of : (y : Enumerator-F VE VX VT VK VD VC VO VS VM VN) → enumerator_spelled (told-Enumerator (bare-Enumerator y)) ≡ true → KeepsEnumerator (enumerator_rule (walks-Enumerator (bare-Enumerator y)))
enumerator-of y h = enumerator-at y.name y.value h

operand-of : (y : Operand-F VE VX VT VK VD VC VO VS VM VN) → operand_spelled (told-Operand (bare-Operand y)) ≡ true → KeepsOperand (operand_rule (walks-Operand (bare-Operand y)))
operand-of y h = operand-keeps y.place y.operator (types_expr y.value.0) (y.value.1 h)

specs-of : (y : Specifiers-F VE VX VT VK VD VC VO VS VM VN) → specs_spelled (told-Specifiers (bare-Specifiers y)) ≡ true → KeepsSpecs (specs_rule (walks-Specifiers (bare-Specifiers y)))
specs-of y h = qualified-keeps y.before y.after (types_spelling y.kind.0) (y.kind.1 h)

member-of : (y : StructDeclaration-F VE VX VT VK VD VC VO VS VM VN) → member_spelled (told-StructDeclaration (bare-StructDeclaration y)) ≡ true → KeepsMembers (member_rule (walks-StructDeclaration (bare-StructDeclaration y)))
member-of y h =
    let b = both (are_spelled_specs y.specs.0 && has_some (map is_spelled_declarator (map (λ v. v.0) y.names))) (every (map is_spelled_declarator (map (λ v. v.0) y.names))) h in
    let c = both (are_spelled_specs y.specs.0) (has_some (map is_spelled_declarator (map (λ v. v.0) y.names))) b.0 in
    member-declaration-keeps (types_specs y.specs.0) (map types_declarator (map (λ v. v.0) y.names)) (y.specs.1 c.0)
    (some-kept StructDeclarator DeclaratorWalk is_spelled_declarator types_declarator KeepsDeclarator y.names c.1)
    (each-kept StructDeclarator DeclaratorWalk is_spelled_declarator types_declarator KeepsDeclarator y.names b.1)

declarator-of : (y : StructDeclarator-F VE VX VT VK VD VC VO VS VM VN) → declarator_spelled (told-StructDeclarator (bare-StructDeclarator y)) ≡ true → KeepsDeclarator (declarator_rule (walks-StructDeclarator (bare-StructDeclarator y)))
declarator-of y h =
    let b = both (is_name y.name.text) (every (map is_spelled_dimension (map (λ v. v.0) y.dimensions))) h in
    declarator-keeps y.name (map types_dimension (map (λ v. v.0) y.dimensions)) b.0 (each-kept Dimension (Walk ℕ) is_spelled_dimension types_dimension KeepsDimension y.dimensions b.1)

-- ---- whole trees

whole-Expr : (y : Expr-F VE VX VT VK VD VC VO VS VM VN) → PE (roll-Expr (bare-Expr y))
whole-Expr y h =
    subst KeepsExpr (sym (T.fold-roll-Expr ExprWalk SuffixWalk TagWalk SpecsWalk (Walk ℕ) EnumeratorWalk OperandWalk SpecsWalk MembersWalk DeclaratorWalk expr_rule suffix_rule tag_rule spelling_rule dimension_rule enumerator_rule operand_rule specs_rule member_rule declarator_rule (bare-Expr y)))
    (expr-of y (sym (T.fold-roll-Expr Bool Bool Bool Bool Bool Bool Bool Bool Bool Bool expr_spelled suffix_spelled tag_spelled spelling_spelled dimension_spelled enumerator_spelled operand_spelled specs_spelled member_spelled declarator_spelled (bare-Expr y)) ∙ h))

whole-Suffix : (y : Suffix-F VE VX VT VK VD VC VO VS VM VN) → PX (roll-Suffix (bare-Suffix y))
whole-Suffix y h =
    subst KeepsSuffix (sym (T.fold-roll-Suffix ExprWalk SuffixWalk TagWalk SpecsWalk (Walk ℕ) EnumeratorWalk OperandWalk SpecsWalk MembersWalk DeclaratorWalk expr_rule suffix_rule tag_rule spelling_rule dimension_rule enumerator_rule operand_rule specs_rule member_rule declarator_rule (bare-Suffix y)))
    (suffix-of y (sym (T.fold-roll-Suffix Bool Bool Bool Bool Bool Bool Bool Bool Bool Bool expr_spelled suffix_spelled tag_spelled spelling_spelled dimension_spelled enumerator_spelled operand_spelled specs_spelled member_spelled declarator_spelled (bare-Suffix y)) ∙ h))

whole-TagSpecifier : (y : TagSpecifier-F VE VX VT VK VD VC VO VS VM VN) → PT (roll-TagSpecifier (bare-TagSpecifier y))
whole-TagSpecifier y h =
    subst KeepsTag (sym (T.fold-roll-TagSpecifier ExprWalk SuffixWalk TagWalk SpecsWalk (Walk ℕ) EnumeratorWalk OperandWalk SpecsWalk MembersWalk DeclaratorWalk expr_rule suffix_rule tag_rule spelling_rule dimension_rule enumerator_rule operand_rule specs_rule member_rule declarator_rule (bare-TagSpecifier y)))
    (tag-of y (sym (T.fold-roll-TagSpecifier Bool Bool Bool Bool Bool Bool Bool Bool Bool Bool expr_spelled suffix_spelled tag_spelled spelling_spelled dimension_spelled enumerator_spelled operand_spelled specs_spelled member_spelled declarator_spelled (bare-TagSpecifier y)) ∙ h))

whole-TypeSpecifier : (y : TypeSpecifier-F VE VX VT VK VD VC VO VS VM VN) → PK (roll-TypeSpecifier (bare-TypeSpecifier y))
whole-TypeSpecifier y h =
    subst KeepsSpecs (sym (T.fold-roll-TypeSpecifier ExprWalk SuffixWalk TagWalk SpecsWalk (Walk ℕ) EnumeratorWalk OperandWalk SpecsWalk MembersWalk DeclaratorWalk expr_rule suffix_rule tag_rule spelling_rule dimension_rule enumerator_rule operand_rule specs_rule member_rule declarator_rule (bare-TypeSpecifier y)))
    (spelling-of y (sym (T.fold-roll-TypeSpecifier Bool Bool Bool Bool Bool Bool Bool Bool Bool Bool expr_spelled suffix_spelled tag_spelled spelling_spelled dimension_spelled enumerator_spelled operand_spelled specs_spelled member_spelled declarator_spelled (bare-TypeSpecifier y)) ∙ h))

whole-Dimension : (y : Dimension-F VE VX VT VK VD VC VO VS VM VN) → PD (roll-Dimension (bare-Dimension y))
whole-Dimension y h =
    subst KeepsDimension (sym (T.fold-roll-Dimension ExprWalk SuffixWalk TagWalk SpecsWalk (Walk ℕ) EnumeratorWalk OperandWalk SpecsWalk MembersWalk DeclaratorWalk expr_rule suffix_rule tag_rule spelling_rule dimension_rule enumerator_rule operand_rule specs_rule member_rule declarator_rule (bare-Dimension y)))
    (dimension-of y (sym (T.fold-roll-Dimension Bool Bool Bool Bool Bool Bool Bool Bool Bool Bool expr_spelled suffix_spelled tag_spelled spelling_spelled dimension_spelled enumerator_spelled operand_spelled specs_spelled member_spelled declarator_spelled (bare-Dimension y)) ∙ h))

whole-Enumerator : (y : Enumerator-F VE VX VT VK VD VC VO VS VM VN) → PC (roll-Enumerator (bare-Enumerator y))
whole-Enumerator y h =
    subst KeepsEnumerator (sym (T.fold-roll-Enumerator ExprWalk SuffixWalk TagWalk SpecsWalk (Walk ℕ) EnumeratorWalk OperandWalk SpecsWalk MembersWalk DeclaratorWalk expr_rule suffix_rule tag_rule spelling_rule dimension_rule enumerator_rule operand_rule specs_rule member_rule declarator_rule (bare-Enumerator y)))
    (enumerator-of y (sym (T.fold-roll-Enumerator Bool Bool Bool Bool Bool Bool Bool Bool Bool Bool expr_spelled suffix_spelled tag_spelled spelling_spelled dimension_spelled enumerator_spelled operand_spelled specs_spelled member_spelled declarator_spelled (bare-Enumerator y)) ∙ h))

whole-Operand : (y : Operand-F VE VX VT VK VD VC VO VS VM VN) → PO (roll-Operand (bare-Operand y))
whole-Operand y h =
    subst KeepsOperand (sym (T.fold-roll-Operand ExprWalk SuffixWalk TagWalk SpecsWalk (Walk ℕ) EnumeratorWalk OperandWalk SpecsWalk MembersWalk DeclaratorWalk expr_rule suffix_rule tag_rule spelling_rule dimension_rule enumerator_rule operand_rule specs_rule member_rule declarator_rule (bare-Operand y)))
    (operand-of y (sym (T.fold-roll-Operand Bool Bool Bool Bool Bool Bool Bool Bool Bool Bool expr_spelled suffix_spelled tag_spelled spelling_spelled dimension_spelled enumerator_spelled operand_spelled specs_spelled member_spelled declarator_spelled (bare-Operand y)) ∙ h))

whole-Specifiers : (y : Specifiers-F VE VX VT VK VD VC VO VS VM VN) → PS (roll-Specifiers (bare-Specifiers y))
whole-Specifiers y h =
    subst KeepsSpecs (sym (T.fold-roll-Specifiers ExprWalk SuffixWalk TagWalk SpecsWalk (Walk ℕ) EnumeratorWalk OperandWalk SpecsWalk MembersWalk DeclaratorWalk expr_rule suffix_rule tag_rule spelling_rule dimension_rule enumerator_rule operand_rule specs_rule member_rule declarator_rule (bare-Specifiers y)))
    (specs-of y (sym (T.fold-roll-Specifiers Bool Bool Bool Bool Bool Bool Bool Bool Bool Bool expr_spelled suffix_spelled tag_spelled spelling_spelled dimension_spelled enumerator_spelled operand_spelled specs_spelled member_spelled declarator_spelled (bare-Specifiers y)) ∙ h))

whole-StructDeclaration : (y : StructDeclaration-F VE VX VT VK VD VC VO VS VM VN) → PM (roll-StructDeclaration (bare-StructDeclaration y))
whole-StructDeclaration y h =
    subst KeepsMembers (sym (T.fold-roll-StructDeclaration ExprWalk SuffixWalk TagWalk SpecsWalk (Walk ℕ) EnumeratorWalk OperandWalk SpecsWalk MembersWalk DeclaratorWalk expr_rule suffix_rule tag_rule spelling_rule dimension_rule enumerator_rule operand_rule specs_rule member_rule declarator_rule (bare-StructDeclaration y)))
    (member-of y (sym (T.fold-roll-StructDeclaration Bool Bool Bool Bool Bool Bool Bool Bool Bool Bool expr_spelled suffix_spelled tag_spelled spelling_spelled dimension_spelled enumerator_spelled operand_spelled specs_spelled member_spelled declarator_spelled (bare-StructDeclaration y)) ∙ h))

whole-StructDeclarator : (y : StructDeclarator-F VE VX VT VK VD VC VO VS VM VN) → PN (roll-StructDeclarator (bare-StructDeclarator y))
whole-StructDeclarator y h =
    subst KeepsDeclarator (sym (T.fold-roll-StructDeclarator ExprWalk SuffixWalk TagWalk SpecsWalk (Walk ℕ) EnumeratorWalk OperandWalk SpecsWalk MembersWalk DeclaratorWalk expr_rule suffix_rule tag_rule spelling_rule dimension_rule enumerator_rule operand_rule specs_rule member_rule declarator_rule (bare-StructDeclarator y)))
    (declarator-of y (sym (T.fold-roll-StructDeclarator Bool Bool Bool Bool Bool Bool Bool Bool Bool Bool expr_spelled suffix_spelled tag_spelled spelling_spelled dimension_spelled enumerator_spelled operand_spelled specs_spelled member_spelled declarator_spelled (bare-StructDeclarator y)) ∙ h))

-- where the walk of an expression passes, it passes with what is typed, in an environment that is well formed and has no less declared
pub expr-typed : (x : Expr) → is_spelled x ≡ true → KeepsExpr (types_expr x)
expr-typed = T.ind-Expr PE PX PT PK PD PC PO PS PM PN
    (λ x y is. subst (λ (z : Expr-F Expr Suffix TagSpecifier TypeSpecifier Dimension Enumerator Operand Specifiers StructDeclaration StructDeclarator). PE (roll-Expr z)) is (whole-Expr y))
    (λ x y is. subst (λ (z : Suffix-F Expr Suffix TagSpecifier TypeSpecifier Dimension Enumerator Operand Specifiers StructDeclaration StructDeclarator). PX (roll-Suffix z)) is (whole-Suffix y))
    (λ x y is. subst (λ (z : TagSpecifier-F Expr Suffix TagSpecifier TypeSpecifier Dimension Enumerator Operand Specifiers StructDeclaration StructDeclarator). PT (roll-TagSpecifier z)) is (whole-TagSpecifier y))
    (λ x y is. subst (λ (z : TypeSpecifier-F Expr Suffix TagSpecifier TypeSpecifier Dimension Enumerator Operand Specifiers StructDeclaration StructDeclarator). PK (roll-TypeSpecifier z)) is (whole-TypeSpecifier y))
    (λ x y is. subst (λ (z : Dimension-F Expr Suffix TagSpecifier TypeSpecifier Dimension Enumerator Operand Specifiers StructDeclaration StructDeclarator). PD (roll-Dimension z)) is (whole-Dimension y))
    (λ x y is. subst (λ (z : Enumerator-F Expr Suffix TagSpecifier TypeSpecifier Dimension Enumerator Operand Specifiers StructDeclaration StructDeclarator). PC (roll-Enumerator z)) is (whole-Enumerator y))
    (λ x y is. subst (λ (z : Operand-F Expr Suffix TagSpecifier TypeSpecifier Dimension Enumerator Operand Specifiers StructDeclaration StructDeclarator). PO (roll-Operand z)) is (whole-Operand y))
    (λ x y is. subst (λ (z : Specifiers-F Expr Suffix TagSpecifier TypeSpecifier Dimension Enumerator Operand Specifiers StructDeclaration StructDeclarator). PS (roll-Specifiers z)) is (whole-Specifiers y))
    (λ x y is. subst (λ (z : StructDeclaration-F Expr Suffix TagSpecifier TypeSpecifier Dimension Enumerator Operand Specifiers StructDeclaration StructDeclarator). PM (roll-StructDeclaration z)) is (whole-StructDeclaration y))
    (λ x y is. subst (λ (z : StructDeclarator-F Expr Suffix TagSpecifier TypeSpecifier Dimension Enumerator Operand Specifiers StructDeclaration StructDeclarator). PN (roll-StructDeclarator z)) is (whole-StructDeclarator y))

-- specifiers, with a type of structs that stand
pub specs-typed : (x : Specifiers) → are_spelled_specs x ≡ true → KeepsSpecs (types_specs x)
specs-typed = T.ind-Specifiers PE PX PT PK PD PC PO PS PM PN
    (λ x y is. subst (λ (z : Expr-F Expr Suffix TagSpecifier TypeSpecifier Dimension Enumerator Operand Specifiers StructDeclaration StructDeclarator). PE (roll-Expr z)) is (whole-Expr y))
    (λ x y is. subst (λ (z : Suffix-F Expr Suffix TagSpecifier TypeSpecifier Dimension Enumerator Operand Specifiers StructDeclaration StructDeclarator). PX (roll-Suffix z)) is (whole-Suffix y))
    (λ x y is. subst (λ (z : TagSpecifier-F Expr Suffix TagSpecifier TypeSpecifier Dimension Enumerator Operand Specifiers StructDeclaration StructDeclarator). PT (roll-TagSpecifier z)) is (whole-TagSpecifier y))
    (λ x y is. subst (λ (z : TypeSpecifier-F Expr Suffix TagSpecifier TypeSpecifier Dimension Enumerator Operand Specifiers StructDeclaration StructDeclarator). PK (roll-TypeSpecifier z)) is (whole-TypeSpecifier y))
    (λ x y is. subst (λ (z : Dimension-F Expr Suffix TagSpecifier TypeSpecifier Dimension Enumerator Operand Specifiers StructDeclaration StructDeclarator). PD (roll-Dimension z)) is (whole-Dimension y))
    (λ x y is. subst (λ (z : Enumerator-F Expr Suffix TagSpecifier TypeSpecifier Dimension Enumerator Operand Specifiers StructDeclaration StructDeclarator). PC (roll-Enumerator z)) is (whole-Enumerator y))
    (λ x y is. subst (λ (z : Operand-F Expr Suffix TagSpecifier TypeSpecifier Dimension Enumerator Operand Specifiers StructDeclaration StructDeclarator). PO (roll-Operand z)) is (whole-Operand y))
    (λ x y is. subst (λ (z : Specifiers-F Expr Suffix TagSpecifier TypeSpecifier Dimension Enumerator Operand Specifiers StructDeclaration StructDeclarator). PS (roll-Specifiers z)) is (whole-Specifiers y))
    (λ x y is. subst (λ (z : StructDeclaration-F Expr Suffix TagSpecifier TypeSpecifier Dimension Enumerator Operand Specifiers StructDeclaration StructDeclarator). PM (roll-StructDeclaration z)) is (whole-StructDeclaration y))
    (λ x y is. subst (λ (z : StructDeclarator-F Expr Suffix TagSpecifier TypeSpecifier Dimension Enumerator Operand Specifiers StructDeclaration StructDeclarator). PN (roll-StructDeclarator z)) is (whole-StructDeclarator y))

-- dimensions, with a number of elements that an array may have
pub dimension-typed : (x : Dimension) → is_spelled_dimension x ≡ true → KeepsDimension (types_dimension x)
dimension-typed = T.ind-Dimension PE PX PT PK PD PC PO PS PM PN
    (λ x y is. subst (λ (z : Expr-F Expr Suffix TagSpecifier TypeSpecifier Dimension Enumerator Operand Specifiers StructDeclaration StructDeclarator). PE (roll-Expr z)) is (whole-Expr y))
    (λ x y is. subst (λ (z : Suffix-F Expr Suffix TagSpecifier TypeSpecifier Dimension Enumerator Operand Specifiers StructDeclaration StructDeclarator). PX (roll-Suffix z)) is (whole-Suffix y))
    (λ x y is. subst (λ (z : TagSpecifier-F Expr Suffix TagSpecifier TypeSpecifier Dimension Enumerator Operand Specifiers StructDeclaration StructDeclarator). PT (roll-TagSpecifier z)) is (whole-TagSpecifier y))
    (λ x y is. subst (λ (z : TypeSpecifier-F Expr Suffix TagSpecifier TypeSpecifier Dimension Enumerator Operand Specifiers StructDeclaration StructDeclarator). PK (roll-TypeSpecifier z)) is (whole-TypeSpecifier y))
    (λ x y is. subst (λ (z : Dimension-F Expr Suffix TagSpecifier TypeSpecifier Dimension Enumerator Operand Specifiers StructDeclaration StructDeclarator). PD (roll-Dimension z)) is (whole-Dimension y))
    (λ x y is. subst (λ (z : Enumerator-F Expr Suffix TagSpecifier TypeSpecifier Dimension Enumerator Operand Specifiers StructDeclaration StructDeclarator). PC (roll-Enumerator z)) is (whole-Enumerator y))
    (λ x y is. subst (λ (z : Operand-F Expr Suffix TagSpecifier TypeSpecifier Dimension Enumerator Operand Specifiers StructDeclaration StructDeclarator). PO (roll-Operand z)) is (whole-Operand y))
    (λ x y is. subst (λ (z : Specifiers-F Expr Suffix TagSpecifier TypeSpecifier Dimension Enumerator Operand Specifiers StructDeclaration StructDeclarator). PS (roll-Specifiers z)) is (whole-Specifiers y))
    (λ x y is. subst (λ (z : StructDeclaration-F Expr Suffix TagSpecifier TypeSpecifier Dimension Enumerator Operand Specifiers StructDeclaration StructDeclarator). PM (roll-StructDeclaration z)) is (whole-StructDeclaration y))
    (λ x y is. subst (λ (z : StructDeclarator-F Expr Suffix TagSpecifier TypeSpecifier Dimension Enumerator Operand Specifiers StructDeclaration StructDeclarator). PN (roll-StructDeclarator z)) is (whole-StructDeclarator y))

-- structs and enums
pub tag-typed : (x : TagSpecifier) → is_spelled_tag x ≡ true → KeepsTag (types_tag x)
tag-typed = T.ind-TagSpecifier PE PX PT PK PD PC PO PS PM PN
    (λ x y is. subst (λ (z : Expr-F Expr Suffix TagSpecifier TypeSpecifier Dimension Enumerator Operand Specifiers StructDeclaration StructDeclarator). PE (roll-Expr z)) is (whole-Expr y))
    (λ x y is. subst (λ (z : Suffix-F Expr Suffix TagSpecifier TypeSpecifier Dimension Enumerator Operand Specifiers StructDeclaration StructDeclarator). PX (roll-Suffix z)) is (whole-Suffix y))
    (λ x y is. subst (λ (z : TagSpecifier-F Expr Suffix TagSpecifier TypeSpecifier Dimension Enumerator Operand Specifiers StructDeclaration StructDeclarator). PT (roll-TagSpecifier z)) is (whole-TagSpecifier y))
    (λ x y is. subst (λ (z : TypeSpecifier-F Expr Suffix TagSpecifier TypeSpecifier Dimension Enumerator Operand Specifiers StructDeclaration StructDeclarator). PK (roll-TypeSpecifier z)) is (whole-TypeSpecifier y))
    (λ x y is. subst (λ (z : Dimension-F Expr Suffix TagSpecifier TypeSpecifier Dimension Enumerator Operand Specifiers StructDeclaration StructDeclarator). PD (roll-Dimension z)) is (whole-Dimension y))
    (λ x y is. subst (λ (z : Enumerator-F Expr Suffix TagSpecifier TypeSpecifier Dimension Enumerator Operand Specifiers StructDeclaration StructDeclarator). PC (roll-Enumerator z)) is (whole-Enumerator y))
    (λ x y is. subst (λ (z : Operand-F Expr Suffix TagSpecifier TypeSpecifier Dimension Enumerator Operand Specifiers StructDeclaration StructDeclarator). PO (roll-Operand z)) is (whole-Operand y))
    (λ x y is. subst (λ (z : Specifiers-F Expr Suffix TagSpecifier TypeSpecifier Dimension Enumerator Operand Specifiers StructDeclaration StructDeclarator). PS (roll-Specifiers z)) is (whole-Specifiers y))
    (λ x y is. subst (λ (z : StructDeclaration-F Expr Suffix TagSpecifier TypeSpecifier Dimension Enumerator Operand Specifiers StructDeclaration StructDeclarator). PM (roll-StructDeclaration z)) is (whole-StructDeclaration y))
    (λ x y is. subst (λ (z : StructDeclarator-F Expr Suffix TagSpecifier TypeSpecifier Dimension Enumerator Operand Specifiers StructDeclaration StructDeclarator). PN (roll-StructDeclarator z)) is (whole-StructDeclarator y))
