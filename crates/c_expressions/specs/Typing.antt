-- Expressions and specifiers as whole trees (C11 6.5, 6.7.2): each production's rule on what its parts are, from left to right.
use Rattle.std.specs.Prelude.{ℕ, if◌then◌else◌, Option, None, Some, option_map, Result, Ok, Err, Vec, List, [], ◌∷◌, map, length}
use Rattle.std.specs.declared.collections.VecDeque.{VecDeque}
use Rattle.std.specs.declared.alloc.Global.{Global}
use Rattle.c_conversions.specs.declared.fault.TypeFault.{TypeFault}
use Rattle.c_tree.specs.declared.token.Place.{Place}
use Rattle.c_tree.specs.declared.expressions.Identifier.{Identifier}
use Rattle.c_tree.specs.declared.expressions.Expr.{Expr}
use Rattle.c_tree.specs.declared.expressions.Operand.{Operand}
use Rattle.c_tree.specs.declared.expressions.Suffix.{Suffix}
use Rattle.c_tree.specs.declared.expressions.Specifiers.{Specifiers}
use Rattle.c_tree.specs.declared.expressions.TypeSpecifier.{TypeSpecifier}
use Rattle.c_tree.specs.declared.expressions.TagSpecifier.{TagSpecifier}
use Rattle.c_tree.specs.declared.expressions.StructDeclaration.{StructDeclaration}
use Rattle.c_tree.specs.declared.expressions.StructDeclarator.{StructDeclarator}
use Rattle.c_tree.specs.declared.expressions.Dimension.{Dimension}
use Rattle.c_tree.specs.declared.expressions.Enumerator.{Enumerator}
use Rattle.c_tree.specs.declared.expressions.Expr.TheOpen.{Expr-F, Operand-F, Suffix-F, Specifiers-F, TypeSpecifier-F, TagSpecifier-F, StructDeclaration-F, StructDeclarator-F, Dimension-F, Enumerator-F}
use Rattle.c_tree.specs.declared.expressions.Expr.TheFolds.{fold-Expr, fold-Specifiers, fold-Operand, fold-Suffix, fold-TypeSpecifier, fold-TagSpecifier, fold-StructDeclaration, fold-StructDeclarator, fold-Dimension, fold-Enumerator}
use Rattle.c_tree.specs.SpelledTypes.{spelled_type}
use Rattle.c_meaning.specs.declared.types.CType.{CType}
use Rattle.c_meaning.specs.declared.types.CType.TheVariants as ctype
use Rattle.c_meaning.specs.declared.types.Qualifier.{Qualifier}
use Rattle.c_meaning.specs.declared.types.Qualifier.TheVariants.{Unqualified, Const}
use Rattle.c_conversions.specs.declared.fault.TypeKind.TheVariants.{Twice, Mismatch, NotConstant}
use Rattle.c_typing.specs.declared.environment.Entity.TheVariants as entity
use Rattle.c_typing.specs.declared.environment.QualifiedType.{QualifiedType}
use Rattle.c_typing.specs.declared.structs.Members.{Members}
use Rattle.c_typing.specs.declared.chains.Form.TheVariants as form
use Rattle.c_typing.specs.declared.values.TypedValue.{TypedValue}
use Rattle.c_typing.specs.declared.values.Typing.{Typing}
use Rattle.c_typing.specs.declared.values.Typing.TheVariants.{Gives}
use Rattle.c_typing.specs.Walks.{Breaks, Passes, Walk, after, unless_none, each, along}
use Rattle.c_typing.specs.Values.{int_type, value_of}
use Rattle.c_typing.specs.Expressions.{ExprWalk, valued, name_typing, literal_typing, call_typing, index_typing, member_typing, arrow_typing, unary_typing, cast_from, OperandWalk, operand_typing, chain_typing, conditional_typing}
use Rattle.c_typing.specs.Specifiers.{with_entity, is_free, spelled_ctype, type_name_typing, qualified, object_type, struct_reference, enum_reference, open_struct, no_members, is_member, add_member, close_struct, enum_tag, int_constant, next_word, dimension, array_of}

-- ---- what each kind of tree is

abbrev pub SuffixWalk : Type 0
SuffixWalk = Typing → Walk Typing

-- a type, and the place of its first token
pub record TagWalk : Type 0 where
  pub place : Place
  pub walk : Walk CType

pub record SpecsWalk : Type 0 where
  pub place : Place
  pub walk : Walk QualifiedType

abbrev pub MembersWalk : Type 0
MembersWalk = Members → Walk Members

abbrev pub DeclaratorWalk : Type 0
DeclaratorWalk = CType → MembersWalk

-- the word of the next enumerator, if `int` has it
abbrev pub EnumeratorWalk : Type 0
EnumeratorWalk = Option ℕ → Walk (Option ℕ)

-- ---- expressions

abbrev pub postfix_walk : ExprWalk → List SuffixWalk → Walk Typing
postfix_walk first suffixes env = after (first.walk env) (λ t env. along suffixes t env)

-- operands after the first, which is walked
abbrev pub chained : Typing → List OperandWalk → Walk Typing
chained first operands env =
    after (along operands (record { value = value_of env.structs first; form = form.Operand }) env) (λ left env. Passes (Gives left.value) env)

-- C11 6.5.4: the type before the operand
abbrev pub cast_walk : Place → SpecsWalk → ExprWalk → Walk Typing
cast_walk place specs operand env =
    after (specs.walk env) (λ q env. after (valued operand env) (λ v env. cast_from place q.ctype v env))

abbrev pub expr_rule : Expr-F ExprWalk SuffixWalk TagWalk SpecsWalk (Walk ℕ) EnumeratorWalk OperandWalk SpecsWalk MembersWalk DeclaratorWalk → ExprWalk
expr_rule (Expr-F.Name name) = record { place = name.place; walk = name_typing name }
expr_rule (Expr-F.Literal place value) = record { place = place; walk = λ env. Passes (literal_typing place value) env }
expr_rule (Expr-F.Call name bracket arguments) = record { place = name.place; walk = call_typing name bracket arguments }
expr_rule (Expr-F.Parenthesized place inner) = record { place = place; walk = inner.walk }
expr_rule (Expr-F.Postfix first suffixes) = record { place = first.place; walk = postfix_walk first suffixes }
expr_rule (Expr-F.Unary place op operand) = record { place = place; walk = unary_typing place op operand }
expr_rule (Expr-F.Cast place specs operand) = record { place = place; walk = cast_walk place specs operand }
expr_rule (Expr-F.BinaryChain first operands) = record { place = first.place; walk = chain_typing first operands }
expr_rule (Expr-F.Conditional condition place second third) =
    record { place = condition.place; walk = conditional_typing condition place second third }

abbrev pub operand_rule : Operand-F ExprWalk SuffixWalk TagWalk SpecsWalk (Walk ℕ) EnumeratorWalk OperandWalk SpecsWalk MembersWalk DeclaratorWalk → OperandWalk
operand_rule operand = operand_typing operand.place operand.operator operand.value

abbrev pub suffix_rule : Suffix-F ExprWalk SuffixWalk TagWalk SpecsWalk (Walk ℕ) EnumeratorWalk OperandWalk SpecsWalk MembersWalk DeclaratorWalk → SuffixWalk
suffix_rule (Suffix-F.Index place index) = index_typing place index
suffix_rule (Suffix-F.Member place name) = member_typing place name
suffix_rule (Suffix-F.Arrow place name) = arrow_typing place name

-- ---- specifiers

abbrev pub spelling_rule : TypeSpecifier-F ExprWalk SuffixWalk TagWalk SpecsWalk (Walk ℕ) EnumeratorWalk OperandWalk SpecsWalk MembersWalk DeclaratorWalk → SpecsWalk
spelling_rule (TypeSpecifier-F.Words place words) =
    record { place = place; walk = λ env. Passes (record { ctype = spelled_ctype (spelled_type words); qualifier = Unqualified }) env }
spelling_rule (TypeSpecifier-F.TagSpecifier tag) =
    record { place = tag.place; walk = λ env. after (tag.walk env) (λ c env. Passes (record { ctype = c; qualifier = Unqualified }) env) }
spelling_rule (TypeSpecifier-F.TypeName name) = record { place = name.place; walk = type_name_typing name }

abbrev pub first_of : List Place → Place → Place
first_of [] other = other
first_of (place ∷ places) other = place

abbrev pub specs_rule : Specifiers-F ExprWalk SuffixWalk TagWalk SpecsWalk (Walk ℕ) EnumeratorWalk OperandWalk SpecsWalk MembersWalk DeclaratorWalk → SpecsWalk
specs_rule specs = record {
  place = first_of specs.before specs.kind.place;
  walk = λ env. after (specs.kind.walk env) (λ q env. Passes (qualified specs.before q specs.after) env);
}

-- ---- structs

abbrev pub open_if : Option Identifier → Walk (Option ℕ)
open_if None env = Passes None env
open_if (Some name) env = after (open_struct name env) (λ n env. Passes (Some n) env)

abbrev pub text_if : Option Identifier → List ℕ
text_if None = []
text_if (Some name) = name.text

abbrev pub struct_body : Option Identifier → List MembersWalk → Walk CType
struct_body name members env =
    after (open_if name env)
    (λ opened env. after (along members no_members env)
    (λ all env. Passes (ctype.Struct (length env.structs)) (close_struct (text_if name) opened all env)))

abbrev pub reference_if : (Identifier → Walk CType) → Place → Option Identifier → Walk CType
reference_if reference place None env = Breaks Mismatch place
reference_if reference place (Some name) env = reference name env

abbrev pub struct_walk : Place → Option Identifier → Option (List MembersWalk) → Walk CType
struct_walk place name None env = reference_if (struct_reference place) place name env
struct_walk place name (Some members) env = struct_body name members env

abbrev pub unqualified : Place → CType → Qualifier → Walk CType
unqualified place c Unqualified env = Passes c env
unqualified place c Const env = Breaks Mismatch place

-- no member is void or const
abbrev pub member_type : SpecsWalk → Walk CType
member_type specs env =
    after (specs.walk env) (λ q env. after (object_type specs.place q env) (λ q env. unqualified specs.place q.ctype q.qualifier env))

abbrev pub member_rule : StructDeclaration-F ExprWalk SuffixWalk TagWalk SpecsWalk (Walk ℕ) EnumeratorWalk OperandWalk SpecsWalk MembersWalk DeclaratorWalk → MembersWalk
member_rule declaration members env =
    after (member_type declaration.specs env) (λ c env. along (map (λ name. name c) declaration.names) members env)

abbrev pub declarator_rule : StructDeclarator-F ExprWalk SuffixWalk TagWalk SpecsWalk (Walk ℕ) EnumeratorWalk OperandWalk SpecsWalk MembersWalk DeclaratorWalk → DeclaratorWalk
declarator_rule declarator c members env =
    if is_member members declarator.name.text then Breaks Twice declarator.name.place
    else after (each declarator.dimensions env) (λ counts env. add_member declarator.name (array_of counts c) members env)

-- ---- enums and dimensions

abbrev pub tag_if : Option Identifier → Walk (Unit {0})
tag_if None env = Passes tt env
tag_if (Some name) env = enum_tag name env

abbrev pub enum_body : Option Identifier → List EnumeratorWalk → Walk CType
enum_body name constants env =
    after (tag_if name env) (λ _ env. after (along constants (Some 0) env) (λ _ env. Passes int_type env))

abbrev pub enum_walk : Place → Option Identifier → Option (List EnumeratorWalk) → Walk CType
enum_walk place name None env = reference_if (enum_reference place) place name env
enum_walk place name (Some constants) env = enum_body name constants env

abbrev pub tag_rule : TagSpecifier-F ExprWalk SuffixWalk TagWalk SpecsWalk (Walk ℕ) EnumeratorWalk OperandWalk SpecsWalk MembersWalk DeclaratorWalk → TagWalk
tag_rule (TagSpecifier-F.Struct place name members) = record { place = place; walk = struct_walk place name members }
tag_rule (TagSpecifier-F.Enum place name constants comma) = record { place = place; walk = enum_walk place name constants }

abbrev pub enumerator_word : Option ExprWalk → Identifier → Option ℕ → Walk ℕ
enumerator_word None name next env = unless_none NotConstant name.place next (λ w env. Passes w env) env
enumerator_word (Some e) name next env = after (valued e env) (λ v env. unless_none NotConstant e.place (int_constant v) (λ w env. Passes w env) env)

abbrev pub enumerator_rule : Enumerator-F ExprWalk SuffixWalk TagWalk SpecsWalk (Walk ℕ) EnumeratorWalk OperandWalk SpecsWalk MembersWalk DeclaratorWalk → EnumeratorWalk
enumerator_rule enumerator next env =
    if is_free env enumerator.name.text
    then after (enumerator_word enumerator.value enumerator.name next env) (λ w env. Passes (next_word w) (with_entity enumerator.name.text (entity.Enumerator w) env))
    else Breaks Twice enumerator.name.place

abbrev pub size_walk : Place → Option ExprWalk → Walk ℕ
size_walk place None env = Breaks Mismatch place
size_walk place (Some e) env = after (valued e env) (λ v env. dimension e.place v env)

abbrev pub dimension_rule : Dimension-F ExprWalk SuffixWalk TagWalk SpecsWalk (Walk ℕ) EnumeratorWalk OperandWalk SpecsWalk MembersWalk DeclaratorWalk → Walk ℕ
dimension_rule d = size_walk d.place d.size

-- ---- whole trees

abbrev pub types_expr : Expr → ExprWalk
types_expr =
    fold-Expr ExprWalk SuffixWalk TagWalk SpecsWalk (Walk ℕ) EnumeratorWalk OperandWalk SpecsWalk MembersWalk DeclaratorWalk
    expr_rule suffix_rule tag_rule spelling_rule dimension_rule enumerator_rule operand_rule specs_rule member_rule declarator_rule

abbrev pub types_suffix : Suffix → SuffixWalk
types_suffix =
    fold-Suffix ExprWalk SuffixWalk TagWalk SpecsWalk (Walk ℕ) EnumeratorWalk OperandWalk SpecsWalk MembersWalk DeclaratorWalk
    expr_rule suffix_rule tag_rule spelling_rule dimension_rule enumerator_rule operand_rule specs_rule member_rule declarator_rule

abbrev pub types_operand : Operand → OperandWalk
types_operand =
    fold-Operand ExprWalk SuffixWalk TagWalk SpecsWalk (Walk ℕ) EnumeratorWalk OperandWalk SpecsWalk MembersWalk DeclaratorWalk
    expr_rule suffix_rule tag_rule spelling_rule dimension_rule enumerator_rule operand_rule specs_rule member_rule declarator_rule

abbrev pub types_specs : Specifiers → SpecsWalk
types_specs =
    fold-Specifiers ExprWalk SuffixWalk TagWalk SpecsWalk (Walk ℕ) EnumeratorWalk OperandWalk SpecsWalk MembersWalk DeclaratorWalk
    expr_rule suffix_rule tag_rule spelling_rule dimension_rule enumerator_rule operand_rule specs_rule member_rule declarator_rule

abbrev pub types_spelling : TypeSpecifier → SpecsWalk
types_spelling =
    fold-TypeSpecifier ExprWalk SuffixWalk TagWalk SpecsWalk (Walk ℕ) EnumeratorWalk OperandWalk SpecsWalk MembersWalk DeclaratorWalk
    expr_rule suffix_rule tag_rule spelling_rule dimension_rule enumerator_rule operand_rule specs_rule member_rule declarator_rule

abbrev pub types_tag : TagSpecifier → TagWalk
types_tag =
    fold-TagSpecifier ExprWalk SuffixWalk TagWalk SpecsWalk (Walk ℕ) EnumeratorWalk OperandWalk SpecsWalk MembersWalk DeclaratorWalk
    expr_rule suffix_rule tag_rule spelling_rule dimension_rule enumerator_rule operand_rule specs_rule member_rule declarator_rule

abbrev pub types_member : StructDeclaration → MembersWalk
types_member =
    fold-StructDeclaration ExprWalk SuffixWalk TagWalk SpecsWalk (Walk ℕ) EnumeratorWalk OperandWalk SpecsWalk MembersWalk DeclaratorWalk
    expr_rule suffix_rule tag_rule spelling_rule dimension_rule enumerator_rule operand_rule specs_rule member_rule declarator_rule

abbrev pub types_declarator : StructDeclarator → DeclaratorWalk
types_declarator =
    fold-StructDeclarator ExprWalk SuffixWalk TagWalk SpecsWalk (Walk ℕ) EnumeratorWalk OperandWalk SpecsWalk MembersWalk DeclaratorWalk
    expr_rule suffix_rule tag_rule spelling_rule dimension_rule enumerator_rule operand_rule specs_rule member_rule declarator_rule

abbrev pub types_dimension : Dimension → Walk ℕ
types_dimension =
    fold-Dimension ExprWalk SuffixWalk TagWalk SpecsWalk (Walk ℕ) EnumeratorWalk OperandWalk SpecsWalk MembersWalk DeclaratorWalk
    expr_rule suffix_rule tag_rule spelling_rule dimension_rule enumerator_rule operand_rule specs_rule member_rule declarator_rule

abbrev pub types_enumerator : Enumerator → EnumeratorWalk
types_enumerator =
    fold-Enumerator ExprWalk SuffixWalk TagWalk SpecsWalk (Walk ℕ) EnumeratorWalk OperandWalk SpecsWalk MembersWalk DeclaratorWalk
    expr_rule suffix_rule tag_rule spelling_rule dimension_rule enumerator_rule operand_rule specs_rule member_rule declarator_rule

-- the word of an enumerator, where it is written
abbrev pub written_word : Identifier → Option ℕ → Option Expr → Walk ℕ
written_word name next written env = enumerator_word (option_map types_expr written) name next env

-- ---- what the code answers

-- values as a list
abbrev pub items_of : Result (VecDeque TypedValue Global) TypeFault → Result (List TypedValue) TypeFault
items_of (Ok values) = Ok values.items
items_of (Err fault) = Err fault

-- numbers of elements as a list
abbrev pub counts_of : Result (Vec ℕ Global) TypeFault → Result (List ℕ) TypeFault
counts_of (Ok counts) = Ok counts.items
counts_of (Err fault) = Err fault
