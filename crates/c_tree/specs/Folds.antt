-- The productions of expressions and of types over whole trees: what each tree wants, and whether it is of the grammar, by its parts.
use Rattle.std.specs.Prelude.{ℕ, Bool, true, false}
use Rattle.c_tree.specs.Pieces.{type_name}
use Rattle.c_tree.specs.Operators.{level_of}
use Rattle.c_tree.specs.TypeWords.{is_spelling}
use Rattle.c_tree.specs.Expressions.{Wants, Binds, Bound, name_wants, literal_wants, parenthesized_wants, primary_binds, parenthesized_binds, call_wants, call_binds, postfix_wants, postfix_binds, index_wants, index_is, member_of_wants, arrow_wants, unary_wants, unary_binds, cast_wants, cast_binds, chain_wants, chain_operand_wants, is_chain, conditional_wants, conditional_binds}
use Rattle.c_tree.specs.Types.{specifiers_wants, type_words, struct_wants, struct_is, struct_declaration_wants, struct_declaration_is, struct_declarator_wants, struct_declarator_is, one_dimension_wants, is_optional, enum_wants, enum_is, one_enumerator_wants}
use Rattle.c_tree.specs.declared.expressions.Expr.{Expr}
use Rattle.c_tree.specs.declared.expressions.Operand.{Operand}
use Rattle.c_tree.specs.declared.expressions.Suffix.{Suffix}
use Rattle.c_tree.specs.declared.expressions.Specifiers.{Specifiers}
use Rattle.c_tree.specs.declared.expressions.TypeSpecifier.{TypeSpecifier}
use Rattle.c_tree.specs.declared.expressions.TagSpecifier.{TagSpecifier}
use Rattle.c_tree.specs.declared.expressions.StructDeclaration.{StructDeclaration}
use Rattle.c_tree.specs.declared.expressions.StructDeclarator.{StructDeclarator}
use Rattle.c_tree.specs.declared.expressions.Dimension.{Dimension}
use Rattle.c_tree.specs.declared.expressions.Enumerator.{Enumerator}
use Rattle.c_tree.specs.declared.expressions.Expr.TheOpen.{Expr-F, Operand-F, Suffix-F, Specifiers-F, TypeSpecifier-F, TagSpecifier-F, StructDeclaration-F, StructDeclarator-F, Dimension-F, Enumerator-F}
use Rattle.c_tree.specs.declared.expressions.Expr.TheFolds.{fold-Expr, fold-Specifiers, fold-Operand, fold-Suffix, fold-TypeSpecifier, fold-TagSpecifier, fold-StructDeclaration, fold-StructDeclarator, fold-Dimension, fold-Enumerator}

-- ---- what they want

abbrev pub expr_wants : Expr-F Wants Wants Wants Wants Wants Wants Wants Wants Wants Wants → Wants
expr_wants (Expr-F.Name named) = name_wants named
expr_wants (Expr-F.Literal place value) = literal_wants place value
expr_wants (Expr-F.Call named place arguments) = call_wants named place arguments
expr_wants (Expr-F.Parenthesized place inner) = parenthesized_wants place inner
expr_wants (Expr-F.Postfix primary suffixes) = postfix_wants primary suffixes
expr_wants (Expr-F.Unary place operator operand) = unary_wants place operator operand
expr_wants (Expr-F.Cast place specs operand) = cast_wants place specs operand
expr_wants (Expr-F.BinaryChain first operands) = chain_wants first operands
expr_wants (Expr-F.Conditional condition place second third) = conditional_wants condition place second third

abbrev pub operand_wants : Operand-F Wants Wants Wants Wants Wants Wants Wants Wants Wants Wants → Wants
operand_wants operand = chain_operand_wants operand.place operand.operator operand.value

abbrev pub suffix_wants : Suffix-F Wants Wants Wants Wants Wants Wants Wants Wants Wants Wants → Wants
suffix_wants (Suffix-F.Index place index) = index_wants place index
suffix_wants (Suffix-F.Member place named) = member_of_wants place named
suffix_wants (Suffix-F.Arrow place named) = arrow_wants place named

abbrev pub specs_wants : Specifiers-F Wants Wants Wants Wants Wants Wants Wants Wants Wants Wants → Wants
specs_wants specs = specifiers_wants specs.before specs.kind specs.after

abbrev pub spelling_wants : TypeSpecifier-F Wants Wants Wants Wants Wants Wants Wants Wants Wants Wants → Wants
spelling_wants (TypeSpecifier-F.Words place words) = type_words place words
spelling_wants (TypeSpecifier-F.TagSpecifier tag) = tag
spelling_wants (TypeSpecifier-F.TypeName named) = type_name named

abbrev pub tag_wants : TagSpecifier-F Wants Wants Wants Wants Wants Wants Wants Wants Wants Wants → Wants
tag_wants (TagSpecifier-F.Struct place named members) = struct_wants place named members
tag_wants (TagSpecifier-F.Enum place named constants comma) = enum_wants place named constants comma

abbrev pub member_wants : StructDeclaration-F Wants Wants Wants Wants Wants Wants Wants Wants Wants Wants → Wants
member_wants member = struct_declaration_wants member.specs member.names

abbrev pub dimensioned_wants : StructDeclarator-F Wants Wants Wants Wants Wants Wants Wants Wants Wants Wants → Wants
dimensioned_wants declared = struct_declarator_wants declared.name declared.dimensions

abbrev pub dimension_wants : Dimension-F Wants Wants Wants Wants Wants Wants Wants Wants Wants Wants → Wants
dimension_wants dimension = one_dimension_wants dimension.place dimension.size

abbrev pub enumerator_wants : Enumerator-F Wants Wants Wants Wants Wants Wants Wants Wants Wants Wants → Wants
enumerator_wants enumerator = one_enumerator_wants enumerator.name enumerator.value

abbrev pub wants_of_expr : Expr → Wants
wants_of_expr = fold-Expr Wants Wants Wants Wants Wants Wants Wants Wants Wants Wants expr_wants suffix_wants tag_wants spelling_wants dimension_wants enumerator_wants operand_wants specs_wants member_wants dimensioned_wants

abbrev pub wants_of_specs : Specifiers → Wants
wants_of_specs = fold-Specifiers Wants Wants Wants Wants Wants Wants Wants Wants Wants Wants expr_wants suffix_wants tag_wants spelling_wants dimension_wants enumerator_wants operand_wants specs_wants member_wants dimensioned_wants

abbrev pub wants_of_operand : Operand → Wants
wants_of_operand = fold-Operand Wants Wants Wants Wants Wants Wants Wants Wants Wants Wants expr_wants suffix_wants tag_wants spelling_wants dimension_wants enumerator_wants operand_wants specs_wants member_wants dimensioned_wants

abbrev pub wants_of_suffix : Suffix → Wants
wants_of_suffix = fold-Suffix Wants Wants Wants Wants Wants Wants Wants Wants Wants Wants expr_wants suffix_wants tag_wants spelling_wants dimension_wants enumerator_wants operand_wants specs_wants member_wants dimensioned_wants

abbrev pub wants_of_spelling : TypeSpecifier → Wants
wants_of_spelling = fold-TypeSpecifier Wants Wants Wants Wants Wants Wants Wants Wants Wants Wants expr_wants suffix_wants tag_wants spelling_wants dimension_wants enumerator_wants operand_wants specs_wants member_wants dimensioned_wants

abbrev pub wants_of_tag : TagSpecifier → Wants
wants_of_tag = fold-TagSpecifier Wants Wants Wants Wants Wants Wants Wants Wants Wants Wants expr_wants suffix_wants tag_wants spelling_wants dimension_wants enumerator_wants operand_wants specs_wants member_wants dimensioned_wants

abbrev pub wants_of_member : StructDeclaration → Wants
wants_of_member = fold-StructDeclaration Wants Wants Wants Wants Wants Wants Wants Wants Wants Wants expr_wants suffix_wants tag_wants spelling_wants dimension_wants enumerator_wants operand_wants specs_wants member_wants dimensioned_wants

abbrev pub wants_of_dimensioned : StructDeclarator → Wants
wants_of_dimensioned = fold-StructDeclarator Wants Wants Wants Wants Wants Wants Wants Wants Wants Wants expr_wants suffix_wants tag_wants spelling_wants dimension_wants enumerator_wants operand_wants specs_wants member_wants dimensioned_wants

abbrev pub wants_of_dimension : Dimension → Wants
wants_of_dimension = fold-Dimension Wants Wants Wants Wants Wants Wants Wants Wants Wants Wants expr_wants suffix_wants tag_wants spelling_wants dimension_wants enumerator_wants operand_wants specs_wants member_wants dimensioned_wants

abbrev pub wants_of_enumerator : Enumerator → Wants
wants_of_enumerator = fold-Enumerator Wants Wants Wants Wants Wants Wants Wants Wants Wants Wants expr_wants suffix_wants tag_wants spelling_wants dimension_wants enumerator_wants operand_wants specs_wants member_wants dimensioned_wants

-- ---- which are of the grammar

abbrev pub expr_binds : Expr-F Binds Bool Bool Bool Bool Bool Bound Bool Bool Bool → Binds
expr_binds (Expr-F.Name named) = primary_binds
expr_binds (Expr-F.Literal place value) = primary_binds
expr_binds (Expr-F.Call named place arguments) = call_binds arguments
expr_binds (Expr-F.Parenthesized place inner) = parenthesized_binds inner
expr_binds (Expr-F.Postfix primary suffixes) = postfix_binds primary suffixes
expr_binds (Expr-F.Unary place operator operand) = unary_binds operand
expr_binds (Expr-F.Cast place specs operand) = cast_binds specs operand
expr_binds (Expr-F.BinaryChain first operands) = is_chain first operands
expr_binds (Expr-F.Conditional condition place second third) = conditional_binds condition second third

abbrev pub operand_binds : Operand-F Binds Bool Bool Bool Bool Bool Bound Bool Bool Bool → Bound
operand_binds operand = record { level = level_of operand.operator; value = operand.value }

abbrev pub is_suffix : Suffix-F Binds Bool Bool Bool Bool Bool Bound Bool Bool Bool → Bool
is_suffix (Suffix-F.Index place index) = index_is index
is_suffix (Suffix-F.Member place named) = true
is_suffix (Suffix-F.Arrow place named) = true

abbrev pub is_specs : Specifiers-F Binds Bool Bool Bool Bool Bool Bound Bool Bool Bool → Bool
is_specs specs = specs.kind

abbrev pub is_kind : TypeSpecifier-F Binds Bool Bool Bool Bool Bool Bound Bool Bool Bool → Bool
is_kind (TypeSpecifier-F.Words place words) = is_spelling words
is_kind (TypeSpecifier-F.TagSpecifier tag) = tag
is_kind (TypeSpecifier-F.TypeName named) = true

abbrev pub is_tag : TagSpecifier-F Binds Bool Bool Bool Bool Bool Bound Bool Bool Bool → Bool
is_tag (TagSpecifier-F.Struct place named members) = struct_is named members
is_tag (TagSpecifier-F.Enum place named constants comma) = enum_is named constants comma

abbrev pub is_member : StructDeclaration-F Binds Bool Bool Bool Bool Bool Bound Bool Bool Bool → Bool
is_member member = struct_declaration_is member.specs member.names

abbrev pub is_dimensioned : StructDeclarator-F Binds Bool Bool Bool Bool Bool Bound Bool Bool Bool → Bool
is_dimensioned declared = struct_declarator_is declared.dimensions

abbrev pub is_dimension : Dimension-F Binds Bool Bool Bool Bool Bool Bound Bool Bool Bool → Bool
is_dimension dimension = is_optional dimension.size

abbrev pub is_enumerator : Enumerator-F Binds Bool Bool Bool Bool Bool Bound Bool Bool Bool → Bool
is_enumerator enumerator = is_optional enumerator.value

abbrev pub binds : Expr → Binds
binds = fold-Expr Binds Bool Bool Bool Bool Bool Bound Bool Bool Bool expr_binds is_suffix is_tag is_kind is_dimension is_enumerator operand_binds is_specs is_member is_dimensioned

abbrev pub are_specs : Specifiers → Bool
are_specs = fold-Specifiers Binds Bool Bool Bool Bool Bool Bound Bool Bool Bool expr_binds is_suffix is_tag is_kind is_dimension is_enumerator operand_binds is_specs is_member is_dimensioned

abbrev pub operand_level : Operand → Bound
operand_level = fold-Operand Binds Bool Bool Bool Bool Bool Bound Bool Bool Bool expr_binds is_suffix is_tag is_kind is_dimension is_enumerator operand_binds is_specs is_member is_dimensioned

abbrev pub is_suffix_tree : Suffix → Bool
is_suffix_tree = fold-Suffix Binds Bool Bool Bool Bool Bool Bound Bool Bool Bool expr_binds is_suffix is_tag is_kind is_dimension is_enumerator operand_binds is_specs is_member is_dimensioned

abbrev pub is_spelling_tree : TypeSpecifier → Bool
is_spelling_tree = fold-TypeSpecifier Binds Bool Bool Bool Bool Bool Bound Bool Bool Bool expr_binds is_suffix is_tag is_kind is_dimension is_enumerator operand_binds is_specs is_member is_dimensioned

abbrev pub is_tag_tree : TagSpecifier → Bool
is_tag_tree = fold-TagSpecifier Binds Bool Bool Bool Bool Bool Bound Bool Bool Bool expr_binds is_suffix is_tag is_kind is_dimension is_enumerator operand_binds is_specs is_member is_dimensioned

abbrev pub is_member_tree : StructDeclaration → Bool
is_member_tree = fold-StructDeclaration Binds Bool Bool Bool Bool Bool Bound Bool Bool Bool expr_binds is_suffix is_tag is_kind is_dimension is_enumerator operand_binds is_specs is_member is_dimensioned

abbrev pub is_dimensioned_tree : StructDeclarator → Bool
is_dimensioned_tree = fold-StructDeclarator Binds Bool Bool Bool Bool Bool Bound Bool Bool Bool expr_binds is_suffix is_tag is_kind is_dimension is_enumerator operand_binds is_specs is_member is_dimensioned

abbrev pub is_dimension_tree : Dimension → Bool
is_dimension_tree = fold-Dimension Binds Bool Bool Bool Bool Bool Bound Bool Bool Bool expr_binds is_suffix is_tag is_kind is_dimension is_enumerator operand_binds is_specs is_member is_dimensioned

abbrev pub is_enumerator_tree : Enumerator → Bool
is_enumerator_tree = fold-Enumerator Binds Bool Bool Bool Bool Bool Bound Bool Bool Bool expr_binds is_suffix is_tag is_kind is_dimension is_enumerator operand_binds is_specs is_member is_dimensioned

-- ---- which are calls, and which have neither a unary operator, a cast nor a binary operator outermost

abbrev pub expr_is_call : Expr-F Bool Bool Bool Bool Bool Bool Bool Bool Bool Bool → Bool
expr_is_call (Expr-F.Call named place arguments) = true
expr_is_call _ = false

abbrev pub is_call : Expr → Bool
is_call = fold-Expr Bool Bool Bool Bool Bool Bool Bool Bool Bool Bool expr_is_call (λ k. true) (λ s. true) (λ t. true) (λ d. true) (λ d. true) (λ e. true) (λ m. true) (λ o. true) (λ s. true)
