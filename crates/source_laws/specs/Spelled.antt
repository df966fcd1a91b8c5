-- Source trees as a text spells them: words of literals fit their types (C11 6.4.4.1p5), members have names (C11 6.4.2.1), and bodies of
-- structs, the declarations in them and the suffixes after a primary expression have an entry at least (C11 6.7.2.1, 6.5.2).
use Rattle.std.specs.Prelude.{Bool, true, ◌&&◌, nat_lt, Option, None, Some, List, [], ◌∷◌}
use Rattle.hy_bits.specs.Scalar.{scalar_width}
use Rattle.hy_bits.specs.Words.{modulus}
use Rattle.c_tree.specs.Names.{is_name}
use Rattle.c_tree.specs.Expressions.{has_some}
use Rattle.c_tree.specs.declared.expressions.Literal.{Literal}
use Rattle.c_tree.specs.declared.expressions.Literal.TheVariants as literal
use Rattle.c_tree.specs.declared.expressions.Expr.{Expr}
use Rattle.c_tree.specs.declared.expressions.Operand.{Operand}
use Rattle.c_tree.specs.declared.expressions.Suffix.{Suffix}
use Rattle.c_tree.specs.declared.expressions.Specifiers.{Specifiers}
use Rattle.c_tree.specs.declared.expressions.TypeSpecifier.{TypeSpecifier}
use Rattle.c_tree.specs.declared.expressions.TagSpecifier.{TagSpecifier}
use Rattle.c_tree.specs.declared.expressions.StructDeclaration.{StructDeclaration}
use Rattle.c_tree.specs.declared.expressions.StructDeclarator.{StructDeclarator}
use Rattle.c_tree.specs.declared.expressions.Dimension.{Dimension}
use Rattle.c_tree.specs.declared.expressions.Enumerator.{Enumerator}
use Rattle.c_tree.specs.declared.expressions.Expr.TheOpen.{Expr-F, Operand-F, Suffix-F, Specifiers-F, TypeSpecifier-F, TagSpecifier-F, StructDeclaration-F, StructDeclarator-F, Dimension-F, Enumerator-F}
use Rattle.c_tree.specs.declared.expressions.Expr.TheFolds.{fold-Expr, fold-Specifiers, fold-Operand, fold-Suffix, fold-TypeSpecifier, fold-TagSpecifier, fold-StructDeclaration, fold-StructDeclarator, fold-Dimension, fold-Enumerator}

abbrev pub every : List Bool → Bool
every [] = true
every (first ∷ rest) = first && every rest

abbrev pub where_some : Option Bool → Bool
where_some None = true
where_some (Some b) = b

abbrev pub literal_fits : Literal → Bool
literal_fits (literal.Integer t w) = nat_lt w (modulus (scalar_width t))
literal_fits (literal.Character t w) = nat_lt w (modulus (scalar_width t))
literal_fits literal.True = true
literal_fits literal.False = true

abbrev pub expr_spelled : Expr-F Bool Bool Bool Bool Bool Bool Bool Bool Bool Bool → Bool
expr_spelled (Expr-F.Name name) = true
expr_spelled (Expr-F.Literal place value) = literal_fits value
expr_spelled (Expr-F.Call name bracket arguments) = every arguments
expr_spelled (Expr-F.Parenthesized place inner) = inner
expr_spelled (Expr-F.Postfix first suffixes) = first && has_some suffixes && every suffixes
expr_spelled (Expr-F.Unary place op operand) = operand
expr_spelled (Expr-F.Cast place specs operand) = specs && operand
expr_spelled (Expr-F.BinaryChain first operands) = first && every operands
expr_spelled (Expr-F.Conditional condition place second third) = condition && second && third

abbrev pub suffix_spelled : Suffix-F Bool Bool Bool Bool Bool Bool Bool Bool Bool Bool → Bool
suffix_spelled (Suffix-F.Index place index) = index
suffix_spelled (Suffix-F.Member place name) = true
suffix_spelled (Suffix-F.Arrow place name) = true

abbrev pub body_spelled : Option (List Bool) → Bool
body_spelled None = true
body_spelled (Some entries) = has_some entries && every entries

abbrev pub constants_spelled : Option (List Bool) → Bool
constants_spelled None = true
constants_spelled (Some entries) = every entries

abbrev pub tag_spelled : TagSpecifier-F Bool Bool Bool Bool Bool Bool Bool Bool Bool Bool → Bool
tag_spelled (TagSpecifier-F.Struct place name members) = body_spelled members
tag_spelled (TagSpecifier-F.Enum place name constants comma) = constants_spelled constants

abbrev pub spelling_spelled : TypeSpecifier-F Bool Bool Bool Bool Bool Bool Bool Bool Bool Bool → Bool
spelling_spelled (TypeSpecifier-F.Words place words) = true
spelling_spelled (TypeSpecifier-F.TagSpecifier tag) = tag
spelling_spelled (TypeSpecifier-F.TypeName name) = true

abbrev pub dimension_spelled : Dimension-F Bool Bool Bool Bool Bool Bool Bool Bool Bool Bool → Bool
dimension_spelled d = where_some d.size

abbrev pub enumerator_spelled : Enumerator-F Bool Bool Bool Bool Bool Bool Bool Bool Bool Bool → Bool
enumerator_spelled e = where_some e.value

abbrev pub operand_spelled : Operand-F Bool Bool Bool Bool Bool Bool Bool Bool Bool Bool → Bool
operand_spelled operand = operand.value

abbrev pub specs_spelled : Specifiers-F Bool Bool Bool Bool Bool Bool Bool Bool Bool Bool → Bool
specs_spelled specs = specs.kind

abbrev pub member_spelled : StructDeclaration-F Bool Bool Bool Bool Bool Bool Bool Bool Bool Bool → Bool
member_spelled declaration = declaration.specs && has_some declaration.names && every declaration.names

abbrev pub declarator_spelled : StructDeclarator-F Bool Bool Bool Bool Bool Bool Bool Bool Bool Bool → Bool
declarator_spelled d = is_name d.name.text && every d.dimensions

-- ---- whole trees

abbrev pub is_spelled : Expr → Bool
is_spelled =
    fold-Expr Bool Bool Bool Bool Bool Bool Bool Bool Bool Bool
    expr_spelled suffix_spelled tag_spelled spelling_spelled dimension_spelled enumerator_spelled operand_spelled specs_spelled member_spelled declarator_spelled

abbrev pub is_spelled_suffix : Suffix → Bool
is_spelled_suffix =
    fold-Suffix Bool Bool Bool Bool Bool Bool Bool Bool Bool Bool
    expr_spelled suffix_spelled tag_spelled spelling_spelled dimension_spelled enumerator_spelled operand_spelled specs_spelled member_spelled declarator_spelled

abbrev pub is_spelled_tag : TagSpecifier → Bool
is_spelled_tag =
    fold-TagSpecifier Bool Bool Bool Bool Bool Bool Bool Bool Bool Bool
    expr_spelled suffix_spelled tag_spelled spelling_spelled dimension_spelled enumerator_spelled operand_spelled specs_spelled member_spelled declarator_spelled

abbrev pub is_spelled_spelling : TypeSpecifier → Bool
is_spelled_spelling =
    fold-TypeSpecifier Bool Bool Bool Bool Bool Bool Bool Bool Bool Bool
    expr_spelled suffix_spelled tag_spelled spelling_spelled dimension_spelled enumerator_spelled operand_spelled specs_spelled member_spelled declarator_spelled

abbrev pub is_spelled_dimension : Dimension → Bool
is_spelled_dimension =
    fold-Dimension Bool Bool Bool Bool Bool Bool Bool Bool Bool Bool
    expr_spelled suffix_spelled tag_spelled spelling_spelled dimension_spelled enumerator_spelled operand_spelled specs_spelled member_spelled declarator_spelled

abbrev pub is_spelled_enumerator : Enumerator → Bool
is_spelled_enumerator =
    fold-Enumerator Bool Bool Bool Bool Bool Bool Bool Bool Bool Bool
    expr_spelled suffix_spelled tag_spelled spelling_spelled dimension_spelled enumerator_spelled operand_spelled specs_spelled member_spelled declarator_spelled

abbrev pub is_spelled_operand : Operand → Bool
is_spelled_operand =
    fold-Operand Bool Bool Bool Bool Bool Bool Bool Bool Bool Bool
    expr_spelled suffix_spelled tag_spelled spelling_spelled dimension_spelled enumerator_spelled operand_spelled specs_spelled member_spelled declarator_spelled

abbrev pub are_spelled_specs : Specifiers → Bool
are_spelled_specs =
    fold-Specifiers Bool Bool Bool Bool Bool Bool Bool Bool Bool Bool
    expr_spelled suffix_spelled tag_spelled spelling_spelled dimension_spelled enumerator_spelled operand_spelled specs_spelled member_spelled declarator_spelled

abbrev pub is_spelled_member : StructDeclaration → Bool
is_spelled_member =
    fold-StructDeclaration Bool Bool Bool Bool Bool Bool Bool Bool Bool Bool
    expr_spelled suffix_spelled tag_spelled spelling_spelled dimension_spelled enumerator_spelled operand_spelled specs_spelled member_spelled declarator_spelled

abbrev pub is_spelled_declarator : StructDeclarator → Bool
is_spelled_declarator =
    fold-StructDeclarator Bool Bool Bool Bool Bool Bool Bool Bool Bool Bool
    expr_spelled suffix_spelled tag_spelled spelling_spelled dimension_spelled enumerator_spelled operand_spelled specs_spelled member_spelled declarator_spelled
