-- What each tree of expressions and of types wants, by what its parts want, and whether it is of the grammar, by which of its parts are.
use Rattle.std.proofs.Common.{◌≡◌, Bool, List, map, Option, Some, None, option_map, ap, sym, ◌∙◌}
use Rattle.c_tree.specs.declared.token.Place.{Place}
use Rattle.c_tree.specs.declared.expressions.Identifier.{Identifier}
use Rattle.c_tree.specs.declared.expressions.Literal.{Literal}
use Rattle.c_tree.specs.declared.expressions.BinaryOperator.{BinaryOperator}
use Rattle.c_tree.specs.declared.expressions.UnaryOperator.{UnaryOperator}
use Rattle.c_tree.specs.declared.expressions.TypeWord.{TypeWord}
use Rattle.c_tree.specs.declared.expressions.TrailingComma.{TrailingComma}
use Rattle.c_tree.specs.declared.expressions.Expr.{Expr}
use Rattle.c_tree.specs.declared.expressions.Expr.TheVariants as expr
use Rattle.c_tree.specs.declared.expressions.Suffix.{Suffix}
use Rattle.c_tree.specs.declared.expressions.Suffix.TheVariants as suffix
use Rattle.c_tree.specs.declared.expressions.TypeSpecifier.{TypeSpecifier}
use Rattle.c_tree.specs.declared.expressions.TypeSpecifier.TheVariants as spelling
use Rattle.c_tree.specs.declared.expressions.TagSpecifier.{TagSpecifier}
use Rattle.c_tree.specs.declared.expressions.TagSpecifier.TheVariants as tag
use Rattle.c_tree.specs.declared.expressions.Operand.{Operand}
use Rattle.c_tree.specs.declared.expressions.Specifiers.{Specifiers}
use Rattle.c_tree.specs.declared.expressions.StructDeclaration.{StructDeclaration}
use Rattle.c_tree.specs.declared.expressions.StructDeclarator.{StructDeclarator}
use Rattle.c_tree.specs.declared.expressions.Dimension.{Dimension}
use Rattle.c_tree.specs.declared.expressions.Enumerator.{Enumerator}
use Rattle.c_tree.specs.declared.expressions.Expr.TheOpen.{Expr-F, Suffix-F, TypeSpecifier-F, TagSpecifier-F}
use Rattle.c_tree.specs.declared.expressions.Expr.TheViews.{roll-Operand, roll-Specifiers, roll-StructDeclaration, roll-StructDeclarator, roll-Dimension, roll-Enumerator}
use Rattle.c_tree.specs.declared.expressions.Expr.TheFolds.{fold-roll-Expr, fold-roll-Suffix, fold-roll-TypeSpecifier, fold-roll-TagSpecifier, fold-roll-Operand, fold-roll-Specifiers, fold-roll-StructDeclaration, fold-roll-StructDeclarator, fold-roll-Dimension, fold-roll-Enumerator}
use Rattle.c_tree.specs.Expressions.{Wants, Binds, Bound}
use Rattle.c_tree.specs.Folds.{wants_of_expr, wants_of_operand, wants_of_suffix, wants_of_specs, wants_of_spelling, wants_of_tag, wants_of_member, wants_of_dimensioned, wants_of_dimension, wants_of_enumerator, expr_wants, operand_wants, suffix_wants, specs_wants, spelling_wants, tag_wants, member_wants, dimensioned_wants, dimension_wants, enumerator_wants, binds, operand_level, is_suffix_tree, are_specs, is_spelling_tree, is_tag_tree, is_member_tree, is_dimensioned_tree, is_dimension_tree, is_enumerator_tree, expr_binds, operand_binds, is_suffix, is_specs, is_kind, is_tag, is_member, is_dimensioned, is_dimension, is_enumerator}

-- ---- what they want

pub wants_Expr_Name : (named : Identifier) → wants_of_expr (expr.Name named) ≡ expr_wants (Expr-F.Name named)
wants_Expr_Name named = ap wants_of_expr (sym (expr.rolls-Name named)) ∙ fold-roll-Expr Wants Wants Wants Wants Wants Wants Wants Wants Wants Wants expr_wants suffix_wants tag_wants spelling_wants dimension_wants enumerator_wants operand_wants specs_wants member_wants dimensioned_wants (Expr-F.Name named)

pub wants_Expr_Literal : (place : Place) (value : Literal) → wants_of_expr (expr.Literal place value) ≡ expr_wants (Expr-F.Literal place value)
wants_Expr_Literal place value = ap wants_of_expr (sym (expr.rolls-Literal place value)) ∙ fold-roll-Expr Wants Wants Wants Wants Wants Wants Wants Wants Wants Wants expr_wants suffix_wants tag_wants spelling_wants dimension_wants enumerator_wants operand_wants specs_wants member_wants dimensioned_wants (Expr-F.Literal place value)

pub wants_Expr_Call : (named : Identifier) (place : Place) (arguments : List Expr) → wants_of_expr (expr.Call named place arguments) ≡ expr_wants (Expr-F.Call named place (map wants_of_expr arguments))
wants_Expr_Call named place arguments = ap wants_of_expr (sym (expr.rolls-Call named place arguments)) ∙ fold-roll-Expr Wants Wants Wants Wants Wants Wants Wants Wants Wants Wants expr_wants suffix_wants tag_wants spelling_wants dimension_wants enumerator_wants operand_wants specs_wants member_wants dimensioned_wants (Expr-F.Call named place arguments)

pub wants_Expr_Parenthesized : (place : Place) (inner : Expr) → wants_of_expr (expr.Parenthesized place inner) ≡ expr_wants (Expr-F.Parenthesized place (wants_of_expr inner))
wants_Expr_Parenthesized place inner = ap wants_of_expr (sym (expr.rolls-Parenthesized place inner)) ∙ fold-roll-Expr Wants Wants Wants Wants Wants Wants Wants Wants Wants Wants expr_wants suffix_wants tag_wants spelling_wants dimension_wants enumerator_wants operand_wants specs_wants member_wants dimensioned_wants (Expr-F.Parenthesized place inner)

pub wants_Expr_Postfix : (primary : Expr) (suffixes : List Suffix) → wants_of_expr (expr.Postfix primary suffixes) ≡ expr_wants (Expr-F.Postfix (wants_of_expr primary) (map wants_of_suffix suffixes))
wants_Expr_Postfix primary suffixes = ap wants_of_expr (sym (expr.rolls-Postfix primary suffixes)) ∙ fold-roll-Expr Wants Wants Wants Wants Wants Wants Wants Wants Wants Wants expr_wants suffix_wants tag_wants spelling_wants dimension_wants enumerator_wants operand_wants specs_wants member_wants dimensioned_wants (Expr-F.Postfix primary suffixes)

pub wants_Expr_Unary : (place : Place) (operator : UnaryOperator) (operand : Expr) → wants_of_expr (expr.Unary place operator operand) ≡ expr_wants (Expr-F.Unary place operator (wants_of_expr operand))
wants_Expr_Unary place operator operand = ap wants_of_expr (sym (expr.rolls-Unary place operator operand)) ∙ fold-roll-Expr Wants Wants Wants Wants Wants Wants Wants Wants Wants Wants expr_wants suffix_wants tag_wants spelling_wants dimension_wants enumerator_wants operand_wants specs_wants member_wants dimensioned_wants (Expr-F.Unary place operator operand)

pub wants_Expr_Cast : (place : Place) (specs : Specifiers) (operand : Expr) → wants_of_expr (expr.Cast place specs operand) ≡ expr_wants (Expr-F.Cast place (wants_of_specs specs) (wants_of_expr operand))
wants_Expr_Cast place specs operand = ap wants_of_expr (sym (expr.rolls-Cast place specs operand)) ∙ fold-roll-Expr Wants Wants Wants Wants Wants Wants Wants Wants Wants Wants expr_wants suffix_wants tag_wants spelling_wants dimension_wants enumerator_wants operand_wants specs_wants member_wants dimensioned_wants (Expr-F.Cast place specs operand)

pub wants_Expr_BinaryChain : (first : Expr) (operands : List Operand) → wants_of_expr (expr.BinaryChain first operands) ≡ expr_wants (Expr-F.BinaryChain (wants_of_expr first) (map wants_of_operand operands))
wants_Expr_BinaryChain first operands = ap wants_of_expr (sym (expr.rolls-BinaryChain first operands)) ∙ fold-roll-Expr Wants Wants Wants Wants Wants Wants Wants Wants Wants Wants expr_wants suffix_wants tag_wants spelling_wants dimension_wants enumerator_wants operand_wants specs_wants member_wants dimensioned_wants (Expr-F.BinaryChain first operands)

pub wants_Expr_Conditional : (condition : Expr) (place : Place) (second : Expr) (third : Expr) → wants_of_expr (expr.Conditional condition place second third) ≡ expr_wants (Expr-F.Conditional (wants_of_expr condition) place (wants_of_expr second) (wants_of_expr third))
wants_Expr_Conditional condition place second third = ap wants_of_expr (sym (expr.rolls-Conditional condition place second third)) ∙ fold-roll-Expr Wants Wants Wants Wants Wants Wants Wants Wants Wants Wants expr_wants suffix_wants tag_wants spelling_wants dimension_wants enumerator_wants operand_wants specs_wants member_wants dimensioned_wants (Expr-F.Conditional condition place second third)

pub wants_Suffix_Index : (place : Place) (index : Expr) → wants_of_suffix (suffix.Index place index) ≡ suffix_wants (Suffix-F.Index place (wants_of_expr index))
wants_Suffix_Index place index = ap wants_of_suffix (sym (suffix.rolls-Index place index)) ∙ fold-roll-Suffix Wants Wants Wants Wants Wants Wants Wants Wants Wants Wants expr_wants suffix_wants tag_wants spelling_wants dimension_wants enumerator_wants operand_wants specs_wants member_wants dimensioned_wants (Suffix-F.Index place index)

pub wants_Suffix_Member : (place : Place) (named : Identifier) → wants_of_suffix (suffix.Member place named) ≡ suffix_wants (Suffix-F.Member place named)
wants_Suffix_Member place named = ap wants_of_suffix (sym (suffix.rolls-Member place named)) ∙ fold-roll-Suffix Wants Wants Wants Wants Wants Wants Wants Wants Wants Wants expr_wants suffix_wants tag_wants spelling_wants dimension_wants enumerator_wants operand_wants specs_wants member_wants dimensioned_wants (Suffix-F.Member place named)

pub wants_Suffix_Arrow : (place : Place) (named : Identifier) → wants_of_suffix (suffix.Arrow place named) ≡ suffix_wants (Suffix-F.Arrow place named)
wants_Suffix_Arrow place named = ap wants_of_suffix (sym (suffix.rolls-Arrow place named)) ∙ fold-roll-Suffix Wants Wants Wants Wants Wants Wants Wants Wants Wants Wants expr_wants suffix_wants tag_wants spelling_wants dimension_wants enumerator_wants operand_wants specs_wants member_wants dimensioned_wants (Suffix-F.Arrow place named)

pub wants_TypeSpecifier_Words : (place : Place) (words : List TypeWord) → wants_of_spelling (spelling.Words place words) ≡ spelling_wants (TypeSpecifier-F.Words place words)
wants_TypeSpecifier_Words place words = ap wants_of_spelling (sym (spelling.rolls-Words place words)) ∙ fold-roll-TypeSpecifier Wants Wants Wants Wants Wants Wants Wants Wants Wants Wants expr_wants suffix_wants tag_wants spelling_wants dimension_wants enumerator_wants operand_wants specs_wants member_wants dimensioned_wants (TypeSpecifier-F.Words place words)

pub wants_TypeSpecifier_TagSpecifier : (tag : TagSpecifier) → wants_of_spelling (spelling.TagSpecifier tag) ≡ spelling_wants (TypeSpecifier-F.TagSpecifier (wants_of_tag tag))
wants_TypeSpecifier_TagSpecifier tag = ap wants_of_spelling (sym (spelling.rolls-TagSpecifier tag)) ∙ fold-roll-TypeSpecifier Wants Wants Wants Wants Wants Wants Wants Wants Wants Wants expr_wants suffix_wants tag_wants spelling_wants dimension_wants enumerator_wants operand_wants specs_wants member_wants dimensioned_wants (TypeSpecifier-F.TagSpecifier tag)

pub wants_TypeSpecifier_TypeName : (named : Identifier) → wants_of_spelling (spelling.TypeName named) ≡ spelling_wants (TypeSpecifier-F.TypeName named)
wants_TypeSpecifier_TypeName named = ap wants_of_spelling (sym (spelling.rolls-TypeName named)) ∙ fold-roll-TypeSpecifier Wants Wants Wants Wants Wants Wants Wants Wants Wants Wants expr_wants suffix_wants tag_wants spelling_wants dimension_wants enumerator_wants operand_wants specs_wants member_wants dimensioned_wants (TypeSpecifier-F.TypeName named)

pub wants_TagSpecifier_Struct : (place : Place) (named : Option Identifier) (members : Option (List StructDeclaration)) → wants_of_tag (tag.Struct place named members) ≡ tag_wants (TagSpecifier-F.Struct place named (option_map (map wants_of_member) members))
wants_TagSpecifier_Struct place named None = ap wants_of_tag (sym (tag.rolls-Struct place named None)) ∙ fold-roll-TagSpecifier Wants Wants Wants Wants Wants Wants Wants Wants Wants Wants expr_wants suffix_wants tag_wants spelling_wants dimension_wants enumerator_wants operand_wants specs_wants member_wants dimensioned_wants (TagSpecifier-F.Struct place named None)
wants_TagSpecifier_Struct place named (Some some) = ap wants_of_tag (sym (tag.rolls-Struct place named (Some some))) ∙ fold-roll-TagSpecifier Wants Wants Wants Wants Wants Wants Wants Wants Wants Wants expr_wants suffix_wants tag_wants spelling_wants dimension_wants enumerator_wants operand_wants specs_wants member_wants dimensioned_wants (TagSpecifier-F.Struct place named (Some some))

pub wants_TagSpecifier_Enum : (place : Place) (named : Option Identifier) (constants : Option (List Enumerator)) (comma : TrailingComma) → wants_of_tag (tag.Enum place named constants comma) ≡ tag_wants (TagSpecifier-F.Enum place named (option_map (map wants_of_enumerator) constants) comma)
wants_TagSpecifier_Enum place named None comma = ap wants_of_tag (sym (tag.rolls-Enum place named None comma)) ∙ fold-roll-TagSpecifier Wants Wants Wants Wants Wants Wants Wants Wants Wants Wants expr_wants suffix_wants tag_wants spelling_wants dimension_wants enumerator_wants operand_wants specs_wants member_wants dimensioned_wants (TagSpecifier-F.Enum place named None comma)
wants_TagSpecifier_Enum place named (Some some) comma = ap wants_of_tag (sym (tag.rolls-Enum place named (Some some) comma)) ∙ fold-roll-TagSpecifier Wants Wants Wants Wants Wants Wants Wants Wants Wants Wants expr_wants suffix_wants tag_wants spelling_wants dimension_wants enumerator_wants operand_wants specs_wants member_wants dimensioned_wants (TagSpecifier-F.Enum place named (Some some) comma)

pub wants_Operand : (place : Place) (operator : BinaryOperator) (value : Expr) → wants_of_operand (roll-Operand (record { place = place; operator = operator; value = value })) ≡ operand_wants (record { place = place; operator = operator; value = (wants_of_expr value) })
wants_Operand place operator value = fold-roll-Operand Wants Wants Wants Wants Wants Wants Wants Wants Wants Wants expr_wants suffix_wants tag_wants spelling_wants dimension_wants enumerator_wants operand_wants specs_wants member_wants dimensioned_wants (record { place = place; operator = operator; value = value })

pub wants_Specifiers : (before : List Place) (kind : TypeSpecifier) (after : List Place) → wants_of_specs (roll-Specifiers (record { before = before; kind = kind; after = after })) ≡ specs_wants (record { before = before; kind = (wants_of_spelling kind); after = after })
wants_Specifiers before kind after = fold-roll-Specifiers Wants Wants Wants Wants Wants Wants Wants Wants Wants Wants expr_wants suffix_wants tag_wants spelling_wants dimension_wants enumerator_wants operand_wants specs_wants member_wants dimensioned_wants (record { before = before; kind = kind; after = after })

pub wants_StructDeclaration : (specs : Specifiers) (names : List StructDeclarator) → wants_of_member (roll-StructDeclaration (record { specs = specs; names = names })) ≡ member_wants (record { specs = (wants_of_specs specs); names = (map wants_of_dimensioned names) })
wants_StructDeclaration specs names = fold-roll-StructDeclaration Wants Wants Wants Wants Wants Wants Wants Wants Wants Wants expr_wants suffix_wants tag_wants spelling_wants dimension_wants enumerator_wants operand_wants specs_wants member_wants dimensioned_wants (record { specs = specs; names = names })

pub wants_StructDeclarator : (name : Identifier) (dimensions : List Dimension) → wants_of_dimensioned (roll-StructDeclarator (record { name = name; dimensions = dimensions })) ≡ dimensioned_wants (record { name = name; dimensions = (map wants_of_dimension dimensions) })
wants_StructDeclarator name dimensions = fold-roll-StructDeclarator Wants Wants Wants Wants Wants Wants Wants Wants Wants Wants expr_wants suffix_wants tag_wants spelling_wants dimension_wants enumerator_wants operand_wants specs_wants member_wants dimensioned_wants (record { name = name; dimensions = dimensions })

pub wants_Dimension : (place : Place) (size : Option Expr) → wants_of_dimension (roll-Dimension (record { place = place; size = size })) ≡ dimension_wants (record { place = place; size = (option_map wants_of_expr size) })
wants_Dimension place None = fold-roll-Dimension Wants Wants Wants Wants Wants Wants Wants Wants Wants Wants expr_wants suffix_wants tag_wants spelling_wants dimension_wants enumerator_wants operand_wants specs_wants member_wants dimensioned_wants (record { place = place; size = None })
wants_Dimension place (Some some) = fold-roll-Dimension Wants Wants Wants Wants Wants Wants Wants Wants Wants Wants expr_wants suffix_wants tag_wants spelling_wants dimension_wants enumerator_wants operand_wants specs_wants member_wants dimensioned_wants (record { place = place; size = (Some some) })

pub wants_Enumerator : (name : Identifier) (value : Option Expr) → wants_of_enumerator (roll-Enumerator (record { name = name; value = value })) ≡ enumerator_wants (record { name = name; value = (option_map wants_of_expr value) })
wants_Enumerator name None = fold-roll-Enumerator Wants Wants Wants Wants Wants Wants Wants Wants Wants Wants expr_wants suffix_wants tag_wants spelling_wants dimension_wants enumerator_wants operand_wants specs_wants member_wants dimensioned_wants (record { name = name; value = None })
wants_Enumerator name (Some some) = fold-roll-Enumerator Wants Wants Wants Wants Wants Wants Wants Wants Wants Wants expr_wants suffix_wants tag_wants spelling_wants dimension_wants enumerator_wants operand_wants specs_wants member_wants dimensioned_wants (record { name = name; value = (Some some) })

-- ---- which are of the grammar

pub is_Expr_Name : (named : Identifier) → binds (expr.Name named) ≡ expr_binds (Expr-F.Name named)
is_Expr_Name named = ap binds (sym (expr.rolls-Name named)) ∙ fold-roll-Expr Binds Bool Bool Bool Bool Bool Bound Bool Bool Bool expr_binds is_suffix is_tag is_kind is_dimension is_enumerator operand_binds is_specs is_member is_dimensioned (Expr-F.Name named)

pub is_Expr_Literal : (place : Place) (value : Literal) → binds (expr.Literal place value) ≡ expr_binds (Expr-F.Literal place value)
is_Expr_Literal place value = ap binds (sym (expr.rolls-Literal place value)) ∙ fold-roll-Expr Binds Bool Bool Bool Bool Bool Bound Bool Bool Bool expr_binds is_suffix is_tag is_kind is_dimension is_enumerator operand_binds is_specs is_member is_dimensioned (Expr-F.Literal place value)

pub is_Expr_Call : (named : Identifier) (place : Place) (arguments : List Expr) → binds (expr.Call named place arguments) ≡ expr_binds (Expr-F.Call named place (map binds arguments))
is_Expr_Call named place arguments = ap binds (sym (expr.rolls-Call named place arguments)) ∙ fold-roll-Expr Binds Bool Bool Bool Bool Bool Bound Bool Bool Bool expr_binds is_suffix is_tag is_kind is_dimension is_enumerator operand_binds is_specs is_member is_dimensioned (Expr-F.Call named place arguments)

pub is_Expr_Parenthesized : (place : Place) (inner : Expr) → binds (expr.Parenthesized place inner) ≡ expr_binds (Expr-F.Parenthesized place (binds inner))
is_Expr_Parenthesized place inner = ap binds (sym (expr.rolls-Parenthesized place inner)) ∙ fold-roll-Expr Binds Bool Bool Bool Bool Bool Bound Bool Bool Bool expr_binds is_suffix is_tag is_kind is_dimension is_enumerator operand_binds is_specs is_member is_dimensioned (Expr-F.Parenthesized place inner)

pub is_Expr_Postfix : (primary : Expr) (suffixes : List Suffix) → binds (expr.Postfix primary suffixes) ≡ expr_binds (Expr-F.Postfix (binds primary) (map is_suffix_tree suffixes))
is_Expr_Postfix primary suffixes = ap binds (sym (expr.rolls-Postfix primary suffixes)) ∙ fold-roll-Expr Binds Bool Bool Bool Bool Bool Bound Bool Bool Bool expr_binds is_suffix is_tag is_kind is_dimension is_enumerator operand_binds is_specs is_member is_dimensioned (Expr-F.Postfix primary suffixes)

pub is_Expr_Unary : (place : Place) (operator : UnaryOperator) (operand : Expr) → binds (expr.Unary place operator operand) ≡ expr_binds (Expr-F.Unary place operator (binds operand))
is_Expr_Unary place operator operand = ap binds (sym (expr.rolls-Unary place operator operand)) ∙ fold-roll-Expr Binds Bool Bool Bool Bool Bool Bound Bool Bool Bool expr_binds is_suffix is_tag is_kind is_dimension is_enumerator operand_binds is_specs is_member is_dimensioned (Expr-F.Unary place operator operand)

pub is_Expr_Cast : (place : Place) (specs : Specifiers) (operand : Expr) → binds (expr.Cast place specs operand) ≡ expr_binds (Expr-F.Cast place (are_specs specs) (binds operand))
is_Expr_Cast place specs operand = ap binds (sym (expr.rolls-Cast place specs operand)) ∙ fold-roll-Expr Binds Bool Bool Bool Bool Bool Bound Bool Bool Bool expr_binds is_suffix is_tag is_kind is_dimension is_enumerator operand_binds is_specs is_member is_dimensioned (Expr-F.Cast place specs operand)

pub is_Expr_BinaryChain : (first : Expr) (operands : List Operand) → binds (expr.BinaryChain first operands) ≡ expr_binds (Expr-F.BinaryChain (binds first) (map operand_level operands))
is_Expr_BinaryChain first operands = ap binds (sym (expr.rolls-BinaryChain first operands)) ∙ fold-roll-Expr Binds Bool Bool Bool Bool Bool Bound Bool Bool Bool expr_binds is_suffix is_tag is_kind is_dimension is_enumerator operand_binds is_specs is_member is_dimensioned (Expr-F.BinaryChain first operands)

pub is_Expr_Conditional : (condition : Expr) (place : Place) (second : Expr) (third : Expr) → binds (expr.Conditional condition place second third) ≡ expr_binds (Expr-F.Conditional (binds condition) place (binds second) (binds third))
is_Expr_Conditional condition place second third = ap binds (sym (expr.rolls-Conditional condition place second third)) ∙ fold-roll-Expr Binds Bool Bool Bool Bool Bool Bound Bool Bool Bool expr_binds is_suffix is_tag is_kind is_dimension is_enumerator operand_binds is_specs is_member is_dimensioned (Expr-F.Conditional condition place second third)

pub is_Suffix_Index : (place : Place) (index : Expr) → is_suffix_tree (suffix.Index place index) ≡ is_suffix (Suffix-F.Index place (binds index))
is_Suffix_Index place index = ap is_suffix_tree (sym (suffix.rolls-Index place index)) ∙ fold-roll-Suffix Binds Bool Bool Bool Bool Bool Bound Bool Bool Bool expr_binds is_suffix is_tag is_kind is_dimension is_enumerator operand_binds is_specs is_member is_dimensioned (Suffix-F.Index place index)

pub is_Suffix_Member : (place : Place) (named : Identifier) → is_suffix_tree (suffix.Member place named) ≡ is_suffix (Suffix-F.Member place named)
is_Suffix_Member place named = ap is_suffix_tree (sym (suffix.rolls-Member place named)) ∙ fold-roll-Suffix Binds Bool Bool Bool Bool Bool Bound Bool Bool Bool expr_binds is_suffix is_tag is_kind is_dimension is_enumerator operand_binds is_specs is_member is_dimensioned (Suffix-F.Member place named)

pub is_Suffix_Arrow : (place : Place) (named : Identifier) → is_suffix_tree (suffix.Arrow place named) ≡ is_suffix (Suffix-F.Arrow place named)
is_Suffix_Arrow place named = ap is_suffix_tree (sym (suffix.rolls-Arrow place named)) ∙ fold-roll-Suffix Binds Bool Bool Bool Bool Bool Bound Bool Bool Bool expr_binds is_suffix is_tag is_kind is_dimension is_enumerator operand_binds is_specs is_member is_dimensioned (Suffix-F.Arrow place named)

pub is_TypeSpecifier_Words : (place : Place) (words : List TypeWord) → is_spelling_tree (spelling.Words place words) ≡ is_kind (TypeSpecifier-F.Words place words)
is_TypeSpecifier_Words place words = ap is_spelling_tree (sym (spelling.rolls-Words place words)) ∙ fold-roll-TypeSpecifier Binds Bool Bool Bool Bool Bool Bound Bool Bool Bool expr_binds is_suffix is_tag is_kind is_dimension is_enumerator operand_binds is_specs is_member is_dimensioned (TypeSpecifier-F.Words place words)

pub is_TypeSpecifier_TagSpecifier : (tag : TagSpecifier) → is_spelling_tree (spelling.TagSpecifier tag) ≡ is_kind (TypeSpecifier-F.TagSpecifier (is_tag_tree tag))
is_TypeSpecifier_TagSpecifier tag = ap is_spelling_tree (sym (spelling.rolls-TagSpecifier tag)) ∙ fold-roll-TypeSpecifier Binds Bool Bool Bool Bool Bool Bound Bool Bool Bool expr_binds is_suffix is_tag is_kind is_dimension is_enumerator operand_binds is_specs is_member is_dimensioned (TypeSpecifier-F.TagSpecifier tag)

pub is_TypeSpecifier_TypeName : (named : Identifier) → is_spelling_tree (spelling.TypeName named) ≡ is_kind (TypeSpecifier-F.TypeName named)
is_TypeSpecifier_TypeName named = ap is_spelling_tree (sym (spelling.rolls-TypeName named)) ∙ fold-roll-TypeSpecifier Binds Bool Bool Bool Bool Bool Bound Bool Bool Bool expr_binds is_suffix is_tag is_kind is_dimension is_enumerator operand_binds is_specs is_member is_dimensioned (TypeSpecifier-F.TypeName named)

pub is_TagSpecifier_Struct : (place : Place) (named : Option Identifier) (members : Option (List StructDeclaration)) → is_tag_tree (tag.Struct place named members) ≡ is_tag (TagSpecifier-F.Struct place named (option_map (map is_member_tree) members))
is_TagSpecifier_Struct place named None = ap is_tag_tree (sym (tag.rolls-Struct place named None)) ∙ fold-roll-TagSpecifier Binds Bool Bool Bool Bool Bool Bound Bool Bool Bool expr_binds is_suffix is_tag is_kind is_dimension is_enumerator operand_binds is_specs is_member is_dimensioned (TagSpecifier-F.Struct place named None)
is_TagSpecifier_Struct place named (Some some) = ap is_tag_tree (sym (tag.rolls-Struct place named (Some some))) ∙ fold-roll-TagSpecifier Binds Bool Bool Bool Bool Bool Bound Bool Bool Bool expr_binds is_suffix is_tag is_kind is_dimension is_enumerator operand_binds is_specs is_member is_dimensioned (TagSpecifier-F.Struct place named (Some some))

pub is_TagSpecifier_Enum : (place : Place) (named : Option Identifier) (constants : Option (List Enumerator)) (comma : TrailingComma) → is_tag_tree (tag.Enum place named constants comma) ≡ is_tag (TagSpecifier-F.Enum place named (option_map (map is_enumerator_tree) constants) comma)
is_TagSpecifier_Enum place named None comma = ap is_tag_tree (sym (tag.rolls-Enum place named None comma)) ∙ fold-roll-TagSpecifier Binds Bool Bool Bool Bool Bool Bound Bool Bool Bool expr_binds is_suffix is_tag is_kind is_dimension is_enumerator operand_binds is_specs is_member is_dimensioned (TagSpecifier-F.Enum place named None comma)
is_TagSpecifier_Enum place named (Some some) comma = ap is_tag_tree (sym (tag.rolls-Enum place named (Some some) comma)) ∙ fold-roll-TagSpecifier Binds Bool Bool Bool Bool Bool Bound Bool Bool Bool expr_binds is_suffix is_tag is_kind is_dimension is_enumerator operand_binds is_specs is_member is_dimensioned (TagSpecifier-F.Enum place named (Some some) comma)

pub is_Operand : (place : Place) (operator : BinaryOperator) (value : Expr) → operand_level (roll-Operand (record { place = place; operator = operator; value = value })) ≡ operand_binds (record { place = place; operator = operator; value = (binds value) })
is_Operand place operator value = fold-roll-Operand Binds Bool Bool Bool Bool Bool Bound Bool Bool Bool expr_binds is_suffix is_tag is_kind is_dimension is_enumerator operand_binds is_specs is_member is_dimensioned (record { place = place; operator = operator; value = value })

pub is_Specifiers : (before : List Place) (kind : TypeSpecifier) (after : List Place) → are_specs (roll-Specifiers (record { before = before; kind = kind; after = after })) ≡ is_specs (record { before = before; kind = (is_spelling_tree kind); after = after })
is_Specifiers before kind after = fold-roll-Specifiers Binds Bool Bool Bool Bool Bool Bound Bool Bool Bool expr_binds is_suffix is_tag is_kind is_dimension is_enumerator operand_binds is_specs is_member is_dimensioned (record { before = before; kind = kind; after = after })

pub is_StructDeclaration : (specs : Specifiers) (names : List StructDeclarator) → is_member_tree (roll-StructDeclaration (record { specs = specs; names = names })) ≡ is_member (record { specs = (are_specs specs); names = (map is_dimensioned_tree names) })
is_StructDeclaration specs names = fold-roll-StructDeclaration Binds Bool Bool Bool Bool Bool Bound Bool Bool Bool expr_binds is_suffix is_tag is_kind is_dimension is_enumerator operand_binds is_specs is_member is_dimensioned (record { specs = specs; names = names })

pub is_StructDeclarator : (name : Identifier) (dimensions : List Dimension) → is_dimensioned_tree (roll-StructDeclarator (record { name = name; dimensions = dimensions })) ≡ is_dimensioned (record { name = name; dimensions = (map is_dimension_tree dimensions) })
is_StructDeclarator name dimensions = fold-roll-StructDeclarator Binds Bool Bool Bool Bool Bool Bound Bool Bool Bool expr_binds is_suffix is_tag is_kind is_dimension is_enumerator operand_binds is_specs is_member is_dimensioned (record { name = name; dimensions = dimensions })

pub is_Dimension : (place : Place) (size : Option Expr) → is_dimension_tree (roll-Dimension (record { place = place; size = size })) ≡ is_dimension (record { place = place; size = (option_map binds size) })
is_Dimension place None = fold-roll-Dimension Binds Bool Bool Bool Bool Bool Bound Bool Bool Bool expr_binds is_suffix is_tag is_kind is_dimension is_enumerator operand_binds is_specs is_member is_dimensioned (record { place = place; size = None })
is_Dimension place (Some some) = fold-roll-Dimension Binds Bool Bool Bool Bool Bool Bound Bool Bool Bool expr_binds is_suffix is_tag is_kind is_dimension is_enumerator operand_binds is_specs is_member is_dimensioned (record { place = place; size = (Some some) })

pub is_Enumerator : (name : Identifier) (value : Option Expr) → is_enumerator_tree (roll-Enumerator (record { name = name; value = value })) ≡ is_enumerator (record { name = name; value = (option_map binds value) })
is_Enumerator name None = fold-roll-Enumerator Binds Bool Bool Bool Bool Bool Bound Bool Bool Bool expr_binds is_suffix is_tag is_kind is_dimension is_enumerator operand_binds is_specs is_member is_dimensioned (record { name = name; value = None })
is_Enumerator name (Some some) = fold-roll-Enumerator Binds Bool Bool Bool Bool Bool Bound Bool Bool Bool expr_binds is_suffix is_tag is_kind is_dimension is_enumerator operand_binds is_specs is_member is_dimensioned (record { name = name; value = (Some some) })
