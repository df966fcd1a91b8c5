-- Trees of expressions and of types by their outermost layer.
use Rattle.std.proofs.Common.{List, Option, sym, subst}
use Rattle.c_tree.specs.declared.token.Place.{Place}
use Rattle.c_tree.specs.declared.expressions.Identifier.{Identifier}
use Rattle.c_tree.specs.declared.expressions.Literal.{Literal}
use Rattle.c_tree.specs.declared.expressions.BinaryOperator.{BinaryOperator}
use Rattle.c_tree.specs.declared.expressions.UnaryOperator.{UnaryOperator}
use Rattle.c_tree.specs.declared.expressions.TypeWord.{TypeWord}
use Rattle.c_tree.specs.declared.expressions.TrailingComma.{TrailingComma}
use Rattle.c_tree.specs.declared.expressions.Expr.{Expr}
use Rattle.c_tree.specs.declared.expressions.Expr.TheVariants as expr
use Rattle.c_tree.specs.declared.expressions.Suffix.{Suffix}
use Rattle.c_tree.specs.declared.expressions.Suffix.TheVariants as suffix
use Rattle.c_tree.specs.declared.expressions.TypeSpecifier.{TypeSpecifier}
use Rattle.c_tree.specs.declared.expressions.TypeSpecifier.TheVariants as spelling
use Rattle.c_tree.specs.declared.expressions.TagSpecifier.{TagSpecifier}
use Rattle.c_tree.specs.declared.expressions.TagSpecifier.TheVariants as tag
use Rattle.c_tree.specs.declared.expressions.Operand.{Operand}
use Rattle.c_tree.specs.declared.expressions.Specifiers.{Specifiers}
use Rattle.c_tree.specs.declared.expressions.StructDeclaration.{StructDeclaration}
use Rattle.c_tree.specs.declared.expressions.StructDeclarator.{StructDeclarator}
use Rattle.c_tree.specs.declared.expressions.Dimension.{Dimension}
use Rattle.c_tree.specs.declared.expressions.Enumerator.{Enumerator}
use Rattle.c_tree.specs.declared.expressions.Expr.TheOpen.{Expr-F, Suffix-F, TypeSpecifier-F, TagSpecifier-F}
use Rattle.c_tree.specs.declared.expressions.Expr.TheViews.{roll-Expr, out-Expr, roll-out-Expr, roll-Suffix, out-Suffix, roll-out-Suffix, roll-TypeSpecifier, out-TypeSpecifier, roll-out-TypeSpecifier, roll-TagSpecifier, out-TagSpecifier, roll-out-TagSpecifier, roll-Operand, out-Operand, roll-out-Operand, roll-Specifiers, out-Specifiers, roll-out-Specifiers, roll-StructDeclaration, out-StructDeclaration, roll-out-StructDeclaration, roll-StructDeclarator, out-StructDeclarator, roll-out-StructDeclarator, roll-Dimension, out-Dimension, roll-out-Dimension, roll-Enumerator, out-Enumerator, roll-out-Enumerator}

layer_Expr : (P : Expr → Type 0) → ((named : Identifier) → P (expr.Name named)) → ((place : Place) (value : Literal) → P (expr.Literal place value)) → ((named : Identifier) (place : Place) (arguments : List Expr) → P (expr.Call named place arguments)) → ((place : Place) (inner : Expr) → P (expr.Parenthesized place inner)) → ((primary : Expr) (suffixes : List Suffix) → P (expr.Postfix primary suffixes)) → ((place : Place) (operator : UnaryOperator) (operand : Expr) → P (expr.Unary place operator operand)) → ((place : Place) (specs : Specifiers) (operand : Expr) → P (expr.Cast place specs operand)) → ((first : Expr) (operands : List Operand) → P (expr.BinaryChain first operands)) → ((condition : Expr) (place : Place) (second : Expr) (third : Expr) → P (expr.Conditional condition place second third)) → (layer : Expr-F Expr Suffix TagSpecifier TypeSpecifier Dimension Enumerator Operand Specifiers StructDeclaration StructDeclarator) → P (roll-Expr layer)
layer_Expr P of-Name of-Literal of-Call of-Parenthesized of-Postfix of-Unary of-Cast of-BinaryChain of-Conditional (Expr-F.Name named) = subst P (sym (expr.rolls-Name named)) (of-Name named)
layer_Expr P of-Name of-Literal of-Call of-Parenthesized of-Postfix of-Unary of-Cast of-BinaryChain of-Conditional (Expr-F.Literal place value) = subst P (sym (expr.rolls-Literal place value)) (of-Literal place value)
layer_Expr P of-Name of-Literal of-Call of-Parenthesized of-Postfix of-Unary of-Cast of-BinaryChain of-Conditional (Expr-F.Call named place arguments) = subst P (sym (expr.rolls-Call named place arguments)) (of-Call named place arguments)
layer_Expr P of-Name of-Literal of-Call of-Parenthesized of-Postfix of-Unary of-Cast of-BinaryChain of-Conditional (Expr-F.Parenthesized place inner) = subst P (sym (expr.rolls-Parenthesized place inner)) (of-Parenthesized place inner)
layer_Expr P of-Name of-Literal of-Call of-Parenthesized of-Postfix of-Unary of-Cast of-BinaryChain of-Conditional (Expr-F.Postfix primary suffixes) = subst P (sym (expr.rolls-Postfix primary suffixes)) (of-Postfix primary suffixes)
layer_Expr P of-Name of-Literal of-Call of-Parenthesized of-Postfix of-Unary of-Cast of-BinaryChain of-Conditional (Expr-F.Unary place operator operand) = subst P (sym (expr.rolls-Unary place operator operand)) (of-Unary place operator operand)
layer_Expr P of-Name of-Literal of-Call of-Parenthesized of-Postfix of-Unary of-Cast of-BinaryChain of-Conditional (Expr-F.Cast place specs operand) = subst P (sym (expr.rolls-Cast place specs operand)) (of-Cast place specs operand)
layer_Expr P of-Name of-Literal of-Call of-Parenthesized of-Postfix of-Unary of-Cast of-BinaryChain of-Conditional (Expr-F.BinaryChain first operands) = subst P (sym (expr.rolls-BinaryChain first operands)) (of-BinaryChain first operands)
layer_Expr P of-Name of-Literal of-Call of-Parenthesized of-Postfix of-Unary of-Cast of-BinaryChain of-Conditional (Expr-F.Conditional condition place second third) = subst P (sym (expr.rolls-Conditional condition place second third)) (of-Conditional condition place second third)

pub cases_Expr : (P : Expr → Type 0) → ((named : Identifier) → P (expr.Name named)) → ((place : Place) (value : Literal) → P (expr.Literal place value)) → ((named : Identifier) (place : Place) (arguments : List Expr) → P (expr.Call named place arguments)) → ((place : Place) (inner : Expr) → P (expr.Parenthesized place inner)) → ((primary : Expr) (suffixes : List Suffix) → P (expr.Postfix primary suffixes)) → ((place : Place) (operator : UnaryOperator) (operand : Expr) → P (expr.Unary place operator operand)) → ((place : Place) (specs : Specifiers) (operand : Expr) → P (expr.Cast place specs operand)) → ((first : Expr) (operands : List Operand) → P (expr.BinaryChain first operands)) → ((condition : Expr) (place : Place) (second : Expr) (third : Expr) → P (expr.Conditional condition place second third)) → (tree : Expr) → P tree
cases_Expr P of-Name of-Literal of-Call of-Parenthesized of-Postfix of-Unary of-Cast of-BinaryChain of-Conditional tree = subst P (roll-out-Expr tree) (layer_Expr P of-Name of-Literal of-Call of-Parenthesized of-Postfix of-Unary of-Cast of-BinaryChain of-Conditional (out-Expr tree))

layer_Suffix : (P : Suffix → Type 0) → ((place : Place) (index : Expr) → P (suffix.Index place index)) → ((place : Place) (named : Identifier) → P (suffix.Member place named)) → ((place : Place) (named : Identifier) → P (suffix.Arrow place named)) → (layer : Suffix-F Expr Suffix TagSpecifier TypeSpecifier Dimension Enumerator Operand Specifiers StructDeclaration StructDeclarator) → P (roll-Suffix layer)
layer_Suffix P of-Index of-Member of-Arrow (Suffix-F.Index place index) = subst P (sym (suffix.rolls-Index place index)) (of-Index place index)
layer_Suffix P of-Index of-Member of-Arrow (Suffix-F.Member place named) = subst P (sym (suffix.rolls-Member place named)) (of-Member place named)
layer_Suffix P of-Index of-Member of-Arrow (Suffix-F.Arrow place named) = subst P (sym (suffix.rolls-Arrow place named)) (of-Arrow place named)

pub cases_Suffix : (P : Suffix → Type 0) → ((place : Place) (index : Expr) → P (suffix.Index place index)) → ((place : Place) (named : Identifier) → P (suffix.Member place named)) → ((place : Place) (named : Identifier) → P (suffix.Arrow place named)) → (tree : Suffix) → P tree
cases_Suffix P of-Index of-Member of-Arrow tree = subst P (roll-out-Suffix tree) (layer_Suffix P of-Index of-Member of-Arrow (out-Suffix tree))

layer_TypeSpecifier : (P : TypeSpecifier → Type 0) → ((place : Place) (words : List TypeWord) → P (spelling.Words place words)) → ((tag : TagSpecifier) → P (spelling.TagSpecifier tag)) → ((named : Identifier) → P (spelling.TypeName named)) → (layer : TypeSpecifier-F Expr Suffix TagSpecifier TypeSpecifier Dimension Enumerator Operand Specifiers StructDeclaration StructDeclarator) → P (roll-TypeSpecifier layer)
layer_TypeSpecifier P of-Words of-TagSpecifier of-TypeName (TypeSpecifier-F.Words place words) = subst P (sym (spelling.rolls-Words place words)) (of-Words place words)
layer_TypeSpecifier P of-Words of-TagSpecifier of-TypeName (TypeSpecifier-F.TagSpecifier tag) = subst P (sym (spelling.rolls-TagSpecifier tag)) (of-TagSpecifier tag)
layer_TypeSpecifier P of-Words of-TagSpecifier of-TypeName (TypeSpecifier-F.TypeName named) = subst P (sym (spelling.rolls-TypeName named)) (of-TypeName named)

pub cases_TypeSpecifier : (P : TypeSpecifier → Type 0) → ((place : Place) (words : List TypeWord) → P (spelling.Words place words)) → ((tag : TagSpecifier) → P (spelling.TagSpecifier tag)) → ((named : Identifier) → P (spelling.TypeName named)) → (tree : TypeSpecifier) → P tree
cases_TypeSpecifier P of-Words of-TagSpecifier of-TypeName tree = subst P (roll-out-TypeSpecifier tree) (layer_TypeSpecifier P of-Words of-TagSpecifier of-TypeName (out-TypeSpecifier tree))

layer_TagSpecifier : (P : TagSpecifier → Type 0) → ((place : Place) (named : Option Identifier) (members : Option (List StructDeclaration)) → P (tag.Struct place named members)) → ((place : Place) (named : Option Identifier) (constants : Option (List Enumerator)) (comma : TrailingComma) → P (tag.Enum place named constants comma)) → (layer : TagSpecifier-F Expr Suffix TagSpecifier TypeSpecifier Dimension Enumerator Operand Specifiers StructDeclaration StructDeclarator) → P (roll-TagSpecifier layer)
layer_TagSpecifier P of-Struct of-Enum (TagSpecifier-F.Struct place named members) = subst P (sym (tag.rolls-Struct place named members)) (of-Struct place named members)
layer_TagSpecifier P of-Struct of-Enum (TagSpecifier-F.Enum place named constants comma) = subst P (sym (tag.rolls-Enum place named constants comma)) (of-Enum place named constants comma)

pub cases_TagSpecifier : (P : TagSpecifier → Type 0) → ((place : Place) (named : Option Identifier) (members : Option (List StructDeclaration)) → P (tag.Struct place named members)) → ((place : Place) (named : Option Identifier) (constants : Option (List Enumerator)) (comma : TrailingComma) → P (tag.Enum place named constants comma)) → (tree : TagSpecifier) → P tree
cases_TagSpecifier P of-Struct of-Enum tree = subst P (roll-out-TagSpecifier tree) (layer_TagSpecifier P of-Struct of-Enum (out-TagSpecifier tree))

pub cases_Operand : (P : Operand → Type 0) → ((place : Place) (operator : BinaryOperator) (value : Expr) → P (roll-Operand (record { place = place; operator = operator; value = value }))) → (tree : Operand) → P tree
cases_Operand P of tree = subst P (roll-out-Operand tree) (of (out-Operand tree).place (out-Operand tree).operator (out-Operand tree).value)

pub cases_Specifiers : (P : Specifiers → Type 0) → ((before : List Place) (kind : TypeSpecifier) (after : List Place) → P (roll-Specifiers (record { before = before; kind = kind; after = after }))) → (tree : Specifiers) → P tree
cases_Specifiers P of tree = subst P (roll-out-Specifiers tree) (of (out-Specifiers tree).before (out-Specifiers tree).kind (out-Specifiers tree).after)

pub cases_StructDeclaration : (P : StructDeclaration → Type 0) → ((specs : Specifiers) (names : List StructDeclarator) → P (roll-StructDeclaration (record { specs = specs; names = names }))) → (tree : StructDeclaration) → P tree
cases_StructDeclaration P of tree = subst P (roll-out-StructDeclaration tree) (of (out-StructDeclaration tree).specs (out-StructDeclaration tree).names)

pub cases_StructDeclarator : (P : StructDeclarator → Type 0) → ((name : Identifier) (dimensions : List Dimension) → P (roll-StructDeclarator (record { name = name; dimensions = dimensions }))) → (tree : StructDeclarator) → P tree
cases_StructDeclarator P of tree = subst P (roll-out-StructDeclarator tree) (of (out-StructDeclarator tree).name (out-StructDeclarator tree).dimensions)

pub cases_Dimension : (P : Dimension → Type 0) → ((place : Place) (size : Option Expr) → P (roll-Dimension (record { place = place; size = size }))) → (tree : Dimension) → P tree
cases_Dimension P of tree = subst P (roll-out-Dimension tree) (of (out-Dimension tree).place (out-Dimension tree).size)

pub cases_Enumerator : (P : Enumerator → Type 0) → ((name : Identifier) (value : Option Expr) → P (roll-Enumerator (record { name = name; value = value }))) → (tree : Enumerator) → P tree
cases_Enumerator P of tree = subst P (roll-out-Enumerator tree) (of (out-Enumerator tree).name (out-Enumerator tree).value)
