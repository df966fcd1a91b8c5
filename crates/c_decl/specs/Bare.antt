-- Types that are spelled by a tag alone or by void alone, with no const.
use Rattle.std.specs.Prelude.{List, [], ◌∷◌, Option, Some, None}
use Rattle.c_tree.specs.declared.token.Place.{Place}
use Rattle.c_tree.specs.declared.expressions.Expr.{Expr}
use Rattle.c_tree.specs.declared.expressions.Specifiers.{Specifiers}
use Rattle.c_tree.specs.declared.expressions.TypeSpecifier.{TypeSpecifier}
use Rattle.c_tree.specs.declared.expressions.Suffix.{Suffix}
use Rattle.c_tree.specs.declared.expressions.TagSpecifier.{TagSpecifier}
use Rattle.c_tree.specs.declared.expressions.Dimension.{Dimension}
use Rattle.c_tree.specs.declared.expressions.StructDeclarator.{StructDeclarator}
use Rattle.c_tree.specs.declared.expressions.Enumerator.{Enumerator}
use Rattle.c_tree.specs.declared.expressions.StructDeclaration.{StructDeclaration}
use Rattle.c_tree.specs.declared.expressions.Operand.{Operand}
use Rattle.c_tree.specs.declared.expressions.TypeWord.TheVariants as words
use Rattle.c_tree.specs.declared.expressions.Expr.TheOpen.{TypeSpecifier-F}
use Rattle.c_tree.specs.declared.expressions.Expr.TheViews.{out-Specifiers, out-TypeSpecifier}

abbrev pub Open : Type 0
Open = TypeSpecifier-F Expr Suffix TagSpecifier TypeSpecifier Dimension Enumerator Operand Specifiers StructDeclaration StructDeclarator

abbrev pub tag_in : List Place → Open → List Place → Option TagSpecifier
tag_in [] (TypeSpecifier-F.TagSpecifier tag) [] = Some tag
tag_in _ _ _ = None

-- the tag that a type is spelled by alone
unfoldable pub tag_of : Specifiers → Option TagSpecifier
tag_of specs = tag_in (out-Specifiers specs).before (out-TypeSpecifier (out-Specifiers specs).kind) (out-Specifiers specs).after

abbrev pub void_in : List Place → Open → List Place → Option Place
void_in [] (TypeSpecifier-F.Words place (words.Void ∷ [])) [] = Some place
void_in _ _ _ = None

-- the place of the void that a type is spelled by alone
unfoldable pub void_of : Specifiers → Option Place
void_of specs = void_in (out-Specifiers specs).before (out-TypeSpecifier (out-Specifiers specs).kind) (out-Specifiers specs).after
