-- The addresses that a function takes: each production's scan by those of its parts, in the order of the text. A name's scope begins after its
-- dimensions (C11 6.2.1p7).
use Rattle.std.specs.Prelude.{ℕ, Bool, true, false, Option, None, Some, option_map, List, [], ◌∷◌, map}
use Rattle.c_tree.specs.declared.expressions.Identifier.{Identifier}
use Rattle.c_tree.specs.declared.expressions.Expr.{Expr}
use Rattle.c_tree.specs.declared.expressions.Suffix.{Suffix}
use Rattle.c_tree.specs.declared.expressions.TagSpecifier.{TagSpecifier}
use Rattle.c_tree.specs.declared.expressions.TypeSpecifier.{TypeSpecifier}
use Rattle.c_tree.specs.declared.expressions.Dimension.{Dimension}
use Rattle.c_tree.specs.declared.expressions.Enumerator.{Enumerator}
use Rattle.c_tree.specs.declared.expressions.Operand.{Operand}
use Rattle.c_tree.specs.declared.expressions.Specifiers.{Specifiers}
use Rattle.c_tree.specs.declared.expressions.StructDeclaration.{StructDeclaration}
use Rattle.c_tree.specs.declared.expressions.StructDeclarator.{StructDeclarator}
use Rattle.c_tree.specs.declared.expressions.Expr.TheOpen.{Expr-F, Suffix-F, TagSpecifier-F, TypeSpecifier-F, Dimension-F, Enumerator-F, Operand-F, Specifiers-F, StructDeclaration-F, StructDeclarator-F}
use Rattle.c_tree.specs.declared.expressions.Expr.TheFolds.{fold-Expr, fold-Suffix, fold-TagSpecifier, fold-TypeSpecifier, fold-Dimension, fold-Enumerator, fold-Operand, fold-Specifiers, fold-StructDeclaration, fold-StructDeclarator}
use Rattle.c_tree.specs.declared.expressions.UnaryOperator.{UnaryOperator}
use Rattle.c_tree.specs.declared.expressions.UnaryOperator.TheVariants as unary
use Rattle.c_tree.specs.declared.statements.ExpressionStatement.{ExpressionStatement}
use Rattle.c_tree.specs.declared.statements.ExpressionStatement.TheVariants as simple
use Rattle.c_tree.specs.declared.statements.Initializer.{Initializer}
use Rattle.c_tree.specs.declared.statements.Initializer.TheOpen.{Initializer-F}
use Rattle.c_tree.specs.declared.statements.Initializer.TheFolds.{fold-Initializer}
use Rattle.c_tree.specs.declared.statements.Initialization.{Initialization}
use Rattle.c_tree.specs.declared.statements.InitDeclarator.{InitDeclarator}
use Rattle.c_tree.specs.declared.statements.Declaration.{Declaration}
use Rattle.c_tree.specs.declared.statements.First.{First}
use Rattle.c_tree.specs.declared.statements.First.TheVariants as first
use Rattle.c_tree.specs.declared.statements.Label.{Label}
use Rattle.c_tree.specs.declared.statements.Label.TheVariants as label
use Rattle.c_tree.specs.declared.statements.BlockItem.{BlockItem}
use Rattle.c_tree.specs.declared.statements.Iteration.{Iteration}
use Rattle.c_tree.specs.declared.statements.Selection.{Selection}
use Rattle.c_tree.specs.declared.statements.Statement.{Statement}
use Rattle.c_tree.specs.declared.statements.Block.{Block}
use Rattle.c_tree.specs.declared.statements.LabelledSection.{LabelledSection}
use Rattle.c_tree.specs.declared.statements.BlockItem.TheOpen.{BlockItem-F, Iteration-F, Selection-F, Statement-F, Block-F, LabelledSection-F}
use Rattle.c_tree.specs.declared.statements.BlockItem.TheFolds.{fold-BlockItem, fold-Iteration, fold-Selection, fold-Statement, fold-Block, fold-LabelledSection}
use Rattle.c_tree.specs.declared.programs.Parameter.{Parameter}
use Rattle.c_tree.specs.declared.programs.Parameters.{Parameters}
use Rattle.c_tree.specs.declared.programs.Parameters.TheVariants as parameters
use Rattle.c_tree.specs.declared.programs.Function.{Function}
use Rattle.c_addresses.specs.Scans.{Scan, nothing_scanned, in_turn, where_there, declares, takes_if, scoped}

-- ---- expressions

-- the name that an expression is, whatever brackets stand around it
pub record ExprScan : Type 0 where
  pub name : Option (List ℕ)
  pub scan : Scan

abbrev pub nameless : Scan → ExprScan
nameless scan = record { name = None; scan = scan }

abbrev pub both : Scan → Scan → Scan
both f g s = g (f s)

abbrev pub exprs_in_turn : List ExprScan → Scan
exprs_in_turn [] s = s
exprs_in_turn (e ∷ es) s = exprs_in_turn es (e.scan s)

abbrev pub unchanged : Scan
unchanged s = s

-- "&" and a name
abbrev pub noted : UnaryOperator → Option (List ℕ) → Scan
noted unary.Address name s = takes_if name s
noted unary.Indirection name s = s
noted unary.Not name s = s
noted unary.Plus name s = s
noted unary.Minus name s = s
noted unary.Complement name s = s

abbrev pub unary_scan : UnaryOperator → ExprScan → Scan
unary_scan op operand s = operand.scan (noted op operand.name s)

abbrev pub expr_scan : Expr-F ExprScan Scan Scan Scan Scan Scan Scan Scan Scan Scan → ExprScan
expr_scan (Expr-F.Name name) = record { name = Some name.text; scan = unchanged }
expr_scan (Expr-F.Literal place value) = nameless unchanged
expr_scan (Expr-F.Call name bracket arguments) = nameless (exprs_in_turn arguments)
expr_scan (Expr-F.Parenthesized place inner) = inner
expr_scan (Expr-F.Postfix first suffixes) = nameless (both first.scan (in_turn suffixes))
expr_scan (Expr-F.Unary place op operand) = nameless (unary_scan op operand)
expr_scan (Expr-F.Cast place specs operand) = nameless (both specs operand.scan)
expr_scan (Expr-F.BinaryChain first operands) = nameless (both first.scan (in_turn operands))
expr_scan (Expr-F.Conditional condition place second third) = nameless (both (both condition.scan second.scan) third.scan)

abbrev pub suffix_scan : Suffix-F ExprScan Scan Scan Scan Scan Scan Scan Scan Scan Scan → Scan
suffix_scan (Suffix-F.Index place index) = index.scan
suffix_scan (Suffix-F.Member place name) = unchanged
suffix_scan (Suffix-F.Arrow place name) = unchanged

abbrev pub operand_scan : Operand-F ExprScan Scan Scan Scan Scan Scan Scan Scan Scan Scan → Scan
operand_scan operand = operand.value.scan

-- ---- specifiers

abbrev pub all_where : Option (List Scan) → Scan
all_where None s = s
all_where (Some scans) s = in_turn scans s

abbrev pub tag_scan : TagSpecifier-F ExprScan Scan Scan Scan Scan Scan Scan Scan Scan Scan → Scan
tag_scan (TagSpecifier-F.Struct place name members) = all_where members
tag_scan (TagSpecifier-F.Enum place name constants comma) = all_where constants

abbrev pub spelling_scan : TypeSpecifier-F ExprScan Scan Scan Scan Scan Scan Scan Scan Scan Scan → Scan
spelling_scan (TypeSpecifier-F.Words place words) = unchanged
spelling_scan (TypeSpecifier-F.TagSpecifier tag) = tag
spelling_scan (TypeSpecifier-F.TypeName name) = unchanged

abbrev pub specs_scan : Specifiers-F ExprScan Scan Scan Scan Scan Scan Scan Scan Scan Scan → Scan
specs_scan specs = specs.kind

abbrev pub member_scan : StructDeclaration-F ExprScan Scan Scan Scan Scan Scan Scan Scan Scan Scan → Scan
member_scan declaration = both declaration.specs (in_turn declaration.names)

abbrev pub declarator_scan : StructDeclarator-F ExprScan Scan Scan Scan Scan Scan Scan Scan Scan Scan → Scan
declarator_scan declarator = in_turn declarator.dimensions

abbrev pub size_scan : Option ExprScan → Scan
size_scan None s = s
size_scan (Some e) s = e.scan s

abbrev pub dimension_scan : Dimension-F ExprScan Scan Scan Scan Scan Scan Scan Scan Scan Scan → Scan
dimension_scan d = size_scan d.size

abbrev pub enumerator_scan : Enumerator-F ExprScan Scan Scan Scan Scan Scan Scan Scan Scan Scan → Scan
enumerator_scan enumerator = both (size_scan enumerator.value) (declares enumerator.name.text)

abbrev pub scans_expr : Expr → ExprScan
scans_expr =
    fold-Expr ExprScan Scan Scan Scan Scan Scan Scan Scan Scan Scan
    expr_scan suffix_scan tag_scan spelling_scan dimension_scan enumerator_scan operand_scan specs_scan member_scan declarator_scan

abbrev pub scans_suffix : Suffix → Scan
scans_suffix =
    fold-Suffix ExprScan Scan Scan Scan Scan Scan Scan Scan Scan Scan
    expr_scan suffix_scan tag_scan spelling_scan dimension_scan enumerator_scan operand_scan specs_scan member_scan declarator_scan

abbrev pub scans_tag : TagSpecifier → Scan
scans_tag =
    fold-TagSpecifier ExprScan Scan Scan Scan Scan Scan Scan Scan Scan Scan
    expr_scan suffix_scan tag_scan spelling_scan dimension_scan enumerator_scan operand_scan specs_scan member_scan declarator_scan

abbrev pub scans_spelling : TypeSpecifier → Scan
scans_spelling =
    fold-TypeSpecifier ExprScan Scan Scan Scan Scan Scan Scan Scan Scan Scan
    expr_scan suffix_scan tag_scan spelling_scan dimension_scan enumerator_scan operand_scan specs_scan member_scan declarator_scan

abbrev pub scans_dimension : Dimension → Scan
scans_dimension =
    fold-Dimension ExprScan Scan Scan Scan Scan Scan Scan Scan Scan Scan
    expr_scan suffix_scan tag_scan spelling_scan dimension_scan enumerator_scan operand_scan specs_scan member_scan declarator_scan

abbrev pub scans_enumerator : Enumerator → Scan
scans_enumerator =
    fold-Enumerator ExprScan Scan Scan Scan Scan Scan Scan Scan Scan Scan
    expr_scan suffix_scan tag_scan spelling_scan dimension_scan enumerator_scan operand_scan specs_scan member_scan declarator_scan

abbrev pub scans_operand : Operand → Scan
scans_operand =
    fold-Operand ExprScan Scan Scan Scan Scan Scan Scan Scan Scan Scan
    expr_scan suffix_scan tag_scan spelling_scan dimension_scan enumerator_scan operand_scan specs_scan member_scan declarator_scan

abbrev pub scans_specs : Specifiers → Scan
scans_specs =
    fold-Specifiers ExprScan Scan Scan Scan Scan Scan Scan Scan Scan Scan
    expr_scan suffix_scan tag_scan spelling_scan dimension_scan enumerator_scan operand_scan specs_scan member_scan declarator_scan

abbrev pub scans_member : StructDeclaration → Scan
scans_member =
    fold-StructDeclaration ExprScan Scan Scan Scan Scan Scan Scan Scan Scan Scan
    expr_scan suffix_scan tag_scan spelling_scan dimension_scan enumerator_scan operand_scan specs_scan member_scan declarator_scan

abbrev pub scans_declarator : StructDeclarator → Scan
scans_declarator =
    fold-StructDeclarator ExprScan Scan Scan Scan Scan Scan Scan Scan Scan Scan
    expr_scan suffix_scan tag_scan spelling_scan dimension_scan enumerator_scan operand_scan specs_scan member_scan declarator_scan

abbrev pub scan_of : Expr → Scan
scan_of e = (scans_expr e).scan

abbrev pub scan_where : Option Expr → Scan
scan_where None s = s
scan_where (Some e) s = scan_of e s

-- ---- declarations

abbrev pub init_scan : Initializer-F Scan → Scan
init_scan (Initializer-F.Expression e) = scan_of e
init_scan (Initializer-F.List place parts comma) = in_turn parts

abbrev pub scans_init : Initializer → Scan
scans_init = fold-Initializer Scan init_scan

abbrev pub start_scan : Option Initialization → Scan
start_scan None s = s
start_scan (Some start) s = scans_init start.value s

abbrev pub scans_declared : InitDeclarator → Scan
scans_declared d s = start_scan d.start (declares d.name.text (in_turn (map scans_dimension d.dimensions) s))

abbrev pub scans_declaration : Declaration → Scan
scans_declaration declaration s = in_turn (map scans_declared declaration.declarators) (scans_specs declaration.specs s)

-- ---- statements

abbrev pub scans_simple : ExpressionStatement → Scan
scans_simple (simple.Assignment target place op value) s = scan_of value (scan_of target s)
scans_simple (simple.PostfixStep target place step) s = scan_of target s
scans_simple (simple.PrefixStep place step target) s = scan_of target s
scans_simple (simple.Call call) s = scan_of call s

abbrev pub simple_where : Option ExpressionStatement → Scan
simple_where None s = s
simple_where (Some simple) s = scans_simple simple s

abbrev pub first_scan : First → Scan
first_scan first.Nothing s = s
first_scan (first.Declaration declaration) s = scans_declaration declaration s
first_scan (first.Expression simple) s = scans_simple simple s

abbrev pub scans_label : Label → Scan
scans_label (label.Case place e) s = scan_of e s
scans_label (label.Default place) s = s

abbrev pub item_scan : BlockItem-F Scan Scan Scan Scan Scan Scan → Scan
item_scan (BlockItem-F.Statement statement) = statement
item_scan (BlockItem-F.Declaration declaration) = scans_declaration declaration
item_scan (BlockItem-F.TagSpecifier tag) = scans_tag tag

abbrev pub block_scan : Block-F Scan Scan Scan Scan Scan Scan → Scan
block_scan block = in_turn block.parts

abbrev pub section_scan : LabelledSection-F Scan Scan Scan Scan Scan Scan → Scan
section_scan section s = in_turn section.statements (in_turn (map scans_label section.labels) s)

abbrev pub scoped_where : Option Scan → Scan
scoped_where None s = s
scoped_where (Some statement) s = scoped statement s

abbrev pub selection_scan : Selection-F Scan Scan Scan Scan Scan Scan → Scan
selection_scan (Selection-F.If place condition consequence otherwise) s = scoped_where otherwise (scoped consequence (scan_of condition s))
selection_scan (Selection-F.Switch place value sections) s = scoped (in_turn sections) (scan_of value s)

abbrev pub iteration_scan : Iteration-F Scan Scan Scan Scan Scan Scan → Scan
iteration_scan (Iteration-F.While bound place condition body) s = scoped body (scan_of condition s)
iteration_scan (Iteration-F.Do bound place body condition) s = scan_of condition (scoped body s)
iteration_scan (Iteration-F.For bound place initial condition step body) s =
    scoped body (simple_where step (scan_where condition (first_scan initial s)))

abbrev pub statement_scan : Statement-F Scan Scan Scan Scan Scan Scan → Scan
statement_scan (Statement-F.Block block) = scoped block
statement_scan (Statement-F.Empty place) = unchanged
statement_scan (Statement-F.Expression simple) = scans_simple simple
statement_scan (Statement-F.Break place) = unchanged
statement_scan (Statement-F.Continue place) = unchanged
statement_scan (Statement-F.Return place value) = scan_where value
statement_scan (Statement-F.Selection selection) = scoped selection
statement_scan (Statement-F.Iteration iteration) = scoped iteration

abbrev pub scans_item : BlockItem → Scan
scans_item = fold-BlockItem Scan Scan Scan Scan Scan Scan item_scan iteration_scan selection_scan statement_scan block_scan section_scan

abbrev pub scans_iteration : Iteration → Scan
scans_iteration = fold-Iteration Scan Scan Scan Scan Scan Scan item_scan iteration_scan selection_scan statement_scan block_scan section_scan

abbrev pub scans_selection : Selection → Scan
scans_selection = fold-Selection Scan Scan Scan Scan Scan Scan item_scan iteration_scan selection_scan statement_scan block_scan section_scan

abbrev pub scans_statement : Statement → Scan
scans_statement = fold-Statement Scan Scan Scan Scan Scan Scan item_scan iteration_scan selection_scan statement_scan block_scan section_scan

abbrev pub scans_block : Block → Scan
scans_block = fold-Block Scan Scan Scan Scan Scan Scan item_scan iteration_scan selection_scan statement_scan block_scan section_scan

abbrev pub scans_section : LabelledSection → Scan
scans_section = fold-LabelledSection Scan Scan Scan Scan Scan Scan item_scan iteration_scan selection_scan statement_scan block_scan section_scan

-- ---- functions (C11 6.9.1): the parameters are of the scope of the body

abbrev pub scans_parameter : Parameter → Scan
scans_parameter p s = declares p.name.text (in_turn (map scans_dimension p.dimensions) (scans_specs p.specs s))

abbrev pub parameters_scan : Parameters → Scan
parameters_scan parameters.Nothing s = s
parameters_scan (parameters.Void place) s = s
parameters_scan (parameters.List list) s = in_turn (map scans_parameter list) s

abbrev pub scans_function : Function → Scan
scans_function f s = scans_block f.body (parameters_scan f.parameters s)

-- for each declaration in a function, in order, whether the function takes its address
abbrev pub addressed_in : Function → List Bool
addressed_in f = (scans_function f nothing_scanned).addressed
