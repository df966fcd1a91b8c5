-- Statements and blocks by induction over their trees: where they are walked, they keep the rules of typed programs.
use Rattle.std.proofs.Common.{◌≡◌, ◌&&◌, Bool, true, false, Option, None, Some, List, [], ◌∷◌, map, sym, subst, ◌∙◌, refl}
use Rattle.c_tree.specs.declared.expressions.Expr.{Expr}
use Rattle.c_tree.specs.declared.statements.ExpressionStatement.{ExpressionStatement}
use Rattle.c_tree.specs.declared.statements.BlockItem.{BlockItem}
use Rattle.c_tree.specs.declared.statements.Iteration.{Iteration}
use Rattle.c_tree.specs.declared.statements.Selection.{Selection}
use Rattle.c_tree.specs.declared.statements.Statement.{Statement}
use Rattle.c_tree.specs.declared.statements.Block.{Block}
use Rattle.c_tree.specs.declared.statements.LabelledSection.{LabelledSection}
use Rattle.c_tree.specs.declared.statements.BlockItem.TheOpen.{BlockItem-F, Iteration-F, Selection-F, Statement-F, Block-F, LabelledSection-F}
use Rattle.c_tree.specs.declared.statements.BlockItem.TheViews.{roll-BlockItem, roll-Iteration, roll-Selection, roll-Statement, roll-Block, roll-LabelledSection}
use Rattle.c_tree.specs.declared.statements.BlockItem.TheFolds as T
use Rattle.c_heads.specs.declared.context.Body.{Body}
use Rattle.c_bodies.specs.Statements.{ItemWalk, IterationWalk, SelectionWalk, StatementWalk, BlockWalk, SectionWalk, item_rule, iteration_rule, selection_rule, statement_rule, block_rule, section_rule, types_item, types_iteration, types_selection, types_statement, types_block, types_section}
use Rattle.expression_laws.specs.Keeping.{Each}
use Rattle.typing_laws.proofs.Environments.{extends-refl}
use Rattle.statement_laws.proofs.Nodes.{empty-statement}
use Rattle.source_laws.specs.Spelled.{every, is_spelled}
use Rattle.effect_laws.proofs.Conditions.{SpelledWhere, SpelledStep}
use Rattle.body_laws.specs.Statements.{is_few_bound, spelled_where, step_spelled, first_spelled, label_spelled, item_spelled, iteration_spelled, selection_spelled, statement_spelled, block_spelled, section_spelled, is_spelled_item, is_spelled_iteration, is_spelled_selection, is_spelled_statement, is_spelled_block, is_spelled_section, KeepsItem, KeepsIteration, KeepsSelection, KeepsStatement, KeepsBlock, KeepsSection}
use Rattle.body_laws.proofs.Bounds.{FewWhere}
use Rattle.body_laws.proofs.Loops.{while-keeps, do-keeps, for-keeps}
use Rattle.body_laws.proofs.Selections.{if-keeps, switch-keeps, section-keeps}
use Rattle.body_laws.proofs.Blocks.{break-keeps, continue-keeps, expression-keeps, return-keeps, block-keeps, selection-keeps, iteration-keeps, statement-item-keeps, declaration-item-keeps, tag-item-keeps, whole-block-keeps}

both : (a b : Bool) → (a && b) ≡ true → (a ≡ true) × (b ≡ true)
both true b h = (refl, h)
both false b h = absurd (cc)

told-where : (e : Option Expr) → spelled_where e ≡ true → SpelledWhere e
told-where None h = tt
told-where (Some e) h = h

told-step : (s : Option ExpressionStatement) → step_spelled s ≡ true → SpelledStep s
told-step None h = tt
told-step (Some s) h = h

module _ (body : Body) (few : FewWhere body.bound) where
  abbrev PI : BlockItem → Type 0
  PI x = is_spelled_item x ≡ true → KeepsItem body (types_item body x)

  abbrev PL : Iteration → Type 0
  PL x = is_spelled_iteration x ≡ true → KeepsIteration body (types_iteration body x)

  abbrev PC : Selection → Type 0
  PC x = is_spelled_selection x ≡ true → KeepsSelection body (types_selection body x)

  abbrev PS : Statement → Type 0
  PS x = is_spelled_statement x ≡ true → KeepsStatement body (types_statement body x)

  abbrev PB : Block → Type 0
  PB x = is_spelled_block x ≡ true → KeepsBlock body (types_block body x)

  abbrev PD : LabelledSection → Type 0
  PD x = is_spelled_section x ≡ true → KeepsSection body (types_section body x)

  abbrev VI : Type 0
  VI = (x : BlockItem) × PI x

  abbrev VL : Type 0
  VL = (x : Iteration) × PL x

  abbrev VC : Type 0
  VC = (x : Selection) × PC x

  abbrev VS : Type 0
  VS = (x : Statement) × PS x

  abbrev VB : Type 0
  VB = (x : Block) × PB x

  abbrev VD : Type 0
  VD = (x : LabelledSection) × PD x

  abbrev bare-BlockItem : BlockItem-F VI VL VC VS VB VD → BlockItem-F BlockItem Iteration Selection Statement Block LabelledSection
  bare-BlockItem = T.map-BlockItem VI VL VC VS VB VD BlockItem Iteration Selection Statement Block LabelledSection (λ v. v.0) (λ v. v.0) (λ v. v.0) (λ v. v.0) (λ v. v.0) (λ v. v.0)

  abbrev told-BlockItem : BlockItem-F BlockItem Iteration Selection Statement Block LabelledSection → BlockItem-F Bool Bool Bool Bool Bool Bool
  told-BlockItem = T.map-BlockItem BlockItem Iteration Selection Statement Block LabelledSection Bool Bool Bool Bool Bool Bool is_spelled_item is_spelled_iteration is_spelled_selection is_spelled_statement is_spelled_block is_spelled_section

  abbrev walks-BlockItem : BlockItem-F BlockItem Iteration Selection Statement Block LabelledSection → BlockItem-F ItemWalk IterationWalk SelectionWalk StatementWalk BlockWalk SectionWalk
  walks-BlockItem = T.map-BlockItem BlockItem Iteration Selection Statement Block LabelledSection ItemWalk IterationWalk SelectionWalk StatementWalk BlockWalk SectionWalk (types_item body) (types_iteration body) (types_selection body) (types_statement body) (types_block body) (types_section body)

  abbrev bare-Iteration : Iteration-F VI VL VC VS VB VD → Iteration-F BlockItem Iteration Selection Statement Block LabelledSection
  bare-Iteration = T.map-Iteration VI VL VC VS VB VD BlockItem Iteration Selection Statement Block LabelledSection (λ v. v.0) (λ v. v.0) (λ v. v.0) (λ v. v.0) (λ v. v.0) (λ v. v.0)

  abbrev told-Iteration : Iteration-F BlockItem Iteration Selection Statement Block LabelledSection → Iteration-F Bool Bool Bool Bool Bool Bool
  told-Iteration = T.map-Iteration BlockItem Iteration Selection Statement Block LabelledSection Bool Bool Bool Bool Bool Bool is_spelled_item is_spelled_iteration is_spelled_selection is_spelled_statement is_spelled_block is_spelled_section

  abbrev walks-Iteration : Iteration-F BlockItem Iteration Selection Statement Block LabelledSection → Iteration-F ItemWalk IterationWalk SelectionWalk StatementWalk BlockWalk SectionWalk
  walks-Iteration = T.map-Iteration BlockItem Iteration Selection Statement Block LabelledSection ItemWalk IterationWalk SelectionWalk StatementWalk BlockWalk SectionWalk (types_item body) (types_iteration body) (types_selection body) (types_statement body) (types_block body) (types_section body)

  abbrev bare-Selection : Selection-F VI VL VC VS VB VD → Selection-F BlockItem Iteration Selection Statement Block LabelledSection
  bare-Selection = T.map-Selection VI VL VC VS VB VD BlockItem Iteration Selection Statement Block LabelledSection (λ v. v.0) (λ v. v.0) (λ v. v.0) (λ v. v.0) (λ v. v.0) (λ v. v.0)

  abbrev told-Selection : Selection-F BlockItem Iteration Selection Statement Block LabelledSection → Selection-F Bool Bool Bool Bool Bool Bool
  told-Selection = T.map-Selection BlockItem Iteration Selection Statement Block LabelledSection Bool Bool Bool Bool Bool Bool is_spelled_item is_spelled_iteration is_spelled_selection is_spelled_statement is_spelled_block is_spelled_section

  abbrev walks-Selection : Selection-F BlockItem Iteration Selection Statement Block LabelledSection → Selection-F ItemWalk IterationWalk SelectionWalk StatementWalk BlockWalk SectionWalk
  walks-Selection = T.map-Selection BlockItem Iteration Selection Statement Block LabelledSection ItemWalk IterationWalk SelectionWalk StatementWalk BlockWalk SectionWalk (types_item body) (types_iteration body) (types_selection body) (types_statement body) (types_block body) (types_section body)

  abbrev bare-Statement : Statement-F VI VL VC VS VB VD → Statement-F BlockItem Iteration Selection Statement Block LabelledSection
  bare-Statement = T.map-Statement VI VL VC VS VB VD BlockItem Iteration Selection Statement Block LabelledSection (λ v. v.0) (λ v. v.0) (λ v. v.0) (λ v. v.0) (λ v. v.0) (λ v. v.0)

  abbrev told-Statement : Statement-F BlockItem Iteration Selection Statement Block LabelledSection → Statement-F Bool Bool Bool Bool Bool Bool
  told-Statement = T.map-Statement BlockItem Iteration Selection Statement Block LabelledSection Bool Bool Bool Bool Bool Bool is_spelled_item is_spelled_iteration is_spelled_selection is_spelled_statement is_spelled_block is_spelled_section

  abbrev walks-Statement : Statement-F BlockItem Iteration Selection Statement Block LabelledSection → Statement-F ItemWalk IterationWalk SelectionWalk StatementWalk BlockWalk SectionWalk
  walks-Statement = T.map-Statement BlockItem Iteration Selection Statement Block LabelledSection ItemWalk IterationWalk SelectionWalk StatementWalk BlockWalk SectionWalk (types_item body) (types_iteration body) (types_selection body) (types_statement body) (types_block body) (types_section body)

  abbrev bare-Block : Block-F VI VL VC VS VB VD → Block-F BlockItem Iteration Selection Statement Block LabelledSection
  bare-Block = T.map-Block VI VL VC VS VB VD BlockItem Iteration Selection Statement Block LabelledSection (λ v. v.0) (λ v. v.0) (λ v. v.0) (λ v. v.0) (λ v. v.0) (λ v. v.0)

  abbrev told-Block : Block-F BlockItem Iteration Selection Statement Block LabelledSection → Block-F Bool Bool Bool Bool Bool Bool
  told-Block = T.map-Block BlockItem Iteration Selection Statement Block LabelledSection Bool Bool Bool Bool Bool Bool is_spelled_item is_spelled_iteration is_spelled_selection is_spelled_statement is_spelled_block is_spelled_section

  abbrev walks-Block : Block-F BlockItem Iteration Selection Statement Block LabelledSection → Block-F ItemWalk IterationWalk SelectionWalk StatementWalk BlockWalk SectionWalk
  walks-Block = T.map-Block BlockItem Iteration Selection Statement Block LabelledSection ItemWalk IterationWalk SelectionWalk StatementWalk BlockWalk SectionWalk (types_item body) (types_iteration body) (types_selection body) (types_statement body) (types_block body) (types_section body)

  abbrev bare-LabelledSection : LabelledSection-F VI VL VC VS VB VD → LabelledSection-F BlockItem Iteration Selection Statement Block LabelledSection
  bare-LabelledSection = T.map-LabelledSection VI VL VC VS VB VD BlockItem Iteration Selection Statement Block LabelledSection (λ v. v.0) (λ v. v.0) (λ v. v.0) (λ v. v.0) (λ v. v.0) (λ v. v.0)

  abbrev told-LabelledSection : LabelledSection-F BlockItem Iteration Selection Statement Block LabelledSection → LabelledSection-F Bool Bool Bool Bool Bool Bool
  told-LabelledSection = T.map-LabelledSection BlockItem Iteration Selection Statement Block LabelledSection Bool Bool Bool Bool Bool Bool is_spelled_item is_spelled_iteration is_spelled_selection is_spelled_statement is_spelled_block is_spelled_section

  abbrev walks-LabelledSection : LabelledSection-F BlockItem Iteration Selection Statement Block LabelledSection → LabelledSection-F ItemWalk IterationWalk SelectionWalk StatementWalk BlockWalk SectionWalk
  walks-LabelledSection = T.map-LabelledSection BlockItem Iteration Selection Statement Block LabelledSection ItemWalk IterationWalk SelectionWalk StatementWalk BlockWalk SectionWalk (types_item body) (types_iteration body) (types_selection body) (types_statement body) (types_block body) (types_section body)

  module _ (A W : Type 0) (spelled : A → Bool) (types : A → W) (K : W → Type 0) where
    abbrev V : Type 0
    V = (x : A) × (spelled x ≡ true → K (types x))

    each-kept : (ys : List V) → every (map spelled (map (λ v. v.0) ys)) ≡ true → Each K (map types (map (λ v. v.0) ys))
    each-kept [] h = tt
    each-kept (y ∷ ys) h = let b = both (spelled y.0) (every (map spelled (map (λ v. v.0) ys))) h in (y.1 b.0, each-kept ys b.1)

  item-of : (y : BlockItem-F VI VL VC VS VB VD) → item_spelled (told-BlockItem (bare-BlockItem y)) ≡ true → KeepsItem body (item_rule body (walks-BlockItem (bare-BlockItem y)))
  item-of (BlockItem-F.Statement s) h = statement-item-keeps body (types_statement body s.0) (s.1 h)
  item-of (BlockItem-F.Declaration declaration) h = declaration-item-keeps body declaration h
  item-of (BlockItem-F.TagSpecifier tag) h = tag-item-keeps body tag h

  iteration-of : (y : Iteration-F VI VL VC VS VB VD) → iteration_spelled (told-Iteration (bare-Iteration y)) ≡ true → KeepsIteration body (iteration_rule body (walks-Iteration (bare-Iteration y)))
  iteration-of (Iteration-F.While bound place condition inner) h = λ around.
      let b = both (is_few_bound bound && is_spelled condition) (is_spelled_statement inner.0) h in
      let c = both (is_few_bound bound) (is_spelled condition) b.0 in
      while-keeps body few bound place condition (types_statement body inner.0) c.0 c.1 (inner.1 b.1)
  iteration-of (Iteration-F.Do bound place inner condition) h = λ around.
      let b = both (is_few_bound bound && is_spelled condition) (is_spelled_statement inner.0) h in
      let c = both (is_few_bound bound) (is_spelled condition) b.0 in
      do-keeps body few bound place (types_statement body inner.0) condition c.0 c.1 (inner.1 b.1)
  iteration-of (Iteration-F.For bound place initial condition step inner) h = λ around.
      let a = both (is_few_bound bound && first_spelled initial && spelled_where condition && step_spelled step) (is_spelled_statement inner.0) h in
      let b = both (is_few_bound bound && first_spelled initial && spelled_where condition) (step_spelled step) a.0 in
      let c = both (is_few_bound bound && first_spelled initial) (spelled_where condition) b.0 in
      let d = both (is_few_bound bound) (first_spelled initial) c.0 in
      for-keeps body few bound place initial condition step (types_statement body inner.0) d.0 d.1 (told-where condition c.1) (told-step step b.1) (inner.1 a.1)

  selection-of : (y : Selection-F VI VL VC VS VB VD) → selection_spelled (told-Selection (bare-Selection y)) ≡ true → KeepsSelection body (selection_rule body (walks-Selection (bare-Selection y)))
  selection-of (Selection-F.If place condition consequence None) h = λ around.
      let a = both (is_spelled condition && is_spelled_statement consequence.0) true h in
      let b = both (is_spelled condition) (is_spelled_statement consequence.0) a.0 in
      if-keeps body place condition (types_statement body consequence.0) None around b.0 (consequence.1 b.1) tt
  selection-of (Selection-F.If place condition consequence (Some otherwise)) h = λ around.
      let a = both (is_spelled condition && is_spelled_statement consequence.0) (is_spelled_statement otherwise.0) h in
      let b = both (is_spelled condition) (is_spelled_statement consequence.0) a.0 in
      if-keeps body place condition (types_statement body consequence.0) (Some (types_statement body otherwise.0)) around b.0 (consequence.1 b.1) (otherwise.1 a.1)
  selection-of (Selection-F.Switch place value sections) h = λ around.
      let b = both (is_spelled value) (every (map is_spelled_section (map (λ v. v.0) sections))) h in
      switch-keeps body place value (map (types_section body) (map (λ v. v.0) sections)) around b.0 (each-kept LabelledSection SectionWalk is_spelled_section (types_section body) (KeepsSection body) sections b.1)

  statement-of : (y : Statement-F VI VL VC VS VB VD) → statement_spelled (told-Statement (bare-Statement y)) ≡ true → KeepsStatement body (statement_rule body (walks-Statement (bare-Statement y)))
  statement-of (Statement-F.Block block) h = λ around. block-keeps body (types_block body block.0) around (block.1 h)
  statement-of (Statement-F.Empty place) h = λ around env well. (extends-refl env, well, (λ within f. empty-statement within))
  statement-of (Statement-F.Expression value) h = λ around. expression-keeps body value h
  statement-of (Statement-F.Break place) h = λ around. break-keeps body place around
  statement-of (Statement-F.Continue place) h = λ around. continue-keeps body place around
  statement-of (Statement-F.Return place value) h = λ around. return-keeps body place value h
  statement-of (Statement-F.Selection walk) h = λ around. selection-keeps body (types_selection body walk.0) around (walk.1 h)
  statement-of (Statement-F.Iteration walk) h = λ around. iteration-keeps body (types_iteration body walk.0) around (walk.1 h)

  block-of : (y : Block-F VI VL VC VS VB VD) → block_spelled (told-Block (bare-Block y)) ≡ true → KeepsBlock body (block_rule body (walks-Block (bare-Block y)))
  block-of y h = whole-block-keeps body (map (types_item body) (map (λ v. v.0) y.parts)) (each-kept BlockItem ItemWalk is_spelled_item (types_item body) (KeepsItem body) y.parts h)

  section-of : (y : LabelledSection-F VI VL VC VS VB VD) → section_spelled (told-LabelledSection (bare-LabelledSection y)) ≡ true → KeepsSection body (section_rule body (walks-LabelledSection (bare-LabelledSection y)))
  section-of y h =
      let b = both (every (map label_spelled y.labels)) (every (map is_spelled_statement (map (λ v. v.0) y.statements))) h in
      section-keeps body y.labels (map (types_statement body) (map (λ v. v.0) y.statements)) b.0 (each-kept Statement StatementWalk is_spelled_statement (types_statement body) (KeepsStatement body) y.statements b.1)

  -- ---- whole trees

  whole-BlockItem : (y : BlockItem-F VI VL VC VS VB VD) → PI (roll-BlockItem (bare-BlockItem y))
  whole-BlockItem y h =
      subst (KeepsItem body) (sym (T.fold-roll-BlockItem ItemWalk IterationWalk SelectionWalk StatementWalk BlockWalk SectionWalk (item_rule body) (iteration_rule body) (selection_rule body) (statement_rule body) (block_rule body) (section_rule body) (bare-BlockItem y)))
      (item-of y (sym (T.fold-roll-BlockItem Bool Bool Bool Bool Bool Bool item_spelled iteration_spelled selection_spelled statement_spelled block_spelled section_spelled (bare-BlockItem y)) ∙ h))

  whole-Iteration : (y : Iteration-F VI VL VC VS VB VD) → PL (roll-Iteration (bare-Iteration y))
  whole-Iteration y h =
      subst (KeepsIteration body) (sym (T.fold-roll-Iteration ItemWalk IterationWalk SelectionWalk StatementWalk BlockWalk SectionWalk (item_rule body) (iteration_rule body) (selection_rule body) (statement_rule body) (block_rule body) (section_rule body) (bare-Iteration y)))
      (iteration-of y (sym (T.fold-roll-Iteration Bool Bool Bool Bool Bool Bool item_spelled iteration_spelled selection_spelled statement_spelled block_spelled section_spelled (bare-Iteration y)) ∙ h))

  whole-Selection : (y : Selection-F VI VL VC VS VB VD) → PC (roll-Selection (bare-Selection y))
  whole-Selection y h =
      subst (KeepsSelection body) (sym (T.fold-roll-Selection ItemWalk IterationWalk SelectionWalk StatementWalk BlockWalk SectionWalk (item_rule body) (iteration_rule body) (selection_rule body) (statement_rule body) (block_rule body) (section_rule body) (bare-Selection y)))
      (selection-of y (sym (T.fold-roll-Selection Bool Bool Bool Bool Bool Bool item_spelled iteration_spelled selection_spelled statement_spelled block_spelled section_spelled (bare-Selection y)) ∙ h))

  whole-Statement : (y : Statement-F VI VL VC VS VB VD) → PS (roll-Statement (bare-Statement y))
  whole-Statement y h =
      subst (KeepsStatement body) (sym (T.fold-roll-Statement ItemWalk IterationWalk SelectionWalk StatementWalk BlockWalk SectionWalk (item_rule body) (iteration_rule body) (selection_rule body) (statement_rule body) (block_rule body) (section_rule body) (bare-Statement y)))
      (statement-of y (sym (T.fold-roll-Statement Bool Bool Bool Bool Bool Bool item_spelled iteration_spelled selection_spelled statement_spelled block_spelled section_spelled (bare-Statement y)) ∙ h))

  whole-Block : (y : Block-F VI VL VC VS VB VD) → PB (roll-Block (bare-Block y))
  whole-Block y h =
      subst (KeepsBlock body) (sym (T.fold-roll-Block ItemWalk IterationWalk SelectionWalk StatementWalk BlockWalk SectionWalk (item_rule body) (iteration_rule body) (selection_rule body) (statement_rule body) (block_rule body) (section_rule body) (bare-Block y)))
      (block-of y (sym (T.fold-roll-Block Bool Bool Bool Bool Bool Bool item_spelled iteration_spelled selection_spelled statement_spelled block_spelled section_spelled (bare-Block y)) ∙ h))

  whole-LabelledSection : (y : LabelledSection-F VI VL VC VS VB VD) → PD (roll-LabelledSection (bare-LabelledSection y))
  whole-LabelledSection y h =
      subst (KeepsSection body) (sym (T.fold-roll-LabelledSection ItemWalk IterationWalk SelectionWalk StatementWalk BlockWalk SectionWalk (item_rule body) (iteration_rule body) (selection_rule body) (statement_rule body) (block_rule body) (section_rule body) (bare-LabelledSection y)))
      (section-of y (sym (T.fold-roll-LabelledSection Bool Bool Bool Bool Bool Bool item_spelled iteration_spelled selection_spelled statement_spelled block_spelled section_spelled (bare-LabelledSection y)) ∙ h))

  -- where the walk of a spelled block passes in a well-formed environment, its tree keeps the rules of typed programs,
  -- in each scope that a program may end with
  pub block-typed : (x : Block) → is_spelled_block x ≡ true → KeepsBlock body (types_block body x)
  block-typed = T.ind-Block PI PL PC PS PB PD
      (λ x y is. subst (λ (z : BlockItem-F BlockItem Iteration Selection Statement Block LabelledSection). PI (roll-BlockItem z)) is (whole-BlockItem y))
      (λ x y is. subst (λ (z : Iteration-F BlockItem Iteration Selection Statement Block LabelledSection). PL (roll-Iteration z)) is (whole-Iteration y))
      (λ x y is. subst (λ (z : Selection-F BlockItem Iteration Selection Statement Block LabelledSection). PC (roll-Selection z)) is (whole-Selection y))
      (λ x y is. subst (λ (z : Statement-F BlockItem Iteration Selection Statement Block LabelledSection). PS (roll-Statement z)) is (whole-Statement y))
      (λ x y is. subst (λ (z : Block-F BlockItem Iteration Selection Statement Block LabelledSection). PB (roll-Block z)) is (whole-Block y))
      (λ x y is. subst (λ (z : LabelledSection-F BlockItem Iteration Selection Statement Block LabelledSection). PD (roll-LabelledSection z)) is (whole-LabelledSection y))

  -- and a statement
  pub statement-typed : (x : Statement) → is_spelled_statement x ≡ true → KeepsStatement body (types_statement body x)
  statement-typed = T.ind-Statement PI PL PC PS PB PD
      (λ x y is. subst (λ (z : BlockItem-F BlockItem Iteration Selection Statement Block LabelledSection). PI (roll-BlockItem z)) is (whole-BlockItem y))
      (λ x y is. subst (λ (z : Iteration-F BlockItem Iteration Selection Statement Block LabelledSection). PL (roll-Iteration z)) is (whole-Iteration y))
      (λ x y is. subst (λ (z : Selection-F BlockItem Iteration Selection Statement Block LabelledSection). PC (roll-Selection z)) is (whole-Selection y))
      (λ x y is. subst (λ (z : Statement-F BlockItem Iteration Selection Statement Block LabelledSection). PS (roll-Statement z)) is (whole-Statement y))
      (λ x y is. subst (λ (z : Block-F BlockItem Iteration Selection Statement Block LabelledSection). PB (roll-Block z)) is (whole-Block y))
      (λ x y is. subst (λ (z : LabelledSection-F BlockItem Iteration Selection Statement Block LabelledSection). PD (roll-LabelledSection z)) is (whole-LabelledSection y))
