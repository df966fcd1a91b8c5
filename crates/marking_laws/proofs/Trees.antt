-- Statements and blocks by induction over their trees: where they are walked and scanned side by side, the same names are declared, and the objects whose
-- addresses are taken are marked.
use Rattle.std.proofs.Common.{◌≡◌, ◌&&◌, Bool, true, false, Option, None, Some, List, [], ◌∷◌, map, sym, subst, ◌∙◌, refl}
use Rattle.c_tree.specs.declared.expressions.Expr.{Expr}
use Rattle.c_tree.specs.declared.statements.ExpressionStatement.{ExpressionStatement}
use Rattle.c_tree.specs.declared.statements.BlockItem.{BlockItem}
use Rattle.c_tree.specs.declared.statements.Iteration.{Iteration}
use Rattle.c_tree.specs.declared.statements.Selection.{Selection}
use Rattle.c_tree.specs.declared.statements.Statement.{Statement}
use Rattle.c_tree.specs.declared.statements.Block.{Block}
use Rattle.c_tree.specs.declared.statements.LabelledSection.{LabelledSection}
use Rattle.c_tree.specs.declared.statements.BlockItem.TheOpen.{BlockItem-F, Iteration-F, Selection-F, Statement-F, Block-F, LabelledSection-F}
use Rattle.c_tree.specs.declared.statements.BlockItem.TheViews.{roll-BlockItem, roll-Iteration, roll-Selection, roll-Statement, roll-Block, roll-LabelledSection}
use Rattle.c_tree.specs.declared.statements.BlockItem.TheFolds as T
use Rattle.c_addresses.specs.Scans.{Scan}
use Rattle.c_addresses.specs.Addresses.{item_scan, iteration_scan, selection_scan, statement_scan, block_scan, section_scan, scans_label, scans_item, scans_iteration, scans_selection, scans_statement, scans_block, scans_section}
use Rattle.c_heads.specs.declared.context.Body.{Body}
use Rattle.c_bodies.specs.Statements.{ItemWalk, IterationWalk, SelectionWalk, StatementWalk, BlockWalk, SectionWalk, item_rule, iteration_rule, selection_rule, statement_rule, block_rule, section_rule, types_item, types_iteration, types_selection, types_statement, types_block, types_section}
use Rattle.source_laws.specs.Spelled.{every, where_some, is_spelled}
use Rattle.effect_laws.specs.Simple.{is_spelled_simple}
use Rattle.body_laws.specs.Statements.{is_few_bound, spelled_where, step_spelled, first_spelled, label_spelled, item_spelled, iteration_spelled, selection_spelled, statement_spelled, block_spelled, section_spelled, is_spelled_item, is_spelled_iteration, is_spelled_selection, is_spelled_statement, is_spelled_block, is_spelled_section}
use Rattle.address_laws.specs.Following.{Outside, Beside}
use Rattle.marking_laws.proofs.Statements.{TracesItem, TracesIteration, TracesSelection, TracesStatement, TracesBlock, TracesSection, OtherwiseTraces, while-traced, do-traced, for-traced, if-traced, switch-traced, section-traced, statement-item-traced, declaration-item-traced, tag-item-traced, block-traced, empty-traced, break-traced, continue-traced, expression-traced, return-traced, block-statement-traced, selection-statement-traced, iteration-statement-traced}

both : (a b : Bool) → (a && b) ≡ true → (a ≡ true) × (b ≡ true)
both true b h = (refl, h)
both false b h = absurd (cc)

module _ (o : Outside) (body : Body) where
  abbrev PI : BlockItem → Type 0
  PI x = is_spelled_item x ≡ true → TracesItem o (types_item body x) (scans_item x)

  abbrev PL : Iteration → Type 0
  PL x = is_spelled_iteration x ≡ true → TracesIteration o (types_iteration body x) (scans_iteration x)

  abbrev PC : Selection → Type 0
  PC x = is_spelled_selection x ≡ true → TracesSelection o (types_selection body x) (scans_selection x)

  abbrev PS : Statement → Type 0
  PS x = is_spelled_statement x ≡ true → TracesStatement o (types_statement body x) (scans_statement x)

  abbrev PB : Block → Type 0
  PB x = is_spelled_block x ≡ true → TracesBlock o (types_block body x) (scans_block x)

  abbrev PD : LabelledSection → Type 0
  PD x = is_spelled_section x ≡ true → TracesSection o (types_section body x) (scans_section x)

  abbrev VI : Type 0
  VI = (x : BlockItem) × PI x

  abbrev VL : Type 0
  VL = (x : Iteration) × PL x

  abbrev VC : Type 0
  VC = (x : Selection) × PC x

  abbrev VS : Type 0
  VS = (x : Statement) × PS x

  abbrev VB : Type 0
  VB = (x : Block) × PB x

  abbrev VD : Type 0
  VD = (x : LabelledSection) × PD x

  abbrev bare-BlockItem : BlockItem-F VI VL VC VS VB VD → BlockItem-F BlockItem Iteration Selection Statement Block LabelledSection
  bare-BlockItem = T.map-BlockItem VI VL VC VS VB VD BlockItem Iteration Selection Statement Block LabelledSection (λ v. v.0) (λ v. v.0) (λ v. v.0) (λ v. v.0) (λ v. v.0) (λ v. v.0)

  abbrev told-BlockItem : BlockItem-F BlockItem Iteration Selection Statement Block LabelledSection → BlockItem-F Bool Bool Bool Bool Bool Bool
  told-BlockItem = T.map-BlockItem BlockItem Iteration Selection Statement Block LabelledSection Bool Bool Bool Bool Bool Bool is_spelled_item is_spelled_iteration is_spelled_selection is_spelled_statement is_spelled_block is_spelled_section

  abbrev walks-BlockItem : BlockItem-F BlockItem Iteration Selection Statement Block LabelledSection → BlockItem-F ItemWalk IterationWalk SelectionWalk StatementWalk BlockWalk SectionWalk
  walks-BlockItem = T.map-BlockItem BlockItem Iteration Selection Statement Block LabelledSection ItemWalk IterationWalk SelectionWalk StatementWalk BlockWalk SectionWalk (types_item body) (types_iteration body) (types_selection body) (types_statement body) (types_block body) (types_section body)

  abbrev scans-BlockItem : BlockItem-F BlockItem Iteration Selection Statement Block LabelledSection → BlockItem-F Scan Scan Scan Scan Scan Scan
  scans-BlockItem = T.map-BlockItem BlockItem Iteration Selection Statement Block LabelledSection Scan Scan Scan Scan Scan Scan scans_item scans_iteration scans_selection scans_statement scans_block scans_section

  abbrev bare-Iteration : Iteration-F VI VL VC VS VB VD → Iteration-F BlockItem Iteration Selection Statement Block LabelledSection
  bare-Iteration = T.map-Iteration VI VL VC VS VB VD BlockItem Iteration Selection Statement Block LabelledSection (λ v. v.0) (λ v. v.0) (λ v. v.0) (λ v. v.0) (λ v. v.0) (λ v. v.0)

  abbrev told-Iteration : Iteration-F BlockItem Iteration Selection Statement Block LabelledSection → Iteration-F Bool Bool Bool Bool Bool Bool
  told-Iteration = T.map-Iteration BlockItem Iteration Selection Statement Block LabelledSection Bool Bool Bool Bool Bool Bool is_spelled_item is_spelled_iteration is_spelled_selection is_spelled_statement is_spelled_block is_spelled_section

  abbrev walks-Iteration : Iteration-F BlockItem Iteration Selection Statement Block LabelledSection → Iteration-F ItemWalk IterationWalk SelectionWalk StatementWalk BlockWalk SectionWalk
  walks-Iteration = T.map-Iteration BlockItem Iteration Selection Statement Block LabelledSection ItemWalk IterationWalk SelectionWalk StatementWalk BlockWalk SectionWalk (types_item body) (types_iteration body) (types_selection body) (types_statement body) (types_block body) (types_section body)

  abbrev scans-Iteration : Iteration-F BlockItem Iteration Selection Statement Block LabelledSection → Iteration-F Scan Scan Scan Scan Scan Scan
  scans-Iteration = T.map-Iteration BlockItem Iteration Selection Statement Block LabelledSection Scan Scan Scan Scan Scan Scan scans_item scans_iteration scans_selection scans_statement scans_block scans_section

  abbrev bare-Selection : Selection-F VI VL VC VS VB VD → Selection-F BlockItem Iteration Selection Statement Block LabelledSection
  bare-Selection = T.map-Selection VI VL VC VS VB VD BlockItem Iteration Selection Statement Block LabelledSection (λ v. v.0) (λ v. v.0) (λ v. v.0) (λ v. v.0) (λ v. v.0) (λ v. v.0)

  abbrev told-Selection : Selection-F BlockItem Iteration Selection Statement Block LabelledSection → Selection-F Bool Bool Bool Bool Bool Bool
  told-Selection = T.map-Selection BlockItem Iteration Selection Statement Block LabelledSection Bool Bool Bool Bool Bool Bool is_spelled_item is_spelled_iteration is_spelled_selection is_spelled_statement is_spelled_block is_spelled_section

  abbrev walks-Selection : Selection-F BlockItem Iteration Selection Statement Block LabelledSection → Selection-F ItemWalk IterationWalk SelectionWalk StatementWalk BlockWalk SectionWalk
  walks-Selection = T.map-Selection BlockItem Iteration Selection Statement Block LabelledSection ItemWalk IterationWalk SelectionWalk StatementWalk BlockWalk SectionWalk (types_item body) (types_iteration body) (types_selection body) (types_statement body) (types_block body) (types_section body)

  abbrev scans-Selection : Selection-F BlockItem Iteration Selection Statement Block LabelledSection → Selection-F Scan Scan Scan Scan Scan Scan
  scans-Selection = T.map-Selection BlockItem Iteration Selection Statement Block LabelledSection Scan Scan Scan Scan Scan Scan scans_item scans_iteration scans_selection scans_statement scans_block scans_section

  abbrev bare-Statement : Statement-F VI VL VC VS VB VD → Statement-F BlockItem Iteration Selection Statement Block LabelledSection
  bare-Statement = T.map-Statement VI VL VC VS VB VD BlockItem Iteration Selection Statement Block LabelledSection (λ v. v.0) (λ v. v.0) (λ v. v.0) (λ v. v.0) (λ v. v.0) (λ v. v.0)

  abbrev told-Statement : Statement-F BlockItem Iteration Selection Statement Block LabelledSection → Statement-F Bool Bool Bool Bool Bool Bool
  told-Statement = T.map-Statement BlockItem Iteration Selection Statement Block LabelledSection Bool Bool Bool Bool Bool Bool is_spelled_item is_spelled_iteration is_spelled_selection is_spelled_statement is_spelled_block is_spelled_section

  abbrev walks-Statement : Statement-F BlockItem Iteration Selection Statement Block LabelledSection → Statement-F ItemWalk IterationWalk SelectionWalk StatementWalk BlockWalk SectionWalk
  walks-Statement = T.map-Statement BlockItem Iteration Selection Statement Block LabelledSection ItemWalk IterationWalk SelectionWalk StatementWalk BlockWalk SectionWalk (types_item body) (types_iteration body) (types_selection body) (types_statement body) (types_block body) (types_section body)

  abbrev scans-Statement : Statement-F BlockItem Iteration Selection Statement Block LabelledSection → Statement-F Scan Scan Scan Scan Scan Scan
  scans-Statement = T.map-Statement BlockItem Iteration Selection Statement Block LabelledSection Scan Scan Scan Scan Scan Scan scans_item scans_iteration scans_selection scans_statement scans_block scans_section

  abbrev bare-Block : Block-F VI VL VC VS VB VD → Block-F BlockItem Iteration Selection Statement Block LabelledSection
  bare-Block = T.map-Block VI VL VC VS VB VD BlockItem Iteration Selection Statement Block LabelledSection (λ v. v.0) (λ v. v.0) (λ v. v.0) (λ v. v.0) (λ v. v.0) (λ v. v.0)

  abbrev told-Block : Block-F BlockItem Iteration Selection Statement Block LabelledSection → Block-F Bool Bool Bool Bool Bool Bool
  told-Block = T.map-Block BlockItem Iteration Selection Statement Block LabelledSection Bool Bool Bool Bool Bool Bool is_spelled_item is_spelled_iteration is_spelled_selection is_spelled_statement is_spelled_block is_spelled_section

  abbrev walks-Block : Block-F BlockItem Iteration Selection Statement Block LabelledSection → Block-F ItemWalk IterationWalk SelectionWalk StatementWalk BlockWalk SectionWalk
  walks-Block = T.map-Block BlockItem Iteration Selection Statement Block LabelledSection ItemWalk IterationWalk SelectionWalk StatementWalk BlockWalk SectionWalk (types_item body) (types_iteration body) (types_selection body) (types_statement body) (types_block body) (types_section body)

  abbrev scans-Block : Block-F BlockItem Iteration Selection Statement Block LabelledSection → Block-F Scan Scan Scan Scan Scan Scan
  scans-Block = T.map-Block BlockItem Iteration Selection Statement Block LabelledSection Scan Scan Scan Scan Scan Scan scans_item scans_iteration scans_selection scans_statement scans_block scans_section

  abbrev bare-LabelledSection : LabelledSection-F VI VL VC VS VB VD → LabelledSection-F BlockItem Iteration Selection Statement Block LabelledSection
  bare-LabelledSection = T.map-LabelledSection VI VL VC VS VB VD BlockItem Iteration Selection Statement Block LabelledSection (λ v. v.0) (λ v. v.0) (λ v. v.0) (λ v. v.0) (λ v. v.0) (λ v. v.0)

  abbrev told-LabelledSection : LabelledSection-F BlockItem Iteration Selection Statement Block LabelledSection → LabelledSection-F Bool Bool Bool Bool Bool Bool
  told-LabelledSection = T.map-LabelledSection BlockItem Iteration Selection Statement Block LabelledSection Bool Bool Bool Bool Bool Bool is_spelled_item is_spelled_iteration is_spelled_selection is_spelled_statement is_spelled_block is_spelled_section

  abbrev walks-LabelledSection : LabelledSection-F BlockItem Iteration Selection Statement Block LabelledSection → LabelledSection-F ItemWalk IterationWalk SelectionWalk StatementWalk BlockWalk SectionWalk
  walks-LabelledSection = T.map-LabelledSection BlockItem Iteration Selection Statement Block LabelledSection ItemWalk IterationWalk SelectionWalk StatementWalk BlockWalk SectionWalk (types_item body) (types_iteration body) (types_selection body) (types_statement body) (types_block body) (types_section body)

  abbrev scans-LabelledSection : LabelledSection-F BlockItem Iteration Selection Statement Block LabelledSection → LabelledSection-F Scan Scan Scan Scan Scan Scan
  scans-LabelledSection = T.map-LabelledSection BlockItem Iteration Selection Statement Block LabelledSection Scan Scan Scan Scan Scan Scan scans_item scans_iteration scans_selection scans_statement scans_block scans_section

  module _ (A W : Type 0) (spelled : A → Bool) (types : A → W) (scans : A → Scan) (K : W → Scan → Type 0) where
    abbrev V : Type 0
    V = (x : A) × (spelled x ≡ true → K (types x) (scans x))

    each-beside : (ys : List V) → every (map spelled (map (λ v. v.0) ys)) ≡ true → Beside K (map types (map (λ v. v.0) ys)) (map scans (map (λ v. v.0) ys))
    each-beside [] h = tt
    each-beside (y ∷ ys) h = let b = both (spelled y.0) (every (map spelled (map (λ v. v.0) ys))) h in (y.1 b.0, each-beside ys b.1)

  item-of : (y : BlockItem-F VI VL VC VS VB VD) → item_spelled (told-BlockItem (bare-BlockItem y)) ≡ true → TracesItem o (item_rule body (walks-BlockItem (bare-BlockItem y))) (item_scan (scans-BlockItem (bare-BlockItem y)))
  item-of (BlockItem-F.Statement s) h = statement-item-traced o (types_statement body s.0) (scans_statement s.0) (s.1 h)
  item-of (BlockItem-F.Declaration declaration) h = declaration-item-traced o declaration h
  item-of (BlockItem-F.TagSpecifier tag) h = tag-item-traced o tag h

  iteration-of : (y : Iteration-F VI VL VC VS VB VD) → iteration_spelled (told-Iteration (bare-Iteration y)) ≡ true → TracesIteration o (iteration_rule body (walks-Iteration (bare-Iteration y))) (iteration_scan (scans-Iteration (bare-Iteration y)))
  iteration-of (Iteration-F.While bound place condition inner) h = λ around.
      let b = both (is_few_bound bound && is_spelled condition) (is_spelled_statement inner.0) h in
      let c = both (is_few_bound bound) (is_spelled condition) b.0 in
      while-traced o body bound place condition (types_statement body inner.0) (scans_statement inner.0) c.1 (inner.1 b.1)
  iteration-of (Iteration-F.Do bound place inner condition) h = λ around.
      let b = both (is_few_bound bound && is_spelled condition) (is_spelled_statement inner.0) h in
      let c = both (is_few_bound bound) (is_spelled condition) b.0 in
      do-traced o body bound place (types_statement body inner.0) (scans_statement inner.0) condition c.1 (inner.1 b.1)
  iteration-of (Iteration-F.For bound place initial condition step inner) h = λ around.
      let b = both (is_few_bound bound && first_spelled initial && spelled_where condition && step_spelled step) (is_spelled_statement inner.0) h in
      let c = both (is_few_bound bound && first_spelled initial && spelled_where condition) (step_spelled step) b.0 in
      let d = both (is_few_bound bound && first_spelled initial) (spelled_where condition) c.0 in
      let e = both (is_few_bound bound) (first_spelled initial) d.0 in
      for-traced o body bound place initial condition step (types_statement body inner.0) (scans_statement inner.0) e.1 d.1 c.1 (inner.1 b.1)

  selection-of : (y : Selection-F VI VL VC VS VB VD) → selection_spelled (told-Selection (bare-Selection y)) ≡ true → TracesSelection o (selection_rule body (walks-Selection (bare-Selection y))) (selection_scan (scans-Selection (bare-Selection y)))
  selection-of (Selection-F.If place condition consequence None) h = λ around.
      let b = both (is_spelled condition && is_spelled_statement consequence.0) true h in
      let c = both (is_spelled condition) (is_spelled_statement consequence.0) b.0 in
      if-traced o place condition (types_statement body consequence.0) (scans_statement consequence.0) None None around c.0 (consequence.1 c.1) tt
  selection-of (Selection-F.If place condition consequence (Some otherwise)) h = λ around.
      let b = both (is_spelled condition && is_spelled_statement consequence.0) (is_spelled_statement otherwise.0) h in
      let c = both (is_spelled condition) (is_spelled_statement consequence.0) b.0 in
      if-traced o place condition (types_statement body consequence.0) (scans_statement consequence.0) (Some (types_statement body otherwise.0)) (Some (scans_statement otherwise.0)) around c.0 (consequence.1 c.1) (otherwise.1 b.1)
  selection-of (Selection-F.Switch place value sections) h = λ around.
      let b = both (is_spelled value) (every (map is_spelled_section (map (λ v. v.0) sections))) h in
      switch-traced o place value (map (types_section body) (map (λ v. v.0) sections)) (map scans_section (map (λ v. v.0) sections)) around b.0 (each-beside LabelledSection SectionWalk is_spelled_section (types_section body) scans_section (TracesSection o) sections b.1)

  statement-of : (y : Statement-F VI VL VC VS VB VD) → statement_spelled (told-Statement (bare-Statement y)) ≡ true → TracesStatement o (statement_rule body (walks-Statement (bare-Statement y))) (statement_scan (scans-Statement (bare-Statement y)))
  statement-of (Statement-F.Block block) h = block-statement-traced o (types_block body block.0) (scans_block block.0) (block.1 h)
  statement-of (Statement-F.Empty place) h = empty-traced o
  statement-of (Statement-F.Expression value) h = expression-traced o value h
  statement-of (Statement-F.Break place) h = break-traced o place
  statement-of (Statement-F.Continue place) h = continue-traced o place
  statement-of (Statement-F.Return place value) h = return-traced o body place value h
  statement-of (Statement-F.Selection walk) h = selection-statement-traced o (types_selection body walk.0) (scans_selection walk.0) (walk.1 h)
  statement-of (Statement-F.Iteration walk) h = iteration-statement-traced o (types_iteration body walk.0) (scans_iteration walk.0) (walk.1 h)

  block-of : (y : Block-F VI VL VC VS VB VD) → block_spelled (told-Block (bare-Block y)) ≡ true → TracesBlock o (block_rule body (walks-Block (bare-Block y))) (block_scan (scans-Block (bare-Block y)))
  block-of y h = block-traced o (map (types_item body) (map (λ v. v.0) y.parts)) (map scans_item (map (λ v. v.0) y.parts)) (each-beside BlockItem ItemWalk is_spelled_item (types_item body) scans_item (TracesItem o) y.parts h)

  section-of : (y : LabelledSection-F VI VL VC VS VB VD) → section_spelled (told-LabelledSection (bare-LabelledSection y)) ≡ true → TracesSection o (section_rule body (walks-LabelledSection (bare-LabelledSection y))) (section_scan (scans-LabelledSection (bare-LabelledSection y)))
  section-of y h =
      let b = both (every (map label_spelled y.labels)) (every (map is_spelled_statement (map (λ v. v.0) y.statements))) h in
      section-traced o y.labels (map (types_statement body) (map (λ v. v.0) y.statements)) (map scans_statement (map (λ v. v.0) y.statements)) b.0 (each-beside Statement StatementWalk is_spelled_statement (types_statement body) scans_statement (TracesStatement o) y.statements b.1)

  whole-BlockItem : (y : BlockItem-F VI VL VC VS VB VD) → PI (roll-BlockItem (bare-BlockItem y))
  whole-BlockItem y h =
      let of = item-of y (sym (T.fold-roll-BlockItem Bool Bool Bool Bool Bool Bool item_spelled iteration_spelled selection_spelled statement_spelled block_spelled section_spelled (bare-BlockItem y)) ∙ h) in
      subst (λ (w : ItemWalk). TracesItem o w (scans_item (roll-BlockItem (bare-BlockItem y)))) (sym (T.fold-roll-BlockItem ItemWalk IterationWalk SelectionWalk StatementWalk BlockWalk SectionWalk (item_rule body) (iteration_rule body) (selection_rule body) (statement_rule body) (block_rule body) (section_rule body) (bare-BlockItem y)))
      (subst (λ (x : Scan). TracesItem o (item_rule body (walks-BlockItem (bare-BlockItem y))) x) (sym (T.fold-roll-BlockItem Scan Scan Scan Scan Scan Scan item_scan iteration_scan selection_scan statement_scan block_scan section_scan (bare-BlockItem y))) of)

  whole-Iteration : (y : Iteration-F VI VL VC VS VB VD) → PL (roll-Iteration (bare-Iteration y))
  whole-Iteration y h =
      let of = iteration-of y (sym (T.fold-roll-Iteration Bool Bool Bool Bool Bool Bool item_spelled iteration_spelled selection_spelled statement_spelled block_spelled section_spelled (bare-Iteration y)) ∙ h) in
      subst (λ (w : IterationWalk). TracesIteration o w (scans_iteration (roll-Iteration (bare-Iteration y)))) (sym (T.fold-roll-Iteration ItemWalk IterationWalk SelectionWalk StatementWalk BlockWalk SectionWalk (item_rule body) (iteration_rule body) (selection_rule body) (statement_rule body) (block_rule body) (section_rule body) (bare-Iteration y)))
      (subst (λ (x : Scan). TracesIteration o (iteration_rule body (walks-Iteration (bare-Iteration y))) x) (sym (T.fold-roll-Iteration Scan Scan Scan Scan Scan Scan item_scan iteration_scan selection_scan statement_scan block_scan section_scan (bare-Iteration y))) of)

  whole-Selection : (y : Selection-F VI VL VC VS VB VD) → PC (roll-Selection (bare-Selection y))
  whole-Selection y h =
      let of = selection-of y (sym (T.fold-roll-Selection Bool Bool Bool Bool Bool Bool item_spelled iteration_spelled selection_spelled statement_spelled block_spelled section_spelled (bare-Selection y)) ∙ h) in
      subst (λ (w : SelectionWalk). TracesSelection o w (scans_selection (roll-Selection (bare-Selection y)))) (sym (T.fold-roll-Selection ItemWalk IterationWalk SelectionWalk StatementWalk BlockWalk SectionWalk (item_rule body) (iteration_rule body) (selection_rule body) (statement_rule body) (block_rule body) (section_rule body) (bare-Selection y)))
      (subst (λ (x : Scan). TracesSelection o (selection_rule body (walks-Selection (bare-Selection y))) x) (sym (T.fold-roll-Selection Scan Scan Scan Scan Scan Scan item_scan iteration_scan selection_scan statement_scan block_scan section_scan (bare-Selection y))) of)

  whole-Statement : (y : Statement-F VI VL VC VS VB VD) → PS (roll-Statement (bare-Statement y))
  whole-Statement y h =
      let of = statement-of y (sym (T.fold-roll-Statement Bool Bool Bool Bool Bool Bool item_spelled iteration_spelled selection_spelled statement_spelled block_spelled section_spelled (bare-Statement y)) ∙ h) in
      subst (λ (w : StatementWalk). TracesStatement o w (scans_statement (roll-Statement (bare-Statement y)))) (sym (T.fold-roll-Statement ItemWalk IterationWalk SelectionWalk StatementWalk BlockWalk SectionWalk (item_rule body) (iteration_rule body) (selection_rule body) (statement_rule body) (block_rule body) (section_rule body) (bare-Statement y)))
      (subst (λ (x : Scan). TracesStatement o (statement_rule body (walks-Statement (bare-Statement y))) x) (sym (T.fold-roll-Statement Scan Scan Scan Scan Scan Scan item_scan iteration_scan selection_scan statement_scan block_scan section_scan (bare-Statement y))) of)

  whole-Block : (y : Block-F VI VL VC VS VB VD) → PB (roll-Block (bare-Block y))
  whole-Block y h =
      let of = block-of y (sym (T.fold-roll-Block Bool Bool Bool Bool Bool Bool item_spelled iteration_spelled selection_spelled statement_spelled block_spelled section_spelled (bare-Block y)) ∙ h) in
      subst (λ (w : BlockWalk). TracesBlock o w (scans_block (roll-Block (bare-Block y)))) (sym (T.fold-roll-Block ItemWalk IterationWalk SelectionWalk StatementWalk BlockWalk SectionWalk (item_rule body) (iteration_rule body) (selection_rule body) (statement_rule body) (block_rule body) (section_rule body) (bare-Block y)))
      (subst (λ (x : Scan). TracesBlock o (block_rule body (walks-Block (bare-Block y))) x) (sym (T.fold-roll-Block Scan Scan Scan Scan Scan Scan item_scan iteration_scan selection_scan statement_scan block_scan section_scan (bare-Block y))) of)

  whole-LabelledSection : (y : LabelledSection-F VI VL VC VS VB VD) → PD (roll-LabelledSection (bare-LabelledSection y))
  whole-LabelledSection y h =
      let of = section-of y (sym (T.fold-roll-LabelledSection Bool Bool Bool Bool Bool Bool item_spelled iteration_spelled selection_spelled statement_spelled block_spelled section_spelled (bare-LabelledSection y)) ∙ h) in
      subst (λ (w : SectionWalk). TracesSection o w (scans_section (roll-LabelledSection (bare-LabelledSection y)))) (sym (T.fold-roll-LabelledSection ItemWalk IterationWalk SelectionWalk StatementWalk BlockWalk SectionWalk (item_rule body) (iteration_rule body) (selection_rule body) (statement_rule body) (block_rule body) (section_rule body) (bare-LabelledSection y)))
      (subst (λ (x : Scan). TracesSection o (section_rule body (walks-LabelledSection (bare-LabelledSection y))) x) (sym (T.fold-roll-LabelledSection Scan Scan Scan Scan Scan Scan item_scan iteration_scan selection_scan statement_scan block_scan section_scan (bare-LabelledSection y))) of)

  -- a block
  pub body-traced : (x : Block) → is_spelled_block x ≡ true → TracesBlock o (types_block body x) (scans_block x)
  body-traced = T.ind-Block PI PL PC PS PB PD
      (λ x y is. subst (λ (z : BlockItem-F BlockItem Iteration Selection Statement Block LabelledSection). PI (roll-BlockItem z)) is (whole-BlockItem y))
      (λ x y is. subst (λ (z : Iteration-F BlockItem Iteration Selection Statement Block LabelledSection). PL (roll-Iteration z)) is (whole-Iteration y))
      (λ x y is. subst (λ (z : Selection-F BlockItem Iteration Selection Statement Block LabelledSection). PC (roll-Selection z)) is (whole-Selection y))
      (λ x y is. subst (λ (z : Statement-F BlockItem Iteration Selection Statement Block LabelledSection). PS (roll-Statement z)) is (whole-Statement y))
      (λ x y is. subst (λ (z : Block-F BlockItem Iteration Selection Statement Block LabelledSection). PB (roll-Block z)) is (whole-Block y))
      (λ x y is. subst (λ (z : LabelledSection-F BlockItem Iteration Selection Statement Block LabelledSection). PD (roll-LabelledSection z)) is (whole-LabelledSection y))
