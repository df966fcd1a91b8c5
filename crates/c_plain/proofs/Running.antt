-- What is left of lists of statements, operands and arguments, one more at a time.
use Rattle.std.proofs.lemmas.Simd.{map-map}
use Rattle.std.proofs.Common.{◌≡◌, ℕ, zero, suc, ◌+◌, ◌-◌, ◌<◌, ◌≤◌, Bool, true, false, if◌then◌else◌, List, [], ◌∷◌, ◌++◌, get_or, map, drop, length, refl, sym, ap, ◌∙◌, append_assoc, append-nil, arith}
use Rattle.std.specs.List.{flat_map}
use Rattle.std.proofs.lemmas.List.{drop_more, drop_all}
use Rattle.std.proofs.lemmas.List.Folds.{flat_map-map}
use Rattle.hy_bits.specs.declared.scalar.Scalar.{Scalar}
use Rattle.c_meaning.specs.declared.values.Ending.{Ending}
use Rattle.c_meaning.specs.declared.values.Ending.TheVariants as ending
use Rattle.c_meaning.specs.State.{State, all_ended}
use Rattle.c_meaning.specs.Expressions.{Evaluated, Gives, Past, World, Locate, Eval, Value, after, along, all_hold, any_holds, each_value, holds, word_as}
use Rattle.c_meaning.specs.Statements.{Exec, Ran, ItemRun, SectionRun, Test, ends, ran_after, finally, continued, then_run, in_order, selected, left_switch, out_of_switch, switch_run, turns}
use Rattle.c_meaning.specs.declared.expressions.LogicalOperand.{LogicalOperand}
use Rattle.c_meaning.specs.declared.expressions.Lvalue.TheViews.{out-LogicalOperand}
use Rattle.c_meaning.specs.declared.expressions.Lvalue.TheFolds.{fold_out-LogicalOperand}
use Rattle.c_meaning.specs.declared.statements.TypedSection.{TypedSection}
use Rattle.c_meaning.specs.declared.statements.TypedItem.{TypedItem}
use Rattle.c_meaning.specs.declared.statements.TypedBlock.{TypedBlock}
use Rattle.c_meaning.specs.declared.statements.TypedItem.TheViews.{out-TypedSection, out-TypedBlock}
use Rattle.c_meaning.specs.declared.statements.TypedItem.TheFolds.{fold_out-TypedSection, fold_out-TypedBlock}
use Rattle.c_meaning.specs.ExpressionFolds.{Step, lvalue_rule, expr_rule, step_rule, operand_rule, evaluates, operand_evaluates}
use Rattle.c_meaning.specs.StatementFolds.{item_rule, iteration_rule, selection_rule, statement_rule, block_rule, section_rule, runs, block_runs, item_runs, section_runs}
use Rattle.c_plain.specs.Views.{values_after, one_turn}

-- the element at the index, and what is left after it
left_at : {A : Type 0} (xs : List A) (i : ℕ) (x : A) → i < length xs → x ≡ get_or xs i x → drop i xs ≡ x ∷ drop (i + 1) xs
left_at xs i x h is = drop_more xs i x h ∙ ap (λ y. y ∷ drop (i + 1) xs) (sym is)

-- ---- statements in order

module _ {A : Type 0} (run : A → Exec) (xs : List A) where
  -- the next one, by how it ends
  pub order_next : (i : ℕ) (x : A) (s t : State) (how : Ending) → i < length xs → x ≡ get_or xs i x → ends how t ≡ run x s → in_order (map run (drop i xs)) s ≡ continued how t (in_order (map run (drop (i + 1) xs)))
  order_next i x s t how h is e =
      ap (λ (left : List A). in_order (map run left) s) (left_at xs i x h is)
      ∙ ap (λ (ran : Ran). then_run ran (in_order (map run (drop (i + 1) xs)))) (sym e)

  pub order_more : (i : ℕ) (x : A) (s t : State) (how : Ending) → i < length xs → x ≡ get_or xs i x → ends how t ≡ run x s → ((u : State) (next : Exec) → next u ≡ continued how u next) → in_order (map run (drop (i + 1) xs)) t ≡ in_order (map run (drop i xs)) s
  order_more i x s t how h is e on = on t (in_order (map run (drop (i + 1) xs))) ∙ sym (order_next i x s t how h is e)

  pub order_left : (i : ℕ) (x : A) (s t : State) (how out : Ending) → i < length xs → x ≡ get_or xs i x → ends how t ≡ run x s → ((u : State) (next : Exec) → ends out u ≡ continued how u next) → ends out t ≡ in_order (map run (drop i xs)) s
  order_left i x s t how out h is e on = on t (in_order (map run (drop (i + 1) xs))) ∙ sym (order_next i x s t how h is e)

  pub order_none : (i : ℕ) (s : State) → length xs ≤ i → ends ending.Normal s ≡ in_order (map run (drop i xs)) s
  order_none i s h = sym (ap (λ (left : List A). in_order (map run left) s) (drop_all i xs h))

-- ---- operands and steps

module _ {A : Type 0} (run : A → Eval) (xs : List A) where
  pub all_next : (i : ℕ) (x : A) (s : State) → i < length xs → x ≡ get_or xs i x → all_hold (map run (drop i xs)) s ≡ after (run x s) (λ v s. if holds v then all_hold (map run (drop (i + 1) xs)) s else Gives false s)
  all_next i x s h is = ap (λ (left : List A). all_hold (map run left) s) (left_at xs i x h is)

  pub all_none : (i : ℕ) (s : State) → length xs ≤ i → all_hold (map run (drop i xs)) s ≡ Gives true s
  all_none i s h = ap (λ (left : List A). all_hold (map run left) s) (drop_all i xs h)

  pub any_next : (i : ℕ) (x : A) (s : State) → i < length xs → x ≡ get_or xs i x → any_holds (map run (drop i xs)) s ≡ after (run x s) (λ v s. if holds v then Gives true s else any_holds (map run (drop (i + 1) xs)) s)
  any_next i x s h is = ap (λ (left : List A). any_holds (map run left) s) (left_at xs i x h is)

  pub any_none : (i : ℕ) (s : State) → length xs ≤ i → any_holds (map run (drop i xs)) s ≡ Gives false s
  any_none i s h = ap (λ (left : List A). any_holds (map run left) s) (drop_all i xs h)

module _ {A : Type 0} (step : A → Value → Eval) (xs : List A) where
  pub along_next : (i : ℕ) (x : A) (v : Value) (s : State) → i < length xs → x ≡ get_or xs i x → along (map step (drop i xs)) v s ≡ after (step x v s) (λ v s. along (map step (drop (i + 1) xs)) v s)
  along_next i x v s h is = ap (λ (left : List A). along (map step left) v s) (left_at xs i x h is)

  pub along_none : (i : ℕ) (v : Value) (s : State) → length xs ≤ i → along (map step (drop i xs)) v s ≡ Gives v s
  along_none i v s h = ap (λ (left : List A). along (map step left) v s) (drop_all i xs h)

-- ---- arguments

values_pushed : (before : List Value) (v : Value) (run : Evaluated (List Value)) → values_after before (after run (λ vs s. Gives (v ∷ vs) s)) ≡ values_after (before ++ v ∷ []) run
values_pushed before v (Gives vs s) = ap (λ (all : List Value). Gives all s) (sym (append_assoc before (v ∷ []) vs))
values_pushed before v (Past s) = refl

module _ {A : Type 0} (run : A → Eval) (xs : List A) where
  pub each_next : (i : ℕ) (x : A) (s : State) → i < length xs → x ≡ get_or xs i x → each_value (map run (drop i xs)) s ≡ after (run x s) (λ v s. after (each_value (map run (drop (i + 1) xs)) s) (λ vs s. Gives (v ∷ vs) s))
  each_next i x s h is = ap (λ (left : List A). each_value (map run left) s) (left_at xs i x h is)

  pub each_more : (i : ℕ) (x : A) (before : List Value) (v : Value) (s t : State) → i < length xs → x ≡ get_or xs i x → Gives v t ≡ run x s → values_after (before ++ v ∷ []) (each_value (map run (drop (i + 1) xs)) t) ≡ values_after before (each_value (map run (drop i xs)) s)
  each_more i x before v s t h is e =
      sym (ap (values_after before) (each_next i x s h is ∙ ap (λ (r : Evaluated Value). after r (λ v s. after (each_value (map run (drop (i + 1) xs)) s) (λ vs s. Gives (v ∷ vs) s))) (sym e))
      ∙ values_pushed before v (each_value (map run (drop (i + 1) xs)) t))

  pub each_past : (i : ℕ) (x : A) (before : List Value) (s t : State) → i < length xs → x ≡ get_or xs i x → Past t ≡ run x s → Past t ≡ values_after before (each_value (map run (drop i xs)) s)
  each_past i x before s t h is e =
      sym (ap (values_after before) (each_next i x s h is ∙ ap (λ (r : Evaluated Value). after r (λ v s. after (each_value (map run (drop (i + 1) xs)) s) (λ vs s. Gives (v ∷ vs) s))) (sym e)))

  pub each_none : (i : ℕ) (before : List Value) (s : State) → length xs ≤ i → values_after before (each_value (map run (drop i xs)) s) ≡ Gives before s
  each_none i before s h = ap (λ (left : List A). values_after before (each_value (map run left) s)) (drop_all i xs h) ∙ ap (λ (all : List Value). Gives all s) (append-nil before)

-- ---- turns

pub turns_next : (n i : ℕ) (test : Test) (body step : Exec) (s : State) → i < n → turns (n - i) test body step s ≡ one_turn test body step (turns (n - (i + 1)) test body step) s
turns_next n i test body step s h = let more : n - i ≡ suc (n - (i + 1)) = omega arith in ap (λ (m : ℕ). turns m test body step s) more

pub turns_none : (n i : ℕ) (test : Test) (body step : Exec) (s : State) → n ≤ i → turns (n - i) test body step s ≡ turns zero test body step s
turns_none n i test body step s h = let none : n - i ≡ zero = omega arith in ap (λ (m : ℕ). turns m test body step s) none

-- ---- elements that are records

pub operand_means : (world : World) (o : LogicalOperand) → operand_evaluates world o ≡ evaluates world (out-LogicalOperand o).operand
operand_means world o = fold_out-LogicalOperand Locate Eval Step Eval (lvalue_rule world) (expr_rule world) step_rule operand_rule o

pub section_means : (world : World) (s : TypedSection) → (section_runs world s).run ≡ in_order (map (runs world) (out-TypedSection s).statements)
section_means world s =
    ap (λ (r : SectionRun). r.run)
    (fold_out-TypedSection ItemRun Exec Exec Exec Exec SectionRun (item_rule world) (iteration_rule world) (selection_rule world) (statement_rule world) block_rule section_rule s)

-- a block, by its items and the lives that end after them
pub block_ended : (world : World) (b : TypedBlock) (items ended : List TypedItem) (how : Ending) (s t u : State) → items ≡ (out-TypedBlock b).items → ended ≡ (out-TypedBlock b).items → ends how t ≡ in_order (map (λ item. (item_runs world item).run) items) s → u ≡ all_ended (flat_map (λ item. (item_runs world item).objects) ended) t → ends how u ≡ block_runs world b s
block_ended world b items ended how s t u is at ran end =
    let all = (out-TypedBlock b).items in
    let objects : List ℕ = flat_map (λ item. (item_runs world item).objects) all in
    ap (ends how) (end ∙ ap (λ (some : List TypedItem). all_ended (flat_map (λ item. (item_runs world item).objects) some) t) at)
    ∙ ap (finally (all_ended objects)) (ran ∙ ap (λ (some : List TypedItem). in_order (map (λ item. (item_runs world item).run) some) s) is)
    ∙ ap (λ (some : List ℕ). finally (all_ended some) (in_order (map (λ item. (item_runs world item).run) all) s)) (sym (flat_map-map (λ (r : ItemRun). r.objects) (item_runs world) all))
    ∙ ap (λ (some : List Exec). finally (all_ended (flat_map (λ (r : ItemRun). r.objects) (map (item_runs world) all))) (in_order some s)) (sym (map-map (λ (r : ItemRun). r.run) (item_runs world) all))
    ∙ sym (ap (λ (run : Exec). run s) (fold_out-TypedBlock ItemRun Exec Exec Exec Exec SectionRun (item_rule world) (iteration_rule world) (selection_rule world) (statement_rule world) block_rule section_rule b))

-- a `switch`, by the sections that it runs
pub switch_ended : (world : World) (scalar : Scalar) (value : Eval) (sections chosen : List TypedSection) (v : Value) (how : Ending) (s t u : State) → Gives v t ≡ value s → map (section_runs world) chosen ≡ selected (word_as scalar v) (map (section_runs world) sections) → ends how u ≡ in_order (map (λ section. (section_runs world section).run) chosen) t → ends (left_switch how) u ≡ switch_run scalar value (map (section_runs world) sections) s
switch_ended world scalar value sections chosen v how s t u given means ran =
    ap out_of_switch (ran ∙ ap (λ (some : List Exec). in_order some t) (sym (map-map (λ (r : SectionRun). r.run) (section_runs world) chosen) ∙ ap (map (λ (r : SectionRun). r.run)) means))
    ∙ ap (λ (e : Evaluated Value). ran_after e (λ w s. out_of_switch (in_order (map (λ section. section.run) (selected (word_as scalar w) (map (section_runs world) sections))) s))) given

-- ---- operands, one more at a time

module _ (world : World) (xs : List LogicalOperand) where
  operand_gives : (o : LogicalOperand) (r : Evaluated Value) (s : State) → r ≡ evaluates world (out-LogicalOperand o).operand s → operand_evaluates world o s ≡ r
  operand_gives o r s e = ap (λ (run : Eval). run s) (operand_means world o) ∙ sym e

  -- it passed a bound
  pub all_past : (i : ℕ) (o : LogicalOperand) (s t : State) → i < length xs → o ≡ get_or xs i o → Past t ≡ evaluates world (out-LogicalOperand o).operand s → Past t ≡ all_hold (map (operand_evaluates world) (drop i xs)) s
  all_past i o s t h is e =
      sym (all_next (operand_evaluates world) xs i o s h is
      ∙ ap (λ (r : Evaluated Value). after r (λ v s. if holds v then all_hold (map (operand_evaluates world) (drop (i + 1) xs)) s else Gives false s)) (operand_gives o (Past t) s e))

  pub any_past : (i : ℕ) (o : LogicalOperand) (s t : State) → i < length xs → o ≡ get_or xs i o → Past t ≡ evaluates world (out-LogicalOperand o).operand s → Past t ≡ any_holds (map (operand_evaluates world) (drop i xs)) s
  any_past i o s t h is e =
      sym (any_next (operand_evaluates world) xs i o s h is
      ∙ ap (λ (r : Evaluated Value). after r (λ v s. if holds v then Gives true s else any_holds (map (operand_evaluates world) (drop (i + 1) xs)) s)) (operand_gives o (Past t) s e))

  -- it holds or not
  pub all_step : (i : ℕ) (o : LogicalOperand) (v : Value) (s t : State) (b : Bool) → i < length xs → o ≡ get_or xs i o → Gives v t ≡ evaluates world (out-LogicalOperand o).operand s → holds v ≡ b → all_hold (map (operand_evaluates world) (drop i xs)) s ≡ (if b then all_hold (map (operand_evaluates world) (drop (i + 1) xs)) t else Gives false t)
  all_step i o v s t b h is e holding =
      all_next (operand_evaluates world) xs i o s h is
      ∙ ap (λ (r : Evaluated Value). after r (λ v s. if holds v then all_hold (map (operand_evaluates world) (drop (i + 1) xs)) s else Gives false s)) (operand_gives o (Gives v t) s e)
      ∙ ap (λ (c : Bool). if c then all_hold (map (operand_evaluates world) (drop (i + 1) xs)) t else Gives false t) holding

  pub any_step : (i : ℕ) (o : LogicalOperand) (v : Value) (s t : State) (b : Bool) → i < length xs → o ≡ get_or xs i o → Gives v t ≡ evaluates world (out-LogicalOperand o).operand s → holds v ≡ b → any_holds (map (operand_evaluates world) (drop i xs)) s ≡ (if b then Gives true t else any_holds (map (operand_evaluates world) (drop (i + 1) xs)) t)
  any_step i o v s t b h is e holding =
      any_next (operand_evaluates world) xs i o s h is
      ∙ ap (λ (r : Evaluated Value). after r (λ v s. if holds v then Gives true s else any_holds (map (operand_evaluates world) (drop (i + 1) xs)) s)) (operand_gives o (Gives v t) s e)
      ∙ ap (λ (c : Bool). if c then Gives true t else any_holds (map (operand_evaluates world) (drop (i + 1) xs)) t) holding
