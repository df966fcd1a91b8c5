-- The readers of labels, of the sections of a switch, and of switch.
use Rattle.std.proofs.Common.{◌≡◌, ◌<◌, ◌⊎◌, inl, inr, ℕ, ◌+◌, Bool, true, false, ◌&&◌, List, [], ◌∷◌, ◌++◌, length, map, refl, sym, ap, ◌∙◌, subst, arith, codes}
use Rattle.std.proofs.lemmas.List.{append_assoc, append-nil, length-append}
use Rattle.std.specs.List.{list_all}
use Rattle.c_tree.specs.Pieces.{Piece, word_at, mark, all_of}
use Rattle.c_tree.specs.Folds.{wants_of_expr, binds}
use Rattle.c_tree.specs.Expressions.{has_some}
use Rattle.c_tree.specs.StatementFolds.{wants_of_statement, form_of_statement, wants_of_section, is_section_tree, switch_statement}
use Rattle.c_tree.specs.Statements.{wants_of_label, is_label}
use Rattle.c_tree.specs.declared.token.Place.{Place}
use Rattle.c_tree.specs.declared.token.Token.{Token}
use Rattle.c_tree.specs.declared.token.TokenKind.{TokenKind}
use Rattle.c_tree.specs.declared.token.TokenKind.TheVariants.{Word, Mark}
use Rattle.c_tree.specs.declared.expressions.Expr.{Expr}
use Rattle.c_tree.specs.declared.statements.Label.{Label}
use Rattle.c_tree.specs.declared.statements.Label.TheVariants as label
use Rattle.c_tree.specs.declared.statements.LabelledSection.{LabelledSection}
use Rattle.c_tree.specs.declared.statements.Statement.{Statement}
use Rattle.c_tree.specs.declared.statements.BlockItem.TheViews.{roll-LabelledSection}
use Rattle.c_reader.specs.Reading.{Reader, many}
use Rattle.c_reader.specs.Tokens.{is_word, is_mark, is_spelled, is_kind, spelled_by, found_by, found_in}
use Rattle.c_grammar.specs.Tokens.{goes_by, suffix_by, expr_by}
use Rattle.c_reader.proofs.Reader.{Language, Of}
use Rattle.c_reader.proofs.Binding.{Both}
use Rattle.c_reader.proofs.Giving.{Given}
use Rattle.c_reader.proofs.Taking.{Single}
use Rattle.c_reader.proofs.Choosing.{FirstIs, Either, this, that}
use Rattle.c_reader.proofs.Repeating.{Several, many_reads, several_given_stops, given_stops}
use Rattle.c_reader.proofs.Beginning.{Begins, begins_both, begins_either, SomeOf}
use Rattle.c_reader.proofs.Joining.{in_both, in_single, in_given, onto, join3}
use Rattle.c_reader.proofs.Listing.{all_to, all_from, list_all_map}
use Rattle.c_reader.proofs.Spelt.{spelt, spelt_at}
use Rattle.c_grammar.proofs.Primaries.{first_from, prefix_all}
use Rattle.c_grammar.proofs.Suffixes.{At, Any}
use Rattle.c_reader.proofs.Truths.{not_true, and_left, and_right, and_both}
use Rattle.c_decl.proofs.Marks.{step_all}
use Rattle.c_statement.specs.Starts.{starts_label, label_by, starts_statement, statement_by, simple_by, loop_by}
use Rattle.c_statement.specs.Statements.{read_case, read_default, read_label, read_section, read_switch}
use Rattle.c_statement.proofs.ByTree.{ReadsBy, by_reads, reads_by, by_as, choose_by}
use Rattle.c_statement.proofs.Conditions.{ConditionAt, condition_then, expr_then}
use Rattle.c_statement.proofs.Ends.{StopsSection, section_end, section_from, first_not, first_or}
use Rattle.c_statement.proofs.Within.{inner_step}
use Rattle.c_statement.proofs.Leading.{SuitsStatement, begins_statement, statement_some}
use Rattle.c_statement.proofs.Singles.{Always, StatementAt, StopsElse, is_statement}
use Rattle.c_statement.proofs.Steps.{Step, Anything, then_, given, spelt_then, placed_then, placed_deep, begins_is, begins_is_at, begins_spelt, begins_placed}
use Rattle.c_tree.proofs.StatementCases.{cases_LabelledSection}
use Rattle.c_tree.proofs.StatementFoldsLaws.{wants_LabelledSection, is_LabelledSection, wants_Switch, form_Switch}

and_true_right : (a b : Bool) → (a && true && b) ≡ (a && b)
and_true_right true b = refl
and_true_right false b = refl

and_false : (a : Bool) → (a && false && true) ≡ false
and_false true = refl
and_false false = refl

abbrev pub LabelAt : ℕ → Language Label
LabelAt n = Of is_label (λ l. wants_of_label l n)

abbrev pub SectionAt : ℕ → Language LabelledSection
SectionAt n = Of is_section_tree (λ s. wants_of_section s n)

-- ---- labels

module _ (most size n left : ℕ) (level : n + left ≡ most + 1) where
  abbrev CaseL : Language Label
  CaseL = Both (Single (spelt_at Word (codes "case") n)) (λ place. Both (At 0 n) (λ value. Both (Single (spelt Mark (codes ":") n)) (λ colon. Given (label.Case place value))))

  abbrev DefaultL : Language Label
  DefaultL = Both (Single (spelt_at Word (codes "default") n)) (λ place. Both (Single (spelt Mark (codes ":") n)) (λ colon. Given (label.Default place)))

  case_step : Step most size Always CaseL Anything (read_case size left)
  unfolding read_case goes_by suffix_by spelled_by found_by found_in
  case_step =
      placed_then most size Anything Word (codes "case") n left level Always _ _
      (λ place. expr_then most size n left level Anything Always _ _
      (λ value. spelt_then most size Anything Mark (codes ":") n left level Always _ _ (λ colon. given most size Anything Always (label.Case place value)))
      (λ value. begins_spelt Mark (codes ":") n (λ colon. Given (label.Case place value)) (goes_by 0) false refl))

  default_step : Step most size Always DefaultL Anything (read_default left)
  unfolding read_default
  default_step = placed_then most size Anything Word (codes "default") n left level Always _ _ (λ place. spelt_then most size Anything Mark (codes ":") n left level Always _ _ (λ colon. given most size Anything Always (label.Default place)))

  case_flat : (place : Place) (value : Expr) → (spelt_at Word (codes "case") n place ∷ []) ++ (wants_of_expr value n ++ ((spelt Mark (codes ":") n tt ∷ []) ++ [])) ≡ wants_of_label (label.Case place value) n
  unfolding wants_of_label
  case_flat place value = join3 (spelt_at Word (codes "case") n place ∷ []) (wants_of_expr value n) (spelt Mark (codes ":") n tt ∷ [])

  default_flat : (place : Place) → (spelt_at Word (codes "default") n place ∷ []) ++ ((spelt Mark (codes ":") n tt ∷ []) ++ []) ≡ wants_of_label (label.Default place) n
  unfolding wants_of_label
  default_flat place = refl

  label_to : (l : Label) (ps : List Piece) → Either CaseL DefaultL l ps → LabelAt n l ps
  unfolding is_label
  label_to l ps (this b) =
      let is : l ≡ label.Case b.first b.right.first = b.right.right.right.tree_is in
      record { grammar = ap is_label is ∙ b.right.left.grammar; wants = onto b.whole b.left.one (onto b.right.whole b.right.left.wants (onto b.right.right.whole b.right.right.left.one b.right.right.right.none)) ∙ case_flat b.first b.right.first ∙ ap (λ u. wants_of_label u n) (sym is) }
  label_to l ps (that b) =
      let is : l ≡ label.Default b.first = b.right.right.tree_is in
      record { grammar = ap is_label is; wants = onto b.whole b.left.one (onto b.right.whole b.right.left.one b.right.right.none) ∙ default_flat b.first ∙ ap (λ u. wants_of_label u n) (sym is) }

  label_from : (l : Label) (ps : List Piece) → LabelAt n l ps → Either CaseL DefaultL l ps
  unfolding is_label
  label_from (label.Case place value) ps is =
      this (subst (λ u. CaseL (label.Case place value) u) (case_flat place value ∙ sym is.wants)
      (in_both _ _ _ _ _ place (in_single (spelt_at Word (codes "case") n) place) (in_both _ _ _ _ _ value (record { grammar = is.grammar; wants = refl }) (in_both _ _ _ _ _ tt (in_single (spelt Mark (codes ":") n) tt) (in_given (label.Case place value))))))
  label_from (label.Default place) ps is =
      that (subst (λ u. DefaultL (label.Default place) u) (default_flat place ∙ sym is.wants)
      (in_both _ _ _ _ _ place (in_single (spelt_at Word (codes "default") n) place) (in_both _ _ _ _ _ tt (in_single (spelt Mark (codes ":") n) tt) (in_given (label.Default place)))))

  no_case : Begins DefaultL (is_word (codes "case")) false
  unfolding spelled_by is_spelled is_kind
  no_case = begins_placed Word (codes "default") n (λ place. Both (Single (spelt Mark (codes ":") n)) (λ colon. Given (label.Default place))) (spelled_by Word (codes "case")) false refl

  pub label_step : Step most size Always (LabelAt n) Anything (read_label size left)
  unfolding read_label
  label_step = record {
    by = λ u. by_as label_to label_from
        (choose_by CaseL DefaultL most size Anything (is_word (codes "case")) (read_case size left) (read_default left) (case_step.by tt) (default_step.by tt)
        (λ l ps front rest is fits stop. begins_is_at Word (codes "case") n (λ place. Both (At 0 n) (λ value. Both (Single (spelt Mark (codes ":") n)) (λ colon. Given (label.Case place value)))) l ps front rest is fits)
        (λ l ps front rest is fits stop. no_case l ps front rest is fits));
    some = (default_step.some.0, (default_step.some.1.0, label_to default_step.some.0 default_step.some.1.0 (that default_step.some.1.1)));
  }

  pub begins_label : (by : TokenKind → List ℕ → Bool) (b : Bool) → by Word (codes "case") ≡ b → by Word (codes "default") ≡ b → Begins (LabelAt n) (λ w. by w.kind w.text) b
  begins_label by b of_case of_default l ps front rest is fits =
      begins_either CaseL DefaultL (λ w. by w.kind w.text) b
      (begins_placed Word (codes "case") n (λ place. Both (At 0 n) (λ value. Both (Single (spelt Mark (codes ":") n)) (λ colon. Given (label.Case place value)))) by b of_case)
      (begins_placed Word (codes "default") n (λ place. Both (Single (spelt Mark (codes ":") n)) (λ colon. Given (label.Default place))) by b of_default) l ps front rest (label_from l ps is) fits

  pub label_some : (l : Label) (ps : List Piece) → LabelAt n l ps → 0 < length ps
  unfolding wants_of_label
  label_some (label.Case place value) ps is = omega (arith, ap length (is.wants ∙ append_assoc (word_at place (codes "case") n) (wants_of_expr value n) (mark (codes ":") n)))
  label_some (label.Default place) ps is = omega (arith, ap length is.wants)

-- ---- sections

pub suits_start : SuitsStatement statement_by true
unfolding statement_by spelled_by loop_by simple_by expr_by found_by found_in
suits_start = record {
  expr = record { name = λ t. refl; integer = λ t. refl; character = λ t. refl; yes_ = refl; no_ = refl; bracket = refl; prefix = prefix_all statement_by true refl refl refl refl refl refl };
  step = step_all statement_by true refl refl;
  brace = refl;
  semicolon = refl;
  break_ = refl;
  continue_ = refl;
  return_ = refl;
  if_ = refl;
  switch_ = refl;
  while_ = refl;
  do_ = refl;
  for_ = refl;
  bound = λ t. refl;
}

pub suits_no_label : SuitsStatement label_by false
unfolding label_by spelled_by
suits_no_label = record {
  expr = record { name = λ t. refl; integer = λ t. refl; character = λ t. refl; yes_ = refl; no_ = refl; bracket = refl; prefix = prefix_all label_by false refl refl refl refl refl refl };
  step = step_all label_by false refl refl;
  brace = refl;
  semicolon = refl;
  break_ = refl;
  continue_ = refl;
  return_ = refl;
  if_ = refl;
  switch_ = refl;
  while_ = refl;
  do_ = refl;
  for_ = refl;
  bound = λ t. refl;
}

abbrev pub NoElse : List Token → Type 0
NoElse = FirstIs (is_word (codes "else")) false

pub some_several : {A : Type 0} (L : Language A) → SomeOf (Several L)
unfolding Several
some_several L = ([], ([], refl))

module _ (most size n left : ℕ) (level : (n + 1) + left ≡ most + 1) (read : Reader Statement) (I : 0 < left → ReadsBy (StatementAt (n + 1)) most size StopsElse read) where
  labels_step : (When : Type 0) → Step most size When (Several (LabelAt (n + 1))) (λ ls. FirstIs starts_label false) (many size starts_label (read_label size left))
  unfolding label_by spelled_by
  labels_step When = record {
    by = λ when. by_reads (many_reads (LabelAt (n + 1)) most size Any (FirstIs starts_label false) starts_label (read_label size left) (reads_by Any (λ l rest stop. tt) ((label_step most size (n + 1) left level).by tt))
        (begins_label most size (n + 1) left level label_by true refl refl) (λ ts h. tt) (λ ts h. tt) (λ ts h. h) (label_some most size (n + 1) left level));
    some = some_several (LabelAt (n + 1));
  }

  start_no_else : (ts : List Token) → FirstIs starts_statement true ts → NoElse ts
  unfolding statement_by spelled_by loop_by simple_by expr_by found_by found_in
  start_no_else = first_not Word (codes "else") statement_by refl

  end_no_else : (ts : List Token) → StopsSection ts → NoElse ts
  unfolding spelled_by is_spelled is_kind
  end_no_else = section_from (spelled_by Word (codes "else")) false refl refl refl

  end_no_start : (ts : List Token) → StopsSection ts → FirstIs starts_statement false ts
  unfolding statement_by spelled_by loop_by simple_by expr_by found_by found_in
  end_no_start = section_from statement_by false refl refl refl

  statements_step : Step most size (0 < left) (Several (StatementAt (n + 1))) (λ ss. StopsSection) (many size starts_statement read)
  statements_step = record {
    by = λ when. by_reads (many_reads (StatementAt (n + 1)) most size NoElse StopsSection starts_statement read (reads_by NoElse (λ s rest stop open_. stop) (I when))
        (begins_statement statement_by true suits_start (n + 1)) start_no_else end_no_else end_no_start (statement_some statement_by true suits_start (n + 1)));
    some = some_several (StatementAt (n + 1));
  }

  abbrev made : Label → List Label → Statement → List Statement → LabelledSection
  made first labels s ss = roll-LabelledSection (record { labels = first ∷ labels; statements = s ∷ ss })

  abbrev SectionL : Language LabelledSection
  SectionL = Both (LabelAt (n + 1)) (λ first. Both (Several (LabelAt (n + 1))) (λ labels. Both (StatementAt (n + 1)) (λ s. Both (Several (StatementAt (n + 1))) (λ ss. Given (made first labels s ss)))))

  abbrev Ended : LabelledSection → List Token → Type 0
  Ended t = StopsSection

  section_read : Step most size (0 < left) SectionL Ended (read_section size left read)
  unfolding read_section
  section_read =
      then_ most size (0 < left) (LabelAt (n + 1)) _ Anything Ended (read_label size left) _ (record { by = λ when. (label_step most size (n + 1) left level).by tt; some = (label_step most size (n + 1) left level).some })
      (λ first. then_ most size (0 < left) (Several (LabelAt (n + 1))) _ (λ ls. FirstIs starts_label false) Ended (many size starts_label (read_label size left)) _ (labels_step (0 < left))
      (λ labels. then_ most size (0 < left) (StatementAt (n + 1)) _ StopsElse Ended read _ (inner_step most size n left read I)
      (λ s. then_ most size (0 < left) (Several (StatementAt (n + 1))) _ (λ ss. StopsSection) Ended (many size starts_statement read) _ statements_step
      (λ ss. given most size Ended (0 < left) (made first labels s ss))
      (λ ss ps c qs ys rest is k fits stop. given_stops (made first labels s ss) c qs ys rest StopsSection k fits stop))
      (λ s ps c qs ys rest is k fits stop open_. several_given_stops (StatementAt (n + 1)) (λ ss. made first labels s ss) starts_statement NoElse StopsSection (begins_statement statement_by true suits_start (n + 1)) start_no_else end_no_else c qs ys rest k fits stop))
      (λ labels ps c qs ys rest is k fits stop. begins_both (StatementAt (n + 1)) _ starts_label false (begins_statement label_by false suits_no_label (n + 1)) c qs ys rest k fits))
      (λ first ps c qs ys rest is k fits stop. tt)

  section_flat : (first : Label) (labels : List Label) (s : Statement) (ss : List Statement)
      → wants_of_label first (n + 1) ++ (all_of (map wants_of_label labels) (n + 1) ++ (wants_of_statement s (n + 1) ++ (all_of (map wants_of_statement ss) (n + 1) ++ []))) ≡ wants_of_section (made first labels s ss) (n + 1)
  unfolding all_of
  section_flat first labels s ss =
      let a = wants_of_label first (n + 1) in
      let b = all_of (map wants_of_label labels) (n + 1) in
      let c = wants_of_statement s (n + 1) in
      let d = all_of (map wants_of_statement ss) (n + 1) in
      (ap (λ u. a ++ (b ++ (c ++ u))) (append-nil d) ∙ sym (append_assoc a b (c ++ d))) ∙ sym (ap (λ f. f (n + 1)) (wants_LabelledSection (first ∷ labels) (s ∷ ss)))

  section_ok : (first : Label) (labels : List Label) (s : Statement) (ss : List Statement)
      → is_section_tree (made first labels s ss) ≡ ((is_label first && list_all is_label labels) && ((form_of_statement s).is && list_all (λ u. (form_of_statement u).is) ss))
  section_ok first labels s ss =
      is_LabelledSection (first ∷ labels) (s ∷ ss) ∙ and_true_right (is_label first && list_all is_label labels) _ ∙ ap (λ u. (is_label first && list_all is_label labels) && ((form_of_statement s).is && u)) (list_all_map form_of_statement (λ f. f.is) ss)

  section_to : (t : LabelledSection) (ps : List Piece) → SectionL t ps → SectionAt (n + 1) t ps
  section_to t ps b =
      let first = b.first in
      let labels = b.right.first in
      let s = b.right.right.first in
      let ss = b.right.right.right.first in
      let is : t ≡ made first labels s ss = b.right.right.right.right.tree_is in
      let ls = all_to is_label wants_of_label (n + 1) labels b.right.pieces1 b.right.left in
      let os = all_to (λ u. (form_of_statement u).is) wants_of_statement (n + 1) ss b.right.right.right.pieces1 b.right.right.right.left in
      record {
        grammar = ap is_section_tree is ∙ section_ok first labels s ss
            ∙ and_both (is_label first && list_all is_label labels) _ (and_both (is_label first) (list_all is_label labels) b.left.grammar ls.grammar) (and_both (form_of_statement s).is (list_all (λ u. (form_of_statement u).is) ss) b.right.right.left.grammar os.grammar);
        wants = onto b.whole b.left.wants (onto b.right.whole ls.wants (onto b.right.right.whole b.right.right.left.wants (onto b.right.right.right.whole os.wants b.right.right.right.right.none))) ∙ section_flat first labels s ss ∙ ap (λ u. wants_of_section u (n + 1)) (sym is);
      }

  section_no : (labels : List Label) (statements : List Statement) → (has_some labels ≡ false) ⊎ (has_some statements ≡ false) → is_section_tree (roll-LabelledSection (record { labels = labels; statements = statements })) ≡ true → ⊥
  section_no [] statements lacks h = not_true (sym (is_LabelledSection [] statements) ∙ h)
  section_no (l ∷ ls) [] lacks h = not_true (sym (and_false (is_label l && list_all is_label ls)) ∙ sym (is_LabelledSection (l ∷ ls) []) ∙ h)
  section_no (l ∷ ls) (s ∷ ss) (inl h) g = absurd (cc)
  section_no (l ∷ ls) (s ∷ ss) (inr h) g = absurd (cc)

  section_from_parts : (labels : List Label) (statements : List Statement) (ps : List Piece) → SectionAt (n + 1) (roll-LabelledSection (record { labels = labels; statements = statements })) ps → SectionL (roll-LabelledSection (record { labels = labels; statements = statements })) ps
  section_from_parts [] statements ps is = absurd (section_no [] statements (inl refl) is.grammar)
  section_from_parts (l ∷ ls) [] ps is = absurd (section_no (l ∷ ls) [] (inr refl) is.grammar)
  section_from_parts (l ∷ ls) (s ∷ ss) ps is =
      let g = sym (section_ok l ls s ss) ∙ is.grammar in
      let left = and_left (is_label l && list_all is_label ls) _ g in
      let right = and_right (is_label l && list_all is_label ls) _ g in
      subst (λ u. SectionL (made l ls s ss) u) (section_flat l ls s ss ∙ sym is.wants)
      (in_both _ _ _ _ _ l (record { grammar = and_left (is_label l) (list_all is_label ls) left; wants = refl })
      (in_both _ _ _ _ _ ls (all_from is_label wants_of_label (n + 1) ls _ (record { grammar = and_right (is_label l) (list_all is_label ls) left; wants = refl }))
      (in_both _ _ _ _ _ s (record { grammar = and_left (form_of_statement s).is (list_all (λ u. (form_of_statement u).is) ss) right; wants = refl })
      (in_both _ _ _ _ _ ss (all_from (λ u. (form_of_statement u).is) wants_of_statement (n + 1) ss _ (record { grammar = and_right (form_of_statement s).is (list_all (λ u. (form_of_statement u).is) ss) right; wants = refl })) (in_given (made l ls s ss))))))

  section_back : (t : LabelledSection) (ps : List Piece) → SectionAt (n + 1) t ps → SectionL t ps
  section_back = cases_LabelledSection (λ t. (ps : List Piece) → SectionAt (n + 1) t ps → SectionL t ps) section_from_parts

  section_step : Step most size (0 < left) (SectionAt (n + 1)) Ended (read_section size left read)
  section_step = record { by = λ when. by_as section_to section_back (section_read.by when); some = (section_read.some.0, (section_read.some.1.0, section_to section_read.some.0 section_read.some.1.0 section_read.some.1.1)) }

  begins_section : Begins (SectionAt (n + 1)) starts_label true
  unfolding label_by spelled_by
  begins_section t ps front rest is fits = begins_both (LabelAt (n + 1)) _ starts_label true (begins_label most size (n + 1) left level label_by true refl refl) t ps front rest (section_back t ps is) fits

  section_some : (t : LabelledSection) (ps : List Piece) → SectionAt (n + 1) t ps → 0 < length ps
  section_some t ps is =
      let b = section_back t ps is in
      omega (arith, ap length b.whole, length-append b.pieces1 b.pieces2, label_some most size (n + 1) left level b.first b.pieces1 b.left)

  -- ---- the whole

  abbrev Closed : List Token → Type 0
  Closed = FirstIs (is_mark (codes "}")) true

  label_ends : (ts : List Token) → FirstIs starts_label true ts → StopsSection ts
  label_ends = first_or label_by (spelled_by Mark (codes "}"))

  brace_ends : (ts : List Token) → Closed ts → StopsSection ts
  unfolding label_by spelled_by
  brace_ends = first_from Mark (codes "}") section_end true refl

  brace_no_label : (ts : List Token) → Closed ts → FirstIs starts_label false ts
  unfolding label_by spelled_by
  brace_no_label = first_from Mark (codes "}") label_by false refl

  sections_step : Step most size (0 < left) (Several (SectionAt (n + 1))) (λ ss. Closed) (many size starts_label (read_section size left read))
  sections_step = record {
    by = λ when. by_reads (many_reads (SectionAt (n + 1)) most size StopsSection Closed starts_label (read_section size left read) (reads_by StopsSection (λ t rest stop. stop) (section_step.by when)) begins_section label_ends brace_ends brace_no_label section_some);
    some = some_several (SectionAt (n + 1));
  }

  abbrev pub SwitchL : Language Statement
  SwitchL =
      Both (Single (spelt_at Word (codes "switch") (n + 1))) (λ place. Both (ConditionAt (n + 1)) (λ value. Both (Single (spelt Mark (codes "{") (n + 1))) (λ opening. Both (Several (SectionAt (n + 1))) (λ sections.
      Both (Single (spelt Mark (codes "}") (n + 1))) (λ closing. Given (switch_statement place value sections))))))

  pub switch_step : Step most size Always SwitchL StopsElse (read_switch size left read)
  unfolding read_switch
  switch_step =
      placed_deep most size StopsElse Word (codes "switch") (n + 1) left level _ _
      (λ place. condition_then most size (n + 1) left level StopsElse (0 < left) _ _
      (λ value. spelt_then most size StopsElse Mark (codes "{") (n + 1) left level (0 < left) _ _
      (λ opening. then_ most size (0 < left) (Several (SectionAt (n + 1))) _ (λ ss. Closed) StopsElse (many size starts_label (read_section size left read)) _ sections_step
      (λ sections. spelt_then most size StopsElse Mark (codes "}") (n + 1) left level (0 < left) _ _ (λ closing. given most size StopsElse (0 < left) (switch_statement place value sections)))
      (λ sections ps c qs ys rest is k fits stop. begins_is Mark (codes "}") (n + 1) (λ closing. Given (switch_statement place value sections)) c qs ys rest k fits))))

  switch_flat : (place : Place) (value : Expr) (sections : List LabelledSection)
      → (spelt_at Word (codes "switch") (n + 1) place ∷ []) ++ ((mark (codes "(") (n + 1) ++ wants_of_expr value (n + 1) ++ mark (codes ")") (n + 1)) ++ ((spelt Mark (codes "{") (n + 1) tt ∷ []) ++ (all_of (map wants_of_section sections) (n + 1) ++ ((spelt Mark (codes "}") (n + 1) tt ∷ []) ++ []))))
      ≡ wants_of_statement (switch_statement place value sections) n
  switch_flat place value sections =
      let a = spelt_at Word (codes "switch") (n + 1) place ∷ [] in
      let b = mark (codes "(") (n + 1) in
      let c = wants_of_expr value (n + 1) in
      let d = mark (codes ")") (n + 1) in
      let e = spelt Mark (codes "{") (n + 1) tt ∷ [] in
      let f = all_of (map wants_of_section sections) (n + 1) in
      let g = spelt Mark (codes "}") (n + 1) tt ∷ [] in
      (simp (append_assoc) refl) ∙ sym (ap (λ f. f n) (wants_Switch place value sections))

  switch_ok : (place : Place) (value : Expr) (sections : List LabelledSection) → (form_of_statement (switch_statement place value sections)).is ≡ (binds value 0 && list_all is_section_tree sections)
  switch_ok place value sections = ap (λ f. f.is) (form_Switch place value sections) ∙ ap (λ u. binds value 0 && u) (list_all_map is_section_tree (λ u. u) sections)

  pub switch_to : (t : Statement) (ps : List Piece) → SwitchL t ps → StatementAt n t ps
  switch_to t ps b =
      let all = all_to is_section_tree wants_of_section (n + 1) b.right.right.right.first b.right.right.right.pieces1 b.right.right.right.left in
      is_statement n t (switch_statement b.first b.right.first b.right.right.right.first) ps b.right.right.right.right.right.tree_is
      (switch_ok b.first b.right.first b.right.right.right.first ∙ and_both (binds b.right.first 0) (list_all is_section_tree b.right.right.right.first) b.right.left.grammar all.grammar)
      (onto b.whole b.left.one (onto b.right.whole b.right.left.wants (onto b.right.right.whole b.right.right.left.one (onto b.right.right.right.whole all.wants (onto b.right.right.right.right.whole b.right.right.right.right.left.one b.right.right.right.right.right.none)))) ∙ switch_flat b.first b.right.first b.right.right.right.first)

  pub switch_from : (place : Place) (value : Expr) (sections : List LabelledSection) (ps : List Piece) → StatementAt n (switch_statement place value sections) ps → SwitchL (switch_statement place value sections) ps
  switch_from place value sections ps is =
      let g = sym (switch_ok place value sections) ∙ is.grammar in
      subst (λ u. SwitchL (switch_statement place value sections) u) (switch_flat place value sections ∙ sym is.wants)
      (in_both _ _ _ _ _ place (in_single (spelt_at Word (codes "switch") (n + 1)) place)
      (in_both _ _ _ _ _ value (record { grammar = and_left (binds value 0) (list_all is_section_tree sections) g; wants = refl })
      (in_both _ _ _ _ _ tt (in_single (spelt Mark (codes "{") (n + 1)) tt)
      (in_both _ _ _ _ _ sections (all_from is_section_tree wants_of_section (n + 1) sections _ (record { grammar = and_right (binds value 0) (list_all is_section_tree sections) g; wants = refl }))
      (in_both _ _ _ _ _ tt (in_single (spelt Mark (codes "}") (n + 1)) tt) (in_given (switch_statement place value sections)))))))
