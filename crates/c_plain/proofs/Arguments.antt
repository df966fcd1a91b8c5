-- The arguments of calls, and the sections of a `switch`.
use Rattle.std.proofs.Common.{◌≡◌, ℕ, ◌+◌, ◌<◌, ◌≤◌, ◌==◌, Bool, true, false, if◌then◌else◌, List, [], ◌∷◌, get_or, map, drop, length, refl, sym, subst, ap, ◌∙◌, arith}
use Rattle.std.specs.List.{list_any}
use Rattle.std.proofs.lemmas.Bool.{eqb-true}
use Rattle.std.proofs.lemmas.List.{drop_more, drop_all, drop-map}
use Rattle.c_meaning.specs.declared.statements.TypedSection.{TypedSection}
use Rattle.c_meaning.specs.declared.statements.TypedLabel.{TypedLabel}
use Rattle.c_meaning.specs.State as meaning
use Rattle.c_meaning.specs.Expressions as expressions
use Rattle.c_meaning.specs.Statements as statements
use Rattle.c_meaning.specs.declared.statements.TypedItem.TheViews.{out-TypedSection}
use Rattle.c_meaning.specs.declared.statements.TypedItem.TheFolds.{fold_out-TypedSection}
use Rattle.c_meaning.specs.StatementFolds.{section_runs, item_rule, iteration_rule, selection_rule, statement_rule, block_rule, section_rule}
use Rattle.c_meaning.specs.Programs as programs
use Rattle.c_state.specs.declared.state.Value.{Value}
use Rattle.c_state.specs.Views.{cells_in}

-- ---- arguments

no_arguments : (ks : List ℕ) (s : meaning.State) → programs.with_arguments ks [] s ≡ s
no_arguments [] s = refl
no_arguments (k ∷ ks) s = refl

-- no argument is left
pub arguments_none : (ks : List ℕ) (vs : List Value) (i : ℕ) (s : meaning.State) → length vs ≤ i → programs.with_arguments (drop i ks) (drop i (map cells_in vs)) s ≡ s
arguments_none ks vs i s h =
    ap (λ (left : List expressions.Value). programs.with_arguments (drop i ks) left s) (drop-map cells_in i vs ∙ ap (λ (left : List Value). map cells_in left) (drop_all i vs h))
    ∙ no_arguments (drop i ks) s

-- one more argument
pub arguments_more : (ks : List ℕ) (vs : List Value) (i : ℕ) (v : Value) (s : meaning.State) → i < length ks → i < length vs → v ≡ get_or vs i v → programs.with_arguments (drop i ks) (drop i (map cells_in vs)) s ≡ programs.with_arguments (drop (i + 1) ks) (drop (i + 1) (map cells_in vs)) (meaning.written (get_or ks i 0) 0 (cells_in v) (meaning.begun (get_or ks i 0) s))
arguments_more ks vs i v s hk hv is =
    let dv : drop i (map cells_in vs) ≡ cells_in v ∷ drop (i + 1) (map cells_in vs) =
    drop-map cells_in i vs
    ∙ ap (λ (left : List Value). map cells_in left) (drop_more vs i v hv ∙ ap (λ (w : Value). w ∷ drop (i + 1) vs) (sym is))
    ∙ ap (λ (left : List expressions.Value). cells_in v ∷ left) (sym (drop-map cells_in (i + 1) vs)) in
    ap (λ (left : List expressions.Value). programs.with_arguments (drop i ks) left s) dv
    ∙ ap (λ (left : List ℕ). programs.with_arguments left (cells_in v ∷ drop (i + 1) (map cells_in vs)) s) (drop_more ks i 0 hk)

-- ---- sections

pub labels_of : (world : expressions.World) (s : TypedSection) → (section_runs world s).labels ≡ (out-TypedSection s).labels
labels_of world s =
    ap (λ (r : statements.SectionRun). r.labels)
    (fold_out-TypedSection statements.ItemRun statements.Exec statements.Exec statements.Exec statements.Exec statements.SectionRun
    (item_rule world) (iteration_rule world) (selection_rule world) (statement_rule world) block_rule section_rule s)

-- the section has the label
cons_found : (wanted : TypedLabel → Bool) (s : statements.SectionRun) (ss : List statements.SectionRun) → list_any wanted s.labels ≡ true → statements.sections_from wanted (s ∷ ss) ≡ s ∷ ss
cons_found wanted s ss e = ap (λ (b : Bool). if b then s ∷ ss else statements.sections_from wanted ss) e

cons_missed : (wanted : TypedLabel → Bool) (s : statements.SectionRun) (ss : List statements.SectionRun) → list_any wanted s.labels ≡ false → statements.sections_from wanted (s ∷ ss) ≡ statements.sections_from wanted ss
cons_missed wanted s ss e = ap (λ (b : Bool). if b then s ∷ ss else statements.sections_from wanted ss) e

pub section_found : (world : expressions.World) (wanted : TypedLabel → Bool) (sections : List TypedSection) (i : ℕ) (s : TypedSection) → i < length sections → s ≡ get_or sections i s → list_any wanted (section_runs world s).labels ≡ true → statements.sections_from wanted (map (section_runs world) (drop i sections)) ≡ map (section_runs world) (drop i sections)
section_found world wanted sections i s h is e =
    let left : drop i sections ≡ s ∷ drop (i + 1) sections = drop_more sections i s h ∙ ap (λ (t : TypedSection). t ∷ drop (i + 1) sections) (sym is) in
    let P : List TypedSection → Type 0 = λ ss. statements.sections_from wanted (map (section_runs world) ss) ≡ map (section_runs world) ss in
    subst P (sym left) (cons_found wanted (section_runs world s) (map (section_runs world) (drop (i + 1) sections)) e)

pub section_missed : (world : expressions.World) (wanted : TypedLabel → Bool) (sections : List TypedSection) (i : ℕ) (s : TypedSection) → i < length sections → s ≡ get_or sections i s → list_any wanted (section_runs world s).labels ≡ false → statements.sections_from wanted (map (section_runs world) (drop (i + 1) sections)) ≡ statements.sections_from wanted (map (section_runs world) (drop i sections))
section_missed world wanted sections i s h is e =
    let left : drop i sections ≡ s ∷ drop (i + 1) sections = drop_more sections i s h ∙ ap (λ (t : TypedSection). t ∷ drop (i + 1) sections) (sym is) in
    sym (ap (λ (ss : List TypedSection). statements.sections_from wanted (map (section_runs world) ss)) left
    ∙ cons_missed wanted (section_runs world s) (map (section_runs world) (drop (i + 1) sections)) e)

pub section_none : (world : expressions.World) (wanted : TypedLabel → Bool) (sections : List TypedSection) (i : ℕ) → length sections ≤ i → statements.sections_from wanted (map (section_runs world) (drop i sections)) ≡ []
section_none world wanted sections i h = ap (λ (ss : List TypedSection). statements.sections_from wanted (map (section_runs world) ss)) (drop_all i sections h)

-- none of the first sections, so those of the second
pub by_default : (first second : List statements.SectionRun) → first ≡ [] → statements.case_or_default first second ≡ second
by_default first second e = ap (λ (ss : List statements.SectionRun). statements.case_or_default ss second) e

pub by_case : (sections : List TypedSection) (world : expressions.World) (second : List statements.SectionRun) → (sections ≡ [] → ⊥) → statements.case_or_default (map (section_runs world) sections) second ≡ map (section_runs world) sections
by_case [] world second h = absurd (h refl)
by_case (s ∷ ss) world second h = refl

pub none_where : (sections : List TypedSection) → (length sections == 0) ≡ true → sections ≡ []
none_where [] e = refl
none_where (s ∷ ss) e = absurd (omega (arith, eqb-true (length (s ∷ ss)) 0 e))

pub some_where : (sections : List TypedSection) → (length sections == 0) ≡ false → sections ≡ [] → ⊥
some_where [] e none = cc
some_where (s ∷ ss) e none = cc
