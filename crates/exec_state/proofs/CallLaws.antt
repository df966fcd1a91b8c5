-- Calls that follow their meanings: arguments become the first values of parameters, and the body's returned value is the call's.
use Rattle.std.proofs.Common.{◌≡◌, ℕ, zero, suc, ◌+◌, List, [], ◌∷◌, ◌++◌, get_or, set, map, length, replicate, refl, sym, ap, ◌∙◌, subst, arith}
use Rattle.std.proofs.lemmas.Simd.{length-replicate}
use Rattle.c_tree.specs.declared.token.Place.{Place}
use Rattle.c_meaning.specs.declared.types.ValueKind.{ValueKind}
use Rattle.c_meaning.specs.declared.types.ValueKind.TheVariants as kind
use Rattle.c_meaning.specs.declared.values.Cell.{Cell}
use Rattle.c_meaning.specs.declared.values.Cell.TheVariants as cell
use Rattle.c_meaning.specs.declared.values.Ending.{Ending}
use Rattle.c_meaning.specs.declared.values.Ending.TheVariants as ending
use Rattle.c_meaning.specs.declared.programs.TypedFunction.{TypedFunction}
use Rattle.c_meaning.specs.Types.{kind_of}
use Rattle.c_meaning.specs.State.{State, begun, written, overwritten, all_ended}
use Rattle.c_meaning.specs.Expressions.{World, Value, zeros}
use Rattle.c_meaning.specs.StatementFolds.{block_runs}
use Rattle.c_meaning.specs.Programs.{with_arguments, unreturned, result_of, called}
use Rattle.exec_state.specs.Seen.{Picture, Shows, IsSeen, seen, seen_objects}
use Rattle.exec_state.specs.Access.{arguments_in, ArgumentsFill}
use Rattle.exec_state.specs.Follow.{Ended, Follows}
use Rattle.exec_state.specs.Leave.{Exits, LeftBy, Runs}
use Rattle.exec_state.proofs.SeenLaws.{written_seen, begun_seen, all_ended_seen, all_ended_returned}

-- ---- arguments

-- a value that fills all cells
overwritten_from : (before cells values : List Cell) → length values ≡ length cells → overwritten (before ++ cells) (length before) values ≡ before ++ values
overwritten_from before [] [] h = refl
overwritten_from before [] (v ∷ vs) h = absurd (omega arith)
overwritten_from before (c ∷ cs) [] h = absurd (omega arith)
overwritten_from before (c ∷ cs) (v ∷ vs) h =
    ap (λ (xs : List Cell). overwritten xs (length before + 1) vs) (placed before)
    ∙ ap (λ (n : ℕ). overwritten ((before ++ v ∷ []) ++ cs) n vs) (sym (longer before))
    ∙ overwritten_from (before ++ v ∷ []) cs vs (omega arith)
    ∙ joined before vs
  where
    placed : (before : List Cell) → set (before ++ c ∷ cs) (length before) v ≡ (before ++ v ∷ []) ++ cs
    placed [] = refl
    placed (x ∷ xs) = ap (λ (ys : List Cell). x ∷ ys) (placed xs)

    longer : (before : List Cell) → length (before ++ v ∷ []) ≡ length before + 1
    longer [] = refl
    longer (x ∷ xs) = omega (arith, longer xs)

    joined : (before after : List Cell) → (before ++ v ∷ []) ++ after ≡ before ++ v ∷ after
    joined [] after = refl
    joined (x ∷ xs) after = ap (λ (ys : List Cell). x ∷ ys) (joined xs after)

pub overwritten_all : (cells values : List Cell) → length values ≡ length cells → overwritten cells 0 values ≡ values
overwritten_all cells values h = overwritten_from [] cells values h

set_set : {A : Type 0} (xs : List A) (k : ℕ) (x y : A) → set (set xs k x) k y ≡ set xs k y
set_set [] k x y = refl
set_set (z ∷ zs) zero x y = refl
set_set (z ∷ zs) (suc k) x y = ap (λ ws. z ∷ ws) (set_set zs k x y)

-- the cells of an object that got as many cells as it has
length_set : (objects : List (List Cell)) (k : ℕ) (cells : List Cell) → length cells ≡ length (get_or objects k []) → length (get_or (set objects k cells) k []) ≡ length (get_or objects k [])
length_set [] k cells h = refl
length_set (x ∷ xs) zero cells h = h
length_set (x ∷ xs) (suc k) cells h = length_set xs k cells h

-- a parameter's begin
pub argument_seen : (k : ℕ) (v : List Cell) (u : Value) (s : State) → IsSeen v u → length (get_or (seen_objects s) k []) ≡ length v → seen_objects (written k 0 u (begun k s)) ≡ set (seen_objects s) k v
argument_seen k v u s is fill =
    let old = seen_objects s in
    let cleared : List Cell = replicate (length (get_or old k [])) (cell.Int 0) in
    let long : length cleared ≡ length (get_or old k []) = length-replicate (length (get_or old k [])) (cell.Int 0) in
    let same : length v ≡ length (get_or (set old k cleared) k []) = sym fill ∙ sym (length_set old k cleared long) in
    written_seen k 0 u (begun k s)
    ∙ ap (λ (objects : List (List Cell)). set objects k (overwritten (get_or objects k []) 0 (map seen u))) (begun_seen k s)
    ∙ ap (λ (cells : List Cell). set (set old k cleared) k (overwritten (get_or (set old k cleared) k []) 0 cells)) (sym is)
    ∙ ap (λ (cells : List Cell). set (set old k cleared) k cells) (overwritten_all (get_or (set old k cleared) k []) v same)
    ∙ set_set old k cleared v

pub arguments_seen : (ks : List ℕ) (vs : List (List Cell)) (us : List Value) (s : State) → vs ≡ map (map seen) us → ArgumentsFill (seen_objects s) ks vs → seen_objects (with_arguments ks us s) ≡ arguments_in (seen_objects s) ks vs
arguments_seen [] vs us s are fill = refl
arguments_seen (k ∷ ks) [] [] s are fill = refl
arguments_seen (k ∷ ks) [] (u ∷ us) s are fill = absurd (cc)
arguments_seen (k ∷ ks) (v ∷ vs) [] s are fill = absurd (cc)
arguments_seen (k ∷ ks) (v ∷ vs) (u ∷ us) s are fill =
    let first : v ≡ map seen u = cc in
    let more : vs ≡ map (map seen) us = cc in
    let next : seen_objects (written k 0 u (begun k s)) ≡ set (seen_objects s) k v = argument_seen k v u s first fill.0 in
    arguments_seen ks vs us (written k 0 u (begun k s)) more (subst (λ (objects : List (List Cell)). ArgumentsFill objects ks vs) (sym next) fill.1)
    ∙ ap (λ (objects : List (List Cell)). arguments_in objects ks vs) next

-- ---- results

module _ (world : World) (place : Place) (k : ValueKind) (d : Picture) (zeroed : List Cell) (no_result : zeroed ≡ map seen (zeros world k)) where
  unreturned_shown : (s : State) → Shows d s → Ended d (IsSeen zeroed) (unreturned world place k s)
  unreturned_shown s shows = by_kind k no_result
    where
      by_kind : (k : ValueKind) → zeroed ≡ map seen (zeros world k) → Ended d (IsSeen zeroed) (unreturned world place k s)
      by_kind kind.Void is = (shows, is)
      by_kind (kind.Integer t) is = (record { kept = shows.kept; objects = shows.objects }, is)
      by_kind kind.Pointer is = (record { kept = shows.kept; objects = shows.objects }, is)
      by_kind (kind.Struct number) is = (record { kept = shows.kept; objects = shows.objects }, is)

  result_shown : (b c : Picture) (x : Exits) (objects : List ℕ) → b.returned ≡ zeroed → d ≡ record c { returned = d.returned } → (how : Ending) (t : State) → LeftBy b c x how t →
      Ended d (IsSeen c.returned) (result_of world place k how (all_ended objects t))
  result_shown b c x objects begins is how t = by_ending how
    where
      shown : Shows c t → Shows d (all_ended objects t)
      shown shows = record {
        kept = ap (λ (p : Picture). p.past) is ∙ shows.kept;
        objects = ap (λ (p : Picture). p.objects) is ∙ shows.objects ∙ sym (all_ended_seen objects t);
      }

      none : c.returned ≡ b.returned → Shows c t → Ended d (IsSeen c.returned) (unreturned world place k (all_ended objects t))
      none same shows = subst (λ (v : List Cell). Ended d (IsSeen v) (unreturned world place k (all_ended objects t))) (sym (same ∙ begins)) (unreturned_shown (all_ended objects t) (shown shows))

      by_ending : (how : Ending) → LeftBy b c x how t → Ended d (IsSeen c.returned) (result_of world place k how (all_ended objects t))
      by_ending ending.Normal l = none l.2 l.0
      by_ending ending.Break l = none l.2 l.0
      by_ending ending.Continue l = none l.2 l.0
      by_ending ending.Return l = (shown l.0, l.2 ∙ ap (map seen) (sym (all_ended_returned objects t)))
      by_ending ending.Past l = ap (λ (p : Picture). p.past) is ∙ l

-- a call, from the picture `a`: its parameters have their values in the picture `b`, where the value that is returned is zeros, and its body leads to `c`
pub call_followed : (g : ℕ) (a b c : Picture) (x : Exits) (world : World) (f : TypedFunction) (values : List Value) (place : Place) (zeroed : List Cell) →
    zeroed ≡ map seen (zeros world (kind_of f.result)) → b.returned ≡ zeroed →
    (g ≡ 0 → b.objects ≡ a.objects) → b.past ≡ a.past →
    (g ≡ 1 → (s : State) → Shows a s → Shows b (with_arguments f.params values s)) →
    Runs g b c x (block_runs world f.body) →
    Follows g a (record c { returned = a.returned }) (IsSeen c.returned) (called world f values place)
call_followed g a b c x world f values place zeroed no_result begins idle past enters ran = (
  record {
    idle = λ h. same a b c (ran.0.idle h).0 (idle h) past;
    past = λ h. ran.0.past (past ∙ h);
    returned = refl;
  },
  λ on s shows.
      let entered = with_arguments f.params values s in
      let r = block_runs world f.body entered in
      result_shown world place (kind_of f.result) (record c { returned = a.returned }) zeroed no_result b c x f.params begins refl r.ending r.state (ran.1 on entered (enters on s shows)),
)
  where
    same : (a b c : Picture) → c ≡ b → b.objects ≡ a.objects → b.past ≡ a.past → record c { returned = a.returned } ≡ a
    same a b c still objects past =
        ap (λ (p : Picture). record p { returned = a.returned }) still
        ∙ ap (λ (o : List (List Cell)). record { past = b.past; objects = o; returned = a.returned }) objects
        ∙ ap (λ (n : ℕ). record { past = n; objects = a.objects; returned = a.returned }) past
