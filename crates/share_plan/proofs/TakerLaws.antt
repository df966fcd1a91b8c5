-- Takers: none, and some more.
use Rattle.std.proofs.Common.{◌≡◌, ◌==◌, ℕ, zero, suc, ◌+◌, ◌<◌, ◌&&◌, ◌||◌, Bool, true, false, List, [], ◌∷◌, ◌++◌, get_or, length, replicate, take, refl, sym, ap, ◌∙◌, arith}
use Rattle.std.specs.List.{list_any}
use Rattle.std.proofs.lemmas.List.{length-replicate, length-take, take_more}
use Rattle.hy_bits.specs.declared.turns.Role.{Role}
use Rattle.word_graph.specs.declared.entry.Entry.{Entry}
use Rattle.word_graph.specs.declared.entry.Node.{Node}
use Rattle.module_split.specs.declared.module.Module.{Module}
use Rattle.module_split.specs.Cut.{is_result}
use Rattle.choice_core.specs.declared.sharings.Choice.{Choice}
use Rattle.choice_core.specs.declared.sharings.Sharing.{Sharing}
use Rattle.choice_core.specs.declared.sharings.Sharing.TheVariants.{Arithmetic, Boolean, Yao}
use Rattle.choice_core.specs.Choices.{same_sharing, sharing_of}
use Rattle.share_plan.specs.declared.takers.Takers.{Takers}
use Rattle.share_plan.specs.Held.{Work}
use Rattle.share_plan.specs.Inputs.{is_taken, is_wanted, with_inputs}
use Rattle.share_plan.specs.Takers.{Adds, AreTakers, has_taker, no_takers, takers_at}
use Rattle.share_plan.proofs.InputLaws.{inputs-same}

or-false : (b : Bool) → (b || false) ≡ b
or-false true = refl
or-false false = refl

or-assoc : (a b c : Bool) → ((a || b) || c) ≡ (a || (b || c))
or-assoc true b c = refl
or-assoc false b c = refl

pub taken-none : (takers : List Takers) (list : List Module) (choices : List Choice) → Adds takers takers (λ s k. is_taken s k (take 0 list) (take 0 choices))
unfolding is_taken
taken-none takers list choices = record { size = refl; each = λ s k within. sym (or-false (has_taker s (takers_at takers k))) }

taken-append : (s : Sharing) (k : ℕ) (ps : List Module) (cs : List Choice) (p : Module) (c : Choice) → length ps ≡ length cs →
    is_taken s k (ps ++ p ∷ []) (cs ++ c ∷ []) ≡ (is_taken s k ps cs || (same_sharing (sharing_of c) s && list_any (λ used. used == k) p.ins))
unfolding is_taken
taken-append s k [] [] p c same = or-false (same_sharing (sharing_of c) s && list_any (λ used. used == k) p.ins)
taken-append s k [] (d ∷ cs) p c same = absurd (omega arith)
taken-append s k (q ∷ ps) [] p c same = absurd (omega arith)
taken-append s k (q ∷ ps) (d ∷ cs) p c same =
    ap (λ (b : Bool). (same_sharing (sharing_of d) s && list_any (λ used. used == k) q.ins) || b) (taken-append s k ps cs p c (omega arith))
    ∙ sym (or-assoc (same_sharing (sharing_of d) s && list_any (λ used. used == k) q.ins) (is_taken s k ps cs) (same_sharing (sharing_of c) s && list_any (λ used. used == k) p.ins))

pub taken-more : (old now next : List Takers) (list : List Module) (choices : List Choice) (i : ℕ) (part : Module) (c : Choice) (ins : List ℕ) (sharing : Sharing) → i < length list → i < length choices →
    part ≡ get_or list i part → ins ≡ part.ins → sharing ≡ sharing_of (get_or choices i c) →
    Adds old now (λ s k. is_taken s k (take i list) (take i choices)) → Adds now next (λ s k. same_sharing sharing s && list_any (λ used. used == k) ins) →
    Adds old next (λ s k. is_taken s k (take (i + 1) list) (take (i + 1) choices))
taken-more old now next list choices i part c ins sharing h l p is_ins chosen before after = record {
  size = after.size ∙ before.size;
  each = λ s k within.
      after.each s k (omega (arith, before.size)) ∙ ap (λ (b : Bool). b || (same_sharing sharing s && list_any (λ used. used == k) ins)) (before.each s k within)
      ∙ or-assoc (has_taker s (takers_at old k)) (is_taken s k (take i list) (take i choices)) (same_sharing sharing s && list_any (λ used. used == k) ins)
      ∙ ap (λ (b : Bool). has_taker s (takers_at old k) || b) (here s k);
}
  where
    here : (s : Sharing) (k : ℕ) → (is_taken s k (take i list) (take i choices) || (same_sharing sharing s && list_any (λ used. used == k) ins)) ≡ is_taken s k (take (i + 1) list) (take (i + 1) choices)
    here s k =
        let lists : take (i + 1) list ≡ take i list ++ part ∷ [] = take_more list i part h ∙ ap (λ (x : Module). take i list ++ x ∷ []) (sym p) in
        let picks : take (i + 1) choices ≡ take i choices ++ get_or choices i c ∷ [] = take_more choices i c l in
        ap (λ (t : Sharing). is_taken s k (take i list) (take i choices) || (same_sharing t s && list_any (λ used. used == k) ins)) chosen
        ∙ ap (λ (xs : List ℕ). is_taken s k (take i list) (take i choices) || (same_sharing (sharing_of (get_or choices i c)) s && list_any (λ used. used == k) xs)) is_ins
        ∙ sym (ap (λ (xs : List Module). is_taken s k xs (take (i + 1) choices)) lists ∙ ap (is_taken s k (take i list ++ part ∷ [])) picks
        ∙ taken-append s k (take i list) (take i choices) part (get_or choices i c) (omega (arith, length-take i list, length-take i choices)))

none-there : (count k : ℕ) (s : Sharing) → has_taker s (takers_at (replicate count no_takers) k) ≡ false
none-there zero k Arithmetic = refl
none-there zero k Boolean = refl
none-there zero k Yao = refl
none-there (suc count) zero Arithmetic = refl
none-there (suc count) zero Boolean = refl
none-there (suc count) zero Yao = refl
none-there (suc count) (suc k) s = none-there count k s

wanted-of : (s : Sharing) (k : ℕ) (list : List Module) (choices : List Choice) (results : List Node) → (is_taken s k list choices || (same_sharing Boolean s && is_result results k)) ≡ is_wanted list choices results s k
wanted-of Arithmetic k list choices results = or-false (is_taken Arithmetic k list choices)
wanted-of Boolean k list choices results = refl
wanted-of Yao k list choices results = or-false (is_taken Yao k list choices)

pub takers-all : (count : ℕ) (first then last : List Takers) (list : List Module) (choices : List Choice) (results : List Node) → first ≡ replicate count no_takers → Adds first then (λ s k. is_taken s k list choices) →
    Adds then last (λ s k. same_sharing Boolean s && is_result results k) → AreTakers (is_wanted list choices results) count last
takers-all count first then last list choices results is by_modules by_results = record {
  size = by_results.size ∙ by_modules.size ∙ ap length is ∙ length-replicate count no_takers;
  each = λ s k within.
      let low : k < length first = omega (arith, ap length is, length-replicate count no_takers) in
      by_results.each s k (omega (arith, by_modules.size, low))
      ∙ ap (λ (b : Bool). b || (same_sharing Boolean s && is_result results k)) (by_modules.each s k low ∙ ap (λ (b : Bool). b || is_taken s k list choices) (ap (λ (ts : List Takers). has_taker s (takers_at ts k)) is ∙ none-there count k s))
      ∙ wanted-of s k list choices results;
}

-- ---- inputs where takers are told

pub all-inputs : (takers told : List Takers) (seen es : List Entry) (given own : List Role) (list parts : List Module) (choices : List Choice) (shown results : List Node) (work next : Work) →
    takers ≡ told → seen ≡ es → given ≡ own → list ≡ parts → shown ≡ results → AreTakers (is_wanted list choices shown) (length seen) told →
    next ≡ with_inputs (λ (s : Sharing) (k : ℕ). has_taker s (takers_at takers k)) seen given work → next ≡ with_inputs (is_wanted parts choices results) es own work
all-inputs takers told seen es given own list parts choices shown results work next t e o l r are then =
    then ∙ ap (λ (ts : List Takers). with_inputs (λ (s : Sharing) (k : ℕ). has_taker s (takers_at ts k)) seen given work) t
    ∙ inputs-same (λ (s : Sharing) (k : ℕ). has_taker s (takers_at told k)) (is_wanted list choices shown) seen are.each given work
    ∙ ap (λ (xs : List Entry). with_inputs (is_wanted list choices shown) xs given work) e ∙ ap (λ (xs : List Role). with_inputs (is_wanted list choices shown) es xs work) o
    ∙ ap (λ (xs : List Module). with_inputs (is_wanted xs choices shown) es own work) l ∙ ap (λ (xs : List Node). with_inputs (is_wanted parts choices xs) es own work) r
