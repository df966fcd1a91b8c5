-- What the reader of expressions answers, in terms of the longest run of tokens with which some expression begins.
use Rattle.std.proofs.Common.{◌≡◌, ◌≤◌, inl, inr, ℕ, suc, ◌+◌, ◌-◌, ◌==◌, Bool, true, false, not, if◌then◌else◌, List, [], ◌∷◌, ◌++◌, length, Some, None, refl, sym, ap, ◌∙◌, subst, arith}
use Rattle.std.proofs.lemmas.Bool.{eqb-true}
use Rattle.std.proofs.lemmas.List.{append_assoc, append-nil, length-append}
use Rattle.c_tree.specs.Pieces.{Piece, Fits}
use Rattle.c_tree.specs.Folds.{wants_of_expr}
use Rattle.c_tree.specs.declared.token.Token.{Token}
use Rattle.c_tree.specs.declared.expressions.Expr.{Expr}
use Rattle.c_reader.specs.Faults.{Tells, names_construct, named_word}
use Rattle.c_reader.specs.Reading.{Answer, Reader}
use Rattle.c_reader.specs.Reading as reading
use Rattle.c_grammar.specs.Levels.{readers_at}
use Rattle.c_reader.specs.Alone.{all_but_one, alone, fault_of}
use Rattle.c_reader.specs.Depths.{AreShallow, AreWithin}
use Rattle.c_reader.specs.Firsts.{BeginsOf, IsFirstDeep}
use Rattle.c_grammar.specs.Spelled.{SpellsExpr, ExprAt}
use Rattle.c_expr.specs.Runs.{IsRun, IsTaken, IsUnreadRun, IsFaultOf}
use Rattle.c_reader.specs.Samples.{sample_of, end_token, is_taken, can_stand}
use Rattle.c_grammar.specs.Tokens.{goes_by, suffix_by}
use Rattle.c_reader.specs.Tokens.{spelled_by, found_by}
use Rattle.c_reader.specs.declared.faults.SyntaxFault.TheVariants as fault
use Rattle.c_reader.specs.declared.samples.Sample.{Sample}
use Rattle.c_reader.proofs.Reader.{Bad, Deep, Found, Reads}
use Rattle.c_reader.proofs.Binding.{fits_append, not_within}
use Rattle.c_reader.proofs.Choosing.{FirstIs}
use Rattle.c_reader.proofs.Ending.{Parting, earlier, same, later, parting}
use Rattle.c_grammar.proofs.Levels.{all_read}
use Rattle.c_reader.proofs.Nesting.{limit_of, within_more, within_limit}
use Rattle.c_grammar.proofs.Oneness.{one_expr}
use Rattle.c_reader.proofs.Probing.{begins_less, none_begins, none_longer}
use Rattle.c_reader.proofs.Probing as probing
use Rattle.c_reader.proofs.Shrinking.{Like, like_any}
use Rattle.c_grammar.proofs.Sizing.{all_like}
use Rattle.c_grammar.proofs.Suffixes.{At, Stops}
use Rattle.c_reader.proofs.Truths.{not_true}

-- ---- two answers at once

two_goods : (answer : Answer Expr) (a b : Expr) (xs ys : List Token) → answer ≡ reading.good a xs → answer ≡ reading.good b ys → xs ≡ ys
two_goods answer a b xs ys left right = cc

good_or_bad : (answer : Answer Expr) (a : Expr) (xs ys : List Token) → answer ≡ reading.good a xs → answer ≡ reading.bad ys → ⊥
good_or_bad answer a xs ys left right = cc

good_or_deep : (answer : Answer Expr) (a : Expr) (xs ys : List Token) → answer ≡ reading.good a xs → answer ≡ reading.deep ys → ⊥
good_or_deep answer a xs ys left right = cc

bad_or_deep : (answer : Answer Expr) (xs ys : List Token) → answer ≡ reading.bad xs → answer ≡ reading.deep ys → ⊥
bad_or_deep answer xs ys left right = cc

-- ---- numbers of tokens

one_is : (n : ℕ) → n ≡ 1 → (n == 1) ≡ true
one_is n h = ap (λ m. m == 1) h

is_one : (n : ℕ) → (n == 1) ≡ true → n ≡ 1
is_one n h = eqb-true n 1 h

two_is : (n : ℕ) → n ≡ 2 → (n == 2) ≡ true
two_is n h = ap (λ m. m == 2) h

is_two : (n : ℕ) → (n == 2) ≡ true → n ≡ 2
is_two n h = eqb-true n 2 h

opposite : (b : Bool) → not b ≡ true → b ≡ true → ⊥
opposite true h g = not_true h
opposite false h g = not_true g

double : (b : Bool) → not b ≡ false → b ≡ true
double true h = refl
double false h = absurd (not_true (sym h))

nothing_following : (between : List Token) (w : Token) (rest : List Token) → [] ≡ between ++ w ∷ rest → ⊥
nothing_following [] w rest h = cc
nothing_following (x ∷ between) w rest h = cc

-- ---- expressions that begin with some tokens

module _ (nesting : ℕ) where
  to_begins : (ts : List Token) → BeginsOf (ExprAt nesting) ts → BeginsOf (At 0 nesting) ts
  to_begins ts b = record { tree = b.tree; pieces = b.pieces; missing = b.missing; spelled_ = record { grammar = b.spelled_.grammar; wants = b.spelled_.wants }; fits = b.fits }

  from_begins : (ts : List Token) → BeginsOf (At 0 nesting) ts → BeginsOf (ExprAt nesting) ts
  from_begins ts b = record { tree = b.tree; pieces = b.pieces; missing = b.missing; spelled_ = record { grammar = b.spelled_.grammar; wants = b.spelled_.wants }; fits = b.fits }

  spelled_begins : (ts : List Token) (e : Expr) → SpellsExpr nesting ts e → BeginsOf (ExprAt nesting) ts
  spelled_begins ts e s = record { tree = e; pieces = wants_of_expr e nesting; missing = []; spelled_ = record { grammar = s.grammar; wants = append-nil (wants_of_expr e nesting) }; fits = s.fits }

  front_begins : (xs ys : List Token) → BeginsOf (ExprAt nesting) (xs ++ ys) → BeginsOf (ExprAt nesting) xs
  front_begins xs ys b = from_begins xs (begins_less (At 0 nesting) xs ys (to_begins (xs ++ ys) b))

  first_begins : (ts xs : List Token) (x : Token) (ys : List Token) → ts ≡ xs ++ x ∷ ys → BeginsOf (ExprAt nesting) ts → BeginsOf (ExprAt nesting) (xs ++ x ∷ [])
  first_begins ts xs x ys is b = front_begins (xs ++ x ∷ []) ys (subst (BeginsOf (ExprAt nesting)) (is ∙ sym (append_assoc xs (x ∷ []) ys)) b)

  -- ---- the longest run

  same_run : (run other : List Token) (w v : Token) (rest following : List Token) → Parting run other w v rest following
      → BeginsOf (ExprAt nesting) run → (BeginsOf (ExprAt nesting) (run ++ w ∷ []) → ⊥) → BeginsOf (ExprAt nesting) other → (BeginsOf (ExprAt nesting) (other ++ v ∷ []) → ⊥) → run ≡ other
  same_run run other w v rest following (earlier between is tail) one none two also = absurd (none (first_begins other run w between is two))
  same_run run other w v rest following (same is first tail) one none two also = is
  same_run run other w v rest following (later between is tail) one none two also = absurd (also (first_begins run other v between is one))

  one_run : (ts run other : List Token) (w v : Token) → IsRun nesting ts run w → IsRun nesting ts other v → BeginsOf (ExprAt nesting) run → BeginsOf (ExprAt nesting) other → run ≡ other
  one_run ts run other w v r s one two = same_run run other w v r.following s.following (parting run other w v r.following s.following (sym r.whole ∙ s.whole)) one r.none two s.none

  -- an expression that is the longest run is the one that is taken
  pub taken_one : (ts : List Token) (e : Expr) (count : ℕ) → IsTaken nesting ts e count → (run : List Token) (w : Token) (expr : Expr) → IsRun nesting ts run w → SpellsExpr nesting run expr → (e ≡ expr) × (count ≡ length run)
  taken_one ts e count t run w expr r s =
      let is : t.run ≡ run = one_run ts t.run run t.token w t.longest r (spelled_begins t.run e t.spelled_) (spelled_begins run expr s) in
      let fits : Fits (wants_of_expr e nesting) run = subst (λ u. Fits (wants_of_expr e nesting) u) is t.spelled_.fits in
      (one_expr nesting e expr run t.spelled_.grammar s.grammar fits s.fits, sym t.count_is ∙ ap length is)

  pub unread_none : (ts other : List Token) (v : Token) (construct : Bool) → IsUnreadRun nesting ts other v construct → (run : List Token) (w : Token) (expr : Expr) → IsRun nesting ts run w → SpellsExpr nesting run expr → ⊥
  unread_none ts other v construct u run w expr r s =
      let is : run ≡ other = one_run ts run other w v r (record { following = u.unread.first.following; whole = u.unread.first.whole; none = u.unread.first.none }) (spelled_begins run expr s) u.unread.first.begins in
      u.broken expr (subst (λ x. SpellsExpr nesting x expr) is s)

  -- ---- no expression goes on with the end

  deep_enough : (most : ℕ) (e : Expr) (ps : List Piece) (ts rest : List Token) (read : Reader Expr) → AreWithin most ps → Found read most e ps ts rest → read (ts ++ rest) ≡ reading.good e rest
  deep_enough most e ps ts rest read s (inl h) = h.0
  deep_enough most e ps ts rest read s (inr h) = absurd (not_within most ps ts rest h.left h.place s)

  end_stops : Stops 0 (end_token ∷ [])
  unfolding FirstIs goes_by suffix_by spelled_by found_by
  end_stops = refl

  nothing_stops : Stops 0 []
  unfolding FirstIs
  nothing_stops = refl

  ends : (run : List Token) (e : Expr) → SpellsExpr nesting run e → BeginsOf (ExprAt nesting) (run ++ end_token ∷ []) → ⊥
  ends run e s b =
      let ps = wants_of_expr e nesting in
      let d = limit_of ps in
      let size = length (run ++ end_token ∷ []) in
      let R : (k : ℕ) → Reads (At 0 nesting) (nesting + d) k (Stops 0) (readers_at k (suc d)).expr = λ k. (all_read (nesting + d) k (suc d) nesting (omega arith)).expr in
      let like : (k s t : ℕ) → k ≤ s → k ≤ t → Like k 0 (readers_at s (suc d)).expr (readers_at t (suc d)).expr = λ k s t enough also. like_any k _ _ (all_like k s t enough also (suc d)).expr in
      let found = (R size).all e ps run (end_token ∷ []) (record { grammar = s.grammar; wants = refl }) s.fits end_stops (omega arith) in
      let read = deep_enough (nesting + d) e ps run (end_token ∷ []) (readers_at size (suc d)).expr (within_more d (nesting + d) (omega arith) ps (within_limit ps)) found in
      none_longer (At 0 nesting) (nesting + d) (Stops 0) (λ k. (readers_at k (suc d)).expr) R like [] nothing_stops size run [] end_token e (omega arith) read (to_begins (run ++ end_token ∷ []) b)

  -- ---- the reader

  module _ (low : nesting ≤ 200) where
    abbrev pub read : ℕ → Reader Expr
    read size = (readers_at size (201 - nesting)).expr

    reads : (size : ℕ) → Reads (At 0 nesting) 200 size (Stops 0) (read size)
    reads size = (all_read 200 size (201 - nesting) nesting (omega (arith, low))).expr

    like : (k s t : ℕ) → k ≤ s → k ≤ t → Like k 0 (read s) (read t)
    like k s t enough also = like_any k _ _ (all_like k s t enough also (201 - nesting)).expr

    -- what is good is an expression
    good_spells : (size : ℕ) (ts : List Token) (e : Expr) (rest : List Token) → read size ts ≡ reading.good e rest
        → (front : List Token) × ((ts ≡ front ++ rest) × (SpellsExpr nesting front e × AreShallow (wants_of_expr e nesting)))
    good_spells size ts e rest h =
        let g = (reads size).good ts e rest h in
        (g.front, (g.whole, (record { grammar = g.spelled.grammar; fits = subst (λ u. Fits u g.front) g.spelled.wants g.fits }, subst (λ u. AreWithin 200 u) g.spelled.wants g.shallow)))

    pub good_front : (size : ℕ) (ts : List Token) (e : Expr) (rest : List Token) → read size ts ≡ reading.good e rest → (front : List Token) × (ts ≡ front ++ rest)
    good_front size ts e rest h = let g = (reads size).good ts e rest h in (g.front, g.whole)

    pub bad_front : (size : ℕ) (ts : List Token) (rest : List Token) → read size ts ≡ reading.bad rest → (front : List Token) × (ts ≡ front ++ rest)
    bad_front size ts rest h = let b = (reads size).bad ts rest h in (b.front, b.whole)

    -- and what is an expression is good, where the end is after it
    spelled_good : (size : ℕ) (run : List Token) (e : Expr) → length (run ++ end_token ∷ []) ≤ size → SpellsExpr nesting run e → AreShallow (wants_of_expr e nesting) → read size (run ++ end_token ∷ []) ≡ reading.good e (end_token ∷ [])
    spelled_good size run e small s shallow =
        let ps = wants_of_expr e nesting in
        deep_enough 200 e ps run (end_token ∷ []) (read size) shallow ((reads size).all e ps run (end_token ∷ []) (record { grammar = s.grammar; wants = refl }) s.fits end_stops small)

    begins_deep : (ts rest : List Token) (d : Deep (At 0 nesting) 200 ts rest) → BeginsOf (ExprAt nesting) (d.front ++ d.token ∷ [])
    unfolding Fits
    begins_deep ts rest d = record {
      tree = d.tree;
      pieces = d.pieces ++ d.piece ∷ [];
      missing = d.missing;
      spelled_ = record { grammar = d.spelled.grammar; wants = append_assoc d.pieces (d.piece ∷ []) d.missing ∙ d.spelled.wants };
      fits = fits_append d.pieces (d.piece ∷ []) d.front (d.token ∷ []) d.fits (d.takes, tt);
    }

    -- ---- an expression, and a token that is nested too deeply

    module _ (size : ℕ) (ts : List Token) (small : length ts ≤ size) where
      pub taken_good : (e : Expr) (w : Token) (following : List Token) → read size ts ≡ reading.good e (w ∷ following) → IsTaken nesting ts e (length ts - length (w ∷ following))
      taken_good e w following h =
          let g = good_spells size ts e (w ∷ following) h in
          record {
            run = g.0;
            token = w;
            longest = record {
              following = following;
              whole = g.1.0;
              none = λ b. none_longer (At 0 nesting) 200 (Stops 0) read reads like [] nothing_stops size g.0 following w e (subst (λ u. length u ≤ size) g.1.0 small) (ap (read size) (sym g.1.0) ∙ h) (to_begins (g.0 ++ w ∷ []) b);
            };
            spelled_ = g.1.1.0;
            shallow = g.1.1.1;
            count_is = omega (arith, ap length g.1.0, length-append g.0 (w ∷ following));
          }

      first_deep : (l : List Token) (d : Deep (At 0 nesting) 200 ts l) → IsFirstDeep (ExprAt nesting) ts d.front d.token
      first_deep l d = record {
        following = d.following;
        whole = d.whole ∙ ap (λ u. d.front ++ u) d.first;
        tree = d.tree;
        pieces = d.pieces;
        piece = d.piece;
        missing = d.missing;
        spelled_ = record { grammar = d.spelled.grammar; wants = d.spelled.wants };
        fits = d.fits;
        takes = d.takes;
        shallow = d.shallow;
        deep = d.deep;
      }

      first_of : (x y : Token) (xs ys l : List Token) → l ≡ x ∷ xs → l ≡ y ∷ ys → x ≡ y
      first_of x y xs ys l left right = cc

      pub deep_is : (l : List Token) (w : Token) (following : List Token) → l ≡ w ∷ following → read size ts ≡ reading.deep l → IsFaultOf nesting ts (fault.Deep w.place)
      unfolding IsFaultOf
      deep_is l w following is h =
          let d = (reads size).deep ts l h in
          (d.front, (d.token, (first_deep l d, ap (λ u. u.place) (first_of d.token w d.following following l d.first is))))

      deep_apart : (l : List Token) (d : Deep (At 0 nesting) 200 ts l) → read size ts ≡ reading.deep l → (run : List Token) (v : Token) (e : Expr) (r : IsRun nesting ts run v) → Parting d.front run d.token v d.following r.following
          → SpellsExpr nesting run e → AreShallow (wants_of_expr e nesting) → ⊥
      deep_apart l d h run v e r (earlier between is tail) s shallow =
          let short : length (run ++ end_token ∷ []) ≤ size = omega (arith, small, ap length r.whole, length-append run (v ∷ r.following), length-append run (end_token ∷ [])) in
          let here : read size (d.front ++ d.token ∷ d.following) ≡ reading.deep (d.token ∷ d.following) = ap (read size) (ap (λ u. d.front ++ u) (sym d.first) ∙ sym d.whole) ∙ h ∙ ap (λ u. reading.deep u) d.first in
          let there : read size (d.front ++ d.token ∷ (between ++ end_token ∷ [])) ≡ reading.deep (d.token ∷ (between ++ end_token ∷ [])) = (reads size).local_deep d.front d.token d.following (between ++ end_token ∷ []) here in
          let whole : run ++ end_token ∷ [] ≡ d.front ++ d.token ∷ (between ++ end_token ∷ []) = ap (λ u. u ++ end_token ∷ []) is ∙ append_assoc d.front (d.token ∷ between) (end_token ∷ []) in
          good_or_deep (read size (run ++ end_token ∷ [])) e (end_token ∷ []) (d.token ∷ (between ++ end_token ∷ [])) (spelled_good size run e short s shallow) (ap (read size) whole ∙ there)
      deep_apart l d h run v e r (same is first tail) s shallow = r.none (subst (BeginsOf (ExprAt nesting)) (ap (λ u. u ++ d.token ∷ []) is ∙ ap (λ u. run ++ u ∷ []) first) (begins_deep ts l d))
      deep_apart l d h run v e r (later between is tail) s shallow =
          r.none (first_begins (d.front ++ d.token ∷ []) run v (between ++ d.token ∷ []) (ap (λ u. u ++ d.token ∷ []) is ∙ append_assoc run (v ∷ between) (d.token ∷ [])) (begins_deep ts l d))

      pub deep_none : (l : List Token) → read size ts ≡ reading.deep l → (run : List Token) (v : Token) (e : Expr) → IsRun nesting ts run v → SpellsExpr nesting run e → AreShallow (wants_of_expr e nesting) → ⊥
      deep_none l h run v e r s shallow =
          let d = (reads size).deep ts l h in
          deep_apart l d h run v e r (parting d.front run d.token v d.following r.following (sym (d.whole ∙ ap (λ u. d.front ++ u) d.first) ∙ r.whole)) s shallow

    -- ---- a fault after a run

    module _ (size : ℕ) (run : List Token) (w : Token) (following : List Token) (small : length (run ++ w ∷ following) + 2 ≤ size) (bad : read size (run ++ w ∷ following) ≡ reading.bad (w ∷ following)) where
      enough : length (run ++ w ∷ following) ≤ size
      enough = omega (arith, small)

      enough_alone : length (run ++ end_token ∷ []) ≤ size
      enough_alone = omega (arith, small, length-append run (w ∷ following), length-append run (end_token ∷ []))

      longest_bad : IsRun nesting (run ++ w ∷ following) run w
      longest_bad = record { following = following; whole = refl; none = λ b. none_begins (At 0 nesting) 200 (Stops 0) read reads like [] nothing_stops size run following w enough bad (to_begins (run ++ w ∷ []) b) }

      -- nothing else is answered before the fault
      never_good : (front : List Token) (x : Token) (between : List Token) (tail : List Token) (e : Expr) → run ≡ front ++ x ∷ between → read size (front ++ x ∷ tail) ≡ reading.good e (x ∷ tail) → ⊥
      never_good front x between tail e is h =
          let here : read size (front ++ x ∷ (between ++ w ∷ following)) ≡ reading.good e (x ∷ (between ++ w ∷ following)) = (reads size).local_good front x tail (between ++ w ∷ following) e h in
          let whole : run ++ w ∷ following ≡ front ++ x ∷ (between ++ w ∷ following) = ap (λ u. u ++ w ∷ following) is ∙ append_assoc front (x ∷ between) (w ∷ following) in
          good_or_bad (read size (run ++ w ∷ following)) e (x ∷ (between ++ w ∷ following)) (w ∷ following) (ap (read size) whole ∙ here) bad

      never_deep : (front : List Token) (x : Token) (between : List Token) (tail : List Token) → run ≡ front ++ x ∷ between → read size (front ++ x ∷ tail) ≡ reading.deep (x ∷ tail) → ⊥
      never_deep front x between tail is h =
          let here : read size (front ++ x ∷ (between ++ w ∷ following)) ≡ reading.deep (x ∷ (between ++ w ∷ following)) = (reads size).local_deep front x tail (between ++ w ∷ following) h in
          let whole : run ++ w ∷ following ≡ front ++ x ∷ (between ++ w ∷ following) = ap (λ u. u ++ w ∷ following) is ∙ append_assoc front (x ∷ between) (w ∷ following) in
          bad_or_deep (read size (run ++ w ∷ following)) (w ∷ following) (x ∷ (between ++ w ∷ following)) bad (ap (read size) whole ∙ here)

      -- ---- the run alone

      last_by : (front : List Token) (x : Token) → Parting run front end_token x [] [] → run ≡ front
      last_by front x (earlier between is tail) = absurd (nothing_following between x [] tail)
      last_by front x (same is first tail) = is
      last_by front x (later between is tail) = absurd (nothing_following between end_token [] tail)

      last_one : (front rest : List Token) → run ++ end_token ∷ [] ≡ front ++ rest → length rest ≡ 1 → run ≡ front
      last_one front [] is one = absurd (omega (arith, one))
      last_one front (x ∷ []) is one = last_by front x (parting run front end_token x [] [] is)
      last_one front (x ∷ y ∷ rest) is one = absurd (omega (arith, one))

      alone_good : (e found : Expr) (rest : List Token) → read size (run ++ end_token ∷ []) ≡ reading.good e rest → (b : Bool) → (length rest == 1) ≡ b → (if b then Some e else None) ≡ Some found → SpellsExpr nesting run found × AreShallow (wants_of_expr found nesting)
      alone_good e found rest h true one is =
          let same_expr : e ≡ found = cc in
          let g = good_spells size (run ++ end_token ∷ []) e rest h in
          let run_is : run ≡ g.0 = last_one g.0 rest g.1.0 (is_one (length rest) one) in
          subst (λ u. SpellsExpr nesting run u × AreShallow (wants_of_expr u nesting)) same_expr (subst (λ u. SpellsExpr nesting u e) (sym run_is) g.1.1.0, g.1.1.1)
      alone_good e found rest h false one is = absurd (cc)

      alone_by : (answer : Answer Expr) (found : Expr) → read size (run ++ end_token ∷ []) ≡ answer → all_but_one answer ≡ Some found → SpellsExpr nesting run found × AreShallow (wants_of_expr found nesting)
      unfolding all_but_one
      alone_by (reading.good e rest) found h is = alone_good e found rest h (length rest == 1) refl is
      alone_by (reading.bad rest) found h is = absurd (cc)
      alone_by (reading.deep rest) found h is = absurd (cc)

      -- a run that is read alone is taken
      pub taken_alone : (found : Expr) → alone (read size) run ≡ Some found → IsTaken nesting (run ++ w ∷ following) found (length run)
      taken_alone found is =
          let s = alone_by (read size (run ++ end_token ∷ [])) found refl is in
          record { run = run; token = w; longest = longest_bad; spelled_ = s.0; shallow = s.1; count_is = refl }

      -- ---- a run that isn't read alone is no expression

      deep_by : (rest : List Token) (d : Deep (At 0 nesting) 200 (run ++ end_token ∷ []) rest) → read size (run ++ end_token ∷ []) ≡ reading.deep rest → Parting run d.front end_token d.token [] d.following → (e : Expr) → SpellsExpr nesting run e → ⊥
      deep_by rest d h (earlier between is tail) e s = nothing_following between d.token d.following tail
      deep_by rest d h (same is first tail) e s =
          ends run e s (subst (BeginsOf (ExprAt nesting)) (ap (λ u. u ++ d.token ∷ []) (sym is) ∙ ap (λ u. run ++ u ∷ []) (sym first)) (begins_deep (run ++ end_token ∷ []) rest d))
      deep_by rest d h (later between is tail) e s =
          never_deep d.front d.token between d.following is (ap (read size) (ap (λ u. d.front ++ u) (sym d.first) ∙ sym d.whole) ∙ h ∙ ap (λ u. reading.deep u) d.first)

      not_alone : (e : Expr) (rest : List Token) → length rest ≡ 1 → (b : Bool) → (length rest == 1) ≡ b → (if b then Some e else None) ≡ None → ⊥
      not_alone e rest one true is none = cc
      not_alone e rest one false is none = not_true (sym is ∙ one_is (length rest) one)

      found_not : (answer : Answer Expr) → read size (run ++ end_token ∷ []) ≡ answer → all_but_one answer ≡ None → (e : Expr) → SpellsExpr nesting run e → Found (read size) 200 e (wants_of_expr e nesting) run (end_token ∷ []) → ⊥
      unfolding all_but_one
      found_not (reading.good a rest) h none e s (inl found) =
          not_alone a rest (ap length (two_goods (read size (run ++ end_token ∷ [])) a e rest (end_token ∷ []) h found.0)) (length rest == 1) refl none
      found_not (reading.good a rest) h none e s (inr found) = good_or_deep (read size (run ++ end_token ∷ [])) a rest found.left h found.is
      found_not (reading.bad rest) h none e s (inl found) = good_or_bad (read size (run ++ end_token ∷ [])) e (end_token ∷ []) rest found.0 h
      found_not (reading.bad rest) h none e s (inr found) = bad_or_deep (read size (run ++ end_token ∷ [])) rest found.left h found.is
      found_not (reading.deep rest) h none e s found =
          let d = (reads size).deep (run ++ end_token ∷ []) rest h in
          deep_by rest d h (parting run d.front end_token d.token [] d.following (d.whole ∙ ap (λ u. d.front ++ u) d.first)) e s

      pub broken_alone : alone (read size) run ≡ None → (e : Expr) → SpellsExpr nesting run e → ⊥
      broken_alone none e s =
          found_not (read size (run ++ end_token ∷ [])) refl none e s ((reads size).all e (wants_of_expr e nesting) run (end_token ∷ []) (record { grammar = s.grammar; wants = refl }) s.fits end_stops enough_alone)

      -- ---- what could stand after it

      module _ (none : alone (read size) run ≡ None) (s : Sample) where
        abbrev list : List Token
        list = run ++ sample_of s ∷ end_token ∷ []

        enough_list : length list ≤ size
        enough_list = omega (arith, small, length-append run (w ∷ following), length-append run (sample_of s ∷ end_token ∷ []))

        good_by : (e : Expr) (front : List Token) (x : Token) (rest : List Token) → read size (front ++ x ∷ rest) ≡ reading.good e (x ∷ rest) → SpellsExpr nesting front e → Parting run front (sample_of s) x (end_token ∷ []) rest → BeginsOf (ExprAt nesting) (run ++ sample_of s ∷ [])
        good_by e front x rest h spells (earlier between is tail) = first_begins front run (sample_of s) between is (spelled_begins front e spells)
        good_by e front x rest h spells (same is first tail) = absurd (broken_alone none e (subst (λ u. SpellsExpr nesting u e) (sym is) spells))
        good_by e front x rest h spells (later between is tail) = absurd (never_good front x between rest e is h)

        can_good : (e : Expr) (rest front : List Token) → read size list ≡ reading.good e rest → list ≡ front ++ rest → SpellsExpr nesting front e → BeginsOf (ExprAt nesting) (run ++ sample_of s ∷ [])
        can_good e [] front h is spells = first_begins front run (sample_of s) (end_token ∷ []) (sym (append-nil front) ∙ sym is) (spelled_begins front e spells)
        can_good e (x ∷ rest) front h is spells = good_by e front x rest (ap (read size) (sym is) ∙ h) spells (parting run front (sample_of s) x (end_token ∷ []) rest is)

        says_yes : (answer : Answer Expr) → read size list ≡ answer → is_taken answer ≡ true → BeginsOf (ExprAt nesting) (run ++ sample_of s ∷ [])
        unfolding is_taken
        says_yes (reading.good e rest) h taken = let g = good_spells size list e rest h in can_good e rest g.0 h g.1.0 g.1.1.0
        says_yes (reading.bad rest) h taken =
            from_begins (run ++ sample_of s ∷ []) (probing.can_bad (At 0 nesting) 200 (Stops 0) read reads like [] nothing_stops size run following w bad (sample_of s) end_token rest (λ two. opposite (length rest == 2) taken (two_is (length rest) two)) h)
        says_yes (reading.deep rest) h taken = from_begins (run ++ sample_of s ∷ []) (probing.can_deep (At 0 nesting) 200 (Stops 0) read reads like [] nothing_stops size run following w bad (sample_of s) end_token rest h)

        two_by : (front : List Token) (x : Token) (rest : List Token) → length (x ∷ rest) ≡ 2 → Parting run front (sample_of s) x (end_token ∷ []) rest → x ∷ rest ≡ sample_of s ∷ end_token ∷ []
        two_by front x rest two (earlier between is tail) = absurd (omega (arith, two, ap length tail, length-append between (x ∷ rest)))
        two_by front x rest two (same is first tail) = ap (λ u. u ∷ rest) (sym first) ∙ ap (λ u. sample_of s ∷ u) (sym tail)
        two_by front x rest two (later between is tail) = absurd (omega (arith, two, ap length tail, length-append between (sample_of s ∷ end_token ∷ [])))

        two_left : (front rest : List Token) → list ≡ front ++ rest → length rest ≡ 2 → rest ≡ sample_of s ∷ end_token ∷ []
        two_left front [] is two = absurd (omega (arith, two))
        two_left front (x ∷ rest) is two = two_by front x rest two (parting run front (sample_of s) x (end_token ∷ []) rest is)

        says_no : (answer : Answer Expr) → read size list ≡ answer → is_taken answer ≡ false → BeginsOf (ExprAt nesting) (run ++ sample_of s ∷ []) → ⊥
        unfolding is_taken
        says_no (reading.good e rest) h taken b = not_true (sym taken)
        says_no (reading.bad rest) h taken b =
            let found = (reads size).bad list rest h in
            let rest_is = two_left found.front rest found.whole (is_two (length rest) (double (length rest == 2) taken)) in
            none_begins (At 0 nesting) 200 (Stops 0) read reads like [] nothing_stops size run (end_token ∷ []) (sample_of s) enough_list (h ∙ ap (λ u. reading.bad u) rest_is) (to_begins (run ++ sample_of s ∷ []) b)
        says_no (reading.deep rest) h taken b = not_true (sym taken)

        tells : Tells (can_stand (read size) run s) (BeginsOf (ExprAt nesting) (run ++ sample_of s ∷ []))
        tells = record { yes_ = λ h. says_yes (read size list) refl h; no_ = λ h. says_no (read size list) refl h }

      -- ---- the fault

      front_by : (front : List Token) → Parting run front w w following following → front ≡ run
      front_by front (earlier between is tail) = absurd (omega (arith, ap length tail, length-append between (w ∷ following)))
      front_by front (same is first tail) = sym is
      front_by front (later between is tail) = absurd (omega (arith, ap length tail, length-append between (w ∷ following)))

      front_of_bad : Bad (At 0 nesting) 200 (run ++ w ∷ following) (w ∷ following) → (b : BeginsOf (ExprAt nesting) run) × AreShallow b.pieces
      front_of_bad b =
          let is : b.front ≡ run = front_by b.front (parting run b.front w w following following b.whole) in
          (record { tree = b.tree; pieces = b.pieces; missing = b.missing; spelled_ = record { grammar = b.spelled.grammar; wants = b.spelled.wants }; fits = subst (λ u. Fits b.pieces u) is b.fits }, b.shallow)

      unread : (none : alone (read size) run ≡ None) → IsUnreadRun nesting (run ++ w ∷ following) run w (names_construct (can_stand (read size) run) run w)
      unread none =
          let b = front_of_bad ((reads size).bad (run ++ w ∷ following) (w ∷ following) bad) in
          record { unread = record { first = record { following = following; whole = refl; begins = b.0; shallow = b.1; none = longest_bad.none }; can = can_stand (read size) run; asked = tells none; names = refl }; broken = broken_alone none }

      named_fault : (b : Bool) → IsUnreadRun nesting (run ++ w ∷ following) run w b → IsFaultOf nesting (run ++ w ∷ following) (if b then fault.Construct (named_word w) w.place else fault.Expected w.place)
      unfolding IsFaultOf
      named_fault true u = (run, (w, (u, refl, refl)))
      named_fault false u = (run, (w, (u, refl)))

      pub fault_is : (none : alone (read size) run ≡ None) → IsFaultOf nesting (run ++ w ∷ following) (fault_of (can_stand (read size) run) run w)
      unfolding fault_of
      fault_is none = named_fault (names_construct (can_stand (read size) run) run w) (unread none)

      pub fault_none : (none : alone (read size) run ≡ None) (other : List Token) (v : Token) (expr : Expr) → IsRun nesting (run ++ w ∷ following) other v → SpellsExpr nesting other expr → ⊥
      fault_none none other v expr r s = unread_none (run ++ w ∷ following) run w (names_construct (can_stand (read size) run) run w) (unread none) other v expr r s
