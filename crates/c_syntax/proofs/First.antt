-- What the reader of programs answers, in terms of the programs that begin with some tokens.
use Rattle.std.proofs.Common.{◌≡◌, ◌≤◌, inl, inr, ℕ, suc, ◌+◌, true, List, [], ◌∷◌, ◌++◌, length, Some, refl, sym, ap, ◌∙◌, subst, arith}
use Rattle.std.proofs.lemmas.List.{append_assoc, append-nil}
use Rattle.c_tree.specs.Pieces.{Piece, spelled, IsWanted, Takes, Fits}
use Rattle.c_tree.specs.Programs.{wants_of_program, ProgramTree}
use Rattle.c_tree.specs.TokenLists.{is_closed, is_inner, is_inner_of, is_end_kind}
use Rattle.c_tree.specs.declared.token.Place.{Place}
use Rattle.c_tree.specs.declared.token.Token.{Token}
use Rattle.c_tree.specs.declared.token.TokenKind.{TokenKind}
use Rattle.c_tree.specs.declared.token.TokenKind.TheVariants.{End}
use Rattle.c_reader.specs.Reading as reading
use Rattle.c_reader.proofs.Reader.{Found, Reads}
use Rattle.c_reader.proofs.Binding.{fits_part, not_within}
use Rattle.c_reader.proofs.Nesting.{limit_of, within_more, within_limit, one_of, nested_alike}
use Rattle.c_reader.proofs.Truths.{not_true, and_left, and_right}
use Rattle.c_reader.proofs.Probing.{begins_less, none_begins}
use Rattle.c_reader.proofs.Probing as probing
use Rattle.c_reader.proofs.Shrinking.{Like}
use Rattle.c_grammar.proofs.Suffixes.{Any}
use Rattle.c_syntax.specs.Items.{read_program}
use Rattle.c_reader.specs.Depths.{most_nesting, AreShallow, AreWithin}
use Rattle.c_reader.specs.Firsts.{BeginsOf, IsFirstFault, IsFirstDeep}
use Rattle.c_syntax.specs.Programs.{pieces_of, IsSpelled, ProgramAt}
use Rattle.c_syntax.proofs.Programming.{program_reads}
use Rattle.c_syntax.proofs.Sizing.{program_like}

abbrev pub reads : (size : ℕ) → Reads ProgramAt most_nesting size Any (read_program size 201)
reads size = program_reads most_nesting size 201 refl

abbrev like : (k s t : ℕ) → k ≤ s → k ≤ t → Like k 0 (read_program s 201) (read_program t 201)
like k s t enough also = program_like k s t enough also 201

-- ---- the end is the last token

no_end_inside : (k : TokenKind) (w : Token) → w.kind ≡ k → is_end_kind k ≡ true → is_inner w ≡ true → ⊥
no_end_inside End w is yes_ inside = not_true (sym (ap (λ u. is_inner_of u w) is) ∙ inside)
no_end_inside k w is yes_ inside = absurd (not_true yes_)

end_last : (xs : List Token) (w : Token) (ys : List Token) → is_closed (xs ++ w ∷ ys) ≡ true → is_end_kind w.kind ≡ true → ys ≡ []
end_last [] w [] closed is = refl
end_last [] w (y ∷ ys) closed is = absurd (no_end_inside w.kind w refl is (and_left (is_inner w) (is_closed (y ∷ ys)) closed))
end_last (x ∷ []) w ys closed is = end_last [] w ys (and_right (is_inner x) (is_closed (w ∷ ys)) closed) is
end_last (x ∷ x2 ∷ xs) w ys closed is = end_last (x2 ∷ xs) w ys (and_right (is_inner x) (is_closed (x2 ∷ xs ++ w ∷ ys)) closed) is

-- tokens that end with the end
record Ended (ts : List Token) : Type 0 where
  pub before : List Token
  pub end : Token
  pub is : is_end_kind end.kind ≡ true
  pub whole : ts ≡ before ++ end ∷ []

pub one_left : (place : Place) (text : List ℕ) (ys : List Token) → Fits (record { nesting = 0; place = Some place; want = spelled End text } ∷ []) ys → (w : Token) × ((ys ≡ w ∷ []) × (is_end_kind w.kind ≡ true))
unfolding Fits IsWanted
one_left place text [] fits = absurd fits
one_left place text (y ∷ []) fits = (y, (refl, ap is_end_kind fits.0.0.0))
one_left place text (y ∷ z ∷ ys) fits = absurd fits.1

ended : (p : ProgramTree) (text : List ℕ) (ts : List Token) → Fits (pieces_of p text) ts → Ended ts
ended p text ts fits =
    let parted = fits_part (wants_of_program p) _ ts fits in
    let last = one_left p.end text parted.following parted.right in
    record { before = parted.front; end = last.0; is = last.1.1; whole = parted.whole ∙ ap (λ u. parted.front ++ u) last.1.0 }

-- ---- the answers

module _ (size : ℕ) (ts : List Token) (small : length ts ≤ size) where
  abbrev read : reading.Answer ProgramTree
  read = read_program size 201 ts

  pub first_fault_with : (w : Token) (following : List Token) → read ≡ reading.bad (w ∷ following) → (before : List Token) × (IsFirstFault ProgramAt ts before w × (ts ≡ before ++ w ∷ following))
  first_fault_with w following h =
      let b = (reads size).bad ts (w ∷ following) h in (
        b.front,
        (
          record {
            following = following;
            whole = b.whole;
            begins = record { tree = b.tree; pieces = b.pieces; missing = b.missing; spelled_ = b.spelled; fits = b.fits };
            shallow = b.shallow;
            none = λ more. none_begins ProgramAt most_nesting Any (λ k. read_program k 201) reads like [] tt size b.front following w (subst (λ u. length u ≤ size) b.whole small) (ap (read_program size 201) (sym b.whole) ∙ h) more;
          },
          b.whole,
        ),
      )

  pub first_deep : (w : Token) (following : List Token) → read ≡ reading.deep (w ∷ following) → (before : List Token) × IsFirstDeep ProgramAt ts before w
  first_deep w following h =
      let d = (reads size).deep ts (w ∷ following) h in
      let same : d.token ≡ w = cc in (
        d.front,
        record {
          following = following;
          whole = d.whole;
          tree = d.tree;
          pieces = d.pieces;
          piece = d.piece;
          missing = d.missing;
          spelled_ = d.spelled;
          fits = d.fits;
          takes = subst (λ u. Takes d.piece u) same d.takes;
          shallow = d.shallow;
          deep = d.deep;
        },
      )

  -- what is read is spelled, to the end
  pub spelled_whole : is_closed ts ≡ true → (p : ProgramTree) (rest : List Token) → read ≡ reading.good p rest → (rest ≡ []) × ((s : IsSpelled ts p) × AreShallow (pieces_of p s.ending))
  spelled_whole closed p rest h =
      let g = (reads size).good ts p rest h in
      let of_p : Fits (pieces_of p g.spelled.ending) g.front = subst (λ u. Fits u g.front) g.spelled.wants g.fits in
      let e = ended p g.spelled.ending g.front of_p in
      let whole : ts ≡ e.before ++ e.end ∷ rest = g.whole ∙ ap (λ u. u ++ rest) e.whole ∙ append_assoc e.before (e.end ∷ []) rest in
      let none : rest ≡ [] = end_last e.before e.end rest (subst (λ u. is_closed u ≡ true) whole closed) e.is in
      let all : ts ≡ g.front = g.whole ∙ ap (λ u. g.front ++ u) none ∙ append-nil g.front in
      (none, (record { grammar = g.spelled.grammar; ending = g.spelled.ending; fits = subst (λ u. Fits (pieces_of p g.spelled.ending) u) (sym all) of_p }, subst (λ u. AreWithin most_nesting u) g.spelled.wants g.shallow))

  found_whole : (p : ProgramTree) (ps : List Piece) → AreWithin most_nesting ps → Found (read_program size 201) most_nesting p ps ts [] → read ≡ reading.good p []
  found_whole p ps s (inl h) = ap (read_program size 201) (sym (append-nil ts)) ∙ h.0
  found_whole p ps s (inr h) = absurd (not_within most_nesting ps ts [] h.left h.place s)

  -- what is spelled is read, unless it is nested too deeply
  pub spelled_read : (p : ProgramTree) (s : IsSpelled ts p) → AreShallow (pieces_of p s.ending) → read ≡ reading.good p []
  spelled_read p s shallow =
      found_whole p (pieces_of p s.ending) shallow
      ((reads size).all p (pieces_of p s.ending) ts [] (record { grammar = s.grammar; ending = s.ending; wants = refl }) s.fits tt (subst (λ u. length u ≤ size) (sym (append-nil ts)) small))

-- ---- a list of tokens spells one program at most

pub one_program : (a b : ProgramTree) (ts : List Token) → IsSpelled ts a → IsSpelled ts b → a ≡ b
one_program a b ts left right =
    let d = limit_of (pieces_of a left.ending) in
    let e = limit_of (pieces_of b right.ending) in
    let most = d + e in
    one_of (program_reads most (length (ts ++ [])) (suc most) (omega arith)) [] tt a b (pieces_of a left.ending) (pieces_of b right.ending) ts
    (record { grammar = left.grammar; ending = left.ending; wants = refl }) (record { grammar = right.grammar; ending = right.ending; wants = refl }) left.fits right.fits
    (within_more d most (omega arith) (pieces_of a left.ending) (within_limit (pieces_of a left.ending))) (within_more e most (omega arith) (pieces_of b right.ending) (within_limit (pieces_of b right.ending))) (omega arith)

-- ---- programs that begin with the same tokens nest these alike

pub programs_alike : (most : ℕ) (tokens : List Token) (a b : BeginsOf ProgramAt tokens) → AreWithin most a.pieces → AreWithin most b.pieces
programs_alike most tokens a b s = nested_alike ProgramAt most Any (λ size. read_program size (suc most)) (λ size. program_reads most size (suc most) (omega arith)) [] tt tokens a b s

-- ---- what could stand in the place of a fault

-- a fault after some tokens, and another token and an end after them
module _ (size : ℕ) (before following : List Token) (w : Token) (fault : read_program size 201 (before ++ w ∷ following) ≡ reading.bad (w ∷ following)) (v e : Token) where
  abbrev list : List Token
  list = before ++ v ∷ e ∷ []

  pub cannot : length list ≤ size → read_program size 201 list ≡ reading.bad (v ∷ e ∷ []) → BeginsOf ProgramAt (before ++ v ∷ []) → ⊥
  cannot small h b = none_begins ProgramAt most_nesting Any (λ k. read_program k 201) reads like [] tt size before (e ∷ []) v small h b

  pub can_good : length list ≤ size → is_closed list ≡ true → (p : ProgramTree) (rest : List Token) → read_program size 201 list ≡ reading.good p rest → BeginsOf ProgramAt (before ++ v ∷ [])
  can_good small closed p rest h =
      let s = (spelled_whole size list small closed p rest h).1.0 in
      let all : Fits (pieces_of p s.ending) ((before ++ v ∷ []) ++ e ∷ []) = subst (λ u. Fits (pieces_of p s.ending) u) (sym (append_assoc before (v ∷ []) (e ∷ []))) s.fits in
      (begins_less ProgramAt (before ++ v ∷ []) (e ∷ [])
      (record { tree = p; pieces = pieces_of p s.ending; missing = []; spelled_ = record { grammar = s.grammar; ending = s.ending; wants = append-nil (pieces_of p s.ending) }; fits = all }))

  pub can_bad : (rest : List Token) → (length rest ≡ 2 → ⊥) → read_program size 201 list ≡ reading.bad rest → BeginsOf ProgramAt (before ++ v ∷ [])
  can_bad rest differs h = (probing.can_bad ProgramAt most_nesting Any (λ k. read_program k 201) reads like [] tt size before following w fault v e rest differs h)

  pub can_deep : (rest : List Token) → read_program size 201 list ≡ reading.deep rest → BeginsOf ProgramAt (before ++ v ∷ [])
  can_deep rest h = (probing.can_deep ProgramAt most_nesting Any (λ k. read_program k 201) reads like [] tt size before following w fault v e rest h)
