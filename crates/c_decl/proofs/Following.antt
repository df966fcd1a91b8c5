-- The readers of what follows the first part of a list: a mark and a part, as often as they stand there.
use Rattle.std.proofs.Common.{◌≡◌, ◌<◌, ℕ, ◌+◌, Bool, true, false, List, [], ◌∷◌, ◌++◌, length, refl, sym, ap, ◌∙◌, subst, arith}
use Rattle.std.proofs.lemmas.List.{append_assoc, append-nil, length-append}
use Rattle.std.specs.List.{list_all}
use Rattle.c_tree.specs.Pieces.{Piece, IsWanted, Fits}
use Rattle.c_tree.specs.declared.token.Token.{Token}
use Rattle.c_tree.specs.declared.token.TokenKind.TheVariants.{Mark}
use Rattle.c_reader.specs.Reading.{Reader, ◌>>=◌, many}
use Rattle.c_reader.specs.Tokens.{is_mark, read_mark}
use Rattle.c_reader.proofs.Reader.{Language, Of, Reads}
use Rattle.c_reader.proofs.Binding.{Both, bind_reads}
use Rattle.c_reader.proofs.Giving.{Given, reads_as}
use Rattle.c_reader.proofs.Taking.{Single}
use Rattle.c_reader.proofs.Choosing.{FirstIs}
use Rattle.c_reader.proofs.Repeating.{Several, many_reads, several_stops}
use Rattle.c_reader.proofs.Beginning.{Begins, begins_both, begins_single, SomeOf}
use Rattle.c_reader.proofs.Joining.{in_both, in_single, onto}
use Rattle.c_reader.proofs.Listing.{separated_rest}
use Rattle.c_reader.proofs.Spelt.{spelt, spelt_reads, spelled_yes}
use Rattle.c_grammar.proofs.Suffixes.{Any}
use Rattle.c_reader.proofs.Truths.{and_left, and_right, and_both}

module _ {A : Type 0} (ok : A → Bool) (f : A → ℕ → List Piece) (n : ℕ) (text : List ℕ) where
  -- the parts but the first, each with a mark before it
  abbrev pub RestOf : Language (List A)
  RestOf = Of (list_all ok) (λ trees. separated_rest ok f n text trees)

  abbrev Marked : Language A
  Marked = Both (Single (spelt Mark text n)) (λ u. Of ok (λ a. f a n))

  rest_to : (trees : List A) (ps : List Piece) → Several Marked trees ps → RestOf trees ps
  unfolding Several separated_rest
  rest_to [] ps is = record { grammar = refl; wants = is }
  rest_to (a ∷ trees) ps is =
      let b = is.1.1.0 in
      let rest = rest_to trees is.1.0 is.1.1.1 in
      record {
        grammar = and_both (ok a) (list_all ok trees) b.right.grammar rest.grammar;
        wants = onto is.1.1.2 (onto b.whole b.left.one b.right.wants) rest.wants ∙ append_assoc (spelt Mark text n tt ∷ []) (f a n) (separated_rest ok f n text trees);
      }

  rest_all : (trees : List A) → list_all ok trees ≡ true → Several Marked trees (separated_rest ok f n text trees)
  unfolding Several separated_rest
  rest_all [] all = refl
  rest_all (a ∷ trees) all = (
    (spelt Mark text n tt ∷ []) ++ f a n,
    (
      separated_rest ok f n text trees,
      (
        in_both _ _ _ _ _ tt (in_single (spelt Mark text n) tt) (record { grammar = and_left (ok a) (list_all ok trees) all; wants = refl }),
        rest_all trees (and_right (ok a) (list_all ok trees) all),
        sym (append_assoc (spelt Mark text n tt ∷ []) (f a n) (separated_rest ok f n text trees)),
      ),
    ),
  )

  rest_from : (trees : List A) (ps : List Piece) → RestOf trees ps → Several Marked trees ps
  rest_from trees ps is = subst (λ u. Several Marked trees u) (sym is.wants) (rest_all trees is.grammar)

  mark_begins : Begins Marked (is_mark text) true
  unfolding IsWanted
  mark_begins = begins_both _ _ (is_mark text) true (begins_single (spelt Mark text n) (is_mark text) true (λ u w takes. spelled_yes Mark text w takes.0.0 takes.0.1))

  pub some_rest : SomeOf RestOf
  unfolding separated_rest
  some_rest = ([], ([], record { grammar = refl; wants = refl }))

  -- what stands after the first part, by what may stand after the list
  pub rest_stops : {C : Type 0} (make : List A → C) (StopsA Stops : List Token → Type 0) → ((ts : List Token) → FirstIs (is_mark text) true ts → StopsA ts) → ((ts : List Token) → Stops ts → StopsA ts)
      → (c : C) (ps : List Piece) (ys rest : List Token) → Both RestOf (λ trees. Given (make trees)) c ps → Fits ps ys → Stops rest → StopsA (ys ++ rest)
  rest_stops make StopsA Stops goes_on ends c ps ys rest b fits stop =
      let e : ps ≡ b.pieces1 = b.whole ∙ ap (λ u. b.pieces1 ++ u) b.right.none ∙ append-nil b.pieces1 in
      several_stops Marked (is_mark text) StopsA Stops mark_begins goes_on ends b.first b.pieces1 ys rest (rest_from b.first b.pieces1 b.left) (subst (λ u. Fits u ys) e fits) stop

  marked_some : (a : A) (ps : List Piece) → Marked a ps → 0 < length ps
  marked_some a ps is = omega (arith, ap length is.whole, ap length is.left.one, length-append is.pieces1 is.pieces2)

  pub rest_reads : (most size left : ℕ) → n + left ≡ most + 1 → (StopsA Stops : List Token → Type 0) (read : Reader A) → Reads (Of ok (λ a. f a n)) most size StopsA read → SomeOf (Of ok (λ a. f a n))
      → ((ts : List Token) → FirstIs (is_mark text) true ts → StopsA ts) → ((ts : List Token) → Stops ts → StopsA ts) → ((ts : List Token) → Stops ts → FirstIs (is_mark text) false ts)
      → Reads RestOf most size Stops (many size (is_mark text) (read_mark text left >>= λ separator. read))
  rest_reads most size left level StopsA Stops read F some goes_on ends stops =
      reads_as rest_to rest_from
      (many_reads Marked most size StopsA Stops (is_mark text) (read_mark text left >>= λ separator. read)
      (bind_reads _ _ most size Any StopsA _ _ (spelt_reads most size Any Mark text n left level) (λ u. F) (λ u ps is. some) (λ u c qs ys rest is fits stop. tt))
      mark_begins goes_on ends stops marked_some)
