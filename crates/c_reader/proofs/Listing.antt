-- Readers of lists of trees.
use Rattle.std.proofs.Common.{◌≡◌, ◌<◌, ℕ, ◌+◌, Bool, true, false, ◌&&◌, List, [], ◌∷◌, ◌++◌, length, map, refl, sym, ap, ◌∙◌, subst, arith}
use Rattle.std.proofs.lemmas.List.{append_assoc, append-nil, length-append}
use Rattle.std.specs.List.{list_all}
use Rattle.c_tree.specs.Pieces.{Piece, IsWanted, all_of, separated}
use Rattle.c_tree.specs.Expressions.{has_some}
use Rattle.c_tree.specs.declared.token.Token.{Token}
use Rattle.c_tree.specs.declared.token.TokenKind.TheVariants.{Mark}
use Rattle.c_reader.specs.Reading.{Reader, ◌>>=◌}
use Rattle.c_reader.specs.Tokens.{is_mark, read_mark}
use Rattle.c_reader.specs.Lists.{separated_by}
use Rattle.c_reader.proofs.Reader.{Language, Of, Reads}
use Rattle.c_reader.proofs.Binding.{Both, bind_reads}
use Rattle.c_reader.proofs.Giving.{Given, give_reads, reads_as}
use Rattle.c_reader.proofs.Taking.{Single}
use Rattle.c_reader.proofs.Choosing.{FirstIs}
use Rattle.c_reader.proofs.Repeating.{Several, many_reads, given_stops, several_given_stops, some_list}
use Rattle.c_reader.proofs.Beginning.{Begins, begins_both, begins_single, SomeOf, some_given}
use Rattle.c_reader.proofs.Joining.{in_both, in_single, in_given, onto}
use Rattle.c_reader.proofs.Spelt.{spelt, spelt_reads, spelled_yes}
use Rattle.c_reader.proofs.Truths.{and_left, and_right, and_both}

pub list_all_map : {A B : Type 0} (f : A → B) (test : B → Bool) (trees : List A) → list_all test (map f trees) ≡ list_all (λ a. test (f a)) trees
list_all_map f test [] = refl
list_all_map f test (a ∷ trees) = ap (λ b. test (f a) && b) (list_all_map f test trees)

module _ {A : Type 0} (ok : A → Bool) (f : A → ℕ → List Piece) (n : ℕ) where
  -- lists of trees, with what all of them want
  abbrev pub AllOf : Language (List A)
  AllOf = Of (list_all ok) (λ trees. all_of (map f trees) n)

  pub all_to : (trees : List A) (ps : List Piece) → Several (Of ok (λ a. f a n)) trees ps → AllOf trees ps
  unfolding Several all_of
  all_to [] ps is = record { grammar = refl; wants = is }
  all_to (a ∷ trees) ps is =
      let rest = all_to trees is.1.0 is.1.1.1 in
      record {
        grammar = and_both (ok a) (list_all ok trees) is.1.1.0.grammar rest.grammar;
        wants = onto is.1.1.2 is.1.1.0.wants rest.wants;
      }

  pub all_from : (trees : List A) (ps : List Piece) → AllOf trees ps → Several (Of ok (λ a. f a n)) trees ps
  unfolding Several all_of
  all_from [] ps is = is.wants
  all_from (a ∷ trees) ps is = (
    f a n,
    (
      all_of (map f trees) n,
      (record { grammar = and_left (ok a) (list_all ok trees) is.grammar; wants = refl }, all_from trees (all_of (map f trees) n) (record { grammar = and_right (ok a) (list_all ok trees) is.grammar; wants = refl }), is.wants),
    ),
  )

  -- lists of trees, one at least, with a mark between each two of them
  abbrev pub SeparatedOf : List ℕ → Language (List A)
  SeparatedOf text = Of (λ trees. has_some trees && list_all ok trees) (λ trees. separated text (map f trees) n)

  abbrev Followed : List ℕ → Language A
  Followed text = Both (Single (spelt Mark text n)) (λ u. Of ok (λ a. f a n))

  abbrev FirstAndRest : List ℕ → Language (List A)
  FirstAndRest text = Both (Of ok (λ a. f a n)) (λ first. Both (Several (Followed text)) (λ rest. Given (first ∷ rest)))

  unfoldable pub separated_rest : List ℕ → List A → List Piece
  separated_rest text [] = []
  separated_rest text (a ∷ trees) = (spelt Mark text n tt ∷ []) ++ (f a n ++ separated_rest text trees)

  rest_to : (text : List ℕ) (trees : List A) (ps : List Piece) → Several (Followed text) trees ps → (list_all ok trees ≡ true) × (ps ≡ separated_rest text trees)
  unfolding Several separated_rest
  rest_to text [] ps is = (refl, is)
  rest_to text (a ∷ trees) ps is =
      let b = is.1.1.0 in
      let rest = rest_to text trees is.1.0 is.1.1.1 in (
        and_both (ok a) (list_all ok trees) b.right.grammar rest.0,
        onto is.1.1.2 (onto b.whole b.left.one b.right.wants) rest.1 ∙ append_assoc (spelt Mark text n tt ∷ []) (f a n) (separated_rest text trees),
      )

  rest_from : (text : List ℕ) (trees : List A) → list_all ok trees ≡ true → Several (Followed text) trees (separated_rest text trees)
  unfolding Several separated_rest
  rest_from text [] all = refl
  rest_from text (a ∷ trees) all = (
    (spelt Mark text n tt ∷ []) ++ f a n,
    (
      separated_rest text trees,
      (
        in_both _ _ _ _ _ tt (in_single (spelt Mark text n) tt) (record { grammar = and_left (ok a) (list_all ok trees) all; wants = refl }),
        rest_from text trees (and_right (ok a) (list_all ok trees) all),
        sym (append_assoc (spelt Mark text n tt ∷ []) (f a n) (separated_rest text trees)),
      ),
    ),
  )

  pub separated_is : (text : List ℕ) (first : A) (rest : List A) → f first n ++ separated_rest text rest ≡ separated text (map f (first ∷ rest)) n
  unfolding separated separated_rest
  separated_is text first [] = append-nil (f first n)
  separated_is text first (second ∷ rest) =
      ap (λ u. f first n ++ ((spelt Mark text n tt ∷ []) ++ u)) (separated_is text second rest) ∙ sym (append_assoc (f first n) (spelt Mark text n tt ∷ []) (separated text (map f (second ∷ rest)) n))

  separated_to : (text : List ℕ) (trees : List A) (ps : List Piece) → FirstAndRest text trees ps → SeparatedOf text trees ps
  separated_to text trees ps b =
      let rest = rest_to text b.right.first b.right.pieces1 b.right.left in
      let is : trees ≡ b.first ∷ b.right.first = b.right.right.tree_is in
      record {
        grammar = ap (λ u. has_some u && list_all ok u) is ∙ and_both (ok b.first) (list_all ok b.right.first) b.left.grammar rest.0;
        wants = onto b.whole b.left.wants (onto b.right.whole rest.1 b.right.right.none ∙ append-nil (separated_rest text b.right.first))
            ∙ separated_is text b.first b.right.first ∙ ap (λ u. separated text (map f u) n) (sym is);
      }

  separated_from : (text : List ℕ) (trees : List A) (ps : List Piece) → SeparatedOf text trees ps → FirstAndRest text trees ps
  separated_from text [] ps is = absurd (cc)
  separated_from text (first ∷ rest) ps is =
      subst (λ u. FirstAndRest text (first ∷ rest) u) (ap (λ u. f first n ++ u) (append-nil (separated_rest text rest)) ∙ separated_is text first rest ∙ sym is.wants)
      (in_both _ _ _ _ _ first (record { grammar = and_left (ok first) (list_all ok rest) is.grammar; wants = refl })
      (in_both _ _ _ _ _ rest (rest_from text rest (and_right (ok first) (list_all ok rest) is.grammar)) (in_given (first ∷ rest))))

module _ {A : Type 0} (ok : A → Bool) (f : A → ℕ → List Piece) (most size n left : ℕ) (level : n + left ≡ most + 1) (text : List ℕ)
    (StopsA Stops : List Token → Type 0) (read : Reader A) (F : Reads (Of ok (λ a. f a n)) most size StopsA read)
    (some : SomeOf (Of ok (λ a. f a n)))
    (goes_on : (ts : List Token) → FirstIs (is_mark text) true ts → StopsA ts)
    (ends : (ts : List Token) → Stops ts → StopsA ts)
    (stops : (ts : List Token) → Stops ts → FirstIs (is_mark text) false ts) where
  mark_begins : Begins (Followed ok f n text) (is_mark text) true
  unfolding IsWanted
  mark_begins = begins_both _ _ (is_mark text) true (begins_single (spelt Mark text n) (is_mark text) true (λ u w takes. spelled_yes Mark text w takes.0.0 takes.0.1))

  following_reads : Reads (Followed ok f n text) most size StopsA (read_mark text left >>= λ separator. read)
  following_reads = bind_reads _ _ most size (λ ts. Unit {0}) StopsA _ _ (spelt_reads most size (λ ts. Unit {0}) Mark text n left level) (λ u. F) (λ u ps is. some) (λ u c qs ys rest is fits stop. tt)

  following_some : (a : A) (ps : List Piece) → Followed ok f n text a ps → 0 < length ps
  following_some a ps is = omega (arith, ap length is.whole, ap length is.left.one, length-append is.pieces1 is.pieces2)

  pub separated_reads : Reads (SeparatedOf ok f n text) most size Stops (separated_by size text left read)
  unfolding separated_by
  separated_reads =
      reads_as (separated_to ok f n text) (separated_from ok f n text)
      (bind_reads _ _ most size StopsA Stops _ _ F
      (λ first. bind_reads _ _ most size Stops Stops _ _
      (many_reads (Followed ok f n text) most size StopsA Stops (is_mark text) (read_mark text left >>= λ separator. read) following_reads mark_begins goes_on ends stops following_some)
      (λ rest. give_reads (first ∷ rest) most size Stops)
      (λ rest ps is. some_given (first ∷ rest))
      (λ rest c qs ys more is fits stop. given_stops (first ∷ rest) c qs ys more Stops is fits stop))
      (λ first ps is. some_list (Followed ok f n text) (λ rest. first ∷ rest))
      (λ first c qs ys more is fits stop. several_given_stops (Followed ok f n text) (λ rest. first ∷ rest) (is_mark text) StopsA Stops mark_begins goes_on ends c qs ys more is fits stop))

-- every tree and all pieces
abbrev Everything : {A : Type 0} → Language A
Everything tree pieces = Unit {0}

-- a list with separators begins as its first part does
pub separated_begins : {A : Type 0} (ok : A → Bool) (f : A → ℕ → List Piece) (n : ℕ) (text : List ℕ) (test : Token → Bool) (b : Bool) → Begins (Of ok (λ a. f a n)) test b → Begins (SeparatedOf ok f n text) test b
separated_begins ok f n text test b begins [] ps front rest is fits = absurd (cc)
separated_begins ok f n text test b begins (first ∷ others) ps front rest is fits =
    begins_both (Of ok (λ a. f a n)) (λ a. Everything) test b begins first ps front rest
    (record { first = first; pieces1 = f first n; pieces2 = separated_rest ok f n text others; left = record { grammar = and_left (ok first) (list_all ok others) is.grammar; wants = refl }; right = tt; whole = is.wants ∙ sym (separated_is ok f n text first others) })
    fits
