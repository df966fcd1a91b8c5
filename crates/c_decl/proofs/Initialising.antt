-- The readers of initialisers: each is read, and what is read is one. A list in braces is nested in its initialiser, so the readers of
-- its parts are those of one level less, and at no level left its brace is too deep.
use Rattle.std.proofs.Common.{◌≡◌, ◌<◌, ℕ, zero, suc, ◌+◌, Bool, true, false, ◌&&◌, List, [], ◌∷◌, ◌++◌, map, refl, sym, ap, ◌∙◌, subst, arith, codes}
use Rattle.std.proofs.lemmas.List.{append_assoc, append-nil}
use Rattle.std.specs.List.{list_all}
use Rattle.c_tree.specs.Pieces.{Piece, IsWanted, Fits, separated}
use Rattle.c_tree.specs.Folds.{wants_of_expr}
use Rattle.c_tree.specs.Types.{comma_if}
use Rattle.c_tree.specs.Expressions.{has_some}
use Rattle.c_tree.specs.Declarations.{wants_of_init, is_init}
use Rattle.c_tree.specs.declared.token.Place.{Place}
use Rattle.c_tree.specs.declared.token.Token.{Token}
use Rattle.c_tree.specs.declared.expressions.TrailingComma.{TrailingComma}
use Rattle.c_tree.specs.declared.expressions.TrailingComma.TheVariants.{Absent, Present}
use Rattle.c_tree.specs.declared.token.TokenKind.{TokenKind}
use Rattle.c_tree.specs.declared.token.TokenKind.TheVariants.{Mark}
use Rattle.c_tree.specs.declared.statements.Initializer.{Initializer}
use Rattle.c_tree.specs.declared.statements.Initializer.TheVariants as init
use Rattle.c_reader.specs.Reading.{Reader, ◌>>=◌, give, choose}
use Rattle.c_reader.specs.Tokens.{is_mark, is_spelled, is_kind, spelled_by, found_by, found_in, read_mark}
use Rattle.c_grammar.specs.Tokens.{goes_by, suffix_by, expr_by}
use Rattle.c_reader.specs.Lists.{read_more}
use Rattle.c_grammar.specs.Levels.{readers_at}
use Rattle.c_reader.proofs.Reader.{Language, Of, Reads}
use Rattle.c_reader.proofs.Binding.{Both, bind_reads, fits_part}
use Rattle.c_reader.proofs.Giving.{Given, give_reads, reads_as}
use Rattle.c_reader.proofs.Taking.{Single}
use Rattle.c_reader.proofs.Choosing.{FirstIs, Either, this, that, choose_reads}
use Rattle.c_reader.proofs.Repeating.{given_stops}
use Rattle.c_reader.proofs.Beginning.{Begins, begins_both, begins_single, SomeOf, some_both, some_single, some_given}
use Rattle.c_reader.proofs.Joining.{in_both, in_single, in_given, onto, join4}
use Rattle.c_reader.proofs.Listing.{list_all_map, separated_rest, separated_is}
use Rattle.c_reader.proofs.Spelt.{by_text, spelled_yes, spelt, spelt_at, spelt_reads}
use Rattle.c_grammar.proofs.Starting.{Suits, begins_at, begins_cons}
use Rattle.c_grammar.proofs.Suffixes.{At, Stops, Any, some_at}
use Rattle.c_grammar.proofs.Primaries.{prefix_all, first_from}
use Rattle.c_grammar.proofs.Enums.{end_if, more_reads}
use Rattle.c_grammar.proofs.Levels.{all_read}
use Rattle.c_reader.proofs.Truths.{not_true, and_left, and_right, and_both, has_map}
use Rattle.c_decl.specs.Declarations.{init_by, starts_init, read_list, read_init}
use Rattle.c_decl.proofs.Initial.{cases_Initializer, wants_Initializer_Expression, wants_Initializer_List, is_Initializer_Expression, is_Initializer_List}
use Rattle.c_decl.proofs.Refusing.{spelt_at_bind}

abbrev pub InitAt : ℕ → Language Initializer
InitAt n = Of is_init (λ t. wants_of_init t n)

-- what is so of each token with which an expression can begin, and of an opening brace
pub init_begins : (n : ℕ) (by : TokenKind → List ℕ → Bool) (b : Bool) → Suits by b → by Mark (codes "{") ≡ b → Begins (InitAt n) (λ w. by w.kind w.text) b
unfolding IsWanted
init_begins n by b suits brace = cases_Initializer (λ t. (ps : List Piece) (front rest : List Token) → InitAt n t ps → Fits ps front → FirstIs (λ w. by w.kind w.text) b (front ++ rest))
    (λ value ps front rest is fits. begins_at by b suits n 0 value ps front rest (record { grammar = sym (is_Initializer_Expression value) ∙ is.grammar; wants = is.wants ∙ ap (λ f. f n) (wants_Initializer_Expression value) }) fits)
    (λ place parts comma ps front rest is fits. begins_cons (spelt_at Mark (codes "{") (n + 1) place) (λ w. by w.kind w.text) b (λ w takes. by_text by Mark (codes "{") b w takes.0.0 takes.0.1 brace) ps _ front rest (is.wants ∙ ap (λ f. f n) (wants_Initializer_List place parts comma)) fits)

suits_init : Suits init_by true
unfolding init_by expr_by spelled_by found_by found_in
suits_init = record { name = λ t. refl; integer = λ t. refl; character = λ t. refl; yes_ = refl; no_ = refl; bracket = refl; prefix = prefix_all init_by true refl refl refl refl refl refl }

no_brace : Suits (spelled_by Mark (codes "{")) false
unfolding spelled_by
no_brace = record { name = λ t. refl; integer = λ t. refl; character = λ t. refl; yes_ = refl; no_ = refl; bracket = refl; prefix = prefix_all (spelled_by Mark (codes "{")) false refl refl refl refl refl refl }

starts : (n : ℕ) → Begins (InitAt n) starts_init true
unfolding init_by expr_by spelled_by found_by found_in
starts n = init_begins n init_by true suits_init refl

pub some_init : (n : ℕ) → SomeOf (InitAt n)
some_init n =
    let e = some_at 0 n (omega arith) in
    (init.Expression e.0, (e.1.0, record { grammar = is_Initializer_Expression e.0 ∙ e.1.1.grammar; wants = e.1.1.wants ∙ sym (ap (λ f. f n) (wants_Initializer_Expression e.0)) }))

-- a list's parts end at a closing brace
abbrev Closed : List Token → Type 0
Closed = FirstIs (is_mark (codes "}")) true

comma_stops : (ts : List Token) → FirstIs (is_mark (codes ",")) true ts → Stops 0 ts
unfolding goes_by suffix_by spelled_by found_by found_in
comma_stops = first_from Mark (codes ",") (goes_by 0) false refl

brace_stops : (ts : List Token) → Closed ts → Stops 0 ts
unfolding goes_by suffix_by spelled_by found_by found_in
brace_stops = first_from Mark (codes "}") (goes_by 0) false refl

no_comma : (ts : List Token) → Closed ts → FirstIs (is_mark (codes ",")) false ts
unfolding spelled_by is_spelled is_kind
no_comma = first_from Mark (codes "}") (spelled_by Mark (codes ",")) false refl

no_start : (ts : List Token) → Closed ts → FirstIs starts_init false ts
unfolding init_by expr_by spelled_by found_by found_in
no_start = first_from Mark (codes "}") init_by false refl

-- ---- the parts after the first, nested in a list

module _ (n : ℕ) where
  abbrev RestAt : Language (List Initializer × TrailingComma)
  RestAt = Of (λ r. list_all is_init r.0) (λ r. separated_rest is_init wants_of_init n (codes ",") r.0 ++ comma_if r.1 n)

  comma_first : (w : Token) → IsWanted (spelt Mark (codes ",") n tt).want w → is_mark (codes ",") w ≡ true
  unfolding IsWanted
  comma_first w wanted = spelled_yes Mark (codes ",") w wanted.0 wanted.1

  rest_stops : (items : List Initializer) (last : TrailingComma) (ps : List Piece) (ys more : List Token) → RestAt (items, last) ps → Fits ps ys → Closed more → Stops 0 (ys ++ more)
  unfolding separated_rest
  rest_stops [] Absent ps ys more is fits stop = given_stops false false ps ys more (Stops 0) (record { tree_is = refl; none = is.wants }) fits (brace_stops more stop)
  rest_stops [] Present ps ys more is fits stop = comma_stops (ys ++ more) (begins_cons (spelt Mark (codes ",") n tt) (is_mark (codes ",")) true (λ w takes. comma_first w takes.0) ps [] ys more is.wants fits)
  rest_stops (a ∷ items) last ps ys more is fits stop = comma_stops (ys ++ more) (begins_cons (spelt Mark (codes ",") n tt) (is_mark (codes ",")) true (λ w takes. comma_first w takes.0) ps _ ys more is.wants fits)

  some_rest : SomeOf RestAt
  unfolding separated_rest
  some_rest = (([], Absent), ([], record { grammar = refl; wants = refl }))

  module _ (most size left : ℕ) (level : n + left ≡ most + 1) (read : Reader Initializer) (F : Reads (InitAt n) most size (Stops 0) read) where
    comma_is : (last : TrailingComma) → end_if is_init wants_of_init most size n left level (codes ",") starts_init (Stops 0) Closed read F (starts n) comma_stops brace_stops no_comma no_start last ≡ comma_if last n
    comma_is Absent = refl
    comma_is Present = refl

    rest_read : Reads RestAt most size Closed (read_more size (codes ",") starts_init left read)
    rest_read =
        reads_as (λ r ps is. record { grammar = is.grammar; wants = is.wants ∙ ap (λ u. separated_rest is_init wants_of_init n (codes ",") r.0 ++ u) (comma_is r.1) })
        (λ r ps is. record { grammar = is.grammar; wants = is.wants ∙ ap (λ u. separated_rest is_init wants_of_init n (codes ",") r.0 ++ u) (sym (comma_is r.1)) })
        (more_reads is_init wants_of_init most size n left level (codes ",") starts_init (Stops 0) Closed read F (starts n) comma_stops brace_stops no_comma no_start)

-- ---- lists and expressions

module _ (n : ℕ) where
  abbrev EndL : Initializer → Language Initializer
  EndL t = Both (Single (spelt Mark (codes "}") (n + 1))) (λ closing. Given t)

  abbrev PartsL : Place → Language Initializer
  PartsL place = Both (InitAt (n + 1)) (λ first. Both (RestAt (n + 1)) (λ rest. EndL (init.List place (first ∷ rest.0) rest.1)))

  abbrev ListL : Language Initializer
  ListL = Both (Single (spelt_at Mark (codes "{") (n + 1))) PartsL

  abbrev ValueL : Language Initializer
  ValueL = Both (At 0 n) (λ value. Given (init.Expression value))

  abbrev InitL : Language Initializer
  InitL = Either ListL ValueL

  closes : Begins (Single (spelt Mark (codes "}") (n + 1))) (is_mark (codes "}")) true
  unfolding IsWanted
  closes = begins_single (spelt Mark (codes "}") (n + 1)) (is_mark (codes "}")) true (λ u w takes. spelled_yes Mark (codes "}") w takes.0.0 takes.0.1)

  some_end : (t : Initializer) → SomeOf (EndL t)
  some_end t = some_both _ _ (some_single (spelt Mark (codes "}") (n + 1)) tt) (λ closing. some_given t)

  some_after : (place : Place) (first : Initializer) → SomeOf (Both (RestAt (n + 1)) (λ rest. EndL (init.List place (first ∷ rest.0) rest.1)))
  some_after place first = some_both _ _ (some_rest (n + 1)) (λ rest. some_end (init.List place (first ∷ rest.0) rest.1))

  some_parts : (place : Place) → SomeOf (PartsL place)
  some_parts place = some_both _ _ (some_init (n + 1)) (some_after place)

  first_stops : (place : Place) (first t : Initializer) (qs : List Piece) (ys more : List Token) → Both (RestAt (n + 1)) (λ rest. EndL (init.List place (first ∷ rest.0) rest.1)) t qs → Fits qs ys → Stops 0 (ys ++ more)
  first_stops place first t qs ys more b fits =
      let parted = fits_part b.pieces1 b.pieces2 ys (subst (λ u. Fits u ys) b.whole fits) in
      subst (Stops 0) (sym (ap (λ u. u ++ more) parted.whole ∙ append_assoc parted.front parted.following more))
      (rest_stops (n + 1) b.first.0 b.first.1 b.pieces1 parted.front (parted.following ++ more) b.left parted.left (begins_both _ _ (is_mark (codes "}")) true closes t b.pieces2 parted.following more b.right parted.right))

  list_flat : (place : Place) (first : Initializer) (items : List Initializer) (last : TrailingComma)
      → (spelt_at Mark (codes "{") (n + 1) place ∷ []) ++ (wants_of_init first (n + 1) ++ ((separated_rest is_init wants_of_init (n + 1) (codes ",") items ++ comma_if last (n + 1)) ++ ((spelt Mark (codes "}") (n + 1) tt ∷ []) ++ []))) ≡ wants_of_init (init.List place (first ∷ items) last) n
  list_flat place first items last =
      let open_ = spelt_at Mark (codes "{") (n + 1) place ∷ [] in
      let close = spelt Mark (codes "}") (n + 1) tt ∷ [] in
      let following = separated_rest is_init wants_of_init (n + 1) (codes ",") items in
      ap (λ u. open_ ++ u)
      (ap (λ u. wants_of_init first (n + 1) ++ u) (append_assoc following (comma_if last (n + 1)) (close ++ []))
      ∙ sym (append_assoc (wants_of_init first (n + 1)) following (comma_if last (n + 1) ++ (close ++ [])))
      ∙ ap (λ u. u ++ (comma_if last (n + 1) ++ (close ++ []))) (separated_is is_init wants_of_init (n + 1) (codes ",") first items))
      ∙ join4 open_ (separated (codes ",") (map wants_of_init (first ∷ items)) (n + 1)) (comma_if last (n + 1)) close
      ∙ sym (ap (λ f. f n) (wants_Initializer_List place (first ∷ items) last))

  list_ok : (place : Place) (parts : List Initializer) (comma : TrailingComma) → is_init (init.List place parts comma) ≡ (has_some parts && list_all is_init parts)
  list_ok place parts comma = is_Initializer_List place parts comma ∙ ap (λ u. u && list_all (λ part. part) (map is_init parts)) (has_map is_init parts) ∙ ap (λ u. has_some parts && u) (list_all_map is_init (λ part. part) parts)

  list_to : (t : Initializer) (ps : List Piece) → ListL t ps → InitAt n t ps
  list_to t ps b =
      let c = b.right in
      let d = c.right in
      let is : t ≡ init.List b.first (c.first ∷ d.first.0) d.first.1 = d.right.right.tree_is in
      record {
        grammar = ap is_init is ∙ list_ok b.first (c.first ∷ d.first.0) d.first.1 ∙ and_both (is_init c.first) (list_all is_init d.first.0) c.left.grammar d.left.grammar;
        wants = onto b.whole b.left.one (onto c.whole c.left.wants (onto d.whole d.left.wants (onto d.right.whole d.right.left.one d.right.right.none))) ∙ list_flat b.first c.first d.first.0 d.first.1 ∙ ap (λ u. wants_of_init u n) (sym is);
      }

  init_to : (t : Initializer) (ps : List Piece) → InitL t ps → InitAt n t ps
  init_to t ps (this b) = list_to t ps b
  init_to t ps (that b) =
      record {
        grammar = ap is_init b.right.tree_is ∙ is_Initializer_Expression b.first ∙ b.left.grammar;
        wants = onto b.whole b.left.wants b.right.none ∙ append-nil (wants_of_expr b.first n) ∙ sym (ap (λ f. f n) (wants_Initializer_Expression b.first)) ∙ ap (λ u. wants_of_init u n) (sym b.right.tree_is);
      }

  list_from : (place : Place) (parts : List Initializer) (comma : TrailingComma) (ps : List Piece) → InitAt n (init.List place parts comma) ps → ListL (init.List place parts comma) ps
  list_from place [] comma ps is = absurd (not_true (sym (list_ok place [] comma) ∙ is.grammar))
  list_from place (first ∷ items) comma ps is =
      let g = sym (list_ok place (first ∷ items) comma) ∙ is.grammar in
      subst (λ u. ListL (init.List place (first ∷ items) comma) u) (list_flat place first items comma ∙ sym is.wants)
      (in_both _ _ _ _ _ place (in_single (spelt_at Mark (codes "{") (n + 1)) place)
      (in_both _ _ _ _ _ first (record { grammar = and_left (is_init first) (list_all is_init items) g; wants = refl })
      (in_both _ _ _ _ _ (items, comma) (record { grammar = and_right (is_init first) (list_all is_init items) g; wants = refl })
      (in_both _ _ _ _ _ tt (in_single (spelt Mark (codes "}") (n + 1)) tt) (in_given (init.List place (first ∷ items) comma))))))

  init_from : (t : Initializer) (ps : List Piece) → InitAt n t ps → InitL t ps
  init_from = cases_Initializer (λ t. (ps : List Piece) → InitAt n t ps → InitL t ps)
      (λ value ps is. that (subst (λ u. ValueL (init.Expression value) u) (append-nil (wants_of_expr value n) ∙ sym (ap (λ f. f n) (wants_Initializer_Expression value)) ∙ sym is.wants) (in_both _ _ _ _ _ value (record { grammar = sym (is_Initializer_Expression value) ∙ is.grammar; wants = refl }) (in_given (init.Expression value)))))
      (λ place parts comma ps is. this (list_from place parts comma ps is))

  list_begins : Begins ListL (is_mark (codes "{")) true
  unfolding IsWanted
  list_begins = begins_both _ _ (is_mark (codes "{")) true (begins_single (spelt_at Mark (codes "{") (n + 1)) (is_mark (codes "{")) true (λ place w takes. spelled_yes Mark (codes "{") w takes.0.0 takes.0.1))

  value_begins : Begins ValueL (is_mark (codes "{")) false
  unfolding spelled_by is_spelled is_kind
  value_begins = begins_both _ _ (is_mark (codes "{")) false (begins_at (spelled_by Mark (codes "{")) false no_brace n 0)

  module _ (most size left : ℕ) (level : (n + 1) + left ≡ most + 1) (read : Reader Initializer) (F : 0 < left → Reads (InitAt (n + 1)) most size (Stops 0) read) where
    abbrev parts_reader : Place → Reader Initializer
    parts_reader place = read >>= λ first. read_more size (codes ",") starts_init left read >>= λ rest. read_mark (codes "}") left >>= λ closing. give (init.List place (first ∷ rest.0) rest.1)

    parts_read : 0 < left → (place : Place) → Reads (PartsL place) most size (Stops 0) (parts_reader place)
    parts_read some place =
        bind_reads _ _ most size (Stops 0) (Stops 0) _ _ (F some)
        (λ first. bind_reads _ _ most size Closed (Stops 0) _ _ (rest_read (n + 1) most size left level read (F some))
        (λ rest. bind_reads _ _ most size Any (Stops 0) _ _ (spelt_reads most size Any Mark (codes "}") (n + 1) left level) (λ closing. give_reads (init.List place (first ∷ rest.0) rest.1) most size (Stops 0))
        (λ closing ps is. some_given (init.List place (first ∷ rest.0) rest.1))
        (λ closing c qs ys more is fits stop. tt))
        (λ rest ps is. some_end (init.List place (first ∷ rest.0) rest.1))
        (λ rest c qs ys more is fits stop. begins_both _ _ (is_mark (codes "}")) true closes c qs ys more is fits))
        (λ first ps is. some_after place first)
        (λ first c qs ys more is fits stop. first_stops place first c qs ys more is fits)

    list_read : Reads ListL most size (Stops 0) (read_list size left read)
    unfolding read_list
    list_read = spelt_at_bind most size Mark (codes "{") (n + 1) left level PartsL (Stops 0) parts_reader some_parts parts_read

    init_read : Reads InitL most size (Stops 0) (choose (is_mark (codes "{")) (read_list size left read) ((readers_at size (suc left)).expr >>= λ value. give (init.Expression value)))
    init_read =
        choose_reads ListL ValueL most size (Stops 0) (is_mark (codes "{")) (read_list size left read) ((readers_at size (suc left)).expr >>= λ value. give (init.Expression value)) list_read
        (bind_reads _ _ most size (Stops 0) (Stops 0) _ _ (all_read most size (suc left) n (omega (arith, level))).expr (λ value. give_reads (init.Expression value) most size (Stops 0))
        (λ value ps is. some_given (init.Expression value))
        (λ value c qs ys rest is fits stop. given_stops (init.Expression value) c qs ys rest (Stops 0) is fits stop))
        (λ t ps front rest is fits stop. list_begins t ps front rest is fits)
        (λ t ps front rest is fits stop. value_begins t ps front rest is fits)

-- where a level is left
pub init_reads : (most size left n : ℕ) → n + left ≡ most + 1 → 0 < left → Reads (InitAt n) most size (Stops 0) (read_init size left)
unfolding read_init
init_reads most size zero n level some = absurd (omega (arith, some))
init_reads most size (suc left) n level some =
    reads_as (init_to n) (init_from n) (init_read n most size left (omega (arith, level)) (read_init size left) (λ more. init_reads most size left (n + 1) (omega (arith, level)) more))
