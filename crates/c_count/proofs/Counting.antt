-- Counts of productions by the counts of their parts.
use Rattle.std.proofs.Common.{◌≡◌, ◌<◌, ℕ, ◌+◌, ◌-◌, min, List, [], ◌∷◌, ◌++◌, length, map, take, get_or, refl, sym, ap, ◌∙◌, arith, codes}
use Rattle.std.proofs.lemmas.List.{length-append, length-map, take_more, map_push}
use Rattle.std.proofs.Math.Seq.{take-length}
use Rattle.std.specs.List.{flat_map}
use Rattle.c_tree.specs.Pieces.{mark, mark_at, word, words_at, all_of, separated}
use Rattle.c_tree.specs.TypeWords.{text_of_word}
use Rattle.c_tree.specs.Expressions.{Wants}
use Rattle.c_tree.specs.Types.{type_words}
use Rattle.c_tree.specs.declared.expressions.TypeSpecifier.TheVariants as spelling
use Rattle.c_tree.specs.Folds.{wants_of_specs, wants_of_spelling, expr_wants, suffix_wants, tag_wants, spelling_wants, dimension_wants, enumerator_wants, operand_wants, specs_wants, member_wants, dimensioned_wants}
use Rattle.c_tree.specs.declared.expressions.Expr.TheFolds.{fold_out-Specifiers}
use Rattle.c_tree.specs.declared.token.Place.{Place}
use Rattle.c_tree.specs.declared.expressions.TypeWord.{TypeWord}
use Rattle.c_tree.specs.declared.expressions.Specifiers.{Specifiers}
use Rattle.c_tree.proofs.FoldsLaws.{wants_TypeSpecifier_Words}
use Rattle.c_count.specs.Counts.{most_count, counted, Has}

abbrev pub plus : ℕ → ℕ → ℕ
plus a b = min (a + b) most_count

pub has_as : (a : ℕ) (f g : Wants) → f ≡ g → Has a f → Has a g
has_as a f g e A = record { is = λ n. A.is n ∙ ap (λ h. counted (h n)) e }

pub has_to : (a b : ℕ) (f : Wants) → b ≡ a → Has b f → Has a f
has_to a b f e B = record { is = λ n. sym e ∙ B.is n }

pub has_add : (a b : ℕ) (f g : Wants) → Has a f → Has b g → Has (plus a b) (λ n. f n ++ g n)
has_add a b f g A B = record { is = λ n. let x = A.is n in let y = B.is n in let z = length-append (f n) (g n) in omega arith }

pub has_deeper : (a : ℕ) (f : Wants) → Has a f → Has a (λ n. f (n + 1))
has_deeper a f A = record { is = λ n. A.is (n + 1) }

pub has_mark : (text : List ℕ) → Has 1 (mark text)
has_mark text = record { is = λ n. refl }

pub has_mark_at : (place : Place) (text : List ℕ) → Has 1 (mark_at place text)
has_mark_at place text = record { is = λ n. refl }

-- ---- lists

all_more : (parts : List Wants) (part : Wants) (n : ℕ) → length (all_of (parts ++ part ∷ []) n) ≡ length (all_of parts n) + length (part n)
unfolding all_of
all_more [] part n = let e = length-append (part n) [] in omega arith
all_more (first ∷ parts) part n =
    let e = length-append (first n) (all_of (parts ++ part ∷ []) n) in
    let g = length-append (first n) (all_of parts n) in
    let h = all_more parts part n in
    omega arith

pub has_more : (a b : ℕ) (parts : List Wants) (part : Wants) → Has a (all_of parts) → Has b part → Has (plus a b) (all_of (parts ++ part ∷ []))
has_more a b parts part A B = record { is = λ n. let x = A.is n in let y = B.is n in let e = all_more parts part n in omega arith }

pub has_no_parts : Has 0 (all_of [])
unfolding all_of
has_no_parts = record { is = λ n. refl }

-- a mark between each two parts
separated_next : (text : List ℕ) (first : Wants) (parts : List Wants) (n : ℕ) → length (separated text (first ∷ parts) n) ≡ length (all_of (first ∷ parts) n) + length parts
unfolding all_of separated
separated_next text first [] n = let e = length-append (first n) [] in omega arith
separated_next text first (next ∷ parts) n =
    let e : length (separated text (first ∷ next ∷ parts) n) ≡ length (first n ++ mark text n) + length (separated text (next ∷ parts) n) = length-append (first n ++ mark text n) (separated text (next ∷ parts) n) in
    let f : length (first n ++ mark text n) ≡ length (first n) + 1 = length-append (first n) (mark text n) in
    let g : length (all_of (first ∷ next ∷ parts) n) ≡ length (first n) + length (all_of (next ∷ parts) n) = length-append (first n) (all_of (next ∷ parts) n) in
    let h : length (separated text (next ∷ parts) n) ≡ length (all_of (next ∷ parts) n) + length parts = separated_next text next parts n in
    omega arith

separated_none : (text : List ℕ) (n : ℕ) → length (separated text [] n) ≡ length (all_of [] n) + (length {A = Wants} [] - 1)
unfolding all_of separated
separated_none text n = refl

separated_all : (text : List ℕ) (parts : List Wants) (n : ℕ) → length (separated text parts n) ≡ length (all_of parts n) + (length parts - 1)
separated_all text [] n = separated_none text n
separated_all text (first ∷ parts) n = let h = separated_next text first parts n in omega arith

pub has_separated : (text : List ℕ) (a k : ℕ) (parts : List Wants) → Has a (all_of parts) → k ≡ min (length parts - 1) most_count → Has (plus a k) (separated text parts)
has_separated text a k parts A is = record { is = λ n. let x = A.is n in let e = separated_all text parts n in omega arith }

-- one part more of a list
pub has_take : {T : Type 0} (w : T → Wants) (xs : List T) (i : ℕ) (x : T) (c r : ℕ) → i < length xs → x ≡ get_or xs i x → Has c (all_of (map w (take i xs))) → Has r (w x) → Has (plus c r) (all_of (map w (take (i + 1) xs)))
has_take w xs i x c r less is C R =
    let e : map w (take (i + 1) xs) ≡ map w (take i xs) ++ w x ∷ [] = ap (map w) (take_more xs i x less) ∙ ap (λ y. map w (take i xs ++ y ∷ [])) (sym is) ∙ map_push w (take i xs) x in
    has_as _ _ _ (ap all_of (sym e)) (has_more c r (map w (take i xs)) (w x) C R)

pub has_whole : {T : Type 0} (w : T → Wants) (xs : List T) (i c : ℕ) → i ≡ length xs → Has c (all_of (map w (take i xs))) → Has c (all_of (map w xs))
has_whole w xs i c is C = has_as _ _ _ (ap (λ ys. all_of (map w ys)) (ap (λ k. take k xs) is ∙ take-length xs)) C

pub has_listed : {T : Type 0} (w : T → Wants) (xs : List T) (text : List ℕ) (c k : ℕ) → k ≡ min (length xs - 1) most_count → Has c (all_of (map w xs)) → Has (plus c k) (separated text (map w xs))
has_listed w xs text c k is C = has_separated text c k (map w xs) C (is ∙ ap (λ m. min (m - 1) most_count) (sym (length-map xs w)))

-- ---- words

words_length : (words : List TypeWord) (n : ℕ) → length (flat_map (λ w. word (text_of_word w) n) words) ≡ length words
words_length [] n = refl
words_length (first ∷ rest) n = let h = words_length rest n in omega arith

spelled_length : (place : Place) (words : List TypeWord) (n : ℕ) → length (type_words place words n) ≡ length words
spelled_length place [] n = refl
spelled_length place (first ∷ rest) n = let h = words_length rest n in omega arith

pub has_words : (place : Place) (words : List TypeWord) → Has (min (length words) most_count) (wants_of_spelling (spelling.Words place words))
has_words place words = has_as _ _ _ (sym (wants_TypeSpecifier_Words place words)) (record { is = λ n. let h = spelled_length place words n in omega arith })

places_length : (places : List Place) (text : List ℕ) (n : ℕ) → length (words_at places text n) ≡ length places
unfolding words_at
places_length [] text n = refl
places_length (place ∷ places) text n = let h = places_length places text n in omega arith

pub has_places : (places : List Place) (text : List ℕ) → Has (min (length places) most_count) (words_at places text)
has_places places text = record { is = λ n. let h = places_length places text n in omega arith }

-- specifiers by their fields
specs_by : (specs : Specifiers) → wants_of_specs specs ≡ specs_wants (record { before = specs.before; kind = wants_of_spelling specs.kind; after = specs.after })
specs_by specs = fold_out-Specifiers Wants Wants Wants Wants Wants Wants Wants Wants Wants Wants expr_wants suffix_wants tag_wants spelling_wants dimension_wants enumerator_wants operand_wants specs_wants member_wants dimensioned_wants specs

pub has_specs : (specs : Specifiers) (a b k : ℕ) → a ≡ min (length specs.before) most_count → b ≡ min (length specs.after) most_count → Has k (wants_of_spelling specs.kind) → Has (plus (plus a k) b) (wants_of_specs specs)
has_specs specs a b k before after K =
    has_as _ _ _ (sym (specs_by specs))
    (has_add (plus a k) b (λ n. words_at specs.before (codes "const") n ++ wants_of_spelling specs.kind n) (words_at specs.after (codes "const"))
    (has_add a k (words_at specs.before (codes "const")) (wants_of_spelling specs.kind) (has_to _ _ _ (sym before) (has_places specs.before (codes "const"))) K)
    (has_to _ _ _ (sym after) (has_places specs.after (codes "const"))))
