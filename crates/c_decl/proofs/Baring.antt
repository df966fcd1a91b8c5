-- Types that are spelled by a tag alone or by void alone: which trees they are, what they want, and that the two tests find just them.
use Rattle.std.proofs.Common.{◌≡◌, ℕ, true, List, [], ◌∷◌, Some, refl, sym, ap, ◌∙◌, codes}
use Rattle.std.proofs.lemmas.List.{append-nil}
use Rattle.c_tree.specs.Pieces.{words_at, word_at}
use Rattle.c_tree.specs.Folds.{wants_of_specs, wants_of_spelling, wants_of_tag, are_specs, is_tag_tree}
use Rattle.c_tree.specs.TypeWords.{counts_from}
use Rattle.c_tree.proofs.FoldsLaws.{wants_Specifiers, wants_TypeSpecifier_TagSpecifier, wants_TypeSpecifier_Words, is_Specifiers, is_TypeSpecifier_TagSpecifier, is_TypeSpecifier_Words}
use Rattle.c_tree.specs.declared.token.Place.{Place}
use Rattle.c_tree.specs.declared.expressions.Expr.TheOpen.{TypeSpecifier-F}
use Rattle.c_tree.specs.declared.expressions.Expr.TheViews.{out-Specifiers, roll-Specifiers, roll-out-Specifiers, out-roll-Specifiers, out-TypeSpecifier, roll-TypeSpecifier, roll-out-TypeSpecifier, out-roll-TypeSpecifier}
use Rattle.c_tree.specs.declared.expressions.Specifiers.{Specifiers}
use Rattle.c_tree.specs.declared.expressions.TypeSpecifier.{TypeSpecifier}
use Rattle.c_tree.specs.declared.expressions.TypeSpecifier.TheVariants as spelling
use Rattle.c_tree.specs.declared.expressions.TagSpecifier.{TagSpecifier}
use Rattle.c_tree.specs.declared.expressions.TypeWord.TheVariants as words
use Rattle.c_decl.specs.Bare.{Open, tag_in, tag_of, void_in, void_of}

-- a kind of type without a const
abbrev plain : TypeSpecifier → Specifiers
plain kind = roll-Specifiers (record { before = []; kind = kind; after = [] })

abbrev pub bare_tag : TagSpecifier → Specifiers
bare_tag tag = plain (spelling.TagSpecifier tag)

abbrev pub bare_void : Place → Specifiers
bare_void place = plain (spelling.Words place (words.Void ∷ []))

-- ---- what they want, and that they are of the grammar

plain_wants : (kind : TypeSpecifier) (n : ℕ) → wants_of_specs (plain kind) n ≡ wants_of_spelling kind n
unfolding words_at
plain_wants kind n = ap (λ f. f n) (wants_Specifiers [] kind []) ∙ append-nil (wants_of_spelling kind n)

pub tag_wanted : (tag : TagSpecifier) (n : ℕ) → wants_of_specs (bare_tag tag) n ≡ wants_of_tag tag n
tag_wanted tag n = plain_wants (spelling.TagSpecifier tag) n ∙ ap (λ f. f n) (wants_TypeSpecifier_TagSpecifier tag)

pub tag_grammar : (tag : TagSpecifier) → are_specs (bare_tag tag) ≡ is_tag_tree tag
tag_grammar tag = is_Specifiers [] (spelling.TagSpecifier tag) [] ∙ is_TypeSpecifier_TagSpecifier tag

pub void_wanted : (place : Place) (n : ℕ) → wants_of_specs (bare_void place) n ≡ word_at place (codes "void") n
void_wanted place n = plain_wants (spelling.Words place (words.Void ∷ [])) n ∙ ap (λ f. f n) (wants_TypeSpecifier_Words place (words.Void ∷ []))

pub void_grammar : (place : Place) → are_specs (bare_void place) ≡ true
unfolding counts_from
void_grammar place = is_Specifiers [] (spelling.Words place (words.Void ∷ [])) [] ∙ is_TypeSpecifier_Words place (words.Void ∷ [])

-- ---- the tests find just them

open_plain : (kind : TypeSpecifier) (layer : Open) → roll-TypeSpecifier layer ≡ kind → out-TypeSpecifier kind ≡ layer
open_plain kind layer is = ap out-TypeSpecifier (sym is) ∙ out-roll-TypeSpecifier layer

pub tag_found : (tag : TagSpecifier) → tag_of (bare_tag tag) ≡ Some tag
unfolding tag_of
tag_found tag = ap (λ s. tag_in s.before (out-TypeSpecifier s.kind) s.after) (out-roll-Specifiers (record { before = []; kind = spelling.TagSpecifier tag; after = [] })) ∙ ap (λ layer. tag_in [] layer []) (open_plain (spelling.TagSpecifier tag) (TypeSpecifier-F.TagSpecifier tag) (spelling.rolls-TagSpecifier tag))

pub void_found : (place : Place) → void_of (bare_void place) ≡ Some place
unfolding void_of
void_found place = ap (λ s. void_in s.before (out-TypeSpecifier s.kind) s.after) (out-roll-Specifiers (record { before = []; kind = spelling.Words place (words.Void ∷ []); after = [] })) ∙ ap (λ layer. void_in [] layer []) (open_plain (spelling.Words place (words.Void ∷ [])) (TypeSpecifier-F.Words place (words.Void ∷ [])) (spelling.rolls-Words place (words.Void ∷ [])))

tag_parts : (before : List Place) (layer : Open) (after : List Place) (tag : TagSpecifier) → tag_in before layer after ≡ Some tag → (before ≡ []) × (layer ≡ TypeSpecifier-F.TagSpecifier tag) × (after ≡ [])
tag_parts [] (TypeSpecifier-F.TagSpecifier found) [] tag h = let same : found ≡ tag = cc in (refl, ap (λ u. TypeSpecifier-F.TagSpecifier u) same, refl)
tag_parts before layer after tag h = absurd (cc)

void_parts : (before : List Place) (layer : Open) (after : List Place) (place : Place) → void_in before layer after ≡ Some place → (before ≡ []) × (layer ≡ TypeSpecifier-F.Words place (words.Void ∷ [])) × (after ≡ [])
void_parts [] (TypeSpecifier-F.Words found (words.Void ∷ [])) [] place h = let same : found ≡ place = cc in (refl, ap (λ u. TypeSpecifier-F.Words u (words.Void ∷ [])) same, refl)
void_parts before layer after place h = absurd (cc)

-- a type by its parts
plain_is : (specs : Specifiers) (kind : TypeSpecifier) (layer : Open) → roll-TypeSpecifier layer ≡ kind → (out-Specifiers specs).before ≡ [] → out-TypeSpecifier (out-Specifiers specs).kind ≡ layer → (out-Specifiers specs).after ≡ [] → specs ≡ plain kind
plain_is specs kind layer rolls before is after =
    let s = out-Specifiers specs in
    let same : s.kind ≡ kind = sym (roll-out-TypeSpecifier s.kind) ∙ ap roll-TypeSpecifier is ∙ rolls in
    sym (roll-out-Specifiers specs) ∙ ap (λ u. roll-Specifiers (record { before = u; kind = s.kind; after = s.after })) before ∙ ap (λ u. roll-Specifiers (record { before = []; kind = u; after = s.after })) same
    ∙ ap (λ u. roll-Specifiers (record { before = []; kind = kind; after = u })) after

pub tag_is : (specs : Specifiers) (tag : TagSpecifier) → tag_of specs ≡ Some tag → specs ≡ bare_tag tag
unfolding tag_of
tag_is specs tag h =
    let p = tag_parts (out-Specifiers specs).before (out-TypeSpecifier (out-Specifiers specs).kind) (out-Specifiers specs).after tag h in
    plain_is specs (spelling.TagSpecifier tag) (TypeSpecifier-F.TagSpecifier tag) (spelling.rolls-TagSpecifier tag) p.0 p.1 p.2

pub void_is : (specs : Specifiers) (place : Place) → void_of specs ≡ Some place → specs ≡ bare_void place
unfolding void_of
void_is specs place h =
    let p = void_parts (out-Specifiers specs).before (out-TypeSpecifier (out-Specifiers specs).kind) (out-Specifiers specs).after place h in
    plain_is specs (spelling.Words place (words.Void ∷ [])) (TypeSpecifier-F.Words place (words.Void ∷ [])) (spelling.rolls-Words place (words.Void ∷ [])) p.0 p.1 p.2
