-- What is so of the specifiers of types.
use Rattle.std.proofs.Common.{◌≡◌, true, List, [], ◌∷◌, Some, refl, sym, ap, ◌∙◌}
use Rattle.c_tree.specs.Pieces.{first_place}
use Rattle.c_tree.specs.TypeWords.{counts_from, is_spelling}
use Rattle.c_tree.specs.Types.{type_words}
use Rattle.c_tree.specs.Folds.{wants_of_spelling, is_spelling_tree}
use Rattle.c_tree.specs.declared.token.Place.{Place}
use Rattle.c_tree.specs.declared.expressions.TypeWord.{TypeWord}
use Rattle.c_tree.specs.declared.expressions.TypeSpecifier.TheVariants as spelling
use Rattle.c_tree.proofs.FoldsLaws.{wants_TypeSpecifier_Words, is_TypeSpecifier_Words}

words_place : (place : Place) (words : List TypeWord) → is_spelling words ≡ true → first_place (type_words place words 0) ≡ Some place
unfolding counts_from
words_place place [] is = absurd (cc)
words_place place (w ∷ ws) is = refl

pub spelling_place : (place : Place) (words : List TypeWord) → is_spelling_tree (spelling.Words place words) ≡ true → first_place (wants_of_spelling (spelling.Words place words) 0) ≡ Some place
spelling_place place words is = ap (λ f. first_place (f 0)) (wants_TypeSpecifier_Words place words) ∙ words_place place words (sym (is_TypeSpecifier_Words place words) ∙ is)
