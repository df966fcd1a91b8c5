-- What the code needs of the readers of external declarations.
use Rattle.std.proofs.Common.{◌≡◌, ◌<◌, ℕ, zero, suc, Bool, true, false, is_some, Option, Some, None, codes, List, [], ◌∷◌, drop, refl, ap, ◌∙◌, arith}
use Rattle.c_tree.specs.declared.token.Token.{Token}
use Rattle.c_tree.specs.declared.token.TokenKind.TheVariants.{End}
use Rattle.c_tree.specs.declared.token.Place.{Place}
use Rattle.c_tree.specs.declared.expressions.Specifiers.{Specifiers}
use Rattle.c_tree.specs.declared.expressions.TagSpecifier.{TagSpecifier}
use Rattle.c_tree.specs.declared.programs.ExternalDeclaration.{ExternalDeclaration}
use Rattle.c_tree.specs.declared.programs.FunctionSpecifiers.{FunctionSpecifiers}
use Rattle.c_tree.specs.Programs.{ProgramTree}
use Rattle.c_reader.specs.Outcome.{sees}
use Rattle.c_reader.specs.Reading.{Answer, after, take_as, taken, good, bad, give}
use Rattle.c_reader.specs.Tokens.{named_of, is_kind, is_mark}
use Rattle.c_reader.proofs.Gathering.{choose_sees}
use Rattle.c_tree.specs.declared.expressions.Identifier.{Identifier}
use Rattle.c_tree.specs.declared.statements.Pointer.{Pointer}
use Rattle.c_syntax.specs.Items.{read_end, words_of, read_function_after, read_item_objects, read_item_after, read_item_of, read_item_tag, read_plain_after}

-- an item after its type
pub plain_item : (size left : ℕ) (specs : Specifiers) (found : Option TagSpecifier) (l : List Token) → sees (is_mark (codes ";")) l ≡ false → read_plain_after size left specs found l ≡ read_item_of size left None specs l
unfolding read_plain_after
plain_item size left specs None l is = refl
plain_item size left specs (Some tag) l is = choose_sees (is_mark (codes ";")) _ _ l ∙ rw is refl

pub plain_tag : (size left : ℕ) (specs : Specifiers) (found : Option TagSpecifier) (tag : TagSpecifier) (l : List Token) → found ≡ Some tag → sees (is_mark (codes ";")) l ≡ true → read_plain_after size left specs found l ≡ read_item_tag left tag l
unfolding read_plain_after
plain_tag size left specs found tag l e is = rw e (choose_sees (is_mark (codes ";")) _ _ l ∙ rw is refl)

pub plain_other : (size left : ℕ) (specs same : Specifiers) (found : Option TagSpecifier) (l : List Token) → same ≡ specs → found ≡ None → read_plain_after size left specs found l ≡ read_item_of size left None same l
unfolding read_plain_after
plain_other size left specs same found l is e = rw (e, ← is) refl

-- an item after its first declared name
pub item_function : (size left : ℕ) (fixed : Option Place) (words : FunctionSpecifiers) (specs : Specifiers) (pointer : Option Pointer) (name : Identifier) (l : List Token) → is_some pointer ≡ false → sees (is_mark (codes "(")) l ≡ true → words ≡ words_of fixed
    → read_item_after size left fixed specs pointer name l ≡ read_function_after size left words specs name l
unfolding read_item_after
item_function size left fixed words specs (Some pointer) name l some is same = absurd (cc)
item_function size left fixed words specs None name l some is same = choose_sees (is_mark (codes "(")) _ _ l ∙ rw (is, same) refl

pub item_pointer : (size left : ℕ) (fixed : Option Place) (specs : Specifiers) (pointer : Option Pointer) (name : Identifier) (l : List Token) → is_some pointer ≡ true
    → read_item_after size left fixed specs pointer name l ≡ read_item_objects size left fixed specs pointer name l
unfolding read_item_after
item_pointer size left fixed specs (Some pointer) name l is = refl
item_pointer size left fixed specs None name l is = absurd (cc)

pub item_objects : (size left : ℕ) (fixed : Option Place) (specs : Specifiers) (pointer : Option Pointer) (name : Identifier) (l : List Token) → sees (is_mark (codes "(")) l ≡ false
    → read_item_after size left fixed specs pointer name l ≡ read_item_objects size left fixed specs pointer name l
unfolding read_item_after
item_objects size left fixed specs (Some pointer) name l is = refl
item_objects size left fixed specs None name l is = choose_sees (is_mark (codes "(")) _ _ l ∙ rw is refl

end_taken : (w : Token) (left : ℕ) (b : Bool) (rest : List Token) → 0 < left → b ≡ true → taken b (named_of w) left w rest ≡ good (named_of w) rest
unfolding taken
end_taken w zero b rest some is = absurd (omega (arith, some))
end_taken w (suc left) true rest some is = refl
end_taken w (suc left) false rest some is = absurd (cc)

end_refused : (w : Token) (left : ℕ) (b : Bool) (rest : List Token) → b ≡ false → taken b (named_of w) left w rest ≡ bad (w ∷ rest)
unfolding taken
end_refused w left true rest is = absurd (cc)
end_refused w left false rest is = refl

same_first : (v w : Token) (l rest : List Token) → v ∷ l ≡ w ∷ rest → v ≡ w
same_first v w l rest is = cc

-- the items are all of the program where the end comes next, and elsewhere a fault is there
pub program_ends : (answer : Answer (List ExternalDeclaration)) (left : ℕ) (items : List ExternalDeclaration) (l : List Token) (w : Token) (rest : List Token) → answer ≡ good items l → 0 < left → sees (is_kind End) l ≡ true → l ≡ w ∷ rest
    → after {B = ProgramTree} answer (λ found tokens. after {B = ProgramTree} (read_end left tokens) (λ end. give (record { items = found; end = end.place }))) ≡ good (record { items = items; end = w.place }) (drop 1 l)
unfolding sees read_end take_as
program_ends answer left items [] w rest is some end head = absurd (cc)
program_ends answer left items (v ∷ l) w rest is some end head =
    ap (λ a. after {B = ProgramTree} a (λ found tokens. after {B = ProgramTree} (read_end left tokens) (λ end. give (record { items = found; end = end.place })))) is
    ∙ ap (λ a. after {B = ProgramTree} a (λ end. give (record { items = items; end = end.place }))) (end_taken v left (is_kind End v) l some end)
    ∙ ap (λ u. good (record { items = items; end = u.place }) l) (same_first v w l rest head)

pub program_goes_on : (answer : Answer (List ExternalDeclaration)) (left : ℕ) (items : List ExternalDeclaration) (l : List Token) → answer ≡ good items l → sees (is_kind End) l ≡ false
    → after {B = ProgramTree} answer (λ found tokens. after {B = ProgramTree} (read_end left tokens) (λ end. give (record { items = found; end = end.place }))) ≡ bad l
unfolding sees read_end take_as
program_goes_on answer left items [] is end = ap (λ a. after {B = ProgramTree} a (λ found tokens. after {B = ProgramTree} (read_end left tokens) (λ end. give (record { items = found; end = end.place })))) is
program_goes_on answer left items (w ∷ l) is end =
    ap (λ a. after {B = ProgramTree} a (λ found tokens. after {B = ProgramTree} (read_end left tokens) (λ end. give (record { items = found; end = end.place })))) is ∙ ap (λ a. after {B = ProgramTree} a (λ end. give (record { items = items; end = end.place }))) (end_refused w left (is_kind End w) l end)
