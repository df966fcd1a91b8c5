-- The terms of a source, from those read so far and the tokens that are left.
use Rattle.std.proofs.Common.{◌≡◌, ℕ, ◌-◌, ◌≤◌, true, List, [], ◌∷◌, ◌++◌, length, take, drop, get_or, Option, None, Some, refl, ap, sym, ◌∙◌, arith, append_assoc, codes}
use Rattle.std.proofs.lemmas.List.{take_all}
use Rattle.std.specs.Str.{bytes_eq}
use Rattle.c_tree.specs.declared.token.Token.{Token}
use Rattle.hycc_top.specs.Source.{expect, term_of, terms_of}
use Rattle.std.specs.Option.{option_map}
use Rattle.hycc_top.specs.declared.source.Term.{Term}

-- these terms before the others
abbrev pub joined : List Term → Option (List Term) → Option (List Term)
joined read rest = option_map (λ more. read ++ more) rest

pub joined-none : (rest : Option (List Term)) → rest ≡ joined [] rest
joined-none None = refl
joined-none (Some more) = refl

pub joined-more : (read : List Term) (term : Term) (rest : Option (List Term)) → joined read (option_map (λ terms. term ∷ terms) rest) ≡ joined (read ++ term ∷ []) rest
joined-more read term None = refl
joined-more read term (Some more) = ap Some (sym (append_assoc read (term ∷ []) more))

-- a list behind its first element, and behind its first two
tail_is : (token : Token) (rest : List Token) → take (length (token ∷ rest) - 1) (drop 1 (token ∷ rest)) ≡ rest
tail_is token rest = take_all (length (token ∷ rest) - 1) rest (omega arith)

pub pair_cut : (tokens : List Token) (token next : Token) → 2 ≤ length tokens → token ≡ get_or tokens 0 token → next ≡ get_or tokens 1 next → tokens ≡ token ∷ next ∷ take (length tokens - 2) (drop 2 tokens)
pair_cut [] token next two first second = absurd (omega (arith, two))
pair_cut (t ∷ []) token next two first second = absurd (omega (arith, two))
pair_cut (t ∷ u ∷ rest) token next two first second =
    let all : take (length (t ∷ u ∷ rest) - 2) rest ≡ rest = take_all (length (t ∷ u ∷ rest) - 2) rest (omega arith) in
    rw (all, first, second) refl

-- a token of the text
pub expect_first : (text : List ℕ) (tokens : List Token) (token : Token) → 1 ≤ length tokens → token ≡ get_or tokens 0 token → bytes_eq token.text text ≡ true → Some (take (length tokens - 1) (drop 1 tokens)) ≡ expect text tokens
expect_first text [] token one first same = absurd (omega (arith, one))
expect_first text (t ∷ rest) token one first same = let here : bytes_eq t.text text ≡ true = ap (λ (u : Token). bytes_eq u.text text) (sym first) ∙ same in rw here (ap Some (tail_is t rest))

-- a term and a plus
pub more_terms : (a b : List ℕ) (token next : Token) (rest : List Token) (term : Term) → bytes_eq next.text (codes "+") ≡ true → term_of a b token ≡ Some term → terms_of a b (token ∷ next ∷ rest) ≡ option_map (λ terms. term ∷ terms) (terms_of a b rest)
more_terms a b token next rest term plus is = rw plus (rw is refl)
