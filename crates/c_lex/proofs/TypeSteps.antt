-- One more token in the pass that tells names of types from others.
use Rattle.std.proofs.Common.{◌≡◌, ℕ, suc, ◌+◌, ◌<◌, List, [], ◌∷◌, ◌++◌, length, take, drop, get_or, refl, ap, sym, ◌∙◌, append_assoc, add-one, arith}
use Rattle.std.proofs.Math.Seq.{drop-cons}
use Rattle.std.proofs.Math.ListN.{set}
use Rattle.std.proofs.lemmas.List.{take_more_set, drop-set-lt}
use Rattle.c_tree.specs.declared.token.Token.{Token}
use Rattle.c_lex.specs.Typedefs.{role_of, named_token}
use Rattle.c_lex.specs.Scopes.{Scope, following, scoped}

-- the tokens from a place on, where the token there is known
named-drop : (scope : Scope) (tokens : List Token) (i : ℕ) (token d : Token) → i < length tokens → token ≡ get_or tokens i d → scoped scope (drop i tokens) ≡ named_token scope.types token ∷ scoped (following scope (role_of token) token) (drop (i + 1) tokens)
named-drop scope tokens i token d within is =
    let cut : drop i tokens ≡ token ∷ drop (i + 1) tokens = rw add-one (drop-cons tokens i d within ∙ ap (λ t. t ∷ drop (suc i) tokens) (sym is)) in
    ap (scoped scope) cut

joined : (whole front : List Token) (scope : Scope) (changed : Token) (after old new : List Token) → whole ≡ front ++ scoped scope old → scoped scope old ≡ changed ∷ after → new ≡ front ++ changed ∷ [] → whole ≡ new ++ after
joined whole front scope changed after old new so_far here put = so_far ∙ (ap (λ l. front ++ l) here ∙ (sym (append_assoc front (changed ∷ []) after) ∙ ap (λ l. l ++ after) (sym put)))

-- a token that changes
pub named-set : (whole : List Token) (scope : Scope) (tokens : List Token) (i : ℕ) (token changed d : Token) → i < length tokens → token ≡ get_or tokens i d → named_token scope.types token ≡ changed → whole ≡ take i tokens ++ scoped scope (drop i tokens) → whole ≡ take (i + 1) (set tokens i changed) ++ scoped (following scope (role_of token) token) (drop (i + 1) (set tokens i changed))
named-set whole scope tokens i token changed d within is change so_far =
    let less : i < i + 1 = omega arith in
    rw (take_more_set tokens i changed within, drop-set-lt (i + 1) tokens i changed less)
    (joined whole (take i tokens) scope changed (scoped (following scope (role_of token) token) (drop (i + 1) tokens)) (drop i tokens) (take i tokens ++ changed ∷ []) so_far (named-drop scope tokens i token d within is ∙ ap (λ t. t ∷ scoped (following scope (role_of token) token) (drop (i + 1) tokens)) change) refl)
