-- The names of types, token by token, are those of the declarations.
use Rattle.std.proofs.Common.{◌≡◌, ℕ, ◌+◌, ◌-◌, Bool, true, false, ◌&&◌, ◌==◌, List, [], ◌∷◌, ◌++◌, Option, None, Some, if◌then◌else◌, refl, ap, sym, ◌∙◌}
use Rattle.c_tree.specs.declared.token.Token.{Token}
use Rattle.c_lex.specs.Names.{is_noted}
use Rattle.c_lex.specs.declared.typedefs.Role.{Role}
use Rattle.c_lex.specs.declared.typedefs.Role.TheVariants.{Name, OpenBrace, CloseBrace, OpenBracket, CloseBracket, Semicolon, Typedef, Other}
use Rattle.c_lex.specs.Typedefs.{role_of, Placed, braces_after, brackets_after, placed, ends, first_to, declarations, begins, is_free, or_else, last_free, declared, noted_last, named_token, named_in, named_parts, named}
use Rattle.c_lex.specs.Scopes.{Scope, outermost, following, scoped}

-- the name that the rest of a declaration makes a type, where a typedef may have begun, and this name may have come after it
abbrev pub found : Bool → List (List ℕ) → Option (List ℕ) → List Placed → Option (List ℕ)
found declares types last part = or_else (if declares then last_free types part else declared types part) last

-- the rest of a declaration and the others
abbrev pub whole : List (List ℕ) → Bool → Option (List ℕ) → List (List Placed) → List Token
whole types declares last [] = []
whole types declares last (part ∷ []) = named_in types part
whole types declares last (part ∷ next ∷ parts) = named_in types part ++ named_parts (noted_last types (found declares types last part)) (next ∷ parts)

or_none : (name : Option (List ℕ)) → or_else name None ≡ name
or_none None = refl
or_none (Some name) = refl

or_last : (first : Option (List ℕ)) (name : List ℕ) (last : Option (List ℕ)) → or_else (or_else first (Some name)) last ≡ or_else first (Some name)
or_last None name last = refl
or_last (Some n) name last = refl

-- a new declaration
whole-new : (types : List (List ℕ)) (parts : List (List Placed)) → named_parts types parts ≡ whole types false None parts
whole-new types [] = refl
whole-new types (part ∷ []) = refl
whole-new types (part ∷ next ∷ parts) = ap (λ name. named_in types part ++ named_parts (noted_last types name) (next ∷ parts)) (sym (or_none (declared types part)))

-- there is always a part
pub record Some_part (parts : List (List Placed)) : Type 0 where
  pub part : List Placed
  pub others : List (List Placed)
  pub is : parts ≡ part ∷ others

first-part : (first : Placed) (parts : List (List Placed)) → Some_part (first_to first parts)
first-part first [] = record { part = first ∷ []; others = []; is = refl }
first-part first (part ∷ parts) = record { part = first ∷ part; others = parts; is = refl }

if-part : (test : Bool) (first : Placed) (parts : List (List Placed)) → Some_part (if test then (first ∷ []) ∷ parts else first_to first parts)
if-part true first parts = record { part = first ∷ []; others = parts; is = refl }
if-part false first parts = first-part first parts

some-part : (tokens : List Placed) → Some_part (declarations tokens)
some-part [] = record { part = []; others = []; is = refl }
some-part (first ∷ rest) = if-part (ends first.role first.braces) first (declarations rest)

-- a token that ends no declaration
first-of : (types : List (List ℕ)) (declares declares_after : Bool) (last last_after : Option (List ℕ)) (first : Placed) (part : List Placed) (others : List (List Placed)) → found declares types last (first ∷ part) ≡ found declares_after types last_after part
    → whole types declares last ((first ∷ part) ∷ others) ≡ named_token types first.token ∷ whole types declares_after last_after (part ∷ others)
first-of types declares declares_after last last_after first part [] same = refl
first-of types declares declares_after last last_after first part (next ∷ parts) same = ap (λ name. named_token types first.token ∷ (named_in types part ++ named_parts (noted_last types name) (next ∷ parts))) same

pub token-inside : (types : List (List ℕ)) (declares declares_after : Bool) (last last_after : Option (List ℕ)) (first : Placed) (rest : List Placed) → ((part : List Placed) → found declares types last (first ∷ part) ≡ found declares_after types last_after part)
    → whole types declares last (first_to first (declarations rest)) ≡ named_token types first.token ∷ whole types declares_after last_after (declarations rest)
token-inside types declares declares_after last last_after first rest same =
    let some = some-part rest in
    rw some.is (first-of types declares declares_after last last_after first some.part some.others (same some.part))

-- a token that neither begins a typedef nor is its name
skips : (types : List (List ℕ)) (declares : Bool) (last : Option (List ℕ)) (first : Placed) (part : List Placed) → is_free types first.role first ≡ false → begins first.role first.braces ≡ false → found declares types last (first ∷ part) ≡ found declares types last part
skips types true last first part free begin = rw free (ap (λ name. or_else name last) (or_none (last_free types part)))
skips types false last first part free begin = rw begin refl

-- a name that is free
takes : (types : List (List ℕ)) (declares : Bool) (last : Option (List ℕ)) (first : Placed) (part : List Placed) → is_free types first.role first ≡ true → begins first.role first.braces ≡ false → found declares types last (first ∷ part) ≡ found declares types (if declares then Some first.token.text else last) part
takes types true last first part free begin = rw free (or_last (last_free types part) first.token.text last)
takes types false last first part free begin = rw begin refl

-- a typedef outside braces
starts : (types : List (List ℕ)) (declares : Bool) (last : Option (List ℕ)) (first : Placed) (part : List Placed) → is_free types first.role first ≡ false → begins first.role first.braces ≡ true → found declares types last (first ∷ part) ≡ found true types last part
starts types true last first part free begin = rw free (ap (λ name. or_else name last) (or_none (last_free types part)))
starts types false last first part free begin = rw begin refl

-- ---- one token

-- what holds of all scopes of the tokens after it
abbrev pub Later : List Token → Type 0
Later tokens = (scope : Scope) → scoped scope tokens ≡ whole scope.types scope.declares scope.last (declarations (placed scope.braces scope.brackets tokens))

abbrev pub here : Scope → Token → Role → Placed
here scope token role = record { token = token; role = role; braces = scope.braces; brackets = scope.brackets }

-- a token that leaves the types and ends no declaration, and the scope after it
inside : (scope after : Scope) (token : Token) (role : Role) (tokens : List Token) → after.types ≡ scope.types → Later tokens
    → ((part : List Placed) → found scope.declares scope.types scope.last (here scope token role ∷ part) ≡ found after.declares scope.types after.last part)
    → named_token scope.types token ∷ scoped after tokens ≡ whole scope.types scope.declares scope.last (first_to (here scope token role) (declarations (placed after.braces after.brackets tokens)))
inside scope after token role tokens types later same =
    ap (λ l. named_token scope.types token ∷ l) (later after ∙ ap (λ t. whole t after.declares after.last (declarations (placed after.braces after.brackets tokens))) types)
    ∙ sym (token-inside scope.types scope.declares after.declares scope.last after.last (here scope token role) (placed after.braces after.brackets tokens) same)

name-case : (scope : Scope) (token : Token) (tokens : List Token) → Later tokens → (types declares braces brackets : Bool) → is_noted scope.types token.text ≡ types → scope.declares ≡ declares → (scope.braces == 0) ≡ braces → (scope.brackets == 0) ≡ brackets
    → named_token scope.types token ∷ scoped (if types then scope else if declares && braces && brackets then record scope { last = Some token.text } else scope) tokens
    ≡ whole scope.types scope.declares scope.last (first_to (here scope token Name) (declarations (placed scope.braces scope.brackets tokens)))
name-case scope token tokens later true declares braces brackets t d b k = inside scope scope token Name tokens refl later (λ part. skips scope.types scope.declares scope.last (here scope token Name) part (rw t refl) refl)
name-case scope token tokens later false true true true t d b k =
    inside scope (record scope { last = Some token.text }) token Name tokens refl later
    (λ part. takes scope.types scope.declares scope.last (here scope token Name) part (rw (t, b, k) refl) refl ∙ ap (λ v. found scope.declares scope.types (if v then Some token.text else scope.last) part) d)
name-case scope token tokens later false false true true t d b k =
    inside scope scope token Name tokens refl later
    (λ part. takes scope.types scope.declares scope.last (here scope token Name) part (rw (t, b, k) refl) refl ∙ ap (λ v. found scope.declares scope.types (if v then Some token.text else scope.last) part) d)
name-case scope token tokens later false true true false t d b k = inside scope scope token Name tokens refl later (λ part. skips scope.types scope.declares scope.last (here scope token Name) part (rw (t, b, k) refl) refl)
name-case scope token tokens later false false true false t d b k = inside scope scope token Name tokens refl later (λ part. skips scope.types scope.declares scope.last (here scope token Name) part (rw (t, b, k) refl) refl)
name-case scope token tokens later false true false brackets t d b k = inside scope scope token Name tokens refl later (λ part. skips scope.types scope.declares scope.last (here scope token Name) part (rw (t, b) refl) refl)
name-case scope token tokens later false false false brackets t d b k = inside scope scope token Name tokens refl later (λ part. skips scope.types scope.declares scope.last (here scope token Name) part (rw (t, b) refl) refl)

ended : (types : List (List ℕ)) (declares : Bool) (last : Option (List ℕ)) (scope : Scope) (token : Token) → found declares types last (here scope token Semicolon ∷ []) ≡ last
ended types true last scope token = refl
ended types false last scope token = refl

more-parts : (types : List (List ℕ)) (declares : Bool) (last : Option (List ℕ)) (first : Placed) (parts : List (List Placed)) → Some_part parts → named_token types first.token ∷ named_parts (noted_last types (found declares types last (first ∷ []))) parts ≡ whole types declares last ((first ∷ []) ∷ parts)
more-parts types declares last first [] some = absurd (cc (some.is))
more-parts types declares last first (part ∷ parts) some = refl

end-case : (scope : Scope) (token : Token) (tokens : List Token) → Later tokens → (zero : Bool)
    → named_token scope.types token ∷ scoped (if zero then record { braces = scope.braces; brackets = scope.brackets; declares = false; last = None; types = noted_last scope.types scope.last } else scope) tokens
    ≡ whole scope.types scope.declares scope.last (if zero then (here scope token Semicolon ∷ []) ∷ declarations (placed scope.braces scope.brackets tokens) else first_to (here scope token Semicolon) (declarations (placed scope.braces scope.brackets tokens)))
end-case scope token tokens later true =
    let after : Scope = record { braces = scope.braces; brackets = scope.brackets; declares = false; last = None; types = noted_last scope.types scope.last } in
    let some = some-part (placed scope.braces scope.brackets tokens) in
    let rest : scoped after tokens ≡ named_parts (noted_last scope.types (found scope.declares scope.types scope.last (here scope token Semicolon ∷ []))) (declarations (placed scope.braces scope.brackets tokens)) =
    later after ∙ (sym (whole-new (noted_last scope.types scope.last) (declarations (placed scope.braces scope.brackets tokens)))
    ∙ ap (λ name. named_parts (noted_last scope.types name) (declarations (placed scope.braces scope.brackets tokens))) (sym (ended scope.types scope.declares scope.last scope token))) in
    ap (λ l. named_token scope.types token ∷ l) rest ∙ more-parts scope.types scope.declares scope.last (here scope token Semicolon) (declarations (placed scope.braces scope.brackets tokens)) some
end-case scope token tokens later false = inside scope scope token Semicolon tokens refl later (λ part. skips scope.types scope.declares scope.last (here scope token Semicolon) part refl refl)

typedef-case : (scope : Scope) (token : Token) (tokens : List Token) → Later tokens → (zero : Bool) → (scope.braces == 0) ≡ zero
    → named_token scope.types token ∷ scoped (if zero then record scope { declares = true } else scope) tokens
    ≡ whole scope.types scope.declares scope.last (first_to (here scope token Typedef) (declarations (placed scope.braces scope.brackets tokens)))
typedef-case scope token tokens later true z = inside scope (record scope { declares = true }) token Typedef tokens refl later (λ part. starts scope.types scope.declares scope.last (here scope token Typedef) part refl z)
typedef-case scope token tokens later false z = inside scope scope token Typedef tokens refl later (λ part. skips scope.types scope.declares scope.last (here scope token Typedef) part refl z)

step : (scope : Scope) (token : Token) (tokens : List Token) (role : Role) → Later tokens
    → named_token scope.types token ∷ scoped (following scope role token) tokens
    ≡ whole scope.types scope.declares scope.last (if ends role scope.braces then (here scope token role ∷ []) ∷ declarations (placed (braces_after role scope.braces) (brackets_after role scope.brackets) tokens) else first_to (here scope token role) (declarations (placed (braces_after role scope.braces) (brackets_after role scope.brackets) tokens)))
step scope token tokens Name later = name-case scope token tokens later (is_noted scope.types token.text) scope.declares (scope.braces == 0) (scope.brackets == 0) refl refl refl refl
step scope token tokens OpenBrace later = inside scope (record scope { braces = scope.braces + 1 }) token OpenBrace tokens refl later (λ part. skips scope.types scope.declares scope.last (here scope token OpenBrace) part refl refl)
step scope token tokens CloseBrace later = inside scope (record scope { braces = scope.braces - 1 }) token CloseBrace tokens refl later (λ part. skips scope.types scope.declares scope.last (here scope token CloseBrace) part refl refl)
step scope token tokens OpenBracket later = inside scope (record scope { brackets = scope.brackets + 1 }) token OpenBracket tokens refl later (λ part. skips scope.types scope.declares scope.last (here scope token OpenBracket) part refl refl)
step scope token tokens CloseBracket later = inside scope (record scope { brackets = scope.brackets - 1 }) token CloseBracket tokens refl later (λ part. skips scope.types scope.declares scope.last (here scope token CloseBracket) part refl refl)
step scope token tokens Semicolon later = end-case scope token tokens later (scope.braces == 0)
step scope token tokens Typedef later = typedef-case scope token tokens later (scope.braces == 0) refl
step scope token tokens Other later = inside scope scope token Other tokens refl later (λ part. skips scope.types scope.declares scope.last (here scope token Other) part refl refl)

scoped-whole : (tokens : List Token) → Later tokens
scoped-whole [] scope = refl
scoped-whole (token ∷ tokens) scope = step scope token tokens (role_of token) (scoped-whole tokens)

-- token by token and by declarations the names of types are the same
pub named-scoped : (tokens : List Token) → named tokens ≡ scoped outermost tokens
named-scoped tokens = whole-new [] (declarations (placed 0 0 tokens)) ∙ sym (scoped-whole tokens outermost)
