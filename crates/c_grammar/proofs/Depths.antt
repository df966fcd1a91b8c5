-- How many levels of nesting readers have left.
use Rattle.std.proofs.Common.{◌≡◌, ◌<◌, ℕ, zero, suc, ◌-◌, List, Result, refl, sym, ap, subst, ◌∙◌, arith}
use Rattle.c_tree.specs.declared.token.Token.{Token}
use Rattle.c_reader.specs.declared.unread.Unread.{Unread}
use Rattle.c_reader.specs.Reading.{Reader}
use Rattle.c_grammar.specs.Expressions.{read_unary, read_expr}
use Rattle.c_grammar.specs.Types.{read_specs}
use Rattle.c_grammar.specs.Levels.{readers_at, no_expr, no_specs}
use Rattle.c_reader.specs.Outcome.{Fails, Gives}

pub left_of : (size n : ℕ) → (readers_at size n).left ≡ n
unfolding readers_at
left_of size zero = refl
left_of size (suc n) = refl

unary_next : (size n : ℕ) → (readers_at size (suc n)).unary ≡ read_unary size (suc n) (readers_at size n)
unfolding readers_at
unary_next size n = refl

expr_next : (size n : ℕ) → (readers_at size (suc n)).expr ≡ read_expr size (suc n) (readers_at size n)
unfolding readers_at
expr_next size n = refl

specs_next : (size n : ℕ) → (readers_at size (suc n)).specs ≡ read_specs size (suc n) (readers_at size n) (read_expr size (suc n) (readers_at size n))
unfolding readers_at
specs_next size n = refl

deeper : (size n : ℕ) → 0 < n → readers_at size n ≡ readers_at size (suc (n - 1))
deeper size n some = let e : n ≡ suc (n - 1) = omega arith in ap (λ m. readers_at size m) e

-- the readers of a level by those of the level below
pub unary_at : (size n : ℕ) → 0 < n → (readers_at size n).unary ≡ read_unary size n (readers_at size (n - 1))
unary_at size n some = let e : suc (n - 1) ≡ n = omega arith in ap (λ r. r.unary) (deeper size n some) ∙ unary_next size (n - 1) ∙ ap (λ m. read_unary size m (readers_at size (n - 1))) e

pub expr_at : (size n : ℕ) → 0 < n → (readers_at size n).expr ≡ read_expr size n (readers_at size (n - 1))
expr_at size n some = let e : suc (n - 1) ≡ n = omega arith in ap (λ r. r.expr) (deeper size n some) ∙ expr_next size (n - 1) ∙ ap (λ m. read_expr size m (readers_at size (n - 1))) e

pub specs_at : (size n : ℕ) → 0 < n → (readers_at size n).specs ≡ read_specs size n (readers_at size (n - 1)) (read_expr size n (readers_at size (n - 1)))
specs_at size n some =
    let e : suc (n - 1) ≡ n = omega arith in
    ap (λ r. r.specs) (deeper size n some) ∙ specs_next size (n - 1)
    ∙ ap (λ m. read_specs size m (readers_at size (n - 1)) (read_expr size m (readers_at size (n - 1)))) e

pub gives_from : {A : Type 0} (read other : Reader A) (tokens : List Token) (r : Result A Unread) (new : List Token) → read ≡ other → Gives (other tokens) r new → Gives (read tokens) r new
gives_from read other tokens r new e h = subst (λ f. Gives (f tokens) r new) (sym e) h

pub fails_from : {A : Type 0} (read other : Reader A) (tokens : List Token) (fault : Unread) → read ≡ other → Fails (other tokens) fault tokens → Fails (read tokens) fault tokens
fails_from read other tokens fault e h = subst (λ f. Fails (f tokens) fault tokens) (sym e) h

pub unary_none : (size n : ℕ) → n ≡ 0 → (readers_at size n).unary ≡ no_expr
unfolding readers_at
unary_none size n none = ap (λ m. (readers_at size m).unary) none

pub expr_none : (size n : ℕ) → n ≡ 0 → (readers_at size n).expr ≡ no_expr
unfolding readers_at
expr_none size n none = ap (λ m. (readers_at size m).expr) none

pub specs_none : (size n : ℕ) → n ≡ 0 → (readers_at size n).specs ≡ no_specs
unfolding readers_at
specs_none size n none = ap (λ m. (readers_at size m).specs) none
