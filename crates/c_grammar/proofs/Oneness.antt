-- A list of tokens spells one expression and one type at most, and expressions that begin with the same tokens nest these alike.
use Rattle.std.proofs.Common.{◌≡◌, ◌≤◌, ℕ, suc, ◌+◌, ◌-◌, true, List, [], ◌++◌, length, refl, arith}
use Rattle.c_tree.specs.Pieces.{Fits}
use Rattle.c_tree.specs.Folds.{wants_of_expr, wants_of_specs, binds, are_specs}
use Rattle.c_tree.specs.declared.token.Token.{Token}
use Rattle.c_tree.specs.declared.expressions.Expr.{Expr}
use Rattle.c_tree.specs.declared.expressions.Specifiers.{Specifiers}
use Rattle.c_reader.specs.Depths.{AreWithin}
use Rattle.c_reader.specs.Firsts.{BeginsOf}
use Rattle.c_reader.proofs.Choosing.{FirstIs}
use Rattle.c_reader.proofs.Nesting.{limit_of, within_more, within_limit, one_of, nested_alike}
use Rattle.c_grammar.specs.Levels.{readers_at}
use Rattle.c_grammar.specs.Spelled.{ExprAt}
use Rattle.c_grammar.proofs.Levels.{all_read}
use Rattle.c_grammar.proofs.Suffixes.{At, Stops}

pub one_expr : (n : ℕ) (a b : Expr) (tokens : List Token) → binds a 0 ≡ true → binds b 0 ≡ true → Fits (wants_of_expr a n) tokens → Fits (wants_of_expr b n) tokens → a ≡ b
unfolding FirstIs
one_expr n a b tokens left right fits_left fits_right =
    let d = limit_of (wants_of_expr a n) in
    let e = limit_of (wants_of_expr b n) in
    let most = n + d + e in
    one_of (all_read most (length (tokens ++ [])) (suc (d + e)) n (omega arith)).expr [] refl a b (wants_of_expr a n) (wants_of_expr b n) tokens
    (record { grammar = left; wants = refl }) (record { grammar = right; wants = refl }) fits_left fits_right
    (within_more d most (omega arith) (wants_of_expr a n) (within_limit (wants_of_expr a n))) (within_more e most (omega arith) (wants_of_expr b n) (within_limit (wants_of_expr b n))) (omega arith)

pub one_specs : (n : ℕ) (a b : Specifiers) (tokens : List Token) → are_specs a ≡ true → are_specs b ≡ true → Fits (wants_of_specs a n) tokens → Fits (wants_of_specs b n) tokens → a ≡ b
unfolding FirstIs
one_specs n a b tokens left right fits_left fits_right =
    let d = limit_of (wants_of_specs a n) in
    let e = limit_of (wants_of_specs b n) in
    let most = n + d + e in
    one_of (all_read most (length (tokens ++ [])) (suc (d + e)) n (omega arith)).specs [] refl a b (wants_of_specs a n) (wants_of_specs b n) tokens
    (record { grammar = left; wants = refl }) (record { grammar = right; wants = refl }) fits_left fits_right
    (within_more d most (omega arith) (wants_of_specs a n) (within_limit (wants_of_specs a n))) (within_more e most (omega arith) (wants_of_specs b n) (within_limit (wants_of_specs b n))) (omega arith)

pub to_begins : (n : ℕ) (ts : List Token) → BeginsOf (ExprAt n) ts → BeginsOf (At 0 n) ts
to_begins n ts b = record { tree = b.tree; pieces = b.pieces; missing = b.missing; spelled_ = record { grammar = b.spelled_.grammar; wants = b.spelled_.wants }; fits = b.fits }

pub exprs_alike : (n most : ℕ) (tokens : List Token) (a b : BeginsOf (ExprAt n) tokens) → n ≤ most → AreWithin most a.pieces → AreWithin most b.pieces
unfolding FirstIs to_begins
exprs_alike n most tokens a b low s =
    nested_alike (At 0 n) most (Stops 0) (λ size. (readers_at size (most + 1 - n)).expr) (λ size. (all_read most size (most + 1 - n) n (omega (arith, low))).expr) [] refl tokens (to_begins n tokens a) (to_begins n tokens b) s
