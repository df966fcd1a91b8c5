-- Words that are a request, and words that are none.
use Rattle.std.proofs.Common.{◌≡◌, ℕ, List, [], ◌∷◌, length, get_or, Option, None, Some, option_and_then, refl, sym, ap, ◌∙◌, subst, arith, codes}
use Rattle.std.specs.List.{AllPass}
use Rattle.hex.specs.Hex.{is_hex_digit}
use Rattle.hy_io.specs.Outside.{Store}
use Rattle.hy_words.specs.Words.{given, value_of}
use Rattle.hy_words.specs.Commands.{syntax_of}
use Rattle.hy_words.specs.Request.{Job, exec as asked_exec, plain as asked_plain, ◌<*>◌, asked_in, request_of as asked_of}
use Rattle.hy_words.specs.declared.command.Command.TheVariants as command
use Rattle.plain_command.specs.Endings.{HasPlainJob}
use Rattle.hycc_top.specs.Endings.{HasJob}
use Rattle.hycc_top.specs.Request.{IsRequest, IsPlainRequest}

-- a list of seven is its elements
pub seven : {X : Type 0} (words : List X) (command source a b option seed : X) → length words ≡ 7 → command ≡ get_or words 1 command → source ≡ get_or words 2 source → a ≡ get_or words 3 a → b ≡ get_or words 4 b → option ≡ get_or words 5 option → seed ≡ get_or words 6 seed → (program : X) × (words ≡ program ∷ command ∷ source ∷ a ∷ b ∷ option ∷ seed ∷ [])
seven [] command source a b option seed long c1 c2 c3 c4 c5 c6 = absurd (omega (arith, long))
seven (p ∷ []) command source a b option seed long c1 c2 c3 c4 c5 c6 = absurd (omega (arith, long))
seven (p ∷ w1 ∷ []) command source a b option seed long c1 c2 c3 c4 c5 c6 = absurd (omega (arith, long))
seven (p ∷ w1 ∷ w2 ∷ []) command source a b option seed long c1 c2 c3 c4 c5 c6 = absurd (omega (arith, long))
seven (p ∷ w1 ∷ w2 ∷ w3 ∷ []) command source a b option seed long c1 c2 c3 c4 c5 c6 = absurd (omega (arith, long))
seven (p ∷ w1 ∷ w2 ∷ w3 ∷ w4 ∷ []) command source a b option seed long c1 c2 c3 c4 c5 c6 = absurd (omega (arith, long))
seven (p ∷ w1 ∷ w2 ∷ w3 ∷ w4 ∷ w5 ∷ []) command source a b option seed long c1 c2 c3 c4 c5 c6 = absurd (omega (arith, long))
seven (p ∷ w1 ∷ w2 ∷ w3 ∷ w4 ∷ w5 ∷ w6 ∷ []) command source a b option seed long c1 c2 c3 c4 c5 c6 = (p, rw (c1, c2, c3, c4, c5, c6) refl)
seven (p ∷ w1 ∷ w2 ∷ w3 ∷ w4 ∷ w5 ∷ w6 ∷ w7 ∷ rest) command source a b option seed long c1 c2 c3 c4 c5 c6 = absurd (omega (arith, long))

-- seven words whose last is no seed
pub no_seed : (words : List (List ℕ)) (program command source a b option seed : List ℕ) → words ≡ program ∷ command ∷ source ∷ a ∷ b ∷ option ∷ seed ∷ [] → ((length seed ≡ 64) × AllPass is_hex_digit seed → ⊥) → (other_source other_a other_b : List ℕ) → IsRequest words other_source other_a other_b → ⊥
no_seed words program command source a b option seed are none other_source other_a other_b request =
    let same : request.seed ≡ seed = cc (request.words_are, are) in
    none (rw same at request.seed_length, rw same at request.seed_digits)

-- seven words that are a request
pub request_of : (words : List (List ℕ)) (program command source a b option seed source' a' b' : List ℕ) → words ≡ program ∷ command ∷ source ∷ a ∷ b ∷ option ∷ seed ∷ [] → command ≡ codes "exec" → option ≡ codes "--seed" → source' ≡ source → a' ≡ a → b' ≡ b → (length seed ≡ 64) × AllPass is_hex_digit seed → IsRequest words source' a' b'
request_of words program command source a b option seed source' a' b' are exec flag s x y digits =
    record {
      program = program;
      seed = seed;
      words_are = are ∙ rw (exec, flag, s, x, y) refl;
      seed_length = digits.0;
      seed_digits = digits.1;
    }

-- ---- one list of words, one request

exec_only : (job : Option Job) (seed : Option (List ℕ)) (source a b : List ℕ) (bound : Option ℕ) → (Some (λ p q. asked_exec p q) <*> job <*> seed) ≡ Some (asked_plain source a b bound) → ⊥
exec_only None seed source a b bound is = absurd (cc)
exec_only (Some job) None source a b bound is = absurd (cc)
exec_only (Some job) (Some seed) source a b bound is = absurd (cc)

-- words of `exec` are none of `plain`
pub not_both : (words : List (List ℕ)) (source a b other_source other_a other_b : List ℕ) (bound : Option ℕ) → IsRequest words source a b → IsPlainRequest words other_source other_a other_b bound → ⊥
not_both words source a b other_source other_a other_b bound request plain_request =
    let rest = source ∷ a ∷ b ∷ codes "--seed" ∷ request.seed ∷ [] in
    let named : asked_of (request.program ∷ codes "exec" ∷ rest) ≡ Some (asked_plain other_source other_a other_b bound) = sym (ap asked_of request.words_are) ∙ plain_request in
    by_values (given (syntax_of command.Exec) rest) named
  where
    by_values : (values : _) → option_and_then (λ values. asked_in command.Exec (value_of values)) values ≡ Some (asked_plain other_source other_a other_b bound) → ⊥
    by_values None is = absurd (cc)
    by_values (Some values) is = exec_only _ _ other_source other_a other_b bound is

-- words ask for one run
pub one_run : (store : Option Store) (words : List (List ℕ)) (source a b other_source other_a other_b : List ℕ) → IsRequest words source a b → IsRequest words other_source other_a other_b
    → HasJob store other_source other_a other_b → HasJob store source a b
one_run store words source a b other_source other_a other_b request other job =
    let is : request.program ∷ codes "exec" ∷ source ∷ a ∷ b ∷ codes "--seed" ∷ request.seed ∷ [] ≡ other.program ∷ codes "exec" ∷ other_source ∷ other_a ∷ other_b ∷ codes "--seed" ∷ other.seed ∷ [] = sym request.words_are ∙ other.words_are in
    let s : source ≡ other_source = cc (is) in
    let x : a ≡ other_a = cc (is) in
    let y : b ≡ other_b = cc (is) in
    rw (s, x, y) job

pub one_plain_run : (store : Option Store) (words : List (List ℕ)) (source a b other_source other_a other_b : List ℕ) (bound other_bound : Option ℕ)
    → IsPlainRequest words source a b bound → IsPlainRequest words other_source other_a other_b other_bound → HasPlainJob store other_source other_a other_b other_bound → HasPlainJob store source a b bound
one_plain_run store words source a b other_source other_a other_b bound other_bound request other job =
    let is : Some (asked_plain source a b bound) ≡ Some (asked_plain other_source other_a other_b other_bound) = sym request ∙ other in
    let s : source ≡ other_source = cc (is) in
    let x : a ≡ other_a = cc (is) in
    let y : b ≡ other_b = cc (is) in
    let n : bound ≡ other_bound = cc (is) in
    rw (s, x, y, n) job
