-- Words of enumerators, and numbers of elements.
use Rattle.std.proofs.Common.{◌≡◌, ◌<◌, ◌+◌, ◌-◌, ◌^◌, ◌%◌, ◌==◌, ◌&&◌, ℕ, Bool, true, false, if◌then◌else◌, nat_le, nat_lt, Option, None, Some, subst, refl, arith, mod-lt}
use Rattle.std.proofs.lemmas.Grind.{common_steps}
use Rattle.hy_bits.specs.declared.scalar.Scalar.{Scalar}
use Rattle.hy_bits.specs.declared.scalar.Scalar.TheVariants.{S32}
use Rattle.hy_bits.specs.Scalar.{scalar_width, is_signed}
use Rattle.hy_bits.specs.Words.{IsWord, word_extend, signed, is_negative}
use Rattle.hy_bits.proofs.WordLaws.{residue-lt}
use Rattle.c_meaning.specs.Operations.{modulus_of, low, converted_to}
use Rattle.c_meaning.specs.StatementRules.{most_elements}
use Rattle.c_typing.specs.declared.environment.Environment.{Environment}
use Rattle.c_typing.specs.declared.values.TypedValue.{TypedValue}
use Rattle.c_meaning.specs.Constants.{constant_of}
use Rattle.c_meaning.specs.Counting.{word_where}
use Rattle.c_typing.specs.Values.{scalar_of}
use Rattle.c_typing.specs.Specifiers.{int_where, int_constant, next_word, count_where}
use Rattle.specifier_laws.specs.Declared.{IsCount, NextIn}

extend-lt : (m k : ℕ) (by : Bool) (a : ℕ) → 0 < k → word_extend m k by a < k
extend-lt m k true a some = residue-lt k (signed m a) some
extend-lt m k false a some = mod-lt a some

converted-lt : (t : Scalar) (w : ℕ) → converted_to t S32 w < modulus_of S32
converted-lt t w = extend-lt (modulus_of t) (modulus_of S32) (is_signed t) (low t w) (omega arith)

-- ---- words of enumerators (C11 6.7.2.2p2)

if-held : (x v : ℕ) (b : Bool) → x < modulus_of S32 → ◌≡◌ {A = Option ℕ} (if b then Some x else None) (Some v) → IsWord (scalar_width S32) v
if-held x v true few h = let same : x ≡ v = cc in subst (IsWord (scalar_width S32)) same few
if-held x v false few h = absurd (cc)

if-small : (w v : ℕ) (b : Bool) → nat_lt w (2 ^ 31) ≡ b → ◌≡◌ {A = Option ℕ} (if b then Some w else None) (Some v) → IsWord (scalar_width S32) v
if-small w v true e h =
    let few : w < 2 ^ 31 = grind (arith, common_steps) in
    let word : w < modulus_of S32 = omega (arith, few) in
    let same : w ≡ v = cc in
    subst (IsWord (scalar_width S32)) same word
if-small w v false e h = absurd (cc)

int-at : (x back w v : ℕ) (by : Bool) → x < modulus_of S32
    → ◌≡◌ {A = Option ℕ} (if by then (if back == w then Some x else None) else (if nat_lt w (2 ^ 31) then Some w else None)) (Some v) → IsWord (scalar_width S32) v
int-at x back w v true few h = if-held x v (back == w) few h
int-at x back w v false few h = if-small w v (nat_lt w (2 ^ 31)) refl h

int-word-fits : (t : Option Scalar) (w : Option ℕ) (v : ℕ) → int_where t w ≡ Some v → IsWord (scalar_width S32) v
int-word-fits None w v h = absurd (cc)
int-word-fits (Some t) None v h = absurd (cc)
int-word-fits (Some t) (Some w) v h = int-at (converted_to t S32 w) (converted_to S32 t (converted_to t S32 w)) w v (is_signed t) (converted-lt t w) h

pub int-constant-fits : (value : TypedValue) (v : ℕ) → int_constant value ≡ Some v → IsWord (scalar_width S32) v
int-constant-fits value v h = int-word-fits (scalar_of value.ctype) (word_where true (constant_of value.expr)) v h

next-at : (env : Environment) (w : ℕ) (b : Bool) → NextIn env (if b then None else Some ((w + 1) % 2 ^ 32))
next-at env w true = tt
next-at env w false = mod-lt (w + 1) (omega arith)

pub next-fits : (env : Environment) (w : ℕ) → NextIn env (next_word w)
next-fits env w = next-at env w (w == 2 ^ 31 - 1)

-- ---- numbers of elements (C11 6.7.6.2p1)

both : (a b : Bool) → (a && b) ≡ true → (a ≡ true) × (b ≡ true)
both true b h = (refl, h)
both false b h = absurd (cc)

within-at : (w n : ℕ) (b : Bool) → (nat_le 1 w && nat_le w most_elements) ≡ b → ◌≡◌ {A = Option ℕ} (if b then Some w else None) (Some n) → IsCount n
within-at w n true e h = let same : w ≡ n = cc in subst IsCount same (both (nat_le 1 w) (nat_le w most_elements) e)
within-at w n false e h = absurd (cc)

count-at : (w n : ℕ) (a : Bool) → ◌≡◌ {A = Option ℕ} (if a then None else if nat_le 1 w && nat_le w most_elements then Some w else None) (Some n) → IsCount n
count-at w n true h = absurd (cc)
count-at w n false h = within-at w n (nat_le 1 w && nat_le w most_elements) refl h

pub count-fits : (t : Option Scalar) (w : Option ℕ) (n : ℕ) → count_where t w ≡ Some n → IsCount n
count-fits None w n h = absurd (cc)
count-fits (Some t) None n h = absurd (cc)
count-fits (Some t) (Some w) n h = count-at w n (is_signed t && is_negative (modulus_of t) w) h
