-- Arithmetic shares of words (ABY, NDSS 2015, section III.A): two numbers stand for the word that they add up to, modulo
-- m = 2 ^ width. A party's share may be any number; what it sends and its new shares are words.
use Rattle.std.specs.Prelude.{◌≡◌, ℕ, ◌+◌, ◌*◌, ◌%◌, List, ◌++◌, take, drop}
use Rattle.hy_bits.specs.declared.width.Width.{Width}
use Rattle.hy_bits.specs.declared.turns.Role.{Role}
use Rattle.hy_bits.specs.Words.{modulus, word_sub, word_neg}
use Rattle.share_core.specs.Roles.{index}
use Rattle.share_core.specs.Bytes.{bytes, number, byte_count}

-- two shares stand for the word that they add up to
abbrev pub StandFor : Width → ℕ → ℕ → ℕ → Type 0
StandFor w x0 x1 x = (x0 + x1) % modulus w ≡ x

-- ---- sums, differences and so on, of any numbers

abbrev pub sum_of : ℕ → ℕ → ℕ → ℕ
sum_of m x y = (x + y) % m

abbrev pub difference_of : ℕ → ℕ → ℕ → ℕ
difference_of m x y = word_sub m (x % m) (y % m)

abbrev pub negation_of : ℕ → ℕ → ℕ
negation_of m x = word_neg m (x % m)

abbrev pub product_of : ℕ → ℕ → ℕ → ℕ
product_of m x y = (x * y) % m

-- ---- a product of shares, by a dealt triple: numbers a, b and c that are shared as x and y are, and of which c is a * b
-- (Beaver, CRYPTO 1991). Both parties open e = x - a and f = y - b, so x * y = e * f + f * a + e * b + c

-- the dealt halves: all that one has, the other has not
abbrev pub IsTriple : Width → ℕ → ℕ → ℕ → ℕ → ℕ → ℕ → Type 0
IsTriple w a0 b0 c0 a1 b1 c1 = sum_of (modulus w) c0 c1 ≡ product_of (modulus w) (a0 + a1) (b0 + b1)

-- one party's message: its shares of e, then of f
abbrev pub product_message : Width → ℕ → ℕ → ℕ → ℕ → List ℕ
product_message w x y a b = bytes (byte_count w) (difference_of (modulus w) x a) ++ bytes (byte_count w) (difference_of (modulus w) y b)

-- e and f: the party's own shares of them with those in the other's message
abbrev pub opened_e : Width → ℕ → ℕ → List ℕ → ℕ
opened_e w x a inbox = sum_of (modulus w) (difference_of (modulus w) x a) (number (take (byte_count w) inbox))

abbrev pub opened_f : Width → ℕ → ℕ → List ℕ → ℕ
opened_f w y b inbox = sum_of (modulus w) (difference_of (modulus w) y b) (number (drop (byte_count w) inbox))

-- one party's share of the product: P1 alone adds e * f
abbrev pub product_share : ℕ → Role → ℕ → ℕ → ℕ → ℕ → ℕ → ℕ
product_share m role e f a b c = (index role * (e * f) + f * a + e * b + c) % m
