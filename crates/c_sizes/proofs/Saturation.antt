-- Sums and products that stand still at 2^63 are those of the exact numbers.
use Rattle.std.proofs.Common.{◌≡◌, ℕ, zero, suc, ◌+◌, ◌*◌, refl, sym, ap, ◌∙◌, arith}
use Rattle.c_meaning.specs.Sizes.{Size, nothing, plus, times}
use Rattle.c_meaning.specs.SizeFolds.{saturated}
use Rattle.c_sizes.specs.declared.totals.Totals.{Totals}
use Rattle.c_sizes.specs.Totals.{totals_of, joined, repeated, looped}

abbrev pub made : ℕ → ℕ → ℕ → Totals
made a b c = record { visits = a; nodes = b; gates = c }

same : (a b c d e f : ℕ) → a ≡ d → b ≡ e → c ≡ f → made a b c ≡ made d e f
same a b c d e f x y z = ap (λ (n : ℕ). made n b c) x ∙ ap (λ (n : ℕ). made d n c) y ∙ ap (λ (n : ℕ). made d e n) z

pub sat_sum : (a b : ℕ) → saturated (saturated a + saturated b) ≡ saturated (a + b)
sat_sum a b = omega arith

sat_more : (p q a : ℕ) → saturated p ≡ saturated q → saturated (p + saturated a) ≡ saturated (q + a)
sat_more p q a e = omega arith

pub sat_product : (n a : ℕ) → saturated (n * saturated a) ≡ saturated (n * a)
sat_product zero a = omega arith
sat_product (suc n) a =
    let more : suc n * saturated a ≡ n * saturated a + saturated a = omega arith in
    let next : suc n * a ≡ n * a + a = omega arith in
    ap saturated more ∙ sat_more (n * saturated a) (n * a) a (sat_product n a) ∙ sym (ap saturated next)

pub joined_totals : (a b : Size) → joined (totals_of a) (totals_of b) ≡ totals_of (plus a b)
unfolding joined totals_of
joined_totals a b = same _ _ _ _ _ _ (sat_sum a.visits b.visits) (sat_sum a.nodes b.nodes) (sat_sum a.gates b.gates)

pub repeated_totals : (n : ℕ) (a : Size) → repeated n (totals_of a) ≡ totals_of (times n a)
unfolding repeated totals_of
repeated_totals n a = same _ _ _ _ _ _ (sat_product n a.visits) (sat_product n a.nodes) (sat_product n a.gates)

same_size : (a b : Size) → a.visits ≡ b.visits → a.nodes ≡ b.nodes → a.gates ≡ b.gates → totals_of a ≡ totals_of b
unfolding totals_of
same_size a b x y z = same _ _ _ _ _ _ (ap saturated x) (ap saturated y) (ap saturated z)

-- turns of a loop
pub looped_totals : (turn : Size) (n : ℕ) (test body step : Size) → looped (totals_of turn) n (totals_of test) (totals_of body) (totals_of step) ≡ totals_of (plus (times (n + 1) test) (times n (plus turn (plus body step))))
unfolding looped
looped_totals turn n test body step =
    ap (λ (t : Totals). joined (repeated (n + 1) (totals_of test)) (repeated n (joined (totals_of turn) t))) (joined_totals body step)
    ∙ ap (λ (t : Totals). joined (repeated (n + 1) (totals_of test)) (repeated n t)) (joined_totals turn (plus body step))
    ∙ ap (λ (t : Totals). joined t (repeated n (totals_of (plus turn (plus body step))))) (repeated_totals (n + 1) test)
    ∙ ap (joined (totals_of (times (n + 1) test))) (repeated_totals n (plus turn (plus body step)))
    ∙ joined_totals (times (n + 1) test) (times n (plus turn (plus body step)))

-- two operands, with nothing between them
pub operands_joined : (a b : Size) → joined (totals_of a) (totals_of b) ≡ totals_of (plus (plus a b) nothing)
operands_joined a b = joined_totals a b ∙ same_size (plus a b) (plus (plus a b) nothing) (omega arith) (omega arith) (omega arith)

-- three operands, with a cost
pub three_joined : (a b c k : Size) → joined (joined (totals_of a) (joined (totals_of b) (totals_of c))) (totals_of k) ≡ totals_of (plus (plus a (plus b (plus c nothing))) k)
three_joined a b c k =
    ap (λ (t : Totals). joined (joined (totals_of a) t) (totals_of k)) (joined_totals b c)
    ∙ ap (λ (t : Totals). joined t (totals_of k)) (joined_totals a (plus b c))
    ∙ joined_totals (plus a (plus b c)) k
    ∙ same_size (plus (plus a (plus b c)) k) (plus (plus a (plus b (plus c nothing))) k) (omega arith) (omega arith) (omega arith)

pub sum_first : (a b c : Size) → totals_of (plus (plus a b) c) ≡ totals_of (plus a (plus b c))
sum_first a b c = same_size (plus (plus a b) c) (plus a (plus b c)) (omega arith) (omega arith) (omega arith)

pub nothing_last : (a : Size) → totals_of (plus a nothing) ≡ totals_of a
nothing_last a = same_size (plus a nothing) a (omega arith) (omega arith) (omega arith)

pub nothing_first : (a : Size) → totals_of (plus nothing a) ≡ totals_of a
nothing_first a = same_size (plus nothing a) a (omega arith) (omega arith) (omega arith)

-- ---- exact sums

abbrev pub sized : ℕ → ℕ → ℕ → Size
sized a b c = record { visits = a; nodes = b; gates = c }

same_exact : (a b : Size) → a.visits ≡ b.visits → a.nodes ≡ b.nodes → a.gates ≡ b.gates → a ≡ b
same_exact a b x y z = ap (λ (n : ℕ). sized n a.nodes a.gates) x ∙ ap (λ (n : ℕ). sized b.visits n a.gates) y ∙ ap (λ (n : ℕ). sized b.visits b.nodes n) z

pub plus_assoc : (a b c : Size) → plus (plus a b) c ≡ plus a (plus b c)
plus_assoc a b c = same_exact (plus (plus a b) c) (plus a (plus b c)) (omega arith) (omega arith) (omega arith)

pub plus_last : (a b : Size) → plus (plus a b) nothing ≡ plus nothing (plus a b)
plus_last a b = same_exact (plus (plus a b) nothing) (plus nothing (plus a b)) (omega arith) (omega arith) (omega arith)

pub plus_none : (a : Size) → plus a nothing ≡ plus nothing (plus a nothing)
plus_none a = same_exact (plus a nothing) (plus nothing (plus a nothing)) (omega arith) (omega arith) (omega arith)

-- ---- sums of what is known by its parts

pub joined_as : (a b : Totals) (x y s : Size) → a ≡ totals_of x → b ≡ totals_of y → plus x y ≡ s → joined a b ≡ totals_of s
joined_as a b x y s e f g = ap (λ (t : Totals). joined t b) e ∙ ap (joined (totals_of x)) f ∙ joined_totals x y ∙ ap totals_of g

pub both_as : (a b : Totals) (x y s : Size) → a ≡ totals_of x → b ≡ totals_of y → plus (plus x y) nothing ≡ s → joined a b ≡ totals_of s
both_as a b x y s e f g = ap (λ (t : Totals). joined t b) e ∙ ap (joined (totals_of x)) f ∙ operands_joined x y ∙ ap totals_of g

pub third_as : (a b c k : Totals) (x y z w s : Size) → a ≡ totals_of x → b ≡ totals_of y → c ≡ totals_of z → k ≡ totals_of w → plus (plus x (plus y (plus z nothing))) w ≡ s → joined (joined a (joined b c)) k ≡ totals_of s
third_as a b c k x y z w s e f g h i =
    ap (λ (t : Totals). joined (joined t (joined b c)) k) e
    ∙ ap (λ (t : Totals). joined (joined (totals_of x) (joined t c)) k) f
    ∙ ap (λ (t : Totals). joined (joined (totals_of x) (joined (totals_of y) t)) k) g
    ∙ ap (joined (joined (totals_of x) (joined (totals_of y) (totals_of z)))) h
    ∙ three_joined x y z w ∙ ap totals_of i

pub called_as : (a b c : Totals) (x y z s : Size) → a ≡ totals_of x → b ≡ totals_of y → c ≡ totals_of z → plus (plus x y) z ≡ s → joined (joined a b) c ≡ totals_of s
called_as a b c x y z s e f g h =
    ap (λ (t : Totals). joined t c) (joined_as a b x y (plus x y) e f refl) ∙ joined_as (totals_of (plus x y)) c (plus x y) z s refl g h

pub looped_as : (turn : Size) (n : ℕ) (test body step : Totals) (t b s w : Size) → test ≡ totals_of t → body ≡ totals_of b → step ≡ totals_of s → plus (times (n + 1) t) (times n (plus turn (plus b s))) ≡ w → looped (totals_of turn) n test body step ≡ totals_of w
looped_as turn n test body step t b s w e f g h =
    ap (λ (x : Totals). looped (totals_of turn) n x body step) e
    ∙ ap (λ (x : Totals). looped (totals_of turn) n (totals_of t) x step) f
    ∙ ap (looped (totals_of turn) n (totals_of t) (totals_of b)) g
    ∙ looped_totals turn n t b s ∙ ap totals_of h
