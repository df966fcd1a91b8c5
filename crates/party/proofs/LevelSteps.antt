-- Steps of the loops over a level's gates, and gates for which nothing is received.
use Rattle.std.proofs.Common.{◌≡◌, ℕ, zero, suc, ◌+◌, ◌-◌, ◌*◌, ◌<◌, ◌≤◌, if◌then◌else◌, List, [], ◌∷◌, ◌++◌, length, get_or, set, map, take, drop, replicate, slice_index, refl, sym, ap, ap₂, subst, ◌∙◌, arith, length-append, length-take-le, append_assoc, add-one, drop-cons, max}
use Rattle.std.proofs.lemmas.List.{length-map, take-append-drop, take_more, take_more_set, take-take, drop-drop, drop-take, map_push, take_all, drop_all}
use Rattle.hy_bits.specs.declared.width.Width as Width
use Rattle.hy_bits.specs.declared.width.Width.TheVariants.{W1, W8, W16, W32, W64}
use Rattle.hy_bits.specs.declared.turns.Role as Role
use Rattle.hy_bits.specs.declared.turns.Role.TheVariants.{P0, P1}
use Rattle.hy_bits.specs.Words.{modulus}
use Rattle.share_core.specs.declared.instr.Instr.{Instr}
use Rattle.share_core.specs.declared.instr.InstrKind.{InstrKind}
use Rattle.share_core.specs.declared.instr.InstrKind.TheVariants.{Offset, LevelY, MulA, AndB, AndY}
use Rattle.share_core.specs.declared.labels.Label.{Label}
use Rattle.share_core.specs.Arithmetic.{difference_of, product_share, sum_of}
use Rattle.share_core.specs.Bytes.{byte_count, number}
use Rattle.share_core.specs.Garbled.{and_rows}
use Rattle.share_core.specs.Instructions.{has_frame}
use Rattle.share_core.specs.Levels.{LengthsAre, level_message, level_shares, summed}
use Rattle.share_core.specs.Machine.{View, gate_message, gate_share, label_Y, word_A, word_slot, written}
use Rattle.share_core.specs.Sizes.{sent}
use Rattle.share_core.proofs.ArithmeticLaws.{length-product_message}
use Rattle.share_core.proofs.GarbledLaws.{length-and_rows}
use Rattle.share_core.proofs.LevelLaws.{message_by_last, message_has_length, shares_by_last, sum_by_last}
use Rattle.party.specs.Gates.{gate_sent}
use Rattle.party.proofs.Listed.{written-append}

-- ---- the length of a gate's message

rows_length : (v : View) (gate : Instr) (role : Role.Role) → length (if has_frame LevelY role then and_rows v.offset gate.number (label_Y v gate.left) (label_Y v gate.right) else []) ≡ gate_sent AndY gate.width role
rows_length v gate P0 = length-and_rows v.offset gate.number (label_Y v gate.left) (label_Y v gate.right)
rows_length v gate P1 = refl

pub length-gate_message : (v : View) (k : ℕ) (gate : Instr) (kind : InstrKind) → length (gate_message v k gate kind) ≡ gate_sent kind gate.width v.role
length-gate_message v k gate MulA = length-product_message gate.width (word_A v gate.left) (word_A v gate.right) (slice_index (v.half k) 0) (slice_index (v.half k) 1)
length-gate_message v k gate AndB = refl
length-gate_message v k gate AndY = rows_length v gate v.role
length-gate_message v k gate _ = refl

lengths_are : (v : View) (k : ℕ) (gates : List Instr) → LengthsAre (λ n gate. gate_message v n gate gate.kind) (λ gate. gate_sent gate.kind gate.width v.role) k gates
lengths_are v k [] = tt
lengths_are v k (gate ∷ gates) = (length-gate_message v k gate gate.kind, lengths_are v (suc k) gates)

pub length-level : (v : View) (gates : List Instr) → length (level_message (λ k gate. gate_message v k gate gate.kind) 0 gates) ≡ summed (λ gate. gate_sent gate.kind gate.width v.role) gates
length-level v gates = message_has_length (λ k gate. gate_message v k gate gate.kind) (λ gate. gate_sent gate.kind gate.width v.role) 0 gates (lengths_are v 0 gates)

-- ---- one gate more

-- what is read past the end of a list of instructions
abbrev pub no_instr : Instr
no_instr = record { kind = Offset; number = 0; width = W1; left = 0; right = 0; target = 0; value = 0 }

front : (gates : List Instr) (i : ℕ) (gate d : Instr) → i < length gates → gate ≡ get_or gates i d → take (i + 1) gates ≡ take i gates ++ gate ∷ []
front gates i gate d inside is = take_more gates i d inside ∙ ap (λ (g : Instr). take i gates ++ g ∷ []) (sym is)

pub summed_more : (count : Instr → ℕ) (gates : List Instr) (i : ℕ) (gate d : Instr) → i < length gates → gate ≡ get_or gates i d → summed count (take (i + 1) gates) ≡ summed count (take i gates) + count gate
summed_more count gates i gate d inside is = ap (summed count) (front gates i gate d inside is) ∙ sum_by_last count (take i gates) gate

summed_append : (count : Instr → ℕ) (xs ys : List Instr) → summed count (xs ++ ys) ≡ summed count xs + summed count ys
summed_append count [] ys = omega arith
summed_append count (x ∷ xs) ys = omega (arith, summed_append count xs ys)

-- the gates so far, and one more, have no more than all
pub summed_within : (count : Instr → ℕ) (gates : List Instr) (i : ℕ) (gate d : Instr) → i < length gates → gate ≡ get_or gates i d → summed count (take i gates) + count gate ≤ summed count gates
summed_within count gates i gate d inside is =
    let parts : take (i + 1) gates ++ drop (i + 1) gates ≡ gates = take-append-drop (i + 1) gates in
    omega (arith, summed_more count gates i gate d inside is, summed_append count (take (i + 1) gates) (drop (i + 1) gates), ap (summed count) parts)

pub message_more : (message : ℕ → Instr → List ℕ) (gates : List Instr) (i : ℕ) (gate d : Instr) → i < length gates → gate ≡ get_or gates i d →
    level_message message 0 (take (i + 1) gates) ≡ level_message message 0 (take i gates) ++ message i gate
message_more message gates i gate d inside is =
    let size : 0 + length (take i gates) ≡ i = omega (arith, length-take-le i gates (omega arith)) in
    ap (level_message message 0) (front gates i gate d inside is)
    ∙ message_by_last message 0 (take i gates) gate
    ∙ ap (λ (k : ℕ). level_message message 0 (take i gates) ++ message k gate) size

pub shares_more : (received : Instr → ℕ) (share : ℕ → Instr → List ℕ → Label) (gates : List Instr) (i : ℕ) (gate d : Instr) (inbox : List ℕ) → i < length gates → gate ≡ get_or gates i d →
    level_shares received share 0 (take (i + 1) gates) inbox ≡ level_shares received share 0 (take i gates) inbox ++ share i gate (take (received gate) (drop (summed received (take i gates)) inbox)) ∷ []
shares_more received share gates i gate d inbox inside is =
    let size : 0 + length (take i gates) ≡ i = omega (arith, length-take-le i gates (omega arith)) in
    ap (λ (gs : List Instr). level_shares received share 0 gs inbox) (front gates i gate d inside is)
    ∙ shares_by_last received share 0 (take i gates) gate inbox
    ∙ ap (λ (k : ℕ). level_shares received share 0 (take i gates) inbox ++ share k gate (take (received gate) (drop (summed received (take i gates)) inbox)) ∷ []) size

-- a loop that stores the i-th share
pub stored : (received : Instr → ℕ) (share : ℕ → Instr → List ℕ → Label) (gates : List Instr) (i : ℕ) (gate d : Instr) (inbox : List ℕ) (shares : List Label) (new : Label) → i < length gates → gate ≡ get_or gates i d → i < length shares →
    take i shares ≡ level_shares received share 0 (take i gates) inbox → new ≡ share i gate (take (received gate) (drop (summed received (take i gates)) inbox)) →
    take (i + 1) (set shares i new) ≡ level_shares received share 0 (take (i + 1) gates) inbox
stored received share gates i gate d inbox shares new inside is room before made =
    take_more_set shares i new room
    ∙ ap₂ (λ (xs : List Label) (x : Label). xs ++ x ∷ []) before made
    ∙ sym (shares_more received share gates i gate d inbox inside is)

-- the piece of a payload that begins at place 5
pub piece_of : (items : List ℕ) (total before size : ℕ) → before + size ≤ total → take size (drop (5 + before) items) ≡ take size (drop before (take total (drop 5 items)))
piece_of items total before size within =
    let whole : before + (total - before) ≡ total = omega arith in
    let cut : drop before (take total (drop 5 items)) ≡ take (total - before) (drop before (drop 5 items)) =
    ap (λ (n : ℕ). drop before (take n (drop 5 items))) (sym whole) ∙ drop-take before (total - before) (drop 5 items) in
    ap (λ (xs : List ℕ). take size xs) (sym (drop-drop before 5 items))
    ∙ sym (take-take size (total - before) (drop before (drop 5 items)) (omega arith))
    ∙ ap (λ (xs : List ℕ). take size xs) (sym cut)

-- a share put into its slot
pub put_more : (slots before after : List Label) (gates : List Instr) (shares : List Label) (i : ℕ) (gate d : Instr) → i < length gates → i < length shares → gate ≡ get_or gates i d →
    before ≡ written slots (map (λ (g : Instr). g.target) (take i gates)) (take i shares) → after ≡ set before gate.target (get_or shares i (record { low = 0; high = 0 })) →
    after ≡ written slots (map (λ (g : Instr). g.target) (take (i + 1) gates)) (take (i + 1) shares)
put_more slots before after gates shares i gate d inside room is so_far next =
    let target : Instr → ℕ = λ g. g.target in
    let none : Label = record { low = 0; high = 0 } in
    let targets : map target (take (i + 1) gates) ≡ map target (take i gates) ++ gate.target ∷ [] = ap (map target) (front gates i gate d inside is) ∙ map_push target (take i gates) gate in
    let same : length (map target (take i gates)) ≡ length (take i shares) = length-map (take i gates) target ∙ length-take-le i gates (omega arith) ∙ sym (length-take-le i shares (omega arith)) in
    next
    ∙ ap (λ (xs : List Label). set xs gate.target (get_or shares i none)) so_far
    ∙ sym (written-append slots (map target (take i gates)) (gate.target ∷ []) (take i shares) (get_or shares i none ∷ []) same)
    ∙ ap₂ (λ (ts : List ℕ) (xs : List Label). written slots ts xs) (sym targets) (sym (take_more shares i none room))

abbrev no_bytes : List ℕ
no_bytes = []

-- a message put after those of the gates before
pub sent_more : (v : View) (gates : List Instr) (i : ℕ) (gate d : Instr) (old before after : List ℕ) → i < length gates → gate ≡ get_or gates i d →
    before ≡ old ++ level_message (λ k g. gate_message v k g g.kind) 0 (take i gates) → after ≡ before ++ gate_message v i gate gate.kind →
    after ≡ old ++ level_message (λ k g. gate_message v k g g.kind) 0 (take (i + 1) gates)
sent_more v gates i gate d old before after inside is so_far next =
    let f : ℕ → Instr → List ℕ = λ k g. gate_message v k g g.kind in
    next
    ∙ ap (λ (xs : List ℕ). xs ++ f i gate) so_far
    ∙ append_assoc old (level_message f 0 (take i gates)) (f i gate)
    ∙ ap (λ (xs : List ℕ). old ++ xs) (sym (message_more f gates i gate d inside is))

pub long_more : (v : View) (gates : List Instr) (i : ℕ) (gate d : Instr) (old before after : List ℕ) → i < length gates → gate ≡ get_or gates i d →
    length before ≡ length old + summed (λ g. gate_sent g.kind g.width v.role) (take i gates) → after ≡ before ++ gate_message v i gate gate.kind →
    length after ≡ length old + summed (λ g. gate_sent g.kind g.width v.role) (take (i + 1) gates)
long_more v gates i gate d old before after inside is so_far next =
    let size : length after ≡ length before + length (gate_message v i gate gate.kind) = ap length next ∙ length-append before (gate_message v i gate gate.kind) in
    omega (arith, size, length-gate_message v i gate gate.kind, so_far, summed_more (λ g. gate_sent g.kind g.width v.role) gates i gate d inside is)

-- all gates
pub all_gates : (gates : List Instr) (i : ℕ) → length gates ≤ i → take i gates ≡ gates
all_gates gates i done = take_all i gates done

pub sent_all : (v : View) (gates : List Instr) (i : ℕ) (old after : List ℕ) → length gates ≤ i → after ≡ old ++ level_message (λ k g. gate_message v k g g.kind) 0 (take i gates) →
    after ≡ old ++ level_message (λ k g. gate_message v k g g.kind) 0 gates
sent_all v gates i old after done is = is ∙ ap (λ (gs : List Instr). old ++ level_message (λ k g. gate_message v k g g.kind) 0 gs) (all_gates gates i done)

pub stored_all : (received : Instr → ℕ) (share : ℕ → Instr → List ℕ → Label) (gates : List Instr) (i : ℕ) (inbox : List ℕ) (shares : List Label) → i ≡ length gates →
    take i shares ≡ level_shares received share 0 (take i gates) inbox → take (length gates) shares ≡ level_shares received share 0 gates inbox
stored_all received share gates i inbox shares done is =
    ap (λ (n : ℕ). take n shares) (sym done) ∙ is ∙ ap (λ (gs : List Instr). level_shares received share 0 gs inbox) (all_gates gates i (omega arith))

none_from : (s : ℕ) → drop s no_bytes ≡ []
none_from s = drop_all s no_bytes (omega arith)

pub none_left : (n s : ℕ) → take n (drop s no_bytes) ≡ []
none_left n s = ap (λ (xs : List ℕ). take n xs) (none_from s) ∙ take_all n no_bytes (omega arith)

-- ---- gates of other kinds, and gates for which nothing is received

few_bytes : (w : Width.Width) → byte_count w ≤ 8
few_bytes W1 = omega arith
few_bytes W8 = omega arith
few_bytes W16 = omega arith
few_bytes W32 = omega arith
few_bytes W64 = omega arith

and_few : (w : Width.Width) (role : Role.Role) → sent AndY w role ≤ 32
and_few w P0 = omega arith
and_few w P1 = omega arith

-- a gate of which more than 32 bytes are sent is no gate of a level
pub no_gate : (v : View) (k : ℕ) (gate : Instr) (role : Role.Role) (kind : InstrKind) (piece : List ℕ) → 32 < sent kind gate.width role → gate_share v k gate piece kind ≡ record { low = 0; high = 0 }
no_gate v k gate role MulA piece long = absurd (omega (arith, few_bytes gate.width))
no_gate v k gate role AndB piece long = absurd (omega arith)
no_gate v k gate role AndY piece long = absurd (omega (arith, and_few gate.width role))
no_gate v k gate role _ piece long = refl

number_take_zeros : (n m : ℕ) → number (take n (replicate m 0)) ≡ 0
number_take_zeros zero m = refl
number_take_zeros (suc n) zero = refl
number_take_zeros (suc n) (suc m) = omega (arith, number_take_zeros n m)

number_drop_zeros : (n m : ℕ) → number (drop n (replicate m 0)) ≡ 0
number_drop_zeros zero zero = refl
number_drop_zeros zero (suc m) = omega (arith, number_drop_zeros zero m)
number_drop_zeros (suc n) zero = refl
number_drop_zeros (suc n) (suc m) = number_drop_zeros n m

number_take_none : (n : ℕ) → number (take n []) ≡ 0
number_take_none zero = refl
number_take_none (suc n) = refl

number_drop_none : (n : ℕ) → number (drop n []) ≡ 0
number_drop_none zero = refl
number_drop_none (suc n) = refl

abbrev product_from : View → ℕ → Instr → ℕ → ℕ → Label
product_from v k gate e f =
    let m = modulus gate.width in
    let half = v.half k in
    word_slot (product_share m v.role (sum_of m (difference_of m (word_A v gate.left) (slice_index half 0)) e) (sum_of m (difference_of m (word_A v gate.right) (slice_index half 1)) f) (slice_index half 0) (slice_index half 1) (slice_index half 2))

-- zeros are read as nothing is
pub product_alone : (v : View) (k : ℕ) (gate : Instr) → gate_share v k gate (replicate (2 * byte_count gate.width) 0) MulA ≡ gate_share v k gate [] MulA
product_alone v k gate =
    let n : ℕ = byte_count gate.width in
    ap₂ (λ (e f : ℕ). product_from v k gate e f) (number_take_zeros n (2 * n) ∙ sym (number_take_none n)) (number_drop_zeros n (2 * n) ∙ sym (number_drop_none n))

pub and_alone : (v : View) (k : ℕ) (gate : Instr) → gate_share v k gate (replicate 1 0) AndB ≡ gate_share v k gate [] AndB
and_alone v k gate = refl

pub product_kind : (v : View) (k : ℕ) (gate : Instr) → gate.kind ≡ MulA → gate_share v k gate (replicate (sent gate.kind gate.width P1) 0) gate.kind ≡ gate_share v k gate [] gate.kind
product_kind v k gate is = subst (λ (kind : InstrKind). gate_share v k gate (replicate (sent kind gate.width P1) 0) kind ≡ gate_share v k gate [] kind) (sym is) (product_alone v k gate)

pub and_kind : (v : View) (k : ℕ) (gate : Instr) → gate.kind ≡ AndB → gate_share v k gate (replicate (sent gate.kind gate.width P1) 0) gate.kind ≡ gate_share v k gate [] gate.kind
and_kind v k gate is = subst (λ (kind : InstrKind). gate_share v k gate (replicate (sent kind gate.width P1) 0) kind ≡ gate_share v k gate [] kind) (sym is) (and_alone v k gate)

pub next_instr : (instrs : List Instr) (i : ℕ) → i < length instrs → drop i instrs ≡ get_or instrs i no_instr ∷ drop (i + 1) instrs
next_instr instrs i inside = rw add-one (drop-cons instrs i no_instr inside)

pub max_of_three : (a b c : ℕ) → max (max a b) c ≡ max a (max b c)
max_of_three a b c = omega arith
