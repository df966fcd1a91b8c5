-- Slots written one after another, and lists by their places.
use Rattle.std.proofs.Common.{◌≡◌, ℕ, zero, suc, ◌+◌, ◌*◌, ◌<◌, ◌≤◌, ◌^◌, ◌%◌, List, [], ◌∷◌, ◌++◌, Bool, length, set, refl, sym, ap, ap₂, ◌∙◌, arith, add-one, add_assoc, append-nil, append_assoc, slice_index, length-append}
use Rattle.hy_bits.specs.Bits.{bit}
use Rattle.hy_bits.specs.declared.width.Width as Width
use Rattle.hy_bits.specs.declared.width.Width.TheVariants.{W1, W8, W16, W32, W64}
use Rattle.hy_bits.specs.Words.{bits}
use Rattle.share_core.specs.declared.instr.InstrKind.{InstrKind}
use Rattle.share_core.specs.declared.labels.Label.{Label}
use Rattle.share_core.specs.Bytes.{bytes}
use Rattle.share_core.specs.Instructions.{frame_code, frame_for, slot_of}
use Rattle.share_core.specs.Garbled.{label_xor, low_bit, low_word, word_of_bits}
use Rattle.share_core.specs.Machine.{listed, written}
use Rattle.share_core.proofs.ByteLaws.{length-bytes}
use Rattle.share_core.proofs.GarbledLaws.{word_of_bits-more, word_of_bits-fits, word_of_bits-same}
use Rattle.share_core.proofs.SlotLaws.{length-listed}

pub written-append : (slots : List Label) (ts us : List ℕ) (xs ys : List Label) → length ts ≡ length xs → written slots (ts ++ us) (xs ++ ys) ≡ written (written slots ts xs) us ys
written-append slots [] us [] ys same = refl
written-append slots [] us (x ∷ xs) ys same = absurd (omega arith)
written-append slots (t ∷ ts) us [] ys same = absurd (omega arith)
written-append slots (t ∷ ts) us (x ∷ xs) ys same = written-append (set slots t x) ts us xs ys (omega arith)

pub listed-zero : {A : Type 0} (f : ℕ → A) → listed 0 f ≡ []
unfolding listed
listed-zero f = refl

pub listed-suc : {A : Type 0} (n : ℕ) (f : ℕ → A) → listed (n + 1) f ≡ listed n f ++ f n ∷ []
unfolding listed
listed-suc n f = rw add-one refl

-- one share more
pub written-listed : (slots : List Label) (n : ℕ) (f : ℕ → ℕ) (g : ℕ → Label) → written slots (listed (n + 1) f) (listed (n + 1) g) ≡ set (written slots (listed n f) (listed n g)) (f n) (g n)
written-listed slots n f g =
    ap₂ (λ (ts : List ℕ) (xs : List Label). written slots ts xs) (listed-suc n f) (listed-suc n g)
    ∙ written-append slots (listed n f) (f n ∷ []) (listed n g) (g n ∷ []) (length-listed n f ∙ sym (length-listed n g))

pub written-none : (slots : List Label) (f : ℕ → ℕ) (g : ℕ → Label) → written slots (listed 0 f) (listed 0 g) ≡ slots
written-none slots f g = ap₂ (λ (ts : List ℕ) (xs : List Label). written slots ts xs) (listed-zero f) (listed-zero g)

-- a step of a loop that writes the k-th share
pub written_next : (slots before after : List Label) (n : ℕ) (f : ℕ → ℕ) (g : ℕ → Label) (target : ℕ) (share : Label) → before ≡ written slots (listed n f) (listed n g) → target ≡ f n → share ≡ g n → after ≡ set before target share → after ≡ written slots (listed (n + 1) f) (listed (n + 1) g)
written_next slots before after n f g target share is there what next =
    next ∙ ap (λ (xs : List Label). set xs target share) is
    ∙ ap (λ (t : ℕ). set (written slots (listed n f) (listed n g)) t share) there
    ∙ ap (λ (x : Label). set (written slots (listed n f) (listed n g)) (f n) x) what
    ∙ sym (written-listed slots n f g)

-- lists with equal places
pub listed-same : {A : Type 0} (n : ℕ) (f g : ℕ → A) → ((k : ℕ) → k < n → f k ≡ g k) → listed n f ≡ listed n g
unfolding listed
listed-same zero f g same = refl
listed-same {A = A} (suc n) f g same = ap₂ (λ (xs : List A) (x : A). xs ++ x ∷ []) (listed-same n f g (λ k less. same k (omega arith))) (same n (omega arith))

-- a list in two halves
pub listed-add : {A : Type 0} (n m : ℕ) (f : ℕ → A) → listed (n + m) f ≡ listed n f ++ listed m (λ k. f (n + k))
unfolding listed
listed-add {A = A} n zero f =
    let same : n + zero ≡ n = omega arith in
    ap (λ (k : ℕ). listed k f) same ∙ sym (append-nil (listed n f))
listed-add {A = A} n (suc m) f =
    let same : n + suc m ≡ suc (n + m) = omega arith in
    ap (λ (k : ℕ). listed k f) same ∙ ap (λ (xs : List A). xs ++ f (n + m) ∷ []) (listed-add n m f) ∙ append_assoc (listed n f) (listed m (λ k. f (n + k))) (f (n + m) ∷ [])

-- one bit more of a word
pub bit_more : (n word bit_word : ℕ) (b : Bool) (f : ℕ → Bool) → n < 64 → word ≡ word_of_bits n f → bit_word ≡ bit b → b ≡ f n → word + (bit_word * 2 ^ n) % 2 ^ 64 ≡ word_of_bits (n + 1) f
bit_more n word bit_word b f few so_far is_word is =
    let added : bit_word ≡ bit (f n) = is_word ∙ ap bit is in
    ap (λ (u : ℕ). word + (u * 2 ^ n) % 2 ^ 64) added
    ∙ ap (λ (u : ℕ). u + (bit (f n) * 2 ^ n) % 2 ^ 64) so_far
    ∙ word_of_bits-more n f few

pub bit_fits : (n word bit_word : ℕ) (b : Bool) (f : ℕ → Bool) → n < 64 → word ≡ word_of_bits n f → bit_word ≡ bit b → b ≡ f n → word + (bit_word * 2 ^ n) % 2 ^ 64 < 2 ^ 64
bit_fits n word bit_word b f few so_far is_word is = omega (arith, bit_more n word bit_word b f few so_far is_word is, word_of_bits-fits (n + 1) f (omega arith))

pub bits-le : (w : Width.Width) → bits w ≤ 64
bits-le W1 = omega arith
bits-le W8 = omega arith
bits-le W16 = omega arith
bits-le W32 = omega arith
bits-le W64 = omega arith

-- the length of a frame
pub length-frame_for : (kind : InstrKind) (payload : List ℕ) → length (frame_for kind payload) ≡ 5 + length payload
length-frame_for kind payload =
    omega (arith, length-append (bytes 4 (length payload)) payload, length-bytes 4 (length payload))

-- labels put into slots, where they are known one by one
pub put_same : (slots new : List Label) (count n : ℕ) (target : ℕ → ℕ) (f g : ℕ → Label) → count ≡ n → ((k : ℕ) → k < n → f k ≡ g k) → new ≡ written slots (listed count target) (listed count f) → new ≡ written slots (listed n target) (listed n g)
put_same slots new count n target f g long same is =
    is
    ∙ ap (λ (m : ℕ). written slots (listed m target) (listed m f)) long
    ∙ ap (λ (xs : List Label). written slots (listed n target) xs) (listed-same n f g same)

-- permute bits of labels that are known one by one
pub low_word-same : (w : Width.Width) (f g : ℕ → Label) → ((k : ℕ) → k < bits w → f k ≡ g k) → low_word w f ≡ low_word w g
low_word-same w f g same = word_of_bits-same (bits w) (λ k. low_bit (f k)) (λ k. low_bit (g k)) (λ k less. ap low_bit (same k less))

-- two words put one after another
pub put_twice : (slots mid new : List Label) (codes : List ℕ) (target n : ℕ) (f g : ℕ → Label) → mid ≡ written slots (listed n (λ k. slot_of (slice_index codes (target + k)))) (listed n f) → new ≡ written mid (listed n (λ k. slot_of (slice_index codes (target + n + k)))) (listed n g) →
    new ≡ written slots (listed (2 * n) (λ k. slot_of (slice_index codes (target + k)))) (listed n f ++ listed n g)
put_twice slots mid new codes target n f g first second =
    let place : ℕ → ℕ = λ k. slot_of (slice_index codes (target + k)) in
    let twice : 2 * n ≡ n + n = omega arith in
    let later : listed n (λ k. slot_of (slice_index codes (target + n + k))) ≡ listed n (λ k. place (n + k)) =
    listed-same n (λ k. slot_of (slice_index codes (target + n + k))) (λ k. place (n + k)) (λ k less. ap (λ (i : ℕ). slot_of (slice_index codes i)) (add_assoc target n k)) in
    second
    ∙ ap₂ (λ (xs : List Label) (ts : List ℕ). written xs ts (listed n g)) first later
    ∙ sym (written-append slots (listed n place) (listed n (λ k. place (n + k))) (listed n f) (listed n g) (length-listed n place ∙ sym (length-listed n f)))
    ∙ ap (λ (ts : List ℕ). written slots ts (listed n f ++ listed n g)) (sym (listed-add n n place))
    ∙ ap (λ (m : ℕ). written slots (listed m place) (listed n f ++ listed n g)) (sym twice)

-- a frame put in two parts
pub framed : (old head new payload : List ℕ) (kind : InstrKind) (n : ℕ) → head ≡ old ++ frame_code kind ∷ bytes 4 n → n ≡ length payload → new ≡ head ++ payload → new ≡ old ++ frame_for kind payload
framed old head new payload kind n first long second =
    second
    ∙ ap (λ (xs : List ℕ). xs ++ payload) first
    ∙ append_assoc old (frame_code kind ∷ bytes 4 n) payload
    ∙ ap (λ (m : ℕ). old ++ (frame_code kind ∷ bytes 4 m ++ payload)) long

-- two words of labels that are known one by one, side by side and joined
pub pair_same : (slots new : List Label) (n : ℕ) (targets : List ℕ) (a b f g : ℕ → Label) → ((k : ℕ) → k < n → a k ≡ f k) → ((k : ℕ) → k < n → b k ≡ g k) → new ≡ written slots targets (listed n a ++ listed n b) → new ≡ written slots targets (listed n f ++ listed n g)
pair_same slots new n targets a b f g ea eb is =
    is ∙ ap₂ (λ (xs ys : List Label). written slots targets (xs ++ ys)) (listed-same n a f ea) (listed-same n b g eb)

pub joined_same : (slots new : List Label) (n : ℕ) (targets : List ℕ) (a b f g : ℕ → Label) → ((k : ℕ) → k < n → a k ≡ f k) → ((k : ℕ) → k < n → b k ≡ g k) → new ≡ written slots targets (listed n (λ k. label_xor (a k) (b k))) → new ≡ written slots targets (listed n (λ k. label_xor (f k) (g k)))
joined_same slots new n targets a b f g ea eb is =
    is ∙ ap (λ (xs : List Label). written slots targets xs) (listed-same n (λ k. label_xor (a k) (b k)) (λ k. label_xor (f k) (g k)) (λ k less. ap₂ (λ (x y : Label). label_xor x y) (ea k less) (eb k less)))
