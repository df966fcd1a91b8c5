-- The plain order: what is sent later only appends, and a frame stands at its place.
use Rattle.std.proofs.Common.{◌≡◌, ℕ, zero, suc, ◌+◌, ◌-◌, ◌≤◌, ◌<◌, Bool, true, false, if◌then◌else◌, List, [], ◌∷◌, ◌++◌, length, drop, None, Some, refl, sym, ap, ◌∙◌, arith, length-append, append_assoc, append-nil, leb, leb-true, leb-false}
use Rattle.std.proofs.lemmas.List.{drop_all}
use lib.Seq.{drop-append_seam}
use Rattle.hy_bits.specs.declared.turns.Role.{Role}
use Rattle.schedules.specs.Turns.{Protocol, other, frames, frames_at, between, given, plain}

later : {L : Type 0} → (p : Protocol L) (j d : ℕ) (role : Role) → frames p (d + j) role ≡ frames p j role ++ between p j d role
unfolding frames between
later p j zero role =
    let none : zero + j ≡ j = omega arith in
    ap (λ n. frames p n role) none ∙ sym (append-nil (frames p j role))
later p j (suc d) role =
    let next : suc d + j ≡ suc (d + j) = omega arith in
    ap (λ n. frames p n role) next
    ∙ ap (λ xs. xs ++ frames_at p (d + j) role (plain p (d + j) role)) (later p j d role)
    ∙ append_assoc (frames p j role) (between p j d role) (frames_at p (d + j) role (plain p (d + j) role))

pub frames_later : {L : Type 0} → (p : Protocol L) (j k : ℕ) (role : Role) → j ≤ k → frames p k role ≡ frames p j role ++ between p j (k - j) role
frames_later p j k role le =
    let at : k ≡ (k - j) + j = omega (arith, le) in
    ap (λ n. frames p n role) at ∙ later p j (k - j) role

pub no_fewer : {L : Type 0} → (p : Protocol L) (j k : ℕ) (role : Role) → j ≤ k → length (frames p j role) ≤ length (frames p k role)
no_fewer p j k role le =
    let long = ap length (frames_later p j k role le) ∙ length-append (frames p j role) (between p j (k - j) role) in
    omega (arith, long)

-- ---- an instruction that a party sends for, and one that it doesn't

pub sent_at : {L : Type 0} → (p : Protocol L) (k : ℕ) (role : Role) (l : L) → p.sends k role ≡ true → frames_at p k role l ≡ p.frame k role l ∷ []
unfolding frames_at
sent_at p k role l is = ap (λ (b : Bool). if b then p.frame k role l ∷ [] else []) is

pub unsent_at : {L : Type 0} → (p : Protocol L) (k : ℕ) (role : Role) (l : L) → p.sends k role ≡ false → frames_at p k role l ≡ []
unfolding frames_at
unsent_at p k role l is = ap (λ (b : Bool). if b then p.frame k role l ∷ [] else []) is

pub given_at : {L : Type 0} → (p : Protocol L) (k : ℕ) (role : Role) (l : L) → p.sends k (other role) ≡ true → given p k role l ≡ Some (p.frame k (other role) l)
unfolding given
given_at p k role l is = ap (λ (b : Bool). if b then Some (p.frame k (other role) l) else None) is

pub ungiven_at : {L : Type 0} → (p : Protocol L) (k : ℕ) (role : Role) (l : L) → p.sends k (other role) ≡ false → given p k role l ≡ None
unfolding given
ungiven_at p k role l is = ap (λ (b : Bool). if b then Some (p.frame k (other role) l) else None) is

pub frames_more : {L : Type 0} → (p : Protocol L) (k : ℕ) (role : Role) → frames p (suc k) role ≡ frames p k role ++ frames_at p k role (plain p k role)
unfolding frames
frames_more p k role = refl

pub plain_more : {L : Type 0} → (p : Protocol L) (k : ℕ) (role : Role) → plain p (suc k) role ≡ p.after k role (plain p k role) (given p k role (plain p k (other role)))
unfolding plain
plain_more p k role = refl

pub one_more : {L : Type 0} → (p : Protocol L) (k : ℕ) (role : Role) → p.sends k role ≡ true → length (frames p (suc k) role) ≡ suc (length (frames p k role))
one_more p k role is =
    let long = ap length (frames_more p k role) ∙ length-append (frames p k role) (frames_at p k role (plain p k role)) in
    let single : length (frames_at p k role (plain p k role)) ≡ 1 = ap length (sent_at p k role (plain p k role) is) in
    omega (arith, long, single)

pub none_more : {L : Type 0} → (p : Protocol L) (k : ℕ) (role : Role) → p.sends k role ≡ false → length (frames p (suc k) role) ≡ length (frames p k role)
none_more p k role is =
    let long = ap length (frames_more p k role) ∙ length-append (frames p k role) (frames_at p k role (plain p k role)) in
    let none : length (frames_at p k role (plain p k role)) ≡ 0 = ap length (unsent_at p k role (plain p k role) is) in
    omega (arith, long, none)

-- the frame of an instruction stands after those before it
pub stands_next : {L : Type 0} → (p : Protocol L) (k m : ℕ) (role : Role) → p.sends k role ≡ true → k < m →
    drop (length (frames p k role)) (frames p m role) ≡ p.frame k role (plain p k role) ∷ between p (suc k) (m - suc k) role
stands_next p k m role is lt =
    let after : List (List ℕ) = between p (suc k) (m - suc k) role in
    let whole = frames_later p (suc k) m role lt
    ∙ ap (λ xs. xs ++ after) (frames_more p k role ∙ ap (λ xs. frames p k role ++ xs) (sent_at p k role (plain p k role) is))
    ∙ append_assoc (frames p k role) (p.frame k role (plain p k role) ∷ []) after in
    ap (drop (length (frames p k role))) whole ∙ drop-append_seam (frames p k role) (p.frame k role (plain p k role) ∷ after)

-- what is left of the frames after those before an instruction
pub frames_left : {L : Type 0} → (p : Protocol L) (k m : ℕ) (role : Role) → drop (length (frames p k role)) (frames p m role) ≡ between p k (m - k) role
unfolding between
frames_left p k m role = by (leb k m) refl
  where
    by : (b : Bool) → leb k m ≡ b → drop (length (frames p k role)) (frames p m role) ≡ between p k (m - k) role
    by true is = ap (λ xs. drop (length (frames p k role)) xs) (frames_later p k m role (leb-true k m is)) ∙ drop-append_seam (frames p k role) (between p k (m - k) role)
    by false is =
        let none : m - k ≡ zero = omega (arith, leb-false k m is) in
        drop_all (length (frames p k role)) (frames p m role) (no_fewer p m k role (omega (arith, leb-false k m is))) ∙ sym (ap (λ n. between p k n role) none)
