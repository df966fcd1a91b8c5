-- Words fit ports exactly where each party's words fit its own ports, and a party's k-th word is that of its k-th leaf.
use Rattle.std.proofs.Common.{◌≡◌, ℕ, zero, suc, ◌+◌, Bool, true, false, List, [], ◌∷◌, ◌++◌, Some, length, replicate, take, get_or, slice_get, refl, sym, ap, ◌∙◌, subst, arith, zero-add, if◌then◌else◌, cond}
use Rattle.std.proofs.lemmas.Option.{get_or_from_slice_get}
use Rattle.std.proofs.lemmas.List.{length-append, length-replicate}
use Rattle.std.proofs.lemmas.List.Sums.{sum_by-cons}
use Rattle.hy_bits.specs.declared.turns.Role.{Role}
use Rattle.hy_bits.specs.declared.turns.Role.TheVariants.{P0, P1}
use Rattle.hy_bits.specs.declared.scalar.Scalar.{Scalar}
use Rattle.hy_bits.specs.declared.shape.Port.{Port}
use Rattle.hy_bits.specs.Scalar.{scalar_width}
use Rattle.hy_bits.specs.Shape.{leaves, leaves_of_ports, AreWordsOf, FitPorts}
use Rattle.hy_bits.specs.Words.{IsWord}
use Rattle.hy_bits.specs.Ports.{is_of, ports_of, owners, own_of, own_number, joined}

pub is_of-same : (role : Role) → is_of role role ≡ true
is_of-same P0 = refl
is_of-same P1 = refl

-- ---- what belongs to one party, of any lists

suc-is_add : (n : ℕ) → suc n ≡ 1 + n
suc-is_add n = omega arith

module _ {A : Type 0} where
  kept-append : (b : Bool) (x : A) (xs ys : List A) → (if b then x ∷ xs ++ ys else xs ++ ys) ≡ (if b then x ∷ xs else xs) ++ ys
  kept-append true x xs ys = refl
  kept-append false x xs ys = refl

  pub own_of-append : (role : Role) (os ps : List Role) (xs ys : List A) → length os ≡ length xs → own_of role (os ++ ps) (xs ++ ys) ≡ own_of role os xs ++ own_of role ps ys
  own_of-append role [] ps [] ys same = refl
  own_of-append role [] ps (x ∷ xs) ys same = absurd (omega (arith, same))
  own_of-append role (o ∷ os) ps [] ys same = absurd (omega (arith, same))
  own_of-append role (o ∷ os) ps (x ∷ xs) ys same =
      rw (own_of-append role os ps xs ys (omega (arith, same))) (kept-append (is_of role o) x (own_of role os xs) (own_of role ps ys))

  all-or_none : (role o : Role) (b : Bool) (x : A) (xs : List A) → b ≡ is_of role o → own_of role (replicate (length xs) o) xs ≡ (if b then xs else []) → (if b then x ∷ own_of role (replicate (length xs) o) xs else own_of role (replicate (length xs) o) xs) ≡ (if b then x ∷ xs else [])
  all-or_none role o true x xs is e = ap (λ ys. x ∷ ys) e
  all-or_none role o false x xs is e = e

  none : (b : Bool) (xs : List A) → xs ≡ [] → xs ≡ (if b then xs else [])
  none true xs is = refl
  none false xs is = is

  -- places that belong to one party alone
  pub own_of-replicate : (role o : Role) (xs : List A) → own_of role (replicate (length xs) o) xs ≡ (if is_of role o then xs else [])
  own_of-replicate role o [] = none (is_of role o) [] refl
  own_of-replicate role o (x ∷ xs) = all-or_none role o (is_of role o) x xs refl (own_of-replicate role o xs)

  later : (b : Bool) (x : A) (xs : List A) (n : ℕ) → slice_get (if b then x ∷ xs else xs) (cond b 1 0 + n) ≡ slice_get xs n
  later true x xs n = ap (slice_get (x ∷ xs)) (sym (suc-is_add n))
  later false x xs n = ap (slice_get xs) (zero-add n)

  -- what stands at a place of the party stands at its number among the party's own
  pub own_of-at : (role : Role) (os : List Role) (xs : List A) (k : ℕ) (x : A) → slice_get os k ≡ Some role → slice_get xs k ≡ Some x → slice_get (own_of role os xs) (own_number role os k) ≡ Some x
  own_of-at role [] xs k x at here = sym (cc)
  own_of-at role (o ∷ os) [] k x at here = sym (cc)
  own_of-at role (o ∷ os) (y ∷ ys) zero x at here =
      let own : o ≡ role = cc in
      let first : y ≡ x = cc in
      rw (own, is_of-same role, first) refl
  own_of-at role (o ∷ os) (y ∷ ys) (suc k) x at here =
      ap (slice_get (own_of role (o ∷ os) (y ∷ ys))) (sum_by-cons (λ r. cond (is_of role r) 1 0) o (take k os))
      ∙ later (is_of role o) y (own_of role os ys) (own_number role os k) ∙ own_of-at role os ys k x at here

  -- ---- both parties' together

  pub joined-own : (os : List Role) (xs : List A) → length os ≡ length xs → joined os (own_of P0 os xs) (own_of P1 os xs) ≡ xs
  joined-own [] [] same = refl
  joined-own [] (x ∷ xs) same = absurd (omega (arith, same))
  joined-own (o ∷ os) [] same = absurd (omega (arith, same))
  joined-own (P0 ∷ os) (x ∷ xs) same = ap (λ ys. x ∷ ys) (joined-own os xs (omega (arith, same)))
  joined-own (P1 ∷ os) (x ∷ xs) same = ap (λ ys. x ∷ ys) (joined-own os xs (omega (arith, same)))

-- ---- words of scalars

kept-fit : (b : Bool) (scalar : Scalar) (scalars : List Scalar) (word : ℕ) (words : List ℕ) → IsWord (scalar_width scalar) word → AreWordsOf scalars words → AreWordsOf (if b then scalar ∷ scalars else scalars) (if b then word ∷ words else words)
kept-fit true scalar scalars word words fits fit = (fits, fit)
kept-fit false scalar scalars word words fits fit = fit

pub AreWordsOf-own : (role : Role) (os : List Role) (scalars : List Scalar) (words : List ℕ) → AreWordsOf scalars words → AreWordsOf (own_of role os scalars) (own_of role os words)
AreWordsOf-own role [] scalars words fit = tt
AreWordsOf-own role (o ∷ os) [] [] fit = tt
AreWordsOf-own role (o ∷ os) [] (word ∷ words) fit = absurd fit
AreWordsOf-own role (o ∷ os) (scalar ∷ scalars) [] fit = absurd fit
AreWordsOf-own role (o ∷ os) (scalar ∷ scalars) (word ∷ words) fit =
    kept-fit (is_of role o) scalar (own_of role os scalars) word (own_of role os words) fit.0 (AreWordsOf-own role os scalars words fit.1)

-- a word of a list of words is one of its scalar
pub AreWordsOf-at : (scalars : List Scalar) (words : List ℕ) (k : ℕ) (scalar : Scalar) → AreWordsOf scalars words → slice_get scalars k ≡ Some scalar → (word : ℕ) × (slice_get words k ≡ Some word) × IsWord (scalar_width scalar) word
AreWordsOf-at [] words k scalar fit at = absurd (cc)
AreWordsOf-at (s ∷ scalars) [] k scalar fit at = absurd fit
AreWordsOf-at (s ∷ scalars) (word ∷ words) zero scalar fit at = let same : s ≡ scalar = cc in (word, refl, subst (λ u. IsWord (scalar_width u) word) same fit.0)
AreWordsOf-at (s ∷ scalars) (word ∷ words) (suc k) scalar fit at = AreWordsOf-at scalars words k scalar fit.1 at

-- two lists of words, one of each party, as one list in the common order
pub record IsJoined (os : List Role) (scalars : List Scalar) (a b : List ℕ) : Type 0 where
  pub fit : AreWordsOf scalars (joined os a b)
  pub own_a : own_of P0 os (joined os a b) ≡ a
  pub own_b : own_of P1 os (joined os a b) ≡ b

pub AreWordsOf-joined : (os : List Role) (scalars : List Scalar) (a b : List ℕ) → length os ≡ length scalars → AreWordsOf (own_of P0 os scalars) a → AreWordsOf (own_of P1 os scalars) b → IsJoined os scalars a b
AreWordsOf-joined [] [] [] [] same fit_a fit_b = record { fit = tt; own_a = refl; own_b = refl }
AreWordsOf-joined [] [] [] (y ∷ b) same fit_a fit_b = absurd fit_b
AreWordsOf-joined [] [] (x ∷ a) b same fit_a fit_b = absurd fit_a
AreWordsOf-joined [] (scalar ∷ scalars) a b same fit_a fit_b = absurd (omega (arith, same))
AreWordsOf-joined (o ∷ os) [] a b same fit_a fit_b = absurd (omega (arith, same))
AreWordsOf-joined (P0 ∷ os) (scalar ∷ scalars) [] b same fit_a fit_b = absurd fit_a
AreWordsOf-joined (P0 ∷ os) (scalar ∷ scalars) (x ∷ a) b same fit_a fit_b =
    let rest = AreWordsOf-joined os scalars a b (omega (arith, same)) fit_a.1 fit_b in
    record { fit = (fit_a.0, rest.fit); own_a = ap (λ ys. x ∷ ys) rest.own_a; own_b = rest.own_b }
AreWordsOf-joined (P1 ∷ os) (scalar ∷ scalars) a [] same fit_a fit_b = absurd fit_b
AreWordsOf-joined (P1 ∷ os) (scalar ∷ scalars) a (y ∷ b) same fit_a fit_b =
    let rest = AreWordsOf-joined os scalars a b (omega (arith, same)) fit_a fit_b.1 in
    record { fit = (fit_b.0, rest.fit); own_a = rest.own_a; own_b = ap (λ ys. y ∷ ys) rest.own_b }

-- ---- ports

pub length-owners : (ports : List Port) → length (owners ports) ≡ length (leaves_of_ports ports)
length-owners [] = refl
length-owners (port ∷ ports) =
    length-append (replicate (length (leaves port.shape)) port.role) (owners ports)
    ∙ ap (λ n. n + length (owners ports)) (length-replicate (length (leaves port.shape)) port.role)
    ∙ ap (λ n. length (leaves port.shape) + n) (length-owners ports)
    ∙ sym (length-append (leaves port.shape) (leaves_of_ports ports))

kept-leaves : (b : Bool) (port : Port) (ports : List Port) → leaves_of_ports (if b then port ∷ ports else ports) ≡ (if b then leaves port.shape else []) ++ leaves_of_ports ports
kept-leaves true port ports = refl
kept-leaves false port ports = refl

-- the leaves of a party's ports are its leaves among all
pub leaves-ports_of : (role : Role) (ports : List Port) → leaves_of_ports (ports_of role ports) ≡ own_of role (owners ports) (leaves_of_ports ports)
leaves-ports_of role [] = refl
leaves-ports_of role (port ∷ ports) =
    let all = leaves port.shape in
    kept-leaves (is_of role port.role) port (ports_of role ports)
    ∙ ap (λ ys. (if is_of role port.role then all else []) ++ ys) (leaves-ports_of role ports)
    ∙ ap (λ ys. ys ++ own_of role (owners ports) (leaves_of_ports ports)) (sym (own_of-replicate role port.role all))
    ∙ sym (own_of-append role (replicate (length all) port.role) (owners ports) all (leaves_of_ports ports) (length-replicate (length all) port.role))

-- words that fit all ports fit each party's
pub FitPorts-own : (role : Role) (ports : List Port) (words : List ℕ) → FitPorts ports words → FitPorts (ports_of role ports) (own_of role (owners ports) words)
FitPorts-own role ports words fit =
    subst (λ scalars. AreWordsOf scalars (own_of role (owners ports) words)) (sym (leaves-ports_of role ports)) (AreWordsOf-own role (owners ports) (leaves_of_ports ports) words fit)

-- and words that fit each party's ports, in the common order, fit all
pub FitPorts-joined : (ports : List Port) (a b : List ℕ) → FitPorts (ports_of P0 ports) a → FitPorts (ports_of P1 ports) b → IsJoined (owners ports) (leaves_of_ports ports) a b
FitPorts-joined ports a b fit_a fit_b =
    AreWordsOf-joined (owners ports) (leaves_of_ports ports) a b (length-owners ports)
    (subst (λ scalars. AreWordsOf scalars a) (leaves-ports_of P0 ports) fit_a)
    (subst (λ scalars. AreWordsOf scalars b) (leaves-ports_of P1 ports) fit_b)

-- the word of the k-th leaf of all, where it is the party's, among the party's words
pub own_word-at : (role : Role) (ports : List Port) (words : List ℕ) (k : ℕ) (scalar : Scalar) → FitPorts ports words → slice_get (owners ports) k ≡ Some role → slice_get (leaves_of_ports ports) k ≡ Some scalar →
    (slice_get (own_of role (owners ports) words) (own_number role (owners ports) k) ≡ Some (get_or words k 0)) × IsWord (scalar_width scalar) (get_or words k 0)
own_word-at role ports words k scalar fit own leaf =
    let found = AreWordsOf-at (leaves_of_ports ports) words k scalar fit leaf in
    let word : get_or words k 0 ≡ found.0 = get_or_from_slice_get words k found.0 0 found.1 in
    (own_of-at role (owners ports) words k found.0 own found.1 ∙ ap Some (sym word), subst (IsWord (scalar_width scalar)) (sym word) found.2)
