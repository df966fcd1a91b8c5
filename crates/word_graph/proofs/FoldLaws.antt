-- Laws of folding: what a term folds to fits where it stands, and has its value for all inputs.
use Rattle.std.proofs.Common.{◌≡◌, ◌≢◌, ◌⊎◌, inl, inr, ℕ, zero, suc, ◌-◌, ◌*◌, ◌%◌, ◌^◌, ◌<◌, ◌≤◌, Bool, true, false, ◌&&◌, eqb, List, [], ◌∷◌, get_or, length, take, Option, Some, None, is_some, slice_get, unwrap_or, refl, sym, ap, ◌∙◌, subst, arith, rules}
use Rattle.std.specs.Prelude.{bit_and, bit_or, bit_xor, nat_lt, ◌==◌, if◌then◌else◌}
use Rattle.std.proofs.lemmas.Bool.{eqb-true}
use Rattle.std.specs.Int.Bits.{xor_add_and, or_add_and, and_self, or_self, xor_self, xor_zero_r, xor_zero_l}
use Rattle.std.proofs.lemmas.Nat.{and_mask, and_comm, or_comm, xor_comm}
use Rattle.hy_bits.specs.declared.op.Op.{Op}
use Rattle.hy_bits.specs.declared.op.Op.TheVariants.{In, Const, Add, Sub, Mul, Neg, DivU, DivS, RemU, RemS, And, Or, Xor, Not, Shl, ShrU, ShrS, LtU, LtS, Eq, Sel, Trunc, ZeroExt, SignExt}
use Rattle.hy_bits.specs.Words.{bits, modulus, IsWord, word_add, word_sub, word_mul, word_not, word_shl, word_shr_u, word_shr_s, is_less_s}
use Rattle.hy_bits.specs.declared.width.Width.{Width}
use Rattle.hy_bits.specs.declared.width.Width.TheVariants.{W1, W8, W16, W32, W64}
use Rattle.word_graph.specs.declared.entry.Entry.{Entry}
use Rattle.word_graph.specs.declared.entry.Term.{Term}
use Rattle.word_graph.specs.declared.folding.Outcome.{Outcome}
use Rattle.word_graph.specs.declared.folding.Outcome.TheVariants.{Known, Makes}
use Rattle.word_graph.specs.Term.{arity, argument, width_at}
use Rattle.word_graph.specs.Meaning.{word_at, first_operand, term_value, words, value, InputsFit}
use Rattle.word_graph.specs.Shape.{FitsAfter, IsGraph, constant_at, has_constants_only}
use Rattle.word_graph.specs.Folding.{constant_value, folded_shift, folded_comparison, constant_term, not_term, ones, is_just, is_number, is_twice, other_than, one_that_is, known_or, complement_over, complement_entry, complement_at, complement_or, chosen_or, folded, reduced}
use Rattle.word_graph.specs.Size.{term_size}
use Rattle.hy_bits.specs.Bits.{bit}
use Rattle.hy_bits.specs.Op.{op_value}
use Rattle.hy_bits.proofs.WordLaws.{modulus_pos, modulus_two, op_value-word}
use Rattle.word_graph.proofs.OpLaws.{op_value-used, first_operand-argument}
use Rattle.std.proofs.lemmas.List.{length-take-le}
use Rattle.word_graph.proofs.EntryLaws.{AreEntries-at, width_at-get, width_at-take, has_constants_only-at, has_constants_only-some, constant_value-taken}
use Rattle.word_graph.proofs.RunLaws.{value-word, value-constant, value-entry, carries, Carries-width}

-- ---- words

module _ (m a : ℕ) (h : a < m) where
  add_zero : word_add m a 0 ≡ a
  add_zero = search rules

  zero_add : word_add m 0 a ≡ a
  zero_add = search rules

  sub_zero : word_sub m a 0 ≡ a
  sub_zero = search rules

  sub_self : word_sub m a a ≡ 0
  sub_self = search rules

  mul_one : word_mul m a 1 ≡ a
  mul_one = search rules

  one_mul : word_mul m 1 a ≡ a
  one_mul = search rules

  not_not : word_not m (word_not m a) ≡ a
  not_not = search rules

  shl_zero : (n : ℕ) → m ≡ 2 ^ n → word_shl n a 0 ≡ a
  shl_zero n e = search rules

  shr_u_zero : (n : ℕ) → word_shr_u n a 0 ≡ a
  shr_u_zero n = search rules

  shr_s_zero : (n : ℕ) → m ≡ 2 ^ n → word_shr_s n a 0 ≡ a
  shr_s_zero n e = search rules

mul_zero : (m a : ℕ) → word_mul m a 0 ≡ 0
mul_zero m a = search rules

zero_mul : (m a : ℕ) → word_mul m 0 a ≡ 0
zero_mul m a = search rules

not_less_u : (a : ℕ) → nat_lt a a ≡ false
not_less_u a = search rules

not_less_s : (m a : ℕ) → is_less_s m a a ≡ false
not_less_s m a = search rules

is_same : (a : ℕ) → eqb a a ≡ true
is_same a = search rules

small : (m a : ℕ) → a < m → a % m ≡ a
small m a h = search rules

module _ (w : Width) (a : ℕ) (h : IsWord w a) where
  and_ones : bit_and a (modulus w - 1) ≡ a
  and_ones = and_mask a (bits w) ∙ small (modulus w) a h

  ones_and : bit_and (modulus w - 1) a ≡ a
  ones_and = and_comm (modulus w - 1) a ∙ and_ones

  or_ones : bit_or a (modulus w - 1) ≡ modulus w - 1
  or_ones = omega (arith, or_add_and a (modulus w - 1), and_ones)

  ones_or : bit_or (modulus w - 1) a ≡ modulus w - 1
  ones_or = or_comm (modulus w - 1) a ∙ or_ones

  xor_ones : bit_xor a (modulus w - 1) ≡ word_not (modulus w) a
  xor_ones = omega (arith, xor_add_and a (modulus w - 1), and_ones)

  ones_xor : bit_xor (modulus w - 1) a ≡ word_not (modulus w) a
  ones_xor = xor_comm (modulus w - 1) a ∙ xor_ones

and_zero : (a : ℕ) → bit_and a 0 ≡ 0
and_zero a = search rules

zero_and : (a : ℕ) → bit_and 0 a ≡ 0
zero_and a = search rules

zero_or : (a : ℕ) → bit_or 0 a ≡ a
zero_or a = search rules

or_zero : (a : ℕ) → bit_or a 0 ≡ a
or_zero a = or_comm a 0 ∙ zero_or a

-- ---- terms

-- the value of a term in a graph
abbrev pub value_of : List Entry → List ℕ → Term → ℕ
value_of es ins t = term_value ins (words es ins) t

-- the term may be made a node where t was asked for
pub record IsTermFor (es : List Entry) (t u : Term) : Type 0 where
  pub fits : FitsAfter es u
  pub width : u.width ≡ t.width
  pub live : has_constants_only es u ≡ false
  pub made : t.op ≢ In → u.op ≢ In
  pub size : term_size es u ≤ term_size es t
  pub same : (ins : List ℕ) → InputsFit es ins → value_of es ins u ≡ value_of es ins t

-- the node at this place is what t asks for
pub record IsPlaceFor (es : List Entry) (t : Term) (k : ℕ) : Type 0 where
  pub stands : k < length es
  pub width : width_at es k ≡ t.width
  pub same : (ins : List ℕ) → InputsFit es ins → value es ins k ≡ value_of es ins t

abbrev pub IsFor : List Entry → Term → Outcome → Type 0
IsFor es t (Known k) = IsPlaceFor es t k
IsFor es t (Makes u) = IsTermFor es t u

-- ---- ways through a fold

module _ (es : List Entry) (t : Term) where
  if_then_else : (b : Bool) (p q : Outcome) → (b ≡ true → IsFor es t p) → (b ≡ false → IsFor es t q) → IsFor es t (if b then p else q)
  if_then_else true p q f g = f refl
  if_then_else false p q f g = g refl

  known_or-some : (o : Option ℕ) (q : Outcome) → ((k : ℕ) → o ≡ Some k → IsPlaceFor es t k) → IsFor es t q → IsFor es t (known_or o q)
  known_or-some None q f g = g
  known_or-some (Some k) q f g = f k refl

is_just-true : (o : Option ℕ) (n : ℕ) → is_just o n ≡ true → o ≡ Some n
is_just-true None n h = absurd (cc)
is_just-true (Some m) n h = ap (λ (v : ℕ). Some v) (eqb-true m n h)

-- where one of two arguments is n, the other one is this
other_than-some : (es : List Entry) (t : Term) (n k : ℕ) → other_than es t n ≡ Some k →
    ((constant_at es (argument t 1) ≡ Some n) × (argument t 0 ≡ k)) ⊎ ((constant_at es (argument t 0) ≡ Some n) × (argument t 1 ≡ k))
other_than-some es t n k h = by (is_number es (argument t 1) n) (is_number es (argument t 0) n) refl refl h
  where
    by : (a b : Bool) → is_number es (argument t 1) n ≡ a → is_number es (argument t 0) n ≡ b → (if a then Some (argument t 0) else if b then Some (argument t 1) else None) ≡ Some k →
        ((constant_at es (argument t 1) ≡ Some n) × (argument t 0 ≡ k)) ⊎ ((constant_at es (argument t 0) ≡ Some n) × (argument t 1 ≡ k))
    by true b p q e = inl (is_just-true (constant_at es (argument t 1)) n p, cc)
    by false true p q e = inr (is_just-true (constant_at es (argument t 0)) n q, cc)
    by false false p q e = absurd (cc)

-- where one of two arguments is n, it is this one
one_that_is-some : (es : List Entry) (t : Term) (n k : ℕ) → one_that_is es t n ≡ Some k →
    ((constant_at es (argument t 1) ≡ Some n) × (argument t 1 ≡ k)) ⊎ ((constant_at es (argument t 0) ≡ Some n) × (argument t 0 ≡ k))
one_that_is-some es t n k h = by (is_number es (argument t 1) n) (is_number es (argument t 0) n) refl refl h
  where
    by : (a b : Bool) → is_number es (argument t 1) n ≡ a → is_number es (argument t 0) n ≡ b → (if a then Some (argument t 1) else if b then Some (argument t 0) else None) ≡ Some k →
        ((constant_at es (argument t 1) ≡ Some n) × (argument t 1 ≡ k)) ⊎ ((constant_at es (argument t 0) ≡ Some n) × (argument t 0 ≡ k))
    by true b p q e = inl (is_just-true (constant_at es (argument t 1)) n p, cc)
    by false true p q e = inr (is_just-true (constant_at es (argument t 0)) n q, cc)
    by false false p q e = absurd (cc)

-- ---- the folds of each operation

bool_cases : (b : Bool) → (b ≡ true) ⊎ (b ≡ false)
bool_cases true = inl refl
bool_cases false = inr refl

module _ (es : List Entry) (graph : IsGraph es) (w : Width) (x y z n : ℕ) where
  -- a term over these places
  abbrev over : Op → Term
  over op = record { op = op; width = w; args = x ∷ y ∷ z ∷ []; number = n }

  -- such a term that stands over the graph, not over constants alone
  record Stands (op : Op) : Type 0 where
    fits : FitsAfter es (over op)
    live : has_constants_only es (over op) ≡ false

  -- it may be made as it is
  as_it_is : (op : Op) → Stands op → IsTermFor es (over op) (over op)
  as_it_is op s = record { fits = s.fits; width = refl; live = s.live; made = λ h. h; size = omega arith; same = λ ins i. refl }

  -- its first argument stands for it
  the_first : (op : Op) → Stands op → 0 < arity op → width_at es x ≡ w → ((ins : List ℕ) → InputsFit es ins → IsWord w (value es ins x) → value es ins x ≡ value_of es ins (over op)) → IsPlaceFor es (over op) x
  the_first op s h e f = record {
    stands = s.fits.used 0 h;
    width = e;
    same = λ ins i. f ins i (subst (λ (v : Width). IsWord v (value es ins x)) e (value-word es ins graph i x (s.fits.used 0 h)));
  }

  -- its second argument does
  the_second : (op : Op) → Stands op → 1 < arity op → width_at es y ≡ w → ((ins : List ℕ) → InputsFit es ins → IsWord w (value es ins y) → value es ins y ≡ value_of es ins (over op)) → IsPlaceFor es (over op) y
  the_second op s h e f = record {
    stands = s.fits.used 1 h;
    width = e;
    same = λ ins i. f ins i (subst (λ (v : Width). IsWord v (value es ins y)) e (value-word es ins graph i y (s.fits.used 1 h)));
  }

  no_argument : (m k : ℕ) → argument (constant_term w m) k ≡ 0
  no_argument m zero = refl
  no_argument m (suc zero) = refl
  no_argument m (suc (suc zero)) = refl
  no_argument m (suc (suc (suc k))) = refl

  -- a constant is made for it
  a_constant : (op : Op) (m : ℕ) → IsWord w m → ((ins : List ℕ) → InputsFit es ins → m ≡ value_of es ins (over op)) → IsTermFor es (over op) (constant_term w m)
  a_constant op m h f = record {
    fits = record { three = refl; used = λ k within. absurd (omega arith); unused = λ k past. no_argument m k; widths = tt; number = h };
    width = refl;
    live = refl;
    made = λ h e. absurd (cc);
    size = omega arith;
    same = f;
  }

  add-for : Stands Add → IsFor es (over Add) (folded es Add (over Add))
  add-for s = known_or-some es (over Add) (other_than es (over Add) 0) (Makes (over Add))
      (λ k e. elim (other_than-some es (over Add) 0 k e) [
        | inl p ↦ subst (λ (i : ℕ). IsPlaceFor es (over Add) i) p.1 (the_first Add s (omega arith) s.fits.widths.0 (λ ins i h. rw (value-constant es ins graph y 0 p.0) (sym (add_zero (modulus w) (value es ins x) h))))
        | inr p ↦ subst (λ (i : ℕ). IsPlaceFor es (over Add) i) p.1 (the_second Add s (omega arith) s.fits.widths.1 (λ ins i h. rw (value-constant es ins graph x 0 p.0) (sym (zero_add (modulus w) (value es ins y) h))))
      ])
      (as_it_is Add s)

  mul-for : Stands Mul → IsFor es (over Mul) (folded es Mul (over Mul))
  mul-for s = known_or-some es (over Mul) (one_that_is es (over Mul) 0) _
      (λ k e. elim (one_that_is-some es (over Mul) 0 k e) [
        | inl p ↦ subst (λ (i : ℕ). IsPlaceFor es (over Mul) i) p.1 (the_second Mul s (omega arith) s.fits.widths.1 (λ ins i h. rw (value-constant es ins graph y 0 p.0) (sym (mul_zero (modulus w) (value es ins x)))))
        | inr p ↦ subst (λ (i : ℕ). IsPlaceFor es (over Mul) i) p.1 (the_first Mul s (omega arith) s.fits.widths.0 (λ ins i h. rw (value-constant es ins graph x 0 p.0) (sym (zero_mul (modulus w) (value es ins y)))))
      ])
      (known_or-some es (over Mul) (other_than es (over Mul) 1) (Makes (over Mul))
      (λ k e. elim (other_than-some es (over Mul) 1 k e) [
        | inl p ↦ subst (λ (i : ℕ). IsPlaceFor es (over Mul) i) p.1 (the_first Mul s (omega arith) s.fits.widths.0 (λ ins i h. rw (value-constant es ins graph y 1 p.0) (sym (mul_one (modulus w) (value es ins x) h))))
        | inr p ↦ subst (λ (i : ℕ). IsPlaceFor es (over Mul) i) p.1 (the_second Mul s (omega arith) s.fits.widths.1 (λ ins i h. rw (value-constant es ins graph x 1 p.0) (sym (one_mul (modulus w) (value es ins y) h))))
      ])
      (as_it_is Mul s))

  -- the arguments' words
  word_at_place : (k : ℕ) → k < length es → width_at es k ≡ w → (ins : List ℕ) → InputsFit es ins → IsWord w (value es ins k)
  word_at_place k h e ins i = subst (λ (v : Width). IsWord v (value es ins k)) e (value-word es ins graph i k h)

  -- where both arguments are one node
  twice : (op : Op) → is_twice (over op) ≡ true → x ≡ y
  twice op e = eqb-true x y e

  and-for : Stands And → IsFor es (over And) (folded es And (over And))
  and-for s = if_then_else es (over And) (is_twice (over And)) _ _
      (λ e. the_first And s (omega arith) s.fits.widths.0 (λ ins i h. rw (← twice And e) (sym (and_self (value es ins x)))))
      (λ _. known_or-some es (over And) (one_that_is es (over And) 0) _
      (λ k e. elim (one_that_is-some es (over And) 0 k e) [
        | inl p ↦ subst (λ (i : ℕ). IsPlaceFor es (over And) i) p.1 (the_second And s (omega arith) s.fits.widths.1 (λ ins i h. rw (value-constant es ins graph y 0 p.0) (sym (and_zero (value es ins x)))))
        | inr p ↦ subst (λ (i : ℕ). IsPlaceFor es (over And) i) p.1 (the_first And s (omega arith) s.fits.widths.0 (λ ins i h. rw (value-constant es ins graph x 0 p.0) (sym (zero_and (value es ins y)))))
      ])
      (known_or-some es (over And) (other_than es (over And) (ones w)) (Makes (over And))
      (λ k e. elim (other_than-some es (over And) (ones w) k e) [
        | inl p ↦ subst (λ (i : ℕ). IsPlaceFor es (over And) i) p.1 (the_first And s (omega arith) s.fits.widths.0 (λ ins i h. rw (value-constant es ins graph y (ones w) p.0) (sym (and_ones w (value es ins x) h))))
        | inr p ↦ subst (λ (i : ℕ). IsPlaceFor es (over And) i) p.1 (the_second And s (omega arith) s.fits.widths.1 (λ ins i h. rw (value-constant es ins graph x (ones w) p.0) (sym (ones_and w (value es ins y) h))))
      ])
      (as_it_is And s)))

  or-for : Stands Or → IsFor es (over Or) (folded es Or (over Or))
  or-for s = if_then_else es (over Or) (is_twice (over Or)) _ _
      (λ e. the_first Or s (omega arith) s.fits.widths.0 (λ ins i h. rw (← twice Or e) (sym (or_self (value es ins x)))))
      (λ _. known_or-some es (over Or) (other_than es (over Or) 0) _
      (λ k e. elim (other_than-some es (over Or) 0 k e) [
        | inl p ↦ subst (λ (i : ℕ). IsPlaceFor es (over Or) i) p.1 (the_first Or s (omega arith) s.fits.widths.0 (λ ins i h. rw (value-constant es ins graph y 0 p.0) (sym (or_zero (value es ins x)))))
        | inr p ↦ subst (λ (i : ℕ). IsPlaceFor es (over Or) i) p.1 (the_second Or s (omega arith) s.fits.widths.1 (λ ins i h. rw (value-constant es ins graph x 0 p.0) (sym (zero_or (value es ins y)))))
      ])
      (known_or-some es (over Or) (one_that_is es (over Or) (ones w)) (Makes (over Or))
      (λ k e. elim (one_that_is-some es (over Or) (ones w) k e) [
        | inl p ↦ subst (λ (i : ℕ). IsPlaceFor es (over Or) i) p.1 (the_second Or s (omega arith) s.fits.widths.1 (λ ins i h. rw (value-constant es ins graph y (ones w) p.0) (sym (or_ones w (value es ins x) (word_at_place x (s.fits.used 0 (omega arith)) s.fits.widths.0 ins i)))))
        | inr p ↦ subst (λ (i : ℕ). IsPlaceFor es (over Or) i) p.1 (the_first Or s (omega arith) s.fits.widths.0 (λ ins i h. rw (value-constant es ins graph x (ones w) p.0) (sym (ones_or w (value es ins y) (word_at_place y (s.fits.used 1 (omega arith)) s.fits.widths.1 ins i)))))
      ])
      (as_it_is Or s)))

  -- ---- differences, shifts and comparisons

  sub-for : Stands Sub → IsFor es (over Sub) (folded es Sub (over Sub))
  sub-for s = if_then_else es (over Sub) (is_number es y 0) _ _
      (λ e. the_first Sub s (omega arith) s.fits.widths.0 (λ ins i h. rw (value-constant es ins graph y 0 (is_just-true (constant_at es y) 0 e)) (sym (sub_zero (modulus w) (value es ins x) h))))
      (λ _. if_then_else es (over Sub) (is_twice (over Sub)) _ _
      (λ e. a_constant Sub 0 (modulus_pos w) (λ ins i. rw (← twice Sub e) (sym (sub_self (modulus w) (value es ins x) (word_at_place x (s.fits.used 0 (omega arith)) s.fits.widths.0 ins i)))))
      (λ _. as_it_is Sub s))

  shift-for : (op : Op) → Stands op → 0 < arity op → width_at es x ≡ w →
      ((ins : List ℕ) → IsWord w (value es ins x) → value es ins y ≡ 0 → value es ins x ≡ value_of es ins (over op)) → IsFor es (over op) (folded_shift es (over op))
  shift-for op s h e f = if_then_else es (over op) (is_number es y 0) _ _
      (λ zero_count. the_first op s h e (λ ins i word. f ins word (value-constant es ins graph y 0 (is_just-true (constant_at es y) 0 zero_count))))
      (λ _. as_it_is op s)

  comparison-for : (op : Op) (bit : ℕ) → Stands op → IsWord w bit → ((ins : List ℕ) → x ≡ y → bit ≡ value_of es ins (over op)) → IsFor es (over op) (folded_comparison (over op) bit)
  comparison-for op bit s h f = if_then_else es (over op) (is_twice (over op)) _ _
      (λ e. a_constant op bit h (λ ins i. f ins (twice op e)))
      (λ _. as_it_is op s)

  -- ---- complements

  not_used : (v : ℕ) → v < length es → (k : ℕ) → k < 1 → argument (not_term w v) k < length es
  not_used v h zero within = h
  not_used v h (suc k) within = absurd (omega arith)

  not_unused : (v k : ℕ) → 1 ≤ k → argument (not_term w v) k ≡ 0
  not_unused v zero past = absurd (omega arith)
  not_unused v (suc zero) past = refl
  not_unused v (suc (suc zero)) past = refl
  not_unused v (suc (suc (suc k))) past = refl

  -- the complement of the node at place v stands for the term
  complement-for : (op : Op) (v : ℕ) → v < length es → width_at es v ≡ w → constant_at es v ≡ None → 4 * bits w ≤ term_size es (over op) →
      ((ins : List ℕ) → InputsFit es ins → word_not (modulus w) (value es ins v) ≡ value_of es ins (over op)) → IsFor es (over op) (complement_at es w v)
  complement-for op v within width open_ size same = by (slice_get es v) refl
    where
      made : IsTermFor es (over op) (not_term w v)
      made = record {
        fits = record { three = refl; used = not_used v within; unused = not_unused v; widths = width; number = refl };
        width = refl;
        live = rw open_ refl;
        made = λ h e. absurd (cc);
        size = size;
        same = same;
      }

      inner : (e : Entry) → slice_get es v ≡ Some e → e.op ≡ Not → IsPlaceFor es (over op) (get_or e.args 0 0)
      inner e s is =
          let entry = AreEntries-at [] es v e graph.entries s in
          let few : length (take v es) ≤ length es = omega (arith, length-take-le v es) in
          let used : get_or e.args 0 0 < length (take v es) = entry.fits.used 0 (rw is (omega arith)) in
          let of_entry : width_at (take v es) (get_or e.args 0 0) ≡ e.width = rw is at entry.fits.widths in
          let earlier : width_at es (get_or e.args 0 0) ≡ w = width_at-take es v (get_or e.args 0 0) used ∙ of_entry ∙ sym (width_at-get es v e s) ∙ width in
          let value_is : (ins : List ℕ) → value es ins v ≡ word_not (modulus w) (value es ins (get_or e.args 0 0)) =
          λ ins. value-entry es ins graph v e s ∙ rw is (ap (λ (u : Width). word_not (modulus u) (value es ins (get_or e.args 0 0))) (sym (width_at-get es v e s) ∙ width)) in
          record {
            stands = omega arith;
            width = earlier;
            same = λ ins i.
                sym (not_not (modulus w) (value es ins (get_or e.args 0 0)) (word_at_place (get_or e.args 0 0) (omega arith) earlier ins i))
                ∙ ap (λ (a : ℕ). word_not (modulus w) a) (sym (value_is ins))
                ∙ same ins i;
          }

      over_op : (op' : Op) (e : Entry) → e.op ≡ op' → slice_get es v ≡ Some e → IsFor es (over op) (complement_over op' (get_or e.args 0 0) (not_term w v))
      over_op Not e is s = inner e s is
      over_op _ e is s = made

      by : (o : Option Entry) → slice_get es v ≡ o → IsFor es (over op) (complement_entry o (not_term w v))
      by None s = made
      by (Some e) s = over_op e.op e refl s

  is_some-false : (o : Option ℕ) (b : Bool) → (is_some o && b) ≡ false → b ≡ true → o ≡ None
  is_some-false None b h e = refl
  is_some-false (Some m) true h e = absurd (cc)
  is_some-false (Some m) false h e = absurd (cc)

  is_some-right : (o : Option ℕ) (b : Bool) → (b && (is_some o && true)) ≡ false → b ≡ true → o ≡ None
  is_some-right None b h e = refl
  is_some-right (Some m) true h e = absurd (cc)
  is_some-right (Some m) false h e = absurd (cc)

  not-for : Stands Not → IsFor es (over Not) (folded es Not (over Not))
  not-for s = complement-for Not x (s.fits.used 0 (omega arith)) s.fits.widths (is_some-false (constant_at es x) true s.live refl) (omega arith) (λ ins i. refl)

  xor_ones-for : Stands Xor → (v : ℕ) → other_than es (over Xor) (ones w) ≡ Some v → IsFor es (over Xor) (complement_at es w v)
  xor_ones-for s v e = elim (other_than-some es (over Xor) (ones w) v e) [
    | inl p ↦
        let open_ : constant_at es x ≡ None = is_some-false (constant_at es x) (is_some (constant_at es y) && true) s.live (rw p.0 refl) in
        subst (λ (i : ℕ). IsFor es (over Xor) (complement_at es w i)) p.1
        (complement-for Xor x (s.fits.used 0 (omega arith)) s.fits.widths.0 open_ (omega arith)
        (λ ins i. rw (value-constant es ins graph y (ones w) p.0) (sym (xor_ones w (value es ins x) (word_at_place x (s.fits.used 0 (omega arith)) s.fits.widths.0 ins i)))))
    | inr p ↦
        let open_ : constant_at es y ≡ None = is_some-right (constant_at es y) (is_some (constant_at es x)) s.live (rw p.0 refl) in
        subst (λ (i : ℕ). IsFor es (over Xor) (complement_at es w i)) p.1
        (complement-for Xor y (s.fits.used 1 (omega arith)) s.fits.widths.1 open_ (omega arith)
        (λ ins i. rw (value-constant es ins graph x (ones w) p.0) (sym (ones_xor w (value es ins y) (word_at_place y (s.fits.used 1 (omega arith)) s.fits.widths.1 ins i)))))
  ]

  xor-for : Stands Xor → IsFor es (over Xor) (folded es Xor (over Xor))
  xor-for s = if_then_else es (over Xor) (is_twice (over Xor)) _ _
      (λ e. a_constant Xor 0 (modulus_pos w) (λ ins i. rw (← twice Xor e) (sym (xor_self (value es ins x)))))
      (λ _. known_or-some es (over Xor) (other_than es (over Xor) 0) _
      (λ k e. elim (other_than-some es (over Xor) 0 k e) [
        | inl p ↦ subst (λ (i : ℕ). IsPlaceFor es (over Xor) i) p.1 (the_first Xor s (omega arith) s.fits.widths.0 (λ ins i h. rw (value-constant es ins graph y 0 p.0) (sym (xor_zero_r (value es ins x)))))
        | inr p ↦ subst (λ (i : ℕ). IsPlaceFor es (over Xor) i) p.1 (the_second Xor s (omega arith) s.fits.widths.1 (λ ins i h. rw (value-constant es ins graph x 0 p.0) (sym (xor_zero_l (value es ins y)))))
      ])
      (by (other_than es (over Xor) (ones w)) refl))
    where
      by : (o : Option ℕ) → other_than es (over Xor) (ones w) ≡ o → IsFor es (over Xor) (complement_or es w o (Makes (over Xor)))
      by None e = as_it_is Xor s
      by (Some v) e = xor_ones-for s v e

  -- ---- selections

  one_bit : (v : Width) → eqb (bits v) 1 ≡ true → v ≡ W1
  one_bit W1 e = refl
  one_bit W8 e = absurd (cc)
  one_bit W16 e = absurd (cc)
  one_bit W32 e = absurd (cc)
  one_bit W64 e = absurd (cc)

  and_parts : (a b : Bool) → (a && b) ≡ true → (a ≡ true) × (b ≡ true)
  and_parts true true e = (refl, refl)
  and_parts true false e = absurd (cc)
  and_parts false b e = absurd (cc)

  -- one of the branches stands for it
  the_branch : Stands Sel → (v : ℕ) → (v ≡ y) ⊎ (v ≡ z) → ((ins : List ℕ) → InputsFit es ins → value es ins v ≡ value_of es ins (over Sel)) → IsPlaceFor es (over Sel) v
  the_branch s v at f = record {
    stands = elim at [ inl e ↦ rw e (s.fits.used 1 (omega arith)) | inr e ↦ rw e (s.fits.used 2 (omega arith)) ];
    width = elim at [ inl e ↦ rw e s.fits.widths.1 | inr e ↦ rw e s.fits.widths.2 ];
    same = f;
  }

  choice : (b : Bool) → ((if b then y else z) ≡ y) ⊎ ((if b then y else z) ≡ z)
  choice true = inl refl
  choice false = inr refl

  chosen_value : (ins : List ℕ) (b : Bool) → value es ins (if b then y else z) ≡ (if b then value es ins y else value es ins z)
  chosen_value ins true = refl
  chosen_value ins false = refl

  both_same : (b : Bool) (a : ℕ) → (if b then a else a) ≡ a
  both_same true a = refl
  both_same false a = refl

  bit_itself : (a : ℕ) → a < 2 → a ≡ (if eqb a 1 then 1 else 0)
  bit_itself zero h = refl
  bit_itself (suc zero) h = refl
  bit_itself (suc (suc a)) h = absurd (omega arith)

  selection-for : Stands Sel → IsFor es (over Sel) (folded es Sel (over Sel))
  selection-for s = by (constant_at es x) refl
    where
      bits_are : is_number es y 1 ≡ true → is_number es z 0 ≡ true → bits w == 1 ≡ true → IsPlaceFor es (over Sel) x
      bits_are a b c =
          let same_width : w ≡ W1 = one_bit w c in
          the_first Sel s (omega arith) (s.fits.widths.0 ∙ sym same_width) (λ ins i h.
          let low : value es ins x < 2 = rw same_width at h in
          rw (value-constant es ins graph y 1 (is_just-true (constant_at es y) 1 a), value-constant es ins graph z 0 (is_just-true (constant_at es z) 0 b)) (bit_itself (value es ins x) low))

      by : (o : Option ℕ) → constant_at es x ≡ o → IsFor es (over Sel) (chosen_or o y z (if eqb y z then Known y else if (bits w == 1 && is_number es y 1 && is_number es z 0) then Known x else Makes (over Sel)))
      by (Some c) e = the_branch s (if eqb c 1 then y else z) (choice (eqb c 1)) (λ ins i. rw (value-constant es ins graph x c e) (chosen_value ins (eqb c 1)))
      by None e = if_then_else es (over Sel) (eqb y z) _ _
          (λ same. the_branch s y (inl refl) (λ ins i. rw (← eqb-true y z same) (sym (both_same (eqb (value es ins x) 1) (value es ins y)))))
          (λ _. if_then_else es (over Sel) (bits w == 1 && is_number es y 1 && is_number es z 0) _ _
          (λ h. let p = and_parts (bits w == 1 && is_number es y 1) (is_number es z 0) h in
          let q = and_parts (bits w == 1) (is_number es y 1) p.0 in
          bits_are q.1 p.1 q.0)
          (λ _. as_it_is Sel s))

  -- ---- all operations

  folded-for : (op : Op) → Stands op → IsFor es (over op) (folded es op (over op))
  folded-for Add s = add-for s
  folded-for Sub s = sub-for s
  folded-for Mul s = mul-for s
  folded-for And s = and-for s
  folded-for Or s = or-for s
  folded-for Xor s = xor-for s
  folded-for Not s = not-for s
  folded-for Shl s = shift-for Shl s (omega arith) s.fits.widths (λ ins h e. rw e (sym (shl_zero (modulus w) (value es ins x) h (bits w) refl)))
  folded-for ShrU s = shift-for ShrU s (omega arith) s.fits.widths (λ ins h e. rw e (sym (shr_u_zero (modulus w) (value es ins x) h (bits w))))
  folded-for ShrS s = shift-for ShrS s (omega arith) s.fits.widths (λ ins h e. rw e (sym (shr_s_zero (modulus w) (value es ins x) h (bits w) refl)))
  folded-for LtU s = comparison-for LtU 0 s (modulus_pos w) (λ ins e. rw (← e) (sym (ap bit (not_less_u (value es ins x)))))
  folded-for LtS s = comparison-for LtS 0 s (modulus_pos w) (λ ins e. rw (← e) (sym (ap bit (not_less_s (modulus (word_at (words es ins) x).width) (value es ins x)))))
  folded-for Eq s = comparison-for Eq 1 s (modulus_two w) (λ ins e. rw (← e) (sym (ap bit (is_same (value es ins x)))))
  folded-for Sel s = selection-for s
  folded-for In s = as_it_is In s
  folded-for Const s = as_it_is Const s
  folded-for Neg s = as_it_is Neg s
  folded-for DivU s = as_it_is DivU s
  folded-for DivS s = as_it_is DivS s
  folded-for RemU s = as_it_is RemU s
  folded-for RemS s = as_it_is RemS s
  folded-for Trunc s = as_it_is Trunc s
  folded-for ZeroExt s = as_it_is ZeroExt s
  folded-for SignExt s = as_it_is SignExt s

  -- over constants alone
  constants-for : (op : Op) → FitsAfter es (over op) → has_constants_only es (over op) ≡ true → IsTermFor es (over op) (constant_term w (constant_value es (over op)))
  constants-for op f h =
      let number : ℕ → ℕ = λ k. unwrap_or (constant_at es k) 0 in
      let known : (ins : List ℕ) → (k : ℕ) → k < arity op → number (argument (over op) k) ≡ value es ins (argument (over op) k) =
      λ ins k within.
      let c = has_constants_only-at es (over op) k refl h within in
      rw c.1 (sym (value-constant es ins graph (argument (over op) k) c.0 c.1)) in
      let some : 0 < arity op = elim (zero_or_more (arity op)) [ inl e ↦ absurd (has_constants_only-some es (over op) h e) | inr more ↦ more ] in
      a_constant op (constant_value es (over op))
      (op_value-word op w (width_at es x) (number x) (number y) (number z) (constant_value-taken es (over op) graph f h))
      (λ ins i.
      let first : number x ≡ first_operand op (get_or ins n 0) n (value es ins x) = known ins 0 some ∙ sym (first_operand-argument op (get_or ins n 0) n (value es ins x) some) in
      ap (λ (a : ℕ). op_value op w (width_at es x) a (number y) (number z)) first
      ∙ op_value-used op w _ _ _ _ _ _ _ (λ h. sym (Carries-width es (words es ins) x (carries es ins graph i))) (known ins 1) (known ins 2))
    where
      zero_or_more : (k : ℕ) → (k ≡ 0) ⊎ (0 < k)
      zero_or_more zero = inl refl
      zero_or_more (suc k) = inr (omega arith)

  over-for : (op : Op) → FitsAfter es (over op) → IsFor es (over op) (reduced es (over op))
  over-for op f = if_then_else es (over op) (has_constants_only es (over op)) _ _
      (constants-for op f)
      (λ live. folded-for op (record { fits = f; live = live }))

-- what a term folds to stands for it
pub reduced-for : (es : List Entry) (t : Term) → IsGraph es → FitsAfter es t → IsFor es t (reduced es t)
reduced-for es t graph f = by t.args f.three f
  where
    by : (args : List ℕ) → length args ≡ 3 → (let u : Term = record { op = t.op; width = t.width; args = args; number = t.number } in FitsAfter es u) →
        (let u : Term = record { op = t.op; width = t.width; args = args; number = t.number } in IsFor es u (reduced es u))
    by (x ∷ y ∷ z ∷ []) e g = over-for es graph t.width x y z t.number t.op g
    by [] e g = absurd (omega arith)
    by (x ∷ []) e g = absurd (omega arith)
    by (x ∷ y ∷ []) e g = absurd (omega arith)
    by (x ∷ y ∷ z ∷ v ∷ more) e g = absurd (omega arith)
