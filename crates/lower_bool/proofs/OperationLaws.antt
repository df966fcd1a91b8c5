-- Laws of operations: what a block answers is what the operation's node carries, and its numbers are those of the operation.
use Rattle.std.proofs.Common.{◌≡◌, ℕ, zero, suc, ◌+◌, ◌-◌, ◌*◌, ◌^◌, ◌<◌, ◌≤◌, Bool, List, [], ◌∷◌, Option, Some, None, get_or, length, refl, sym, ap, ◌∙◌, subst, arith}
use Rattle.std.specs.Prelude.{Result, Ok, Err, IfOk, IfErr, Vec}
use Rattle.std.specs.declared.alloc.Global.{Global}
use Rattle.std.proofs.lemmas.List.Sums.{count_by-le-length}
use Rattle.hy_bits.specs.declared.op.Op.{Op}
use Rattle.hy_bits.specs.declared.op.Op.TheVariants.{DivU, DivS, RemU, RemS}
use Rattle.hy_bits.specs.declared.width.Width.{Width}
use Rattle.hy_bits.specs.declared.width.Width.TheVariants.{W1, W8, W16, W32, W64}
use Rattle.hy_bits.specs.Bits.{bit}
use Rattle.hy_bits.specs.Op.{op_value}
use Rattle.hy_bits.specs.Sizes.{Stated, adder_size, divider_size, log_bits, of_quotient, operation_size, product_depth, product_size, quotient_size, stated, sum_size}
use Rattle.hy_bits.specs.Words.{bits}
use Rattle.word_graph.specs.Term.{WidthsFit, arity}
use Rattle.gate_net.specs.declared.literal.Lit.{Lit}
use Rattle.gate_net.specs.declared.netlist.Form.{Form}
use Rattle.gate_net.specs.declared.netlist.Form.TheVariants.{Compact, Shallow}
use Rattle.gate_net.specs.declared.netlist.GateFault.{GateFault}
use Rattle.gate_net.specs.Circuit.{Circuit, Stands}
use Rattle.gate_net.specs.Growth.{Grows, StopsWithin}
use Rattle.gate_net.proofs.GrowthLaws.{Grows-weaken}
use Rattle.gate_net.specs.Meaning.{is_and, level, value}
use Rattle.gate_net.specs.Spelled.{AllStand, AllWithin, spelled}
use Rattle.div_blocks.specs.Division.{quotient_of, remainder_of}
use Rattle.lower_bool.specs.declared.call.Call.{Call}
use Rattle.lower_bool.specs.Operations.{AreOperands, IsAnswer, IsQuotient, IsRemainder, RowsWithin, is_signed, and_limit, call_ands, call_size, call_stated, row_at}

-- ---- results

pub if_ok : {T E : Type 0} (r : Result T E) (P Q : T → Type 0) → IfOk r P → ((x : T) → P x → Q x) → IfOk r Q
if_ok (Ok x) P Q h f = f x h
if_ok (Err e) P Q h f = tt

pub if_err : {T E : Type 0} (r : Result T E) (P Q : E → Type 0) → IfErr r P → ((e : E) → P e → Q e) → IfErr r Q
if_err (Ok x) P Q h f = tt
if_err (Err e) P Q h f = f e h

-- ---- widths

pub bits_pos : (w : Width) → 0 < bits w
bits_pos W1 = omega arith
bits_pos W8 = omega arith
bits_pos W16 = omega arith
bits_pos W32 = omega arith
bits_pos W64 = omega arith

pub bits_few : (w : Width) → bits w ≤ 64
bits_few W1 = omega arith
bits_few W8 = omega arith
bits_few W16 = omega arith
bits_few W32 = omega arith
bits_few W64 = omega arith

-- the logarithm covers the width
pub covers : (w : Width) → bits w ≤ 2 ^ log_bits w
covers W1 = omega arith
covers W8 = omega arith
covers W16 = omega arith
covers W32 = omega arith
covers W64 = omega arith

pub AllWithin-le : (n : Circuit) (d e : ℕ) (ls : List Lit) → d ≤ e → AllWithin n d ls → AllWithin n e ls
AllWithin-le n d e ls h low k x i = omega (arith, low k x i)

some_same : (m n : ℕ) → Some m ≡ Some n → m ≡ n
some_same m n e = cc

-- ---- operands

module _ (c : Call) (rows : List (List Lit)) (o : Op) (is : c.op ≡ o) (words : AreOperands c rows) where
  pub operands-fit : WidthsFit o c.width c.first c.second words.third
  operands-fit = subst (λ (p : Op). WidthsFit p c.width c.first c.second words.third) is words.fits

  pub first-row : 0 < arity o → length (row_at rows 0) ≡ bits c.first
  first-row h = words.first_word (subst (λ (p : Op). 0 < arity p) (sym is) h)

  pub second-row : 1 < arity o → length (row_at rows 1) ≡ bits c.second
  second-row h = words.second_word (subst (λ (p : Op). 1 < arity p) (sym is) h)

  -- two words of the result's width
  pub two-words : 1 < arity o → ((w x y z : Width) → WidthsFit o w x y z → (x ≡ w) × (y ≡ w)) → (length (row_at rows 0) ≡ bits c.width) × (length (row_at rows 1) ≡ bits c.width)
  two-words two same =
      let s = same c.width c.first c.second words.third operands-fit in
      (first-row (omega arith) ∙ ap bits s.0, second-row two ∙ ap bits s.1)

-- ---- answers

module _ (form : Form) (c : Call) (rows : List (List Lit)) (old new : Circuit) where
  abbrev pub IsDeep : List Lit → Type 0
  IsDeep answer = form ≡ Shallow → (s d : ℕ) → (call_stated c).depth ≡ Some s → RowsWithin old d rows → AllWithin new (d + s) answer

  abbrev pub Spells : List Lit → Type 0
  Spells answer = (xs : List Bool) → spelled new xs answer ≡ op_value c.op c.width c.first (spelled old xs (row_at rows 0)) (spelled old xs (row_at rows 1)) (spelled old xs (row_at rows 2))

  -- a stated depth
  pub deep : (k : ℕ) (answer : List Lit) → (call_stated c).depth ≡ Some k → ((d : ℕ) → form ≡ Shallow → RowsWithin old d rows → AllWithin new (d + k) answer) → IsDeep answer
  deep k answer is within shallow s d at low = subst (λ (n : ℕ). AllWithin new (d + n) answer) (some_same k s (sym is ∙ at)) (within d shallow low)

  -- none
  pub deep-none : (answer : List Lit) → (call_stated c).depth ≡ None → IsDeep answer
  deep-none answer is shallow s d at low = absurd (none s (sym is ∙ at))
    where
      none : (s : ℕ) → None ≡ Some s → ⊥
      none s e = cc

  -- a word whose number is f of those of the first two rows
  pub word-of : (answer a b : List Lit) (f : ℕ → ℕ → ℕ → ℕ) → a ≡ row_at rows 0 → b ≡ row_at rows 1 → length a ≡ bits c.width →
      ((x y z : ℕ) → f (bits c.width) x y ≡ op_value c.op c.width c.first x y z) → AllStand new answer → length answer ≡ length a →
      ((xs : List Bool) → spelled new xs answer ≡ f (length a) (spelled old xs a) (spelled old xs b)) → IsDeep answer → IsAnswer form c old new rows answer
  word-of answer a b f ea eb len is s n v d = record {
    stand = s;
    count = n ∙ len;
    spells = λ xs.
        v xs
        ∙ ap (λ (m : ℕ). f m (spelled old xs a) (spelled old xs b)) len
        ∙ ap (λ (l : List Lit). f (bits c.width) (spelled old xs l) (spelled old xs b)) ea
        ∙ ap (λ (l : List Lit). f (bits c.width) (spelled old xs (row_at rows 0)) (spelled old xs l)) eb
        ∙ is (spelled old xs (row_at rows 0)) (spelled old xs (row_at rows 1)) (spelled old xs (row_at rows 2));
    depth = d;
  }

  pub word-answer : (res : Result (Vec Lit Global) GateFault) (a b : List Lit) (f : ℕ → ℕ → ℕ → ℕ) → a ≡ row_at rows 0 → b ≡ row_at rows 1 → length a ≡ bits c.width →
      ((x y z : ℕ) → f (bits c.width) x y ≡ op_value c.op c.width c.first x y z) →
      IfOk res (λ r. AllStand new r.items) → IfOk res (λ r. length r.items ≡ length a) → IfOk res (λ r. (xs : List Bool) → spelled new xs r.items ≡ f (length a) (spelled old xs a) (spelled old xs b)) →
      IfOk res (λ r. IsDeep r.items) → IfOk res (λ r. IsAnswer form c old new rows r.items)
  word-answer (Ok r) a b f ea eb len is s n v d = word-of r.items a b f ea eb len is s n v d
  word-answer (Err e) a b f ea eb len is s n v d = tt

  -- a word of one literal
  bit-answer : (l : Lit) (items : List Lit) → items ≡ l ∷ [] → Stands new l → bits c.width ≡ 1 →
      ((xs : List Bool) → bit (value new xs l) ≡ op_value c.op c.width c.first (spelled old xs (row_at rows 0)) (spelled old xs (row_at rows 1)) (spelled old xs (row_at rows 2))) →
      IsDeep (l ∷ []) → IsAnswer form c old new rows items
  bit-answer l items is s one v d = subst (IsAnswer form c old new rows) (sym is) (record {
    stand = λ k x h. only k x h;
    count = sym one;
    spells = λ xs. plain (bit (value new xs l)) ∙ v xs;
    depth = d;
  })
    where
      only : (k : ℕ) (x : Lit) → k < 1 → Stands new (get_or (l ∷ []) k x)
      only zero x h = s
      only (suc k) x h = absurd (omega arith)

      plain : (n : ℕ) → n + 2 * 0 ≡ n
      plain n = omega arith

  bit-within : (l : Lit) (d : ℕ) → level new l ≤ d → AllWithin new d (l ∷ [])
  bit-within l d h zero x i = h
  bit-within l d h (suc k) x i = absurd (omega arith)

  -- a comparison of the first two rows
  pub compared : (l : Lit) (items : List Lit) (f : ℕ → ℕ → Bool) (k : ℕ) → items ≡ l ∷ [] → Stands new l → bits c.width ≡ 1 → ((x y z : ℕ) → bit (f x y) ≡ op_value c.op c.width c.first x y z) →
      ((xs : List Bool) → value new xs l ≡ f (spelled old xs (row_at rows 0)) (spelled old xs (row_at rows 1))) → (call_stated c).depth ≡ Some k →
      ((d : ℕ) → form ≡ Shallow → RowsWithin old d rows → level new l ≤ d + k) → IsAnswer form c old new rows items
  compared l items f k made s one is v at low =
      bit-answer l items made s one
      (λ xs. ap bit (v xs) ∙ is (spelled old xs (row_at rows 0)) (spelled old xs (row_at rows 1)) (spelled old xs (row_at rows 2)))
      (deep k (l ∷ []) at (λ d shallow within. bit-within l (d + k) (low d shallow within)))

-- ---- the numbers of the operation

module _ (form : Form) (c : Call) (old new : Circuit) where
  by-form : (f : Form) (o : Option ℕ) (size : ℕ) → (f ≡ Compact → (n : ℕ) → o ≡ Some n → Grows old new size n) → Grows old new size size → Grows old new size (and_limit f o size)
  by-form Compact (Some n) size few all = few refl n refl
  by-form Compact None size few all = all
  by-form Shallow o size few all = all

  pub call-grows : (size : ℕ) (o : Option ℕ) → call_size c ≡ size → (call_stated c).ands ≡ o → (form ≡ Compact → (n : ℕ) → o ≡ Some n → Grows old new size n) → Grows old new size size → Grows old new (call_size c) (call_ands form c)
  call-grows size o es eo few all =
      subst (λ (s : ℕ). Grows old new s (and_limit form (call_stated c).ands s)) (sym es)
      (subst (λ (p : Option ℕ). Grows old new size (and_limit form p size)) (sym eo) (by-form form o size few all))

-- ---- growth

-- And gates are gates
pub Grows-gates : {a b : Circuit} {g i : ℕ} → Grows a b g i → Grows a b g g
Grows-gates p = record {
  added = p.added;
  appended = p.appended;
  few_gates = p.few_gates;
  few_ands = omega (arith, p.few_gates, count_by-le-length is_and p.added);
  same_ins = p.same_ins;
  same_outs = p.same_outs;
  same_budget = p.same_budget;
}

-- ---- products

-- the stated depth of a product
pub product-deep : (n : Circuit) (w : Width) (answer : List Lit) (d s : ℕ) → product_depth w ≡ Some s → ((k : ℕ) → bits w ≤ 2 ^ k → 0 < k → AllWithin n (d + 3 * k) answer) → AllWithin n (d + s) answer
product-deep n W1 answer d s is h = absurd (cc)
product-deep n W8 answer d s is h = let e = some_same 9 s is in AllWithin-le n (d + 3 * 3) (d + s) answer (omega arith) (h 3 (omega arith) (omega arith))
product-deep n W16 answer d s is h = let e = some_same 12 s is in AllWithin-le n (d + 3 * 4) (d + s) answer (omega arith) (h 4 (omega arith) (omega arith))
product-deep n W32 answer d s is h = let e = some_same 15 s is in AllWithin-le n (d + 3 * 5) (d + s) answer (omega arith) (h 5 (omega arith) (omega arith))
product-deep n W64 answer d s is h = let e = some_same 18 s is in AllWithin-le n (d + 3 * 6) (d + s) answer (omega arith) (h 6 (omega arith) (omega arith))

-- ---- sums

-- the depth of a sum
pub sum-deep : (form : Form) (c : Call) (rows : List (List Lit)) (old new : Circuit) (res : Result (Vec Lit Global) GateFault) (a b : List Lit) → a ≡ row_at rows 0 → b ≡ row_at rows 1 → length a ≡ bits c.width → (call_stated c).depth ≡ Some (1 + log_bits c.width) →
    IfOk res (λ r. form ≡ Shallow → (d k : ℕ) → length a ≤ 2 ^ k → AllWithin old d a → AllWithin old d b → AllWithin new (d + 1 + k) r.items) → IfOk res (λ r. IsDeep form c rows old new r.items)
sum-deep form c rows old new res a b ea eb len is h = if_ok res _ _ h (λ r within. deep form c rows old new (1 + log_bits c.width) r.items is (λ d shallow low.
    AllWithin-le new (d + 1 + log_bits c.width) (d + (1 + log_bits c.width)) r.items (omega arith)
    (within shallow d (log_bits c.width) (omega (arith, len, covers c.width)) (subst (AllWithin old d) (sym ea) (low 0)) (subst (AllWithin old d) (sym eb) (low 1)))))

-- its gates, where the words have n places
pub sum-grows : (form : Form) (c : Call) (old new : Circuit) (n : ℕ) → n ≡ bits c.width → call_size c ≡ sum_size c.width → (call_stated c).ands ≡ Some (bits c.width - 1) →
    (form ≡ Compact → Grows old new (5 * n) (n - 1)) → (n ≤ 2 ^ log_bits c.width → Grows old new (adder_size n (log_bits c.width)) (adder_size n (log_bits c.width))) → Grows old new (call_size c) (call_ands form c)
sum-grows form c old new n len size ands few all =
    call-grows form c old new (sum_size c.width) (Some (bits c.width - 1)) size ands
    (λ compact m e. let same = some_same (bits c.width - 1) m e in Grows-weaken (few compact) (omega (arith, len)) (omega (arith, len, same)))
    (subst (λ (k : ℕ). Grows old new (adder_size k (log_bits c.width)) (adder_size k (log_bits c.width))) len (all (omega (arith, len, covers c.width))))

pub sum-stops : {T : Type 0} (c : Call) (old new : Circuit) (res : Result T GateFault) (n : ℕ) → n ≡ bits c.width → call_size c ≡ sum_size c.width →
    IfErr res (λ e. (k : ℕ) → n ≤ 2 ^ k → StopsWithin old new (adder_size n k) e) → IfErr res (StopsWithin old new (call_size c))
sum-stops c old new res n len size h = if_err res _ _ h (λ e s.
    subst (λ (g : ℕ). StopsWithin old new g e) (sym size) (subst (λ (k : ℕ). StopsWithin old new (adder_size k (log_bits c.width)) e) len (s (log_bits c.width) (omega (arith, len, covers c.width)))))

-- ---- products

pub product-depth : (form : Form) (c : Call) (rows : List (List Lit)) (old new : Circuit) (res : Result (Vec Lit Global) GateFault) (a b : List Lit) → a ≡ row_at rows 0 → b ≡ row_at rows 1 → length a ≡ bits c.width → (call_stated c).depth ≡ product_depth c.width →
    IfOk res (λ r. form ≡ Shallow → (d k : ℕ) → length a ≤ 2 ^ k → 0 < k → AllWithin old d a → AllWithin old d b → AllWithin new (d + 3 * k) r.items) → IfOk res (λ r. IsDeep form c rows old new r.items)
product-depth form c rows old new res a b ea eb len is h = if_ok res _ _ h (λ r within shallow s d at low.
    product-deep new c.width r.items d s (sym is ∙ at) (λ k few some.
    within shallow d k (omega (arith, len)) some (subst (AllWithin old d) (sym ea) (low 0)) (subst (AllWithin old d) (sym eb) (low 1))))

pub product-grows : (form : Form) (c : Call) (old new : Circuit) (n : ℕ) → n ≡ bits c.width → call_size c ≡ product_size (bits c.width) (log_bits c.width) → (call_stated c).ands ≡ Some (bits c.width * bits c.width - bits c.width + 1) →
    (form ≡ Compact → Grows old new (3 * (n * n)) (n * n - n + 1)) → (n ≤ 2 ^ log_bits c.width → Grows old new (product_size n (log_bits c.width)) (product_size n (log_bits c.width))) → Grows old new (call_size c) (call_ands form c)
product-grows form c old new n len size ands few all =
    call-grows form c old new (product_size (bits c.width) (log_bits c.width)) (Some (bits c.width * bits c.width - bits c.width + 1)) size ands
    (λ compact m e.
    let same = some_same (bits c.width * bits c.width - bits c.width + 1) m e in
    subst (λ (k : ℕ). Grows old new (product_size (bits c.width) (log_bits c.width)) k) same
    (subst (λ (k : ℕ). Grows old new (product_size k (log_bits c.width)) (k * k - k + 1)) len (Grows-weaken (few compact) (omega arith) (omega arith))))
    (subst (λ (k : ℕ). Grows old new (product_size k (log_bits c.width)) (product_size k (log_bits c.width))) len (all (omega (arith, len, covers c.width))))

pub product-stops : {T : Type 0} (c : Call) (old new : Circuit) (res : Result T GateFault) (n : ℕ) → n ≡ bits c.width → call_size c ≡ product_size (bits c.width) (log_bits c.width) →
    IfErr res (λ e. (k : ℕ) → n ≤ 2 ^ k → StopsWithin old new (product_size n k) e) → IfErr res (StopsWithin old new (call_size c))
product-stops c old new res n len size h = if_err res _ _ h (λ e s.
    subst (λ (g : ℕ). StopsWithin old new g e) (sym size) (subst (λ (k : ℕ). StopsWithin old new (product_size k (log_bits c.width)) e) len (s (log_bits c.width) (omega (arith, len, covers c.width)))))

-- ---- quotients and remainders

pub quotient-value : (op : Op) (w from : Width) (signed : Bool) (x y z : ℕ) → signed ≡ is_signed op → IsQuotient op → quotient_of signed (bits w) x y ≡ op_value op w from x y z
quotient-value DivU w from signed x y z e h = ap (λ (s : Bool). quotient_of s (bits w) x y) e
quotient-value DivS w from signed x y z e h = ap (λ (s : Bool). quotient_of s (bits w) x y) e
quotient-value _ w from signed x y z e h = absurd h

pub remainder-value : (op : Op) (w from : Width) (signed : Bool) (x y z : ℕ) → signed ≡ is_signed op → IsRemainder op → remainder_of signed (bits w) x y ≡ op_value op w from x y z
remainder-value RemU w from signed x y z e h = ap (λ (s : Bool). remainder_of s (bits w) x y) e
remainder-value RemS w from signed x y z e h = ap (λ (s : Bool). remainder_of s (bits w) x y) e
remainder-value _ w from signed x y z e h = absurd h

-- a division of words of the result's width, with its numbers
pub record IsDivision (op : Op) : Type 0 where
  pub two : 1 < arity op
  pub fits : (w x y z : Width) → WidthsFit op w x y z → (x ≡ w) × (y ≡ w)
  pub stated_is : (w x : Width) → stated op w x ≡ of_quotient w
  pub size_is : (w x y : Width) → operation_size op w x y ≡ quotient_size w

pub quotient-is : (op : Op) → IsQuotient op → IsDivision op
quotient-is DivU h = record { two = omega arith; fits = λ w x y z f. f; stated_is = λ w x. refl; size_is = λ w x y. refl }
quotient-is DivS h = record { two = omega arith; fits = λ w x y z f. f; stated_is = λ w x. refl; size_is = λ w x y. refl }
quotient-is _ h = absurd h

pub remainder-is : (op : Op) → IsRemainder op → IsDivision op
remainder-is RemU h = record { two = omega arith; fits = λ w x y z f. f; stated_is = λ w x. refl; size_is = λ w x y. refl }
remainder-is RemS h = record { two = omega arith; fits = λ w x y z f. f; stated_is = λ w x. refl; size_is = λ w x y. refl }
remainder-is _ h = absurd h

module _ (c : Call) (rows : List (List Lit)) (words : AreOperands c rows) (d : IsDivision c.op) where
  pub division-words : (length (row_at rows 0) ≡ bits c.width) × (length (row_at rows 1) ≡ bits c.width)
  division-words = two-words c rows c.op refl words d.two d.fits

  pub division-deep : (form : Form) (old new : Circuit) (answer : List Lit) → IsDeep form c rows old new answer
  division-deep form old new answer = deep-none form c rows old new answer (ap (λ (s : Stated). s.depth) (d.stated_is c.width c.first))

  -- its gates, where the words have n places
  pub division-grows : (form : Form) (old new : Circuit) (n : ℕ) → n ≡ length (row_at rows 0) → (n ≤ 2 ^ log_bits c.width → Grows old new (divider_size n (log_bits c.width)) (2 * (n * n) + 8 * n)) → Grows old new (call_size c) (call_ands form c)
  division-grows form old new n len all =
      let same : n ≡ bits c.width = len ∙ division-words.0 in
      let grows : Grows old new (divider_size (bits c.width) (log_bits c.width)) (2 * (bits c.width * bits c.width) + 8 * bits c.width) =
      subst (λ (k : ℕ). Grows old new (divider_size k (log_bits c.width)) (2 * (k * k) + 8 * k)) same (all (omega (arith, same, covers c.width))) in
      call-grows form c old new (quotient_size c.width) (Some (2 * (bits c.width * bits c.width) + 8 * bits c.width)) (d.size_is c.width c.first c.second) (ap (λ (s : Stated). s.ands) (d.stated_is c.width c.first))
      (λ compact m e. subst (λ (k : ℕ). Grows old new (quotient_size c.width) k) (some_same (2 * (bits c.width * bits c.width) + 8 * bits c.width) m e) grows)
      (Grows-gates grows)

  pub division-stops : (old new : Circuit) (n : ℕ) (e : GateFault) → n ≡ length (row_at rows 0) → ((k : ℕ) → n ≤ 2 ^ k → StopsWithin old new (divider_size n k) e) → StopsWithin old new (call_size c) e
  division-stops old new n e len s =
      let same : n ≡ bits c.width = len ∙ division-words.0 in
      subst (λ (g : ℕ). StopsWithin old new g e) (sym (d.size_is c.width c.first c.second)) (subst (λ (k : ℕ). StopsWithin old new (divider_size k (log_bits c.width)) e) same (s (log_bits c.width) (omega (arith, same, covers c.width))))
