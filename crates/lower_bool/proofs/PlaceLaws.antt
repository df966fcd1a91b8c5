-- Laws of operations on each place, selections and words that are cut or extended.
use Rattle.std.proofs.Common.{◌≡◌, ℕ, zero, suc, ◌+◌, ◌-◌, ◌*◌, ◌^◌, ◌<◌, ◌≤◌, Bool, true, false, not, ◌&&◌, ◌||◌, cond, eqb, List, [], ◌∷◌, ◌++◌, Some, replicate, get_or, take, length, map, refl, sym, ap, ◌∙◌, subst, arith, length-append}
use Rattle.std.specs.Prelude.{Result, Ok, Err, IfOk, Vec}
use Rattle.std.specs.declared.alloc.Global.{Global}
use Rattle.std.specs.List.{All}
use Rattle.std.proofs.Math.Nat.{mul-le-mul_left, pow-le-pow_right}
use Rattle.std.proofs.lemmas.List.{get_or_push, length-map, length-take-le, length_push, map-append, map_push}
use Rattle.hy_bits.specs.declared.op.Op.{Op}
use Rattle.hy_bits.specs.declared.op.Op.TheVariants.{And, Or, Xor, Not, Sel, Trunc, ZeroExt, SignExt}
use Rattle.hy_bits.specs.declared.width.Width.{Width}
use Rattle.hy_bits.specs.Bits.{bitwise, number}
use Rattle.hy_bits.specs.Op.{op_value}
use Rattle.hy_bits.specs.Sizes.{stated}
use Rattle.hy_bits.specs.Words.{bits, word_extend, word_not}
use Rattle.hy_bits.proofs.BitLaws.{number-and, number-lt_of, number-not, number-or, number-sign_extended, number-take, number-xor, number-zero_extended}
use Rattle.hy_bits.proofs.WordLaws.{word_extend-unsigned}
use Rattle.word_graph.specs.Term.{WidthsFit, arity}
use Rattle.gate_net.specs.declared.literal.Lit.{Lit}
use Rattle.gate_net.specs.declared.netlist.Form.{Form}
use Rattle.gate_net.specs.declared.netlist.GateFault.{GateFault}
use Rattle.gate_net.specs.Circuit.{Circuit, Stands}
use Rattle.gate_net.specs.Literal.{complement_of}
use Rattle.gate_net.specs.Meaning.{level, value}
use Rattle.gate_net.specs.Spelled.{AllStand, AllWithin, spelled, values}
use Rattle.gate_net.proofs.ListLaws.{AllStand-complements, AllStand-replicate, AllWithin-complements, AllWithin-replicate, Stands-constant, values-complements}
use Rattle.gate_net.proofs.MeaningLaws.{level-constant, value-false}
use Rattle.lower_bool.specs.declared.call.Call.{Call}
use Rattle.lower_bool.specs.Operations.{AnswersByWires, AreOperands, IsAnswer, IsByPlaces, call_stated, place_ands, place_of, row_at}
use Rattle.lower_bool.proofs.OperationLaws.{AllWithin-le, deep, first-row, operands-fit}

-- ---- place by place

-- the number of the bits that the operation gives, place by place
pub number-places : (op : Op) (w from : Width) (z : ℕ) (xs ys : List Bool) → IsByPlaces op → length xs ≡ length ys → number (bitwise (place_of op) xs ys) ≡ op_value op w from (number xs) (number ys) z
number-places And w from z xs ys h same = number-and xs ys same
number-places Or w from z xs ys h same = number-or xs ys same
number-places Xor w from z xs ys h same = number-xor xs ys same
number-places _ w from z xs ys h same = absurd h

pub places-third : (op : Op) (w from : Width) (x y z u : ℕ) → IsByPlaces op → op_value op w from x y z ≡ op_value op w from x y u
places-third And w from x y z u h = refl
places-third Or w from x y z u h = refl
places-third Xor w from x y z u h = refl
places-third _ w from x y z u h = absurd h

pub places-two : (op : Op) → IsByPlaces op → 1 < arity op
places-two And h = omega arith
places-two Or h = omega arith
places-two Xor h = omega arith
places-two _ h = absurd h

pub places-fit : (op : Op) → IsByPlaces op → (w x y z : Width) → WidthsFit op w x y z → (x ≡ w) × (y ≡ w)
places-fit And h w x y z f = f
places-fit Or h w x y z f = f
places-fit Xor h w x y z f = f
places-fit _ h w x y z f = absurd h

pub places-depth : (op : Op) (w x : Width) → IsByPlaces op → (stated op w x).depth ≡ Some (place_ands op)
places-depth And w x h = refl
places-depth Or w x h = refl
places-depth Xor w x h = refl
places-depth _ w x h = absurd h

pub times_le : (m i n : ℕ) → i ≤ n → m * i ≤ m * n
times_le m i n h = mul-le-mul_left m h

-- an Or by an And
pub or_by_and : (x y : Bool) → not (not x && not y) ≡ (x || y)
or_by_and true true = refl
or_by_and true false = refl
or_by_and false true = refl
or_by_and false false = refl

-- ---- selections

-- a row of one literal
pub single : (ls : List Lit) (d : Lit) → length ls ≡ 1 → ls ≡ get_or ls 0 d ∷ []
single [] d h = absurd (omega arith)
single (l ∷ []) d h = refl
single (l ∷ m ∷ ls) d h = absurd (omega arith)

number-chosen : (c : Bool) (xs ys : List Bool) → number (cond c xs ys) ≡ cond (eqb (number (c ∷ [])) 1) (number xs) (number ys)
number-chosen true xs ys = refl
number-chosen false xs ys = refl

pub selection-answer : (form : Form) (c : Call) (rows : List (List Lit)) (old new : Circuit) (res : Result (Vec Lit Global) GateFault) (l : Lit) (a b : List Lit) → c.op ≡ Sel → row_at rows 0 ≡ l ∷ [] → a ≡ row_at rows 1 → b ≡ row_at rows 2 → length a ≡ bits c.width →
    IfOk res (λ r. AllStand new r.items) → IfOk res (λ r. length r.items ≡ length a) → IfOk res (λ r. (xs : List Bool) → values new xs r.items ≡ cond (value old xs l) (values old xs a) (values old xs b)) →
    IfOk res (λ r. (d : ℕ) → level old l ≤ d → AllWithin old d a → AllWithin old d b → AllWithin new (d + 1) r.items) → IfOk res (λ r. IsAnswer form c old new rows r.items)
selection-answer form c rows old new (Ok r) l a b is el ea eb len s n v d = record {
  stand = s;
  count = n ∙ len;
  spells = λ xs.
      ap number (v xs)
      ∙ number-chosen (value old xs l) (values old xs a) (values old xs b)
      ∙ ap (λ (ls : List Lit). cond (eqb (spelled old xs ls) 1) (spelled old xs a) (spelled old xs b)) (sym el)
      ∙ ap (λ (ls : List Lit). cond (eqb (spelled old xs (row_at rows 0)) 1) (spelled old xs ls) (spelled old xs b)) ea
      ∙ ap (λ (ls : List Lit). cond (eqb (spelled old xs (row_at rows 0)) 1) (spelled old xs (row_at rows 1)) (spelled old xs ls)) eb
      ∙ sym (ap (λ (o : Op). op_value o c.width c.first (spelled old xs (row_at rows 0)) (spelled old xs (row_at rows 1)) (spelled old xs (row_at rows 2))) is);
  depth = deep form c rows old new 1 r.items (ap (λ (o : Op). (stated o c.width c.first).depth) is) (λ b2 shallow low.
      d b2 (subst (AllWithin old b2) el (low 0) 0 l (omega arith)) (subst (AllWithin old b2) (sym ea) (low 1)) (subst (AllWithin old b2) (sym eb) (low 2)));
}
selection-answer form c rows old new (Err e) l a b is el ea eb len s n v d = tt

-- ---- wires

-- an answer that stands already, with no And gate on the way
by-wires : (c : Call) (rows : List (List Lit)) (answer : List Lit) → (call_stated c).depth ≡ Some 0 → length answer ≡ bits c.width → ((n : Circuit) → AllStand n (row_at rows 0) → AllStand n answer) →
    ((n : Circuit) (xs : List Bool) → spelled n xs answer ≡ op_value c.op c.width c.first (spelled n xs (row_at rows 0)) (spelled n xs (row_at rows 1)) (spelled n xs (row_at rows 2))) →
    ((n : Circuit) (d : ℕ) → AllWithin n d (row_at rows 0) → AllWithin n d answer) → AnswersByWires c rows answer
by-wires c rows answer is count stand spells low form n rows_stand = record {
  stand = stand n (rows_stand 0);
  count = count;
  spells = spells n;
  depth = deep form c rows n n 0 answer is (λ d shallow within. AllWithin-le n d (d + 0) answer (omega arith) (low n d (within 0)));
}

All-take : (P : Lit → Type 0) (k : ℕ) (ls : List Lit) → All P ls → All P (take k ls)
All-take P zero ls h i d w = absurd (omega arith)
All-take P (suc k) [] h i d w = absurd (omega arith)
All-take P (suc k) (l ∷ ls) h zero d w = h 0 d (omega arith)
All-take P (suc k) (l ∷ ls) h (suc i) d w = All-take P k ls (λ j e v. h (suc j) e (omega arith)) i d (omega arith)

All-append : (P : Lit → Type 0) (xs ys : List Lit) → All P xs → All P ys → All P (xs ++ ys)
All-append P [] ys h i k d w = i k d w
All-append P (x ∷ xs) ys h i zero d w = h 0 d (omega arith)
All-append P (x ∷ xs) ys h i (suc k) d w = All-append P xs ys (λ j e v. h (suc j) e (omega arith)) i k d (omega arith)

values-take : (n : Circuit) (xs : List Bool) (k : ℕ) (ls : List Lit) → values n xs (take k ls) ≡ take k (values n xs ls)
values-take n xs zero ls = refl
values-take n xs (suc k) [] = refl
values-take n xs (suc k) (l ∷ ls) = ap (λ (bs : List Bool). value n xs l ∷ bs) (values-take n xs k ls)

values-copies : (n : Circuit) (xs : List Bool) (k : ℕ) (l : Lit) → values n xs (replicate k l) ≡ replicate k (value n xs l)
values-copies n xs zero l = refl
values-copies n xs (suc k) l = ap (λ (bs : List Bool). value n xs l ∷ bs) (values-copies n xs k l)

length-copies : {X : Type 0} (k : ℕ) (x : X) → length (replicate k x) ≡ k
length-copies zero x = refl
length-copies (suc k) x = ap suc (length-copies k x)

module _ (c : Call) (rows : List (List Lit)) (words : AreOperands c rows) (answer : List Lit) where
  pub trunc-answer : c.op ≡ Trunc → answer ≡ take (bits c.width) (row_at rows 0) → AnswersByWires c rows answer
  trunc-answer is made =
      let fits : bits c.width < bits c.first = operands-fit c rows Trunc is words in
      let long : length (row_at rows 0) ≡ bits c.first = first-row c rows Trunc is words (omega arith) in
      by-wires c rows answer (ap (λ (o : Op). (stated o c.width c.first).depth) is)
      (ap length made ∙ length-take-le (bits c.width) (row_at rows 0) (omega arith))
      (λ n h. subst (AllStand n) (sym made) (All-take (Stands n) (bits c.width) (row_at rows 0) h))
      (λ n xs.
      ap (spelled n xs) made
      ∙ ap number (values-take n xs (bits c.width) (row_at rows 0))
      ∙ number-take (bits c.width) (values n xs (row_at rows 0))
      ∙ sym (ap (λ (o : Op). op_value o c.width c.first (spelled n xs (row_at rows 0)) (spelled n xs (row_at rows 1)) (spelled n xs (row_at rows 2))) is))
      (λ n d h. subst (AllWithin n d) (sym made) (All-take (λ l. level n l ≤ d) (bits c.width) (row_at rows 0) h))

  pub not-answer : c.op ≡ Not → answer ≡ map complement_of (row_at rows 0) → AnswersByWires c rows answer
  not-answer is made =
      let fits : c.first ≡ c.width = operands-fit c rows Not is words in
      let long : length (row_at rows 0) ≡ bits c.width = first-row c rows Not is words (omega arith) ∙ ap bits fits in
      by-wires c rows answer (ap (λ (o : Op). (stated o c.width c.first).depth) is)
      (ap length made ∙ length-map (row_at rows 0) complement_of ∙ long)
      (λ n h. subst (AllStand n) (sym made) (AllStand-complements n (row_at rows 0) h))
      (λ n xs.
      ap (spelled n xs) made
      ∙ ap number (values-complements n xs (row_at rows 0))
      ∙ number-complement (2 ^ bits c.width) (values n xs (row_at rows 0)) (ap (λ (k : ℕ). 2 ^ k) (sym (length-map (row_at rows 0) (value n xs) ∙ long)))
      ∙ sym (ap (λ (o : Op). op_value o c.width c.first (spelled n xs (row_at rows 0)) (spelled n xs (row_at rows 1)) (spelled n xs (row_at rows 2))) is))
      (λ n d h. subst (AllWithin n d) (sym made) (AllWithin-complements n d (row_at rows 0) h))
    where
      number-complement : (m : ℕ) (xs : List Bool) → m ≡ 2 ^ length xs → number (map not xs) ≡ word_not m (number xs)
      number-complement m xs e = omega (arith, e, number-not xs)

  module _ (wider : bits c.first < bits c.width) (long : length (row_at rows 0) ≡ bits c.first) (fill : Lit) (made : answer ≡ row_at rows 0 ++ replicate (bits c.width - length (row_at rows 0)) fill) where
    extended-count : length answer ≡ bits c.width
    extended-count =
        ap length made
        ∙ length-append (row_at rows 0) (replicate (bits c.width - length (row_at rows 0)) fill)
        ∙ ap (λ (k : ℕ). length (row_at rows 0) + k) (length-copies (bits c.width - length (row_at rows 0)) fill)
        ∙ (let e : length (row_at rows 0) + (bits c.width - length (row_at rows 0)) ≡ bits c.width = omega arith in e)

    extended-values : (n : Circuit) (xs : List Bool) → values n xs answer ≡ values n xs (row_at rows 0) ++ replicate (bits c.width - length (row_at rows 0)) (value n xs fill)
    extended-values n xs =
        ap (values n xs) made
        ∙ map-append (value n xs) (row_at rows 0) (replicate (bits c.width - length (row_at rows 0)) fill)
        ∙ ap (λ (bs : List Bool). values n xs (row_at rows 0) ++ bs) (values-copies n xs (bits c.width - length (row_at rows 0)) fill)

    extended-answer : (call_stated c).depth ≡ Some 0 → ((n : Circuit) → AllStand n (row_at rows 0) → Stands n fill) → ((n : Circuit) (d : ℕ) → AllWithin n d (row_at rows 0) → level n fill ≤ d) →
        ((n : Circuit) (xs : List Bool) → number (values n xs (row_at rows 0) ++ replicate (bits c.width - length (row_at rows 0)) (value n xs fill)) ≡ op_value c.op c.width c.first (spelled n xs (row_at rows 0)) (spelled n xs (row_at rows 1)) (spelled n xs (row_at rows 2))) → AnswersByWires c rows answer
    extended-answer is stand low spells =
        by-wires c rows answer is extended-count
        (λ n h. subst (AllStand n) (sym made) (All-append (Stands n) (row_at rows 0) _ h (AllStand-replicate n (bits c.width - length (row_at rows 0)) fill (stand n h))))
        (λ n xs. ap number (extended-values n xs) ∙ spells n xs)
        (λ n d h. subst (AllWithin n d) (sym made) (All-append (λ l. level n l ≤ d) (row_at rows 0) _ h (AllWithin-replicate n d (bits c.width - length (row_at rows 0)) fill (low n d h))))

  pub zero-answer : c.op ≡ ZeroExt → (fill : Lit) → fill.code ≡ 0 → answer ≡ row_at rows 0 ++ replicate (bits c.width - length (row_at rows 0)) fill → AnswersByWires c rows answer
  zero-answer is fill none made =
      let wider : bits c.first < bits c.width = operands-fit c rows ZeroExt is words in
      let long : length (row_at rows 0) ≡ bits c.first = first-row c rows ZeroExt is words (omega arith) in
      extended-answer wider long fill made (ap (λ (o : Op). (stated o c.width c.first).depth) is)
      (λ n h. Stands-constant n fill (omega arith))
      (λ n d h. omega (arith, level-constant n fill (omega arith)))
      (λ n xs.
      let below : spelled n xs (row_at rows 0) < 2 ^ bits c.first = number-lt_of (bits c.first) (values n xs (row_at rows 0)) (sym (length-map (row_at rows 0) (value n xs) ∙ long)) in
      ap (λ (b : Bool). number (values n xs (row_at rows 0) ++ replicate (bits c.width - length (row_at rows 0)) b)) (value-false n xs fill none)
      ∙ number-zero_extended (bits c.width - length (row_at rows 0)) (values n xs (row_at rows 0))
      ∙ sym (word_extend-unsigned (2 ^ bits c.first) (2 ^ bits c.width) (spelled n xs (row_at rows 0)) below (pow-le-pow_right {n = 2} (omega arith) {i = bits c.first} {j = bits c.width} (omega arith)))
      ∙ sym (ap (λ (o : Op). op_value o c.width c.first (spelled n xs (row_at rows 0)) (spelled n xs (row_at rows 1)) (spelled n xs (row_at rows 2))) is))

  pub sign-answer : c.op ≡ SignExt → (low : List Lit) (fill : Lit) → row_at rows 0 ≡ low ++ fill ∷ [] → answer ≡ row_at rows 0 ++ replicate (bits c.width - length (row_at rows 0)) fill → AnswersByWires c rows answer
  sign-answer is low fill top made =
      let wider : bits c.first < bits c.width = operands-fit c rows SignExt is words in
      let long : length (row_at rows 0) ≡ bits c.first = first-row c rows SignExt is words (omega arith) in
      let whole : suc (length low) ≡ length (row_at rows 0) = omega (arith, ap length top, length_push low fill) in
      extended-answer wider long fill made (ap (λ (o : Op). (stated o c.width c.first).depth) is)
      (λ n h. subst (Stands n) (get_or_push low fill fill (length low) refl) (subst (AllStand n) top h (length low) fill (omega (arith, length_push low fill))))
      (λ n d h. subst (λ (l : Lit). level n l ≤ d) (get_or_push low fill fill (length low) refl) (subst (AllWithin n d) top h (length low) fill (omega (arith, length_push low fill))))
      (λ n xs.
      let k : ℕ = bits c.width - length (row_at rows 0) in
      let size : length (values n xs low) ≡ length low = length-map low (value n xs) in
      let parts : values n xs (row_at rows 0) ≡ values n xs low ++ value n xs fill ∷ [] = ap (values n xs) top ∙ map_push (value n xs) low fill in
      ap (λ (bs : List Bool). number (bs ++ replicate (bits c.width - length (row_at rows 0)) (value n xs fill))) parts
      ∙ number-sign_extended (bits c.width - length (row_at rows 0)) (values n xs low) (value n xs fill)
      ∙ ap (λ (j : ℕ). word_extend (2 ^ j) (2 ^ (j + (bits c.width - length (row_at rows 0)))) true (number (values n xs low ++ value n xs fill ∷ []))) (let e : suc (length (values n xs low)) ≡ bits c.first = omega (arith, size, whole, long) in e)
      ∙ ap (λ (j : ℕ). word_extend (2 ^ bits c.first) (2 ^ j) true (number (values n xs low ++ value n xs fill ∷ []))) (let e : bits c.first + (bits c.width - length (row_at rows 0)) ≡ bits c.width = omega (arith, long) in e)
      ∙ ap (λ (bs : List Bool). word_extend (2 ^ bits c.first) (2 ^ bits c.width) true (number bs)) (sym parts)
      ∙ sym (ap (λ (o : Op). op_value o c.width c.first (spelled n xs (row_at rows 0)) (spelled n xs (row_at rows 1)) (spelled n xs (row_at rows 2))) is))
