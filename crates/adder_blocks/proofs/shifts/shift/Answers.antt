use Rattle.std.proofs.Common.{◌≡◌, ◌≢◌, ℕ, ◌-◌, ◌<◌, Bool, true, false, List, [], length, get_or, refl, sym, ap, ◌∙◌, arith}
use Rattle.std.proofs.lemmas.List.{length-map}
use Rattle.hy_bits.specs.declared.op.Op.{Op}
use Rattle.hy_bits.specs.declared.op.Op.TheVariants.{In, Const, Add, Sub, Mul, Neg, DivU, DivS, RemU, RemS, And, Or, Xor, Not, Shl, ShrU, ShrS, LtU, LtS, Eq, Sel, Trunc, ZeroExt, SignExt}
use Rattle.hy_bits.specs.Bits.{number}
use Rattle.hy_bits.specs.Words.{word_shl, word_shr_u, word_shr_s}
use Rattle.gate_net.specs.declared.literal.Lit.{Lit}
use Rattle.gate_net.specs.Circuit.{Circuit}
use Rattle.gate_net.specs.Meaning.{value}
use Rattle.gate_net.proofs.MeaningLaws.{value-false}
use Rattle.gate_net.specs.Spelled.{values, spelled}
use Rattle.adder_blocks.specs.Shifts.{moved_by, shifted_by}
use Rattle.gate_net.proofs.ListLaws.{get_or-values, length-from_values}
use Rattle.adder_blocks.proofs.ShiftLaws.{moved_by-length, number-moved_up, number-moved_down, number-moved_signed}
use Rattle.adder_blocks.proofs.shifts.shift.Goals as goal

-- every other operation moves down with zeros
down_else : (op : Op) (n a k : ℕ) → op ≢ Shl → op ≢ ShrS → shifted_by op n a k ≡ word_shr_u n a k
down_else In n a k p q = refl
down_else Const n a k p q = refl
down_else Add n a k p q = refl
down_else Sub n a k p q = refl
down_else Mul n a k p q = refl
down_else Neg n a k p q = refl
down_else DivU n a k p q = refl
down_else DivS n a k p q = refl
down_else RemU n a k p q = refl
down_else RemS n a k p q = refl
down_else And n a k p q = refl
down_else Or n a k p q = refl
down_else Xor n a k p q = refl
down_else Not n a k p q = refl
down_else Shl n a k p q = absurd (p refl)
down_else ShrU n a k p q = refl
down_else ShrS n a k p q = absurd (q refl)
down_else LtU n a k p q = refl
down_else LtS n a k p q = refl
down_else Eq n a k p q = refl
down_else Sel n a k p q = refl
down_else Trunc n a k p q = refl
down_else ZeroExt n a k p q = refl
down_else SignExt n a k p q = refl

-- moved literals of a word are as many as the word's
as_many : (n m : Circuit) (up : Bool) (a out : List Lit) (fill : Bool) (k : ℕ) → values m [] out ≡ moved_by up fill k (values n [] a) → length out ≡ length a
as_many n m up a out fill k known = length-from_values m out _ known ∙ moved_by-length up fill k (values n [] a) ∙ length-map a (value n [])

moved_up : (n m : Circuit) (bits : List Bool) (a out : List Lit) (l : Lit) (k : ℕ) → l.code ≡ 0 → values m bits out ≡ moved_by true (value n bits l) k (values n bits a) → spelled m bits out ≡ word_shl (length a) (spelled n bits a) k
moved_up n m bits a out l k zero known =
    ap number (known ∙ ap (λ (f : Bool). moved_by true f k (values n bits a)) (value-false n bits l zero))
    ∙ number-moved_up k (values n bits a)
    ∙ ap (λ (j : ℕ). word_shl j (spelled n bits a) k) (length-map a (value n bits))

moved_down : (n m : Circuit) (bits : List Bool) (a out : List Lit) (l : Lit) (k : ℕ) → l.code ≡ 0 → values m bits out ≡ moved_by false (value n bits l) k (values n bits a) → spelled m bits out ≡ word_shr_u (length a) (spelled n bits a) k
moved_down n m bits a out l k zero known =
    ap number (known ∙ ap (λ (f : Bool). moved_by false f k (values n bits a)) (value-false n bits l zero))
    ∙ number-moved_down k (values n bits a)
    ∙ ap (λ (j : ℕ). word_shr_u j (spelled n bits a) k) (length-map a (value n bits))

moved_signed : (n m : Circuit) (bits : List Bool) (a out : List Lit) (k : ℕ) → 0 < length a → values m bits out ≡ moved_by false (value n bits (get_or a (length a - 1) (record { code = 0 }))) k (values n bits a) → spelled m bits out ≡ word_shr_s (length a) (spelled n bits a) k
moved_signed n m bits a out k some known =
    let long : length (values n bits a) ≡ length a = length-map a (value n bits) in
    ap number (known
    ∙ ap (λ (f : Bool). moved_by false f k (values n bits a)) (sym (get_or-values n bits a (length a - 1) (record { code = 0 }) false (omega arith))
    ∙ ap (λ (j : ℕ). get_or (values n bits a) (j - 1) false) (sym long)))
    ∙ number-moved_signed k (values n bits a) (omega (arith, long))
    ∙ ap (λ (j : ℕ). word_shr_s j (spelled n bits a) k) long

pub returns-in_ok-out-in-Shl-clause-same : goal.returns-in_ok-out-in-Shl-clause-same
returns-in_ok-out-in-Shl-clause-same c = as_many c.args.net.now c.shifted.new.net true c.args.a.now c.in_ok-out-in-Shl.out.items _ _ (c.in_ok-out-in-Shl.ensures.value [])

pub returns-in_ok-out-in-Shl-clause-value : goal.returns-in_ok-out-in-Shl-clause-value
returns-in_ok-out-in-Shl-clause-value c = λ bits. rw c.in-Shl.is (moved_up c.args.net.now c.shifted.new.net bits c.args.a.now c.in_ok-out-in-Shl.out.items (record { code = 0 }) (spelled c.args.net.now bits c.args.count.now) refl (c.in_ok-out-in-Shl.ensures.value bits))

pub returns-in_ok-out-in-ShrS-clause-same : goal.returns-in_ok-out-in-ShrS-clause-same
returns-in_ok-out-in-ShrS-clause-same c = as_many c.args.net.now c.shifted-in-ShrS.new.net false c.args.a.now c.in_ok-out-in-ShrS.out.items _ _ (c.in_ok-out-in-ShrS.ensures.value [])

pub returns-in_ok-out-in-ShrS-clause-value : goal.returns-in_ok-out-in-ShrS-clause-value
returns-in_ok-out-in-ShrS-clause-value c = λ bits. rw c.in-ShrS.is (moved_signed c.args.net.now c.shifted-in-ShrS.new.net bits c.args.a.now c.in_ok-out-in-ShrS.out.items (spelled c.args.net.now bits c.args.count.now) c.requires.some (c.in_ok-out-in-ShrS.ensures.value bits))

pub returns-in_ok-out-in_default : goal.returns-in_ok-out-in_default
returns-in_ok-out-in_default c =
    let e = c.in_ok-out-in_default.ensures in
    record {
      stands = e.stands;
      same = as_many c.args.net.now c.shifted-in_default.new.net false c.args.a.now c.in_ok-out-in_default.out.items _ _ (e.value []);
      value = λ bits.
          moved_down c.args.net.now c.shifted-in_default.new.net bits c.args.a.now c.in_ok-out-in_default.out.items (record { code = 0 }) (spelled c.args.net.now bits c.args.count.now) refl (e.value bits)
          ∙ sym (down_else c.args.op (length c.args.a.now) (spelled c.args.net.now bits c.args.a.now) (spelled c.args.net.now bits c.args.count.now) c.in_default.not-Shl c.in_default.not-ShrS);
      gates = e.gates;
      stops = e.stops;
    }
