-- Which Ands and Xors need no gate.
use Rattle.std.proofs.Common.{◌≡◌, ◌≢◌, inl, inr, ℕ, ◌/◌, ◌%◌, ◌<◌, Bool, true, false, not, ◌&&◌, List, get_or, refl, sym, ap, ◌∙◌, arith}
use Rattle.gate_net.specs.declared.literal.Lit.{Lit}
use Rattle.gate_net.specs.Literal.{wire_of}
use Rattle.gate_net.specs.Meaning.{xor, as_bits, as_levels, reading}
use Rattle.gate_net.specs.Answer.{FoldsAnd, FoldsXor}
use Rattle.gate_net.proofs.MeaningLaws.{reading-even, reading-odd, even_or_odd}

pub reading-false : (ws : List Bool) (l : Lit) → get_or ws 0 false ≡ false → l.code ≡ 0 → reading as_bits ws l ≡ false
reading-false ws l z e = reading-even as_bits ws l (omega arith) ∙ ap (λ (w : ℕ). get_or ws (w / 2) false) e ∙ z

pub reading-true : (ws : List Bool) (l : Lit) → get_or ws 0 false ≡ false → l.code ≡ 1 → reading as_bits ws l ≡ true
reading-true ws l z e = reading-odd as_bits ws l (omega arith) ∙ ap (λ (w : ℕ). not (get_or ws (w / 2) false)) e ∙ ap not z

pub reading-level : (ws : List ℕ) (l : Lit) → reading as_levels ws l ≡ get_or ws (wire_of l) 0
reading-level ws l = elim (even_or_odd l.code) [ inl e ↦ reading-even as_levels ws l e | inr e ↦ reading-odd as_levels ws l e ]

pub reading-level-constant : (ws : List ℕ) (l : Lit) → get_or ws 0 0 ≡ 0 → l.code < 2 → reading as_levels ws l ≡ 0
reading-level-constant ws l z h =
    let wire : wire_of l ≡ 0 = omega arith in
    reading-level ws l ∙ ap (λ (w : ℕ). get_or ws w 0) wire ∙ z

and-not : (b : Bool) → (b && not b) ≡ false
and-not true = refl
and-not false = refl

not-and : (b : Bool) → (not b && b) ≡ false
not-and true = refl
not-and false = refl

and-false : (b : Bool) → (b && false) ≡ false
and-false true = refl
and-false false = refl

and-true : (b : Bool) → (b && true) ≡ b
and-true true = refl
and-true false = refl

pub xor-false : (b : Bool) → xor b false ≡ b
xor-false true = refl
xor-false false = refl

pub false-xor : (b : Bool) → xor false b ≡ b
false-xor true = refl
false-xor false = refl

pub xor-self : (b : Bool) → xor b b ≡ false
xor-self true = refl
xor-self false = refl

-- a literal and its complement
opposite : (ws : List Bool) (a b : Lit) → wire_of a ≡ wire_of b → a.code ≢ b.code → (reading as_bits ws a && reading as_bits ws b) ≡ false
opposite ws a b w ne = elim (even_or_odd a.code) [
  | inl e ↦
      let odd : b.code % 2 ≡ 1 = omega arith in
      let p = reading-even as_bits ws a e ∙ ap (λ (k : ℕ). get_or ws k false) w in
      ap (λ (x : Bool). x && reading as_bits ws b) p ∙ ap (λ (y : Bool). get_or ws (wire_of b) false && y) (reading-odd as_bits ws b odd) ∙ and-not (get_or ws (wire_of b) false)
  | inr e ↦
      let even : b.code % 2 ≡ 0 = omega arith in
      let p = reading-odd as_bits ws a e ∙ ap (λ (k : ℕ). not (get_or ws k false)) w in
      ap (λ (x : Bool). x && reading as_bits ws b) p ∙ ap (λ (y : Bool). not (get_or ws (wire_of b) false) && y) (reading-even as_bits ws b even) ∙ not-and (get_or ws (wire_of b) false)
]

pub FoldsAnd-opposite : (a b r : Lit) → wire_of a ≡ wire_of b → a.code ≢ b.code → r.code ≡ 0 → FoldsAnd a b r
FoldsAnd-opposite a b r w ne e = record {
  not_apart = λ h. h.variables w;
  stands = omega arith;
  bits = λ ws z. reading-false ws r z e ∙ sym (opposite ws a b w ne);
  levels = λ ws z. omega (arith, reading-level-constant ws r z (omega arith));
}

pub FoldsAnd-left_false : (a b r : Lit) → a.code ≡ 0 → r.code ≡ 0 → FoldsAnd a b r
FoldsAnd-left_false a b r h e = record {
  not_apart = λ p. absurd (omega (arith, p.first));
  stands = omega arith;
  bits = λ ws z. reading-false ws r z e ∙ ap (λ (x : Bool). x && reading as_bits ws b) (sym (reading-false ws a z h));
  levels = λ ws z. omega (arith, reading-level-constant ws r z (omega arith));
}

pub FoldsAnd-right_false : (a b r : Lit) → b.code ≡ 0 → r.code ≡ 0 → FoldsAnd a b r
FoldsAnd-right_false a b r h e = record {
  not_apart = λ p. absurd (omega (arith, p.second));
  stands = omega arith;
  bits = λ ws z. reading-false ws r z e ∙ sym (ap (λ (x : Bool). reading as_bits ws a && x) (reading-false ws b z h) ∙ and-false (reading as_bits ws a));
  levels = λ ws z. omega (arith, reading-level-constant ws r z (omega arith));
}

pub FoldsAnd-left_true : (a b : Lit) → a.code ≡ 1 → FoldsAnd a b b
FoldsAnd-left_true a b h = record {
  not_apart = λ p. absurd (omega (arith, p.first));
  stands = omega arith;
  bits = λ ws z. ap (λ (x : Bool). x && reading as_bits ws b) (sym (reading-true ws a z h));
  levels = λ ws z. omega arith;
}

pub FoldsAnd-right_true : (a b : Lit) → b.code ≡ 1 → FoldsAnd a b a
FoldsAnd-right_true a b h = record {
  not_apart = λ p. absurd (omega (arith, p.second));
  stands = omega arith;
  bits = λ ws z. sym (ap (λ (x : Bool). reading as_bits ws a && x) (reading-true ws b z h) ∙ and-true (reading as_bits ws a));
  levels = λ ws z. omega arith;
}

pub FoldsXor-equal : (a b r : Lit) → a ≡ b → r.code ≡ 0 → FoldsXor a b r
FoldsXor-equal a b r same e = record {
  not_apart = λ p. p.variables (ap wire_of same);
  stands = omega arith;
  bits = λ ws z. reading-false ws r z e ∙ sym (ap (λ (l : Lit). xor (reading as_bits ws l) (reading as_bits ws b)) same ∙ xor-self (reading as_bits ws b));
  levels = λ ws z. omega (arith, reading-level-constant ws r z (omega arith));
}

pub FoldsXor-left_false : (a b : Lit) → a.code ≡ 0 → FoldsXor a b b
FoldsXor-left_false a b h = record {
  not_apart = λ p. absurd (omega (arith, p.first));
  stands = omega arith;
  bits = λ ws z. sym (ap (λ (x : Bool). xor x (reading as_bits ws b)) (reading-false ws a z h) ∙ false-xor (reading as_bits ws b));
  levels = λ ws z. omega arith;
}

pub FoldsXor-right_false : (a b : Lit) → b.code ≡ 0 → FoldsXor a b a
FoldsXor-right_false a b h = record {
  not_apart = λ p. absurd (omega (arith, p.second));
  stands = omega arith;
  bits = λ ws z. sym (ap (λ (x : Bool). xor (reading as_bits ws a) x) (reading-false ws b z h) ∙ xor-false (reading as_bits ws a));
  levels = λ ws z. omega arith;
}
