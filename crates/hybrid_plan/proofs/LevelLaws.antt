-- The levels of a bundle's list of instructions have gates of their own sharing.
use Rattle.std.proofs.Common.{◌≡◌, ◌==◌, ℕ, zero, suc, ◌+◌, ◌-◌, ◌≤◌, Bool, true, false, List, [], ◌∷◌, ◌++◌, Option, None, Some, drop, get_or, length, map, slice_get, take, if◌then◌else◌, refl, sym, ap, ◌∙◌, subst, arith}
use Rattle.std.specs.List.{fold}
use Rattle.std.proofs.Common.{◌*◌, max}
use Rattle.std.proofs.lemmas.List.{drop-map, drop_all, length-append, take-map}
use Rattle.hy_bits.specs.declared.op.Op.TheVariants.{Add, Sub, Mul, Neg, Trunc}
use Rattle.hy_bits.specs.Ports.{own_number, owners}
use Rattle.word_graph.specs.Term.{width_at}
use Rattle.module_split.specs.declared.module.EdgeWords.{EdgeWords}
use Rattle.module_split.specs.declared.module.Module.{Module}
use Rattle.gate_net.specs.declared.literal.Lit.{Lit}
use Rattle.gate_net.specs.Circuit.{Circuit}
use Rattle.ring_net.specs.Ring.{Ring, argument, is_variable}
use Rattle.choice_core.specs.declared.sharings.Choice.{Choice}
use Rattle.choice_core.specs.declared.sharings.Choice.TheVariants.{A, Y, C, S}
use Rattle.choice_core.specs.Choices.{sharing_of}
use Rattle.bundle_core.specs.declared.parts.Parts.{Parts}
use Rattle.bundle_core.specs.declared.parts.Variant.{Variant}
use Rattle.plan_script.specs.Script.{no_script}
use Rattle.plan_script.specs.Conversions.{a_to_b, a_to_y, b_to_a, b_to_y, carried, conversion, y_to_a, y_to_b}
use Rattle.plan_script.specs.Gates.{net_instr, net_instrs, ring_instr, ring_instrs, ring_kind, with_net_instr, with_ring_instr}
use Rattle.share_plan.specs.declared.held.Held.{Held}
use Rattle.share_plan.specs.Held.{Work, held_at, held_in, place_in}
use Rattle.share_plan.specs.Inputs.{input, input_A_kind, input_B_kind, input_Y, input_if, input_node, is_wanted, with_inputs, with_leaf, with_leaf_at}
use Rattle.share_plan.specs.Modules.{bit_codes, converted, converted_if, net_depths, net_script, ring_depths, with_gates, with_module, with_modules, with_net, with_out, with_ring, with_ring_if, with_word, word_codes, words_into}
use Rattle.share_plan.specs.Planned.{begun, open_kind, open_word, opened_in, script_of, with_opening, work_of}
use Rattle.plan_slots.specs.declared.operands.Form.TheVariants.{Nothing}
use Rattle.plan_slots.specs.Operands.{left_form, right_form}
use Rattle.plan_slots.specs.Renamed.{renamed}
use Rattle.hybrid_plan.specs.Levels.{LevelsMatch}
use Rattle.std.proofs.lemmas.List.{drop-append-le, length-drop, length_push, take-append-le, take_all}
use Rattle.std.proofs.lemmas.Option.{slice_get-map}
use Rattle.hy_bits.specs.declared.op.Op.{Op}
use Rattle.hy_bits.specs.declared.turns.Role.{Role}
use Rattle.hy_bits.specs.declared.turns.Role.TheVariants.{P0, P1}
use Rattle.hy_bits.specs.declared.width.Width.{Width}
use Rattle.hy_bits.specs.declared.width.Width.TheVariants.{W1}
use Rattle.hy_bits.specs.Words.{bits}
use Rattle.word_graph.specs.declared.entry.Entry.{Entry}
use Rattle.word_graph.specs.declared.entry.Node.{Node}
use Rattle.module_split.specs.Cut.{below}
use Rattle.gate_net.specs.declared.literal.Gate.{Gate}
use Rattle.gate_net.specs.declared.literal.Gate.TheVariants.{And, Xor}
use Rattle.ring_net.specs.declared.ring.RingGate.{RingGate}
use Rattle.choice_core.specs.declared.sharings.Sharing.{Sharing}
use Rattle.choice_core.specs.declared.sharings.Sharing.TheVariants.{Arithmetic, Boolean, Yao}
use Rattle.share_core.specs.declared.instr.Instr.{Instr}
use Rattle.share_core.specs.declared.instr.InstrKind.{InstrKind}
use Rattle.share_core.specs.declared.instr.InstrKind.TheVariants as K
use Rattle.share_core.specs.Levels.{AreGatesOf, IsGateOf, gates_of, is_level}
use Rattle.plan_script.specs.Script.{Made, Script, garbling, instr, making_bits, making_word, put, with_bit, with_bits, with_code, with_shares}
use Rattle.plan_script.specs.Levels.{by_depth, gate_at, is_product, level_kind, places_at, with_depth, with_gate, with_level, with_level_from, with_local, with_product}

-- a level lies within the gates, and these are of its sharing
pub record Fits (gates : List Instr) (i : Instr) : Type 0 where
  pub within : is_level i.kind ≡ true → i.left + i.right ≤ length gates
  pub kinds : is_level i.kind ≡ true → AreGatesOf i.kind (gates_of i gates)

abbrev pub Each : (Instr → Type 0) → List Instr → Type 0
Each P [] = Unit {0}
Each P (i ∷ is) = P i × Each P is

each-push : (P : Instr → Type 0) (is : List Instr) (i : Instr) → Each P is → P i → Each P (is ++ i ∷ [])
each-push P [] i each here = (here, tt)
each-push P (j ∷ is) i each here = (each.0, each-push P is i each.1 here)

each-weaker : (P Q : Instr → Type 0) → ((i : Instr) → P i → Q i) → (is : List Instr) → Each P is → Each Q is
each-weaker P Q f [] each = tt
each-weaker P Q f (i ∷ is) each = (f i each.0, each-weaker P Q f is each.1)

pub each-at : (P : Instr → Type 0) (is : List Instr) (k : ℕ) (i : Instr) → Each P is → slice_get is k ≡ Some i → P i
each-at P [] k i each h = absurd (cc)
each-at P (j ∷ is) zero i each h = let e : j ≡ i = cc in subst P e each.0
each-at P (j ∷ is) (suc k) i each h = each-at P is k i each.1 h

-- every level of a list of instructions does
abbrev pub Good : Script → Type 0
Good s = Each (Fits s.gates) s.instrs

fits-other : (gates : List Instr) (i : Instr) → is_level i.kind ≡ false → Fits gates i
fits-other gates i other = record { within = λ test. absurd (cc); kinds = λ test. absurd (cc) }

gates-of-more : (i : Instr) (gates more : List Instr) → i.left + i.right ≤ length gates → gates_of i (gates ++ more) ≡ gates_of i gates
gates-of-more i gates more within =
    let l : length (drop i.left gates) ≡ length gates - i.left = length-drop i.left gates in
    ap (take i.right) (drop-append-le i.left gates more (omega arith)) ∙ take-append-le i.right (drop i.left gates) more (omega arith)

fits-more : (gates more : List Instr) (i : Instr) → Fits gates i → Fits (gates ++ more) i
fits-more gates more i fits = record {
  within = λ test. let w = fits.within test in let l : length (gates ++ more) ≡ length gates + length more = length-append gates more in omega arith;
  kinds = λ test. subst (AreGatesOf i.kind) (sym (gates-of-more i gates more (fits.within test))) (fits.kinds test);
}

good-gates : (s : Script) (more : List Instr) → Good s → Each (Fits (s.gates ++ more)) s.instrs
good-gates s more good = each-weaker (Fits s.gates) (Fits (s.gates ++ more)) (λ i. fits-more s.gates more i) s.instrs good

-- ---- what is put is no level

good-put : (i : Instr) (s : Script) → is_level i.kind ≡ false → Good s → Good (put i s)
unfolding put
good-put i s other good = each-push (Fits s.gates) s.instrs (record i { number = length s.instrs }) good (fits-other s.gates (record i { number = length s.instrs }) other)

good-bits : (n : ℕ) (s : Script) → Good s → Good (with_bits n s)
unfolding with_bits with_bit
good-bits zero s good = good
good-bits (suc n) s good = good-bits n s good

pub good-making_word : (i : Instr) (s : Script) → is_level i.kind ≡ false → Good s → Good (making_word i s).script
unfolding making_word with_shares
good-making_word i s other good = good-put (record i { target = s.shares }) s other good

pub good-making_bits : (n : ℕ) (i : Instr) (s : Script) → is_level i.kind ≡ false → Good s → Good (making_bits n i s).script
unfolding making_bits
good-making_bits n i s other good = good-bits n (put (record i { target = length s.codes }) s) (good-put (record i { target = length s.codes }) s other good)

pub good-shares : (n : ℕ) (s : Script) → Good s → Good (with_shares n s)
unfolding with_shares
good-shares n s good = good

pub good-code : (code : ℕ) (s : Script) → Good s → Good (with_code code s)
unfolding with_code
good-code code s good = good

-- ---- levels

are-push : (level : InstrKind) (gates : List Instr) (g : Instr) → AreGatesOf level gates → IsGateOf level g.kind → AreGatesOf level (gates ++ g ∷ [])
are-push level [] g are here = (here, tt)
are-push level (h ∷ gates) g are here = (are.0, are-push level gates g are.1 here)

-- a gate of the sharing: one that needs a message may stand in its levels, and none is a level
pub record IsOf (sharing : Sharing) (g : Instr) : Type 0 where
  pub product : is_product g.kind ≡ true → IsGateOf (level_kind sharing) g.kind
  pub local : is_level g.kind ≡ false

abbrev pub OfSharing : Sharing → List Instr → Type 0
OfSharing sharing gates = (k : ℕ) → IsOf sharing (gate_at gates k)

-- a list of instructions whose gates from a place on are of a sharing
record Begun (sharing : Sharing) (first : ℕ) (s : Script) : Type 0 where
  good : Good s
  low : first ≤ length s.gates
  gates : AreGatesOf (level_kind sharing) (drop first s.gates)

begun-gate : (sharing : Sharing) (first : ℕ) (g : Instr) (s : Script) → IsGateOf (level_kind sharing) g.kind → Begun sharing first s → Begun sharing first (with_gate sharing g s)
unfolding with_gate
begun-gate Arithmetic first g s is begun = push begun
  where
    more : Instr
    more = record g { number = length s.instrs }

    push : Begun Arithmetic first s → Begun Arithmetic first (record s { gates = s.gates ++ more ∷ [] })
    push begun = record {
      good = good-gates s (more ∷ []) begun.good;
      low = let low = begun.low in let l : length (s.gates ++ more ∷ []) ≡ length s.gates + 1 = length_push s.gates more in omega arith;
      gates = subst (AreGatesOf K.LevelA) (sym (drop-append-le first s.gates (more ∷ []) begun.low)) (are-push K.LevelA (drop first s.gates) more begun.gates is);
    }
begun-gate Boolean first g s is begun = push begun
  where
    more : Instr
    more = record g { number = length s.instrs }

    push : Begun Boolean first s → Begun Boolean first (record s { gates = s.gates ++ more ∷ [] })
    push begun = record {
      good = good-gates s (more ∷ []) begun.good;
      low = let low = begun.low in let l : length (s.gates ++ more ∷ []) ≡ length s.gates + 1 = length_push s.gates more in omega arith;
      gates = subst (AreGatesOf K.LevelB) (sym (drop-append-le first s.gates (more ∷ []) begun.low)) (are-push K.LevelB (drop first s.gates) more begun.gates is);
    }
begun-gate Yao first g s is begun = push begun
  where
    more : Instr
    more = record g { number = s.garbled }

    push : Begun Yao first s → Begun Yao first (record s { gates = s.gates ++ more ∷ []; garbled = s.garbled + 1 })
    push begun = record {
      good = good-gates s (more ∷ []) begun.good;
      low = let low = begun.low in let l : length (s.gates ++ more ∷ []) ≡ length s.gates + 1 = length_push s.gates more in omega arith;
      gates = subst (AreGatesOf K.LevelY) (sym (drop-append-le first s.gates (more ∷ []) begun.low)) (are-push K.LevelY (drop first s.gates) more begun.gates is);
    }

begun-product : (sharing : Sharing) (first : ℕ) (gates : List Instr) (s : Script) (k : ℕ) → OfSharing sharing gates → Begun sharing first s → Begun sharing first (with_product sharing gates s k)
unfolding with_product
begun-product sharing first gates s k of begun = by_test (is_product (gate_at gates k).kind) refl
  where
    by_test : (b : Bool) → is_product (gate_at gates k).kind ≡ b → Begun sharing first (if b then with_gate sharing (gate_at gates k) s else s)
    by_test true e = begun-gate sharing first (gate_at gates k) s ((of k).product e) begun
    by_test false e = begun

begun-products : (sharing : Sharing) (first : ℕ) (gates : List Instr) (places : List ℕ) (s : Script) → OfSharing sharing gates → Begun sharing first s → Begun sharing first (fold (with_product sharing gates) s places)
begun-products sharing first gates [] s of begun = begun
begun-products sharing first gates (k ∷ places) s of begun = begun-products sharing first gates places (with_product sharing gates s k) of (begun-product sharing first gates s k of begun)

level-is : (sharing : Sharing) → is_level (level_kind sharing) ≡ true
level-is Arithmetic = refl
level-is Boolean = refl
level-is Yao = refl

good-level_from : (sharing : Sharing) (first : ℕ) (s : Script) → Begun sharing first s → Good (with_level_from sharing first s)
unfolding with_level_from put
good-level_from sharing first s begun = by_test (length s.gates == first)
  where
    level : Instr
    level = instr (level_kind sharing) W1 first (length s.gates - first) 0 0

    whole : gates_of level s.gates ≡ drop first s.gates
    whole = let l : length (drop first s.gates) ≡ length s.gates - first = length-drop first s.gates in take_all (length s.gates - first) (drop first s.gates) (omega arith)

    fits : Fits s.gates (record level { number = length s.instrs })
    fits = record { within = λ test. let low = begun.low in omega arith; kinds = λ test. subst (AreGatesOf (level_kind sharing)) (sym whole) begun.gates }

    by_test : (b : Bool) → Good (if b then s else put level s)
    by_test true = begun.good
    by_test false = each-push (Fits s.gates) s.instrs (record level { number = length s.instrs }) begun.good fits

good-local : (sharing : Sharing) (gates : List Instr) (s : Script) (k : ℕ) → OfSharing sharing gates → Good s → Good (with_local gates s k)
unfolding with_local
good-local sharing gates s k of good = by_test (is_product (gate_at gates k).kind)
  where
    by_test : (b : Bool) → Good (if b then s else put (gate_at gates k) s)
    by_test true = good
    by_test false = good-put (gate_at gates k) s (of k).local good

good-locals : (sharing : Sharing) (gates : List Instr) (places : List ℕ) (s : Script) → OfSharing sharing gates → Good s → Good (fold (with_local gates) s places)
good-locals sharing gates [] s of good = good
good-locals sharing gates (k ∷ places) s of good = good-locals sharing gates places (with_local gates s k) of (good-local sharing gates s k of good)

good-depth : (sharing : Sharing) (gates : List Instr) (depths : List ℕ) (s : Script) (depth : ℕ) → OfSharing sharing gates → Good s → Good (with_depth sharing gates depths s depth)
unfolding with_depth with_level
good-depth sharing gates depths s depth of good =
    let places = places_at depths depth in
    let first = length s.gates in
    let none : drop first s.gates ≡ [] = drop_all first s.gates (omega arith) in
    let start : Begun sharing first s = record { good = good; low = omega arith; gates = subst (AreGatesOf (level_kind sharing)) (sym none) tt } in
    good-locals sharing gates places (with_level_from sharing first (fold (with_product sharing gates) s places)) of
    (good-level_from sharing first (fold (with_product sharing gates) s places) (begun-products sharing first gates places s of start))

good-depths : (sharing : Sharing) (gates : List Instr) (depths ds : List ℕ) (s : Script) → OfSharing sharing gates → Good s → Good (fold (with_depth sharing gates depths) s ds)
good-depths sharing gates depths [] s of good = good
good-depths sharing gates depths (d ∷ ds) s of good = good-depths sharing gates depths ds (with_depth sharing gates depths s d) of (good-depth sharing gates depths s d of good)

pub good-by_depth : (sharing : Sharing) (gates : List Instr) (depths : List ℕ) (s : Script) → OfSharing sharing gates → Good s → Good (by_depth sharing gates depths s)
unfolding by_depth
good-by_depth sharing gates depths s of good = good-depths sharing gates depths (below (1 + fold max 0 depths)) s of good

-- ---- the gates of circuits

of-each : (sharing : Sharing) (gates : List Instr) → Each (IsOf sharing) gates → OfSharing sharing gates
of-each sharing [] each k = record { product = λ test. absurd (cc); local = refl }
of-each sharing (g ∷ gates) each zero = each.0
of-each sharing (g ∷ gates) each (suc k) = of-each sharing gates each.1 k

net-one : (sharing : Sharing) (ins : List ℕ) (base k : ℕ) (gate : Gate) → (sharing ≡ Arithmetic → ⊥) → IsOf sharing (net_instr sharing ins base k gate)
net-one Arithmetic ins base k gate other = absurd (other refl)
net-one Boolean ins base k (And a b) other = record { product = λ test. refl; local = refl }
net-one Boolean ins base k (Xor a b) other = record { product = λ test. absurd (cc); local = refl }
net-one Yao ins base k (And a b) other = record { product = λ test. refl; local = refl }
net-one Yao ins base k (Xor a b) other = record { product = λ test. absurd (cc); local = refl }

net-all : (sharing : Sharing) (ins : List ℕ) (base : ℕ) (gates : List Gate) (seen : List Instr) → (sharing ≡ Arithmetic → ⊥) → Each (IsOf sharing) seen → Each (IsOf sharing) (fold (with_net_instr sharing ins base) seen gates)
unfolding with_net_instr
net-all sharing ins base [] seen other each = each
net-all sharing ins base (gate ∷ gates) seen other each =
    net-all sharing ins base gates (with_net_instr sharing ins base seen gate) other (each-push (IsOf sharing) seen (net_instr sharing ins base (length seen) gate) each (net-one sharing ins base (length seen) gate other))

pub net-of : (sharing : Sharing) (ins : List ℕ) (base : ℕ) (gates : List Gate) → (sharing ≡ Arithmetic → ⊥) → OfSharing sharing (net_instrs sharing ins base gates)
net-of sharing ins base gates other = of-each sharing (net_instrs sharing ins base gates) (net-all sharing ins base gates [] other tt)

ring-kind : (op : Op) (first second : Bool) → (is_product (ring_kind op first second) ≡ true → ring_kind op first second ≡ K.MulA) × (is_level (ring_kind op first second) ≡ false)
ring-kind Add true true = (λ test. absurd (cc), refl)
ring-kind Add false true = (λ test. absurd (cc), refl)
ring-kind Add true false = (λ test. absurd (cc), refl)
ring-kind Add false false = (λ test. absurd (cc), refl)
ring-kind Sub true true = (λ test. absurd (cc), refl)
ring-kind Sub false true = (λ test. absurd (cc), refl)
ring-kind Sub true false = (λ test. absurd (cc), refl)
ring-kind Sub false false = (λ test. absurd (cc), refl)
ring-kind Mul true true = (λ test. refl, refl)
ring-kind Mul false true = (λ test. absurd (cc), refl)
ring-kind Mul true false = (λ test. absurd (cc), refl)
ring-kind Mul false false = (λ test. absurd (cc), refl)
ring-kind Neg true second = (λ test. absurd (cc), refl)
ring-kind Neg false second = (λ test. absurd (cc), refl)
ring-kind Trunc true second = (λ test. absurd (cc), refl)
ring-kind Trunc false second = (λ test. absurd (cc), refl)
ring-kind _ first second = (λ test. absurd (cc), refl)

ring-one : (ins : List ℕ) (base k : ℕ) (g : RingGate) → IsOf Arithmetic (ring_instr ins base k g)
ring-one ins base k g =
    let kind = ring-kind g.op (is_variable (argument g 0)) (is_variable (argument g 1)) in
    record { product = kind.0; local = kind.1 }

ring-all : (ins : List ℕ) (base : ℕ) (gates : List RingGate) (seen : List Instr) → Each (IsOf Arithmetic) seen → Each (IsOf Arithmetic) (fold (with_ring_instr ins base) seen gates)
unfolding with_ring_instr
ring-all ins base [] seen each = each
ring-all ins base (gate ∷ gates) seen each =
    ring-all ins base gates (with_ring_instr ins base seen gate) (each-push (IsOf Arithmetic) seen (ring_instr ins base (length seen) gate) each (ring-one ins base (length seen) gate))

pub ring-of : (ins : List ℕ) (base : ℕ) (gates : List RingGate) → OfSharing Arithmetic (ring_instrs ins base gates)
ring-of ins base gates = of-each Arithmetic (ring_instrs ins base gates) (ring-all ins base gates [] tt)

-- ---- conversions

good-garbling : (n : ℕ) (s : Script) → Good s → Good (garbling n s)
unfolding garbling
good-garbling n s good = good

good-y_to_b : (w : Width) (at : ℕ) (s : Script) → Good s → Good (y_to_b w at s).script
unfolding y_to_b
good-y_to_b w at s good = good-making_bits (bits w) (instr K.Y2B w at 0 0 0) s refl good

good-b_to_a : (w : Width) (at : ℕ) (s : Script) → Good s → Good (b_to_a w at s).script
unfolding b_to_a
good-b_to_a w at s good = good-making_word (instr K.AnswerToA w at 0 0 0) (put (instr K.ChooseB w at 0 0 0) s) refl (good-put (instr K.ChooseB w at 0 0 0) s refl good)

good-b_to_y : (w : Width) (at : ℕ) (s : Script) → Good s → Good (b_to_y w at s).script
unfolding b_to_y
good-b_to_y w at s good = good-making_bits (bits w) (instr K.AnswerSharesB w at 0 0 0) (put (instr K.ChooseB w at 0 0 0) s) refl (good-put (instr K.ChooseB w at 0 0 0) s refl good)

good-carried : (w : Width) (m : Made) → Good m.script → Good (carried w m).script
unfolding carried garbling
good-carried w m good = good-making_bits (bits w) (instr K.Carries w m.at 0 0 m.script.garbled) m.script refl good

good-a_to_y : (w : Width) (at : ℕ) (s : Script) → Good s → Good (a_to_y w at s).script
unfolding a_to_y
good-a_to_y w at s good =
    good-carried w (making_bits (2 * bits w) (instr K.AnswerSharesA w at 0 0 0) (put (instr K.ChooseA w at 0 0 0) s))
    (good-making_bits (2 * bits w) (instr K.AnswerSharesA w at 0 0 0) (put (instr K.ChooseA w at 0 0 0) s) refl (good-put (instr K.ChooseA w at 0 0 0) s refl good))

good-a_to_b : (w : Width) (at : ℕ) (s : Script) → Good s → Good (a_to_b w at s).script
unfolding a_to_b
good-a_to_b w at s good = good-y_to_b w (a_to_y w at s).at (a_to_y w at s).script (good-a_to_y w at s good)

good-y_to_a : (w : Width) (at : ℕ) (s : Script) → Good s → Good (y_to_a w at s).script
unfolding y_to_a
good-y_to_a w at s good = good-b_to_a w (y_to_b w at s).at (y_to_b w at s).script (good-y_to_b w at s good)

pub good-conversion : (from to : Sharing) (w : Width) (at : ℕ) (s : Script) → Good s → Good (conversion from to w at s).script
good-conversion Arithmetic Boolean w at s good = good-a_to_b w at s good
good-conversion Arithmetic Yao w at s good = good-a_to_y w at s good
good-conversion Boolean Arithmetic w at s good = good-b_to_a w at s good
good-conversion Boolean Yao w at s good = good-b_to_y w at s good
good-conversion Yao Arithmetic w at s good = good-y_to_a w at s good
good-conversion Yao Boolean w at s good = good-y_to_b w at s good
good-conversion Arithmetic Arithmetic w at s good = good
good-conversion Boolean Boolean w at s good = good
good-conversion Yao Yao w at s good = good

-- ---- inputs

input-A : (role : Role) → is_level (input_A_kind role) ≡ false
input-A P0 = refl
input-A P1 = refl

input-B : (role : Role) → is_level (input_B_kind role) ≡ false
input-B P0 = refl
input-B P1 = refl

good-input_Y : (role : Role) (w : Width) (number : ℕ) (s : Script) → Good s → Good (input_Y role w number s).script
good-input_Y P0 w number s good = good-making_bits (bits w) (instr K.InYP0 w 0 0 0 number) s refl good
good-input_Y P1 w number s good = good-making_bits (bits w) (instr K.AnswerIn w 0 0 0 0) (put (instr K.ChooseIn w 0 0 0 number) s) refl (good-put (instr K.ChooseIn w 0 0 0 number) s refl good)

good-input : (sharing : Sharing) (role : Role) (w : Width) (number : ℕ) (s : Script) → Good s → Good (input sharing role w number s).script
unfolding input
good-input Arithmetic role w number s good = good-making_word (instr (input_A_kind role) w 0 0 0 number) s (input-A role) good
good-input Boolean role w number s good = good-making_bits (bits w) (instr (input_B_kind role) w 0 0 0 number) s (input-B role) good
good-input Yao role w number s good = good-input_Y role w number s good

good-input_if : (b : Bool) (sharing : Sharing) (role : Role) (w : Width) (node number : ℕ) (work : Work) → Good work.script → Good (input_if b sharing role w node number work).script
good-input_if false sharing role w node number work good = good
good-input_if true sharing role w node number work good = good-input sharing role w number work.script good

good-leaf_at : (wanted : Sharing → ℕ → Bool) (es : List Entry) (role : Role) (number : ℕ) (node : Option ℕ) (work : Work) → Good work.script → Good (with_leaf_at wanted es role number node work).script
good-leaf_at wanted es role number None work good = good
good-leaf_at wanted es role number (Some node) work good =
    let w = width_at es node in
    let at_a = input_if (wanted Arithmetic node) Arithmetic role w node number work in
    let at_b = input_if (wanted Boolean node) Boolean role w node number at_a in
    good-input_if (wanted Yao node) Yao role w node number at_b (good-input_if (wanted Boolean node) Boolean role w node number at_a (good-input_if (wanted Arithmetic node) Arithmetic role w node number work good))

good-leaves : (wanted : Sharing → ℕ → Bool) (es : List Entry) (owners : List Role) (leaves : List ℕ) (work : Work) → Good work.script → Good (fold (with_leaf wanted es owners) work leaves).script
unfolding with_leaf
good-leaves wanted es owners [] work good = good
good-leaves wanted es owners (leaf ∷ leaves) work good =
    good-leaves wanted es owners leaves (with_leaf wanted es owners work leaf) (good-leaf_at wanted es (get_or owners leaf P0) (own_number (get_or owners leaf P0) owners leaf) (input_node es leaf) work good)

-- ---- modules

good-converted_if : (at : Option ℕ) (maker : Option Sharing) (es : List Entry) (to : Sharing) (node : ℕ) (work : Work) → (held_at work.held node).maker ≡ maker → Good work.script → Good (converted_if at es to node work).script
good-converted_if (Some at) maker es to node work is good = good
good-converted_if None maker es to node work is good = by_maker (held_at work.held node).maker
  where
    by_maker : (m : Option Sharing) → Good (converted m es to node work).script
    by_maker None = good
    by_maker (Some from) = good-conversion from to (width_at es node) (place_in from (held_at work.held node)) work.script good

good-words : (es : List Entry) (to : Sharing) (nodes : List ℕ) (work : Work) → Good work.script → Good (fold (with_word es to) work nodes).script
unfolding with_word
good-words es to [] work good = good
good-words es to (node ∷ nodes) work good = good-words es to nodes (with_word es to work node) (good-converted_if (held_in to (held_at work.held node)) (held_at work.held node).maker es to node work refl good)

good-outs : (ins : List ℕ) (base : ℕ) (outs : List Lit) (s : Script) → Good s → Good (fold (with_out ins base) s outs)
unfolding with_out with_code
good-outs ins base [] s good = good
good-outs ins base (l ∷ outs) s good = good-outs ins base outs (with_out ins base s l) good

good-net : (es : List Entry) (sharing : Sharing) (part : Module) (net : Circuit) (work : Work) → (sharing ≡ Arithmetic → ⊥) → Good work.script → Good (with_net es sharing part net work).script
unfolding with_net
good-net es sharing part net work other good =
    let ins = bit_codes es sharing work part.ins in
    let base = work.script.shares in
    good-outs ins base net.outs (net_script sharing net ins work.script)
    (good-by_depth sharing (net_instrs sharing ins base net.gates) (net_depths net) (with_shares (length net.gates) work.script) (net-of sharing ins base net.gates other) (good-shares (length net.gates) work.script good))

good-ring_if : (part : Module) (ring : Option Ring) (work : Work) → Good work.script → Good (with_ring_if part ring work).script
unfolding with_ring
good-ring_if part None work good = good
good-ring_if part (Some ring) work good =
    let ins = word_codes work.held part.ins in
    let base = work.script.shares in
    good-by_depth Arithmetic (ring_instrs ins base ring.gates) (ring_depths ring) (with_shares (length ring.gates) work.script) (ring-of ins base ring.gates) (good-shares (length ring.gates) work.script good)

good-choice : (es : List Entry) (part : Module) (variant : Variant) (c : Choice) (work : Work) → Good work.script → Good (with_gates es part variant c work).script
good-choice es part variant A work good = good-ring_if part variant.ring work good
good-choice es part variant Y work good = good-net es Yao part variant.compact work (λ e. absurd (cc)) good
good-choice es part variant C work good = good-net es Boolean part variant.compact work (λ e. absurd (cc)) good
good-choice es part variant S work good = good-net es Boolean part variant.shallow work (λ e. absurd (cc)) good

good-module : (es : List Entry) (words : List ℕ) (part : Module) (variant : Variant) (c : Choice) (work : Work) → Good work.script → Good (with_module es words part variant c work).script
unfolding with_module
good-module es words part variant c work good = good-choice es part variant c (fold (with_word es (sharing_of c)) work words) (good-words es (sharing_of c) words work good)

good-modules : (es : List Entry) (edges : List EdgeWords) (m : ℕ) (parts : List Module) (variants : List Variant) (choices : List Choice) (work : Work) → Good work.script → Good (with_modules es edges m parts variants choices work).script
unfolding with_modules
good-modules es edges m [] variants choices work good = good
good-modules es edges m (part ∷ parts) [] choices work good = good
good-modules es edges m (part ∷ parts) (variant ∷ variants) [] work good = good
good-modules es edges m (part ∷ parts) (variant ∷ variants) (c ∷ choices) work good =
    good-modules es edges (m + 1) parts variants choices (with_module es (words_into edges m) part variant c work) (good-module es (words_into edges m) part variant c work good)

-- ---- openings, and all

open-is : (sharing : Sharing) → is_level (open_kind sharing) ≡ false
open-is Arithmetic = refl
open-is Boolean = refl
open-is Yao = refl

good-open : (sharing : Option Sharing) (w : Width) (h : Held) (s : Script) → Good s → Good (open_word sharing w h s)
good-open None w h s good = good
good-open (Some sharing) w h s good = good-put (instr (open_kind sharing) w (place_in sharing h) 0 0 0) s (open-is sharing) good

good-openings : (es : List Entry) (held : List Held) (results : List Node) (s : Script) → Good s → Good (fold (with_opening es held) s results)
unfolding with_opening
good-openings es held [] s good = good
good-openings es held (node ∷ results) s good =
    good-openings es held results (with_opening es held s node) (good-open (opened_in (slice_get es node.index) (held_at held node.index).maker) (width_at es node.index) (held_at held node.index) s good)

pub good-script : (b : Parts) (choices : List Choice) → Good (script_of b choices)
good-script b choices =
    let start = begun b.graph in
    let wanted = is_wanted b.modules.list choices b.results in
    let inputs = with_inputs wanted b.graph (owners b.ports) start in
    good-openings b.graph (work_of b choices).held b.results (work_of b choices).script
    (good-modules b.graph b.modules.edges 0 b.modules.list b.variants choices inputs
    (good-leaves wanted b.graph (owners b.ports) (below (length (owners b.ports))) start (good-put (instr K.Offset W1 0 0 0 0) no_script refl tt)))

-- ---- over slots

renamed-kind : (slots : List ℕ) (i : Instr) → (renamed slots i).kind ≡ i.kind
unfolding renamed
renamed-kind slots i = refl

renamed-gates_of : (slots : List ℕ) (i : Instr) (gates : List Instr) → is_level i.kind ≡ true → gates_of (renamed slots i) (map (renamed slots) gates) ≡ map (renamed slots) (gates_of i gates)
unfolding renamed
renamed-gates_of slots i gates test = rw (level-left i.kind test, level-right i.kind test) (ap (take i.right) (drop-map (renamed slots) i.left gates) ∙ take-map (renamed slots) i.right (drop i.left gates))
  where
    level-left : (kind : InstrKind) → is_level kind ≡ true → left_form kind ≡ Nothing
    level-left K.LevelA test = refl
    level-left K.LevelB test = refl
    level-left K.LevelY test = refl
    level-left _ test = absurd (cc)

    level-right : (kind : InstrKind) → is_level kind ≡ true → right_form kind ≡ Nothing
    level-right K.LevelA test = refl
    level-right K.LevelB test = refl
    level-right K.LevelY test = refl
    level-right _ test = absurd (cc)

renamed-are : (slots : List ℕ) (level : InstrKind) (gates : List Instr) → AreGatesOf level gates → AreGatesOf level (map (renamed slots) gates)
renamed-are slots level [] are = tt
renamed-are slots level (g ∷ gates) are = (subst (IsGateOf level) (sym (renamed-kind slots g)) are.0, renamed-are slots level gates are.1)

pub levels-match : (b : Parts) (choices : List Choice) (slots : List ℕ) → LevelsMatch (map (renamed slots) (script_of b choices).instrs) (map (renamed slots) (script_of b choices).gates)
levels-match b choices slots = record { each = at }
  where
    s : Script
    s = script_of b choices

    at : (k : ℕ) (i : Instr) → slice_get (map (renamed slots) s.instrs) k ≡ Some i → is_level i.kind ≡ true → AreGatesOf i.kind (gates_of i (map (renamed slots) s.gates))
    at k i found test = by_old (slice_get s.instrs k) refl
      where
        by_old : (o : Option Instr) → slice_get s.instrs k ≡ o → AreGatesOf i.kind (gates_of i (map (renamed slots) s.gates))
        by_old None e = absurd (cc (slice_get-map (renamed slots) s.instrs k))
        by_old (Some j) e =
            let same : renamed slots j ≡ i = cc (slice_get-map (renamed slots) s.instrs k) in
            let kind : j.kind ≡ i.kind = sym (renamed-kind slots j) ∙ ap (λ (x : Instr). x.kind) same in
            let level : is_level j.kind ≡ true = ap is_level kind ∙ test in
            let fits = each-at (Fits s.gates) s.instrs k j (good-script b choices) e in
            let old = renamed-are slots j.kind (gates_of j s.gates) (fits.kinds level) in
            subst (λ (x : Instr). AreGatesOf x.kind (gates_of x (map (renamed slots) s.gates))) same
            (subst (λ (gs : List Instr). AreGatesOf (renamed slots j).kind gs) (sym (renamed-gates_of slots j s.gates level)) (subst (λ (kd : InstrKind). AreGatesOf kd (map (renamed slots) (gates_of j s.gates))) (sym (renamed-kind slots j)) old))
