-- The laws of the machine's states.
use Rattle.std.proofs.Common.{◌≡◌, ◌≤◌, ◌<◌, ℕ, zero, suc, Bool, true, false, if◌then◌else◌, List, [], ◌∷◌, Option, None, Some, refl, sym, subst, arith}
use Rattle.std.proofs.Math.Nat.{mod-lt}
use Rattle.std.specs.List.{slice_get}
use Rattle.std.specs.Option.{IfSome}
use Rattle.hy_bits.specs.declared.width.Width as Width
use Rattle.hy_bits.specs.declared.width.Width.TheVariants.{W1, W8, W16, W32, W64}
use Rattle.hy_bits.specs.Words.{modulus}
use Rattle.share_core.specs.declared.instr.Instr.{Instr}
use Rattle.share_core.specs.declared.instr.InstrKind.{InstrKind}
use Rattle.share_core.specs.declared.instr.InstrKind.TheVariants.{OpenA, OpenB, OpenY}
use Rattle.share_core.specs.Instructions.{has_frame}
use Rattle.share_core.specs.Machine.{View, opened}
use Rattle.share_core.specs.Roles.{other}
use Rattle.party.specs.Laws.{OpenedFit, WaitsStand}
use Rattle.party.specs.Steps.{level_gates, most_gates, Plan, State, at_instr, at_receive, at_receive_half, is_opening, send_half, after_send}

some : (w : Width.Width) → 0 < modulus w
some W1 = omega arith
some W8 = omega arith
some W16 = omega arith
some W32 = omega arith
some W64 = omega arith

opened_by : (kind : InstrKind) (i : Instr) (v : View) (received : List ℕ) → is_opening kind ≡ true → opened kind i v received < modulus i.width
opened_by OpenA i v received is = mod-lt _ (some i.width)
opened_by OpenB i v received is = mod-lt _ (some i.width)
opened_by OpenY i v received is = mod-lt _ (some i.width)
opened_by _ i v received is = absurd (cc)

pub opened_fit : OpenedFit
opened_fit i v received is = opened_by i.kind i v received is

sent_stays : (b : Bool) (plan : Plan) (half : ℕ → List ℕ) (s : State) (i : Instr) → (after_send b plan half s i).receiving ≡ true → (after_send b plan half s i).place ≡ s.place
sent_stays true plan half s i is = refl
sent_stays false plan half s i is = absurd (cc)

taken_stays : (plan : Plan) (half : ℕ → List ℕ) (s : State) (i : Instr) (inbox : List ℕ) → (at_receive plan half s i inbox).state.receiving ≡ true → (at_receive plan half s i inbox).state.place ≡ s.place
taken_stays plan half s i [] is = refl
taken_stays plan half s i (b ∷ bs) is = absurd (cc)

half_stays : (b : Bool) (plan : Plan) (half : ℕ → List ℕ) (s : State) (i : Instr) (inbox : List ℕ) → (if b then at_receive plan half s i inbox else send_half plan half s i).state.receiving ≡ true → (if b then at_receive plan half s i inbox else send_half plan half s i).state.place ≡ s.place
half_stays true plan half s i inbox is = taken_stays plan half s i inbox is
half_stays false plan half s i inbox is = sent_stays (has_frame i.kind (other s.role)) plan half s i is

instr_stays : (plan : Plan) (half : ℕ → List ℕ) (s : State) (inbox : List ℕ) (found : Option Instr) → (at_instr plan half s inbox found).state.receiving ≡ true → (at_instr plan half s inbox found).state.place ≡ s.place
instr_stays plan half s inbox None is = refl
instr_stays plan half s inbox (Some i) is = half_stays (at_receive_half s i) plan half s i inbox is

pub waits_stand : WaitsStand
waits_stand plan half s inbox is = instr_stays plan half s inbox (slice_get plan.instrs s.place) is

-- the room that a party is made with serves each of its instructions
most_at : (gates instrs : List Instr) (k : ℕ) (i : Instr) → Some i ≡ slice_get instrs k → level_gates gates i ≤ most_gates gates instrs
most_at gates [] k i is = absurd (cc)
most_at gates (x ∷ instrs) zero i is =
    let same : i ≡ x = cc in
    subst (λ (y : Instr). level_gates gates y ≤ most_gates gates (x ∷ instrs)) (sym same) (omega arith)
most_at gates (x ∷ instrs) (suc k) i is = omega (arith, most_at gates instrs k i is)

pub room_holds : (gates instrs : List Instr) (k : ℕ) → IfSome (slice_get instrs k) (λ i. level_gates gates i ≤ most_gates gates instrs)
room_holds gates instrs k = found (slice_get instrs k) (λ i is. most_at gates instrs k i is)
  where
    found : (o : Option Instr) → ((i : Instr) → Some i ≡ o → level_gates gates i ≤ most_gates gates instrs) → IfSome o (λ i. level_gates gates i ≤ most_gates gates instrs)
    found None each = tt
    found (Some i) each = each i refl
