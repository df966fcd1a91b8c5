-- The state in which an instruction leaves a party.
use Rattle.std.proofs.Common.{◌≡◌, ℕ, ◌+◌, Bool, true, false, if◌then◌else◌, List, set, refl, sym, ap, ◌∙◌}
use Rattle.hy_bits.specs.declared.turns.Role as Role
use Rattle.hy_bits.specs.declared.turns.Role.TheVariants.{P0, P1}
use Rattle.share_core.specs.declared.instr.Instr.{Instr}
use Rattle.share_core.specs.declared.instr.InstrKind.{InstrKind}
use Rattle.share_core.specs.declared.instr.InstrKind.TheVariants.{Offset, ChooseIn, ChooseA, ChooseB, OpenA, OpenB, OpenY}
use Rattle.share_core.specs.declared.labels.Label.{Label}
use Rattle.share_core.specs.declared.labels.Offset as FreeXor
use Rattle.share_core.specs.Instructions.{has_frame}
use Rattle.share_core.specs.Machine.{View, chosen_after, offset_after, slots_after}
use Rattle.share_core.specs.Roles.{other}
use Rattle.party.specs.Steps.{Plan, State, ended, is_opening, openings_after, view_at, words_after}

-- ---- what an instruction leaves, by who sends

pub record IsQuiet (kind : InstrKind) : Type 0 where
  pub opens : is_opening kind ≡ false
  pub chosen : (i : Instr) (v : View) (received : List ℕ) → chosen_after kind i v received ≡ v.chosen

pub quiet : (kind : InstrKind) (role : Role.Role) → has_frame kind role ≡ false → has_frame kind (other role) ≡ false → IsQuiet kind
quiet ChooseIn P0 own others = absurd (cc)
quiet ChooseIn P1 own others = absurd (cc)
quiet ChooseA P0 own others = absurd (cc)
quiet ChooseA P1 own others = absurd (cc)
quiet ChooseB P0 own others = absurd (cc)
quiet ChooseB P1 own others = absurd (cc)
quiet OpenA role own others = absurd (cc)
quiet OpenB role own others = absurd (cc)
quiet OpenY role own others = absurd (cc)
quiet _ role own others = record { opens = refl; chosen = λ i v received. refl }

pub record IsSingle (kind : InstrKind) : Type 0 where
  pub opens : is_opening kind ≡ false
  pub offset : (v : View) → offset_after kind v ≡ v.offset

pub single_own : (kind : InstrKind) (role : Role.Role) → has_frame kind role ≡ true → has_frame kind (other role) ≡ false → IsSingle kind
single_own Offset role own others = absurd (cc)
single_own OpenA role own others = absurd (cc)
single_own OpenB role own others = absurd (cc)
single_own OpenY role own others = absurd (cc)
single_own _ role own others = record { opens = refl; offset = λ v. refl }

pub single_other : (kind : InstrKind) (role : Role.Role) → has_frame kind role ≡ false → has_frame kind (other role) ≡ true → IsSingle kind
single_other Offset role own others = absurd (cc)
single_other OpenA role own others = absurd (cc)
single_other OpenB role own others = absurd (cc)
single_other OpenY role own others = absurd (cc)
single_other _ role own others = record { opens = refl; offset = λ v. refl }

pub record IsShared (kind : InstrKind) : Type 0 where
  pub chosen : (i : Instr) (v : View) (received : List ℕ) → chosen_after kind i v received ≡ v.chosen
  pub offset : (v : View) → offset_after kind v ≡ v.offset

pub shared : (kind : InstrKind) (role : Role.Role) → has_frame kind role ≡ true → has_frame kind (other role) ≡ true → IsShared kind
shared Offset role own others = absurd (cc)
shared ChooseIn P0 own others = absurd (cc)
shared ChooseIn P1 own others = absurd (cc)
shared ChooseA P0 own others = absurd (cc)
shared ChooseA P1 own others = absurd (cc)
shared ChooseB P0 own others = absurd (cc)
shared ChooseB P1 own others = absurd (cc)
shared _ role own others = record { chosen = λ i v received. refl; offset = λ v. refl }

-- ---- states from their parts

abbrev pub state_with : State → List Label → FreeXor.Offset → ℕ → List ℕ → ℕ → ℕ → State
state_with s slots offset chosen words openings room =
    record { role = s.role; place = s.place + 1; receiving = false; slots = slots; offset = offset; chosen = chosen; own = s.own; words = words; openings = openings; room = room }

abbrev pub state_of : State → List Label → FreeXor.Offset → ℕ → List ℕ → ℕ → State
state_of s slots offset chosen words openings = state_with s slots offset chosen words openings s.room

-- lists that a vector gives back
pub state_same : (s : State) (slots slots' : List Label) (offset : FreeXor.Offset) (chosen : ℕ) (words words' : List ℕ) (openings room : ℕ) → slots ≡ slots' → words ≡ words' → room ≡ s.room → state_with s slots offset chosen words openings room ≡ state_of s slots' offset chosen words' openings
state_same s slots slots' offset chosen words words' openings room es ew er =
    ap (λ (xs : List Label). state_with s xs offset chosen words openings room) es
    ∙ ap (λ (xs : List ℕ). state_with s slots' offset chosen xs openings room) ew
    ∙ ap (λ (n : ℕ). state_with s slots' offset chosen words' openings n) er

pub ended_is : (plan : Plan) (half : ℕ → List ℕ) (s : State) (i : Instr) (received : List ℕ) (slots : List Label) (offset : FreeXor.Offset) (chosen : ℕ) (words : List ℕ) (openings : ℕ) →
    slots ≡ slots_after i (view_at plan half s i) received → offset ≡ offset_after i.kind (view_at plan half s i) → chosen ≡ chosen_after i.kind i (view_at plan half s i) received →
    words ≡ words_after i.kind i (view_at plan half s i) received s.words s.openings → openings ≡ openings_after i.kind s.openings →
    state_of s slots offset chosen words openings ≡ ended plan half s i received
ended_is plan half s i received slots offset chosen words openings es eo ec ew en =
    let v : View = view_at plan half s i in
    ap (λ (xs : List Label). state_of s xs offset chosen words openings) es
    ∙ ap (λ (o : FreeXor.Offset). state_of s (slots_after i v received) o chosen words openings) eo
    ∙ ap (λ (n : ℕ). state_of s (slots_after i v received) (offset_after i.kind v) n words openings) ec
    ∙ ap (λ (xs : List ℕ). state_of s (slots_after i v received) (offset_after i.kind v) (chosen_after i.kind i v received) xs openings) ew
    ∙ ap (λ (n : ℕ). state_of s (slots_after i v received) (offset_after i.kind v) (chosen_after i.kind i v received) (words_after i.kind i v received s.words s.openings) n) en

-- no opening leaves the words as they are
pub no_words : (kind : InstrKind) (words : List ℕ) (openings word : ℕ) → is_opening kind ≡ false → words ≡ (if is_opening kind then set words openings word else words)
no_words kind words openings word none = sym (ap (λ (b : Bool). if b then set words openings word else words) none)

pub no_openings : (kind : InstrKind) (openings : ℕ) → is_opening kind ≡ false → openings ≡ openings_after kind openings
no_openings kind openings none = sym (ap (λ (b : Bool). if b then openings + 1 else openings) none)
