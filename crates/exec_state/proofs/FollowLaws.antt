-- Expressions that follow their meanings, one after another and under conditions.
use Rattle.std.proofs.Common.{◌≡◌, ℕ, ◌-◌, ◌*◌, Bool, true, false, if◌then◌else◌, refl, sym, ◌∙◌, subst, arith}
use Rattle.c_meaning.specs.State.{State}
use Rattle.c_meaning.specs.Expressions.{Evaluated, Gives, Past, after}
use Rattle.exec_state.specs.Seen.{Picture, Shows, IsTruth}
use Rattle.exec_state.specs.Follow.{Ended, Passes, Goes, Follows}

-- ---- what holds whatever is evaluated

pub passes_still : (g : ℕ) (a : Picture) → Passes g a a
passes_still g a = record { idle = λ h. refl; past = λ h. h; returned = refl }

pub passes_on : (g : ℕ) (a b c : Picture) → Passes g a b → Passes g b c → Passes g a c
passes_on g a b c first second = record {
  idle = λ h. second.idle h ∙ first.idle h;
  past = λ h. second.past (first.past h);
  returned = second.returned ∙ first.returned;
}

-- under a guard that holds where a condition holds too
pub passes_where : (g c : ℕ) (a b : Picture) → Passes (g * c) a b → Passes g a b
passes_where g c a b first = record {
  idle = λ h. first.idle (rw h (omega arith));
  past = first.past;
  returned = first.returned;
}

-- ---- evaluations in order

module _ {A B : Type 0} (N : B → Type 0) (new : Picture) where
  after_ended : (M : A → Type 0) (mid : Picture) (next : A → State → Evaluated B) (r : Evaluated A) → Ended mid M r → (mid.past ≡ 1 → new.past ≡ 1) → ((x : A) (t : State) → Shows mid t → M x → Ended new N (next x t)) → Ended new N (after r next)
  after_ended M mid next (Gives x t) ended past rest = rest x t ended.0 ended.1
  after_ended M mid next (Past t) ended past rest = past ended

-- the next evaluation takes the value of the first
pub goes_on : {A B : Type 0} (g : ℕ) (a b c : Picture) (M : A → Type 0) (N : B → Type 0) (run : State → Evaluated A) (next : A → State → Evaluated B) →
    Goes g a b M run → Passes g b c → ((x : A) → M x → Goes g b c N (next x)) → Goes g a c N (λ s. after (run s) next)
goes_on g a b c M N run next first passes rest on s shows = after_ended N c M b next (run s) (first on s shows) passes.past (λ x t shown means. rest x means on t shown)

pub follows_on : {A B : Type 0} (g : ℕ) (a b c : Picture) (M : A → Type 0) (N : B → Type 0) (run : State → Evaluated A) (next : A → State → Evaluated B) →
    Follows g a b M run → Passes g b c → ((x : A) → M x → Goes g b c N (next x)) → Follows g a c N (λ s. after (run s) next)
follows_on g a b c M N run next first passes rest = (passes_on g a b c first.0 passes, goes_on g a b c M N run next first.1 passes rest)

-- an operation on the value that leaves the state as it is seen
pub follows_with : {A B : Type 0} (g : ℕ) (a b : Picture) (M : A → Type 0) (N : B → Type 0) (run : State → Evaluated A) (next : A → State → Evaluated B) →
    Follows g a b M run → ((x : A) (t : State) → M x → Shows b t → Ended b N (next x t)) → Follows g a b N (λ s. after (run s) next)
follows_with g a b M N run next first last = follows_on g a b b M N run next first (passes_still g b) (λ x means on t shown. last x t means shown)

-- ---- conditions

ended_more : {A : Type 0} (new : Picture) (M N : A → Type 0) (r : Evaluated A) → Ended new M r → ((x : A) → M x → N x) → Ended new N r
ended_more new M N (Gives x t) ended more = (ended.0, more x ended.1)
ended_more new M N (Past t) ended more = ended

module _ {A : Type 0} (g c : ℕ) (a b d : Picture) (M N L : A → Type 0) (yes no : State → Evaluated A) where
  by_condition : (truth : Bool) → IsTruth c truth → Follows (g * c) a b M yes → Follows (g * (1 - c)) b d N no → (c ≡ 1 → (x : A) → M x → L x) → (c ≡ 0 → (x : A) → N x → L x) → Goes g a d L (λ s. if truth then yes s else no s)
  by_condition true is first second m n on s shows =
      let still : d ≡ b = second.0.idle (rw (is, on) refl) in
      let ended : Ended b M (yes s) = first.1 (rw (is, on) refl) s shows in
      ended_more d M L (yes s) (subst (λ p. Ended p M (yes s)) (sym still) ended) (m is)
  by_condition false is first second m n on s shows =
      let still : b ≡ a = first.0.idle (rw (is, on) refl) in
      let shown : Shows b s = subst (λ p. Shows p s) (sym still) shows in
      ended_more d N L (no s) (second.1 (rw (is, on) refl) s shown) (n is)

  -- one of two evaluations by a truth, each under the guard and its condition
  pub follows_either : (truth : Bool) → IsTruth c truth → Follows (g * c) a b M yes → Follows (g * (1 - c)) b d N no → (c ≡ 1 → (x : A) → M x → L x) → (c ≡ 0 → (x : A) → N x → L x) → Goes g a d L (λ s. if truth then yes s else no s)
  follows_either = by_condition
