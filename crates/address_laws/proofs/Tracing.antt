-- Walks beside scans, one after another.
use Rattle.std.proofs.Common.{◌≡◌, ◌++◌, ℕ, Option, None, Some, List, [], ◌∷◌, map, ap, sym, subst, ◌∙◌, refl}
use Rattle.c_addresses.specs.declared.scan.Scanning.{Scanning}
use Rattle.c_addresses.specs.Scans.{Scan, in_turn}
use Rattle.c_typing.specs.declared.environment.Environment.{Environment}
use Rattle.c_typing.specs.declared.values.TypedValue.{TypedValue}
use Rattle.c_typing.specs.declared.values.Typing.{Typing}
use Rattle.c_typing.specs.Walks.{Checked, Breaks, Passes, Walk, after, each, along}
use Rattle.c_typing.specs.Values.{value_of}
use Rattle.c_typing.specs.Expressions.{ExprWalk, valued}
use Rattle.typing_laws.specs.Passing.{Passing}
use Rattle.expression_laws.specs.Keeping.{Each, Stays}
use Rattle.expression_laws.proofs.Steps.{passing-weaker}
use Rattle.address_laws.specs.Following.{Outside, Follows, IsTaken, Traced, Traces, TracesOver, Beside}
use Rattle.address_laws.specs.Taking.{nothing_taken, typing_takes, value_takes, values_take}
use Rattle.address_laws.proofs.Lists.{each-weaker, each-append}
use Rattle.address_laws.proofs.Values.{value-taken}

module _ (o : Outside) where
  -- what was taken is taken still
  pub still-taken : (s : Scanning) (env : Environment) (t : Scanning) (new : Environment) (ks : List ℕ) → ((k : ℕ) → IsTaken o s env k → IsTaken o t new k) → Each (IsTaken o s env) ks → Each (IsTaken o t new) ks
  still-taken s env t new ks kept h = each-weaker (IsTaken o s env) (IsTaken o t new) ks kept h

  pub traced-same : {A : Type 0} (takes : A → List ℕ) (s : Scanning) (env : Environment) (a : A) → Follows o s env → Each (IsTaken o s env) (takes a) → Traced o s env takes s a env
  traced-same takes s env a f h = (f, refl, (λ k t. t), h)

  -- a walk that declares nothing
  pub traced-in : {A : Type 0} (takes : A → List ℕ) (s : Scanning) (env : Environment) (c : Checked A) → Follows o s env → Passing (Stays (λ e a. Each (IsTaken o s env) (takes a)) env) c → Passing (Traced o s env takes s) c
  traced-in takes s env (Breaks kind place) f h = tt
  traced-in takes s env (Passes a new) f h = subst (λ (e : Environment). Traced o s env takes s a e) (sym h.0) (traced-same takes s env a f h.1)

  pub traced-after : {A B : Type 0} (ta : A → List ℕ) (tb : B → List ℕ) (s : Scanning) (env : Environment) (c : Checked A) (next : A → Walk B) (t u : Scanning) → Passing (Traced o s env ta t) c
      → ((a : A) (new : Environment) → Traced o s env ta t a new → Passing (Traced o t new tb u) (next a new)) → Passing (Traced o s env tb u) (after c next)
  traced-after ta tb s env (Breaks kind place) next t u h onward = tt
  traced-after ta tb s env (Passes a new) next t u h onward =
      passing-weaker (Traced o t new tb u) (Traced o s env tb u) (next a new) (λ b last r. (r.0, r.1 ∙ h.1, (λ k q. r.2 k (h.2 k q)), r.3)) (onward a new h)

  -- what is found is changed, and nothing else
  pub traced-with : {A B : Type 0} (ta : A → List ℕ) (tb : B → List ℕ) (s : Scanning) (env : Environment) (c : Checked A) (f : Environment → A → B) (t : Scanning) → Passing (Traced o s env ta t) c
      → ((a : A) (new : Environment) → Each (IsTaken o t new) (ta a) → Each (IsTaken o t new) (tb (f new a))) → Passing (Traced o s env tb t) (after c (λ a env. Passes (f env a) env))
  traced-with ta tb s env (Breaks kind place) f t h onward = tt
  traced-with ta tb s env (Passes a new) f t h onward = (h.0, h.1, h.2, onward a new h.3)

  pub along-traced : {A : Type 0} (takes : A → List ℕ) (walks : List (A → Walk A)) (scans : List Scan) → Beside (TracesOver o takes) walks scans → TracesOver o takes (along walks) (in_turn scans)
  along-traced takes [] [] h = λ a s env f t. traced-same takes s env a f t
  along-traced takes [] (x ∷ scans) h = absurd h
  along-traced takes (walk ∷ walks) [] h = absurd h
  along-traced takes (walk ∷ walks) (x ∷ scans) h = λ a s env f t.
      traced-after takes takes s env (walk a env) (λ b env. along walks b env) (x s) (in_turn scans (x s)) (h.0 a s env f t) (λ b new r. along-traced takes walks scans h.1 b (x s) new r.0 r.3)

  pub each-traced : {A : Type 0} (walks : List (Walk A)) (scans : List Scan) → Beside (λ walk x. Traces o nothing_taken x walk) walks scans → Traces o nothing_taken (in_turn scans) (each walks)
  each-traced {A} [] [] h = λ s env f. traced-same {A = List A} nothing_taken s env [] f tt
  each-traced [] (x ∷ scans) h = absurd h
  each-traced (walk ∷ walks) [] h = absurd h
  each-traced (walk ∷ walks) (x ∷ scans) h = λ s env f.
      traced-after nothing_taken nothing_taken s env (walk env) (λ a env. after (each walks env) (λ rest env. Passes (a ∷ rest) env)) (x s) (in_turn scans (x s)) (h.0 s env f)
      (λ a new r. traced-with nothing_taken nothing_taken (x s) new (each walks new) (λ env rest. a ∷ rest) (in_turn scans (x s)) (each-traced walks scans h.1 (x s) new r.0) (λ rest last q. tt))

  pub valued-traced : (e : ExprWalk) (x : Scan) → Traces o typing_takes x e.walk → Traces o value_takes x (valued e)
  valued-traced e x h = λ s env f.
      traced-with typing_takes value_takes s env (e.walk env) (λ env t. value_of env.structs t) (x s) (h s env f) (λ t new q. value-taken (IsTaken o (x s) new) new.structs t q)

  -- one value before others
  pub passing-one : (a : TypedValue) (s : Scanning) (env : Environment) (t : Scanning) (c : Checked (List TypedValue)) → Each (IsTaken o s env) (value_takes a) → Passing (Traced o s env values_take t) c
      → Passing (Traced o s env values_take t) (after c (λ rest env. Passes (a ∷ rest) env))
  passing-one a s env t (Breaks kind place) h k = tt
  passing-one a s env t (Passes rest new) h k =
      (k.0, k.1, k.2, each-append (IsTaken o t new) (value_takes a) (values_take rest) (still-taken s env t new (value_takes a) k.2 h) k.3)
