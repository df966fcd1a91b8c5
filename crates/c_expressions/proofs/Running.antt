-- Walks along lists, by what is left of them.
use Rattle.std.proofs.Common.{◌≡◌, ℕ, ◌+◌, ◌<◌, ◌≤◌, List, [], ◌∷◌, ◌++◌, append_assoc, map, drop, get_or, length, ap, sym, ◌∙◌, refl}
use Rattle.std.proofs.lemmas.List.{drop_more, drop_all, append-nil}
use Rattle.c_tree.specs.declared.token.Place.{Place}
use Rattle.c_conversions.specs.declared.fault.TypeKind.{TypeKind}
use Rattle.c_typing.specs.declared.environment.Environment.{Environment}
use Rattle.c_typing.specs.Walks.{Checked, Breaks, Passes, Walk, after, along, each, tells_fault}
use Rattle.c_typing.proofs.WalkLaws.{tells_after, tells_same}

left_at : {X : Type 0} (xs : List X) (i : ℕ) (x : X) → i < length xs → x ≡ get_or xs i x → drop i xs ≡ x ∷ drop (i + 1) xs
left_at xs i x h is = drop_more xs i x h ∙ ap (λ (y : _). y ∷ drop (i + 1) xs) (sym is)

module _ {X A : Type 0} (f : X → A → Walk A) (xs : List X) (i : ℕ) (x : X) (a : A) (env : Environment) (within : i < length xs) (is : x ≡ get_or xs i x) where
  along_next : along (map f (drop i xs)) a env ≡ after (f x a env) (λ b env. along (map f (drop (i + 1) xs)) b env)
  along_next = ap (λ (left : List X). along (map f left) a env) (left_at xs i x within is)

  pub along_passes : (b : A) (env' : Environment) (whole : Checked A) → along (map f (drop i xs)) a env ≡ whole → f x a env ≡ Passes b env' → along (map f (drop (i + 1) xs)) b env' ≡ whole
  along_passes b env' whole so fits =
      sym (along_next ∙ ap (λ (c : Checked A). after c (λ b env. along (map f (drop (i + 1) xs)) b env)) fits) ∙ so

  pub along_breaks : (k : TypeKind) (place : Place) (whole : Checked A) → along (map f (drop i xs)) a env ≡ whole → tells_fault k place (f x a env) → tells_fault k place whole
  along_breaks k place whole so broken =
      tells_same k place whole (along (map f (drop i xs)) a env) (sym so)
      (tells_same k place (along (map f (drop i xs)) a env) (after (f x a env) (λ b env. along (map f (drop (i + 1) xs)) b env)) along_next
      (tells_after k place (f x a env) (λ b env. along (map f (drop (i + 1) xs)) b env) broken))

pub along_done : {X A : Type 0} (f : X → A → Walk A) (xs : List X) (i : ℕ) (a : A) (env : Environment) (whole : Checked A) → length xs ≤ i → along (map f (drop i xs)) a env ≡ whole → whole ≡ Passes a env
along_done f xs i a env whole h so = sym so ∙ ap (λ (left : List _). along (map f left) a env) (drop_all i xs h)

-- ---- lists of results

abbrev pub each_after : {A : Type 0} → List A → Checked (List A) → Checked (List A)
each_after before checked = after checked (λ all env. Passes (before ++ all) env)

pushed : {A : Type 0} (before : List A) (a : A) (left : Checked (List A)) → each_after (before ++ a ∷ []) left ≡ each_after before (after left (λ rest env. Passes (a ∷ rest) env))
pushed before a (Breaks kind place) = refl
pushed before a (Passes rest env) = ap (λ (all : List _). Passes all env) (append_assoc before (a ∷ []) rest)

module _ {X A : Type 0} (f : X → Walk A) (xs : List X) (i : ℕ) (x : X) (env : Environment) (before : List A) (within : i < length xs) (is : x ≡ get_or xs i x) where
  each_next : each (map f (drop i xs)) env ≡ after (f x env) (λ a env. after (each (map f (drop (i + 1) xs)) env) (λ rest env. Passes (a ∷ rest) env))
  each_next = ap (λ (left : List X). each (map f left) env) (left_at xs i x within is)

  pub each_passes : (a : A) (env' : Environment) (whole : Checked (List A)) → each_after before (each (map f (drop i xs)) env) ≡ whole → f x env ≡ Passes a env' → each_after (before ++ a ∷ []) (each (map f (drop (i + 1) xs)) env') ≡ whole
  each_passes a env' whole so fits =
      pushed before a (each (map f (drop (i + 1) xs)) env')
      ∙ ap (each_after before) (sym (each_next ∙ ap (λ (c : Checked A). after c (λ a env. after (each (map f (drop (i + 1) xs)) env) (λ rest env. Passes (a ∷ rest) env))) fits))
      ∙ so

  pub each_breaks : (k : TypeKind) (place : Place) (whole : Checked (List A)) → each_after before (each (map f (drop i xs)) env) ≡ whole → tells_fault k place (f x env) → tells_fault k place whole
  each_breaks k place whole so broken =
      tells_same k place whole (each_after before (each (map f (drop i xs)) env)) (sym so)
      (tells_after k place (each (map f (drop i xs)) env) (λ all env. Passes (before ++ all) env)
      (tells_same k place (each (map f (drop i xs)) env) (after (f x env) (λ a env. after (each (map f (drop (i + 1) xs)) env) (λ rest env. Passes (a ∷ rest) env))) each_next
      (tells_after k place (f x env) (λ a env. after (each (map f (drop (i + 1) xs)) env) (λ rest env. Passes (a ∷ rest) env)) broken)))

pub each_done : {X A : Type 0} (f : X → Walk A) (xs : List X) (i : ℕ) (env : Environment) (before : List A) (whole : Checked (List A)) → length xs ≤ i → each_after before (each (map f (drop i xs)) env) ≡ whole → whole ≡ Passes before env
each_done f xs i env before whole h so =
    sym so ∙ ap (λ (left : List _). each_after before (each (map f left) env)) (drop_all i xs h) ∙ ap (λ (all : List _). Passes all env) (append-nil before)

pub nothing_before : {A : Type 0} (left : Checked (List A)) → each_after [] left ≡ left
nothing_before (Breaks kind place) = refl
nothing_before (Passes all env) = refl

pub map_both : {X Y Z : Type 0} (f : X → Y) (g : Y → Z) (xs : List X) → map g (map f xs) ≡ map (λ x. g (f x)) xs
map_both f g [] = refl
map_both f g (x ∷ xs) = ap (λ (rest : List _). g (f x) ∷ rest) (map_both f g xs)
