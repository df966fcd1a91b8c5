-- The sizes of functions by their numbers.
use Rattle.std.proofs.Common.{◌≡◌, ℕ, zero, suc, ◌+◌, ◌<◌, ◌≤◌, ◌==◌, ◌&&◌, Bool, true, false, not, Option, None, Some, List, [], ◌∷◌, ◌++◌, get_or, map, take, length, refl, sym, ap, subst, ◌∙◌, arith, zero-add}
use Rattle.std.proofs.lemmas.List.{get_or_append_left, get_or_push, get_or_past, length_push}
use Rattle.c_meaning.specs.declared.types.ValueKind.{ValueKind}
use Rattle.c_meaning.specs.declared.programs.TypedFunction.{TypedFunction}
use Rattle.c_meaning.specs.declared.typed.TypedParts.{TypedParts}
use Rattle.std.proofs.lemmas.List.{length-map, length-take-le, get_or-map, get_or-take}
use Rattle.c_sizes.specs.declared.totals.Totals.{Totals}
use Rattle.c_sizes.specs.Totals.{totals_of}
use Rattle.c_sizes.specs.Views.{moved_to}
use Rattle.c_meaning.specs.Sizes.{nothing, Measure, moved_size, FunctionSize, no_function_size}
use Rattle.std.specs.List.{list_any}
use Rattle.std.proofs.Math.Seq.{take-length}
use Rattle.std.proofs.lemmas.List.{take_more, map_push}
use Rattle.c_meaning.specs.declared.types.Object.{Object}
use Rattle.c_meaning.specs.Uses.{assigned_by}
use Rattle.c_sizes.specs.Views.{IsTable, IsSized, params_of, assigned_of}
use Rattle.c_meaning.specs.SizeFolds.{function_size, functions_sized, kinds_in, is_pointer, steady_in}

module _ (program : TypedParts) where
  longer : (before : List FunctionSize) (c : FunctionSize) → length (before ++ c ∷ []) ≡ length before + 1
  longer before c = length_push before c

  stay : (before : List FunctionSize) (fs : List TypedFunction) (k : ℕ) (d : FunctionSize) → k < length before → get_or (functions_sized program before fs) k d ≡ get_or before k d
  stay before [] k d h = refl
  stay before (f ∷ fs) k d h =
      stay (before ++ function_size program before f ∷ []) fs k d (omega (arith, longer before (function_size program before f)))
      ∙ get_or_append_left before (function_size program before f ∷ []) d k h

  pub sized_length : (before : List FunctionSize) (fs : List TypedFunction) → length (functions_sized program before fs) ≡ length before + length fs
  sized_length before [] = omega arith
  sized_length before (f ∷ fs) =
      let more : length (functions_sized program (before ++ function_size program before f ∷ []) fs) ≡ length (before ++ function_size program before f ∷ []) + length fs = sized_length (before ++ function_size program before f ∷ []) fs in
      omega (arith, more, longer before (function_size program before f))

  -- the kinds of the parameters of a function by its number
  kinds_at : (before : List FunctionSize) (fs : List TypedFunction) (k n : ℕ) (d : FunctionSize) (e : TypedFunction) → k < length fs → n ≡ length before + k → (get_or (functions_sized program before fs) n d).parameters ≡ map (kinds_in program.objects) (get_or fs k e).params
  kinds_at before [] k n d e h is = absurd (omega arith)
  kinds_at before (f ∷ fs) zero n d e h is =
      ap (λ (s : FunctionSize). s.parameters)
      (stay (before ++ function_size program before f ∷ []) fs n d (omega (arith, longer before (function_size program before f)))
      ∙ get_or_push before (function_size program before f) d n (omega arith))
  kinds_at before (f ∷ fs) (suc k) n d e h is =
      kinds_at (before ++ function_size program before f ∷ []) fs k n d e (omega arith) (omega (arith, longer before (function_size program before f)))

  pub parameters_at : (fs : List TypedFunction) (k : ℕ) (d : FunctionSize) (e : TypedFunction) → k < length fs → (get_or (functions_sized program [] fs) k d).parameters ≡ map (kinds_in program.objects) (get_or fs k e).params
  parameters_at fs k d e h = kinds_at [] fs k k d e h (omega arith)

  -- one more function
  pub sized_push : (before : List FunctionSize) (fs : List TypedFunction) (f : TypedFunction) → functions_sized program before (fs ++ f ∷ []) ≡ functions_sized program before fs ++ function_size program (functions_sized program before fs) f ∷ []
  sized_push before [] f = refl
  sized_push before (g ∷ fs) f = sized_push (before ++ function_size program before g ∷ []) fs f

-- ---- what calls hold

-- the size of a function that stands before
pub size_at : (sizes : List Totals) (before : List FunctionSize) (k : ℕ) (d : Totals) → sizes ≡ map (λ f. totals_of f.size) before → k < length sizes → get_or sizes k d ≡ totals_of (get_or before k no_function_size).size
size_at sizes before k d e h =
    let same : length sizes ≡ length before = ap length e ∙ length-map before (λ f. totals_of f.size) in
    ap (λ (some : List Totals). get_or some k d) e ∙ get_or-map (λ (f : FunctionSize). totals_of f.size) before k no_function_size d (omega (arith, h, same))

pub size_none : (sizes : List Totals) (before : List FunctionSize) (k : ℕ) → sizes ≡ map (λ f. totals_of f.size) before → length sizes ≤ k → totals_of nothing ≡ totals_of (get_or before k no_function_size).size
size_none sizes before k e h =
    let same : length sizes ≡ length before = ap length e ∙ length-map before (λ f. totals_of f.size) in
    ap (λ (f : FunctionSize). totals_of f.size) (sym (get_or_past before k no_function_size (omega (arith, h, same))))

-- the parameters of a function that stands before
pub params_at : (program : TypedParts) (n k : ℕ) (e : TypedFunction) → n ≤ length program.functions → k < n → map (kinds_in program.objects) (get_or program.functions k e).params ≡ (get_or (functions_sized program [] (take n program.functions)) k no_function_size).parameters
params_at program n k e few h =
    let so : length (take n program.functions) ≡ n = length-take-le n program.functions few in
    sym (parameters_at program (take n program.functions) k no_function_size e (omega (arith, so, h))
    ∙ ap (λ (g : TypedFunction). map (kinds_in program.objects) g.params) (get_or-take n program.functions k e h))

pub params_none : (program : TypedParts) (n k : ℕ) → n ≤ length program.functions → n ≤ k → [] ≡ (get_or (functions_sized program [] (take n program.functions)) k no_function_size).parameters
params_none program n k few h =
    let so : length (take n program.functions) ≡ n = length-take-le n program.functions few in
    let all : length (functions_sized program [] (take n program.functions)) ≡ 0 + length (take n program.functions) = sized_length program [] (take n program.functions) in
    ap (λ (f : FunctionSize). f.parameters) (sym (get_or_past (functions_sized program [] (take n program.functions)) k no_function_size (omega (arith, so, all, h))))

-- the parameter at a place
pub moved_at : (m : Measure) (kinds : ℕ → ValueKind) (params : List ℕ) (i : ℕ) → i < length params → moved_to m (map kinds params) i ≡ moved_size m (kinds (get_or params i 0))
moved_at m kinds [] i h = absurd (omega arith)
moved_at m kinds (p ∷ ps) zero h = refl
moved_at m kinds (p ∷ ps) (suc i) h = moved_at m kinds ps i (omega arith)

pub moved_none : (m : Measure) (kinds : ℕ → ValueKind) (params : List ℕ) (i : ℕ) → length params ≤ i → moved_to m (map kinds params) i ≡ nothing
moved_none m kinds [] i h = refl
moved_none m kinds (p ∷ ps) zero h = absurd (omega arith)
moved_none m kinds (p ∷ ps) (suc i) h = moved_none m kinds ps i (omega arith)

-- ---- parameters of `mpc_main` that always point to the first element of their array

pointer_within : (objects : List Object) (k : ℕ) → is_pointer (kinds_in objects k) ≡ true → k < length objects
pointer_within [] k e = cc
pointer_within (o ∷ os) zero e = omega arith
pointer_within (o ∷ os) (suc k) e = let h : k < length os = pointer_within os k e in omega arith

all_none : (a b : Bool) → (a && false && not b) ≡ false
all_none true b = refl
all_none false b = refl

not_steady : (objects : List Object) (main : Option TypedFunction) (k : ℕ) → is_pointer (kinds_in objects k) ≡ false → steady_in objects main k ≡ false
not_steady objects None k e = refl
not_steady objects (Some main) k e = ap (λ (b : Bool). b && list_any (λ j. k == j) main.params && not (list_any (λ j. k == j) (assigned_by main.body))) e

steady_case : (objects : List Object) (main : Option TypedFunction) (k : ℕ) (a b : Bool) → a ≡ list_any (λ j. k == j) (params_of main) → b ≡ list_any (λ j. k == j) (assigned_of main) → (is_pointer (kinds_in objects k) && a && not b) ≡ steady_in objects main k
steady_case objects None k a b e f =
    ap (λ (x : Bool). is_pointer (kinds_in objects k) && x && not b) e ∙ all_none (is_pointer (kinds_in objects k)) b
steady_case objects (Some main) k a b e f =
    ap (λ (x : Bool). is_pointer (kinds_in objects k) && x && not b) e ∙ ap (λ (x : Bool). is_pointer (kinds_in objects k) && list_any (λ j. k == j) main.params && not x) f

pub steady_at : (objects : List Object) (main : Option TypedFunction) (params assigned : List Bool) (k : ℕ) → IsTable objects params (params_of main) → IsTable objects assigned (assigned_of main) → (is_pointer (kinds_in objects k) && get_or params k false && not (get_or assigned k false)) ≡ steady_in objects main k
steady_at objects main params assigned k p a =
    elim (is_pointer (kinds_in objects k)) as (λ b. is_pointer (kinds_in objects k) ≡ b → (is_pointer (kinds_in objects k) && get_or params k false && not (get_or assigned k false)) ≡ steady_in objects main k) [
      | true ↦ λ e. let h : k < length objects = pointer_within objects k e in steady_case objects main k (get_or params k false) (get_or assigned k false) (p k h) (a k h)
      | false ↦ λ e. ap (λ (b : Bool). b && get_or params k false && not (get_or assigned k false)) e ∙ sym (not_steady objects main k e)
    ] refl

pub steady_by : (objects : List Object) (main : Option TypedFunction) (params assigned : List Bool) (k : ℕ) (p a b : Bool) → IsTable objects params (params_of main) → IsTable objects assigned (assigned_of main) → p ≡ is_pointer (kinds_in objects k) → a ≡ get_or params k false → b ≡ get_or assigned k false → (p && a && not b) ≡ steady_in objects main k
steady_by objects main params assigned k p a b x y e f g =
    ap (λ (v : Bool). v && a && not b) e ∙ ap (λ (v : Bool). is_pointer (kinds_in objects k) && v && not b) f
    ∙ ap (λ (v : Bool). is_pointer (kinds_in objects k) && get_or params k false && not v) g
    ∙ steady_at objects main params assigned k x y

-- ---- one more function

pub length_sized : (program : TypedParts) (n : ℕ) (sizes : List Totals) → n ≤ length program.functions → IsSized program n sizes → length sizes ≡ n
length_sized program n sizes few e =
    let all : length (functions_sized program [] (take n program.functions)) ≡ 0 + length (take n program.functions) = sized_length program [] (take n program.functions) in
    ap length e ∙ length-map (functions_sized program [] (take n program.functions)) (λ f. totals_of f.size) ∙ all ∙ zero-add (length (take n program.functions)) ∙ length-take-le n program.functions few

pub sized_now : (program : TypedParts) (n : ℕ) (sizes : List Totals) → n ≤ length program.functions → IsSized program n sizes → IsSized program (length sizes) sizes
sized_now program n sizes few e = let P : ℕ → Type 0 = λ k. IsSized program k sizes in subst P (sym (length_sized program n sizes few e)) e

pub sizes_push : (program : TypedParts) (i n : ℕ) (f : TypedFunction) (sizes : List Totals) (one : Totals) → i < length program.functions → f ≡ get_or program.functions i f → IsSized program i sizes → n ≡ i → one ≡ totals_of (function_size program (functions_sized program [] (take n program.functions)) f).size → IsSized program (i + 1) (sizes ++ one ∷ [])
sizes_push program i n f sizes one h is e same g =
    let before : List FunctionSize = functions_sized program [] (take i program.functions) in
    let size : FunctionSize → Totals = λ f. totals_of f.size in
    ap (λ (some : List Totals). some ++ one ∷ []) e
    ∙ ap (λ (t : Totals). map size before ++ t ∷ []) (g ∙ ap (λ (k : ℕ). totals_of (function_size program (functions_sized program [] (take k program.functions)) f).size) same)
    ∙ sym (map_push size before (function_size program before f))
    ∙ sym (ap (map size) (ap (functions_sized program []) (take_more program.functions i f h ∙ ap (λ g. take i program.functions ++ g ∷ []) (sym is)) ∙ sized_push program [] (take i program.functions) f))

pub sized_all : (program : TypedParts) (k : ℕ) (d : FunctionSize) (n : ℕ) → n ≡ length program.functions → get_or (functions_sized program [] (take n program.functions)) k d ≡ get_or (functions_sized program [] program.functions) k d
sized_all program k d n e = ap (λ (fs : List TypedFunction). get_or (functions_sized program [] fs) k d) (ap (λ (m : ℕ). take m program.functions) e ∙ take-length program.functions)

-- the sizes of the first functions as a call holds them
pub sized_as : (program : TypedParts) (n : ℕ) (sizes now : List Totals) → n ≤ length program.functions → IsSized program n sizes → now ≡ sizes → IsSized program (length now) now
sized_as program n sizes now few e same = let P : List Totals → Type 0 = λ xs. IsSized program (length xs) xs in subst P (sym same) (sized_now program n sizes few e)

pub few_as : (program : TypedParts) (n : ℕ) (sizes now : List Totals) → n ≤ length program.functions → IsSized program n sizes → now ≡ sizes → length now ≤ length program.functions
few_as program n sizes now few e same = let is : length now ≡ n = ap length same ∙ length_sized program n sizes few e in omega (arith, few, is)
