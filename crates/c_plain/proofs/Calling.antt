-- What a function is that is called by its number.
use Rattle.std.proofs.Common.{◌≡◌, ℕ, zero, suc, ◌+◌, ◌<◌, ◌≤◌, List, [], ◌∷◌, ◌++◌, get_or, take, length, refl, ◌∙◌, arith}
use Rattle.std.proofs.lemmas.List.{get_or_append_left, get_or_push, get_or_past, length_push}
use Rattle.c_meaning.specs.declared.programs.TypedFunction.{TypedFunction}
use Rattle.c_meaning.specs.Expressions.{Called}
use Rattle.c_meaning.specs.Programs.{called, calls_after}

module _ (structs : List ℕ) where
  abbrev meant : List Called → TypedFunction → Called
  meant before f = called (record { structs = structs; calls = before }) f

  longer : (before : List Called) (c : Called) → length (before ++ c ∷ []) ≡ length before + 1
  longer before c = length_push before c

  calls_stay : (before : List Called) (fs : List TypedFunction) (k : ℕ) (d : Called) → k < length before → get_or (calls_after structs before fs) k d ≡ get_or before k d
  calls_stay before [] k d h = refl
  calls_stay before (f ∷ fs) k d h =
      calls_stay (before ++ meant before f ∷ []) fs k d (omega (arith, longer before (meant before f)))
      ∙ get_or_append_left before (meant before f ∷ []) d k h

  calls_length : (before : List Called) (fs : List TypedFunction) → length (calls_after structs before fs) ≡ length before + length fs
  calls_length before [] = omega arith
  calls_length before (f ∷ fs) =
      let more : length (calls_after structs (before ++ meant before f ∷ []) fs) ≡ length (before ++ meant before f ∷ []) + length fs = calls_length (before ++ meant before f ∷ []) fs in
      omega (arith, more, longer before (meant before f))

  calls_at : (before : List Called) (fs : List TypedFunction) (k n : ℕ) (d : Called) (e : TypedFunction) → k < length fs → n ≡ length before + k → get_or (calls_after structs before fs) n d ≡ meant (calls_after structs before (take k fs)) (get_or fs k e)
  calls_at before [] k n d e h is = absurd (omega arith)
  calls_at before (f ∷ fs) zero n d e h is =
      calls_stay (before ++ meant before f ∷ []) fs n d (omega (arith, longer before (meant before f)))
      ∙ get_or_push before (meant before f) d n (omega arith)
  calls_at before (f ∷ fs) (suc k) n d e h is =
      calls_at (before ++ meant before f ∷ []) fs k n d e (omega arith) (omega (arith, longer before (meant before f)))

  -- it is the function of the number, by those that stand before it
  pub call_at : (fs : List TypedFunction) (k : ℕ) (d : Called) (e : TypedFunction) → k < length fs → get_or (calls_after structs [] fs) k d ≡ called (record { structs = structs; calls = calls_after structs [] (take k fs) }) (get_or fs k e)
  call_at fs k d e h = calls_at [] fs k k d e h (omega arith)

  -- a number after those of all functions
  pub call_none : (fs : List TypedFunction) (k : ℕ) (d : Called) → length fs ≤ k → get_or (calls_after structs [] fs) k d ≡ d
  call_none fs k d h = get_or_past (calls_after structs [] fs) k d (omega (arith, calls_length [] fs))
