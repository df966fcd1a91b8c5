-- Laws of homes: an entry more has one home more.
use Rattle.std.proofs.Common.{◌≡◌, ℕ, ◌+◌, ◌<◌, ◌≤◌, List, [], ◌∷◌, ◌++◌, drop, get_or, take, length, refl, sym, ap, ◌∙◌, arith}
use Rattle.std.specs.List.{All}
use Rattle.std.proofs.lemmas.List.{get_or_append_left, get_or_push, length-take-le, length_push, take-append-drop, take_more}
use Rattle.word_graph.specs.declared.entry.Entry.{Entry}
use Rattle.module_split.specs.declared.homes.Home.{Home}
use Rattle.module_split.specs.declared.homes.Home.TheVariants.{Input, Constant, Inside}
use Rattle.module_split.specs.Homes.{IsLow, home_at, home_of, homes_after, homes_of}

homes_after-push : (layers : ℕ) (homes : List Home) (es : List Entry) (e : Entry) → homes_after layers homes (es ++ e ∷ []) ≡ homes_after layers homes es ++ home_of layers (homes_after layers homes es) e ∷ []
unfolding homes_after
homes_after-push layers homes [] e = refl
homes_after-push layers homes (x ∷ es) e = homes_after-push layers (homes ++ home_of layers homes x ∷ []) es e

pub homes_of-more : (layers : ℕ) (es : List Entry) (i : ℕ) (d : Entry) → i < length es → homes_of layers (take (i + 1) es) ≡ homes_of layers (take i es) ++ home_of layers (homes_of layers (take i es)) (get_or es i d) ∷ []
homes_of-more layers es i d within = ap (homes_of layers) (take_more es i d within) ∙ homes_after-push layers [] (take i es) (get_or es i d)

-- earlier homes stay
homes_after-grows : (layers : ℕ) (homes : List Home) (es : List Entry) (k : ℕ) (d : Home) → k < length homes → get_or (homes_after layers homes es) k d ≡ get_or homes k d
unfolding homes_after
homes_after-grows layers homes [] k d within = refl
homes_after-grows layers homes (e ∷ es) k d within =
    homes_after-grows layers (homes ++ home_of layers homes e ∷ []) es k d (omega (arith, length_push homes (home_of layers homes e)))
    ∙ get_or_append_left homes (home_of layers homes e ∷ []) d k within

homes_after-append : (layers : ℕ) (homes : List Home) (es fs : List Entry) → homes_after layers homes (es ++ fs) ≡ homes_after layers (homes_after layers homes es) fs
unfolding homes_after
homes_after-append layers homes [] fs = refl
homes_after-append layers homes (e ∷ es) fs = homes_after-append layers (homes ++ home_of layers homes e ∷ []) es fs

pub length-homes_after : (layers : ℕ) (homes : List Home) (es : List Entry) → length (homes_after layers homes es) ≡ length homes + length es
unfolding homes_after
length-homes_after layers homes [] = omega arith
length-homes_after layers homes (e ∷ es) = omega (arith, length-homes_after layers (homes ++ home_of layers homes e ∷ []) es, length_push homes (home_of layers homes e))

IsLow-more : (layers : ℕ) (h : Home) → layers ≤ 64 → IsLow layers h → IsLow 64 h
IsLow-more layers Input few low = tt
IsLow-more layers Constant few low = tt
IsLow-more layers (Inside g) few low = omega arith

pub All-IsLow-more : (layers : ℕ) (homes : List Home) → layers ≤ 64 → All (IsLow layers) homes → All (IsLow 64) homes
All-IsLow-more layers homes few low k d within = IsLow-more layers (get_or homes k d) few (low k d within)

-- the home of a node is that over the nodes before it
pub home_at-place : (layers : ℕ) (es : List Entry) (k : ℕ) (d : Entry) → k < length es → home_at (homes_of layers es) k ≡ home_of layers (homes_of layers (take k es)) (get_or es k d)
home_at-place layers es k d within =
    let so_far : List Home = homes_of layers (take k es) in
    let long : length so_far ≡ k = omega (arith, length-homes_after layers [] (take k es), length-take-le k es) in
    let more : length (homes_of layers (take (k + 1) es)) ≡ k + 1 = omega (arith, length-homes_after layers [] (take (k + 1) es), length-take-le (k + 1) es) in
    let last : home_at (homes_of layers (take (k + 1) es)) k ≡ home_of layers so_far (get_or es k d) =
    ap (λ (hs : List Home). home_at hs k) (homes_of-more layers es k d within) ∙ get_or_push so_far (home_of layers so_far (get_or es k d)) Constant k long in
    ap (λ (fs : List Entry). home_at (homes_of layers fs) k) (sym (take-append-drop (k + 1) es))
    ∙ ap (λ (hs : List Home). home_at hs k) (homes_after-append layers [] (take (k + 1) es) (drop (k + 1) es))
    ∙ homes_after-grows layers (homes_of layers (take (k + 1) es)) (drop (k + 1) es) k Constant (omega (arith, more))
    ∙ last

-- the home of a node is the same over more nodes
pub home_at-earlier : (layers : ℕ) (es : List Entry) (a u : ℕ) → a < u → u ≤ length es → home_at (homes_of layers (take u es)) a ≡ home_at (homes_of layers es) a
home_at-earlier layers es a u less within =
    sym (ap (λ (fs : List Entry). home_at (homes_of layers fs) a) (sym (take-append-drop u es))
    ∙ ap (λ (hs : List Home). home_at hs a) (homes_after-append layers [] (take u es) (drop u es))
    ∙ homes_after-grows layers (homes_of layers (take u es)) (drop u es) a Constant (omega (arith, length-homes_after layers [] (take u es), length-take-le u es within)))
