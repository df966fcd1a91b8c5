-- The cells of structs, each by those before it.
use Rattle.std.proofs.Common.{◌≡◌, ℕ, zero, suc, ◌+◌, ◌-◌, ◌<◌, ◌≤◌, None, Some, List, [], ◌∷◌, ◌++◌, append_assoc, take, drop, length, get_or, slice_get, ap, sym, subst, ◌∙◌, refl, arith}
use Rattle.std.proofs.Math.Seq.{take-append_seam, get_or-append_seam, take-length}
use Rattle.std.proofs.lemmas.List.{get_or-take, length-take, drop_more, drop_all, append-nil, length_push}
use Rattle.hy_bits.specs.declared.scalar.Scalar.{Scalar}
use Rattle.c_meaning.specs.declared.types.Member.{Member}
use Rattle.c_meaning.specs.declared.types.StructType.{StructType}
use Rattle.c_meaning.specs.Types.{repeated, scalars_of, member_scalars, scalars_after, struct_scalars}
use Rattle.c_shapes.proofs.ShapeLaws.{min_is, none_past}

-- what is added to the cells before
abbrev pub later : List (List Scalar) → List StructType → List (List Scalar)
later before [] = []
later before (s ∷ ss) = member_scalars before s.members ∷ later (before ++ member_scalars before s.members ∷ []) ss

after_is : (before : List (List Scalar)) (ss : List StructType) → scalars_after before ss ≡ before ++ later before ss
after_is before [] = sym (append-nil before)
after_is before (s ∷ ss) =
    let x = member_scalars before s.members in
    after_is (before ++ x ∷ []) ss ∙ append_assoc before (x ∷ []) (later (before ++ x ∷ []) ss)

first_is : (before : List (List Scalar)) (s : StructType) (ss : List StructType)
    → get_or (scalars_after before (s ∷ ss)) (length before) [] ≡ member_scalars (take (length before) (scalars_after before (s ∷ ss))) s.members
first_is before s ss =
    let x = member_scalars before s.members in
    let rest = later (before ++ x ∷ []) ss in
    let whole : scalars_after before (s ∷ ss) ≡ before ++ x ∷ rest = after_is before (s ∷ ss) in
    ap (λ (all : List (List Scalar)). get_or all (length before) []) whole
    ∙ get_or-append_seam before x rest []
    ∙ sym (ap (λ (all : List (List Scalar)). member_scalars (take (length before) all) s.members) whole
    ∙ ap (λ (all : List (List Scalar)). member_scalars all s.members) (take-append_seam before (x ∷ rest)))

at_is : (before : List (List Scalar)) (ss : List StructType) (k at : ℕ) (s : StructType) → at ≡ length before + k → slice_get ss k ≡ Some s
    → get_or (scalars_after before ss) at [] ≡ member_scalars (take at (scalars_after before ss)) s.members
at_is before [] k at s is h = absurd (cc)
at_is before (first ∷ ss) zero at s is h =
    let same : first ≡ s = cc in
    let here : at ≡ length before = omega (arith, is) in
    subst (λ (n : ℕ). get_or (scalars_after before (first ∷ ss)) n [] ≡ member_scalars (take n (scalars_after before (first ∷ ss))) s.members) (sym here)
    (subst (λ (of : StructType). get_or (scalars_after before (first ∷ ss)) (length before) [] ≡ member_scalars (take (length before) (scalars_after before (first ∷ ss))) of.members) same (first_is before first ss))
at_is before (first ∷ ss) (suc k) at s is h =
    let x = member_scalars before first.members in
    at_is (before ++ x ∷ []) ss k at s (omega (arith, is, length_push before x)) h

-- the cells of a struct by those before it, where more of them may be looked at
pub scalars_at : (structs : List StructType) (below number : ℕ) (s : StructType) → number < below → slice_get structs number ≡ Some s
    → get_or (take below (struct_scalars structs)) number [] ≡ member_scalars (take number (struct_scalars structs)) s.members
scalars_at structs below number s h stands = get_or-take below (struct_scalars structs) number [] h ∙ at_is [] structs number number s (omega arith) stands

length_later : (before : List (List Scalar)) (ss : List StructType) → length (later before ss) ≡ length ss
length_later before [] = refl
length_later before (s ∷ ss) = ap suc (length_later (before ++ member_scalars before s.members ∷ []) ss)

past : {A : Type 0} (xs : List (List A)) (i : ℕ) → length xs ≤ i → get_or xs i [] ≡ []
past [] i h = refl
past (x ∷ xs) zero h = absurd (omega (arith, h))
past (x ∷ xs) (suc i) h = past xs i (omega (arith, h))

-- no struct has the number
pub nothing_at : (structs : List StructType) (below number : ℕ) → slice_get structs number ≡ None → get_or (take below (struct_scalars structs)) number [] ≡ []
nothing_at structs below number h =
    past (take below (struct_scalars structs)) number
    (omega (arith, none_past structs number h, length-take below (struct_scalars structs), ap length (after_is [] structs), length_later [] structs, min_is below (length (struct_scalars structs))))

-- it isn't among those that are looked at
pub nothing_after : (structs : List StructType) (below number : ℕ) → below ≤ number → get_or (take below (struct_scalars structs)) number [] ≡ []
nothing_after structs below number h =
    past (take below (struct_scalars structs)) number (omega (arith, h, length-take below (struct_scalars structs), min_is below (length (struct_scalars structs))))

pub all_scalars : (structs : List StructType) → take (length structs) (struct_scalars structs) ≡ struct_scalars structs
all_scalars structs =
    let n : length (struct_scalars structs) ≡ length structs = ap length (after_is [] structs) ∙ length_later [] structs in
    subst (λ (k : ℕ). take k (struct_scalars structs) ≡ struct_scalars structs) n (take-length (struct_scalars structs))

-- ---- one more element or member

pub one_more : {A : Type 0} (before items : List A) (count done : ℕ) → done < count → (before ++ items) ++ repeated (count - (done + 1)) items ≡ before ++ repeated (count - done) items
one_more before items count done h =
    let more : count - done ≡ suc (count - (done + 1)) = omega (arith, h) in
    append_assoc before items (repeated (count - (done + 1)) items) ∙ ap (λ (n : ℕ). before ++ repeated n items) (sym more)

pub member_next : (structs : List (List Scalar)) (members : List Member) (i : ℕ) (member : Member) (before : List Scalar) → i < length members → member ≡ get_or members i member
    → (before ++ scalars_of structs member.ctype) ++ member_scalars structs (drop (i + 1) members) ≡ before ++ member_scalars structs (drop i members)
member_next structs members i member before within is =
    append_assoc before (scalars_of structs member.ctype) (member_scalars structs (drop (i + 1) members))
    ∙ ap (λ (m : Member). before ++ (scalars_of structs m.ctype ++ member_scalars structs (drop (i + 1) members))) is
    ∙ ap (λ (left : List Member). before ++ member_scalars structs left) (sym (drop_more members i member within))

pub members_done : (structs : List (List Scalar)) (members : List Member) (i : ℕ) (before : List Scalar) → length members ≤ i → before ++ member_scalars structs (drop i members) ≡ before
members_done structs members i before h = ap (λ (left : List Member). before ++ member_scalars structs left) (drop_all i members h) ∙ append-nil before
