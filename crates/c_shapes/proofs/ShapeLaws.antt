-- The shapes of structs, each by those before it.
use Rattle.std.proofs.Common.{◌≡◌, ℕ, zero, suc, ◌+◌, ◌<◌, ◌≤◌, Option, None, Some, option_map, min, List, [], ◌∷◌, ◌++◌, append_assoc, take, drop, length, get_or, slice_get, ap, sym, subst, ◌∙◌, refl, arith}
use Rattle.std.proofs.Math.Seq.{take-append_seam, get_or-append_seam, take-length}
use Rattle.std.proofs.lemmas.List.{get_or-take, length-take, drop_more, drop_all, append-nil, length_push}
use Rattle.hy_bits.specs.declared.shape.Shape.{Shape}
use Rattle.hy_bits.specs.declared.shape.Shape.TheVariants as shape
use Rattle.hy_bits.specs.declared.shape.Field.{Field}
use Rattle.hy_bits.specs.declared.shape.Shape.TheViews.{roll-Field}
use Rattle.c_meaning.specs.declared.types.Member.{Member}
use Rattle.c_meaning.specs.declared.types.StructType.{StructType}
use Rattle.c_meaning.specs.Types.{fields_of, with_field, shape_of, shapes_after, struct_shapes}
use Rattle.c_shapes.specs.Structs.{struct_shape}

-- what is added to the shapes before
abbrev pub later : List (Option Shape) → List StructType → List (Option Shape)
later before [] = []
later before (s ∷ ss) = struct_shape before s.members ∷ later (before ++ struct_shape before s.members ∷ []) ss

after_is : (before : List (Option Shape)) (ss : List StructType) → shapes_after before ss ≡ before ++ later before ss
after_is before [] = sym (append-nil before)
after_is before (s ∷ ss) =
    let x = struct_shape before s.members in
    after_is (before ++ x ∷ []) ss ∙ append_assoc before (x ∷ []) (later (before ++ x ∷ []) ss)

first_is : (before : List (Option Shape)) (s : StructType) (ss : List StructType)
    → get_or (shapes_after before (s ∷ ss)) (length before) None ≡ struct_shape (take (length before) (shapes_after before (s ∷ ss))) s.members
first_is before s ss =
    let x = struct_shape before s.members in
    let rest = later (before ++ x ∷ []) ss in
    let whole : shapes_after before (s ∷ ss) ≡ before ++ x ∷ rest = after_is before (s ∷ ss) in
    ap (λ (all : List (Option Shape)). get_or all (length before) None) whole
    ∙ get_or-append_seam before x rest None
    ∙ sym (ap (λ (all : List (Option Shape)). struct_shape (take (length before) all) s.members) whole
    ∙ ap (λ (all : List (Option Shape)). struct_shape all s.members) (take-append_seam before (x ∷ rest)))

at_is : (before : List (Option Shape)) (ss : List StructType) (k at : ℕ) (s : StructType) → at ≡ length before + k → slice_get ss k ≡ Some s
    → get_or (shapes_after before ss) at None ≡ struct_shape (take at (shapes_after before ss)) s.members
at_is before [] k at s is h = absurd (cc)
at_is before (first ∷ ss) zero at s is h =
    let same : first ≡ s = cc in
    let here : at ≡ length before = omega (arith, is) in
    subst (λ (n : ℕ). get_or (shapes_after before (first ∷ ss)) n None ≡ struct_shape (take n (shapes_after before (first ∷ ss))) s.members) (sym here)
    (subst (λ (of : StructType). get_or (shapes_after before (first ∷ ss)) (length before) None ≡ struct_shape (take (length before) (shapes_after before (first ∷ ss))) of.members) same (first_is before first ss))
at_is before (first ∷ ss) (suc k) at s is h =
    let x = struct_shape before first.members in
    at_is (before ++ x ∷ []) ss k at s (omega (arith, is, length_push before x)) h

-- the shape of a struct by those before it, where more of them may be looked at
pub shape_at : (structs : List StructType) (below number : ℕ) (s : StructType) → number < below → slice_get structs number ≡ Some s
    → get_or (take below (struct_shapes structs)) number None ≡ struct_shape (take number (struct_shapes structs)) s.members
shape_at structs below number s h stands = get_or-take below (struct_shapes structs) number None h ∙ at_is [] structs number number s (omega arith) stands

length_later : (before : List (Option Shape)) (ss : List StructType) → length (later before ss) ≡ length ss
length_later before [] = refl
length_later before (s ∷ ss) = ap suc (length_later (before ++ struct_shape before s.members ∷ []) ss)

pub min_is : (a b : ℕ) → (min a b ≤ a) × (min a b ≤ b)
min_is a b = grind arith

past : {A : Type 0} (xs : List (Option A)) (i : ℕ) → length xs ≤ i → get_or xs i None ≡ None
past [] i h = refl
past (x ∷ xs) zero h = absurd (omega (arith, h))
past (x ∷ xs) (suc i) h = past xs i (omega (arith, h))

pub none_past : {A : Type 0} (xs : List A) (i : ℕ) → slice_get xs i ≡ None → length xs ≤ i
none_past [] i h = omega arith
none_past (x ∷ xs) zero h = absurd (cc)
none_past (x ∷ xs) (suc i) h = omega (arith, none_past xs i h)

-- no struct has the number
pub nothing_at : (structs : List StructType) (below number : ℕ) → slice_get structs number ≡ None → get_or (take below (struct_shapes structs)) number None ≡ None
nothing_at structs below number h =
    past (take below (struct_shapes structs)) number
    (omega (arith, none_past structs number h, length-take below (struct_shapes structs), ap length (after_is [] structs), length_later [] structs, min_is below (length (struct_shapes structs))))

-- it isn't among those that are looked at
pub nothing_after : (structs : List StructType) (below number : ℕ) → below ≤ number → get_or (take below (struct_shapes structs)) number None ≡ None
nothing_after structs below number h =
    past (take below (struct_shapes structs)) number (omega (arith, h, length-take below (struct_shapes structs), min_is below (length (struct_shapes structs))))

pub all_shapes : (structs : List StructType) → take (length structs) (struct_shapes structs) ≡ struct_shapes structs
all_shapes structs =
    let n : length (struct_shapes structs) ≡ length structs = ap length (after_is [] structs) ∙ length_later [] structs in
    subst (λ (k : ℕ). take k (struct_shapes structs) ≡ struct_shapes structs) n (take-length (struct_shapes structs))

-- ---- fields

-- fields before those that are left
abbrev pub fields_after : List Field → Option (List Field) → Option (List Field)
fields_after before None = None
fields_after before (Some fields) = Some (before ++ fields)

fields_push : (before : List Field) (name : List ℕ) (of : Shape) (left : Option (List Field)) → fields_after (before ++ roll-Field (record { name = name; shape = of }) ∷ []) left ≡ fields_after before (with_field name (Some of) left)
fields_push before name of None = refl
fields_push before name of (Some fields) = ap Some (append_assoc before (roll-Field (record { name = name; shape = of }) ∷ []) fields)

module _ (structs : List (Option Shape)) (members : List Member) (i : ℕ) (member : Member) (within : i < length members) (is : member ≡ get_or members i member) where
  next : fields_of structs (drop i members) ≡ with_field member.name (shape_of structs member.ctype) (fields_of structs (drop (i + 1) members))
  next = ap (fields_of structs) (drop_more members i member within) ∙ ap (λ (m : Member). with_field m.name (shape_of structs m.ctype) (fields_of structs (drop (i + 1) members))) (sym is)

  pub field_passes : (before : List Field) (of : Shape) → shape_of structs member.ctype ≡ Some of
      → fields_after (before ++ roll-Field (record { name = member.name; shape = of }) ∷ []) (fields_of structs (drop (i + 1) members)) ≡ fields_after before (fields_of structs (drop i members))
  field_passes before of has =
      fields_push before member.name of (fields_of structs (drop (i + 1) members))
      ∙ ap (fields_after before) (sym (next ∙ ap (λ (s : Option Shape). with_field member.name s (fields_of structs (drop (i + 1) members))) has))

  pub field_none : (before : List Field) → shape_of structs member.ctype ≡ None → fields_after before (fields_of structs (drop i members)) ≡ None
  field_none before has = ap (fields_after before) (next ∙ ap (λ (s : Option Shape). with_field member.name s (fields_of structs (drop (i + 1) members))) has)

pub fields_done : (structs : List (Option Shape)) (members : List Member) (i : ℕ) (before : List Field) → length members ≤ i → fields_after before (fields_of structs (drop i members)) ≡ Some before
fields_done structs members i before h =
    ap (λ (left : List Member). fields_after before (fields_of structs left)) (drop_all i members h) ∙ ap Some (append-nil before)
