-- The integers in the cells of arrays and structs, part by part.
use Rattle.std.proofs.Common.{◌≡◌, ◌≤◌, ◌<◌, ◌+◌, ℕ, zero, suc, nat_lt, true, Option, None, Some, option_map, List, [], ◌∷◌, ◌++◌, take, length, slice_get, get_or, ap, sym, subst, ◌∙◌, refl, arith}
use Rattle.std.proofs.lemmas.List.{length-append, get_or_append_left}
use Rattle.std.proofs.lemmas.Grind.{common_steps}
use Rattle.hy_bits.specs.declared.scalar.Scalar.{Scalar}
use Rattle.c_meaning.specs.declared.types.CType.{CType, out-CType, map-CType}
use Rattle.c_meaning.specs.declared.types.CType.TheOpen.{CType-F}
use Rattle.c_meaning.specs.declared.types.CType.TheFolds.{fold_out-CType}
use Rattle.c_meaning.specs.declared.types.Member.{Member}
use Rattle.c_meaning.specs.declared.types.StructType.{StructType}
use Rattle.c_meaning.specs.Types.{struct_cells, repeated, layer_scalars, scalars_of, member_scalars, scalars_after, struct_scalars}
use Rattle.c_meaning.specs.StatementRules.{IsStruct, MembersFill, StructsFit, is_plain}
use Rattle.c_objects.specs.Initializers.{members_in, layer_part_count, part_count, layer_part_type, part_type, layer_is_aggregate, is_aggregate}
use Rattle.typing_laws.specs.Scopes.{Grows}
use Rattle.typing_laws.specs.Values.{IsPlainType}
use Rattle.typing_laws.proofs.Structs.{members-plain}
use Rattle.typing_laws.proofs.Valued.{plain-out, element-plain}
use Rattle.expression_laws.proofs.Weakened.{plain-stands}
use Rattle.specifier_laws.proofs.Starting.{scalars-kept}

append-assoc : {A : Type 0} (xs ys zs : List A) → (xs ++ ys) ++ zs ≡ xs ++ (ys ++ zs)
append-assoc [] ys zs = refl
append-assoc (x ∷ xs) ys zs = ap (λ us. x ∷ us) (append-assoc xs ys zs)

append-none : {A : Type 0} (xs : List A) → xs ++ [] ≡ xs
append-none [] = refl
append-none (x ∷ xs) = ap (λ us. x ∷ us) (append-none xs)

-- ---- arrays

repeated-last : {A : Type 0} (n : ℕ) (xs : List A) → repeated (suc n) xs ≡ repeated n xs ++ xs
repeated-last zero xs = append-none xs
repeated-last (suc n) xs = ap (λ ys. xs ++ ys) (repeated-last n xs) ∙ sym (append-assoc xs (repeated n xs) xs)

repeated-rest : {A : Type 0} (i n : ℕ) (xs : List A) → i ≤ n → (rest : List A) × (repeated n xs ≡ repeated i xs ++ rest)
repeated-rest zero n xs h = (repeated n xs, refl)
repeated-rest (suc i) zero xs h = absurd (omega (arith, h))
repeated-rest (suc i) (suc n) xs h =
    let more = repeated-rest i n xs (omega (arith, h)) in
    (more.0, ap (λ ys. xs ++ ys) more.1 ∙ sym (append-assoc xs (repeated i xs) more.0))

-- ---- structs

module _ (table : List (List Scalar)) where
  members-last : (members : List Member) (i : ℕ) (m : Member) → slice_get members i ≡ Some m → member_scalars table (take (suc i) members) ≡ member_scalars table (take i members) ++ scalars_of table m.ctype
  members-last [] i m e = absurd (cc)
  members-last (first ∷ members) zero m e =
      let same : first ≡ m = cc in
      append-none (scalars_of table first.ctype) ∙ ap (λ (x : Member). scalars_of table x.ctype) same
  members-last (first ∷ members) (suc i) m e =
      ap (λ ts. scalars_of table first.ctype ++ ts) (members-last members i m e) ∙ sym (append-assoc (scalars_of table first.ctype) (member_scalars table (take i members)) (scalars_of table m.ctype))

  members-rest : (members : List Member) (i : ℕ) → (rest : List Scalar) × (member_scalars table members ≡ member_scalars table (take i members) ++ rest)
  members-rest [] zero = ([], refl)
  members-rest [] (suc i) = ([], refl)
  members-rest (first ∷ members) zero = (member_scalars table (first ∷ members), refl)
  members-rest (first ∷ members) (suc i) =
      let more = members-rest members i in
      (more.0, ap (λ ts. scalars_of table first.ctype ++ ts) more.1 ∙ sym (append-assoc (scalars_of table first.ctype) (member_scalars table (take i members)) more.0))

none-within : {A : Type 0} (xs : List A) (k : ℕ) → slice_get xs k ≡ None → k < length xs → ⊥
none-within [] k e h = absurd (omega (arith, h))
none-within (x ∷ xs) zero e h = absurd (cc)
none-within (x ∷ xs) (suc k) e h = none-within xs k e (omega (arith, h))

abbrev SplitAt : List StructType → ℕ → StructType → Type 0
SplitAt structs k s = (before : List StructType) × (rest : List StructType) × (structs ≡ before ++ s ∷ rest) × (length before ≡ k)

split-at : (structs : List StructType) (k : ℕ) (s : StructType) → slice_get structs k ≡ Some s → SplitAt structs k s
split-at [] k s e = absurd (cc)
split-at (first ∷ structs) zero s e = let same : first ≡ s = cc in ([], structs, ap (λ (x : StructType). x ∷ structs) same, refl)
split-at (first ∷ structs) (suc k) s e =
    let rest = split-at structs k s e in
    (first ∷ rest.0, rest.1, ap (λ ss. first ∷ ss) rest.2, omega (arith, rest.3))

fits-at : (cells : List ℕ) (below : ℕ) (structs : List StructType) (k : ℕ) (s : StructType) → StructsFit cells below structs → slice_get structs k ≡ Some s → IsStruct cells (below + k) s
fits-at cells below [] k s h e = absurd (cc)
fits-at cells below (first ∷ structs) zero s h e =
    let same : first ≡ s = cc in
    let here : below ≡ below + 0 = omega arith in
    subst (λ (n : ℕ). IsStruct cells n s) here (subst (λ (x : StructType). IsStruct cells below x) same h.0)
fits-at cells below (first ∷ structs) (suc k) s h e =
    let there : (below + 1) + k ≡ below + suc k = omega arith in
    subst (λ (n : ℕ). IsStruct cells n s) there (fits-at cells (below + 1) structs k s h.1 e)

-- by the structs before it alone
members-alike : (old new : List StructType) → Grows old new → (cells : List ℕ) (at : ℕ) (members : List Member) (end : ℕ) → MembersFill cells (length old) at members end
    → member_scalars (struct_scalars new) members ≡ member_scalars (struct_scalars old) members
members-alike old new g cells at [] end h = refl
members-alike old new g cells at (m ∷ members) end h =
    ap (λ ts. ts ++ member_scalars (struct_scalars new) members) (scalars-kept old new g m.ctype (plain-stands (length old) m.ctype h.0))
    ∙ ap (λ ts. scalars_of (struct_scalars old) m.ctype ++ ts) (members-alike old new g cells (at + m.cells) members end h.3)

after-more : (before : List (List Scalar)) (xs ys : List StructType) → scalars_after before (xs ++ ys) ≡ scalars_after (scalars_after before xs) ys
after-more before [] ys = refl
after-more before (x ∷ xs) ys = after-more (before ++ member_scalars before x.members ∷ []) xs ys

long-after : (before : List (List Scalar)) (structs : List StructType) → length (scalars_after before structs) ≡ length before + length structs
long-after before [] = omega arith
long-after before (s ∷ structs) =
    let one = length-append before (member_scalars before s.members ∷ []) in
    let rest = long-after (before ++ member_scalars before s.members ∷ []) structs in
    omega (arith, one, rest)

kept-after : (table : List (List Scalar)) (structs : List StructType) (k : ℕ) → k < length table → get_or (scalars_after table structs) k [] ≡ get_or table k []
kept-after table [] k h = refl
kept-after table (s ∷ structs) k h =
    let one = length-append table (member_scalars table s.members ∷ []) in
    kept-after (table ++ member_scalars table s.members ∷ []) structs k (omega (arith, one, h)) ∙ get_or_append_left table (member_scalars table s.members ∷ []) [] k h

last-of : (table : List (List Scalar)) (x : List Scalar) → get_or (table ++ x ∷ []) (length table) [] ≡ x
last-of [] x = refl
last-of (y ∷ table) x = last-of table x

module _ (structs : List StructType) (fit : StructsFit (struct_cells structs) 0 structs) where
  abbrev table : List (List Scalar)
  table = struct_scalars structs

  struct-by : (number : ℕ) (s : StructType) (at : SplitAt structs number s) → IsStruct (struct_cells structs) number s → get_or table number [] ≡ member_scalars table s.members
  struct-by number s at is =
      let old = at.0 in
      let before = struct_scalars old in
      let x = member_scalars before s.members in
      let many = long-after [] old in
      let last = at.3 in
      let long : length before ≡ number = omega (arith, many, last) in
      let whole : table ≡ scalars_after (before ++ x ∷ []) at.1 = ap (λ (ss : List StructType). struct_scalars ss) at.2 ∙ after-more [] old (s ∷ at.1) in
      let one = length-append before (x ∷ []) in
      let within : number < length (before ++ x ∷ []) = omega (arith, one, long) in
      let here : get_or (before ++ x ∷ []) number [] ≡ x = subst (λ (n : ℕ). get_or (before ++ x ∷ []) n [] ≡ x) long (last-of before x) in
      let fill : MembersFill (struct_cells structs) (length old) 0 s.members s.cells = subst (λ (n : ℕ). MembersFill (struct_cells structs) n 0 s.members s.cells) (sym at.3) is.members in
      ap (λ (ts : List (List Scalar)). get_or ts number []) whole ∙ kept-after (before ++ x ∷ []) at.1 number within ∙ here
      ∙ sym (members-alike old structs (s ∷ at.1, at.2) (struct_cells structs) 0 s.members s.cells fill)

  fits-from-start : (number : ℕ) (s : StructType) → slice_get structs number ≡ Some s → IsStruct (struct_cells structs) number s
  fits-from-start number s e =
      let same : 0 + number ≡ number = omega arith in
      subst (λ (n : ℕ). IsStruct (struct_cells structs) n s) same (fits-at (struct_cells structs) 0 structs number s fit e)

  -- a struct has the integers of its members
  struct-scalars-at : (number : ℕ) (o : Option StructType) → slice_get structs number ≡ o → number < length structs
      → get_or table number [] ≡ member_scalars table (elim o [ None ↦ [] | Some s ↦ s.members ])
  struct-scalars-at number None e h = absurd (none-within structs number e h)
  struct-scalars-at number (Some s) e h = struct-by number s (split-at structs number s e) (fits-from-start number s e)

  scalars-out : (c : CType) (y : CType-F CType) → out-CType c ≡ y → scalars_of table c ≡ layer_scalars table (map-CType CType (List Scalar) (scalars_of table) y)
  scalars-out c y e = fold_out-CType (List Scalar) (layer_scalars table) c ∙ ap (λ (z : CType-F CType). layer_scalars table (map-CType CType (List Scalar) (scalars_of table) z)) e

  -- the integers of the first parts
  abbrev pub layer_prefix : CType-F CType → ℕ → List Scalar
  layer_prefix (CType-F.Array count element) i = repeated i (scalars_of table element)
  layer_prefix (CType-F.Struct number) i = member_scalars table (take i (members_in structs number))
  layer_prefix other i = []

  abbrev pub prefix : CType → ℕ → List Scalar
  prefix c i = layer_prefix (out-CType c) i

  prefix-layer-none : (y : CType-F CType) → layer_prefix y 0 ≡ []
  prefix-layer-none CType-F.Void = refl
  prefix-layer-none (CType-F.Int t) = refl
  prefix-layer-none (CType-F.Array count element) = refl
  prefix-layer-none (CType-F.Struct number) = refl
  prefix-layer-none (CType-F.Pointer q to) = refl

  pub prefix-none : (c : CType) → prefix c 0 ≡ []
  prefix-none c = prefix-layer-none (out-CType c)

  abbrev PartSays : CType-F CType → ℕ → CType → Type 0
  PartSays y i d = IsPlainType structs d × (layer_prefix y (suc i) ≡ layer_prefix y i ++ scalars_of table d)

  member-by : (number i : ℕ) (d : CType) (o : Option StructType) → slice_get structs number ≡ o
      → option_map (λ m. m.ctype) (slice_get (elim o [ None ↦ [] | Some s ↦ s.members ]) i) ≡ Some d
      → IsPlainType structs d × (member_scalars table (take (suc i) (elim o [ None ↦ [] | Some s ↦ s.members ])) ≡ member_scalars table (take i (elim o [ None ↦ [] | Some s ↦ s.members ])) ++ scalars_of table d)
  member-by number i d None e h = absurd (cc)
  member-by number i d (Some s) e h = member-at number i d s (slice_get s.members i) e refl h
    where
      member-at : (number i : ℕ) (d : CType) (s : StructType) (o : Option Member) → slice_get structs number ≡ Some s → slice_get s.members i ≡ o → option_map (λ m. m.ctype) o ≡ Some d
          → IsPlainType structs d × (member_scalars table (take (suc i) s.members) ≡ member_scalars table (take i s.members) ++ scalars_of table d)
      member-at number i d s None e f h = absurd (cc)
      member-at number i d s (Some m) e f h =
          let same : m.ctype ≡ d = cc in
          (subst (IsPlainType structs) same (members-plain structs fit number s i m e f), members-last table s.members i m f ∙ ap (λ (c : CType). member_scalars table (take i s.members) ++ scalars_of table c) same)

  part-says : (c : CType) (y : CType-F CType) (i : ℕ) (d : CType) → out-CType c ≡ y → IsPlainType structs c → layer_part_type structs i y ≡ Some d → PartSays y i d
  part-says c CType-F.Void i d e plain h = absurd (cc)
  part-says c (CType-F.Int t) i d e plain h = absurd (cc)
  part-says c (CType-F.Array count element) i d e plain h =
      let same : element ≡ d = cc in
      subst (PartSays (CType-F.Array count element) i) same (element-plain structs c count element e plain, repeated-last i (scalars_of table element))
  part-says c (CType-F.Struct number) i d e plain h = member-by number i d (slice_get structs number) refl h
  part-says c (CType-F.Pointer q to) i d e plain h = absurd (cc)

  -- C11 6.7.9p17: the type of each part
  pub part-is : (c : CType) (i : ℕ) (d : CType) → IsPlainType structs c → part_type structs i c ≡ Some d → IsPlainType structs d × (prefix c (suc i) ≡ prefix c i ++ scalars_of table d)
  part-is c i d plain h = part-says c (out-CType c) i d refl plain h

  number-within : (c : CType) (number : ℕ) → out-CType c ≡ CType-F.Struct number → is_plain (length structs) c ≡ true → number < length structs
  number-within c number e plain =
      let told : nat_lt number (length structs) ≡ true = sym (plain-out structs c (CType-F.Struct number) e) ∙ plain in
      grind (arith, common_steps)

  rest-layer : (c : CType) (y : CType-F CType) (i : ℕ) → out-CType c ≡ y → is_plain (length structs) c ≡ true → i ≤ layer_part_count structs y → layer_is_aggregate y ≡ true
      → (rest : List Scalar) × (scalars_of table c ≡ layer_prefix y i ++ rest)
  rest-layer c CType-F.Void i e plain h some = absurd (cc)
  rest-layer c (CType-F.Int t) i e plain h some = absurd (cc)
  rest-layer c (CType-F.Array count element) i e plain h some =
      let more = repeated-rest i count (scalars_of table element) h in (more.0, scalars-out c (CType-F.Array count element) e ∙ more.1)
  rest-layer c (CType-F.Struct number) i e plain h some =
      let more = members-rest table (members_in structs number) i in
      (more.0, scalars-out c (CType-F.Struct number) e ∙ struct-scalars-at number (slice_get structs number) refl (number-within c number e plain) ∙ more.1)
  rest-layer c (CType-F.Pointer q to) i e plain h some = absurd (cc)

  -- what is left after the first parts
  pub rest-is : (c : CType) (i : ℕ) → is_plain (length structs) c ≡ true → i ≤ part_count structs c → is_aggregate c ≡ true → (rest : List Scalar) × (scalars_of table c ≡ prefix c i ++ rest)
  rest-is c i plain h some = rest-layer c (out-CType c) i refl plain h some
