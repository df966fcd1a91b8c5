-- The value of a shape and its words, level by level; it is read as these words, where names are distinct.
use Rattle.std.proofs.Common.{◌≡◌, ℕ, ℤ, pos, negsuc, zero, suc, ◌+◌, ◌<◌, ◌&&◌, ◌||◌, ◌-◌, Ordering, Less, Equal, Greater, String, Global, string_bytes, string_cmp, Bool, true, false, if◌then◌else◌, not, IsTrue, List, [], ◌∷◌, ◌++◌, length, get_or, drop, map, replicate, Some, Ok, true≢false, refl, sym, ap, ◌∙◌, subst, append_assoc, append-nil, arith}
use Rattle.std.specs.List.{flat_map, list_all}
use Rattle.std.specs.Cmp.Lexicographic.{slice_cmp}
use Rattle.std.specs.BTreeMap.{insert_entry}
use Rattle.std.specs.Ordering.{nat_cmp, match_ordering}
use Rattle.std.specs.Str.{bytes_eq}
use Rattle.std.proofs.lemmas.List.{at_drop_more, map_push}
use Rattle.std.proofs.lemmas.Slice.Eq.{bytes_eq-Decides}
use Rattle.hy_bits.specs.declared.scalar.Scalar.{Scalar}
use Rattle.hy_bits.specs.declared.turns.Role.{Role}
use Rattle.hy_bits.specs.declared.turns.Role.TheVariants.{P0, P1}
use Rattle.hy_bits.specs.declared.shape.Port.{Port}
use Rattle.hy_bits.specs.declared.shape.Shape as S
use Rattle.hy_bits.specs.declared.shape.Field as F
use Rattle.hy_bits.specs.declared.shape.Shape.TheVariants as V
use Rattle.hy_bits.specs.declared.shape.Shape.TheOpen.{Shape-F}
use Rattle.hy_bits.specs.declared.shape.Shape.TheFolds.{fold-roll-Shape, fold-Field, fold_out-Field}
use Rattle.hy_bits.specs.Shape.{leaves, AreWordsOf}
use Rattle.hy_bits.proofs.ShapeLaws.{leaves-Scalar, leaves-Array, leaves-Struct, AreWordsOf-append}
use Rattle.serde_json.specs.declared.value.Value.{Value}
use Rattle.serde_json.specs.Data.{Data, Members, no_members, member, put}
use Rattle.serde_json.specs.Find.{as_integer, of_integer, get_member}
use Rattle.serde_json.specs.Events.{items_len}
use Rattle.serde_json.specs.View.{view, items_of, members_view}
use Rattle.serde_json.proofs.Views.{Entry, get_member-put, get_member-put_other, members_view-insert_entry}
use Rattle.json_values.specs.Walk.{is_among, words_at}
use Rattle.json_values.specs.Meaning.{number_of, Says, SayItems, SayFields, a_number, an_array, a_struct, all_items, next_item, all_fields, next_field, field_names, HasOnly, HasPort, HasPorts, IsReadInText}
use Rattle.hy_bits.specs.Ports.{is_of}
use Rattle.json_values.specs.Text.{Making, Member, BeginsWith, field_leaves, value_step, member_step, value_made, text_value, scalar_value, items_value, fields_value, making, an_array as made_array, an_object as made_object, are_distinct, has_distinct_names, distinct_names_step, distinct_name_step}
use Rattle.json_values.proofs.Induction.{EachField, by_shapes}
use Rattle.json_values.proofs.Laws.{reads, text_from}

-- ---- one level of a shape

pub value_made-Scalar : (scalar : Scalar) (words : List ℕ) → value_made (V.Scalar scalar) words ≡ scalar_value scalar words
value_made-Scalar scalar words =
    ap (λ shape. value_made shape words) (sym (V.rolls-Scalar scalar)) ∙ ap (λ made. made words) (fold-roll-Shape (Making Data) Member value_step member_step (Shape-F.Scalar scalar))

pub value_made-Array : (count : ℕ) (element : S.Shape) (words : List ℕ) → value_made (V.Array count element) words ≡ made_array (items_value count (value_made element) words)
value_made-Array count element words =
    ap (λ shape. value_made shape words) (sym (V.rolls-Array count element)) ∙ ap (λ made. made words) (fold-roll-Shape (Making Data) Member value_step member_step (Shape-F.Array count element))

making-fields : (fields : List F.Field) → map (fold-Field (Making Data) Member value_step member_step) fields ≡ map making fields
making-fields [] = refl
making-fields (field ∷ fields) = rw (fold_out-Field (Making Data) Member value_step member_step field, making-fields fields) refl

pub value_made-Struct : (fields : List F.Field) (words : List ℕ) → value_made (V.Struct fields) words ≡ made_object (fields_value (map making fields) no_members words)
value_made-Struct fields words =
    ap (λ shape. value_made shape words) (sym (V.rolls-Struct fields)) ∙ ap (λ made. made words) (fold-roll-Shape (Making Data) Member value_step member_step (Shape-F.Struct fields))
    ∙ ap (λ members. made_object (fields_value members no_members words)) (making-fields fields)

both : (a b : Bool) → IsTrue (a && b) → IsTrue a × IsTrue b
both true b all = (refl, all)
both false b all = absurd (cc)

has_distinct_names-Array : (count : ℕ) (element : S.Shape) → has_distinct_names (V.Array count element) ≡ has_distinct_names element
has_distinct_names-Array count element =
    ap has_distinct_names (sym (V.rolls-Array count element)) ∙ fold-roll-Shape Bool (List ℕ × Bool) distinct_names_step distinct_name_step (Shape-F.Array count element)

-- the shape of each field has distinct names in it
abbrev pub DistinctInside : List F.Field → Type 0
DistinctInside [] = Unit {0}
DistinctInside (field ∷ fields) = IsTrue (has_distinct_names (F.out-Field field).shape) × DistinctInside fields

abbrev distinct_field : F.Field → List ℕ × Bool
distinct_field field = ((F.out-Field field).name, has_distinct_names (F.out-Field field).shape)

distinct_fields-map : (fields : List F.Field) → map (fold-Field Bool (List ℕ × Bool) distinct_names_step distinct_name_step) fields ≡ map distinct_field fields
distinct_fields-map [] = refl
distinct_fields-map (field ∷ fields) = rw (fold_out-Field Bool (List ℕ × Bool) distinct_names_step distinct_name_step field, distinct_fields-map fields) refl

distinct_fields : (fields : List F.Field) → IsTrue (list_all (λ field. field.1) (map distinct_field fields)) → DistinctInside fields
distinct_fields [] all = tt
distinct_fields (field ∷ fields) all =
    let first = both (has_distinct_names (F.out-Field field).shape) (list_all (λ field. field.1) (map distinct_field fields)) all in
    (first.0, distinct_fields fields first.1)

distinct_field-names : (fields : List F.Field) → map (λ field. field.0) (map distinct_field fields) ≡ field_names fields
distinct_field-names [] = refl
distinct_field-names (field ∷ fields) = ap (λ names. (F.out-Field field).name ∷ names) (distinct_field-names fields)

has_distinct_names-Struct : (fields : List F.Field) → IsTrue (has_distinct_names (V.Struct fields)) → IsTrue (are_distinct (field_names fields)) × DistinctInside fields
has_distinct_names-Struct fields all =
    let here = ap has_distinct_names (sym (V.rolls-Struct fields)) ∙ fold-roll-Shape Bool (List ℕ × Bool) distinct_names_step distinct_name_step (Shape-F.Struct fields)
    ∙ ap (λ known. distinct_names_step (Shape-F.Struct known)) (distinct_fields-map fields) in
    let parts = both (are_distinct (map (λ field. field.0) (map distinct_field fields))) (list_all (λ field. field.1) (map distinct_field fields)) (sym here ∙ all) in
    (ap are_distinct (sym (distinct_field-names fields)) ∙ parts.0, distinct_fields fields parts.1)

-- ---- words that begin with those of scalars

pub begins : (scalars : List Scalar) (words : List ℕ) → AreWordsOf scalars words → BeginsWith scalars words
begins [] [] fit = tt
begins [] (word ∷ words) fit = absurd fit
begins (scalar ∷ scalars) [] fit = absurd fit
begins (scalar ∷ scalars) (word ∷ words) fit = (fit.0, begins scalars words fit.1)

-- the first words, taken for these scalars, have P, and the words after them begin with those of more scalars
pub record Takes (scalars more : List Scalar) (words rest : List ℕ) (P : List ℕ → Type 0) : Type 0 where
  pub taken : List ℕ
  pub all : words ≡ taken ++ rest
  pub fit : AreWordsOf scalars taken
  pub next : BeginsWith more rest
  pub says : P taken

-- ---- a shape takes its leaves' words, and its value says them

as_integer-of_integer : (number : ℤ) → as_integer (of_integer number) ≡ Some number
as_integer-of_integer (pos n) = refl
as_integer-of_integer (negsuc n) = refl

-- the value of the shape, as it is made
abbrev pub IsMade : S.Shape → Type 0
IsMade shape = (more : List Scalar) (words : List ℕ) → BeginsWith (leaves shape ++ more) words
    → Takes (leaves shape) more words (value_made shape words).1 (λ taken. IsTrue (has_distinct_names shape) → Says shape (value_made shape words).0 taken)

scalar_made : (scalar : Scalar) (more : List Scalar) (words : List ℕ) → BeginsWith (scalar ∷ more) words
    → Takes (scalar ∷ []) more words (scalar_value scalar words).1 (λ taken. IsTrue (has_distinct_names (V.Scalar scalar)) → Says (V.Scalar scalar) (scalar_value scalar words).0 taken)
scalar_made scalar more [] begin = absurd begin
scalar_made scalar more (word ∷ words) begin = record {
  taken = word ∷ [];
  all = refl;
  fit = (begin.0, tt);
  next = begin.1;
  says = λ distinct. a_number scalar (scalar_value scalar (word ∷ words)).0 (word ∷ []) (record { word = word; one = refl; fits = begin.0; whole = as_integer-of_integer (number_of scalar word) });
}

-- ---- arrays

-- the scalars of an array's elements
abbrev pub of_elements : ℕ → S.Shape → List Scalar
of_elements count element = flat_map (λ of_element. of_element) (replicate count (leaves element))

-- the items are as many, and say these words
abbrev pub ItemsSay : ℕ → S.Shape → List Data → List ℕ → Type 0
ItemsSay count element made taken = (items_len (items_of made) ≡ count) × (IsTrue (has_distinct_names element) → SayItems element (items_of made) taken)

items_made : (count : ℕ) (element : S.Shape) → IsMade element → (more : List Scalar) (words : List ℕ) → BeginsWith (of_elements count element ++ more) words
    → Takes (of_elements count element) more words (items_value count (value_made element) words).1 (ItemsSay count element (items_value count (value_made element) words).0)
items_made zero element is more words begin = record { taken = []; all = refl; fit = tt; next = begin; says = (refl, λ distinct. all_items element) }
items_made (suc count) element is more words begin =
    let first = is (of_elements count element ++ more) words (subst (λ scalars. BeginsWith scalars words) (append_assoc (leaves element) (of_elements count element) more) begin) in
    let rest = items_made count element is more (value_made element words).1 first.next in
    record {
      taken = first.taken ++ rest.taken;
      all = first.all ∙ ap (λ words. first.taken ++ words) rest.all ∙ sym (append_assoc first.taken rest.taken _);
      fit = AreWordsOf-append (leaves element) (of_elements count element) first.taken rest.taken first.fit rest.fit;
      next = rest.next;
      says = (ap suc rest.says.0, λ distinct. next_item element (value_made element words).0 (items_of (items_value count (value_made element) (value_made element words).1).0) first.taken rest.taken (first.says distinct) (rest.says.1 distinct));
    }

-- ---- structs

put_at : (o : Ordering) (names : List (List ℕ)) (k l : List ℕ) (d e : Data) (rest : Members) → IsTrue (is_among k names) → HasOnly names (member l e rest) → HasOnly names (put k d rest)
    → HasOnly names (match_ordering o (member k d (member l e rest)) (member l d rest) (member l e (put k d rest)))
put_at Less names k l d e rest known only later = (known, only)
put_at Equal names k l d e rest known only later = only
put_at Greater names k l d e rest known only later = (only.0, later)

HasOnly-put : (names : List (List ℕ)) (k : List ℕ) (d : Data) (found : Members) → IsTrue (is_among k names) → HasOnly names found → HasOnly names (put k d found)
HasOnly-put names k d no_members known only = (known, tt)
HasOnly-put names k d (member l e rest) known only = put_at (slice_cmp nat_cmp k l) names k l d e rest known only (HasOnly-put names k d rest known only.1)

-- the names of the fields are among these
abbrev pub AreAmong : List (List ℕ) → List F.Field → Type 0
AreAmong names [] = Unit {0}
AreAmong names (field ∷ fields) = IsTrue (is_among (F.out-Field field).name names) × AreAmong names fields

HasOnly-fields : (names : List (List ℕ)) (fields : List F.Field) (found : Members) (words : List ℕ) → AreAmong names fields → HasOnly names found → HasOnly names (fields_value (map making fields) found words).0
HasOnly-fields names [] found words among only = only
HasOnly-fields names (field ∷ fields) found words among only =
    let made = value_made (F.out-Field field).shape words in
    HasOnly-fields names fields (put (F.out-Field field).name made.0 found) made.1 among.1 (HasOnly-put names (F.out-Field field).name made.0 found among.0 only)

among_more : (test : Bool) (name : List ℕ) (names : List (List ℕ)) → IsTrue (is_among name names) → IsTrue (test || is_among name names)
among_more true name names among = refl
among_more false name names among = among

AreAmong-more : (name : List ℕ) (names : List (List ℕ)) (fields : List F.Field) → AreAmong names fields → AreAmong (name ∷ names) fields
AreAmong-more name names [] among = tt
AreAmong-more name names (field ∷ fields) among = (among_more (bytes_eq name (F.out-Field field).name) (F.out-Field field).name names among.0, AreAmong-more name names fields among.1)

same_name : (name : List ℕ) → bytes_eq name name ≡ true
same_name name = (bytes_eq-Decides name name).1 refl

among_itself : (fields : List F.Field) → AreAmong (field_names fields) fields
among_itself [] = tt
among_itself (field ∷ fields) =
    let name = (F.out-Field field).name in
    (ap (λ (same : Bool). same || is_among name (field_names fields)) (same_name name), AreAmong-more name (field_names fields) fields (among_itself fields))

neither : (a b : Bool) → (a || b) ≡ false → (a ≡ false) × (b ≡ false)
neither true b none = absurd (cc)
neither false b none = (refl, none)

no : (b : Bool) → IsTrue (not b) → b ≡ false
no true none = absurd (cc)
no false none = refl

-- a name of none of the fields keeps its value
kept : (name : List ℕ) (fields : List F.Field) (found : Members) (words : List ℕ) → is_among name (field_names fields) ≡ false → get_member name (fields_value (map making fields) found words).0 ≡ get_member name found
kept name [] found words other = refl
kept name (field ∷ fields) found words other =
    let apart = neither (bytes_eq (F.out-Field field).name name) (is_among name (field_names fields)) other in
    let made = value_made (F.out-Field field).shape words in
    kept name fields (put (F.out-Field field).name made.0 found) made.1 apart.1
    ∙ get_member-put_other name (F.out-Field field).name made.0 found (λ same. true≢false (sym (ap (λ other. bytes_eq other name) (sym same) ∙ same_name name) ∙ apart.0))

fields_made : (fields : List F.Field) → EachField IsMade fields → (more : List Scalar) (words : List ℕ) (found : Members) → BeginsWith (field_leaves fields ++ more) words
    → Takes (field_leaves fields) more words (fields_value (map making fields) found words).1
    (λ taken. IsTrue (are_distinct (field_names fields)) → DistinctInside fields → SayFields fields (fields_value (map making fields) found words).0 taken)
fields_made [] is more words found begin = record { taken = []; all = refl; fit = tt; next = begin; says = λ distinct inside. all_fields found }
fields_made (field ∷ fields) is more words found begin =
    let shape = (F.out-Field field).shape in
    let name = (F.out-Field field).name in
    let made = value_made shape words in
    let first = is.0 (field_leaves fields ++ more) words (subst (λ scalars. BeginsWith scalars words) (append_assoc (leaves shape) (field_leaves fields) more) begin) in
    let rest = fields_made fields is.1 more made.1 (put name made.0 found) first.next in
    record {
      taken = first.taken ++ rest.taken;
      all = first.all ∙ ap (λ words. first.taken ++ words) rest.all ∙ sym (append_assoc first.taken rest.taken _);
      fit = AreWordsOf-append (leaves shape) (field_leaves fields) first.taken rest.taken first.fit rest.fit;
      next = rest.next;
      says = λ distinct inside.
          let apart = both (not (is_among name (field_names fields))) (are_distinct (field_names fields)) distinct in
          let has = kept name fields (put name made.0 found) made.1 (no (is_among name (field_names fields)) apart.0) ∙ get_member-put name made.0 found in
          next_field field fields (fields_value (map making fields) (put name made.0 found) made.1).0 made.0 first.taken rest.taken has (first.says inside.0) (rest.says apart.1 inside.1);
    }

-- ---- any shape

-- the value says the words, where names are distinct
abbrev pub SaysThere : S.Shape → Data → List ℕ → Type 0
SaysThere shape value taken = IsTrue (has_distinct_names shape) → Says shape value taken

moved : (scalars there more : List Scalar) (words : List ℕ) (made from : Data × List ℕ) (P : Data → List ℕ → Type 0) → there ≡ scalars → from ≡ made → Takes scalars more words made.1 (P made.0) → Takes there more words from.1 (P from.0)
moved scalars there more words made from P same is takes = rw (same, is) takes

array_is_made : (count : ℕ) (element : S.Shape) → IsMade element → IsMade (V.Array count element)
array_is_made count element is more words begin =
    let made = items_value count (value_made element) words in
    let items = items_made count element is more words (subst (λ scalars. BeginsWith (scalars ++ more) words) (leaves-Array count element) begin) in
    moved (of_elements count element) (leaves (V.Array count element)) more words (made_array made) (value_made (V.Array count element) words) (SaysThere (V.Array count element)) (leaves-Array count element) (value_made-Array count element words)
    (record {
      taken = items.taken;
      all = items.all;
      fit = items.fit;
      next = items.next;
      says = λ distinct. an_array count element (made_array made).0 (items_of made.0) items.taken refl items.says.0 (items.says.1 (sym (has_distinct_names-Array count element) ∙ distinct));
    })

struct_is_made : (fields : List F.Field) → EachField IsMade fields → IsMade (V.Struct fields)
struct_is_made fields is more words begin =
    let made = fields_value (map making fields) no_members words in
    let each = fields_made fields is more words no_members (subst (λ scalars. BeginsWith (scalars ++ more) words) (leaves-Struct fields) begin) in
    moved (field_leaves fields) (leaves (V.Struct fields)) more words (made_object made) (value_made (V.Struct fields) words) (SaysThere (V.Struct fields)) (leaves-Struct fields) (value_made-Struct fields words)
    (record {
      taken = each.taken;
      all = each.all;
      fit = each.fit;
      next = each.next;
      says = λ distinct. let parts = has_distinct_names-Struct fields distinct in
          a_struct fields (made_object made).0 made.0 each.taken refl (each.says parts.0 parts.1) (HasOnly-fields (field_names fields) fields no_members words (among_itself fields) tt);
    })

pub is_made : (shape : S.Shape) → IsMade shape
is_made = by_shapes IsMade
    (λ scalar more words begin. moved (scalar ∷ []) (leaves (V.Scalar scalar)) more words (scalar_value scalar words) (value_made (V.Scalar scalar) words) (SaysThere (V.Scalar scalar)) (leaves-Scalar scalar) (value_made-Scalar scalar words)
    (scalar_made scalar more words (subst (λ scalars. BeginsWith (scalars ++ more) words) (leaves-Scalar scalar) begin)))
    array_is_made struct_is_made

none_left : (scalars : List Scalar) (taken rest : List ℕ) → AreWordsOf scalars (taken ++ rest) → AreWordsOf scalars taken → rest ≡ []
none_left [] [] [] whole fit = refl
none_left [] [] (word ∷ rest) whole fit = absurd whole
none_left [] (word ∷ taken) rest whole fit = absurd fit
none_left (scalar ∷ scalars) [] rest whole fit = absurd fit
none_left (scalar ∷ scalars) (word ∷ taken) rest whole fit = none_left scalars taken rest whole.1 fit.1

-- the value of a shape and its words says them
pub text_says : (shape : S.Shape) (words : List ℕ) → AreWordsOf (leaves shape) words → IsTrue (has_distinct_names shape) → Says shape (text_value shape words) words
text_says shape words fit distinct =
    let made = is_made shape [] words (subst (λ scalars. BeginsWith scalars words) (sym (append-nil (leaves shape))) (begins (leaves shape) words fit)) in
    let none = none_left (leaves shape) made.taken (value_made shape words).1 (subst (AreWordsOf (leaves shape)) made.all fit) made.fit in
    let same : words ≡ made.taken = made.all ∙ ap (λ rest. made.taken ++ rest) none ∙ append-nil made.taken in
    subst (Says shape (text_value shape words)) (sym same) (made.says distinct)

-- and is read as them
pub text_reads : (shape : S.Shape) (words : List ℕ) → AreWordsOf (leaves shape) words → IsTrue (has_distinct_names shape) → words_at shape (text_value shape words) ≡ Ok words
text_reads shape words fit distinct = reads shape (text_value shape words) words (text_says shape words fit distinct)

-- ---- steps of the loops

-- what was made before, and what is made of the words that are left
abbrev pub items_after : List Data → List Data × List ℕ → List Data × List ℕ
items_after done made = (done ++ made.0, made.1)

pub items_next : (left : ℕ) (element : S.Shape) (words rest : List ℕ) (done : List Data) (whole : List Data × List ℕ) → whole ≡ items_after done (items_value (suc left) (value_made element) rest)
    → whole ≡ items_after (done ++ (value_made element rest).0 ∷ []) (items_value left (value_made element) (value_made element rest).1)
items_next left element words rest done whole is = is ∙ ap (λ items. (items, (items_value left (value_made element) (value_made element rest).1).1)) (sym (append_assoc done ((value_made element rest).0 ∷ []) _))

pub array_step : (count i : ℕ) (element : S.Shape) (words rest next : List ℕ) (done items : List Value) (item : Value) → i < count
    → (view item, next) ≡ value_made element rest → items ≡ done ++ item ∷ []
    → items_value count (value_made element) words ≡ items_after (map view done) (items_value (count - i) (value_made element) rest)
    → items_value count (value_made element) words ≡ items_after (map view items) (items_value (count - (i + 1)) (value_made element) next)
array_step count i element words rest next done items item less made pushed is =
    let one : count - i ≡ suc (count - (i + 1)) = omega arith in
    let step = items_next (count - (i + 1)) element words rest (map view done) (items_value count (value_made element) words) (is ∙ ap (λ left. items_after (map view done) (items_value left (value_made element) rest)) one) in
    step ∙ ap (λ (first : Data × List ℕ). items_after (map view done ++ first.0 ∷ []) (items_value (count - (i + 1)) (value_made element) first.1)) (sym made)
    ∙ ap (λ all. items_after all (items_value (count - (i + 1)) (value_made element) next)) (sym (ap (map view) pushed ∙ map_push view done item))

-- a field and those after it
pub field_there : (fields : List F.Field) (i : ℕ) (field : F.Field) → i < length fields → field ≡ get_or fields i field → drop i fields ≡ field ∷ drop (i + 1) fields
field_there fields i field less is = at_drop_more (λ fs. fs) fields i field less ∙ ap (λ f. f ∷ drop (i + 1) fields) (sym is)

pub object_step : (here next : List F.Field) (field : F.Field) (whole : Members × List ℕ) (found members : List Entry) (rest after : List ℕ) (key : String Global) (value : Value) → here ≡ field ∷ next
    → string_bytes key ≡ (F.out-Field field).name → (view value, after) ≡ value_made (F.out-Field field).shape rest → members ≡ insert_entry string_cmp found key value
    → whole ≡ fields_value (map making here) (members_view found) rest → whole ≡ fields_value (map making next) (members_view members) after
object_step here next field whole found members rest after key value is named made put_there left =
    left ∙ ap (λ fields. fields_value (map making fields) (members_view found) rest) is
    ∙ ap (λ (first : Data × List ℕ). fields_value (map making next) (put (F.out-Field field).name first.0 (members_view found)) first.1) (sym made)
    ∙ ap (λ name. fields_value (map making next) (put name (view value) (members_view found)) after) (sym named)
    ∙ ap (λ there. fields_value (map making next) there after) (sym (ap members_view put_there ∙ members_view-insert_entry found key value))

pub scalar_step : (shape : S.Shape) (scalar : Scalar) (words : List ℕ) → shape ≡ V.Scalar scalar → (made : Data × List ℕ) → made ≡ scalar_value scalar words → made ≡ value_made shape words
scalar_step shape scalar words is made found = found ∙ sym (value_made-Scalar scalar words) ∙ ap (λ shape. value_made shape words) (sym is)

-- ---- in a text

itself : (role : Role) → is_of role role ≡ true
itself P0 = refl
itself P1 = refl

one_member : (name : List ℕ) (value : Data) → get_member name (member name value no_members) ≡ Some value
one_member name value = get_member-put name value no_members

own_port : (role : Role) (own : Bool) → own ≡ true → (port : Port) (found : Members) (words : List ℕ) → HasPort port found words → HasPorts (λ port. found) (if own then port ∷ [] else []) words
own_port role true is port found words has = (words, [], has, refl, sym (append-nil words))
own_port role false is port found words has = absurd (cc)

only_port : (role : Role) (name : List ℕ) (value : Data) (own : Bool) → own ≡ true → HasOnly (if own then name ∷ [] else []) (member name value no_members)
only_port role name value true is = (ap (λ (same : Bool). same || false) (same_name name), tt)
only_port role name value false is = absurd (cc)

-- a text of one object, whose one member has the port's name and the value, is read as the words
pub in_text : (shape : S.Shape) (words : List ℕ) → AreWordsOf (leaves shape) words → IsTrue (has_distinct_names shape) → IsReadInText shape (text_value shape words) words
in_text shape words fit distinct role name text is =
    let port : Port = record { role = role; name = name; shape = shape } in
    let value = text_value shape words in
    let found = member name value no_members in
    let has : HasPort port found words = (value, one_member name value, text_says shape words fit distinct) in
    text_from role (port ∷ []) text words (record {
      found = found;
      object = is;
      each = own_port role (is_of role role) (itself role) port found words has;
      exactly = only_port role name value (is_of role role) (itself role);
    })
