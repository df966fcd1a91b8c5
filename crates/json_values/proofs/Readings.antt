-- Readings one after another, and shapes level by level.
use Rattle.std.proofs.Common.{◌≡◌, ℕ, ◌+◌, ◌<◌, Bool, true, false, if◌then◌else◌, option_and_then, IsUtf8, subst, length, drop, get_or, List, [], ◌∷◌, ◌++◌, map, Option, Some, None, Ok, Err, refl, sym, ap, ◌∙◌, append_assoc}
use Rattle.std.specs.Str.{is_utf8}
use Rattle.std.proofs.lemmas.Str.{IsUtf8-from_is_utf8, is_utf8-from_IsUtf8}
use Rattle.std.proofs.lemmas.List.{at_drop_more}
use Rattle.hy_bits.specs.declared.scalar.Scalar.{Scalar}
use Rattle.hy_bits.specs.declared.shape.Shape as S
use Rattle.hy_bits.specs.declared.shape.Field as F
use Rattle.hy_bits.specs.declared.shape.Shape.TheVariants as V
use Rattle.hy_bits.specs.declared.shape.Shape.TheOpen.{Shape-F}
use Rattle.hy_bits.specs.declared.shape.Shape.TheFolds.{fold-roll-Shape, fold-Field, fold_out-Field}
use Rattle.hy_bits.specs.declared.shape.Port.{Port}
use Rattle.hy_bits.specs.declared.turns.Role.{Role}
use Rattle.serde_json.specs.Data.{Data, Members}
use Rattle.serde_json.specs.Read.{read}
use Rattle.serde_json.specs.Find.{as_number, as_array, as_object, get_member}
use Rattle.json_values.specs.declared.fault.Stop.{Stop}
use Rattle.json_values.specs.declared.fault.Stop.TheVariants as stop
use Rattle.json_values.specs.File.{members_of_text, object_reading, file_words, own_port, ports_words}
use Rattle.json_values.specs.Walk.{Reading, Named, IsStop, onto, under, then_by, words_at, named, shape_step, field_step, scalar_words, array_words, struct_words, wanted, dotted, fields_words}

-- ---- one level of a shape

pub words_at_Scalar : (scalar : Scalar) (value : Data) → words_at (V.Scalar scalar) value ≡ scalar_words scalar (as_number value)
words_at_Scalar scalar value =
    ap (λ shape. words_at shape value) (sym (V.rolls-Scalar scalar)) ∙ ap (λ reading. reading value) (fold-roll-Shape (Data → Reading) Named shape_step field_step (Shape-F.Scalar scalar))

pub words_at_Array : (count : ℕ) (element : S.Shape) (value : Data) → words_at (V.Array count element) value ≡ array_words count (words_at element) (as_array value)
words_at_Array count element value =
    ap (λ shape. words_at shape value) (sym (V.rolls-Array count element)) ∙ ap (λ reading. reading value) (fold-roll-Shape (Data → Reading) Named shape_step field_step (Shape-F.Array count element))

named-fields : (fields : List F.Field) → map (fold-Field (Data → Reading) Named shape_step field_step) fields ≡ map named fields
named-fields [] = refl
named-fields (field ∷ fields) = rw (fold_out-Field (Data → Reading) Named shape_step field_step field, named-fields fields) refl

pub words_at_Struct : (fields : List F.Field) (value : Data) → words_at (V.Struct fields) value ≡ struct_words (map named fields) (as_object value)
words_at_Struct fields value =
    ap (λ shape. words_at shape value) (sym (V.rolls-Struct fields)) ∙ ap (λ reading. reading value) (fold-roll-Shape (Data → Reading) Named shape_step field_step (Shape-F.Struct fields)) ∙ ap (λ read. struct_words read (as_object value)) (named-fields fields)

-- ---- one reading after another

pub onto-onto : (xs ys : List ℕ) (reading : Reading) → onto xs (onto ys reading) ≡ onto (xs ++ ys) reading
onto-onto xs ys (Ok more) = ap Ok (sym (append_assoc xs ys more))
onto-onto xs ys (Err fault) = refl

pub onto-next : (old new : List ℕ) (reading rest : Reading) → onto old reading ≡ Ok new → onto old (then_by reading rest) ≡ onto new rest
onto-next old new (Ok words) rest done = onto-onto old words rest ∙ ap (λ ws. onto ws rest) (cc)
onto-next old new (Err fault) rest done = absurd (cc)

pub onto-next_under : (step old new : List ℕ) (reading rest : Reading) → onto old reading ≡ Ok new → onto old (then_by (under step reading) rest) ≡ onto new rest
onto-next_under step old new (Ok words) rest done = onto-next old new (Ok words) rest done
onto-next_under step old new (Err fault) rest done = absurd (cc)

pub stop-next : (why : Stop) (old : List ℕ) (reading rest : Reading) → IsStop why (onto old reading) → IsStop why (onto old (then_by reading rest))
stop-next (stop.Fault fault) old (Ok words) rest stopped = absurd (cc)
stop-next (stop.Fault fault) old (Err other) rest stopped = stopped
stop-next stop.Memory old reading rest stopped = tt

pub stop-next_under : (why : Stop) (step old : List ℕ) (reading rest : Reading) → IsStop why (under step (onto old reading)) → IsStop why (onto old (then_by (under step reading) rest))
stop-next_under (stop.Fault fault) step old (Ok words) rest stopped = absurd (cc)
stop-next_under (stop.Fault fault) step old (Err other) rest stopped = stopped
stop-next_under stop.Memory step old reading rest stopped = tt

pub stop-under : (why : Stop) (step old : List ℕ) (reading : Reading) → IsStop why (under step (onto old reading)) → IsStop why (onto old (under step reading))
stop-under (stop.Fault fault) step old (Ok words) stopped = absurd (cc)
stop-under (stop.Fault fault) step old (Err other) stopped = stopped
stop-under stop.Memory step old reading stopped = tt

-- ---- files

pub stop-no_object : (why : Stop) (role : Role) (ports : List Port) (members : Option Members) → IsStop why (object_reading members) → IsStop why (file_words role ports members)
stop-no_object why role ports None stopped = stopped
stop-no_object (stop.Fault fault) role ports (Some found) stopped = absurd (cc)
stop-no_object stop.Memory role ports (Some found) stopped = tt

is_not : (bytes : List ℕ) → (IsUtf8 bytes → ⊥) → (is : Bool) → is_utf8 bytes ≡ is → is_utf8 bytes ≡ false
is_not bytes other true e = absurd (other (IsUtf8-from_is_utf8 bytes e))
is_not bytes other false e = e

pub members_of_no_text : (bytes : List ℕ) → (IsUtf8 bytes → ⊥) → members_of_text bytes ≡ None
members_of_no_text bytes other = ap (λ is. if is then option_and_then as_object (read bytes) else None) (is_not bytes other (is_utf8 bytes) refl)

pub members_of_a_text : (bytes : List ℕ) → IsUtf8 bytes → members_of_text bytes ≡ option_and_then as_object (read bytes)
members_of_a_text bytes text = ap (λ is. if is then option_and_then as_object (read bytes) else None) (is_utf8-from_IsUtf8 bytes text)

-- ---- loops

pub fields_words_next : (fields : List F.Field) (i : ℕ) (d : F.Field) (members : Members) (old new : List ℕ) → i < length fields
    → onto old (wanted (words_at (F.out-Field (get_or fields i d)).shape) (get_member (F.out-Field (get_or fields i d)).name members)) ≡ Ok new
    → onto new (fields_words (map named (drop (i + 1) fields)) members) ≡ onto old (fields_words (map named (drop i fields)) members)
fields_words_next fields i d members old new less done =
    sym (onto-next_under (dotted (F.out-Field (get_or fields i d)).name) old new _ (fields_words (map named (drop (i + 1) fields)) members) done)
    ∙ sym (at_drop_more (λ fs. onto old (fields_words (map named fs) members)) fields i d less)

pub ports_words_next : (role : Role) (ports : List Port) (i : ℕ) (d : Port) (members : Members) (old new : List ℕ) → i < length ports
    → onto old (own_port role (get_or ports i d) members) ≡ Ok new
    → onto new (ports_words role (drop (i + 1) ports) members) ≡ onto old (ports_words role (drop i ports) members)
ports_words_next role ports i d members old new less done =
    sym (onto-next old new (own_port role (get_or ports i d) members) (ports_words role (drop (i + 1) ports) members) done)
    ∙ sym (at_drop_more (λ ps. onto old (ports_words role ps members)) ports i d less)

pub stop-ports : (why : Stop) (role : Role) (ports : List Port) (i : ℕ) (d : Port) (members : Members) (old : List ℕ) → i < length ports
    → IsStop why (onto old (own_port role (get_or ports i d) members)) → IsStop why (onto old (ports_words role (drop i ports) members))
stop-ports why role ports i d members old less stopped =
    subst (IsStop why) (sym (at_drop_more (λ ps. onto old (ports_words role ps members)) ports i d less)) (stop-next why old (own_port role (get_or ports i d) members) (ports_words role (drop (i + 1) ports) members) stopped)
