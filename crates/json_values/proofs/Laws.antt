-- A value is read exactly where it says words of its shape, and then as these; so is a text, and so are the texts of both parties.
use Rattle.std.proofs.Common.{◌≡◌, ℕ, suc, map, codes, ◌==◌, Bool, true, false, if◌then◌else◌, List, [], ◌∷◌, ◌++◌, Option, Some, None, Result, Ok, Err, inl, inr, subst, refl, sym, ap, ◌∙◌, append-nil, arith, rules}
use Rattle.hy_bits.specs.declared.turns.Role.{Role}
use Rattle.hy_bits.specs.declared.turns.Role.TheVariants.{P0, P1}
use Rattle.hy_bits.specs.declared.shape.Port.{Port}
use Rattle.hy_bits.specs.declared.shape.Shape as S
use Rattle.hy_bits.specs.declared.shape.Field as F
use Rattle.hy_bits.specs.declared.shape.Shape.TheVariants as V
use Rattle.serde_json.specs.Data.{Data, Items, no_items, item, Members}
use Rattle.serde_json.specs.Find.{get_member, as_array, as_object}
use Rattle.serde_json.specs.Events.{items_len}
use Rattle.json_values.specs.declared.fault.InputKind.TheVariants.{Shape as Unlike}
use Rattle.json_values.specs.declared.fault.InputFault.{InputFault}
use Rattle.json_values.specs.Walk.{fault_at, array_words, struct_words, named, Reading, under, then_by, wanted, dotted, place, items_words, fields_words, no_extra, names_of, extra, words_at}
use Rattle.hy_bits.specs.Ports.{is_of, ports_of}
use Rattle.json_values.specs.File.{members_of_text, file_words, in_file, after, merged, both_words, own_words, ports_words, port_words, all_words, names_of_role, of_role}
use Rattle.json_values.specs.Meaning.{Says, SayItems, SayFields, a_number, an_array, a_struct, all_items, next_item, all_fields, next_field, field_names, HasPort, HasPorts, IsText, AreTexts, IsFirstFault}
use Rattle.json_values.proofs.Extras.{only_from_no_extra, no_extra_from_only}
use Rattle.json_values.proofs.Induction.{EachField, by_shapes}
use Rattle.json_values.proofs.Numbers.{scalar_gives, scalar_reads}
use Rattle.json_values.proofs.Readings.{words_at_Array, words_at_Struct}

abbrev pub Both : Reading → Reading → List ℕ → Type 0
Both a b words = (first : List ℕ) × (rest : List ℕ) × (a ≡ Ok first) × (b ≡ Ok rest) × (words ≡ first ++ rest)

then_gives : (a b : Reading) (words : List ℕ) → then_by a b ≡ Ok words → Both a b words
then_gives (Ok first) (Ok rest) words e = (first, rest, refl, refl, sym (cc))
then_gives (Ok first) (Err fault) words e = absurd (cc)
then_gives (Err fault) b words e = absurd (cc)

then_from : (a b : Reading) (first rest : List ℕ) → a ≡ Ok first → b ≡ Ok rest → then_by a b ≡ Ok (first ++ rest)
then_from a b first rest e f = rw (e, f) refl

under_gives : (step : List ℕ) (reading : Reading) (words : List ℕ) → under step reading ≡ Ok words → reading ≡ Ok words
under_gives step (Ok more) words e = e
under_gives step (Err fault) words e = absurd (cc)

under_from : (step : List ℕ) (reading : Reading) (words : List ℕ) → reading ≡ Ok words → under step reading ≡ Ok words
under_from step reading words e = rw e refl

no_extra_gives : (found : Option (List ℕ)) (words : List ℕ) → no_extra found ≡ Ok words → (found ≡ None) × (words ≡ [])
no_extra_gives None words e = (refl, sym (cc))
no_extra_gives (Some name) words e = absurd (cc)

names_of_fields : (fields : List F.Field) → names_of (map named fields) ≡ field_names fields
names_of_fields [] = refl
names_of_fields (field ∷ fields) = ap (λ names. (F.out-Field field).name ∷ names) (names_of_fields fields)

-- ---- what says words is read as these

long_array : (count : ℕ) (element : Data → Reading) (items : Items) → items_len items ≡ count → array_words count element (Some items) ≡ items_words element 0 items
long_array count element items long = search (rules, arith)

mutual
  pub reads : (shape : S.Shape) (value : Data) (words : List ℕ) → Says shape value words → words_at shape value ≡ Ok words
  reads _ _ _ (a_number scalar value words is) = scalar_reads scalar value words is
  reads _ _ _ (an_array count element value items words array long say) =
      words_at_Array count element value ∙ ap (array_words count (words_at element)) array ∙ long_array count (words_at element) items long ∙ reads_items element 0 items words say
  reads _ _ _ (a_struct fields value found words object say only) =
      words_at_Struct fields value ∙ ap (struct_words (map named fields)) object
      ∙ then_from (fields_words (map named fields) found) (under (codes ".") (no_extra (extra (names_of (map named fields)) found))) words [] (reads_fields fields found words say)
      (ap (λ names. under (codes ".") (no_extra (extra names found))) (names_of_fields fields) ∙ ap (λ other. under (codes ".") (no_extra other)) (no_extra_from_only (field_names fields) found only))
      ∙ ap Ok (append-nil words)

  reads_items : (element : S.Shape) (i : ℕ) (items : Items) (words : List ℕ) → SayItems element items words → items_words (words_at element) i items ≡ Ok words
  reads_items _ i _ _ (all_items element) = refl
  reads_items _ i _ _ (next_item element value items first rest says say) =
      then_from (under (place i) (words_at element value)) (items_words (words_at element) (suc i) items) first rest (under_from (place i) (words_at element value) first (reads element value first says)) (reads_items element (suc i) items rest say)

  reads_fields : (fields : List F.Field) (found : Members) (words : List ℕ) → SayFields fields found words → fields_words (map named fields) found ≡ Ok words
  reads_fields _ _ _ (all_fields found) = refl
  reads_fields _ _ _ (next_field field fields found value first rest has says say) =
      let one = wanted (words_at (F.out-Field field).shape) (get_member (F.out-Field field).name found) in
      then_from (under (dotted (F.out-Field field).name) one) (fields_words (map named fields) found) first rest
      (under_from (dotted (F.out-Field field).name) one first (ap (wanted (words_at (F.out-Field field).shape)) has ∙ reads (F.out-Field field).shape value first says))
      (reads_fields fields found rest say)

-- ---- what is read says the words

-- whatever is read of the shape is said
abbrev pub IsSaid : S.Shape → Type 0
IsSaid shape = (value : Data) (words : List ℕ) → words_at shape value ≡ Ok words → Says shape value words

items_say : (element : S.Shape) → IsSaid element → (i : ℕ) (items : Items) (words : List ℕ) → items_words (words_at element) i items ≡ Ok words → SayItems element items words
items_say element said i no_items words e = subst (SayItems element no_items) (cc) (all_items element)
items_say element said i (item value items) words e =
    let both = then_gives (under (place i) (words_at element value)) (items_words (words_at element) (suc i) items) words e in
    subst (SayItems element (item value items)) (sym both.4)
    (next_item element value items both.0 both.1 (said value both.0 (under_gives (place i) (words_at element value) both.0 both.2)) (items_say element said (suc i) items both.1 both.3))

wanted_gives : (shape : S.Shape) (found : Option Data) (words : List ℕ) → wanted (words_at shape) found ≡ Ok words → (value : Data) × (found ≡ Some value) × (words_at shape value ≡ Ok words)
wanted_gives shape None words e = absurd (cc)
wanted_gives shape (Some value) words e = (value, refl, e)

fields_say : (fields : List F.Field) → EachField IsSaid fields → (found : Members) (words : List ℕ) → fields_words (map named fields) found ≡ Ok words → SayFields fields found words
fields_say [] said found words e = subst (SayFields [] found) (cc) (all_fields found)
fields_say (field ∷ fields) said found words e =
    let shape = (F.out-Field field).shape in
    let name = (F.out-Field field).name in
    let one = wanted (words_at shape) (get_member name found) in
    let both = then_gives (under (dotted name) one) (fields_words (map named fields) found) words e in
    let has = wanted_gives shape (get_member name found) both.0 (under_gives (dotted name) one both.0 both.2) in
    subst (SayFields (field ∷ fields) found) (sym both.4)
    (next_field field fields found has.0 both.0 both.1 has.1 (said.0 has.0 both.0 has.2) (fields_say fields said.1 found both.1 both.3))

array_at : (count : ℕ) (element : S.Shape) → IsSaid element → (value : Data) (words : List ℕ) (items : Items) (long : Bool) → as_array value ≡ Some items → (items_len items == count) ≡ long
    → (if long then items_words (words_at element) 0 items else fault_at Unlike []) ≡ Ok words → Says (V.Array count element) value words
array_at count element said value words items true array long e = an_array count element value items words array (search (rules, arith)) (items_say element said 0 items words e)
array_at count element said value words items false array long e = absurd (cc)

array_said : (count : ℕ) (element : S.Shape) → IsSaid element → (value : Data) (words : List ℕ) (found : Option Items) → as_array value ≡ found → array_words count (words_at element) found ≡ Ok words → Says (V.Array count element) value words
array_said count element said value words None is e = absurd (cc)
array_said count element said value words (Some items) is e = array_at count element said value words items (items_len items == count) is refl e

struct_said : (fields : List F.Field) → EachField IsSaid fields → (value : Data) (words : List ℕ) (object : Option Members) → as_object value ≡ object → struct_words (map named fields) object ≡ Ok words → Says (V.Struct fields) value words
struct_said fields said value words None is e = absurd (cc)
struct_said fields said value words (Some found) is e =
    let other = extra (names_of (map named fields)) found in
    let both = then_gives (fields_words (map named fields) found) (under (codes ".") (no_extra other)) words e in
    let no = no_extra_gives other both.1 (under_gives (codes ".") (no_extra other) both.1 both.3) in
    let same : words ≡ both.0 = both.4 ∙ ap (λ rest. both.0 ++ rest) no.1 ∙ append-nil both.0 in
    a_struct fields value found words is (fields_say fields said found words (both.2 ∙ ap Ok (sym same)))
    (only_from_no_extra (field_names fields) found (ap (λ names. extra names found) (sym (names_of_fields fields)) ∙ no.0))

-- what is read of a value is what it says
pub says : (shape : S.Shape) (value : Data) (words : List ℕ) → words_at shape value ≡ Ok words → Says shape value words
says = by_shapes IsSaid
    (λ scalar value words e. a_number scalar value words (scalar_gives scalar value words e))
    (λ count element said value words e. array_said count element said value words (as_array value) refl (sym (words_at_Array count element value) ∙ e))
    (λ fields said value words e. struct_said fields said value words (as_object value) refl (sym (words_at_Struct fields value) ∙ e))

-- ---- ports

port_says : (port : Port) (found : Members) (words : List ℕ) → port_words port found ≡ Ok words → HasPort port found words
port_says port found words e =
    let one = wanted (words_at port.shape) (get_member port.name found) in
    let has = wanted_gives port.shape (get_member port.name found) words (under_gives port.name one words e) in
    (has.0, has.1, says port.shape has.0 words has.2)

port_reads : (port : Port) (found : Members) (words : List ℕ) → HasPort port found words → port_words port found ≡ Ok words
port_reads port found words has =
    let one = wanted (words_at port.shape) (get_member port.name found) in
    under_from port.name one words (ap (wanted (words_at port.shape)) has.1 ∙ reads port.shape has.0 words has.2)

-- a port of the other party has no words

own_say_at : (own : Bool) (role : Role) (port : Port) (ports : List Port) (found : Members) (words : List ℕ)
    → ((rest : List ℕ) → ports_words role ports found ≡ Ok rest → HasPorts (λ port. found) (ports_of role ports) rest)
    → then_by (if own then port_words port found else Ok []) (ports_words role ports found) ≡ Ok words
    → HasPorts (λ port. found) (if own then port ∷ ports_of role ports else ports_of role ports) words
own_say_at true role port ports found words later e =
    let both = then_gives (port_words port found) (ports_words role ports found) words e in
    (both.0, both.1, port_says port found both.0 both.2, later both.1 both.3, both.4)
own_say_at false role port ports found words later e =
    let both = then_gives (Ok []) (ports_words role ports found) words e in
    let none : both.0 ≡ [] = cc in
    later words (both.3 ∙ ap Ok (sym (both.4 ∙ ap (λ first. first ++ both.1) none)))

own_say : (role : Role) (ports : List Port) (found : Members) (words : List ℕ) → ports_words role ports found ≡ Ok words → HasPorts (λ port. found) (ports_of role ports) words
own_say role [] found words e = sym (cc)
own_say role (port ∷ ports) found words e = own_say_at (is_of role port.role) role port ports found words (own_say role ports found) e

own_reads_at : (own : Bool) (role : Role) (port : Port) (ports : List Port) (found : Members) (words : List ℕ)
    → ((rest : List ℕ) → HasPorts (λ port. found) (ports_of role ports) rest → ports_words role ports found ≡ Ok rest)
    → HasPorts (λ port. found) (if own then port ∷ ports_of role ports else ports_of role ports) words
    → then_by (if own then port_words port found else Ok []) (ports_words role ports found) ≡ Ok words
own_reads_at true role port ports found words later has =
    then_from (port_words port found) (ports_words role ports found) has.0 has.1 (port_reads port found has.0 has.2) (later has.1 has.3) ∙ ap Ok (sym has.4)
own_reads_at false role port ports found words later has = then_from (Ok []) (ports_words role ports found) [] words refl (later words has)

own_reads : (role : Role) (ports : List Port) (found : Members) (words : List ℕ) → HasPorts (λ port. found) (ports_of role ports) words → ports_words role ports found ≡ Ok words
own_reads role [] found words has = ap Ok (sym has)
own_reads role (port ∷ ports) found words has = own_reads_at (is_of role port.role) role port ports found words (own_reads role ports found) has

-- the ports of both parties, each in its party's object

all_say : (ports : List Port) (a b : Members) (words : List ℕ) → all_words ports a b ≡ Ok words → HasPorts (λ port. of_role port.role a b) ports words
all_say [] a b words e = sym (cc)
all_say (port ∷ ports) a b words e =
    let both = then_gives (port_words port (of_role port.role a b)) (all_words ports a b) words e in
    (both.0, both.1, port_says port (of_role port.role a b) both.0 both.2, all_say ports a b both.1 both.3, both.4)

all_reads : (ports : List Port) (a b : Members) (words : List ℕ) → HasPorts (λ port. of_role port.role a b) ports words → all_words ports a b ≡ Ok words
all_reads [] a b words has = ap Ok (sym has)
all_reads (port ∷ ports) a b words has =
    then_from (port_words port (of_role port.role a b)) (all_words ports a b) has.0 has.1 (port_reads port (of_role port.role a b) has.0 has.2) (all_reads ports a b has.1 has.3) ∙ ap Ok (sym has.4)

-- some words
abbrev pub Some_words : (List ℕ → Type 0) → Type 0
Some_words P = (words : List ℕ) × P words

before : (object : Port → Members) (port : Port) (ports : List Port) → Some_words (HasPort port (object port)) → Some_words (HasPorts object ports) → Some_words (HasPorts object (port ∷ ports))
before object port ports first rest = (first.0 ++ rest.0, (first.0, rest.0, first.1, rest.1, refl))

own_of_a_at : (r : Role) (port : Port) (ports : List Port) (a b : Members) → port.role ≡ r → Some_words (HasPort port (of_role r a b)) → Some_words (HasPorts (λ port. a) (ports_of P0 ports))
    → Some_words (HasPorts (λ port. a) (if is_of P0 r then port ∷ ports_of P0 ports else ports_of P0 ports))
own_of_a_at P0 port ports a b is one later = before (λ port. a) port (ports_of P0 ports) one later
own_of_a_at P1 port ports a b is one later = later

own_of_a : (ports : List Port) (a b : Members) (words : List ℕ) → HasPorts (λ port. of_role port.role a b) ports words → Some_words (HasPorts (λ port. a) (ports_of P0 ports))
own_of_a [] a b words has = ([], refl)
own_of_a (port ∷ ports) a b words has = own_of_a_at port.role port ports a b refl (has.0, has.2) (own_of_a ports a b has.1 has.3)

own_of_b_at : (r : Role) (port : Port) (ports : List Port) (a b : Members) → Some_words (HasPort port (of_role r a b)) → Some_words (HasPorts (λ port. b) (ports_of P1 ports))
    → Some_words (HasPorts (λ port. b) (if is_of P1 r then port ∷ ports_of P1 ports else ports_of P1 ports))
own_of_b_at P0 port ports a b one later = later
own_of_b_at P1 port ports a b one later = before (λ port. b) port (ports_of P1 ports) one later

own_of_b : (ports : List Port) (a b : Members) (words : List ℕ) → HasPorts (λ port. of_role port.role a b) ports words → Some_words (HasPorts (λ port. b) (ports_of P1 ports))
own_of_b [] a b words has = ([], refl)
own_of_b (port ∷ ports) a b words has = own_of_b_at port.role port ports a b (has.0, has.2) (own_of_b ports a b has.1 has.3)

all_of_own_at : (r : Role) (port : Port) (ports : List Port) (a b : Members)
    → Some_words (HasPorts (λ port. a) (if is_of P0 r then port ∷ ports_of P0 ports else ports_of P0 ports))
    → Some_words (HasPorts (λ port. b) (if is_of P1 r then port ∷ ports_of P1 ports else ports_of P1 ports))
    → (Some_words (HasPorts (λ port. a) (ports_of P0 ports)) → Some_words (HasPorts (λ port. b) (ports_of P1 ports)) → Some_words (HasPorts (λ port. of_role port.role a b) ports))
    → Some_words (HasPort port (of_role r a b)) × Some_words (HasPorts (λ port. of_role port.role a b) ports)
all_of_own_at P0 port ports a b own_a own_b later = ((own_a.1.0, own_a.1.2), later (own_a.1.1, own_a.1.3) own_b)
all_of_own_at P1 port ports a b own_a own_b later = ((own_b.1.0, own_b.1.2), later own_a (own_b.1.1, own_b.1.3))

all_of_own : (ports : List Port) (a b : Members) → Some_words (HasPorts (λ port. a) (ports_of P0 ports)) → Some_words (HasPorts (λ port. b) (ports_of P1 ports)) → Some_words (HasPorts (λ port. of_role port.role a b) ports)
all_of_own [] a b own_a own_b = ([], refl)
all_of_own (port ∷ ports) a b own_a own_b =
    let both = all_of_own_at port.role port ports a b own_a own_b (all_of_own ports a b) in
    before (λ port. of_role port.role a b) port ports both.0 both.1

-- ---- a whole text

text_gives_at : (role : Role) (ports : List Port) (text words : List ℕ) (found : Option Members) → members_of_text text ≡ found → file_words role ports found ≡ Ok words → IsText role ports text words
text_gives_at role ports text words None is e = absurd (cc)
text_gives_at role ports text words (Some found) is e =
    let both = then_gives (ports_words role ports found) (no_extra (extra (names_of_role role ports) found)) words e in
    let no = no_extra_gives (extra (names_of_role role ports) found) both.1 both.3 in
    let same : words ≡ both.0 = both.4 ∙ ap (λ rest. both.0 ++ rest) no.1 ∙ append-nil both.0 in
    record { found = found; object = is; each = own_say role ports found words (both.2 ∙ ap Ok (sym same)); exactly = only_from_no_extra (names_of_role role ports) found no.0 }

-- what is read of a text is what the text says
pub text_gives : (role : Role) (ports : List Port) (text words : List ℕ) → own_words role ports text ≡ Ok words → IsText role ports text words
text_gives role ports text words e = text_gives_at role ports text words (members_of_text text) refl e

-- what a text says is read
pub text_from : (role : Role) (ports : List Port) (text words : List ℕ) → IsText role ports text words → own_words role ports text ≡ Ok words
text_from role ports text words said =
    ap (file_words role ports) said.object
    ∙ then_from (ports_words role ports said.found) (no_extra (extra (names_of_role role ports) said.found)) words [] (own_reads role ports said.found words said.each) (ap no_extra (no_extra_from_only (names_of_role role ports) said.found said.exactly))
    ∙ ap Ok (append-nil words)

refused : {words : List ℕ} {fault : InputFault} → Ok words ≡ Err fault → ⊥
refused e = absurd (cc)

-- a text that says words has no fault
pub text_refused : (role : Role) (ports : List Port) (text words : List ℕ) (fault : InputFault) → in_file role (own_words role ports text) ≡ Err fault → IsText role ports text words → ⊥
text_refused role ports text words fault e said = refused (ap (in_file role) (sym (text_from role ports text words said)) ∙ e)

-- ---- the texts of both parties

of_a : (ports : List Port) (a b words : List ℕ) → AreTexts ports a b words → Some_words (IsText P0 ports a)
of_a ports a b words said =
    let own = own_of_a ports said.of_a said.of_b words said.each in
    (own.0, record { found = said.of_a; object = said.object_a; each = own.1; exactly = said.exactly_a })

of_b : (ports : List Port) (a b words : List ℕ) → AreTexts ports a b words → Some_words (IsText P1 ports b)
of_b ports a b words said =
    let own = own_of_b ports said.of_a said.of_b words said.each in
    (own.0, record { found = said.of_b; object = said.object_b; each = own.1; exactly = said.exactly_b })

-- the words of both parties, in the order of all ports
pub texts_of_both : (ports : List Port) (a b words_a words_b : List ℕ) → IsText P0 ports a words_a → IsText P1 ports b words_b → Some_words (AreTexts ports a b)
texts_of_both ports a b words_a words_b said_a said_b =
    let all = all_of_own ports said_a.found said_b.found (words_a, said_a.each) (words_b, said_b.each) in
    (all.0, record { of_a = said_a.found; of_b = said_b.found; object_a = said_a.object; object_b = said_b.object; each = all.1; exactly_a = said_a.exactly; exactly_b = said_b.exactly })

-- what texts say is read
pub texts_from : (ports : List Port) (a b words : List ℕ) → AreTexts ports a b words → both_words ports a b ≡ Ok words
texts_from ports a b words said =
    let own_a = of_a ports a b words said in
    let own_b = of_b ports a b words said in
    ap (λ first. after (in_file P0 first) (after (in_file P1 (own_words P1 ports b)) (merged ports (members_of_text a) (members_of_text b)))) (text_from P0 ports a own_a.0 own_a.1)
    ∙ ap (λ second. after (in_file P1 second) (merged ports (members_of_text a) (members_of_text b))) (text_from P1 ports b own_b.0 own_b.1)
    ∙ ap (λ found. merged ports found (members_of_text b)) said.object_a
    ∙ ap (λ found. merged ports (Some said.of_a) found) said.object_b
    ∙ ap (in_file P0) (all_reads ports said.of_a said.of_b words said.each)

-- what both texts are, or the first fault
abbrev pub Answered : List Port → List ℕ → List ℕ → Result (List ℕ) InputFault → Type 0
Answered ports a b (Ok words) = AreTexts ports a b words
Answered ports a b (Err fault) = IsFirstFault ports a b fault

answered_b : (ports : List Port) (a b : List ℕ) (own_a : List ℕ) (read : Reading) → own_words P0 ports a ≡ Ok own_a → own_words P1 ports b ≡ read → Answered ports a b (after (in_file P1 read) (merged ports (members_of_text a) (members_of_text b)))
answered_b ports a b own_a (Ok own_b) is_a is_b =
    let said = texts_of_both ports a b own_a own_b (text_gives P0 ports a own_a is_a) (text_gives P1 ports b own_b is_b) in
    let all = ap (λ found. merged ports found (members_of_text b)) said.1.object_a ∙ ap (λ found. merged ports (Some said.1.of_a) found) said.1.object_b ∙ ap (in_file P0) (all_reads ports said.1.of_a said.1.of_b said.0 said.1.each) in
    subst (Answered ports a b) (sym all) said.1
answered_b ports a b own_a (Err fault) is_a is_b = inr ((own_a, text_gives P0 ports a own_a is_a), ap (in_file P1) is_b)

answered_a : (ports : List Port) (a b : List ℕ) (read : Reading) → own_words P0 ports a ≡ read → Answered ports a b (after (in_file P0 read) (after (in_file P1 (own_words P1 ports b)) (merged ports (members_of_text a) (members_of_text b))))
answered_a ports a b (Ok own_a) is = answered_b ports a b own_a (own_words P1 ports b) is refl
answered_a ports a b (Err fault) is = inl (ap (in_file P0) is)

answered : (ports : List Port) (a b : List ℕ) → Answered ports a b (both_words ports a b)
answered ports a b = answered_a ports a b (own_words P0 ports a) refl

-- what is read of both texts is what they say
pub texts_give : (ports : List Port) (a b words : List ℕ) → both_words ports a b ≡ Ok words → AreTexts ports a b words
texts_give ports a b words e = subst (Answered ports a b) e (answered ports a b)

-- a fault is the first of either text
pub first_fault : (ports : List Port) (a b : List ℕ) (fault : InputFault) → both_words ports a b ≡ Err fault → IsFirstFault ports a b fault
first_fault ports a b fault e = subst (Answered ports a b) e (answered ports a b)

-- texts that say words have no fault
pub texts_refused : (ports : List Port) (a b words : List ℕ) (fault : InputFault) → both_words ports a b ≡ Err fault → AreTexts ports a b words → ⊥
texts_refused ports a b words fault e said = refused (sym (texts_from ports a b words said) ∙ e)
