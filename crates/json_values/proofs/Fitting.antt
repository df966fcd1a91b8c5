-- What is read fits the ports, and a party's own words are those of its leaves among all.
use Rattle.std.proofs.Common.{◌≡◌, ℕ, List, [], ◌∷◌, ◌++◌, Bool, true, false, Ok, length, replicate, refl, ap, ◌∙◌, subst, if◌then◌else◌}
use Rattle.std.specs.List.{flat_map}
use Rattle.std.proofs.lemmas.List.{length-replicate}
use Rattle.hy_bits.specs.declared.scalar.Scalar.{Scalar}
use Rattle.hy_bits.specs.declared.turns.Role.{Role}
use Rattle.hy_bits.specs.declared.turns.Role.TheVariants.{P0, P1}
use Rattle.hy_bits.specs.declared.shape.Port.{Port}
use Rattle.hy_bits.specs.declared.shape.Shape as S
use Rattle.hy_bits.specs.declared.shape.Field as F
use Rattle.hy_bits.specs.Shape.{leaves, leaves_of_ports, AreWordsOf, FitPorts}
use Rattle.hy_bits.specs.Ports.{is_of, ports_of, owners, own_of}
use Rattle.hy_bits.proofs.ShapeLaws.{leaves-Scalar, leaves-Array, leaves-Struct, length-AreWordsOf, AreWordsOf-append}
use Rattle.hy_bits.proofs.PortLaws.{own_of-append, own_of-replicate}
use Rattle.serde_json.specs.Data.{Data, Items, Members}
use Rattle.serde_json.specs.Events.{items_len}
use Rattle.json_values.specs.File.{of_role, own_words, both_words}
use Rattle.json_values.specs.Meaning.{Says, SayItems, SayFields, a_number, an_array, a_struct, all_items, next_item, all_fields, next_field, HasPort, HasPorts, IsText, AreTexts}
use Rattle.json_values.proofs.Laws.{text_gives, texts_give}

-- the leaves of an element, as often as there are items
abbrev of_items : Items → S.Shape → List Scalar
of_items items element = flat_map (λ of_element. of_element) (replicate (items_len items) (leaves element))

abbrev of_fields : List F.Field → List Scalar
of_fields = flat_map (λ field. leaves (F.out-Field field).shape)

mutual
  pub says_fit : (shape : S.Shape) (value : Data) (words : List ℕ) → Says shape value words → AreWordsOf (leaves shape) words
  says_fit _ _ _ (a_number scalar value words is) = rw (leaves-Scalar scalar, is.one) (is.fits, tt)
  says_fit _ _ _ (an_array count element value items words is long say) =
      rw leaves-Array (subst (λ (n : ℕ). AreWordsOf (flat_map (λ of_element. of_element) (replicate n (leaves element))) words) long (items_fit element items words say))
  says_fit _ _ _ (a_struct fields value found words is say only) = rw leaves-Struct (fields_fit fields found words say)

  items_fit : (element : S.Shape) (items : Items) (words : List ℕ) → SayItems element items words → AreWordsOf (of_items items element) words
  items_fit _ _ _ (all_items element) = tt
  items_fit _ _ _ (next_item element value rest first more says say) =
      AreWordsOf-append (leaves element) (of_items rest element) first more (says_fit element value first says) (items_fit element rest more say)

  fields_fit : (fields : List F.Field) (found : Members) (words : List ℕ) → SayFields fields found words → AreWordsOf (of_fields fields) words
  fields_fit _ _ _ (all_fields found) = tt
  fields_fit _ _ _ (next_field field rest found value first more is says say) =
      AreWordsOf-append (leaves (F.out-Field field).shape) (of_fields rest) first more (says_fit (F.out-Field field).shape value first says) (fields_fit rest found more say)

port_fits : (port : Port) (found : Members) (words : List ℕ) → HasPort port found words → AreWordsOf (leaves port.shape) words
port_fits port found words has = says_fit port.shape has.0 words has.2

ports_fit : (object : Port → Members) (ports : List Port) (words : List ℕ) → HasPorts object ports words → FitPorts ports words
ports_fit object [] words has = rw has tt
ports_fit object (port ∷ ports) words has =
    rw has.4 (AreWordsOf-append (leaves port.shape) (leaves_of_ports ports) has.0 has.1 (port_fits port (object port) has.0 has.2) (ports_fit object ports has.1 has.3))

pub text_fits : (role : Role) (ports : List Port) (text words : List ℕ) → IsText role ports text words → FitPorts (ports_of role ports) words
text_fits role ports text words is = ports_fit (λ port. is.found) (ports_of role ports) words is.each

pub texts_fit : (ports : List Port) (a b words : List ℕ) → AreTexts ports a b words → FitPorts ports words
texts_fit ports a b words are = ports_fit (λ port. of_role port.role are.of_a are.of_b) ports words are.each

-- ---- one party's among all

-- where the port is the party's its words come first
kept_port : (b : Bool) (object : Port → Members) (port : Port) (ports : List Port) (first rest : List ℕ) → (b ≡ true → HasPort port (object port) first) → HasPorts object ports rest → HasPorts object (if b then port ∷ ports else ports) ((if b then first else []) ++ rest)
kept_port true object port ports first rest has more = (first, rest, has refl, more, refl)
kept_port false object port ports first rest has more = more

own_ports : (role : Role) (object mine : Port → Members) (ports : List Port) (words : List ℕ) → ((port : Port) → is_of role port.role ≡ true → object port ≡ mine port) → HasPorts object ports words → HasPorts mine (ports_of role ports) (own_of role (owners ports) words)
own_ports role object mine [] words same has = refl
own_ports role object mine (port ∷ ports) words same has =
    let size = length-AreWordsOf (leaves port.shape) has.0 (port_fits port (object port) has.0 has.2) in
    let long : length (replicate (length (leaves port.shape)) port.role) ≡ length has.0 = length-replicate (length (leaves port.shape)) port.role ∙ size in
    let all : own_of role (owners (port ∷ ports)) words ≡ (if is_of role port.role then has.0 else []) ++ own_of role (owners ports) has.1 =
    ap (own_of role (owners (port ∷ ports))) has.4
    ∙ own_of-append role (replicate (length (leaves port.shape)) port.role) (owners ports) has.0 has.1 long
    ∙ ap (λ (ws : List ℕ). ws ++ own_of role (owners ports) has.1) (ap (λ (n : ℕ). own_of role (replicate n port.role) has.0) size ∙ own_of-replicate role port.role has.0) in
    rw all (kept_port (is_of role port.role) mine port (ports_of role ports) has.0 (own_of role (owners ports) has.1)
    (λ own. subst (λ (found : Members). HasPort port found has.0) (same port own) has.2)
    (own_ports role object mine ports has.1 same has.3))

of_a : (role : Role) (a b : Members) → is_of P0 role ≡ true → of_role role a b ≡ a
of_a P0 a b own = refl
of_a P1 a b own = absurd (cc)

of_b : (role : Role) (a b : Members) → is_of P1 role ≡ true → of_role role a b ≡ b
of_b P0 a b own = absurd (cc)
of_b P1 a b own = refl

pub own_text_a : (ports : List Port) (a b words : List ℕ) → AreTexts ports a b words → IsText P0 ports a (own_of P0 (owners ports) words)
own_text_a ports a b words are = record {
  found = are.of_a;
  object = are.object_a;
  each = own_ports P0 (λ port. of_role port.role are.of_a are.of_b) (λ port. are.of_a) ports words (λ port own. of_a port.role are.of_a are.of_b own) are.each;
  exactly = are.exactly_a;
}

pub own_text_b : (ports : List Port) (a b words : List ℕ) → AreTexts ports a b words → IsText P1 ports b (own_of P1 (owners ports) words)
own_text_b ports a b words are = record {
  found = are.of_b;
  object = are.object_b;
  each = own_ports P1 (λ port. of_role port.role are.of_a are.of_b) (λ port. are.of_b) ports words (λ port own. of_b port.role are.of_a are.of_b own) are.each;
  exactly = are.exactly_b;
}

-- ---- what the readers give

pub own_fits : (role : Role) (ports : List Port) (text words : List ℕ) → own_words role ports text ≡ Ok words → FitPorts (ports_of role ports) words
own_fits role ports text words is = text_fits role ports text words (text_gives role ports text words is)

pub both_fit : (ports : List Port) (a b words : List ℕ) → both_words ports a b ≡ Ok words → FitPorts ports words
both_fit ports a b words is = texts_fit ports a b words (texts_give ports a b words is)

pub both_own : (ports : List Port) (a b words : List ℕ) → both_words ports a b ≡ Ok words → IsText P0 ports a (own_of P0 (owners ports) words) × IsText P1 ports b (own_of P1 (owners ports) words)
both_own ports a b words is =
    let are = texts_give ports a b words is in
    (own_text_a ports a b words are, own_text_b ports a b words are)
