-- Leaves as far as they are counted, and their owners port by port.
use Rattle.std.proofs.Common.{◌≡◌, ℕ, zero, suc, ◌+◌, ◌*◌, ◌<◌, ◌≤◌, Bool, true, false, leb, min, List, [], ◌∷◌, ◌++◌, get_or, length, replicate, take, refl, sym, ap, ◌∙◌, arith, append_assoc}
use Rattle.std.specs.List.{flat_map}
use Rattle.std.proofs.lemmas.List.{append-nil, length-append, take_more}
use Rattle.hy_bits.specs.declared.scalar.Scalar.{Scalar}
use Rattle.hy_bits.specs.declared.shape.Field as F
use Rattle.hy_bits.specs.declared.shape.Port.{Port}
use Rattle.hy_bits.specs.declared.shape.Shape.{Shape}
use Rattle.hy_bits.specs.declared.shape.Shape.TheVariants as V
use Rattle.hy_bits.specs.Ports.{owners}
use Rattle.hy_bits.specs.Shape.{leaves}
use Rattle.hy_bits.proofs.ShapeLaws.{leaves-Array, leaves-Struct}
use Rattle.share_plan.specs.Leaves.{count_limit, field_leaves}

beyond : (n a most : ℕ) → most < a → min (n * most) most ≡ min (n * a) most
beyond zero a most above = omega arith
beyond (suc n) a most above = omega arith

capped-by : (t : Bool) (n a most : ℕ) → leb a most ≡ t → min (n * min a most) most ≡ min (n * a) most
capped-by true n a most e =
    let within : a ≤ most = grind arith in
    let low : min a most ≡ a = omega arith in
    ap (λ (x : ℕ). min (n * x) most) low
capped-by false n a most e =
    let above : most < a = grind arith in
    let high : min a most ≡ most = omega arith in
    ap (λ (x : ℕ). min (n * x) most) high ∙ beyond n a most above

capped : (n a most : ℕ) → min (n * min a most) most ≡ min (n * a) most
capped n a most = capped-by (leb a most) n a most refl

length-copies : (n : ℕ) (xs : List Scalar) → length (flat_map (λ of_element. of_element) (replicate n xs)) ≡ n * length xs
length-copies zero xs = omega arith
length-copies (suc n) xs = length-append xs (flat_map (λ of_element. of_element) (replicate n xs)) ∙ ap (λ (k : ℕ). length xs + k) (length-copies n xs) ∙ omega arith

pub array-count : (shape element : Shape) (count each : ℕ) → shape ≡ V.Array count element → each ≡ min (length (leaves element)) count_limit → min (count * each) count_limit ≡ min (length (leaves shape)) count_limit
array-count shape element count each is so =
    ap (λ (n : ℕ). min (count * n) count_limit) so ∙ capped count (length (leaves element)) count_limit ∙ ap (λ (n : ℕ). min n count_limit) (sym (length-copies count (leaves element)))
    ∙ ap (λ (xs : List Scalar). min (length xs) count_limit) (sym (leaves-Array count element)) ∙ ap (λ (s : Shape). min (length (leaves s)) count_limit) (sym is)

pub struct-count : (shape : Shape) (fields : List F.Field) (total : ℕ) → shape ≡ V.Struct fields → total ≡ min (length (field_leaves fields)) count_limit → total ≡ min (length (leaves shape)) count_limit
struct-count shape fields total is so =
    so ∙ ap (λ (xs : List Scalar). min (length xs) count_limit) (sym (leaves-Struct fields)) ∙ ap (λ (s : Shape). min (length (leaves s)) count_limit) (sym is)

owners-append : (ps : List Port) (p : Port) → owners (ps ++ p ∷ []) ≡ owners ps ++ replicate (length (leaves p.shape)) p.role
owners-append [] p = append-nil (replicate (length (leaves p.shape)) p.role)
owners-append (q ∷ ps) p =
    ap (λ xs. replicate (length (leaves q.shape)) q.role ++ xs) (owners-append ps p) ∙ sym (append_assoc (replicate (length (leaves q.shape)) q.role) (owners ps) (replicate (length (leaves p.shape)) p.role))

pub owners-more : (ports : List Port) (i : ℕ) (port : Port) → i < length ports → port ≡ get_or ports i port → owners (take (i + 1) ports) ≡ owners (take i ports) ++ replicate (length (leaves port.shape)) port.role
owners-more ports i port within is = ap owners (take_more ports i port within ∙ ap (λ (p : Port). take i ports ++ p ∷ []) (sym is)) ∙ owners-append (take i ports) port
