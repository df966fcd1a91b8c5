use Rattle.std.proofs.Common.{◌≡◌, Bool, true, ◌&&◌, List, length, sym, ap, ◌∙◌, arith}
use Rattle.std.proofs.lemmas.List.{length-map}
use Rattle.hy_bits.specs.Bits.{number, xor, bitwise}
use Rattle.gate_net.specs.Meaning.{value}
use Rattle.gate_net.proofs.GrowthLaws.{Grows-value, Grows-trans, Grows-then}
use Rattle.gate_net.specs.Spelled.{values}
use Rattle.gate_net.proofs.ListLaws.{equal_two, values-Grows}
use Rattle.div_blocks.specs.Division.{changed_bits, left_of}
use Rattle.div_blocks.proofs.RowLaws.{first-true, at_most-true, left-number}
use Rattle.div_blocks.proofs.rows.row.Goals as goal

pub returns-clause-digit : goal.returns-clause-digit
returns-clause-digit c = λ bits.
    Grows-value c.in_ok-left.ensures.grows bits c.in_ok-digit.digit c.in_ok-digit.ensures.stands
    ∙ c.in_ok-digit.ensures.value bits
    ∙ equal_two (λ x y. x && y) (c.in_ok-changes.ensures.fits bits) (Grows-value c.in_ok-changes.ensures.grows bits c.args.short c.requires.short)

pub returns-clause-left : goal.returns-clause-left
returns-clause-left c = λ bits.
    let n = c.args.net.now in
    let one = c.in_ok-changes.ensures.grows in
    let two = Grows-trans one c.in_ok-digit.ensures.grows in
    let xs : List Bool = values n bits c.args.whole.now in
    let ys : List Bool = values n bits c.args.low.now in
    let fits : Bool = value c.and.new.self bits c.in_ok-digit.digit in
    let known = rw c.deref.ensures.value at (c.in_ok-left.ensures.value bits) in
    let word : values c.and.new.self bits c.args.whole.now ≡ values n bits c.args.whole.now = values-Grows two bits c.args.whole.now c.requires.whole in
    let changes : values c.and.new.self bits c.in_ok-changes.changes.items ≡ changed_bits (values n bits c.args.whole.now) (values n bits c.args.low.now) =
    values-Grows c.in_ok-digit.ensures.grows bits c.in_ok-changes.changes.items c.in_ok-changes.ensures.stands.0 ∙ c.in_ok-changes.ensures.value bits in
    let same : length (values n bits c.args.whole.now) ≡ length (values n bits c.args.low.now) = length-map c.args.whole.now (value n bits) ∙ c.requires.same_length ∙ sym (length-map c.args.low.now (value n bits)) in
    let within = λ (e : value c.and.new.self bits c.in_ok-digit.digit ≡ true).
    at_most-true (number ys) (number xs) (sym (c.in_ok-changes.ensures.fits bits) ∙ first-true (value c.changes.new.net bits c.in_ok-changes.fits) (value c.changes.new.net bits c.args.short) (sym (c.in_ok-digit.ensures.value bits) ∙ e)) in
    ap number
    (known
    ∙ ap (λ (us : List Bool). bitwise (λ x y. xor x (fits && y)) us (values c.and.new.self bits c.in_ok-changes.changes.items)) word
    ∙ ap (λ (us : List Bool). bitwise (λ x y. xor x (fits && y)) xs us) changes)
    ∙ left-number fits xs ys same within
    ∙ ap (λ (b : Bool). left_of b (number xs) (number ys)) (sym (Grows-value c.in_ok-left.ensures.grows bits c.in_ok-digit.digit c.in_ok-digit.ensures.stands))

pub returns-clause-grows : goal.returns-clause-grows
returns-clause-grows c = Grows-then (Grows-trans c.in_ok-changes.ensures.grows c.in_ok-digit.ensures.grows) c.in_ok-left.ensures.grows (omega arith) (omega arith)
