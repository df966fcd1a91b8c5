use Rattle.std.proofs.Common.{◌≡◌, ◌<◌, Some, true, Bool, length, sym, ap, ◌∙◌, arith, rules}
use Rattle.std.proofs.lemmas.Option.{slice_get-get_or}
use Rattle.word_graph.proofs.EntryLaws.{Contains-slice_get}
use Rattle.c_place.specs.Aims.{places_of}
use Rattle.c_place.proofs.TargetLaws.{no_target}
use Rattle.c_place.proofs.TableLaws.{place-found, place-missed, place-within, apart-one, slice_get-places, slice_get-set}
use Rattle.c_place.proofs.choosing.take_partner.Goals as goal

pub returns-in_err-number-clause-all : goal.returns-in_err-number-clause-all
returns-in_err-number-clause-all c = λ apart j e.
    absurd (place-missed c.args.place (places_of c.args.others.now) c.args.table.now.entries c.requires.table (sym c.in_err-number.ensures.value) (Contains-slice_get _ j c.args.place e))

pub index-requires : goal.index-requires
index-requires c =
    let at = place-found c.args.place (places_of c.args.others.now) c.args.table.now.entries c.in_ok-number.field-0.now c.requires.table (sym c.in_ok-number.ensures.value) in
    omega (arith, c.requires.count, place-within c.args.others.now _ _ at)

pub returns-then-index-clause-all : goal.returns-then-index-clause-all
returns-then-index-clause-all c = λ apart j e.
    let n = c.in_ok-number.field-0.now in
    let at = place-found c.args.place (places_of c.args.others.now) c.args.table.now.entries n c.requires.table (sym c.in_ok-number.ensures.value) in
    let within : n < length c.args.taken.now.items = omega (arith, c.requires.count, place-within c.args.others.now _ _ at) in
    let same : j ≡ n = sym (apart-one _ n j c.args.place apart at e) in
    rw same (slice_get-get_or c.args.taken.now.items n c.index.result.now within ∙ ap (λ (b : Bool). Some b) (sym c.index.ensures ∙ c.if-index.true))

pub index_mut-requires : goal.index_mut-requires
index_mut-requires c =
    let at = place-found c.args.place (places_of c.args.others.now) c.args.table.now.entries c.in_ok-number.field-0.now c.requires.table (sym c.in_ok-number.ensures.value) in
    omega (arith, c.requires.count, place-within c.args.others.now _ _ at)

pub offset_bounds-others-number : goal.offset_bounds-others-number
offset_bounds-others-number c =
    let at = place-found c.args.place (places_of c.args.others.now) c.args.table.now.entries c.in_ok-number.field-0.now c.requires.table (sym c.in_ok-number.ensures.value) in
    let within = place-within c.args.others.now _ _ at in
    omega (arith, within)

pub bounds-others-number : goal.bounds-others-number
bounds-others-number c =
    let at = place-found c.args.place (places_of c.args.others.now) c.args.table.now.entries c.in_ok-number.field-0.now c.requires.table (sym c.in_ok-number.ensures.value) in
    place-within c.args.others.now _ _ at

pub returns-clause-partner : goal.returns-clause-partner
returns-clause-partner c =
    let n = c.in_ok-number.field-0.now in
    let at = place-found c.args.place (places_of c.args.others.now) c.args.table.now.entries n c.requires.table (sym c.in_ok-number.ensures.value) in
    let inside = place-within c.args.others.now _ _ at in
    let within : n < length c.args.taken.now.items = omega (arith, c.requires.count, inside) in
    let places = slice_get-places c.args.others.now n no_target inside in
    record {
      number = n;
      is = slice_get-get_or c.args.others.now n no_target inside;
      same = cc (places, at);
      free = slice_get-get_or c.args.taken.now.items n c.index.result.now within ∙ ap (λ (b : Bool). Some b) (sym c.index.ensures ∙ c.if-index.false);
      taken = search rules;
    }

pub returns-clause-all : goal.returns-clause-all
returns-clause-all c = λ apart j e.
    let n = c.in_ok-number.field-0.now in
    let at = place-found c.args.place (places_of c.args.others.now) c.args.table.now.entries n c.requires.table (sym c.in_ok-number.ensures.value) in
    let within : n < length c.args.taken.now.items = omega (arith, c.requires.count, place-within c.args.others.now _ _ at) in
    let same : j ≡ n = sym (apart-one _ n j c.args.place apart at e) in
    rw same (slice_get-set c.args.taken.now.items n true within)
