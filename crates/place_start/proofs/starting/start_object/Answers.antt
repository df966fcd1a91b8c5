use Rattle.std.proofs.Common.{◌≡◌, false, rules}
use Rattle.word_nodes.specs.Nodes.{AllStand}
use Rattle.c_meaning.specs.SizeFolds.{is_pointer}
use Rattle.c_meaning.specs.Types.{kind_of}
use Rattle.cell_widths.specs.Widths.{widths_of}
use Rattle.place_start.proofs.StepLaws.{words-fit, words-layout, words-held}
use Rattle.place_start.proofs.starting.start_object.Goals as goal

pub returns-clause-fits : goal.returns-clause-fits
returns-clause-fits c =
    let plain : is_pointer (kind_of c.args.object.now.ctype) ≡ false = search rules in
    let stand : AllStand c.constants.new.graph (widths_of c.args.structs.now c.args.object.now.ctype) c.in_ok-constants.field-0.items = search rules in
    words-fit c.constants.new.graph c.args.structs.now c.args.object.now plain c.in_ok-constants.field-0 stand

pub returns-clause-layout : goal.returns-clause-layout
returns-clause-layout c =
    let plain : is_pointer (kind_of c.args.object.now.ctype) ≡ false = search rules in
    let stand : AllStand c.constants.new.graph (widths_of c.args.structs.now c.args.object.now.ctype) c.in_ok-constants.field-0.items = search rules in
    words-layout c.constants.new.graph c.args.structs.now c.args.object.now plain c.in_ok-constants.field-0 stand

pub returns-clause-value : goal.returns-clause-value
returns-clause-value c = λ ins fit.
    let plain : is_pointer (kind_of c.args.object.now.ctype) ≡ false = search rules in
    let stand : AllStand c.constants.new.graph (widths_of c.args.structs.now c.args.object.now.ctype) c.in_ok-constants.field-0.items = search rules in
    words-held c.constants.new.graph c.args.structs.now c.args.object.now plain c.in_ok-constants.field-0 stand ins (search rules)
