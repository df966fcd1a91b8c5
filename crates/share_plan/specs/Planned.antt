-- The list of instructions of a bundle: the offset, the inputs, the modules, the openings.
use Rattle.std.specs.Prelude.{List, Option, None, Some, length, replicate, slice_get}
use Rattle.std.specs.List.{fold}
use Rattle.hy_bits.specs.declared.op.Op.{Op}
use Rattle.hy_bits.specs.declared.op.Op.TheVariants.{In, Const}
use Rattle.hy_bits.specs.declared.width.Width.{Width}
use Rattle.hy_bits.specs.declared.width.Width.TheVariants.{W1}
use Rattle.hy_bits.specs.Ports.{owners}
use Rattle.word_graph.specs.declared.entry.Entry.{Entry}
use Rattle.word_graph.specs.declared.entry.Node.{Node}
use Rattle.word_graph.specs.Term.{width_at}
use Rattle.choice_core.specs.declared.sharings.Choice.{Choice}
use Rattle.choice_core.specs.declared.sharings.Sharing.{Sharing}
use Rattle.choice_core.specs.declared.sharings.Sharing.TheVariants.{Arithmetic, Boolean, Yao}
use Rattle.share_core.specs.declared.instr.InstrKind.{InstrKind}
use Rattle.share_core.specs.declared.instr.InstrKind.TheVariants.{Offset, OpenA, OpenB, OpenY}
use Rattle.bundle_core.specs.declared.parts.Parts.{Parts}
use Rattle.share_plan.specs.declared.held.Held.{Held}
use Rattle.plan_script.specs.Script.{Script, instr, no_script, put}
use Rattle.share_plan.specs.Held.{Work, held_at, not_held, place_in}
use Rattle.share_plan.specs.Inputs.{is_wanted, with_inputs}
use Rattle.share_plan.specs.Modules.{with_modules}

-- ---- openings: of the bound word and the output words in order, without constants. A result that is an input is opened from B, any other in the
-- sharing of the module that makes it

abbrev pub open_kind : Sharing → InstrKind
open_kind Arithmetic = OpenA
open_kind Boolean = OpenB
open_kind Yao = OpenY

abbrev pub opened_as : Op → (maker : Option Sharing) → Option Sharing
opened_as In maker = Some Boolean
opened_as Const maker = None
opened_as _ maker = maker

abbrev pub opened_in : Option Entry → (maker : Option Sharing) → Option Sharing
opened_in None maker = None
opened_in (Some e) maker = opened_as e.op maker

abbrev pub open_word : Option Sharing → Width → Held → Script → Script
open_word None w h s = s
open_word (Some sharing) w h s = put (instr (open_kind sharing) w (place_in sharing h) 0 0 0) s

-- the opening of a result
unfoldable pub with_opening : List Entry → List Held → Script → Node → Script
with_opening es held s node = open_word (opened_in (slice_get es node.index) (held_at held node.index).maker) (width_at es node.index) (held_at held node.index) s

abbrev pub with_openings : List Entry → List Node → Work → Script
with_openings es results work = fold (with_opening es work.held) work.script results

-- ---- the whole list

-- before the inputs: the offset, and no word that is held anywhere
abbrev pub begun : List Entry → Work
begun es = record { script = put (instr Offset W1 0 0 0 0) no_script; held = replicate (length es) not_held }

-- with inputs and modules
abbrev pub work_of : Parts → List Choice → Work
work_of b choices =
    with_modules b.graph b.modules.edges 0 b.modules.list b.variants choices (with_inputs (is_wanted b.modules.list choices b.results) b.graph (owners b.ports) (begun b.graph))

-- the list of instructions of a bundle's parts under these choices
abbrev pub script_of : Parts → List Choice → Script
script_of b choices = with_openings b.graph b.results (work_of b choices)
