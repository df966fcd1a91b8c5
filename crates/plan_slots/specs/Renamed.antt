-- Instructions over slots in the place of shares.
use Rattle.std.specs.Prelude.{ℕ, ◌+◌, ◌*◌, ◌%◌, List, map, nat_lt, get_or, if◌then◌else◌}
use Rattle.share_core.specs.declared.instr.Instr.{Instr}
use Rattle.share_core.specs.Instructions.{slot_of}
use Rattle.plan_script.specs.Script.{Script}
use Rattle.plan_slots.specs.declared.operands.Form.{Form}
use Rattle.plan_slots.specs.declared.operands.Form.TheVariants.{Nothing, Share, Code, Word, Block}
use Rattle.plan_slots.specs.Operands.{left_form, made_by, right_form, target_form, used_by}
use Rattle.plan_slots.specs.Lives.{Touch}

abbrev pub slot_at : List ℕ → ℕ → ℕ
slot_at slots s = get_or slots s 0

-- a code of the share's slot; constants stay
unfoldable pub renamed_code : List ℕ → ℕ → ℕ
renamed_code slots code = if nat_lt code 2 then code else 2 * slot_at slots (slot_of code) + 2 + code % 2

-- a number of an instruction; places of codes stay
abbrev pub renamed_number : List ℕ → Form → ℕ → ℕ
renamed_number slots Nothing n = n
renamed_number slots Share n = slot_at slots n
renamed_number slots Code n = renamed_code slots n
renamed_number slots Word n = n
renamed_number slots Block n = n

unfoldable pub renamed : List ℕ → Instr → Instr
renamed slots i = record i {
  left = renamed_number slots (left_form i.kind) i.left;
  right = renamed_number slots (right_form i.kind) i.right;
  target = renamed_number slots (target_form i.kind) i.target;
}

-- what each instruction of a list touches
abbrev pub touch_of : List Instr → List ℕ → Instr → Touch
touch_of gates codes i = record { made = made_by gates codes i; used = used_by gates codes i }

abbrev pub touches_of : Script → List Touch
touches_of script = map (touch_of script.gates script.codes) script.instrs
