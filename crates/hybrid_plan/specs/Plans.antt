-- The plan of a bundle: its instructions over slots, and their numbers.
use Rattle.std.specs.Prelude.{◌≡◌, ℕ, List, map}
use Rattle.plan_figures.specs.declared.figures.Figures.{Figures}
use Rattle.plan_figures.specs.Figures.{figures_of}
use Rattle.plan_script.specs.Script.{Script}
use Rattle.plan_slots.specs.Renamed.{renamed, renamed_code, touches_of}
use Rattle.plan_slots.specs.Slotting.{IsSlotting}
use Rattle.share_core.specs.declared.instr.Instr.{Instr}

-- what contracts see of a plan: its instructions, the gates of its levels, the codes of its words at B and Y, how many slots they take, and how much
-- is sent and drawn
pub record Plan : Type 0 where
  pub instrs : List Instr
  pub gates : List Instr
  pub codes : List ℕ
  pub shares : ℕ
  pub figures : Figures

-- the instructions of the list `script`, over these slots
pub record IsOver (script : Script) (plan : Plan) (slots : List ℕ) : Type 0 where
  -- each share has a slot of its own while it is live, and there are no more slots than shares live at one instruction
  pub slotting : IsSlotting script.shares (touches_of script) slots plan.shares
  pub instrs : plan.instrs ≡ map (renamed slots) script.instrs
  pub gates : plan.gates ≡ map (renamed slots) script.gates
  pub codes : plan.codes ≡ map (renamed_code slots) script.codes
  -- how much is sent and drawn
  pub figures : plan.figures ≡ figures_of script.instrs script.gates

-- whichever slots they are
abbrev pub IsPlanOf : Script → Plan → Type 0
IsPlanOf script plan = (slots : List ℕ) × IsOver script plan slots
